use Rattle.std.proofs.Common.{List, [], ◌∷◌, arith}
use Rattle.solo_base.specs.Fits.{Fits}
use Rattle.solo_base.specs.declared.system_call.SysCall.{SysCall}
use Rattle.solo_base.specs.declared.system_call.SysReply.{SysReply}
use Rattle.prog_stack.specs.declared.frame.Frame.{Frame}
use Rattle.prog_stack.specs.Callers.{TopAsks, TopAwaits}
use Rattle.solo_tests.proofs.stack_runs.answer_device.Goals as goal

-- whose program asks for a call awaits each reply that fits
awaits : (call : SysCall) (reply : SysReply) (programs : List Frame) → TopAsks call programs → Fits call reply → TopAwaits reply programs
awaits call reply [] asks fits = absurd asks
awaits call reply (top ∷ below) asks fits = (call, asks, fits)

pub answer-requires : goal.answer-requires
answer-requires c = (
  omega arith,
  awaits c.args.call.now c.device_reply.result c.args.stack.now c.requires.asks c.device_reply.ensures,
)
