use Rattle.std.proofs.Common.{◌∙◌}
use Rattle.stack_machine.specs.Shown.{shown}
use Rattle.stack_machine.proofs.CallEffect.{call_effect}
use Rattle.stack_machine.proofs.state.Store.ask.Goals as goal

pub returns : goal.returns
returns c =
    let whole = call_effect c.args.code.now c.args.limit (shown c.args.self.now) c.args.instr.op c.args.instr.a c.args.instr.b c.requires in
    rw (c.uses_program.ensures, c.array_start.ensures) at c.sys.ensures ∙ whole
