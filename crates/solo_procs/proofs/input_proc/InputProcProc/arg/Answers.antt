use Rattle.std.proofs.Common.{sym, ◌∙◌}
use Rattle.solo_procs.proofs.InputSteps.{input-nil, input-order}
use Rattle.solo_procs.proofs.input_proc.InputProcProc.arg.Goals as goal

pub returns-then-is_nil-clause-ready : goal.returns-then-is_nil-clause-ready
returns-then-is_nil-clause-ready c =
    input-nil c.args.arg c.args.self.now.place c.args.self.now.packer c.args.self.now.sound (sym c.is_nil.ensures ∙ c.if-is_nil.true)

pub returns-clause-ready : goal.returns-clause-ready
returns-clause-ready c =
    rw c.new-self.ensures.first (input-order c.args.arg c.args.self.now.place c.args.self.now.packer c.args.self.now.sound
    (sym c.is_nil.ensures ∙ c.if-is_nil.false))
