use Rattle.std.proofs.Common.{sym, ◌∙◌}
use Rattle.solo_procs.proofs.OutputSteps.{output-nil, output-order}
use Rattle.solo_procs.proofs.output_proc.OutputProcProc.arg.Goals as goal

pub returns-then-is_nil-clause-ready : goal.returns-then-is_nil-clause-ready
returns-then-is_nil-clause-ready c =
    output-nil c.args.self.now.place c.args.self.now.pages c.args.self.now.items c.args.self.now.last c.args.arg
    (sym c.is_nil.ensures ∙ c.if-is_nil.true)

pub returns-clause-ready : goal.returns-clause-ready
returns-clause-ready c =
    output-order c.args.self.now.place c.args.self.now.pages c.args.self.now.items c.args.self.now.last c.args.arg
    (sym c.is_nil.ensures ∙ c.if-is_nil.false)
