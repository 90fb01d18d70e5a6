use Rattle.std.proofs.Common.{ap}
use Rattle.solo_procs.specs.declared.input_proc.InputAt.TheVariants as here
use Rattle.solo_procs.proofs.InputSteps.{input_done, input-done, stays-done}
use Rattle.solo_procs.proofs.input_proc.InputProcProc.done.Goals as goal

pub returns-in-PutsFull-clause-ready : goal.returns-in-PutsFull-clause-ready
returns-in-PutsFull-clause-ready c = input-done c.args.self.now.place here.Reads c.args.self.now.packer c.args.self.now.sound (ap input_done c.in-PutsFull.is)

pub returns-in-PutsLast-clause-ready : goal.returns-in-PutsLast-clause-ready
returns-in-PutsLast-clause-ready c = input-done c.args.self.now.place here.Reports c.args.self.now.packer c.args.self.now.sound (ap input_done c.in-PutsLast.is)

pub returns-in-Reports-clause-ready : goal.returns-in-Reports-clause-ready
returns-in-Reports-clause-ready c = input-done c.args.self.now.place here.AwaitsOrder c.args.self.now.packer c.args.self.now.sound
    (ap input_done c.in-Reports.is)

pub returns-in_default-clause-ready : goal.returns-in_default-clause-ready
returns-in_default-clause-ready c =
    input-done c.args.self.now.place c.args.self.now.place c.args.self.now.packer c.args.self.now.sound
    (stays-done c.args.self.now.place c.in_default.not-PutsFull c.in_default.not-PutsLast c.in_default.not-Reports)
