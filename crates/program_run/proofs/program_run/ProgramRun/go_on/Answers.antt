use Rattle.std.proofs.Common.{Option, ◌∙◌, ap}
use Rattle.file_commands.specs.declared.fault.CommandFault.{CommandFault}
use Rattle.program_run.specs.declared.progress.Progress.{Progress}
use Rattle.program_run.proofs.Loop.{begins, goes_on, falls, came, may_go_on, lacks, failed}
use Rattle.program_run.proofs.program_run.ProgramRun.go_on.Goals as goal

pub going-init : goal.going-init
going-init g c =
    begins (g.A.Area.pages c.args.files.now.area) c.args.self.now c.args.paper.now (g.A.Area.faults c.args.files.now.area) c.args.files.now.sound
    c.requires.under_way c.requires.sound

pub returns-in-Err-clause-came : goal.returns-in-Err-clause-came
returns-in-Err-clause-came g c =
    lacks (g.A.Area.pages c.args.files.now.area) (g.A.Area.pages c.going.files.area) (g.A.Area.pages c.step.new.files.area) c.args.self.now c.going.self c.step.new.self
    c.args.paper.now c.going.paper c.step.new.paper (g.A.Area.faults c.args.files.now.area) (g.A.Area.faults c.going.files.area) c.going.files.sound c.in-Err.fault
    c.going.invariant (λ e. c.step.ensures.left (c.in-Err.is ∙ ap (failed (Option Progress) CommandFault) e))

pub returns-in-Ok-Some-clause-came : goal.returns-in-Ok-Some-clause-came
returns-in-Ok-Some-clause-came g c =
    came (g.A.Area.pages c.args.files.now.area) (g.A.Area.pages c.going.files.area) (g.A.Area.pages c.step.new.files.area) c.args.self.now c.going.self c.step.new.self
    c.args.paper.now c.going.paper c.step.new.paper (g.A.Area.faults c.args.files.now.area) (g.A.Area.faults c.going.files.area) c.going.files.sound
    c.in-Ok-Some.field-0 c.in-Ok-Some.progress c.in-Ok-Some.field-0-is c.going.invariant c.in-Ok-Some.ensures.done

pub returns-in-Ok-Some-clause-may : goal.returns-in-Ok-Some-clause-may
returns-in-Ok-Some-clause-may g c =
    may_go_on (g.A.Area.pages c.going.files.area) (g.A.Area.pages c.step.new.files.area) c.going.self c.step.new.self c.going.paper c.step.new.paper
    c.in-Ok-Some.field-0 c.in-Ok-Some.progress c.in-Ok-Some.field-0-is c.going.invariant.under_way c.in-Ok-Some.ensures.done

pub going-smaller : goal.going-smaller
going-smaller g c =
    falls (g.A.Area.pages c.going.files.area) (g.A.Area.pages c.step.new.files.area) c.going.self c.step.new.self c.going.paper c.step.new.paper
    c.in-Ok-None.field-0 c.in-Ok-None.field-0-is c.going.invariant.under_way c.in-Ok-None.ensures.done

pub going-preserved : goal.going-preserved
going-preserved g c =
    goes_on (g.A.Area.pages c.args.files.now.area) (g.A.Area.pages c.going.files.area) (g.A.Area.pages c.step.new.files.area) c.args.self.now c.going.self c.step.new.self
    c.args.paper.now c.going.paper c.step.new.paper (g.A.Area.faults c.args.files.now.area) (g.A.Area.faults c.going.files.area) (g.A.Area.faults c.step.new.files.area)
    c.going.files.sound c.step.new.files.sound c.in-Ok-None.field-0 c.in-Ok-None.field-0-is c.going.invariant c.in-Ok-None.ensures.done
    c.in-Ok-None.ensures.sound c.in-Ok-None.ensures.cause
