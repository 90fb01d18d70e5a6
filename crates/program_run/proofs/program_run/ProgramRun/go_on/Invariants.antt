-- The steps so far lead from the beginning to here, and less is left.
use Rattle.program_run.proofs.Loop.{IsSoFar}
use Rattle.program_run.proofs.Steady.{left_in}
use Rattle.program_run.proofs.program_run.ProgramRun.go_on.Given as goal

abbrev pub invariant-going : goal.invariant-going
invariant-going g l =
    IsSoFar (g.A.Area.pages l.initial.files.area) l.initial.self l.initial.paper (g.A.Area.faults l.initial.files.area) l.self l.paper (g.A.Area.pages l.files.area)
    (g.A.Area.faults l.files.area) l.files.sound

abbrev pub decreases-going : goal.decreases-going
decreases-going g l = left_in l.self.programs
