-- What the actions and aims of the law are in the code, and what is read off them there.
use Rattle.std.specs.Prelude.{ℕ, ◌+◌, min, Bool, true, false, List, [], ◌∷◌}
use Rattle.solo_base.specs.declared.outcome.Cause.{Cause}
use Rattle.solo_base.specs.declared.outcome.Cause.TheVariants as cause
use Rattle.solo_base.specs.declared.outcome.Outcome.TheVariants as outcome
use Rattle.batch_procs.specs.declared.round.Step.{Step}
use Rattle.batch_procs.specs.declared.round.Step.TheVariants as step
use Rattle.twin_law.specs.Process.{Action, Aim}
use Rattle.twin_law.specs.Process as law
use Rattle.twin_law.specs.Sides as sides
use Rattle.twin_procs.specs.declared.actions.TwinAction.{TwinAction}
use Rattle.twin_procs.specs.declared.actions.TwinAction.TheVariants as say
use Rattle.twin_procs.specs.declared.sides.TwinSide.{TwinSide}
use Rattle.twin_procs.specs.declared.sides.TwinSide.TheVariants as side

abbrev pub twin : TwinSide → sides.Twin
twin side.A = sides.A
twin side.B = sides.B

abbrev pub said : Action → TwinAction
said law.ReadCard = say.ReadCard
said (law.PutFeed b f) = say.PutFeed b f
said (law.TakeFeed b) = say.TakeFeed b
said (law.AwaitRoom b) = say.AwaitRoom b
said (law.AwaitItem b) = say.AwaitItem b
said law.Request = say.Request
said (law.PutPage b page) = say.PutPage b page
said (law.TakePage b) = say.TakePage b
said (law.Load file) = say.Load file
said law.Release = say.Release
said law.Local = say.Local
said (law.Print line) = say.Print line
said (law.Stop b) = say.Stop b
said (law.Ended how) = say.Ended how

-- An aim is said by the action that it comes to.
abbrev pub aimed : Aim → TwinAction
aimed law.Reads = say.ReadCard
aimed (law.PutsFeed b f) = say.PutFeed b f
aimed (law.TakesFeed b) = say.TakeFeed b
aimed (law.PutsPage b page) = say.PutPage b page
aimed (law.TakesPage b) = say.TakePage b
aimed (law.Loads file) = say.Load file
aimed law.Works = say.Local
aimed (law.Prints line) = say.Print line
aimed law.Finishes = say.Ended outcome.Done

-- a process works where no file is wanted
abbrev pub works_said : List (List ℕ) → TwinAction
works_said [] = say.Local
works_said (file ∷ later) = say.Load file

-- ---- on the way to an aim
abbrev pub begins_said : TwinAction → TwinAction
begins_said (say.PutPage b page) = say.AwaitRoom b
begins_said (say.TakePage b) = say.AwaitItem b
begins_said (say.Load file) = say.Request
begins_said other = other

abbrev pub moves_said : TwinAction → TwinAction
moves_said (say.PutPage b page) = say.PutPage b page
moves_said (say.TakePage b) = say.TakePage b
moves_said (say.Load file) = say.Load file
moves_said other = say.Release

abbrev pub makes_said : Step → TwinAction → TwinAction
makes_said step.Free aim = begins_said aim
makes_said step.Awaited aim = say.Request
makes_said step.Granted aim = moves_said aim
makes_said step.Moved aim = say.Release
makes_said step.Ended aim = begins_said aim

-- ---- behind an action
abbrev pub step_said : TwinAction → Step
step_said (say.AwaitRoom b) = step.Awaited
step_said (say.AwaitItem b) = step.Awaited
step_said say.Request = step.Granted
step_said (say.PutPage b page) = step.Moved
step_said (say.TakePage b) = step.Moved
step_said (say.Load file) = step.Moved
step_said (say.Ended how) = step.Ended
step_said other = step.Free

abbrev pub stops_said : ℕ → TwinAction → ℕ
stops_said n (say.Stop b) = min (n + 1) 255
stops_said n other = n

abbrev pub is_end_said : TwinAction → Bool
is_end_said (say.Ended how) = true
is_end_said other = false

-- whether the process goes on to another place where it is done
abbrev pub changes_said : TwinAction → Bool
changes_said (say.PutFeed b f) = true
changes_said (say.PutPage b page) = true
changes_said (say.Print line) = true
changes_said say.Local = true
changes_said other = false

-- the cause where its device failed
abbrev pub fault_said : TwinAction → Cause
fault_said (say.Print line) = cause.PrintFault
fault_said other = cause.DiskFault
