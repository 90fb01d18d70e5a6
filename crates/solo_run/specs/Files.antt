-- To which files the work of the job process has come.
use Rattle.std.specs.Prelude.{◌≡◌, ◌⊎◌, List, [], ◌∷◌, ◌++◌, None, Some}
use Rattle.solo_base.specs.declared.outcome.Outcome.TheVariants as outcome
use Rattle.solo_base.specs.declared.outcome.Cause.TheVariants as cause
use Rattle.place_law.specs.Process.{Does, place, caused}
use Rattle.solo_law.specs.Work.{Given, Work}
use Rattle.solo_law.specs.Actions.{Works, NoMemory}
use Rattle.solo_law.specs.JobPlaces.{job, Toils}
use Rattle.solo_law.specs.Replies.{view}
use Rattle.solo_law.specs.Told.{begun}
use Rattle.solo_law.specs.Solo.{SoloEntry}

-- Memory was refused in the middle of a piece of work, and the files are some to which it had come.
pub record RefusedWork {F : Type 0} (passes : List Given → F → Type 0) (now : F) (h : List SoloEntry)
    : Type 0 where
  pub later : List SoloEntry
  pub work : Work
  pub before : List SoloEntry
  pub is : h ≡ later ++ (Does (Works work) NoMemory ∷ before)
  pub free : caused view job before ≡ None
  pub at : place job before ≡ Toils work
  pub passed : passes (begun before ++ work.given ∷ []) now

-- They are those to which its work leads while it has no cause, and some to which it comes unless they
-- failed.
pub record FilesLed {F : Type 0} (leads passes : List Given → F → Type 0) (now : F) (h : List SoloEntry)
    : Type 0 where
  pub led : caused view job h ≡ None → leads (begun h) now
  pub passed : (caused view job h ≡ Some (outcome.Fault cause.DiskFault) → ⊥)
      → passes (begun h) now ⊎ RefusedWork passes now h
