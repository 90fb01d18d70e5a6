-- What a step of a process is to the law.
use Rattle.std.specs.Prelude.{◌≡◌, ◌≤◌, ℕ, List, [], ◌∷◌, ◌++◌, Some}
use Rattle.solo_devices.specs.Count.{Rose}
use Rattle.network_run.specs.declared.stepped.Stepped.{Stepped}
use Rattle.network_law.specs.Acts.{is_delayed}
use Rattle.network_law.specs.Stepping.{stepped_so, is_again}
use Rattle.place_law.specs.Process.{Process, Does, action_of, next_action, went}
use Rattle.solo_law.specs.Work.{Given, Work, Plan}
use Rattle.solo_law.specs.Actions.{Action, Reply}
use Rattle.solo_law.specs.Actions as act
use Rattle.solo_law.specs.Buffers.{call}
use Rattle.solo_law.specs.Devices.{plan_behind}
use Rattle.solo_law.specs.JobPlaces.{job}
use Rattle.solo_law.specs.Replies.{view, Fits}
use Rattle.solo_law.specs.Solo.{SoloState, SoloEntry}
use Rattle.solo_procs.specs.Said.{is_end, said}
use Rattle.solo_net.specs.declared.shared.Shared.{Shared}
use Rattle.solo_net.specs.Actions.{SoloHasPlace, IsNoWork}
use Rattle.solo_net.specs.SixBuffers.{SoloBuffersStand}
use Rattle.solo_net.specs.Telling.{Tells}
use Rattle.solo_net.specs.Sharing.{SoloMayPerform, SoloEnters}

-- ---- no piece of work
-- A machine of this process stands for a history behind which it does this, and that may be performed.
pub record MayStep {S Y K T F : Type 0} (process : Process Action Reply) (Stands : List SoloEntry → Type 0)
    (shared : Shared S Y K T F) (p : ℕ) : Type 0 where
  pub history : List SoloEntry
  pub action : Action
  pub no_work : IsNoWork action
  pub stands : Stands history
  pub next : next_action view process history ≡ Some action
  pub may : SoloMayPerform shared p action

-- Behind a history behind which it does this, the machine stands for one entry more, and the answer says how
-- that went.
pub record Steps {S Y K T F : Type 0} (Stands : List SoloEntry → Type 0) (tells : Tells S Y K T)
    (old new : Shared S Y K T F) (p : ℕ) (action : Action) (history : List SoloEntry) (result : Stepped)
    : Type 0 where
  pub entry : SoloEntry
  pub told : (s : SoloState) → SoloBuffersStand old.buffers s.buffers → SoloHasPlace action
      → result ≡ stepped_so (is_delayed (went view entry)) (is_end (said action)) (is_again s (call p action))
  pub action_is : action_of entry ≡ action
  pub stands : Stands (entry ∷ history)
  pub enters : SoloEnters tells old new p action entry

-- ---- a piece of work
pub record IsAtWork (Stands : List SoloEntry → Type 0) : Type 0 where
  pub history : List SoloEntry
  pub work : Work
  pub stands : Stands history
  pub next : next_action view job history ≡ Some (act.Works work)

-- It came to a need, over told files to what these make of it, and the files may be worked on; or they failed
-- and counted it, or memory was refused.
abbrev pub ComesTo : {F : Type 0} → (F → Type 0) → (F → ℕ) → (Plan → Type 0) → (Plan → Type 0) → F → F
    → Work → Reply → Type 0
ComesTo sound faults old_plans new_plans old new work (act.Found need) = sound new
    × ((plan : Plan) → old_plans plan → (need ≡ plan [] work.given) × new_plans (plan_behind work.given plan))
ComesTo sound faults old_plans new_plans old new work act.Failed = Rose (faults old) (faults new)
ComesTo sound faults old_plans new_plans old new work reply = Unit {0}

-- Where it came to a need it led on; where memory was refused, it has come to some of its files.
abbrev pub LedTo : Reply → Type 0 → Type 0 → Type 0
LedTo (act.Found need) Follows Passes = Follows × Passes
LedTo act.NoMemory Follows Passes = Passes
LedTo reply Follows Passes = Unit {0}

pub record WorkSteps {C F : Type 0} (Stands : List SoloEntry → Type 0) (sound : F → Type 0) (faults : F → ℕ)
    (plans : C → F → Plan → Type 0) (follows : C → F → List Given → F → Type 0)
    (passes : F → List Given → F → Type 0) (was now : C) (old new : F) (history : List SoloEntry)
    (work : Work) : Type 0 where
  pub reply : Reply
  pub fits : Fits (act.Works work) reply
  pub stands : Stands (Does (act.Works work) reply ∷ history)
  pub comes : ComesTo sound faults (plans was old) (plans now new) old new work reply
  pub counts : faults old ≤ faults new
  -- from whichever files it began
  pub led : (opening : F) (before : List Given) → follows was opening before old
      → LedTo reply (follows now opening (before ++ work.given ∷ []) new)
      (passes opening (before ++ work.given ∷ []) new)
