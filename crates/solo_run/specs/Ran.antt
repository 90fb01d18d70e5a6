-- How Solo ran on threads: as a run of its network.
use Rattle.std.specs.Prelude.{◌≡◌, ◌⊎◌, ℕ, List, [], ◌∷◌, ◌++◌, Option, None}
use Rattle.solo_base.specs.declared.outcome.Outcome.TheVariants as outcome
use Rattle.solo_base.specs.declared.outcome.Cause.TheVariants as cause
use Rattle.solo_devices.specs.CardUnit.{items_ahead, bytes_total}
use Rattle.place_law.specs.Process.{place, caused}
use Rattle.place_law.specs.Ending.{HasEndedSo}
use Rattle.solo_law.specs.Work.{Given, Work, Plan}
use Rattle.solo_law.specs.Devices.{Devices}
use Rattle.solo_law.specs.JobPlaces.{job, Toils}
use Rattle.solo_law.specs.Replies.{view}
use Rattle.solo_law.specs.Told.{begun}
use Rattle.solo_law.specs.Solo.{table, SoloState, IsReached, IsProcess}
use Rattle.solo_law.specs.Holds.{IsBuffer}
use Rattle.solo_ends.specs.declared.units.SoloUnits.{SoloUnits}
use Rattle.solo_ends.specs.declared.units.SoloRan.{SoloRan}
use Rattle.solo_ends.specs.Ends.{outcome_at, stopped_at}
use Rattle.solo_threads.specs.Threads.{HaveMet}
use Rattle.solo_run.specs.Job.{JobWorld}

-- ---- what it begins with
-- what these units tell, with a plan or none
abbrev pub told_by : {S Y K T F : Type 0} → (S → Option (List ℕ)) → (Y → Option (List ℕ))
    → (K → Option (List ℕ)) → (T → Option (List ℕ)) → SoloUnits S Y K T F → Option Plan → Devices
told_by cards_left keys_left paper_given console_given units plan = record {
  cards = items_ahead (cards_left units.cards.source) units.cards.pending;
  keys = items_ahead (keys_left units.typewriter.keys.source) units.typewriter.keys.pending;
  paper = paper_given units.paper.sink;
  console = console_given units.typewriter.console.sink;
  work = plan;
}

-- ---- the files
-- In a state that is reached the job process is at a piece of work, and in its middle memory was refused.
pub record BrokenOff {F : Type 0} (devices : Devices) (passes : List Given → F → Type 0) (now : F)
    : Type 0 where
  pub state : SoloState
  pub reached : IsReached devices state
  pub work : Work
  pub free : caused view job (state.histories 2) ≡ None
  pub at : place job (state.histories 2) ≡ Toils work
  pub passed : passes (begun (state.histories 2) ++ work.given ∷ []) now

-- The files are some to which the work comes that began so.
abbrev pub HavePassed : {F : Type 0} → Devices → (List Given → F → Type 0) → List Given → F → Type 0
HavePassed devices passes givens now = passes givens now ⊎ BrokenOff devices passes now

-- ---- the run
-- In some order of events the network does the same: it comes to a state in which each process has ended so,
-- both ends of each buffer have met, and the devices are told as they are now. Where the job process is done
-- its work led to these files; where no call on them failed they are some to which it comes.
pub record IsRunOf {S Y K T F : Type 0} (left : S → Option (List ℕ)) (w : JobWorld Y T F)
    (given : K → Option (List ℕ)) (units : SoloUnits S Y K T F) (plan : Option Plan) (ran : SoloRan S Y K T F)
    : Type 0 where
  pub state : SoloState
  pub reached : IsReached (told_by left w.left given w.given units plan) state
  pub ended : (p : ℕ) → IsProcess p → HasEndedSo table state p (outcome_at ran.outcomes p)
  pub met : (b : ℕ) → IsBuffer b → HaveMet state.histories b (stopped_at ran.stopped_by b)
  pub cards : state.devices.cards ≡ items_ahead (left ran.units.cards.source) ran.units.cards.pending
  pub keys : state.devices.keys
      ≡ items_ahead (w.left ran.units.typewriter.keys.source) ran.units.typewriter.keys.pending
  pub paper : state.devices.paper ≡ given ran.units.paper.sink
  pub console : state.devices.console ≡ w.given ran.units.typewriter.console.sink
  pub led : outcome_at ran.outcomes 2 ≡ outcome.Done
      → w.leads units.files (begun (state.histories 2)) ran.units.files
  pub passed : (outcome_at ran.outcomes 2 ≡ outcome.Fault cause.DiskFault → ⊥)
      → HavePassed (told_by left w.left given w.given units plan) (w.passes units.files)
      (begun (state.histories 2)) ran.units.files

-- No byte of the cards or of the keys is lost.
pub record LosesNothing {S Y K T F : Type 0} (cards_taken : S → ℕ) (cards_left : S → Option (List ℕ))
    (keys_taken : Y → ℕ) (keys_left : Y → Option (List ℕ)) (units : SoloUnits S Y K T F)
    (ran : SoloRan S Y K T F) : Type 0 where
  pub cards : bytes_total (cards_taken ran.units.cards.source) (cards_left ran.units.cards.source)
      ≡ bytes_total (cards_taken units.cards.source) (cards_left units.cards.source)
  pub keys : bytes_total (keys_taken ran.units.typewriter.keys.source)
      (keys_left ran.units.typewriter.keys.source)
      ≡ bytes_total (keys_taken units.typewriter.keys.source) (keys_left units.typewriter.keys.source)
