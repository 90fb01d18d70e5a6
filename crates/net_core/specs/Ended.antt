-- How the network ended, once all five have.
use Rattle.std.specs.Prelude.{◌≡◌, ℕ, List, [], ◌∷◌, Option, Some}
use Rattle.solo_base.specs.declared.outcome.Side.{Side}
use Rattle.solo_base.specs.declared.outcome.Outcome.{Outcome}
use Rattle.queue_var.specs.Sides.{stopped_by}
use Rattle.network_run.specs.Law.{Placed, AllEnded}
use Rattle.batch_procs.specs.Faults.{GivenBy}
use Rattle.batch_procs.specs.Jobs.{Jobs}
use Rattle.batch_procs.specs.Laws.{IsNotDone}
use Rattle.core_law.specs.Core.{CoreState}
use Rattle.core_law.specs.Ends.{IsProcess, HasEndedSo}
use Rattle.core_law.specs.TheLaw.{the_law}
use Rattle.batch_ends.specs.declared.ends.Outcomes.{Outcomes}
use Rattle.batch_ends.specs.Ended.{outcome_at}

-- The value stands for some reached state in which all five have ended.
pub record HaveEnded {L : Type 0} (J : Jobs L) (Stands : CoreState L → Type 0) : Type 0 where
  pub at : Placed (the_law J) Stands
  pub all : AllEnded (the_law J) at.state

-- the sides that stopped the four buffers first
abbrev pub sides_of : {L : Type 0} → CoreState L → List (Option Side)
sides_of s =
    stopped_by (s.buffers 1).sides ∷ stopped_by (s.buffers 2).sides ∷ stopped_by (s.buffers 3).sides
    ∷ stopped_by (s.buffers 4).sides ∷ []

-- Each process ended so in this state, one that isn't done by an entry that gave it that cause, and the
-- buffers were first stopped by these sides.
pub record EndsSo {L : Type 0} (s : CoreState L) (outcomes : Outcomes) (stops : List (Option Side))
    : Type 0 where
  pub ended : (p : ℕ) → IsProcess p → HasEndedSo s (outcome_at outcomes p) p
  pub given : (p : ℕ) (how : Outcome) → IsProcess p → outcome_at outcomes p ≡ how → IsNotDone (Some how)
      → GivenBy (s.histories p) how
  pub first : stops ≡ sides_of s
