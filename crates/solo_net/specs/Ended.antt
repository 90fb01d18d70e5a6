-- How Solo ended, once all three have.
use Rattle.std.specs.Prelude.{◌≡◌, ℕ, List, Option, Some}
use Rattle.solo_base.specs.declared.outcome.Side.{Side}
use Rattle.solo_base.specs.declared.outcome.Side.TheVariants.{Sender, Receiver}
use Rattle.solo_base.specs.declared.outcome.Outcome.{Outcome}
use Rattle.solo_base.specs.declared.outcome.Outcome.TheVariants as outcome
use Rattle.queue_var.specs.Sides.{stopped_by}
use Rattle.network_run.specs.Law.{Placed, AllEnded}
use Rattle.network_law.specs.Kept.{StandsFor, passed}
use Rattle.exchange_law.specs.Parcels.{mark}
use Rattle.place_law.specs.Ending.{GivenBy, HasEndedSo}
use Rattle.solo_needs.specs.Needs.{Given}
use Rattle.solo_law.specs.Replies.{view}
use Rattle.solo_law.specs.Told.{begun}
use Rattle.solo_law.specs.Solo.{process, table, solo, SoloState, SoloEntry, IsProcess, the_law}
use Rattle.solo_law.specs.Holds.{IsBuffer}
use Rattle.solo_ends.specs.declared.units.SoloRan.{SoloRan}
use Rattle.solo_ends.specs.Ends.{outcome_at, stopped_at}
use Rattle.solo_net.specs.declared.net.SoloNet.{SoloNet}
use Rattle.solo_net.specs.Telling.{Tells}
use Rattle.solo_net.specs.Net.{CommandsOf, SoloNetStands, AreSome}

-- The files are some to which the work comes, where no call on them failed.
abbrev pub AreLedTo : {F S Y K T : Type 0} → (List Given → F → Type 0) → List SoloEntry → SoloRan S Y K T F
    → Type 0
AreLedTo passes h ran = AreSome passes (begun h) ran.units.files (Some (outcome_at ran.outcomes 2))

-- It stands for some reached state in which all three have ended.
pub record SoloHaveEnded {C F S Y K T : Type 0} (commands : CommandsOf C F) (tells : Tells S Y K T)
    (net : SoloNet C S Y K T F) : Type 0 where
  pub at : Placed the_law (SoloNetStands commands tells net)
  pub all : AllEnded the_law at.state

-- Each process ended so in this state, one that isn't done by an entry that gave it that cause. Each buffer
-- handed over in order, and was first stopped by this side.
pub record EndsSo (s : SoloState) (outcomes : List Outcome) (stops : List (Option Side)) : Type 0 where
  pub ended : (p : ℕ) → IsProcess p → HasEndedSo table s p (outcome_at outcomes p)
  pub given : (p : ℕ) (how : Outcome) → IsProcess p → outcome_at outcomes p ≡ how
      → (how ≡ outcome.Done → ⊥) → GivenBy view (process p) how (s.histories p)
  pub hands_over : (b : ℕ) → IsBuffer b
      → StandsFor mark (passed solo s b Sender) (passed solo s b Receiver) (s.buffers b)
  pub first : (b : ℕ) → IsBuffer b → stopped_at stops b ≡ stopped_by (s.buffers b).sides
