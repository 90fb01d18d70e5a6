-- What the five did side by side, and the run of the core that it is.
use Rattle.std.specs.Prelude.{◌≡◌, ℕ, List, Option}
use Rattle.solo_base.specs.declared.outcome.Side.{Side}
use Rattle.queue_var.specs.BetweenTwo.{WhoStopped}
use Rattle.batch_procs.specs.Jobs.{Jobs}
use Rattle.batch_procs.specs.History.{Entry}
use Rattle.batch_procs.specs.Table.{process}
use Rattle.network_law.specs.Acts.{made_stop, was_told}
use Rattle.replay_law.specs.Deeds.{Deed, entries, stood}
use Rattle.replay_law.specs.Meeting.{acts_by}
use Rattle.replay_law.specs.Replay.{Beside, SideBySide}
use Rattle.core_law.specs.Core.{Devices, core, CoreState, IsBuffer}
use Rattle.core_law.specs.Ends.{IsProcess}
use Rattle.core_law.specs.Opening.{Opening, devices_at, size_of, told_of}
use Rattle.core_law.specs.TheLaw.{IsReached}

-- over the devices and the spools of an opening
abbrev pub over : {L : Type 0} {J : Jobs L} → Opening J → (ℕ → List (Deed (Entry L))) → (ℕ → Option Side)
    → Beside (Devices L) (Entry L)
over opening deeds by = record {
  devices = devices_at opening;
  sizes = size_of opening.spools;
  told = told_of opening.spools;
  deeds = deeds;
  by = by;
}

-- Of each buffer this is the side that stopped it first: where none is named nobody did, one that is named
-- did, and only the other side was told so.
abbrev pub AreFirstStops : {L : Type 0} → Jobs L → CoreState L → (ℕ → Option Side) → Type 0
AreFirstStops J s by = (b : ℕ) → IsBuffer b
    → WhoStopped (λ side. made_stop b side (acts_by (core J (process J)) s.histories b side))
    (λ side. was_told b side (acts_by (core J (process J)) s.histories b side)) (by b)

-- A state with these five histories is reached, where the deck is as the card process left it, and the paper
-- as the printer did.
pub record IsARun {L : Type 0} {J : Jobs L} (opening : Opening J) (deeds : ℕ → List (Deed (Entry L)))
    (by : ℕ → Option Side) : Type 0 where
  pub state : CoreState L
  pub reached : IsReached opening state
  pub histories : (p : ℕ) → IsProcess p → state.histories p ≡ entries (deeds p)
  pub stopped : AreFirstStops J state by
  pub deck : state.devices.deck ≡ (stood (core J (process J)) (devices_at opening) (deeds 1)).deck
  pub paper : state.devices.paper ≡ (stood (core J (process J)) (devices_at opening) (deeds 5)).paper

abbrev pub FiveAreARun : {L : Type 0} → Jobs L → Type 0
FiveAreARun {L} J = (opening : Opening J) (deeds : ℕ → List (Deed (Entry L))) (by : ℕ → Option Side)
    → SideBySide (core J (process J)) IsBuffer (over opening deeds by) → IsARun opening deeds by
