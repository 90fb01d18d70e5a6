-- What the five share on one thread, and the states of the core that it stands for.
use Rattle.std.specs.Prelude.{◌≡◌, ◌≢◌, ◌<◌, ◌==◌, ℕ, Bool, true, false, List, [], length, Option, None, IsSome}
use Rattle.solo_base.specs.declared.outcome.Side.{Side}
use Rattle.solo_base.specs.declared.outcome.Side.TheVariants.{Sender, Receiver}
use Rattle.solo_devices.specs.CardUnit.{Held, bytes_total}
use Rattle.queue_var.specs.Sides.{Sides, MayEnter, MayStop, has_stopped}
use Rattle.resource_mon.specs.Claims.{MayRequest}
use Rattle.disk_spool.specs.Spool.{Spool}
use Rattle.batch_procs.specs.declared.actions.Action.{Action}
use Rattle.batch_procs.specs.declared.actions.Action.TheVariants as act
use Rattle.batch_procs.specs.declared.actions.Reply.{Reply}
use Rattle.batch_procs.specs.Jobs.{Jobs}
use Rattle.batch_procs.specs.Parcels.{is_last}
use Rattle.batch_procs.specs.History.{Entry}
use Rattle.network_law.specs.Network.{Fits, buffers_after, desk_after}
use Rattle.core_law.specs.Core.{Allows, given, call, went, side_at, CoreState}
use Rattle.core_law.specs.Work.{LeavesFewer}
use Rattle.core_law.specs.Replies.{entry_of, ReplyFits}
use Rattle.batch_ends.specs.Devices.{cards_left}
use Rattle.batch_ends.specs.Tells.{Tells, deck_ahead}
use Rattle.net_core.specs.declared.shared.Shared.{Shared}
use Rattle.net_core.specs.Lines.{LineStands}
use Rattle.net_core.specs.Spools.{SpoolStands}

-- how many bytes a source that tells them had in all
abbrev pub deck_total : {L S K F A B : Type 0} → Tells L S K F A B → Held S → Option ℕ
deck_total tells deck = bytes_total (tells.taken deck.source) (tells.left deck.source)

pub record SharedStands {L X S K F A B : Type 0} (tells : Tells L S K F A B) (shared : Shared X S K F A B)
    (s : CoreState L) : Type 0 where
  pub deck : s.devices.deck ≡ deck_ahead tells shared.deck
  pub paper : s.devices.paper ≡ tells.given shared.paper.sink
  pub files : s.devices.files ≡ tells.files shared.files
  pub cards : LineStands shared.cards (s.buffers 1)
  pub input : SpoolStands tells.input_pages shared.input (s.buffers 2)
  pub output : SpoolStands tells.output_pages shared.output (s.buffers 3)
  pub lines : LineStands shared.lines (s.buffers 4)
  pub desk : s.desk.claims ≡ shared.desk

-- ---- what a call asks for
abbrev pub WaitsAt : Sides → Side → ℕ → Type 0
WaitsAt sides side p = MayEnter sides side p × (has_stopped sides side ≡ false)

abbrev pub PutsAt : {A : Type 0} → Spool A → Type 0
PutsAt spool =
    MayStop spool.sides Sender × (length spool.ring.marks < spool.ring.capacity)
    × (has_stopped spool.sides Sender ≡ false)

abbrev pub TakesAt : {A : Type 0} → Spool A → Type 0
TakesAt spool =
    MayStop spool.sides Receiver × (spool.ring.marks ≢ []) × (has_stopped spool.sides Receiver ≡ false)

abbrev pub Choice : Bool → Type 0 → Type 0 → Type 0
Choice true X Y = X
Choice false X Y = Y

-- the first at the number m, the second at n, and nothing elsewhere
abbrev pub AtNumbers : ℕ → ℕ → ℕ → (ℕ → Type 0) → (ℕ → Type 0) → Type 0
AtNumbers p m n X Y = Choice (p == m) (X p) (Choice (p == n) (Y p) ⊥)

abbrev pub StopsAt : {X S K F A B : Type 0} → Shared X S K F A B → ℕ → Side → Type 0
StopsAt shared b side =
    Choice (b == 1) (MayStop shared.cards.sides side)
    (Choice (b == 2) (MayStop shared.input.sides side)
    (Choice (b == 3) (MayStop shared.output.sides side)
    (Choice (b == 4) (MayStop shared.lines.sides side) ⊥)))

abbrev pub MayPerform : {L X S K F A B : Type 0} → Tells L S K F A B → Shared X S K F A B → ℕ → Action
    → Type 0
MayPerform tells shared p act.ReadCard = shared.deck.live ≡ true
MayPerform tells shared p (act.PutFeed f) =
    AtNumbers p 1 4 (WaitsAt shared.cards.sides Sender) (WaitsAt shared.lines.sides Sender)
MayPerform tells shared p act.TakeFeed =
    AtNumbers p 2 5 (WaitsAt shared.cards.sides Receiver) (WaitsAt shared.lines.sides Receiver)
MayPerform tells shared p act.AwaitRoom =
    AtNumbers p 2 3 (WaitsAt shared.input.sides Sender) (WaitsAt shared.output.sides Sender)
MayPerform tells shared p act.AwaitItem =
    AtNumbers p 3 4 (WaitsAt shared.input.sides Receiver) (WaitsAt shared.output.sides Receiver)
MayPerform tells shared p act.Request = MayRequest shared.desk p × (length shared.desk.waiting < 5)
MayPerform tells shared p (act.PutPage page) =
    AtNumbers p 2 3 (λ p. PutsAt shared.input) (λ p. PutsAt shared.output)
MayPerform tells shared p act.TakePage =
    AtNumbers p 3 4 (λ p. TakesAt shared.input) (λ p. TakesAt shared.output)
MayPerform tells shared p (act.Load file) = tells.sound shared.files
MayPerform tells shared p act.Release = IsSome shared.desk.holder × (shared.desk.handed ≡ None)
MayPerform tells shared p act.Local = Unit {0}
MayPerform tells shared p (act.Print line) = shared.paper.live ≡ true
MayPerform tells shared p (act.Stop b) = StopsAt shared b (side_at p b)
MayPerform tells shared p (act.Ended how) = Unit {0}

-- ---- what a call does
-- It goes as the law allows in each state that is stood for, and what is shared stands for the state behind
-- it.
pub record Performs {L X S K F A B : Type 0} (J : Jobs L) (tells : Tells L S K F A B)
    (old new : Shared X S K F A B) (p : ℕ) (action : Action) (result : Option (Reply L)) : Type 0 where
  pub suits : ReplyFits J action result
  pub gained : List ℕ
  pub deck : LeavesFewer (entry_of action result) (cards_left tells.taken old.deck)
      (cards_left tells.taken new.deck)
  pub total : deck_total tells new.deck ≡ deck_total tells old.deck
  pub files : tells.pages new.files ≡ tells.pages old.files
  pub fits : (s : CoreState L) → SharedStands tells old s
      → Fits is_last s (call p action) (went (entry_of action result))
  pub allowed : (s : CoreState L) → SharedStands tells old s
      → Allows s.devices (entry_of action result) gained
  pub after : (s : CoreState L) (histories : ℕ → List (Entry L)) → SharedStands tells old s
      → SharedStands tells new record {
        devices = given s.devices (entry_of action result) gained;
        histories = histories;
        buffers = buffers_after is_last (call p action) p (went (entry_of action result)) s.buffers;
        desk = desk_after (call p action) p (went (entry_of action result)) s.desk;
      }
