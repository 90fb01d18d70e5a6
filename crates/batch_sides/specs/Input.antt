-- What the input process does at the line buffer 1, the spool 2 and the disk.
use Rattle.std.specs.Prelude.{◌≡◌, ◌⊎◌, ℕ, ◌==◌, if◌then◌else◌, true, false, List, Option}
use Rattle.solo_base.specs.declared.outcome.Side.TheVariants.{Sender, Receiver}
use Rattle.monitor_gate.specs.Calls.{after_call}
use Rattle.slot_buffer.specs.declared.call.SlotCall.TheVariants as slot
use Rattle.slot_buffer.specs.Calls as lines
use Rattle.resource_mon.specs.Seats.{Pass}
use Rattle.disk_spool.specs.declared.call.SpoolCall.TheVariants as spool
use Rattle.disk_spool.specs.Calls as spools
use Rattle.disk_spool.specs.Ends.{known}
use Rattle.batch_procs.specs.declared.actions.Action.{Action}
use Rattle.batch_procs.specs.declared.actions.Action.TheVariants as act
use Rattle.batch_procs.specs.declared.actions.Reply.{Reply}
use Rattle.batch_procs.specs.declared.actions.Reply.TheVariants as reply
use Rattle.batch_procs.specs.History.{Entry}
use Rattle.batch_sides.specs.declared.input_side.InputSide.{InputSide}
use Rattle.batch_sides.specs.Calls.{line_calls, spool_calls}
use Rattle.batch_sides.specs.Desks.{DeskRan, IsAt}

abbrev pub does_input : Action → Type 0
does_input act.TakeFeed = Unit {0}
does_input act.AwaitRoom = Unit {0}
does_input act.Request = Unit {0}
does_input (act.PutPage page) = Unit {0}
does_input act.Release = Unit {0}
does_input (act.Stop b) = (b ≡ 1) ⊎ (b ≡ 2)
does_input (act.Ended how) = Unit {0}
does_input other = ⊥

-- each end is one of its gate
abbrev pub InputEndsAtGates : {A : Type 0} → (A → ℕ) → InputSide A → Type 0
InputEndsAtGates size c =
    (c.cards.gate ≡ c.cards_gate.now) × (c.pages.gate ≡ known (size c.pages_gate.now.area) c.pages_gate.now)

-- an action that it may perform
abbrev pub InputMayMake : {A : Type 0} → (A → ℕ) → InputSide A → Option Pass → Action → Type 0
InputMayMake size c pass act.TakeFeed = InputEndsAtGates size c × (lines.has_stop c.cards.calls ≡ false)
InputMayMake size c pass act.AwaitRoom = InputEndsAtGates size c × (spools.has_stop c.pages.calls ≡ false)
InputMayMake size c pass act.Request = IsAt c.disk.now c.seat pass false
InputMayMake size c pass (act.PutPage page) = InputEndsAtGates size c
    × (spools.has_stop c.pages.calls ≡ false)
    × (spools.is_ready c.pages.calls ≡ true) × IsAt c.disk.now c.seat pass true
InputMayMake size c pass act.Release = IsAt c.disk.now c.seat pass true
InputMayMake size c pass (act.Stop b) = InputEndsAtGates size c × ((b ≡ 1) ⊎ (b ≡ 2))
InputMayMake size c pass (act.Ended how) = Unit {0}
InputMayMake size c pass other = ⊥

abbrev pub input_with_stop : {A : Type 0} → ℕ → InputSide A → InputSide A
input_with_stop b c =
    if b == 1 then record c { cards = after_call c.cards (slot.Stop Receiver) }
    else record c { pages = after_call c.pages (spool.Stop Sender) }

-- and what it made of its side and its pass, by what was answered
abbrev pub InputMade : {L A : Type 0} → InputSide A → Option Pass → InputSide A → Option Pass → Action
    → Reply L → Type 0
InputMade old had new has act.TakeFeed (reply.Feed feed) =
    (new ≡ record old { cards = after_call old.cards (slot.Take feed) }) × (has ≡ had)
InputMade old had new has act.TakeFeed reply.Stopped =
    (new ≡ record old { cards = after_call old.cards slot.TakeRefused }) × (has ≡ had)
InputMade old had new has act.AwaitRoom reply.Done =
    (new ≡ record old { pages = after_call old.pages (spool.Await Sender) }) × (has ≡ had)
InputMade old had new has act.AwaitRoom reply.Stopped =
    (new ≡ record old { pages = after_call old.pages (spool.AwaitRefused Sender) }) × (has ≡ had)
InputMade old had new has act.Request reply.Done =
    (new ≡ record old { seat = new.seat }) × (new.seat.number ≡ old.seat.number)
    × IsAt old.disk.now new.seat has true
InputMade old had new has (act.PutPage page) reply.Done =
    (new ≡ record old { pages = after_call old.pages (spool.Put page.0) }) × (has ≡ had)
InputMade old had new has (act.PutPage page) reply.Failed =
    (new ≡ record old { pages = after_call old.pages (spool.PutFailed page.0) }) × (has ≡ had)
InputMade old had new has act.Release reply.Done =
    (new ≡ record old { seat = new.seat }) × (new.seat.number ≡ old.seat.number)
    × IsAt old.disk.now new.seat has false
InputMade old had new has (act.Stop b) reply.Done = (new ≡ input_with_stop b old) × (has ≡ had)
InputMade old had new has (act.Ended how) reply.Done = (new ≡ old) × (has ≡ had)
InputMade old had new has action r = ⊥

-- From its first action on: each buffer has had the calls of the history at its side, and it has the disk or
-- not.
pub record InputRan {L A : Type 0} (size : A → ℕ) (start now : InputSide A) (pass : Option Pass)
    (h : List (Entry L)) : Type 0 where
  pub from_gate : (start.cards_gate.now ≡ now.cards_gate.now) × (now.cards.gate ≡ now.cards_gate.now)
  pub from_calls : now.cards.calls ≡ line_calls Receiver 1 h
  pub to_gate : (start.pages_gate.now ≡ now.pages_gate.now)
      × (now.pages.gate ≡ known (size now.pages_gate.now.area) now.pages_gate.now)
  pub to_calls : now.pages.calls ≡ spool_calls Sender 2 h
  pub disk : start.disk.now ≡ now.disk.now
  pub desk : DeskRan now.disk.now start.seat now.seat pass h
