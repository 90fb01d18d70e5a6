-- The card process: what became of a deck that is read in the course of a history, and of its side of the
-- line buffer.
use Rattle.std.specs.Prelude.{◌≡◌, ◌≢◌, ◌≤◌, ◌<◌, ◌↔◌, ℕ, true, false, List, [], ◌∷◌, ◌++◌, Option, None, Some}
use Rattle.solo_base.specs.declared.item.Item.{Item}
use Rattle.solo_devices.specs.declared.card_read.CardRead.{CardRead}
use Rattle.solo_devices.specs.declared.card_read.CardRead.TheVariants as read
use Rattle.solo_devices.specs.Count.{Rose}
use Rattle.solo_devices.specs.CardUnit.{Held, GivesNext, items_ahead, item_of, byte_limit, bytes_total, IsAllTaken}
use Rattle.batch_procs.specs.declared.actions.Action.{Action}
use Rattle.batch_procs.specs.declared.actions.Action.TheVariants as act
use Rattle.batch_procs.specs.declared.actions.Reply.{Reply}
use Rattle.batch_procs.specs.declared.actions.Reply.TheVariants as reply
use Rattle.batch_procs.specs.History.{Entry, Does, LacksMemory, Delays}
use Rattle.batch_procs.specs.Causes.{caused}
use Rattle.core_law.specs.Core.{items_by}
use Rattle.page_codec.specs.Items.{AreItems}
use Rattle.monitor_gate.specs.Calls.{after_call}
use Rattle.resource_mon.specs.Seats.{Pass}
use Rattle.slot_buffer.specs.declared.call.SlotCall.TheVariants as slot
use Rattle.slot_buffer.specs.Calls.{has_stop}
use Rattle.solo_base.specs.declared.outcome.Side.TheVariants.{Sender}
use Rattle.batch_sides.specs.declared.card_side.CardSide.{CardSide}
use Rattle.batch_sides.specs.Calls.{line_calls}

-- the items that were read of the deck
abbrev pub cards_read : {L : Type 0} → List (Entry L) → List Item
cards_read [] = []
cards_read (Does act.ReadCard r ∷ h) = cards_read h ++ items_by r
cards_read (Does action r ∷ h) = cards_read h
cards_read (LacksMemory action r ∷ h) = cards_read h
cards_read (Delays action ∷ h) = cards_read h

-- the newest answer of the deck, if it was read
abbrev pub newest_read : {L : Type 0} → List (Entry L) → Option CardRead
newest_read [] = None
newest_read (Does act.ReadCard (reply.Card answer) ∷ h) = Some answer
newest_read (Does action r ∷ h) = newest_read h
newest_read (LacksMemory action r ∷ h) = newest_read h
newest_read (Delays action ∷ h) = newest_read h

-- By what it was at first: its items are those that were read and those that are ahead, and its end came
-- where none is left. A failure was counted, and the limit comes where too many bytes were taken and nowhere
-- else. What was taken and what is left are all that it had.
pub record DeckRan {L S : Type 0} (left : S → Option (List ℕ)) (taken faults : S → ℕ) (start now : Held S)
    (h : List (Entry L)) : Type 0 where
  pub reads : (items : List Item) → items_ahead (left start.source) start.pending ≡ Some items →
      (rest : List Item) × (items_ahead (left now.source) now.pending ≡ Some rest)
      × (items ≡ cards_read h ++ rest)
      × (newest_read h ≡ Some read.End → rest ≡ [])
  pub all : newest_read h ≡ Some read.End → IsAllTaken (left now.source)
  pub counts : faults start.source ≤ faults now.source
  pub failed : newest_read h ≡ Some read.Failed → Rose (faults start.source) (faults now.source)
  pub limit : newest_read h ≡ Some read.Limit → byte_limit < taken now.source
  pub longer : taken start.source ≤ byte_limit → byte_limit < taken now.source
      → newest_read h ≡ Some read.Limit
  pub total : bytes_total (taken now.source) (left now.source)
      ≡ bytes_total (taken start.source) (left start.source)
  pub live : caused h ≡ None → now.live ≡ true

-- ---- the side of the card process
abbrev pub does_card : Action → Type 0
does_card act.ReadCard = Unit {0}
does_card (act.PutFeed feed) = Unit {0}
does_card (act.Stop b) = b ≡ 1
does_card (act.Ended how) = Unit {0}
does_card other = ⊥

-- an action that it may perform
abbrev pub CardMayMake : {S : Type 0} → CardSide S → Action → Type 0
CardMayMake c act.ReadCard = c.deck.live ≡ true
CardMayMake c (act.PutFeed feed) = (c.lines.gate ≡ c.gate.now) × (has_stop c.lines.calls ≡ false)
CardMayMake c (act.Stop b) = c.lines.gate ≡ c.gate.now
CardMayMake c (act.Ended how) = Unit {0}
CardMayMake c other = ⊥

-- The next item was read, or the end; a failure was counted, and the limit is told exactly where too many
-- bytes were taken.
pub record ReadsNextCard {S : Type 0} (left : S → Option (List ℕ)) (taken faults : S → ℕ) (old new : Held S)
    (answer : CardRead) : Type 0 where
  pub next : GivesNext (items_ahead (left old.source) old.pending) (items_ahead (left new.source) new.pending)
      answer
  pub items : AreItems (item_of answer)
  pub all_taken : answer ≡ read.End → IsAllTaken (left new.source)
  pub counts : faults old.source ≤ faults new.source
  pub failed : answer ≡ read.Failed → Rose (faults old.source) (faults new.source)
  pub limit : (answer ≡ read.Limit) ↔ (byte_limit < taken new.source)
  pub live : answer ≢ read.Failed → answer ≢ read.Limit → new.live ≡ true
  pub total : bytes_total (taken new.source) (left new.source) ≡ bytes_total (taken old.source)
      (left old.source)

-- and what it made of its side, by what was answered
abbrev pub CardMade : {L S : Type 0} → (S → Option (List ℕ)) → (S → ℕ) → (S → ℕ) → CardSide S → Option Pass
    → CardSide S
    → Option Pass → Action → Reply L → Type 0
CardMade left taken faults old had new has act.ReadCard (reply.Card answer) =
    (new ≡ record old { deck = new.deck }) × (has ≡ had)
    × ReadsNextCard left taken faults old.deck new.deck answer
CardMade left taken faults old had new has (act.PutFeed feed) reply.Done =
    (new ≡ record old { lines = after_call old.lines (slot.Put feed) }) × (has ≡ had)
CardMade left taken faults old had new has (act.PutFeed feed) reply.Stopped =
    (new ≡ record old { lines = after_call old.lines (slot.PutRefused feed) }) × (has ≡ had)
CardMade left taken faults old had new has (act.Stop b) reply.Done =
    (new ≡ record old { lines = after_call old.lines (slot.Stop Sender) }) × (has ≡ had)
CardMade left taken faults old had new has (act.Ended how) reply.Done = (new ≡ old) × (has ≡ had)
CardMade left taken faults old had new has action r = ⊥

-- From its first action on: the line buffer has had the calls of the history at its sender's side, and the
-- deck was
-- read. It never has the disk.
pub record CardRan {L S : Type 0} (left : S → Option (List ℕ)) (taken faults : S → ℕ)
    (start now : CardSide S) (pass : Option Pass) (h : List (Entry L)) : Type 0 where
  pub gate : (start.gate.now ≡ now.gate.now) × (now.lines.gate ≡ now.gate.now)
  pub calls : now.lines.calls ≡ line_calls Sender 1 h
  pub deck : DeckRan left taken faults start.deck now.deck h
  pub none : pass ≡ None
