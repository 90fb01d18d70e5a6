-- What the input process does at its cards and buffers.
use Rattle.std.specs.Prelude.{◌≡◌, ◌⊎◌, ℕ, ◌==◌, if◌then◌else◌, true, List, Option}
use Rattle.solo_base.specs.declared.outcome.Side.TheVariants.{Sender, Receiver}
use Rattle.slot_buffer.specs.declared.call.SlotCall.TheVariants as slot
use Rattle.solo_procs.specs.declared.actions.SoloAction.{SoloAction}
use Rattle.solo_procs.specs.declared.actions.SoloAction.TheVariants as say
use Rattle.solo_procs.specs.declared.actions.SoloReply.{SoloReply}
use Rattle.solo_procs.specs.declared.actions.SoloReply.TheVariants as hear
use Rattle.solo_run.specs.declared.input_side.InputSide.{InputSide}
use Rattle.solo_devices.specs.CardUnit.{items_ahead}
use Rattle.exchange_law.specs.Parcels.{OfArg, OfPage}
use Rattle.place_law.specs.Process.{caused}
use Rattle.solo_law.specs.Replies.{view}
use Rattle.solo_law.specs.InputPlaces.{input}
use Rattle.solo_law.specs.Devices.{Devices}
use Rattle.solo_threads.specs.Threads.{Deed, entries, stood, AreAllowed}
use Rattle.solo_run.specs.Ends.{sent, took, SendsAt, TakesAt, MaySend, MayTake, HasSent, HasTaken}
use Rattle.solo_run.specs.Devices.{ReadsOne, ReadsRan}

-- an action that it may perform
abbrev pub InputMay : {S : Type 0} → InputSide S → SoloAction → Type 0
InputMay c (say.TakeArg b) = (b ≡ 1) × MayTake c.orders
InputMay c say.ReadCard = c.cards.live ≡ true
InputMay c (say.PutPage b page) = (b ≡ 2) × MaySend c.pages
InputMay c (say.PutArg b x) = (b ≡ 3) × MaySend c.reports
InputMay c (say.Stop b) =
    ((b ≡ 1) ⊎ ((b ≡ 2) ⊎ (b ≡ 3))) × TakesAt c.orders × SendsAt c.pages × SendsAt c.reports
InputMay c (say.Ended how) = Unit {0}
InputMay c other = ⊥

abbrev pub input_stopped : {S : Type 0} → ℕ → InputSide S → InputSide S
input_stopped b c =
    if b == 1 then record c { orders = took c.orders (slot.Stop Receiver) }
    else if b == 2 then record c { pages = sent c.pages (slot.Stop Sender) }
    else record c { reports = sent c.reports (slot.Stop Sender) }

-- and what it made of it, by what was answered
abbrev pub InputPerforms : {S : Type 0} → (S → Option (List ℕ)) → (S → ℕ) → (S → ℕ) → InputSide S
    → InputSide S → SoloAction → SoloReply → Type 0
InputPerforms left taken faults old new (say.TakeArg b) (hear.Arg x) =
    new ≡ record old { orders = took old.orders (slot.Take x) }
InputPerforms left taken faults old new (say.TakeArg b) hear.Stopped =
    new ≡ record old { orders = took old.orders slot.TakeRefused }
InputPerforms left taken faults old new say.ReadCard (hear.Card answer) =
    (new ≡ record old { cards = new.cards }) × ReadsOne left taken faults old.cards new.cards answer
InputPerforms left taken faults old new (say.PutPage b page) hear.Done =
    new ≡ record old { pages = sent old.pages (slot.Put page) }
InputPerforms left taken faults old new (say.PutPage b page) hear.Stopped =
    new ≡ record old { pages = sent old.pages (slot.PutRefused page) }
InputPerforms left taken faults old new (say.PutArg b x) hear.Done =
    new ≡ record old { reports = sent old.reports (slot.Put x) }
InputPerforms left taken faults old new (say.PutArg b x) hear.Stopped =
    new ≡ record old { reports = sent old.reports (slot.PutRefused x) }
InputPerforms left taken faults old new (say.Stop b) hear.Done = new ≡ input_stopped b old
InputPerforms left taken faults old new (say.Ended how) hear.Done = new ≡ old
InputPerforms left taken faults old new action reply = ⊥

-- ---- in the course of its deeds
-- what told cards are ahead
abbrev pub InputTold : {S : Type 0} → (S → Option (List ℕ)) → InputSide S → Devices → Type 0
InputTold left side d = d.cards ≡ items_ahead (left side.cards.source) side.cards.pending

-- From its first deed on: its three buffers had the calls of its history, and told cards allowed it and stand
-- behind it.
pub record InputRan {S : Type 0} (left : S → Option (List ℕ)) (taken faults : S → ℕ) (start now : InputSide S)
    (deeds : List Deed) : Type 0 where
  pub orders : HasTaken OfArg 1 1 start.orders now.orders (entries deeds)
  pub pages : HasSent OfPage 1 2 start.pages now.pages (entries deeds)
  pub reports : HasSent OfArg 1 3 start.reports now.reports (entries deeds)
  pub cards : ReadsRan left taken faults start.cards now.cards (caused view input (entries deeds))
  pub told : (d : Devices) → InputTold left start d → AreAllowed d deeds × InputTold left now (stood d deeds)
