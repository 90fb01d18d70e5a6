-- What the output process does at its buffers and its paper.
use Rattle.std.specs.Prelude.{◌≡◌, ◌⊎◌, ℕ, ◌==◌, if◌then◌else◌, true, List, Option}
use Rattle.solo_base.specs.declared.outcome.Side.TheVariants.{Sender, Receiver}
use Rattle.slot_buffer.specs.declared.call.SlotCall.TheVariants as slot
use Rattle.solo_procs.specs.declared.actions.SoloAction.{SoloAction}
use Rattle.solo_procs.specs.declared.actions.SoloAction.TheVariants as say
use Rattle.solo_procs.specs.declared.actions.SoloReply.{SoloReply}
use Rattle.solo_procs.specs.declared.actions.SoloReply.TheVariants as hear
use Rattle.solo_run.specs.declared.output_side.OutputSide.{OutputSide}
use Rattle.solo_base.specs.declared.outcome.Cause.TheVariants as cause
use Rattle.exchange_law.specs.Parcels.{OfArg, OfPage}
use Rattle.place_law.specs.Process.{caused}
use Rattle.solo_law.specs.Replies.{view}
use Rattle.solo_law.specs.OutputPlaces.{output}
use Rattle.solo_law.specs.Devices.{Devices}
use Rattle.solo_threads.specs.Threads.{Deed, entries, stood, AreAllowed}
use Rattle.solo_run.specs.Ends.{sent, took, SendsAt, TakesAt, MaySend, MayTake, HasSent, HasTaken}
use Rattle.solo_run.specs.Devices.{GivesLine, LinesRan}

-- an action that it may perform
abbrev pub OutputMay : {K : Type 0} → OutputSide K → SoloAction → Type 0
OutputMay c (say.TakeArg b) = (b ≡ 4) × MayTake c.orders
OutputMay c (say.TakePage b) = (b ≡ 5) × MayTake c.pages
OutputMay c (say.Print line) = c.paper.live ≡ true
OutputMay c (say.PutArg b x) = (b ≡ 6) × MaySend c.reports
OutputMay c (say.Stop b) =
    ((b ≡ 4) ⊎ ((b ≡ 5) ⊎ (b ≡ 6))) × TakesAt c.orders × TakesAt c.pages × SendsAt c.reports
OutputMay c (say.Ended how) = Unit {0}
OutputMay c other = ⊥

abbrev pub output_stopped : {K : Type 0} → ℕ → OutputSide K → OutputSide K
output_stopped b c =
    if b == 4 then record c { orders = took c.orders (slot.Stop Receiver) }
    else if b == 5 then record c { pages = took c.pages (slot.Stop Receiver) }
    else record c { reports = sent c.reports (slot.Stop Sender) }

-- and what it made of it, by what was answered
abbrev pub OutputPerforms : {K : Type 0} → (K → Option (List ℕ)) → (K → ℕ) → OutputSide K → OutputSide K
    → SoloAction → SoloReply → Type 0
OutputPerforms given faults old new (say.TakeArg b) (hear.Arg x) =
    new ≡ record old { orders = took old.orders (slot.Take x) }
OutputPerforms given faults old new (say.TakeArg b) hear.Stopped =
    new ≡ record old { orders = took old.orders slot.TakeRefused }
OutputPerforms given faults old new (say.TakePage b) (hear.Page page) =
    new ≡ record old { pages = took old.pages (slot.Take page) }
OutputPerforms given faults old new (say.TakePage b) hear.Stopped =
    new ≡ record old { pages = took old.pages slot.TakeRefused }
OutputPerforms given faults old new (say.Print line) reply =
    (new ≡ record old { paper = new.paper }) × GivesLine given faults old.paper new.paper line reply
OutputPerforms given faults old new (say.PutArg b x) hear.Done =
    new ≡ record old { reports = sent old.reports (slot.Put x) }
OutputPerforms given faults old new (say.PutArg b x) hear.Stopped =
    new ≡ record old { reports = sent old.reports (slot.PutRefused x) }
OutputPerforms given faults old new (say.Stop b) hear.Done = new ≡ output_stopped b old
OutputPerforms given faults old new (say.Ended how) hear.Done = new ≡ old
OutputPerforms given faults old new action reply = ⊥

-- ---- in the course of its deeds
abbrev pub OutputTold : {K : Type 0} → (K → Option (List ℕ)) → OutputSide K → Devices → Type 0
OutputTold given side d = d.paper ≡ given side.paper.sink

-- From its first deed on: its three buffers had the calls of its history, and a told paper gained what its
-- deeds say.
pub record OutputRan {K : Type 0} (given : K → Option (List ℕ)) (faults : K → ℕ) (start now : OutputSide K)
    (deeds : List Deed) : Type 0 where
  pub orders : HasTaken OfArg 3 4 start.orders now.orders (entries deeds)
  pub pages : HasTaken OfPage 3 5 start.pages now.pages (entries deeds)
  pub reports : HasSent OfArg 3 6 start.reports now.reports (entries deeds)
  pub paper : LinesRan faults cause.PrintFault start.paper now.paper (caused view output (entries deeds))
  pub told : (d : Devices) → OutputTold given start d
      → AreAllowed d deeds × OutputTold given now (stood d deeds)
