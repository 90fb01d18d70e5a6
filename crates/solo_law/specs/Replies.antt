-- Which replies an action of Solo may have, and which of them make a process stop.
use Rattle.std.specs.Prelude.{Option, None, Some}
use Rattle.solo_base.specs.Line.{IsLine}
use Rattle.solo_base.specs.declared.outcome.Outcome.{Outcome}
use Rattle.solo_base.specs.declared.outcome.Outcome.TheVariants as outcome
use Rattle.solo_base.specs.declared.outcome.Cause.{Cause}
use Rattle.solo_base.specs.declared.outcome.Cause.TheVariants as cause
use Rattle.solo_devices.specs.declared.card_read.CardRead.{CardRead}
use Rattle.solo_devices.specs.declared.card_read.CardRead.TheVariants as read
use Rattle.exchange_law.specs.Parcels.{Parcel}
use Rattle.place_law.specs.Process.{View, fault_in}
use Rattle.solo_law.specs.Work.{NeedFits}
use Rattle.solo_law.specs.Actions.{Action, Reply}
use Rattle.solo_law.specs.Actions as act
use Rattle.solo_law.specs.Buffers.{went_by}

-- what is read is a line
abbrev pub IsLineRead : CardRead → Type 0
IsLineRead (read.Card line) = IsLine line
IsLineRead other = Unit {0}

abbrev pub Fits : Action → Reply → Type 0
Fits act.Accept (act.OfCard answer) = IsLineRead answer
Fits act.ReadCard (act.OfCard answer) = IsLineRead answer
Fits (act.Display line) act.Done = Unit {0}
Fits (act.Display line) act.Failed = Unit {0}
Fits (act.Display line) act.NoMemory = Unit {0}
Fits (act.Print line) act.Done = Unit {0}
Fits (act.Print line) act.Failed = Unit {0}
Fits (act.Print line) act.NoMemory = Unit {0}
Fits (act.PutArg b a) act.Done = Unit {0}
Fits (act.PutArg b a) act.Stopped = Unit {0}
Fits (act.TakeArg b) (act.OfArg a) = Unit {0}
Fits (act.TakeArg b) act.Stopped = Unit {0}
Fits (act.PutPage b page) act.Done = Unit {0}
Fits (act.PutPage b page) act.Stopped = Unit {0}
Fits (act.TakePage b) (act.OfPage page) = Unit {0}
Fits (act.TakePage b) act.Stopped = Unit {0}
Fits (act.Works work) (act.Found need) = NeedFits need
Fits (act.Works work) act.Failed = Unit {0}
Fits (act.Works work) act.NoMemory = Unit {0}
Fits (act.Stop b) act.Done = Unit {0}
Fits (act.Ended how) act.Done = Unit {0}
Fits action reply = ⊥

-- a page of cards may come without the memory to keep its items
abbrev pub MayLack : Action → Reply → Type 0
MayLack (act.TakePage b) (act.OfPage page) = Unit {0}
MayLack action reply = ⊥

abbrev pub MayWait : Action → Type 0
MayWait (act.PutArg b a) = Unit {0}
MayWait (act.TakeArg b) = Unit {0}
MayWait (act.PutPage b page) = Unit {0}
MayWait (act.TakePage b) = Unit {0}
MayWait action = ⊥

-- ---- why a process stops
abbrev pub fault_at : Action → Cause
fault_at (act.Print line) = cause.PrintFault
fault_at (act.Display line) = cause.ConsoleFault
fault_at other = cause.DiskFault

abbrev pub fault_read : CardRead → Option Cause
fault_read read.Failed = Some cause.ReadFault
fault_read read.Limit = Some cause.DeckLimit
fault_read other = None

abbrev pub reply_cause : Action → Reply → Option Outcome
reply_cause action act.Stopped = Some outcome.Stopped
reply_cause action act.Failed = Some (outcome.Fault (fault_at action))
reply_cause action act.NoMemory = Some (outcome.Fault cause.NoMemory)
reply_cause action (act.OfCard answer) = fault_in (fault_read answer)
reply_cause action reply = None

abbrev pub ends_so : Action → Option Outcome
ends_so (act.Ended how) = Some how
ends_so action = None

abbrev pub view : View Action Reply Parcel
view = record {
  went = went_by;
  stop = λ b. act.Stop b;
  end = λ how. act.Ended how;
  ends = ends_so;
  cause = reply_cause;
  Fits = Fits;
  MayLack = MayLack;
  MayWait = MayWait;
}
