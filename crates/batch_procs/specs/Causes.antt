-- Why a process stops: the first cause that an entry of its history gives it.
use Rattle.std.specs.Prelude.{ℕ, ◌%◌, ◌^◌, List, [], ◌∷◌, length, Option, None, Some, Result, Ok, Err}
use Rattle.solo_base.specs.declared.outcome.Outcome.{Outcome}
use Rattle.solo_base.specs.declared.outcome.Outcome.TheVariants as outcome
use Rattle.solo_base.specs.declared.outcome.Cause.{Cause}
use Rattle.solo_base.specs.declared.outcome.Cause.TheVariants as cause
use Rattle.solo_devices.specs.declared.card_read.CardRead.{CardRead}
use Rattle.solo_devices.specs.declared.card_read.CardRead.TheVariants as read
use Rattle.page_codec.specs.declared.judge.BadPage.{BadPage}
use Rattle.page_codec.specs.Reading.{PageContent, page_read}
use Rattle.batch_procs.specs.declared.actions.Action.{Action}
use Rattle.batch_procs.specs.declared.actions.Action.TheVariants as act
use Rattle.batch_procs.specs.declared.actions.Reply.{Reply}
use Rattle.batch_procs.specs.declared.actions.Reply.TheVariants as reply
use Rattle.batch_procs.specs.Parcels.{pages}
use Rattle.batch_procs.specs.History.{Entry, Does, LacksMemory, Delays, taken}

-- of a device that failed
abbrev pub fault_at : Action → Cause
fault_at (act.Print line) = cause.PrintFault
fault_at other = cause.DiskFault

-- of what was read of the deck
abbrev pub fault_read : CardRead → Option Outcome
fault_read (read.Card line) = None
fault_read read.Spoiled = None
fault_read read.End = None
fault_read read.Failed = Some (outcome.Fault cause.ReadFault)
fault_read read.Limit = Some (outcome.Fault cause.DeckLimit)

-- of a page that isn't the one that was expected
abbrev pub damage : Result PageContent BadPage → Option Outcome
damage (Ok content) = None
damage (Err bad) = Some (outcome.Fault (cause.Damaged bad.expected bad.found bad.at))

-- the place that the next page has in its stream: how many were taken before, modulo 65,536
abbrev pub place : {L : Type 0} → List (Entry L) → ℕ
place before = length (pages (taken before)) % 2 ^ 16

-- of an action with its reply, behind these entries
abbrev pub given_cause : {L : Type 0} → Action → Reply L → List (Entry L) → Option Outcome
given_cause action reply.Done before = None
given_cause action reply.Stopped before = Some outcome.Stopped
given_cause action reply.Failed before = Some (outcome.Fault (fault_at action))
given_cause action reply.NoMemory before = Some (outcome.Fault cause.NoMemory)
given_cause action (reply.Card answer) before = fault_read answer
given_cause action (reply.Feed f) before = None
given_cause action (reply.Page page last) before = damage (page_read (place before) last page)
given_cause action (reply.Loaded load) before = None

-- the earlier cause stays
abbrev pub or_new : Option Outcome → Option Outcome → Option Outcome
or_new None new = new
or_new (Some how) new = Some how

-- the first cause that an entry gave
abbrev pub caused : {L : Type 0} → List (Entry L) → Option Outcome
caused [] = None
caused (Does action reply ∷ before) = or_new (caused before) (given_cause action reply before)
caused (LacksMemory action reply ∷ before) = or_new (caused before) (Some (outcome.Fault cause.NoMemory))
caused (Delays action ∷ before) = caused before
