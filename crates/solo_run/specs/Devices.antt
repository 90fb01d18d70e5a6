-- One call of a device: what a read gave, and what a line gained.
use Rattle.std.specs.Prelude.{◌≡◌, ◌≢◌, ◌≤◌, ◌<◌, ◌↔◌, ℕ, true, List, Option, None, Some, Result, Ok, Err}
use Rattle.solo_base.specs.Text.{line_text}
use Rattle.solo_base.specs.declared.outcome.Outcome.{Outcome}
use Rattle.solo_base.specs.declared.outcome.Outcome.TheVariants as outcome
use Rattle.solo_base.specs.declared.outcome.Cause.{Cause}
use Rattle.solo_base.specs.declared.outcome.Cause.TheVariants as cause
use Rattle.solo_devices.specs.Count.{Rose}
use Rattle.solo_devices.specs.declared.card_read.CardRead.{CardRead}
use Rattle.solo_devices.specs.declared.card_read.CardRead.TheVariants as read
use Rattle.solo_devices.specs.CardUnit.{Held, GivesNext, IsAllTaken, items_ahead, byte_limit, bytes_total}
use Rattle.solo_devices.specs.PrinterUnit.{Printing, Gains}
use Rattle.solo_devices.specs.declared.printer_unit.PrintFault.{PrintFault}
use Rattle.solo_devices.specs.declared.printer_unit.PrintFault.TheVariants as fault
use Rattle.solo_law.specs.Replies.{IsLineRead}
use Rattle.solo_procs.specs.declared.actions.SoloReply.{SoloReply}
use Rattle.solo_procs.specs.declared.actions.SoloReply.TheVariants as hear

-- The next item was read, or the end; a failure was counted, and the limit is told exactly where too many
-- bytes were taken.
pub record ReadsOne {S : Type 0} (left : S → Option (List ℕ)) (taken faults : S → ℕ) (old new : Held S)
    (answer : CardRead) : Type 0 where
  pub next : GivesNext (items_ahead (left old.source) old.pending) (items_ahead (left new.source) new.pending)
      answer
  pub line : IsLineRead answer
  pub all_taken : answer ≡ read.End → IsAllTaken (left new.source)
  pub failed : answer ≡ read.Failed → Rose (faults old.source) (faults new.source)
  pub counts : faults old.source ≤ faults new.source
  pub limit : (answer ≡ read.Limit) ↔ (byte_limit < taken new.source)
  pub live : answer ≢ read.Failed → answer ≢ read.Limit → new.live ≡ true
  pub total : bytes_total (taken new.source) (left new.source) ≡ bytes_total (taken old.source) (left old.source)

-- how a line that was given or wasn't is answered
abbrev pub answered : Result (Unit {0}) PrintFault → SoloReply
answered (Ok done) = hear.Done
answered (Err fault.Failed) = hear.Failed
answered (Err fault.NoMemory) = hear.NoMemory

abbrev pub IsGiven : SoloReply → Type 0
IsGiven hear.Done = Unit {0}
IsGiven hear.Failed = Unit {0}
IsGiven hear.NoMemory = Unit {0}
IsGiven other = ⊥

-- A line was given whole, or a part of it where that failed; a failure was counted.
pub record GivesLine {K : Type 0} (given : K → Option (List ℕ)) (faults : K → ℕ) (old new : Printing K)
    (line : List ℕ) (reply : SoloReply) : Type 0 where
  pub replies : IsGiven reply
  pub gains : Gains (given old.sink) (given new.sink) (line_text line) (reply ≡ hear.Done)
  pub failed : reply ≡ hear.Failed → Rose (faults old.sink) (faults new.sink)
  pub counts : faults old.sink ≤ faults new.sink
  pub live : reply ≡ hear.Done → new.live ≡ true

-- ---- in the course of a history
-- The deck of a process, or the keys: a failure and the limit are causes of its own, and it may be read again
-- while there is none.
pub record ReadsRan {S : Type 0} (left : S → Option (List ℕ)) (taken faults : S → ℕ) (start now : Held S)
    (why : Option Outcome) : Type 0 where
  pub live : why ≡ None → now.live ≡ true
  pub failed : why ≡ Some (outcome.Fault cause.ReadFault) → Rose (faults start.source) (faults now.source)
  pub counts : faults start.source ≤ faults now.source
  pub limit : why ≡ Some (outcome.Fault cause.DeckLimit) → byte_limit < taken now.source
  pub longer : taken start.source ≤ byte_limit → byte_limit < taken now.source
      → why ≡ Some (outcome.Fault cause.DeckLimit)
  -- no byte of it is lost
  pub total : bytes_total (taken now.source) (left now.source)
      ≡ bytes_total (taken start.source) (left start.source)

-- The paper, or the console.
pub record LinesRan {K : Type 0} (faults : K → ℕ) (own : Cause) (start now : Printing K)
    (why : Option Outcome) : Type 0 where
  pub live : why ≡ None → now.live ≡ true
  pub failed : why ≡ Some (outcome.Fault own) → Rose (faults start.sink) (faults now.sink)
  pub counts : faults start.sink ≤ faults now.sink
