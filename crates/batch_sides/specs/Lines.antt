-- The printer process: what became of the paper in the course of a history, and of its side of the line
-- buffer.
use Rattle.std.specs.Prelude.{◌≡◌, ◌≤◌, ℕ, true, false, List, [], ◌∷◌, ◌++◌, Option, None, Some}
use Rattle.solo_base.specs.Text.{line_text}
use Rattle.solo_devices.specs.Count.{Rose}
use Rattle.solo_devices.specs.PrinterUnit.{Printing}
use Rattle.solo_base.specs.Prefixes.{IsPrefixOf}
use Rattle.batch_procs.specs.declared.actions.Action.{Action}
use Rattle.batch_procs.specs.declared.actions.Action.TheVariants as act
use Rattle.batch_procs.specs.declared.actions.Reply.{Reply}
use Rattle.batch_procs.specs.declared.actions.Reply.TheVariants as reply
use Rattle.batch_procs.specs.History.{Entry, Does, LacksMemory, Delays}
use Rattle.batch_procs.specs.Causes.{caused}
use Rattle.batch_procs.specs.Jobs.{Jobs}
use Rattle.batch_ends.specs.Devices.{PrintsLine}
use Rattle.monitor_gate.specs.Calls.{after_call}
use Rattle.resource_mon.specs.Seats.{Pass}
use Rattle.slot_buffer.specs.declared.call.SlotCall.TheVariants as slot
use Rattle.slot_buffer.specs.Calls.{has_stop}
use Rattle.solo_base.specs.declared.outcome.Side.TheVariants.{Receiver}
use Rattle.batch_sides.specs.declared.printer_side.PrinterSide.{PrinterSide}
use Rattle.batch_sides.specs.Calls.{line_calls}

-- the text of the lines that were printed, and of the line that wasn't, where one failed
abbrev pub text_tried : {L : Type 0} → List (Entry L) → List ℕ
text_tried [] = []
text_tried (Does (act.Print line) r ∷ h) = text_tried h ++ line_text line
text_tried (Does action r ∷ h) = text_tried h
text_tried (LacksMemory action r ∷ h) = text_tried h
text_tried (Delays action ∷ h) = text_tried h

abbrev pub newest_print : {L : Type 0} → List (Entry L) → Option (Reply L)
newest_print [] = None
newest_print (Does (act.Print line) r ∷ h) = Some r
newest_print (Does action r ∷ h) = newest_print h
newest_print (LacksMemory action r ∷ h) = newest_print h
newest_print (Delays action ∷ h) = newest_print h

-- ---- what it gained by each entry
-- A line that was printed is gained whole, and of one that wasn't this part.
abbrev pub gained_by : {L : Type 0} → List ℕ → Entry L → List ℕ
gained_by part (Does (act.Print line) reply.Done) = line_text line
gained_by part (Does (act.Print line) r) = part
gained_by part entry = []

abbrev pub gained_in_all : {L : Type 0} → List ℕ → List (Entry L) → List ℕ
gained_in_all part [] = []
gained_in_all part (entry ∷ h) = gained_in_all part h ++ gained_by part entry

abbrev pub IsPartOf : {L : Type 0} → List ℕ → Entry L → Type 0
IsPartOf part (Does (act.Print line) reply.Done) = Unit {0}
IsPartOf part (Does (act.Print line) r) = IsPrefixOf part (line_text line)
IsPartOf part entry = Unit {0}

-- it is a part of each line that wasn't printed whole
abbrev pub ArePartsOf : {L : Type 0} → List ℕ → List (Entry L) → Type 0
ArePartsOf part [] = Unit {0}
ArePartsOf part (entry ∷ h) = IsPartOf part entry × ArePartsOf part h

-- By what it was at first: a told paper gained a part of what was tried, and all of it where nothing failed;
-- one that isn't told stays so. A failure was counted.
pub record PaperRan {L K : Type 0} (given : K → Option (List ℕ)) (faults : K → ℕ) (start now : Printing K)
    (h : List (Entry L)) : Type 0 where
  pub prints : (before : List ℕ) → given start.sink ≡ Some before →
      (gained : List ℕ) × (given now.sink ≡ Some (before ++ gained)) × IsPrefixOf gained (text_tried h)
      × (caused h ≡ None → gained ≡ text_tried h)
  -- each line that was printed, and of one that wasn't a part
  pub gave : (part : List ℕ) × ArePartsOf part h × ((before : List ℕ) → given start.sink ≡ Some before
      → given now.sink ≡ Some (before ++ gained_in_all part h))
  pub untold : given start.sink ≡ None → given now.sink ≡ None
  pub counts : faults start.sink ≤ faults now.sink
  pub failed : newest_print h ≡ Some reply.Failed → Rose (faults start.sink) (faults now.sink)
  pub live : caused h ≡ None → now.live ≡ true

-- ---- the side of the printer process
abbrev pub does_printer : Action → Type 0
does_printer act.TakeFeed = Unit {0}
does_printer (act.Print line) = Unit {0}
does_printer (act.Stop b) = b ≡ 4
does_printer (act.Ended how) = Unit {0}
does_printer other = ⊥

-- an action that it may perform
abbrev pub PrinterMayMake : {K : Type 0} → PrinterSide K → Action → Type 0
PrinterMayMake c act.TakeFeed = (c.lines.gate ≡ c.gate.now) × (has_stop c.lines.calls ≡ false)
PrinterMayMake c (act.Print line) = c.paper.live ≡ true
PrinterMayMake c (act.Stop b) = c.lines.gate ≡ c.gate.now
PrinterMayMake c (act.Ended how) = Unit {0}
PrinterMayMake c other = ⊥

-- A line was printed whole, or a part of it where that failed; a failure was counted.
pub record PrintsOne {L K : Type 0} (J : Jobs L) (given : K → Option (List ℕ)) (faults : K → ℕ)
    (old new : Printing K) (line : List ℕ) (r : Reply L) : Type 0 where
  pub prints : PrintsLine J (given old.sink) (given new.sink) line r
  pub failed : r ≡ reply.Failed → Rose (faults old.sink) (faults new.sink)
  pub counts : faults old.sink ≤ faults new.sink
  pub live : r ≡ reply.Done → new.live ≡ true

-- and what it made of its side, by what was answered
abbrev pub PrinterMade : {L K : Type 0} → Jobs L → (K → Option (List ℕ)) → (K → ℕ) → PrinterSide K
    → Option Pass → PrinterSide K → Option Pass → Action → Reply L → Type 0
PrinterMade J given faults old had new has act.TakeFeed (reply.Feed feed) =
    (new ≡ record old { lines = after_call old.lines (slot.Take feed) }) × (has ≡ had)
PrinterMade J given faults old had new has act.TakeFeed reply.Stopped =
    (new ≡ record old { lines = after_call old.lines slot.TakeRefused }) × (has ≡ had)
PrinterMade J given faults old had new has (act.Print line) r =
    (new ≡ record old { paper = new.paper }) × (has ≡ had)
    × PrintsOne J given faults old.paper new.paper line r
PrinterMade J given faults old had new has (act.Stop b) reply.Done =
    (new ≡ record old { lines = after_call old.lines (slot.Stop Receiver) }) × (has ≡ had)
PrinterMade J given faults old had new has (act.Ended how) reply.Done = (new ≡ old) × (has ≡ had)
PrinterMade J given faults old had new has action r = ⊥

-- From its first action on: the line buffer has had the calls of the history at its receiver's side, and the
-- paper was
-- printed on. It never has the disk.
pub record PrinterRan {L K : Type 0} (given : K → Option (List ℕ)) (faults : K → ℕ)
    (start now : PrinterSide K) (pass : Option Pass) (h : List (Entry L)) : Type 0 where
  pub gate : (start.gate.now ≡ now.gate.now) × (now.lines.gate ≡ now.gate.now)
  pub calls : now.lines.calls ≡ line_calls Receiver 4 h
  pub paper : PaperRan given faults start.paper now.paper h
  pub none : pass ≡ None
