-- A law.
-- Each event leaves fewer.
use Rattle.std.proofs.Common.{◌≡◌, ℕ, zero, suc, ◌+◌, ◌*◌, ◌<◌, ◌≤◌, Bool, true, false, Option, None, Some, List, [], ◌∷◌, refl, arith}
use Rattle.solo_devices.specs.declared.card_read.CardRead.TheVariants as read
use Rattle.network_run.specs.declared.stepped.Stepped.{Stepped}
use Rattle.network_run.specs.declared.stepped.Stepped.TheVariants as stepped
use Rattle.network_run.specs.Law.{IsReached}
use Rattle.real_time.specs.declared.table.Woken.{Woken}
use Rattle.real_time.specs.declared.table.Woken.TheVariants as woken
use Rattle.real_time.specs.declared.table.Waited.{Waited}
use Rattle.real_time.specs.declared.table.Waited.TheVariants as waited
use Rattle.real_time.specs.Table.{Table, all_left, has_left, operator_resumed, sleeper_at, waited_by, woken_by}
use Rattle.real_time.specs.Deeds.{Deed, Enters, Shows, Wakes, Returns}
use Rattle.real_time.specs.States.{Stage, Works, Closes, Joins, Tells, Ended, Opening, TimeState, TimeEvent, Accepts, Displays, Moves, after_woken, behind_display, behind_fault, join_move, joined_by, move_of, occurs, opened, operator_move, stage_told, task_move, MayHappen}
use Rattle.real_time.specs.TimesLaw.{timing}
use Rattle.real_time.proofs.Reaching.{holds, reads-at}
use Rattle.real_time.specs.Weights.{lines_read}
use Rattle.real_time.proofs.Weights.{falls}
use Rattle.time_net.specs.declared.net.TimeNet.{TimeNet}
use Rattle.time_net.specs.TimeStands.{LeavesLines, Tellers, events_ahead, keys_ahead, reading_work}

-- ---- the operator reads no more than before
display-less : (stage : Stage) (a : ℕ) → reading_work (behind_display stage) a ≤ reading_work stage a
display-less (Works []) a = omega arith
display-less (Works (deed ∷ deeds)) a = omega arith
display-less Closes a = omega arith
display-less Joins a = omega arith
display-less (Tells place []) a = omega arith
display-less (Tells place (name ∷ names)) a = omega arith
display-less Ended a = omega arith

fault-less : (stage : Stage) (a : ℕ) → reading_work (behind_fault stage) a ≤ reading_work stage a
fault-less (Works deeds) a = omega arith
fault-less Closes a = omega arith
fault-less Joins a = omega arith
fault-less (Tells place names) a = omega arith
fault-less Ended a = omega arith

woken-less : (w : Woken) (s : TimeState) (place second : ℕ) (deeds : List Deed) (a : ℕ)
    → reading_work (after_woken w s place second deeds).to.stage a ≤ 90000000 * a
woken-less woken.NotDue s place second deeds a = omega arith
woken-less woken.Continued s place second deeds a = omega arith
woken-less woken.Delayed s place second deeds a = omega arith

joined-less : (all : Bool) (how : Stepped) (s : TimeState) (t : Table) (a : ℕ) → reading_work (joined_by all how s t).to.stage a ≤ 0
joined-less true how s t a = omega arith
joined-less false how s t a = omega arith

joins-less : (operator : Option ℕ) (s : TimeState) (a : ℕ) → reading_work (join_move operator s).to.stage a ≤ 0
joins-less None s a = joined-less (all_left s.table) stepped.Acted s s.table a
joins-less (Some p) s a = joined-less (all_left s.table) stepped.Resumed s (operator_resumed s.table) a

same-work : (one other : Stage) (a : ℕ) → one ≡ other → reading_work one a ≤ reading_work other a
same-work one other a is = rw is (omega arith)

operator-less : (s : TimeState) (stage : Stage) (a : ℕ) → s.stage ≡ stage → reading_work (operator_move stage s).to.stage a ≤ reading_work stage a
operator-less s (Works []) a is = same-work s.stage (Works []) a is
operator-less s (Works (Enters line ∷ deeds)) a is = omega arith
operator-less s (Works (Shows text ∷ deeds)) a is = same-work s.stage (Works (Shows text ∷ deeds)) a is
operator-less s (Works (Wakes place second due ∷ deeds)) a is = woken-less (woken_by due (sleeper_at s.table.queues place)) s place second deeds a
operator-less s (Works (Returns ∷ deeds)) a is = omega arith
operator-less s Closes a is = omega arith
operator-less s Joins a is = joins-less s.table.operator s a
operator-less s (Tells place []) a is = omega arith
operator-less s (Tells place (name ∷ names)) a is = same-work s.stage (Tells place (name ∷ names)) a is
operator-less s Ended a is = same-work s.stage Ended a is

told-less : (w : Waited) (stage : Stage) (a : ℕ) → reading_work (stage_told w stage) a ≤ reading_work stage a
told-less (waited.Starts second) (Works []) a = omega arith
told-less (waited.Starts second) (Works (deed ∷ deeds)) a = omega arith
told-less (waited.Starts second) Closes a = omega arith
told-less (waited.Starts second) Joins a = omega arith
told-less (waited.Starts second) (Tells place names) a = omega arith
told-less (waited.Starts second) Ended a = omega arith
told-less waited.Leaves stage a = omega arith
told-less waited.Delayed stage a = omega arith

task-less : (s : TimeState) (place : ℕ) (left : Bool) (held : Option ℕ) (a : ℕ)
    → reading_work (task_move left held s place).to.stage a ≤ reading_work s.stage a
task-less s place true held a = omega arith
task-less s place false (Some p) a = omega arith
task-less s place false None a = told-less (waited_by s.table place) s.stage a

moves-less : (s : TimeState) (p a : ℕ) → reading_work (move_of s p).to.stage a ≤ reading_work s.stage a
moves-less s zero a = omega arith
moves-less s (suc zero) a = operator-less s s.stage a refl
moves-less s (suc (suc place)) a = task-less s place (has_left s.table place) (sleeper_at s.table.queues place) a

-- ---- an event
read-less : (s : TimeState) (a b : ℕ) → s.stage ≡ Works [] → b < a → 90000000 * b + 90000000 * 1 ≤ reading_work s.stage a
read-less s a b is less = rw is (omega (arith, less))

reading-falls : (s : TimeState) (event : TimeEvent) (a b : ℕ) → MayHappen s event → LeavesLines event a b
    → reading_work (occurs s event).stage b + 90000000 * lines_read event ≤ reading_work s.stage a
reading-falls s (Accepts (read.Card line)) a b is lines = read-less s a b (reads-at s.stage s.seen is.0) (lines (omega arith))
reading-falls s (Accepts read.Spoiled) a b is lines = read-less s a b (reads-at s.stage s.seen is.0) (lines (omega arith))
reading-falls s (Accepts read.End) a b is lines = omega arith
reading-falls s (Accepts read.Failed) a b is lines = omega arith
reading-falls s (Accepts read.Limit) a b is lines = omega arith
reading-falls s (Displays None now) a b is lines = (let less = display-less s.stage a in rw lines (omega (arith, less)))
reading-falls s (Displays (Some fault) now) a b is lines = (let less = fault-less s.stage a in rw lines (omega (arith, less)))
reading-falls s (Moves p how) a b is lines = (let less = moves-less s p a in rw lines (omega (arith, less)))

pub net-falls : {Y T : Type 0} (tells : Tellers Y T) (old new : TimeNet Y T) (o : Opening) (s : TimeState) (event : TimeEvent)
    → IsReached timing (opened o) s → MayHappen s event → LeavesLines event (keys_ahead tells old.typewriter) (keys_ahead tells new.typewriter)
    → events_ahead tells new (occurs s event) < events_ahead tells old s
net-falls tells old new o s event reached is lines =
    let work = falls s event (holds o s reached) is in
    let more = reading-falls s event (keys_ahead tells old.typewriter) (keys_ahead tells new.typewriter) is lines in
    omega (arith, work, more)
