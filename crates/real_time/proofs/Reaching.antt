-- What holds in each reached state: the table is in order, and the operator waits only in a wake or a join.
use Rattle.std.proofs.Common.{◌≡◌, ◌≢◌, ◌⊎◌, inl, inr, ℕ, zero, suc, ◌+◌, ◌<◌, ◌≤◌, Bool, true, false, Option, None, Some, List, [], ◌∷◌, ◌++◌, length, length-append, slice_set, get_or-set_other, refl, sym, ◌∙◌, ap, subst, arith, eq-eqb}
use Rattle.std.specs.Prelude.{slice_index_or, nat_lt, if◌then◌else◌, map, not, ◌&&◌, codes}
use Rattle.std.specs.List.{AllByRecursion, list_all}
use Rattle.std.proofs.lemmas.List.{length-set}
use Rattle.std.proofs.lemmas.Bool.{ltb-true}
use Rattle.std.proofs.lemmas.Bool.Decides.{eqb_tells}
use Rattle.solo_devices.specs.declared.card_read.CardRead.{CardRead}
use Rattle.solo_devices.specs.declared.card_read.CardRead.TheVariants as read
use Rattle.solo_devices.specs.declared.printer_unit.PrintFault.{PrintFault}
use Rattle.network_run.specs.declared.stepped.Stepped.{Stepped}
use Rattle.network_run.specs.declared.stepped.Stepped.TheVariants as stepped
use Rattle.network_run.specs.Law.{IsReached, AreEnabled, run}
use Rattle.queue_var.specs.declared.turn.Turn.TheVariants.{Free, Handed}
use Rattle.real_time.specs.declared.table.Seat.TheVariants.{Operator, Task}
use Rattle.real_time.specs.declared.table.Woken.TheVariants as woken
use Rattle.real_time.specs.declared.table.Waited.{Waited}
use Rattle.real_time.specs.declared.table.Waited.TheVariants as waited
use Rattle.real_time.specs.Table.{Table, MayComeIn, after_close, behind_wait, after_wake, all_left, behind_leave, has_left, sleeper_at, is_awaited, operator_resumed, out_of_queue, woken_by}
use Rattle.real_time.specs.Orderly.{IsOrderly}
use Rattle.real_time.proofs.Entries.{opens, continues, awaits, closes, joins, operator-resumes, leaves, starts, sleeps, resumes, resumes-leaving}
use Rattle.real_time.specs.Typed.{Typed, Blank, Names, Plans, Stops, Passes, Bad, typed}
use Rattle.real_time.specs.Starts.{Script, Change, answer, behind_line, behind_seconds, is_due, is_task, may_plan, next_second, plan_of, within_clock}
use Rattle.real_time.specs.Deeds.{Deed, Enters, Shows, Wakes, Returns, deeds_of, deeds_of_seconds, shows_start, wakes_of}
use Rattle.real_time.specs.States.{Stage, Works, Closes, Joins, Tells, Ended, TimeState, Opening, opened, ended_at, Reads, Prints, action_at, TimeEvent, Accepts, Displays, Moves, keys_behind, after_item, after_accept, behind_display, behind_fault, after_display, after_woken, names_told, joined_by, join_move, operator_move, with_start, stage_told, waits, task_move, occurs, OperatorMay, TaskMay, IsMove, MayHappen}
use Rattle.real_time.specs.TimesLaw.{timing}
use Rattle.std.specs.Fmt.{decimal}
use Rattle.solo_base.specs.declared.item.Item.{Item}
use Rattle.solo_base.specs.declared.item.Item.TheVariants as item

-- ---- what is still to be done
-- A wake is of one of the eight tasks, and nobody returns from a wake that wasn't made.
abbrev pub IsLater : Deed → Type 0
IsLater (Enters line) = Unit {0}
IsLater (Shows text) = Unit {0}
IsLater (Wakes place second due) = place < 8
IsLater Returns = ⊥

-- the operator is at this deed
abbrev pub IsAt : Deed → Table → Type 0
IsAt (Enters line) t = t.operator ≡ None
IsAt (Shows text) t = t.operator ≡ None
IsAt (Wakes place second due) t =
    (place < 8) × ((t.operator ≡ None) ⊎ ((t.awaited ≡ Some place) × (due ≡ true) × (t.second ≡ second)))
IsAt Returns t = t.turn ≡ Handed Operator

abbrev pub Fits : Stage → Table → Type 0
Fits (Works []) t = (t.closed ≡ false) × (t.operator ≡ None)
Fits (Works (deed ∷ deeds)) t = (t.closed ≡ false) × IsAt deed t × AllByRecursion IsLater deeds
Fits Closes t = (t.closed ≡ false) × (t.operator ≡ None)
Fits Joins t = t.closed ≡ true
Fits (Tells place names) t = (t.closed ≡ true) × (t.operator ≡ None) × (all_left t ≡ true)
Fits Ended t = (t.closed ≡ true) × (t.operator ≡ None) × (all_left t ≡ true)

pub record Holds (s : TimeState) : Type 0 where
  pub table : IsOrderly s.table
  pub fits : Fits s.stage s.table
  pub tasks : length s.script.tasks ≤ 8
  pub lists : (length s.seen ≡ 8) × (length s.ended ≡ 8)
  pub ends : (place : ℕ) → place < 8 → ended_at s place ≡ true → has_left s.table place ≡ true

-- ---- the deeds of a line
all-more : (some more : List Deed) → AllByRecursion IsLater some → AllByRecursion IsLater more → AllByRecursion IsLater (some ++ more)
all-more [] more all too = too
all-more (deed ∷ some) more all too = (all.0, all-more some more all.1 too)

later-wakes : (accepted : List Change) (second place : ℕ) (names : List (List ℕ)) → place + length names ≤ 8
    → AllByRecursion IsLater (wakes_of accepted second place names)
later-wakes accepted second place [] few = tt
later-wakes accepted second place (name ∷ names) few = (
  omega (arith, few),
  all-more (shows_start (is_due (plan_of name accepted) second) second name) (wakes_of accepted second (suc place) names)
      (by (is_due (plan_of name accepted) second)) (later-wakes accepted second (suc place) names (omega (arith, few))),
)
  where
    by : (due : Bool) → AllByRecursion IsLater (shows_start due second name)
    by true = (tt, tt)
    by false = tt

later-seconds : (seconds : ℕ) (s : Script) → length s.tasks ≤ 8 → AllByRecursion IsLater (deeds_of_seconds seconds s)
later-seconds zero s few = tt
later-seconds (suc seconds) s few =
    all-more (wakes_of s.accepted (s.now + 1) 0 s.tasks) (deeds_of_seconds seconds (next_second s))
    (later-wakes s.accepted (s.now + 1) 0 s.tasks (omega (arith, few))) (later-seconds seconds (next_second s) few)

later-shows : (texts : List (List ℕ)) → AllByRecursion IsLater (map Shows texts)
later-shows [] = tt
later-shows (text ∷ texts) = (tt, later-shows texts)

later-line : (s : Script) (line : Typed) → length s.tasks ≤ 8 → AllByRecursion IsLater (deeds_of s line)
later-line s Blank few = tt
later-line s (Names name) few = (tt, later-shows (answer s (Names name)))
later-line s (Plans name time period) few = (tt, later-shows (answer s (Plans name time period)))
later-line s (Stops name) few = (tt, later-shows (answer s (Stops name)))
later-line s (Passes seconds) few = by (within_clock s seconds)
  where
    by : (within : Bool) → AllByRecursion IsLater (if within
        then deeds_of_seconds seconds s ++ Shows (codes "TIME " ++ decimal (s.now + seconds)) ∷ []
        else Shows (codes "TICK: CLOCK LIMIT") ∷ [])
    by true = all-more (deeds_of_seconds seconds s) _ (later-seconds seconds s few) (tt, tt)
    by false = (tt, tt)
later-line s Bad few = (tt, tt)

-- ---- there are at most eight tasks
few-seconds : (seconds : ℕ) (s : Script) → length s.tasks ≤ 8 → length (behind_seconds seconds s).tasks ≤ 8
few-seconds zero s few = few
few-seconds (suc seconds) s few = few-seconds seconds (next_second s) few

few-changed : (s : Script) (accepted : List Change) (may : Bool) → length s.tasks ≤ 8
    → length (if may then record s { accepted = accepted } else s).tasks ≤ 8
few-changed s accepted true few = few
few-changed s accepted false few = few

few-behind : (s : Script) (line : Typed) → length s.tasks ≤ 8 → length (behind_line s line).tasks ≤ 8
few-behind s Blank few = few
few-behind s (Names name) few = by (is_task s name) (nat_lt (length s.tasks) 8) refl
  where
    by : (is room : Bool) → nat_lt (length s.tasks) 8 ≡ room
        → length (if not is && room then record s { tasks = s.tasks ++ name ∷ [] } else s).tasks ≤ 8
    by true room e = few
    by false true e = (let below = ltb-true (length s.tasks) 8 e in let more = length-append s.tasks (name ∷ []) in omega (arith, below, more))
    by false false e = few
few-behind s (Plans name time period) few = few-changed s _ (may_plan s name time) few
few-behind s (Stops name) few = few-changed s _ (is_task s name) few
few-behind s (Passes seconds) few = by (within_clock s seconds)
  where
    by : (within : Bool) → length (if within then behind_seconds seconds s else s).tasks ≤ 8
    by true = few-seconds seconds s few
    by false = few
few-behind s Bad few = few

-- ---- the operator goes on
fits-later : (deeds : List Deed) (t : Table) → t.closed ≡ false → t.operator ≡ None → AllByRecursion IsLater deeds → Fits (Works deeds) t
fits-later [] t not_closed none all = (not_closed, none)
fits-later (Enters line ∷ deeds) t not_closed none all = (not_closed, none, all.1)
fits-later (Shows text ∷ deeds) t not_closed none all = (not_closed, none, all.1)
fits-later (Wakes place second due ∷ deeds) t not_closed none all = (not_closed, (all.0, inl none), all.1)
fits-later (Returns ∷ deeds) t not_closed none all = absurd all.0

pub reads-at : (stage : Stage) (seen : List (List ℕ)) → action_at stage seen ≡ Reads → stage ≡ Works []
reads-at (Works []) seen e = refl
reads-at (Works (Enters line ∷ deeds)) seen e = absurd cc
reads-at (Works (Shows text ∷ deeds)) seen e = absurd cc
reads-at (Works (Wakes place second due ∷ deeds)) seen e = absurd cc
reads-at (Works (Returns ∷ deeds)) seen e = absurd cc
reads-at Closes seen e = absurd cc
reads-at Joins seen e = absurd cc
reads-at (Tells place []) seen e = absurd cc
reads-at (Tells place (name ∷ names)) seen e = absurd cc
reads-at Ended seen e = absurd cc

fits-display : (stage : Stage) (seen : List (List ℕ)) (text : List ℕ) (t : Table) → action_at stage seen ≡ Prints text → Fits stage t
    → Fits (behind_display stage) t × Fits (behind_fault stage) t
fits-display (Works []) seen text t e fits = absurd cc
fits-display (Works (Enters line ∷ deeds)) seen text t e fits = absurd cc
fits-display (Works (Shows line ∷ deeds)) seen text t e fits = (fits-later deeds t fits.0 fits.1 fits.2, (fits.0, fits.1))
fits-display (Works (Wakes place second due ∷ deeds)) seen text t e fits = absurd cc
fits-display (Works (Returns ∷ deeds)) seen text t e fits = absurd cc
fits-display Closes seen text t e fits = absurd cc
fits-display Joins seen text t e fits = absurd cc
fits-display (Tells place []) seen text t e fits = absurd cc
fits-display (Tells place (name ∷ names)) seen text t e fits = (fits, fits)
fits-display Ended seen text t e fits = absurd cc

-- ---- the operator moves
-- With the same tasks, and a table where those that have ended have left.
changed : (s : TimeState) (stage : Stage) (table : Table) → Holds s → IsOrderly table → Fits stage table
    → ((place : ℕ) → has_left s.table place ≡ true → has_left table place ≡ true) → Holds (record s { stage = stage; table = table })
changed s stage table h orderly fits stay = record {
  table = orderly;
  fits = fits;
  tasks = h.tasks;
  lists = h.lists;
  ends = λ place one is. stay place (h.ends place one is);
}

joined-by : (s : TimeState) (t : Table) (how : Stepped) (all : Bool) → Holds s → all_left t ≡ all → IsOrderly t → t.turn ≡ Free → t.operator ≡ None
    → t.closed ≡ true → ((place : ℕ) → has_left s.table place ≡ true → has_left t place ≡ true) → Holds (joined_by all how s t).to
joined-by s t how true h all o free inside closed stay = changed s (Tells 0 (names_told s)) t h o (closed, inside, all) stay
joined-by s t how false h some o free inside closed stay =
    changed s Joins (record t { operator = Some 1 }) h (joins t o free inside closed some) closed stay

joined-holds : (s : TimeState) (operator : Option ℕ) → Holds s → s.table.operator ≡ operator → s.table.closed ≡ true → MayComeIn s.table Operator
    → Holds (join_move operator s).to
joined-holds s None h is closed (inl free) =
    joined-by s s.table stepped.Acted (all_left s.table) h refl h.table free.1 free.0 closed (λ place left. left)
joined-holds s None h is closed (inr handed) = absurd (let waits = h.table.handed_operator handed in cc)
joined-holds s (Some p) h is closed (inl free) = absurd (let none = free.0 in cc)
joined-holds s (Some p) h is closed (inr handed) =
    joined-by s (operator_resumed s.table) stepped.Resumed (all_left s.table) h refl (operator-resumes s.table h.table handed) refl refl closed
    (λ place left. left)

-- the operator is outside, and the turn is free
pub is-outside : (s : TimeState) → Holds s → s.table.operator ≡ None → MayComeIn s.table Operator → s.table.turn ≡ Free
is-outside s h none (inl free) = free.1
is-outside s h none (inr handed) = absurd (let waits = h.table.handed_operator handed in cc)

pub not-awaiting : (s : TimeState) (place second : ℕ) (due : Bool) → Holds s → MayComeIn s.table Operator
    → ((s.table.operator ≡ None) ⊎ ((s.table.awaited ≡ Some place) × (due ≡ true) × (s.table.second ≡ second))) → s.table.operator ≡ None
not-awaiting s place second due h may (inl none) = none
not-awaiting s place second due h (inl free) (inr waits) = free.0
not-awaiting s place second due h (inr handed) (inr waits) = absurd (let free = (h.table.awaits place waits.0).free in cc)

pub here : (s : TimeState) (place : ℕ) → Holds s → s.table.closed ≡ false → (left : Bool) → has_left s.table place ≡ left → left ≡ false
here s place h not_closed false is = refl
here s place h not_closed true is = absurd (let closed = (h.table.gone place is).1 in cc)

wakes-holds : (s : TimeState) (place second : ℕ) (due : Bool) (deeds : List Deed) (held : Option ℕ) → Holds s → sleeper_at s.table.queues place ≡ held
    → s.table.closed ≡ false → place < 8 → s.table.operator ≡ None → s.table.turn ≡ Free → AllByRecursion IsLater deeds
    → Holds (after_woken (woken_by due held) s place second deeds).to
wakes-holds s place second false deeds held h is not_closed one none free all =
    changed s (Works deeds) s.table h h.table (fits-later deeds s.table not_closed none all) (λ q left. left)
wakes-holds s place second true deeds (Some p) h is not_closed one none free all =
    changed s (Works deeds) (after_wake s.table place second woken.Continued) h (continues s.table h.table free none place p second is)
    (fits-later deeds (after_wake s.table place second woken.Continued) not_closed none all) (λ q left. left)
wakes-holds s place second true deeds None h is not_closed one none free all =
    changed s (Works (Wakes place second true ∷ deeds)) (after_wake s.table place second woken.Delayed) h
    (awaits s.table h.table free none place second one is (here s place h not_closed (has_left s.table place) refl) not_closed)
    (not_closed, (one, inr (refl, refl, refl)), all) (λ q left. left)

operator-holds : (s : TimeState) (stage : Stage) → Holds s → Fits stage s.table → OperatorMay (action_at stage s.seen) s.table
    → IsMove (action_at stage s.seen) → Holds (operator_move stage s).to
operator-holds s (Works []) h fits may move = absurd move
operator-holds s (Works (Enters line ∷ deeds)) h fits may move =
    changed s (Works deeds) s.table h h.table (fits-later deeds s.table fits.0 fits.1 fits.2) (λ q left. left)
operator-holds s (Works (Shows text ∷ deeds)) h fits may move = absurd move
operator-holds s (Works (Wakes place second due ∷ deeds)) h fits may move =
    let none = not-awaiting s place second due h may fits.1.1 in
    wakes-holds s place second due deeds (sleeper_at s.table.queues place) h refl fits.0 fits.1.0 none (is-outside s h none may) fits.2
operator-holds s (Works (Returns ∷ deeds)) h fits may move =
    changed s (Works deeds) (operator_resumed s.table) h (operator-resumes s.table h.table fits.1)
    (fits-later deeds (operator_resumed s.table) fits.0 refl fits.2) (λ q left. left)
operator-holds s Closes h fits may move =
    changed s Joins (after_close s.table) h (closes s.table h.table (is-outside s h fits.1 may) fits.1) refl (λ q left. left)
operator-holds s Joins h fits may move = joined-holds s s.table.operator h refl fits may
operator-holds s (Tells place []) h fits may move = changed s Ended s.table h h.table fits (λ q left. left)
operator-holds s (Tells place (name ∷ names)) h fits may move = absurd move
operator-holds s Ended h fits may move = absurd move

-- ---- a task moves
-- The operator may be as it was where it is as it was, and the tasks that have left.
fits-same : (stage : Stage) (t new : Table) → new.closed ≡ t.closed → new.operator ≡ t.operator → new.awaited ≡ t.awaited → new.second ≡ t.second
    → (t.turn ≡ Handed Operator → new.turn ≡ Handed Operator) → (all_left t ≡ true → all_left new ≡ true) → Fits stage t → Fits stage new
fits-same (Works []) t new c o a s turn all fits = (c ∙ fits.0, o ∙ fits.1)
fits-same (Works (Enters line ∷ deeds)) t new c o a s turn all fits = (c ∙ fits.0, o ∙ fits.1, fits.2)
fits-same (Works (Shows text ∷ deeds)) t new c o a s turn all fits = (c ∙ fits.0, o ∙ fits.1, fits.2)
fits-same (Works (Wakes place second due ∷ deeds)) t new c o a s turn all fits =
    (c ∙ fits.0, (fits.1.0, by fits.1.1), fits.2)
  where
    by : ((t.operator ≡ None) ⊎ ((t.awaited ≡ Some place) × (due ≡ true) × (t.second ≡ second)))
        → ((new.operator ≡ None) ⊎ ((new.awaited ≡ Some place) × (due ≡ true) × (new.second ≡ second)))
    by (inl none) = inl (o ∙ none)
    by (inr waits) = inr (a ∙ waits.0, waits.1, s ∙ waits.2)
fits-same (Works (Returns ∷ deeds)) t new c o a s turn all fits = (c ∙ fits.0, turn fits.1, fits.2)
fits-same Closes t new c o a s turn all fits = (c ∙ fits.0, o ∙ fits.1)
fits-same Joins t new c o a s turn all fits = c ∙ fits
fits-same (Tells place names) t new c o a s turn all fits = (c ∙ fits.0, o ∙ fits.1, all fits.2)
fits-same Ended t new c o a s turn all fits = (c ∙ fits.0, o ∙ fits.1, all fits.2)

-- the operator waits for a task, which is told its start
fits-told : (stage : Stage) (t new : Table) (place second : ℕ) → IsOrderly t → t.awaited ≡ Some place → new.closed ≡ t.closed → new.turn ≡ Handed Operator
    → Fits stage t → Fits (stage_told (waited.Starts second) stage) new
fits-told (Works []) t new place second o is c turn fits = absurd (let none = fits.1 in let waits = (o.awaits place is).operator in cc)
fits-told (Works (Enters line ∷ deeds)) t new place second o is c turn fits = (c ∙ fits.0, turn, fits.2)
fits-told (Works (Shows text ∷ deeds)) t new place second o is c turn fits = (c ∙ fits.0, turn, fits.2)
fits-told (Works (Wakes q at due ∷ deeds)) t new place second o is c turn fits = (c ∙ fits.0, turn, fits.2)
fits-told (Works (Returns ∷ deeds)) t new place second o is c turn fits = (c ∙ fits.0, turn, fits.2)
fits-told Closes t new place second o is c turn fits = absurd (let none = fits.1 in let waits = (o.awaits place is).operator in cc)
fits-told Joins t new place second o is c turn fits = absurd (let closed = fits in let not_closed = (o.awaits place is).open_yet in cc)
fits-told (Tells q names) t new place second o is c turn fits = absurd (let closed = fits.0 in let not_closed = (o.awaits place is).open_yet in cc)
fits-told Ended t new place second o is c turn fits = absurd (let closed = fits.0 in let not_closed = (o.awaits place is).open_yet in cc)

-- ---- one more has left
all-still : (left : List Bool) (place : ℕ) → list_all (λ l. l) left ≡ true → list_all (λ l. l) (slice_set left place true) ≡ true
all-still [] place all = refl
all-still (true ∷ left) zero all = all
all-still (true ∷ left) (suc place) all = all-still left place all
all-still (false ∷ left) place all = absurd cc

left-still : (left : List Bool) (place q : ℕ) → slice_index_or left q false ≡ true → slice_index_or (slice_set left place true) q false ≡ true
left-still [] place q is = is
left-still (l ∷ left) zero zero is = refl
left-still (l ∷ left) zero (suc q) is = is
left-still (l ∷ left) (suc place) zero is = is
left-still (l ∷ left) (suc place) (suc q) is = left-still left place q is

many-seen : (seen : List (List ℕ)) (place : ℕ) (answer : Waited) → length (with_start seen place answer) ≡ length seen
many-seen seen place (waited.Starts second) = length-set seen place _
many-seen seen place waited.Leaves = refl
many-seen seen place waited.Delayed = refl

told : (s : TimeState) (stage : Stage) (table : Table) (place : ℕ) (answer : Waited) → Holds s → IsOrderly table → Fits stage table
    → ((q : ℕ) → has_left s.table q ≡ true → has_left table q ≡ true)
    → Holds (record s { table = table; seen = with_start s.seen place answer; stage = stage })
told s stage table place answer h orderly fits stay = record {
  table = orderly;
  fits = fits;
  tasks = h.tasks;
  lists = (many-seen s.seen place answer ∙ h.lists.0, h.lists.1);
  ends = λ q one is. stay q (h.ends q one is);
}

pub awaited-is : (awaited : Option ℕ) (place : ℕ) → is_awaited awaited place ≡ true → awaited ≡ Some place
awaited-is None place e = absurd cc
awaited-is (Some q) place e =
    elim (eqb_tells q place) as (λ _. Some q ≡ Some place) [ inl same ↦ ap Some same.1 | inr other ↦ absurd (let no = other.0 in cc) ]

waits-holds : (s : TimeState) (place : ℕ) (closed awaited : Bool) → Holds s → place < 8 → s.table.turn ≡ Free → sleeper_at s.table.queues place ≡ None
    → s.table.closed ≡ closed → is_awaited s.table.awaited place ≡ awaited
    → Holds (waits (if closed then waited.Leaves else (if awaited then waited.Starts s.table.second else waited.Delayed)) s place).to
waits-holds s place true awaited h one free awake c a =
    told s s.stage (behind_wait s.table place waited.Leaves) place waited.Leaves h (leaves s.table h.table place one free awake c)
    (fits-same s.stage s.table (behind_wait s.table place waited.Leaves) refl refl refl refl (λ handed. absurd cc) (all-still s.table.left place) h.fits)
    (λ q left. left-still s.table.left place q left)
waits-holds s place false true h one free awake c a =
    let is = awaited-is s.table.awaited place a in
    told s (stage_told (waited.Starts s.table.second) s.stage) (behind_wait s.table place (waited.Starts s.table.second)) place (waited.Starts s.table.second) h
    (starts s.table h.table place one free awake s.table.second is)
    (fits-told s.stage s.table (behind_wait s.table place (waited.Starts s.table.second)) place s.table.second h.table is refl refl h.fits) (λ q left. left)
waits-holds s place false false h one free awake c a =
    told s s.stage (behind_wait s.table place waited.Delayed) place waited.Delayed h
    (sleeps s.table h.table place one free awake c (λ is. (let same = awaited-self s.table.awaited is in cc)))
    (fits-same s.stage s.table (behind_wait s.table place waited.Delayed) refl refl refl refl (λ handed. handed) (λ all. all) h.fits) (λ q left. left)
  where
    awaited-self : (awaited : Option ℕ) → awaited ≡ Some place → is_awaited awaited place ≡ true
    awaited-self awaited is = rw is (eq-eqb place place refl)

resumes-holds : (s : TimeState) (place : ℕ) (closed : Bool) → Holds s → place < 8 → s.table.turn ≡ Handed (Task place) → s.table.closed ≡ closed
    → Holds (record s {
      table = if closed then behind_leave (out_of_queue s.table place) place else out_of_queue s.table place;
      seen = with_start s.seen place (if closed then waited.Leaves else waited.Starts s.table.second);
    })
resumes-holds s place true h one handed c =
    told s s.stage (behind_leave (out_of_queue s.table place) place) place waited.Leaves h (resumes-leaving s.table h.table place one handed c)
    (fits-same s.stage s.table (behind_leave (out_of_queue s.table place) place) refl refl refl refl (λ other. absurd cc) (all-still s.table.left place) h.fits)
    (λ q left. left-still s.table.left place q left)
resumes-holds s place false h one handed c =
    told s s.stage (out_of_queue s.table place) place (waited.Starts s.table.second) h (resumes s.table h.table place one handed c)
    (fits-same s.stage s.table (out_of_queue s.table place) refl refl refl refl (λ other. absurd cc) (λ all. all) h.fits) (λ q left. left)

task-holds : (s : TimeState) (place : ℕ) (left : Bool) (held : Option ℕ) → Holds s → place < 8 → has_left s.table place ≡ left
    → sleeper_at s.table.queues place ≡ held → TaskMay left s.table place → Holds (task_move left held s place).to
task-holds s place true held h one gone is may = record {
  table = h.table;
  fits = h.fits;
  tasks = h.tasks;
  lists = (h.lists.0, length-set s.ended place true ∙ h.lists.1);
  ends = λ q below ended. elim (eqb_tells q place) as (λ _. has_left s.table q ≡ true) [
    | inl same ↦ (let e = same.1 in rw e gone)
    | inr other ↦ h.ends q below (sym (out s.ended place q other.1) ∙ ended)
  ];
}
  where
    out : (ended : List Bool) (place q : ℕ) → q ≢ place → slice_index_or (slice_set ended place true) q true ≡ slice_index_or ended q true
    out ended place q other = rw get_or-set_other refl
task-holds s place false (Some p) h one gone is (inl free) = absurd (let none = free.0 in cc)
task-holds s place false (Some p) h one gone is (inr handed) = resumes-holds s place s.table.closed h one handed refl
task-holds s place false None h one gone is (inl free) =
    waits-holds s place s.table.closed (is_awaited s.table.awaited place) h one free.1 free.0 refl refl
task-holds s place false None h one gone is (inr handed) = absurd (let there = h.table.handed place handed in cc)

-- ---- each event keeps it
after-item : (s : TimeState) (line : Item) (keys : Option (List Item)) → Holds s
    → Fits (Works []) s.table → Holds (record (after_item s line) { keys = keys })
after-item s line keys h fits = record {
  table = h.table;
  fits = fits-later (deeds_of s.script (typed line)) s.table fits.0 fits.1 (later-line s.script (typed line) h.tasks);
  tasks = few-behind s.script (typed line) h.tasks;
  lists = h.lists;
  ends = h.ends;
}

after-stage : (s : TimeState) (stage : Stage) (h : Holds s) → Fits stage s.table → Holds (record s { stage = stage })
after-stage s stage h fits = changed s stage s.table h h.table fits (λ place left. left)

keeps-accept : (s : TimeState) (answer : CardRead) → Holds s → Fits (Works []) s.table → Holds (after_accept s answer)
keeps-accept s (read.Card line) h fits = after-item s (item.Line line) (keys_behind s.keys (read.Card line)) h fits
keeps-accept s read.Spoiled h fits = after-item s item.Spoiled (keys_behind s.keys read.Spoiled) h fits
keeps-accept s read.End h fits = record { table = h.table; fits = fits; tasks = h.tasks; lists = h.lists; ends = h.ends }
keeps-accept s read.Failed h fits = record { table = h.table; fits = fits; tasks = h.tasks; lists = h.lists; ends = h.ends }
keeps-accept s read.Limit h fits = record { table = h.table; fits = fits; tasks = h.tasks; lists = h.lists; ends = h.ends }

keeps-display : (s : TimeState) (fault : Option PrintFault) (now : Option (List ℕ)) → Holds s → Fits (behind_display s.stage) s.table
    → Fits (behind_fault s.stage) s.table → Holds (after_display s fault now)
keeps-display s None now h fits failed = record { table = h.table; fits = fits; tasks = h.tasks; lists = h.lists; ends = h.ends }
keeps-display s (Some fault) now h fits failed = record { table = h.table; fits = failed; tasks = h.tasks; lists = h.lists; ends = h.ends }

pub keeps : (s : TimeState) (event : TimeEvent) → Holds s → MayHappen s event → Holds (occurs s event)
keeps s (Accepts answer) h is = keeps-accept s answer h (subst (λ stage. Fits stage s.table) (reads-at s.stage s.seen is.0) h.fits)
keeps s (Displays fault now) h is =
    let fits = fits-display s.stage s.seen is.0 s.table is.1 h.fits in
    keeps-display s fault now h fits.0 fits.1
keeps s (Moves zero how) h is = absurd is.0
keeps s (Moves (suc zero) how) h is = operator-holds s s.stage h h.fits is.0 is.1
keeps s (Moves (suc (suc place)) how) h is =
    task-holds s place (has_left s.table place) (sleeper_at s.table.queues place) h is.0.0 refl refl is.0.2

pub at-opening : (o : Opening) → Holds (opened o)
at-opening o = record {
  table = opens;
  fits = (refl, refl);
  tasks = omega arith;
  lists = (refl, refl);
  ends = λ place one is. absurd (let no = none-ended place one in cc);
}
  where
    none-ended : (place : ℕ) → place < 8 → ended_at (opened o) place ≡ false
    none-ended zero one = refl
    none-ended (suc zero) one = refl
    none-ended (suc (suc zero)) one = refl
    none-ended (suc (suc (suc zero))) one = refl
    none-ended (suc (suc (suc (suc zero)))) one = refl
    none-ended (suc (suc (suc (suc (suc zero))))) one = refl
    none-ended (suc (suc (suc (suc (suc (suc zero)))))) one = refl
    none-ended (suc (suc (suc (suc (suc (suc (suc zero))))))) one = refl
    none-ended (suc (suc (suc (suc (suc (suc (suc (suc place)))))))) one = absurd (omega (arith, one))

along : (s : TimeState) (events : List TimeEvent) → Holds s → AreEnabled timing s events → Holds (run timing s events)
along s [] h all = h
along s (event ∷ events) h all = along (occurs s event) events (keeps s event h all.0) all.1

pub holds : (o : Opening) (s : TimeState) → IsReached timing (opened o) s → Holds s
holds o s r = subst Holds r.leads (along (opened o) r.events (at-opening o) r.enabled)
