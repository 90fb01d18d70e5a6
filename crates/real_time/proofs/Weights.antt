-- Each event leaves less to do, but for what a typed line adds.
use Rattle.std.proofs.Common.{◌≡◌, ◌≢◌, ◌⊎◌, inl, inr, ℕ, zero, suc, ◌+◌, ◌*◌, ◌<◌, ◌≤◌, Bool, true, false, Option, None, Some, List, [], ◌∷◌, ◌++◌, length, slice_set, get_or-set_other, get_or-set_same, refl, ap, arith}
use Rattle.std.specs.Prelude.{if◌then◌else◌, map, nat_le, slice_index_or, codes}
use Rattle.std.specs.Fmt.{decimal}
use Rattle.std.proofs.lemmas.Bool.Decides.{eqb_tells, leb_tells}
use Rattle.solo_base.specs.declared.item.Item.{Item}
use Rattle.solo_base.specs.declared.item.Item.TheVariants as item
use Rattle.solo_devices.specs.declared.card_read.CardRead.{CardRead}
use Rattle.solo_devices.specs.declared.card_read.CardRead.TheVariants as read
use Rattle.solo_devices.specs.declared.printer_unit.PrintFault.{PrintFault}
use Rattle.solo_devices.specs.CardUnit.{item_of}
use Rattle.network_run.specs.declared.stepped.Stepped.{Stepped}
use Rattle.network_run.specs.declared.stepped.Stepped.TheVariants as stepped
use Rattle.queue_var.specs.declared.turn.Turn.{Turn}
use Rattle.queue_var.specs.declared.turn.Turn.TheVariants.{Free, Handed}
use Rattle.real_time.specs.declared.table.Seat.{Seat}
use Rattle.real_time.specs.declared.table.Seat.TheVariants.{Operator, Task}
use Rattle.real_time.specs.declared.table.Woken.TheVariants as woken
use Rattle.real_time.specs.declared.table.Waited.TheVariants as waited
use Rattle.real_time.specs.Table.{Table, MayComeIn, after_close, behind_wait, after_wake, all_left, behind_leave, has_left, sleeper_at, is_awaited, operator_resumed, out_of_queue, woken_by}
use Rattle.real_time.specs.Typed.{Typed, Blank, Names, Plans, Stops, Passes, Bad, typed}
use Rattle.real_time.specs.Starts.{Script, Change, answer, is_due, next_second, plan_of, within_clock}
use Rattle.real_time.specs.Deeds.{Deed, Enters, Shows, Wakes, Returns, deeds_of, deeds_of_seconds, shows_start, wakes_of}
use Rattle.real_time.specs.States.{Stage, Works, Closes, Joins, Tells, Ended, TimeState, ended_at, names_by, Prints, action_at, TimeEvent, Accepts, Displays, Moves, keys_behind, after_item, after_accept, behind_display, behind_fault, after_display, after_woken, joined_by, join_move, operator_move, stage_told, waits, task_move, occurs, OperatorMay, TaskMay, IsMove, MayHappen}
use Rattle.real_time.proofs.Reaching.{Fits, Holds, reads-at, not-awaiting, is-outside, awaited-is}
use Rattle.solo_base.specs.declared.outcome.Cause.{Cause}
use Rattle.real_time.specs.Weights.{deeds_weight, stage_weight, operator_weight, turn_weight, task_work_at, tasks_weight, work_left, lines_read}

-- ---- the deeds of a line
weight-append : (some more : List Deed) → deeds_weight (some ++ more) ≡ deeds_weight some + deeds_weight more
weight-append [] more = omega arith
weight-append (deed ∷ some) more = (let rest = weight-append some more in omega (arith, rest))

weight-start : (due : Bool) (second : ℕ) (name : List ℕ) → deeds_weight (shows_start due second name) ≤ 1
weight-start true second name = omega arith
weight-start false second name = omega arith

weight-wakes : (accepted : List Change) (second place : ℕ) (names : List (List ℕ)) → deeds_weight (wakes_of accepted second place names) ≤ 11 * length names
weight-wakes accepted second place [] = omega arith
weight-wakes accepted second place (name ∷ names) =
    let start = weight-start (is_due (plan_of name accepted) second) second name in
    let sum = weight-append (shows_start (is_due (plan_of name accepted) second) second name) (wakes_of accepted second (suc place) names) in
    let rest = weight-wakes accepted second (suc place) names in
    omega (arith, start, sum, rest)

weight-seconds : (seconds : ℕ) (s : Script) → length s.tasks ≤ 8 → deeds_weight (deeds_of_seconds seconds s) ≤ 88 * seconds
weight-seconds zero s few = omega arith
weight-seconds (suc seconds) s few =
    let one = weight-wakes s.accepted (s.now + 1) 0 s.tasks in
    let sum = weight-append (wakes_of s.accepted (s.now + 1) 0 s.tasks) (deeds_of_seconds seconds (next_second s)) in
    let rest = weight-seconds seconds (next_second s) few in
    omega (arith, one, sum, rest, few)

weight-texts : (texts : List (List ℕ)) → deeds_weight (map Shows texts) ≡ length texts
weight-texts [] = refl
weight-texts (text ∷ texts) = (let rest = weight-texts texts in omega (arith, rest))

at-most : (a b : ℕ) → nat_le a b ≡ true → a ≤ b
at-most a b e = elim (leb_tells a b) as (λ _. a ≤ b) [ inl is ↦ is.1 | inr over ↦ absurd (let no = over.0 in cc) ]

-- a clock that is not passed has at most a million seconds
weight-line : (s : Script) (line : Typed) → length s.tasks ≤ 8 → deeds_weight (deeds_of s line) ≤ 88000001
weight-line s Blank few = omega arith
weight-line s (Names name) few = (let texts = weight-texts (answer s (Names name)) in omega (arith, texts))
weight-line s (Plans name time period) few = (let texts = weight-texts (answer s (Plans name time period)) in omega (arith, texts))
weight-line s (Stops name) few = (let texts = weight-texts (answer s (Stops name)) in omega (arith, texts))
weight-line s (Passes seconds) few = by (within_clock s seconds) refl
  where
    by : (within : Bool) → within_clock s seconds ≡ within → deeds_weight (deeds_of s (Passes seconds)) ≤ 88000001
    by true e =
        let many = at-most (s.now + seconds) 1000000 e in
        let all = weight-seconds seconds s few in
        let sum = weight-append (deeds_of_seconds seconds s) (Shows (codes "TIME " ++ decimal (s.now + seconds)) ∷ []) in
        rw e (omega (arith, many, all, sum))
    by false e = rw e (omega arith)
weight-line s Bad few = omega arith

-- ---- the tasks
same-tasks : (n : ℕ) (ended : List Bool) (t : Table) (new_ended : List Bool) (new : Table)
    → ((place : ℕ) → task_work_at new_ended new place ≡ task_work_at ended t place) → tasks_weight n new_ended new ≡ tasks_weight n ended t
same-tasks zero ended t new_ended new same = refl
same-tasks (suc n) ended t new_ended new same =
    let rest = same-tasks n ended t new_ended new same in
    let here = same n in
    omega (arith, rest, here)

-- those in front of a place, where only that one changes
front-tasks : (n place : ℕ) (ended : List Bool) (t : Table) (new_ended : List Bool) (new : Table) → n ≤ place
    → ((q : ℕ) → q ≢ place → task_work_at new_ended new q ≡ task_work_at ended t q) → tasks_weight n new_ended new ≡ tasks_weight n ended t
front-tasks zero place ended t new_ended new below others = refl
front-tasks (suc n) place ended t new_ended new below others =
    let rest = front-tasks n place ended t new_ended new (omega (arith, below)) others in
    let here = others n (λ same. omega (arith, same, below)) in
    omega (arith, rest, here)

one-task : (n place : ℕ) (ended : List Bool) (t : Table) (new_ended : List Bool) (new : Table) → place < n
    → ((q : ℕ) → q ≢ place → task_work_at new_ended new q ≡ task_work_at ended t q)
    → tasks_weight n new_ended new + task_work_at ended t place ≡ tasks_weight n ended t + task_work_at new_ended new place
one-task zero place ended t new_ended new below others = absurd (omega (arith, below))
one-task (suc n) place ended t new_ended new below others = elim (eqb_tells n place) as
    (λ _. tasks_weight (suc n) new_ended new + task_work_at ended t place ≡ tasks_weight (suc n) ended t + task_work_at new_ended new place) [
      | inl same ↦
          (let is = same.1 in
          let front = front-tasks n place ended t new_ended new (omega (arith, is)) others in
          let here = ap (task_work_at new_ended new) is in
          let was = ap (task_work_at ended t) is in
          omega (arith, front, here, was))
      | inr other ↦
          (let differ = other.1 in
          let rest = one-task n place ended t new_ended new (omega (arith, below, differ)) others in
          let here = others n differ in
          omega (arith, rest, here))
    ]

-- a table whose queues and marks are the same
same-table : (s : TimeState) (new : Table) → new.queues ≡ s.table.queues → new.left ≡ s.table.left → tasks_weight 8 s.ended new ≡ tasks_weight 8 s.ended s.table
same-table s new queues left = same-tasks 8 s.ended s.table s.ended new (λ place. rw (queues, left) refl)

few-turn : (turn : Turn Seat) → turn_weight turn ≤ 2
few-turn Free = omega arith
few-turn (Handed seat) = omega arith

-- ---- the operator
stage-at : (s : TimeState) (stage : Stage) → s.stage ≡ stage → stage_weight s.stage ≡ stage_weight stage
stage-at s stage stage_is = ap stage_weight stage_is

falls-joined : (s : TimeState) (t : Table) (how : Stepped) (all : Bool) → length s.script.tasks ≤ 8 → s.stage ≡ Joins → t.queues ≡ s.table.queues
    → t.left ≡ s.table.left → t.operator ≡ None
    → ((turn_weight t.turn ≡ turn_weight s.table.turn) × (s.table.operator ≡ None))
    ⊎ ((turn_weight t.turn + 2 ≡ turn_weight s.table.turn) × ((p : ℕ) × (s.table.operator ≡ Some p)))
    → work_left (joined_by all how s t).to < work_left s
falls-joined s t how true few stage_is queues left outside (inl same) =
    let stage = stage-at s Joins stage_is in
    let tasks = same-table s t queues left in
    let names = few-names s.fault in
    let old = ap operator_weight same.1 in
    let new = ap operator_weight outside in
    let turn = same.0 in
    omega (arith, stage, tasks, names, old, new, turn)
  where
    few-names : (fault : Option Cause) → length (names_by fault s.script.tasks) ≤ 8
    few-names None = few
    few-names (Some cause) = omega arith
falls-joined s t how true few stage_is queues left outside (inr waits) =
    let stage = stage-at s Joins stage_is in
    let tasks = same-table s t queues left in
    let names = few-names s.fault in
    let old = ap operator_weight waits.1.1 in
    let new = ap operator_weight outside in
    let turn = waits.0 in
    omega (arith, stage, tasks, names, old, new, turn)
  where
    few-names : (fault : Option Cause) → length (names_by fault s.script.tasks) ≤ 8
    few-names None = few
    few-names (Some cause) = omega arith
falls-joined s t how false few stage_is queues left outside (inl same) =
    let stage = stage-at s Joins stage_is in
    let tasks = same-table s (record t { operator = Some 1 }) queues left in
    let old = ap operator_weight same.1 in
    let turn = same.0 in
    omega (arith, stage, tasks, old, turn)
falls-joined s t how false few stage_is queues left outside (inr waits) =
    let stage = stage-at s Joins stage_is in
    let tasks = same-table s (record t { operator = Some 1 }) queues left in
    let old = ap operator_weight waits.1.1 in
    let turn = waits.0 in
    omega (arith, stage, tasks, old, turn)

falls-joins : (s : TimeState) (h : Holds s) (operator : Option ℕ) → s.stage ≡ Joins → s.table.operator ≡ operator → MayComeIn s.table Operator
    → work_left (join_move operator s).to < work_left s
falls-joins s h None stage_is is may =
    falls-joined s s.table stepped.Acted (all_left s.table) h.tasks stage_is refl refl is (inl (refl, is))
falls-joins s h (Some p) stage_is is (inl free) = absurd (let none = free.0 in cc)
falls-joins s h (Some p) stage_is is (inr handed) =
    falls-joined s (operator_resumed s.table) stepped.Resumed (all_left s.table) h.tasks stage_is refl refl refl (inr (turn, (p, is)))
  where
    turn : turn_weight Free + 2 ≡ turn_weight s.table.turn
    turn = rw handed refl

falls-woken : (s : TimeState) (place second : ℕ) (due : Bool) (deeds : List Deed) (held : Option ℕ) → s.stage ≡ Works (Wakes place second due ∷ deeds)
    → s.table.operator ≡ None → s.table.turn ≡ Free → work_left (after_woken (woken_by due held) s place second deeds).to < work_left s
falls-woken s place second false deeds held stage_is none free =
    let stage = stage-at s _ stage_is in
    omega (arith, stage)
falls-woken s place second true deeds (Some p) stage_is none free =
    let stage = stage-at s _ stage_is in
    let tasks = same-table s (after_wake s.table place second woken.Continued) refl refl in
    let turn = ap turn_weight free in
    omega (arith, stage, tasks, turn)
falls-woken s place second true deeds None stage_is none free =
    let stage = stage-at s _ stage_is in
    let tasks = same-table s (after_wake s.table place second woken.Delayed) refl refl in
    let old = ap operator_weight none in
    omega (arith, stage, tasks, old)

falls-operator : (s : TimeState) (h : Holds s) (stage : Stage) → s.stage ≡ stage → Fits stage s.table → OperatorMay (action_at stage s.seen) s.table
    → IsMove (action_at stage s.seen) → work_left (operator_move stage s).to < work_left s
falls-operator s h (Works []) stage_is fits may move = absurd move
falls-operator s h (Works (Enters line ∷ deeds)) stage_is fits may move = (let stage = stage-at s _ stage_is in omega (arith, stage))
falls-operator s h (Works (Shows text ∷ deeds)) stage_is fits may move = absurd move
falls-operator s h (Works (Wakes place second due ∷ deeds)) stage_is fits may move =
    let none = not-awaiting s place second due h may fits.1.1 in
    falls-woken s place second due deeds (sleeper_at s.table.queues place) stage_is none (is-outside s h none may)
falls-operator s h (Works (Returns ∷ deeds)) stage_is fits may move =
    let stage = stage-at s _ stage_is in
    let tasks = same-table s (operator_resumed s.table) refl refl in
    let old = ap operator_weight (h.table.handed_operator fits.1) in
    let turn = ap turn_weight fits.1 in
    omega (arith, stage, tasks, old, turn)
falls-operator s h Closes stage_is fits may move =
    let stage = stage-at s _ stage_is in
    let tasks = same-table s (after_close s.table) refl refl in
    let few = few-turn (after_close s.table).turn in
    omega (arith, stage, tasks, few)
falls-operator s h Joins stage_is fits may move = falls-joins s h s.table.operator stage_is refl may
falls-operator s h (Tells place []) stage_is fits may move = (let stage = stage-at s _ stage_is in omega (arith, stage))
falls-operator s h (Tells place (name ∷ names)) stage_is fits may move = absurd move
falls-operator s h Ended stage_is fits may move = absurd move

-- ---- a task
module _ (s : TimeState) (h : Holds s) (place : ℕ) (one : place < 8) (going : ended_at s place ≡ false) where
  long : place < length s.ended
  long = (let eight = h.lists.1 in omega (arith, one, eight))

  long-left : place < length s.table.left
  long-left = (let eight = h.table.places in omega (arith, one, eight))

  long-queues : place < length s.table.queues
  long-queues = (let eight = h.table.queues in omega (arith, one, eight))

  falls-ended : has_left s.table place ≡ true → work_left (record s { ended = slice_set s.ended place true }) < work_left s
  falls-ended gone =
      let sum = one-task 8 place s.ended s.table (slice_set s.ended place true) s.table one others in
      let old : task_work_at s.ended s.table place ≡ 1 = rw (going, gone) refl in
      let new : task_work_at (slice_set s.ended place true) s.table place ≡ 0 = rw own refl in
      omega (arith, sum, old, new)
    where
      own : slice_index_or (slice_set s.ended place true) place true ≡ true
      own = (let below = long in rw get_or-set_same refl)

      others : (q : ℕ) → q ≢ place → task_work_at (slice_set s.ended place true) s.table q ≡ task_work_at s.ended s.table q
      others q other = rw get_or-set_other refl

  -- it leaves, and is in no queue behind it
  falls-leaves : (t : Table) → t.left ≡ s.table.left → t.operator ≡ s.table.operator → sleeper_at t.queues place ≡ None
      → ((q : ℕ) → q ≢ place → sleeper_at t.queues q ≡ sleeper_at s.table.queues q)
      → 4 ≤ task_work_at s.ended s.table place + turn_weight s.table.turn
      → work_left (record s { table = behind_leave t place }) < work_left s
  falls-leaves t left operator awake others_are was =
      let sum = one-task 8 place s.ended s.table s.ended (behind_leave t place) one others in
      let new : task_work_at s.ended (behind_leave t place) place ≡ 1 = rw (going, own) refl in
      let few = few-turn (behind_leave t place).turn in
      let o = ap operator_weight operator in
      omega (arith, sum, new, few, o, was)
    where
      own : has_left (behind_leave t place) place ≡ true
      own = rw left (let below = long-left in rw get_or-set_same refl)

      others : (q : ℕ) → q ≢ place → task_work_at s.ended (behind_leave t place) q ≡ task_work_at s.ended s.table q
      others q other = rw (others_are q other, left) (rw get_or-set_other refl)

  falls-resumes : (closed : Bool) (p : ℕ) → sleeper_at s.table.queues place ≡ Some p → has_left s.table place ≡ false → s.table.turn ≡ Handed (Task place)
      → work_left (record s { table = if closed then behind_leave (out_of_queue s.table place) place else out_of_queue s.table place }) < work_left s
  falls-resumes true p is here handed =
      falls-leaves (out_of_queue s.table place) refl refl out others
      (let old : task_work_at s.ended s.table place ≡ 3 = rw (going, here, is) refl in let turn = ap turn_weight handed in omega (arith, old, turn))
    where
      out : sleeper_at (slice_set s.table.queues place None) place ≡ None
      out = (let below = long-queues in rw get_or-set_same refl)

      others : (q : ℕ) → q ≢ place → sleeper_at (slice_set s.table.queues place None) q ≡ sleeper_at s.table.queues q
      others q other = rw get_or-set_other refl
  falls-resumes false p is here handed =
      let sum = one-task 8 place s.ended s.table s.ended (out_of_queue s.table place) one others in
      let old : task_work_at s.ended s.table place ≡ 3 = rw (going, here, is) refl in
      let new : task_work_at s.ended (out_of_queue s.table place) place ≡ 4 = rw (going, here, out) refl in
      let turn = ap turn_weight handed in
      omega (arith, sum, old, new, turn)
    where
      out : sleeper_at (slice_set s.table.queues place None) place ≡ None
      out = (let below = long-queues in rw get_or-set_same refl)

      others : (q : ℕ) → q ≢ place → task_work_at s.ended (out_of_queue s.table place) q ≡ task_work_at s.ended s.table q
      others q other = rw get_or-set_other refl

  falls-told : (stage : Stage) → s.stage ≡ stage → Fits stage s.table → s.table.awaited ≡ Some place
      → stage_weight (stage_told (waited.Starts s.table.second) stage) + 3 ≤ stage_weight s.stage
  falls-told (Works []) stage_is fits is = absurd (let none = fits.1 in let waits = (h.table.awaits place is).operator in cc)
  falls-told (Works (Enters line ∷ deeds)) stage_is fits is = absurd (let none = fits.1 in let waits = (h.table.awaits place is).operator in cc)
  falls-told (Works (Shows text ∷ deeds)) stage_is fits is = absurd (let none = fits.1 in let waits = (h.table.awaits place is).operator in cc)
  falls-told (Works (Wakes q second due ∷ deeds)) stage_is fits is = (let old = stage-at s _ stage_is in omega (arith, old))
  falls-told (Works (Returns ∷ deeds)) stage_is fits is =
      absurd (let handed = fits.1 in let free = (h.table.awaits place is).free in cc)
  falls-told Closes stage_is fits is = absurd (let none = fits.1 in let waits = (h.table.awaits place is).operator in cc)
  falls-told Joins stage_is fits is = absurd (let closed = fits in let not_closed = (h.table.awaits place is).open_yet in cc)
  falls-told (Tells q names) stage_is fits is = absurd (let closed = fits.0 in let not_closed = (h.table.awaits place is).open_yet in cc)
  falls-told Ended stage_is fits is = absurd (let closed = fits.0 in let not_closed = (h.table.awaits place is).open_yet in cc)

  falls-waits : (closed awaited : Bool) → sleeper_at s.table.queues place ≡ None → has_left s.table place ≡ false → s.table.turn ≡ Free
      → is_awaited s.table.awaited place ≡ awaited
      → work_left (waits (if closed then waited.Leaves else (if awaited then waited.Starts s.table.second else waited.Delayed)) s place).to < work_left s
  falls-waits true awaited is here free a =
      falls-leaves s.table refl refl is (λ q other. refl)
      (let old : task_work_at s.ended s.table place ≡ 4 = rw (going, here, is) refl in omega (arith, old))
  falls-waits false true is here free a =
      let stage = falls-told s.stage refl h.fits (awaited-is s.table.awaited place a) in
      let tasks = same-table s (behind_wait s.table place (waited.Starts s.table.second)) refl refl in
      let turn = ap turn_weight free in
      omega (arith, stage, tasks, turn)
  falls-waits false false is here free a =
      let sum = one-task 8 place s.ended s.table s.ended (behind_wait s.table place waited.Delayed) one others in
      let old : task_work_at s.ended s.table place ≡ 4 = rw (going, here, is) refl in
      let new : task_work_at s.ended (behind_wait s.table place waited.Delayed) place ≡ 3 = rw (going, here, within) refl in
      omega (arith, sum, old, new)
    where
      within : sleeper_at (slice_set s.table.queues place (Some (place + 2))) place ≡ Some (place + 2)
      within = (let below = long-queues in rw get_or-set_same refl)

      others : (q : ℕ) → q ≢ place → task_work_at s.ended (behind_wait s.table place waited.Delayed) q ≡ task_work_at s.ended s.table q
      others q other = rw get_or-set_other refl

  falls-task : (left : Bool) (held : Option ℕ) → has_left s.table place ≡ left → sleeper_at s.table.queues place ≡ held → TaskMay left s.table place
      → work_left (task_move left held s place).to < work_left s
  falls-task true held gone is may = falls-ended gone
  falls-task false (Some p) here is (inl free) = absurd (let none = free.0 in cc)
  falls-task false (Some p) here is (inr handed) = falls-resumes s.table.closed p is here handed
  falls-task false None here is (inl free) = falls-waits s.table.closed (is_awaited s.table.awaited place) is here free.1 refl
  falls-task false None here is (inr handed) = absurd (let there = h.table.handed place handed in cc)

-- ---- each event leaves less to do, but for what a typed line adds
falls-item : (s : TimeState) (line : Item) (keys : Option (List Item)) → Holds s → s.stage ≡ Works []
    → work_left (record (after_item s line) { keys = keys }) < work_left s + 90000000
falls-item s line keys h stage_is =
    let stage = stage-at s _ stage_is in
    let deeds = weight-line s.script (typed line) h.tasks in
    omega (arith, stage, deeds)

falls-accept : (s : TimeState) (answer : CardRead) → Holds s → s.stage ≡ Works []
    → work_left (after_accept s answer) < work_left s + 90000000 * length (item_of answer)
falls-accept s (read.Card line) h stage_is =
    (let falls = falls-item s (item.Line line) (keys_behind s.keys (read.Card line)) h stage_is in omega (arith, falls))
falls-accept s read.Spoiled h stage_is = (let falls = falls-item s item.Spoiled (keys_behind s.keys read.Spoiled) h stage_is in omega (arith, falls))
falls-accept s read.End h stage_is = (let stage = stage-at s _ stage_is in omega (arith, stage))
falls-accept s read.Failed h stage_is = (let stage = stage-at s _ stage_is in omega (arith, stage))
falls-accept s read.Limit h stage_is = (let stage = stage-at s _ stage_is in omega (arith, stage))

falls-stage : (stage : Stage) (seen : List (List ℕ)) (text : List ℕ) → action_at stage seen ≡ Prints text
    → (stage_weight (behind_display stage) < stage_weight stage) × (stage_weight (behind_fault stage) < stage_weight stage)
falls-stage (Works []) seen text is = absurd cc
falls-stage (Works (Enters line ∷ deeds)) seen text is = absurd cc
falls-stage (Works (Shows line ∷ deeds)) seen text is = (omega arith, omega arith)
falls-stage (Works (Wakes place second due ∷ deeds)) seen text is = absurd cc
falls-stage (Works (Returns ∷ deeds)) seen text is = absurd cc
falls-stage Closes seen text is = absurd cc
falls-stage Joins seen text is = absurd cc
falls-stage (Tells place []) seen text is = absurd cc
falls-stage (Tells place (name ∷ names)) seen text is = (omega arith, omega arith)
falls-stage Ended seen text is = absurd cc

falls-display : (s : TimeState) (fault : Option PrintFault) (now : Option (List ℕ)) (text : List ℕ) → action_at s.stage s.seen ≡ Prints text
    → work_left (after_display s fault now) < work_left s
falls-display s None now text is = (let falls = (falls-stage s.stage s.seen text is).0 in omega (arith, falls))
falls-display s (Some fault) now text is = (let falls = (falls-stage s.stage s.seen text is).1 in omega (arith, falls))

more-still : (a b c : ℕ) → a < b → c ≡ 0 → a < b + 90000000 * c
more-still a b c below none = omega (arith, below, none)

pub falls : (s : TimeState) (event : TimeEvent) → Holds s → MayHappen s event → work_left (occurs s event) < work_left s + 90000000 * lines_read event
falls s (Accepts answer) h is = falls-accept s answer h (reads-at s.stage s.seen is.0)
falls s (Displays fault now) h is = more-still _ _ 0 (falls-display s fault now is.0 is.1) refl
falls s (Moves zero how) h is = absurd is.0
falls s (Moves (suc zero) how) h is = more-still _ _ 0 (falls-operator s h s.stage refl h.fits is.0 is.1) refl
falls s (Moves (suc (suc place)) how) h is =
    more-still _ _ 0 (falls-task s h place is.0.0 is.0.1 (has_left s.table place) (sleeper_at s.table.queues place) refl refl is.0.2) refl
