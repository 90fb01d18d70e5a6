-- Each entry of the time table keeps it in order.
use Rattle.std.proofs.Common.{◌≡◌, ◌≢◌, inl, inr, ℕ, zero, suc, ◌+◌, ◌<◌, Bool, true, false, Option, None, Some, List, [], ◌∷◌, length, slice_set, get_or-set_other, get_or-set_same, refl, sym, ◌∙◌, ap, subst, arith}
use Rattle.std.specs.List.{AllByRecursion}
use Rattle.std.proofs.lemmas.List.{length-set}
use Rattle.std.proofs.lemmas.Bool.Decides.{eqb_tells}
use Rattle.queue_var.specs.declared.turn.Turn.TheVariants.{Free, Handed}
use Rattle.real_time.specs.declared.table.Seat.TheVariants.{Operator, Task}
use Rattle.real_time.specs.declared.table.Woken.TheVariants as woken
use Rattle.real_time.specs.declared.table.Waited.TheVariants as waited
use Rattle.real_time.specs.Table.{Table, after_close, behind_wait, after_wake, all_left, behind_leave, empty_table, first_asleep, handed_on, has_left, sleeper_at, operator_resumed, out_of_queue, next_turn}
use Rattle.real_time.specs.Orderly.{IsOrderly, IsAwaited}
use Rattle.std.specs.Prelude.{slice_index_or}

-- ---- of queues
none-in : (queues : List (Option ℕ)) → AllByRecursion (λ held. held ≡ None) queues → (place : ℕ) → sleeper_at queues place ≡ None
none-in [] all place = refl
none-in (held ∷ queues) all zero = all.0
none-in (held ∷ queues) all (suc place) = none-in queues all.1 place

none-left : (left : List Bool) → AllByRecursion (λ l. l ≡ false) left → (t : Table) → t.left ≡ left → (place : ℕ) → has_left t place ≡ false
none-left left all t is place = rw is (found left all place)
  where
    found : (left : List Bool) → AllByRecursion (λ l. l ≡ false) left → (place : ℕ) → slice_index_or left place false ≡ false
    found [] all place = refl
    found (l ∷ left) all zero = all.0
    found (l ∷ left) all (suc place) = found left all.1 place

-- the place that is found has a process, and where none is found nobody sleeps
found-asleep : (queues : List (Option ℕ)) (n place : ℕ) → first_asleep n queues ≡ Some place → (i p : ℕ) × (place ≡ n + i) × (sleeper_at queues i ≡ Some p)
found-asleep [] n place found = absurd cc
found-asleep (None ∷ queues) n place found =
    let (i, p, is, there) = found-asleep queues (suc n) place found in
    (suc i, p, omega (arith, is), there)
found-asleep (Some p ∷ queues) n place found = (0, p, (let same : n ≡ place = cc in omega (arith, same)), refl)

nobody-asleep : (queues : List (Option ℕ)) (n : ℕ) → first_asleep n queues ≡ None → (i : ℕ) → sleeper_at queues i ≡ None
nobody-asleep [] n none i = refl
nobody-asleep (None ∷ queues) n none zero = refl
nobody-asleep (None ∷ queues) n none (suc i) = nobody-asleep queues (suc n) none i
nobody-asleep (Some p ∷ queues) n none i = absurd cc

-- ---- who goes next
turn-task : (found operator : Option ℕ) (place : ℕ) → next_turn found operator ≡ Handed (Task place) → found ≡ Some place
turn-task (Some q) operator place e = cc
turn-task None (Some p) place e = absurd cc
turn-task None None place e = absurd cc

turn-operator : (found operator : Option ℕ) → next_turn found operator ≡ Handed Operator → (p : ℕ) × (operator ≡ Some p)
turn-operator (Some q) operator e = absurd cc
turn-operator None (Some p) e = (p, refl)
turn-operator None None e = absurd cc

turn-free : (found operator : Option ℕ) → next_turn found operator ≡ Free → (operator ≡ None) × (found ≡ None)
turn-free (Some q) operator e = absurd cc
turn-free None (Some p) e = absurd cc
turn-free None None e = (refl, refl)

-- a closed table before it hands its turn on
record IsLeft (t : Table) : Type 0 where
  queues : length t.queues ≡ 8
  places : length t.left ≡ 8
  own : (place p : ℕ) → sleeper_at t.queues place ≡ Some p → p ≡ place + 2
  operator : (p : ℕ) → t.operator ≡ Some p → p ≡ 1
  unawaited : t.awaited ≡ None
  gone : (place : ℕ) → has_left t place ≡ true → (sleeper_at t.queues place ≡ None) × (t.closed ≡ true)
  closed : t.closed ≡ true

hands-on : (t : Table) → IsLeft t → IsOrderly (handed_on t)
hands-on t h = record {
  queues = h.queues;
  places = h.places;
  own = h.own;
  operator = h.operator;
  handed = λ place is.
      let (i, p, at, there) = found-asleep t.queues 0 place (turn-task (first_asleep 0 t.queues) t.operator place is) in
      let same : place ≡ i = omega (arith, at) in
      rw same (there ∙ ap Some (h.own i p there));
  handed_operator = λ is. (let (p, there) = turn-operator (first_asleep 0 t.queues) t.operator is in there ∙ ap Some (h.operator p there));
  outside = λ place is not_closed. absurd (let c = h.closed in cc);
  awaits = λ place is. absurd (let no = h.unawaited in cc);
  waits = λ is free. absurd (let none = (turn-free (first_asleep 0 t.queues) t.operator free).0 in cc);
  gone = h.gone;
  all_go = λ c place p there. next place p there (first_asleep 0 t.queues) refl;
}
  where
    next : (place p : ℕ) → sleeper_at t.queues place ≡ Some p → (found : Option ℕ) → first_asleep 0 t.queues ≡ found
        → (q : ℕ) × (next_turn (first_asleep 0 t.queues) t.operator ≡ Handed (Task q))
    next place p there (Some q) e = (q, rw e refl)
    next place p there None e = absurd (let none = nobody-asleep t.queues 0 e place in cc)

-- ---- at the opening
pub opens : IsOrderly empty_table
opens = record {
  queues = refl;
  places = refl;
  own = λ place p is. absurd (let none = nobody place in cc);
  operator = λ p is. absurd cc;
  handed = λ place is. absurd cc;
  handed_operator = λ is. absurd cc;
  outside = λ place is not_closed. absurd cc;
  awaits = λ place is. absurd cc;
  waits = λ is free. absurd cc;
  gone = λ place is. absurd (let no = none-left empty_table.left (refl, (refl, (refl, (refl, (refl, (refl, (refl, (refl, tt)))))))) empty_table refl place in
      cc);
  all_go = λ closed place p is. absurd cc;
}
  where
    nobody : (place : ℕ) → sleeper_at empty_table.queues place ≡ None
    nobody place = none-in empty_table.queues (refl, (refl, (refl, (refl, (refl, (refl, (refl, (refl, tt)))))))) place

-- ---- the operator's entries
module _ (t : Table) (o : IsOrderly t) (free : t.turn ≡ Free) (inside : t.operator ≡ None) where
  nobody-awaited : (awaited : Option ℕ) → t.awaited ≡ awaited → awaited ≡ None
  nobody-awaited None is = refl
  nobody-awaited (Some place) is = absurd (let waits = (o.awaits place is).operator in cc)

  pub continues : (place p second : ℕ) → sleeper_at t.queues place ≡ Some p → IsOrderly (after_wake t place second woken.Continued)
  continues place p second there = record {
    queues = o.queues;
    places = o.places;
    own = o.own;
    operator = o.operator;
    handed = λ q is. (let same : place ≡ q = cc in rw (← same) (there ∙ ap Some (o.own place p there)));
    handed_operator = λ is. absurd cc;
    outside = λ q is not_closed. inside;
    awaits = λ q is. absurd (let waits = (o.awaits q is).operator in cc);
    waits = λ is not_free. absurd cc;
    gone = o.gone;
    all_go = λ closed q r is. (place, refl);
  }

  pub awaits : (place second : ℕ) → place < 8 → sleeper_at t.queues place ≡ None → has_left t place ≡ false → t.closed ≡ false
      → IsOrderly (after_wake t place second woken.Delayed)
  awaits place second below awake here not_closed = record {
    queues = o.queues;
    places = o.places;
    own = o.own;
    operator = λ p is. (let same : 1 ≡ p = cc in sym same);
    handed = λ q is. absurd cc;
    handed_operator = λ is. absurd cc;
    outside = λ q is c. absurd cc;
    awaits = λ q is. (let same : place ≡ q = cc in subst (IsAwaited (after_wake t place second woken.Delayed)) same (record {
      one = below;
      awake = awake;
      here = here;
      open_yet = not_closed;
      operator = refl;
      free = free;
    }));
    waits = λ is f. inl (place, refl);
    gone = o.gone;
    all_go = λ closed q r is. absurd cc;
  }

  pub closes : IsOrderly (after_close t)
  closes = hands-on (record t { closed = true }) record {
    queues = o.queues;
    places = o.places;
    own = o.own;
    operator = o.operator;
    unawaited = nobody-awaited t.awaited refl;
    gone = λ place is. ((o.gone place is).0, refl);
    closed = refl;
  }

  pub joins : t.closed ≡ true → all_left t ≡ false → IsOrderly (record t { operator = Some 1 })
  joins closed some = record {
    queues = o.queues;
    places = o.places;
    own = o.own;
    operator = λ p is. (let same : 1 ≡ p = cc in sym same);
    handed = o.handed;
    handed_operator = λ is. refl;
    outside = λ q is c. absurd cc;
    awaits = λ q is. absurd (let none = nobody-awaited t.awaited refl in cc);
    waits = λ is f. inr (closed, some);
    gone = o.gone;
    all_go = o.all_go;
  }

pub operator-resumes : (t : Table) → IsOrderly t → t.turn ≡ Handed Operator → IsOrderly (operator_resumed t)
operator-resumes t o handed = record {
  queues = o.queues;
  places = o.places;
  own = o.own;
  operator = λ p is. absurd cc;
  handed = λ q is. absurd cc;
  handed_operator = λ is. absurd cc;
  outside = λ q is c. refl;
  awaits = λ q is. absurd (let free = (o.awaits q is).free in cc);
  waits = λ is f. absurd cc;
  gone = o.gone;
  all_go = λ closed q r is. absurd (let next = (o.all_go closed q r is).1 in cc);
}

-- ---- a task's entries
set-in : (queues : List (Option ℕ)) (place : ℕ) (held : Option ℕ) → place < length queues → sleeper_at (slice_set queues place held) place ≡ held
set-in queues place held below = rw get_or-set_same refl

set-out : (queues : List (Option ℕ)) (place q : ℕ) (held : Option ℕ) → q ≢ place → sleeper_at (slice_set queues place held) q ≡ sleeper_at queues q
set-out queues place q held other = rw get_or-set_other refl

left-out : (left : List Bool) (place q : ℕ) (l : Bool) → q ≢ place → slice_index_or (slice_set left place l) q false ≡ slice_index_or left q false
left-out left place q l other = rw get_or-set_other refl

-- a task leaves that is in no queue
leaves-table : (t : Table) (place : ℕ) → length t.queues ≡ 8 → length t.left ≡ 8 → ((q p : ℕ) → sleeper_at t.queues q ≡ Some p → p ≡ q + 2)
    → ((p : ℕ) → t.operator ≡ Some p → p ≡ 1) → t.awaited ≡ None
    → ((q : ℕ) → has_left t q ≡ true → (sleeper_at t.queues q ≡ None) × (t.closed ≡ true)) → t.closed ≡ true → sleeper_at t.queues place ≡ None
    → IsOrderly (behind_leave t place)
leaves-table t place queues places own operator unawaited gone closed awake = hands-on (record t { left = slice_set t.left place true }) record {
  queues = queues;
  places = length-set t.left place true ∙ places;
  own = own;
  operator = operator;
  unawaited = unawaited;
  gone = λ q is. elim (eqb_tells q place) as (λ _. (sleeper_at t.queues q ≡ None) × (t.closed ≡ true)) [
    | inl same ↦ ((let is = same.1 in rw is awake), closed)
    | inr other ↦ gone q (sym (left-out t.left place q true other.1) ∙ is)
  ];
  closed = closed;
}

module _ (t : Table) (o : IsOrderly t) (place : ℕ) (one : place < 8) where
  -- in no queue, and the turn is free
  module _ (free : t.turn ≡ Free) (awake : sleeper_at t.queues place ≡ None) where
    closed-unawaited : t.closed ≡ true → (awaited : Option ℕ) → t.awaited ≡ awaited → awaited ≡ None
    closed-unawaited closed None is = refl
    closed-unawaited closed (Some q) is = absurd (let not_closed = (o.awaits q is).open_yet in cc)

    pub leaves : t.closed ≡ true → IsOrderly (behind_wait t place waited.Leaves)
    leaves closed =
        leaves-table t place o.queues o.places o.own o.operator (closed-unawaited closed t.awaited refl) o.gone closed awake

    pub starts : (second : ℕ) → t.awaited ≡ Some place → IsOrderly (behind_wait t place (waited.Starts second))
    starts second is =
        let awaited = o.awaits place is in
        record {
          queues = o.queues;
          places = o.places;
          own = o.own;
          operator = o.operator;
          handed = λ q e. absurd cc;
          handed_operator = λ e. awaited.operator;
          outside = λ q e c. absurd cc;
          awaits = λ q e. absurd cc;
          waits = λ e f. absurd cc;
          gone = o.gone;
          all_go = λ closed q r e. absurd (let not_closed = awaited.open_yet in cc);
        }

    pub sleeps : t.closed ≡ false → (t.awaited ≡ Some place → ⊥) → IsOrderly (behind_wait t place waited.Delayed)
    sleeps not_closed unawaited = record {
      queues = length-set t.queues place (Some (place + 2)) ∙ o.queues;
      places = o.places;
      own = λ q p is. elim (eqb_tells q place) as (λ _. p ≡ q + 2) [
        | inl same ↦ (let is_place = same.1 in
            let held = set-in t.queues place (Some (place + 2)) (rw o.queues one) in
            let there = subst (λ r. sleeper_at (slice_set t.queues place (Some (place + 2))) r ≡ Some p) is_place is in
            let e : place + 2 ≡ p = cc in rw is_place (sym e))
        | inr other ↦ o.own q p (sym (set-out t.queues place q (Some (place + 2)) other.1) ∙ is)
      ];
      operator = o.operator;
      handed = λ q e. absurd cc;
      handed_operator = λ e. absurd cc;
      outside = λ q e c. absurd cc;
      awaits = λ q e.
          let awaited = o.awaits q e in
          let other : q ≢ place = λ same. unawaited (e ∙ ap Some same) in
          record {
            one = awaited.one;
            awake = set-out t.queues place q (Some (place + 2)) other ∙ awaited.awake;
            here = awaited.here;
            open_yet = not_closed;
            operator = awaited.operator;
            free = free;
          };
      waits = o.waits;
      gone = λ q e. absurd (let closed = (o.gone q e).1 in cc);
      all_go = λ closed q r e. absurd cc;
    }

  -- the turn was handed to it
  module _ (handed : t.turn ≡ Handed (Task place)) where
    own-out : (q p : ℕ) → sleeper_at (slice_set t.queues place None) q ≡ Some p → (sleeper_at t.queues q ≡ Some p) × (q ≢ place)
    own-out q p is = elim (eqb_tells q place) as (λ _. (sleeper_at t.queues q ≡ Some p) × (q ≢ place)) [
      | inl same ↦ absurd (let is_place = same.1 in
          let held = set-in t.queues place None (rw o.queues one) in
          let there = subst (λ r. sleeper_at (slice_set t.queues place None) r ≡ Some p) is_place is in cc)
      | inr other ↦ (sym (set-out t.queues place q None other.1) ∙ is, other.1)
    ]

    gone-out : (q : ℕ) → has_left t q ≡ true → (sleeper_at (slice_set t.queues place None) q ≡ None) × (t.closed ≡ true)
    gone-out q is =
        let gone = o.gone q is in (
          elim (eqb_tells q place) as (λ _. sleeper_at (slice_set t.queues place None) q ≡ None) [
            | inl same ↦ (let is_place = same.1 in rw is_place (set-in t.queues place None (rw o.queues one)))
            | inr other ↦ set-out t.queues place q None other.1 ∙ gone.0
          ],
          gone.1,
        )

    unawaited-out : (awaited : Option ℕ) → t.awaited ≡ awaited → awaited ≡ None
    unawaited-out None is = refl
    unawaited-out (Some q) is = absurd (let free = (o.awaits q is).free in cc)

    pub resumes : t.closed ≡ false → IsOrderly (out_of_queue t place)
    resumes not_closed =
        let none = o.outside place handed not_closed in
        record {
          queues = length-set t.queues place None ∙ o.queues;
          places = o.places;
          own = λ q p is. o.own q p (own-out q p is).0;
          operator = o.operator;
          handed = λ q e. absurd cc;
          handed_operator = λ e. absurd cc;
          outside = λ q e c. absurd cc;
          awaits = λ q e. absurd (let free = (o.awaits q e).free in cc);
          waits = λ e f. absurd cc;
          gone = λ q e. gone-out q e;
          all_go = λ closed q r e. absurd cc;
        }

    pub resumes-leaving : t.closed ≡ true → IsOrderly (behind_leave (out_of_queue t place) place)
    resumes-leaving closed =
        leaves-table (out_of_queue t place) place (length-set t.queues place None ∙ o.queues) o.places (λ q p is. o.own q p (own-out q p is).0) o.operator
        (unawaited-out t.awaited refl) gone-out closed (set-in t.queues place None (rw o.queues one))
