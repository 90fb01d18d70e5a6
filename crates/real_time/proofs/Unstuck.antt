-- No reached state is stuck, and what else the law is before its network is run.
use Rattle.std.proofs.Common.{◌≡◌, ◌⊎◌, inl, inr, ℕ, zero, suc, ◌+◌, ◌<◌, Bool, true, false, Option, None, Some, List, [], ◌∷◌, length, refl, sym, ◌∙◌, ap, subst, arith}
use Rattle.std.specs.Prelude.{slice_index_or}
use Rattle.std.specs.List.{list_all}
use Rattle.network_run.specs.Law.{IsOne, IsReached, NoneGoes, AllEnded}
use Rattle.network_run.specs.Sound.{IsSoundLaw}
use Rattle.queue_var.specs.declared.turn.Turn.{Turn}
use Rattle.queue_var.specs.declared.turn.Turn.TheVariants.{Free, Handed}
use Rattle.real_time.specs.declared.table.Seat.{Seat}
use Rattle.real_time.specs.declared.table.Seat.TheVariants.{Operator, Task}
use Rattle.real_time.specs.Table.{Table, MayComeIn, has_left, sleeper_at}
use Rattle.real_time.specs.Deeds.{Enters, Shows, Wakes, Returns}
use Rattle.real_time.specs.States.{Stage, Works, Closes, Joins, Tells, Ended, TimeState, Opening, opened, ended_at, action_at, TimeEvent, Accepts, Displays, Moves, process_of, OperatorMay, TaskMay, MayMove, HasEnded, MayHappen}
use Rattle.real_time.specs.TimesLaw.{timing}
use Rattle.real_time.proofs.Reaching.{Holds, Fits, holds}

-- a place at which something is lies in the list
in-list : (queues : List (Option ℕ)) (place p : ℕ) → sleeper_at queues place ≡ Some p → place < length queues
in-list [] place p is = absurd cc
in-list (held ∷ queues) zero p is = omega arith
in-list (held ∷ queues) (suc place) p is = (let below = in-list queues place p is in omega (arith, below))

-- who has not left
not-all : (left : List Bool) → list_all (λ l. l) left ≡ false → (place : ℕ) × (place < length left) × (slice_index_or left place false ≡ false)
not-all [] some = absurd cc
not-all (false ∷ left) some = (0, omega arith, refl)
not-all (true ∷ left) some = (let (place, below, is) = not-all left some in (suc place, omega (arith, below), is))

all-at : (left : List Bool) (place : ℕ) → list_all (λ l. l) left ≡ true → place < length left → slice_index_or left place false ≡ true
all-at [] place all below = absurd (omega (arith, below))
all-at (true ∷ left) zero all below = refl
all-at (true ∷ left) (suc place) all below = all-at left place all (omega (arith, below))
all-at (false ∷ left) place all below = absurd cc

module _ (s : TimeState) (h : Holds s) (none : NoneGoes timing s) where
  one-task : (place : ℕ) → place < 8 → IsOne timing (suc (suc place))
  one-task place below = (omega arith, omega (arith, below))

  -- a task that has not left hasn't ended
  not-ended : (place : ℕ) → place < 8 → has_left s.table place ≡ false → (ended : Bool) → ended_at s place ≡ ended → ended ≡ false
  not-ended place below is false e = refl
  not-ended place below is true e = absurd (let left = h.ends place below e in cc)

  -- a task that has not left may not enter
  no-task : (place : ℕ) → place < 8 → has_left s.table place ≡ false → MayComeIn s.table (Task place) → ⊥
  no-task place below is may =
      none (suc (suc place)) (one-task place below)
      (below, not-ended place below is (ended_at s place) refl, subst (λ left. TaskMay left s.table place) (sym is) may)

  no-operator : OperatorMay (action_at s.stage s.seen) s.table → ⊥
  no-operator may = none 1 (omega arith, omega arith) may

  handed-task : (place : ℕ) → s.table.turn ≡ Handed (Task place) → ⊥
  handed-task place is =
      let there = h.table.handed place is in
      let within = in-list s.table.queues place _ there in
      let below : place < 8 = (let eight = h.table.queues in omega (arith, within, eight)) in
      no-task place below (here (has_left s.table place) refl there) (inr is)
    where
      here : (left : Bool) → has_left s.table place ≡ left → sleeper_at s.table.queues place ≡ Some (place + 2) → left ≡ false
      here false e there = refl
      here true e there = absurd (let out = (h.table.gone place e).0 in cc)

  -- one that is awake may enter where the turn is free
  awake-task : (place : ℕ) → place < 8 → has_left s.table place ≡ false → sleeper_at s.table.queues place ≡ None → s.table.turn ≡ Free → ⊥
  awake-task place below here awake free = no-task place below here (inl (awake, free))

  handed-operator : (stage : Stage) → Fits stage s.table → s.table.turn ≡ Handed Operator → (OperatorMay (action_at stage s.seen) s.table → ⊥) → ⊥
  handed-operator (Works []) fits is never = never tt
  handed-operator (Works (Enters line ∷ deeds)) fits is never = never (inr is)
  handed-operator (Works (Shows text ∷ deeds)) fits is never = never tt
  handed-operator (Works (Wakes place second due ∷ deeds)) fits is never = never (inr is)
  handed-operator (Works (Returns ∷ deeds)) fits is never = never (inr is)
  handed-operator Closes fits is never = never (inr is)
  handed-operator Joins fits is never = never (inr is)
  handed-operator (Tells place []) fits is never = never tt
  handed-operator (Tells place (name ∷ names)) fits is never = never tt
  handed-operator Ended fits is never = (let outside = fits.1 in let waits = h.table.handed_operator is in cc)

  -- in a join
  free-join : (operator : Option ℕ) → s.table.operator ≡ operator → s.table.closed ≡ true → s.table.turn ≡ Free → (MayComeIn s.table Operator → ⊥) → ⊥
  free-join None is closed free never = never (inl (is, free))
  free-join (Some p) is closed free never =
      let first : s.table.operator ≡ Some 1 = is ∙ ap Some (h.table.operator p is) in
      elim (h.table.waits first free) as (λ _. ⊥) [
        | inl waits ↦ (let not_closed = (h.table.awaits waits.0 waits.1).open_yet in cc)
        | inr joins ↦
            (let (place, within, here) = not-all s.table.left joins.1 in
            let below : place < 8 = (let eight = h.table.places in omega (arith, within, eight)) in
            awake-task place below here (asleep place closed (sleeper_at s.table.queues place) refl) free)
      ]
    where
      asleep : (place : ℕ) → s.table.closed ≡ true → (held : Option ℕ) → sleeper_at s.table.queues place ≡ held → held ≡ None
      asleep place closed None e = refl
      asleep place closed (Some p) e = absurd (let handed = (h.table.all_go closed place p e).1 in cc)

  free-operator : (stage : Stage) → Fits stage s.table → s.table.turn ≡ Free → (OperatorMay (action_at stage s.seen) s.table → ⊥) → stage ≡ Ended
  free-operator (Works []) fits free never = absurd (never tt)
  free-operator (Works (Enters line ∷ deeds)) fits free never = absurd (never (inl (fits.1, free)))
  free-operator (Works (Shows text ∷ deeds)) fits free never = absurd (never tt)
  free-operator (Works (Wakes place second due ∷ deeds)) fits free never = absurd (by fits.1.1)
    where
      by : ((s.table.operator ≡ None) ⊎ ((s.table.awaited ≡ Some place) × (due ≡ true) × (s.table.second ≡ second))) → ⊥
      by (inl outside) = never (inl (outside, free))
      by (inr waits) = (let awaited = h.table.awaits place waits.0 in awake-task place awaited.one awaited.here awaited.awake free)
  free-operator (Works (Returns ∷ deeds)) fits free never = absurd (let handed = fits.1 in cc)
  free-operator Closes fits free never = absurd (never (inl (fits.1, free)))
  free-operator Joins fits free never = absurd (free-join s.table.operator refl fits free never)
  free-operator (Tells place []) fits free never = absurd (never tt)
  free-operator (Tells place (name ∷ names)) fits free never = absurd (never tt)
  free-operator Ended fits free never = refl

  -- where the operator has ended all have left
  ended-task : (place : ℕ) → place < 8 → s.stage ≡ Ended → (ended : Bool) → ended_at s place ≡ ended → ended ≡ true
  ended-task place below is true e = refl
  ended-task place below is false e =
      let fits = subst (λ stage. Fits stage s.table) is h.fits in
      let left = all-at s.table.left place fits.2 (let eight = h.table.places in omega (arith, below, eight)) in
      absurd (none (suc (suc place)) (one-task place below) (below, e, subst (λ l. TaskMay l s.table place) (sym left) tt))

  all-ended : s.table.turn ≡ Free → AllEnded timing s
  all-ended free zero one = absurd (let some = one.0 in omega (arith, some))
  all-ended free (suc zero) one = free-operator s.stage h.fits free no-operator
  all-ended free (suc (suc place)) one =
      let most = one.1 in
      ended-task place (omega (arith, most)) (free-operator s.stage h.fits free no-operator) (ended_at s place) refl

  none-stuck : (turn : Turn Seat) → s.table.turn ≡ turn → AllEnded timing s
  none-stuck Free is = all-ended is
  none-stuck (Handed Operator) is = absurd (handed-operator s.stage h.fits is no-operator)
  none-stuck (Handed (Task place)) is = absurd (handed-task place is)

pub never-stuck : (o : Opening) (s : TimeState) → IsReached timing (opened o) s → NoneGoes timing s → AllEnded timing s
never-stuck o s reached none = none-stuck s (holds o s reached) none s.table.turn refl

-- ---- who goes on
not-ended-goes : (stage : Stage) (seen : List (List ℕ)) (table : Table) → OperatorMay (action_at stage seen) table → stage ≡ Ended → ⊥
not-ended-goes stage seen table may is = subst (λ stage. OperatorMay (action_at stage seen) table) is may

goers-are : (s : TimeState) (p : ℕ) → MayMove s p → IsOne timing p × (HasEnded s p → ⊥)
goers-are s zero may = absurd may
goers-are s (suc zero) may = ((omega arith, omega arith), not-ended-goes s.stage s.seen s.table may)
goers-are s (suc (suc place)) may =
    let below = may.0 in
    ((omega arith, omega (arith, below)), λ ended. (let not_ended = may.1 in cc))

enabled-go : (s : TimeState) (event : TimeEvent) → MayHappen s event → MayMove s (process_of event)
enabled-go s (Accepts answer) is = subst (λ next. OperatorMay next s.table) (sym is.0) tt
enabled-go s (Displays fault now) is = subst (λ next. OperatorMay next s.table) (sym is.1) tt
enabled-go s (Moves p how) is = is.0

pub sound : IsSoundLaw timing
sound = record {
  few = omega arith;
  goers = goers-are;
  enabled_go = enabled-go;
  never_stuck = never-stuck;
  granted = λ o s event reached is. refl;
}
