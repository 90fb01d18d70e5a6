-- A call may wake one that sleeps, and a delay puts one to sleep. At six buffers and the desk few can sleep.
use Rattle.std.proofs.Common.{◌≡◌, ◌⊎◌, inl, inr, ℕ, zero, suc, ◌+◌, ◌≤◌, ◌==◌, Bool, true, false, if◌then◌else◌, List, [], ◌∷◌, length, length-append, Option, None, Some, refl, sym, ◌∙◌, ap, arith}
use Rattle.std.specs.List.{AllByRecursion}
use Rattle.std.proofs.lemmas.Bool.{eqb-true, eq-eqb}
use Rattle.queue_var.specs.declared.turn.Turn.{Turn}
use Rattle.queue_var.specs.declared.turn.Turn.TheVariants.{Free, Handed}
use Rattle.queue_var.specs.Sides.{Sides, MayEnter, MayStop, entered, delayed}
use Rattle.resource_mon.specs.Claims.{later_of, IsNoneOf, EachOnce}
use Rattle.network_law.specs.Acts.{Call, Alone, At, Asks, Gives, Visit, Awaits, Passes, Moves, Stops, Went, Delayed, Told, Done, Moved, is_delayed}
use Rattle.network_law.specs.Buffer.{Buffer, after_visit, MayVisit, VisitFits}
use Rattle.network_law.specs.Desk.{Desk, after_asking, after_grant}
use Rattle.solo_base.specs.declared.outcome.Side.{Side}
use Rattle.solo_base.specs.declared.outcome.Side.TheVariants.{Sender, Receiver}
use Rattle.page_codec.specs.Packing.{fits}
use Rattle.batch_procs.specs.Parcels.{mark}
use Rattle.twin_law.specs.Twin.{went}

-- ---- who sleeps: it waits in a queue, and the turn is not handed to it
abbrev pub sleeps : Side → Turn Side → Option ℕ → ℕ
sleeps side turn None = 0
sleeps Sender (Handed Sender) (Some p) = 0
sleeps Receiver (Handed Receiver) (Some p) = 0
sleeps side turn (Some p) = 1

abbrev pub sleepers_at : Sides → ℕ
sleepers_at sides = sleeps Sender sides.turn sides.sender + sleeps Receiver sides.turn sides.receiver

-- ---- a list without its first n
abbrev without : ℕ → List ℕ → List ℕ
without n [] = []
without n (x ∷ xs) = if x == n then xs else x ∷ without n xs

abbrev pub AreUpTo : ℕ → List ℕ → Type 0
AreUpTo n xs = AllByRecursion (λ x. (1 ≤ x) × (x ≤ n)) xs

module _ (n : ℕ) where
  shorter : (xs : List ℕ) → length xs ≤ suc (length (without n xs))
  shorter [] = omega arith
  shorter (x ∷ xs) =
      let P : Bool → Type 0 = λ t. length (x ∷ xs) ≤ suc (length (if t then xs else x ∷ without n xs)) in
      elim (x == n) as P [ true ↦ omega arith | false ↦ (let rest = shorter xs in omega (arith, rest)) ]

  still-none : (xs : List ℕ) (q : ℕ) → IsNoneOf xs q → IsNoneOf (without n xs) q
  still-none [] q none = tt
  still-none (x ∷ xs) q none =
      let P : Bool → Type 0 = λ t. IsNoneOf (if t then xs else x ∷ without n xs) q in
      elim (x == n) as P [ true ↦ none.1 | false ↦ (none.0, still-none xs q none.1) ]

  still-once : (xs : List ℕ) → EachOnce xs → EachOnce (without n xs)
  still-once [] once = tt
  still-once (x ∷ xs) once =
      let P : Bool → Type 0 = λ t. EachOnce (if t then xs else x ∷ without n xs) in
      elim (x == n) as P [ true ↦ once.1 | false ↦ (still-none xs x once.0, still-once xs once.1) ]

-- the largest stands once, so the others are below it
others-below : (n : ℕ) (xs : List ℕ) (x : ℕ) → x ≡ suc n → IsNoneOf xs x → AreUpTo (suc n) xs → AreUpTo n xs
others-below n [] x e none are = tt
others-below n (q ∷ xs) x e none are =
    let differ : q ≡ suc n → ⊥ = λ same. none.0 (same ∙ sym e) in
    ((are.0.0, (let most = are.0.1 in omega (arith, most, differ))), others-below n xs x e none.1 are.1)

module _ (n : ℕ) where
  below : (xs : List ℕ) → EachOnce xs → AreUpTo (suc n) xs → AreUpTo n (without (suc n) xs)
  below [] once are = tt
  below (x ∷ xs) once are =
      let P : Bool → Type 0 = λ t. (x == suc n) ≡ t → AreUpTo n (if t then xs else x ∷ without (suc n) xs) in
      elim (x == suc n) as P [
        | true ↦ (λ e. others-below n xs x (eqb-true x (suc n) e) once.0 are.1)
        | false ↦ (λ e.
            let differ : x ≡ suc n → ⊥ = λ same. (let yes = eq-eqb x (suc n) same in cc) in
            ((are.0.0, (let most = are.0.1 in omega (arith, most, differ))), below xs once.1 are.1))
      ] refl

-- of numbers from 1 to n that stand once there are at most n
pub at-most : (n : ℕ) (xs : List ℕ) → EachOnce xs → AreUpTo n xs → length xs ≤ n
at-most zero [] once are = omega arith
at-most zero (x ∷ xs) once are = (let low = are.0.0 in let high = are.0.1 in absurd (omega (arith, low, high)))
at-most (suc n) xs once are =
    let rest = at-most n (without (suc n) xs) (still-once (suc n) xs once) (below n xs once are) in
    let more = shorter (suc n) xs in
    omega (arith, rest, more)

-- ---- no more than there are queues
pub sleeps-most : (side : Side) (turn : Turn Side) (q : Option ℕ) → sleeps side turn q ≤ 1
sleeps-most side turn None = omega arith
sleeps-most Sender (Handed Sender) (Some p) = omega arith
sleeps-most Sender (Handed Receiver) (Some p) = omega arith
sleeps-most Sender Free (Some p) = omega arith
sleeps-most Receiver (Handed Sender) (Some p) = omega arith
sleeps-most Receiver (Handed Receiver) (Some p) = omega arith
sleeps-most Receiver Free (Some p) = omega arith

module _ (Parcel : Type 0) where
  -- ---- what a call wakes
  abbrev pub moves : Went Parcel → ℕ
  moves (Moved parcel) = 1
  moves went = 0

  abbrev pub visit_wakes : Visit → Went Parcel → ℕ
  visit_wakes Awaits went = moves went
  visit_wakes Passes went = moves went
  visit_wakes Moves went = moves went
  visit_wakes Stops went = 1

  abbrev pub wakes : Call → Went Parcel → ℕ
  wakes Alone went = 0
  wakes (At b side visit) went = visit_wakes visit went
  wakes Asks went = 0
  wakes Gives went = 1

  -- a delay puts one to sleep; any other call wakes at most so many
  abbrev pub Slept : Bool → ℕ → ℕ → ℕ → Type 0
  Slept true n before after = after ≡ before + 1
  Slept false n before after = before ≤ after + n

  abbrev counted : Option ℕ → ℕ
  counted None = 0
  counted (Some q) = 1

  -- ---- who enters doesn't sleep
  enter-sender : (turn : Turn Side) (s r : Option ℕ) (p : ℕ) → ((turn ≡ Free) × (s ≡ None)) ⊎ ((turn ≡ Handed Sender) × (s ≡ Some p))
      → sleeps Sender turn s + sleeps Receiver turn r ≡ counted r
  enter-sender turn s None p (inl e) = rw (e.0, e.1) refl
  enter-sender turn s (Some q) p (inl e) = rw (e.0, e.1) refl
  enter-sender turn s None p (inr e) = rw (e.0, e.1) refl
  enter-sender turn s (Some q) p (inr e) = rw (e.0, e.1) refl

  enter-receiver : (turn : Turn Side) (s r : Option ℕ) (p : ℕ) → ((turn ≡ Free) × (r ≡ None)) ⊎ ((turn ≡ Handed Receiver) × (r ≡ Some p))
      → sleeps Sender turn s + sleeps Receiver turn r ≡ counted s
  enter-receiver turn None r p (inl e) = rw (e.0, e.1) refl
  enter-receiver turn (Some q) r p (inl e) = rw (e.0, e.1) refl
  enter-receiver turn None r p (inr e) = rw (e.0, e.1) refl
  enter-receiver turn (Some q) r p (inr e) = rw (e.0, e.1) refl

  sender-asleep : (r : Option ℕ) (p : ℕ) → sleeps Sender Free (Some p) + sleeps Receiver Free r ≡ counted r + 1
  sender-asleep None p = refl
  sender-asleep (Some q) p = refl

  receiver-asleep : (s : Option ℕ) (p : ℕ) → sleeps Sender Free s + sleeps Receiver Free (Some p) ≡ counted s + 1
  receiver-asleep None p = refl
  receiver-asleep (Some q) p = refl

  put-to-sleep : (sides : Sides) (side : Side) (p : ℕ) → MayEnter sides side p
      → sleepers_at (delayed (entered sides side) side p) ≡ sleepers_at sides + 1
  put-to-sleep sides Sender p may =
      sender-asleep sides.receiver p ∙ ap (λ n. n + 1) (sym (enter-sender sides.turn sides.sender sides.receiver p may))
  put-to-sleep sides Receiver p may =
      receiver-asleep sides.sender p ∙ ap (λ n. n + 1) (sym (enter-receiver sides.turn sides.sender sides.receiver p may))

  counted-most : (q : Option ℕ) (n : ℕ) → n ≡ counted q → n ≤ 1
  counted-most None n e = omega (arith, e)
  counted-most (Some q) n e = omega (arith, e)

  entering-one : (sides : Sides) (side : Side) (p : ℕ) → MayEnter sides side p → sleepers_at sides ≤ 1
  entering-one sides Sender p may = counted-most sides.receiver (sleepers_at sides) (enter-sender sides.turn sides.sender sides.receiver p may)
  entering-one sides Receiver p may = counted-most sides.sender (sleepers_at sides) (enter-receiver sides.turn sides.sender sides.receiver p may)

  stopping-one : (sides : Sides) (side : Side) → MayStop sides side → sleepers_at sides ≤ 1
  stopping-one sides side may = entering-one sides side 0 (inl may)

  woken : (before after : ℕ) → before ≤ 1 → before ≤ after + 1
  woken before after few = omega (arith, few)

  sender-in : (r : Option ℕ) → sleeps Sender Free None + sleeps Receiver Free r ≡ counted r
  sender-in None = refl
  sender-in (Some q) = refl

  receiver-in : (s : Option ℕ) → sleeps Sender Free s + sleeps Receiver Free None ≡ counted s
  receiver-in None = refl
  receiver-in (Some q) = refl

  same-in : (before after : ℕ) → after ≡ before → before ≤ after + 0
  same-in before after e = omega (arith, e)

  let-in : (sides : Sides) (side : Side) (p : ℕ) → MayEnter sides side p → sleepers_at (entered sides side) ≡ sleepers_at sides
  let-in sides Sender p may = sender-in sides.receiver ∙ sym (enter-sender sides.turn sides.sender sides.receiver p may)
  let-in sides Receiver p may = receiver-in sides.sender ∙ sym (enter-receiver sides.turn sides.sender sides.receiver p may)

  -- ---- a call at a buffer
  waits-slept : (mark : Parcel → Bool) (side : Side) (buffer : Buffer Parcel) (p : ℕ) (went : Went Parcel) → MayEnter buffer.sides side p
      → Slept (is_delayed went) (moves went) (sleepers_at buffer.sides) (sleepers_at (after_visit mark Awaits side p went buffer).sides)
  waits-slept mark side buffer p Delayed may = put-to-sleep buffer.sides side p may
  waits-slept mark side buffer p Told may = same-in _ _ (let-in buffer.sides side p may)
  waits-slept mark side buffer p Done may = same-in _ _ (let-in buffer.sides side p may)
  waits-slept mark side buffer p (Moved parcel) may = woken _ _ (entering-one buffer.sides side p may)

  pub visit-slept : (mark : Parcel → Bool) (side : Side) (buffer : Buffer Parcel) (visit : Visit) (p : ℕ) (went : Went Parcel)
      → MayVisit buffer.sides side p visit → VisitFits mark side buffer visit went
      → Slept (is_delayed went) (visit_wakes visit went) (sleepers_at buffer.sides) (sleepers_at (after_visit mark visit side p went buffer).sides)
  visit-slept mark side buffer Awaits p went may fits = waits-slept mark side buffer p went may
  visit-slept mark side buffer Passes p went may fits = waits-slept mark side buffer p went may
  visit-slept mark side buffer Moves p Delayed may fits = absurd fits
  visit-slept mark side buffer Moves p Told may fits = absurd fits
  visit-slept mark side buffer Moves p Done may fits = same-in _ _ refl
  visit-slept mark side buffer Moves p (Moved parcel) may fits = woken _ _ (stopping-one buffer.sides side may)
  visit-slept mark side buffer Stops p Delayed may fits = absurd cc
  visit-slept mark side buffer Stops p Told may fits = absurd cc
  visit-slept mark side buffer Stops p Done may fits = woken _ _ (stopping-one buffer.sides side may)
  visit-slept mark side buffer Stops p (Moved parcel) may fits = absurd cc

  -- ---- a call at the desk
  grant-same : (turn : Option ℕ) (desk : Desk) (p : ℕ) → (after_grant turn desk p).claims.waiting ≡ desk.claims.waiting
  grant-same None desk p = refl
  grant-same (Some q) desk p = refl

  same-slept : (before after : List ℕ) → after ≡ before → length before ≤ length after + 0
  same-slept before after e = (let same : length after ≡ length before = ap length e in omega (arith, same))

  pub asks-slept : (desk : Desk) (p : ℕ) (went : Went Parcel)
      → Slept (is_delayed went) 0 (length desk.claims.waiting) (length (after_asking desk p went).claims.waiting)
  asks-slept desk p Delayed = length-append desk.claims.waiting (p ∷ [])
  asks-slept desk p Told = same-slept _ _ (grant-same desk.claims.handed desk p)
  asks-slept desk p Done = same-slept _ _ (grant-same desk.claims.handed desk p)
  asks-slept desk p (Moved parcel) = same-slept _ _ (grant-same desk.claims.handed desk p)

  later-slept : (waiting : List ℕ) → length waiting ≤ length (later_of waiting) + 1
  later-slept [] = omega arith
  later-slept (q ∷ later) = omega arith

  -- ---- among all that sleep
  pub among : (d : Bool) (n a b rest x y : ℕ) → x ≡ a + rest → y ≡ b + rest → Slept d n a b → Slept d n x y
  among true n a b rest x y e f slept = omega (arith, e, f, slept)
  among false n a b rest x y e f slept = omega (arith, e, f, slept)

  pub same-still : (w : Went Parcel) (n : ℕ) → w ≡ Done → Slept (is_delayed w) 0 n n
  same-still Delayed n e = absurd cc
  same-still Told n e = omega arith
  same-still Done n e = omega arith
  same-still (Moved parcel) n e = omega arith

  pub gives-still : (w : Went Parcel) (waiting : List ℕ) → w ≡ Done → Slept (is_delayed w) 1 (length waiting) (length (later_of waiting))
  gives-still Delayed waiting e = absurd cc
  gives-still Told waiting e = later-slept waiting
  gives-still Done waiting e = later-slept waiting
  gives-still (Moved parcel) waiting e = later-slept waiting

  moves-most : (w : Went Parcel) → moves w ≤ 1
  moves-most Delayed = omega arith
  moves-most Told = omega arith
  moves-most Done = omega arith
  moves-most (Moved parcel) = omega arith

  pub wakes-most : (c : Call) (w : Went Parcel) → wakes c w ≤ 1
  wakes-most Alone w = omega arith
  wakes-most (At b side Awaits) w = moves-most w
  wakes-most (At b side Passes) w = moves-most w
  wakes-most (At b side Moves) w = moves-most w
  wakes-most (At b side Stops) w = omega arith
  wakes-most Asks w = omega arith
  wakes-most Gives w = omega arith

  pub two-most : (sides : Sides) → sleepers_at sides ≤ 2
  two-most sides =
      let a = sleeps-most Sender sides.turn sides.sender in
      let b = sleeps-most Receiver sides.turn sides.receiver in
      omega (arith, a, b)
