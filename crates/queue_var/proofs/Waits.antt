-- Who waits keeps a cause to, whatever an entry of a buffer does.
use Rattle.std.proofs.Common.{◌≡◌, ◌⊎◌, inl, inr, ℕ, Option, None, Some, false, List, [], ◌∷◌, ◌++◌, refl, ap, sym, ◌∙◌, ◌||◌, arith}
use Rattle.solo_base.specs.declared.outcome.Side.{Side}
use Rattle.solo_base.specs.declared.outcome.Side.TheVariants.{Sender, Receiver}
use Rattle.queue_var.specs.declared.turn.Turn.TheVariants.{Handed}
use Rattle.queue_var.specs.declared.stops.Stops.{Stops}
use Rattle.queue_var.specs.declared.stops.Stops.TheVariants.{Neither, One, Both}
use Rattle.queue_var.specs.Sides.{Sides, NamesWhoWaits, MayEnter, queue, stopped_by, other, turn_to, entered, delayed, continued, with_stop, first_of, is_among, same_side}
use Rattle.queue_var.specs.HandsOver.{WaitsWithCause, StoppedFirst, earliest, is_one_of}

not_theirs : (sides : Sides) (side : Side) (p : ℕ) → MayEnter sides side p → sides.turn ≡ Handed (other side) → ⊥
not_theirs sides Sender p (inl free) handed = let f = free.0 in cc
not_theirs sides Sender p (inr mine) handed = let f = mine.0 in cc
not_theirs sides Receiver p (inl free) handed = let f = free.0 in cc
not_theirs sides Receiver p (inr mine) handed = let f = mine.0 in cc

-- while one side is let in, the other waits for what it lacks
others_wait : (lacks : Side → Type 0) (sides : Sides) (side : Side) (p : ℕ) → MayEnter sides side p → WaitsWithCause lacks sides → (q : ℕ) → queue sides (other side) ≡ Some q → lacks (other side) × (stopped_by sides ≡ None)
others_wait lacks sides side p may w q waits =
    elim (w.cause (other side) q waits) as (λ _. lacks (other side) × (stopped_by sides ≡ None)) [
      | inl cause ↦ cause
      | inr handed ↦ absurd (not_theirs sides side p may handed)
    ]

entered-cause : (lacks : Side → Type 0) (sides : Sides) (side : Side) (p : ℕ) → MayEnter sides side p → WaitsWithCause lacks sides → (s : Side) (q : ℕ) → queue (entered sides side) s ≡ Some q → (lacks s × (stopped_by sides ≡ None)) ⊎ ((entered sides side).turn ≡ Handed s)
entered-cause lacks sides Sender p may w Sender q waits = cc
entered-cause lacks sides Sender p may w Receiver q waits = inl (others_wait lacks sides Sender p may w q waits)
entered-cause lacks sides Receiver p may w Sender q waits = inl (others_wait lacks sides Receiver p may w q waits)
entered-cause lacks sides Receiver p may w Receiver q waits = cc

-- the process goes in, and finds what it wants
pub waits-entered : (lacks : Side → Type 0) (sides : Sides) (side : Side) (p : ℕ) → MayEnter sides side p → WaitsWithCause lacks sides → WaitsWithCause lacks (entered sides side)
waits-entered lacks sides side p may w = record { cause = entered-cause lacks sides side p may w; named = λ s h. cc }

turned_away-cause : (lacks later : Side → Type 0) (sides : Sides) (side : Side) (p : ℕ) (by : Side) → MayEnter sides side p → WaitsWithCause lacks sides → stopped_by sides ≡ Some by → (s : Side) (q : ℕ) → queue (entered sides side) s ≡ Some q → (later s × (stopped_by sides ≡ None)) ⊎ ((entered sides side).turn ≡ Handed s)
turned_away-cause lacks later sides side p by may w stop s q waits =
    elim (entered-cause lacks sides side p may w s q waits) as (λ _. (later s × (stopped_by sides ≡ None)) ⊎ ((entered sides side).turn ≡ Handed s)) [
      | inl cause ↦ (let none = cause.1 in cc)
      | inr handed ↦ inr handed
    ]

-- it finds that a side has stopped
pub waits-turned_away : (lacks later : Side → Type 0) (sides : Sides) (side : Side) (p : ℕ) (by : Side) → MayEnter sides side p → WaitsWithCause lacks sides → stopped_by sides ≡ Some by → WaitsWithCause later (entered sides side)
waits-turned_away lacks later sides side p by may w stop =
    record { cause = turned_away-cause lacks later sides side p by may w stop; named = λ s h. cc }

delayed-cause : (lacks : Side → Type 0) (sides : Sides) (side : Side) (p : ℕ) → MayEnter sides side p → WaitsWithCause lacks sides → lacks side → stopped_by sides ≡ None → (s : Side) (q : ℕ) → queue (delayed (entered sides side) side p) s ≡ Some q → (lacks s × (stopped_by sides ≡ None)) ⊎ ((entered sides side).turn ≡ Handed s)
delayed-cause lacks sides Sender p may w lack stop Sender q waits = inl (lack, stop)
delayed-cause lacks sides Sender p may w lack stop Receiver q waits = inl (others_wait lacks sides Sender p may w q waits)
delayed-cause lacks sides Receiver p may w lack stop Sender q waits = inl (others_wait lacks sides Receiver p may w q waits)
delayed-cause lacks sides Receiver p may w lack stop Receiver q waits = inl (lack, stop)

-- it lacks what it wants, and waits
pub waits-delayed : (lacks : Side → Type 0) (sides : Sides) (side : Side) (p : ℕ) → MayEnter sides side p → WaitsWithCause lacks sides → lacks side → stopped_by sides ≡ None → WaitsWithCause lacks (delayed (entered sides side) side p)
waits-delayed lacks sides side p may w lack stop = record { cause = delayed-cause lacks sides side p may w lack stop; named = λ s h. cc }

turn_to-waits : (side : Side) (held : Option ℕ) (q : ℕ) → held ≡ Some q → turn_to side held ≡ Handed side
turn_to-waits side held q e = rw e

turn_to-named : (side s : Side) (held : Option ℕ) → turn_to side held ≡ Handed s → (side ≡ s) × ((p : ℕ) × (held ≡ Some p))
turn_to-named side s None h = cc
turn_to-named side s (Some p) h = (cc, (p, refl))

continued-cause : (lacks : Side → Type 0) (sides : Sides) (side : Side) → queue sides side ≡ None → (s : Side) (q : ℕ) → queue (continued sides (other side)) s ≡ Some q → (lacks s × (stopped_by sides ≡ None)) ⊎ ((continued sides (other side)).turn ≡ Handed s)
continued-cause lacks sides Sender none Sender q waits = cc
continued-cause lacks sides Sender none Receiver q waits = inr (turn_to-waits Receiver sides.receiver q waits)
continued-cause lacks sides Receiver none Sender q waits = inr (turn_to-waits Sender sides.sender q waits)
continued-cause lacks sides Receiver none Receiver q waits = cc

-- A continue names a queue that holds a process.
pub continued-named : (sides : Sides) (side : Side) → NamesWhoWaits (continued sides side)
continued-named sides Sender Sender h = (turn_to-named Sender Sender sides.sender h).1
continued-named sides Sender Receiver h = let e = (turn_to-named Sender Receiver sides.sender h).0 in cc
continued-named sides Receiver Sender h = let e = (turn_to-named Receiver Sender sides.receiver h).0 in cc
continued-named sides Receiver Receiver h = (turn_to-named Receiver Receiver sides.receiver h).1

-- nobody of its side waits, and it hands the turn to the other side
pub waits-continued : (lacks : Side → Type 0) (sides : Sides) (side : Side) → queue sides side ≡ None → WaitsWithCause lacks (continued sides (other side))
waits-continued lacks sides side none = record { cause = continued-cause lacks sides side none; named = continued-named sides (other side) }

-- ---- who stopped
pub among-with : (marks : Stops) (side s : Side) → is_among s (with_stop marks side) ≡ (is_among s marks || same_side s side)
among-with Neither side s = refl
among-with (One Sender) Sender Sender = refl
among-with (One Sender) Sender Receiver = refl
among-with (One Sender) Receiver Sender = refl
among-with (One Sender) Receiver Receiver = refl
among-with (One Receiver) Sender Sender = refl
among-with (One Receiver) Sender Receiver = refl
among-with (One Receiver) Receiver Sender = refl
among-with (One Receiver) Receiver Receiver = refl
among-with (Both first) side s = refl

pub one_of-more : (stops : List Side) (side s : Side) → is_one_of s (stops ++ side ∷ []) ≡ (is_one_of s stops || same_side s side)
one_of-more [] side s = grind arith
one_of-more (first ∷ later) side s = let rest = one_of-more later side s in grind arith

pub first-with : (marks : Stops) (side first : Side) → first_of marks ≡ Some first → first_of (with_stop marks side) ≡ Some first
first-with Neither side first h = cc
first-with (One Sender) Sender first h = h
first-with (One Sender) Receiver first h = h
first-with (One Receiver) Sender first h = h
first-with (One Receiver) Receiver first h = h
first-with (Both by) side first h = h

pub first-alone : (marks : Stops) (side : Side) → first_of marks ≡ None → first_of (with_stop marks side) ≡ Some side
first-alone Neither side h = refl
first-alone (One by) side h = cc
first-alone (Both by) side h = cc

first-more : (stops : List Side) (marks : Stops) (side : Side) → first_of marks ≡ earliest stops → first_of (with_stop marks side) ≡ earliest (stops ++ side ∷ [])
first-more [] marks side h = first-alone marks side h
first-more (first ∷ later) marks side h = first-with marks side first h

-- who hasn't stopped was not the first to stop
pub not_first : (stops : Stops) (side : Side) → is_among side stops ≡ false → first_of stops ≡ Some side → ⊥
not_first Neither side n f = cc
not_first (One Sender) Sender n f = cc
not_first (One Sender) Receiver n f = cc
not_first (One Receiver) Sender n f = cc
not_first (One Receiver) Receiver n f = cc
not_first (Both first) side n f = cc

-- a stop more
pub stops-more : (stops : List Side) (marks : Stops) (side : Side) → StoppedFirst stops marks → StoppedFirst (stops ++ side ∷ []) (with_stop marks side)
stops-more stops marks side h = record {
  first = first-more stops marks side h.first;
  each = λ s. among-with marks side s ∙ ap (λ b. b || same_side s side) (h.each s) ∙ sym (one_of-more stops side s);
}
