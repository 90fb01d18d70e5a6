-- What the entries of two processes keep, whatever their buffer holds.
use Rattle.std.proofs.Common.{◌≡◌, ◌≢◌, ◌⊎◌, inl, inr, ℕ, Bool, true, false, ◌||◌, ◌&&◌, Option, None, Some, List, [], ◌∷◌, ◌++◌, map, refl, sym, ap, ◌∙◌, ne_eqb, eq-eqb, arith}
use Rattle.std.specs.List.{flat_map, list_any}
use Rattle.std.proofs.lemmas.List.{append-nil, map_push}
use Rattle.std.proofs.lemmas.Grind.{flat_map-append}
use Rattle.std.proofs.lemmas.List.Folds.{list_any-append}
use mathlib.Core.Path.{fun_ext}
use Rattle.solo_base.specs.declared.outcome.Side.{Side}
use Rattle.solo_base.specs.declared.outcome.Side.TheVariants.{Sender, Receiver}
use Rattle.queue_var.specs.declared.turn.Turn.{Turn}
use Rattle.queue_var.specs.declared.turn.Turn.TheVariants.{Free, Handed}
use Rattle.queue_var.specs.declared.stops.Stops.{Stops}
use Rattle.queue_var.specs.declared.stops.Stops.TheVariants.{Neither, One, Both}
use Rattle.queue_var.specs.Turn.{handed}
use Rattle.queue_var.specs.Sides.{Sides, NamesWhoWaits, MayStop, queue, other, same_side, has_stopped, is_among, stopped_by, entered, delayed, continued, stopped, turn_to, first_of}
use Rattle.queue_var.specs.HandsOver.{WaitsWithCause}
use Rattle.queue_var.specs.BetweenTwo.{IsBetweenTwo, IsTiedToCalls, process_at, WhoStopped, by_side, calls_of, with_call, holds, is_waiting, handed_to, CanGoOn, IsWoken, LetsOut, LetsWait}
use Rattle.queue_var.proofs.Waits.{among-with, first-alone, first-with}

-- a queue that holds nobody but this process doesn't hold another
holds-other : (held : Option ℕ) (who q : ℕ) → ((p : ℕ) → held ≡ Some p → p ≡ who) → q ≢ who → holds held q ≡ false
holds-other None who q only apart = refl
holds-other (Some p) who q only apart = ne_eqb p q (λ is. apart (sym is ∙ only p refl))

holds-own : (held : Option ℕ) (p : ℕ) → held ≡ Some p → holds held p ≡ true
holds-own held p is = rw is (eq-eqb p p refl)

or_true : (b : Bool) → (b || true) ≡ true
or_true true = refl
or_true false = refl

or_false : (b : Bool) → (b || false) ≡ b
or_false true = refl
or_false false = refl

empty-queue : (held : Option ℕ) (who : ℕ) → ((p : ℕ) → held ≡ Some p → p ≡ who) → holds held who ≡ false → held ≡ None
empty-queue None who only none = refl
empty-queue (Some p) who only none = let here = eq-eqb p who (only p refl) in absurd cc

-- ---- whom the turn names
turn-free : (sides : Sides) (turn : Turn Side) → sides.turn ≡ turn → NamesWhoWaits sides → handed turn (queue sides) ≡ None → turn ≡ Free
turn-free sides Free is named none = refl
turn-free sides (Handed side) is named none = let who = named side is in let held = who.1 in absurd cc

both-false : (a b : Bool) → (a || b) ≡ false → (a ≡ false) × (b ≡ false)
both-false true b e = absurd cc
both-false false b e = (refl, e)

-- A process that is let in while nobody has the turn, and that doesn't wait, finds the turn free and the queue of its side empty.
pub may-stop : (sides : Sides) (side : Side) → IsBetweenTwo sides → NamesWhoWaits sides → handed_to sides ≡ None → is_waiting (process_at side) sides ≡ false → MayStop sides side
may-stop sides Sender two named free out = (turn-free sides sides.turn refl named free, empty-queue sides.sender 1 (two.in_place Sender) (both-false _ _ out).0)
may-stop sides Receiver two named free out = (turn-free sides sides.turn refl named free, empty-queue sides.receiver 2 (two.in_place Receiver) (both-false _ _ out).1)

turn-handed : (sides : Sides) (turn : Turn Side) (side : Side) → IsBetweenTwo sides → handed turn (queue sides) ≡ Some (process_at side) → (turn ≡ Handed side) × (queue sides side ≡ Some (process_at side))
turn-handed sides Free side two is = absurd cc
turn-handed sides (Handed Sender) Sender two is = (refl, is)
turn-handed sides (Handed Receiver) Receiver two is = (refl, is)
turn-handed sides (Handed Sender) Receiver two is = let wrong = two.in_place Sender 2 is in absurd (omega arith)
turn-handed sides (Handed Receiver) Sender two is = let wrong = two.in_place Receiver 1 is in absurd (omega arith)

-- One to which the turn is handed stands in the queue of its side.
pub may-resume : (sides : Sides) (side : Side) → IsBetweenTwo sides → handed_to sides ≡ Some (process_at side) → (sides.turn ≡ Handed side) × (queue sides side ≡ Some (process_at side))
may-resume sides side two is = turn-handed sides sides.turn side two is

-- it can go on
pub can-go-on : (lacks : Side → Type 0) (sides : Sides) (side : Side) → IsBetweenTwo sides → IsWoken lacks (process_at side) sides → CanGoOn lacks sides side
can-go-on lacks sides side two woken = woken.can side (may-resume sides side two woken.turn).0

-- ---- the processes in the queues
entered-out : (sides : Sides) (side : Side) → IsBetweenTwo sides → is_waiting (process_at side) (entered sides side) ≡ false
entered-out sides Sender two = holds-other sides.receiver 2 1 (two.in_place Receiver) (λ is. omega arith)
entered-out sides Receiver two = or_false (holds sides.sender 2) ∙ holds-other sides.sender 1 2 (two.in_place Sender) (λ is. omega arith)

entered-others : (sides : Sides) (side : Side) → IsBetweenTwo sides → (q : ℕ) → q ≢ process_at side → is_waiting q (entered sides side) ≡ is_waiting q sides
entered-others sides Sender two q apart = sym (ap (λ b. b || holds sides.receiver q) (holds-other sides.sender 1 q (two.in_place Sender) apart))
entered-others sides Receiver two q apart = ap (λ b. holds sides.sender q || b) (sym (holds-other sides.receiver 2 q (two.in_place Receiver) apart))

-- the process goes in and comes out, and nobody gets the turn
pub entered-lets_out : (lacks : Side → Type 0) (sides : Sides) (side : Side) → IsBetweenTwo sides → LetsOut lacks (process_at side) sides (entered sides side)
entered-lets_out lacks sides side two = record { out = entered-out sides side two; others = entered-others sides side two; woken = λ q is. absurd cc }

-- whom a continue gives the turn
woken-sender : (lacks : Side → Type 0) (sides : Sides) (held : Option ℕ) (q : ℕ) → sides.sender ≡ held → sides.turn ≡ turn_to Sender held → ((p : ℕ) → held ≡ Some p → CanGoOn lacks sides Sender)
    → handed_to sides ≡ Some q → (is_waiting q sides ≡ true) × IsWoken lacks q sides
woken-sender lacks sides None q is turn can given = let none = ap (λ (t : Turn Side). handed t (queue sides)) turn in absurd cc
woken-sender lacks sides (Some p) q is turn can given =
    let named = ap (λ (t : Turn Side). handed t (queue sides)) turn in
    let same : sides.sender ≡ Some q = sym named ∙ given in (
      ap (λ b. b || holds sides.receiver q) (holds-own sides.sender q same),
      record { turn = given; can = λ side is. (let e : Handed side ≡ Handed Sender = sym is ∙ turn in let s : side ≡ Sender = cc in rw s (can p refl)) },
    )

woken-receiver : (lacks : Side → Type 0) (sides : Sides) (held : Option ℕ) (q : ℕ) → sides.receiver ≡ held → sides.turn ≡ turn_to Receiver held → ((p : ℕ) → held ≡ Some p → CanGoOn lacks sides Receiver)
    → handed_to sides ≡ Some q → (is_waiting q sides ≡ true) × IsWoken lacks q sides
woken-receiver lacks sides None q is turn can given = let none = ap (λ (t : Turn Side). handed t (queue sides)) turn in absurd cc
woken-receiver lacks sides (Some p) q is turn can given =
    let named = ap (λ (t : Turn Side). handed t (queue sides)) turn in
    let same : sides.receiver ≡ Some q = sym named ∙ given in (
      ap (λ b. holds sides.sender q || b) (holds-own sides.receiver q same) ∙ or_true (holds sides.sender q),
      record { turn = given; can = λ side is. (let e : Handed side ≡ Handed Receiver = sym is ∙ turn in let s : side ≡ Receiver = cc in rw s (can p refl)) },
    )

woken-continued : (lacks : Side → Type 0) (sides : Sides) (side : Side) → ((p : ℕ) → queue sides side ≡ Some p → CanGoOn lacks sides side)
    → (q : ℕ) → handed_to (continued sides side) ≡ Some q → (is_waiting q (continued sides side) ≡ true) × IsWoken lacks q (continued sides side)
woken-continued lacks sides Sender can q = woken-sender lacks (continued sides Sender) sides.sender q refl refl can
woken-continued lacks sides Receiver can q = woken-receiver lacks (continued sides Receiver) sides.receiver q refl refl can

-- an entry that continues the other side
pub continued-lets_out : (lacks : Side → Type 0) (p : ℕ) (before after : Sides) (side : Side) → is_waiting p after ≡ false → ((q : ℕ) → q ≢ p → is_waiting q after ≡ is_waiting q before)
    → ((q : ℕ) → queue after side ≡ Some q → CanGoOn lacks after side) → LetsOut lacks p before (continued after side)
continued-lets_out lacks p before after side out others can = record { out = out; others = others; woken = woken-continued lacks after side can }

-- the process finds what it wants, and continues the other side
pub entered-continues : (lacks : Side → Type 0) (sides : Sides) (side : Side) → IsBetweenTwo sides → (lacks (other side) → ⊥) → LetsOut lacks (process_at side) sides (continued (entered sides side) (other side))
entered-continues lacks sides side two enough =
    continued-lets_out lacks (process_at side) sides (entered sides side) (other side) (entered-out sides side two) (entered-others sides side two) (λ q held. inl enough)

outside : (sides : Sides) (side : Side) → IsBetweenTwo sides → queue sides side ≡ None → is_waiting (process_at side) sides ≡ false
outside sides Sender two none = rw none (holds-other sides.receiver 2 1 (two.in_place Receiver) (λ is. omega arith))
outside sides Receiver two none = rw none (or_false (holds sides.sender 2) ∙ holds-other sides.sender 1 2 (two.in_place Sender) (λ is. omega arith))

-- a process that is let in finds what it wants, though its entry was let in before
pub inside-continues : (lacks : Side → Type 0) (sides : Sides) (side : Side) → IsBetweenTwo sides → MayStop sides side → (lacks (other side) → ⊥) → LetsOut lacks (process_at side) sides (continued sides (other side))
inside-continues lacks sides side two may enough =
    continued-lets_out lacks (process_at side) sides sides (other side) (outside sides side two may.1) (λ q apart. refl) (λ q held. inl enough)

-- an entry that leaves both queues and the turn, which is free
pub unchanged-lets_out : (lacks : Side → Type 0) (sides : Sides) (side : Side) → IsBetweenTwo sides → MayStop sides side → LetsOut lacks (process_at side) sides sides
unchanged-lets_out lacks sides side two may = record {
  out = outside sides side two may.1;
  others = λ q apart. refl;
  woken = λ q is. (let none = ap (λ (t : Turn Side). handed t (queue sides)) may.0 in absurd cc);
}

-- who waits while the turn is free waits since nobody has stopped
still-running : (lacks : Side → Type 0) (sides : Sides) (side : Side) (q : ℕ) → sides.turn ≡ Free → WaitsWithCause lacks sides → queue sides side ≡ Some q → stopped_by sides ≡ None
still-running lacks sides side q free waits held = elim (waits.cause side q held) as (λ _. stopped_by sides ≡ None) [ inl cause ↦ cause.1 | inr handed ↦ absurd cc ]

other-other : (side : Side) → other (other side) ≡ side
other-other Sender = refl
other-other Receiver = refl

-- a side stops, and continues the other side
pub stopped-lets_out : (lacks later : Side → Type 0) (sides : Sides) (side : Side) → IsBetweenTwo sides → WaitsWithCause lacks sides → MayStop sides side → LetsOut later (process_at side) sides (continued (stopped sides side) (other side))
stopped-lets_out lacks later sides side two waits may =
    continued-lets_out later (process_at side) sides (stopped sides side) (other side) (outside sides side two may.1) (λ q apart. refl)
    (λ q held. inr (first-alone sides.stops side (still-running lacks sides (other side) q may.0 waits (still-held sides side (other side) q held)) ∙ ap Some (sym (other-other side)))) where
      still-held : (sides : Sides) (side s : Side) (q : ℕ) → queue (stopped sides side) s ≡ Some q → queue sides s ≡ Some q
      still-held sides side Sender q held = held
      still-held sides side Receiver q held = held

-- the process finds nothing, and waits
pub delayed-lets_wait : (sides : Sides) (side : Side) → IsBetweenTwo sides → LetsWait (process_at side) sides (delayed (entered sides side) side (process_at side))
delayed-lets_wait sides Sender two = record {
  waiting = refl;
  others = λ q apart. ap (λ b. b || holds sides.receiver q) (ne_eqb 1 q (λ is. apart (sym is)) ∙ sym (holds-other sides.sender 1 q (two.in_place Sender) apart));
  free = refl;
}
delayed-lets_wait sides Receiver two = record {
  waiting = or_true (holds sides.sender 2);
  others = λ q apart. ap (λ b. holds sides.sender q || b) (ne_eqb 2 q (λ is. apart (sym is)) ∙ sym (holds-other sides.receiver 2 q (two.in_place Receiver) apart));
  free = refl;
}

-- ---- the tie to the calls
-- two sides of the same queues or fewer, and the same stops
abbrev Shrinks : Sides → Sides → Type 0
Shrinks before after = ((side : Side) (p : ℕ) → queue after side ≡ Some p → queue before side ≡ Some p) × (after.stops ≡ before.stops)

shrunk : (before after : Sides) → Shrinks before after → IsBetweenTwo before → IsBetweenTwo after
shrunk before after less two = record {
  in_place = λ side p held. two.in_place side p (less.0 side p held);
  running = λ side p held. ap (is_among side) less.1 ∙ two.running side p (less.0 side p held);
}

entered-shrinks : (sides : Sides) (side s : Side) (p : ℕ) → queue (entered sides side) s ≡ Some p → queue sides s ≡ Some p
entered-shrinks sides Sender Sender p held = absurd cc
entered-shrinks sides Sender Receiver p held = held
entered-shrinks sides Receiver Sender p held = held
entered-shrinks sides Receiver Receiver p held = absurd cc

continued-shrinks : (sides : Sides) (side s : Side) (p : ℕ) → queue (continued sides side) s ≡ Some p → queue sides s ≡ Some p
continued-shrinks sides side Sender p held = held
continued-shrinks sides side Receiver p held = held

pub entered-between : (sides : Sides) (side : Side) → IsBetweenTwo sides → IsBetweenTwo (entered sides side)
entered-between sides side two = shrunk sides (entered sides side) (entered-shrinks sides side, refl) two

pub continued-between : (sides : Sides) (side : Side) → IsBetweenTwo sides → IsBetweenTwo (continued sides side)
continued-between sides side two = shrunk sides (continued sides side) (continued-shrinks sides side, refl) two

delayed-in_place : (sides : Sides) (side : Side) → IsBetweenTwo sides → (s : Side) (p : ℕ) → queue (delayed (entered sides side) side (process_at side)) s ≡ Some p → p ≡ process_at s
delayed-in_place sides Sender two Sender p held = cc
delayed-in_place sides Sender two Receiver p held = two.in_place Receiver p held
delayed-in_place sides Receiver two Sender p held = two.in_place Sender p held
delayed-in_place sides Receiver two Receiver p held = cc

delayed-running : (sides : Sides) (side : Side) → IsBetweenTwo sides → has_stopped sides side ≡ false → (s : Side) (p : ℕ) → queue (delayed (entered sides side) side (process_at side)) s ≡ Some p → has_stopped sides s ≡ false
delayed-running sides Sender two runs Sender p held = runs
delayed-running sides Sender two runs Receiver p held = two.running Receiver p held
delayed-running sides Receiver two runs Sender p held = two.running Sender p held
delayed-running sides Receiver two runs Receiver p held = runs

pub delayed-between : (sides : Sides) (side : Side) → IsBetweenTwo sides → has_stopped sides side ≡ false → IsBetweenTwo (delayed (entered sides side) side (process_at side))
delayed-between sides side two runs = record { in_place = delayed-in_place sides side two; running = delayed-running sides side two runs }

-- the side that stops doesn't wait, and the other side's stop stays as it is
stopped-running : (sides : Sides) (side : Side) → IsBetweenTwo sides → queue sides side ≡ None → (s : Side) (p : ℕ) → queue sides s ≡ Some p → has_stopped (stopped sides side) s ≡ false
stopped-running sides Sender two none Sender p held = absurd cc
stopped-running sides Sender two none Receiver p held = among-with sides.stops Sender Receiver ∙ or_false (has_stopped sides Receiver) ∙ two.running Receiver p held
stopped-running sides Receiver two none Sender p held = among-with sides.stops Receiver Sender ∙ or_false (has_stopped sides Sender) ∙ two.running Sender p held
stopped-running sides Receiver two none Receiver p held = absurd cc

queue-stopped : (sides : Sides) (side s : Side) → queue (stopped sides side) s ≡ queue sides s
queue-stopped sides side Sender = refl
queue-stopped sides side Receiver = refl

pub stopped-between : (sides : Sides) (side : Side) → IsBetweenTwo sides → queue sides side ≡ None → IsBetweenTwo (stopped sides side)
stopped-between sides side two none = record {
  in_place = λ s p held. two.in_place s p (sym (queue-stopped sides side s) ∙ held);
  running = λ s p held. stopped-running sides side two none s p (sym (queue-stopped sides side s) ∙ held);
}

-- ---- one call more
-- a test of the calls of a side, once one side has made a call more
pub any-with : {C : Type 0} (test : C → Bool) (calls : Side → List C) (side s : Side) (call : C) → list_any test (with_call calls side call s) ≡ (list_any test (calls s) || (same_side s side && test call))
any-with test calls Sender Sender call = list_any-append test (calls Sender) (call ∷ []) ∙ ap (λ b. list_any test (calls Sender) || b) (or_false (test call))
any-with test calls Receiver Receiver call = list_any-append test (calls Receiver) (call ∷ []) ∙ ap (λ b. list_any test (calls Receiver) || b) (or_false (test call))
any-with test calls Sender Receiver call = sym (or_false (list_any test (calls Receiver)))
any-with test calls Receiver Sender call = sym (or_false (list_any test (calls Sender)))

and_false : (b : Bool) → (b && false) ≡ false
and_false true = refl
and_false false = refl

and_true : (b : Bool) → (b && true) ≡ b
and_true true = refl
and_true false = refl

-- the test fails of the call
pub any-same : {C : Type 0} (test : C → Bool) (calls : Side → List C) (side : Side) (call : C) → test call ≡ false → (s : Side) → list_any test (with_call calls side call s) ≡ list_any test (calls s)
any-same test calls side call fails s = any-with test calls side s call ∙ ap (λ b. list_any test (calls s) || (same_side s side && b)) fails ∙ ap (λ b. list_any test (calls s) || b) (and_false (same_side s side)) ∙ or_false (list_any test (calls s))

-- and the test passes
pub any-more : {C : Type 0} (test : C → Bool) (calls : Side → List C) (side : Side) (call : C) → test call ≡ true → (s : Side) → list_any test (with_call calls side call s) ≡ (list_any test (calls s) || same_side s side)
any-more test calls side call passes s = any-with test calls side s call ∙ ap (λ b. list_any test (calls s) || (same_side s side && b)) passes ∙ ap (λ b. list_any test (calls s) || b) (and_true (same_side s side))

pub any-own : {C : Type 0} (test : C → Bool) (calls : Side → List C) (side : Side) (call : C) → test call ≡ true → list_any test (with_call calls side call side) ≡ true
any-own test calls Sender call passes = any-more test calls Sender call passes Sender ∙ or_true (list_any test (calls Sender))
any-own test calls Receiver call passes = any-more test calls Receiver call passes Receiver ∙ or_true (list_any test (calls Receiver))

-- what the calls of a side give, one after another, once that side has made a call more
pub gives-more : {C T : Type 0} (f : C → List T) (calls : Side → List C) (side : Side) (call : C) → flat_map f (with_call calls side call side) ≡ flat_map f (calls side) ++ f call
gives-more f calls Sender call = flat_map-append f (calls Sender) (call ∷ []) ∙ ap (λ more. flat_map f (calls Sender) ++ more) (append-nil (f call))
gives-more f calls Receiver call = flat_map-append f (calls Receiver) (call ∷ []) ∙ ap (λ more. flat_map f (calls Receiver) ++ more) (append-nil (f call))

-- and the call gives nothing
pub gives-same : {C T : Type 0} (f : C → List T) (calls : Side → List C) (side : Side) (call : C) → f call ≡ [] → (s : Side) → flat_map f (with_call calls side call s) ≡ flat_map f (calls s)
gives-same f calls Sender call none Sender = gives-more f calls Sender call ∙ ap (λ more. flat_map f (calls Sender) ++ more) none ∙ append-nil (flat_map f (calls Sender))
gives-same f calls Sender call none Receiver = refl
gives-same f calls Receiver call none Sender = refl
gives-same f calls Receiver call none Receiver = gives-more f calls Receiver call ∙ ap (λ more. flat_map f (calls Receiver) ++ more) none ∙ append-nil (flat_map f (calls Receiver))

either : (a b : Bool) → (a || b) ≡ true → (a ≡ true) ⊎ (b ≡ true)
either true b e = inl refl
either false b e = inr e

-- where a test passes of some call of a side, it passed of one before, or it passes of this one
pub any-either : {C : Type 0} (test : C → Bool) (calls : Side → List C) (side s : Side) (call : C) → list_any test (with_call calls side call s) ≡ true → (list_any test (calls s) ≡ true) ⊎ (test call ≡ true)
any-either test calls side s call passed =
    elim (either (list_any test (calls s)) (same_side s side && test call) (sym (any-with test calls side s call) ∙ passed)) as (λ _. (list_any test (calls s) ≡ true) ⊎ (test call ≡ true)) [
      | inl earlier ↦ inl earlier
      | inr now ↦ inr (second (same_side s side) (test call) now)
    ] where
      second : (a b : Bool) → (a && b) ≡ true → b ≡ true
      second true b e = e
      second false b e = absurd cc

same-side : (s side : Side) → same_side s side ≡ true → s ≡ side
same-side Sender Sender e = refl
same-side Receiver Receiver e = refl
same-side Sender Receiver e = absurd cc
same-side Receiver Sender e = absurd cc

-- the two processes have two numbers
pub two-apart : (side : Side) → process_at (other side) ≢ process_at side
two-apart Sender e = absurd (omega arith)
two-apart Receiver e = absurd (omega arith)

pub some_inside : {T : Type 0} (inside : List T) (item : T) → inside ++ item ∷ [] ≡ [] → ⊥
some_inside [] item e = absurd cc
some_inside (x ∷ xs) item e = absurd cc

-- the lists of both processes, once the process of a side has one entry more
pub calls-with : {E C : Type 0} (value : E → C) (lists later : ℕ → List E) (side : Side) (entry : E) → later (process_at side) ≡ lists (process_at side) ++ entry ∷ [] → later (process_at (other side)) ≡ lists (process_at (other side))
    → calls_of value later ≡ with_call (calls_of value lists) side (value entry)
calls-with value lists later side entry own theirs = fun_ext (at value lists later side entry own theirs) where
  at : {E C : Type 0} (value : E → C) (lists later : ℕ → List E) (side : Side) (entry : E) → later (process_at side) ≡ lists (process_at side) ++ entry ∷ [] → later (process_at (other side)) ≡ lists (process_at (other side))
      → (s : Side) → calls_of value later s ≡ with_call (calls_of value lists) side (value entry) s
  at value lists later Sender entry own theirs Sender = ap (map value) own ∙ map_push value (lists 1) entry
  at value lists later Sender entry own theirs Receiver = ap (map value) theirs
  at value lists later Receiver entry own theirs Receiver = ap (map value) own ∙ map_push value (lists 2) entry
  at value lists later Receiver entry own theirs Sender = ap (map value) theirs

module _ {C : Type 0} (is_stop is_refusal : C → Bool) (calls : Side → List C) (before : Sides) (tied : IsTiedToCalls (λ side. list_any is_stop (calls side)) (λ side. list_any is_refusal (calls side)) before) where
  -- an entry that leaves who stopped, and makes no call
  pub tied-waits : (after : Sides) → IsBetweenTwo after → after.stops ≡ before.stops → IsTiedToCalls (λ side. list_any is_stop (calls side)) (λ side. list_any is_refusal (calls side)) after
  tied-waits after two same = record {
    between = two;
    stopped = λ s. ap (is_among s) same ∙ tied.stopped s;
    told = λ s told. ap first_of same ∙ tied.told s told;
  }

  -- a call of a side that is no stop
  pub tied-called : (after : Sides) (side : Side) (call : C) → IsBetweenTwo after → after.stops ≡ before.stops → is_stop call ≡ false → (is_refusal call ≡ true → stopped_by before ≡ Some (other side))
      → IsTiedToCalls (λ s. list_any is_stop (with_call calls side call s)) (λ s. list_any is_refusal (with_call calls side call s)) after
  tied-called after side call two same no_stop told = record {
    between = two;
    stopped = λ s. ap (is_among s) same ∙ tied.stopped s ∙ sym (any-same is_stop calls side call no_stop s);
    told = λ s is. ap first_of same ∙ told_of (is_refusal call) refl s is;
  } where
    told_now : (answer : Bool) → is_refusal call ≡ answer → (s : Side) → (list_any is_refusal (calls s) ≡ true) ⊎ ((same_side s side && answer) ≡ true) → stopped_by before ≡ Some (other s)
    told_now answer is s (inl earlier) = tied.told s earlier
    told_now true is s (inr now) = let here = same-side s side (sym (and_true (same_side s side)) ∙ now) in rw here (told is)
    told_now false is s (inr now) = let never = and_false (same_side s side) in absurd cc

    told_of : (answer : Bool) → is_refusal call ≡ answer → (s : Side) → list_any is_refusal (with_call calls side call s) ≡ true → stopped_by before ≡ Some (other s)
    told_of answer is s passed =
        told_now answer is s (either (list_any is_refusal (calls s)) (same_side s side && answer) (ap (λ b. list_any is_refusal (calls s) || (same_side s side && b)) (sym is) ∙ sym (any-with is_refusal calls side s call) ∙ passed))

  -- a stop of a side
  pub tied-stopped : (side : Side) (call : C) → queue before side ≡ None → is_stop call ≡ true → is_refusal call ≡ false
      → IsTiedToCalls (λ s. list_any is_stop (with_call calls side call s)) (λ s. list_any is_refusal (with_call calls side call s)) (continued (stopped before side) (other side))
  tied-stopped side call none stop no_refusal = record {
    between = continued-between (stopped before side) (other side) (stopped-between before side tied.between none);
    stopped = λ s. among-with before.stops side s ∙ ap (λ b. b || same_side s side) (tied.stopped s) ∙ sym (any-more is_stop calls side call stop s);
    told = λ s is. first-with before.stops side (other s) (tied.told s (sym (any-same is_refusal calls side call no_refusal s) ∙ is));
  }

-- ---- who stopped first
none-marked : (marks : Stops) → first_of marks ≡ None → (side : Side) → is_among side marks ≡ false
none-marked Neither none side = refl
none-marked (One by) none side = absurd cc
none-marked (Both by) none side = absurd cc

first-marked : (marks : Stops) (side : Side) → first_of marks ≡ Some side → is_among side marks ≡ true
first-marked Neither side first = absurd cc
first-marked (One Sender) Sender first = refl
first-marked (One Receiver) Receiver first = refl
first-marked (One Sender) Receiver first = absurd cc
first-marked (One Receiver) Sender first = absurd cc
first-marked (Both by) side first = refl

pub who-stopped : (has_stop was_told : Side → Bool) (sides : Sides) (first : Option Side) → IsTiedToCalls has_stop was_told sides → first ≡ stopped_by sides → WhoStopped has_stop was_told first
who-stopped has_stop was_told sides first tied is = record {
  neither = λ none side. sym (tied.stopped side) ∙ none-marked sides.stops (sym is ∙ none) side;
  did = λ side some. sym (tied.stopped side) ∙ first-marked sides.stops side (sym is ∙ some);
  told = λ side told. is ∙ tied.told side told;
}

-- the calls of both sides, by the entries of both processes
pub calls-met : {E C : Type 0} (value : E → C) (lists : ℕ → List E) (sender receiver : List E) → lists 1 ≡ sender → lists 2 ≡ receiver → calls_of value lists ≡ by_side (map value sender) (map value receiver)
calls-met value lists sender receiver one two = fun_ext (at value lists sender receiver one two) where
  at : {E C : Type 0} (value : E → C) (lists : ℕ → List E) (sender receiver : List E) → lists 1 ≡ sender → lists 2 ≡ receiver → (side : Side) → calls_of value lists side ≡ by_side (map value sender) (map value receiver) side
  at value lists sender receiver one two Sender = ap (map value) one
  at value lists sender receiver one two Receiver = ap (map value) two
