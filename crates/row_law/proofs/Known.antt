-- What is known of a process by what it did: its stops, the sides at which it calls, what it holds, and its causes.
use Rattle.std.proofs.Common.{◌≡◌, ℕ, ◌==◌, ◌&&◌, Bool, true, false, List, ◌∷◌, Option, None, Some, refl, ◌∙◌}
use Rattle.solo_base.specs.declared.outcome.Side.{Side}
use Rattle.solo_base.specs.declared.outcome.Outcome.{Outcome}
use Rattle.queue_var.specs.Sides.{same_side}
use Rattle.network_law.specs.Acts.{Call, Alone, At, Asks, Gives, Visit, Awaits, Passes, Moves, Stops, Went, Delayed, Told, Done, Moved, Act, stops_at, holds, holds_by, found_ready, found_by}
use Rattle.network_law.proofs.Numbers.{same-number}
use Rattle.network_law.proofs.Seats.{same-itself}
use Rattle.place_law.specs.Process.{or_new, stops_by}
use Rattle.row_law.specs.Process.{went}
use Rattle.row_law.specs.Row.{Stage, Free, Awaited, Granted, Holding, MayDo, MayDelay, stage_behind}

-- ---- stops
pub and-first : (t u : Bool) → t ≡ false → (t && u) ≡ false
and-first true u e = absurd cc
and-first false u e = refl

pub both-true : (t u : Bool) → t ≡ true → u ≡ true → (t && u) ≡ true
both-true true u e f = f
both-true false u e f = absurd cc

pub not-both : (t : Bool) → t ≡ true → t ≡ false → ⊥
not-both t a b = cc

pub not-here : (b : ℕ) (side : Side) (c : Call) → stops_by b c ≡ false → stops_at b side c ≡ false
not-here b side (At c of Stops) e = and-first (b == c) (same_side side of) e
not-here b side (At c of Awaits) e = refl
not-here b side (At c of Passes) e = refl
not-here b side (At c of Moves) e = refl
not-here b side Alone e = refl
not-here b side Asks e = refl
not-here b side Gives e = refl

-- what a process may call at a place is no stop
pub may-no_stop : (seat : ℕ → Side → ℕ) (n b : ℕ) (stage : Stage) (c : Call) → MayDo seat n stage c → stops_by b c ≡ false
may-no_stop seat n b stage Alone may = refl
may-no_stop seat n b stage Asks may = refl
may-no_stop seat n b stage Gives may = refl
may-no_stop seat n b stage (At c side Awaits) may = refl
may-no_stop seat n b stage (At c side Passes) may = refl
may-no_stop seat n b stage (At c side Moves) may = refl
may-no_stop seat n b Free (At c side Stops) may = absurd may
may-no_stop seat n b (Awaited d of) (At c side Stops) may = absurd may
may-no_stop seat n b (Granted d of) (At c side Stops) may = absurd may
may-no_stop seat n b Holding (At c side Stops) may = absurd may

-- ---- the side at which it calls is its own
pub may-seated : (seat : ℕ → Side → ℕ) (n : ℕ) (stage : Stage) (b : ℕ) (side : Side) (visit : Visit) → MayDo seat n stage (At b side visit) → seat b side ≡ n
may-seated seat n Free b side Awaits may = may
may-seated seat n Free b side Passes may = may
may-seated seat n Free b side Moves may = absurd may
may-seated seat n Free b side Stops may = absurd may
may-seated seat n (Awaited d of) b side visit may = absurd may
may-seated seat n (Granted d of) b side Moves may = may.2
may-seated seat n (Granted d of) b side Awaits may = absurd may
may-seated seat n (Granted d of) b side Passes may = absurd may
may-seated seat n (Granted d of) b side Stops may = absurd may
may-seated seat n Holding b side visit may = absurd may

-- ---- what is known at a stage, by the acts
abbrev pub Known : {Parcel : Type 0} → Stage → List (Act Parcel) → Type 0
Known Free ac = holds ac ≡ false
Known (Awaited b side) ac = (holds ac ≡ false) × (found_ready b side ac ≡ true)
Known (Granted b side) ac = (holds ac ≡ true) × (found_ready b side ac ≡ true)
Known Holding ac = holds ac ≡ true

pub found-kept : {Parcel : Type 0} (b : ℕ) (side : Side) (before : Bool) (w : Went Parcel) → found_by b side before Asks w ≡ before
found-kept b side before Delayed = refl
found-kept b side before Told = refl
found-kept b side before Done = refl
found-kept b side before (Moved parcel) = refl

pub asked-holds : {Parcel : Type 0} (before : Bool) (w : Went Parcel) → (w ≡ Delayed → ⊥) → holds_by before Asks w ≡ true
asked-holds before Delayed not = absurd (not refl)
asked-holds before Told not = refl
asked-holds before Done not = refl
asked-holds before (Moved parcel) not = refl

pub given-free : {Parcel : Type 0} (before : Bool) (w : Went Parcel) → holds_by before Gives w ≡ false
given-free before Delayed = refl
given-free before Told = refl
given-free before Done = refl
given-free before (Moved parcel) = refl

pub awaited-found : {Parcel : Type 0} (b : ℕ) (side : Side) (before : Bool) (w : Went Parcel) → w ≡ Done → found_by b side before (At b side Awaits) w ≡ true
awaited-found b side before Done e = both-true _ _ (same-number b) (same-itself side)
awaited-found b side before Delayed e = absurd cc
awaited-found b side before Told e = absurd cc
awaited-found b side before (Moved parcel) e = absurd cc

-- one step further
pub known-behind : {Parcel : Type 0} (seat : ℕ → Side → ℕ) (n : ℕ) (stage : Stage) (c : Call) (w : Went Parcel) (ac : List (Act Parcel)) → MayDo seat n stage c
    → Known stage ac → (w ≡ Delayed → ⊥) → ((b : ℕ) (side : Side) → c ≡ At b side Awaits → w ≡ Done) → Known (stage_behind stage c) (record { call = c; went = w } ∷ ac)
known-behind seat n Free Alone w ac may known not done = known
known-behind seat n Free (At b side Passes) w ac may known not done = known
known-behind seat n Free (At b side Awaits) w ac may known not done = (known, awaited-found b side (found_ready b side ac) w (done b side refl))
known-behind seat n Free Asks w ac may known not done = asked-holds (holds ac) w not
known-behind seat n Free (At b side Moves) w ac may known not done = absurd may
known-behind seat n Free (At b side Stops) w ac may known not done = absurd may
known-behind seat n Free Gives w ac may known not done = absurd may
known-behind seat n (Awaited b side) Asks w ac may known not done = (asked-holds (holds ac) w not, found-kept b side (found_ready b side ac) w ∙ known.1)
known-behind seat n (Awaited b side) Alone w ac may known not done = absurd may
known-behind seat n (Awaited b side) Gives w ac may known not done = absurd may
known-behind seat n (Awaited b side) (At c of visit) w ac may known not done = absurd may
known-behind seat n (Granted b side) (At c of Moves) w ac may known not done = known.0
known-behind seat n (Granted b side) (At c of Awaits) w ac may known not done = absurd may
known-behind seat n (Granted b side) (At c of Passes) w ac may known not done = absurd may
known-behind seat n (Granted b side) (At c of Stops) w ac may known not done = absurd may
known-behind seat n (Granted b side) Alone w ac may known not done = absurd may
known-behind seat n (Granted b side) Asks w ac may known not done = absurd may
known-behind seat n (Granted b side) Gives w ac may known not done = absurd may
known-behind seat n Holding Alone w ac may known not done = known
known-behind seat n Holding Gives w ac may known not done = given-free (holds ac) w
known-behind seat n Holding Asks w ac may known not done = absurd may
known-behind seat n Holding (At c of visit) w ac may known not done = absurd may

-- a delay tells nothing new
pub holds-delayed : (Parcel : Type 0) (before : Bool) (c : Call) → MayDelay c → holds_by {Parcel = Parcel} before c Delayed ≡ before
holds-delayed Parcel before (At b side visit) may = refl
holds-delayed Parcel before Asks may = refl
holds-delayed Parcel before Alone may = absurd may
holds-delayed Parcel before Gives may = absurd may

pub no-stop_delayed : (b : ℕ) (side : Side) (c : Call) → MayDelay c → stops_at b side c ≡ false
no-stop_delayed b side (At c of Awaits) may = refl
no-stop_delayed b side (At c of Passes) may = refl
no-stop_delayed b side (At c of Moves) may = absurd may
no-stop_delayed b side (At c of Stops) may = absurd may
no-stop_delayed b side Asks may = refl
no-stop_delayed b side Alone may = absurd may
no-stop_delayed b side Gives may = absurd may

pub found-delayed : (Parcel : Type 0) (b : ℕ) (side : Side) (before : Bool) (c : Call) → found_by {Parcel = Parcel} b side before c Delayed ≡ before
found-delayed Parcel b side before Alone = refl
found-delayed Parcel b side before (At d of visit) = refl
found-delayed Parcel b side before Asks = refl
found-delayed Parcel b side before Gives = refl

pub known-delayed : {Parcel : Type 0} (stage : Stage) (c : Call) (ac : List (Act Parcel)) → MayDelay c → Known stage ac
    → Known stage (record { call = c; went = Delayed } ∷ ac)
known-delayed {Parcel} Free c ac not known = holds-delayed Parcel (holds ac) c not ∙ known
known-delayed {Parcel} (Awaited b side) c ac not known = (holds-delayed Parcel (holds ac) c not ∙ known.0, found-delayed Parcel b side (found_ready b side ac) c ∙ known.1)
known-delayed {Parcel} (Granted b side) c ac not known = (holds-delayed Parcel (holds ac) c not ∙ known.0, found-delayed Parcel b side (found_ready b side ac) c ∙ known.1)
known-delayed {Parcel} Holding c ac not known = holds-delayed Parcel (holds ac) c not ∙ known

-- ---- causes
pub not-lacking : (old : Option Outcome) (how : Outcome) → or_new old (Some how) ≡ None → ⊥
not-lacking None how e = cc
not-lacking (Some other) how e = cc

pub some-none : {X : Type 0} (x : Option X) (y : X) → x ≡ Some y → x ≡ None → ⊥
some-none x y a b = cc
