-- How much a process may still do before it takes again: a number that falls with each of its actions.
use Rattle.std.specs.List.{AllByRecursion}
use Rattle.std.specs.Prelude.{ℕ, ◌+◌, ◌*◌, ◌-◌, ◌≤◌, ◌==◌, Bool, true, false, List, [], ◌∷◌, ◌++◌, length, Option, None, Some, if◌then◌else◌}
use Rattle.solo_base.specs.declared.outcome.Outcome.{Outcome}
use Rattle.batch_procs.specs.declared.round.Step.{Step}
use Rattle.batch_procs.specs.declared.round.Step.TheVariants as step
use Rattle.batch_procs.specs.Jobs.{Jobs}
use Rattle.batch_procs.specs.Parcels.{Parcel, loads, handed}
use Rattle.batch_procs.specs.History.{Entry, Does, LacksMemory, Delays, took, put, taken, sent, holds, has_stopped, newest}
use Rattle.batch_procs.specs.Causes.{caused}
use Rattle.batch_procs.specs.Process.{Process, unworked, Follows}
use Rattle.batch_procs.specs.Table.{process}
use Rattle.batch_procs.specs.Machine.{step_after}
use Rattle.batch_procs.specs.Laws.{IsRelay}

-- the loads among them are loads of these jobs
abbrev pub AreLoadsGood : {L : Type 0} → Jobs L → List (Parcel L) → Type 0
AreLoadsGood J all = AllByRecursion J.IsLoad (loads all)

-- Each parcel that a buffer or the deck hands over gives at most so many parcels, and the end one more; and
-- it names at most so many files.
pub record GivesAtMost {L : Type 0} (J : Jobs L) (most : ℕ) (p : Process L) : Type 0 where
  pub gives : (all : List (Parcel L)) → AreLoadsGood J all
      → length (p.sends all) ≤ most * length (handed all) + 1
  pub names : (all : List (Parcel L)) (parcel : Parcel L) → length (p.wants (all ++ parcel ∷ []))
      ≤ length (p.wants all) + most * length (handed (parcel ∷ []))

-- how many parcels it may still put for what it took
abbrev pub puts_ahead : {L : Type 0} → ℕ → List (Entry L) → ℕ
puts_ahead most h = most * length (handed (taken h)) + 1 - length (sent h)

-- what is left of a move of a page
abbrev pub moves_ahead : Step → ℕ
moves_ahead step.Free = 2
moves_ahead step.Awaited = 1
moves_ahead step.Granted = 0
moves_ahead step.Moved = 3
moves_ahead step.Ended = 0

-- 1 where it is so
abbrev pub one_if : Bool → ℕ
one_if true = 1
one_if false = 0

-- how many of the buffers it has not stopped
abbrev pub unstopped : {L : Type 0} → List ℕ → List (Entry L) → ℕ
unstopped [] h = 0
unstopped (b ∷ later) h = (if has_stopped b h then 0 else 1) + unstopped later h

-- of one that closes down, and of one that works; a put weighs so much more than its calls, and a load has
-- two calls around it
abbrev pub ahead_by : {L : Type 0} → ℕ → ℕ → Process L → Option Outcome → List (Entry L) → ℕ
ahead_by weight most p (Some how) h = one_if (holds h) + unstopped p.buffers h + 1
ahead_by weight most p None h =
    (weight + 5) * puts_ahead most h + 4 * length (p.wants (taken h)) + moves_ahead (step_after (newest h))
    + one_if (unworked p h) + length p.buffers + 3

-- behind its end there is nothing more
abbrev pub ahead_at : Step → ℕ → ℕ
ahead_at step.Ended n = 0
ahead_at other n = n

-- what it may still do for what it took, its closing down included
abbrev pub ahead : {L : Type 0} → ℕ → ℕ → Process L → List (Entry L) → ℕ
ahead weight most p h = ahead_at (step_after (newest h)) (ahead_by weight most p (caused h) h)

-- not a call that waits
abbrev pub IsAnswered : {L : Type 0} → Entry L → Type 0
IsAnswered (Does action r) = Unit {0}
IsAnswered (LacksMemory action r) = Unit {0}
IsAnswered (Delays action) = ⊥

-- Each answered action lowers it, whatever weight is given to what it puts; only what a buffer or the deck
-- hands over raises it.
abbrev pub AheadFalls : {L : Type 0} → Jobs L → Type 0
AheadFalls {L} J =
    (weight most : ℕ) (p : Process L) (h : List (Entry L)) (entry : Entry L) → IsRelay p
    → GivesAtMost J most p → Follows J p (entry ∷ h) →
    IsAnswered entry →
    ahead weight most p (entry ∷ h) + weight * length (put entry) + 1
    ≤ ahead weight most p h + ((weight + 9) * most + 5) * length (handed (took entry))

-- how many parcels each of the five puts at most for one that it takes: a page has at most 506 items and its
-- end, and for an item of a deck the jobs print so many lines at most
abbrev pub most_of : {L : Type 0} → Jobs L → ℕ → ℕ
most_of J p =
    if p == 1 then 1
    else if p == 2 then 1
    else if p == 3 then 507 * J.most
    else if p == 4 then 507
    else if p == 5 then 1
    else 0

-- Each of the five keeps to its bound.
abbrev pub TheFiveAreBounded : {L : Type 0} → Jobs L → Type 0
TheFiveAreBounded J = (p : ℕ) → GivesAtMost J (most_of J p) (process J p)
