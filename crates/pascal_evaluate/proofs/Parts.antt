-- How what the code did for parts of a program is what it did for the whole.
use Rattle.std.proofs.Common.{◌≡◌, ℕ, ◌+◌, ◌≤◌, nat_lt, Bool, true, false, Result, Ok, Err, refl, ap, arith}
use Rattle.std.specs.Prelude.{IsErrAnd}
use Rattle.std.proofs.lemmas.Bool.Decides.{nat_tests}
use Rattle.solo_base.specs.declared.outcome.ProgResult.{ProgResult}
use Rattle.solo_base.specs.declared.outcome.ProgResult.TheVariants as result
use Rattle.solo_base.specs.RunOutcome.{RunOutcome, Ends}
use Rattle.pascal_mean.specs.Situation.{Situation, Course, Part, Gives, Over, and_then, choose, end_with, time_is_up, take_tick}
use Rattle.pascal_evaluate.specs.declared.stop.Stop.{Stop}
use Rattle.pascal_evaluate.specs.declared.stop.Stop.TheVariants as stop
use Rattle.pascal_evaluate.specs.Ran.{IsStopped, Ran}

-- a part that ends with a result here
pub ends_here : {A : Type 0} (r : ProgResult) (now : Situation) → IsStopped (end_with {A = A} r now) (stop.Over r) now
ends_here r now = (Ends r now.line now.ticks now.made, refl, (refl, refl, refl, refl))

-- one that a test lets end here
pub ends_else : {A : Type 0} (b : Bool) (first : Part A) (r : ProgResult) (now : Situation) → b ≡ false
    → IsStopped (choose b first (end_with r) now) (stop.Over r) now
ends_else true first r now is = absurd cc
ends_else false first r now is = ends_here r now

late_at : (b : Bool) (first : Part (Unit {0})) (line : ℕ) (now : Situation) → b ≡ false
    → IsStopped (choose b first (time_is_up line) now) (stop.Over result.TimeLimit) (record now { line = line })
late_at true first line now is = absurd cc
late_at false first line now is = (Ends result.TimeLimit line now.ticks now.made, refl, (refl, refl, refl, refl))

-- a tick past the limit
pub tick_late : (limit line : ℕ) (now : Situation) → limit ≤ now.ticks
    → IsStopped (take_tick limit line now) (stop.Over result.TimeLimit) (record now { line = line })
tick_late limit line now late =
    let past : nat_lt now.ticks limit ≡ false = grind (arith, nat_tests) in
    late_at (nat_lt now.ticks limit) (λ n. Gives tt (record n { line = line; ticks = n.ticks + 1 })) line now past

-- where a first part is over, the whole is
pub stopped_then : {A B : Type 0} (course : Course A) (go : A → Part B) (why : Stop) (now : Situation) → IsStopped course why now
    → IsStopped (and_then course go) why now
stopped_then course go (stop.Over r) now (outcome, is, ended) = (outcome, ap (λ k. and_then k go) is, ended)
stopped_then course go stop.NoMemory now is = tt

-- one part after the other, and then a third
pub and_then-and_then : {A B C : Type 0} (course : Course A) (go : A → Part B) (on : B → Part C)
    → and_then (and_then course go) on ≡ and_then course (λ v now. and_then (go v now) on)
and_then-and_then (Gives v now) go on = refl
and_then-and_then (Over outcome) go on = refl

pub gives_over : {A : Type 0} (v : A) (now : Situation) (outcome : RunOutcome) → Gives v now ≡ Over outcome → ⊥
gives_over v now outcome is = cc

over_is : {A : Type 0} (course : Course A) (one other : RunOutcome) → course ≡ Over one → course ≡ Over other → one ≡ other
over_is course one other is also = cc

-- where an error is passed on, the part is over as it was there
pub passed_on : {A : Type 0} (course : Course A) (answer : Result A Stop) (why : Stop) (now : Situation)
    → IsErrAnd answer (λ s. s ≡ why) → IsStopped course why now → Ran course answer now
passed_on course (Ok v) why now same stopped = absurd same
passed_on course (Err s) why now same stopped = rw same stopped

-- where a part that only goes on to give something is over, its first part is
pub stopped_first : {A B : Type 0} (first : Course A) (make : A → B) (why : Stop) (now : Situation)
    → IsStopped (and_then first (λ v then_is. Gives (make v) then_is)) why now → IsStopped first why now
stopped_first (Gives v mid) make (stop.Over r) now stopped = absurd (gives_over _ _ _ stopped.1)
stopped_first (Gives v mid) make stop.NoMemory now stopped = tt
stopped_first (Over outcome) make (stop.Over r) now stopped = (outcome, refl, rw (over_is _ outcome stopped.0 refl stopped.1) stopped.2)
stopped_first (Over outcome) make stop.NoMemory now stopped = tt

pub ruleset steps = (stopped_then, ends_here)
