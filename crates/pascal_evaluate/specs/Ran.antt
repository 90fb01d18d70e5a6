-- What the code did for a part of a program.
use Rattle.std.specs.Prelude.{◌≡◌, List, ◌++◌, flat_map, Result, Ok, Err, Vec}
use Rattle.solo_base.specs.declared.outcome.ProgResult.{ProgResult}
use Rattle.solo_base.specs.RunOutcome.{RunOutcome, Ends, Waits}
use Rattle.pascal_mean.specs.Situation.{Situation, Course, Gives, Over, and_then}
use Rattle.pascal_mean.specs.Batch.{characters_of}
use Rattle.pascal_mean.specs.Calls.{Given}
use Rattle.pascal_evaluate.specs.SeenStore.{seen_given, all_given}
use Rattle.pascal_evaluate.specs.declared.calls.Given as given_type
use Rattle.pascal_evaluate.specs.declared.stop.Stop as stop_type
use Rattle.pascal_evaluate.specs.declared.stop.Stop.TheVariants as stop

-- the run ended with this result, and all that counts of it but that stands in a situation
abbrev pub IsEnd : RunOutcome → ProgResult → Situation → Type 0
IsEnd (Ends r line ticks calls) result now =
    (r ≡ result) × (line ≡ now.line) × (ticks ≡ now.ticks)
    × (flat_map characters_of calls ≡ flat_map characters_of now.made)
IsEnd (Waits calls) result now = ⊥

-- the part ended the whole run, where the code says that it is over
abbrev pub IsStopped : {A : Type 0} → Course A → stop_type.Stop → Situation → Type 0
IsStopped course (stop.Over result) now =
    (outcome : RunOutcome) × (course ≡ Over outcome) × IsEnd outcome result now
IsStopped course stop.NoMemory now = Unit {0}

-- What the code answered for a part of a program, and the situation that it left: the value and the
-- situation of the part, or its end. Where memory was refused, nothing is said.
abbrev pub Ran : {A : Type 0} → Course A → Result A stop_type.Stop → Situation → Type 0
Ran course (Ok value) now = course ≡ Gives value now
Ran course (Err why) now = IsStopped course why now

-- the same of an argument, and of all arguments of a call
abbrev pub RanGiven : Course Given → Result given_type.Given stop_type.Stop → Situation → Type 0
RanGiven course (Ok given) now = course ≡ Gives (seen_given given) now
RanGiven course (Err why) now = IsStopped course why now

abbrev pub RanArguments : {A : Type 0} → Course (List Given) → Result (Vec given_type.Given A) stop_type.Stop
    → Situation → Type 0
RanArguments course (Ok given) now = course ≡ Gives (all_given given.items) now
RanArguments course (Err why) now = IsStopped course why now

-- the same of later arguments, which come behind those that were given before
abbrev pub RanMore : Course (List Given) → List Given → Result (Unit {0}) stop_type.Stop → List Given
    → Situation → Type 0
RanMore course before (Ok done) after now =
    and_then course (λ more then_is. Gives (before ++ more) then_is) ≡ Gives after now
RanMore course before (Err why) after now = IsStopped course why now
