-- What came of a run.
use Rattle.std.specs.Prelude.{◌≡◌, Option, Some, Result, Ok, Err, OnOk, List, [], ◌∷◌, ⊤}
use Rattle.pipeline.specs.declared.cause.Cause.{Cause}
use Rattle.pipeline.specs.declared.cause.Cause.TheVariants as cause
use Rattle.pipeline.specs.First.{IsFirst}

-- Of a source that gave these items, or tells what it gives in all, this came out of stages that give so. It is
-- a first part of what they give; and where nothing was in the way it is all of that, and the source came to
-- its end.
pub record CameThrough {I O C : Type 0} (gives : List I → List O) (tells : Option (List I)) (gave : List I)
    (out : List O) (ended : Result (Unit {0}) C) : Type 0 where
  pub first : IsFirst out (gives gave)
  pub told : (all : List I) → tells ≡ Some all → IsFirst out (gives all)
  pub all : OnOk ended (out ≡ gives gave)
  pub over : OnOk ended ((all : List I) → tells ≡ Some all → gave ≡ all)

-- Where an end of the pipeline is the cause, that end has failed.
abbrev pub IsTold : Type 0 → Type 0 → Cause → Type 0
IsTold source_failed sink_failed cause.Source = source_failed
IsTold source_failed sink_failed cause.Sink = sink_failed
IsTold source_failed sink_failed cause.NoMemory = ⊤
IsTold source_failed sink_failed cause.NoThread = ⊤

-- how a run into a vector ended: the vector fails for want of memory
abbrev pub as_memory : Result (Unit {0}) Cause → Result (Unit {0}) Cause
as_memory (Ok done) = Ok done
as_memory (Err cause.Sink) = Err cause.NoMemory
as_memory (Err cause.NoMemory) = Err cause.NoMemory
as_memory (Err cause.NoThread) = Err cause.NoThread
as_memory (Err cause.Source) = Err cause.Source

-- what these stages give, each behind the one before
abbrev pub in_turn : {S T : Type 0} → (S → List T → List T) → List S → List T → List T
in_turn gives [] taken = taken
in_turn gives (stage ∷ stages) taken = in_turn gives stages (gives stage taken)
