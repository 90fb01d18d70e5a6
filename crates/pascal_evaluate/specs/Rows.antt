-- What the code did for a call of a row of the interface in the batch.
use Rattle.std.specs.Prelude.{ℕ, List, ℤ, Result}
use Rattle.solo_base.specs.declared.interface.Procedure.{Procedure}
use Rattle.pascal_mean.specs.Situation.{Situation}
use Rattle.pascal_mean.specs.Calls.{Given, interface_value}
use Rattle.pascal_mean.specs.Batch.{batch_answers}
use Rattle.pascal_evaluate.specs.Ran.{Ran}
use Rattle.pascal_evaluate.specs.declared.stop.Stop as stop_type

-- this is the input, and whatever the limit is
abbrev pub RanRow : List ℕ → Procedure → List Given → Situation → Result ℤ stop_type.Stop → Situation → Type 0
RanRow input p given before answer now =
    (limit : ℕ) → Ran (interface_value (batch_answers input) limit p given before) answer now
