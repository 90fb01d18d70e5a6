-- A mark for each place: whether a jump leads there.
use Rattle.std.specs.Prelude.{◌≡◌, ℕ, ◌<◌, Bool, false, List, slice_index_or}
use Rattle.stack_code.specs.CodeLists.{CodeLists}
use Rattle.stack_code.specs.Rules.{is_target}

-- the place behind the last instruction has one too
abbrev pub AreTargets : CodeLists → List Bool → Type 0
AreTargets c marks = (place : ℕ) → place < 8193 → slice_index_or marks place false ≡ is_target c place
