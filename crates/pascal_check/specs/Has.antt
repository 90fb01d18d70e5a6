-- What names and labels have where no rule is broken.
use Rattle.std.specs.Prelude.{◌≡◌, ℕ, ℤ, true, false, List, Option, Some, None, length}
use Rattle.pascal_tree.specs.Scopes.{Scope, same_scalar}
use Rattle.pascal_tree.specs.StatementRules.{Valued, value_of, is_among}
use Rattle.pascal_tree.specs.declared.constant.Constant.{Constant}
use Rattle.pascal_tree.specs.declared.scalar.Scalar.{Scalar}
use Rattle.pascal_tree.specs.declared.means.Means.{Means}
use Rattle.pascal_tree.specs.declared.means.Means.TheVariants as means

-- a procedure with so many parameters
abbrev pub IsRoutine : Option Means → ℕ → Type 0
IsRoutine (Some (means.Procedure ps)) count = count ≡ length ps
IsRoutine other count = ⊥

-- a function with so many parameters
abbrev pub IsFunction : Option Means → ℕ → Type 0
IsFunction (Some (means.Function ps t)) count = count ≡ length ps
IsFunction other count = ⊥

-- a value of a type that none of the earlier labels has
abbrev pub IsValue : Option Valued → Scalar → List ℤ → Type 0
IsValue None t earlier = ⊥
IsValue (Some v) t earlier = (same_scalar t v.type ≡ true) × (is_among (Some v) earlier ≡ false)

abbrev pub IsLabel : Scope → Scalar → List ℤ → Constant → Type 0
IsLabel s t earlier c = IsValue (value_of s c) t earlier
