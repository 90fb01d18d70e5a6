-- Parts of an expression by themselves.
use Rattle.std.specs.Prelude.{ℕ, ◌∷◌, [], ◌++◌, Bool, true, false, not, ◌&&◌, ◌||◌, Option, Some, None, is_some}
use Rattle.pascal_tree.specs.Word.{NameAt}
use Rattle.pascal_tree.specs.Expression.{Expr, Right}
use Rattle.pascal_tree.specs.Scopes.{Scope, means_of, same_scalar, is_scalar}
use Rattle.pascal_tree.specs.declared.scalar.Scalar.{Scalar}
use Rattle.pascal_tree.specs.declared.parameter.Parameter.{Parameter}
use Rattle.pascal_tree.specs.declared.parameter.Parameter.TheVariants as parameter
use Rattle.pascal_tree.specs.ExpressionRules.{Judged, breaks, agree, judged_simple, simple_type, judged_as, plain_name, judged_expr, named_type, element_type, is_array, is_variable, is_characters}
use Rattle.pascal_tree.specs.StatementRules.{may_be_set}
use Rattle.pascal_tree.specs.declared.scalar.Scalar.TheVariants as scalar

-- a relation behind a left side of this type, and its right side
abbrev pub judged_right : Scope → Option Scalar → Right → Judged
judged_right s left r =
    judged_simple s r.simple ++ breaks 8 (not (agree left (simple_type s r.simple))) r.line ∷ []

-- an argument
abbrev pub judged_argument : Scope → Expr → Option Parameter → Judged
judged_argument s e p = judged_as s p (plain_name e) (judged_expr s e)

-- whether a plain name is what its parameter wants
abbrev pub name_suits : Scope → NameAt → Option Parameter → Bool
name_suits s x None = true
name_suits s x (Some (parameter.Value t)) = is_scalar (named_type (means_of s x.letters)) t
name_suits s x (Some (parameter.VariableOf t)) = is_variable (means_of s x.letters) t
name_suits s x (Some (parameter.Characters n)) = is_characters (means_of s x.letters) n

-- whether a value of a type, which is no plain name, is what its parameter wants
abbrev pub value_suits : Scalar → Option Parameter → Bool
value_suits t None = true
value_suits t (Some (parameter.Value u)) = same_scalar t u
value_suits t (Some (parameter.VariableOf u)) = false
value_suits t (Some (parameter.Characters n)) = false

-- what an element is set to, behind an index of a type
abbrev pub judged_element_set : Scope → NameAt → (index value : Option Scalar) → ℕ → Judged
judged_element_set s x t value becomes =
    let m = means_of s x.letters in
    breaks 2 (not (is_some m)) x.line
    ∷ breaks 3 (is_some m && not (may_be_set s x)) x.line
    ∷ breaks 10 (is_array m && not (agree (element_type m) value)) becomes
    ∷ breaks 11 (not (is_array m) || not (is_scalar t scalar.Integer)) x.line
    ∷ []
