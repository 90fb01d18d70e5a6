-- What may stand behind a part or not: ELSE and its statement, a relation and a simple expression.
use Rattle.std.specs.Prelude.{◌≡◌, ℕ, Bool, true, false, List, [], ◌∷◌, Option, Some, None, option_map, Box}
use Rattle.pascal_tree.specs.Word.{Spot}
use Rattle.pascal_tree.specs.Expression.{Right}
use Rattle.pascal_tree.specs.Statement.{Statement}
use Rattle.pascal_tree.specs.SeenExpression.{seen_comparison}
use Rattle.pascal_tree.specs.SeenStatement.{seen_statement}
use Rattle.pascal_tree.specs.SpellExpression.{reserved_at, spelled_right}
use Rattle.pascal_tree.specs.SpellStatement.{spelled_statement}
use Rattle.pascal_tree.specs.Limits.{SimpleFits, StatementFits, EndsClosed}
use Rattle.pascal_tree.specs.declared.token.Reserved.TheVariants as reserved
use Rattle.pascal_tree.specs.declared.statement.Statement as statements
use Rattle.pascal_tree.specs.declared.expression.Comparison as comparisons

-- ELSE's line and its statement
abbrev pub seen_otherwise : Option (ℕ × statements.Statement) → Option (ℕ × Statement)
seen_otherwise o = option_map (λ p. (p.0, seen_statement p.1)) o

-- [ ELSE statement ]
abbrev pub spelled_otherwise : Option (ℕ × Statement) → List Spot
spelled_otherwise None = []
spelled_otherwise (Some o) = reserved_at reserved.Else o.0 ∷ spelled_statement o.1

-- the statement behind ELSE has at most so many levels
abbrev pub OtherwiseFits : Option (ℕ × Statement) → ℕ → Type 0
OtherwiseFits None n = Unit {0}
OtherwiseFits (Some o) n = StatementFits o.1 n

-- Without ELSE none follows; with one, an ELSE follows only where its statement ends closed.
abbrev pub OtherwiseCloses : Option (ℕ × Statement) → Bool → Type 0
OtherwiseCloses None follows = follows ≡ false
OtherwiseCloses (Some o) follows = follows ≡ true → EndsClosed o.1

-- the comparison in its box
abbrev pub seen_right : {Z : Type 0} → Option (Box comparisons.Comparison Z) → Option Right
seen_right o = option_map (λ c. seen_comparison c.value) o

-- [ relation simple ]
abbrev pub spelled_comparison : Option Right → List Spot
spelled_comparison None = []
spelled_comparison (Some r) = spelled_right r

-- the factors behind a relation have at most so many levels
abbrev pub RightFits : Option Right → ℕ → Type 0
RightFits None n = Unit {0}
RightFits (Some r) n = SimpleFits r.simple n
