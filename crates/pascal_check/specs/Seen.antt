-- What the values of the code stand for.
use Rattle.std.specs.Prelude.{ℕ, List, map}
use Rattle.std.specs.Borrow.{Bor}
use Rattle.pascal_tree.specs.Scopes.{Declared, named_as}
use Rattle.pascal_tree.specs.declared.means.Means.{Means}
use Rattle.pascal_tree.specs.declared.means.Means.TheVariants as means
use Rattle.pascal_check.specs.declared.meaning.Meaning.{Meaning}
use Rattle.pascal_check.specs.declared.meaning.Meaning.TheVariants as meaning

-- what a name means; a routine's parameters are those that are lent
abbrev pub seen_meaning : Meaning → Means
seen_meaning (meaning.Constant t v) = means.Constant t v
seen_meaning (meaning.Variable t) = means.Variable t
seen_meaning (meaning.Reference t) = means.Reference t
seen_meaning (meaning.Procedure ps) = means.Procedure ps.now
seen_meaning (meaning.Function ps t) = means.Function ps.now t
seen_meaning (meaning.TypeName t) = means.TypeName t

-- the declarations that a table of names stands for
abbrev pub seen_table : List (Bor (List ℕ) × Meaning) → List Declared
seen_table = map (λ row. named_as row.0.now (seen_meaning row.1))
