-- The beginning of a FOR.
use Rattle.std.specs.Prelude.{ℕ, ◌+◌, List, [], ◌∷◌, ◌++◌}
use Rattle.stack_code.specs.declared.instr.Instr.{Instr}
use Rattle.pascal_tree.specs.Expression.{Expr}
use Rattle.pascal_code.specs.Instructions.{tick}
use Rattle.pascal_code.specs.Senses.{Site}
use Rattle.pascal_code.specs.Expressions.{expr_code}
use Rattle.pascal_code.specs.Statements.{store_own}

-- both bounds in their words
abbrev pub bounds_code : Site → ℕ → ℕ → Expr → Expr → List Instr
bounds_code site line free from to =
    tick line ∷ (expr_code site from ++ (store_own site free
    ∷ (expr_code site to ++ store_own site (free + 1) ∷ [])))
