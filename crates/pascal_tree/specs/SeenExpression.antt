-- The expression that a value of the code stands for.
use Rattle.std.specs.Prelude.{ℕ, List, [], ◌∷◌, map, Option, Some, None, option_map}
use Rattle.pascal_tree.specs.Expression.{Right, Expr, alone, compared, Simple, simple, Addends, no_addend, addend, Term, term, Multipliers, no_multiplier, multiplier, Factor, number, character, named, element, called, group, negated, Index, index, Arguments, arguments, Exprs, no_expr, next_expr}
use Rattle.pascal_tree.specs.declared.expression.Adding.{Adding}
use Rattle.pascal_tree.specs.declared.expression.Multiplying.{Multiplying}
use Rattle.pascal_tree.specs.declared.expression.Expr as expr
use Rattle.pascal_tree.specs.declared.expression.Comparison as comparisons
use Rattle.pascal_tree.specs.declared.expression.Simple as simples
use Rattle.pascal_tree.specs.declared.expression.Term as term_type
use Rattle.pascal_tree.specs.declared.expression.Factor as factors
use Rattle.pascal_tree.specs.declared.expression.Index as indexes
use Rattle.pascal_tree.specs.declared.expression.Arguments as argument_lists
use Rattle.pascal_tree.specs.declared.expression.Factor.TheOpen.{Factor-F, Arguments-F, Comparison-F, Expr-F, Index-F, Simple-F, Term-F}

abbrev pub addends_of : List (Adding × ℕ × Term) → Addends
addends_of [] = no_addend
addends_of (a ∷ more) = addend a.0 a.1 a.2 (addends_of more)

abbrev pub multipliers_of : List (Multiplying × ℕ × Factor) → Multipliers
multipliers_of [] = no_multiplier
multipliers_of (m ∷ more) = multiplier m.0 m.1 m.2 (multipliers_of more)

abbrev pub exprs_of : List (ℕ × Expr) → Exprs
exprs_of [] = no_expr
exprs_of (e ∷ more) = next_expr e.0 e.1 (exprs_of more)

abbrev pub expr_of : Simple → Option Right → Expr
expr_of s None = alone s
expr_of s (Some r) = compared s r.relation r.line r.simple

-- one level of each, with what is inside already seen
abbrev pub factor_step : Factor-F Factor Arguments Right Expr Index Simple Term → Factor
factor_step (Factor-F.Number n) = number n
factor_step (Factor-F.Character c) = character c
factor_step (Factor-F.Name n) = named n
factor_step (Factor-F.Element n i) = element n i.value
factor_step (Factor-F.Call n a) = called n a.value
factor_step (Factor-F.Group o e c) = group o e.value c
factor_step (Factor-F.Not l f) = negated l f.value

abbrev pub arguments_step : Arguments-F Factor Arguments Right Expr Index Simple Term → Arguments
arguments_step a = arguments a.opening a.first (exprs_of a.rest.items) a.closing

abbrev pub comparison_step : Comparison-F Factor Arguments Right Expr Index Simple Term → Right
comparison_step c = record { relation = c.relation; line = c.line; simple = c.right }

abbrev pub expr_step : Expr-F Factor Arguments Right Expr Index Simple Term → Expr
expr_step e = expr_of e.left (option_map (λ r. r.value) e.right)

abbrev pub index_step : Index-F Factor Arguments Right Expr Index Simple Term → Index
index_step i = index i.opening i.place i.closing

abbrev pub simple_step : Simple-F Factor Arguments Right Expr Index Simple Term → Simple
simple_step s = simple s.sign s.first (addends_of s.rest.items)

abbrev pub term_step : Term-F Factor Arguments Right Expr Index Simple Term → Term
term_step t = term t.first (multipliers_of t.rest.items)

abbrev pub seen_factor : factors.Factor → Factor
seen_factor = factors.fold-Factor Factor Arguments Right Expr Index Simple Term factor_step arguments_step comparison_step expr_step index_step simple_step term_step

abbrev pub seen_arguments : argument_lists.Arguments → Arguments
seen_arguments = argument_lists.fold-Arguments Factor Arguments Right Expr Index Simple Term factor_step arguments_step comparison_step expr_step index_step simple_step term_step

abbrev pub seen_comparison : comparisons.Comparison → Right
seen_comparison = comparisons.fold-Comparison Factor Arguments Right Expr Index Simple Term factor_step arguments_step comparison_step expr_step index_step simple_step term_step

abbrev pub seen_expr : expr.Expr → Expr
seen_expr = expr.fold-Expr Factor Arguments Right Expr Index Simple Term factor_step arguments_step comparison_step expr_step index_step simple_step term_step

abbrev pub seen_index : indexes.Index → Index
seen_index = indexes.fold-Index Factor Arguments Right Expr Index Simple Term factor_step arguments_step comparison_step expr_step index_step simple_step term_step

abbrev pub seen_simple : simples.Simple → Simple
seen_simple = simples.fold-Simple Factor Arguments Right Expr Index Simple Term factor_step arguments_step comparison_step expr_step index_step simple_step term_step

abbrev pub seen_term : term_type.Term → Term
seen_term = term_type.fold-Term Factor Arguments Right Expr Index Simple Term factor_step arguments_step comparison_step expr_step index_step simple_step term_step

-- the later parts of the lists
abbrev pub seen_addends : List (Adding × ℕ × term_type.Term) → Addends
seen_addends terms = addends_of (map (λ a. (a.0, a.1, seen_term a.2)) terms)

abbrev pub seen_multipliers : List (Multiplying × ℕ × factors.Factor) → Multipliers
seen_multipliers ms = multipliers_of (map (λ m. (m.0, m.1, seen_factor m.2)) ms)

abbrev pub seen_exprs : List (ℕ × expr.Expr) → Exprs
seen_exprs es = exprs_of (map (λ e. (e.0, seen_expr e.1)) es)
