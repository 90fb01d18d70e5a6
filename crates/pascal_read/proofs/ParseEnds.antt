-- Each want has an ending: the words of a shortest part that it stands for.
use Rattle.std.proofs.Common.{List, [], ◌∷◌, None, inr, refl, arith}
use Rattle.pascal_tree.specs.Word.{Spot, NameAt, NumberAt, AreWords}
use Rattle.pascal_tree.specs.Expression.{alone, Simple, simple, Term, term, no_addend, no_multiplier, number, named, no_expr}
use Rattle.pascal_tree.specs.Statement.{empty, call, body, sequence, no_statement, no_branch}
use Rattle.pascal_tree.specs.SpellExpression.{reserved_at, symbol_at, name_at, number_at}
use Rattle.pascal_tree.specs.declared.statement.Direction.TheVariants as directions
use Rattle.pascal_tree.specs.declared.constant.Constant.TheVariants as constants
use Rattle.pascal_tree.specs.declared.declaration.Kind.TheVariants as kinds
use Rattle.pascal_tree.specs.declared.token.Reserved.TheVariants as reserved
use Rattle.pascal_tree.specs.declared.token.Symbol.TheVariants as symbol
use Rattle.pascal_read.specs.ParseFirst.{end_at}
use Rattle.pascal_read.specs.ParseWants.{Want}
use Rattle.pascal_read.specs.ParseWants as want
use Rattle.pascal_read.proofs.ParseSpells.{Reads, HasLevel}

-- words before others that read what is wanted
pub record Ending (x : Want) (after : List Spot) : Type 0 where
  pub before : List Spot
  pub reads : Reads x before after
  pub words : AreWords after → AreWords before

-- the name A, and the number 0
abbrev some_name : NameAt
some_name = record { letters = 65 ∷ []; line = 0 }

abbrev some_number : NumberAt
some_number = record { value = 0; line = 0 }

abbrev some_term : Term
some_term = term (number some_number) no_multiplier

abbrev some_simple : Simple
some_simple = simple None some_term no_addend

-- what stands before words is words
is_name : (after : List Spot) → AreWords after → AreWords (name_at some_name ∷ after)
is_name after w = (((omega arith, omega arith), tt, omega arith), w)

is_number : (after : List Spot) → AreWords after → AreWords (number_at some_number ∷ after)
is_number after w = (omega arith, w)

is_definition : (after : List Spot) → AreWords after → AreWords (name_at some_name ∷ (symbol_at symbol.Equal 0 ∷ (number_at some_number ∷ (symbol_at symbol.Semicolon 0 ∷ after))))
is_definition after w =
    is_name (symbol_at symbol.Equal 0 ∷ (number_at some_number ∷ (symbol_at symbol.Semicolon 0 ∷ after))) (tt, is_number (symbol_at symbol.Semicolon 0 ∷ after) (tt, w))

is_group : (after : List Spot) → AreWords after → AreWords (name_at some_name ∷ (symbol_at symbol.Colon 0 ∷ (name_at some_name ∷ after)))
is_group after w = is_name (symbol_at symbol.Colon 0 ∷ (name_at some_name ∷ after)) (tt, is_name after w)

-- what may be left out
nothing : {x : Want} (after : List Spot) → Reads x after after → Ending x after
nothing after r = record { before = after; reads = r; words = λ w. w }

-- ELSE ends an IF too, so what follows doesn't matter.
pub ending : (x : Want) (after : List Spot) → HasLevel x → Ending x after
ending (want.reserved_word r) after h = record { before = reserved_at r 0 ∷ after; reads = record { part = 0; keeps = tt; is = refl }; words = λ w. (tt, w) }
ending (want.mark s) after h = record { before = symbol_at s 0 ∷ after; reads = record { part = 0; keeps = tt; is = refl }; words = λ w. (tt, w) }
ending want.name after h = record { before = name_at some_name ∷ after; reads = record { part = some_name; keeps = tt; is = refl }; words = is_name after }
ending want.number after h = record { before = number_at some_number ∷ after; reads = record { part = some_number; keeps = tt; is = refl }; words = is_number after }
ending want.end after h = record { before = end_at 0 ∷ after; reads = record { part = 0; keeps = tt; is = refl }; words = λ w. (tt, w) }
ending (want.expr n) after h = record { before = number_at some_number ∷ after; reads = record { part = alone some_simple; keeps = ((h, tt), tt); is = refl }; words = is_number after }
ending (want.relation n) after h = nothing after (λ s fits. record { part = alone s; keeps = fits; is = refl })
ending (want.simple n) after h = record { before = number_at some_number ∷ after; reads = record { part = some_simple; keeps = ((h, tt), tt); is = refl }; words = is_number after }
ending (want.addends n) after h = nothing after (record { part = no_addend; keeps = tt; is = refl })
ending (want.term n) after h = record { before = number_at some_number ∷ after; reads = record { part = some_term; keeps = (h, tt); is = refl }; words = is_number after }
ending (want.multipliers n) after h = nothing after (record { part = no_multiplier; keeps = tt; is = refl })
ending (want.factor n) after h = record { before = number_at some_number ∷ after; reads = record { part = number some_number; keeps = h; is = refl }; words = is_number after }
ending (want.behind_name n) after h = nothing after (λ x. record { part = named x; keeps = h; is = refl })
ending (want.more_exprs n) after h = nothing after (record { part = no_expr; keeps = tt; is = refl })
ending (want.statement n) after h = nothing after (record { part = empty; keeps = (h, λ e. tt); is = refl })
ending want.behind_first_name after h = nothing after (λ x n one. record { part = call x None; keeps = ((one, tt), λ e. tt); is = refl })
ending (want.otherwise n) after h = record { before = reserved_at reserved.Else 0 ∷ after; reads = inr (record { part = (0, empty); keeps = (h, λ e. tt); is = refl }); words = λ w. (tt, w) }
ending (want.more_statements n) after h = nothing after (record { part = no_statement; keeps = tt; is = refl })
ending (want.more_branches n) after h = nothing after (record { part = no_branch; keeps = tt; is = refl })
ending want.more_labels after h = nothing after (record { part = []; keeps = tt; is = refl })
ending want.direction after h = record { before = reserved_at reserved.To 0 ∷ after; reads = record { part = (directions.To, 0); keeps = tt; is = refl }; words = λ w. (tt, w) }
ending want.body after h = record {
  before = reserved_at reserved.Begin 0 ∷ (reserved_at reserved.End 0 ∷ after);
  reads = record { part = body 0 (sequence empty no_statement) 0; keeps = (omega arith, tt); is = refl };
  words = λ w. (tt, (tt, w));
}
ending want.heading after h = nothing after (record { part = None; keeps = tt; is = refl })
ending want.constant after h = record { before = number_at some_number ∷ after; reads = record { part = constants.Number some_number; keeps = tt; is = refl }; words = is_number after }
ending want.consts after h = nothing after (record { part = None; keeps = tt; is = refl })
ending want.definition after h = record {
  before = name_at some_name ∷ (symbol_at symbol.Equal 0 ∷ (number_at some_number ∷ (symbol_at symbol.Semicolon 0 ∷ after)));
  reads = record { part = record { name = some_name; equal = 0; value = constants.Number some_number; semicolon = 0 }; keeps = tt; is = refl };
  words = is_definition after;
}
ending want.more_definitions after h = nothing after (record { part = []; keeps = tt; is = refl })
ending want.kind after h = record { before = name_at some_name ∷ after; reads = record { part = kinds.Name some_name; keeps = tt; is = refl }; words = is_name after }
ending want.vars after h = nothing after (record { part = None; keeps = tt; is = refl })
ending want.group after h = record {
  before = name_at some_name ∷ (symbol_at symbol.Colon 0 ∷ (name_at some_name ∷ (symbol_at symbol.Semicolon 0 ∷ after)));
  reads = record { part = record { names = record { first = some_name; rest = [] }; colon = 0; kind = kinds.Name some_name; semicolon = 0 }; keeps = tt; is = refl };
  words = λ w. is_group (symbol_at symbol.Semicolon 0 ∷ after) (tt, w);
}
ending want.more_groups after h = nothing after (record { part = []; keeps = tt; is = refl })
ending want.more_names after h = nothing after (record { part = []; keeps = tt; is = refl })
ending want.parameters after h = nothing after (record { part = None; keeps = tt; is = refl })
ending want.parameter_group after h = record {
  before = name_at some_name ∷ (symbol_at symbol.Colon 0 ∷ (name_at some_name ∷ after));
  reads = record { part = record { var = None; names = record { first = some_name; rest = [] }; colon = 0; kind = some_name }; keeps = tt; is = refl };
  words = is_group after;
}
ending want.more_parameters after h = nothing after (record { part = []; keeps = tt; is = refl })
ending want.routines after h = nothing after (record { part = []; keeps = tt; is = refl })
