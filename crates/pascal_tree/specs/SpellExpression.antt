-- The words of an expression, production by production.
use Rattle.std.specs.Prelude.{ℕ, List, [], ◌∷◌, ◌++◌, Option, Some, None}
use Rattle.pascal_tree.specs.Word.{Spot, NameAt, NumberAt, CharacterAt}
use Rattle.pascal_tree.specs.Expression.{Right, Expr, alone, compared, Simple, simple, Addends, no_addend, addend, Term, term, Multipliers, no_multiplier, multiplier, Factor, number, character, named, element, called, group, negated, Index, index, Arguments, arguments, Exprs, no_expr, next_expr}
use Rattle.pascal_tree.specs.declared.token.Word.{Word}
use Rattle.pascal_tree.specs.declared.token.Word.TheVariants as word
use Rattle.pascal_tree.specs.declared.token.Reserved.{Reserved}
use Rattle.pascal_tree.specs.declared.token.Reserved.TheVariants as reserved
use Rattle.pascal_tree.specs.declared.token.Symbol.{Symbol}
use Rattle.pascal_tree.specs.declared.token.Symbol.TheVariants as symbol
use Rattle.pascal_tree.specs.declared.expression.Relation.{Relation}
use Rattle.pascal_tree.specs.declared.expression.Relation.TheVariants as relation
use Rattle.pascal_tree.specs.declared.expression.Sign.{Sign}
use Rattle.pascal_tree.specs.declared.expression.Sign.TheVariants as sign
use Rattle.pascal_tree.specs.declared.expression.Adding.{Adding}
use Rattle.pascal_tree.specs.declared.expression.Adding.TheVariants as adding
use Rattle.pascal_tree.specs.declared.expression.Multiplying.{Multiplying}
use Rattle.pascal_tree.specs.declared.expression.Multiplying.TheVariants as multiplying

-- a reserved word, a symbol, a name, a number and a character on their lines
abbrev pub reserved_at : Reserved → ℕ → Spot
reserved_at r line = record { word = word.Reserved r; line = line }

abbrev pub symbol_at : Symbol → ℕ → Spot
symbol_at s line = record { word = word.Symbol s; line = line }

abbrev pub name_at : NameAt → Spot
name_at n = record { word = word.Name n.letters; line = n.line }

abbrev pub number_at : NumberAt → Spot
number_at n = record { word = word.Number n.value; line = n.line }

abbrev pub character_at : CharacterAt → Spot
character_at c = record { word = word.Character c.code; line = c.line }

-- "=" | "<>" | "<" | ">" | "<=" | ">="
abbrev pub relation_symbol : Relation → Symbol
relation_symbol relation.Equal = symbol.Equal
relation_symbol relation.NotEqual = symbol.NotEqual
relation_symbol relation.Less = symbol.Less
relation_symbol relation.Greater = symbol.Greater
relation_symbol relation.LessOrEqual = symbol.LessOrEqual
relation_symbol relation.GreaterOrEqual = symbol.GreaterOrEqual

-- "+" | "-"
abbrev pub sign_symbol : Sign → Symbol
sign_symbol sign.Plus = symbol.Plus
sign_symbol sign.Minus = symbol.Minus

-- "+" | "-" | OR
abbrev pub adding_word : Adding → Word
adding_word adding.Plus = word.Symbol symbol.Plus
adding_word adding.Minus = word.Symbol symbol.Minus
adding_word adding.Or = word.Reserved reserved.Or

-- "*" | DIV | MOD | "&"
abbrev pub multiplying_word : Multiplying → Word
multiplying_word multiplying.Times = word.Symbol symbol.Times
multiplying_word multiplying.Div = word.Reserved reserved.Div
multiplying_word multiplying.Mod = word.Reserved reserved.Mod
multiplying_word multiplying.And = word.Symbol symbol.And

abbrev pub spelled_sign : Option (Sign × ℕ) → List Spot
spelled_sign None = []
spelled_sign (Some s) = symbol_at (sign_symbol s.0) s.1 ∷ []

abbrev mutual
  -- expr = simple [ relation simple ]
  pub spelled_expr : Expr → List Spot
  spelled_expr (alone s) = spelled_simple s
  spelled_expr (compared s r l t) = spelled_simple s ++ (symbol_at (relation_symbol r) l ∷ spelled_simple t)

  -- simple = [ sign ] term { adding term }
  pub spelled_simple : Simple → List Spot
  spelled_simple (simple s t more) = spelled_sign s ++ (spelled_term t ++ spelled_addends more)

  pub spelled_addends : Addends → List Spot
  spelled_addends no_addend = []
  spelled_addends (addend a l t more) =
      record { word = adding_word a; line = l } ∷ (spelled_term t ++ spelled_addends more)

  -- term = factor { multiplying factor }
  pub spelled_term : Term → List Spot
  spelled_term (term f more) = spelled_factor f ++ spelled_multipliers more

  pub spelled_multipliers : Multipliers → List Spot
  spelled_multipliers no_multiplier = []
  spelled_multipliers (multiplier m l f more) =
      record { word = multiplying_word m; line = l } ∷ (spelled_factor f ++ spelled_multipliers more)

  -- factor = number | character | name [ "(." expr ".)" ] | name "(" expr { "," expr } ")"
  --        | "(" expr ")" | NOT factor
  pub spelled_factor : Factor → List Spot
  spelled_factor (number n) = number_at n ∷ []
  spelled_factor (character c) = character_at c ∷ []
  spelled_factor (named n) = name_at n ∷ []
  spelled_factor (element n i) = name_at n ∷ spelled_index i
  spelled_factor (called n a) = name_at n ∷ spelled_arguments a
  spelled_factor (group o e c) = symbol_at symbol.Open o ∷ (spelled_expr e ++ symbol_at symbol.Close c ∷ [])
  spelled_factor (negated l f) = reserved_at reserved.Not l ∷ spelled_factor f

  -- "(." expr ".)"
  pub spelled_index : Index → List Spot
  spelled_index (index o e c) =
      symbol_at symbol.OpenIndex o ∷ (spelled_expr e ++ symbol_at symbol.CloseIndex c ∷ [])

  -- "(" expr { "," expr } ")"
  pub spelled_arguments : Arguments → List Spot
  spelled_arguments (arguments o e more c) =
      symbol_at symbol.Open o ∷ (spelled_expr e ++ (spelled_exprs more ++ symbol_at symbol.Close c ∷ []))

  -- { "," expr }
  pub spelled_exprs : Exprs → List Spot
  spelled_exprs no_expr = []
  spelled_exprs (next_expr l e more) = symbol_at symbol.Comma l ∷ (spelled_expr e ++ spelled_exprs more)

-- relation simple
abbrev pub spelled_right : Right → List Spot
spelled_right r = symbol_at (relation_symbol r.relation) r.line ∷ spelled_simple r.simple
