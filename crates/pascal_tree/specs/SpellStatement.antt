-- The words of a statement, production by production.
use Rattle.std.specs.Prelude.{List, [], ◌∷◌, ◌++◌, Option, Some, None}
use Rattle.pascal_tree.specs.Word.{Spot}
use Rattle.pascal_tree.specs.Expression.{Index, Arguments}
use Rattle.pascal_tree.specs.Statement.{Statement, empty, assign, call, compound, if_then, if_else, while_do, repeat_until, for_do, case_of, Body, body, Sequence, sequence, Statements, no_statement, next_statement, Branch, branch, Branches, no_branch, next_branch}
use Rattle.pascal_tree.specs.SpellExpression.{reserved_at, symbol_at, name_at, spelled_expr, spelled_index, spelled_arguments}
use Rattle.pascal_tree.specs.SpellConstant.{spelled_labels}
use Rattle.pascal_tree.specs.declared.token.Reserved.{Reserved}
use Rattle.pascal_tree.specs.declared.token.Reserved.TheVariants as reserved
use Rattle.pascal_tree.specs.declared.token.Symbol.TheVariants as symbol
use Rattle.pascal_tree.specs.declared.statement.Direction.{Direction}
use Rattle.pascal_tree.specs.declared.statement.Direction.TheVariants as direction

-- TO | DOWNTO
abbrev pub direction_word : Direction → Reserved
direction_word direction.To = reserved.To
direction_word direction.Downto = reserved.Downto

-- [ "(." expr ".)" ]
abbrev pub spelled_place : Option Index → List Spot
spelled_place None = []
spelled_place (Some i) = spelled_index i

-- [ "(" expr { "," expr } ")" ]
abbrev pub spelled_call : Option Arguments → List Spot
spelled_call None = []
spelled_call (Some a) = spelled_arguments a

abbrev mutual
  pub spelled_statement : Statement → List Spot
  -- nothing
  spelled_statement empty = []
  -- name [ "(." expr ".)" ] ":=" expr
  spelled_statement (assign n i b e) = name_at n ∷ (spelled_place i ++ (symbol_at symbol.Becomes b ∷ spelled_expr e))
  -- name [ "(" expr { "," expr } ")" ]
  spelled_statement (call n a) = name_at n ∷ spelled_call a
  spelled_statement (compound b) = spelled_body b
  -- IF expr THEN statement [ ELSE statement ]
  spelled_statement (if_then l e t s) =
      reserved_at reserved.If l ∷ (spelled_expr e ++ (reserved_at reserved.Then t ∷ spelled_statement s))
  spelled_statement (if_else l e t s o u) =
      reserved_at reserved.If l ∷ (spelled_expr e ++ (reserved_at reserved.Then t ∷ (spelled_statement s
      ++ (reserved_at reserved.Else o ∷ spelled_statement u))))
  -- WHILE expr DO statement
  spelled_statement (while_do l e d s) =
      reserved_at reserved.While l ∷ (spelled_expr e ++ (reserved_at reserved.Do d ∷ spelled_statement s))
  -- REPEAT statement { ";" statement } UNTIL expr
  spelled_statement (repeat_until l s u e) =
      reserved_at reserved.Repeat l ∷ (spelled_sequence s ++ (reserved_at reserved.Until u ∷ spelled_expr e))
  -- FOR name ":=" expr ( TO | DOWNTO ) expr DO statement
  spelled_statement (for_do l n b e w t f d s) =
      reserved_at reserved.For l ∷ (name_at n ∷ (symbol_at symbol.Becomes b ∷ (spelled_expr e
      ++ (reserved_at (direction_word w) t ∷ (spelled_expr f ++ (reserved_at reserved.Do d ∷ spelled_statement s))))))
  -- CASE expr OF branch { ";" branch } END
  spelled_statement (case_of l e o b more c) =
      reserved_at reserved.Case l ∷ (spelled_expr e ++ (reserved_at reserved.Of o ∷ (spelled_branch b
      ++ (spelled_branches more ++ reserved_at reserved.End c ∷ []))))

  -- body = BEGIN statement { ";" statement } END
  pub spelled_body : Body → List Spot
  spelled_body (body b s e) = reserved_at reserved.Begin b ∷ (spelled_sequence s ++ reserved_at reserved.End e ∷ [])

  -- statement { ";" statement }
  pub spelled_sequence : Sequence → List Spot
  spelled_sequence (sequence s more) = spelled_statement s ++ spelled_statements more

  pub spelled_statements : Statements → List Spot
  spelled_statements no_statement = []
  spelled_statements (next_statement l s more) =
      symbol_at symbol.Semicolon l ∷ (spelled_statement s ++ spelled_statements more)

  -- branch = constant { "," constant } ":" statement
  pub spelled_branch : Branch → List Spot
  spelled_branch (branch labels c s) = spelled_labels labels ++ (symbol_at symbol.Colon c ∷ spelled_statement s)

  -- { ";" branch }
  pub spelled_branches : Branches → List Spot
  spelled_branches no_branch = []
  spelled_branches (next_branch l b more) =
      symbol_at symbol.Semicolon l ∷ (spelled_branch b ++ spelled_branches more)
