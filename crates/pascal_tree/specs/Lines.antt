-- The lines on which parts of a program begin.
use Rattle.std.specs.Prelude.{ℕ}
use Rattle.pascal_tree.specs.Statement.{Statement, empty, assign, call, compound, if_then, if_else, while_do, repeat_until, for_do, case_of, Body, body}
use Rattle.pascal_tree.specs.declared.constant.Constant.{Constant}
use Rattle.pascal_tree.specs.declared.constant.Constant.TheVariants as constant

-- the line of BEGIN
abbrev pub first_line_of_body : Body → ℕ
first_line_of_body (body b s e) = b

-- the line of a statement's first word, and 0 for the empty statement, which has none
abbrev pub first_line_of : Statement → ℕ
first_line_of empty = 0
first_line_of (assign x i b e) = x.line
first_line_of (call x a) = x.line
first_line_of (compound b) = first_line_of_body b
first_line_of (if_then l e t s) = l
first_line_of (if_else l e t s o u) = l
first_line_of (while_do l e d s) = l
first_line_of (repeat_until l s u e) = l
first_line_of (for_do l x b e w t f d s) = l
first_line_of (case_of l e o b more c) = l

-- the line of a constant's first word
abbrev pub first_line_of_constant : Constant → ℕ
first_line_of_constant (constant.Name n) = n.line
first_line_of_constant (constant.Number n) = n.line
first_line_of_constant (constant.Negative l n) = l
first_line_of_constant (constant.Character c) = c.line
