-- What a reader of a program still wants, and what one word more makes of it.
use Rattle.std.specs.Prelude.{◌≡◌, ℕ, ◌-◌, nat_le, Bool, true, false, List, [], ◌∷◌, ◌++◌, Option, Some, None, option_map, if◌then◌else◌}
use denote.Enum.Bare.{sameb}
use Rattle.pascal_tree.specs.Word.{Spot}
use Rattle.pascal_read.specs.ParseFirst.{first_line}
use Rattle.pascal_tree.specs.declared.token.Word.{Word}
use Rattle.pascal_tree.specs.declared.token.Word.TheVariants as word
use Rattle.pascal_tree.specs.declared.token.Reserved.{Reserved}
use Rattle.pascal_tree.specs.declared.token.Reserved.TheVariants as reserved
use Rattle.pascal_tree.specs.contracts.token.Reserved as reserved_type
use Rattle.pascal_tree.specs.declared.token.Symbol.{Symbol}
use Rattle.pascal_tree.specs.declared.token.Symbol.TheVariants as symbol
use Rattle.pascal_tree.specs.contracts.token.Symbol as symbol_type
use Rattle.pascal_tree.specs.declared.expression.Relation.{Relation}
use Rattle.pascal_tree.specs.declared.expression.Relation.TheVariants as relations
use Rattle.pascal_tree.specs.declared.expression.Sign.{Sign}
use Rattle.pascal_tree.specs.declared.expression.Sign.TheVariants as signs
use Rattle.pascal_tree.specs.declared.expression.Adding.{Adding}
use Rattle.pascal_tree.specs.declared.expression.Adding.TheVariants as addings
use Rattle.pascal_tree.specs.declared.expression.Multiplying.{Multiplying}
use Rattle.pascal_tree.specs.declared.expression.Multiplying.TheVariants as multiplyings

-- whether a word is this reserved word or this symbol, or a word of this kind
abbrev pub is_reserved : Word → Reserved → Bool
is_reserved (word.Reserved found) r = sameb reserved_type.the_type found r
is_reserved other r = false

abbrev pub is_symbol : Word → Symbol → Bool
is_symbol (word.Symbol found) s = sameb symbol_type.the_type found s
is_symbol other s = false

abbrev pub is_name : Word → Bool
is_name (word.Name letters) = true
is_name other = false

abbrev pub is_number : Word → Bool
is_number (word.Number n) = true
is_number other = false

abbrev pub is_character : Word → Bool
is_character (word.Character c) = true
is_character other = false

abbrev pub is_end : Word → Bool
is_end word.End = true
is_end other = false

-- the relation, the sign or the operator that a word is, if it is one
abbrev pub relation_of : Word → Option Relation
relation_of w =
    if is_symbol w symbol.Equal then Some relations.Equal else
    if is_symbol w symbol.NotEqual then Some relations.NotEqual else
    if is_symbol w symbol.Less then Some relations.Less else
    if is_symbol w symbol.Greater then Some relations.Greater else
    if is_symbol w symbol.LessOrEqual then Some relations.LessOrEqual else
    if is_symbol w symbol.GreaterOrEqual then Some relations.GreaterOrEqual else None

abbrev pub sign_of : Word → Option Sign
sign_of w =
    if is_symbol w symbol.Plus then Some signs.Plus else
    if is_symbol w symbol.Minus then Some signs.Minus else None

abbrev pub adding_of : Word → Option Adding
adding_of w =
    if is_symbol w symbol.Plus then Some addings.Plus else
    if is_symbol w symbol.Minus then Some addings.Minus else
    if is_reserved w reserved.Or then Some addings.Or else None

abbrev pub multiplying_of : Word → Option Multiplying
multiplying_of w =
    if is_symbol w symbol.Times then Some multiplyings.Times else
    if is_reserved w reserved.Div then Some multiplyings.Div else
    if is_reserved w reserved.Mod then Some multiplyings.Mod else
    if is_symbol w symbol.And then Some multiplyings.And else None

-- One part of a program that is still wanted. A number is the levels that its factors or
-- statements may have. What goes on a list, or may be left out, is a want too.
pub data Want : Type 0 where
  reserved_word : Reserved → Want
  mark : Symbol → Want
  name : Want
  number : Want
  end : Want
  expr : ℕ → Want
  relation : ℕ → Want
  simple : ℕ → Want
  addends : ℕ → Want
  term : ℕ → Want
  multipliers : ℕ → Want
  factor : ℕ → Want
  behind_name : ℕ → Want
  more_exprs : ℕ → Want
  statement : ℕ → Want
  behind_first_name : Want
  otherwise : ℕ → Want
  more_statements : ℕ → Want
  more_branches : ℕ → Want
  more_labels : Want
  direction : Want
  body : Want
  heading : Want
  constant : Want
  consts : Want
  definition : Want
  more_definitions : Want
  kind : Want
  vars : Want
  group : Want
  more_groups : Want
  more_names : Want
  parameters : Want
  parameter_group : Want
  more_parameters : Want
  routines : Want

-- what a word makes of one want: it takes the word and leaves others, it takes none, or it can't go on
pub data Step : Type 0 where
  took : List Want → Step
  skip : Step
  no : Step

-- the first, or else the second
abbrev pub or_else : {A : Type 0} → Option A → Option A → Option A
or_else None q = q
or_else (Some x) q = Some x

-- one step where there is something, and the other where there is nothing
abbrev pub if_some : {A : Type 0} → Option A → Step → Step → Step
if_some None p q = q
if_some (Some x) p q = p

-- one level more, where there is one
abbrev pub deeper : ℕ → (ℕ → List Want) → Step
deeper n f = if nat_le 2 n then took (f (n - 1)) else no

-- takes the word exactly where it passes a test
abbrev pub exactly : Bool → Step
exactly b = if b then took [] else no

-- what the first word of a part leaves to be read of the part, where it begins one
abbrev pub begun : Option (List Want) → Step
begun None = no
begun (Some more) = took more

-- the same with more behind the part
abbrev pub extended : Option (List Want) → List Want → Option (List Want)
extended None rest = None
extended (Some more) rest = Some (more ++ rest)

-- one level more, where there is one
abbrev pub inner : ℕ → (ℕ → List Want) → Option (List Want)
inner n f = if nat_le 2 n then Some (f (n - 1)) else None

-- what each word leaves of a factor, of a term, of a simple expression and of an expression that it begins
abbrev pub factor_begins : ℕ → Word → Option (List Want)
factor_begins n w =
    if is_number w then Some [] else
    if is_character w then Some [] else
    if is_name w then Some (behind_name n ∷ []) else
    if is_symbol w symbol.Open then inner n (λ m. expr m ∷ (mark symbol.Close ∷ [])) else
    if is_reserved w reserved.Not then inner n (λ m. factor m ∷ []) else None

abbrev pub term_begins : ℕ → Word → Option (List Want)
term_begins n w = extended (factor_begins n w) (multipliers n ∷ [])

abbrev pub simple_begins : ℕ → Word → Option (List Want)
simple_begins n w =
    or_else (option_map (λ s. term n ∷ (addends n ∷ [])) (sign_of w)) (extended (term_begins n w) (addends n ∷ []))

abbrev pub expr_begins : ℕ → Word → Option (List Want)
expr_begins n w = extended (simple_begins n w) (relation n ∷ [])

-- what stands behind the opening bracket of an index, and behind that of arguments
abbrev pub index_wants : ℕ → List Want
index_wants n = expr n ∷ mark symbol.CloseIndex ∷ []

abbrev pub argument_wants : ℕ → List Want
argument_wants n = expr n ∷ more_exprs n ∷ mark symbol.Close ∷ []

-- behind a name in an expression stands an index, an argument list or nothing
abbrev pub behind_name_step : ℕ → Word → Step
behind_name_step n w =
    if is_symbol w symbol.OpenIndex then deeper n index_wants else
    if is_symbol w symbol.Open then deeper n argument_wants else skip

-- behind the name that begins a statement stand an assignment, an argument list or nothing
abbrev pub behind_first_name_step : Word → Step
behind_first_name_step w =
    if is_symbol w symbol.Becomes then took (expr 64 ∷ []) else
    if is_symbol w symbol.OpenIndex then took (index_wants 64 ++ (mark symbol.Becomes ∷ expr 64 ∷ [])) else
    if is_symbol w symbol.Open then took (argument_wants 64) else skip

-- a branch of a CASE, and what stands behind CASE
abbrev pub branch_wants : ℕ → List Want
branch_wants n = constant ∷ more_labels ∷ mark symbol.Colon ∷ statement n ∷ []

abbrev pub case_wants : ℕ → List Want
case_wants n =
    expr 64 ∷ reserved_word reserved.Of ∷ (branch_wants n ++ (more_branches n ∷ reserved_word reserved.End ∷ []))

-- what stands behind BEGIN, up to its END
abbrev pub compound_wants : ℕ → List Want
compound_wants n = statement n ∷ more_statements n ∷ reserved_word reserved.End ∷ []

-- what stands behind IF, behind WHILE and behind REPEAT
abbrev pub if_wants : ℕ → List Want
if_wants n = expr 64 ∷ reserved_word reserved.Then ∷ statement n ∷ otherwise n ∷ []

abbrev pub while_wants : ℕ → List Want
while_wants n = expr 64 ∷ reserved_word reserved.Do ∷ statement n ∷ []

abbrev pub repeat_wants : ℕ → List Want
repeat_wants n = statement n ∷ more_statements n ∷ reserved_word reserved.Until ∷ expr 64 ∷ []

-- what stands between FOR and its statement
abbrev pub range_wants : List Want
range_wants = name ∷ mark symbol.Becomes ∷ expr 64 ∷ direction ∷ expr 64 ∷ reserved_word reserved.Do ∷ []

-- what each word makes of a statement: a word that begins none leaves an empty one
abbrev pub statement_step : ℕ → Word → Step
statement_step n w =
    if is_name w then took (behind_first_name ∷ []) else
    if is_reserved w reserved.Begin then deeper n compound_wants else
    if is_reserved w reserved.If then deeper n if_wants else
    if is_reserved w reserved.While then deeper n while_wants else
    if is_reserved w reserved.Repeat then deeper n repeat_wants else
    if is_reserved w reserved.For then deeper n (λ m. range_wants ++ (statement m ∷ [])) else
    if is_reserved w reserved.Case then deeper n case_wants else skip

-- what is wanted behind the name that begins a definition, a group or a parameter group
abbrev pub definition_rest : List Want → List Want
definition_rest more = mark symbol.Equal ∷ (constant ∷ (mark symbol.Semicolon ∷ more))

abbrev pub group_rest : List Want → List Want
group_rest more = more_names ∷ (mark symbol.Colon ∷ (kind ∷ (mark symbol.Semicolon ∷ more)))

abbrev pub parameter_group_rest : List Want
parameter_group_rest = more_names ∷ (mark symbol.Colon ∷ (name ∷ []))

-- what stands behind ARRAY
abbrev pub array_rest : List Want
array_rest =
    mark symbol.OpenIndex ∷ constant ∷ mark symbol.UpTo ∷ constant ∷ mark symbol.CloseIndex ∷ reserved_word reserved.Of ∷ name ∷ []

-- the constants, variables and statements of a routine
abbrev pub block_wants : List Want
block_wants = consts ∷ vars ∷ body ∷ []

-- what stands behind PROCEDURE and behind FUNCTION, up to the routine's end
abbrev pub procedure_rest : List Want
procedure_rest = name ∷ parameters ∷ mark symbol.Semicolon ∷ (block_wants ++ mark symbol.Semicolon ∷ [])

abbrev pub function_rest : List Want
function_rest = name ∷ parameters ∷ mark symbol.Colon ∷ name ∷ mark symbol.Semicolon ∷ (block_wants ++ mark symbol.Semicolon ∷ [])

-- one word at one want
abbrev pub want_step : Want → Word → Step
want_step (reserved_word r) w = exactly (is_reserved w r)
want_step (mark s) w = exactly (is_symbol w s)
want_step name w = exactly (is_name w)
want_step number w = exactly (is_number w)
want_step end w = exactly (is_end w)
want_step (expr n) w = begun (expr_begins n w)
want_step (relation n) w = if_some (relation_of w) (took (simple n ∷ [])) skip
want_step (simple n) w = begun (simple_begins n w)
want_step (addends n) w = if_some (adding_of w) (took (term n ∷ (addends n ∷ []))) skip
want_step (term n) w = begun (term_begins n w)
want_step (multipliers n) w = if_some (multiplying_of w) (took (factor n ∷ (multipliers n ∷ []))) skip
want_step (factor n) w = begun (factor_begins n w)
want_step (behind_name n) w = behind_name_step n w
want_step (more_exprs n) w = if is_symbol w symbol.Comma then took (expr n ∷ (more_exprs n ∷ [])) else skip
want_step (statement n) w = statement_step n w
want_step behind_first_name w = behind_first_name_step w
want_step (otherwise n) w = if is_reserved w reserved.Else then took (statement n ∷ []) else skip
want_step (more_statements n) w = if is_symbol w symbol.Semicolon then took (statement n ∷ (more_statements n ∷ [])) else skip
want_step (more_branches n) w = if is_symbol w symbol.Semicolon then took (branch_wants n ++ more_branches n ∷ []) else skip
want_step more_labels w = if is_symbol w symbol.Comma then took (constant ∷ more_labels ∷ []) else skip
want_step direction w = if is_reserved w reserved.To then took [] else exactly (is_reserved w reserved.Downto)
want_step body w = if is_reserved w reserved.Begin then took (compound_wants 64) else no
want_step heading w = if is_reserved w reserved.Program then took (name ∷ (mark symbol.Semicolon ∷ [])) else skip
want_step constant w =
    if is_name w then took [] else
    if is_number w then took [] else
    if is_symbol w symbol.Minus then took (number ∷ []) else exactly (is_character w)
want_step consts w = if is_reserved w reserved.Const then took (definition ∷ (more_definitions ∷ [])) else skip
want_step definition w = if is_name w then took (definition_rest []) else no
want_step more_definitions w = if is_name w then took (definition_rest (more_definitions ∷ [])) else skip
want_step kind w =
    if is_name w then took [] else
    if is_reserved w reserved.Array then took array_rest else no
want_step vars w = if is_reserved w reserved.Var then took (group ∷ (more_groups ∷ [])) else skip
want_step group w = if is_name w then took (group_rest []) else no
want_step more_groups w = if is_name w then took (group_rest (more_groups ∷ [])) else skip
want_step more_names w = if is_symbol w symbol.Comma then took (name ∷ (more_names ∷ [])) else skip
want_step parameters w = if is_symbol w symbol.Open then took (parameter_group ∷ (more_parameters ∷ (mark symbol.Close ∷ []))) else skip
want_step parameter_group w =
    if is_name w then took parameter_group_rest else
    if is_reserved w reserved.Var then took (name ∷ parameter_group_rest) else no
want_step more_parameters w = if is_symbol w symbol.Semicolon then took (parameter_group ∷ (more_parameters ∷ [])) else skip
want_step routines w =
    if is_reserved w reserved.Procedure then took (procedure_rest ++ (routines ∷ [])) else
    if is_reserved w reserved.Function then took (function_rest ++ (routines ∷ [])) else skip

-- the wants after a step: those that it leaves, or what the later wants make of the word
abbrev pub settle : Step → List Want → Option (List Want) → Option (List Want)
settle (took more) rest later = Some (more ++ rest)
settle skip rest later = later
settle no rest later = None

-- the wants after one word: the first that doesn't skip it takes it, or none can
unfoldable pub offer : List Want → Word → Option (List Want)
offer [] w = None
offer (x ∷ rest) w = settle (want_step x w) rest (offer rest w)

-- a reader comes to the end of the words with nothing wanted, or it is stuck at the first of some words
pub data Outcome : Type 0 where
  done : Outcome
  stuck : List Spot → Outcome

-- goes on with the wants that there are, or is stuck here
abbrev pub resume : Option (List Want) → (List Want → Outcome) → List Spot → Outcome
resume None go here = stuck here
resume (Some wants) go here = go wants

-- what comes of reading words with these wants
unfoldable pub run : List Spot → List Want → Outcome
run [] [] = done
run [] (x ∷ rest) = stuck []
run (t ∷ ts) wants = resume (offer wants t.word) (run ts) (t ∷ ts)

-- a whole program, with its end token
abbrev pub program_wants : List Want
program_wants = heading ∷ (consts ∷ (vars ∷ (routines ∷ (body ∷ (mark symbol.Period ∷ (end ∷ []))))))

-- the line of the word at which a reader is stuck
abbrev pub stuck_line : Outcome → Option ℕ
stuck_line done = None
stuck_line (stuck ts) = Some (first_line ts)

-- the line of the word at which a reader over these words is stuck, with these wants
unfoldable pub report : List Spot → List Want → Option ℕ
report ts wants = stuck_line (run ts wants)

-- All of this is read, whatever is wanted next.
abbrev pub AllGoesOn : List Want → List Spot → List Spot → Type 0
AllGoesOn wants before after = (y : Want) (rest : List Want) → report before (wants ++ (y ∷ rest)) ≡ report after (y ∷ rest)

-- All of this can't be read: the reader is stuck on this line.
abbrev pub AllIsStuck : List Want → List Spot → ℕ → Type 0
AllIsStuck wants before line = (y : Want) (rest : List Want) → report before (wants ++ (y ∷ rest)) ≡ Some line

-- what was wanted is read, whatever is wanted next
abbrev pub GoesOn : Want → List Spot → List Spot → Type 0
GoesOn x before after = (y : Want) (rest : List Want) → report before (x ∷ (y ∷ rest)) ≡ report after (y ∷ rest)

-- What is wanted can't be read: the reader is stuck on this line.
abbrev pub IsStuck : Want → List Spot → ℕ → Type 0
IsStuck x before line = (y : Want) (rest : List Want) → report before (x ∷ (y ∷ rest)) ≡ Some line

-- what was wanted is left out
abbrev pub Skips : Want → List Spot → Type 0
Skips x before = (y : Want) (rest : List Want) → report before (x ∷ (y ∷ rest)) ≡ report before (y ∷ rest)
