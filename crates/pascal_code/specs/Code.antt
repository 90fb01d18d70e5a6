-- The code of a program, by the schemes.
use Rattle.std.specs.Prelude.{ℕ, ◌+◌, ◌-◌, max, List, [], ◌∷◌, ◌++◌, length, map, is_some}
use Rattle.stack_code.specs.declared.table.Op.TheVariants as op
use Rattle.stack_code.specs.declared.instr.Instr.{Instr}
use Rattle.stack_code.specs.declared.instr.RoutineInfo.{RoutineInfo}
use Rattle.stack_code.specs.CodeLists.{CodeLists}
use Rattle.stack_code.specs.Rules.{pops, pushes}
use Rattle.pascal_tree.specs.Statement.{Statement, empty, assign, call, compound, if_then, if_else, while_do, repeat_until, for_do, case_of, Body, body, Sequence, sequence, Statements, no_statement, next_statement, Branch, branch, Branches, no_branch, next_branch}
use Rattle.pascal_tree.specs.Program.{Program}
use Rattle.pascal_mean.specs.Means.{Owner, OfProgram, OfRoutine}
use Rattle.pascal_code.specs.Frames.{declared_words}
use Rattle.pascal_code.specs.Instructions.{bare}
use Rattle.pascal_code.specs.Senses.{Framed, all_framed, site_of}
use Rattle.pascal_code.specs.Statements.{body_code}

-- ---- Words

-- how many words of the frame FOR and CASE take where they are nested deepest: two and one for each
abbrev mutual
  pub nested_words : Statement → ℕ
  nested_words empty = 0
  nested_words (assign x i becomes e) = 0
  nested_words (call x a) = 0
  nested_words (compound b) = nested_in_body b
  nested_words (if_then line e then_line s) = nested_words s
  nested_words (if_else line e then_line s else_line t) = max (nested_words s) (nested_words t)
  nested_words (while_do line e do_line s) = nested_words s
  nested_words (repeat_until line s until_line e) = nested_in_sequence s
  nested_words (for_do line x becomes from way way_line to do_line s) = nested_words s + 2
  nested_words (case_of line e of_line b more end_line) =
      max (nested_in_branch b) (nested_in_branches more) + 1

  pub nested_in_body : Body → ℕ
  nested_in_body (body begin s end) = nested_in_sequence s

  pub nested_in_sequence : Sequence → ℕ
  nested_in_sequence (sequence s more) = max (nested_words s) (nested_in_statements more)

  pub nested_in_statements : Statements → ℕ
  nested_in_statements no_statement = 0
  nested_in_statements (next_statement line s more) = max (nested_words s) (nested_in_statements more)

  pub nested_in_branch : Branch → ℕ
  nested_in_branch (branch labels colon s) = nested_words s

  pub nested_in_branches : Branches → ℕ
  nested_in_branches no_branch = 0
  nested_in_branches (next_branch line b more) = max (nested_in_branch b) (nested_in_branches more)

-- ---- Height

-- the greatest number of operands along instructions, before which there are so many, in a code with these
-- routines
abbrev pub greatest_height : CodeLists → ℕ → List Instr → ℕ
greatest_height c height [] = height
greatest_height c height (i ∷ more) =
    max height (greatest_height c (height - pops c i.op i.a + pushes c i.op i.a) more)

-- ---- Routines

-- the program ends, a routine returns
abbrev pub ending : Owner → Instr
ending OfProgram = bare op.Halt
ending OfRoutine = bare op.Return

-- the instructions of a routine that starts at a place
abbrev pub routine_code : Framed → ℕ → List Instr
routine_code r start =
    body_code (site_of r) (declared_words r.frame) (r.declared).body start ++ ending r.owner ∷ []

-- what calls of a routine ask of it: how many words it takes as parameters, and whether it is a function
abbrev pub calling_info : Framed → RoutineInfo
calling_info r = record {
  start = 0;
  params = (r.frame).parameters;
  function = is_some ((r.declared).signature).answer;
  words = 0;
  height = 0;
}

abbrev pub calling_infos : List Framed → CodeLists
calling_infos all = record { routines = map calling_info all; instrs = [] }

abbrev pub routine_info : CodeLists → Framed → ℕ → List Instr → RoutineInfo
routine_info calling r start code = record {
  start = start;
  params = (r.frame).parameters;
  function = is_some ((r.declared).signature).answer;
  words = declared_words r.frame + nested_in_body (r.declared).body;
  height = greatest_height calling 0 code;
}

-- routine behind routine, from a place on
abbrev pub instrs_from : List Framed → ℕ → List Instr
instrs_from [] start = []
instrs_from (r ∷ more) start =
    let code = routine_code r start in
    code ++ instrs_from more (start + length code)

abbrev pub infos_from : CodeLists → List Framed → ℕ → List RoutineInfo
infos_from calling [] start = []
infos_from calling (r ∷ more) start =
    let code = routine_code r start in
    routine_info calling r start code ∷ infos_from calling more (start + length code)

-- The code of a program: the program is routine 0, and its routines follow in their order. `BEGIN END.` is
-- the one instruction HALT.
unfoldable pub code_of : Program → CodeLists
code_of p =
    let all = all_framed p in
    record { routines = infos_from (calling_infos all) all 0; instrs = instrs_from all 0 }
