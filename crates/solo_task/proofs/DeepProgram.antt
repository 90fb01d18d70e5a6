-- The program that runs itself: its tree, and its code.
use Rattle.std.proofs.Common.{◌≡◌, ◌≤◌, ℕ, List, [], ◌∷◌, None, Some, Ok, refl, lit≤}
use Rattle.std.specs.Prelude.{codes, false}
use Rattle.solo_base.specs.LineList.{AreLines}
use Rattle.stack_code.specs.CodeLists.{CodeLists}
use Rattle.stack_code.specs.declared.instr.Instr.{Instr}
use Rattle.stack_code.specs.declared.table.Op.TheVariants as op
use Rattle.pascal_tree.specs.declared.declaration.Kind.TheVariants as kind
use Rattle.pascal_tree.specs.declared.statement.Direction.TheVariants as direction
use Rattle.pascal_tree.specs.Expression.{Expr, Factor, number, character, named, index, arguments, Exprs, no_expr, next_expr}
use Rattle.pascal_tree.specs.Statement.{Statement, assign, call, for_do, body, sequence, no_statement, next_statement}
use Rattle.pascal_tree.specs.Program.{Group, Program}
use Rattle.pascal_tree.specs.Limits.{FactorFits, StatementFits, IsTree}
use Rattle.pascal_tree.specs.SpellProgram.{spelled}
use Rattle.pascal_tree.specs.DeclarationRules.{broken}
use Rattle.pascal_read.specs.Scan.{words}
use Rattle.pascal_read.proofs.WordsKeep.{words_kept}
use Rattle.pascal_mean.proofs.Trees.{at, only, label, integer, of_kind}
use Rattle.pascal_code.specs.Code.{code_of}
use Rattle.pascal_code.specs.Size.{size}
use Rattle.code_law.specs.Compiling.{by_size, compiling, compiled}
use Rattle.solo_task.specs.Rows.{does_op}
use Rattle.solo_task.specs.WholeRows.{deep_lines}
use Rattle.solo_task.proofs.HiProgram.{comes-to}

-- ---- its tree
abbrev num : ℕ → ℕ → Factor
num line n = number (record { value = n; line = line })

abbrev chr : ℕ → ℕ → Factor
chr line code = character (record { code = code; line = line })

abbrev named_at : ℕ → List ℕ → Factor
named_at line x = named (at line x)

abbrev sets : ℕ → Factor → ℕ → Statement
sets line i code = assign (at line (codes "ID")) (Some (index line (only i) line)) line (only (chr line code))

abbrev calls : ℕ → List ℕ → Expr → Exprs → Statement
calls line x first more = call (at line x) (Some (arguments line first more line))

abbrev letters : Group
letters = of_kind (codes "ID") [] (kind.Array 1 1 (label 1) 1 (label 12) 1 1 (at 1 (codes "CHAR")))

abbrev numbers : Group
numbers = of_kind (codes "L") (codes "R" ∷ codes "I" ∷ []) integer

abbrev blanks : Statement
blanks =
    for_do 2 (at 2 (codes "I")) 2 (only (num 2 1)) direction.To 2 (only (num 2 12)) 2 (sets 2 (named_at 2 (codes "I")) 32)

abbrev runs_itself : Statement
runs_itself =
    calls 4 (codes "RUN") (only (named_at 4 (codes "ID"))) (next_expr 4 (only (named_at 4 (codes "L"))) (next_expr 4 (only (named_at 4 (codes "R"))) no_expr))

abbrev pub deep_program : Program
deep_program = record {
  heading = None;
  consts = None;
  vars = Some (record { line = 1; first = letters; rest = numbers ∷ [] });
  routines = [];
  body = body 2 (sequence blanks (next_statement 2 (sets 3 (num 3 1) 68) (next_statement 3 (sets 3 (num 3 2) 69) (next_statement 3 (sets 3 (num 3 3) 69)
      (next_statement 3 (sets 3 (num 3 4) 80) (next_statement 3 runs_itself
      (next_statement 4 (calls 4 (codes "WRITEINT") (only (named_at 4 (codes "R"))) no_expr)
      (next_statement 4 (calls 4 (codes "WRITE") (only (named_at 4 (codes "NL"))) no_expr) no_statement)))))))) 4;
  period = 4;
  end = 5;
}

-- ---- it is what the lines spell
deep-lines : AreLines deep_lines
deep-lines = (
  record { short = lit≤ tt; printable = refl },
  (record { short = lit≤ tt; printable = refl }, (record { short = lit≤ tt; printable = refl }, (record { short = lit≤ tt; printable = refl }, tt))),
)

deep-words : words deep_lines ≡ Ok (spelled deep_program)
deep-words = refl

sets-fits : (n line : ℕ) (i : Factor) (code : ℕ) → 1 ≤ n → FactorFits i 64 → StatementFits (sets line i code) n
sets-fits n line i code low is = (low, ((is, tt), tt), ((lit≤ tt, tt), tt))

blanks-fit : StatementFits blanks 64
blanks-fit = (lit≤ tt, ((lit≤ tt, tt), tt), ((lit≤ tt, tt), tt), sets-fits 63 2 (named_at 2 (codes "I")) 32 (lit≤ tt) (lit≤ tt))

letter-fits : (i code : ℕ) → StatementFits (sets 3 (num 3 i) code) 64
letter-fits i code = sets-fits 64 3 (num 3 i) code (lit≤ tt) (lit≤ tt)

run-fits : StatementFits runs_itself 64
run-fits = (lit≤ tt, (((lit≤ tt, tt), tt), (((lit≤ tt, tt), tt), (((lit≤ tt, tt), tt), tt))))

one-fits : (x name : List ℕ) → StatementFits (calls 4 x (only (named_at 4 name)) no_expr) 64
one-fits x name = (lit≤ tt, (((lit≤ tt, tt), tt), tt))

deep-tree : IsTree deep_program
deep-tree = record {
  routines = tt;
  body = (
    blanks-fit,
    (
      letter-fits 1 68,
      (
        letter-fits 2 69,
        (
          letter-fits 3 69,
          (
            letter-fits 4 80,
            (
              run-fits,
              (
                one-fits (codes "WRITEINT") (codes "R"),
                (one-fits (codes "WRITE") (codes "NL"), tt),
              ),
            ),
          ),
        ),
      ),
    ),
  );
  words = (words_kept deep_lines (spelled deep_program) deep-lines deep-words).0;
}

deep-unbroken : broken deep_program ≡ None
unfolding broken
deep-unbroken = refl

deep-fits : by_size deep_program ≡ compiled deep_program
unfolding size
deep-fits = refl

pub deep-compiles : compiling deep_lines ≡ compiled deep_program
deep-compiles = comes-to deep_lines deep_program deep-lines deep-words deep-tree deep-unbroken deep-fits

-- ---- its code
abbrev puts_letter : ℕ → ℕ → List Instr → List Instr
puts_letter i code later =
    does_op op.Tick 0 3 ∷ does_op op.Push i 0 ∷ does_op op.Index 1 12 ∷ does_op op.Push code 0 ∷ does_op op.StoreGX 0 12 ∷ later

abbrev pub deep_code : CodeLists
deep_code = record {
  routines = record { start = 0; params = 0; function = false; words = 17; height = 2 } ∷ [];
  instrs = does_op op.Tick 0 2 ∷ does_op op.Push 1 0 ∷ does_op op.StoreG 15 0 ∷ does_op op.Push 12 0 ∷ does_op op.StoreG 16 0
      ∷ does_op op.LoadG 15 0 ∷ does_op op.LoadG 16 0 ∷ does_op op.Le 0 0 ∷ does_op op.JumpF 25 0
      ∷ does_op op.Tick 0 2 ∷ does_op op.LoadG 15 0 ∷ does_op op.StoreG 14 0
      ∷ does_op op.Tick 0 2 ∷ does_op op.LoadG 14 0 ∷ does_op op.Index 1 12 ∷ does_op op.Push 32 0 ∷ does_op op.StoreGX 0 12
      ∷ does_op op.LoadG 15 0 ∷ does_op op.LoadG 16 0 ∷ does_op op.Lt 0 0 ∷ does_op op.JumpF 25 0
      ∷ does_op op.LoadG 15 0 ∷ does_op op.Succ 0 0 ∷ does_op op.StoreG 15 0 ∷ does_op op.Jump 9 0
      ∷ puts_letter 1 68 (puts_letter 2 69 (puts_letter 3 69 (puts_letter 4 80 (
      does_op op.Tick 0 4 ∷ does_op op.SysG 13 0 ∷ does_op op.StoreG 13 0 ∷ does_op op.StoreG 12 0
      ∷ does_op op.Tick 0 4 ∷ does_op op.LoadG 13 0 ∷ does_op op.Sys 2 0
      ∷ does_op op.Tick 0 4 ∷ does_op op.Push 10 0 ∷ does_op op.Sys 1 0 ∷ does_op op.Halt 0 0 ∷ []))));
}

pub deep-code : code_of deep_program ≡ deep_code
unfolding code_of
deep-code = refl
