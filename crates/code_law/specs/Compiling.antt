-- What compiling the cards of a program comes to.
use Rattle.std.specs.Prelude.{◌≡◌, ℕ, List, Option, Some, None, nat_le, if◌then◌else◌}
use Rattle.stack_code.specs.CodeLists.{CodeLists}
use Rattle.pascal_tree.specs.declared.broken.Broken.{Broken}
use Rattle.pascal_tree.specs.Program.{Program}
use Rattle.pascal_tree.specs.DeclarationRules.{broken}
use Rattle.pascal_reading.specs.Reading as reads
use Rattle.pascal_code.specs.Code.{code_of}
use Rattle.pascal_code.specs.Size.{size}
use Rattle.code_law.specs.Law.{Compiles}

-- The program that the cards spell and that has code; or the line of the first bad word; or that of the
-- first error; or the first broken rule, with the line of the word that is named; or that the code would
-- have more than 8,192 instructions.
pub data Compiling : Type 0 where
  compiled : Program → Compiling
  bad_word : ℕ → Compiling
  syntax_error : ℕ → Compiling
  semantic_error : (line rule : ℕ) → Compiling
  code_limit : Compiling

-- a program that breaks no rule, by the size of its code
abbrev pub by_size : Program → Compiling
by_size p = if nat_le (size p) 8192 then compiled p else code_limit

-- a program, by the first rule that it breaks
abbrev pub by_rule : Program → Option Broken → Compiling
by_rule p None = by_size p
by_rule p (Some b) = semantic_error b.line b.rule

-- what the cards are read as comes to
abbrev pub by_reading : reads.Reading → Compiling
by_reading (reads.tree p) = by_rule p (broken p)
by_reading (reads.bad_word line) = bad_word line
by_reading (reads.syntax_error line) = syntax_error line

-- The words come first, then the tree, the static rules, and the size of the code: `BEGIN END.` comes to its
-- tree, `BEGIN ?` to a bad word in line 1, `BEGIN` to an error in line 2, and `BEGIN X := 1 END.` breaks
-- rule 2 in line 1.
unfoldable pub compiling : List (List ℕ) → Compiling
compiling cards = by_reading (reads.reading cards)

-- the code is that of the program, which can be compiled
pub record IsCodeOf (p : Program) (code : CodeLists) : Type 0 where
  pub compiles : Compiles p
  pub is : code ≡ code_of p

-- the code is that of the program that these cards come to
pub record IsCodeFor (cards : List (List ℕ)) (code : CodeLists) : Type 0 where
  pub program : Program
  pub comes_to : compiling cards ≡ compiled program
  pub is_code : IsCodeOf program code
