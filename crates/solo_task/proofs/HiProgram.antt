-- The program of one card, its code, and that what is stored of it is loaded as it.
use Rattle.std.proofs.Common.{◌≡◌, ℕ, zero, suc, ◌<◌, ◌%◌, List, [], ◌∷◌, length, None, Ok, refl, ◌∙◌, ap, arith, lit<, lit≤}
use Rattle.std.specs.Prelude.{codes}
use Rattle.solo_base.specs.LineList.{AreLines}
use Rattle.solo_base.specs.Text.{text}
use Rattle.disk_contents.specs.Contents.{file_bytes, text_in, text_file, code_file, cut}
use Rattle.disk_contents.specs.Loading.{loaded_bytes}
use Rattle.disk_contents.specs.declared.loading.Loaded.TheVariants.{Code}
use Rattle.disk_system.proofs.Stored.{pages_read}
use Rattle.disk_system.proofs.Loads.{loaded_again}
use Rattle.stack_code.specs.CodeLists.{IsCode, FitsItsFields, UsesItsOperands, FitsInstr, FitsRoutine, instr_at, routine_at}
use Rattle.stack_code.specs.CodeFile.{code_bytes, least}
use Rattle.stack_code.specs.Rules.{height_at, is_behind_tick, broken_record}
use Rattle.pascal_tree.specs.Program.{Program}
use Rattle.pascal_tree.specs.Limits.{IsTree}
use Rattle.pascal_tree.specs.SpellProgram.{spelled}
use Rattle.pascal_tree.specs.DeclarationRules.{broken}
use Rattle.pascal_read.specs.Scan.{words}
use Rattle.pascal_read.proofs.WordsKeep.{words_kept}
use Rattle.pascal_reading.proofs.Readings.{tree_read}
use Rattle.pascal_mean.proofs.Trees.{char, only, do_call, a_program}
use Rattle.pascal_code.specs.Code.{code_of}
use Rattle.pascal_code.specs.Size.{size}
use Rattle.code_law.specs.Compiling.{by_size, by_rule, by_reading, compiling, compiled}
use Rattle.solo_task.specs.Compiles.{compiling_text}
use Rattle.solo_task.specs.WholeRows.{hi_card, hi_written}

abbrev pub hi_program : Program
hi_program = a_program [] [] (do_call 1 (codes "WRITE") (only (char 72) ∷ []) ∷ do_call 1 (codes "WRITE") (only (char 73) ∷ []) ∷ [])

-- a program is what its lines come to where its words are theirs, it keeps its limits and breaks no rule
pub comes-to : (lines : List (List ℕ)) (p : Program) → AreLines lines → words lines ≡ Ok (spelled p) → IsTree p → broken p ≡ None → by_size p ≡ compiled p
    → compiling lines ≡ compiled p
unfolding compiling
comes-to lines p are spell tree unbroken fits = ap by_reading (tree_read lines p are spell tree) ∙ ap (by_rule p) unbroken ∙ fits

hi-lines : AreLines (hi_card ∷ [])
hi-lines = (record { short = lit≤ tt; printable = refl }, tt)

hi-words : words (hi_card ∷ []) ≡ Ok (spelled hi_program)
hi-words = refl

hi-tree : IsTree hi_program
hi-tree = record {
  routines = tt;
  body = ((lit≤ tt, (((lit≤ tt, tt), tt), tt)), ((lit≤ tt, (((lit≤ tt, tt), tt), tt)), tt));
  words = (words_kept (hi_card ∷ []) (spelled hi_program) hi-lines hi-words).0;
}

hi-unbroken : broken hi_program ≡ None
unfolding broken
hi-unbroken = refl

hi-fits : by_size hi_program ≡ compiled hi_program
unfolding size
hi-fits = refl

pub hi-compiles : compiling (hi_card ∷ []) ≡ compiled hi_program
hi-compiles = comes-to (hi_card ∷ []) hi_program hi-lines hi-words hi-tree hi-unbroken hi-fits

pub hi-code : code_of hi_program ≡ hi_written
unfolding code_of
hi-code = refl

-- ---- the text in its file
pub text-back : text_in (file_bytes (text_file (text (hi_card ∷ [])))) ≡ text (hi_card ∷ [])
unfolding cut
text-back = refl

pub text-comes : compiling_text (text (hi_card ∷ [])) ≡ compiled hi_program
text-comes = hi-compiles

-- ---- the code in its file
hi-is_code : IsCode hi_written
hi-is_code = record {
  some_routine = lit≤ tt;
  few_routines = lit≤ tt;
  some_instr = lit≤ tt;
  few_instrs = lit≤ tt;
  operands = uses;
}
  where
    uses : (place : ℕ) → place < 7 → UsesItsOperands (instr_at hi_written place)
    uses zero below = record { a = λ e. absurd cc; b = λ e. absurd cc }
    uses (suc zero) below = record { a = λ e. absurd cc; b = λ e. refl }
    uses (suc (suc zero)) below = record { a = λ e. absurd cc; b = λ e. refl }
    uses (suc (suc (suc zero))) below = record { a = λ e. absurd cc; b = λ e. absurd cc }
    uses (suc (suc (suc (suc zero)))) below = record { a = λ e. absurd cc; b = λ e. refl }
    uses (suc (suc (suc (suc (suc zero))))) below = record { a = λ e. absurd cc; b = λ e. refl }
    uses (suc (suc (suc (suc (suc (suc zero)))))) below = record { a = λ e. refl; b = λ e. refl }
    uses (suc (suc (suc (suc (suc (suc (suc n))))))) below = absurd (omega (arith, below))

hi-fields : FitsItsFields hi_written
hi-fields = record { routines = routines; instrs = instrs }
  where
    routines : (k : ℕ) → k < 1 → FitsRoutine (routine_at hi_written k)
    routines zero below = record { starts = lit< tt; params = lit< tt; words = lit< tt; height = lit< tt }
    routines (suc k) below = absurd (omega (arith, below))

    instrs : (place : ℕ) → place < 7 → FitsInstr (instr_at hi_written place)
    instrs zero below = record { a = lit< tt; b = lit< tt }
    instrs (suc zero) below = record { a = lit< tt; b = lit< tt }
    instrs (suc (suc zero)) below = record { a = lit< tt; b = lit< tt }
    instrs (suc (suc (suc zero))) below = record { a = lit< tt; b = lit< tt }
    instrs (suc (suc (suc (suc zero)))) below = record { a = lit< tt; b = lit< tt }
    instrs (suc (suc (suc (suc (suc zero))))) below = record { a = lit< tt; b = lit< tt }
    instrs (suc (suc (suc (suc (suc (suc zero)))))) below = record { a = lit< tt; b = lit< tt }
    instrs (suc (suc (suc (suc (suc (suc (suc n))))))) below = absurd (omega (arith, below))

hi-good : broken_record hi_written ≡ None
unfolding broken_record least height_at is_behind_tick
hi-good = refl

hi-whole : length (code_bytes hi_written) % 512 ≡ 0
unfolding code_bytes
hi-whole = refl

pub hi-loaded : loaded_bytes (file_bytes (code_file hi_written)) ≡ Code hi_written
hi-loaded = ap loaded_bytes (pages_read (code_bytes hi_written) hi-whole) ∙ loaded_again hi_written hi-is_code hi-fields hi-good
