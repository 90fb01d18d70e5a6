-- Commands on files: what is known of the files is put in, and the rest computes.
use Rattle.std.proofs.Common.{◌≡◌, ℕ, Bool, true, false, List, [], ◌∷◌, ◌++◌, length, Option, None, Some, Result, Ok, Err, refl, sym, subst}
use Rattle.std.specs.Prelude.{codes}
use Rattle.std.specs.FinMap as fin
use Rattle.std.specs.Fmt.{decimal}
use Rattle.disk_layout.specs.declared.kind.FileKind.TheVariants.{Ascii, SeqCode}
use Rattle.disk_layout.specs.Files.{File, Files, with_protection}
use Rattle.disk_files.specs.Answers.{delete_answer, rename_answer, protect_answer}
use Rattle.disk_files.specs.declared.fault.FileFault.{FileFault}
use Rattle.disk_files.specs.declared.fault.FileFault.TheVariants.{CatalogFull, FileFull, DiskFull}
use Rattle.disk_system.specs.Calls.{room_answer}
use Rattle.disk_contents.specs.Contents.{text_file, cut}
use Rattle.solo_base.specs.Text.{text}
use Rattle.code_law.specs.Compiling.{Compiling, syntax_error, semantic_error, code_limit}
use Rattle.program_task.specs.OpenFiles.{pages_free}
use Rattle.solo_task.specs.Answers.{Doing, becomes}
use Rattle.solo_task.specs.Copying.{copier, stores_cards, copies_file, stores_file}
use Rattle.solo_task.specs.Compiles.{stores_program, compiles_from, compiles_to}
use Rattle.solo_task.specs.Doing.{renamed, protected}
use Rattle.solo_task.specs.Session.{SoloWorld, Transcript, and_told, changed, command_told, world_after, lines_told, opening, session}
use Rattle.solo_task.specs.Rows.{told_over, text_name, lines_of}
use Rattle.solo_task.specs.WholeRows.{prog_file}
use Rattle.solo_task.specs.CatalogueRows.{file_with, TextIs, ProgIs, LacksRoom, BadWordIn, CompilesSo, CatalogueRows, FileCopyRows}

-- what a command alone tells over files
abbrev tells : Files → Doing → Transcript
tells all doing =
    changed all (and_told (command_told doing (opening [] [] all)) (lines_told 0 (world_after doing (opening [] [] all))))

abbrev refused : Files → List ℕ → Transcript
refused all answer = told_over all (answer ∷ []) []

abbrev leaving : Files → List ℕ → Files → Transcript
leaving all answer now = record { console = answer ∷ []; paper = []; maps = all ∷ now ∷ [] }

module _ (all : Files) where
  abbrev deleting : Option File → Doing
  deleting found = becomes (codes "DELETE") (delete_answer found) (fin.remove all text_name)

  abbrev renaming : Option File → Option File → Doing
  renaming old new = becomes (codes "RENAME") (rename_answer old new) (renamed all text_name prog_file old)

  abbrev protecting : Bool → Option File → Doing
  protecting on found = becomes (codes "PROTECT") (protect_answer found) (protected all text_name on found)

  -- a row that asks for one file, and one that asks for two
  one-file : (doing : Option File → Doing) (found : Option File) (expected : Transcript) → TextIs all found → tells all (doing found) ≡ expected
      → tells all (doing (fin.get all text_name)) ≡ expected
  one-file doing found expected e is = subst (λ found. tells all (doing found) ≡ expected) (sym e) is

  two-files : (doing : Option File → Option File → Doing) (found other : Option File) (expected : Transcript) → TextIs all found → ProgIs all other
      → tells all (doing found other) ≡ expected → tells all (doing (fin.get all text_name) (fin.get all prog_file)) ≡ expected
  two-files doing found other expected e f is =
      subst (λ found. tells all (doing found (fin.get all prog_file)) ≡ expected) (sym e)
      (subst (λ other. tells all (doing found other) ≡ expected) (sym f) is)

pub catalogue-rows : CatalogueRows
catalogue-rows = record {
  deletes = λ all kind pages e. one-file all (deleting all) (Some (file_with kind false pages))
      (leaving all (codes "DELETE: OK") (fin.remove all text_name)) e refl;
  delete_protected = λ all kind pages e. one-file all (deleting all) (Some (file_with kind true pages)) (refused all (codes "DELETE: PROTECTED")) e refl;
  delete_none = λ all e. one-file all (deleting all) None (refused all (codes "DELETE: NO FILE")) e refl;
  renames = λ all kind pages e f. two-files all (renaming all) (Some (file_with kind false pages)) None
      (leaving all (codes "RENAME: OK") (fin.insert (fin.remove all text_name) prog_file (file_with kind false pages))) e f refl;
  rename_exists = λ all file other e f. two-files all (renaming all) (Some file) (Some other) (refused all (codes "RENAME: FILE EXISTS")) e f refl;
  rename_protected = λ all kind pages e f. two-files all (renaming all) (Some (file_with kind true pages)) None
      (refused all (codes "RENAME: PROTECTED")) e f refl;
  rename_none = λ all e. one-file all (λ found. renaming all found (fin.get all prog_file)) None (refused all (codes "RENAME: NO FILE")) e refl;
  protects = λ all kind pages e. one-file all (protecting all true) (Some (file_with kind false pages))
      (leaving all (codes "PROTECT: OK") (fin.insert all text_name (file_with kind true pages))) e refl;
  protects_not = λ all kind pages e. one-file all (protecting all false) (Some (file_with kind true pages))
      (leaving all (codes "PROTECT: OK") (fin.insert all text_name (file_with kind false pages))) e refl;
  protect_none = λ all e. one-file all (protecting all true) None (refused all (codes "PROTECT: NO FILE")) e refl;
}

-- ---- copies, and what isn't compiled
abbrev printer_name : List ℕ
printer_name = codes "PRINTER     "

module _ (all : Files) where
  -- a copy of a file to a new one, by the file and by what is there under the new name
  copied : (file : File) (other : Option File) (expected : Transcript) → TextIs all (Some file) → ProgIs all other
      → tells all (stores_file file all prog_file other) ≡ expected → tells all (copies_file (fin.get all text_name) all prog_file) ≡ expected
  copied file other expected e f is =
      subst (λ found. tells all (copies_file found all prog_file) ≡ expected) (sym e)
      (subst (λ other. tells all (stores_file file all prog_file other) ≡ expected) (sym f) is)

  compiled_to : (file : File) (other : Option File) (expected : Transcript) → TextIs all (Some file) → ProgIs all other
      → tells all (compiles_to file all prog_file other) ≡ expected → tells all (compiles_from (fin.get all text_name) all prog_file) ≡ expected
  compiled_to file other expected e f is =
      subst (λ found. tells all (compiles_from found all prog_file) ≡ expected) (sym e)
      (subst (λ other. tells all (compiles_to file all prog_file other) ≡ expected) (sym f) is)

  -- the room that there is
  in-room : (file : File) (answer : Result (Unit {0}) FileFault) (expected : Transcript)
      → room_answer (fin.len all) (pages_free all) (length file.pages) ≡ answer
      → tells all (becomes copier answer (fin.insert all prog_file (with_protection file false))) ≡ expected
      → tells all (stores_file file all prog_file None) ≡ expected
  in-room file answer expected e is =
      subst (λ answer. tells all (becomes copier answer (fin.insert all prog_file (with_protection file false))) ≡ expected) (sym e) is

-- a text is compiled to what it comes to
comes-so : (comes : Compiling) (answer : List ℕ) → ((all : Files) → tells all (stores_program all prog_file comes) ≡ refused all (codes "COMPILE: " ++ answer))
    → CompilesSo comes answer
comes-so comes answer is all protected pages e f c =
    compiled_to all (file_with Ascii protected pages) None (refused all (codes "COMPILE: " ++ answer)) e f
    (subst (λ comes. tells all (stores_program all prog_file comes) ≡ refused all (codes "COMPILE: " ++ answer)) (sym c) (is all))

cards-taken : (all : Files) → TextIs all None → LacksRoom all 1 DiskFull
    → session (lines_of (codes "copy(cards, text)" ∷ codes "copy(cards, printer)" ∷ [])) (lines_of (codes "A" ∷ codes "#END" ∷ codes "B" ∷ [])) all
    ≡ told_over all (codes "COPY: DISK FULL" ∷ codes "COPY: OK" ∷ []) (codes "B" ∷ [])
unfolding cut
cards-taken all e full =
    let expected = told_over all (codes "COPY: DISK FULL" ∷ codes "COPY: OK" ∷ []) (codes "B" ∷ []) in
    let next = lines_of (codes "copy(cards, printer)" ∷ []) in
    let from : Doing → SoloWorld → Transcript = λ doing w. changed all (and_told (command_told doing w) (lines_told 1 (world_after doing w))) in
    let file : File = text_file (text (codes "A" ∷ [])) in
    let P : Option File → Type 0 = λ found.
    from (stores_cards all text_name found) (opening next (lines_of (codes "A" ∷ codes "#END" ∷ codes "B" ∷ [])) all) ≡ expected in
    let Q : Result (Unit {0}) FileFault → Type 0 = λ answer.
    from (becomes copier answer (fin.insert all text_name file)) (opening next (lines_of (codes "B" ∷ [])) all) ≡ expected in
    subst P (sym e) (subst Q (sym full) refl)

-- a text is compiled to the line of a bad word
bad-word : (line : ℕ) (characters : List ℕ) → ((all : Files) (protected : Bool)
    → tells all (compiles_to (file_with Ascii protected ((characters ++ 25 ∷ 0 ∷ []) ∷ [])) all prog_file None)
    ≡ refused all (codes "COMPILE: BAD WORD IN LINE " ++ decimal line)) → BadWordIn line characters
bad-word line characters is all protected e f =
    compiled_to all (file_with Ascii protected ((characters ++ 25 ∷ 0 ∷ []) ∷ [])) None (refused all (codes "COMPILE: BAD WORD IN LINE " ++ decimal line)) e f
    (is all protected)

pub copy-rows : FileCopyRows
copy-rows = record {
  copies = λ all kind protected pages e f room.
      copied all (file_with kind protected pages) None (leaving all (codes "COPY: OK") (fin.insert all prog_file (file_with kind false pages))) e f
      (in-room all (file_with kind protected pages) (Ok tt) (leaving all (codes "COPY: OK") (fin.insert all prog_file (file_with kind false pages))) room refl);
  no_room = λ all file e f full.
      copied all file None (refused all (codes "COPY: DISK FULL")) e f (in-room all file (Err DiskFull) (refused all (codes "COPY: DISK FULL")) full refl);
  no_name_left = λ all file e f full.
      copied all file None (refused all (codes "COPY: CATALOG FULL")) e f
      (in-room all file (Err CatalogFull) (refused all (codes "COPY: CATALOG FULL")) full refl);
  too_many_pages = λ all file e f full.
      copied all file None (refused all (codes "COPY: FILE FULL")) e f (in-room all file (Err FileFull) (refused all (codes "COPY: FILE FULL")) full refl);
  exists = λ all file other e f. copied all file (Some other) (refused all (codes "COPY: FILE EXISTS")) e f refl;
  no_file = λ all e. one-file all (λ found. copies_file found all prog_file) None (refused all (codes "COPY: NO FILE")) e refl;
  no_text = λ all protected pages e. one-file all (λ found. copies_file found all printer_name) (Some (file_with SeqCode protected pages))
      (refused all (codes "COPY: NOT TEXT")) e refl;
  compile_exists = λ all protected pages other e f.
      compiled_to all (file_with SeqCode protected pages) (Some other) (refused all (codes "COMPILE: FILE EXISTS")) e f refl;
  compile_no_text = λ all protected pages e f.
      compiled_to all (file_with SeqCode protected pages) None (refused all (codes "COMPILE: NOT TEXT")) e f refl;
  syntax = comes-so (syntax_error 3) (codes "SYNTAX ERROR IN LINE " ++ decimal 3) (λ all. refl);
  semantic = comes-so (semantic_error 4 2) (codes "SEMANTIC ERROR " ++ decimal 2 ++ codes " IN LINE " ++ decimal 4) (λ all. refl);
  code_limit = comes-so code_limit (codes "CODE LIMIT") (λ all. refl);
  printed = λ all protected e. one-file all (λ found. copies_file found all printer_name)
      (Some (file_with Ascii protected ((65 ∷ 7 ∷ 10 ∷ 66 ∷ 25 ∷ 0 ∷ []) ∷ []))) (told_over all (codes "COPY: OK" ∷ []) (codes "A?" ∷ codes "B" ∷ [])) e refl;
  cards_taken = cards-taken;
  bad_line = bad-word 2 (32 ∷ 10 ∷ 7 ∷ []) (λ all protected. refl);
  bad_word_before = bad-word 1 (63 ∷ 10 ∷ 7 ∷ []) (λ all protected. refl);
  in_comment = bad-word 2 (34 ∷ 10 ∷ 7 ∷ 34 ∷ []) (λ all protected. refl);
  open_comment = bad-word 1 (34 ∷ 10 ∷ 7 ∷ []) (λ all protected. refl);
  too_long = refl;
}
