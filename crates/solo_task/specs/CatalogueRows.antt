-- Commands on files that were worked by hand, over any files of which the little is known that they need.
use Rattle.std.specs.Prelude.{◌≡◌, ℕ, Bool, true, false, List, [], ◌∷◌, ◌++◌, length, replicate, codes, Option, Some, None, Ok, Err}
use Rattle.std.specs.Fmt.{decimal}
use Rattle.std.specs.FinMap as fin
use Rattle.disk_layout.specs.declared.kind.FileKind.{FileKind}
use Rattle.disk_layout.specs.declared.kind.FileKind.TheVariants.{Ascii, SeqCode}
use Rattle.disk_layout.specs.Files.{File, Files}
use Rattle.disk_files.specs.declared.fault.FileFault.{FileFault}
use Rattle.disk_files.specs.declared.fault.FileFault.TheVariants.{CatalogFull, FileFull, DiskFull}
use Rattle.disk_system.specs.Calls.{room_answer}
use Rattle.disk_contents.specs.Contents.{file_bytes, text_in}
use Rattle.code_law.specs.Compiling.{Compiling, syntax_error, semantic_error, code_limit}
use Rattle.program_task.specs.OpenFiles.{pages_free}
use Rattle.solo_task.specs.Compiles.{bad_line_from, compiling_text}
use Rattle.solo_task.specs.Session.{session}
use Rattle.solo_task.specs.Rows.{lines_of, told_over, text_name}
use Rattle.solo_task.specs.WholeRows.{prog_file}

abbrev pub file_with : FileKind → Bool → List (List ℕ) → File
file_with kind protected pages = record { kind = kind; protected = protected; pages = pages }

-- a line that is typed over these files is answered so, and leaves them
abbrev pub Refuses : List ℕ → Files → List ℕ → Type 0
Refuses line all answer = session (lines_of (line ∷ [])) [] all ≡ told_over all (answer ∷ []) []

-- or the files are others then
abbrev pub Leaves : List ℕ → Files → List ℕ → Files → Type 0
Leaves line all answer now =
    session (lines_of (line ∷ [])) [] all
    ≡ record { console = answer ∷ []; paper = []; maps = all ∷ now ∷ [] }

abbrev pub TextIs : Files → Option File → Type 0
TextIs all found = fin.get all text_name ≡ found

abbrev pub ProgIs : Files → Option File → Type 0
ProgIs all found = fin.get all prog_file ≡ found

-- there is room, or there isn't, for a file of so many pages more
abbrev pub FitsOnDisk : Files → ℕ → Type 0
FitsOnDisk all count = room_answer (fin.len all) (pages_free all) count ≡ Ok tt

abbrev pub LacksRoom : Files → ℕ → FileFault → Type 0
LacksRoom all count fault = room_answer (fin.len all) (pages_free all) count ≡ Err fault

pub record CatalogueRows : Type 0 where
  pub deletes : (all : Files) (kind : FileKind) (pages : List (List ℕ))
      → TextIs all (Some (file_with kind false pages))
      → Leaves (codes "delete(text)") all (codes "DELETE: OK") (fin.remove all text_name)
  pub delete_protected : (all : Files) (kind : FileKind) (pages : List (List ℕ))
      → TextIs all (Some (file_with kind true pages))
      → Refuses (codes "delete(text)") all (codes "DELETE: PROTECTED")
  pub delete_none : (all : Files) → TextIs all None
      → Refuses (codes "delete(text)") all (codes "DELETE: NO FILE")
  pub renames : (all : Files) (kind : FileKind) (pages : List (List ℕ))
      → TextIs all (Some (file_with kind false pages)) → ProgIs all None
      → Leaves (codes "rename(text, prog)") all (codes "RENAME: OK")
      (fin.insert (fin.remove all text_name) prog_file (file_with kind false pages))
  pub rename_exists : (all : Files) (file other : File) → TextIs all (Some file) → ProgIs all (Some other)
      → Refuses (codes "rename(text, prog)") all (codes "RENAME: FILE EXISTS")
  pub rename_protected : (all : Files) (kind : FileKind) (pages : List (List ℕ))
      → TextIs all (Some (file_with kind true pages)) → ProgIs all None
      → Refuses (codes "rename(text, prog)") all (codes "RENAME: PROTECTED")
  pub rename_none : (all : Files) → TextIs all None
      → Refuses (codes "rename(text, prog)") all (codes "RENAME: NO FILE")
  pub protects : (all : Files) (kind : FileKind) (pages : List (List ℕ))
      → TextIs all (Some (file_with kind false pages))
      → Leaves (codes "protect(text, on)") all (codes "PROTECT: OK")
      (fin.insert all text_name (file_with kind true pages))
  pub protects_not : (all : Files) (kind : FileKind) (pages : List (List ℕ))
      → TextIs all (Some (file_with kind true pages))
      → Leaves (codes "protect(text, off)") all (codes "PROTECT: OK")
      (fin.insert all text_name (file_with kind false pages))
  pub protect_none : (all : Files) → TextIs all None
      → Refuses (codes "protect(text, on)") all (codes "PROTECT: NO FILE")

-- a text of these characters is compiled to this answer
abbrev pub BadWordIn : ℕ → List ℕ → Type 0
BadWordIn line characters =
    (all : Files) (protected : Bool)
    → TextIs all (Some (file_with Ascii protected ((characters ++ 25 ∷ 0 ∷ []) ∷ []))) → ProgIs all None
    → Refuses (codes "compile(text, prog)") all (codes "COMPILE: BAD WORD IN LINE " ++ decimal line)

-- a text that comes to this is compiled to this answer
abbrev pub CompilesSo : Compiling → List ℕ → Type 0
CompilesSo comes answer =
    (all : Files) (protected : Bool) (pages : List (List ℕ))
    → TextIs all (Some (file_with Ascii protected pages)) → ProgIs all None
    → compiling_text (text_in (file_bytes (file_with Ascii protected pages))) ≡ comes
    → Refuses (codes "compile(text, prog)") all (codes "COMPILE: " ++ answer)

pub record FileCopyRows : Type 0 where
  -- the kind is copied, and protection isn't
  pub copies : (all : Files) (kind : FileKind) (protected : Bool) (pages : List (List ℕ))
      → TextIs all (Some (file_with kind protected pages)) → ProgIs all None → FitsOnDisk all (length pages)
      → Leaves (codes "copy(text, prog)") all (codes "COPY: OK")
      (fin.insert all prog_file (file_with kind false pages))
  pub no_room : (all : Files) (file : File) → TextIs all (Some file) → ProgIs all None
      → LacksRoom all (length file.pages) DiskFull
      → Refuses (codes "copy(text, prog)") all (codes "COPY: DISK FULL")
  pub no_name_left : (all : Files) (file : File) → TextIs all (Some file) → ProgIs all None
      → LacksRoom all (length file.pages) CatalogFull
      → Refuses (codes "copy(text, prog)") all (codes "COPY: CATALOG FULL")
  pub too_many_pages : (all : Files) (file : File) → TextIs all (Some file) → ProgIs all None
      → LacksRoom all (length file.pages) FileFull
      → Refuses (codes "copy(text, prog)") all (codes "COPY: FILE FULL")
  pub exists : (all : Files) (file other : File) → TextIs all (Some file) → ProgIs all (Some other)
      → Refuses (codes "copy(text, prog)") all (codes "COPY: FILE EXISTS")
  -- where no file is there, it isn't asked whether the new one is
  pub no_file : (all : Files) → TextIs all None
      → Refuses (codes "copy(text, prog)") all (codes "COPY: NO FILE")
  -- to the printer go texts
  pub no_text : (all : Files) (protected : Bool) (pages : List (List ℕ))
      → TextIs all (Some (file_with SeqCode protected pages))
      → Refuses (codes "copy(text, printer)") all (codes "COPY: NOT TEXT")
  pub compile_exists : (all : Files) (protected : Bool) (pages : List (List ℕ)) (other : File)
      → TextIs all (Some (file_with SeqCode protected pages)) → ProgIs all (Some other)
      → Refuses (codes "compile(text, prog)") all (codes "COMPILE: FILE EXISTS")
  pub compile_no_text : (all : Files) (protected : Bool) (pages : List (List ℕ))
      → TextIs all (Some (file_with SeqCode protected pages)) → ProgIs all None
      → Refuses (codes "compile(text, prog)") all (codes "COMPILE: NOT TEXT")
  pub syntax : CompilesSo (syntax_error 3) (codes "SYNTAX ERROR IN LINE " ++ decimal 3)
  pub semantic : CompilesSo (semantic_error 4 2)
      (codes "SEMANTIC ERROR " ++ decimal 2 ++ codes " IN LINE " ++ decimal 4)
  pub code_limit : CompilesSo code_limit (codes "CODE LIMIT")
  -- a text on the printer: what doesn't print is `?`, and what its last line feed doesn't end is a line too
  pub printed : (all : Files) (protected : Bool)
      → TextIs all (Some (file_with Ascii protected ((65 ∷ 7 ∷ 10 ∷ 66 ∷ 25 ∷ 0 ∷ []) ∷ [])))
      → session (lines_of (codes "copy(text, printer)" ∷ [])) [] all
      ≡ told_over all (codes "COPY: OK" ∷ []) (codes "A?" ∷ codes "B" ∷ [])
  -- where there is no room for the text of a card file, the next copy has the next one
  pub cards_taken : (all : Files) → TextIs all None → LacksRoom all 1 DiskFull
      → session (lines_of (codes "copy(cards, text)" ∷ codes "copy(cards, printer)" ∷ []))
      (lines_of (codes "A" ∷ codes "#END" ∷ codes "B" ∷ [])) all
      ≡ told_over all (codes "COPY: DISK FULL" ∷ codes "COPY: OK" ∷ []) (codes "B" ∷ [])
  -- a character that doesn't print, in the second line; the same behind a bad word, and in a comment
  pub bad_line : BadWordIn 2 (32 ∷ 10 ∷ 7 ∷ [])
  pub bad_word_before : BadWordIn 1 (63 ∷ 10 ∷ 7 ∷ [])
  pub in_comment : BadWordIn 2 (34 ∷ 10 ∷ 7 ∷ 34 ∷ [])
  pub open_comment : BadWordIn 1 (34 ∷ 10 ∷ 7 ∷ [])
  -- a line has at most 132 characters
  pub too_long : bad_line_from 1 (replicate 132 32 ∷ replicate 133 32 ∷ []) ≡ Some 2
