-- The lines of the catalogue.
use Rattle.std.specs.Prelude.{◌≡◌, ℕ, ◌++◌, ◌∷◌, ◌⊎◌, List, [], map, codes, if◌then◌else◌, Option, Some, None}
use Rattle.std.specs.Fmt.{decimal}
use Rattle.std.specs.FinMap as fin
use Rattle.solo_base.specs.Blanks.{trimmed}
use Rattle.disk_layout.specs.declared.kind.FileKind.{FileKind}
use Rattle.disk_layout.specs.declared.kind.FileKind.TheVariants.{Scratch, Ascii, SeqCode, ConCode}
use Rattle.disk_layout.specs.Files.{File, Files}
use Rattle.disk_layout.specs.Names.{IsNameAfter}
use Rattle.disk_files.specs.declared.fault.FileInfo.{FileInfo}
use Rattle.disk_files.specs.Answers.{info_of}

abbrev pub kind_word : FileKind → List ℕ
kind_word Scratch = codes "SCRATCH"
kind_word Ascii = codes "ASCII"
kind_word SeqCode = codes "SEQCODE"
kind_word ConCode = codes "CONCODE"

-- the line of a file: `TEXT ASCII 1 PAGES`, and ` PROTECTED` behind
abbrev pub info_line : List ℕ → FileInfo → List ℕ
info_line name info =
    trimmed name ++ codes " " ++ kind_word info.kind ++ codes " " ++ decimal info.pages ++ codes " PAGES"
    ++ (if info.protected then codes " PROTECTED" else [])

abbrev pub file_line : List ℕ → File → List ℕ
file_line name file = info_line name (info_of file)

-- a line for each file, in the order of their names
abbrev pub file_lines : Files → List (List ℕ)
file_lines all = map (λ e. file_line e.0 e.1) (fin.entries all)

-- the line of the file that comes next behind the last is added; or none comes, and nothing is
abbrev pub NextLine : Files → Option (List ℕ) → List (List ℕ) → Option (List ℕ) → List (List ℕ) → Type 0
NextLine all last lines last_now lines_now =
    ((name : List ℕ) × (file : File) × IsNameAfter all last (Some name) × (fin.get all name ≡ Some file)
    × (last_now ≡ Some name) × (lines_now ≡ lines ++ file_line name file ∷ []))
    ⊎ (IsNameAfter all last None × (last_now ≡ last) × (lines_now ≡ lines))
