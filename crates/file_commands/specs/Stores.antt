-- What a copy to the printer has, and whole pages.
use Rattle.std.specs.Prelude.{◌≡◌, ◌<◌, ℕ, length, slice_index_or, List, [], ◌∷◌, Option, Some, None}
use Rattle.std.specs.List.{concat}
use Rattle.disk_layout.specs.declared.kind.FileKind.TheVariants.{Ascii}
use Rattle.disk_layout.specs.Files.{File}
use Rattle.disk_contents.specs.Contents.{file_bytes, text_in}
use Rattle.pascal_mean.specs.Batch.{nothing_printed, with_characters, lines_in}
use Rattle.program_task.specs.Task.{Gives}
use Rattle.solo_task.specs.Answers.{Doing, no_file}
use Rattle.solo_task.specs.Copying.{copier, prints_file}
use Rattle.file_commands.specs.declared.copying.Copied.{Copied}
use Rattle.file_commands.specs.declared.copying.Copied.TheVariants as copied

-- what a copy of a file to the printer does
abbrev pub prints_found : Option File → Doing
prints_found None = no_file copier
prints_found (Some file) = prints_file file.kind (file_bytes file)

-- the lines of the file that was found are there to print, or the line that answers
abbrev pub ToPrint : Option File → Copied → Type 0
ToPrint found (copied.Lines lines) =
    (file : File) × (found ≡ Some file) × (file.kind ≡ Ascii)
    × (lines ≡ lines_in (with_characters nothing_printed (text_in (file_bytes file))))
ToPrint found (copied.Answer line) = prints_found found ≡ Gives (line ∷ [])

-- these are the bytes of some pages, one behind the other, each of which is whole
abbrev pub IsPagesOf : List ℕ → List (List ℕ) → Type 0
IsPagesOf bytes pages =
    (bytes ≡ concat pages) × ((n : ℕ) → n < length pages → length (slice_index_or pages n []) ≡ 512)
