-- copy: cards or a file to the printer or to a new file.
use Rattle.std.specs.Prelude.{ℕ, false, List, codes, Option, Some, None, if◌then◌else◌}
use Rattle.std.specs.FinMap as fin
use Rattle.solo_base.specs.Text.{text}
use Rattle.disk_layout.specs.declared.kind.FileKind.{FileKind}
use Rattle.disk_layout.specs.declared.kind.FileKind.TheVariants.{Scratch, Ascii, SeqCode, ConCode}
use Rattle.disk_layout.specs.Files.{File, Files, with_protection}
use Rattle.disk_contents.specs.Contents.{file_bytes, text_in, text_file}
use Rattle.pascal_mean.specs.Batch.{nothing_printed, with_characters, lines_in}
use Rattle.solo_commands.specs.Commands.{is_cards, is_printer}
use Rattle.program_task.specs.Task.{CardFile, ReadsCards, prints_all}
use Rattle.solo_task.specs.Answers.{Doing, answers, no_file, file_exists, not_text, stores}

abbrev pub copier : List ℕ
copier = codes "COPY"

-- a text on the printer: its characters as lines, and the last one where it isn't empty
abbrev pub prints_text : List ℕ → Doing
prints_text characters =
    prints_all (lines_in (with_characters nothing_printed characters)) (answers copier (codes "OK"))

-- ---- From a file

abbrev pub prints_file : FileKind → List ℕ → Doing
prints_file Ascii bytes = prints_text (text_in bytes)
prints_file Scratch bytes = not_text copier
prints_file SeqCode bytes = not_text copier
prints_file ConCode bytes = not_text copier

-- a new file with the kind and the pages of another; that one's protection isn't copied
abbrev pub stores_file : File → Files → List ℕ → Option File → Doing
stores_file file all to (Some other) = file_exists copier
stores_file file all to None = stores copier all to (with_protection file false)

abbrev pub copies_file : Option File → Files → List ℕ → Doing
copies_file None all to = no_file copier
copies_file (Some file) all to =
    if is_printer to then prints_file file.kind (file_bytes file) else stores_file file all to
    (fin.get all to)

-- ---- From the cards

-- what becomes of a card file that was read
abbrev pub with_cards : (List (List ℕ) → Doing) → CardFile → Doing
with_cards use_cards file =
    if file.spoiled then answers copier (codes "SPOILED CARD") else use_cards file.cards

-- the text of a new file is each card followed by code 10; where the file is there already no card is read
abbrev pub stores_cards : Files → List ℕ → Option File → Doing
stores_cards all to (Some other) = file_exists copier
stores_cards all to None = ReadsCards (with_cards (λ cards. stores copier all to (text_file (text cards))))

abbrev pub copies_cards : Files → List ℕ → Doing
copies_cards all to =
    if is_printer to then ReadsCards (with_cards (λ cards. prints_text (text cards)))
    else stores_cards all to (fin.get all to)

-- `copy(cards, t)`, `copy(f, printer)`
abbrev pub copies : Files → List ℕ → List ℕ → Doing
copies all from to = if is_cards from then copies_cards all to else copies_file (fin.get all from) all to
