-- The copies.
use Rattle.std.proofs.Common.{◌≡◌, ℕ, Bool, true, false, List, [], ◌∷◌, codes, Option, None, Some, Ok, refl, sym, ◌∙◌, ap}
use Rattle.std.specs.Prelude.{if◌then◌else◌}
use Rattle.std.specs.Option.{option_map}
use Rattle.std.specs.FinMap as fin
use Rattle.solo_base.specs.Text.{text}
use Rattle.disk_layout.specs.declared.kind.FileKind.TheVariants.{Ascii}
use Rattle.disk_layout.specs.Files.{File, Files, files as file_map}
use Rattle.disk_files.specs.declared.fault.FileInfo.{FileInfo}
use Rattle.disk_files.specs.Answers.{info_of}
use Rattle.disk_contents.specs.Contents.{file_bytes, text_in, text_file}
use Rattle.solo_commands.specs.Commands.{is_cards, is_printer}
use Rattle.pascal_mean.specs.Batch.{nothing_printed, with_characters, lines_in}
use Rattle.program_task.specs.Task.{CardFile, Gives, ReadsCards, prints_all}
use Rattle.solo_task.specs.Answers.{Doing, answers, answer_line, no_file, file_exists, stores}
use Rattle.solo_task.specs.Copying.{copier, copies, copies_cards, copies_file, stores_cards, stores_file, prints_file, with_cards}
use Rattle.file_commands.specs.declared.copying.Copied.{Copied}
use Rattle.file_commands.specs.declared.copying.Copied.TheVariants as copied
use Rattle.file_commands.specs.Stores.{ToPrint, prints_found}
use Rattle.file_commands.proofs.Copies.{found-one, found-none}
use Rattle.session_work.specs.Pausing.{prints_cards, stores_these}

pub from-cards : (all : Files) (from to : List ℕ) → is_cards from ≡ true → copies all from to ≡ copies_cards all to
from-cards all from to is = ap (λ (b : Bool). if b then copies_cards all to else copies_file (fin.get all from) all to) is

pub from-file : (all : Files) (from to : List ℕ) → is_cards from ≡ false → copies all from to ≡ copies_file (fin.get all from) all to
from-file all from to is = ap (λ (b : Bool). if b then copies_cards all to else copies_file (fin.get all from) all to) is

pub to-printer : (all : Files) (to : List ℕ) → is_printer to ≡ true → copies_cards all to ≡ ReadsCards (with_cards prints_cards)
to-printer all to is = ap (λ (b : Bool). if b then ReadsCards (with_cards prints_cards) else stores_cards all to (fin.get all to)) is

to-new : (all : Files) (to : List ℕ) (found : Option File) → is_printer to ≡ false → fin.get all to ≡ found → copies_cards all to ≡ stores_cards all to found
to-new all to found is get =
    ap (λ (b : Bool). if b then ReadsCards (with_cards prints_cards) else stores_cards all to (fin.get all to)) is ∙ ap (stores_cards all to) get

pub exists-so : (all : Files) (to : List ℕ) (info : FileInfo) (found : Option FileInfo) → is_printer to ≡ false → found ≡ Some info
    → found ≡ option_map info_of (fin.get all to) → copies_cards all to ≡ file_exists copier
exists-so all to info found is some e =
    let (file, here, same) = found-one (fin.get all to) info (sym some ∙ e) in to-new all to (Some file) is here

pub new-so : (all : Files) (to : List ℕ) (found : Option FileInfo) → is_printer to ≡ false → found ≡ None → found ≡ option_map info_of (fin.get all to)
    → (copies_cards all to ≡ ReadsCards (with_cards (stores_these all to))) × (fin.get all to ≡ None)
new-so all to found is none e = let new = found-none (fin.get all to) (sym none ∙ e) in (to-new all to None is new, new)

-- ---- Of a file to the printer

file-to-printer : (found : Option File) (all : Files) (to : List ℕ) → is_printer to ≡ true → copies_file found all to ≡ prints_found found
file-to-printer None all to is = refl
file-to-printer (Some file) all to is =
    ap (λ (b : Bool). if b then prints_file file.kind (file_bytes file) else stores_file file all to (fin.get all to)) is

pub printed-file : (found : Option File) (all : Files) (to : List ℕ) (lines : List (List ℕ)) → is_printer to ≡ true
    → (file : File) × (found ≡ Some file) × (file.kind ≡ Ascii) × (lines ≡ lines_in (with_characters nothing_printed (text_in (file_bytes file))))
    → copies_file found all to ≡ prints_all lines (answers copier (codes "OK"))
printed-file found all to lines is (file, here, kind, same) =
    file-to-printer found all to is ∙ ap prints_found here ∙ ap (λ k. prints_file k (file_bytes file)) kind
    ∙ ap (λ (ls : List (List ℕ)). prints_all ls (answers copier (codes "OK"))) (sym same)

pub answered-file : (found : Option File) (all : Files) (to line : List ℕ) → is_printer to ≡ true → prints_found found ≡ Gives (line ∷ [])
    → copies_file found all to ≡ Gives (line ∷ [])
answered-file found all to line is gives = file-to-printer found all to is ∙ gives

-- ---- A card file

pub spoiled-so : (use_cards : List (List ℕ) → Doing) (cards : List (List ℕ)) (spoiled : Bool) → spoiled ≡ true
    → with_cards use_cards (record { cards = cards; spoiled = spoiled }) ≡ Gives (answer_line copier (codes "SPOILED CARD") ∷ [])
spoiled-so use_cards cards spoiled is = ap (λ (b : Bool). with_cards use_cards (record { cards = cards; spoiled = b })) is

pub sound-so : (use_cards : List (List ℕ) → Doing) (cards : List (List ℕ)) (spoiled : Bool) → spoiled ≡ false
    → with_cards use_cards (record { cards = cards; spoiled = spoiled }) ≡ use_cards cards
sound-so use_cards cards spoiled is = ap (λ (b : Bool). with_cards use_cards (record { cards = cards; spoiled = b })) is
