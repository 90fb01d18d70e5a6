-- A command that is refused tells nothing, and reads no card where it is since a file exists.
use Rattle.std.proofs.Common.{◌≡◌, ◌⊎◌, inl, inr, ℕ, Bool, true, false, List, [], ◌∷◌, length, Option, None, Some, refl, sym, ◌∙◌, ap, subst, arith}
use Rattle.std.specs.Prelude.{if◌then◌else◌, codes, Result, Ok, Err, nat_le, nat_lt}
use Rattle.std.specs.FinMap as fin
use Rattle.solo_base.specs.Text.{text}
use Rattle.solo_base.specs.declared.system_call.Arg.{Arg}
use Rattle.disk_layout.specs.declared.kind.FileKind.{FileKind}
use Rattle.disk_layout.specs.declared.kind.FileKind.TheVariants.{Scratch, Ascii, SeqCode, ConCode}
use Rattle.disk_layout.specs.Deleting.{pages_held}
use Rattle.disk_layout.specs.Files.{File, Files, with_protection}
use Rattle.disk_files.specs.declared.fault.FileFault.{FileFault}
use Rattle.disk_files.specs.declared.fault.FileFault.TheVariants as fault
use Rattle.disk_files.specs.Answers.{delete_answer, rename_answer, protect_answer}
use Rattle.disk_system.specs.Calls.{room_answer}
use Rattle.disk_contents.specs.Contents.{file_bytes, text_in, text_file, code_file}
use Rattle.disk_contents.specs.Loading.{program_of}
use Rattle.disk_contents.specs.declared.loading.Loaded.{Loaded}
use Rattle.disk_contents.specs.declared.loading.Loaded.TheVariants as load
use Rattle.stack_code.specs.CodeLists.{CodeLists}
use Rattle.pascal_code.specs.Code.{code_of}
use Rattle.code_law.specs.Compiling.{Compiling, compiled, bad_word, syntax_error, semantic_error, code_limit}
use Rattle.pascal_mean.specs.Batch.{nothing_printed, with_characters, lines_in}
use Rattle.solo_commands.specs.declared.command.Command.TheVariants as command
use Rattle.solo_commands.specs.Commands.{is_cards, is_printer}
use Rattle.program_task.specs.OpenFiles.{pages_free}
use Rattle.program_task.specs.Task.{CardFile, Gives, ReadsCards, prints_all}
use Rattle.program_task.specs.Run.{runner, program_room}
use Rattle.solo_task.specs.Answers.{Doing, answer_line, answers, becomes, stores}
use Rattle.solo_task.specs.Copying.{copier, prints_text, prints_file, stores_file, copies_file, with_cards, stores_cards, copies_cards, copies}
use Rattle.solo_task.specs.Compiles.{compiler, compiling_text, stores_program, compiles_file, compiles_to, compiles_from}
use Rattle.solo_task.specs.Doing.{renamed, protected, runs_loaded, does}
use Rattle.solo_task.specs.Session.{SoloWorld, first_file, after_cards, world_after, given_by}
use Rattle.solo_task.specs.Laws.{TellsNothing, RefusedChangesNothing, RefusedProgramChangesNothing, ExistsReadsNoCard}

same-word : (a b : List ℕ) → ◌≡◌ {A = Option (List ℕ)} (Some a) (Some b) → a ≡ b
same-word a b e = cc

no-word : (a : List ℕ) → ◌≡◌ {A = Option (List ℕ)} None (Some a) → ⊥
no-word a e = cc

-- ---- Refused, or answered OK

abbrev Ends : List ℕ → Doing → SoloWorld → Type 0
Ends word doing w = (given_by doing w ≡ answer_line word (codes "OK") ∷ []) ⊎ TellsNothing doing w

quiet : (lines : List (List ℕ)) (w : SoloWorld) → TellsNothing (Gives lines) w
quiet lines w = record { told = refl; files = refl }

either-ends : (b : Bool) (word : List ℕ) (t u : Doing) (w : SoloWorld) → Ends word t w → Ends word u w → Ends word (if b then t else u) w
either-ends true word t u w is also = is
either-ends false word t u w is also = also

becomes-ends : (word : List ℕ) (answer : Result (Unit {0}) FileFault) (now : Files) (w : SoloWorld) → Ends word (becomes word answer now) w
becomes-ends word (Ok done) now w = inl refl
becomes-ends word (Err why) now w = inr (quiet _ w)

stores-ends : (word : List ℕ) (all : Files) (name : List ℕ) (file : File) (w : SoloWorld) → Ends word (stores word all name file) w
stores-ends word all name file w = becomes-ends word (room_answer (fin.len all) (pages_free all) (length file.pages)) (fin.insert all name file) w

given-printed : (lines : List (List ℕ)) (later : Doing) (w : SoloWorld) → given_by (prints_all lines later) w ≡ given_by later w
given-printed [] later w = refl
given-printed (line ∷ lines) later w = given-printed lines later w

text-ends : (characters : List ℕ) (w : SoloWorld) → Ends copier (prints_text characters) w
text-ends characters w = inl (given-printed (lines_in (with_characters nothing_printed characters)) (answers copier (codes "OK")) w)

file-ends : (kind : FileKind) (bytes : List ℕ) (w : SoloWorld) → Ends copier (prints_file kind bytes) w
file-ends Ascii bytes w = text-ends (text_in bytes) w
file-ends Scratch bytes w = inr (quiet _ w)
file-ends SeqCode bytes w = inr (quiet _ w)
file-ends ConCode bytes w = inr (quiet _ w)

stores_file-ends : (file : File) (all : Files) (to : List ℕ) (other : Option File) (w : SoloWorld) → Ends copier (stores_file file all to other) w
stores_file-ends file all to (Some other) w = inr (quiet _ w)
stores_file-ends file all to None w = stores-ends copier all to (with_protection file false) w

copies_file-ends : (file : Option File) (all : Files) (to : List ℕ) (w : SoloWorld) → Ends copier (copies_file file all to) w
copies_file-ends None all to w = inr (quiet _ w)
copies_file-ends (Some file) all to w =
    either-ends (is_printer to) copier (prints_file file.kind (file_bytes file)) (stores_file file all to (fin.get all to)) w
    (file-ends file.kind (file_bytes file) w) (stores_file-ends file all to (fin.get all to) w)

read-ends : (more : CardFile → Doing) (w : SoloWorld) → Ends copier (more (first_file w.cards)) (after_cards w) → Ends copier (ReadsCards more) w
read-ends more w (inl ok) = inl ok
read-ends more w (inr nothing) = inr (record { told = nothing.told; files = nothing.files })

with_cards-ends : (use_cards : List (List ℕ) → Doing) (file : CardFile) (w : SoloWorld) → Ends copier (use_cards file.cards) w
    → Ends copier (with_cards use_cards file) w
with_cards-ends use_cards file w is = either-ends file.spoiled copier (answers copier (codes "SPOILED CARD")) (use_cards file.cards) w (inr (quiet _ w)) is

stores_cards-ends : (all : Files) (to : List ℕ) (other : Option File) (w : SoloWorld) → Ends copier (stores_cards all to other) w
stores_cards-ends all to (Some other) w = inr (quiet _ w)
stores_cards-ends all to None w =
    let use_cards : List (List ℕ) → Doing = λ cards. stores copier all to (text_file (text cards)) in
    read-ends (with_cards use_cards) w
    (with_cards-ends use_cards (first_file w.cards) (after_cards w) (stores-ends copier all to (text_file (text (first_file w.cards).cards)) (after_cards w)))

prints_cards-ends : (w : SoloWorld) → Ends copier (ReadsCards (with_cards (λ cards. prints_text (text cards)))) w
prints_cards-ends w =
    let use_cards : List (List ℕ) → Doing = λ cards. prints_text (text cards) in
    read-ends (with_cards use_cards) w
    (with_cards-ends use_cards (first_file w.cards) (after_cards w) (text-ends (text (first_file w.cards).cards) (after_cards w)))

copies_cards-ends : (all : Files) (to : List ℕ) (w : SoloWorld) → Ends copier (copies_cards all to) w
copies_cards-ends all to w =
    either-ends (is_printer to) copier (ReadsCards (with_cards (λ cards. prints_text (text cards)))) (stores_cards all to (fin.get all to)) w
    (prints_cards-ends w) (stores_cards-ends all to (fin.get all to) w)

copies-ends : (all : Files) (from to : List ℕ) (w : SoloWorld) → Ends copier (copies all from to) w
copies-ends all from to w =
    either-ends (is_cards from) copier (copies_cards all to) (copies_file (fin.get all from) all to) w (copies_cards-ends all to w)
    (copies_file-ends (fin.get all from) all to w)

stores_program-ends : (all : Files) (to : List ℕ) (c : Compiling) (w : SoloWorld) → Ends compiler (stores_program all to c) w
stores_program-ends all to (compiled program) w = stores-ends compiler all to (code_file (code_of program)) w
stores_program-ends all to (bad_word line) w = inr (quiet _ w)
stores_program-ends all to (syntax_error line) w = inr (quiet _ w)
stores_program-ends all to (semantic_error line rule) w = inr (quiet _ w)
stores_program-ends all to code_limit w = inr (quiet _ w)

compiles_file-ends : (kind : FileKind) (bytes : List ℕ) (all : Files) (to : List ℕ) (w : SoloWorld) → Ends compiler (compiles_file kind bytes all to) w
compiles_file-ends Ascii bytes all to w = stores_program-ends all to (compiling_text (text_in bytes)) w
compiles_file-ends Scratch bytes all to w = inr (quiet _ w)
compiles_file-ends SeqCode bytes all to w = inr (quiet _ w)
compiles_file-ends ConCode bytes all to w = inr (quiet _ w)

compiles_to-ends : (file : File) (all : Files) (to : List ℕ) (other : Option File) (w : SoloWorld) → Ends compiler (compiles_to file all to other) w
compiles_to-ends file all to (Some other) w = inr (quiet _ w)
compiles_to-ends file all to None w = compiles_file-ends file.kind (file_bytes file) all to w

compiles-ends : (file : Option File) (all : Files) (to : List ℕ) (w : SoloWorld) → Ends compiler (compiles_from file all to) w
compiles-ends None all to w = inr (quiet _ w)
compiles-ends (Some file) all to w = compiles_to-ends file all to (fin.get all to) w

pub refused-nothing : RefusedChangesNothing
refused-nothing (command.Copy from to) word w e = subst (λ word. Ends word (copies w.files from to) w) (same-word copier word e)
    (copies-ends w.files from to w)
refused-nothing (command.Compile from to) word w e =
    subst (λ word. Ends word (compiles_from (fin.get w.files from) w.files to) w) (same-word compiler word e)
    (compiles-ends (fin.get w.files from) w.files to w)
refused-nothing command.List word w e = inr (quiet _ w)
refused-nothing (command.Delete name) word w e =
    subst (λ word. Ends word (does (command.Delete name) w.files) w) (same-word (codes "DELETE") word e)
    (becomes-ends (codes "DELETE") (delete_answer (fin.get w.files name)) (fin.remove w.files name) w)
refused-nothing (command.Rename old new) word w e =
    subst (λ word. Ends word (does (command.Rename old new) w.files) w) (same-word (codes "RENAME") word e)
    (becomes-ends (codes "RENAME") (rename_answer (fin.get w.files old) (fin.get w.files new)) (renamed w.files old new (fin.get w.files old)) w)
refused-nothing (command.Protect name on) word w e =
    subst (λ word. Ends word (does (command.Protect name on) w.files) w) (same-word (codes "PROTECT") word e)
    (becomes-ends (codes "PROTECT") (protect_answer (fin.get w.files name)) (protected w.files name on (fin.get w.files name)) w)
refused-nothing (command.Program name args) word w e = absurd (no-word word e)

loaded-nothing : (name : List ℕ) (args : List Arg) (loaded : Loaded) (w : SoloWorld)
    → ((code : CodeLists) × (loaded ≡ load.Code code)) ⊎ TellsNothing (runs_loaded (runner program_room) name args w.files loaded) w
loaded-nothing name args (load.Code code) w = inl (code, refl)
loaded-nothing name args load.NoFile w = inr (quiet _ w)
loaded-nothing name args load.NotCode w = inr (quiet _ w)
loaded-nothing name args (load.BadCode at) w = inr (quiet _ w)

pub refused-program : RefusedProgramChangesNothing
refused-program name args w = loaded-nothing name args (program_of w.files name) w

-- ---- Refused since a file exists: its answer has eleven characters behind the word

abbrev first_length : List (List ℕ) → ℕ
first_length [] = 0
first_length (line ∷ others) = length line

abbrev Reads : ℕ → Doing → SoloWorld → Type 0
Reads count doing w = (first_length (given_by doing w) ≡ count) → world_after doing w ≡ w

either-reads : (b : Bool) (count : ℕ) (t u : Doing) (w : SoloWorld) → Reads count t w → Reads count u w → Reads count (if b then t else u) w
either-reads true count t u w is also = is
either-reads false count t u w is also = also

becomes-reads : (word : List ℕ) (count : ℕ) (answer : Result (Unit {0}) FileFault) (now : Files) (w : SoloWorld)
    → (length (answer_line word (codes "OK")) ≡ count → ⊥) → Reads count (becomes word answer now) w
becomes-reads word count (Ok done) now w differs = λ e. absurd (differs e)
becomes-reads word count (Err why) now w differs = λ e. refl

copies-differ : length (answer_line copier (codes "OK")) ≡ 17 → ⊥
copies-differ e = omega (arith, e)

compiles-differ : length (answer_line compiler (codes "OK")) ≡ 20 → ⊥
compiles-differ e = omega (arith, e)

world-printed : (lines : List (List ℕ)) (lines_given : List (List ℕ)) (w : SoloWorld) → world_after (prints_all lines (Gives lines_given)) w ≡ w
world-printed [] given w = refl
world-printed (line ∷ lines) given w = world-printed lines given w

-- no other answer of a command that read cards has as many characters
abbrev Differs : Doing → SoloWorld → Type 0
Differs doing w = first_length (given_by doing w) ≡ 17 → ⊥

either-differs : (b : Bool) (t u : Doing) (w : SoloWorld) → Differs t w → Differs u w → Differs (if b then t else u) w
either-differs true t u w is also = is
either-differs false t u w is also = also

room-differs : (a b c : Bool) (now : Files) (w : SoloWorld)
    → Differs (becomes copier (if a then Err fault.CatalogFull else if b then Err fault.FileFull else if c then Err fault.DiskFull else Ok tt) now) w
room-differs true b c now w e = omega (arith, e)
room-differs false true c now w e = omega (arith, e)
room-differs false false true now w e = omega (arith, e)
room-differs false false false now w e = omega (arith, e)

stores-differ : (all : Files) (name : List ℕ) (file : File) (w : SoloWorld) → Differs (stores copier all name file) w
stores-differ all name file w =
    room-differs (nat_le 240 (fin.len all)) (nat_lt 4000 (length file.pages)) (nat_lt (pages_free all) (pages_held (length file.pages)))
    (fin.insert all name file) w

text-differs : (characters : List ℕ) (w : SoloWorld) → Differs (prints_text characters) w
text-differs characters w e =
    let same = ap first_length (given-printed (lines_in (with_characters nothing_printed characters)) (answers copier (codes "OK")) w) in
    copies-differ (sym same ∙ e)

with_cards-differs : (use_cards : List (List ℕ) → Doing) (file : CardFile) (w : SoloWorld) → Differs (use_cards file.cards) w
    → Differs (with_cards use_cards file) w
with_cards-differs use_cards file w is = either-differs file.spoiled (answers copier (codes "SPOILED CARD")) (use_cards file.cards) w (λ e. omega (arith, e))
    is

-- ---- Each command

stores_cards-reads : (all : Files) (to : List ℕ) (other : Option File) (w : SoloWorld) → Reads 17 (stores_cards all to other) w
stores_cards-reads all to (Some other) w = λ e. refl
stores_cards-reads all to None w = λ e.
    absurd (with_cards-differs (λ cards. stores copier all to (text_file (text cards))) (first_file w.cards) (after_cards w)
    (stores-differ all to (text_file (text (first_file w.cards).cards)) (after_cards w)) e)

copies_cards-reads : (all : Files) (to : List ℕ) (w : SoloWorld) → Reads 17 (copies_cards all to) w
copies_cards-reads all to w =
    either-reads (is_printer to) 17 (ReadsCards (with_cards (λ cards. prints_text (text cards)))) (stores_cards all to (fin.get all to)) w
    (λ e. absurd (with_cards-differs (λ cards. prints_text (text cards)) (first_file w.cards) (after_cards w)
    (text-differs (text (first_file w.cards).cards) (after_cards w)) e))
    (stores_cards-reads all to (fin.get all to) w)

file-reads : (kind : FileKind) (bytes : List ℕ) (w : SoloWorld) → Reads 17 (prints_file kind bytes) w
file-reads Ascii bytes w = λ e. world-printed (lines_in (with_characters nothing_printed (text_in bytes))) (answer_line copier (codes "OK") ∷ []) w
file-reads Scratch bytes w = λ e. refl
file-reads SeqCode bytes w = λ e. refl
file-reads ConCode bytes w = λ e. refl

stores_file-reads : (file : File) (all : Files) (to : List ℕ) (other : Option File) (w : SoloWorld) → Reads 17 (stores_file file all to other) w
stores_file-reads file all to (Some other) w = λ e. refl
stores_file-reads file all to None w =
    becomes-reads copier 17 (room_answer (fin.len all) (pages_free all) (length file.pages)) (fin.insert all to (with_protection file false)) w copies-differ

copies_file-reads : (file : Option File) (all : Files) (to : List ℕ) (w : SoloWorld) → Reads 17 (copies_file file all to) w
copies_file-reads None all to w = λ e. refl
copies_file-reads (Some file) all to w =
    either-reads (is_printer to) 17 (prints_file file.kind (file_bytes file)) (stores_file file all to (fin.get all to)) w
    (file-reads file.kind (file_bytes file) w) (stores_file-reads file all to (fin.get all to) w)

copies-reads : (all : Files) (from to : List ℕ) (w : SoloWorld) → Reads 17 (copies all from to) w
copies-reads all from to w =
    either-reads (is_cards from) 17 (copies_cards all to) (copies_file (fin.get all from) all to) w (copies_cards-reads all to w)
    (copies_file-reads (fin.get all from) all to w)

stores_program-reads : (all : Files) (to : List ℕ) (c : Compiling) (w : SoloWorld) → Reads 20 (stores_program all to c) w
stores_program-reads all to (compiled program) w =
    let file : File = code_file (code_of program) in
    becomes-reads compiler 20 (room_answer (fin.len all) (pages_free all) (length file.pages)) (fin.insert all to file) w compiles-differ
stores_program-reads all to (bad_word line) w = λ e. refl
stores_program-reads all to (syntax_error line) w = λ e. refl
stores_program-reads all to (semantic_error line rule) w = λ e. refl
stores_program-reads all to code_limit w = λ e. refl

compiles_file-reads : (kind : FileKind) (bytes : List ℕ) (all : Files) (to : List ℕ) (w : SoloWorld) → Reads 20 (compiles_file kind bytes all to) w
compiles_file-reads Ascii bytes all to w = stores_program-reads all to (compiling_text (text_in bytes)) w
compiles_file-reads Scratch bytes all to w = λ e. refl
compiles_file-reads SeqCode bytes all to w = λ e. refl
compiles_file-reads ConCode bytes all to w = λ e. refl

compiles_to-reads : (file : File) (all : Files) (to : List ℕ) (other : Option File) (w : SoloWorld) → Reads 20 (compiles_to file all to other) w
compiles_to-reads file all to (Some other) w = λ e. refl
compiles_to-reads file all to None w = compiles_file-reads file.kind (file_bytes file) all to w

compiles-reads : (file : Option File) (all : Files) (to : List ℕ) (w : SoloWorld) → Reads 20 (compiles_from file all to) w
compiles-reads None all to w = λ e. refl
compiles-reads (Some file) all to w = compiles_to-reads file all to (fin.get all to) w

-- the answer's length, by the word of the command
long : (own word : List ℕ) (count : ℕ)
    → own ≡ word → length (answer_line own (codes "FILE EXISTS")) ≡ count → length (answer_line word (codes "FILE EXISTS")) ≡ count
long own word count e is = subst (λ word. length (answer_line word (codes "FILE EXISTS")) ≡ count) e is

pub exists-reads : ExistsReadsNoCard
exists-reads (command.Copy from to) word w e f = copies-reads w.files from to w (ap first_length f ∙ long copier word 17 (same-word copier word e) refl)
exists-reads (command.Compile from to) word w e f =
    compiles-reads (fin.get w.files from) w.files to w (ap first_length f ∙ long compiler word 20 (same-word compiler word e) refl)
exists-reads command.List word w e f = refl
exists-reads (command.Delete name) word w e f =
    becomes-reads (codes "DELETE") 19 (delete_answer (fin.get w.files name)) (fin.remove w.files name) w (λ d. omega (arith, d))
    (ap first_length f ∙ long (codes "DELETE") word 19 (same-word (codes "DELETE") word e) refl)
exists-reads (command.Rename old new) word w e f =
    becomes-reads (codes "RENAME") 19 (rename_answer (fin.get w.files old) (fin.get w.files new)) (renamed w.files old new (fin.get w.files old)) w
    (λ d. omega (arith, d))
    (ap first_length f ∙ long (codes "RENAME") word 19 (same-word (codes "RENAME") word e) refl)
exists-reads (command.Protect name on) word w e f =
    becomes-reads (codes "PROTECT") 20 (protect_answer (fin.get w.files name)) (protected w.files name on (fin.get w.files name)) w (λ d. omega (arith, d))
    (ap first_length f ∙ long (codes "PROTECT") word 20 (same-word (codes "PROTECT") word e) refl)
exists-reads (command.Program name args) word w e f = absurd (no-word word e)
