-- The session that stores a text, compiles it and runs the program: what is known of the files is put in, and the rest computes.
use Rattle.std.proofs.Common.{◌≡◌, ℕ, ◌+◌, ◌-◌, cond, List, [], ◌∷◌, ◌++◌, length, map, get_or, Option, None, Some, is_some, Result, Ok, refl, sym, ◌∙◌, ap, subst, arith}
use Rattle.std.specs.Prelude.{codes}
use Rattle.std.specs.FinMap as fin
use Rattle.std.specs.Fmt.{decimal, digits}
use Rattle.std.specs.Ordering.{nat_cmp}
use Rattle.std.specs.Cmp.Lexicographic.{slice_cmp, nat_list_cmp_total}
use Rattle.solo_base.specs.Text.{text}
use Rattle.disk_layout.specs.Files.{File, Files}
use Rattle.disk_layout.specs.Held.{held_in}
use Rattle.disk_layout.proofs.Maps.{get_inserted, get_beside_inserted}
use Rattle.disk_files.specs.declared.fault.FileFault.{FileFault}
use Rattle.disk_system.specs.Calls.{room_answer}
use Rattle.disk_contents.specs.Contents.{text_file, code_file, cut}
use Rattle.disk_system.specs.Listing.{file_line}
use Rattle.disk_contents.specs.Loading.{program_of, loaded_file}
use Rattle.disk_contents.specs.declared.loading.Loaded.{Loaded}
use Rattle.disk_contents.specs.declared.loading.Loaded.TheVariants.{Code}
use Rattle.stack_code.specs.CodeLists.{CodeLists}
use Rattle.stack_code.specs.CodeFile.{code_bytes}
use Rattle.stack_machine.specs.Machine.{effect, next, answered}
use Rattle.code_law.specs.Compiling.{Compiling}
use Rattle.program_task.specs.OpenFiles.{pages_free}
use Rattle.program_task.specs.Task.{Gives}
use Rattle.program_task.specs.Run.{runner, program_room}
use Rattle.solo_task.specs.Answers.{Doing, becomes, stores}
use Rattle.solo_task.specs.Copying.{copier, stores_cards, copies_file, prints_text}
use Rattle.solo_task.specs.Compiles.{compiler, compiling_text, stores_program, compiles_to, compiles_from}
use Rattle.solo_task.specs.Doing.{runs_loaded}
use Rattle.solo_task.specs.Session.{SoloWorld, Transcript, and_told, changed, command_told, world_after, lines_told, opening}
use Rattle.solo_task.specs.Rows.{lines_of, text_name}
use Rattle.solo_task.specs.WholeRows.{StoredRows, hi_card, hi_written, prog_file, no_files, with_text, with_program, stored_lines, stored_cards}
use Rattle.solo_task.proofs.HiProgram.{hi-code, hi-loaded, text-back, text-comes}

abbrev text_stored : File
text_stored = text_file (text (hi_card ∷ []))

abbrev code_stored : File
code_stored = code_file hi_written

-- ---- what the three maps have
others : text_name ≡ prog_file → ⊥
others e = let first : 84 ≡ 80 = ap (λ name. get_or name 0 0) e in omega (arith, first)

others-back : prog_file ≡ text_name → ⊥
others-back e = others (sym e)

none-none : fin.get no_files text_name ≡ None
none-none = fin.get-empty (slice_cmp nat_cmp) text_name

text-text : fin.get with_text text_name ≡ Some text_stored
text-text = get_inserted no_files text_name text_name text_stored refl

text-none : fin.get with_text prog_file ≡ None
text-none = get_beside_inserted no_files text_name prog_file text_stored others-back ∙ fin.get-empty (slice_cmp nat_cmp) prog_file

both-text : fin.get with_program text_name ≡ Some text_stored
both-text = get_beside_inserted with_text prog_file text_name code_stored others ∙ text-text

both-program : program_of with_program prog_file ≡ Code hi_written
both-program = ap loaded_file (get_inserted with_text prog_file prog_file code_stored refl) ∙ hi-loaded

-- ---- how many they are, and what they hold
nothing-in : (es : List (List ℕ × File)) → length es ≡ 0 → es ≡ []
nothing-in [] none = refl
nothing-in (e ∷ es) none = absurd (omega (arith, none))

len-0 : fin.len no_files ≡ 0
len-0 = fin.len-empty (slice_cmp nat_cmp) File

entries-0 : fin.entries no_files ≡ []
entries-0 = nothing-in (fin.entries no_files) (sym (fin.len-entries no_files) ∙ len-0)

len-1 : fin.len with_text ≡ 1
len-1 =
    fin.len-insert nat_list_cmp_total no_files text_name text_stored
    ∙ ap (λ found. cond (is_some found) (fin.len no_files) (fin.len no_files + 1)) none-none ∙ ap (λ n. n + 1) len-0

entries-1 : fin.entries with_text ≡ (text_name, text_stored) ∷ []
entries-1 =
    fin.entries-insert nat_list_cmp_total no_files text_name text_stored ∙ ap (fin.put (slice_cmp nat_cmp) text_name text_stored) entries-0

len-2 : fin.len with_program ≡ 2
len-2 =
    fin.len-insert nat_list_cmp_total with_text prog_file code_stored
    ∙ ap (λ found. cond (is_some found) (fin.len with_text) (fin.len with_text + 1)) text-none ∙ ap (λ n. n + 1) len-1

entries-2 : fin.entries with_program ≡ (prog_file, code_stored) ∷ (text_name, text_stored) ∷ []
entries-2 =
    fin.entries-insert nat_list_cmp_total with_text prog_file code_stored ∙ ap (fin.put (slice_cmp nat_cmp) prog_file code_stored) entries-1

-- ---- there is room for each of the two
room-text : room_answer (fin.len no_files) (pages_free no_files) (length text_stored.pages) ≡ Ok tt
unfolding cut
room-text =
    ap (λ n. room_answer n (pages_free no_files) (length text_stored.pages)) len-0
    ∙ ap (λ es. room_answer 0 (4270 - held_in es) (length text_stored.pages)) entries-0

room-code : room_answer (fin.len with_text) (pages_free with_text) (length code_stored.pages) ≡ Ok tt
unfolding cut code_bytes
room-code =
    ap (λ n. room_answer n (pages_free with_text) (length code_stored.pages)) len-1
    ∙ ap (λ es. room_answer 1 (4270 - held_in es) (length code_stored.pages)) entries-1

-- ---- one command after the other
abbrev tells_from : ℕ → Doing → SoloWorld → Transcript
tells_from n doing w = and_told (command_told doing w) (lines_told n (world_after doing w))

abbrev behind : List (List ℕ) → Files → SoloWorld
behind lines files = record { files = files; cards = []; keys = lines_of lines }

abbrev printer_name : List ℕ
printer_name = codes "PRINTER     "

abbrev says : List (List ℕ) → List (List ℕ) → List Files → Transcript
says console paper maps = record { console = console; paper = paper; maps = maps }

abbrev after_1 : List (List ℕ)
after_1 =
    codes "compile(text, prog)" ∷ codes "prog" ∷ codes "copy(text, printer)" ∷ codes "copy(cards, text)" ∷ codes "list" ∷ []

abbrev after_2 : List (List ℕ)
after_2 = codes "prog" ∷ codes "copy(text, printer)" ∷ codes "copy(cards, text)" ∷ codes "list" ∷ []

abbrev after_3 : List (List ℕ)
after_3 = codes "copy(text, printer)" ∷ codes "copy(cards, text)" ∷ codes "list" ∷ []

abbrev after_4 : List (List ℕ)
after_4 = codes "copy(cards, text)" ∷ codes "list" ∷ []

copies-cards : lines_told 6 (opening stored_lines stored_cards no_files)
    ≡ and_told (says (codes "COPY: OK" ∷ []) [] (with_text ∷ [])) (lines_told 5 (behind after_1 with_text))
copies-cards =
    let expected = and_told (says (codes "COPY: OK" ∷ []) [] (with_text ∷ [])) (lines_told 5 (behind after_1 with_text)) in
    let w : SoloWorld = opening (lines_of after_1) stored_cards no_files in
    let P : Option File → Type 0 = λ found. tells_from 5 (stores_cards no_files text_name found) w ≡ expected in
    let Q : Result (Unit {0}) FileFault → Type 0 = λ answer. tells_from 5 (becomes copier answer with_text) (behind after_1 no_files) ≡ expected in
    subst P (sym none-none) (subst Q (sym room-text) refl)

compiles-text : lines_told 5 (behind after_1 with_text)
    ≡ and_told (says (codes "COMPILE: OK" ∷ []) [] (with_program ∷ [])) (lines_told 4 (behind after_2 with_program))
compiles-text =
    let expected = and_told (says (codes "COMPILE: OK" ∷ []) [] (with_program ∷ [])) (lines_told 4 (behind after_2 with_program)) in
    let w = behind after_2 with_text in
    let From : Option File → Type 0 = λ found. tells_from 4 (compiles_from found with_text prog_file) w ≡ expected in
    let To : Option File → Type 0 = λ found. tells_from 4 (compiles_to text_stored with_text prog_file found) w ≡ expected in
    let Text : List ℕ → Type 0 = λ characters. tells_from 4 (stores_program with_text prog_file (compiling_text characters)) w ≡ expected in
    let Of : Compiling → Type 0 = λ c. tells_from 4 (stores_program with_text prog_file c) w ≡ expected in
    let As : CodeLists → Type 0 = λ code. tells_from 4 (stores compiler with_text prog_file (code_file code)) w ≡ expected in
    let Room : Result (Unit {0}) FileFault → Type 0 = λ answer. tells_from 4 (becomes compiler answer with_program) w ≡ expected in
    subst From (sym text-text) (subst To (sym text-none) (subst Text (sym text-back) (subst Of (sym text-comes) (subst As (sym hi-code)
    (subst Room (sym room-code) refl)))))

runs-program : lines_told 4 (behind after_2 with_program)
    ≡ and_told (says (codes "PROG: TERMINATED" ∷ []) (codes "HI" ∷ []) []) (lines_told 3 (behind after_3 with_program))
unfolding effect next answered
runs-program =
    let expected = and_told (says (codes "PROG: TERMINATED" ∷ []) (codes "HI" ∷ []) []) (lines_told 3 (behind after_3 with_program)) in
    let P : Loaded → Type 0 = λ load. tells_from 3 (runs_loaded (runner program_room) prog_file [] with_program load) (behind after_3 with_program)
    ≡ expected in
    subst P (sym both-program) refl

prints-file : lines_told 3 (behind after_3 with_program)
    ≡ and_told (says (codes "COPY: OK" ∷ []) (hi_card ∷ []) []) (lines_told 2 (behind after_4 with_program))
prints-file =
    let expected = and_told (says (codes "COPY: OK" ∷ []) (hi_card ∷ []) []) (lines_told 2 (behind after_4 with_program)) in
    let w = behind after_4 with_program in
    let P : Option File → Type 0 = λ found. tells_from 2 (copies_file found with_program printer_name) w ≡ expected in
    let Q : List ℕ → Type 0 = λ characters. tells_from 2 (prints_text characters) w ≡ expected in
    subst P (sym both-text) (subst Q (sym text-back) refl)

exists : lines_told 2 (behind after_4 with_program)
    ≡ and_told (says (codes "COPY: FILE EXISTS" ∷ []) [] []) (lines_told 1 (behind (codes "list" ∷ []) with_program))
exists =
    let expected = and_told (says (codes "COPY: FILE EXISTS" ∷ []) [] []) (lines_told 1 (behind (codes "list" ∷ []) with_program)) in
    let P : Option File → Type 0 = λ found. tells_from 1 (stores_cards with_program text_name found) (behind (codes "list" ∷ []) with_program) ≡ expected in
    subst P (sym both-text) refl

abbrev listed : List (List ℕ × File) → ℕ → Doing
listed es n = Gives (map (λ e. file_line e.0 e.1) es ++ (codes "LIST: " ++ decimal n ++ codes " FILES") ∷ [])

lists-both : lines_told 1 (behind (codes "list" ∷ []) with_program)
    ≡ says (codes "PROG SEQCODE 1 PAGES" ∷ codes "TEXT ASCII 1 PAGES" ∷ codes "LIST: 2 FILES" ∷ []) [] []
unfolding cut code_bytes digits
lists-both =
    let expected = says (codes "PROG SEQCODE 1 PAGES" ∷ codes "TEXT ASCII 1 PAGES" ∷ codes "LIST: 2 FILES" ∷ []) [] [] in
    let w = behind [] with_program in
    let P : List (List ℕ × File) → Type 0 = λ es. tells_from 0 (listed es (fin.len with_program)) w ≡ expected in
    let Q : ℕ → Type 0 = λ n. tells_from 0 (listed ((prog_file, code_stored) ∷ (text_name, text_stored) ∷ []) n) w ≡ expected in
    subst P (sym entries-2) (subst Q (sym len-2) refl)

pub stored-rows : StoredRows
stored-rows = record {
  whole = ap (changed no_files) (copies-cards ∙ ap (and_told (says (codes "COPY: OK" ∷ []) [] (with_text ∷ []))) (compiles-text
      ∙ ap (and_told (says (codes "COMPILE: OK" ∷ []) [] (with_program ∷ []))) (runs-program
      ∙ ap (and_told (says (codes "PROG: TERMINATED" ∷ []) (codes "HI" ∷ []) [])) (prints-file
      ∙ ap (and_told (says (codes "COPY: OK" ∷ []) (hi_card ∷ []) [])) (exists ∙ ap (and_told (says (codes "COPY: FILE EXISTS" ∷ []) [] [])) lists-both)))));
}
