-- The sessions that were worked by hand: what is known of the files is put in, and the rest computes.
use Rattle.std.proofs.Common.{◌≡◌, ℕ, List, [], ◌∷◌, ◌++◌, Option, None, Some, refl, sym, subst}
use Rattle.std.specs.Prelude.{codes, pos}
use Rattle.std.specs.FinMap as fin
use Rattle.std.specs.Fmt.{decimal}
use Rattle.solo_base.specs.declared.item.Item.{Item}
use Rattle.solo_base.specs.declared.item.Item.TheVariants.{Line, Spoiled}
use Rattle.solo_base.specs.declared.system_call.Arg.{Arg}
use Rattle.solo_base.specs.declared.system_call.Arg.TheVariants as arg
use Rattle.disk_layout.specs.Files.{File, Files}
use Rattle.disk_contents.specs.Loading.{program_of}
use Rattle.disk_contents.specs.declared.loading.Loaded.{Loaded}
use Rattle.disk_contents.specs.declared.loading.Loaded.TheVariants.{Code, NoFile, NotCode, BadCode}
use Rattle.stack_machine.specs.Machine.{effect, next, answered}
use Rattle.program_task.specs.Run.{runner, program_room}
use Rattle.solo_task.specs.Answers.{Doing}
use Rattle.solo_task.specs.Copying.{stores_cards, copies_file}
use Rattle.solo_task.specs.Doing.{runs_loaded}
use Rattle.solo_task.specs.Session.{SoloWorld, Transcript, and_told, changed, command_told, world_after, lines_told, opening, session}
use Rattle.solo_task.specs.Rows.{QuietRows, CardRows, ProgramRows, told_over, lines_of, two_files, prints_cards_line, text_name, hi_name, hi_code, echo_name, echo_code, argument_code, read_code}

pub quiet-rows : QuietRows
quiet-rows = record { nothing = λ cards all. refl; blank = λ cards all. refl; bad = λ cards all. refl }

-- what is told by a first command and so many lines behind it
abbrev with_first : ℕ → Files → Doing → SoloWorld → Transcript
with_first n all doing w = changed all (and_told (command_told doing w) (lines_told n (world_after doing w)))

exists : (all : Files) (file : File) → fin.get all text_name ≡ Some file
    → session (lines_of (codes "copy(cards, text)" ∷ prints_cards_line ∷ [])) (lines_of (codes "A" ∷ [])) all
    ≡ told_over all (codes "COPY: FILE EXISTS" ∷ codes "COPY: OK" ∷ []) (codes "A" ∷ [])
exists all file e =
    let w : SoloWorld = opening (lines_of (prints_cards_line ∷ [])) (lines_of (codes "A" ∷ [])) all in
    let P : Option File → Type 0 = λ found. with_first 1 all (stores_cards all text_name found) w
    ≡ told_over all (codes "COPY: FILE EXISTS" ∷ codes "COPY: OK" ∷ []) (codes "A" ∷ []) in
    subst P (sym e) refl

no-text : (all : Files) → fin.get all text_name ≡ None
    → session (lines_of (codes "Copy ( Text , Printer )" ∷ [])) [] all ≡ told_over all (codes "COPY: NO FILE" ∷ []) []
no-text all e =
    let P : Option File → Type 0 = λ found. with_first 0 all (copies_file found all (codes "PRINTER     ")) (opening [] [] all)
    ≡ told_over all (codes "COPY: NO FILE" ∷ []) [] in
    subst P (sym e) refl

pub card-rows : CardRows
card-rows = record { spoiled = λ all. refl; exists = exists; no_file = no-text }

-- ---- Programs

abbrev program_told : ℕ → Files → List ℕ → List Arg → SoloWorld → Loaded → Transcript
program_told n all name args w load = with_first n all (runs_loaded (runner program_room) name args all load) w

hi : (cards : List Item) (all : Files) → program_of all hi_name ≡ Code hi_code
    → session (lines_of (codes "hi" ∷ [])) cards all ≡ told_over all (codes "HI: TERMINATED" ∷ []) (codes "HI" ∷ [])
unfolding effect next answered
hi cards all e =
    let P : Loaded → Type 0 = λ load. program_told 0 all hi_name [] (opening [] cards all) load ≡ told_over all (codes "HI: TERMINATED" ∷ [])
    (codes "HI" ∷ []) in
    subst P (sym e) refl

echo : (cards : List Item) (all : Files) → program_of all echo_name ≡ Code echo_code
    → session (lines_of (codes "echo" ∷ codes "AB" ∷ codes "" ∷ codes "list" ∷ [])) cards all
    ≡ told_over all (codes "AB" ∷ codes "" ∷ codes "list" ∷ codes "?" ∷ codes "ECHO: TERMINATED" ∷ []) []
unfolding effect next answered
echo cards all e =
    let w : SoloWorld = opening (lines_of (codes "AB" ∷ codes "" ∷ codes "list" ∷ [])) cards all in
    let P : Loaded → Type 0 = λ load. program_told 3 all echo_name [] w load
    ≡ told_over all (codes "AB" ∷ codes "" ∷ codes "list" ∷ codes "?" ∷ codes "ECHO: TERMINATED" ∷ []) [] in
    subst P (sym e) refl

echo-spoiled : (cards : List Item) (all : Files) → program_of all echo_name ≡ Code echo_code
    → session (Line (codes "echo") ∷ Spoiled ∷ []) cards all ≡ told_over all (codes "" ∷ codes "?" ∷ codes "ECHO: TERMINATED" ∷ []) []
unfolding effect next answered
echo-spoiled cards all e =
    let w : SoloWorld = opening (Spoiled ∷ []) cards all in
    let P : Loaded → Type 0 = λ load. program_told 1 all echo_name [] w load
    ≡ told_over all (codes "" ∷ codes "?" ∷ codes "ECHO: TERMINATED" ∷ []) [] in
    subst P (sym e) refl

argument : (cards : List Item) (all : Files) → program_of all hi_name ≡ Code argument_code
    → session (lines_of (codes "hi(66, nil)" ∷ [])) cards all ≡ told_over all (codes "HI: TERMINATED" ∷ []) (codes "B2" ∷ [])
unfolding effect next answered
argument cards all e =
    let P : Loaded → Type 0 = λ load. program_told 0 all hi_name (arg.Int (pos 66) ∷ arg.Nil ∷ []) (opening [] cards all) load
    ≡ told_over all (codes "HI: TERMINATED" ∷ []) (codes "B2" ∷ []) in
    subst P (sym e) refl

-- a program that is loaded so, in a world, and what is told behind it
abbrev runs_hi : Files → List Arg → Loaded → Doing
runs_hi all args load = runs_loaded (runner program_room) hi_name args all load

no-argument : (cards : List Item) (all : Files) → program_of all hi_name ≡ Code argument_code
    → session (lines_of (codes "hi(cards)" ∷ codes "hi" ∷ [])) cards all
    ≡ told_over all (codes "HI: TERMINATED" ∷ codes "HI: TERMINATED" ∷ []) (codes "?3" ∷ codes "?0" ∷ [])
unfolding effect next answered
no-argument cards all e =
    let cards_name : List Arg = arg.Id (codes "CARDS       ") ∷ [] in
    let w : SoloWorld = opening (lines_of (codes "hi" ∷ [])) cards all in
    let behind : SoloWorld = opening [] cards all in
    let expected : Transcript = told_over all (codes "HI: TERMINATED" ∷ codes "HI: TERMINATED" ∷ []) (codes "?3" ∷ codes "?0" ∷ []) in
    let Second : Loaded → Type 0 = λ load.
    changed all (and_told (command_told (runs_hi all cards_name (Code argument_code)) w)
    (and_told (command_told (runs_hi all [] load) behind) (lines_told 0 (world_after (runs_hi all [] load) behind)))) ≡ expected in
    let First : Loaded → Type 0 = λ load. with_first 1 all (runs_hi all cards_name load) w ≡ expected in
    subst First (sym e) (subst Second (sym e) refl)

reads : (all : Files) → program_of all hi_name ≡ Code read_code
    → session (lines_of (codes "hi" ∷ codes "hi" ∷ codes "hi" ∷ [])) two_files all
    ≡ told_over all
    (codes "HI: TERMINATED" ∷ codes "HI: SPOILED CARD" ∷ codes "HI: TERMINATED" ∷ codes "HI: TERMINATED" ∷ [])
    ([] ∷ codes "A" ∷ [] ∷ codes "C" ∷ codes "??" ∷ [])
unfolding effect next answered
reads all e =
    let first : SoloWorld = opening (lines_of (codes "hi" ∷ codes "hi" ∷ [])) two_files all in
    let second : SoloWorld = opening (lines_of (codes "hi" ∷ [])) (lines_of (codes "C" ∷ [])) all in
    let third : SoloWorld = opening [] [] all in
    let loaded : Doing = runs_hi all [] (Code read_code) in
    let expected : Transcript = told_over all
    (codes "HI: TERMINATED" ∷ codes "HI: SPOILED CARD" ∷ codes "HI: TERMINATED" ∷ codes "HI: TERMINATED" ∷ [])
    ([] ∷ codes "A" ∷ [] ∷ codes "C" ∷ codes "??" ∷ []) in
    let Third : Loaded → Type 0 = λ load.
    changed all (and_told (command_told loaded first) (and_told (command_told loaded second)
    (and_told (command_told (runs_hi all [] load) third) (lines_told 0 (world_after (runs_hi all [] load) third))))) ≡ expected in
    let Second : Loaded → Type 0 = λ load.
    changed all (and_told (command_told loaded first)
    (and_told (command_told (runs_hi all [] load) second) (lines_told 1 (world_after (runs_hi all [] load) second)))) ≡ expected in
    let First : Loaded → Type 0 = λ load. with_first 2 all (runs_hi all [] load) first ≡ expected in
    subst First (sym e) (subst Second (sym e) (subst Third (sym e) refl))

no-file : (cards : List Item) (all : Files) → program_of all hi_name ≡ NoFile
    → session (lines_of (codes "Hi" ∷ [])) cards all ≡ told_over all (codes "HI: NO FILE" ∷ []) []
no-file cards all e =
    let P : Loaded → Type 0 = λ load. program_told 0 all hi_name [] (opening [] cards all) load ≡ told_over all (codes "HI: NO FILE" ∷ []) [] in
    subst P (sym e) refl

bad-code : (cards : List Item) (all : Files) → program_of all hi_name ≡ BadCode 12
    → session (lines_of (codes "hi" ∷ [])) cards all ≡ told_over all ((codes "HI: BAD CODE AT " ++ decimal 12) ∷ []) []
bad-code cards all e =
    let P : Loaded → Type 0 = λ load. program_told 0 all hi_name [] (opening [] cards all) load
    ≡ told_over all ((codes "HI: BAD CODE AT " ++ decimal 12) ∷ []) [] in
    subst P (sym e) refl

not-code : (cards : List Item) (all : Files) → program_of all hi_name ≡ NotCode
    → session (lines_of (codes "hi" ∷ [])) cards all ≡ told_over all (codes "HI: NOT CODE" ∷ []) []
not-code cards all e =
    let P : Loaded → Type 0 = λ load. program_told 0 all hi_name [] (opening [] cards all) load ≡ told_over all (codes "HI: NOT CODE" ∷ []) [] in
    subst P (sym e) refl

pub program-rows : ProgramRows
program-rows = record {
  hi = hi;
  echo = echo;
  echo_spoiled = echo-spoiled;
  argument = argument;
  no_argument = no-argument;
  reads = reads;
  no_file = no-file;
  bad_code = bad-code;
  not_code = not-code;
}
