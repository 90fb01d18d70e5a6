-- Each program prints and displays lines, however deep it stands and whatever it is given.
use Rattle.std.proofs.Common.{◌≡◌, ℕ, zero, suc, ◌+◌, ◌<◌, Bool, true, false, List, [], ◌∷◌, ◌++◌, length, Option, None, Some, refl, ◌∙◌, ap, arith}
use Rattle.std.specs.Prelude.{◌==◌, ◌&&◌, if◌then◌else◌, nat_lt, ℤ}
use Rattle.std.specs.List.{list_all}
use Rattle.std.specs.Fmt.{signed_decimal}
use Rattle.std.specs.FinMap as fin
use Rattle.std.proofs.lemmas.Bool.{ltb-true}
use Rattle.std.proofs.lemmas.List.{length-append}
use Rattle.std.proofs.lemmas.List.Folds.{list_all-append}
use Rattle.solo_base.specs.Line.{IsLine, is_printable}
use Rattle.solo_base.specs.LineList.{AreLines}
use Rattle.solo_base.specs.Arguments.{word_name}
use Rattle.solo_base.specs.declared.arg_list.TheConstants.{ARG_LIMIT}
use Rattle.solo_base.specs.declared.system_call.Arg.{Arg}
use Rattle.solo_base.specs.declared.system_call.SysCall.{SysCall}
use Rattle.solo_base.specs.declared.system_call.SysCall.TheVariants as calls
use Rattle.solo_base.specs.declared.system_call.SysReply.TheVariants as replies
use Rattle.disk_layout.specs.Files.{File}
use Rattle.disk_contents.specs.declared.loading.Loaded.{Loaded}
use Rattle.disk_contents.specs.declared.loading.Loaded.TheVariants.{Code}
use Rattle.stack_code.specs.CodeLists.{CodeLists}
use Rattle.stack_machine.specs.States.{State}
use Rattle.stack_machine.specs.State.{Next, Goes, Asks, Stops, Lacks}
use Rattle.stack_machine.specs.Machine.{next, start_state, answered}
use Rattle.stack_machine.specs.Left.{left_until_end}
use Rattle.pascal_mean.specs.Batch.{Printed, shown, with_character, with_characters, last_line}
use Rattle.program_task.specs.Task.{Task, Gives, ReadsCards, Accepts, Displays, Prints, Changes, and_then, prints_all, displays_all}
use Rattle.program_task.specs.Program.{Own, Shared, Answer, Ended, Runner, begins_with, simply, refuses}
use Rattle.program_task.specs.Arguments.{argument_of, writes_argument}
use Rattle.program_task.specs.OpenFiles.{found_file, open_as, opens_found, opens, closes, of_found, of_open, page_numbered, gets_page, gets, put_in, pages_free, changes, puts, measures, looks_up}
use Rattle.program_task.specs.Characters.{reads_from, accepts, writes, displays}
use Rattle.program_task.specs.Table.{loaded_as, returned, runs, answer}
use Rattle.program_task.specs.Run.{Later, step_by, run_for, runner}
use Rattle.solo_task.specs.Laws.{MakesLines}

pub lines-then : {A B : Type 0} (P : A → Type 0) (Q : B → Type 0) (t : Task A) (go : A → Task B) → MakesLines P t → ((a : A) → P a → MakesLines Q (go a))
    → MakesLines Q (and_then t go)
lines-then P Q (Gives a) go is on = on a is
lines-then P Q (ReadsCards more) go is on = λ file. lines-then P Q (more file) go (is file) on
lines-then P Q (Accepts more) go is on = λ typed. lines-then P Q (more typed) go (is typed) on
lines-then P Q (Displays line later) go is on = (is.0, lines-then P Q later go is.1 on)
lines-then P Q (Prints line later) go is on = (is.0, lines-then P Q later go is.1 on)
lines-then P Q (Changes files later) go is on = lines-then P Q later go is on

pub lines-printed : {A : Type 0} (P : A → Type 0) (lines : List (List ℕ)) (t : Task A) → AreLines lines → MakesLines P t → MakesLines P (prints_all lines t)
lines-printed P [] t are is = is
lines-printed P (line ∷ lines) t are is = (are.0, lines-printed P lines t are.1 is)

lines-displayed : {A : Type 0} (P : A → Type 0) (lines : List (List ℕ)) (t : Task A) → AreLines lines → MakesLines P t → MakesLines P (displays_all lines t)
lines-displayed P [] t are is = is
lines-displayed P (line ∷ lines) t are is = (are.0, lines-displayed P lines t are.1 is)

-- ---- Characters to lines

pub record ArePrinted (p : Printed) : Type 0 where
  pub lines : AreLines p.lines
  pub line : IsLine p.line

pub are-both : (some more : List (List ℕ)) → AreLines some → AreLines more → AreLines (some ++ more)
are-both [] more a b = b
are-both (x ∷ some) more a b = (a.0, are-both some more a.1 b)

shown-prints : (code : ℕ) → is_printable (shown code) ≡ true
shown-prints code =
    let P : Bool → Type 0 = λ t. is_printable code ≡ t → is_printable (if t then code else 63) ≡ true in
    elim (is_printable code) as P [ true ↦ (λ e. e) | false ↦ (λ e. refl) ] refl

pub empty-line : IsLine []
empty-line = record { short = omega arith; printable = refl }

one-shown : (code : ℕ) → IsLine (shown code ∷ [])
one-shown code = record { short = omega arith; printable = ap (λ t. t && true) (shown-prints code) }

both-true : (t u : Bool) → t ≡ true → u ≡ true → (t && u) ≡ true
both-true true u a b = b
both-true false u a b = absurd cc

longer : (line : List ℕ) (code : ℕ) → IsLine line → length line < 132 → IsLine (line ++ shown code ∷ [])
longer line code is low = record {
  short = (let l = length-append line (shown code ∷ []) in omega (arith, low, l));
  printable = list_all-append is_printable line (shown code ∷ [])
      ∙ both-true (list_all is_printable line) (list_all is_printable (shown code ∷ [])) is.printable (one-shown code).printable;
}

character-printed : (p : Printed) (code : ℕ) → ArePrinted p → ArePrinted (with_character p code)
character-printed p code are =
    let ended : ArePrinted (record { lines = p.lines ++ p.line ∷ []; line = [] }) =
    record { lines = are-both p.lines (p.line ∷ []) are.lines (are.line, tt); line = empty-line } in
    let P : Bool → Type 0 = λ t. ArePrinted (if t then record { lines = p.lines ++ p.line ∷ []; line = [] }
    else if nat_lt (length p.line) 132 then record { lines = p.lines; line = p.line ++ shown code ∷ [] }
    else record { lines = p.lines ++ p.line ∷ []; line = shown code ∷ [] }) in
    let Q : Bool → Type 0 = λ t. nat_lt (length p.line) 132 ≡ t → ArePrinted (if t then record { lines = p.lines; line = p.line ++ shown code ∷ [] }
    else record { lines = p.lines ++ p.line ∷ []; line = shown code ∷ [] }) in
    elim (code == 10) as P [
      | true ↦ ended
      | false ↦ elim (nat_lt (length p.line) 132) as Q [
        | true ↦ (λ low. record { lines = are.lines; line = longer p.line code are.line (ltb-true (length p.line) 132 low) })
        | false ↦ (λ high. record { lines = ended.lines; line = one-shown code })
      ] refl
    ]

pub characters-printed : (p : Printed) (codes : List ℕ) → ArePrinted p → ArePrinted (with_characters p codes)
characters-printed p [] are = are
characters-printed p (code ∷ codes) are = characters-printed (with_character p code) codes (character-printed p code are)

pub last-printed : (line : List ℕ) → IsLine line → AreLines (last_line line)
last-printed [] is = tt
last-printed (code ∷ rest) is = (is, tt)

-- ---- The calls of a program: the lines in hand stay lines

abbrev pub Hands : Shared → Type 0
Hands w = IsLine w.print × IsLine w.display

abbrev pub InHands : Answer → Type 0
InHands a = Hands a.shared

abbrev pub LeavesHands : Ended → Type 0
LeavesHands e = Hands e.shared

abbrev pub RunsInLines : Option Runner → Type 0
RunsInLines None = Unit {0}
RunsInLines (Some run) = (c : CodeLists) (limit : ℕ) (own : Own) (w : Shared) → Hands w → MakesLines LeavesHands (run c limit own w)

reads-lines : (input : Option (List ℕ)) (own : Own) (w : Shared) → Hands w → MakesLines InHands (reads_from input own w)
reads-lines (Some input) own w is = is
reads-lines None own w is = λ file. is

accepts-lines : (typed : List ℕ) (own : Own) (w : Shared) → Hands w → MakesLines InHands (accepts typed own w)
accepts-lines (code ∷ rest) own w is = is
accepts-lines [] own w is = λ typed. is

writes-lines : (characters : List ℕ) (own : Own) (w : Shared) → Hands w → MakesLines InHands (writes characters own w)
writes-lines characters own w is =
    let p : Printed = record { lines = []; line = w.print } in
    let are = characters-printed p characters record { lines = tt; line = is.0 } in
    lines-printed InHands (with_characters p characters).lines _ are.lines (are.line, is.1)

displays-lines : (characters : List ℕ) (own : Own) (w : Shared) → Hands w → MakesLines InHands (displays characters own w)
displays-lines characters own w is =
    let p : Printed = record { lines = []; line = w.display } in
    let are = characters-printed p characters record { lines = tt; line = is.1 } in
    lines-displayed InHands (with_characters p characters).lines _ are.lines (is.0, are.line)

opens_found-lines : (f : ℤ) (name : Option (List ℕ)) (file : Option File) (own : Own) (w : Shared) → Hands w
    → MakesLines InHands (opens_found f name file own w)
opens_found-lines f (Some name) (Some file) own w is = is
opens_found-lines f name file own w is = is

opens-lines : (f : ℤ) (name : Option (List ℕ)) (slot : Option (Option (List ℕ))) (own : Own) (w : Shared) → Hands w
    → MakesLines InHands (opens f name slot own w)
opens-lines f name (Some None) own w is = opens_found-lines f name (found_file w.files name) own w is
opens-lines f name slot own w is = is

closes-lines : (f : ℤ) (slot : Option (Option (List ℕ))) (own : Own) (w : Shared) → Hands w → MakesLines InHands (closes f slot own w)
closes-lines f (Some (Some name)) own w is = is
closes-lines f slot own w is = is

abbrev UsesInLines : (List ℕ → File → Own → Shared → Task Answer) → Type 0
UsesInLines use_file = (name : List ℕ) (file : File) (own : Own) (w : Shared) → Hands w → MakesLines InHands (use_file name file own w)

found-lines : (use_file : List ℕ → File → Own → Shared → Task Answer) (name : List ℕ) (file : Option File) (own : Own) (w : Shared) → UsesInLines use_file
    → Hands w
    → MakesLines InHands (of_found use_file name file own w)
found-lines use_file name None own w uses is = is
found-lines use_file name (Some file) own w uses is = uses name file own w is

open-lines : (use_file : List ℕ → File → Own → Shared → Task Answer) (slot : Option (Option (List ℕ))) (own : Own) (w : Shared) → UsesInLines use_file
    → Hands w
    → MakesLines InHands (of_open use_file slot own w)
open-lines use_file (Some (Some name)) own w uses is = found-lines use_file name (fin.get w.files name) own w uses is
open-lines use_file slot own w uses is = is

gets_page-lines : (page : Option (List ℕ)) (own : Own) (w : Shared) → Hands w → MakesLines InHands (gets_page page own w)
gets_page-lines None own w is = is
gets_page-lines (Some bytes) own w is = is

changes-lines : (name : List ℕ) (file : Option File) (own : Own) (w : Shared) → Hands w → MakesLines InHands (changes name file own w)
changes-lines name None own w is = is
changes-lines name (Some file) own w is = is

looks-lines : (file : Option File) (own : Own) (w : Shared) → Hands w → MakesLines InHands (looks_up file own w)
looks-lines None own w is = is
looks-lines (Some file) own w is = is

argument-lines : (written : Option Arg) (own : Own) (w : Shared) → Hands w → MakesLines InHands (writes_argument written own w)
argument-lines None own w is = is
argument-lines (Some a) own w is =
    elim (nat_lt (length own.outgoing) ARG_LIMIT) as
    (λ t. MakesLines InHands (if t then simply replies.Done (record own { outgoing = own.outgoing ++ a ∷ [] }) w
    else refuses own w)) [ true ↦ is | false ↦ is ]

runs-lines : (deeper : Option Runner) (left : ℕ) (load : Loaded) (own : Own) (w : Shared) → RunsInLines deeper → Hands w
    → MakesLines InHands (runs deeper left load own w)
runs-lines (Some run) left (Code code) own w all is =
    lines-then LeavesHands InHands (run code left (begins_with own.outgoing) w) (λ e. Gives (returned own e)) (all code left (begins_with own.outgoing) w is)
    (λ e is. is)
runs-lines deeper left load own w all is = is

answer-lines : (deeper : Option Runner) (call : SysCall) (own : Own) (w : Shared) → RunsInLines deeper → Hands w
    → MakesLines InHands (answer deeper call own w)
answer-lines deeper calls.Read own w all is = reads-lines w.input own w is
answer-lines deeper (calls.Write code) own w all is = writes-lines (code ∷ []) own w is
answer-lines deeper (calls.WriteInt number) own w all is = writes-lines (signed_decimal number) own w is
answer-lines deeper calls.Accept own w all is = accepts-lines w.typed own w is
answer-lines deeper (calls.Display code) own w all is = displays-lines (code ∷ []) own w is
answer-lines deeper (calls.Open f name) own w all is = opens-lines f (word_name name) (open_as own f) own w is
answer-lines deeper (calls.Close f) own w all is = closes-lines f (open_as own f) own w is
answer-lines deeper (calls.Get f p) own w all is = open-lines (gets p) (open_as own f) own w
    (λ name file own w is. gets_page-lines (page_numbered file.pages p) own w is) is
answer-lines deeper (calls.Put f p page) own w all is =
    open-lines (puts p page.0) (open_as own f) own w (λ name file own w is. changes-lines name (put_in (pages_free w.files) file p page.0) own w is) is
answer-lines deeper (calls.Length f) own w all is = open-lines measures (open_as own f) own w (λ name file own w is. is) is
answer-lines deeper (calls.Lookup name) own w all is = looks-lines (found_file w.files (word_name name)) own w is
answer-lines deeper calls.ReadArg own w all is = is
answer-lines deeper (calls.WriteArg tag number name) own w all is = argument-lines (argument_of tag number name) own w is
answer-lines deeper (calls.Run name left) own w all is = runs-lines deeper left (loaded_as w.files (word_name name)) own w all is

-- ---- A run

abbrev LaterInLines : Later → Type 0
LaterInLines later = (s : State) (own : Own) (w : Shared) → Hands w → MakesLines LeavesHands (later s own w)

step-lines : (deeper : Option Runner) (c : CodeLists) (own : Own) (w : Shared) (next : Next) (later : Later) → RunsInLines deeper → LaterInLines later
    → Hands w
    → MakesLines LeavesHands (step_by deeper c own w next later)
step-lines deeper c own w (Goes t) later all on is = on t own w is
step-lines deeper c own w (Asks call asked) later all on is =
    lines-then InHands LeavesHands (answer deeper call own w) _ (answer-lines deeper call own w all is)
    (λ a is. on (answered c asked a.reply) a.own a.shared is)
step-lines deeper c own w (Stops r line ticks) later all on is = is
step-lines deeper c own w Lacks later all on is = is

run-lines : (n : ℕ) (deeper : Option Runner) (c : CodeLists) (limit : ℕ) → RunsInLines deeper → LaterInLines (run_for n deeper c limit)
run-lines zero deeper c limit all = λ s own w is. is
run-lines (suc n) deeper c limit all =
    λ s own w is. step-lines deeper c own w (next c limit s) (run_for n deeper c limit) all (run-lines n deeper c limit all) is

pub runner-lines : (room : ℕ) → RunsInLines (runner room)
runner-lines zero = tt
runner-lines (suc room) =
    λ c limit own w is. run-lines (left_until_end c limit (start_state c) + 1) (runner room) c limit (runner-lines room) (start_state c) own w is
