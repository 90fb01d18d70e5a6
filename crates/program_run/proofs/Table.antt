-- What the table of calls answers, by what the code did.
use Rattle.std.proofs.Common.{◌≡◌, ℕ, List, [], ◌∷◌, Option, Some, None, refl, sym, ◌∙◌, ap}
use Rattle.std.specs.Option.{option_map}
use Rattle.solo_base.specs.Text.{text}
use Rattle.solo_base.specs.declared.system_call.SysCall.{SysCall}
use Rattle.solo_base.specs.declared.system_call.SysReply.{SysReply}
use Rattle.solo_base.specs.declared.system_call.SysReply.TheVariants as replies
use Rattle.disk_layout.specs.Files.{Files}
use Rattle.pascal_mean.specs.Batch.{Printed, next_character, but_the_first, characters_of}
use Rattle.batch_program.specs.Printing.{completed}
use Rattle.program_task.specs.Task.{Task, Gives, ReadsCards, Accepts, prints_all, displays_all}
use Rattle.program_task.specs.Program.{Own, Shared, Answer, simply}
use Rattle.program_task.specs.Characters.{reads_from, reads, accepts, accepted, writes, displays, typed_text}
use Rattle.prog_stack.specs.Answers.{Hand, sharing}
use Rattle.program_run.specs.Characters.{first_of}
use Rattle.program_run.specs.Sharing.{ReadsSo, AcceptsSo, WritesSo, DisplaysSo}

-- this reply, and what is shared then
abbrev pub replied_with : SysReply → Own → Files → Hand → Answer
replied_with reply own all h = record { reply = reply; own = own; shared = sharing all h }

some_same : (a b : ℕ) → Some a ≡ Some b → a ≡ b
some_same a b e = cc

-- ---- READ

read_by : (input : Option (List ℕ)) (code : ℕ) (own : Own) (w : Shared) → Some code ≡ option_map next_character input
    → reads_from input own w ≡ simply (replies.Char code) own (record w { input = option_map but_the_first input })
read_by None code own w is = absurd cc
read_by (Some left) code own w is = ap (λ c. simply (replies.Char c) own (record w { input = Some (but_the_first left) })) (sym (some_same code (next_character left) is))

pub reads_one : (own : Own) (all : Files) (h : Hand) (code : ℕ) (now : Hand) → ReadsSo h (Some code) now
    → reads_from h.input own (sharing all h) ≡ Gives (replied_with (replies.Char code) own all now)
reads_one own all h code now is =
    read_by h.input code own (sharing all h) is.code ∙ ap (λ n. Gives (replied_with (replies.Char code) own all n)) (sym is.left)

no_input : (input : Option (List ℕ)) → None ≡ option_map next_character input → input ≡ None
no_input None is = refl
no_input (Some left) is = absurd cc

pub reads_none : (own : Own) (all : Files) (h now : Hand) → ReadsSo h None now
    → (reads_from h.input own (sharing all h) ≡ ReadsCards (λ file. reads (text file.cards) own (record (sharing all h) { spoiled = file.spoiled }))) × (now ≡ h)
reads_none own all h now is =
    let none = no_input h.input is.code in (
      ap (λ i. reads_from i own (sharing all h)) none,
      is.left ∙ ap (λ i. record h { input = option_map but_the_first i }) none ∙ ap (λ i. record h { input = i }) (sym none),
    )

-- ---- ACCEPT

accept_by : (typed : List ℕ) (code : ℕ) (own : Own) (w : Shared) → Some code ≡ first_of typed
    → accepts typed own w ≡ simply (replies.Char code) own (record w { typed = but_the_first typed })
accept_by [] code own w is = absurd cc
accept_by (first ∷ rest) code own w is = ap (λ c. simply (replies.Char c) own (record w { typed = rest })) (sym (some_same code first is))

pub accepts_one : (own : Own) (all : Files) (h : Hand) (code : ℕ) (now : Hand) → AcceptsSo h (Some code) now
    → accepts h.typed own (sharing all h) ≡ Gives (replied_with (replies.Char code) own all now)
accepts_one own all h code now is =
    accept_by h.typed code own (sharing all h) is.code ∙ ap (λ n. Gives (replied_with (replies.Char code) own all n)) (sym is.left)

none_typed : (typed : List ℕ) → None ≡ first_of typed → typed ≡ []
none_typed [] is = refl
none_typed (first ∷ rest) is = absurd cc

pub accepts_none : (own : Own) (all : Files) (h now : Hand) → AcceptsSo h None now
    → (accepts h.typed own (sharing all h) ≡ Accepts (λ typed. accepted (typed_text typed) own (sharing all h))) × (now ≡ h)
accepts_none own all h now is =
    let none = none_typed h.typed is.code in (
      ap (λ t. accepts t own (sharing all h)) none,
      is.left ∙ ap (λ t. record h { typed = but_the_first t }) none ∙ ap (λ t. record h { typed = t }) (sym none),
    )

-- ---- WRITE, WRITEINT and DISPLAY

displays_task : Own → Shared → Printed → Task Answer
displays_task own w p = displays_all p.lines (simply replies.Done own (record w { display = p.line }))

pub displays_so : (own : Own) (all : Files) (h : Hand) (code : ℕ) (line : Option (List ℕ)) (now : Hand) → DisplaysSo h code line now
    → displays (code ∷ []) own (sharing all h) ≡ displays_all (completed line) (Gives (replied_with replies.Done own all now))
unfolding displays_task
displays_so own all h code line now is =
    ap (displays_task own (sharing all h)) is.line
    ∙ ap (λ n. displays_all (completed line) (Gives (replied_with replies.Done own all n))) (sym is.left)

writes_task : Own → Shared → Printed → Task Answer
writes_task own w p = prints_all p.lines (simply replies.Done own (record w { print = p.line }))

pub writes_so : (own : Own) (all : Files) (h : Hand) (call : SysCall) (line : Option (List ℕ)) (now : Hand) → WritesSo h call line now
    → writes (characters_of call) own (sharing all h) ≡ prints_all (completed line) (Gives (replied_with replies.Done own all now))
unfolding writes_task
writes_so own all h call line now is =
    ap (writes_task own (sharing all h)) is.line
    ∙ ap (λ n. prints_all (completed line) (Gives (replied_with replies.Done own all n))) (sym is.left)
