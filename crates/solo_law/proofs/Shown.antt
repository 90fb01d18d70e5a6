-- The console: the job process shows what the needs of the commands say, in order.
use Rattle.std.proofs.Common.{◌≡◌, ℕ, zero, suc, ◌+◌, Bool, true, false, List, [], ◌∷◌, ◌++◌, Option, None, Some, refl, sym, ◌∙◌, ap, subst, append_assoc}
use Rattle.std.proofs.lemmas.List.{append-nil}
use Rattle.solo_base.specs.Blanks.{trimmed}
use Rattle.solo_base.specs.Text.{line_text}
use Rattle.solo_base.specs.declared.item.Item.{Item}
use Rattle.solo_base.specs.declared.page.Page.{Page}
use Rattle.solo_base.specs.declared.outcome.Outcome.{Outcome}
use Rattle.solo_devices.specs.declared.card_read.CardRead.{CardRead}
use Rattle.solo_devices.specs.declared.card_read.CardRead.TheVariants as read
use Rattle.network_law.specs.Network.{Follows}
use Rattle.exchange_law.specs.Pages.{is_last, page_with, page_gives, items_read}
use Rattle.place_law.specs.Process.{Does, LacksMemory, Delays, action_of, place, caused, given_cause, or_new, next_action}
use Rattle.place_law.proofs.Nexts.{or-none, or-new, does-next, AtPlace, Stopping, Ending, next-shape, next-is}
use Rattle.solo_law.specs.Work.{Need, CardsNeeded, LineNeeded, DisplayNeeded, PageNeeded, EndNeeded}
use Rattle.solo_law.specs.Actions.{Action, Reply}
use Rattle.solo_law.specs.Actions as act
use Rattle.solo_law.specs.Replies.{Fits, view}
use Rattle.solo_law.specs.InputPlaces.{InputPlace, input_does}
use Rattle.solo_law.specs.InputPlaces as input_at
use Rattle.solo_law.specs.OutputPlaces.{OutputPlace, output_does}
use Rattle.solo_law.specs.OutputPlaces as output_at
use Rattle.solo_law.specs.JobPlaces.{JobPlace, Behind, GoesOn, EndsWith, job_does, job_behind, answers, puts_page, ends, meets, begins_with, behind_typed, behind_accepted, behind_cards, behind_put, job}
use Rattle.solo_law.specs.JobPlaces as at
use Rattle.solo_law.specs.Devices.{Devices, Allows, gains}
use Rattle.solo_law.specs.Devices as devices
use Rattle.solo_law.specs.Solo.{process, table, solo, SoloState, SoloEntry, IsReached, IsProcess}
use Rattle.solo_law.specs.Told.{need_by, needs, on_console, lines_of_all, displays, written_by, written}
use Rattle.solo_law.proofs.Placed.{each-process, is-2, placed}
use Rattle.solo_law.proofs.Sinks.{GaveBy, Tells, sink-tells}
use Rattle.solo_law.proofs.Nones.{no-some}

pub lines-append : (by : Need → List (List ℕ)) (some more : List Need) → lines_of_all by (some ++ more) ≡ lines_of_all by some ++ lines_of_all by more
lines-append by [] more = refl
lines-append by (need ∷ some) more =
    ap (λ rest. by need ++ rest) (lines-append by some more) ∙ sym (append_assoc (by need) (lines_of_all by some) (lines_of_all by more))

pub needs-grow : (by : Need → List (List ℕ)) (entry : SoloEntry) (h : List SoloEntry)
    → (more : List (List ℕ)) × (lines_of_all by (needs (entry ∷ h)) ≡ lines_of_all by (needs h) ++ more)
needs-grow by (Does a r) h = (lines_of_all by (need_by a r), lines-append by (needs h) (need_by a r))
needs-grow by (LacksMemory a r) h = ([], sym (append-nil (lines_of_all by (needs h))))
needs-grow by (Delays a) h = ([], sym (append-nil (lines_of_all by (needs h))))

-- ---- what is still to be shown
abbrev answers_of : Behind → List (List ℕ)
answers_of GoesOn = []
answers_of (EndsWith lines) = lines

abbrev pub to_show : JobPlace → List (List ℕ)
to_show (at.Displays line pages) = line ∷ []
to_show (at.OrdersPrinter page behind) = answers_of behind
to_show (at.PutsPage page behind pages) = answers_of behind
to_show (at.TakesPrinted lines) = lines
to_show (at.AnswersLine line later) = line ∷ later
to_show other = []

answers-show : (lines : List (List ℕ)) → lines ≡ to_show (answers lines)
answers-show [] = refl
answers-show (line ∷ later) = refl

puts-show : (pages : ℕ) (page : Page) (behind : Behind) → answers_of behind ≡ to_show (puts_page pages page behind)
puts-show zero page behind = refl
puts-show (suc pages) page behind = refl

ends-show : (pages : ℕ) (printed lines : List (List ℕ)) → lines ≡ to_show (ends pages printed lines)
ends-show zero [] lines = answers-show lines
ends-show zero (line ∷ printed) lines = refl
ends-show (suc pages) printed lines = refl

meets-show : (pages : ℕ) (need : Need) → on_console need ++ [] ≡ to_show (meets pages need)
meets-show pages CardsNeeded = refl
meets-show pages LineNeeded = refl
meets-show pages (DisplayNeeded line) = refl
meets-show pages (PageNeeded printed) = puts-show pages (page_with pages false printed) GoesOn
meets-show pages (EndNeeded printed lines) = append-nil lines ∙ ends-show pages printed lines

typed-show : (answer : CardRead) → [] ≡ to_show (behind_typed answer)
typed-show (read.Card line) = begins (trimmed line) where
  begins : (rest : List ℕ) → [] ≡ to_show (begins_with rest line)
  begins [] = refl
  begins (code ∷ rest) = refl
typed-show read.Spoiled = refl
typed-show read.End = refl
typed-show other = refl

accepted-show : (pages : ℕ) (answer : CardRead) → [] ≡ to_show (behind_accepted pages answer)
accepted-show pages (read.Card line) = refl
accepted-show pages read.Spoiled = refl
accepted-show pages read.End = refl
accepted-show pages other = refl

cards-show : (last : Bool) (taken : ℕ) (items : List Item) (pages : ℕ) → [] ≡ to_show (behind_cards last taken items pages)
cards-show true taken items pages = refl
cards-show false taken items pages = refl

put-show : (behind : Behind) (pages : ℕ) → answers_of behind ≡ to_show (behind_put behind pages)
put-show GoesOn pages = refl
put-show (EndsWith lines) pages = refl

shows-on : (a : JobPlace) (reply : Reply) → Fits (job_does a) reply → given_cause view job a (job_does a) reply ≡ None
    → to_show a ++ lines_of_all on_console (need_by (job_does a) reply) ≡ written_by (displays (job_does a)) reply ++ to_show (job_behind a reply)
shows-on at.Listens (act.OfCard answer) fits free = typed-show answer
shows-on (at.Toils work) (act.Found need) fits free = meets-show work.pages need
shows-on (at.Toils work) act.Failed fits free = absurd (no-some free)
shows-on (at.Toils work) act.NoMemory fits free = absurd (no-some free)
shows-on (at.OrdersCards pages) act.Done fits free = refl
shows-on (at.TakesCards taken items pages) (act.OfPage page) fits free =
    cards-show (is_last page) (taken + 1) (items ++ items_read (page_gives taken page)) pages
shows-on (at.TakesReport items pages) (act.OfArg report) fits free = refl
shows-on (at.Accepts pages) (act.OfCard answer) fits free = accepted-show pages answer
shows-on (at.Displays line pages) act.Done fits free = refl
shows-on (at.Displays line pages) act.Failed fits free = absurd (no-some free)
shows-on (at.Displays line pages) act.NoMemory fits free = absurd (no-some free)
shows-on (at.OrdersPrinter page behind) act.Done fits free = append-nil (answers_of behind)
shows-on (at.PutsPage page behind pages) act.Done fits free = append-nil (answers_of behind) ∙ put-show behind (suc pages)
shows-on (at.TakesPrinted lines) (act.OfArg report) fits free = append-nil lines ∙ answers-show lines
shows-on (at.AnswersLine line later) act.Done fits free = ap (λ rest. line ∷ rest) (append-nil later ∙ answers-show later)
shows-on (at.AnswersLine line later) act.Failed fits free = absurd (no-some free)
shows-on (at.AnswersLine line later) act.NoMemory fits free = absurd (no-some free)
shows-on at.DismissesInput act.Done fits free = refl
shows-on at.DismissesOutput act.Done fits free = refl
shows-on at.HasLeft act.Done fits free = refl
shows-on (at.OrdersCards pages) act.Stopped fits free = absurd (no-some free)
shows-on (at.TakesCards taken items pages) act.Stopped fits free = absurd (no-some free)
shows-on (at.TakesReport items pages) act.Stopped fits free = absurd (no-some free)
shows-on (at.OrdersPrinter page behind) act.Stopped fits free = absurd (no-some free)
shows-on (at.PutsPage page behind pages) act.Stopped fits free = absurd (no-some free)
shows-on (at.TakesPrinted lines) act.Stopped fits free = absurd (no-some free)
shows-on at.DismissesInput act.Stopped fits free = absurd (no-some free)
shows-on at.DismissesOutput act.Stopped fits free = absurd (no-some free)
shows-on a reply fits free = absurd fits

pub lacking-some : (old : Option Outcome) (how : Outcome) → or_new old (Some how) ≡ None → ⊥
lacking-some None how e = cc
lacking-some (Some why) how e = cc

pub line-same : (l line : List ℕ) → Some l ≡ Some line → l ≡ line
line-same l line e = cc

pub joined : (whole done ahead more now later : List (List ℕ)) → whole ≡ done ++ ahead → ahead ++ more ≡ now ++ later → whole ++ more ≡ (done ++ now) ++ later
joined whole done ahead more now later e step =
    ap (λ x. x ++ more) e ∙ append_assoc done ahead more ∙ ap (λ x. done ++ x) step ∙ sym (append_assoc done now later)

pub shown-stands : (h : List SoloEntry) → Follows solo 2 h → caused view job h ≡ None
    → lines_of_all on_console (needs h) ≡ written displays h ++ to_show (place job h)
shown-stands [] follows none = refl
shown-stands (Does a r ∷ h) follows none =
    let before = or-none (caused view job h) _ none in
    let now = or-new (caused view job h) _ none in
    let same = does-next table 2 h a before follows.0 in
    lines-append on_console (needs h) (need_by a r)
    ∙ joined (lines_of_all on_console (needs h)) (written displays h) (to_show (place job h)) (lines_of_all on_console (need_by a r))
    (written_by (displays a) r)
    (to_show (job_behind (place job h) r)) (shown-stands h follows.2 before)
    (subst (λ a. Fits a r → given_cause view job (place job h) a r ≡ None
    → to_show (place job h) ++ lines_of_all on_console (need_by a r) ≡ written_by (displays a) r ++ to_show (job_behind (place job h) r)) same
    (shows-on (place job h) r) follows.1 now)
shown-stands (LacksMemory a r ∷ h) follows none = absurd (lacking-some (caused view job h) _ none)
shown-stands (Delays a ∷ h) follows none = shown-stands h follows.2 none

-- ---- the console is written by the job process alone
pub quiet : (d : Devices) (entry : SoloEntry) (gained : List ℕ) → displays (action_of entry) ≡ None → (devices.given d entry gained).console ≡ d.console
quiet d (Does act.ReadCard (act.OfCard answer)) gained e = refl
quiet d (Does act.Accept (act.OfCard answer)) gained e = refl
quiet d (Does (act.Works work) (act.Found need)) gained e = refl
quiet d (Does (act.Print line) reply) gained e = refl
quiet d (Does (act.Display line) reply) gained e = absurd cc
quiet d entry gained e = refl

pub gave : (d : Devices) (a : Action) (r : Reply) (gained line : List ℕ) → displays a ≡ Some line → Allows d (Does a r) gained
    → ((devices.given d (Does a r) gained).console ≡ gains gained d.console) × GaveBy r gained line
gave d (act.Display l) act.Done gained line e allowed = (refl, allowed ∙ ap line_text (line-same l line e))
gave d (act.Display l) act.Stopped gained line e allowed = (refl, subst (GaveBy act.Stopped gained) (line-same l line e) allowed)
gave d (act.Display l) act.Failed gained line e allowed = (refl, subst (GaveBy act.Failed gained) (line-same l line e) allowed)
gave d (act.Display l) act.NoMemory gained line e allowed = (refl, subst (GaveBy act.NoMemory gained) (line-same l line e) allowed)
gave d (act.Display l) (act.OfCard x) gained line e allowed = (refl, subst (GaveBy (act.OfCard x) gained) (line-same l line e) allowed)
gave d (act.Display l) (act.OfArg x) gained line e allowed = (refl, subst (GaveBy (act.OfArg x) gained) (line-same l line e) allowed)
gave d (act.Display l) (act.OfPage x) gained line e allowed = (refl, subst (GaveBy (act.OfPage x) gained) (line-same l line e) allowed)
gave d (act.Display l) (act.Found x) gained line e allowed = (refl, subst (GaveBy (act.Found x) gained) (line-same l line e) allowed)
gave d a r gained line e allowed = absurd cc

pub free : (h : List SoloEntry) (a : Action) (line : List ℕ) → next_action view job h ≡ Some a → displays a ≡ Some line → caused view job h ≡ None
free h a line next e =
    elim (next-shape table placed 2 h a is-2 next) as (λ _. caused view job h ≡ None) [
      | AtPlace none same ↦ none
      | Stopping b stop ↦ absurd (let no = sym (ap displays stop.is) ∙ e in cc)
      | Ending end ↦ absurd (let no = sym (ap displays end.is) ∙ e in cc)
    ]

due-at : (a : JobPlace) (line : List ℕ) → displays (job_does a) ≡ Some line → (rest : List (List ℕ)) × (to_show a ≡ line ∷ rest)
due-at (at.Displays l pages) line e = ([], ap (λ l. l ∷ []) (line-same l line e))
due-at (at.AnswersLine l later) line e = (later, ap (λ l. l ∷ later) (line-same l line e))
due-at other line e = absurd cc

pub due : (h : List SoloEntry) (a : Action) (line : List ℕ) → Follows solo 2 h → next_action view job h ≡ Some a → displays a ≡ Some line
    → caused view job h ≡ None → (rest : List (List ℕ)) × (lines_of_all on_console (needs h) ≡ written displays h ++ (line ∷ rest))
due h a line follows next e none =
    let (rest, is) = due-at (place job h) line (ap displays (does-next table 2 h a none next) ∙ e) in
    (rest, shown-stands h follows none ∙ ap (λ x. written displays h ++ x) is)

pub failed : (h : List SoloEntry) (a : Action) (r : Reply) (line : List ℕ) → displays a ≡ Some line → caused view job (Does a r ∷ h) ≡ None
    → Follows solo 2 (Does a r ∷ h) → r ≡ act.Done
failed h (act.Display l) act.Done line e none follows = refl
failed h (act.Display l) act.Failed line e none follows = absurd (let now = or-new (caused view job h) _ none in cc)
failed h (act.Display l) act.NoMemory line e none follows = absurd (let now = or-new (caused view job h) _ none in cc)
failed h (act.Display l) r line e none follows = absurd follows.1
failed h a r line e none follows = absurd cc

input-shows_not : (a : InputPlace) → displays (input_does a) ≡ None
input-shows_not input_at.AwaitsOrder = refl
input-shows_not (input_at.Reads pages hand sound) = refl
input-shows_not (input_at.PutsFull page pages hand) = refl
input-shows_not (input_at.PutsLast page sound) = refl
input-shows_not (input_at.Reports sound) = refl
input-shows_not input_at.IsOver = refl

output-shows_not : (a : OutputPlace) → displays (output_does a) ≡ None
output-shows_not output_at.AwaitsPrinting = refl
output-shows_not (output_at.TakesPage pages) = refl
output-shows_not (output_at.PrintsLine line later last pages) = refl
output-shows_not output_at.ReportsPrinted = refl
output-shows_not output_at.IsDone = refl

pub others : (q : ℕ) (g : List SoloEntry) (a : Action) → IsProcess q → (q ≡ 2 → ⊥) → next_action view (process q) g ≡ Some a → displays a ≡ None
others q g a one differ next =
    next-is table placed (λ a. displays a ≡ None) q g a one
    (each-process (λ q. (q ≡ 2 → ⊥) → (a : (process q).Place) → displays ((process q).does a) ≡ None) q one (λ differ. input-shows_not)
    (λ differ. absurd (differ refl)) (λ differ. output-shows_not) differ) (λ b. refl) (λ how. refl) next

abbrev pub shown : List SoloEntry → List (List ℕ)
shown h = lines_of_all on_console (needs h)

abbrev pub Console : List ℕ → List SoloEntry → Devices → Type 0
Console before h d =
    Tells 2 displays (λ d. d.console) shown quiet (λ d a r gained. refl) (λ d a gained. refl) gave (needs-grow on_console) free due failed others before h d

pub console-tells : (before : List ℕ) (d : Devices) (s : SoloState) → d.console ≡ Some before → IsReached d s → Console before (s.histories 2) s.devices
console-tells before d s told reached =
    sink-tells 2 displays (λ d. d.console) shown quiet (λ d a r gained. refl) (λ d a gained. refl) gave (needs-grow on_console) free due failed others before d
    s refl told reached
