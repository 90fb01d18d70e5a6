-- The paper: the output process prints the lines of the pages that it takes, in order.
use Rattle.std.proofs.Common.{◌≡◌, ℕ, ◌+◌, Bool, true, false, List, [], ◌∷◌, ◌++◌, None, Some, refl, sym, ◌∙◌, ap, subst}
use Rattle.std.proofs.lemmas.List.{append-nil}
use Rattle.solo_base.specs.Text.{line_text}
use Rattle.solo_base.specs.declared.outcome.Side.TheVariants.{Receiver}
use Rattle.solo_base.specs.declared.system_call.Arg.TheVariants as arg
use Rattle.network_law.specs.Acts.{moved, moved_by}
use Rattle.network_law.specs.Network.{Follows, acts}
use Rattle.exchange_law.specs.Pages.{is_last, page_gives, items_read, lines_of}
use Rattle.exchange_law.specs.Parcels.{stream_lines, count_after}
use Rattle.exchange_law.proofs.Counted.{none-delayed}
use Rattle.exchange_law.proofs.Streams.{stream-append}
use Rattle.place_law.specs.Process.{Does, LacksMemory, Delays, action_of, place, caused, given_cause, next_action, went}
use Rattle.place_law.proofs.Nexts.{or-none, or-new, does-next, AtPlace, Stopping, Ending, next-shape, next-is}
use Rattle.solo_law.specs.Actions.{Action, Reply}
use Rattle.solo_law.specs.Actions as act
use Rattle.solo_law.specs.Buffers.{call, went_by}
use Rattle.solo_law.specs.Replies.{Fits, view}
use Rattle.solo_law.specs.InputPlaces.{InputPlace, input_does}
use Rattle.solo_law.specs.InputPlaces as input_at
use Rattle.solo_law.specs.OutputPlaces.{OutputPlace, output_does, output_behind, prints, behind_page, output}
use Rattle.solo_law.specs.OutputPlaces as at
use Rattle.solo_law.specs.JobPlaces.{JobPlace, job_does}
use Rattle.solo_law.specs.JobPlaces as job_at
use Rattle.solo_law.specs.Devices.{Devices, Allows, gains}
use Rattle.solo_law.specs.Devices as devices
use Rattle.solo_law.specs.Solo.{process, table, solo, SoloState, SoloEntry, IsReached, IsProcess}
use Rattle.solo_law.specs.Told.{prints_line, written_by, written}
use Rattle.solo_law.proofs.Placed.{each-process, is-3, placed}
use Rattle.solo_law.proofs.Causes.{OutputTakes, output-count}
use Rattle.solo_law.proofs.Sinks.{GaveBy, Tells, sink-tells}
use Rattle.solo_law.proofs.Shown.{joined, lacking-some, line-same}
use Rattle.solo_law.proofs.Nones.{no-some}

-- ---- what is still to be printed of the pages that were taken
abbrev pub to_print : OutputPlace → List (List ℕ)
to_print (at.PrintsLine line later last pages) = line ∷ later
to_print other = []

page-print : (last : Bool) (pages : ℕ) → to_print (behind_page last pages) ≡ []
page-print true pages = refl
page-print false pages = refl

lines-print : (lines : List (List ℕ)) (last : Bool) (pages : ℕ) → lines ≡ to_print (prints lines last pages)
lines-print [] last pages = sym (page-print last pages)
lines-print (line ∷ later) last pages = refl

prints-on : (a : OutputPlace) (reply : Reply) (n : ℕ) → Fits (output_does a) reply → given_cause view output a (output_does a) reply ≡ None → OutputTakes a n
    → to_print a ++ stream_lines n (moved_by 5 Receiver (call 3 (output_does a)) (went_by (output_does a) reply))
    ≡ written_by (prints_line (output_does a)) reply ++ to_print (output_behind a reply)
prints-on at.AwaitsPrinting (act.OfArg arg.Nil) n fits none is = refl
prints-on at.AwaitsPrinting (act.OfArg other) n fits none is = refl
prints-on (at.TakesPage pages) (act.OfPage page) n fits none is =
    append-nil (lines_of (items_read (page_gives n page))) ∙ ap (λ n. lines_of (items_read (page_gives n page))) (sym is)
    ∙ lines-print (lines_of (items_read (page_gives pages page))) (is_last page) (pages + 1)
prints-on (at.PrintsLine line later last pages) act.Done n fits none is = ap (λ rest. line ∷ rest) (append-nil later ∙ lines-print later last pages)
prints-on (at.PrintsLine line later last pages) act.Failed n fits none is = absurd (no-some none)
prints-on (at.PrintsLine line later last pages) act.NoMemory n fits none is = absurd (no-some none)
prints-on at.ReportsPrinted act.Done n fits none is = refl
prints-on at.IsDone act.Done n fits none is = refl
prints-on at.AwaitsPrinting act.Stopped n fits none is = absurd (no-some none)
prints-on (at.TakesPage pages) act.Stopped n fits none is = absurd (no-some none)
prints-on at.ReportsPrinted act.Stopped n fits none is = absurd (no-some none)
prints-on a reply n fits none is = absurd fits

-- the lines of the pages that it took
abbrev pub taken_lines : List SoloEntry → List (List ℕ)
taken_lines h = stream_lines 0 (moved 5 Receiver (acts solo 3 h))

pub taken-grow : (entry : SoloEntry) (h : List SoloEntry) → (more : List (List ℕ)) × (taken_lines (entry ∷ h) ≡ taken_lines h ++ more)
taken-grow entry h = (
  stream_lines (count_after 0 (moved 5 Receiver (acts solo 3 h))) (moved_by 5 Receiver (output.calls (action_of entry)) (went view entry)),
  stream-append 0 (moved 5 Receiver (acts solo 3 h)) (moved_by 5 Receiver (output.calls (action_of entry)) (went view entry)),
)

pub print-stands : (h : List SoloEntry) → Follows solo 3 h → caused view output h ≡ None
    → taken_lines h ≡ written prints_line h ++ to_print (place output h)
print-stands [] follows none = refl
print-stands (Does a r ∷ h) follows none =
    let before = or-none (caused view output h) _ none in
    let now = or-new (caused view output h) _ none in
    let same = does-next table 3 h a before follows.0 in
    let n = count_after 0 (moved 5 Receiver (acts solo 3 h)) in
    stream-append 0 (moved 5 Receiver (acts solo 3 h)) (moved_by 5 Receiver (call 3 a) (went_by a r))
    ∙ joined (taken_lines h) (written prints_line h) (to_print (place output h)) (stream_lines n (moved_by 5 Receiver (call 3 a) (went_by a r)))
    (written_by (prints_line a) r) (to_print (output_behind (place output h) r)) (print-stands h follows.2 before)
    (subst (λ a. Fits a r → given_cause view output (place output h) a r ≡ None
    → to_print (place output h) ++ stream_lines n (moved_by 5 Receiver (call 3 a) (went_by a r))
    ≡ written_by (prints_line a) r ++ to_print (output_behind (place output h) r)) same
    (λ fits free. prints-on (place output h) r n fits free (output-count h follows.2 before)) follows.1 now)
print-stands (LacksMemory a r ∷ h) follows none = absurd (lacking-some (caused view output h) _ none)
print-stands (Delays a ∷ h) follows none =
    ap (λ more. stream_lines 0 (moved 5 Receiver (acts solo 3 h) ++ more)) (none-delayed 5 Receiver (call 3 a))
    ∙ ap (stream_lines 0) (append-nil (moved 5 Receiver (acts solo 3 h))) ∙ print-stands h follows.2 none

-- ---- the paper is written by the output process alone
pub quiet : (d : Devices) (entry : SoloEntry) (gained : List ℕ) → prints_line (action_of entry) ≡ None → (devices.given d entry gained).paper ≡ d.paper
quiet d (Does act.ReadCard (act.OfCard answer)) gained e = refl
quiet d (Does act.Accept (act.OfCard answer)) gained e = refl
quiet d (Does (act.Works work) (act.Found need)) gained e = refl
quiet d (Does (act.Display line) reply) gained e = refl
quiet d (Does (act.Print line) reply) gained e = absurd cc
quiet d entry gained e = refl

pub gave : (d : Devices) (a : Action) (r : Reply) (gained line : List ℕ) → prints_line a ≡ Some line → Allows d (Does a r) gained
    → ((devices.given d (Does a r) gained).paper ≡ gains gained d.paper) × GaveBy r gained line
gave d (act.Print l) act.Done gained line e allowed = (refl, allowed ∙ ap line_text (line-same l line e))
gave d (act.Print l) act.Stopped gained line e allowed = (refl, subst (GaveBy act.Stopped gained) (line-same l line e) allowed)
gave d (act.Print l) act.Failed gained line e allowed = (refl, subst (GaveBy act.Failed gained) (line-same l line e) allowed)
gave d (act.Print l) act.NoMemory gained line e allowed = (refl, subst (GaveBy act.NoMemory gained) (line-same l line e) allowed)
gave d (act.Print l) (act.OfCard x) gained line e allowed = (refl, subst (GaveBy (act.OfCard x) gained) (line-same l line e) allowed)
gave d (act.Print l) (act.OfArg x) gained line e allowed = (refl, subst (GaveBy (act.OfArg x) gained) (line-same l line e) allowed)
gave d (act.Print l) (act.OfPage x) gained line e allowed = (refl, subst (GaveBy (act.OfPage x) gained) (line-same l line e) allowed)
gave d (act.Print l) (act.Found x) gained line e allowed = (refl, subst (GaveBy (act.Found x) gained) (line-same l line e) allowed)
gave d a r gained line e allowed = absurd cc

pub free : (h : List SoloEntry) (a : Action) (line : List ℕ) → next_action view output h ≡ Some a → prints_line a ≡ Some line → caused view output h ≡ None
free h a line next e =
    elim (next-shape table placed 3 h a is-3 next) as (λ _. caused view output h ≡ None) [
      | AtPlace none same ↦ none
      | Stopping b stop ↦ absurd (let no = sym (ap prints_line stop.is) ∙ e in cc)
      | Ending end ↦ absurd (let no = sym (ap prints_line end.is) ∙ e in cc)
    ]

due-at : (a : OutputPlace) (line : List ℕ) → prints_line (output_does a) ≡ Some line → (rest : List (List ℕ)) × (to_print a ≡ line ∷ rest)
due-at (at.PrintsLine l later last pages) line e = (later, ap (λ l. l ∷ later) (line-same l line e))
due-at other line e = absurd cc

pub due : (h : List SoloEntry) (a : Action) (line : List ℕ) → Follows solo 3 h → next_action view output h ≡ Some a → prints_line a ≡ Some line
    → caused view output h ≡ None → (rest : List (List ℕ)) × (taken_lines h ≡ written prints_line h ++ (line ∷ rest))
due h a line follows next e none =
    let (rest, is) = due-at (place output h) line (ap prints_line (does-next table 3 h a none next) ∙ e) in
    (rest, print-stands h follows none ∙ ap (λ x. written prints_line h ++ x) is)

pub failed : (h : List SoloEntry) (a : Action) (r : Reply) (line : List ℕ) → prints_line a ≡ Some line → caused view output (Does a r ∷ h) ≡ None
    → Follows solo 3 (Does a r ∷ h) → r ≡ act.Done
failed h (act.Print l) act.Done line e none follows = refl
failed h (act.Print l) act.Failed line e none follows = absurd (let now = or-new (caused view output h) _ none in cc)
failed h (act.Print l) act.NoMemory line e none follows = absurd (let now = or-new (caused view output h) _ none in cc)
failed h (act.Print l) r line e none follows = absurd follows.1
failed h a r line e none follows = absurd cc

input-prints_not : (a : InputPlace) → prints_line (input_does a) ≡ None
input-prints_not input_at.AwaitsOrder = refl
input-prints_not (input_at.Reads pages hand sound) = refl
input-prints_not (input_at.PutsFull page pages hand) = refl
input-prints_not (input_at.PutsLast page sound) = refl
input-prints_not (input_at.Reports sound) = refl
input-prints_not input_at.IsOver = refl

job-prints_not : (a : JobPlace) → prints_line (job_does a) ≡ None
job-prints_not job_at.Listens = refl
job-prints_not (job_at.Toils work) = refl
job-prints_not (job_at.OrdersCards pages) = refl
job-prints_not (job_at.TakesCards taken items pages) = refl
job-prints_not (job_at.TakesReport items pages) = refl
job-prints_not (job_at.Accepts pages) = refl
job-prints_not (job_at.Displays line pages) = refl
job-prints_not (job_at.OrdersPrinter page behind) = refl
job-prints_not (job_at.PutsPage page behind pages) = refl
job-prints_not (job_at.TakesPrinted lines) = refl
job-prints_not (job_at.AnswersLine line later) = refl
job-prints_not job_at.DismissesInput = refl
job-prints_not job_at.DismissesOutput = refl
job-prints_not job_at.HasLeft = refl

pub others : (q : ℕ) (g : List SoloEntry) (a : Action) → IsProcess q → (q ≡ 3 → ⊥) → next_action view (process q) g ≡ Some a → prints_line a ≡ None
others q g a one differ next =
    next-is table placed (λ a. prints_line a ≡ None) q g a one
    (each-process (λ q. (q ≡ 3 → ⊥) → (a : (process q).Place) → prints_line ((process q).does a) ≡ None) q one (λ differ. input-prints_not)
    (λ differ. job-prints_not) (λ differ. absurd (differ refl)) differ) (λ b. refl) (λ how. refl) next

abbrev pub Paper : List ℕ → List SoloEntry → Devices → Type 0
Paper before h d =
    Tells 3 prints_line (λ d. d.paper) taken_lines quiet (λ d a r gained. refl) (λ d a gained. refl) gave taken-grow free due failed others before h d

pub paper-tells : (before : List ℕ) (d : Devices) (s : SoloState) → d.paper ≡ Some before → IsReached d s → Paper before (s.histories 3) s.devices
paper-tells before d s told reached =
    sink-tells 3 prints_line (λ d. d.paper) taken_lines quiet (λ d a r gained. refl) (λ d a gained. refl) gave taken-grow free due failed others before d s
    refl told reached
