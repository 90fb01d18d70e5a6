-- The pages that the job process puts have the lines that the needs of the commands print, in order.
use Rattle.std.proofs.Common.{◌≡◌, ℕ, zero, suc, ◌+◌, ◌==◌, ◌&&◌, Bool, true, false, List, [], ◌∷◌, ◌++◌, Option, None, Some, refl, sym, ◌∙◌, ap, subst, append_assoc}
use Rattle.std.proofs.lemmas.List.{append-nil}
use Rattle.solo_base.specs.Blanks.{trimmed}
use Rattle.solo_base.specs.declared.item.Item.{Item}
use Rattle.solo_base.specs.declared.page.Page.{Page}
use Rattle.solo_base.specs.declared.outcome.Side.TheVariants.{Sender}
use Rattle.solo_base.specs.declared.outcome.Outcome.{Outcome}
use Rattle.solo_devices.specs.declared.card_read.CardRead.{CardRead}
use Rattle.solo_devices.specs.declared.card_read.CardRead.TheVariants as read
use Rattle.network_law.specs.Acts.{moved, moved_by, if_at}
use Rattle.network_law.specs.Network.{Follows, acts}
use Rattle.exchange_law.specs.Pages.{is_last, page_with, page_gives, items_read, lines_of}
use Rattle.exchange_law.specs.Parcels.{OfPage, stream_lines, count_after}
use Rattle.exchange_law.proofs.Counted.{none-delayed}
use Rattle.exchange_law.proofs.Lines.{lines-of-page}
use Rattle.exchange_law.proofs.Streams.{stream-append}
use Rattle.place_law.specs.Process.{Does, LacksMemory, Delays, action_of, place, caused, given_cause, or_new, went}
use Rattle.place_law.proofs.Nexts.{or-none, or-new, does-next, Shape, AtPlace, Stopping, Ending, next-shape}
use Rattle.solo_law.specs.Work.{Need, CardsNeeded, LineNeeded, DisplayNeeded, PageNeeded, EndNeeded, NeedFits}
use Rattle.solo_law.specs.Actions.{Action, Reply}
use Rattle.solo_law.specs.Actions as act
use Rattle.solo_law.specs.Buffers.{call, went_by}
use Rattle.solo_law.specs.Replies.{Fits, MayLack, view}
use Rattle.solo_law.specs.JobPlaces.{JobPlace, Behind, GoesOn, EndsWith, job_does, job_behind, answers, puts_page, ends, meets, begins_with, behind_typed, behind_accepted, behind_cards, behind_put, job}
use Rattle.solo_law.specs.JobPlaces as at
use Rattle.solo_law.specs.Solo.{table, solo, SoloEntry}
use Rattle.solo_law.specs.Told.{need_by, needs, on_paper, lines_of_all}
use Rattle.solo_law.proofs.Placed.{is-2, placed}
use Rattle.solo_law.proofs.Numbered.{JobSo, job-so}
use Rattle.solo_law.proofs.Shown.{lines-append, needs-grow, joined, lacking-some}
use Rattle.solo_law.proofs.Nones.{no-none, no-some}

-- ---- the page that is still to be put
abbrev pub to_put : JobPlace → List (List ℕ)
to_put (at.OrdersPrinter page behind) = lines_of (items_read (page_gives 0 page))
to_put (at.PutsPage page behind pages) = lines_of (items_read (page_gives pages page))
to_put other = []

answers-put : (lines : List (List ℕ)) → [] ≡ to_put (answers lines)
answers-put [] = refl
answers-put (line ∷ later) = refl

puts-put : (pages : ℕ) (page : Page) (behind : Behind) → lines_of (items_read (page_gives pages page)) ≡ to_put (puts_page pages page behind)
puts-put zero page behind = refl
puts-put (suc pages) page behind = refl

ends-put : (pages : ℕ) (printed lines : List (List ℕ)) → NeedFits (EndNeeded printed lines) → printed ≡ to_put (ends pages printed lines)
ends-put zero [] lines fits = answers-put lines
ends-put zero (line ∷ printed) lines fits = sym (lines-of-page zero true (line ∷ printed) fits)
ends-put (suc pages) printed lines fits = sym (lines-of-page (suc pages) true printed fits)

meets-put : (pages : ℕ) (need : Need) → NeedFits need → on_paper need ++ [] ≡ to_put (meets pages need)
meets-put pages CardsNeeded fits = refl
meets-put pages LineNeeded fits = refl
meets-put pages (DisplayNeeded line) fits = refl
meets-put pages (PageNeeded printed) fits =
    append-nil printed ∙ sym (lines-of-page pages false printed fits) ∙ puts-put pages (page_with pages false printed) GoesOn
meets-put pages (EndNeeded printed lines) fits = append-nil printed ∙ ends-put pages printed lines fits

typed-put : (answer : CardRead) → [] ≡ to_put (behind_typed answer)
typed-put (read.Card line) = begins (trimmed line) where
  begins : (rest : List ℕ) → [] ≡ to_put (begins_with rest line)
  begins [] = refl
  begins (code ∷ rest) = refl
typed-put read.Spoiled = refl
typed-put read.End = refl
typed-put other = refl

accepted-put : (pages : ℕ) (answer : CardRead) → [] ≡ to_put (behind_accepted pages answer)
accepted-put pages (read.Card line) = refl
accepted-put pages read.Spoiled = refl
accepted-put pages read.End = refl
accepted-put pages other = refl

cards-put : (last : Bool) (taken : ℕ) (items : List Item) (pages : ℕ) → [] ≡ to_put (behind_cards last taken items pages)
cards-put true taken items pages = refl
cards-put false taken items pages = refl

page-put-behind : (behind : Behind) (pages : ℕ) → to_put (behind_put behind pages) ≡ []
page-put-behind GoesOn pages = refl
page-put-behind (EndsWith lines) pages = refl

puts-on : (a : JobPlace) (reply : Reply) (n : ℕ) → Fits (job_does a) reply → given_cause view job a (job_does a) reply ≡ None → JobSo a n
    → to_put a ++ lines_of_all on_paper (need_by (job_does a) reply)
    ≡ stream_lines n (moved_by 5 Sender (call 2 (job_does a)) (went_by (job_does a) reply)) ++ to_put (job_behind a reply)
puts-on at.Listens (act.OfCard answer) n fits free so = typed-put answer
puts-on (at.Toils work) (act.Found need) n fits free so = meets-put work.pages need fits
puts-on (at.Toils work) act.Failed n fits free so = absurd (no-some free)
puts-on (at.Toils work) act.NoMemory n fits free so = absurd (no-some free)
puts-on (at.OrdersCards pages) act.Done n fits free so = refl
puts-on (at.TakesCards taken items pages) (act.OfPage page) n fits free so =
    cards-put (is_last page) (taken + 1) (items ++ items_read (page_gives taken page)) pages
puts-on (at.TakesReport items pages) (act.OfArg report) n fits free so = refl
puts-on (at.Accepts pages) (act.OfCard answer) n fits free so = accepted-put pages answer
puts-on (at.Displays line pages) act.Done n fits free so = refl
puts-on (at.Displays line pages) act.Failed n fits free so = absurd (no-some free)
puts-on (at.Displays line pages) act.NoMemory n fits free so = absurd (no-some free)
puts-on (at.OrdersPrinter page behind) act.Done n fits free so = append-nil (lines_of (items_read (page_gives 0 page)))
puts-on (at.PutsPage page behind pages) act.Done n fits free so =
    append-nil (lines_of (items_read (page_gives pages page))) ∙ ap (λ n. lines_of (items_read (page_gives n page))) so.0
    ∙ sym (append-nil (lines_of (items_read (page_gives n page)))) ∙ sym (append-nil (lines_of (items_read (page_gives n page)) ++ []))
    ∙ ap (λ x. (lines_of (items_read (page_gives n page)) ++ []) ++ x) (sym (page-put-behind behind (suc pages)))
puts-on (at.TakesPrinted lines) (act.OfArg report) n fits free so = answers-put lines
puts-on (at.AnswersLine line later) act.Done n fits free so = answers-put later
puts-on (at.AnswersLine line later) act.Failed n fits free so = absurd (no-some free)
puts-on (at.AnswersLine line later) act.NoMemory n fits free so = absurd (no-some free)
puts-on at.DismissesInput act.Done n fits free so = refl
puts-on at.DismissesOutput act.Done n fits free so = refl
puts-on at.HasLeft act.Done n fits free so = refl
puts-on (at.OrdersCards pages) act.Stopped n fits free so = absurd (no-some free)
puts-on (at.TakesCards taken items pages) act.Stopped n fits free so = absurd (no-some free)
puts-on (at.TakesReport items pages) act.Stopped n fits free so = absurd (no-some free)
puts-on (at.OrdersPrinter page behind) act.Stopped n fits free so = absurd (no-some free)
puts-on (at.PutsPage page behind pages) act.Stopped n fits free so = absurd (no-some free)
puts-on (at.TakesPrinted lines) act.Stopped n fits free so = absurd (no-some free)
puts-on at.DismissesInput act.Stopped n fits free so = absurd (no-some free)
puts-on at.DismissesOutput act.Stopped n fits free so = absurd (no-some free)
puts-on a reply n fits free so = absurd fits

abbrev pub put_lines : List SoloEntry → List (List ℕ)
put_lines h = stream_lines 0 (moved 5 Sender (acts solo 2 h))

abbrev pub printed : List SoloEntry → List (List ℕ)
printed h = lines_of_all on_paper (needs h)

pub put-stands : (h : List SoloEntry) → Follows solo 2 h → caused view job h ≡ None → printed h ≡ put_lines h ++ to_put (place job h)
put-stands [] follows none = refl
put-stands (Does a r ∷ h) follows none =
    let before = or-none (caused view job h) _ none in
    let now = or-new (caused view job h) _ none in
    let same = does-next table 2 h a before follows.0 in
    let n = count_after 0 (moved 5 Sender (acts solo 2 h)) in
    lines-append on_paper (needs h) (need_by a r)
    ∙ joined (printed h) (put_lines h) (to_put (place job h)) (lines_of_all on_paper (need_by a r))
    (stream_lines n (moved_by 5 Sender (call 2 a) (went_by a r)))
    (to_put (job_behind (place job h) r)) (put-stands h follows.2 before)
    (subst (λ a. Fits a r → given_cause view job (place job h) a r ≡ None
    → to_put (place job h) ++ lines_of_all on_paper (need_by a r)
    ≡ stream_lines n (moved_by 5 Sender (call 2 a) (went_by a r)) ++ to_put (job_behind (place job h) r)) same
    (λ fits free. puts-on (place job h) r n fits free (job-so h follows.2 before)) follows.1 now)
    ∙ ap (λ x. x ++ to_put (job_behind (place job h) r)) (sym (stream-append 0 (moved 5 Sender (acts solo 2 h)) (moved_by 5 Sender (call 2 a) (went_by a r))))
put-stands (LacksMemory a r ∷ h) follows none = absurd (lacking-some (caused view job h) _ none)
put-stands (Delays a ∷ h) follows none =
    put-stands h follows.2 none ∙ ap (λ x. x ++ to_put (place job h)) (sym (
    ap (λ more. stream_lines 0 (moved 5 Sender (acts solo 2 h) ++ more)) (none-delayed 5 Sender (call 2 a))
    ∙ ap (stream_lines 0) (append-nil (moved 5 Sender (acts solo 2 h)))))

-- ---- with a cause too, they are the first part of what the needs print
pub record PutFirst (h : List SoloEntry) : Type 0 where
  pub later : List (List ℕ)
  pub is : printed h ≡ put_lines h ++ later

still-first : (entry : SoloEntry) (h : List SoloEntry) → moved_by 5 Sender (job.calls (action_of entry)) (went view entry) ≡ [] → PutFirst h
    → PutFirst (entry ∷ h)
still-first entry h none first =
    let (more, grown) = needs-grow on_paper entry h in
    let same : put_lines h ≡ put_lines (entry ∷ h) =
    ap (stream_lines 0) (sym (append-nil (moved 5 Sender (acts solo 2 h))) ∙ ap (λ x. moved 5 Sender (acts solo 2 h) ++ x) (sym none)) in
    record {
      later = first.later ++ more;
      is = grown ∙ ap (λ x. x ++ more) first.is ∙ append_assoc (put_lines h) first.later more ∙ ap (λ x. x ++ (first.later ++ more)) same;
    }

-- an answer that is a cause moves no page
fault-moves_not : (a : JobPlace) (reply : Reply) (how : Outcome) → Fits (job_does a) reply → given_cause view job a (job_does a) reply ≡ Some how
    → moved_by 5 Sender (call 2 (job_does a)) (went_by (job_does a) reply) ≡ []
fault-moves_not at.Listens (act.OfCard answer) how fits e = refl
fault-moves_not (at.Toils work) (act.Found need) how fits e = refl
fault-moves_not (at.Toils work) act.Failed how fits e = refl
fault-moves_not (at.Toils work) act.NoMemory how fits e = refl
fault-moves_not (at.OrdersCards pages) act.Done how fits e = refl
fault-moves_not (at.TakesCards taken items pages) (act.OfPage page) how fits e = refl
fault-moves_not (at.TakesReport items pages) (act.OfArg report) how fits e = refl
fault-moves_not (at.Accepts pages) (act.OfCard answer) how fits e = refl
fault-moves_not (at.Displays line pages) act.Done how fits e = refl
fault-moves_not (at.Displays line pages) act.Failed how fits e = refl
fault-moves_not (at.Displays line pages) act.NoMemory how fits e = refl
fault-moves_not (at.OrdersPrinter page behind) act.Done how fits e = refl
fault-moves_not (at.PutsPage page behind pages) act.Done how fits e = absurd (no-none e)
fault-moves_not (at.TakesPrinted lines) (act.OfArg report) how fits e = refl
fault-moves_not (at.AnswersLine line later) act.Done how fits e = refl
fault-moves_not (at.AnswersLine line later) act.Failed how fits e = refl
fault-moves_not (at.AnswersLine line later) act.NoMemory how fits e = refl
fault-moves_not at.DismissesInput act.Done how fits e = refl
fault-moves_not at.DismissesOutput act.Done how fits e = refl
fault-moves_not at.HasLeft act.Done how fits e = refl
fault-moves_not (at.OrdersCards pages) act.Stopped how fits e = refl
fault-moves_not (at.TakesCards taken items pages) act.Stopped how fits e = refl
fault-moves_not (at.TakesReport items pages) act.Stopped how fits e = refl
fault-moves_not (at.OrdersPrinter page behind) act.Stopped how fits e = refl
fault-moves_not (at.PutsPage page behind pages) act.Stopped how fits e = refl
fault-moves_not (at.TakesPrinted lines) act.Stopped how fits e = refl
fault-moves_not at.DismissesInput act.Stopped how fits e = refl
fault-moves_not at.DismissesOutput act.Stopped how fits e = refl
fault-moves_not a reply how fits e = absurd fits

stop-moves_not : (b : ℕ) (reply : Reply) → moved_by 5 Sender (call 2 (act.Stop b)) (went_by (act.Stop b) reply) ≡ []
stop-moves_not b act.Stopped = refl
stop-moves_not b reply = refl

and-false : (t : Bool) → (t && false) ≡ false
and-false true = refl
and-false false = refl

lack-moves_not : (a : Action) (reply : Reply) → MayLack a reply → moved_by 5 Sender (call 2 a) (went_by a reply) ≡ []
lack-moves_not (act.TakePage b) (act.OfPage page) may = ap (λ t. if_at t (OfPage page)) (and-false (5 == b))
lack-moves_not a reply may = absurd may

does-first : (a : Action) (r : Reply) (h : List SoloEntry) (new : Option Outcome) → Follows solo 2 (Does a r ∷ h)
    → given_cause view job (place job h) a r ≡ new → Shape table 2 h (caused view job h) a → PutFirst h → PutFirst (Does a r ∷ h)
does-first a r h None follows e (AtPlace free same) first =
    let none = ap (λ old. or_new old (given_cause view job (place job h) a r)) free ∙ e in
    record { later = to_put (job_behind (place job h) r); is = put-stands (Does a r ∷ h) follows none }
does-first a r h (Some how) follows e (AtPlace free same) first =
    still-first (Does a r) h (subst (λ a. moved_by 5 Sender (call 2 a) (went_by a r) ≡ []) (sym same)
    (fault-moves_not (place job h) r how (subst (λ a. Fits a r) same follows.1) (subst (λ a. given_cause view job (place job h) a r ≡ Some how) same e))) first
does-first a r h new follows e (Stopping b stop) first =
    still-first (Does a r) h (subst (λ a. moved_by 5 Sender (call 2 a) (went_by a r) ≡ []) (sym stop.is) (stop-moves_not b r)) first
does-first a r h new follows e (Ending end) first =
    still-first (Does a r) h (subst (λ a. moved_by 5 Sender (call 2 a) (went_by a r) ≡ []) (sym end.is) refl) first

pub put-first : (h : List SoloEntry) → Follows solo 2 h → PutFirst h
put-first [] follows = record { later = []; is = refl }
put-first (Does a r ∷ h) follows =
    does-first a r h (given_cause view job (place job h) a r) follows refl (next-shape table placed 2 h a is-2 follows.0) (put-first h follows.2)
put-first (LacksMemory a r ∷ h) follows = still-first (LacksMemory a r) h (lack-moves_not a r follows.1.1) (put-first h follows.2)
put-first (Delays a ∷ h) follows = still-first (Delays a) h (none-delayed 5 Sender (call 2 a)) (put-first h follows.2)
