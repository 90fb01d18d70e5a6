-- How far the job process is in its exchanges with the input and the output process, by its place.
use Rattle.std.proofs.Common.{◌≡◌, ℕ, zero, suc, ◌+◌, Bool, true, false, List, [], ◌∷◌, ◌++◌, length, None, refl, sym, subst}
use Rattle.solo_base.specs.Blanks.{trimmed}
use Rattle.solo_base.specs.declared.item.Item.{Item}
use Rattle.solo_base.specs.declared.page.Page.{Page}
use Rattle.solo_base.specs.declared.outcome.Side.TheVariants.{Sender, Receiver}
use Rattle.solo_devices.specs.declared.card_read.CardRead.{CardRead}
use Rattle.solo_devices.specs.declared.card_read.CardRead.TheVariants as read
use Rattle.network_law.specs.Network.{Follows, acts}
use Rattle.exchange_law.specs.Pages.{is_last, page_with, page_gives, items_read}
use Rattle.exchange_law.specs.Parcels.{mark}
use Rattle.exchange_law.specs.Phases.{trues, falses, Phase, Idle, Moving, Reporting, Left, PhaseIs, phase_behind}
use Rattle.exchange_law.proofs.Counted.{marks_at, marks_by}
use Rattle.solo_law.proofs.Counted.{counted}
use Rattle.exchange_law.proofs.Lines.{marked-with}
use Rattle.exchange_law.proofs.Phases.{stays, orders, dismisses, ends_pages, reports, moves, as_phase}
use Rattle.place_law.specs.Process.{place, caused, given_cause}
use Rattle.solo_law.specs.Work.{Need, CardsNeeded, LineNeeded, DisplayNeeded, PageNeeded, EndNeeded}
use Rattle.solo_law.specs.Actions.{Reply}
use Rattle.solo_law.specs.Actions as act
use Rattle.solo_law.specs.Buffers.{call, went_by}
use Rattle.solo_law.specs.Replies.{Fits, view}
use Rattle.solo_law.specs.JobPlaces.{JobPlace, Behind, GoesOn, EndsWith, job_does, job_behind, answers, puts_page, meets, begins_with, behind_typed, behind_accepted, behind_cards, behind_put, job}
use Rattle.solo_law.specs.JobPlaces as at
use Rattle.solo_law.specs.Solo.{table, solo, SoloEntry}
use Rattle.solo_law.proofs.Nones.{no-some}

-- ---- job, towards input
abbrev pub in_phase : JobPlace → Phase
in_phase (at.TakesCards taken items pages) = Moving
in_phase (at.TakesReport items pages) = Reporting
in_phase at.DismissesOutput = Left
in_phase at.HasLeft = Left
in_phase other = Idle

abbrev pub JobIn : JobPlace → ℕ → ℕ → ℕ → ℕ → Type 0
JobIn a o d l n = PhaseIs (in_phase a) o d l n

pub answers-in : (lines : List (List ℕ)) → Idle ≡ in_phase (answers lines)
answers-in [] = refl
answers-in (line ∷ later) = refl

puts-in : (pages : ℕ) (page : Page) (behind : Behind) → Idle ≡ in_phase (puts_page pages page behind)
puts-in zero page behind = refl
puts-in (suc pages) page behind = refl

pub meets-in : (pages : ℕ) (need : Need) → Idle ≡ in_phase (meets pages need)
meets-in pages CardsNeeded = refl
meets-in pages LineNeeded = refl
meets-in pages (DisplayNeeded line) = refl
meets-in pages (PageNeeded printed) = puts-in pages (page_with pages false printed) GoesOn
meets-in zero (EndNeeded [] lines) = answers-in lines
meets-in zero (EndNeeded (line ∷ printed) lines) = refl
meets-in (suc pages) (EndNeeded printed lines) = refl

begins-in : (rest line : List ℕ) → Idle ≡ in_phase (begins_with rest line)
begins-in [] line = refl
begins-in (code ∷ rest) line = refl

pub typed-in : (answer : CardRead) → Idle ≡ in_phase (behind_typed answer)
typed-in (read.Card line) = begins-in (trimmed line) line
typed-in read.Spoiled = refl
typed-in read.End = refl
typed-in other = refl

pub accepted-in : (pages : ℕ) (answer : CardRead) → Idle ≡ in_phase (behind_accepted pages answer)
accepted-in pages (read.Card line) = refl
accepted-in pages read.Spoiled = refl
accepted-in pages read.End = refl
accepted-in pages other = refl

pub put-in : (behind : Behind) (pages : ℕ) → Idle ≡ in_phase (behind_put behind pages)
put-in GoesOn pages = refl
put-in (EndsWith lines) pages = refl

cards-in : (last : Bool) (taken : ℕ) (items : List Item) (pages : ℕ) → phase_behind last ≡ in_phase (behind_cards last taken items pages)
cards-in true taken items pages = refl
cards-in false taken items pages = refl

idle_as : (a : JobPlace) (o d l n : ℕ) → Idle ≡ in_phase a → PhaseIs Idle o d l n → JobIn a (o + 0) (d + 0) (l + 0) (n + 0)
idle_as a o d l n e is = as_phase Idle (in_phase a) (o + 0) (d + 0) (l + 0) (n + 0) e (stays Idle o d l n is)

in-step : (a : JobPlace) (reply : Reply) (o d l n : ℕ) → Fits (job_does a) reply → given_cause view job a (job_does a) reply ≡ None → JobIn a o d l n
    → JobIn (job_behind a reply) (o + falses (marks_by mark 1 Sender (call 2 (job_does a)) (went_by (job_does a) reply)))
    (d + trues (marks_by mark 1 Sender (call 2 (job_does a)) (went_by (job_does a) reply)))
    (l + trues (marks_by mark 2 Receiver (call 2 (job_does a)) (went_by (job_does a) reply)))
    (n + length (marks_by mark 3 Receiver (call 2 (job_does a)) (went_by (job_does a) reply)))
in-step at.Listens (act.OfCard answer) o d l n fits free is = idle_as (behind_typed answer) o d l n (typed-in answer) is
in-step (at.Toils work) (act.Found need) o d l n fits free is = idle_as (meets work.pages need) o d l n (meets-in work.pages need) is
in-step (at.Toils work) act.Failed o d l n fits free is = absurd (no-some free)
in-step (at.Toils work) act.NoMemory o d l n fits free is = absurd (no-some free)
in-step (at.OrdersCards pages) act.Done o d l n fits free is = orders o d l n is
in-step (at.OrdersCards pages) act.Stopped o d l n fits free is = absurd (no-some free)
in-step (at.TakesCards taken items pages) (act.OfPage page) o d l n fits cause is =
    as_phase (phase_behind (is_last page)) (in_phase (behind_cards (is_last page) (taken + 1) (items ++ items_read (page_gives taken page)) pages)) (o + 0)
    (d + 0)
    (l + trues (is_last page ∷ [])) (n + 0) (cards-in (is_last page) (taken + 1) (items ++ items_read (page_gives taken page)) pages)
    (moves (is_last page) o d l n is)
in-step (at.TakesCards taken items pages) act.Stopped o d l n fits free is = absurd (no-some free)
in-step (at.TakesReport items pages) (act.OfArg report) o d l n fits free is = reports o d l n is
in-step (at.TakesReport items pages) act.Stopped o d l n fits free is = absurd (no-some free)
in-step (at.Accepts pages) (act.OfCard answer) o d l n fits free is = idle_as (behind_accepted pages answer) o d l n (accepted-in pages answer) is
in-step (at.Displays line pages) act.Done o d l n fits free is = stays Idle o d l n is
in-step (at.Displays line pages) act.Failed o d l n fits free is = absurd (no-some free)
in-step (at.Displays line pages) act.NoMemory o d l n fits free is = absurd (no-some free)
in-step (at.OrdersPrinter page behind) act.Done o d l n fits free is = stays Idle o d l n is
in-step (at.OrdersPrinter page behind) act.Stopped o d l n fits free is = absurd (no-some free)
in-step (at.PutsPage page behind pages) act.Done o d l n fits free is = idle_as (behind_put behind (suc pages)) o d l n (put-in behind (suc pages)) is
in-step (at.PutsPage page behind pages) act.Stopped o d l n fits free is = absurd (no-some free)
in-step (at.TakesPrinted lines) (act.OfArg report) o d l n fits free is = idle_as (answers lines) o d l n (answers-in lines) is
in-step (at.TakesPrinted lines) act.Stopped o d l n fits free is = absurd (no-some free)
in-step (at.AnswersLine line later) act.Done o d l n fits free is = idle_as (answers later) o d l n (answers-in later) is
in-step (at.AnswersLine line later) act.Failed o d l n fits free is = absurd (no-some free)
in-step (at.AnswersLine line later) act.NoMemory o d l n fits free is = absurd (no-some free)
in-step at.DismissesInput act.Done o d l n fits free is = dismisses o d l n is
in-step at.DismissesInput act.Stopped o d l n fits free is = absurd (no-some free)
in-step at.DismissesOutput act.Done o d l n fits free is = stays Left o d l n is
in-step at.DismissesOutput act.Stopped o d l n fits free is = absurd (no-some free)
in-step at.HasLeft act.Done o d l n fits free is = stays Left o d l n is
in-step a reply o d l n fits free is = absurd fits

pub job-in : (h : List SoloEntry) → Follows solo 2 h → caused view job h ≡ None
    → JobIn (place job h) (falses (marks_at mark 1 Sender (acts solo 2 h))) (trues (marks_at mark 1 Sender (acts solo 2 h)))
    (trues (marks_at mark 2 Receiver (acts solo 2 h))) (length (marks_at mark 3 Receiver (acts solo 2 h)))
job-in h follows none = counted table 2 1 2 3 Sender Receiver Receiver JobIn (refl, refl, refl) in-step h follows none

-- ---- job, towards output
abbrev pub by_pages : ℕ → Phase
by_pages zero = Idle
by_pages (suc pages) = Moving

abbrev pub out_phase : JobPlace → Phase
out_phase (at.Toils work) = by_pages work.pages
out_phase (at.OrdersCards pages) = by_pages pages
out_phase (at.TakesCards taken items pages) = by_pages pages
out_phase (at.TakesReport items pages) = by_pages pages
out_phase (at.Accepts pages) = by_pages pages
out_phase (at.Displays line pages) = by_pages pages
out_phase (at.PutsPage page behind pages) = Moving
out_phase (at.TakesPrinted lines) = Reporting
out_phase at.HasLeft = Left
out_phase other = Idle

abbrev pub MarkedBy : Page → Behind → Type 0
MarkedBy page GoesOn = is_last page ≡ false
MarkedBy page (EndsWith lines) = is_last page ≡ true

abbrev pub JobProper : JobPlace → Type 0
JobProper (at.OrdersPrinter page behind) = MarkedBy page behind
JobProper (at.PutsPage page behind pages) = MarkedBy page behind
JobProper other = Unit {0}

abbrev pub JobOut : JobPlace → ℕ → ℕ → ℕ → ℕ → Type 0
JobOut a o d l n = JobProper a × PhaseIs (out_phase a) o d l n

-- a place with this phase, at which a page is marked rightly
abbrev IsAt : Phase → JobPlace → Type 0
IsAt phase a = JobProper a × (phase ≡ out_phase a)

at_as : (phase : Phase) (a : JobPlace) (o d l n : ℕ) → IsAt phase a → PhaseIs phase o d l n → JobOut a (o + 0) (d + 0) (l + 0) (n + 0)
at_as phase a o d l n e is = (e.0, as_phase phase (out_phase a) (o + 0) (d + 0) (l + 0) (n + 0) e.1 (stays phase o d l n is))

answers-out : (lines : List (List ℕ)) → IsAt Idle (answers lines)
answers-out [] = (tt, refl)
answers-out (line ∷ later) = (tt, refl)

puts-out : (pages : ℕ) (page : Page) (behind : Behind) → MarkedBy page behind → IsAt (by_pages pages) (puts_page pages page behind)
puts-out zero page behind is = (is, refl)
puts-out (suc pages) page behind is = (is, refl)

meets-out : (pages : ℕ) (need : Need) → IsAt (by_pages pages) (meets pages need)
meets-out pages CardsNeeded = (tt, refl)
meets-out pages LineNeeded = (tt, refl)
meets-out pages (DisplayNeeded line) = (tt, refl)
meets-out pages (PageNeeded printed) =
    puts-out pages (page_with pages false printed) GoesOn (marked-with pages false printed)
meets-out zero (EndNeeded [] lines) = answers-out lines
meets-out zero (EndNeeded (line ∷ printed) lines) =
    puts-out zero (page_with zero true (line ∷ printed)) (EndsWith lines) (marked-with zero true (line ∷ printed))
meets-out (suc pages) (EndNeeded printed lines) =
    puts-out (suc pages) (page_with (suc pages) true printed) (EndsWith lines) (marked-with (suc pages) true printed)

begins-out : (rest line : List ℕ) → IsAt Idle (begins_with rest line)
begins-out [] line = (tt, refl)
begins-out (code ∷ rest) line = (tt, refl)

typed-out : (answer : CardRead) → IsAt Idle (behind_typed answer)
typed-out (read.Card line) = begins-out (trimmed line) line
typed-out read.Spoiled = (tt, refl)
typed-out read.End = (tt, refl)
typed-out other = (tt, refl)

accepted-out : (pages : ℕ) (answer : CardRead) → IsAt (by_pages pages) (behind_accepted pages answer)
accepted-out pages (read.Card line) = (tt, refl)
accepted-out pages read.Spoiled = (tt, refl)
accepted-out pages read.End = (tt, refl)
accepted-out pages other = (tt, refl)

cards-out : (last : Bool) (taken : ℕ) (items : List Item) (pages : ℕ) → IsAt (by_pages pages) (behind_cards last taken items pages)
cards-out true taken items pages = (tt, refl)
cards-out false taken items pages = (tt, refl)

put-out : (page : Page) (behind : Behind) (pages o d l n : ℕ) → MarkedBy page behind → PhaseIs Moving o d l n
    → JobOut (behind_put behind (suc pages)) (o + 0) (d + 0) (l + trues (is_last page ∷ [])) (n + 0)
put-out page GoesOn pages o d l n marks is =
    (tt, subst (λ t. PhaseIs Moving (o + 0) (d + 0) (l + trues (t ∷ [])) (n + 0)) (sym marks) (stays Moving o d l n is))
put-out page (EndsWith lines) pages o d l n marks is =
    (tt, subst (λ t. PhaseIs Reporting (o + 0) (d + 0) (l + trues (t ∷ [])) (n + 0)) (sym marks) (ends_pages o d l n is))

report-out : (lines : List (List ℕ)) (o d l n : ℕ) → PhaseIs Reporting o d l n → JobOut (answers lines) (o + 0) (d + 0) (l + 0) (n + 1)
report-out lines o d l n is =
    ((answers-out lines).0, as_phase Idle (out_phase (answers lines)) (o + 0) (d + 0) (l + 0) (n + 1) (answers-out lines).1 (reports o d l n is))

out-step : (a : JobPlace) (reply : Reply) (o d l n : ℕ) → Fits (job_does a) reply → given_cause view job a (job_does a) reply ≡ None → JobOut a o d l n
    → JobOut (job_behind a reply) (o + falses (marks_by mark 4 Sender (call 2 (job_does a)) (went_by (job_does a) reply)))
    (d + trues (marks_by mark 4 Sender (call 2 (job_does a)) (went_by (job_does a) reply)))
    (l + trues (marks_by mark 5 Sender (call 2 (job_does a)) (went_by (job_does a) reply)))
    (n + length (marks_by mark 6 Receiver (call 2 (job_does a)) (went_by (job_does a) reply)))
out-step at.Listens (act.OfCard answer) o d l n fits free is = at_as Idle (behind_typed answer) o d l n (typed-out answer) is.1
out-step (at.Toils work) (act.Found need) o d l n fits free is = at_as (by_pages work.pages) (meets work.pages need) o d l n (meets-out work.pages need) is.1
out-step (at.Toils work) act.Failed o d l n fits free is = absurd (no-some free)
out-step (at.Toils work) act.NoMemory o d l n fits free is = absurd (no-some free)
out-step (at.OrdersCards pages) act.Done o d l n fits free is = (tt, stays (by_pages pages) o d l n is.1)
out-step (at.OrdersCards pages) act.Stopped o d l n fits free is = absurd (no-some free)
out-step (at.TakesCards taken items pages) (act.OfPage page) o d l n fits cause is =
    at_as (by_pages pages) (behind_cards (is_last page) (taken + 1) (items ++ items_read (page_gives taken page)) pages) o d l n
    (cards-out (is_last page) (taken + 1) (items ++ items_read (page_gives taken page)) pages) is.1
out-step (at.TakesCards taken items pages) act.Stopped o d l n fits free is = absurd (no-some free)
out-step (at.TakesReport items pages) (act.OfArg report) o d l n fits free is = (tt, stays (by_pages pages) o d l n is.1)
out-step (at.TakesReport items pages) act.Stopped o d l n fits free is = absurd (no-some free)
out-step (at.Accepts pages) (act.OfCard answer) o d l n fits free is =
    at_as (by_pages pages) (behind_accepted pages answer) o d l n (accepted-out pages answer) is.1
out-step (at.Displays line pages) act.Done o d l n fits free is = (tt, stays (by_pages pages) o d l n is.1)
out-step (at.Displays line pages) act.Failed o d l n fits free is = absurd (no-some free)
out-step (at.Displays line pages) act.NoMemory o d l n fits free is = absurd (no-some free)
out-step (at.OrdersPrinter page behind) act.Done o d l n fits free is = (is.0, orders o d l n is.1)
out-step (at.OrdersPrinter page behind) act.Stopped o d l n fits free is = absurd (no-some free)
out-step (at.PutsPage page behind pages) act.Done o d l n fits free is = put-out page behind pages o d l n is.0 is.1
out-step (at.PutsPage page behind pages) act.Stopped o d l n fits free is = absurd (no-some free)
out-step (at.TakesPrinted lines) (act.OfArg report) o d l n fits free is = report-out lines o d l n is.1
out-step (at.TakesPrinted lines) act.Stopped o d l n fits free is = absurd (no-some free)
out-step (at.AnswersLine line later) act.Done o d l n fits free is = at_as Idle (answers later) o d l n (answers-out later) is.1
out-step (at.AnswersLine line later) act.Failed o d l n fits free is = absurd (no-some free)
out-step (at.AnswersLine line later) act.NoMemory o d l n fits free is = absurd (no-some free)
out-step at.DismissesInput act.Done o d l n fits free is = (tt, stays Idle o d l n is.1)
out-step at.DismissesInput act.Stopped o d l n fits free is = absurd (no-some free)
out-step at.DismissesOutput act.Done o d l n fits free is = (tt, dismisses o d l n is.1)
out-step at.DismissesOutput act.Stopped o d l n fits free is = absurd (no-some free)
out-step at.HasLeft act.Done o d l n fits free is = (tt, stays Left o d l n is.1)
out-step a reply o d l n fits free is = absurd fits

pub job-out : (h : List SoloEntry) → Follows solo 2 h → caused view job h ≡ None
    → JobOut (place job h) (falses (marks_at mark 4 Sender (acts solo 2 h))) (trues (marks_at mark 4 Sender (acts solo 2 h)))
    (trues (marks_at mark 5 Sender (acts solo 2 h))) (length (marks_at mark 6 Receiver (acts solo 2 h)))
job-out h follows none = counted table 2 4 5 6 Sender Sender Receiver JobOut (tt, (refl, refl, refl)) out-step h follows none
