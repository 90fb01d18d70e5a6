-- Which fault each process of Solo may have: none has a page out of form.
use Rattle.std.proofs.Common.{◌≡◌, inl, inr, ℕ, zero, suc, ◌+◌, Bool, true, false, List, [], ◌∷◌, ◌++◌, Option, None, Some, refl, sym, ◌∙◌, ap, subst, arith}
use Rattle.std.proofs.lemmas.List.{append-nil}
use Rattle.solo_base.specs.Blanks.{trimmed}
use Rattle.solo_base.specs.declared.item.Item.{Item}
use Rattle.solo_base.specs.declared.page.Page.{Page}
use Rattle.solo_base.specs.declared.outcome.Side.TheVariants.{Sender, Receiver}
use Rattle.solo_base.specs.declared.outcome.Outcome.{Outcome}
use Rattle.solo_base.specs.declared.outcome.Outcome.TheVariants as outcome
use Rattle.solo_base.specs.declared.outcome.Cause.{Cause}
use Rattle.solo_base.specs.declared.outcome.Cause.TheVariants as cause
use Rattle.solo_base.specs.declared.system_call.Arg.TheVariants as arg
use Rattle.solo_devices.specs.declared.card_read.CardRead.{CardRead}
use Rattle.solo_devices.specs.declared.card_read.CardRead.TheVariants as read
use Rattle.network_law.specs.Acts.{Act, Call, Delayed, moved, moved_by}
use Rattle.network_law.specs.Network.{Follows, acts}
use Rattle.network_law.specs.Kept.{IsTold, Stands, passed}
use Rattle.exchange_law.specs.Pages.{is_last, page_gives, items_read, lines_of, damage}
use Rattle.exchange_law.specs.Parcels.{Parcel, OfPage, count_behind, count_after, AreNumbered}
use Rattle.exchange_law.proofs.Counted.{none-delayed}
use Rattle.exchange_law.proofs.Streams.{count-append, numbered-front, next-undamaged}
use Rattle.place_law.specs.Process.{place, caused, given_cause, fault_in}
use Rattle.place_law.proofs.Moved.{moved-so, each-cause}
use Rattle.place_law.proofs.Given.{given-by}
use Rattle.solo_law.specs.Work.{Need, CardsNeeded, LineNeeded, DisplayNeeded, PageNeeded, EndNeeded}
use Rattle.solo_law.specs.Actions.{Reply}
use Rattle.solo_law.specs.Actions as act
use Rattle.solo_law.specs.Buffers.{call, went_by}
use Rattle.solo_law.specs.Replies.{Fits, view}
use Rattle.solo_law.specs.InputPlaces.{InputPlace, input_does, input}
use Rattle.solo_law.specs.InputPlaces as input_at
use Rattle.solo_law.specs.OutputPlaces.{OutputPlace, output_does, output_behind, prints, output}
use Rattle.solo_law.specs.OutputPlaces as output_at
use Rattle.solo_law.specs.JobPlaces.{JobPlace, Behind, GoesOn, EndsWith, job_does, job_behind, answers, puts_page, ends, meets, begins_with, behind_typed, behind_accepted, behind_cards, behind_put, job}
use Rattle.solo_law.specs.JobPlaces as at
use Rattle.solo_law.specs.Solo.{process, table, solo, SoloState, SoloEntry}
use Rattle.solo_law.specs.Holds.{IsAmong, HaveCauses}
use Rattle.solo_law.proofs.Placed.{is-1, is-2, is-3, placed}
use Rattle.solo_law.proofs.Numbered.{AllNumbered, input-numbered, job-numbered}
use Rattle.solo_law.proofs.Nones.{no-none, no-some}

-- a fault that is one of these
abbrev IsFaultOf : List Cause → Outcome → Type 0
IsFaultOf causes (outcome.Fault c) = IsAmong c causes
IsFaultOf causes other = Unit {0}

by-same : (causes : List Cause) (why how : Outcome) → IsFaultOf causes why → Some why ≡ Some how → IsFaultOf causes how
by-same causes why how is e = subst (IsFaultOf causes) (same e) is where
  same : Some why ≡ Some how → why ≡ how
  same e = cc

-- ---- input
abbrev input_faults : List Cause
input_faults = cause.ReadFault ∷ cause.DeckLimit ∷ []

input-gives : (a : InputPlace) (reply : Reply) (how : Outcome) → Fits (input_does a) reply → given_cause view input a (input_does a) reply ≡ Some how
    → IsFaultOf input_faults how
input-gives (input_at.Reads pages hand sound) (act.OfCard read.Failed) how fits e = by-same input_faults (outcome.Fault cause.ReadFault) how (inl refl) e
input-gives (input_at.Reads pages hand sound) (act.OfCard read.Limit) how fits e = by-same input_faults (outcome.Fault cause.DeckLimit) how (inr (inl refl)) e
input-gives (input_at.Reads pages hand sound) (act.OfCard (read.Card line)) how fits e = absurd (no-none e)
input-gives (input_at.Reads pages hand sound) (act.OfCard read.Spoiled) how fits e = absurd (no-none e)
input-gives (input_at.Reads pages hand sound) (act.OfCard read.End) how fits e = absurd (no-none e)
input-gives a act.Stopped how fits e = by-same input_faults outcome.Stopped how tt e
input-gives input_at.AwaitsOrder (act.OfArg x) how fits e = absurd (no-none e)
input-gives (input_at.PutsFull page pages hand) act.Done how fits e = absurd (no-none e)
input-gives (input_at.PutsLast page sound) act.Done how fits e = absurd (no-none e)
input-gives (input_at.Reports sound) act.Done how fits e = absurd (no-none e)
input-gives input_at.IsOver act.Done how fits e = absurd (no-none e)
input-gives a reply how fits e = absurd fits

pub input-causes : (h : List SoloEntry) (how : Outcome) → Follows solo 1 h → caused view input h ≡ Some how → IsFaultOf input_faults how
input-causes h how follows e =
    each-cause table 1 (λ a before. Unit {0}) tt (λ a reply before fits free is. tt) (λ a c before is. tt) placed is-1 (λ before. Unit {0})
    (IsFaultOf input_faults) (λ act before all. tt) (λ a reply how before fits is all e. input-gives a reply how fits e) (λ e. absurd cc) h how follows tt e

-- ---- how many pages of its stream a process has taken
count-still : (So : ℕ → Type 0) (parcels : List Parcel) → So (count_after 0 parcels) → So (count_after 0 (parcels ++ []))
count-still So parcels is = subst (λ parcels. So (count_after 0 parcels)) (sym (append-nil parcels)) is

count-delayed : (So : ℕ → Type 0) (b : ℕ) (c : Call) (before : List (Act Parcel)) → So (count_after 0 (moved b Receiver before))
    → So (count_after 0 (moved b Receiver (record { call = c; went = Delayed } ∷ before)))
count-delayed So b c before is =
    subst (λ more. So (count_after 0 (moved b Receiver before ++ more))) (sym (none-delayed b Receiver c)) (count-still So (moved b Receiver before) is)

count-page : (So : ℕ → Type 0) (parcels : List Parcel) (page : Page) → So (count_behind (is_last page) (count_after 0 parcels))
    → So (count_after 0 (parcels ++ OfPage page ∷ []))
count-page So parcels page is = subst So (sym (count-append 0 parcels (OfPage page ∷ []))) is

one-more : (n m : ℕ) → n ≡ m → n + 1 ≡ suc m
one-more n m e = omega (arith, e)

-- ---- job
abbrev JobTakes : JobPlace → ℕ → Type 0
JobTakes (at.TakesCards taken items pages) n = taken ≡ n
JobTakes other n = 0 ≡ n

answers-none : (lines : List (List ℕ)) (n : ℕ) → 0 ≡ n → JobTakes (answers lines) n
answers-none [] n e = e
answers-none (line ∷ later) n e = e

puts-none : (pages : ℕ) (page : Page) (behind : Behind) (n : ℕ) → 0 ≡ n → JobTakes (puts_page pages page behind) n
puts-none zero page behind n e = e
puts-none (suc pages) page behind n e = e

meets-none : (pages : ℕ) (need : Need) (n : ℕ) → 0 ≡ n → JobTakes (meets pages need) n
meets-none pages CardsNeeded n e = e
meets-none pages LineNeeded n e = e
meets-none pages (DisplayNeeded line) n e = e
meets-none pages (PageNeeded printed) n e = puts-none pages _ GoesOn n e
meets-none zero (EndNeeded [] lines) n e = answers-none lines n e
meets-none zero (EndNeeded (line ∷ printed) lines) n e = e
meets-none (suc pages) (EndNeeded printed lines) n e = e

typed-none : (answer : CardRead) (n : ℕ) → 0 ≡ n → JobTakes (behind_typed answer) n
typed-none (read.Card line) n e = begins (trimmed line) where
  begins : (rest : List ℕ) → JobTakes (begins_with rest line) n
  begins [] = e
  begins (code ∷ rest) = e
typed-none read.Spoiled n e = e
typed-none read.End n e = e
typed-none other n e = e

accepted-none : (pages : ℕ) (answer : CardRead) (n : ℕ) → 0 ≡ n → JobTakes (behind_accepted pages answer) n
accepted-none pages (read.Card line) n e = e
accepted-none pages read.Spoiled n e = e
accepted-none pages read.End n e = e
accepted-none pages other n e = e

put-none : (behind : Behind) (pages n : ℕ) → 0 ≡ n → JobTakes (behind_put behind pages) n
put-none GoesOn pages n e = e
put-none (EndsWith lines) pages n e = e

cards-taken : (last : Bool) (taken : ℕ) (items : List Item) (pages n : ℕ) → taken ≡ n
    → JobTakes (behind_cards last (taken + 1) items pages) (count_behind last n)
cards-taken true taken items pages n e = refl
cards-taken false taken items pages n e = one-more taken n e

job-takes : (a : JobPlace) (reply : Reply) (parcels : List Parcel) → Fits (job_does a) reply → given_cause view job a (job_does a) reply ≡ None
    → JobTakes a (count_after 0 parcels)
    → JobTakes (job_behind a reply) (count_after 0 (parcels ++ moved_by 2 Receiver (call 2 (job_does a)) (went_by (job_does a) reply)))
job-takes at.Listens (act.OfCard answer) parcels fits free e = count-still (JobTakes (behind_typed answer)) parcels (typed-none answer _ e)
job-takes (at.Toils work) (act.Found need) parcels fits free e = count-still (JobTakes (meets work.pages need)) parcels (meets-none work.pages need _ e)
job-takes (at.Toils work) act.Failed parcels fits free e = absurd (no-some free)
job-takes (at.Toils work) act.NoMemory parcels fits free e = absurd (no-some free)
job-takes (at.OrdersCards pages) act.Done parcels fits free e = count-still (λ n. 0 ≡ n) parcels e
job-takes (at.TakesCards taken items pages) (act.OfPage page) parcels fits free e =
    count-page (JobTakes (behind_cards (is_last page) (taken + 1) (items ++ items_read (page_gives taken page)) pages)) parcels page
    (cards-taken (is_last page) taken (items ++ items_read (page_gives taken page)) pages (count_after 0 parcels) e)
job-takes (at.TakesReport items pages) (act.OfArg (arg.Bool true)) parcels fits free e = count-still (λ n. 0 ≡ n) parcels e
job-takes (at.TakesReport items pages) (act.OfArg report) parcels fits free e = count-still (λ n. 0 ≡ n) parcels e
job-takes (at.Accepts pages) (act.OfCard answer) parcels fits free e =
    count-still (JobTakes (behind_accepted pages answer)) parcels (accepted-none pages answer _ e)
job-takes (at.Displays line pages) act.Done parcels fits free e = count-still (λ n. 0 ≡ n) parcels e
job-takes (at.Displays line pages) act.Failed parcels fits free e = absurd (no-some free)
job-takes (at.Displays line pages) act.NoMemory parcels fits free e = absurd (no-some free)
job-takes (at.OrdersPrinter page behind) act.Done parcels fits free e = count-still (λ n. 0 ≡ n) parcels e
job-takes (at.PutsPage page behind pages) act.Done parcels fits free e =
    count-still (JobTakes (behind_put behind (suc pages))) parcels (put-none behind (suc pages) _ e)
job-takes (at.TakesPrinted lines) (act.OfArg report) parcels fits free e = count-still (JobTakes (answers lines)) parcels (answers-none lines _ e)
job-takes (at.AnswersLine line later) act.Done parcels fits free e = count-still (JobTakes (answers later)) parcels (answers-none later _ e)
job-takes (at.AnswersLine line later) act.Failed parcels fits free e = absurd (no-some free)
job-takes (at.AnswersLine line later) act.NoMemory parcels fits free e = absurd (no-some free)
job-takes at.DismissesInput act.Done parcels fits free e = count-still (λ n. 0 ≡ n) parcels e
job-takes at.DismissesOutput act.Done parcels fits free e = count-still (λ n. 0 ≡ n) parcels e
job-takes at.HasLeft act.Done parcels fits free e = count-still (λ n. 0 ≡ n) parcels e
job-takes (at.OrdersCards pages) act.Stopped parcels fits free e = absurd (no-some free)
job-takes (at.TakesCards taken items pages) act.Stopped parcels fits free e = absurd (no-some free)
job-takes (at.TakesReport items pages) act.Stopped parcels fits free e = absurd (no-some free)
job-takes (at.OrdersPrinter page behind) act.Stopped parcels fits free e = absurd (no-some free)
job-takes (at.PutsPage page behind pages) act.Stopped parcels fits free e = absurd (no-some free)
job-takes (at.TakesPrinted lines) act.Stopped parcels fits free e = absurd (no-some free)
job-takes at.DismissesInput act.Stopped parcels fits free e = absurd (no-some free)
job-takes at.DismissesOutput act.Stopped parcels fits free e = absurd (no-some free)
job-takes a reply parcels fits free e = absurd fits

abbrev job_faults : List Cause
job_faults = cause.ReadFault ∷ cause.DeckLimit ∷ cause.ConsoleFault ∷ cause.DiskFault ∷ cause.NoMemory ∷ []

abbrev lacks_memory : IsFaultOf job_faults (outcome.Fault cause.NoMemory)
lacks_memory = inr (inr (inr (inr (inl refl))))

-- a page in form is no cause
no-damage : (causes : List Cause) (how : Outcome) (found : Option Cause) → found ≡ None → fault_in found ≡ Some how → IsFaultOf causes how
no-damage causes how found none e = absurd (let no = sym (ap fault_in none) ∙ e in cc)

job-gives : (a : JobPlace) (reply : Reply) (how : Outcome) (parcels : List Parcel) → Fits (job_does a) reply → JobTakes a (count_after 0 parcels)
    → AreNumbered 0 (parcels ++ moved_by 2 Receiver (call 2 (job_does a)) (went_by (job_does a) reply))
    → given_cause view job a (job_does a) reply ≡ Some how → IsFaultOf job_faults how
job-gives at.Listens (act.OfCard read.Failed) how parcels fits so are e = by-same job_faults (outcome.Fault cause.ReadFault) how (inl refl) e
job-gives at.Listens (act.OfCard read.Limit) how parcels fits so are e = by-same job_faults (outcome.Fault cause.DeckLimit) how (inr (inl refl)) e
job-gives at.Listens (act.OfCard (read.Card line)) how parcels fits so are e = absurd (no-none e)
job-gives at.Listens (act.OfCard read.Spoiled) how parcels fits so are e = absurd (no-none e)
job-gives at.Listens (act.OfCard read.End) how parcels fits so are e = absurd (no-none e)
job-gives (at.Accepts pages) (act.OfCard read.Failed) how parcels fits so are e = by-same job_faults (outcome.Fault cause.ReadFault) how (inl refl) e
job-gives (at.Accepts pages) (act.OfCard read.Limit) how parcels fits so are e = by-same job_faults (outcome.Fault cause.DeckLimit) how (inr (inl refl)) e
job-gives (at.Accepts pages) (act.OfCard (read.Card line)) how parcels fits so are e = absurd (no-none e)
job-gives (at.Accepts pages) (act.OfCard read.Spoiled) how parcels fits so are e = absurd (no-none e)
job-gives (at.Accepts pages) (act.OfCard read.End) how parcels fits so are e = absurd (no-none e)
job-gives (at.Toils work) act.Failed how parcels fits so are e =
    by-same job_faults (outcome.Fault cause.DiskFault) how (inr (inr (inr (inl refl)))) e
job-gives (at.Displays line pages) act.Failed how parcels fits so are e = by-same job_faults (outcome.Fault cause.ConsoleFault) how (inr (inr (inl refl))) e
job-gives (at.AnswersLine line later) act.Failed how parcels fits so are e = by-same job_faults (outcome.Fault cause.ConsoleFault) how (inr (inr (inl refl))) e
job-gives a act.NoMemory how parcels fits so are e = by-same job_faults (outcome.Fault cause.NoMemory) how lacks_memory e
job-gives a act.Stopped how parcels fits so are e = by-same job_faults outcome.Stopped how tt e
job-gives (at.TakesCards taken items pages) (act.OfPage page) how parcels fits so are e =
    no-damage job_faults how (damage (page_gives taken page)) (ap (λ n. damage (page_gives n page)) so ∙ next-undamaged parcels page are) e
job-gives (at.Toils work) (act.Found need) how parcels fits so are e = absurd (no-none e)
job-gives (at.OrdersCards pages) act.Done how parcels fits so are e = absurd (no-none e)
job-gives (at.TakesReport items pages) (act.OfArg report) how parcels fits so are e = absurd (no-none e)
job-gives (at.Displays line pages) act.Done how parcels fits so are e = absurd (no-none e)
job-gives (at.OrdersPrinter page behind) act.Done how parcels fits so are e = absurd (no-none e)
job-gives (at.PutsPage page behind pages) act.Done how parcels fits so are e = absurd (no-none e)
job-gives (at.TakesPrinted lines) (act.OfArg report) how parcels fits so are e = absurd (no-none e)
job-gives (at.AnswersLine line later) act.Done how parcels fits so are e = absurd (no-none e)
job-gives at.DismissesInput act.Done how parcels fits so are e = absurd (no-none e)
job-gives at.DismissesOutput act.Done how parcels fits so are e = absurd (no-none e)
job-gives at.HasLeft act.Done how parcels fits so are e = absurd (no-none e)
job-gives a reply how parcels fits so are e = absurd fits

fewer : (b : ℕ) (act : Act Parcel) (before : List (Act Parcel)) → AllNumbered b Receiver (act ∷ before) → AllNumbered b Receiver before
fewer b act before are = numbered-front 0 (moved b Receiver before) (moved_by b Receiver act.call act.went) are

pub job-causes : (h : List SoloEntry) (how : Outcome) → Follows solo 2 h → AllNumbered 2 Receiver (acts solo 2 h) → caused view job h ≡ Some how
    → IsFaultOf job_faults how
job-causes h how follows are e =
    each-cause table 2 (λ a before. JobTakes a (count_after 0 (moved 2 Receiver before))) refl
    (λ a reply before fits free is. job-takes a reply (moved 2 Receiver before) fits free is)
    (λ a c before is. count-delayed (JobTakes a) 2 c before is) placed is-2 (AllNumbered 2 Receiver) (IsFaultOf job_faults) (fewer 2)
    (λ a reply how before fits is all e. job-gives a reply how (moved 2 Receiver before) fits is all e) (λ e. lacks_memory) h how follows are e

-- ---- output
abbrev behind_last : Bool → ℕ → ℕ
behind_last true pages = 0
behind_last false pages = pages

abbrev pub OutputTakes : OutputPlace → ℕ → Type 0
OutputTakes (output_at.TakesPage pages) n = pages ≡ n
OutputTakes (output_at.PrintsLine line later last pages) n = behind_last last pages ≡ n
OutputTakes other n = 0 ≡ n

prints-taken : (lines : List (List ℕ)) (last : Bool) (pages n : ℕ) → behind_last last pages ≡ n → OutputTakes (prints lines last pages) n
prints-taken [] true pages n e = e
prints-taken [] false pages n e = e
prints-taken (line ∷ later) last pages n e = e

last-taken : (last : Bool) (pages n : ℕ) → pages ≡ n → behind_last last (pages + 1) ≡ count_behind last n
last-taken true pages n e = refl
last-taken false pages n e = one-more pages n e

output-takes : (a : OutputPlace) (reply : Reply) (parcels : List Parcel) → Fits (output_does a) reply
    → given_cause view output a (output_does a) reply ≡ None → OutputTakes a (count_after 0 parcels)
    → OutputTakes (output_behind a reply) (count_after 0 (parcels ++ moved_by 5 Receiver (call 3 (output_does a)) (went_by (output_does a) reply)))
output-takes output_at.AwaitsPrinting (act.OfArg arg.Nil) parcels fits free e = count-still (λ n. 0 ≡ n) parcels e
output-takes output_at.AwaitsPrinting (act.OfArg other) parcels fits free e = count-still (λ n. 0 ≡ n) parcels e
output-takes (output_at.TakesPage pages) (act.OfPage page) parcels fits free e =
    count-page (OutputTakes (prints (lines_of (items_read (page_gives pages page))) (is_last page) (pages + 1))) parcels page
    (prints-taken (lines_of (items_read (page_gives pages page))) (is_last page) (pages + 1) _ (last-taken (is_last page) pages (count_after 0 parcels) e))
output-takes (output_at.PrintsLine line later last pages) act.Done parcels fits free e =
    count-still (OutputTakes (prints later last pages)) parcels (prints-taken later last pages _ e)
output-takes (output_at.PrintsLine line later last pages) act.Failed parcels fits free e = absurd (no-some free)
output-takes (output_at.PrintsLine line later last pages) act.NoMemory parcels fits free e = absurd (no-some free)
output-takes output_at.ReportsPrinted act.Done parcels fits free e = count-still (λ n. 0 ≡ n) parcels e
output-takes output_at.IsDone act.Done parcels fits free e = count-still (λ n. 0 ≡ n) parcels e
output-takes output_at.AwaitsPrinting act.Stopped parcels fits free e = absurd (no-some free)
output-takes (output_at.TakesPage pages) act.Stopped parcels fits free e = absurd (no-some free)
output-takes output_at.ReportsPrinted act.Stopped parcels fits free e = absurd (no-some free)
output-takes a reply parcels fits free e = absurd fits

pub output-count : (h : List SoloEntry) → Follows solo 3 h → caused view output h ≡ None
    → OutputTakes (place output h) (count_after 0 (moved 5 Receiver (acts solo 3 h)))
output-count h follows none =
    moved-so table 3 (λ a before. OutputTakes a (count_after 0 (moved 5 Receiver before))) refl
    (λ a reply before fits free is. output-takes a reply (moved 5 Receiver before) fits free is)
    (λ a c before is. count-delayed (OutputTakes a) 5 c before is) h follows none

abbrev output_faults : List Cause
output_faults = cause.PrintFault ∷ cause.NoMemory ∷ []

output-gives : (a : OutputPlace) (reply : Reply) (how : Outcome) (parcels : List Parcel) → Fits (output_does a) reply → OutputTakes a (count_after 0 parcels)
    → AreNumbered 0 (parcels ++ moved_by 5 Receiver (call 3 (output_does a)) (went_by (output_does a) reply))
    → given_cause view output a (output_does a) reply ≡ Some how → IsFaultOf output_faults how
output-gives (output_at.PrintsLine line later last pages) act.Failed how parcels fits so are e =
    by-same output_faults (outcome.Fault cause.PrintFault) how (inl refl) e
output-gives a act.NoMemory how parcels fits so are e = by-same output_faults (outcome.Fault cause.NoMemory) how (inr (inl refl)) e
output-gives a act.Stopped how parcels fits so are e = by-same output_faults outcome.Stopped how tt e
output-gives (output_at.TakesPage pages) (act.OfPage page) how parcels fits so are e =
    no-damage output_faults how (damage (page_gives pages page)) (ap (λ n. damage (page_gives n page)) so ∙ next-undamaged parcels page are) e
output-gives output_at.AwaitsPrinting (act.OfArg x) how parcels fits so are e = absurd (no-none e)
output-gives (output_at.PrintsLine line later last pages) act.Done how parcels fits so are e = absurd (no-none e)
output-gives output_at.ReportsPrinted act.Done how parcels fits so are e = absurd (no-none e)
output-gives output_at.IsDone act.Done how parcels fits so are e = absurd (no-none e)
output-gives a reply how parcels fits so are e = absurd fits

pub output-causes : (h : List SoloEntry) (how : Outcome) → Follows solo 3 h → AllNumbered 5 Receiver (acts solo 3 h) → caused view output h ≡ Some how
    → IsFaultOf output_faults how
output-causes h how follows are e =
    each-cause table 3 (λ a before. OutputTakes a (count_after 0 (moved 5 Receiver before))) refl
    (λ a reply before fits free is. output-takes a reply (moved 5 Receiver before) fits free is)
    (λ a c before is. count-delayed (OutputTakes a) 5 c before is) placed is-3 (AllNumbered 5 Receiver) (IsFaultOf output_faults) (fewer 5)
    (λ a reply how before fits is all e. output-gives a reply how (moved 5 Receiver before) fits is all e) (λ e. absurd cc) h how follows are e

-- ---- the three together: what is taken of a buffer is the first part of what was put there
module _ (opening s : SoloState) (st : Stands solo opening s) (told : (b : ℕ) → IsTold (opening.buffers b)) where
  taken-numbered : (b : ℕ) → AreNumbered 0 (passed solo s b Sender) → AreNumbered 0 (passed solo s b Receiver)
  taken-numbered b are =
      let (inside, e) = st.told b (told b) in
      numbered-front 0 (passed solo s b Receiver) inside (subst (AreNumbered 0) (sym ((st.buffers.hand_over b).parcels inside e)) are)

  pub have-causes : HaveCauses s
  have-causes = record {
    given = λ p how one e. given-by table (process p) (s.histories p) how e;
    input = λ c e. input-causes (s.histories 1) (outcome.Fault c) (st.follows 1) e;
    job = λ c e. job-causes (s.histories 2) (outcome.Fault c) (st.follows 2)
        (taken-numbered 2 (input-numbered (s.histories 1) (st.follows 1))) e;
    output = λ c e. output-causes (s.histories 3) (outcome.Fault c) (st.follows 3)
        (taken-numbered 5 (job-numbered (s.histories 2) (st.follows 2))) e;
  }
