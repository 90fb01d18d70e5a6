-- The pages that Solo's processes put are in form and in order, and so are those that they take.
use Rattle.std.proofs.Common.{◌≡◌, ℕ, zero, suc, ◌+◌, if◌then◌else◌, Bool, true, false, List, [], ◌∷◌, ◌++◌, None, refl, sym, ap, subst}
use Rattle.solo_base.specs.Line.{IsLine}
use Rattle.solo_base.specs.Blanks.{trimmed}
use Rattle.solo_base.specs.declared.item.Item.{Item}
use Rattle.solo_base.specs.declared.item.Item.TheVariants.{Line}
use Rattle.solo_base.specs.declared.page.Page.{Page}
use Rattle.solo_base.specs.declared.outcome.Side.{Side}
use Rattle.solo_base.specs.declared.outcome.Side.TheVariants.{Sender}
use Rattle.solo_base.specs.declared.system_call.Arg.TheVariants as arg
use Rattle.solo_devices.specs.declared.card_read.CardRead.{CardRead}
use Rattle.solo_devices.specs.declared.card_read.CardRead.TheVariants as read
use Rattle.deck_format.specs.Jobs.{is_end}
use Rattle.network_law.specs.Acts.{Act, Call, Alone, At, Asks, Gives, Stops, Went, Delayed, Moved, moved, moved_by}
use Rattle.network_law.specs.Network.{Follows, acts}
use Rattle.exchange_law.specs.Pages.{is_last, has_room_for, page_with, ArePage, page_gives, items_read}
use Rattle.exchange_law.specs.Parcels.{Parcel, count_behind, count_after, IsNumbered, AreNumbered}
use Rattle.exchange_law.proofs.Counted.{none-delayed}
use Rattle.exchange_law.proofs.Lines.{HandFits, empty-fits, one-fits, more-fits, full-page, last-page}
use Rattle.exchange_law.proofs.Streams.{Stands, stands-still, page-put}
use Rattle.place_law.specs.Process.{given_cause, place, caused}
use Rattle.place_law.proofs.Moved.{IsClosing, moved-so, moved-all}
use Rattle.solo_law.specs.Work.{Need, CardsNeeded, LineNeeded, DisplayNeeded, PageNeeded, EndNeeded, NeedFits}
use Rattle.solo_law.specs.Actions.{Reply}
use Rattle.solo_law.specs.Actions as act
use Rattle.solo_law.specs.Buffers.{call, went_by}
use Rattle.solo_law.specs.Replies.{IsLineRead, Fits, view}
use Rattle.solo_law.specs.InputPlaces.{InputPlace, input_does, input_behind, packs, packs_if, closes_file, behind_card, behind_order, input}
use Rattle.solo_law.specs.InputPlaces as input_at
use Rattle.solo_law.specs.JobPlaces.{JobPlace, Behind, GoesOn, EndsWith, job_does, job_behind, answers, puts_page, ends, meets, begins_with, behind_typed, behind_accepted, behind_cards, behind_put, job}
use Rattle.solo_law.specs.JobPlaces as at
use Rattle.solo_law.specs.Solo.{table, solo, SoloEntry}
use Rattle.solo_law.proofs.Placed.{is-1, is-2, placed}
use Rattle.solo_law.proofs.Nones.{no-some}

-- ---- input: with so many pages of the card file put
abbrev InputSo : InputPlace → ℕ → Type 0
InputSo (input_at.Reads pages hand sound) n = (pages ≡ n) × HandFits hand
InputSo (input_at.PutsFull page pages hand) n = (pages ≡ suc n) × HandFits hand × IsNumbered n false page
InputSo (input_at.PutsLast page sound) n = IsNumbered n true page
InputSo other n = n ≡ 0

numbered : (n : ℕ) (pages : ℕ) (last : Bool) (lines : List (List ℕ)) → pages ≡ n → ArePage last lines → IsNumbered n last (page_with pages last lines)
numbered n pages last lines e are = record { lines = lines; is = ap (λ pages. page_with pages last lines) e; are = are }

packs-so : (pages : ℕ) (hand : List (List ℕ)) (line : List ℕ) (n : ℕ) → IsLine line → InputSo (input_at.Reads pages hand true) n
    → InputSo (packs pages hand line) n
packs-so pages hand line n valid is =
    let P : Bool → Type 0 = λ t. has_room_for hand line ≡ t → InputSo (if t then input_at.Reads pages (hand ++ line ∷ []) true
    else input_at.PutsFull (page_with pages false hand) (suc pages) (line ∷ [])) n in
    elim (has_room_for hand line) as P [
      | true ↦ (λ room. (is.0, more-fits hand line is.1 valid room))
      | false ↦ (λ none. (ap suc is.0, one-fits line valid, numbered n pages false hand is.0 (full-page hand line is.1 valid none)))
    ] refl

packs_if-so : (sound : Bool) (pages : ℕ) (hand : List (List ℕ)) (line : List ℕ) (n : ℕ) → IsLine line → InputSo (input_at.Reads pages hand sound) n
    → InputSo (packs_if sound pages hand line) n
packs_if-so true pages hand line n valid is = packs-so pages hand line n valid is
packs_if-so false pages hand line n valid is = is

closes-so : (pages : ℕ) (hand : List (List ℕ)) (sound : Bool) (n : ℕ) → InputSo (input_at.Reads pages hand sound) n → InputSo (closes_file pages hand sound) n
closes-so pages hand sound n is = numbered n pages true hand is.0 (last-page hand is.1)

card-so : (pages : ℕ) (hand : List (List ℕ)) (sound : Bool) (answer : CardRead) (n : ℕ) → IsLineRead answer → InputSo (input_at.Reads pages hand sound) n
    → InputSo (behind_card pages hand sound answer) n
card-so pages hand sound (read.Card line) n valid is =
    elim (is_end (Line line)) as (λ t. InputSo (if t then closes_file pages hand sound else packs_if sound pages hand line) n) [
      | true ↦ closes-so pages hand sound n is
      | false ↦ packs_if-so sound pages hand line n valid is
    ]
card-so pages hand sound read.Spoiled n valid is = is
card-so pages hand sound read.End n valid is = closes-so pages hand sound n is
card-so pages hand sound other n valid is = is

-- ---- what acts moved, with one act more
abbrev pub AllNumbered : ℕ → Side → List (Act Parcel) → Type 0
AllNumbered b side acts = AreNumbered 0 (moved b side acts)

pub closing-none : (b : ℕ) (side : Side) (c : Call) (w : Went Parcel) → IsClosing c w → moved_by b side c w ≡ []
closing-none b side Alone w is = refl
closing-none b side (At c of Stops) (Moved parcel) is = absurd is
closing-none b side (At c of Stops) w is = refl
closing-none b side (At c of visit) w is = absurd is
closing-none b side Asks w is = absurd is
closing-none b side Gives w is = absurd is

still-numbered : (parcels none : List Parcel) → none ≡ [] → AreNumbered 0 parcels → AreNumbered 0 (parcels ++ none)
still-numbered parcels none e are =
    subst (λ more. AreNumbered 0 (parcels ++ more)) (sym e) (stands-still (λ n. Unit {0}) parcels record { so = tt; numbered = are }).numbered

still-delayed : (So : ℕ → Type 0) (b : ℕ) (side : Side) (c : Call) (before : List (Act Parcel)) → Stands So (moved b side before)
    → Stands So (moved b side (record { call = c; went = Delayed } ∷ before))
still-delayed So b side c before is =
    subst (λ more. Stands So (moved b side before ++ more)) (sym (none-delayed b side c)) (stands-still So (moved b side before) is)

-- the same stream at another place
still : (So Then : ℕ → Type 0) (parcels : List Parcel) → ((n : ℕ) → So n → Then n) → Stands So parcels → Stands Then (parcels ++ [])
still So Then parcels goes is = stands-still Then parcels record { so = goes (count_after 0 parcels) is.so; numbered = is.numbered }

-- ---- input puts pages in form
abbrev NextInput : InputPlace → Reply → ℕ → Type 0
NextInput a reply n = given_cause view input a (input_does a) reply ≡ None → InputSo (input_behind a reply) n

input-answered : (a : InputPlace) (reply : Reply) (parcels : List Parcel) → Fits (input_does a) reply → Stands (InputSo a) parcels
    → Stands (NextInput a reply) (parcels ++ moved_by 2 Sender (call 1 (input_does a)) (went_by (input_does a) reply))
input-answered input_at.AwaitsOrder (act.OfArg arg.Nil) parcels fits is =
    still (InputSo input_at.AwaitsOrder) (NextInput input_at.AwaitsOrder (act.OfArg arg.Nil)) parcels (λ n e free. e) is
input-answered input_at.AwaitsOrder (act.OfArg other) parcels fits is =
    still (InputSo input_at.AwaitsOrder) (NextInput input_at.AwaitsOrder (act.OfArg other)) parcels (λ n e free. (sym e, empty-fits)) is
input-answered (input_at.Reads pages hand sound) (act.OfCard answer) parcels fits is =
    still (InputSo (input_at.Reads pages hand sound)) (NextInput (input_at.Reads pages hand sound) (act.OfCard answer)) parcels
    (λ n e free. card-so pages hand sound answer n fits e) is
input-answered (input_at.PutsFull page pages hand) act.Done parcels fits is =
    page-put (NextInput (input_at.PutsFull page pages hand) act.Done) parcels false page is.numbered is.so.2 (λ free. (is.so.0, is.so.1))
input-answered (input_at.PutsLast page sound) act.Done parcels fits is =
    page-put (NextInput (input_at.PutsLast page sound) act.Done) parcels true page is.numbered is.so (λ free. refl)
input-answered (input_at.Reports sound) act.Done parcels fits is =
    still (InputSo (input_at.Reports sound)) (NextInput (input_at.Reports sound) act.Done) parcels (λ n e free. e) is
input-answered input_at.IsOver act.Done parcels fits is =
    still (InputSo input_at.IsOver) (NextInput input_at.IsOver act.Done) parcels (λ n e free. e) is
input-answered input_at.AwaitsOrder act.Stopped parcels fits is =
    still (InputSo input_at.AwaitsOrder) (NextInput input_at.AwaitsOrder act.Stopped) parcels (λ n e free. absurd (no-some free)) is
input-answered (input_at.PutsFull page pages hand) act.Stopped parcels fits is =
    still (InputSo (input_at.PutsFull page pages hand)) (NextInput (input_at.PutsFull page pages hand) act.Stopped) parcels
    (λ n e free. absurd (no-some free)) is
input-answered (input_at.PutsLast page sound) act.Stopped parcels fits is =
    still (InputSo (input_at.PutsLast page sound)) (NextInput (input_at.PutsLast page sound) act.Stopped) parcels (λ n e free. absurd (no-some free)) is
input-answered (input_at.Reports sound) act.Stopped parcels fits is =
    still (InputSo (input_at.Reports sound)) (NextInput (input_at.Reports sound) act.Stopped) parcels (λ n e free. absurd (no-some free)) is
input-answered a reply parcels fits is = absurd fits

abbrev InputMoved : InputPlace → List (Act Parcel) → Type 0
InputMoved a before = Stands (InputSo a) (moved 2 Sender before)

freed : (a : InputPlace) (reply : Reply) (parcels : List Parcel) → given_cause view input a (input_does a) reply ≡ None → Stands (NextInput a reply) parcels
    → Stands (InputSo (input_behind a reply)) parcels
freed a reply parcels free is = record { so = is.so free; numbered = is.numbered }

pub input-numbered : (h : List SoloEntry) → Follows solo 1 h → AllNumbered 2 Sender (acts solo 1 h)
input-numbered h follows =
    moved-all table 1 InputMoved record { so = refl; numbered = tt }
    (λ a reply before fits free is. freed a reply _ free (input-answered a reply (moved 2 Sender before) fits is))
    (λ a c before is. still-delayed (InputSo a) 2 Sender c before is)
    placed is-1 (AllNumbered 2 Sender) (λ a before is. is.numbered)
    (λ a reply before fits is. (input-answered a reply (moved 2 Sender before) fits is).numbered)
    (λ c w before is are. still-numbered (moved 2 Sender before) (moved_by 2 Sender c w) (closing-none 2 Sender c w is) are)
    h follows

-- ---- job puts pages in form: with so many pages of its command put
abbrev last_by : Behind → Bool
last_by GoesOn = false
last_by (EndsWith lines) = true

abbrev pub JobSo : JobPlace → ℕ → Type 0
JobSo (at.Toils work) n = work.pages ≡ n
JobSo (at.OrdersCards pages) n = pages ≡ n
JobSo (at.TakesCards taken items pages) n = pages ≡ n
JobSo (at.TakesReport items pages) n = pages ≡ n
JobSo (at.Accepts pages) n = pages ≡ n
JobSo (at.Displays line pages) n = pages ≡ n
JobSo (at.OrdersPrinter page behind) n = (0 ≡ n) × IsNumbered n (last_by behind) page
JobSo (at.PutsPage page behind pages) n = (pages ≡ n) × IsNumbered n (last_by behind) page
JobSo other n = 0 ≡ n

answers-so : (lines : List (List ℕ)) (n : ℕ) → 0 ≡ n → JobSo (answers lines) n
answers-so [] n e = e
answers-so (line ∷ later) n e = e

puts-so : (pages : ℕ) (page : Page) (behind : Behind) (n : ℕ) → pages ≡ n → IsNumbered n (last_by behind) page → JobSo (puts_page pages page behind) n
puts-so zero page behind n e is = (e, is)
puts-so (suc pages) page behind n e is = (e, is)

ends-so : (pages : ℕ) (printed lines : List (List ℕ)) (n : ℕ) → pages ≡ n → ArePage true printed → JobSo (ends pages printed lines) n
ends-so zero [] lines n e are = answers-so lines n e
ends-so zero (line ∷ printed) lines n e are = (e, numbered n zero true (line ∷ printed) e are)
ends-so (suc pages) printed lines n e are = (e, numbered n (suc pages) true printed e are)

meets-so : (pages : ℕ) (need : Need) (n : ℕ) → NeedFits need → pages ≡ n → JobSo (meets pages need) n
meets-so pages CardsNeeded n fits e = e
meets-so pages LineNeeded n fits e = e
meets-so pages (DisplayNeeded line) n fits e = e
meets-so pages (PageNeeded printed) n fits e = puts-so pages (page_with pages false printed) GoesOn n e (numbered n pages false printed e fits)
meets-so pages (EndNeeded printed lines) n fits e = ends-so pages printed lines n e fits

typed-so : (answer : CardRead) (n : ℕ) → 0 ≡ n → JobSo (behind_typed answer) n
typed-so (read.Card line) n e = begins (trimmed line) where
  begins : (rest : List ℕ) → JobSo (begins_with rest line) n
  begins [] = e
  begins (code ∷ rest) = e
typed-so read.Spoiled n e = e
typed-so read.End n e = e
typed-so other n e = e

accepted-so : (pages : ℕ) (answer : CardRead) (n : ℕ) → pages ≡ n → JobSo (behind_accepted pages answer) n
accepted-so pages (read.Card line) n e = e
accepted-so pages read.Spoiled n e = e
accepted-so pages read.End n e = e
accepted-so pages other n e = e

cards-so : (last : Bool) (taken : ℕ) (items : List Item) (pages n : ℕ) → pages ≡ n → JobSo (behind_cards last taken items pages) n
cards-so true taken items pages n e = e
cards-so false taken items pages n e = e

put-so : (behind : Behind) (pages n : ℕ) → pages ≡ n → JobSo (behind_put behind (suc pages)) (count_behind (last_by behind) n)
put-so GoesOn pages n e = ap suc e
put-so (EndsWith lines) pages n e = refl

abbrev NextJob : JobPlace → Reply → ℕ → Type 0
NextJob a reply n = given_cause view job a (job_does a) reply ≡ None → JobSo (job_behind a reply) n

module _ (a : JobPlace) (reply : Reply) (parcels : List Parcel) (is : Stands (JobSo a) parcels) where
  on : ((n : ℕ) → JobSo a n → NextJob a reply n) → Stands (NextJob a reply) (parcels ++ [])
  on goes = still (JobSo a) (NextJob a reply) parcels goes is

job-answered : (a : JobPlace) (reply : Reply) (parcels : List Parcel) → Fits (job_does a) reply → Stands (JobSo a) parcels
    → Stands (NextJob a reply) (parcels ++ moved_by 5 Sender (call 2 (job_does a)) (went_by (job_does a) reply))
job-answered at.Listens (act.OfCard answer) parcels fits is = on at.Listens (act.OfCard answer) parcels is (λ n e free. typed-so answer n e)
job-answered (at.Toils work) (act.Found need) parcels fits is =
    on (at.Toils work) (act.Found need) parcels is (λ n e free. meets-so work.pages need n fits e)
job-answered (at.Toils work) act.Failed parcels fits is = on (at.Toils work) act.Failed parcels is (λ n e free. absurd (no-some free))
job-answered (at.Toils work) act.NoMemory parcels fits is = on (at.Toils work) act.NoMemory parcels is (λ n e free. absurd (no-some free))
job-answered (at.OrdersCards pages) act.Done parcels fits is = on (at.OrdersCards pages) act.Done parcels is (λ n e free. e)
job-answered (at.OrdersCards pages) act.Stopped parcels fits is = on (at.OrdersCards pages) act.Stopped parcels is (λ n e free. absurd (no-some free))
job-answered (at.TakesCards taken items pages) (act.OfPage page) parcels fits is =
    on (at.TakesCards taken items pages) (act.OfPage page) parcels is
    (λ n e free. cards-so (is_last page) (taken + 1) (items ++ items_read (page_gives taken page)) pages n e)
job-answered (at.TakesCards taken items pages) act.Stopped parcels fits is =
    on (at.TakesCards taken items pages) act.Stopped parcels is (λ n e free. absurd (no-some free))
job-answered (at.TakesReport items pages) (act.OfArg report) parcels fits is =
    on (at.TakesReport items pages) (act.OfArg report) parcels is (λ n e free. report-so items pages report n e) where
      report-so : (items : List Item) (pages : ℕ) (report : _) (n : ℕ) → pages ≡ n → JobSo (job_behind (at.TakesReport items pages) (act.OfArg report)) n
      report-so items pages report n e = e
job-answered (at.TakesReport items pages) act.Stopped parcels fits is =
    on (at.TakesReport items pages) act.Stopped parcels is (λ n e free. absurd (no-some free))
job-answered (at.Accepts pages) (act.OfCard answer) parcels fits is =
    on (at.Accepts pages) (act.OfCard answer) parcels is (λ n e free. accepted-so pages answer n e)
job-answered (at.Displays line pages) act.Done parcels fits is = on (at.Displays line pages) act.Done parcels is (λ n e free. e)
job-answered (at.Displays line pages) act.Failed parcels fits is = on (at.Displays line pages) act.Failed parcels is (λ n e free. absurd (no-some free))
job-answered (at.Displays line pages) act.NoMemory parcels fits is = on (at.Displays line pages) act.NoMemory parcels is (λ n e free. absurd (no-some free))
job-answered (at.OrdersPrinter page behind) act.Done parcels fits is = on (at.OrdersPrinter page behind) act.Done parcels is (λ n e free. e)
job-answered (at.OrdersPrinter page behind) act.Stopped parcels fits is =
    on (at.OrdersPrinter page behind) act.Stopped parcels is (λ n e free. absurd (no-some free))
job-answered (at.PutsPage page behind pages) act.Done parcels fits is =
    page-put (NextJob (at.PutsPage page behind pages) act.Done) parcels (last_by behind) page is.numbered is.so.1
    (λ free. put-so behind pages (count_after 0 parcels) is.so.0)
job-answered (at.PutsPage page behind pages) act.Stopped parcels fits is =
    on (at.PutsPage page behind pages) act.Stopped parcels is (λ n e free. absurd (no-some free))
job-answered (at.TakesPrinted lines) (act.OfArg report) parcels fits is =
    on (at.TakesPrinted lines) (act.OfArg report) parcels is (λ n e free. answers-so lines n e)
job-answered (at.TakesPrinted lines) act.Stopped parcels fits is = on (at.TakesPrinted lines) act.Stopped parcels is (λ n e free. absurd (no-some free))
job-answered (at.AnswersLine line later) act.Done parcels fits is =
    on (at.AnswersLine line later) act.Done parcels is (λ n e free. answers-so later n e)
job-answered (at.AnswersLine line later) act.Failed parcels fits is = on (at.AnswersLine line later) act.Failed parcels is (λ n e free. absurd (no-some free))
job-answered (at.AnswersLine line later) act.NoMemory parcels fits is =
    on (at.AnswersLine line later) act.NoMemory parcels is (λ n e free. absurd (no-some free))
job-answered at.DismissesInput act.Done parcels fits is = on at.DismissesInput act.Done parcels is (λ n e free. e)
job-answered at.DismissesInput act.Stopped parcels fits is = on at.DismissesInput act.Stopped parcels is (λ n e free. absurd (no-some free))
job-answered at.DismissesOutput act.Done parcels fits is = on at.DismissesOutput act.Done parcels is (λ n e free. e)
job-answered at.DismissesOutput act.Stopped parcels fits is = on at.DismissesOutput act.Stopped parcels is (λ n e free. absurd (no-some free))
job-answered at.HasLeft act.Done parcels fits is = on at.HasLeft act.Done parcels is (λ n e free. e)
job-answered a reply parcels fits is = absurd fits

abbrev JobMoved : JobPlace → List (Act Parcel) → Type 0
JobMoved a before = Stands (JobSo a) (moved 5 Sender before)

pub job-numbered : (h : List SoloEntry) → Follows solo 2 h → AllNumbered 5 Sender (acts solo 2 h)
job-numbered h follows =
    moved-all table 2 JobMoved record { so = refl; numbered = tt }
    (λ a reply before fits free is. (let now = job-answered a reply (moved 5 Sender before) fits is in record { so = now.so free; numbered = now.numbered }))
    (λ a c before is. still-delayed (JobSo a) 5 Sender c before is)
    placed is-2 (AllNumbered 5 Sender) (λ a before is. is.numbered)
    (λ a reply before fits is. (job-answered a reply (moved 5 Sender before) fits is).numbered)
    (λ c w before is are. still-numbered (moved 5 Sender before) (moved_by 5 Sender c w) (closing-none 5 Sender c w is) are)
    h follows

-- and its place tells how many of its command's pages it has put
pub job-so : (h : List SoloEntry) → Follows solo 2 h → caused view job h ≡ None → JobSo (place job h) (count_after 0 (moved 5 Sender (acts solo 2 h)))
job-so h follows none =
    (moved-so table 2 JobMoved record { so = refl; numbered = tt }
    (λ a reply before fits free is. (let now = job-answered a reply (moved 5 Sender before) fits is in record { so = now.so free; numbered = now.numbered }))
    (λ a c before is. still-delayed (JobSo a) 5 Sender c before is) h follows none).so
