-- The job process takes the card files of the deck, in order: where what it took is a first part of their pages and reports.
use Rattle.std.proofs.Common.{◌≡◌, ◌⊎◌, inl, inr, ℕ, zero, suc, ◌+◌, not, Bool, true, false, List, [], ◌∷◌, ◌++◌, None, refl, sym, ◌∙◌, ap, subst, arith, append_assoc, Some}
use Rattle.std.proofs.lemmas.List.{append-nil}
use Rattle.solo_base.specs.declared.item.Item.{Item}
use Rattle.solo_base.specs.declared.page.Page.{Page}
use Rattle.solo_base.specs.declared.system_call.Arg.{Arg}
use Rattle.solo_base.specs.declared.system_call.Arg.TheVariants as arg
use Rattle.solo_base.specs.declared.outcome.Outcome.{Outcome}
use Rattle.solo_base.specs.declared.outcome.Side.TheVariants.{Receiver}
use Rattle.page_codec.specs.Items.{AreItems}
use Rattle.network_law.specs.Acts.{moved, moved_by}
use Rattle.network_law.specs.Network.{Follows, acts}
use Rattle.network_law.proofs.Reached.{reached-stands}
use Rattle.exchange_law.specs.Pages.{is_last, page_with, pages_of, page_gives, items_read, lines_of}
use Rattle.exchange_law.specs.Parcels.{Parcel, OfArg, OfPage}
use Rattle.exchange_law.specs.Phases.{Idle}
use Rattle.exchange_law.proofs.Counted.{none-delayed}
use Rattle.exchange_law.proofs.Lines.{AreLines, marked-with, lines-append, lines-of-page, HandFits, empty-fits, one-fits, Walk, LastOf, FullOf, walk}
use Rattle.place_law.specs.Process.{Does, LacksMemory, Delays, place, caused, given_cause}
use Rattle.place_law.proofs.Nexts.{or-none, or-new, does-next, Shape, AtPlace, Stopping, Ending, next-shape}
use Rattle.solo_needs.specs.Needs.{Given, OfCards}
use Rattle.solo_needs.specs.Handing.{file_cards, file_sound, behind_file}
use Rattle.solo_law.specs.Actions.{Action, Reply}
use Rattle.solo_law.specs.Actions as act
use Rattle.solo_law.specs.Buffers.{call, went_by}
use Rattle.solo_law.specs.Replies.{Fits, view}
use Rattle.solo_law.specs.JobPlaces.{JobPlace, Behind, job_does, job_behind, behind_cards, file_of, answers, meets, behind_typed, behind_accepted, behind_put, job}
use Rattle.solo_law.specs.JobPlaces as at
use Rattle.solo_law.specs.Devices.{Devices}
use Rattle.solo_law.specs.Solo.{table, solo, SoloState, SoloEntry, IsReached, openings}
use Rattle.solo_law.proofs.Placed.{is-2, placed, solo-lawful}
use Rattle.solo_law.proofs.JobPhases.{in_phase, answers-in, meets-in, typed-in, accepted-in, put-in}
use Rattle.solo_law.proofs.Shown.{lacking-some}
use Rattle.solo_law.proofs.CardFiles.{pages_from, reports_from, file-valid, behind-valid}
use Rattle.solo_law.proofs.InputFiles.{as_pages, as_args, put-first, cards-tell}
use Rattle.solo_law.proofs.Nones.{no-some}

-- ---- the cards behind the card files that it took
abbrev pub cards_by : JobPlace → Reply → List Item → List Item
cards_by (at.TakesReport items pages) (act.OfArg report) cards = behind_file cards
cards_by a reply cards = cards

abbrev pub cards_behind : List Item → List SoloEntry → List Item
cards_behind cards [] = cards
cards_behind cards (Does action reply ∷ h) = cards_by (place job h) reply (cards_behind cards h)
cards_behind cards (LacksMemory action reply ∷ h) = cards_behind cards h
cards_behind cards (Delays action ∷ h) = cards_behind cards h

-- what a card file of a deck is to the work
abbrev pub as_given : List Item → Given
as_given cards = OfCards (file_cards true cards) (not (file_sound true cards))

-- each card file that it took is the next one
abbrev pub IsNextFile : JobPlace → Reply → List Item → Type 0
IsNextFile (at.TakesReport items pages) (act.OfArg report) cards = file_of items report ≡ as_given cards
IsNextFile a reply cards = Unit {0}

abbrev pub AreNextFiles : List Item → List SoloEntry → Type 0
AreNextFiles cards [] = Unit {0}
AreNextFiles cards (Does action reply ∷ h) = IsNextFile (place job h) reply (cards_behind cards h) × AreNextFiles cards h
AreNextFiles cards (LacksMemory action reply ∷ h) = AreNextFiles cards h
AreNextFiles cards (Delays action ∷ h) = AreNextFiles cards h

by-valid : (a : JobPlace) (reply : Reply) (cards : List Item) → AreItems cards → AreItems (cards_by a reply cards)
by-valid (at.TakesReport items pages) (act.OfArg report) cards are = behind-valid cards are
by-valid a reply cards are = are

left-valid : (cards : List Item) (h : List SoloEntry) → AreItems cards → AreItems (cards_behind cards h)
left-valid cards [] are = are
left-valid cards (Does a reply ∷ h) are = by-valid (place job h) reply (cards_behind cards h) (left-valid cards h are)
left-valid cards (LacksMemory a reply ∷ h) are = left-valid cards h are
left-valid cards (Delays a ∷ h) are = left-valid cards h are

-- ---- what is still to be taken, at each place; `cards` are those behind the card files that it took
record Between (cards : List Item) (pages reports : List Parcel) : Type 0 where
  files : ℕ
  pages_are : pages ≡ as_pages (pages_from files cards)
  reports_are : reports ≡ as_args (reports_from files cards)

record Taking (n : ℕ) (items : List Item) (cards : List Item) (pages reports : List Parcel) : Type 0 where
  files : ℕ
  hand : List (List ℕ)
  rest : List (List ℕ)
  pages_are : pages ≡ as_pages (pages_of n hand rest ++ pages_from files (behind_file cards))
  reports_are : reports ≡ as_args (reports_from (suc files) cards)
  lines : lines_of items ++ (hand ++ rest) ≡ file_cards true cards
  fits : HandFits hand
  valid : AreLines rest

record Taken (items : List Item) (cards : List Item) (pages reports : List Parcel) : Type 0 where
  files : ℕ
  pages_are : pages ≡ as_pages (pages_from files (behind_file cards))
  reports_are : reports ≡ as_args (reports_from (suc files) cards)
  lines : lines_of items ≡ file_cards true cards

abbrev Facts : JobPlace → List Item → List Parcel → List Parcel → Type 0
Facts (at.TakesCards n items pages) cards ps rs = (ps ≡ []) ⊎ Taking n items cards ps rs
Facts (at.TakesReport items pages) cards ps rs = Taken items cards ps rs
Facts other cards ps rs = Between cards ps rs

-- ---- a page
same-head : (x y : Page) (xs ys : List Parcel) → OfPage x ∷ xs ≡ OfPage y ∷ ys → (x ≡ y) × (xs ≡ ys)
same-head x y xs ys e = (cc, cc)

abbrev BehindPage : ℕ → List Item → ℕ → List Item → List Parcel → List Parcel → Page → Type 0
BehindPage n items pages cards ps rs page = Facts (behind_cards (is_last page) (n + 1) (items ++ items_read (page_gives n page)) pages) cards ps rs

abbrev ByMark : ℕ → List Item → ℕ → List Item → List Parcel → List Parcel → Page → Bool → Type 0
ByMark n items pages cards ps rs page t = Facts (behind_cards t (n + 1) (items ++ items_read (page_gives n page)) pages) cards ps rs

suc-is : (n : ℕ) → suc n ≡ n + 1
suc-is n = omega arith

takes-page : (n : ℕ) (items : List Item) (pages : ℕ) (cards : List Item) (page : Page) (ps rs : List Parcel) (is : Taking n items cards (OfPage page ∷ ps) rs)
    → Walk n is.hand is.rest → BehindPage n items pages cards ps rs page
takes-page n items pages cards page ps rs is (LastOf e good) =
    let whole = is.hand ++ is.rest in
    let first = page_with n true whole in
    let after = pages_from is.files (behind_file cards) in
    let both = same-head page first ps (as_pages after) (is.pages_are ∙ ap (λ pages. as_pages (pages ++ after)) e) in
    let mark : is_last first ≡ true = marked-with n true whole in
    let taken : ByMark n items pages cards ps rs first true = record {
      files = is.files;
      pages_are = both.1;
      reports_are = is.reports_are;
      lines = lines-append items (items_read (page_gives n first)) ∙ ap (λ more. lines_of items ++ more) (lines-of-page n true whole good) ∙ is.lines;
    } in
    subst (BehindPage n items pages cards ps rs) (sym both.0) (subst (ByMark n items pages cards ps rs first) (sym mark) taken)
takes-page n items pages cards page ps rs is (FullOf front line later e parts good valid more) =
    let first = page_with n false front in
    let after = pages_from is.files (behind_file cards) in
    let both = same-head page first ps (as_pages (pages_of (suc n) (line ∷ []) later ++ after)) (is.pages_are ∙ ap (λ pages. as_pages (pages ++ after)) e) in
    let mark : is_last first ≡ false = marked-with n false front in
    let goes_on : Taking (n + 1) (items ++ items_read (page_gives n first)) cards ps rs = record {
      files = is.files;
      hand = line ∷ [];
      rest = later;
      pages_are = both.1 ∙ ap (λ n. as_pages (pages_of n (line ∷ []) later ++ after)) (suc-is n);
      reports_are = is.reports_are;
      lines = ap (λ lines. lines ++ (line ∷ later)) (lines-append items (items_read (page_gives n first))
          ∙ ap (λ more. lines_of items ++ more) (lines-of-page n false front good))
          ∙ append_assoc (lines_of items) front (line ∷ later) ∙ ap (λ lines. lines_of items ++ lines) (sym parts) ∙ is.lines;
      fits = one-fits line valid;
      valid = more;
    } in
    let on : ByMark n items pages cards ps rs first false = inr goes_on in
    subst (BehindPage n items pages cards ps rs) (sym both.0) (subst (ByMark n items pages cards ps rs first) (sym mark) on)

-- ---- a report
same-arg : (x y : Arg) (xs ys : List Parcel) → OfArg x ∷ xs ≡ OfArg y ∷ ys → (x ≡ y) × (xs ≡ ys)
same-arg x y xs ys e = (cc, cc)

by-report : (items : List Item) (cards : List Item) (sound : Bool) → lines_of items ≡ file_cards true cards → sound ≡ file_sound true cards
    → file_of items (arg.Bool sound) ≡ as_given cards
by-report items cards true lines same = ap (λ x. OfCards x false) lines ∙ ap (λ t. OfCards (file_cards true cards) (not t)) same
by-report items cards false lines same = ap (λ x. OfCards x true) lines ∙ ap (λ t. OfCards (file_cards true cards) (not t)) same

next-file : (items : List Item) (report : Arg) (cards : List Item) (ps rs : List Parcel) → Taken items cards ps (OfArg report ∷ rs)
    → file_of items report ≡ as_given cards
next-file items report cards ps rs is =
    let both = same-arg report (arg.Bool (file_sound true cards)) rs (as_args (reports_from is.files (behind_file cards))) is.reports_are in
    ap (file_of items) both.0 ∙ by-report items cards (file_sound true cards) is.lines refl

-- ---- one entry
free-at : (a : JobPlace) (cards : List Item) (ps rs : List Parcel) → Idle ≡ in_phase a → Between cards ps rs → Facts a cards ps rs
free-at (at.TakesCards n items pages) cards ps rs e is = absurd cc
free-at (at.TakesReport items pages) cards ps rs e is = absurd cc
free-at a cards ps rs e is = is

begins-taking : (files : ℕ) (cards : List Item) (ps rs : List Parcel) → AreItems cards → ps ≡ as_pages (pages_from files cards)
    → rs ≡ as_args (reports_from files cards) → (ps ≡ []) ⊎ Taking 0 [] cards ps rs
begins-taking zero cards ps rs valid p r = inl p
begins-taking (suc files) cards ps rs valid p r = inr record {
  files = files;
  hand = [];
  rest = file_cards true cards;
  pages_are = p;
  reports_are = r;
  lines = refl;
  fits = empty-fits;
  valid = file-valid true cards valid;
}

none-left : (x : Parcel) (ps : List Parcel) → x ∷ ps ≡ [] → ⊥
none-left x ps e = cc

abbrev pages_by : Action → Reply → List Parcel
pages_by a reply = moved_by 2 Receiver (call 2 a) (went_by a reply)

abbrev reports_by : Action → Reply → List Parcel
reports_by a reply = moved_by 3 Receiver (call 2 a) (went_by a reply)

reads-on : (a : JobPlace) (reply : Reply) (cards : List Item) (ps rs : List Parcel) → Fits (job_does a) reply
    → given_cause view job a (job_does a) reply ≡ None → AreItems cards
    → Facts a cards (pages_by (job_does a) reply ++ ps) (reports_by (job_does a) reply ++ rs) → Facts (job_behind a reply) (cards_by a reply cards) ps rs
reads-on at.Listens (act.OfCard answer) cards ps rs fits cause valid is = free-at (behind_typed answer) cards ps rs (typed-in answer) is
reads-on (at.Toils work) (act.Found need) cards ps rs fits cause valid is = free-at (meets work.pages need) cards ps rs (meets-in work.pages need) is
reads-on (at.Toils work) act.Failed cards ps rs fits cause valid is = absurd (no-some cause)
reads-on (at.Toils work) act.NoMemory cards ps rs fits cause valid is = absurd (no-some cause)
reads-on (at.OrdersCards pages) act.Done cards ps rs fits cause valid is = begins-taking is.files cards ps rs valid is.pages_are is.reports_are
reads-on (at.OrdersCards pages) act.Stopped cards ps rs fits cause valid is = absurd (no-some cause)
reads-on (at.TakesCards n items pages) (act.OfPage page) cards ps rs fits cause valid (inl none) = absurd (none-left (OfPage page) ps none)
reads-on (at.TakesCards n items pages) (act.OfPage page) cards ps rs fits cause valid (inr is) =
    takes-page n items pages cards page ps rs is (walk n is.hand is.rest is.fits is.valid)
reads-on (at.TakesCards n items pages) act.Stopped cards ps rs fits cause valid is = absurd (no-some cause)
reads-on (at.TakesReport items pages) (act.OfArg report) cards ps rs fits cause valid is =
    (let both = same-arg report (arg.Bool (file_sound true cards)) rs (as_args (reports_from is.files (behind_file cards))) is.reports_are in
    record { files = is.files; pages_are = is.pages_are; reports_are = both.1 })
reads-on (at.TakesReport items pages) act.Stopped cards ps rs fits cause valid is = absurd (no-some cause)
reads-on (at.Accepts pages) (act.OfCard answer) cards ps rs fits cause valid is =
    free-at (behind_accepted pages answer) cards ps rs (accepted-in pages answer) is
reads-on (at.Displays line pages) act.Done cards ps rs fits cause valid is = is
reads-on (at.Displays line pages) act.Failed cards ps rs fits cause valid is = absurd (no-some cause)
reads-on (at.Displays line pages) act.NoMemory cards ps rs fits cause valid is = absurd (no-some cause)
reads-on (at.OrdersPrinter page behind) act.Done cards ps rs fits cause valid is = is
reads-on (at.OrdersPrinter page behind) act.Stopped cards ps rs fits cause valid is = absurd (no-some cause)
reads-on (at.PutsPage page behind pages) act.Done cards ps rs fits cause valid is =
    free-at (behind_put behind (suc pages)) cards ps rs (put-in behind (suc pages)) is
reads-on (at.PutsPage page behind pages) act.Stopped cards ps rs fits cause valid is = absurd (no-some cause)
reads-on (at.TakesPrinted lines) (act.OfArg report) cards ps rs fits cause valid is = free-at (answers lines) cards ps rs (answers-in lines) is
reads-on (at.TakesPrinted lines) act.Stopped cards ps rs fits cause valid is = absurd (no-some cause)
reads-on (at.AnswersLine line later) act.Done cards ps rs fits cause valid is = free-at (answers later) cards ps rs (answers-in later) is
reads-on (at.AnswersLine line later) act.Failed cards ps rs fits cause valid is = absurd (no-some cause)
reads-on (at.AnswersLine line later) act.NoMemory cards ps rs fits cause valid is = absurd (no-some cause)
reads-on at.DismissesInput act.Done cards ps rs fits cause valid is = is
reads-on at.DismissesInput act.Stopped cards ps rs fits cause valid is = absurd (no-some cause)
reads-on at.DismissesOutput act.Done cards ps rs fits cause valid is = is
reads-on at.DismissesOutput act.Stopped cards ps rs fits cause valid is = absurd (no-some cause)
reads-on at.HasLeft act.Done cards ps rs fits cause valid is = is
reads-on a reply cards ps rs fits cause valid is = absurd fits

-- ---- a history
abbrev taken_pages : List SoloEntry → List Parcel
taken_pages h = moved 2 Receiver (acts solo 2 h)

abbrev taken_reports : List SoloEntry → List Parcel
taken_reports h = moved 3 Receiver (acts solo 2 h)

module _ (cards : List Item) (files : ℕ) (valid : AreItems cards) where
  abbrev AllPages : List SoloEntry → List Parcel → Type 0
  AllPages h ps = as_pages (pages_from files cards) ≡ taken_pages h ++ ps

  abbrev AllReports : List SoloEntry → List Parcel → Type 0
  AllReports h rs = as_args (reports_from files cards) ≡ taken_reports h ++ rs

  reads-after : (h : List SoloEntry) (reply : Reply) (ps rs : List Parcel) (a : Action) → job_does (place job h) ≡ a → Fits a reply
      → given_cause view job (place job h) a reply ≡ None
      → Facts (place job h) (cards_behind cards h) (pages_by a reply ++ ps) (reports_by a reply ++ rs)
      → Facts (job_behind (place job h) reply) (cards_by (place job h) reply (cards_behind cards h)) ps rs
  reads-after h reply ps rs a same fits cause is =
      subst (λ a. Fits a reply → given_cause view job (place job h) a reply ≡ None
      → Facts (place job h) (cards_behind cards h) (pages_by a reply ++ ps) (reports_by a reply ++ rs)
      → Facts (job_behind (place job h) reply) (cards_by (place job h) reply (cards_behind cards h)) ps rs) same
      (λ fits cause is. reads-on (place job h) reply (cards_behind cards h) ps rs fits cause (left-valid cards h valid) is) fits cause is

  reads : (h : List SoloEntry) (ps rs : List Parcel) → Follows solo 2 h → caused view job h ≡ None → AllPages h ps → AllReports h rs
      → Facts (place job h) (cards_behind cards h) ps rs
  reads [] ps rs follows none p r = record { files = files; pages_are = sym p; reports_are = sym r }
  reads (Does a reply ∷ h) ps rs follows none p r =
      let before = or-none (caused view job h) _ none in
      let cause = or-new (caused view job h) _ none in
      let was = reads h (pages_by a reply ++ ps) (reports_by a reply ++ rs) follows.2 before (p ∙ append_assoc (taken_pages h) (pages_by a reply) ps)
      (r ∙ append_assoc (taken_reports h) (reports_by a reply) rs) in
      reads-after h reply ps rs a (does-next table 2 h a before follows.0) follows.1 cause was
  reads (LacksMemory a reply ∷ h) ps rs follows none p r = absurd (lacking-some (caused view job h) _ none)
  reads (Delays a ∷ h) ps rs follows none p r =
      reads h ps rs follows.2 none (p ∙ ap (λ x. x ++ ps) (ap (λ x. taken_pages h ++ x) (none-delayed 2 Receiver (call 2 a)) ∙ append-nil (taken_pages h)))
      (r ∙ ap (λ x. x ++ rs) (ap (λ x. taken_reports h ++ x) (none-delayed 3 Receiver (call 2 a)) ∙ append-nil (taken_reports h)))

  -- ---- each card file is the next one
  file-right : (a : JobPlace) (reply : Reply) (left : List Item) (ps rs : List Parcel)
      → Facts a left (pages_by (job_does a) reply ++ ps) (reports_by (job_does a) reply ++ rs) → IsNextFile a reply left
  file-right (at.TakesReport items pages) (act.OfArg report) left ps rs is = next-file items report left ps rs is
  file-right a reply left ps rs is = tt

  done-file : (a : JobPlace) (left : List Item) → IsNextFile a act.Done left
  done-file (at.TakesReport items pages) left = tt
  done-file a left = tt

  stop-done : (b : ℕ) (reply : Reply) → Fits (act.Stop b) reply → reply ≡ act.Done
  stop-done b act.Done fits = refl
  stop-done b reply fits = absurd fits

  end-done : (how : Outcome) (reply : Reply) → Fits (act.Ended how) reply → reply ≡ act.Done
  end-done how act.Done fits = refl
  end-done how reply fits = absurd fits

  file-by : (h : List SoloEntry) (a : Action) (reply : Reply) (ps rs : List Parcel) → Follows solo 2 (Does a reply ∷ h)
      → AllPages h (pages_by a reply ++ ps) → AllReports h (reports_by a reply ++ rs) → Shape table 2 h (caused view job h) a
      → IsNextFile (place job h) reply (cards_behind cards h)
  file-by h a reply ps rs follows p r (AtPlace free same) =
      subst (λ a. Facts (place job h) (cards_behind cards h) (pages_by a reply ++ ps) (reports_by a reply ++ rs)
      → IsNextFile (place job h) reply (cards_behind cards h)) (sym same)
      (file-right (place job h) reply (cards_behind cards h) ps rs)
      (reads h (pages_by a reply ++ ps) (reports_by a reply ++ rs) follows.2 free p r)
  file-by h a reply ps rs follows p r (Stopping b stop) =
      subst (λ reply. IsNextFile (place job h) reply (cards_behind cards h)) (sym (stop-done b reply (subst (λ a. Fits a reply) stop.is follows.1)))
      (done-file (place job h) (cards_behind cards h))
  file-by h a reply ps rs follows p r (Ending end) =
      subst (λ reply. IsNextFile (place job h) reply (cards_behind cards h)) (sym (end-done end.why reply (subst (λ a. Fits a reply) end.is follows.1)))
      (done-file (place job h) (cards_behind cards h))

  next-files : (h : List SoloEntry) (ps rs : List Parcel) → Follows solo 2 h → AllPages h ps → AllReports h rs → AreNextFiles cards h
  next-files [] ps rs follows p r = tt
  next-files (Does a reply ∷ h) ps rs follows p r =
      let pb = p ∙ append_assoc (taken_pages h) (pages_by a reply) ps in
      let rb = r ∙ append_assoc (taken_reports h) (reports_by a reply) rs in (
        file-by h a reply ps rs follows pb rb (next-shape table placed 2 h a is-2 follows.0),
        next-files h (pages_by a reply ++ ps) (reports_by a reply ++ rs) follows.2 pb rb,
      )
  next-files (LacksMemory a reply ∷ h) ps rs follows p r =
      next-files h (pages_by a reply ++ ps) (reports_by a reply ++ rs) follows.2 (p ∙ append_assoc (taken_pages h) (pages_by a reply) ps)
      (r ∙ append_assoc (taken_reports h) (reports_by a reply) rs)
  next-files (Delays a ∷ h) ps rs follows p r =
      next-files h ps rs follows.2
      (p ∙ ap (λ x. x ++ ps) (ap (λ x. taken_pages h ++ x) (none-delayed 2 Receiver (call 2 a)) ∙ append-nil (taken_pages h)))
      (r ∙ ap (λ x. x ++ rs) (ap (λ x. taken_reports h ++ x) (none-delayed 3 Receiver (call 2 a)) ∙ append-nil (taken_reports h)))

-- In each reached state over a told deck each card file that it took is the next one.
pub files-are-next : (cards : List Item) (d : Devices) (s : SoloState) → d.cards ≡ Some cards → IsReached d s → AreNextFiles cards (s.histories 2)
files-are-next cards d s told reached =
    let st = reached-stands solo-lawful openings (record { devices = d; sound = reached.sound }) s reached.reached in
    let put = put-first cards (s.histories 1) (st.follows 1) (cards-tell cards d s told reached) in
    let (pages, p) = st.told 2 ([], refl) in
    let (reports, r) = st.told 3 ([], refl) in
    let over_pages = (st.buffers.hand_over 2).parcels pages p in
    let over_reports = (st.buffers.hand_over 3).parcels reports r in
    next-files cards put.files (reached.sound.cards cards told) (s.histories 2) (pages ++ put.pages_later) (reports ++ put.reports_later) (st.follows 2)
    (put.pages ∙ ap (λ x. x ++ put.pages_later) (sym over_pages) ∙ append_assoc _ pages put.pages_later)
    (put.reports ∙ ap (λ x. x ++ put.reports_later) (sym over_reports) ∙ append_assoc _ reports put.reports_later)
