-- What the input process put, of every history, is a first part of the pages and reports of the deck's card files.
use Rattle.std.proofs.Common.{◌≡◌, ℕ, suc, List, [], ◌∷◌, ◌++◌, length, drop, map, true, false, Option, None, Some, refl, sym, ◌∙◌, ap, subst, append_assoc}
use Rattle.std.specs.Option.{option_map}
use Rattle.std.proofs.lemmas.List.{append-nil}
use Rattle.solo_base.specs.declared.item.Item.{Item}
use Rattle.solo_base.specs.declared.item.Item.TheVariants.{Line, Spoiled}
use Rattle.solo_base.specs.declared.page.Page.{Page}
use Rattle.solo_base.specs.declared.system_call.Arg.{Arg}
use Rattle.solo_base.specs.declared.system_call.Arg.TheVariants as arg
use Rattle.solo_base.specs.declared.outcome.Outcome.{Outcome}
use Rattle.solo_base.specs.declared.outcome.Side.TheVariants.{Sender}
use Rattle.solo_devices.specs.declared.card_read.CardRead.{CardRead}
use Rattle.solo_devices.specs.declared.card_read.CardRead.TheVariants as read
use Rattle.solo_devices.specs.CardUnit.{item_of}
use Rattle.network_law.specs.Acts.{moved, moved_by}
use Rattle.network_law.specs.Network.{Follows, acts}
use Rattle.exchange_law.specs.Parcels.{Parcel, OfArg, OfPage}
use Rattle.exchange_law.proofs.Counted.{none-delayed}
use Rattle.place_law.specs.Process.{Does, LacksMemory, Delays, action_of, place, caused, given_cause, or_new, next_action}
use Rattle.place_law.proofs.Followed.{holds-reached}
use Rattle.place_law.proofs.Nexts.{or-none, or-new, does-next, Shape, AtPlace, Stopping, Ending, next-shape, next-is}
use Rattle.solo_law.specs.Actions.{Action, Reply}
use Rattle.solo_law.specs.Actions as act
use Rattle.solo_law.specs.Buffers.{call, went_by}
use Rattle.solo_law.specs.Replies.{Fits, view}
use Rattle.solo_law.specs.InputPlaces.{InputPlace, input_does, input_behind, input}
use Rattle.solo_law.specs.InputPlaces as at
use Rattle.solo_law.specs.OutputPlaces.{OutputPlace, output_does}
use Rattle.solo_law.specs.OutputPlaces as output_at
use Rattle.solo_law.specs.JobPlaces.{JobPlace, job_does}
use Rattle.solo_law.specs.JobPlaces as job_at
use Rattle.solo_law.specs.Devices.{Devices, Reads, Allows}
use Rattle.solo_law.specs.Devices as devices
use Rattle.solo_law.specs.Solo.{process, table, solo, opened, SoloState, SoloEntry, IsReached, IsProcess, openings}
use Rattle.solo_law.proofs.Placed.{each-process, is-1, placed}
use Rattle.solo_law.proofs.Shown.{lacking-some}
use Rattle.solo_law.proofs.CardFiles.{pages_from, reports_from, pages_ahead, reports_ahead, reads-end, reads-spoiled, reads-line}
use Rattle.solo_law.proofs.Nones.{no-none, no-some}

abbrev pub as_pages : List Page → List Parcel
as_pages pages = map OfPage pages

abbrev pub as_args : List Arg → List Parcel
as_args args = map OfArg args

-- ---- the next of what a device has ahead
abbrev pub IsNextItem : CardRead → List Item → Type 0
IsNextItem (read.Card line) items = (rest : List Item) × (items ≡ Line line ∷ rest)
IsNextItem read.Spoiled items = (rest : List Item) × (items ≡ Spoiled ∷ rest)
IsNextItem read.End items = items ≡ []
IsNextItem other items = Unit {0}

pub next-item : (answer : CardRead) (left rest : List Item) → left ≡ item_of answer ++ rest → (answer ≡ read.End → left ≡ []) → IsNextItem answer left
next-item (read.Card line) left rest e end = (rest, e)
next-item read.Spoiled left rest e end = (rest, e)
next-item read.End left rest e end = end refl
next-item read.Failed left rest e end = tt
next-item read.Limit left rest e end = tt

pub off : (answer : CardRead) (rest : List Item) → drop (length (item_of answer)) (item_of answer ++ rest) ≡ rest
off (read.Card line) rest = refl
off read.Spoiled rest = refl
off read.End rest = refl
off read.Failed rest = refl
off read.Limit rest = refl

-- ---- the cards that it read
abbrev pub read_by : Action → Reply → List Item
read_by act.ReadCard (act.OfCard answer) = item_of answer
read_by action reply = []

abbrev pub all_read : List SoloEntry → List Item
all_read [] = []
all_read (Does action reply ∷ h) = all_read h ++ read_by action reply
all_read (LacksMemory action reply ∷ h) = all_read h
all_read (Delays action ∷ h) = all_read h

abbrev pub IsCard : Action → Reply → List Item → Type 0
IsCard act.ReadCard (act.OfCard answer) cards = IsNextItem answer cards
IsCard action reply cards = Unit {0}

-- each card that it read was the next one
abbrev pub AreCards : List Item → List SoloEntry → Type 0
AreCards cards [] = Unit {0}
AreCards cards (Does action reply ∷ h) = ((left : List Item) → cards ≡ all_read h ++ left → IsCard action reply left) × AreCards cards h
AreCards cards (LacksMemory action reply ∷ h) = AreCards cards h
AreCards cards (Delays action ∷ h) = AreCards cards h

-- ---- one entry; an order makes one card file more come
record InputMoves (a : InputPlace) (reply : Reply) (cards : List Item) : Type 0 where
  left : List Item
  grow : ℕ → ℕ
  cards_are : cards ≡ read_by (input_does a) reply ++ left
  pages : (n : ℕ) → as_pages (pages_ahead a cards (grow n))
      ≡ moved_by 2 Sender (call 1 (input_does a)) (went_by (input_does a) reply) ++ as_pages (pages_ahead (input_behind a reply) left n)
  reports : (n : ℕ) → as_args (reports_ahead a cards (grow n))
      ≡ moved_by 3 Sender (call 1 (input_does a)) (went_by (input_does a) reply) ++ as_args (reports_ahead (input_behind a reply) left n)

abbrev same : ℕ → ℕ
same n = n

abbrev one_more : ℕ → ℕ
one_more n = suc n

input-moves : (a : InputPlace) (reply : Reply) (cards : List Item) → Fits (input_does a) reply → given_cause view input a (input_does a) reply ≡ None
    → IsCard (input_does a) reply cards → InputMoves a reply cards
input-moves at.AwaitsOrder (act.OfArg arg.Nil) cards fits cause is =
    record { left = cards; grow = same; cards_are = refl; pages = λ n. refl; reports = λ n. refl }
input-moves at.AwaitsOrder (act.OfArg other) cards fits cause is =
    record { left = cards; grow = one_more; cards_are = refl; pages = λ n. refl; reports = λ n. refl }
input-moves at.AwaitsOrder act.Stopped cards fits cause is = absurd (no-some cause)
input-moves (at.Reads pages hand sound) (act.OfCard (read.Card line)) cards fits cause is = record {
  left = is.0;
  grow = same;
  cards_are = is.1;
  pages = λ n. ap (λ cards. as_pages (pages_ahead (at.Reads pages hand sound) cards n)) is.1 ∙ ap as_pages (reads-line pages hand sound line is.0 n).pages_are;
  reports = λ n. ap (λ cards. as_args (reports_ahead (at.Reads pages hand sound) cards n)) is.1
      ∙ ap as_args (reads-line pages hand sound line is.0 n).reports_are;
}
input-moves (at.Reads pages hand sound) (act.OfCard read.Spoiled) cards fits cause is = record {
  left = is.0;
  grow = same;
  cards_are = is.1;
  pages = λ n. ap (λ cards. as_pages (pages_ahead (at.Reads pages hand sound) cards n)) is.1 ∙ ap as_pages (reads-spoiled pages hand sound is.0 n).pages_are;
  reports = λ n. ap (λ cards. as_args (reports_ahead (at.Reads pages hand sound) cards n)) is.1
      ∙ ap as_args (reads-spoiled pages hand sound is.0 n).reports_are;
}
input-moves (at.Reads pages hand sound) (act.OfCard read.End) cards fits cause is = record {
  left = [];
  grow = same;
  cards_are = is;
  pages = λ n. ap (λ cards. as_pages (pages_ahead (at.Reads pages hand sound) cards n)) is ∙ ap as_pages (reads-end pages hand sound n).pages_are;
  reports = λ n. ap (λ cards. as_args (reports_ahead (at.Reads pages hand sound) cards n)) is ∙ ap as_args (reads-end pages hand sound n).reports_are;
}
input-moves (at.Reads pages hand sound) (act.OfCard read.Failed) cards fits cause is = absurd (no-some cause)
input-moves (at.Reads pages hand sound) (act.OfCard read.Limit) cards fits cause is = absurd (no-some cause)
input-moves (at.PutsFull page pages hand) act.Done cards fits cause is =
    record { left = cards; grow = same; cards_are = refl; pages = λ n. refl; reports = λ n. refl }
input-moves (at.PutsFull page pages hand) act.Stopped cards fits cause is = absurd (no-some cause)
input-moves (at.PutsLast page sound) act.Done cards fits cause is =
    record { left = cards; grow = same; cards_are = refl; pages = λ n. refl; reports = λ n. refl }
input-moves (at.PutsLast page sound) act.Stopped cards fits cause is = absurd (no-some cause)
input-moves (at.Reports sound) act.Done cards fits cause is =
    record { left = cards; grow = same; cards_are = refl; pages = λ n. refl; reports = λ n. refl }
input-moves (at.Reports sound) act.Stopped cards fits cause is = absurd (no-some cause)
input-moves at.IsOver act.Done cards fits cause is =
    record { left = cards; grow = same; cards_are = refl; pages = λ n. refl; reports = λ n. refl }
input-moves a reply cards fits cause is = absurd fits

-- ---- a history
abbrev pub sent_pages : List SoloEntry → List Parcel
sent_pages h = moved 2 Sender (acts solo 1 h)

abbrev pub sent_reports : List SoloEntry → List Parcel
sent_reports h = moved 3 Sender (acts solo 1 h)

record InputStands (cards : List Item) (h : List SoloEntry) : Type 0 where
  left : List Item
  total : ℕ → ℕ
  cards_are : cards ≡ all_read h ++ left
  pages : (n : ℕ) → as_pages (pages_from (total n) cards) ≡ sent_pages h ++ as_pages (pages_ahead (place input h) left n)
  reports : (n : ℕ) → as_args (reports_from (total n) cards) ≡ sent_reports h ++ as_args (reports_ahead (place input h) left n)

module _ (cards : List Item) where
  stands-after : (h : List SoloEntry) (reply : Reply) → InputStands cards h → (a : Action) → input_does (place input h) ≡ a → Fits a reply
      → given_cause view input (place input h) a reply ≡ None → ((left : List Item) → cards ≡ all_read h ++ left → IsCard a reply left)
      → InputStands cards (Does a reply ∷ h)
  stands-after h reply was a same fits cause right =
      subst (λ a. Fits a reply → given_cause view input (place input h) a reply ≡ None
      → ((left : List Item) → cards ≡ all_read h ++ left → IsCard a reply left) → InputStands cards (Does a reply ∷ h)) same (λ fits cause right.
      let at = place input h in
      let m = input-moves at reply was.left fits cause (right was.left was.cards_are) in
      record {
        left = m.left;
        total = λ n. was.total (m.grow n);
        cards_are = was.cards_are ∙ ap (λ x. all_read h ++ x) m.cards_are ∙ sym (append_assoc (all_read h) (read_by (input_does at) reply) m.left);
        pages = λ n. was.pages (m.grow n) ∙ ap (λ x. sent_pages h ++ x) (m.pages n)
            ∙ sym (append_assoc (sent_pages h) (moved_by 2 Sender (call 1 (input_does at)) (went_by (input_does at) reply))
            (as_pages (pages_ahead (input_behind at reply) m.left n)));
        reports = λ n. was.reports (m.grow n) ∙ ap (λ x. sent_reports h ++ x) (m.reports n)
            ∙ sym (append_assoc (sent_reports h) (moved_by 3 Sender (call 1 (input_does at)) (went_by (input_does at) reply))
            (as_args (reports_ahead (input_behind at reply) m.left n)));
      }) fits cause right

  input-stands : (h : List SoloEntry) → Follows solo 1 h → caused view input h ≡ None → AreCards cards h → InputStands cards h
  input-stands [] follows none right = record { left = cards; total = same; cards_are = refl; pages = λ n. refl; reports = λ n. refl }
  input-stands (Does a reply ∷ h) follows none right =
      let before = or-none (caused view input h) _ none in
      let cause = or-new (caused view input h) _ none in
      stands-after h reply (input-stands h follows.2 before right.1) a (does-next table 1 h a before follows.0) follows.1 cause right.0
  input-stands (LacksMemory a reply ∷ h) follows none right = absurd (lacking-some (caused view input h) _ none)
  input-stands (Delays a ∷ h) follows none right =
      (let was = input-stands h follows.2 none right in
      record {
        left = was.left;
        total = was.total;
        cards_are = was.cards_are;
        pages = λ n. was.pages n ∙ ap (λ x. x ++ as_pages (pages_ahead (place input h) was.left n))
            (sym (append-nil (sent_pages h)) ∙ ap (λ x. sent_pages h ++ x) (sym (none-delayed 2 Sender (call 1 a))));
        reports = λ n. was.reports n ∙ ap (λ x. x ++ as_args (reports_ahead (place input h) was.left n))
            (sym (append-nil (sent_reports h)) ∙ ap (λ x. sent_reports h ++ x) (sym (none-delayed 3 Sender (call 1 a))));
      })

  -- ---- under every cause what was put is a first part of the pages and reports of some card files
  pub record PutFirst (h : List SoloEntry) : Type 0 where
    pub files : ℕ
    pub pages_later : List Parcel
    pub reports_later : List Parcel
    pub pages : as_pages (pages_from files cards) ≡ sent_pages h ++ pages_later
    pub reports : as_args (reports_from files cards) ≡ sent_reports h ++ reports_later

  put-of : (h : List SoloEntry) → InputStands cards h → PutFirst h
  put-of h is = record {
    files = is.total 0;
    pages_later = as_pages (pages_ahead (place input h) is.left 0);
    reports_later = as_args (reports_ahead (place input h) is.left 0);
    pages = is.pages 0;
    reports = is.reports 0;
  }

  -- what moves nothing at a side of its own
  abbrev MovesNone : Action → Reply → Type 0
  MovesNone a reply = (b : ℕ) → moved_by b Sender (call 1 a) (went_by a reply) ≡ []

  stop-moves_not : (b : ℕ) (reply : Reply) → MovesNone (act.Stop b) reply
  stop-moves_not b act.Stopped = λ c. refl
  stop-moves_not b reply = λ c. refl

  fault-moves_not : (a : InputPlace) (reply : Reply) (how : Outcome) → Fits (input_does a) reply → given_cause view input a (input_does a) reply ≡ Some how
      → MovesNone (input_does a) reply
  fault-moves_not at.AwaitsOrder (act.OfArg x) how fits e = absurd (no-none e)
  fault-moves_not at.AwaitsOrder act.Stopped how fits e = λ c. refl
  fault-moves_not (at.Reads pages hand sound) (act.OfCard answer) how fits e = λ c. refl
  fault-moves_not (at.PutsFull page pages hand) act.Done how fits e = absurd (no-none e)
  fault-moves_not (at.PutsFull page pages hand) act.Stopped how fits e = λ c. refl
  fault-moves_not (at.PutsLast page sound) act.Done how fits e = absurd (no-none e)
  fault-moves_not (at.PutsLast page sound) act.Stopped how fits e = λ c. refl
  fault-moves_not (at.Reports sound) act.Done how fits e = absurd (no-none e)
  fault-moves_not (at.Reports sound) act.Stopped how fits e = λ c. refl
  fault-moves_not at.IsOver act.Done how fits e = λ c. refl
  fault-moves_not a reply how fits e = absurd fits

  adds-nothing : (h : List SoloEntry) (a : Action) (reply : Reply) → MovesNone a reply → PutFirst h → PutFirst (Does a reply ∷ h)
  adds-nothing h a reply none is = record {
    files = is.files;
    pages_later = is.pages_later;
    reports_later = is.reports_later;
    pages = is.pages ∙ ap (λ x. x ++ is.pages_later) (sym (append-nil (sent_pages h)) ∙ ap (λ x. sent_pages h ++ x) (sym (none 2)));
    reports = is.reports ∙ ap (λ x. x ++ is.reports_later) (sym (append-nil (sent_reports h)) ∙ ap (λ x. sent_reports h ++ x) (sym (none 3)));
  }

  does-first : (a : Action) (r : Reply) (h : List SoloEntry) (new : Option Outcome) → Follows solo 1 (Does a r ∷ h) → AreCards cards (Does a r ∷ h)
      → given_cause view input (place input h) a r ≡ new → Shape table 1 h (caused view input h) a → PutFirst h → PutFirst (Does a r ∷ h)
  does-first a r h None follows right e (AtPlace free same) first =
      put-of (Does a r ∷ h)
      (input-stands (Does a r ∷ h) follows (ap (λ old. or_new old (given_cause view input (place input h) a r)) free ∙ e) right)
  does-first a r h (Some how) follows right e (AtPlace free same) first =
      adds-nothing h a r (subst (λ a. MovesNone a r) (sym same)
      (fault-moves_not (place input h) r how (subst (λ a. Fits a r) same follows.1)
      (subst (λ a. given_cause view input (place input h) a r ≡ Some how) same e))) first
  does-first a r h new follows right e (Stopping b stop) first = adds-nothing h a r (subst (λ a. MovesNone a r) (sym stop.is) (stop-moves_not b r)) first
  does-first a r h new follows right e (Ending end) first = adds-nothing h a r (subst (λ a. MovesNone a r) (sym end.is) (λ c. refl)) first

  pub put-first : (h : List SoloEntry) → Follows solo 1 h → AreCards cards h → PutFirst h
  put-first [] follows right = put-of [] (input-stands [] follows refl right)
  put-first (Does a r ∷ h) follows right =
      does-first a r h (given_cause view input (place input h) a r) follows right refl (next-shape table placed 1 h a is-1 follows.0)
      (put-first h follows.2 right.1)
  put-first (LacksMemory a reply ∷ h) follows right = absurd (no-lack follows.1.0) where
    no-lack : false ≡ true → ⊥
    no-lack e = cc
  put-first (Delays a ∷ h) follows right =
      (let is = put-first h follows.2 right in
      record {
        files = is.files;
        pages_later = is.pages_later;
        reports_later = is.reports_later;
        pages = is.pages ∙ ap (λ x. x ++ is.pages_later)
            (sym (append-nil (sent_pages h)) ∙ ap (λ x. sent_pages h ++ x) (sym (none-delayed 2 Sender (call 1 a))));
        reports = is.reports ∙ ap (λ x. x ++ is.reports_later)
            (sym (append-nil (sent_reports h)) ∙ ap (λ x. sent_reports h ++ x) (sym (none-delayed 3 Sender (call 1 a))));
      })

-- ---- the input process alone reads cards
abbrev ReadsNot : Action → Type 0
ReadsNot act.ReadCard = ⊥
ReadsNot other = Unit {0}

output-reads_not : (a : OutputPlace) → ReadsNot (output_does a)
output-reads_not output_at.AwaitsPrinting = tt
output-reads_not (output_at.TakesPage pages) = tt
output-reads_not (output_at.PrintsLine line later last pages) = tt
output-reads_not output_at.ReportsPrinted = tt
output-reads_not output_at.IsDone = tt

job-reads_not : (a : JobPlace) → ReadsNot (job_does a)
job-reads_not job_at.Listens = tt
job-reads_not (job_at.Toils work) = tt
job-reads_not (job_at.OrdersCards pages) = tt
job-reads_not (job_at.TakesCards taken items pages) = tt
job-reads_not (job_at.TakesReport items pages) = tt
job-reads_not (job_at.Accepts pages) = tt
job-reads_not (job_at.Displays line pages) = tt
job-reads_not (job_at.OrdersPrinter page behind) = tt
job-reads_not (job_at.PutsPage page behind pages) = tt
job-reads_not (job_at.TakesPrinted lines) = tt
job-reads_not (job_at.AnswersLine line later) = tt
job-reads_not job_at.DismissesInput = tt
job-reads_not job_at.DismissesOutput = tt
job-reads_not job_at.HasLeft = tt

others-read_not : (q : ℕ) (g : List SoloEntry) (a : Action) → IsProcess q → (q ≡ 1 → ⊥) → next_action view (process q) g ≡ Some a → ReadsNot a
others-read_not q g a one differ next =
    next-is table placed ReadsNot q g a one
    (each-process (λ q. (q ≡ 1 → ⊥) → (a : (process q).Place) → ReadsNot ((process q).does a)) q one (λ differ. absurd (differ refl))
    (λ differ. job-reads_not) (λ differ. output-reads_not) differ) (λ b. tt) (λ how. tt) next

same-cards : (d : Devices) (entry : SoloEntry) (gained : List ℕ) → ReadsNot (action_of entry) → (devices.given d entry gained).cards ≡ d.cards
same-cards d (Does act.ReadCard reply) gained is = absurd is
same-cards d (Does act.Accept (act.OfCard answer)) gained is = refl
same-cards d (Does (act.Works work) (act.Found need)) gained is = refl
same-cards d (Does (act.Print line) reply) gained is = refl
same-cards d (Does (act.Display line) reply) gained is = refl
same-cards d entry gained is = refl

same-rest : (front a b : List Item) → front ++ a ≡ front ++ b → a ≡ b
same-rest [] a b e = e
same-rest (x ∷ front) a b e = same-rest front a b cc

module _ (cards : List Item) where
  record CardsTell (h : List SoloEntry) (d : Devices) : Type 0 where
    left : List Item
    cards_now : d.cards ≡ Some left
    cards_are : cards ≡ all_read h ++ left
    given : AreCards cards h

  reads-one : (h : List SoloEntry) (d : Devices) (answer : CardRead) (gained : List ℕ) → Reads d.cards answer → CardsTell h d
      → CardsTell (Does act.ReadCard (act.OfCard answer) ∷ h) (devices.given d (Does act.ReadCard (act.OfCard answer)) gained)
  reads-one h d answer gained reads is =
      let (rest, e) = reads.item is.left is.cards_now in
      let card = next-item answer is.left rest e (λ end. reads.end is.left is.cards_now end) in
      record {
        left = rest;
        cards_now = ap (option_map (drop (length (item_of answer)))) (is.cards_now ∙ ap Some e) ∙ ap Some (off answer rest);
        cards_are = is.cards_are ∙ ap (λ x. all_read h ++ x) e ∙ sym (append_assoc (all_read h) (item_of answer) rest);
        given = (
          (λ left same. subst (IsNextItem answer) (same-rest (all_read h) is.left left (sym is.cards_are ∙ same)) card),
          is.given,
        );
      }

  plain : (h : List SoloEntry) (d after : Devices) (a : Action) (reply : Reply) → after.cards ≡ d.cards → read_by a reply ≡ []
      → ((left : List Item) → cards ≡ all_read h ++ left → IsCard a reply left) → CardsTell h d → CardsTell (Does a reply ∷ h) after
  plain h d after a reply same none right is = record {
    left = is.left;
    cards_now = same ∙ is.cards_now;
    cards_are = is.cards_are ∙ ap (λ x. x ++ is.left) (sym (append-nil (all_read h)) ∙ ap (λ x. all_read h ++ x) (sym none));
    given = (right, is.given);
  }

  still : (h : List SoloEntry) (d after : Devices) → after.cards ≡ d.cards → CardsTell h d → CardsTell h after
  still h d after same is = record { left = is.left; cards_now = same ∙ is.cards_now; cards_are = is.cards_are; given = is.given }

  own : (h : List SoloEntry) (d : Devices) (entry : SoloEntry) (gained : List ℕ) → Follows solo 1 (entry ∷ h) → Allows d entry gained → CardsTell h d
      → CardsTell (entry ∷ h) (devices.given d entry gained)
  own h d (Does act.ReadCard (act.OfCard answer)) gained follows allowed is = reads-one h d answer gained allowed.0 is
  own h d (Does act.Accept (act.OfCard answer)) gained follows allowed is = plain h d _ act.Accept (act.OfCard answer) refl refl (λ left e. tt) is
  own h d (Does (act.Works work) (act.Found need)) gained follows allowed is =
      plain h d _ (act.Works work) (act.Found need) refl refl (λ left e. tt) is
  own h d (Does (act.Print line) reply) gained follows allowed is = plain h d _ (act.Print line) reply refl refl (λ left e. tt) is
  own h d (Does (act.Display line) reply) gained follows allowed is = plain h d _ (act.Display line) reply refl refl (λ left e. tt) is
  own h d (LacksMemory a r) gained follows allowed is =
      record { left = is.left; cards_now = is.cards_now; cards_are = is.cards_are; given = is.given }
  own h d (Delays a) gained follows allowed is =
      record { left = is.left; cards_now = is.cards_now; cards_are = is.cards_are; given = is.given }
  own h d (Does a r) gained follows allowed is = plain h d _ a r refl refl (λ left e. tt) is

  -- In each reached state the cards that it read were the next ones.
  pub cards-tell : (d : Devices) (s : SoloState) → d.cards ≡ Some cards → IsReached d s → AreCards cards (s.histories 1)
  cards-tell d s told reached =
      (holds-reached solo 1 CardsTell own
      (λ q h g d entry gained one differ next suits allowed is.
      still h d _ (same-cards d entry gained (others-read_not q g (action_of entry) one differ next)) is)
      openings (opened d) s refl record { left = cards; cards_now = told; cards_are = refl; given = tt } reached.reached).given
