-- What the work of the job process begins with is what the cards and the typed lines hand on, need by need.
use Rattle.std.proofs.Common.{◌≡◌, ℕ, zero, suc, ◌+◌, Bool, true, false, if◌then◌else◌, List, [], ◌∷◌, ◌++◌, length, drop, Option, None, Some, refl, sym, ◌∙◌, ap, subst}
use Rattle.std.specs.Option.{option_map}
use Rattle.std.proofs.lemmas.List.{append-nil}
use Rattle.solo_base.specs.Blanks.{trimmed}
use Rattle.solo_base.specs.declared.item.Item.{Item}
use Rattle.solo_base.specs.declared.item.Item.TheVariants.{Line, Spoiled}
use Rattle.solo_base.specs.declared.item.Feed.TheVariants as feed
use Rattle.solo_base.specs.declared.page.Page.{Page}
use Rattle.solo_base.specs.declared.outcome.Outcome.{Outcome}
use Rattle.solo_base.specs.declared.outcome.Outcome.TheVariants as outcome
use Rattle.solo_devices.specs.declared.card_read.CardRead.{CardRead}
use Rattle.solo_devices.specs.declared.card_read.CardRead.TheVariants as read
use Rattle.solo_devices.specs.CardUnit.{item_of}
use Rattle.network_law.specs.Network.{Follows}
use Rattle.network_law.proofs.Reached.{reached-stands}
use Rattle.exchange_law.specs.Pages.{is_last, page_with, page_gives, items_read}
use Rattle.place_law.specs.Process.{Does, LacksMemory, Delays, action_of, place, caused, given_cause, next_action}
use Rattle.place_law.proofs.Ended.{ends-rightly}
use Rattle.place_law.proofs.Followed.{holds-reached}
use Rattle.place_law.proofs.Nexts.{or-none, or-new, Shape, AtPlace, Stopping, Ending, next-shape, next-is}
use Rattle.place_law.proofs.Together.{done-free}
use Rattle.solo_needs.specs.Needs.{Given, OfLine, OfTyped, OfNothing, Need, CardsNeeded, LineNeeded, DisplayNeeded, PageNeeded, EndNeeded}
use Rattle.solo_needs.specs.Handing.{Ahead, Handed, behind_file, next_feed, later_lines, is_nothing, line_handed, hands, no_command, HandsOn}
use Rattle.solo_law.specs.Actions.{Action, Reply}
use Rattle.solo_law.specs.Actions as act
use Rattle.solo_law.specs.Replies.{Fits, ends_so, view}
use Rattle.solo_law.specs.InputPlaces.{InputPlace, input_does}
use Rattle.solo_law.specs.InputPlaces as input_at
use Rattle.solo_law.specs.OutputPlaces.{OutputPlace, output_does}
use Rattle.solo_law.specs.OutputPlaces as output_at
use Rattle.solo_law.specs.JobPlaces.{JobPlace, Behind, GoesOn, EndsWith, job_does, job_behind, answers, puts_page, ends, meets, begins_with, behind_cards, behind_put, file_of, job}
use Rattle.solo_law.specs.JobPlaces as at
use Rattle.solo_law.specs.Devices.{Devices, Allows}
use Rattle.solo_law.specs.Devices as devices
use Rattle.solo_law.specs.Solo.{process, table, solo, opened, SoloState, SoloEntry, IsReached, IsProcess, openings}
use Rattle.solo_law.specs.Told.{need_by, needs, begun_by, begun}
use Rattle.solo_law.specs.Begins.{WorkHanded}
use Rattle.solo_law.proofs.Placed.{each-process, is-2, seats, placed, solo-lawful}
use Rattle.solo_law.proofs.Shown.{lacking-some}
use Rattle.solo_law.proofs.InputFiles.{off}
use Rattle.solo_law.proofs.JobFiles.{cards_by, cards_behind, as_given, IsNextFile, AreNextFiles, files-are-next}
use Rattle.solo_law.proofs.Nones.{no-none, no-some}

-- ---- one piece of work more
on-one : (before : Need) (ahead : Ahead) (givens : List Given) (found : List Need) (last : Need) (left : Ahead) (given : Given) (behind : Ahead) (need : Need)
    → HandsOn before ahead givens found last left → hands last left ≡ Some (record { given = given; ahead = behind })
    → HandsOn before ahead (givens ++ given ∷ []) (found ++ need ∷ []) need behind
on-one before ahead [] [] last left given behind need is e =
    (behind, ap (λ n. hands n ahead) is.0 ∙ ap (hands last) is.1 ∙ e, (refl, refl))
on-one before ahead (first ∷ givens) (next ∷ found) last left given behind need is e =
    (is.0, is.1, on-one next is.0 givens found last left given behind need is.2 e)
on-one before ahead [] (next ∷ found) last left given behind need is e = absurd is
on-one before ahead (first ∷ givens) [] last left given behind need is e = absurd is

-- ---- what a place says of what is handed
abbrev unread : List Item → List Item → Ahead
unread cards keys = record { cards = cards; keys = keys }

abbrev handed : Given → Ahead → Option Handed
handed given ahead = Some (record { given = given; ahead = ahead })

-- between commands, and where a command goes on with nothing
abbrev Between : Need → Ahead → Ahead → Type 0
Between last left now = hands last left ≡ line_handed now.cards now.keys

abbrev WithNothing : Need → Ahead → Ahead → Type 0
WithNothing last left now = hands last left ≡ handed OfNothing now

abbrev BehindSo : Behind → Need → Ahead → Ahead → Type 0
BehindSo GoesOn last left now = WithNothing last left now
BehindSo (EndsWith lines) last left now = Between last left now

-- `left` is unread behind the work so far, and `now` by what it took since
abbrev StandsAt : JobPlace → Need → Ahead → Ahead → Type 0
StandsAt at.Listens last left now = Between last left now
StandsAt (at.Toils work) last left now = hands last left ≡ handed work.given now
StandsAt (at.OrdersCards pages) last left now = (last ≡ CardsNeeded) × (left ≡ now)
StandsAt (at.TakesCards taken items pages) last left now = (last ≡ CardsNeeded) × (left ≡ now)
StandsAt (at.TakesReport items pages) last left now = (last ≡ CardsNeeded) × (left ≡ now)
StandsAt (at.Accepts pages) last left now = (last ≡ LineNeeded) × (left ≡ now)
StandsAt (at.Displays line pages) last left now = WithNothing last left now
StandsAt (at.OrdersPrinter page behind) last left now = BehindSo behind last left now
StandsAt (at.PutsPage page behind pages) last left now = BehindSo behind last left now
StandsAt (at.TakesPrinted lines) last left now = Between last left now
StandsAt (at.AnswersLine line later) last left now = Between last left now
StandsAt at.DismissesInput last left now = Between last left now × (now.keys ≡ [])
StandsAt at.DismissesOutput last left now = Between last left now × (now.keys ≡ [])
StandsAt at.HasLeft last left now = Between last left now × (now.keys ≡ [])

answers-stand : (lines : List (List ℕ)) (last : Need) (left now : Ahead) → Between last left now → StandsAt (answers lines) last left now
answers-stand [] last left now is = is
answers-stand (line ∷ later) last left now is = is

puts-stand : (pages : ℕ) (page : Page) (behind : Behind) (last : Need) (left now : Ahead) → BehindSo behind last left now
    → StandsAt (puts_page pages page behind) last left now
puts-stand zero page behind last left now is = is
puts-stand (suc pages) page behind last left now is = is

ends-stand : (pages : ℕ) (printed lines : List (List ℕ)) (last : Need) (left now : Ahead) → Between last left now
    → StandsAt (ends pages printed lines) last left now
ends-stand zero [] lines last left now is = answers-stand lines last left now is
ends-stand zero (line ∷ printed) lines last left now is = is
ends-stand (suc pages) printed lines last left now is = is

meets-stand : (pages : ℕ) (need : Need) (now : Ahead) → StandsAt (meets pages need) need now now
meets-stand pages CardsNeeded now = (refl, refl)
meets-stand pages LineNeeded now = (refl, refl)
meets-stand pages (DisplayNeeded line) now = refl
meets-stand pages (PageNeeded printed) now = puts-stand pages (page_with pages false printed) GoesOn (PageNeeded printed) now now refl
meets-stand pages (EndNeeded printed lines) now = ends-stand pages printed lines (EndNeeded printed lines) now now refl

typed-stand : (front line : List ℕ) (cards rest : List Item) (last : Need) (left : Ahead)
    → hands last left ≡ (if is_nothing front then line_handed cards rest else handed (OfLine (Line line)) (unread cards rest))
    → StandsAt (begins_with front line) last left (unread cards rest)
typed-stand [] line cards rest last left is = is
typed-stand (code ∷ front) line cards rest last left is = is

cards-stand : (whole : Bool) (taken : ℕ) (items : List Item) (pages : ℕ) (last : Need) (left now : Ahead) → (last ≡ CardsNeeded) × (left ≡ now)
    → StandsAt (behind_cards whole taken items pages) last left now
cards-stand true taken items pages last left now is = is
cards-stand false taken items pages last left now is = is

put-stand : (behind : Behind) (pages : ℕ) (last : Need) (left now : Ahead) → BehindSo behind last left now → StandsAt (behind_put behind pages) last left now
put-stand GoesOn pages last left now is = is
put-stand (EndsWith lines) pages last left now is = is

-- ---- typed lines that an entry takes
abbrev NextKey : CardRead → List Item → List Item → Type 0
NextKey (read.Card line) keys rest = keys ≡ Line line ∷ rest
NextKey read.Spoiled keys rest = keys ≡ Spoiled ∷ rest
NextKey read.End keys rest = (keys ≡ []) × (rest ≡ [])
NextKey other keys rest = keys ≡ rest

next-key : (answer : CardRead) (keys rest : List Item) → keys ≡ item_of answer ++ rest → (answer ≡ read.End → keys ≡ []) → NextKey answer keys rest
next-key (read.Card line) keys rest e end = e
next-key read.Spoiled keys rest e end = e
next-key read.End keys rest e end = (end refl, sym e ∙ end refl)
next-key read.Failed keys rest e end = e
next-key read.Limit keys rest e end = e

abbrev KeysSo : Action → Reply → List Item → List Item → Type 0
KeysSo act.Accept (act.OfCard answer) keys rest = NextKey answer keys rest
KeysSo action reply keys rest = keys ≡ rest

-- ---- one entry
abbrev last_by : Action → Reply → Need → Need
last_by (act.Works work) (act.Found need) last = need
last_by action reply last = last

abbrev left_by : Action → Reply → Ahead → Ahead → Ahead
left_by (act.Works work) (act.Found need) now left = now
left_by action reply now left = left

-- with other typed lines unread
rest-stands : (a : JobPlace) (last : Need) (left : Ahead) (cards keys rest : List Item) → keys ≡ rest → StandsAt a last left (unread cards keys)
    → StandsAt a last left (unread cards rest)
rest-stands a last left cards keys rest e is = subst (λ keys. StandsAt a last left (unread cards keys)) e is

with-cards : (last : Need) (left : Ahead) (cards keys rest : List Item) (given : Given) → (last ≡ CardsNeeded) × (left ≡ unread cards keys)
    → given ≡ as_given cards → keys ≡ rest → hands last left ≡ handed given (unread (behind_file cards) rest)
with-cards last left cards keys rest given is file e =
    ap (λ n. hands n left) is.0 ∙ ap (hands CardsNeeded) is.1 ∙ ap (λ g. handed g (unread (behind_file cards) keys)) (sym file)
    ∙ ap (λ keys. handed given (unread (behind_file cards) keys)) e

with-line : (last : Need) (left : Ahead) (cards keys : List Item) → (last ≡ LineNeeded) × (left ≡ unread cards keys)
    → hands last left ≡ handed (OfTyped (next_feed keys)) (unread cards (later_lines keys))
with-line last left cards keys is = ap (λ n. hands n left) is.0 ∙ ap (hands LineNeeded) is.1

typed-as : (cards keys other : List Item) → keys ≡ other
    → handed (OfTyped (next_feed keys)) (unread cards (later_lines keys)) ≡ handed (OfTyped (next_feed other)) (unread cards (later_lines other))
typed-as cards keys other e = ap (λ keys. handed (OfTyped (next_feed keys)) (unread cards (later_lines keys))) e

stands-on : (a : JobPlace) (reply : Reply) (last : Need) (left : Ahead) (cards keys rest : List Item) → Fits (job_does a) reply
    → given_cause view job a (job_does a) reply ≡ None → KeysSo (job_does a) reply keys rest → IsNextFile a reply cards
    → StandsAt a last left (unread cards keys)
    → StandsAt (job_behind a reply) (last_by (job_does a) reply last) (left_by (job_does a) reply (unread cards keys) left)
    (unread (cards_by a reply cards) rest)
stands-on at.Listens (act.OfCard (read.Card line)) last left cards keys rest fits cause so file is =
    typed-stand (trimmed line) line cards rest last left (is ∙ ap (line_handed cards) so)
stands-on at.Listens (act.OfCard read.Spoiled) last left cards keys rest fits cause so file is = is ∙ ap (line_handed cards) so
stands-on at.Listens (act.OfCard read.End) last left cards keys rest fits cause so file is = (is ∙ ap (line_handed cards) (so.0 ∙ sym so.1), so.1)
stands-on at.Listens (act.OfCard read.Failed) last left cards keys rest fits cause so file is = absurd (no-some cause)
stands-on at.Listens (act.OfCard read.Limit) last left cards keys rest fits cause so file is = absurd (no-some cause)
stands-on (at.Toils work) (act.Found need) last left cards keys rest fits cause so file is =
    rest-stands (meets work.pages need) need (unread cards keys) cards keys rest so (meets-stand work.pages need (unread cards keys))
stands-on (at.Toils work) act.Failed last left cards keys rest fits cause so file is = absurd (no-some cause)
stands-on (at.Toils work) act.NoMemory last left cards keys rest fits cause so file is = absurd (no-some cause)
stands-on (at.OrdersCards pages) act.Done last left cards keys rest fits cause so file is = (is.0, is.1 ∙ ap (unread cards) so)
stands-on (at.OrdersCards pages) act.Stopped last left cards keys rest fits cause so file is = absurd (no-some cause)
stands-on (at.TakesCards taken items pages) (act.OfPage page) last left cards keys rest fits cause so file is =
    cards-stand (is_last page) (taken + 1) (items ++ items_read (page_gives taken page)) pages last left (unread cards rest) (is.0, is.1 ∙ ap (unread cards) so)
stands-on (at.TakesCards taken items pages) act.Stopped last left cards keys rest fits cause so file is = absurd (no-some cause)
stands-on (at.TakesReport items pages) (act.OfArg report) last left cards keys rest fits cause so file is =
    with-cards last left cards keys rest (file_of items report) is file so
stands-on (at.TakesReport items pages) act.Stopped last left cards keys rest fits cause so file is = absurd (no-some cause)
stands-on (at.Accepts pages) (act.OfCard (read.Card line)) last left cards keys rest fits cause so file is =
    with-line last left cards keys is ∙ typed-as cards keys (Line line ∷ rest) so
stands-on (at.Accepts pages) (act.OfCard read.Spoiled) last left cards keys rest fits cause so file is =
    with-line last left cards keys is ∙ typed-as cards keys (Spoiled ∷ rest) so
stands-on (at.Accepts pages) (act.OfCard read.End) last left cards keys rest fits cause so file is =
    with-line last left cards keys is ∙ typed-as cards keys [] so.0 ∙ ap (λ rest. handed (OfTyped feed.End) (unread cards rest)) (sym so.1)
stands-on (at.Accepts pages) (act.OfCard read.Failed) last left cards keys rest fits cause so file is = absurd (no-some cause)
stands-on (at.Accepts pages) (act.OfCard read.Limit) last left cards keys rest fits cause so file is = absurd (no-some cause)
stands-on (at.Displays line pages) act.Done last left cards keys rest fits cause so file is = is ∙ ap (λ keys. handed OfNothing (unread cards keys)) so
stands-on (at.Displays line pages) act.Failed last left cards keys rest fits cause so file is = absurd (no-some cause)
stands-on (at.Displays line pages) act.NoMemory last left cards keys rest fits cause so file is = absurd (no-some cause)
stands-on (at.OrdersPrinter page behind) act.Done last left cards keys rest fits cause so file is =
    rest-stands (at.PutsPage page behind 0) last left cards keys rest so is
stands-on (at.OrdersPrinter page behind) act.Stopped last left cards keys rest fits cause so file is = absurd (no-some cause)
stands-on (at.PutsPage page behind pages) act.Done last left cards keys rest fits cause so file is =
    put-stand behind (suc pages) last left (unread cards rest) (rest-stands (at.PutsPage page behind pages) last left cards keys rest so is)
stands-on (at.PutsPage page behind pages) act.Stopped last left cards keys rest fits cause so file is = absurd (no-some cause)
stands-on (at.TakesPrinted lines) (act.OfArg report) last left cards keys rest fits cause so file is =
    answers-stand lines last left (unread cards rest) (is ∙ ap (line_handed cards) so)
stands-on (at.TakesPrinted lines) act.Stopped last left cards keys rest fits cause so file is = absurd (no-some cause)
stands-on (at.AnswersLine line later) act.Done last left cards keys rest fits cause so file is =
    answers-stand later last left (unread cards rest) (is ∙ ap (line_handed cards) so)
stands-on (at.AnswersLine line later) act.Failed last left cards keys rest fits cause so file is = absurd (no-some cause)
stands-on (at.AnswersLine line later) act.NoMemory last left cards keys rest fits cause so file is = absurd (no-some cause)
stands-on at.DismissesInput act.Done last left cards keys rest fits cause so file is = rest-stands at.DismissesOutput last left cards keys rest so is
stands-on at.DismissesInput act.Stopped last left cards keys rest fits cause so file is = absurd (no-some cause)
stands-on at.DismissesOutput act.Done last left cards keys rest fits cause so file is = rest-stands at.HasLeft last left cards keys rest so is
stands-on at.DismissesOutput act.Stopped last left cards keys rest fits cause so file is = absurd (no-some cause)
stands-on at.HasLeft act.Done last left cards keys rest fits cause so file is = rest-stands at.HasLeft last left cards keys rest so is
stands-on a reply last left cards keys rest fits cause so file is = absurd fits

-- ---- the work that it does
abbrev WorkSo : Action → Need → Ahead → Ahead → Type 0
WorkSo (act.Works work) last left now = hands last left ≡ handed work.given now
WorkSo action last left now = Unit {0}

work-so : (a : JobPlace) (last : Need) (left now : Ahead) → StandsAt a last left now → WorkSo (job_does a) last left now
work-so (at.Toils work) last left now is = is
work-so a last left now is = tt

hands-grow : (a : Action) (r : Reply) (first now : Ahead) (givens : List Given) (found : List Need) (last : Need) (left : Ahead) → WorkSo a last left now
    → HandsOn no_command first givens found last left
    → HandsOn no_command first (givens ++ begun_by a r) (found ++ need_by a r) (last_by a r last) (left_by a r now left)
hands-grow (act.Works work) (act.Found need) first now givens found last left so is = on-one no_command first givens found last left work.given now need is so
hands-grow a r first now givens found last left so is =
    subst (λ givens. HandsOn no_command first givens (found ++ []) last left) (sym (append-nil givens))
    (subst (λ found. HandsOn no_command first givens found last left) (sym (append-nil found)) is)

-- ---- the job process alone accepts typed lines
abbrev AcceptsNot : Action → Type 0
AcceptsNot act.Accept = ⊥
AcceptsNot other = Unit {0}

input-accepts_not : (a : InputPlace) → AcceptsNot (input_does a)
input-accepts_not input_at.AwaitsOrder = tt
input-accepts_not (input_at.Reads pages hand sound) = tt
input-accepts_not (input_at.PutsFull page pages hand) = tt
input-accepts_not (input_at.PutsLast page sound) = tt
input-accepts_not (input_at.Reports sound) = tt
input-accepts_not input_at.IsOver = tt

output-accepts_not : (a : OutputPlace) → AcceptsNot (output_does a)
output-accepts_not output_at.AwaitsPrinting = tt
output-accepts_not (output_at.TakesPage pages) = tt
output-accepts_not (output_at.PrintsLine line later last pages) = tt
output-accepts_not output_at.ReportsPrinted = tt
output-accepts_not output_at.IsDone = tt

others-accept_not : (q : ℕ) (g : List SoloEntry) (a : Action) → IsProcess q → (q ≡ 2 → ⊥) → next_action view (process q) g ≡ Some a → AcceptsNot a
others-accept_not q g a one differ next =
    next-is table placed AcceptsNot q g a one
    (each-process (λ q. (q ≡ 2 → ⊥) → (a : (process q).Place) → AcceptsNot ((process q).does a)) q one (λ differ. input-accepts_not)
    (λ differ. absurd (differ refl)) (λ differ. output-accepts_not) differ) (λ b. tt) (λ how. tt) next

same-keys : (d : Devices) (entry : SoloEntry) (gained : List ℕ) → AcceptsNot (action_of entry) → (devices.given d entry gained).keys ≡ d.keys
same-keys d (Does act.Accept reply) gained is = absurd is
same-keys d (Does act.ReadCard (act.OfCard answer)) gained is = refl
same-keys d (Does (act.Works work) (act.Found need)) gained is = refl
same-keys d (Does (act.Print line) reply) gained is = refl
same-keys d (Does (act.Display line) reply) gained is = refl
same-keys d entry gained is = refl

some-none : (old : Option Outcome) (how : Outcome) → old ≡ Some how → old ≡ None → ⊥
some-none None how e f = cc
some-none (Some why) how e f = cc

-- ---- a history
module _ (cards keys : List Item) where
  record JobBegins (h : List SoloEntry) (now : List Item) : Type 0 where
    last : Need
    left : Ahead
    on : HandsOn no_command (unread cards keys) (begun h) (needs h) last left
    stands : caused view job h ≡ None → StandsAt (place job h) last left (unread (cards_behind cards h) now)

  closing : (h : List SoloEntry) (a : Action) (r : Reply) (now rest : List Item) (how : Outcome) → caused view job h ≡ Some how
      → ((last : Need) (left ahead : Ahead) → WorkSo a last left ahead) → JobBegins h now → JobBegins (Does a r ∷ h) rest
  closing h a r now rest how e none was = record {
    last = last_by a r was.last;
    left = left_by a r was.left was.left;
    on = hands-grow a r (unread cards keys) was.left (begun h) (needs h) was.last was.left (none was.last was.left was.left) was.on;
    stands = λ free. absurd (some-none (caused view job h) how e (or-none (caused view job h) _ free));
  }

  step : (h : List SoloEntry) (a : Action) (r : Reply) (now rest : List Item) → Follows solo 2 (Does a r ∷ h) → KeysSo a r now rest
      → IsNextFile (place job h) r (cards_behind cards h) → Shape table 2 h (caused view job h) a → JobBegins h now → JobBegins (Does a r ∷ h) rest
  step h a r now rest follows so file (AtPlace free same) was =
      let at = place job h in
      let ahead = unread (cards_behind cards h) now in
      let is = was.stands free in
      subst (λ a. Fits a r → KeysSo a r now rest → JobBegins (Does a r ∷ h) rest) (sym same) (λ fits so. record {
        last = last_by (job_does at) r was.last;
        left = left_by (job_does at) r ahead was.left;
        on = hands-grow (job_does at) r (unread cards keys) ahead (begun h) (needs h) was.last was.left (work-so at was.last was.left ahead is) was.on;
        stands = λ none. stands-on at r was.last was.left (cards_behind cards h) now rest fits (or-new (caused view job h) _ none) so file is;
      }) follows.1 so
  step h a r now rest follows so file (Stopping b stop) was =
      closing h a r now rest stop.why stop.caused_so
      (subst (λ a. (last : Need) (left ahead : Ahead) → WorkSo a last left ahead) (sym stop.is) (λ last left ahead. tt)) was
  step h a r now rest follows so file (Ending end) was =
      closing h a r now rest end.why end.caused_so
      (subst (λ a. (last : Need) (left ahead : Ahead) → WorkSo a last left ahead) (sym end.is) (λ last left ahead. tt)) was

  record KeysTell (h : List SoloEntry) (d : Devices) : Type 0 where
    unread_keys : List Item
    keys_now : d.keys ≡ Some unread_keys
    begins : AreNextFiles cards h → JobBegins h unread_keys

  plain : (h : List SoloEntry) (d after : Devices) (a : Action) (r : Reply) → after.keys ≡ d.keys → ((now : List Item) → KeysSo a r now now)
      → Follows solo 2 (Does a r ∷ h) → KeysTell h d → KeysTell (Does a r ∷ h) after
  plain h d after a r same so follows is = record {
    unread_keys = is.unread_keys;
    keys_now = same ∙ is.keys_now;
    begins = λ files. step h a r is.unread_keys is.unread_keys follows (so is.unread_keys) files.0 (next-shape table placed 2 h a is-2 follows.0)
        (is.begins files.1);
  }

  own : (h : List SoloEntry) (d : Devices) (entry : SoloEntry) (gained : List ℕ) → Follows solo 2 (entry ∷ h) → Allows d entry gained → KeysTell h d
      → KeysTell (entry ∷ h) (devices.given d entry gained)
  own h d (Does act.Accept (act.OfCard answer)) gained follows allowed is =
      let reads = allowed.0 in
      let (rest, e) = reads.item is.unread_keys is.keys_now in
      record {
        unread_keys = rest;
        keys_now = ap (option_map (drop (length (item_of answer)))) (is.keys_now ∙ ap Some e) ∙ ap Some (off answer rest);
        begins = λ files. step h act.Accept (act.OfCard answer) is.unread_keys rest follows
            (next-key answer is.unread_keys rest e (λ end. reads.end is.unread_keys is.keys_now end)) files.0
            (next-shape table placed 2 h act.Accept is-2 follows.0) (is.begins files.1);
      }
  own h d (Does act.ReadCard (act.OfCard answer)) gained follows allowed is =
      plain h d _ act.ReadCard (act.OfCard answer) refl (λ now. refl) follows is
  own h d (Does (act.Works work) (act.Found need)) gained follows allowed is =
      plain h d _ (act.Works work) (act.Found need) refl (λ now. refl) follows is
  own h d (Does (act.Print line) reply) gained follows allowed is = plain h d _ (act.Print line) reply refl (λ now. refl) follows is
  own h d (Does (act.Display line) reply) gained follows allowed is = plain h d _ (act.Display line) reply refl (λ now. refl) follows is
  own h d (LacksMemory a r) gained follows allowed is = record {
    unread_keys = is.unread_keys;
    keys_now = is.keys_now;
    begins = λ files. (let was = is.begins files in
        record { last = was.last; left = was.left; on = was.on; stands = λ none. absurd (lacking-some (caused view job h) _ none) });
  }
  own h d (Delays a) gained follows allowed is = record {
    unread_keys = is.unread_keys;
    keys_now = is.keys_now;
    begins = λ files. (let was = is.begins files in record { last = was.last; left = was.left; on = was.on; stands = was.stands });
  }
  own h d (Does a r) gained follows allowed is = plain h d _ a r refl (λ now. refl) follows is

  keys-tell : (d : Devices) (s : SoloState) → d.keys ≡ Some keys → IsReached d s → KeysTell (s.histories 2) s.devices
  keys-tell d s told reached =
      holds-reached solo 2 KeysTell own
      (λ q h g d entry gained one differ next suits allowed is. record {
        unread_keys = is.unread_keys;
        keys_now = same-keys d entry gained (others-accept_not q g (action_of entry) one differ next) ∙ is.keys_now;
        begins = is.begins;
      })
      openings (opened d) s refl record {
        unread_keys = keys;
        keys_now = told;
        begins = λ files. record { last = no_command; left = unread cards keys; on = (refl, refl); stands = λ none. refl };
      } reached.reached

  left-ends : (a : JobPlace) (last : Need) (left : Ahead) (behind now : List Item) → ends_so (job_does a) ≡ Some outcome.Done
      → StandsAt a last left (unread behind now) → (hands last left ≡ None) × (now ≡ [])
  left-ends at.HasLeft last left behind now e is = (is.0 ∙ ap (line_handed behind) is.1, is.1)
  left-ends other last left behind now e is = absurd (no-none e)

  pub begins-so : (d : Devices) (s : SoloState) → d.cards ≡ Some cards → d.keys ≡ Some keys → IsReached d s → WorkHanded cards keys s
  begins-so d s cards_told keys_told reached =
      let st = reached-stands solo-lawful openings (record { devices = d; sound = reached.sound }) s reached.reached in
      let h = s.histories 2 in
      let tell = keys-tell d s keys_told reached in
      let is = tell.begins (files-are-next cards d s cards_told reached) in
      record {
        last = is.last;
        ahead = is.left;
        handed = is.on;
        next = λ work none e. (
          unread (cards_behind cards h) tell.unread_keys,
          subst (λ a. StandsAt a is.last is.left (unread (cards_behind cards h) tell.unread_keys)) e (is.stands none),
        );
        ended = λ done.
            let free = done-free table placed seats (opened d) s st 2 is-2 done in
            let rightly = ends-rightly table placed 2 h outcome.Done is-2 (st.follows 2) done in
            let gone = left-ends (place job h) is.last is.left (cards_behind cards h) tell.unread_keys (rightly.done free) (is.stands free) in
            (gone.0, tell.keys_now ∙ ap Some gone.1);
      }
