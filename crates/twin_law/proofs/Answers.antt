-- Whatever a process of the twin network does next, where it may call there is an answer in which nothing fails.
use Rattle.std.proofs.Common.{◌≡◌, ℕ, suc, ◌<◌, Bool, true, false, List, [], ◌∷◌, ◌++◌, length, drop, map, Option, None, Some, refl, sym, ◌∙◌, ap, subst, arith}
use Rattle.queue_var.specs.Sides.{stopped_by}
use Rattle.network_law.specs.Acts.{Went, Delayed, found_ready}
use Rattle.network_law.specs.Acts as go
use Rattle.network_law.specs.Buffer.{Buffer, Found, Ready, Lacking, Closed, found, parcel_found, IsFirst}
use Rattle.network_law.specs.Desk.{asked}
use Rattle.network_law.specs.Network.{IsEnabled, IsOne, MayCall, Fits, acts}
use Rattle.network_law.specs.Kept.{Stands, passed}
use Rattle.std.specs.List.{AllByRecursion}
use Rattle.solo_base.specs.declared.item.Item.{Item}
use Rattle.solo_base.specs.declared.item.Item.TheVariants.{Line, Spoiled}
use Rattle.solo_base.specs.declared.item.Feed.{Feed}
use Rattle.solo_base.specs.declared.page.Page.{Page}
use Rattle.solo_base.specs.declared.outcome.Side.{Side}
use Rattle.solo_base.specs.declared.outcome.Side.TheVariants.{Sender, Receiver}
use Rattle.solo_base.specs.Text.{line_text}
use Rattle.solo_devices.specs.declared.card_read.CardRead.{CardRead}
use Rattle.solo_devices.specs.CardUnit.{item_of}
use Rattle.page_codec.specs.Items.{AreItems}
use Rattle.page_codec.specs.Form.{page_of}
use Rattle.batch_procs.specs.Jobs.{Jobs, AreJobs, FilesAs}
use Rattle.batch_procs.specs.Parcels.{Parcel, OfFeed, OfPage, OfLine, OfLoad, is_last, IsAFeed, IsAPage}
use Rattle.place_law.specs.Process.{Does, Delays, action_of}
use Rattle.solo_base.specs.declared.item.Feed.TheVariants as feed
use Rattle.solo_devices.specs.declared.card_read.CardRead.TheVariants as read
use Rattle.batch_procs.specs.declared.actions.Reply.TheVariants as reply
use Rattle.twin_law.specs.Process.{Action, ReadCard, PutFeed, TakeFeed, AwaitRoom, AwaitItem, Request, PutPage, TakePage, Load, Release, Local, Print, Stop, Ended, Entry, next_action}
use Rattle.twin_law.specs.Table.{process}
use Rattle.twin_law.specs.Twin.{seat, call, went, Suits, DeckGives, Allows, twin, TwinState, TwinEvent}
use Rattle.twin_law.specs.Opening.{is_line, AreGoodFiles, AreCards, IsSmooth}
use Rattle.twin_law.proofs.Lawful.{good as good-next, lawful}
use Rattle.twin_law.proofs.Marks.{marks-append}
use Rattle.twin_law.proofs.Through.{KindAt, kinds-inside, acts-rightly}

module _ {L : Type 0} {J : Jobs L} (jobs : AreJobs J) where
  -- an entry that may come, with the bytes that the devices gain
  pub record Comes (s : TwinState L) (p : ℕ) (a : Action) : Type 0 where
    pub entry : Entry L
    pub gained : List ℕ
    pub action_is : action_of entry ≡ a
    pub suits : Suits J (process J p) entry
    pub fits : Fits is_last s (call p a) (went entry)
    pub allowed : Allows s.devices entry gained
    pub smooth : IsSmooth entry

  -- ---- cards
  abbrev read-item : Item → CardRead
  read-item (Line line) = read.Card line
  read-item Spoiled = read.Spoiled

  item-read : (item : Item) → item_of (read-item item) ≡ item ∷ []
  item-read (Line line) = refl
  item-read Spoiled = refl

  no-end : (item : Item) → read-item item ≡ read.End → ⊥
  no-end (Line line) e = cc
  no-end Spoiled e = cc

  abbrev first-read : Option (List Item) → CardRead
  first-read None = read.End
  first-read (Some []) = read.End
  first-read (Some (item ∷ rest)) = read-item item

  first-reads : (deck given : Option (List Item)) → deck ≡ given → DeckGives deck (first-read given)
  first-reads deck None e = record { item = λ items told. absurd (let no = sym e ∙ told in cc); end = λ items told is. absurd (let no = sym e ∙ told in cc) }
  first-reads deck (Some []) e = record { item = λ items told. (items, refl); end = λ items told is. (let same = sym e ∙ told in cc) }
  first-reads deck (Some (item ∷ rest)) e = record {
    item = λ items told. (rest, (let same : items ≡ item ∷ rest = (let both = sym told ∙ e in cc) in same ∙ ap (λ some. some ++ rest) (sym (item-read item))));
    end = λ items told is. absurd (no-end item is);
  }

  good-read : (deck : Option (List Item)) → AreCards deck → AreItems (item_of (first-read deck))
  good-read None cards = tt
  good-read (Some []) cards = tt
  good-read (Some (item ∷ rest)) cards = subst AreItems (sym (item-read item)) ((cards (item ∷ rest) refl).0, tt)

  smooth-item : (item : Item) → IsSmooth {L = L} (Does ReadCard (reply.Card (read-item item)))
  smooth-item (Line line) = tt
  smooth-item Spoiled = tt

  smooth-read : (deck : Option (List Item)) → IsSmooth {L = L} (Does ReadCard (reply.Card (first-read deck)))
  smooth-read None = tt
  smooth-read (Some []) = tt
  smooth-read (Some (item ∷ rest)) = smooth-item item

  -- ---- files
  load-comes : (s : TwinState L) (p : ℕ) (file : List ℕ) (files : Option (FilesAs L)) → s.devices.files ≡ files → AreGoodFiles J s.devices.files → Comes s p (Load file)
  load-comes s p file None e good = record {
    entry = Does (Load file) (reply.Loaded J.missing);
    gained = [];
    action_is = refl;
    suits = (tt, jobs.missing_loads);
    fits = refl;
    allowed = (λ found told. absurd (let no = sym e ∙ told in cc), refl);
    smooth = tt;
  }
  load-comes s p file (Some as_told) e good = record {
    entry = Does (Load file) (reply.Loaded (as_told file));
    gained = [];
    action_is = refl;
    suits = (tt, good as_told e file);
    fits = refl;
    allowed = (λ found told. ap (λ (f : FilesAs L). f file) (let both = sym e ∙ told in let same : as_told ≡ found = cc in same), refl);
    smooth = tt;
  }

  -- ---- calls that put or await
  feed-comes : (s : TwinState L) (p b : ℕ) (x : Feed) (finds : Found) → found (s.buffers b) Sender ≡ finds → Comes s p (PutFeed b x)
  feed-comes s p b x Ready e = record { entry = Does (PutFeed b x) reply.Done; gained = []; action_is = refl; suits = (tt, tt); fits = rw e tt; allowed = refl; smooth = tt }
  feed-comes s p b x Lacking e = record { entry = Delays (PutFeed b x); gained = []; action_is = refl; suits = tt; fits = rw e tt; allowed = refl; smooth = tt }
  feed-comes s p b x Closed e = record { entry = Does (PutFeed b x) reply.Stopped; gained = []; action_is = refl; suits = (tt, tt); fits = rw e tt; allowed = refl; smooth = tt }

  room-comes : (s : TwinState L) (p b : ℕ) (finds : Found) → found (s.buffers b) Sender ≡ finds → Comes s p (AwaitRoom b)
  room-comes s p b Ready e = record { entry = Does (AwaitRoom b) reply.Done; gained = []; action_is = refl; suits = (tt, tt); fits = rw e refl; allowed = refl; smooth = tt }
  room-comes s p b Lacking e = record { entry = Delays (AwaitRoom b); gained = []; action_is = refl; suits = tt; fits = rw e refl; allowed = refl; smooth = tt }
  room-comes s p b Closed e = record { entry = Does (AwaitRoom b) reply.Stopped; gained = []; action_is = refl; suits = (tt, tt); fits = rw e refl; allowed = refl; smooth = tt }

  item-comes : (s : TwinState L) (p b : ℕ) (finds : Found) → found (s.buffers b) Receiver ≡ finds → Comes s p (AwaitItem b)
  item-comes s p b Ready e = record { entry = Does (AwaitItem b) reply.Done; gained = []; action_is = refl; suits = (tt, tt); fits = rw e refl; allowed = refl; smooth = tt }
  item-comes s p b Lacking e = record { entry = Delays (AwaitItem b); gained = []; action_is = refl; suits = tt; fits = rw e refl; allowed = refl; smooth = tt }
  item-comes s p b Closed e = record { entry = Does (AwaitItem b) reply.Stopped; gained = []; action_is = refl; suits = (tt, tt); fits = rw e refl; allowed = refl; smooth = tt }

  -- ---- the desk
  request-comes : (s : TwinState L) (p : ℕ) (handed holder : Option ℕ) → s.desk.claims.handed ≡ handed → s.desk.claims.holder ≡ holder → Comes s p Request
  request-comes s p (Some turn) holder e f =
      record { entry = Does Request reply.Done; gained = []; action_is = refl; suits = (tt, tt); fits = ap (λ h. asked h s.desk.claims.holder) (sym e); allowed = refl; smooth = tt }
  request-comes s p None None e f =
      record { entry = Does Request reply.Done; gained = []; action_is = refl; suits = (tt, tt); fits = ap (λ h. asked h None) (sym e) ∙ ap (asked s.desk.claims.handed) (sym f); allowed = refl; smooth = tt }
  request-comes s p None (Some holder) e f =
      record { entry = Delays Request; gained = []; action_is = refl; suits = tt; fits = ap (λ h. asked h (Some holder)) (sym e) ∙ ap (asked s.desk.claims.handed) (sym f); allowed = refl; smooth = tt }

  -- ---- what is inside comes out
  same-front : (front a b : List Bool) → front ++ a ≡ front ++ b → a ≡ b
  same-front [] a b e = e
  same-front (x ∷ front) a b e = same-front front a b cc

  -- of the kind of its buffer
  abbrev pub First : ℕ → Buffer (Parcel L) → Type 0
  First b buffer = (x : Parcel L) × KindAt (is_line b) x × IsFirst is_last buffer x

  first-told : (b : ℕ) (buffer : Buffer (Parcel L)) (m : Bool) (ms : List Bool) (inside : List (Parcel L)) → buffer.marks ≡ m ∷ ms → buffer.inside ≡ Some inside
      → buffer.marks ≡ map is_last inside → AllByRecursion (KindAt (is_line b)) inside → First b buffer
  first-told b buffer m ms [] some told marks kinds = absurd (let no = sym some ∙ marks in cc)
  first-told b buffer m ms (x ∷ rest) some told marks kinds = (
    x,
    kinds.0,
    record {
      marked = marks ∙ ap (λ ms. is_last x ∷ ms) (ap (drop 1) (sym marks));
      told = λ inside e. (let same : x ∷ rest ≡ inside = (let both = sym told ∙ e in cc) in sym same ∙ ap (λ ps. x ∷ ps) (ap (drop 1) same));
    },
  )

  -- where nothing is told, any of its kind may come
  abbrev Some-of : Bool → Bool → Type 0
  Some-of line m = (x : Parcel L) × KindAt line x × (is_last x ≡ m)

  some-of : (line m : Bool) → Some-of line m
  some-of true true = (OfFeed feed.End, tt, refl)
  some-of true false = (OfFeed (feed.Item Spoiled), tt, refl)
  some-of false m = (OfPage (page_of 0 false []) m, tt, refl)

  first-some : (b : ℕ) (buffer : Buffer (Parcel L)) (m : Bool) (ms : List Bool) (inside : Option (List (Parcel L))) → buffer.marks ≡ m ∷ ms → buffer.inside ≡ inside
      → ((inside : List (Parcel L)) → buffer.inside ≡ Some inside → (buffer.marks ≡ map is_last inside) × AllByRecursion (KindAt (is_line b)) inside) → First b buffer
  first-some b buffer m ms None some e known =
      let (x, kind, last) = some-of (is_line b) m in (
        x,
        kind,
        record {
          marked = some ∙ ap (λ ms. m ∷ ms) (ap (drop 1) (sym some)) ∙ ap (λ m. m ∷ drop 1 buffer.marks) (sym last);
          told = λ inside told. absurd (let no = sym e ∙ told in cc);
        },
      )
  first-some b buffer m ms (Some inside) some e known = first-told b buffer m ms inside some e (known inside e).0 (known inside e).1

  first-of : (b : ℕ) (buffer : Buffer (Parcel L)) (all : List Bool) → buffer.marks ≡ all → 0 < length buffer.marks
      → ((inside : List (Parcel L)) → buffer.inside ≡ Some inside → (buffer.marks ≡ map is_last inside) × AllByRecursion (KindAt (is_line b)) inside) → First b buffer
  first-of b buffer [] e some known = absurd (let n : length buffer.marks ≡ 0 = ap length e in omega (arith, some, n))
  first-of b buffer (m ∷ ms) e some known = first-some b buffer m ms buffer.inside e refl known

  ready-some : (by : Option Side) (marks : List Bool) → parcel_found by marks ≡ Ready → 0 < length marks
  ready-some None [] e = absurd cc
  ready-some (Some Sender) [] e = absurd cc
  ready-some (Some Receiver) [] e = absurd cc
  ready-some by (m ∷ marks) e = at-least (length marks) where
    at-least : (n : ℕ) → 0 < suc n
    at-least n = omega arith

  feed-of : (x : Parcel L) → IsAFeed x → (f : Feed) × (x ≡ OfFeed f)
  feed-of (OfFeed f) is = (f, refl)
  feed-of (OfPage page last) is = absurd is
  feed-of (OfLine line) is = absurd is
  feed-of (OfLoad load) is = absurd is

  page-of : (x : Parcel L) → IsAPage x → (page : Page) × (last : Bool) × (x ≡ OfPage page last)
  page-of (OfPage page last) is = (page, last, refl)
  page-of (OfFeed f) is = absurd is
  page-of (OfLine line) is = absurd is
  page-of (OfLoad load) is = absurd is

  take-comes : (s : TwinState L) (p b : ℕ) (finds : Found) → found (s.buffers b) Receiver ≡ finds → is_line b ≡ true → (found (s.buffers b) Receiver ≡ Ready → First b (s.buffers b))
      → Comes s p (TakeFeed b)
  take-comes s p b Ready e line first =
      let (x, kind, is) = first e in
      let (f, same) = feed-of x (subst (λ t. KindAt t x) line kind) in
      record {
        entry = Does (TakeFeed b) (reply.Feed f);
        gained = [];
        action_is = refl;
        suits = (tt, tt);
        fits = rw e (subst (IsFirst is_last (s.buffers b)) same is);
        allowed = refl;
        smooth = tt;
      }
  take-comes s p b Lacking e line first = record { entry = Delays (TakeFeed b); gained = []; action_is = refl; suits = tt; fits = rw e tt; allowed = refl; smooth = tt }
  take-comes s p b Closed e line first =
      record { entry = Does (TakeFeed b) reply.Stopped; gained = []; action_is = refl; suits = (tt, tt); fits = rw e tt; allowed = refl; smooth = tt }

  module _ (opening s : TwinState L) (st : Stands (twin J) opening s) (cards : AreCards s.devices.deck) (good : AreGoodFiles J s.devices.files) where
    marks-inside : (b : ℕ) (inside : List (Parcel L)) → (s.buffers b).inside ≡ Some inside → (s.buffers b).marks ≡ map is_last inside
    marks-inside b inside e =
        let h = st.buffers.hand_over b in
        same-front (map is_last (passed (twin J) s b Receiver)) _ _ (h.marks.in_order ∙ ap (map is_last) (sym (h.parcels inside e))
        ∙ marks-append (passed (twin J) s b Receiver) inside)

    ready-first : (b : ℕ) → 0 < length (s.buffers b).marks → First b (s.buffers b)
    ready-first b some =
        first-of b (s.buffers b) (s.buffers b).marks refl some (λ inside e. (marks-inside b inside e, kinds-inside J opening s st b inside e))

    -- who takes a page sits there, and awaited it
    page-there : (p b : ℕ) → IsOne (twin J) p → next_action (process J p) (s.histories p) ≡ Some (TakePage b) → 0 < length (s.buffers b).marks
    page-there p b one next =
        let h = s.histories p in
        let is = good-next J p h (TakePage b) one (st.follows p) next in
        let seated : seat b Receiver ≡ p = (lawful J).seated p h b Receiver go.Moves one (st.follows p) record { action = TakePage b; next = next; call = refl } in
        st.buffers.ready b Receiver (subst (λ q. found_ready b Receiver (acts (twin J) q (s.histories q)) ≡ true) (sym seated) is.1)

    comes : (p : ℕ) (a : Action) → IsOne (twin J) p → next_action (process J p) (s.histories p) ≡ Some a → Comes s p a
    comes p ReadCard one next = record {
      entry = Does ReadCard (reply.Card (first-read s.devices.deck));
      gained = [];
      action_is = refl;
      suits = (tt, good-read s.devices.deck cards);
      fits = refl;
      allowed = (first-reads s.devices.deck s.devices.deck refl, refl);
      smooth = smooth-read s.devices.deck;
    }
    comes p (PutFeed b x) one next = feed-comes s p b x (found (s.buffers b) Sender) refl
    comes p (TakeFeed b) one next =
        take-comes s p b (found (s.buffers b) Receiver) refl (acts-rightly J p (s.histories p) (TakeFeed b) one next) (λ ready. ready-first b (ready-some (stopped_by (s.buffers b).sides) (s.buffers b).marks ready))
    comes p (AwaitRoom b) one next = room-comes s p b (found (s.buffers b) Sender) refl
    comes p (AwaitItem b) one next = item-comes s p b (found (s.buffers b) Receiver) refl
    comes p Request one next = request-comes s p s.desk.claims.handed s.desk.claims.holder refl refl
    comes p (PutPage b x) one next = record { entry = Does (PutPage b x) reply.Done; gained = []; action_is = refl; suits = (tt, tt); fits = tt; allowed = refl; smooth = tt }
    comes p (TakePage b) one next =
        let (x, kind, is) = ready-first b (page-there p b one next) in
        let (page, last, same) = page-of x (subst (λ t. KindAt t x) (acts-rightly J p (s.histories p) (TakePage b) one next) kind) in
        record {
          entry = Does (TakePage b) (reply.Page page last);
          gained = [];
          action_is = refl;
          suits = (tt, tt);
          fits = subst (IsFirst is_last (s.buffers b)) same is;
          allowed = refl;
          smooth = tt;
        }
    comes p (Load file) one next = load-comes s p file s.devices.files refl good
    comes p Release one next = record { entry = Does Release reply.Done; gained = []; action_is = refl; suits = (tt, tt); fits = refl; allowed = refl; smooth = tt }
    comes p Local one next = record { entry = Does Local reply.Done; gained = []; action_is = refl; suits = (tt, tt); fits = refl; allowed = refl; smooth = tt }
    comes p (Print line) one next = record { entry = Does (Print line) reply.Done; gained = line_text line; action_is = refl; suits = (tt, tt); fits = refl; allowed = refl; smooth = tt }
    comes p (Stop b) one next = record { entry = Does (Stop b) reply.Done; gained = []; action_is = refl; suits = (tt, tt); fits = refl; allowed = refl; smooth = tt }
    comes p (Ended how) one next = record { entry = Does (Ended how) reply.Done; gained = []; action_is = refl; suits = (tt, tt); fits = refl; allowed = refl; smooth = tt }

    pub record SmoothEvent (p : ℕ) : Type 0 where
      pub event : TwinEvent L
      pub of : event.process ≡ p
      pub enabled : IsEnabled (twin J) s event
      pub smooth : IsSmooth event.entry

    pub smooth-event : (p : ℕ) (a : Action) → IsOne (twin J) p → next_action (process J p) (s.histories p) ≡ Some a → MayCall s p (call p a) → SmoothEvent p
    smooth-event p a one next may =
        let is = comes p a one next in
        record {
          event = record { process = p; entry = is.entry; gained = is.gained };
          of = refl;
          enabled = record {
            one = one;
            next = next ∙ ap Some (sym is.action_is);
            may = subst (λ a. MayCall s p (call p a)) (sym is.action_is) may;
            suits = is.suits;
            fits = subst (λ a. Fits is_last s (call p a) (went is.entry)) (sym is.action_is) is.fits;
            allowed = is.allowed;
          };
          smooth = is.smooth;
        }
