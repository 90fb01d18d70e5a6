-- A call that may be made is answered: no device has to fail, and no memory to be refused.
use Rattle.std.proofs.Common.{◌≡◌, ℕ, zero, suc, ◌<◌, Bool, false, List, [], ◌∷◌, ◌++◌, length, drop, map, Option, None, Some, refl, sym, ◌∙◌, ap, subst, arith}
use Rattle.std.specs.List.{AllByRecursion}
use Rattle.solo_base.specs.declared.item.Feed.{Feed}
use Rattle.solo_base.specs.declared.page.Page.{Page}
use Rattle.solo_base.specs.declared.outcome.Side.{Side}
use Rattle.solo_base.specs.declared.outcome.Side.TheVariants.{Sender, Receiver}
use Rattle.solo_base.specs.Text.{line_text}
use Rattle.page_codec.specs.Form.{page_of}
use Rattle.queue_var.specs.Sides.{stopped_by}
use Rattle.batch_procs.specs.declared.actions.Action.{Action}
use Rattle.batch_procs.specs.declared.actions.Action.TheVariants as act
use Rattle.batch_procs.specs.declared.actions.Reply.TheVariants as reply
use Rattle.batch_procs.specs.Parcels.{Parcel, OfFeed, OfPage, OfLine, OfLoad, is_last, IsAFeed, IsAPage}
use Rattle.batch_procs.specs.History.{Entry, Does, taken, sent}
use Rattle.batch_procs.specs.Process.{Process, Follows, next_action}
use Rattle.batch_procs.proofs.Relay.{open-next, sent-is-part}
use Rattle.batch_procs.proofs.Holding.{takes-awaited}
use Rattle.network_law.specs.Acts.{Passes, Moves}
use Rattle.network_law.specs.Buffer.{Buffer, Ready, found, parcel_found, IsFirst}
use Rattle.network_law.specs.Network.{IsEnabled, MayCall, Fits}
use Rattle.network_law.specs.Kept.{IsTold, Stands, passed}
use Rattle.core_law.specs.Core.{call, went, core, CoreState, CoreEvent, IsBuffer}
use Rattle.core_law.specs.Ends.{IsProcess, IsSmooth}
use Rattle.core_law.specs.Opening.{AreCards, AreGoodFiles}
use Rattle.core_law.proofs.Coming.{Comes, deck-comes, ask-comes, load-comes, put-comes, room-comes, item-comes, take-comes}
use Rattle.core_law.proofs.Row.{IsRow}
use Rattle.core_law.proofs.Taking.{next-take}
use Rattle.core_law.proofs.Acting.{follows-of, item-ready}
use Rattle.core_law.proofs.Passed.{passed-sent}
use Rattle.core_law.proofs.Places.{call-buffer}
use Rattle.batch_procs.specs.Jobs.{Jobs, AreJobs}

module _ {L : Type 0} {J : Jobs L} (jobs : AreJobs J) where
  -- ---- the first inside
  same-front : (front a b : List Bool) → front ++ a ≡ front ++ b → a ≡ b
  same-front [] a b e = e
  same-front (x ∷ front) a b e = same-front front a b cc

  marks-append : (some more : List (Parcel L)) → map is_last (some ++ more) ≡ map is_last some ++ map is_last more
  marks-append [] more = refl
  marks-append (x ∷ some) more = ap (λ ms. is_last x ∷ ms) (marks-append some more)

  all-behind : (Is : Parcel L → Type 0) (part rest : List (Parcel L)) → AllByRecursion Is (part ++ rest) → AllByRecursion Is rest
  all-behind Is [] rest all = all
  all-behind Is (x ∷ part) rest all = all-behind Is part rest all.1

  all-front : (Is : Parcel L → Type 0) (part rest : List (Parcel L)) → AllByRecursion Is (part ++ rest) → AllByRecursion Is part
  all-front Is [] rest all = tt
  all-front Is (x ∷ part) rest all = (all.0, all-front Is part rest all.1)

  first-is : (buffer : Buffer (Parcel L)) (parcel : Parcel L) (rest : List (Parcel L)) → buffer.inside ≡ Some (parcel ∷ rest) → buffer.marks ≡ map is_last
      (parcel ∷ rest)
      → IsFirst is_last buffer parcel
  first-is buffer parcel rest told marks = record {
    marked = marks ∙ ap (λ ms. is_last parcel ∷ ms) (ap (drop 1) (sym marks));
    told = λ inside e. (let same : parcel ∷ rest ≡ inside = (let both = sym told ∙ e in cc) in sym same ∙ ap (λ ps. parcel ∷ ps) (ap (drop 1) same));
  }

  none-inside : (marks : List Bool) → 0 < length marks → marks ≡ [] → ⊥
  none-inside marks some e = let none : length marks ≡ 0 = ap length e in omega (arith, some, none)

  first-feed : (buffer : Buffer (Parcel L)) (inside : List (Parcel L)) → buffer.inside ≡ Some inside → buffer.marks ≡ map is_last inside
      → AllByRecursion IsAFeed inside
      → 0 < length buffer.marks → (f : Feed) × IsFirst is_last buffer (OfFeed f)
  first-feed buffer [] told marks are some = absurd (none-inside buffer.marks some marks)
  first-feed buffer (OfFeed f ∷ rest) told marks are some = (f, first-is buffer (OfFeed f) rest told marks)
  first-feed buffer (OfPage page last ∷ rest) told marks are some = absurd are.0
  first-feed buffer (OfLine line ∷ rest) told marks are some = absurd are.0
  first-feed buffer (OfLoad load ∷ rest) told marks are some = absurd are.0

  abbrev FirstPage : Buffer (Parcel L) → Type 0
  FirstPage buffer = (page : Page) × (last : Bool) × IsFirst is_last buffer (OfPage page last)

  first-page : (buffer : Buffer (Parcel L)) (inside : List (Parcel L)) → buffer.inside ≡ Some inside → buffer.marks ≡ map is_last inside
      → AllByRecursion IsAPage inside
      → 0 < length buffer.marks → FirstPage buffer
  first-page buffer [] told marks are some = absurd (none-inside buffer.marks some marks)
  first-page buffer (OfPage page last ∷ rest) told marks are some = (page, last, first-is buffer (OfPage page last) rest told marks)
  first-page buffer (OfFeed f ∷ rest) told marks are some = absurd are.0
  first-page buffer (OfLine line ∷ rest) told marks are some = absurd are.0
  first-page buffer (OfLoad load ∷ rest) told marks are some = absurd are.0

  -- where the area isn't told any page may come
  untold-page : (buffer : Buffer (Parcel L)) (marks : List Bool) → buffer.marks ≡ marks → buffer.inside ≡ None → 0 < length buffer.marks → FirstPage buffer
  untold-page buffer [] e untold some = absurd (none-inside buffer.marks some e)
  untold-page buffer (m ∷ rest) e untold some =
      (page_of 0 false [], m, record { marked = e ∙ ap (λ ms. m ∷ ms) (ap (drop 1) (sym e)); told = λ inside told. absurd (let no = sym untold ∙ told in cc) })

  some-found : (by : Option Side) (marks : List Bool) → parcel_found by marks ≡ Ready → 0 < length marks
  some-found None [] e = absurd cc
  some-found (Some Sender) [] e = absurd cc
  some-found (Some Receiver) [] e = absurd cc
  some-found by (m ∷ marks) e = omega arith

  module _ {row : ℕ → Process L} (laws : IsRow jobs row) (opening s : CoreState L) (st : Stands (core J row) opening s)
      (lines_told : (b : ℕ) → IsBuffer b → (row (suc b)).takes ≡ act.TakeFeed → IsTold (opening.buffers b))
      (cards : AreCards s.devices.deck) (good : AreGoodFiles J s.devices.files) where
    marks-inside : (b : ℕ) (inside : List (Parcel L)) → (s.buffers b).inside ≡ Some inside → (s.buffers b).marks ≡ map is_last inside
    marks-inside b inside e =
        let h = st.buffers.hand_over b in
        same-front (map is_last (passed (core J row) s b Receiver)) _ _ (h.marks.in_order ∙ ap (map is_last) (sym (h.parcels inside e))
        ∙ marks-append (passed (core J row) s b Receiver) inside)

    kind-inside : (Is : Parcel L → Type 0) (b : ℕ) → IsBuffer b → ((all : List (Parcel L)) → AllByRecursion Is ((row b).sends all)) → (inside : List (Parcel L))
        → (s.buffers b).inside ≡ Some inside → AllByRecursion Is inside
    kind-inside Is b is kinds inside e =
        let h = s.histories b in
        let follows = follows-of jobs row b h (st.follows b) in
        let (rest, sends) = sent-is-part J (row b) h (laws.relays b) follows in
        let all_sent = all-front Is (sent h) rest (subst (λ ps. AllByRecursion Is ps) (sym sends) (kinds (taken h))) in
        all-behind Is (passed (core J row) s b Receiver) inside
        (subst (λ ps. AllByRecursion Is ps) (sym ((st.buffers.hand_over b).parcels inside e ∙ passed-sent jobs laws b is h follows)) all_sent)

    ready-feed : (b : ℕ) → IsBuffer b → (row (suc b)).takes ≡ act.TakeFeed → found (s.buffers b) Receiver ≡ Ready
        → (f : Feed) × IsFirst is_last (s.buffers b) (OfFeed f)
    ready-feed b is takes ready =
        let (inside, e) = st.told b (lines_told b is takes) in
        first-feed (s.buffers b) inside e (marks-inside b inside e) (kind-inside IsAFeed b is (laws.feeds b is takes) inside e)
        (some-found (stopped_by (s.buffers b).sides) (s.buffers b).marks ready)

    ready-page : (b : ℕ) → IsBuffer b → (row (suc b)).takes ≡ act.TakePage → 0 < length (s.buffers b).marks → FirstPage (s.buffers b)
    ready-page b is takes some =
        elim (s.buffers b).inside as (λ inside. (s.buffers b).inside ≡ inside → FirstPage (s.buffers b)) [
          | None ↦ (λ untold. untold-page (s.buffers b) (s.buffers b).marks refl untold some)
          | Some inside ↦ (λ e. first-page (s.buffers b) inside e (marks-inside b inside e) (kind-inside IsAPage b is (laws.pages b is takes) inside e) some)
        ] refl

    -- the process that takes from the buffer before it
    module _ (k : ℕ) (one : IsProcess (suc k)) where
      abbrev h : List (Entry L)
      h = s.histories (suc k)

      abbrev follows : Follows J (row (suc k)) (s.histories (suc k))
      follows = follows-of jobs row (suc k) (s.histories (suc k)) (st.follows (suc k))

      feed-comes : next_action (row (suc k)) (s.histories (suc k)) ≡ Some act.TakeFeed → Comes jobs row s (suc k) act.TakeFeed
      feed-comes next =
          take-comes jobs row s (suc k) (found (s.buffers k) Receiver) refl
          (ready-feed k (call-buffer jobs laws (suc k) (s.histories (suc k)) one follows act.TakeFeed k Receiver Passes next refl)
          (next-take jobs (row (suc k)) (s.histories (suc k)) act.TakeFeed next tt).same)

      page-comes : next_action (row (suc k)) (s.histories (suc k)) ≡ Some act.TakePage → Comes jobs row s (suc k) act.TakePage
      page-comes next =
          let none = open-next J (row (suc k)) (s.histories (suc k)) act.TakePage next tt in
          let some = st.buffers.ready k Receiver (item-ready jobs row (suc k) (s.histories (suc k)) follows none
          (takes-awaited J (row (suc k)) (s.histories (suc k)) (laws.relays (suc k)) follows next)) in
          let is = call-buffer jobs laws (suc k) (s.histories (suc k)) one follows act.TakePage k Receiver Moves next refl in
          let (page, last, first) = ready-page k is (next-take jobs (row (suc k)) (s.histories (suc k)) act.TakePage next tt).same some in
          record { entry = Does act.TakePage (reply.Page page last); gained = []; action_is = refl; suits = tt; fits = first; allowed = refl; smooth = tt }

      comes-next : (a : Action) → next_action (row (suc k)) (s.histories (suc k)) ≡ Some a → Comes jobs row s (suc k) a
      comes-next act.ReadCard next = deck-comes jobs row s (suc k) s.devices.deck refl cards
      comes-next (act.PutFeed f) next = put-comes jobs row s (suc k) f (found (s.buffers (suc k)) Sender) refl
      comes-next act.TakeFeed next = feed-comes next
      comes-next act.AwaitRoom next = room-comes jobs row s (suc k) (found (s.buffers (suc k)) Sender) refl
      comes-next act.AwaitItem next = item-comes jobs row s (suc k) (found (s.buffers k) Receiver) refl
      comes-next act.Request next = ask-comes jobs row s (suc k) s.desk.claims.handed s.desk.claims.holder refl refl
      comes-next (act.PutPage page) next = record {
        entry = Does (act.PutPage page) reply.Done;
        gained = [];
        action_is = refl;
        suits = tt;
        fits = tt;
        allowed = refl;
        smooth = tt;
      }
      comes-next act.TakePage next = page-comes next
      comes-next (act.Load file) next = load-comes jobs row s (suc k) file s.devices.files refl good
      comes-next act.Release next = record {
        entry = Does act.Release reply.Done;
        gained = [];
        action_is = refl;
        suits = tt;
        fits = refl;
        allowed = refl;
        smooth = tt;
      }
      comes-next act.Local next = record {
        entry = Does act.Local reply.Done;
        gained = [];
        action_is = refl;
        suits = tt;
        fits = refl;
        allowed = refl;
        smooth = tt;
      }
      comes-next (act.Print line) next = record {
        entry = Does (act.Print line) reply.Done;
        gained = line_text line;
        action_is = refl;
        suits = tt;
        fits = refl;
        allowed = refl;
        smooth = tt;
      }
      comes-next (act.Stop b) next = record {
        entry = Does (act.Stop b) reply.Done;
        gained = [];
        action_is = refl;
        suits = tt;
        fits = refl;
        allowed = refl;
        smooth = tt;
      }
      comes-next (act.Ended how) next = record {
        entry = Does (act.Ended how) reply.Done;
        gained = [];
        action_is = refl;
        suits = tt;
        fits = refl;
        allowed = refl;
        smooth = tt;
      }

    pub comes : (p : ℕ) (a : Action) → IsProcess p → next_action (row p) (s.histories p) ≡ Some a → Comes jobs row s p a
    comes zero a one next = (let low = one.0 in absurd (omega (arith, low)))
    comes (suc k) a one next = comes-next k one a next

    -- An enabled process has an event in which no device fails and no memory is refused.
    pub record SmoothEvent (p : ℕ) : Type 0 where
      pub event : CoreEvent L
      pub of : event.process ≡ p
      pub enabled : IsEnabled (core J row) s event
      pub smooth : IsSmooth event.entry

    pub smooth-event : (p : ℕ) (a : Action) → IsProcess p → next_action (row p) (s.histories p) ≡ Some a → MayCall s p (call p a) → SmoothEvent p
    smooth-event p a one next may =
        let is = comes p a one next in
        record {
          event = record { process = p; entry = is.entry; gained = is.gained };
          of = refl;
          enabled = record {
            one = one;
            next = next ∙ ap Some (sym is.action_is);
            may = subst (λ a. MayCall s p (call p a)) (sym is.action_is) may;
            suits = is.suits;
            fits = subst (λ a. Fits is_last s (call p a) (went is.entry)) (sym is.action_is) is.fits;
            allowed = is.allowed;
          };
          smooth = is.smooth;
        }
