-- What the law says a process may do next, it may do on what the six share.
use Rattle.std.proofs.Common.{◌≡◌, inl, inr, ℕ, ◌≤◌, ◌<◌, Bool, true, false, List, [], ◌∷◌, ◌++◌, length, Option, None, Some, refl, sym, ◌∙◌, ap, subst, arith}
use Rattle.std.specs.Prelude.{option_to_list, IsSome}
use Rattle.solo_base.specs.declared.item.Feed.{Feed}
use Rattle.solo_base.specs.declared.page.Page.{Page}
use Rattle.solo_base.specs.declared.outcome.Side.{Side}
use Rattle.solo_base.specs.declared.outcome.Side.TheVariants.{Sender, Receiver}
use Rattle.queue_var.specs.Sides.{Sides, MayEnter, MayStop, has_stopped}
use Rattle.resource_mon.specs.Claims.{Claims, IsNoneOf, MayRequest, EachOnce}
use Rattle.disk_spool.specs.Spool.{Spool}
use Rattle.batch_procs.specs.Jobs.{Jobs}
use Rattle.batch_procs.specs.Parcels.{Parcel}
use Rattle.network_law.specs.Acts.{Visit, At, Awaits, Passes, Moves, Stops, made_stop, found_ready}
use Rattle.network_law.specs.Acts as go
use Rattle.network_law.specs.Buffer.{Buffer}
use Rattle.network_law.specs.Desk.{MayAsk}
use Rattle.network_law.specs.Network.{IsOne, MayCall, acts}
use Rattle.network_law.specs.Kept.{IsReady, Stands}
use Rattle.net_core.specs.Shared.{WaitsAt, PutsAt, TakesAt}
use Rattle.net_core.specs.Spools.{SpoolStands}
use Rattle.twin_law.specs.Process.{Action, ReadCard, PutFeed, TakeFeed, AwaitRoom, AwaitItem, Request, PutPage, TakePage, Load, Release, Local, Print, Stop, Ended, Entry, Aim, Reads, PutsFeed, TakesFeed, PutsPage, TakesPage, Loads, Works, Prints, Finishes, place, aim, caused, newest, begins, moves, working, Closing, closing, next_action}
use Rattle.twin_law.specs.Table.{process}
use Rattle.twin_law.specs.Twin.{side_at, call, twin, TwinState, IsBuffer}
use Rattle.twin_law.specs.Opening.{is_line}
use Rattle.twin_law.proofs.Lawful.{Closes, Shape, SeatedAt, next-shape, lawful}
use Rattle.twin_law.proofs.Open.{made-free, reads-first, prints-last}
use Rattle.twin_law.proofs.Numbered.{calls-at}
use Rattle.twin_law.proofs.Through.{AimsRightly, aims-rightly, acts-rightly}
use Rattle.twin_law.proofs.Counted.{each-buffer, waits-one, all-ones}
use Rattle.twin_law.proofs.Sleeping.{at-most}
use Rattle.twin_procs.specs.Said.{said}
use Rattle.twin_ends.specs.TwinTells.{TwinTells}
use Rattle.twin_net.specs.declared.shared.TwinShared.{TwinShared}
use Rattle.twin_net.specs.FourSpools.{AtSpool}
use Rattle.twin_net.specs.TwinStands.{TwinStands}
use Rattle.twin_net.specs.Doing.{MayLoad, MayPutFeed, MayTakeFeed, MayStopAt, MayDo}
use Rattle.twin_net.specs.Turns.{TwinHasPlace}

-- ---- an await is at a spool
abbrev AwaitsRightly : Action → Type 0
AwaitsRightly (AwaitRoom b) = is_line b ≡ false
AwaitsRightly (AwaitItem b) = is_line b ≡ false
AwaitsRightly a = Unit {0}

begins-so : (m : Aim) → AimsRightly m → AwaitsRightly (begins m)
begins-so Reads is = tt
begins-so (PutsFeed b f) is = tt
begins-so (TakesFeed b) is = tt
begins-so (PutsPage b page) is = is
begins-so (TakesPage b) is = is
begins-so (Loads file) is = tt
begins-so Works is = tt
begins-so (Prints line) is = tt
begins-so Finishes is = tt

moves-so : (m : Aim) → AwaitsRightly (moves m)
moves-so (PutsPage b page) = tt
moves-so (TakesPage b) = tt
moves-so (Loads file) = tt
moves-so m = tt

working-so : (n : Option Action) (m : Aim) → AimsRightly m → AwaitsRightly (working n m)
working-so (Some (AwaitRoom b)) m is = tt
working-so (Some (AwaitItem b)) m is = tt
working-so (Some Request) m is = moves-so m
working-so (Some (PutPage b page)) m is = tt
working-so (Some (TakePage b)) m is = tt
working-so (Some (Load file)) m is = tt
working-so n m is = begins-so m is

closes-so : {L : Type 0} (Is : ℕ → Type 0) (h : List (Entry L)) (a : Action) → Closes Is h a → AwaitsRightly a
closes-so Is h (Stop b) is = tt
closes-so Is h (Ended how) is = tt
closes-so Is h Release is = tt
closes-so Is h a is = absurd is

-- ---- buffers by kind
line-cases : (P : ℕ → Type 0) (b : ℕ) → IsBuffer b → is_line b ≡ true → P 1 → P 6 → P b
line-cases P b is line one six =
    each-buffer (λ b. is_line b ≡ true → P b) b is (λ e. one) (λ e. absurd cc) (λ e. absurd cc) (λ e. absurd cc) (λ e. absurd cc) (λ e. six) line

spool-cases : (P : ℕ → Type 0) (b : ℕ) → IsBuffer b → is_line b ≡ false → P 2 → P 3 → P 4 → P 5 → P b
spool-cases P b is spool two three four five =
    each-buffer (λ b. is_line b ≡ false → P b) b is (λ e. absurd cc) (λ e. two) (λ e. three) (λ e. four) (λ e. five) (λ e. absurd cc) spool

some-marks : (marks : List Bool) → 0 < length marks → marks ≡ [] → ⊥
some-marks marks some e = (let none : length marks ≡ 0 = ap length e in omega (arith, some, none))

module _ {L : Type 0} (J : Jobs L) where
  awaits-rightly : (p : ℕ) (h : List (Entry L)) (a : Action) → IsOne (twin J) p → next_action (process J p) h ≡ Some a → AwaitsRightly a
  awaits-rightly p h a one next = by (closing (process J p) h) (next-shape J p h a one next) where
    by : (c : Option Closing) → Shape J p h c a → AwaitsRightly a
    by None is = subst AwaitsRightly (sym is.0) (working-so (newest h) (aim (process J p) h) (aims-rightly J p one (place (process J p) h)))
    by (Some c) is = closes-so (SeatedAt J p) h a is

  module _ (opening s : TwinState L) (st : Stands (twin J) opening s) where
    -- ---- at the desk fewer than six wait
    holder-one : (q : ℕ) → s.desk.claims.holder ≡ Some q → (1 ≤ q) × (q ≤ 6)
    holder-one q held =
        elim (st.others q) as (λ _. (1 ≤ q) × (q ≤ 6)) [
          | inl one ↦ one
          | inr none ↦ elim (st.desk.holder q held) as (λ _. (1 ≤ q) × (q ≤ 6)) [
            | inl handed ↦ waits-one J s opening st q (st.desk.handed q handed)
            | inr on ↦ absurd (let off : go.holds (acts (twin J) q (s.histories q)) ≡ false = ap (λ h. go.holds (acts (twin J) q h)) none in cc)
          ]
        ]

    pub desk-room : length s.desk.claims.waiting < 6
    desk-room = by s.desk.claims.holder refl where
      by : (holder : Option ℕ) → s.desk.claims.holder ≡ holder → length s.desk.claims.waiting < 6
      by None e = (let none : length s.desk.claims.waiting ≡ 0 = ap length (st.desk.one_holder.idle e) in omega (arith, none))
      by (Some q) e =
          let once : EachOnce (q ∷ s.desk.claims.waiting) = subst
          (λ holder. EachOnce (option_to_list holder ++ s.desk.claims.waiting)) e st.desk.one_holder.each_once in
          let few = at-most 6 (q ∷ s.desk.claims.waiting) once (holder-one q e, all-ones J s opening st s.desk.claims.waiting st.desk.waiting) in
          omega (arith, few)

    module _ (p : ℕ) (one : IsOne (twin J) p) where
      abbrev h : List (Entry L)
      h = s.histories p

      -- ---- at a side of a buffer
      side-open : (a : Action) (b : ℕ) (side : Side) (visit : Visit) → next_action (process J p) h ≡ Some a → call p a ≡ At b side visit
          → has_stopped (s.buffers b).sides side ≡ false
      side-open a b side visit next e =
          let seated = (lawful J).seated p h b side visit one (st.follows p) record { action = a; next = next; call = e } in
          let open_yet = (lawful J).unstopped p h b side visit one (st.follows p) record { action = a; next = next; call = e } in
          (st.buffers.hand_over b).stopped_first.each side ∙ st.buffers.stops b side
          ∙ subst (λ q. made_stop b side (acts (twin J) q (s.histories q)) ≡ false) (sym seated) open_yet

      ready-at : (a : Action) (b : ℕ) (side : Side) → next_action (process J p) h ≡ Some a → call p a ≡ At b side Moves → IsReady (s.buffers b) side
      ready-at a b side next e =
          let seated = (lawful J).seated p h b side Moves one (st.follows p) record { action = a; next = next; call = e } in
          let found = (lawful J).found p h b side one (st.follows p) record { action = a; next = next; call = e } in
          st.buffers.ready b side (subst (λ q. found_ready b side (acts (twin J) q (s.histories q)) ≡ true) (sym seated) found)

      -- who has entered may wait there
      waits : (a : Action) (b : ℕ) (side : Side) (visit : Visit) (sides : Sides) → next_action (process J p) h ≡ Some a → call p a ≡ At b side visit
          → MayEnter (s.buffers b).sides side p
          → (s.buffers b).sides ≡ sides → WaitsAt sides side p
      waits a b side visit sides next e may same =
          (subst (λ sides. MayEnter sides side p) same may, subst (λ sides. has_stopped sides side ≡ false) same (side-open a b side visit next e))

      module _ {A : Type 0} (told_by : A → Option (List (List ℕ))) (spool : Spool A) (b : ℕ) (stands : SpoolStands told_by spool (s.buffers b)) where
        sides-are : (s.buffers b).sides ≡ spool.sides
        sides-are = ap (λ (b : Buffer (Parcel L)). b.sides) stands.is

        puts-at : (page : Page) → next_action (process J p) h ≡ Some (PutPage b page) → MayStop (s.buffers b).sides Sender → PutsAt spool
        puts-at page next may = (
          subst (λ sides. MayStop sides Sender) sides-are may,
          subst (λ (b : Buffer (Parcel L)). length b.marks < b.capacity) stands.is (ready-at (PutPage b page) b Sender next refl),
          subst (λ sides. has_stopped sides Sender ≡ false) sides-are (side-open (PutPage b page) b Sender Moves next refl),
        )

        takes-at : next_action (process J p) h ≡ Some (TakePage b) → MayStop (s.buffers b).sides Receiver → TakesAt spool
        takes-at next may = (
          subst (λ sides. MayStop sides Receiver) sides-are may,
          some-marks spool.ring.marks (subst (λ (b : Buffer (Parcel L)). 0 < length b.marks) stands.is (ready-at (TakePage b) b Receiver next refl)),
          subst (λ sides. has_stopped sides Receiver ≡ false) sides-are (side-open (TakePage b) b Receiver Moves next refl),
        )

      -- ---- the desk
      own-holder : s.desk.claims.holder ≡ Some p → s.desk.claims.handed ≡ None → go.holds (acts (twin J) p h) ≡ true
      own-holder held free =
          elim (st.desk.holder p held) as (λ _. go.holds (acts (twin J) p h) ≡ true) [
            | inl handed ↦ absurd (let no_more = sym free ∙ handed in cc)
            | inr on ↦ on
          ]

      none-of : (holder : Option ℕ) (waiting : List ℕ) → (holder ≡ Some p → ⊥) → IsNoneOf waiting p → IsNoneOf (option_to_list holder ++ waiting) p
      none-of None waiting never none = none
      none-of (Some q) waiting never none = ((λ e. never (ap Some e)), none)

      pub may-request : next_action (process J p) h ≡ Some Request → MayAsk s.desk.claims p → MayRequest s.desk.claims p
      may-request next (inl (free, none)) =
          let off = (lawful J).asks p h one (st.follows p) record { action = Request; next = next; call = refl } in
          inl (free, none-of s.desk.claims.holder s.desk.claims.waiting (λ held. (let on = own-holder held free in cc)) none)
      may-request next (inr handed) = inr handed

      may-release : next_action (process J p) h ≡ Some Release → s.desk.claims.handed ≡ None → IsSome s.desk.claims.holder × (s.desk.claims.handed ≡ None)
      may-release next may =
          let on = (lawful J).gives p h one (st.follows p) record { action = Release; next = next; call = refl } in
          let held = st.desk.holds_alone p on in
          (rw held refl, may)

      pub has-place : (a : Action) → next_action (process J p) h ≡ Some a → TwinHasPlace s p a
      has-place a next = record {
        buffer = λ b side visit e. calls-at J p h a b side visit one next e;
        asks = λ is may. may-request (subst (λ a. next_action (process J p) h ≡ Some a) is next) may;
      }

      -- ---- what is shared
      module _ {X S K F A : Type 0} (tells : TwinTells L S K F A) (shared : TwinShared X S K F A) (ss : TwinStands tells shared s) where
        cards-sides : (s.buffers 1).sides ≡ shared.cards.sides
        cards-sides = ap (λ (b : Buffer (Parcel L)). b.sides) ss.cards.is

        lines-sides : (s.buffers 6).sides ≡ shared.lines.sides
        lines-sides = ap (λ (b : Buffer (Parcel L)). b.sides) ss.lines.is

        is-buffer : (a : Action) (b : ℕ) (side : Side) (visit : Visit) → next_action (process J p) h ≡ Some a → call p a ≡ At b side visit → IsBuffer b
        is-buffer a b side visit next e = calls-at J p h a b side visit one next e

        may-put_feed : (b : ℕ) (f : Feed) → next_action (process J p) h ≡ Some (PutFeed b f) → MayEnter (s.buffers b).sides Sender p → MayPutFeed shared p b
        may-put_feed b f next may =
            line-cases (λ b. next_action (process J p) h ≡ Some (PutFeed b f) → MayEnter (s.buffers b).sides Sender p → MayPutFeed shared p b) b
            (is-buffer (PutFeed b f) b Sender Passes next refl) (acts-rightly J p h (PutFeed b f) one next)
            (λ next may. waits (PutFeed 1 f) 1 Sender Passes shared.cards.sides next refl may cards-sides)
            (λ next may. waits (PutFeed 6 f) 6 Sender Passes shared.lines.sides next refl may lines-sides) next may

        may-take_feed : (b : ℕ) → next_action (process J p) h ≡ Some (TakeFeed b) → MayEnter (s.buffers b).sides Receiver p → MayTakeFeed shared p b
        may-take_feed b next may =
            line-cases (λ b. next_action (process J p) h ≡ Some (TakeFeed b) → MayEnter (s.buffers b).sides Receiver p → MayTakeFeed shared p b) b
            (is-buffer (TakeFeed b) b Receiver Passes next refl) (acts-rightly J p h (TakeFeed b) one next)
            (λ next may. waits (TakeFeed 1) 1 Receiver Passes shared.cards.sides next refl may cards-sides)
            (λ next may. waits (TakeFeed 6) 6 Receiver Passes shared.lines.sides next refl may lines-sides) next may

        -- a spool of each number
        at-each : (Holds : Spool A → Type 0) (b : ℕ) → IsBuffer b → is_line b ≡ false
            → ((spool : Spool A) → SpoolStands tells.pages spool (s.buffers b) → Holds spool) → AtSpool shared.spools b Holds
        at-each Holds b is spool each =
            spool-cases (λ b. ((spool : Spool A) → SpoolStands tells.pages spool (s.buffers b) → Holds spool) → AtSpool shared.spools b Holds) b is spool
            (λ each. each shared.spools.to_a ss.spools.to_a) (λ each. each shared.spools.to_b ss.spools.to_b)
            (λ each. each shared.spools.from_a ss.spools.from_a) (λ each. each shared.spools.from_b ss.spools.from_b) each

        may-await_room : (b : ℕ) → next_action (process J p) h ≡ Some (AwaitRoom b) → MayEnter (s.buffers b).sides Sender p
            → AtSpool shared.spools b (λ spool. WaitsAt spool.sides Sender p)
        may-await_room b next may =
            at-each (λ spool. WaitsAt spool.sides Sender p) b (is-buffer (AwaitRoom b) b Sender Awaits next refl) (awaits-rightly p h (AwaitRoom b) one next)
            (λ spool stands. waits (AwaitRoom b) b Sender Awaits spool.sides next refl may (sides-are tells.pages spool b stands))

        may-await_item : (b : ℕ) → next_action (process J p) h ≡ Some (AwaitItem b) → MayEnter (s.buffers b).sides Receiver p
            → AtSpool shared.spools b (λ spool. WaitsAt spool.sides Receiver p)
        may-await_item b next may =
            at-each (λ spool. WaitsAt spool.sides Receiver p) b (is-buffer (AwaitItem b) b Receiver Awaits next refl)
            (awaits-rightly p h (AwaitItem b) one next)
            (λ spool stands. waits (AwaitItem b) b Receiver Awaits spool.sides next refl may (sides-are tells.pages spool b stands))

        may-stop : (b : ℕ) → next_action (process J p) h ≡ Some (Stop b) → MayStop (s.buffers b).sides (side_at p b) → MayStopAt shared p b
        may-stop b next may =
            each-buffer (λ b. MayStop (s.buffers b).sides (side_at p b) → MayStopAt shared p b) b (is-buffer (Stop b) b (side_at p b) Stops next refl)
            (λ may. subst (λ sides. MayStop sides (side_at p 1)) cards-sides may)
            (λ may. subst (λ sides. MayStop sides (side_at p 2)) (sides-are tells.pages shared.spools.to_a 2 ss.spools.to_a) may)
            (λ may. subst (λ sides. MayStop sides (side_at p 3)) (sides-are tells.pages shared.spools.to_b 3 ss.spools.to_b) may)
            (λ may. subst (λ sides. MayStop sides (side_at p 4)) (sides-are tells.pages shared.spools.from_a 4 ss.spools.from_a) may)
            (λ may. subst (λ sides. MayStop sides (side_at p 5)) (sides-are tells.pages shared.spools.from_b 5 ss.spools.from_b) may)
            (λ may. subst (λ sides. MayStop sides (side_at p 6)) lines-sides may) may

        -- who reads or prints has no cause
        no-cause : (a : Action) (q : ℕ) → next_action (process J p) h ≡ Some a → ((caused (process J p) h ≡ None) → caused (process J q) (s.histories q) ≡ None)
            → ((Rattle.twin_law.proofs.Marks.IsAround a) → ⊥) → caused (process J q) (s.histories q) ≡ None
        no-cause a q next same not_around =
            elim (made-free J p h a one next) as (λ _. caused (process J q) (s.histories q) ≡ None) [
              | inl around ↦ absurd (not_around around)
              | inr free ↦ same free.0
            ]

        may-read : (caused (process J 1) (s.histories 1) ≡ None → shared.deck.live ≡ true) → next_action (process J p) h ≡ Some ReadCard
            → shared.deck.live ≡ true
        may-read live next =
            let is = reads-first J p h one next in
            live (no-cause ReadCard 1 next (λ none. subst (λ q. caused (process J q) (s.histories q) ≡ None) is none) (λ around. around))

        may-print : (caused (process J 6) (s.histories 6) ≡ None → shared.paper.live ≡ true) → (line : List ℕ) → next_action (process J p) h ≡ Some (Print line)
            → shared.paper.live ≡ true
        may-print live line next =
            let is = prints-last J p h line one next in
            live (no-cause (Print line) 6 next (λ none. subst (λ q. caused (process J q) (s.histories q) ≡ None) is none) (λ around. around))

        -- What is next at its turn may be done.
        pub may-do : (caused (process J 1) (s.histories 1) ≡ None → shared.deck.live ≡ true)
            → (caused (process J 6) (s.histories 6) ≡ None → shared.paper.live ≡ true)
            → MayLoad tells shared → (a : Action) → next_action (process J p) h ≡ Some a → MayCall s p (call p a) → MayDo tells shared p (said a)
        may-do deck paper sound ReadCard next may = may-read deck next
        may-do deck paper sound (PutFeed b f) next may = may-put_feed b f next may
        may-do deck paper sound (TakeFeed b) next may = may-take_feed b next may
        may-do deck paper sound (AwaitRoom b) next may = may-await_room b next may
        may-do deck paper sound (AwaitItem b) next may = may-await_item b next may
        may-do deck paper sound Request next may =
            (subst (λ (c : Claims). MayRequest c p) ss.desk (may-request next may), subst (λ (c : Claims). length c.waiting < 6) ss.desk desk-room)
        may-do deck paper sound (PutPage b page) next may =
            at-each PutsAt b (is-buffer (PutPage b page) b Sender Moves next refl) (acts-rightly J p h (PutPage b page) one next)
            (λ spool stands. puts-at tells.pages spool b stands page next may)
        may-do deck paper sound (TakePage b) next may =
            at-each TakesAt b (is-buffer (TakePage b) b Receiver Moves next refl) (acts-rightly J p h (TakePage b) one next)
            (λ spool stands. takes-at tells.pages spool b stands next may)
        may-do deck paper sound (Load file) next may = sound
        may-do deck paper sound Release next may = subst (λ (c : Claims). IsSome c.holder × (c.handed ≡ None)) ss.desk (may-release next may)
        may-do deck paper sound Local next may = tt
        may-do deck paper sound (Print line) next may = may-print paper line next
        may-do deck paper sound (Stop b) next may = may-stop b next may
        may-do deck paper sound (Ended how) next may = tt
