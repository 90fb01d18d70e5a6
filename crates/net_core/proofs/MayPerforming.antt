-- What the law says a process may do next, it may perform on what is shared.
use Rattle.std.proofs.Common.{◌≡◌, ◌⊎◌, inl, inr, ℕ, ◌<◌, ◌==◌, Bool, true, false, List, [], ◌++◌, length, Option, None, Some, refl, sym, ◌∙◌, ap, subst, arith}
use Rattle.std.specs.Prelude.{option_to_list, IsSome}
use Rattle.std.proofs.lemmas.Bool.{eq-eqb}
use Rattle.std.proofs.lemmas.Bool.Decides.{eqb_tells}
use Rattle.solo_base.specs.declared.outcome.Side.{Side}
use Rattle.solo_base.specs.declared.outcome.Side.TheVariants.{Sender, Receiver}
use Rattle.solo_base.specs.declared.item.Feed.{Feed}
use Rattle.solo_base.specs.declared.page.Page.{Page}
use Rattle.queue_var.specs.Sides.{Sides, MayEnter, MayStop, has_stopped}
use Rattle.resource_mon.specs.Claims.{Claims, IsNoneOf, MayRequest}
use Rattle.batch_procs.specs.declared.actions.Action.{Action}
use Rattle.batch_procs.specs.declared.actions.Action.TheVariants as act
use Rattle.batch_procs.specs.Parcels.{Parcel}
use Rattle.batch_procs.specs.History.{holds, has_stopped as stopped_it}
use Rattle.batch_procs.specs.Causes.{caused}
use Rattle.batch_procs.proofs.Relay.{open-next}
use Rattle.batch_procs.proofs.Holding.{release-holds, request-holds_not}
use Rattle.batch_procs.specs.Process.{Follows, next_action}
use Rattle.batch_procs.specs.Table.{process}
use Rattle.network_law.specs.Acts.{Visit, At, Awaits, Passes, Moves, Stops, found_ready}
use Rattle.network_law.specs.Buffer.{Buffer, MayVisit}
use Rattle.network_law.specs.Network as law
use Rattle.network_law.specs.Network.{MayCall}
use Rattle.network_law.specs.Kept.{IsReady, Stands}
use Rattle.core_law.specs.Core.{side_at, call, core, CoreState, IsBuffer}
use Rattle.core_law.specs.Ends.{IsProcess}
use Rattle.core_law.proofs.Ends.{the-five}
use Rattle.core_law.proofs.Acting.{follows-of, holds-are}
use Rattle.core_law.proofs.Lawful.{lawful, seated-by, unstopped-by}
use Rattle.core_law.proofs.NeverStuck.{mark-is}
use Rattle.core_law.proofs.Places.{call-buffer}
use Rattle.net_core.specs.declared.shared.Shared.{Shared}
use Rattle.net_core.specs.Shared.{SharedStands, Choice, AtNumbers, WaitsAt, PutsAt, TakesAt, StopsAt, MayPerform}
use Rattle.core_law.proofs.Askers.{feed-puts, room-waits, moves-page, takes-feed, takes-page, item-waits, reads-deck, prints-paper, loads-files}
use Rattle.batch_procs.specs.Jobs.{Jobs, AreJobs}
use Rattle.batch_ends.specs.Tells.{Tells}

-- ---- numbers
given-first : (t : Bool) (X Y : Type 0) → t ≡ true → X → Choice t X Y
given-first true X Y e is = is
given-first false X Y e is = absurd cc

given-rest : (t : Bool) (X Y : Type 0) → t ≡ false → Y → Choice t X Y
given-rest false X Y e is = is
given-rest true X Y e is = absurd cc

first-number : (p m n : ℕ) (X Y : ℕ → Type 0) → p ≡ m → X p → AtNumbers p m n X Y
first-number p m n X Y e is = given-first (p == m) (X p) (Choice (p == n) (Y p) ⊥) (eq-eqb p m e) is

second-number : (p m n : ℕ) (X Y : ℕ → Type 0) → (n == m) ≡ false → p ≡ n → Y p → AtNumbers p m n X Y
second-number p m n X Y differ e is =
    given-rest (p == m) (X p) (Choice (p == n) (Y p) ⊥) (ap (λ k. k == m) e ∙ differ) (given-first (p == n) (Y p) ⊥ (eq-eqb p n e) is)

some-marks : (marks : List Bool) → 0 < length marks → marks ≡ [] → ⊥
some-marks marks some e = let none : length marks ≡ 0 = ap length e in omega (arith, some, none)

module _ {L : Type 0} {J : Jobs L} (jobs : AreJobs J) where
  module _ {X S K F A B : Type 0} (tells : Tells L S K F A B) (opening s : CoreState L) (st : Stands (core J (process J)) opening s)
      (shared : Shared X S K F A B)
      (ss : SharedStands tells shared s)
      (p : ℕ) (one : IsProcess p) where
    abbrev follows : Follows J (process J p) (s.histories p)
    follows = follows-of jobs (process J) p (s.histories p) (st.follows p)

    -- ---- at a buffer
    -- its side has not stopped there
    side-open : (a : Action) (b : ℕ) (side : Side) (visit : Visit) → next_action (process J p) (s.histories p) ≡ Some a → call p a ≡ At b side visit
        → has_stopped (s.buffers b).sides side ≡ false
    side-open a b side visit next e =
        let seated = seated-by jobs (the-five jobs) p (s.histories p) one.0 follows a b side visit next e in
        mark-is jobs (the-five jobs) opening s st b side
        ∙ subst (λ q. stopped_it b (s.histories q) ≡ false) (sym seated) (unstopped-by jobs (the-five jobs) p
        (s.histories p) one.0 follows a b side visit next e)

    at-turn : (a : Action) (b : ℕ) (side : Side) (visit : Visit) → MayCall s p (call p a) → call p a ≡ At b side visit
        → MayVisit (s.buffers b).sides side p visit
    at-turn a b side visit may e = subst (MayCall s p) e may

    -- who awaits or passes
    pub waits-at : (a : Action) (b : ℕ) (side : Side) (sides : Sides) → next_action (process J p) (s.histories p) ≡ Some a → MayCall s p (call p a)
        → (call p a ≡ At b side Passes) ⊎ (call p a ≡ At b side Awaits) → (s.buffers b).sides ≡ sides → WaitsAt sides side p
    waits-at a b side sides next may (inl e) same = (
      subst (λ sides. MayEnter sides side p) same (at-turn a b side Passes may e),
      subst (λ sides. has_stopped sides side
          ≡ false) same (side-open a b side Passes next e),
    )
    waits-at a b side sides next may (inr e) same = (
      subst (λ sides. MayEnter sides side p) same (at-turn a b side Awaits may e),
      subst (λ sides. has_stopped sides side
          ≡ false) same (side-open a b side Awaits next e),
    )

    -- what was awaited is there
    ready-at : (a : Action) (b : ℕ) (side : Side) → next_action (process J p) (s.histories p) ≡ Some a → call p a ≡ At b side Moves
        → IsReady (s.buffers b) side
    ready-at a b side next e =
        let seated = seated-by jobs (the-five jobs) p (s.histories p) one.0 follows a b side Moves next e in
        let found = (lawful jobs (the-five jobs)).found p (s.histories p) b side one
        (st.follows p) record { action = a; next = next; call = e } in
        st.buffers.ready b side (subst (λ q. found_ready b side (law.acts (core J (process J)) q (s.histories q)) ≡ true) (sym seated) found)

    moves-at : (a : Action) (b : ℕ) (side : Side) (sides : Sides) → next_action (process J p) (s.histories p) ≡ Some a → MayCall s p (call p a)
        → call p a ≡ At b side Moves → (s.buffers b).sides ≡ sides → MayStop sides side × (has_stopped sides side ≡ false)
    moves-at a b side sides next may e same = (
      subst (λ sides. MayStop sides side) same (at-turn a b side Moves may e),
      subst (λ sides. has_stopped sides side
          ≡ false) same (side-open a b side Moves next e),
    )

    cards-sides : (s.buffers 1).sides ≡ shared.cards.sides
    cards-sides = ap (λ (b : Buffer (Parcel L)). b.sides) ss.cards.is

    input-sides : (s.buffers 2).sides ≡ shared.input.sides
    input-sides = ap (λ (b : Buffer (Parcel L)). b.sides) ss.input.is

    output-sides : (s.buffers 3).sides ≡ shared.output.sides
    output-sides = ap (λ (b : Buffer (Parcel L)). b.sides) ss.output.is

    lines-sides : (s.buffers 4).sides ≡ shared.lines.sides
    lines-sides = ap (λ (b : Buffer (Parcel L)). b.sides) ss.lines.is

    -- ---- feeds
    may-put_feed : (f : Feed) → next_action (process J p) (s.histories p) ≡ Some (act.PutFeed f) → MayCall s p (call p (act.PutFeed f))
        → MayPerform tells shared p (act.PutFeed f)
    may-put_feed f next may =
        elim (feed-puts jobs p one (s.histories p) f follows next) as (λ _. MayPerform tells shared p (act.PutFeed f)) [
          | inl is ↦ first-number p 1 4 (WaitsAt shared.cards.sides Sender)
              (WaitsAt shared.lines.sides Sender) is (waits-at (act.PutFeed f) 1 Sender shared.cards.sides next may
              (inl (ap (λ p. At p Sender Passes) is)) cards-sides)
          | inr is ↦ second-number p 1 4 (WaitsAt shared.cards.sides Sender)
              (WaitsAt shared.lines.sides Sender) refl is (waits-at (act.PutFeed f) 4 Sender shared.lines.sides next may
              (inl (ap (λ p. At p Sender Passes) is)) lines-sides)
        ]

    may-take_feed : next_action (process J p) (s.histories p) ≡ Some act.TakeFeed → MayCall s p (call p act.TakeFeed) → MayPerform tells shared p act.TakeFeed
    may-take_feed next may =
        elim (takes-feed jobs p (s.histories p) one next) as (λ _. MayPerform tells shared p act.TakeFeed) [
          | inl is ↦ first-number p 2 5 (WaitsAt shared.cards.sides Receiver)
              (WaitsAt shared.lines.sides Receiver) is (waits-at act.TakeFeed 1 Receiver shared.cards.sides next may
              (inl (ap (λ p. call p act.TakeFeed) is)) cards-sides)
          | inr is ↦ second-number p 2 5 (WaitsAt shared.cards.sides Receiver)
              (WaitsAt shared.lines.sides Receiver) refl is (waits-at act.TakeFeed 4 Receiver shared.lines.sides next may
              (inl (ap (λ p. call p act.TakeFeed) is)) lines-sides)
        ]

    -- ---- pages
    may-await_room : next_action (process J p) (s.histories p) ≡ Some act.AwaitRoom → MayCall s p (call p act.AwaitRoom)
        → MayPerform tells shared p act.AwaitRoom
    may-await_room next may =
        elim (room-waits jobs p (s.histories p) one follows next) as (λ _. MayPerform tells shared p act.AwaitRoom) [
          | inl is ↦ first-number p 2 3 (WaitsAt shared.input.sides Sender)
              (WaitsAt shared.output.sides Sender) is (waits-at act.AwaitRoom 2 Sender shared.input.sides next may
              (inr (ap (λ p. call p act.AwaitRoom) is)) input-sides)
          | inr is ↦ second-number p 2 3 (WaitsAt shared.input.sides Sender)
              (WaitsAt shared.output.sides Sender) refl is (waits-at act.AwaitRoom 3 Sender shared.output.sides next may
              (inr (ap (λ p. call p act.AwaitRoom) is)) output-sides)
        ]

    may-await_item : next_action (process J p) (s.histories p) ≡ Some act.AwaitItem → MayCall s p (call p act.AwaitItem)
        → MayPerform tells shared p act.AwaitItem
    may-await_item next may =
        elim (item-waits jobs p (s.histories p) one next) as (λ _. MayPerform tells shared p act.AwaitItem) [
          | inl is ↦ first-number p 3 4 (WaitsAt shared.input.sides Receiver)
              (WaitsAt shared.output.sides Receiver) is (waits-at act.AwaitItem 2 Receiver shared.input.sides next may
              (inr (ap (λ p. call p act.AwaitItem) is)) input-sides)
          | inr is ↦ second-number p 3 4 (WaitsAt shared.input.sides Receiver)
              (WaitsAt shared.output.sides Receiver) refl is (waits-at act.AwaitItem 3 Receiver shared.output.sides next may
              (inr (ap (λ p. call p act.AwaitItem) is)) output-sides)
        ]

    puts-input : (page : Page) → next_action (process J p) (s.histories p) ≡ Some (act.PutPage page) → MayCall s p (call p (act.PutPage page)) → p ≡ 2
        → PutsAt shared.input
    puts-input page next may is =
        let e = ap (λ p. At p Sender Moves) is in
        let m = moves-at (act.PutPage page) 2 Sender shared.input.sides next may e input-sides in
        (m.0, subst (λ (b : Buffer (Parcel L)). length b.marks < b.capacity) ss.input.is (ready-at (act.PutPage page) 2 Sender next e), m.1)

    puts-output : (page : Page) → next_action (process J p) (s.histories p) ≡ Some (act.PutPage page) → MayCall s p (call p (act.PutPage page)) → p ≡ 3
        → PutsAt shared.output
    puts-output page next may is =
        let e = ap (λ p. At p Sender Moves) is in
        let m = moves-at (act.PutPage page) 3 Sender shared.output.sides next may e output-sides in
        (m.0, subst (λ (b : Buffer (Parcel L)). length b.marks < b.capacity) ss.output.is (ready-at (act.PutPage page) 3 Sender next e), m.1)

    may-put_page : (page : Page) → next_action (process J p) (s.histories p) ≡ Some (act.PutPage page) → MayCall s p (call p (act.PutPage page))
        → MayPerform tells shared p (act.PutPage page)
    may-put_page page next may =
        elim (moves-page jobs p (s.histories p) page one follows next) as (λ _. MayPerform tells shared p (act.PutPage page)) [
          | inl is ↦ first-number p 2 3 (λ p. PutsAt shared.input) (λ p. PutsAt shared.output) is (puts-input page next may is)
          | inr is ↦ second-number p 2 3 (λ p. PutsAt shared.input) (λ p. PutsAt shared.output) refl is (puts-output page next may is)
        ]

    takes-input : next_action (process J p) (s.histories p) ≡ Some act.TakePage → MayCall s p (call p act.TakePage) → p ≡ 3 → TakesAt shared.input
    takes-input next may is =
        let e = ap (λ p. call p act.TakePage) is in
        let m = moves-at act.TakePage 2 Receiver shared.input.sides next may e input-sides in (
          m.0,
          some-marks shared.input.ring.marks (subst (λ (b : Buffer (Parcel L)). 0 < length b.marks) ss.input.is
              (ready-at act.TakePage 2 Receiver next e)),
          m.1,
        )

    takes-output : next_action (process J p) (s.histories p) ≡ Some act.TakePage → MayCall s p (call p act.TakePage) → p ≡ 4 → TakesAt shared.output
    takes-output next may is =
        let e = ap (λ p. call p act.TakePage) is in
        let m = moves-at act.TakePage 3 Receiver shared.output.sides next may e output-sides in (
          m.0,
          some-marks shared.output.ring.marks (subst (λ (b : Buffer (Parcel L)). 0 < length b.marks) ss.output.is
              (ready-at act.TakePage 3 Receiver next e)),
          m.1,
        )

    may-take_page : next_action (process J p) (s.histories p) ≡ Some act.TakePage → MayCall s p (call p act.TakePage) → MayPerform tells shared p act.TakePage
    may-take_page next may =
        elim (takes-page jobs p (s.histories p) one next) as (λ _. MayPerform tells shared p act.TakePage) [
          | inl is ↦ first-number p 3 4 (λ p. TakesAt shared.input) (λ p. TakesAt shared.output) is (takes-input next may is)
          | inr is ↦ second-number p 3 4 (λ p. TakesAt shared.input) (λ p. TakesAt shared.output) refl is (takes-output next may is)
        ]

    -- ---- a stop
    at-turn-stop : (b : ℕ) → MayCall s p (call p (act.Stop b)) → MayStop (s.buffers b).sides (side_at p b)
    at-turn-stop b may = may

    four-buffers : (P : ℕ → Type 0) (b : ℕ) → IsBuffer b → P 1 → P 2 → P 3 → P 4 → P b
    four-buffers P b is one two three four =
        elim (eqb_tells b 1) as (λ _. P b) [
          | inl a ↦ subst P (sym a.1) one
          | inr a ↦ elim (eqb_tells b 2) as (λ _. P b) [
            | inl c ↦ subst P (sym c.1) two
            | inr c ↦ elim (eqb_tells b 3) as (λ _. P b) [
              | inl d ↦ subst P (sym d.1) three
              | inr d ↦ (let last : b
                  ≡ 4 =
                  (let a =
                  a.1 in let c = c.1 in let d = d.1 in let low = is.0 in let high = is.1 in omega (arith, a, c, d, low, high)) in subst P (sym last) four)
            ]
          ]
        ]

    may-stop : (b : ℕ) → next_action (process J p) (s.histories p) ≡ Some (act.Stop b) → MayCall s p (call p (act.Stop b)) → MayPerform tells shared p
        (act.Stop b)
    may-stop b next may =
        let G : ℕ → Type 0 = λ b. (side : Side) → MayStop (s.buffers b).sides side → StopsAt shared b side in
        four-buffers G b (call-buffer jobs (the-five jobs) p (s.histories p) one follows (act.Stop b) b (side_at p b) Stops next refl)
        (λ side may. subst (λ sides. MayStop sides side) cards-sides may)
        (λ side may. subst (λ sides. MayStop sides side) input-sides may)
        (λ side may. subst (λ sides. MayStop sides side) output-sides may)
        (λ side may. subst (λ sides. MayStop sides side) lines-sides may)
        (side_at p b) may

    -- ---- the desk
    own-holder : s.desk.claims.holder ≡ Some p → s.desk.claims.handed ≡ None → holds (s.histories p) ≡ true
    own-holder held free =
        elim (st.desk.holder p held) as (λ _. holds (s.histories p) ≡ true) [
          | inl handed ↦ absurd (let no = sym free ∙ handed in cc)
          | inr on ↦ sym (holds-are jobs (process J) p (s.histories p) follows) ∙ on
        ]

    none-of : (holder : Option ℕ) (waiting : List ℕ) → (holder ≡ Some p → ⊥) → IsNoneOf waiting p → IsNoneOf (option_to_list holder ++ waiting) p
    none-of None waiting not none = none
    none-of (Some q) waiting not none = ((λ e. not (ap Some e)), none)

    pub may-request : next_action (process J p) (s.histories p) ≡ Some act.Request → MayCall s p (call p act.Request) → MayRequest s.desk.claims p
    may-request next (inl (free, none)) =
        let off = request-holds_not J (process J p) (s.histories p) ((the-five jobs).relays p) follows next in
        inl (free, none-of s.desk.claims.holder s.desk.claims.waiting (λ held. (let on = own-holder held free in cc)) none)
    may-request next (inr handed) = inr handed

    may-release : next_action (process J p) (s.histories p) ≡ Some act.Release → MayCall s p (call p act.Release)
        → IsSome s.desk.claims.holder × (s.desk.claims.handed ≡ None)
    may-release next may =
        let on = holds-are jobs (process J) p (s.histories p) follows ∙ release-holds J (process J p) (s.histories p)
        ((the-five jobs).relays p) follows next in
        let held = st.desk.holds_alone p on in
        (rw held refl, may)

    -- ---- the devices, as long as nothing has stopped their processes
    may-read : (caused (s.histories 1) ≡ None → shared.deck.live ≡ true) → next_action (process J p) (s.histories p) ≡ Some act.ReadCard
        → MayPerform tells shared p act.ReadCard
    may-read live next =
        let is = reads-deck jobs p (s.histories p) next in
        live (subst (λ q. caused (s.histories q) ≡ None) is (open-next J (process J p) (s.histories p) act.ReadCard next tt))

    may-print : (caused (s.histories 5) ≡ None → shared.paper.live ≡ true) → (line : List ℕ) → next_action (process J p) (s.histories p) ≡ Some
        (act.Print line)
        → MayPerform tells shared p (act.Print line)
    may-print live line next =
        let is = prints-paper jobs p (s.histories p) line one follows next in
        live (subst (λ q. caused (s.histories q) ≡ None) is (open-next J (process J p) (s.histories p) (act.Print line) next tt))

    may-load : (caused (s.histories 3) ≡ None → tells.sound shared.files) → (file : List ℕ) → next_action (process J p) (s.histories p) ≡ Some
        (act.Load file)
        → MayPerform tells shared p (act.Load file)
    may-load sound file next =
        let is = loads-files jobs p (s.histories p) file one follows next in
        sound (subst (λ q. caused (s.histories q) ≡ None) is (open-next J (process J p) (s.histories p) (act.Load file) next tt))

    -- What is next at its turn may be performed.
    pub may-perform : (caused (s.histories 1) ≡ None → shared.deck.live ≡ true) → (caused (s.histories 5) ≡ None → shared.paper.live ≡ true)
        → (caused (s.histories 3) ≡ None → tells.sound shared.files) → length s.desk.claims.waiting < 5 → (a : Action) → next_action (process J p)
        (s.histories p)
        ≡ Some a → MayCall s p (call p a) → MayPerform tells shared p a
    may-perform deck paper files room act.ReadCard next may = may-read deck next
    may-perform deck paper files room (act.PutFeed f) next may = may-put_feed f next may
    may-perform deck paper files room act.TakeFeed next may = may-take_feed next may
    may-perform deck paper files room act.AwaitRoom next may = may-await_room next may
    may-perform deck paper files room act.AwaitItem next may = may-await_item next may
    may-perform deck paper files room act.Request next may =
        (subst (λ (c : Claims). MayRequest c p) ss.desk (may-request next may), subst (λ (c : Claims). length c.waiting < 5) ss.desk room)
    may-perform deck paper files room (act.PutPage page) next may = may-put_page page next may
    may-perform deck paper files room act.TakePage next may = may-take_page next may
    may-perform deck paper files room (act.Load file) next may = may-load files file next
    may-perform deck paper files room act.Release next may =
        subst (λ (c : Claims). IsSome c.holder × (c.handed ≡ None)) ss.desk (may-release next may)
    may-perform deck paper files room act.Local next may = tt
    may-perform deck paper files room (act.Print line) next may = may-print paper line next
    may-perform deck paper files room (act.Stop b) next may = may-stop b next may
    may-perform deck paper files room (act.Ended how) next may = tt
