-- Each event of a run is a call that is made, or puts one to sleep; and few can sleep.
use Rattle.std.proofs.Common.{◌≡◌, inl, inr, ℕ, suc, ◌+◌, ◌≤◌, true, false, List, [], ◌∷◌, ◌++◌, length, Option, None, Some, refl, sym, ap, subst, arith}
use Rattle.std.specs.Prelude.{option_to_list}
use Rattle.std.specs.List.{AllByRecursion}
use Rattle.std.proofs.lemmas.Bool.Decides.{eqb_tells}
use Rattle.resource_mon.specs.Claims.{EachOnce}
use Rattle.network_law.specs.Acts.{Call, Alone, At, Asks, Gives, Visit, Went, is_delayed, moved}
use Rattle.network_law.specs.Acts as go
use Rattle.network_run.specs.Law.{AreEnabled, run}
use Rattle.network_law.specs.Network.{IsEnabled, IsOne, MayCall, happens, acts, buffers_after, desk_after}
use Rattle.network_law.specs.Network as law
use Rattle.network_law.specs.Kept.{Stands, StandsAtDesk}
use Rattle.network_law.proofs.Reached.{stands-event}
use Rattle.solo_base.specs.declared.outcome.Side.{Side}
use Rattle.page_codec.specs.Packing.{fits}
use Rattle.batch_procs.specs.declared.actions.Reply.{Reply}
use Rattle.batch_procs.specs.Jobs.{Jobs}
use Rattle.batch_procs.specs.Parcels.{Parcel, is_last}
use Rattle.place_law.specs.Process.{Does, LacksMemory, Delays, action_of}
use Rattle.batch_procs.specs.declared.actions.Reply.TheVariants as reply
use Rattle.twin_law.specs.Process.{Action, ReadCard, PutFeed, TakeFeed, AwaitRoom, AwaitItem, Request, PutPage, TakePage, Load, Release, Local, Print, Stop, Ended, Entry, Process, place}
use Rattle.twin_law.specs.Table.{process}
use Rattle.twin_law.specs.Twin.{call, went_by, went, Fits, MayLack, Suits, twin, TwinState, TwinEvent, IsBuffer}
use Rattle.twin_law.specs.TheLaw.{the_law}
use Rattle.twin_law.proofs.Lawful.{lawful, each-process}
use Rattle.twin_law.proofs.Sleeping.{sleepers_at, Slept, wakes, visit-slept, asks-slept, gives-still, same-still, among, two-most, at-most, AreUpTo}
use Rattle.twin_law.proofs.Numbered.{calls-at}
use Rattle.twin_law.proofs.CallsMade.{counts_by, counts, made}

pub each-buffer : (P : ℕ → Type 0) (b : ℕ) → IsBuffer b → P 1 → P 2 → P 3 → P 4 → P 5 → P 6 → P b
each-buffer P b is one two three four five six =
    elim (eqb_tells b 1) as (λ _. P b) [
      | inl a ↦ subst P (sym a.1) one
      | inr a ↦ elim (eqb_tells b 2) as (λ _. P b) [
        | inl c ↦ subst P (sym c.1) two
        | inr c ↦ elim (eqb_tells b 3) as (λ _. P b) [
          | inl d ↦ subst P (sym d.1) three
          | inr d ↦ elim (eqb_tells b 4) as (λ _. P b) [
            | inl e ↦ subst P (sym e.1) four
            | inr e ↦ elim (eqb_tells b 5) as (λ _. P b) [
              | inl f ↦ subst P (sym f.1) five
              | inr f ↦ (let last : b ≡ 6 = (let a = a.1 in let c = c.1 in let d = d.1 in let e = e.1 in let f = f.1 in let low = is.0 in let high = is.1 in
                  omega (arith, a, c, d, e, f, low, high)) in subst P (sym last) six)
            ]
          ]
        ]
      ]
    ]

add-up : (n k m c s now all sl : ℕ) → k ≡ m + c → s + 1 ≤ c + now → n + k + now ≤ all + sl → suc n + m + s ≤ all + sl
add-up n k m c s now all sl is more rest = omega (arith, is, more, rest)

module _ {L : Type 0} where
  -- ---- who sleeps at the six buffers and the desk
  abbrev at : TwinState L → ℕ → ℕ
  at s b = sleepers_at (s.buffers b).sides

  abbrev pub sleepers : TwinState L → ℕ
  sleepers s = at s 1 + at s 2 + at s 3 + at s 4 + at s 5 + at s 6 + length s.desk.claims.waiting

  abbrev after : TwinState L → ℕ → Call → Went (Parcel L) → TwinState L
  after s p c w = record s { buffers = buffers_after is_last c p w s.buffers; desk = desk_after c p w s.desk }

  module _ (s : TwinState L) (p : ℕ) where
    abbrev AtSlept : ℕ → Side → Visit → Went (Parcel L) → Type 0
    AtSlept b side visit w = Slept (Parcel L) (is_delayed w) (wakes (Parcel L) (At b side visit) w) (sleepers s) (sleepers (after s p (At b side visit) w))

    abbrev waiting : ℕ
    waiting = length s.desk.claims.waiting

    at-slept : (b : ℕ) (side : Side) (visit : Visit) (w : Went (Parcel L)) → IsBuffer b → MayCall s p (At b side visit) → law.Fits is_last s (At b side visit) w → AtSlept b side visit w
    at-slept b side visit w is may fits =
        each-buffer (λ b. MayCall s p (At b side visit) → law.Fits is_last s (At b side visit) w → AtSlept b side visit w) b is
        (λ may fits. among (Parcel L) (is_delayed w) _ (at s 1) _ (at s 2 + at s 3 + at s 4 + at s 5 + at s 6 + waiting) _ _ (omega arith) (omega arith)
        (visit-slept (Parcel L) is_last side (s.buffers 1) visit p w may fits))
        (λ may fits. among (Parcel L) (is_delayed w) _ (at s 2) _ (at s 1 + at s 3 + at s 4 + at s 5 + at s 6 + waiting) _ _ (omega arith) (omega arith)
        (visit-slept (Parcel L) is_last side (s.buffers 2) visit p w may fits))
        (λ may fits. among (Parcel L) (is_delayed w) _ (at s 3) _ (at s 1 + at s 2 + at s 4 + at s 5 + at s 6 + waiting) _ _ (omega arith) (omega arith)
        (visit-slept (Parcel L) is_last side (s.buffers 3) visit p w may fits))
        (λ may fits. among (Parcel L) (is_delayed w) _ (at s 4) _ (at s 1 + at s 2 + at s 3 + at s 5 + at s 6 + waiting) _ _ (omega arith) (omega arith)
        (visit-slept (Parcel L) is_last side (s.buffers 4) visit p w may fits))
        (λ may fits. among (Parcel L) (is_delayed w) _ (at s 5) _ (at s 1 + at s 2 + at s 3 + at s 4 + at s 6 + waiting) _ _ (omega arith) (omega arith)
        (visit-slept (Parcel L) is_last side (s.buffers 5) visit p w may fits))
        (λ may fits. among (Parcel L) (is_delayed w) _ (at s 6) _ (at s 1 + at s 2 + at s 3 + at s 4 + at s 5 + waiting) _ _ (omega arith) (omega arith)
        (visit-slept (Parcel L) is_last side (s.buffers 6) visit p w may fits))
        may fits

    call-slept : (c : Call) (w : Went (Parcel L)) → ((b : ℕ) (side : Side) (visit : Visit) → c ≡ At b side visit → IsBuffer b) → MayCall s p c → law.Fits is_last s c w
        → Slept (Parcel L) (is_delayed w) (wakes (Parcel L) c w) (sleepers s) (sleepers (after s p c w))
    call-slept Alone w place may fits = same-still (Parcel L) w (sleepers s) fits
    call-slept (At b side visit) w place may fits = at-slept b side visit w (place b side visit refl) may fits
    call-slept Asks w place may fits =
        among (Parcel L) (is_delayed w) 0 waiting _ (at s 1 + at s 2 + at s 3 + at s 4 + at s 5 + at s 6) _ _ (omega arith) (omega arith) (asks-slept (Parcel L) s.desk p w)
    call-slept Gives w place may fits =
        among (Parcel L) (is_delayed w) 1 waiting _ (at s 1 + at s 2 + at s 3 + at s 4 + at s 5 + at s 6) _ _ (omega arith) (omega arith)
        (gives-still (Parcel L) w s.desk.claims.waiting fits)

  -- ---- an event counts itself and what it wakes
  wakes-does : (p : ℕ) (a : Action) (r : Reply L) → Fits a r → 1 + wakes (Parcel L) (call p a) (went (Does a r)) ≤ counts_by a r
  wakes-does p ReadCard (reply.Card answer) fits = omega arith
  wakes-does p (PutFeed b f) reply.Done fits = omega arith
  wakes-does p (PutFeed b f) reply.Stopped fits = omega arith
  wakes-does p (TakeFeed b) (reply.Feed f) fits = omega arith
  wakes-does p (TakeFeed b) reply.Stopped fits = omega arith
  wakes-does p (AwaitRoom b) reply.Done fits = omega arith
  wakes-does p (AwaitRoom b) reply.Stopped fits = omega arith
  wakes-does p (AwaitItem b) reply.Done fits = omega arith
  wakes-does p (AwaitItem b) reply.Stopped fits = omega arith
  wakes-does p Request reply.Done fits = omega arith
  wakes-does p (PutPage b page) reply.Done fits = omega arith
  wakes-does p (PutPage b page) reply.Failed fits = omega arith
  wakes-does p (TakePage b) (reply.Page page last) fits = omega arith
  wakes-does p (TakePage b) reply.Failed fits = omega arith
  wakes-does p Release reply.Done fits = omega arith
  wakes-does p (Load file) (reply.Loaded load) fits = omega arith
  wakes-does p (Load file) reply.Failed fits = omega arith
  wakes-does p (Load file) reply.NoMemory fits = omega arith
  wakes-does p Local reply.Done fits = omega arith
  wakes-does p (Print line) reply.Done fits = omega arith
  wakes-does p (Print line) reply.Failed fits = omega arith
  wakes-does p (Print line) reply.NoMemory fits = omega arith
  wakes-does p (Stop b) reply.Done fits = omega arith
  wakes-does p (Ended how) reply.Done fits = omega arith
  wakes-does p a r fits = absurd fits

  wakes-lacks : (p : ℕ) (a : Action) (r : Reply L) → MayLack a r → 1 + wakes (Parcel L) (call p a) (went (LacksMemory a r)) ≤ counts_by a r
  wakes-lacks p (TakePage b) (reply.Page page last) may = omega arith
  wakes-lacks p Local reply.Done may = omega arith
  wakes-lacks p a r may = absurd may

  answered-does : (a : Action) (r : Reply L) → Fits a r → is_delayed (went_by a r) ≡ false
  answered-does (PutFeed b f) reply.Done fits = refl
  answered-does (PutPage b page) reply.Done fits = refl
  answered-does (TakeFeed b) (reply.Feed f) fits = refl
  answered-does (TakePage b) (reply.Page page last) fits = refl
  answered-does a reply.Stopped fits = refl
  answered-does a r fits = refl

  answered-lacks : (a : Action) (r : Reply L) → MayLack a r → is_delayed (went_by a r) ≡ false
  answered-lacks (TakePage b) (reply.Page page last) may = refl
  answered-lacks Local reply.Done may = refl
  answered-lacks a r may = absurd may

  more-or-sleeps : (J : Jobs L) (q : Process L) (p : ℕ) (entry : Entry L) (s now : ℕ) → Suits J q entry
      → Slept (Parcel L) (is_delayed (went entry)) (wakes (Parcel L) (call p (action_of entry)) (went entry)) s now → s + 1 ≤ counts entry + now
  more-or-sleeps J q p (Does a r) s now suits sleep =
      let few = wakes-does p a r suits.0 in
      let rest : s ≤ now + wakes (Parcel L) (call p a) (went (Does a r)) =
      subst (λ d. Slept (Parcel L) d (wakes (Parcel L) (call p a) (went (Does a r))) s now) (answered-does a r suits.0) sleep in
      omega (arith, few, rest)
  more-or-sleeps J q p (LacksMemory a r) s now suits sleep =
      let few = wakes-lacks p a r suits.1 in
      let rest : s ≤ now + wakes (Parcel L) (call p a) (went (LacksMemory a r)) =
      subst (λ d. Slept (Parcel L) d (wakes (Parcel L) (call p a) (went (LacksMemory a r))) s now) (answered-lacks a r suits.1) sleep in
      omega (arith, few, rest)
  more-or-sleeps J q p (Delays a) s now suits sleep = omega (arith, sleep)

  -- ---- all that was made
  abbrev pub all_made : TwinState L → ℕ
  all_made s = made (s.histories 1) + made (s.histories 2) + made (s.histories 3) + made (s.histories 4) + made (s.histories 5) + made (s.histories 6)

  module _ (J : Jobs L) (s : TwinState L) (entry : Entry L) (gained : List ℕ) where
    abbrev Then : ℕ → TwinState L
    Then p = happens (twin J) s record { process = p; entry = entry; gained = gained }

    made-at : (p : ℕ) → IsOne (twin J) p → all_made (Then p) ≡ all_made s + counts entry
    made-at p one = each-process J (λ p. all_made (Then p) ≡ all_made s + counts entry) p one (omega arith) (omega arith) (omega arith) (omega arith) (omega arith) (omega arith)

  module _ (J : Jobs L) where
    slept : (s : TwinState L) (event : TwinEvent L) → law.Follows (twin J) event.process (s.histories event.process) → IsEnabled (twin J) s event
        → Slept (Parcel L) (is_delayed (went event.entry)) (wakes (Parcel L) (call event.process (action_of event.entry)) (went event.entry)) (sleepers s) (sleepers (happens (twin J) s event))
    slept s event follows enabled =
        call-slept s event.process (call event.process (action_of event.entry)) (went event.entry)
        (λ b side visit e. calls-at J event.process (s.histories event.process) (action_of event.entry) b side visit enabled.one enabled.next e) enabled.may enabled.fits

    -- Each event of a list is counted, or sleeps.
    pub events-counted : (start s : TwinState L) (events : List (TwinEvent L)) → AreEnabled (the_law J) s events → Stands (twin J) start s
        → length events + all_made s + sleepers s ≤ all_made (run (the_law J) s events) + sleepers (run (the_law J) s events)
    events-counted start s [] are st = omega arith
    events-counted start s (event ∷ events) are st =
        let enabled = are.0 in
        let next = happens (twin J) s event in
        add-up (length events) (all_made next) (all_made s) (counts event.entry) (sleepers s) (sleepers next) _ _
        (made-at J s event.entry event.gained event.process enabled.one)
        (more-or-sleeps J (process J event.process) event.process event.entry (sleepers s) (sleepers next) enabled.suits
        (slept s event (st.follows event.process) enabled))
        (events-counted start next events are.1 (stands-event (lawful J) start s event st enabled))

    -- ---- few sleep
    pub waits-one : (s : TwinState L) (start : TwinState L) → Stands (twin J) start s → (q : ℕ) → StandsAtDesk (twin J) s q → (1 ≤ q) × (q ≤ 6)
    waits-one s start st q at =
        elim (st.others q) as (λ _. (1 ≤ q) × (q ≤ 6)) [
          | inl one ↦ one
          | inr none ↦ absurd (never none at.waits_now)
        ] where
          never : s.histories q ≡ [] → go.waits (acts (twin J) q (s.histories q)) ≡ true → ⊥
          never none on = (let off : go.waits (acts (twin J) q (s.histories q)) ≡ false = ap (λ h. go.waits (acts (twin J) q h)) none in cc)

    pub all-ones : (s start : TwinState L) → Stands (twin J) start s → (qs : List ℕ) → AllByRecursion (StandsAtDesk (twin J) s) qs → AreUpTo 6 qs
    all-ones s start st [] are = tt
    all-ones s start st (q ∷ qs) are = (waits-one s start st q are.0, all-ones s start st qs are.1)

    once-behind : (holder : Option ℕ) (qs : List ℕ) → EachOnce (option_to_list holder ++ qs) → EachOnce qs
    once-behind None qs once = once
    once-behind (Some q) qs once = once.1

    pub few-sleep : (start s : TwinState L) → Stands (twin J) start s → sleepers s ≤ 18
    few-sleep start s st =
        let a = two-most (Parcel L) (s.buffers 1).sides in
        let b = two-most (Parcel L) (s.buffers 2).sides in
        let c = two-most (Parcel L) (s.buffers 3).sides in
        let d = two-most (Parcel L) (s.buffers 4).sides in
        let e = two-most (Parcel L) (s.buffers 5).sides in
        let f = two-most (Parcel L) (s.buffers 6).sides in
        let few = at-most 6 s.desk.claims.waiting (once-behind s.desk.claims.holder s.desk.claims.waiting st.desk.one_holder.each_once)
        (all-ones s start st s.desk.claims.waiting st.desk.waiting) in
        omega (arith, a, b, c, d, e, f, few)
