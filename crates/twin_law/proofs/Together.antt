-- Over told devices one of the six is stopped only where another has a fault.
use Rattle.std.proofs.Common.{◌≡◌, ◌⊎◌, inl, inr, ℕ, ◌==◌, Bool, true, false, List, [], ◌∷◌, Option, None, Some, refl, sym, ◌∙◌, ap, subst}
use Rattle.std.proofs.lemmas.Bool.Decides.{eqb_tells}
use Rattle.network_run.specs.Law.{AreEnabled, run}
use Rattle.network_law.specs.Acts.{At, Visit, Awaits, Passes, Went, Told}
use Rattle.network_law.specs.Buffer.{Buffer, Found, Closed as IsClosed, Ready, Lacking, found, awaited, PassFits}
use Rattle.network_law.specs.Network.{IsEnabled, IsOne, happens}
use Rattle.network_law.specs.Network as law
use Rattle.network_law.specs.Kept.{CanWait}
use Rattle.network_law.proofs.Numbers.{set-same, set-other}
use Rattle.solo_devices.specs.declared.card_read.CardRead.{CardRead}
use Rattle.solo_devices.specs.declared.card_read.CardRead.TheVariants as read
use Rattle.solo_base.specs.declared.item.Item.{Item}
use Rattle.solo_base.specs.declared.outcome.Side.{Side}
use Rattle.solo_base.specs.declared.outcome.Side.TheVariants.{Sender, Receiver}
use Rattle.solo_base.specs.declared.outcome.Outcome.{Outcome}
use Rattle.solo_base.specs.declared.outcome.Outcome.TheVariants as outcome
use Rattle.solo_base.specs.declared.outcome.Cause.{Cause}
use Rattle.solo_base.specs.declared.outcome.Cause.TheVariants as cause
use Rattle.batch_procs.specs.declared.actions.Reply.{Reply}
use Rattle.batch_procs.specs.declared.actions.Reply.TheVariants as reply
use Rattle.batch_procs.specs.Causes.{fault_read}
use Rattle.batch_procs.specs.Jobs.{Jobs, AreJobs, FilesAs}
use Rattle.batch_procs.specs.Parcels.{Parcel, is_last}
use Rattle.place_law.specs.Process.{Does, LacksMemory, Delays, or_new, fault_in, action_of}
use Rattle.twin_law.specs.Process.{Action, PutFeed, TakeFeed, AwaitRoom, AwaitItem, Entry, Process, place, given_cause, fault_at, caused}
use Rattle.twin_law.specs.Table.{process}
use Rattle.twin_law.specs.Twin.{Fits, call, went, went_by, twin, TwinState, TwinEvent}
use Rattle.twin_law.specs.Opening.{Spools, AreTold, is_line, one_line, spool_by, told_of, Opening}
use Rattle.twin_law.specs.TheLaw.{the_law, first_state, IsReached}
use Rattle.twin_law.specs.Outcomes.{HasAFault}
use Rattle.twin_law.specs.UnitWork.{AreByUnits}
use Rattle.twin_law.proofs.CardReads.{put-first}
use Rattle.twin_law.proofs.Devices.{Centre, centre-run, opening-centre}
use Rattle.twin_law.proofs.Faultless.{never-told}

pub all-told : (spools : Spools) → AreTold spools → (b : ℕ) → told_of spools b ≡ true
all-told spools told b = by (is_line b) (b == 2) (b == 3) (b == 4) where
  by : (line two three four : Bool)
      → (spool_by line one_line (spool_by two spools.to_a (spool_by three spools.to_b (spool_by four spools.from_a spools.from_b)))).told ≡ true
  by true two three four = refl
  by false true three four = told.to_a
  by false false true four = told.to_b
  by false false false true = told.from_a
  by false false false false = told.from_b

-- ---- which cause an entry gives that isn't told of a stop
abbrev IsFaultOr : Option Outcome → Type 0
IsFaultOr cause = (cause ≡ None) ⊎ ((c : Cause) × (cause ≡ Some (outcome.Fault c)))

read-cause : (answer : CardRead) → IsFaultOr (fault_read answer)
read-cause (read.Card line) = inl refl
read-cause read.Spoiled = inl refl
read-cause read.End = inl refl
read-cause read.Failed = inr (cause.ReadFault, refl)
read-cause read.Limit = inr (cause.DeckLimit, refl)

found-cause : (c : Option Cause) → IsFaultOr (fault_in c)
found-cause None = inl refl
found-cause (Some c) = inr (c, refl)

cause-by : {L : Type 0} (p : Process L) (x : p.Place) (a : Action) (r : Reply L) → (r ≡ reply.Stopped → ⊥) → IsFaultOr (given_cause p x a r)
cause-by p x a reply.Done never = inl refl
cause-by p x a reply.Stopped never = absurd (never refl)
cause-by p x a reply.Failed never = inr (fault_at a, refl)
cause-by p x a reply.NoMemory never = inr (cause.NoMemory, refl)
cause-by p x a (reply.Card answer) never = read-cause answer
cause-by p x a (reply.Feed f) never = inl refl
cause-by p x a (reply.Page page last) never = found-cause (p.finds x (reply.Page page last))
cause-by p x a (reply.Loaded load) never = inl refl

-- ---- what was found where one is told of a stop
pass-closed : {L : Type 0} (side : Side) (buffer : Buffer (Parcel L)) (finds : Found) → PassFits is_last side buffer finds Told → finds ≡ IsClosed
pass-closed side buffer IsClosed fits = refl
pass-closed side buffer Ready fits = absurd fits
pass-closed side buffer Lacking fits = absurd fits

await-closed : {L : Type 0} (finds : Found) → ◌≡◌ {A = Went (Parcel L)} Told (awaited finds) → finds ≡ IsClosed
await-closed IsClosed e = refl
await-closed Ready e = absurd cc
await-closed Lacking e = absurd cc

record ToldAt {L : Type 0} (s : TwinState L) (p : ℕ) (a : Action) : Type 0 where
  buffer : ℕ
  side : Side
  visit : Visit
  at : call p a ≡ At buffer side visit
  can : CanWait visit
  closed : found (s.buffers buffer) side ≡ IsClosed

told-at : {L : Type 0} (s : TwinState L) (p : ℕ) (a : Action) → Fits {L = L} a reply.Stopped
    → law.Fits is_last s (call p a) (went_by {L = L} a reply.Stopped) → ToldAt s p a
told-at s p (PutFeed b f) is fits =
    record { buffer = b; side = Sender; visit = Passes; at = refl; can = tt; closed = pass-closed Sender (s.buffers b) (found (s.buffers b) Sender) fits }
told-at s p (TakeFeed b) is fits =
    record { buffer = b; side = Receiver; visit = Passes; at = refl; can = tt; closed = pass-closed Receiver (s.buffers b) (found (s.buffers b) Receiver) fits }
told-at s p (AwaitRoom b) is fits =
    record { buffer = b; side = Sender; visit = Awaits; at = refl; can = tt; closed = await-closed (found (s.buffers b) Sender) fits }
told-at s p (AwaitItem b) is fits =
    record { buffer = b; side = Receiver; visit = Awaits; at = refl; can = tt; closed = await-closed (found (s.buffers b) Receiver) fits }
told-at s p a is fits = absurd is

module _ {L : Type 0} {J : Jobs L} (jobs : AreJobs J) (by : AreByUnits J) (o : Opening J) (told : AreTold o.spools) (items : List Item) (found : FilesAs L)
    (deck_is : o.deck ≡ Some items) (files_are : o.files ≡ Some found) where
  abbrev IsClean : TwinState L → Type 0
  IsClean s = (p : ℕ) → IsOne (twin J) p → caused (process J p) (s.histories p) ≡ None

  abbrev Either : TwinState L → Type 0
  Either s = IsClean s ⊎ HasAFault J s

  -- ---- one event
  module _ (s : TwinState L) (c : Centre J (first_state o) s) (event : TwinEvent L) (enabled : IsEnabled (twin J) s event) where
    abbrev p : ℕ
    p = event.process

    abbrev h : List (Entry L)
    h = s.histories p

    after : TwinState L
    after = happens (twin J) s event

    not-stopped : IsClean s → (a : Action) → event.entry ≡ Does a reply.Stopped → ⊥
    not-stopped clean a is =
        let d = c.devices.deck items deck_is in
        let suits = subst (λ entry. (twin J).Suits p entry) is enabled.suits in
        let fits = subst (λ entry. law.Fits is_last s (call p (action_of entry)) (went entry)) is enabled.fits in
        let next = enabled.next ∙ ap (λ entry. Some (action_of entry)) is in
        let at = told-at s p a suits.0 fits in
        never-told jobs by found items (o.cards items deck_is) (first_state o) s c.stands
        (λ b. c.stands.told b (rw (all-told o.spools told b) ([], refl))) (c.devices.loaded found files_are)
        (put-first J (s.histories 1) items d.left (c.stands.follows 1) d.parts d.ended) clean
        p a at.buffer at.side at.visit enabled.one next at.at at.can at.closed

    given-by : (old : Option Outcome) (new : Option Outcome) → old ≡ None → IsFaultOr new → IsFaultOr (or_new old new)
    given-by None new none is = is
    given-by (Some how) new none is = absurd cc

    caused-by : (entry : Entry L) → ((a : Action) → entry ≡ Does a reply.Stopped → ⊥) → caused (process J p) h ≡ None
        → IsFaultOr (caused (process J p) (entry ∷ h))
    caused-by (Does a r) never none =
        given-by (caused (process J p) h) (given_cause (process J p) (place (process J p) h) a r) none
        (cause-by (process J p) (place (process J p) h) a r (λ e. never a (ap (Does a) e)))
    caused-by (LacksMemory a r) never none = given-by (caused (process J p) h) (Some (outcome.Fault cause.NoMemory)) none (inr (cause.NoMemory, refl))
    caused-by (Delays a) never none = inl none

    own : after.histories p ≡ event.entry ∷ h
    unfolding after
    own = set-same s.histories p (event.entry ∷ h)

    clean-after : IsClean s → Either after
    unfolding after
    clean-after clean = elim (caused-by event.entry (not-stopped clean) (clean p enabled.one)) as (λ _. Either after) [
      | inl none ↦ inl (λ q one. elim (eqb_tells q p) as (λ _. caused (process J q) (after.histories q) ≡ None) [
        | inl same ↦ subst (λ q. caused (process J q) (after.histories q) ≡ None) (sym same.1) (ap (caused (process J p)) own ∙ none)
        | inr differ ↦ ap (caused (process J q)) (set-other s.histories p (event.entry ∷ h) q differ.1) ∙ clean q one
      ])
      | inr faulty ↦ inr (p, faulty.0, enabled.one, ap (caused (process J p)) own ∙ faulty.1)
    ]

    caused-on : (q : ℕ) (entry : Entry L) (g : List (Entry L)) (how : Outcome) → caused (process J q) g ≡ Some how → caused (process J q) (entry ∷ g) ≡ Some how
    caused-on q (Does a r) g how is = ap (λ old. or_new old (given_cause (process J q) (place (process J q) g) a r)) is
    caused-on q (LacksMemory a r) g how is = ap (λ old. or_new old (Some (outcome.Fault cause.NoMemory))) is
    caused-on q (Delays a) g how is = is

    fault-after : HasAFault J s → HasAFault J after
    unfolding after
    fault-after (q, why, one, is) = (
      q,
      why,
      one,
      elim (eqb_tells q p) as (λ _. caused (process J q) (after.histories q) ≡ Some (outcome.Fault why)) [
        | inl same ↦ ap (λ n. caused (process J q) (after.histories n)) same.1 ∙ ap (caused (process J q)) own
            ∙ caused-on q event.entry h (outcome.Fault why) (ap (λ n. caused (process J q) (s.histories n)) (sym same.1) ∙ is)
        | inr differ ↦ ap (caused (process J q)) (set-other s.histories p (event.entry ∷ h) q differ.1) ∙ is
      ],
    )

    either-after : Either s → Either after
    either-after (inl clean) = clean-after clean
    either-after (inr faulty) = inr (fault-after faulty)

  -- ---- along a run
  either-run : (s : TwinState L) (events : List (TwinEvent L)) → AreEnabled (the_law J) s events → Centre J (first_state o) s → Either s
      → Either (run (the_law J) s events)
  unfolding after
  either-run s [] are c is = is
  either-run s (event ∷ events) are c is =
      either-run (happens (twin J) s event) events are.1 (centre-run J (first_state o) s (event ∷ []) (are.0, tt) c) (either-after s c event are.0 is)

  either-reached : (s : TwinState L) → IsReached o s → Either s
  either-reached s reached =
      subst Either reached.leads (either-run (first_state o) reached.events reached.enabled (opening-centre J o) (inl (λ p one. refl)))

  -- who was stopped was stopped where another has a fault
  pub stopped-by : (s : TwinState L) → IsReached o s → (p : ℕ) → IsOne (twin J) p → caused (process J p) (s.histories p) ≡ Some outcome.Stopped → HasAFault J s
  stopped-by s reached p one is = elim (either-reached s reached) as (λ _. HasAFault J s) [
    | inl clean ↦ absurd (let no = sym (clean p one) ∙ is in cc)
    | inr faulty ↦ faulty
  ]
