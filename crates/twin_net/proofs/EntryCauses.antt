-- What an entry that gave a process its fault was told.
use Rattle.std.proofs.Common.{◌≡◌, ◌≢◌, ◌⊎◌, inl, inr, ℕ, ◌==◌, if◌then◌else◌, Bool, List, ◌∷◌, Option, None, Some, Result, Ok, Err, refl, sym, ◌∙◌, ap, subst}
use Rattle.std.proofs.lemmas.Bool.Decides.{eqb_tells}
use Rattle.solo_base.specs.declared.page.Page.{Page}
use Rattle.solo_base.specs.declared.outcome.Outcome.{Outcome}
use Rattle.solo_base.specs.declared.outcome.Outcome.TheVariants as outcome
use Rattle.solo_base.specs.declared.outcome.Cause.{Cause}
use Rattle.solo_base.specs.declared.outcome.Cause.TheVariants as cause
use Rattle.solo_devices.specs.declared.card_read.CardRead.{CardRead}
use Rattle.solo_devices.specs.declared.card_read.CardRead.TheVariants as read
use Rattle.page_codec.specs.declared.judge.BadPage.{BadPage}
use Rattle.page_codec.specs.Reading.{PageContent}
use Rattle.batch_procs.specs.declared.actions.Reply.{Reply}
use Rattle.batch_procs.specs.declared.actions.Reply.TheVariants as reply
use Rattle.batch_procs.specs.Causes.{fault_read}
use Rattle.batch_procs.specs.Faults.{IsDamaged}
use Rattle.batch_procs.specs.Jobs.{Jobs}
use Rattle.place_law.specs.Ending.{outcome_by}
use Rattle.place_law.specs.Process.{Does, LacksMemory, Delays, action_of, or_new, fault_in}
use Rattle.network_law.specs.Network.{IsOne, happens}
use Rattle.twin_law.specs.Process.{Action, ReadCard, TakePage, Print, Entry, Process, place, fault_at, given_cause, caused}
use Rattle.twin_law.specs.Sides.{A}
use Rattle.twin_law.specs.Job.{JobPlace, TakesItems, page_taken, damage, job}
use Rattle.twin_law.specs.Output.{OutputPlace, TakesLines, page_in_turn, output}
use Rattle.twin_law.specs.Table.{process}
use Rattle.twin_law.specs.Twin.{MayLack, Suits, twin, TwinState, TwinEvent}
use Rattle.twin_law.proofs.Lawful.{each-process}
use Rattle.twin_net.specs.Doing.{IsPrint}
use Rattle.twin_net.specs.Steps.{twin_reply_of}

-- ---- what an entry that gave a fault was told
pub same-fault : (c d : Cause) → Some (outcome.Fault c) ≡ Some (outcome.Fault d) → c ≡ d
same-fault c d e = cc

pub fault-of : (how : Option Outcome) (c : Cause) → outcome_by how ≡ outcome.Fault c → how ≡ Some (outcome.Fault c)
fault-of None c e = absurd cc
fault-of (Some how) c e = ap Some e

abbrev pub IsOther : Action → Type 0
IsOther (Print line) = ⊥
IsOther a = Unit {0}

abbrev pub Told : {L : Type 0} → Cause → Action → Option (Reply L) → Type 0
Told cause.ReadFault a r = r ≡ Some (reply.Card read.Failed)
Told cause.DeckLimit a r = r ≡ Some (reply.Card read.Limit)
Told cause.DiskFault a r = IsOther a × (r ≡ Some reply.Failed)
Told cause.PrintFault a r = IsPrint a × (r ≡ Some reply.Failed)
Told other a r = Unit {0}

damaged-told : {L : Type 0} (c : Cause) (a : Action) (r : Option (Reply L)) → IsDamaged c → Told c a r
damaged-told (cause.Damaged expected found at) a r is = tt
damaged-told c a r is = absurd is

or-gave : (old new : Option Outcome) (how : Outcome) → or_new old new ≡ Some how → (old ≡ Some how) ⊎ (new ≡ Some how)
or-gave None new how e = inr e
or-gave (Some before) new how e = inl e

or-keeps : (old new : Option Outcome) (how : Outcome) → old ≡ Some how → or_new old new ≡ Some how
or-keeps old new how e = ap (λ old. or_new old new) e

damaged-by : (page : Result PageContent BadPage) (c : Cause) → fault_in (damage page) ≡ Some (outcome.Fault c) → IsDamaged c
damaged-by (Ok content) c e = absurd cc
damaged-by (Err bad) c e = subst IsDamaged (same-fault (cause.Damaged bad.expected bad.found bad.at) c e) tt

pub failing : {L : Type 0} (r : Option (Reply L)) → (r ≡ Some reply.Failed) ⊎ (r ≢ Some reply.Failed)
failing (Some reply.Failed) = inl refl
failing r = inr (λ e. cc)

pub reads-or-not : (a : Action) → (a ≡ ReadCard) ⊎ (a ≢ ReadCard)
reads-or-not ReadCard = inl refl
reads-or-not a = inr (λ e. cc)

told-read : (L : Type 0) (c : Cause) (a : Action) (answer : CardRead) → fault_read answer ≡ Some (outcome.Fault c) → Told {L = L} c a (Some (reply.Card answer))
told-read L c a (read.Card line) e = absurd cc
told-read L c a read.Spoiled e = absurd cc
told-read L c a read.End e = absurd cc
told-read L c a read.Failed e = subst (λ c. Told {L = L} c a (Some (reply.Card read.Failed))) (same-fault cause.ReadFault c e) refl
told-read L c a read.Limit e = subst (λ c. Told {L = L} c a (Some (reply.Card read.Limit))) (same-fault cause.DeckLimit c e) refl

told-failed : (L : Type 0) (c : Cause) (a : Action) → Some (outcome.Fault (fault_at a)) ≡ Some (outcome.Fault c) → Told {L = L} c a (Some reply.Failed)
told-failed L c (Print line) e = subst (λ c. Told {L = L} c (Print line) (Some reply.Failed)) (same-fault cause.PrintFault c e) (tt, refl)
told-failed L c a e = subst (λ c. Told {L = L} c a (Some reply.Failed)) (same-fault cause.DiskFault c e) (tt, refl)

told-memory : {L : Type 0} (c : Cause) (a : Action) (r : Option (Reply L)) → Some (outcome.Fault cause.NoMemory) ≡ Some (outcome.Fault c) → Told c a r
told-memory c a r e = subst (λ c. Told c a r) (same-fault cause.NoMemory c e) tt

lack-limit : (L : Type 0) (a : Action) → MayLack {L = L} a (reply.Card read.Limit) → ⊥
lack-limit L (TakePage b) may = may
lack-limit L a may = may

-- the cause that an entry gives
abbrev pub cause_in : {L : Type 0} → Process L → Entry L → List (Entry L) → Option Outcome
cause_in p (Does a r) h = given_cause p (place p h) a r
cause_in p (LacksMemory a r) h = Some (outcome.Fault cause.NoMemory)
cause_in p (Delays a) h = None

module _ {L : Type 0} where
  pub entry-gave : (p : Process L) (entry : Entry L) (h : List (Entry L)) (how : Outcome) → caused p (entry ∷ h) ≡ Some how
      → (caused p h ≡ Some how) ⊎ (cause_in p entry h ≡ Some how)
  entry-gave p (Does a r) h how e = or-gave (caused p h) (given_cause p (place p h) a r) how e
  entry-gave p (LacksMemory a r) h how e = or-gave (caused p h) (Some (outcome.Fault cause.NoMemory)) how e
  entry-gave p (Delays a) h how e = inl e

  entry-keeps : (p : Process L) (entry : Entry L) (h : List (Entry L)) (how : Outcome) → caused p h ≡ Some how → caused p (entry ∷ h) ≡ Some how
  entry-keeps p (Does a r) h how e = or-keeps (caused p h) (given_cause p (place p h) a r) how e
  entry-keeps p (LacksMemory a r) h how e = or-keeps (caused p h) (Some (outcome.Fault cause.NoMemory)) how e
  entry-keeps p (Delays a) h how e = e

  -- only a card at the limit gives the cause of the limit
  same-reply : (r s : Reply L) → Some r ≡ Some s → r ≡ s
  same-reply r s e = cc

  pub limit-gives : (J : Jobs L) (p : Process L) (entry : Entry L) (h : List (Entry L)) → Suits J p entry → twin_reply_of entry ≡ Some (reply.Card read.Limit)
      → caused p h ≡ None → caused p (entry ∷ h) ≡ Some (outcome.Fault cause.DeckLimit)
  limit-gives J p (Does a r) h suits told none =
      ap (λ r. or_new (caused p h) (given_cause p (place p h) a r)) (same-reply r (reply.Card read.Limit) told)
      ∙ ap (λ old. or_new old (Some (outcome.Fault cause.DeckLimit))) none
  limit-gives J p (LacksMemory a r) h suits told none =
      absurd (lack-limit L a (subst (MayLack a) (same-reply r (reply.Card read.Limit) told) suits.1))
  limit-gives J p (Delays a) h suits told none = absurd cc

module _ {L : Type 0} (J : Jobs L) where
  -- ---- pages that are found to be damaged
  abbrev FindsDamage : ℕ → Type 0
  FindsDamage p = (at : (process J p).Place) (page : Page) (last : Bool) (c : Cause)
      → fault_in ((process J p).finds at (reply.Page page last)) ≡ Some (outcome.Fault c) → IsDamaged c

  job-finds : (at : JobPlace L) (page : Page) (last : Bool) (c : Cause) → fault_in ((job J A).finds at (reply.Page page last)) ≡ Some (outcome.Fault c)
      → IsDamaged c
  job-finds (TakesItems s) page last c e = damaged-by (page_taken s page last) c e
  job-finds at page last c e = absurd cc

  output-finds : (at : OutputPlace) (page : Page) (last : Bool) (c : Cause)
      → fault_in ((output {L = L}).finds at (reply.Page page last)) ≡ Some (outcome.Fault c) → IsDamaged c
  output-finds (TakesLines t) page last c e = damaged-by (page_in_turn t page last) c e
  output-finds at page last c e = absurd cc

  finds-damage : (p : ℕ) → IsOne (twin J) p → FindsDamage p
  finds-damage p one =
      each-process J FindsDamage p one (λ at page last c e. absurd cc) (λ at page last c e. absurd cc) job-finds job-finds output-finds
      (λ at page last c e. absurd cc)

  pub told-so : (p : ℕ) → IsOne (twin J) p → (entry : Entry L) (h : List (Entry L)) (c : Cause) → cause_in (process J p) entry h ≡ Some (outcome.Fault c)
      → Told c (action_of entry) (twin_reply_of entry)
  told-so p one (Does a reply.Done) h c e = absurd cc
  told-so p one (Does a reply.Stopped) h c e = absurd cc
  told-so p one (Does a reply.Failed) h c e = told-failed L c a e
  told-so p one (Does a reply.NoMemory) h c e = told-memory c a (Some reply.NoMemory) e
  told-so p one (Does a (reply.Card answer)) h c e = told-read L c a answer e
  told-so p one (Does a (reply.Feed f)) h c e = absurd cc
  told-so p one (Does a (reply.Page page last)) h c e =
      damaged-told c a (Some (reply.Page page last)) (finds-damage p one (place (process J p) h) page last c e)
  told-so p one (Does a (reply.Loaded load)) h c e = absurd cc
  told-so p one (LacksMemory a r) h c e = told-memory c a (Some r) e
  told-so p one (Delays a) h c e = absurd cc

  module _ (s : TwinState L) (event : TwinEvent L) where
    abbrev pub behind : TwinState L
    behind = happens (twin J) s event

    pub event-gave : (p : ℕ) (how : Outcome) → caused (process J p) (behind.histories p) ≡ Some how
        → (caused (process J p) (s.histories p) ≡ Some how)
        ⊎ ((event.process ≡ p) × (cause_in (process J p) event.entry (s.histories p) ≡ Some how))
    event-gave p how =
        let Goal : Type 0 = (caused (process J p) (s.histories p) ≡ Some how)
        ⊎ ((event.process ≡ p) × (cause_in (process J p) event.entry (s.histories p) ≡ Some how)) in
        let P : Bool → Type 0 = λ t. caused (process J p) (if t then event.entry ∷ s.histories event.process else s.histories p) ≡ Some how → Goal in
        let own : p ≡ event.process → caused (process J p) (event.entry ∷ s.histories event.process) ≡ Some how → Goal =
        λ is e. elim (entry-gave (process J p) event.entry (s.histories p) how
        (subst (λ n. caused (process J p) (event.entry ∷ s.histories n) ≡ Some how) (sym is) e)) as (λ _. Goal) [
          | inl old ↦ inl old
          | inr new ↦ inr (sym is, new)
        ] in
        elim (eqb_tells p event.process) as (λ _. P (p == event.process)) [
          | inl is ↦ subst P (sym is.0) (own is.1)
          | inr not ↦ subst P (sym not.0) (λ e. inl e)
        ]

    pub event-keeps : (p : ℕ) (how : Outcome) → caused (process J p) (s.histories p) ≡ Some how → caused (process J p) (behind.histories p) ≡ Some how
    event-keeps p how e =
        let P : Bool → Type 0 = λ t. caused (process J p) (if t then event.entry ∷ s.histories event.process else s.histories p) ≡ Some how in
        elim (eqb_tells p event.process) as (λ _. P (p == event.process)) [
          | inl is ↦ subst P (sym is.0) (entry-keeps (process J p) event.entry (s.histories event.process) how
              (subst (λ n. caused (process J p) (s.histories n) ≡ Some how) is.1 e))
          | inr not ↦ subst P (sym not.0) e
        ]

    pub event-own : (p : ℕ) (how : Outcome) → event.process ≡ p → caused (process J p) (event.entry ∷ s.histories event.process) ≡ Some how
        → caused (process J p) (behind.histories p) ≡ Some how
    event-own p how own e =
        let P : Bool → Type 0 = λ t. caused (process J p) (if t then event.entry ∷ s.histories event.process else s.histories p) ≡ Some how in
        elim (eqb_tells p event.process) as (λ _. P (p == event.process)) [
          | inl is ↦ subst P (sym is.0) e
          | inr not ↦ absurd (not.1 (sym own))
        ]
