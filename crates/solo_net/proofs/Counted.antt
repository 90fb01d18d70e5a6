-- Each step keeps that the faults so far were counted by their devices.
use Rattle.std.proofs.Common.{◌≡◌, ◌≢◌, ◌≤◌, ◌<◌, ◌⊎◌, inl, inr, ℕ, ◌==◌, if◌then◌else◌, Bool, List, [], ◌∷◌, Option, None, Some, Result, Ok, Err, refl, sym, ◌∙◌, ap, subst, arith}
use Rattle.std.proofs.lemmas.Bool.Decides.{eqb_tells}
use Rattle.solo_base.specs.declared.outcome.Outcome.{Outcome}
use Rattle.solo_base.specs.declared.outcome.Outcome.TheVariants as outcome
use Rattle.solo_base.specs.declared.outcome.Cause.{Cause}
use Rattle.solo_base.specs.declared.outcome.Cause.TheVariants as cause
use Rattle.solo_devices.specs.Count.{Rose}
use Rattle.solo_devices.specs.CardUnit.{Held, byte_limit}
use Rattle.solo_devices.specs.PrinterUnit.{Printing}
use Rattle.page_codec.specs.declared.judge.BadPage.{BadPage}
use Rattle.page_codec.specs.Reading.{PageContent}
use Rattle.network_law.specs.Network.{IsEnabled, happens}
use Rattle.exchange_law.specs.Pages.{page_gives, damage}
use Rattle.place_law.specs.Process.{action_of, caused, EntrySuits, next_action}
use Rattle.place_law.specs.Ending.{outcome_by}
use Rattle.solo_law.specs.Actions.{Action, Reply}
use Rattle.solo_law.specs.Actions as act
use Rattle.solo_law.specs.Replies.{view}
use Rattle.solo_law.specs.InputPlaces.{input}
use Rattle.solo_law.specs.OutputPlaces.{OutputPlace, output_finds, output}
use Rattle.solo_law.specs.OutputPlaces as output_at
use Rattle.solo_law.specs.JobPlaces.{JobPlace, job_finds, job}
use Rattle.solo_law.specs.JobPlaces as at
use Rattle.solo_law.specs.Solo.{process, solo, SoloState, SoloEvent, IsProcess}
use Rattle.solo_law.proofs.Placed.{each-process}
use Rattle.solo_ends.specs.declared.units.SoloUnits.{SoloUnits}
use Rattle.solo_ends.specs.Faults.{Peripherals, devices_of, AreCounted}
use Rattle.solo_net.specs.Replies.{solo_reply_of}
use Rattle.solo_net.specs.Telling.{Tells, solo_counts_of, Displays, SoloPrints, SoloHasCauses}
use Rattle.solo_net.proofs.Placing.{Owned, next-owned, IsOpen, free-next}
use Rattle.solo_net.proofs.Freed.{Told, cause_by, told-so, fault-of, entry-gave, entry-keeps, limit-gives}

-- ---- a page out of form is no fault of a device
damage-tells : (page : Result PageContent BadPage) (c : Cause) → damage page ≡ Some c → (b : Action) (s : Option Reply) → Told c b s
damage-tells (Ok content) c e b s = absurd cc
damage-tells (Err bad) c e b s = subst (λ c. Told c b s) (same e) tt
  where
    same : Some (cause.Damaged bad.expected bad.found bad.at) ≡ Some c → cause.Damaged bad.expected bad.found bad.at ≡ c
    same e = cc

job-pages : (a : JobPlace) (r : Reply) (c : Cause) → job_finds a r ≡ Some c → (b : Action) (s : Option Reply) → Told c b s
job-pages (at.TakesCards taken items pages) (act.OfPage page) c e b s = damage-tells (page_gives taken page) c e b s
job-pages (at.TakesCards taken items pages) other c e b s = absurd cc
job-pages a r c e b s = absurd cc

output-pages : (a : OutputPlace) (r : Reply) (c : Cause) → output_finds a r ≡ Some c → (b : Action) (s : Option Reply) → Told c b s
output-pages (output_at.TakesPage pages) (act.OfPage page) c e b s = damage-tells (page_gives pages page) c e b s
output-pages (output_at.TakesPage pages) other c e b s = absurd cc
output-pages a r c e b s = absurd cc

page-fault : (p : ℕ) → IsProcess p → (a : (process p).Place) (r : Reply) (c : Cause) → (process p).finds a r ≡ Some c → (b : Action) (s : Option Reply)
    → Told c b s
page-fault p one =
    each-process (λ p. (a : (process p).Place) (r : Reply) (c : Cause) → (process p).finds a r ≡ Some c → (b : Action) (s : Option Reply) → Told c b s) p one
    (λ a r c e b s. absurd cc) job-pages output-pages

-- ---- the causes behind an event
abbrev pub next_state : SoloState → SoloEvent → SoloState
next_state s event = happens solo s event

pub event-gave : (s : SoloState) (event : SoloEvent) (n : ℕ) (how : Outcome) → caused view (process n) ((next_state s event).histories n) ≡ Some how
    → (caused view (process n) (s.histories n) ≡ Some how)
    ⊎ ((event.process ≡ n) × (cause_by (process event.process) event.entry (s.histories event.process) ≡ Some how))
event-gave s event n how =
    let q = event.process in
    let Goal : Type 0 = (caused view (process n) (s.histories n) ≡ Some how)
    ⊎ ((q ≡ n) × (cause_by (process q) event.entry (s.histories q) ≡ Some how)) in
    let P : Bool → Type 0 = λ t. caused view (process n) (if t then event.entry ∷ s.histories q else s.histories n) ≡ Some how → Goal in
    let own : n ≡ q → caused view (process n) (event.entry ∷ s.histories q) ≡ Some how → Goal =
    λ is e. elim (entry-gave (process q) event.entry (s.histories q) how
    (subst (λ m. caused view (process m) (event.entry ∷ s.histories q) ≡ Some how) is e)) as (λ _. Goal) [
      | inl old ↦ inl (subst (λ m. caused view (process m) (s.histories m) ≡ Some how) (sym is) old)
      | inr new ↦ inr (sym is, new)
    ] in
    elim (eqb_tells n q) as (λ _. P (n == q)) [
      | inl is ↦ subst P (sym is.0) (own is.1)
      | inr not ↦ subst P (sym not.0) (λ e. inl e)
    ]

pub event-keeps : (s : SoloState) (event : SoloEvent) (n : ℕ) (how : Outcome) → caused view (process n) (s.histories n) ≡ Some how
    → caused view (process n) ((next_state s event).histories n) ≡ Some how
event-keeps s event n how e =
    let q = event.process in
    let P : Bool → Type 0 = λ t. caused view (process n) (if t then event.entry ∷ s.histories q else s.histories n) ≡ Some how in
    elim (eqb_tells n q) as (λ _. P (n == q)) [
      | inl is ↦ subst P (sym is.0) (entry-keeps (process n) event.entry (s.histories q) how (subst (λ m. caused view (process n)
          (s.histories m) ≡ Some how) is.1 e))
      | inr not ↦ subst P (sym not.0) e
    ]

pub event-own : (s : SoloState) (event : SoloEvent) (n : ℕ) (how : Option Outcome) → event.process ≡ n
    → caused view (process event.process) (event.entry ∷ s.histories event.process) ≡ how
    → caused view (process n) ((next_state s event).histories n) ≡ how
event-own s event n how own e =
    let q = event.process in
    let P : Bool → Type 0 = λ t. caused view (process n) (if t then event.entry ∷ s.histories q else s.histories n) ≡ how in
    elim (eqb_tells n q) as (λ _. P (n == q)) [
      | inl is ↦ subst P (sym is.0) (subst (λ m. caused view (process m) (event.entry ∷ s.histories q) ≡ how) own e)
      | inr not ↦ absurd (not.1 (sym own))
    ]

no-cause-by : (old new : Option Outcome) → ((how : Outcome) → old ≡ Some how → new ≡ Some how) → new ≡ None → old ≡ None
no-cause-by None new keeps none = refl
no-cause-by (Some how) new keeps none = absurd (let some = keeps how refl in cc)

-- who has no cause behind it had none before
pub free-before : (s : SoloState) (event : SoloEvent) (n : ℕ) → caused view (process n) ((next_state s event).histories n) ≡ None
    → caused view (process n) (s.histories n) ≡ None
free-before s event n none = no-cause-by (caused view (process n) (s.histories n)) _ (λ how e. event-keeps s event n how e) none

-- ---- counts that rise
rose-then : (a b c : ℕ) → Rose a b → b ≤ c → Rose a c
rose-then a b c rose on = omega (arith, rose, on)

then-rose : (a b c : ℕ) → a ≤ b → Rose b c → Rose a c
then-rose a b c on rose = omega (arith, on, rose)

on-then : (a b c : ℕ) → a ≤ b → b ≤ c → a ≤ c
on-then a b c x y = omega (arith, x, y)

same-count : (a b : ℕ) → b ≡ a → a ≤ b
same-count a b e = omega (arith, e)

pub cards-or-not : (a : Action) → (a ≡ act.ReadCard) ⊎ (a ≢ act.ReadCard)
cards-or-not act.ReadCard = inl refl
cards-or-not a = inr (λ e. cc)

pub keys-or-not : (a : Action) → (a ≡ act.Accept) ⊎ (a ≢ act.Accept)
keys-or-not act.Accept = inl refl
keys-or-not a = inr (λ e. cc)

pub displays-or-not : (a : Action) → Displays a ⊎ (Displays a → ⊥)
displays-or-not (act.Display line) = inl tt
displays-or-not a = inr (λ shows. shows)

pub prints-or-not : (a : Action) → SoloPrints a ⊎ (SoloPrints a → ⊥)
prints-or-not (act.Print line) = inl tt
prints-or-not a = inr (λ prints. prints)

displays-owned : (p : ℕ) (a : Action) → Displays a → Owned p a → p ≡ 2
displays-owned p (act.Display line) is owned = owned
displays-owned p a is owned = absurd is

prints-owned : (p : ℕ) (a : Action) → SoloPrints a → Owned p a → p ≡ 3
prints-owned p (act.Print line) is owned = owned
prints-owned p a is owned = absurd is

-- the faults of each state
abbrev pub outcomes_in : SoloState → List Outcome
outcomes_in s =
    outcome_by (caused view input (s.histories 1)) ∷ outcome_by (caused view job (s.histories 2)) ∷ outcome_by (caused view output (s.histories 3)) ∷ []

-- what a call on the files causes, of which only a piece of work is one
pub record FilesCause {F : Type 0} (faults : F → ℕ) (old new : F) (a : Action) (reply : Option Reply) : Type 0 where
  pub failed : (Displays a → ⊥) → (SoloPrints a → ⊥) → view.Fits a act.Failed → reply ≡ Some act.Failed → Rose (faults old) (faults new)
  pub on : faults old ≤ faults new

module _ {S Y K T F : Type 0} (tells : Tells S Y K T) (faults : F → ℕ) (old new : SoloUnits S Y K T F) (s : SoloState) (event : SoloEvent)
    (enabled : IsEnabled solo s event) (suits : EntrySuits view (process event.process) event.entry)
    (causes : SoloHasCauses tells old new (action_of event.entry) (solo_reply_of event.entry))
    (files : FilesCause faults old.files new.files (action_of event.entry) (solo_reply_of event.entry)) where
  abbrev q : ℕ
  q = event.process

  abbrev made : Action
  made = action_of event.entry

  abbrev reply : Option Reply
  reply = solo_reply_of event.entry

  next : next_action view (process q) (s.histories q) ≡ Some made
  next = enabled.next

  owned : Owned q made
  owned = next-owned q (s.histories q) made enabled.one next

  now-or-before : (n : ℕ) (c : Cause) → outcome_by (caused view (process n) ((next_state s event).histories n)) ≡ outcome.Fault c
      → (outcome_by (caused view (process n) (s.histories n)) ≡ outcome.Fault c) ⊎ ((q ≡ n) × Told c made reply)
  now-or-before n c is =
      elim (event-gave s event n (outcome.Fault c) (fault-of (caused view (process n) ((next_state s event).histories n)) c is))
      as (λ _. (outcome_by (caused view (process n) (s.histories n)) ≡ outcome.Fault c) ⊎ ((q ≡ n) × Told c made reply)) [
        | inl before ↦ inl (ap outcome_by before)
        | inr now ↦ inr (now.0, told-so (process q) (page-fault q enabled.one) event.entry (s.histories q) c suits now.1)
      ]

  -- who reads has no cause
  free-reader : (n : ℕ) → q ≡ n → IsOpen made → caused view (process n) (s.histories n) ≡ None
  free-reader n is open_so = subst (λ m. caused view (process m) (s.histories m) ≡ None) is (free-next q (s.histories q) made enabled.one next open_so)

  -- ---- no count falls
  cards-on : tells.cards.faults old.cards.source ≤ tells.cards.faults new.cards.source
  cards-on = elim (cards-or-not made) as (λ _. tells.cards.faults old.cards.source ≤ tells.cards.faults new.cards.source) [
    | inl is ↦ (causes.reads is).counts
    | inr not ↦ same-count _ _ (ap (λ (h : Held S). tells.cards.faults h.source) (causes.cards_stay not))
  ]

  keys-on : tells.keys.faults old.typewriter.keys.source ≤ tells.keys.faults new.typewriter.keys.source
  keys-on = elim (keys-or-not made) as (λ _. tells.keys.faults old.typewriter.keys.source ≤ tells.keys.faults new.typewriter.keys.source) [
    | inl is ↦ (causes.accepts is).counts
    | inr not ↦ same-count _ _ (ap (λ (h : Held Y). tells.keys.faults h.source) (causes.keys_stay not))
  ]

  console-on : tells.console.faults old.typewriter.console.sink ≤ tells.console.faults new.typewriter.console.sink
  console-on = elim (displays-or-not made) as (λ _. tells.console.faults old.typewriter.console.sink ≤ tells.console.faults new.typewriter.console.sink) [
    | inl is ↦ (causes.displays is).counts
    | inr not ↦ same-count _ _ (ap (λ (c : Printing T). tells.console.faults c.sink) (causes.console_stays not))
  ]

  paper-on : tells.paper.faults old.paper.sink ≤ tells.paper.faults new.paper.sink
  paper-on = elim (prints-or-not made) as (λ _. tells.paper.faults old.paper.sink ≤ tells.paper.faults new.paper.sink) [
    | inl is ↦ (causes.prints is).counts
    | inr not ↦ same-count _ _ (ap (λ (c : Printing K). tells.paper.faults c.sink) (causes.paper_stays not))
  ]

  module _ (before : Peripherals S Y K T F) (was : AreCounted (solo_counts_of tells faults) before (devices_of old) (outcomes_in s)) where
    abbrev After : ℕ → Outcome
    After n = outcome_by (caused view (process n) ((next_state s event).histories n))

    -- ---- the cards
    cards-failed : (q ≡ 1) × Told cause.ReadFault made reply → Rose (tells.cards.faults old.cards.source) (tells.cards.faults new.cards.source)
    cards-failed (is, (inl reads, failed)) = (causes.reads reads).failed failed
    cards-failed (is, (inr accepts, failed)) = absurd (let two : q ≡ 2 = subst (Owned q) accepts owned in let no = sym is ∙ two in cc)

    read : After 1 ≡ outcome.Fault cause.ReadFault → Rose (tells.cards.faults before.source) (tells.cards.faults new.cards.source)
    read is =
        elim (now-or-before 1 cause.ReadFault is) as (λ _. Rose (tells.cards.faults before.source) (tells.cards.faults new.cards.source)) [
          | inl had ↦ rose-then _ _ _ (was.read had) cards-on
          | inr gave ↦ then-rose _ _ _ was.read_on (cards-failed gave)
        ]

    cards-limited : (q ≡ 1) × Told cause.DeckLimit made reply → byte_limit < tells.cards.taken new.cards.source
    cards-limited (is, (inl reads, limit)) = (causes.reads reads).limit.0 limit
    cards-limited (is, (inr accepts, limit)) = absurd (let two : q ≡ 2 = subst (Owned q) accepts owned in let no = sym is ∙ two in cc)

    -- with a cause the input process reads no more
    cards-same : (how : Outcome) → caused view input (s.histories 1) ≡ Some how → new.cards ≡ old.cards
    cards-same how is =
        causes.cards_stay (λ reads.
        let one : q ≡ 1 = subst (Owned q) reads owned in
        let free = free-reader 1 one (subst IsOpen (sym reads) tt) in
        let both = sym free ∙ is in cc)

    limit : After 1 ≡ outcome.Fault cause.DeckLimit → byte_limit < tells.cards.taken new.cards.source
    limit is =
        elim (now-or-before 1 cause.DeckLimit is) as (λ _. byte_limit < tells.cards.taken new.cards.source) [
          | inl had ↦ subst (λ (h : Held S). byte_limit < tells.cards.taken h.source)
              (sym (cards-same (outcome.Fault cause.DeckLimit) (fault-of (caused view input (s.histories 1)) cause.DeckLimit had))) (was.limit had)
          | inr gave ↦ cards-limited gave
        ]

    longer : tells.cards.taken before.source ≤ byte_limit → byte_limit < tells.cards.taken new.cards.source → After 1 ≡ outcome.Fault cause.DeckLimit
    longer few over =
        elim (cards-or-not made) as (λ _. After 1 ≡ outcome.Fault cause.DeckLimit) [
          | inl reads ↦
              let one : q ≡ 1 = subst (Owned q) reads owned in
              let free = free-next q (s.histories q) made enabled.one next (subst IsOpen (sym reads) tt) in
              ap outcome_by (event-own s event 1 (Some (outcome.Fault cause.DeckLimit)) one
              (limit-gives (process q) event.entry (s.histories q) suits ((causes.reads reads).limit.1 over) free))
          | inr not ↦ ap outcome_by (event-keeps s event 1 (outcome.Fault cause.DeckLimit) (fault-of (caused view input (s.histories 1)) cause.DeckLimit
              (was.longer few (subst (λ (h : Held S). byte_limit < tells.cards.taken h.source) (causes.cards_stay not) over))))
        ]

    -- ---- the keys
    keys-failed : (q ≡ 2) × Told cause.ReadFault made reply
        → Rose (tells.keys.faults old.typewriter.keys.source) (tells.keys.faults new.typewriter.keys.source)
    keys-failed (is, (inr accepts, failed)) = (causes.accepts accepts).failed failed
    keys-failed (is, (inl reads, failed)) = absurd (let one : q ≡ 1 = subst (Owned q) reads owned in let no = sym one ∙ is in cc)

    typed : After 2 ≡ outcome.Fault cause.ReadFault → Rose (tells.keys.faults before.keys) (tells.keys.faults new.typewriter.keys.source)
    typed is =
        elim (now-or-before 2 cause.ReadFault is) as (λ _. Rose (tells.keys.faults before.keys) (tells.keys.faults new.typewriter.keys.source)) [
          | inl had ↦ rose-then _ _ _ (was.typed had) keys-on
          | inr gave ↦ then-rose _ _ _ was.typed_on (keys-failed gave)
        ]

    keys-limited : (q ≡ 2) × Told cause.DeckLimit made reply → byte_limit < tells.keys.taken new.typewriter.keys.source
    keys-limited (is, (inr accepts, limit)) = (causes.accepts accepts).limit.0 limit
    keys-limited (is, (inl reads, limit)) = absurd (let one : q ≡ 1 = subst (Owned q) reads owned in let no = sym one ∙ is in cc)

    keys-same : (how : Outcome) → caused view job (s.histories 2) ≡ Some how → new.typewriter.keys ≡ old.typewriter.keys
    keys-same how is =
        causes.keys_stay (λ accepts.
        let two : q ≡ 2 = subst (Owned q) accepts owned in
        let free = free-reader 2 two (subst IsOpen (sym accepts) tt) in
        let both = sym free ∙ is in cc)

    typed-limit : After 2 ≡ outcome.Fault cause.DeckLimit → byte_limit < tells.keys.taken new.typewriter.keys.source
    typed-limit is =
        elim (now-or-before 2 cause.DeckLimit is) as (λ _. byte_limit < tells.keys.taken new.typewriter.keys.source) [
          | inl had ↦ subst (λ (h : Held Y). byte_limit < tells.keys.taken h.source)
              (sym (keys-same (outcome.Fault cause.DeckLimit) (fault-of (caused view job (s.histories 2)) cause.DeckLimit had))) (was.typed_limit had)
          | inr gave ↦ keys-limited gave
        ]

    typed-longer : tells.keys.taken before.keys ≤ byte_limit → byte_limit < tells.keys.taken new.typewriter.keys.source
        → After 2 ≡ outcome.Fault cause.DeckLimit
    typed-longer few over =
        elim (keys-or-not made) as (λ _. After 2 ≡ outcome.Fault cause.DeckLimit) [
          | inl accepts ↦
              let two : q ≡ 2 = subst (Owned q) accepts owned in
              let free = free-next q (s.histories q) made enabled.one next (subst IsOpen (sym accepts) tt) in
              ap outcome_by (event-own s event 2 (Some (outcome.Fault cause.DeckLimit)) two
              (limit-gives (process q) event.entry (s.histories q) suits ((causes.accepts accepts).limit.1 over) free))
          | inr not ↦ ap outcome_by (event-keeps s event 2 (outcome.Fault cause.DeckLimit) (fault-of (caused view job (s.histories 2)) cause.DeckLimit
              (was.typed_longer few (subst (λ (h : Held Y). byte_limit < tells.keys.taken h.source) (causes.keys_stay not) over))))
        ]

    -- ---- the console, the files and the paper
    show : After 2 ≡ outcome.Fault cause.ConsoleFault → Rose (tells.console.faults before.console) (tells.console.faults new.typewriter.console.sink)
    show is =
        elim (now-or-before 2 cause.ConsoleFault is) as (λ _. Rose (tells.console.faults before.console) (tells.console.faults new.typewriter.console.sink)) [
          | inl had ↦ rose-then _ _ _ (was.show had) console-on
          | inr gave ↦ then-rose _ _ _ was.show_on ((causes.displays gave.1.0).failed gave.1.1)
        ]

    disk : After 2 ≡ outcome.Fault cause.DiskFault → Rose (faults before.files) (faults new.files)
    disk is =
        elim (now-or-before 2 cause.DiskFault is) as (λ _. Rose (faults before.files) (faults new.files)) [
          | inl had ↦ rose-then _ _ _ (was.disk had) files.on
          | inr gave ↦ then-rose _ _ _ was.files_on (files-failed gave.1)
        ] where
          files-failed : Told cause.DiskFault made reply → Rose (faults old.files) (faults new.files)
          files-failed (fits, shows, prints, failed) = files.failed shows prints fits failed

    print : After 3 ≡ outcome.Fault cause.PrintFault → Rose (tells.paper.faults before.sink) (tells.paper.faults new.paper.sink)
    print is =
        elim (now-or-before 3 cause.PrintFault is) as (λ _. Rose (tells.paper.faults before.sink) (tells.paper.faults new.paper.sink)) [
          | inl had ↦ rose-then _ _ _ (was.print had) paper-on
          | inr gave ↦ then-rose _ _ _ was.print_on ((causes.prints gave.1.0).failed gave.1.1)
        ]

    pub counted : AreCounted (solo_counts_of tells faults) before (devices_of new) (outcomes_in (next_state s event))
    counted = record {
      read = read;
      limit = limit;
      longer = longer;
      typed = typed;
      typed_limit = typed-limit;
      typed_longer = typed-longer;
      show = show;
      disk = disk;
      print = print;
      read_on = on-then _ _ _ was.read_on cards-on;
      typed_on = on-then _ _ _ was.typed_on keys-on;
      print_on = on-then _ _ _ was.print_on paper-on;
      show_on = on-then _ _ _ was.show_on console-on;
      files_on = on-then _ _ _ was.files_on files.on;
    }
