-- Each step keeps that the faults so far were counted by their devices.
use Rattle.std.proofs.Common.{◌≡◌, ◌≢◌, ◌≤◌, ◌<◌, ◌⊎◌, inl, inr, ◌+◌, ℕ, ◌==◌, if◌then◌else◌, Bool, List, ◌∷◌, Option, None, Some, Result, Ok, Err, refl, sym, ◌∙◌, ap, subst, arith}
use Rattle.std.proofs.lemmas.Bool.Decides.{eqb_tells}
use Rattle.solo_base.specs.declared.outcome.Outcome.{Outcome}
use Rattle.solo_base.specs.declared.outcome.Outcome.TheVariants as outcome
use Rattle.solo_base.specs.declared.outcome.Cause.{Cause}
use Rattle.solo_base.specs.declared.outcome.Cause.TheVariants as cause
use Rattle.solo_devices.specs.Count.{raised, Rose}
use Rattle.solo_devices.specs.CardUnit.{Held, byte_limit}
use Rattle.solo_devices.specs.declared.card_read.CardRead.{CardRead}
use Rattle.solo_devices.specs.declared.card_read.CardRead.TheVariants as card_read
use Rattle.page_codec.specs.declared.judge.BadPage.{BadPage}
use Rattle.page_codec.specs.Reading.{PageContent, page_read}
use Rattle.batch_procs.specs.declared.actions.Action.{Action}
use Rattle.batch_procs.specs.declared.actions.Action.TheVariants as act
use Rattle.batch_procs.specs.declared.actions.Reply.{Reply}
use Rattle.batch_procs.specs.declared.actions.Reply.TheVariants as reply
use Rattle.batch_procs.specs.Causes.{fault_at, fault_read, damage, place, given_cause, or_new, caused}
use Rattle.batch_procs.specs.Faults.{cause_by}
use Rattle.batch_procs.specs.Fits.{Fits, MayLack}
use Rattle.batch_procs.specs.History.{Entry, Does, LacksMemory, Delays, action_of}
use Rattle.batch_procs.specs.Process.{Process, IsFitting, Follows, next_action}
use Rattle.batch_procs.specs.Table.{process}
use Rattle.batch_procs.proofs.Relay.{open-next}
use Rattle.network_law.specs.Network.{IsEnabled, happens}
use Rattle.core_law.specs.Core.{core, CoreState, CoreEvent}
use Rattle.core_law.specs.Ends.{IsProcess, outcome_by}
use Rattle.core_law.specs.Opening.{Opening}
use Rattle.core_law.specs.TheLaw.{IsReached}
use Rattle.core_law.proofs.Acting.{follows-of}
use Rattle.core_law.proofs.Reached.{reached-centre}
use Rattle.net_core.specs.declared.net.Net.{Net}
use Rattle.net_core.specs.Causes.{HasCauses, IsPrint, IsLoad, MovesInput, MovesOutput}
use Rattle.net_core.specs.Faults.{disk_fault, JobFaultIsOwn, AreMet, units_of, outcomes_in, CausesAreCounted}
use Rattle.net_core.specs.Net.{Keeps, NetStands}
use Rattle.net_core.specs.Steps.{reply_of}
use Rattle.core_law.proofs.Askers.{moves-page, takes-page, reads-deck, loads-files}
use Rattle.batch_procs.specs.Jobs.{Jobs, AreJobs}
use Rattle.batch_ends.specs.Causes.{Counts}
use Rattle.batch_ends.specs.Ended.{all_done}
use Rattle.batch_ends.specs.Faults.{AreCounted}
use Rattle.batch_ends.specs.Tells.{Tells}
use Rattle.batch_ends.specs.declared.ends.Outcomes.{Outcomes}
use Rattle.batch_ends.specs.declared.units.Units.{Units}

-- ---- what an entry that gave a fault was told
abbrev IsMove : Action → Type 0
IsMove (act.PutPage page) = Unit {0}
IsMove act.TakePage = Unit {0}
IsMove action = ⊥

-- a call that a disk may fail
abbrev IsDisk : Action → Type 0
IsDisk a = IsMove a ⊎ IsLoad a

-- where nothing has happened nothing is to be counted
fresh-met : {S K F A B : Type 0} (counts : Counts S K F A B) (units : Units S K F A B) → AreMet counts units units all_done
fresh-met counts units = record {
  counted = record {
    read = λ e. absurd cc;
    limit = λ e. absurd cc;
    longer = λ few many. absurd (omega (arith, few, many));
    input = λ e. absurd cc;
    job = λ e. absurd cc;
    output = λ e. absurd cc;
    print = λ e. absurd cc;
    read_on = omega arith;
    print_on = omega arith;
    files_on = omega arith;
    input_on = omega arith;
    output_on = omega arith;
  };
  own = λ e. absurd cc;
}

same-fault : (c d : Cause) → Some (outcome.Fault c) ≡ Some (outcome.Fault d) → c ≡ d
same-fault c d e = cc

-- ---- the fault of one process behind an event: it had it before, or the event is its own and gave it
fault-of : (how : Option Outcome) (c : Cause) → outcome_by how ≡ outcome.Fault c → how ≡ Some (outcome.Fault c)
fault-of None c e = absurd cc
fault-of (Some how) c e = ap Some e

or-gave : (old new : Option Outcome) (how : Outcome) → or_new old new ≡ Some how → (old ≡ Some how) ⊎ (new ≡ Some how)
or-gave None new how e = inr e
or-gave (Some before) new how e = inl e

reads-or-not : (a : Action) → (a ≡ act.ReadCard) ⊎ (a ≢ act.ReadCard)
reads-or-not act.ReadCard = inl refl
reads-or-not a = inr (λ e. cc)

no-output : (p : ℕ) (a : Action) → p ≡ 2 → MovesOutput p a → ⊥
no-output p (act.PutPage page) two is = let same = sym two ∙ is in cc
no-output p act.TakePage two is = let same = sym two ∙ is in cc
no-output p a two is = is

no-input : (p : ℕ) (a : Action) → p ≡ 4 → MovesInput p a → ⊥
no-input p (act.PutPage page) four is = let same = sym four ∙ is in cc
no-input p act.TakePage four is = let same = sym four ∙ is in cc
no-input p a four is = is

-- ---- counts that rise
rose-then : (a b c : ℕ) → Rose a b → b ≤ c → Rose a c
rose-then a b c rose on = omega (arith, rose, on)

then-rose : (a b c : ℕ) → a ≤ b → Rose b c → Rose a c
then-rose a b c on rose = omega (arith, on, rose)

on-then : (a b c : ℕ) → a ≤ b → b ≤ c → a ≤ c
on-then a b c x y = omega (arith, x, y)

-- ---- a failure beside another
disk-case : (o : Outcome) → (o ≡ outcome.Fault cause.DiskFault) ⊎ (disk_fault o ≡ 0)
disk-case (outcome.Fault cause.DiskFault) = inl refl
disk-case o = inr refl

both-fault : (a b : Outcome) → a ≡ outcome.Fault cause.DiskFault → b ≡ outcome.Fault cause.DiskFault → disk_fault a ≤ disk_fault b
both-fault a b e f = let same : disk_fault a ≡ disk_fault b = ap disk_fault (e ∙ sym f) in omega (arith, same)

none-fault : (a b : Outcome) → disk_fault a ≡ 0 → disk_fault a ≤ disk_fault b
none-fault a b e = omega (arith, e)

-- what one process has of a count is in it
counted-once : (before now : ℕ) (o : Outcome) → (o ≡ outcome.Fault cause.DiskFault → Rose before now) → before ≤ now → raised before (disk_fault o) ≤ now
counted-once before now o rose on =
    elim (disk-case o) as (λ _. raised before (disk_fault o) ≤ now) [
      | inl is ↦ subst (λ n. raised before n ≤ now) (sym (ap disk_fault is)) (rose is)
      | inr none ↦ subst (λ n. raised before n ≤ now) (sym none) (at-least before now on)
    ]
  where
    at-least : (before now : ℕ) → before ≤ now → raised before 0 ≤ now
    at-least before now on = omega (arith, on)

own-now : (before old new m n : ℕ) → raised before m ≤ old → Rose old new → n ≤ m → raised before (n + 1) ≤ new
own-now before old new m n had rose few = omega (arith, had, rose, few)

own-kept : (before old new m n : ℕ) → raised before (m + 1) ≤ old → old ≤ new → n ≤ m → raised before (n + 1) ≤ new
own-kept before old new m n had on few = omega (arith, had, on, few)

own-more : (before old new m n : ℕ) → raised before (m + 1) ≤ old → Rose old new → n ≡ 1 → raised before (n + 1) ≤ new
own-more before old new m n had rose one = omega (arith, had, rose, one)

same-five : (a b c d e x y z v w : Outcome) → a ≡ x → b ≡ y → c ≡ z → d ≡ v → e ≡ w → (the_five : Outcomes)
    → the_five ≡ record { card = a; input = b; job = c; output = d; printer = e }
    → the_five ≡ record { card = x; input = y; job = z; output = v; printer = w }
same-five a b c d e x y z v w i j k l m the_five is = cc

pub same-devices : {S K F A B : Type 0} (units : Units S K F A B) (a : A) (b : B) → a ≡ units.input → b ≡ units.output
    → record units { input = a; output = b } ≡ units
same-devices units a b x y = rw (x, y) refl

module _ {L : Type 0} {J : Jobs L} (jobs : AreJobs J) where
  abbrev Told : Cause → Action → Option (Reply L) → Type 0
  Told cause.ReadFault a r = r ≡ Some (reply.Card card_read.Failed)
  Told cause.DeckLimit a r = r ≡ Some (reply.Card card_read.Limit)
  Told cause.DiskFault a r = IsDisk a × (r ≡ Some reply.Failed)
  Told cause.PrintFault a r = IsPrint a × (r ≡ Some reply.Failed)
  Told other a r = Unit {0}

  module _ (c : Cause) (a : Action) where
    told-read : (answer : CardRead) → fault_read answer ≡ Some (outcome.Fault c) → Told c a (Some (reply.Card answer))
    told-read (card_read.Card line) e = absurd cc
    told-read card_read.Spoiled e = absurd cc
    told-read card_read.End e = absurd cc
    told-read card_read.Failed e = subst (λ c. Told c a (Some (reply.Card card_read.Failed))) (same-fault cause.ReadFault c e) refl
    told-read card_read.Limit e = subst (λ c. Told c a (Some (reply.Card card_read.Limit))) (same-fault cause.DeckLimit c e) refl

    told-damage : (page : Result PageContent BadPage) (r : Option (Reply L)) → damage page ≡ Some (outcome.Fault c) → Told c a r
    told-damage (Ok content) r e = absurd cc
    told-damage (Err bad) r e = subst (λ c. Told c a r) (same-fault (cause.Damaged bad.expected bad.found bad.at) c e) tt

    told-memory : (r : Option (Reply L)) → Some (outcome.Fault cause.NoMemory) ≡ Some (outcome.Fault c) → Told c a r
    told-memory r e = subst (λ c. Told c a r) (same-fault cause.NoMemory c e) tt

  told-failed : (c : Cause) (a : Action) → Fits J a reply.Failed → Some (outcome.Fault (fault_at a)) ≡ Some (outcome.Fault c)
      → Told c a (Some reply.Failed)
  told-failed c (act.PutPage page) fits e = subst (λ c. Told c (act.PutPage page) (Some reply.Failed)) (same-fault cause.DiskFault c e) (inl tt, refl)
  told-failed c act.TakePage fits e = subst (λ c. Told c act.TakePage (Some reply.Failed)) (same-fault cause.DiskFault c e) (inl tt, refl)
  told-failed c (act.Load file) fits e = subst (λ c. Told c (act.Load file) (Some reply.Failed)) (same-fault cause.DiskFault c e) (inr tt, refl)
  told-failed c (act.Print line) fits e = subst (λ c. Told c (act.Print line) (Some reply.Failed)) (same-fault cause.PrintFault c e) (tt, refl)
  told-failed c a fits e = absurd fits

  told-so : (p : Process L) (entry : Entry L) (h : List (Entry L)) (c : Cause) → IsFitting J p entry → cause_by entry h ≡ Some
      (outcome.Fault c)
      → Told c (action_of entry) (reply_of entry)
  told-so p (Does a reply.Done) h c fits e = absurd cc
  told-so p (Does a reply.Stopped) h c fits e = absurd cc
  told-so p (Does a reply.Failed) h c fits e = told-failed c a fits e
  told-so p (Does a reply.NoMemory) h c fits e = told-memory c a (Some reply.NoMemory) e
  told-so p (Does a (reply.Card answer)) h c fits e = told-read c a answer e
  told-so p (Does a (reply.Feed f)) h c fits e = absurd cc
  told-so p (Does a (reply.Page page last)) h c fits e = told-damage c a (page_read (place h) last page) (Some (reply.Page page last)) e
  told-so p (Does a (reply.Loaded load)) h c fits e = absurd cc
  told-so p (LacksMemory a r) h c fits e = told-memory c a (Some r) e
  told-so p (Delays a) h c fits e = absurd cc

  entry-gave : (entry : Entry L) (h : List (Entry L)) (how : Outcome) → caused (entry ∷ h) ≡ Some how → (caused h ≡ Some how) ⊎
      (cause_by entry h ≡ Some how)
  entry-gave (Does a r) h how e = or-gave (caused h) (given_cause a r h) how e
  entry-gave (LacksMemory a r) h how e = or-gave (caused h) (Some (outcome.Fault cause.NoMemory)) how e
  entry-gave (Delays a) h how e = inl e

  event-gave : (s : CoreState L) (event : CoreEvent L) (q : ℕ) (how : Outcome)
      → caused ((happens (core J (process J)) s event).histories q) ≡ Some how
      → (caused (s.histories q) ≡ Some how) ⊎ ((event.process ≡ q) × (cause_by event.entry (s.histories q) ≡ Some how))
  event-gave s event q how =
      let Goal : Type 0 = (caused (s.histories q) ≡ Some how) ⊎ ((event.process ≡ q) × (cause_by event.entry (s.histories q) ≡ Some how)) in
      let P : Bool → Type 0 = λ t. caused (if t then event.entry ∷ s.histories event.process else s.histories q) ≡ Some how → Goal in
      let own : q ≡ event.process → caused (event.entry ∷ s.histories event.process) ≡ Some how → Goal =
      λ is e. elim (entry-gave event.entry (s.histories q) how (subst (λ p. caused (event.entry ∷ s.histories p) ≡ Some how) (sym is) e)) as (λ _. Goal) [
        | inl old ↦ inl old
        | inr new ↦ inr (sym is, new)
      ] in
      elim (eqb_tells q event.process) as (λ _. P (q == event.process)) [
        | inl is ↦ subst P (sym is.0) (own is.1)
        | inr not ↦ subst P (sym not.0) (λ e. inl e)
      ]

  -- a cause stays
  entry-keeps : (entry : Entry L) (h : List (Entry L)) (how : Outcome) → caused h ≡ Some how → caused (entry ∷ h) ≡ Some how
  entry-keeps (Does a r) h how e = rw e refl
  entry-keeps (LacksMemory a r) h how e = rw e refl
  entry-keeps (Delays a) h how e = e

  event-keeps : (s : CoreState L) (event : CoreEvent L) (q : ℕ) (how : Outcome) → caused (s.histories q) ≡ Some how
      → caused ((happens (core J (process J)) s event).histories q) ≡ Some how
  event-keeps s event q how e =
      let P : Bool → Type 0 = λ t. caused (if t then event.entry ∷ s.histories event.process else s.histories q) ≡ Some how in
      elim (eqb_tells q event.process) as (λ _. P (q == event.process)) [
        | inl is ↦ subst P (sym is.0) (entry-keeps event.entry (s.histories event.process) how (subst (λ p. caused (s.histories p) ≡ Some how) is.1 e))
        | inr not ↦ subst P (sym not.0) e
      ]

  event-own : (s : CoreState L) (event : CoreEvent L) (q : ℕ) (how : Outcome) → event.process ≡ q → caused (event.entry ∷ s.histories event.process)
      ≡ Some how
      → caused ((happens (core J (process J)) s event).histories q) ≡ Some how
  event-own s event q how own e =
      let P : Bool → Type 0 = λ t. caused (if t then event.entry ∷ s.histories event.process else s.histories q) ≡ Some how in
      elim (eqb_tells q event.process) as (λ _. P (q == event.process)) [
        | inl is ↦ subst P (sym is.0) e
        | inr not ↦ absurd (not.1 (sym own))
      ]

  -- the limit is a cause
  lack-limit : (a : Action) → MayLack {L = L} a (reply.Card card_read.Limit) → ⊥
  lack-limit act.TakePage may = may
  lack-limit act.Local may = may
  lack-limit a may = may

  same-reply : (r s : Reply L) → Some r ≡ Some s → r ≡ s
  same-reply r s e = cc

  limit-gives : (p : Process L) (entry : Entry L) (h : List (Entry L)) → IsFitting J p entry → reply_of entry ≡ Some
      (reply.Card card_read.Limit) → caused h ≡ None
      → caused (entry ∷ h) ≡ Some (outcome.Fault cause.DeckLimit)
  limit-gives p (Does a r) h fits told none = let same = same-reply r (reply.Card card_read.Limit) told in rw (none, same) refl
  limit-gives p (LacksMemory a r) h fits told none = absurd (lack-limit a (subst (MayLack a) (same-reply r (reply.Card card_read.Limit) told) fits.1))
  limit-gives p (Delays a) h fits told none = absurd cc

  -- ---- who moves a page
  moves-so : (p : ℕ) (h : List (Entry L)) (a : Action) → IsProcess p → Follows J (process J p) h → next_action (process J p) h
      ≡ Some a → IsMove a
      → MovesInput p a ⊎ MovesOutput p a
  moves-so p h (act.PutPage page) one follows next is = moves-page jobs p h page one follows next
  moves-so p h act.TakePage one follows next is = takes-page jobs p h one next
  moves-so p h a one follows next is = absurd is

  -- ---- who loads a file
  loads-so : (p : ℕ) (h : List (Entry L)) (a : Action) → IsProcess p → Follows J (process J p) h → next_action (process J p) h
      ≡ Some a → IsLoad a → p ≡ 3
  loads-so p h (act.Load file) one follows next is = loads-files jobs p h file one follows next
  loads-so p h a one follows next is = absurd is

  module _ {X S K F A B : Type 0} (keeps : Keeps L X) (tells : Tells L S K F A B) (counts : Counts S K F A B) where
    -- a network's processes have the same causes in each state that it stands for
    same-outcomes : (net : Net X S K F A B) (s t : CoreState L) → NetStands J keeps tells net s → NetStands J keeps tells net t → outcomes_in s ≡ outcomes_in t
    same-outcomes net s t a b =
        same-five _ _ _ _ _ _ _ _ _ _ (ap outcome_by (sym a.card.cause ∙ b.card.cause)) (ap outcome_by (sym a.input.cause ∙ b.input.cause))
        (ap outcome_by (sym a.job.cause ∙ b.job.cause)) (ap outcome_by (sym a.output.cause ∙ b.output.cause))
        (ap outcome_by (sym a.printer.cause ∙ b.printer.cause)) (outcomes_in s) refl

    -- what is counted in one state that it stands for is in each
    counted-each : (net : Net X S K F A B) (before : Units S K F A B) (s : CoreState L) → NetStands J keeps tells net s
        → AreMet counts before (units_of net.shared) (outcomes_in s) → CausesAreCounted J keeps tells counts before net
    counted-each net before s stands are = λ t other. subst (AreMet counts before (units_of net.shared)) (same-outcomes net s t stands other) are

    -- ---- one step
    module _ (old new : Net X S K F A B) (o : Opening J) (s : CoreState L) (event : CoreEvent L) (reached : IsReached o s)
        (enabled : IsEnabled (core J (process J)) s event)
        (causes : HasCauses tells counts old.shared new.shared event.process (action_of event.entry) (reply_of event.entry)) where
      abbrev q : ℕ
      q = event.process

      abbrev made : Action
      made = action_of event.entry

      follows : Follows J (process J q) (s.histories q)
      follows = follows-of jobs (process J) q (s.histories q) ((reached-centre jobs o s reached).stands.follows q)

      next : next_action (process J q) (s.histories q) ≡ Some made
      next = enabled.next

      now-or-before : (n : ℕ) (c : Cause) → outcome_by (caused ((happens (core J (process J)) s event).histories n)) ≡ outcome.Fault c
          → (outcome_by (caused (s.histories n)) ≡ outcome.Fault c) ⊎ ((q ≡ n) × Told c made (reply_of event.entry))
      now-or-before n c is =
          elim (event-gave s event n (outcome.Fault c) (fault-of (caused ((happens (core J (process J)) s event).histories n)) c is))
          as (λ _. (outcome_by (caused (s.histories n)) ≡ outcome.Fault c) ⊎ ((q ≡ n) × Told c made (reply_of event.entry))) [
            | inl before ↦ inl (ap outcome_by before)
            | inr now ↦ inr (now.0, told-so (process J q) event.entry (s.histories n) c enabled.suits now.1)
          ]

      -- with a cause the card process reads no more
      deck-same : (how : Outcome) → caused (s.histories 1) ≡ Some how → new.shared.deck ≡ old.shared.deck
      deck-same how is =
          causes.deck_stays (λ reads.
          let asked : next_action (process J q) (s.histories q) ≡ Some act.ReadCard = next ∙ ap Some reads in
          let none : caused (s.histories q) ≡ None = open-next J (process J q) (s.histories q) act.ReadCard asked tt in
          let here : caused (s.histories 1) ≡ None = subst (λ p. caused (s.histories p) ≡ None) (reads-deck jobs q (s.histories q) asked) none in
          let both = sym here ∙ is in cc)

      module _ (before : Units S K F A B) (met : AreMet counts before (units_of old.shared) (outcomes_in s)) where
        abbrev was : AreCounted counts before (units_of old.shared) (outcomes_in s)
        was = met.counted

        moves : IsMove made → MovesInput q made ⊎ MovesOutput q made
        moves is = moves-so q (s.histories q) made enabled.one follows next is

        input-rose : MovesInput q made → reply_of event.entry ≡ Some reply.Failed
            → Rose (counts.input_faults before.input) (counts.input_faults new.shared.input.area)
        input-rose is failed = then-rose _ _ _ was.input_on (causes.input is failed)

        output-rose : MovesOutput q made → reply_of event.entry ≡ Some reply.Failed
            → Rose (counts.output_faults before.output) (counts.output_faults new.shared.output.area)
        output-rose is failed = then-rose _ _ _ was.output_on (causes.output is failed)

        abbrev InputRose : Type 0
        InputRose = Rose (counts.input_faults before.input) (counts.input_faults new.shared.input.area)

        abbrev OutputRose : Type 0
        OutputRose = Rose (counts.output_faults before.output) (counts.output_faults new.shared.output.area)

        abbrev FilesRose : Type 0
        FilesRose = Rose (counts.file_faults before.files) (counts.file_faults new.shared.files)

        loads : IsLoad made → q ≡ 3
        loads is = loads-so q (s.histories q) made enabled.one follows next is

        files-rose : IsLoad made → reply_of event.entry ≡ Some reply.Failed
            → Rose (counts.file_faults before.files) (counts.file_faults new.shared.files)
        files-rose is failed = then-rose _ _ _ was.files_on (causes.load is failed)

        read : outcome_by (caused ((happens (core J (process J)) s event).histories 1)) ≡ outcome.Fault cause.ReadFault
            → Rose (counts.read_faults before.deck.source) (counts.read_faults new.shared.deck.source)
        read is =
            elim (now-or-before 1 cause.ReadFault is) as (λ _. Rose (counts.read_faults before.deck.source) (counts.read_faults new.shared.deck.source)) [
              | inl had ↦ rose-then _ _ _ (was.read had) causes.read_on
              | inr gave ↦ then-rose _ _ _ was.read_on (causes.read gave.1)
            ]

        limit : outcome_by (caused ((happens (core J (process J)) s event).histories 1)) ≡ outcome.Fault cause.DeckLimit
            → byte_limit < counts.taken new.shared.deck.source
        limit is =
            elim (now-or-before 1 cause.DeckLimit is) as (λ _. byte_limit < counts.taken new.shared.deck.source) [
              | inl had ↦ subst (λ (d : Held S). byte_limit < counts.taken d.source) (sym (deck-same (outcome.Fault cause.DeckLimit)
                  (fault-of (caused (s.histories 1)) cause.DeckLimit had))) (was.limit had)
              | inr gave ↦ causes.limit gave.1
            ]

        longer : counts.taken before.deck.source ≤ byte_limit → byte_limit < counts.taken new.shared.deck.source
            → outcome_by (caused ((happens (core J (process J)) s event).histories 1)) ≡ outcome.Fault cause.DeckLimit
        longer few over =
            elim (reads-or-not made) as (λ _. outcome_by (caused ((happens (core J (process J)) s event).histories 1))
            ≡ outcome.Fault cause.DeckLimit) [
              | inl reads ↦ ap outcome_by (event-own s event 1 (outcome.Fault cause.DeckLimit) (reads-deck jobs q (s.histories q) (next ∙ ap Some reads))
                  (limit-gives (process J q) event.entry (s.histories q) enabled.suits (causes.limit_told reads over)
                  (open-next J (process J q) (s.histories q) act.ReadCard (next ∙ ap Some reads) tt)))
              | inr not ↦ ap outcome_by (event-keeps s event 1 (outcome.Fault cause.DeckLimit) (fault-of (caused (s.histories 1)) cause.DeckLimit
                  (was.longer few (subst (λ (d : Held S). byte_limit < counts.taken d.source) (causes.deck_stays not) over))))
            ]

        input : outcome_by (caused ((happens (core J (process J)) s event).histories 2)) ≡ outcome.Fault cause.DiskFault → InputRose
        input is =
            elim (now-or-before 2 cause.DiskFault is) as (λ _. InputRose) [
              | inl had ↦ rose-then _ _ _ (was.input had) causes.input_on
              | inr gave ↦ elim gave.1.0 as (λ _. InputRose) [
                | inl page ↦ elim (moves page) as (λ _. InputRose) [
                  | inl there ↦ input-rose there gave.1.1
                  | inr there ↦ absurd (no-output q made gave.0 there)
                ]
                | inr file ↦ absurd (let same = sym gave.0 ∙ loads file in cc)
              ]
            ]

        job : outcome_by (caused ((happens (core J (process J)) s event).histories 3)) ≡ outcome.Fault cause.DiskFault
            → InputRose ⊎ OutputRose ⊎ FilesRose
        job is =
            elim (now-or-before 3 cause.DiskFault is) as (λ _. InputRose ⊎ OutputRose ⊎ FilesRose) [
              | inl had ↦ elim (was.job had) as (λ _. InputRose ⊎ OutputRose ⊎ FilesRose) [
                | inl rose ↦ inl (rose-then _ _ _ rose causes.input_on)
                | inr later ↦ elim later as (λ _. InputRose ⊎ OutputRose ⊎ FilesRose) [
                  | inl rose ↦ inr (inl (rose-then _ _ _ rose causes.output_on))
                  | inr rose ↦ inr (inr (rose-then _ _ _ rose causes.files_on))
                ]
              ]
              | inr gave ↦ elim gave.1.0 as (λ _. InputRose ⊎ OutputRose ⊎ FilesRose) [
                | inl page ↦ elim (moves page) as (λ _. InputRose ⊎ OutputRose ⊎ FilesRose) [
                  | inl there ↦ inl (input-rose there gave.1.1)
                  | inr there ↦ inr (inl (output-rose there gave.1.1))
                ]
                | inr file ↦ inr (inr (files-rose file gave.1.1))
              ]
            ]

        output : outcome_by (caused ((happens (core J (process J)) s event).histories 4)) ≡ outcome.Fault cause.DiskFault → OutputRose
        output is =
            elim (now-or-before 4 cause.DiskFault is) as (λ _. OutputRose) [
              | inl had ↦ rose-then _ _ _ (was.output had) causes.output_on
              | inr gave ↦ elim gave.1.0 as (λ _. OutputRose) [
                | inl page ↦ elim (moves page) as (λ _. OutputRose) [
                  | inl there ↦ absurd (no-input q made gave.0 there)
                  | inr there ↦ output-rose there gave.1.1
                ]
                | inr file ↦ absurd (let same = sym gave.0 ∙ loads file in cc)
              ]
            ]

        print : outcome_by (caused ((happens (core J (process J)) s event).histories 5)) ≡ outcome.Fault cause.PrintFault
            → Rose (counts.print_faults before.paper.sink) (counts.print_faults new.shared.paper.sink)
        print is =
            elim (now-or-before 5 cause.PrintFault is) as (λ _. Rose (counts.print_faults before.paper.sink) (counts.print_faults new.shared.paper.sink)) [
              | inl had ↦ rose-then _ _ _ (was.print had) causes.print_on
              | inr gave ↦ then-rose _ _ _ was.print_on (causes.print gave.1.0 gave.1.1)
            ]

        -- ---- the job's own
        abbrev Then : ℕ → Outcome
        Then n = outcome_by (caused ((happens (core J (process J)) s event).histories n))

        abbrev Before : ℕ → Outcome
        Before n = outcome_by (caused (s.histories n))

        -- another process has a fault of the disk as before, or met it now
        abbrev Met : ℕ → Type 0
        Met n = (disk_fault (Then n) ≤ disk_fault (Before n)) ⊎ ((disk_fault (Then n) ≡ 1) × (q ≡ n) × Told cause.DiskFault made (reply_of event.entry))

        met-by : (n : ℕ) → Met n
        met-by n =
            elim (disk-case (Then n)) as (λ _. Met n) [
              | inl is ↦ elim (now-or-before n cause.DiskFault is) as (λ _. Met n) [
                | inl had ↦ inl (both-fault (Then n) (Before n) is had)
                | inr gave ↦ inr (ap disk_fault is, gave.0, gave.1)
              ]
              | inr none ↦ inl (none-fault (Then n) (Before n) none)
            ]

        input-now : q ≡ 2 → Told cause.DiskFault made (reply_of event.entry)
            → Rose (counts.input_faults old.shared.input.area) (counts.input_faults new.shared.input.area)
        input-now two told =
            elim told.0 as (λ _. Rose (counts.input_faults old.shared.input.area) (counts.input_faults new.shared.input.area)) [
              | inl page ↦ elim (moves page) as (λ _. Rose (counts.input_faults old.shared.input.area) (counts.input_faults new.shared.input.area)) [
                | inl there ↦ causes.input there told.1
                | inr there ↦ absurd (no-output q made two there)
              ]
              | inr file ↦ absurd (let same = sym two ∙ loads file in cc)
            ]

        output-now : q ≡ 4 → Told cause.DiskFault made (reply_of event.entry)
            → Rose (counts.output_faults old.shared.output.area) (counts.output_faults new.shared.output.area)
        output-now four told =
            elim told.0 as (λ _. Rose (counts.output_faults old.shared.output.area) (counts.output_faults new.shared.output.area)) [
              | inl page ↦ elim (moves page) as (λ _. Rose (counts.output_faults old.shared.output.area) (counts.output_faults new.shared.output.area)) [
                | inl there ↦ absurd (no-input q made four there)
                | inr there ↦ causes.output there told.1
              ]
              | inr file ↦ absurd (let same = sym four ∙ loads file in cc)
            ]

        abbrev InputOwn : Type 0
        InputOwn = raised (counts.input_faults before.input) (disk_fault (Then 2) + 1) ≤ counts.input_faults new.shared.input.area

        abbrev OutputOwn : Type 0
        OutputOwn = raised (counts.output_faults before.output) (disk_fault (Then 4) + 1) ≤ counts.output_faults new.shared.output.area

        abbrev Own : Type 0
        Own = InputOwn ⊎ OutputOwn ⊎ FilesRose

        input-kept : raised (counts.input_faults before.input) (disk_fault (Before 2) + 1) ≤ counts.input_faults old.shared.input.area → InputOwn
        input-kept had =
            elim (met-by 2) as (λ _. InputOwn) [
              | inl few ↦ own-kept _ _ _ _ _ had causes.input_on few
              | inr more ↦ own-more _ _ _ _ _ had (input-now more.1 more.2) more.0
            ]

        output-kept : raised (counts.output_faults before.output) (disk_fault (Before 4) + 1) ≤ counts.output_faults old.shared.output.area → OutputOwn
        output-kept had =
            elim (met-by 4) as (λ _. OutputOwn) [
              | inl few ↦ own-kept _ _ _ _ _ had causes.output_on few
              | inr more ↦ own-more _ _ _ _ _ had (output-now more.1 more.2) more.0
            ]

        input-own : q ≡ 3 → MovesInput q made → reply_of event.entry ≡ Some reply.Failed → InputOwn
        input-own three there failed =
            elim (met-by 2) as (λ _. InputOwn) [
              | inl few ↦ own-now _ _ _ _ _ (counted-once _ _ (Before 2) was.input was.input_on) (causes.input there failed) few
              | inr more ↦ absurd (let same = sym more.1 ∙ three in cc)
            ]

        output-own : q ≡ 3 → MovesOutput q made → reply_of event.entry ≡ Some reply.Failed → OutputOwn
        output-own three there failed =
            elim (met-by 4) as (λ _. OutputOwn) [
              | inl few ↦ own-now _ _ _ _ _ (counted-once _ _ (Before 4) was.output was.output_on) (causes.output there failed) few
              | inr more ↦ absurd (let same = sym more.1 ∙ three in cc)
            ]

        own : JobFaultIsOwn counts before (units_of new.shared) (outcomes_in (happens (core J (process J)) s event))
        own = λ is.
            elim (now-or-before 3 cause.DiskFault is) as (λ _. Own) [
              | inl had ↦ elim (met.own had) as (λ _. Own) [
                | inl rose ↦ inl (input-kept rose)
                | inr later ↦ elim later as (λ _. Own) [
                  | inl rose ↦ inr (inl (output-kept rose))
                  | inr rose ↦ inr (inr (rose-then _ _ _ rose causes.files_on))
                ]
              ]
              | inr gave ↦ elim gave.1.0 as (λ _. Own) [
                | inl page ↦ elim (moves page) as (λ _. Own) [
                  | inl there ↦ inl (input-own gave.0 there gave.1.1)
                  | inr there ↦ inr (inl (output-own gave.0 there gave.1.1))
                ]
                | inr file ↦ inr (inr (files-rose file gave.1.1))
              ]
            ]

        counted : AreCounted counts before (units_of new.shared) (outcomes_in (happens (core J (process J)) s event))
        counted = record {
          read = read;
          limit = limit;
          longer = longer;
          input = input;
          job = job;
          output = output;
          print = print;
          read_on = on-then _ _ _ was.read_on causes.read_on;
          input_on = on-then _ _ _ was.input_on causes.input_on;
          output_on = on-then _ _ _ was.output_on causes.output_on;
          print_on = on-then _ _ _ was.print_on causes.print_on;
          files_on = on-then _ _ _ was.files_on causes.files_on;
        }

    -- An event keeps that they were counted.
    pub event-counted : (old new : Net X S K F A B) (o : Opening J) (s : CoreState L) (event : CoreEvent L) → IsReached o s
        → NetStands J keeps tells old s
        → IsEnabled (core J (process J)) s event → NetStands J keeps tells new (happens (core J (process J)) s event)
        → HasCauses tells counts old.shared new.shared event.process (action_of event.entry) (reply_of event.entry)
        → (before : Units S K F A B) → CausesAreCounted J keeps tells counts before old → CausesAreCounted J keeps tells counts before new
    event-counted old new o s event reached stood enabled stands causes before were =
        counted-each new before (happens (core J (process J)) s event) stands record {
          counted = counted old new o s event reached enabled causes before (were s stood);
          own = own old new o s event reached enabled causes before (were s stood);
        }

    -- What was met until all ended is what the run tells.
    pub ended-met : (net : Net X S K F A B) (outcomes : Outcomes) (now : Units S K F A B) (s : CoreState L) → NetStands J keeps tells net s
        → outcomes.card ≡ outcome_by (caused (s.histories 1)) → outcomes.input ≡ outcome_by (caused (s.histories 2))
        → outcomes.job ≡ outcome_by (caused (s.histories 3)) → outcomes.output ≡ outcome_by (caused (s.histories 4))
        → outcomes.printer ≡ outcome_by (caused (s.histories 5)) → now ≡ units_of net.shared
        → (before : Units S K F A B) → CausesAreCounted J keeps tells counts before net → AreMet counts before now outcomes
    ended-met net outcomes now s stands card input job output printer devices before were =
        subst (λ now. AreMet counts before now outcomes) (sym devices)
        (subst (AreMet counts before (units_of net.shared)) (sym (same-five _ _ _ _ _ _ _ _ _ _ card input job output printer outcomes refl))
        (were s stands))

    -- Of one that is made nothing is to be counted.
    pub made-counted : (net : Net X S K F A B) (units : Units S K F A B) (s : CoreState L) → NetStands J keeps tells net s → units_of net.shared ≡ units
        → outcomes_in s ≡ all_done → CausesAreCounted J keeps tells counts units net
    made-counted net units s stands same done =
        counted-each net units s stands (subst (λ now. AreMet counts units now (outcomes_in s)) (sym same)
        (subst (AreMet counts units units) (sym done) (fresh-met counts units)))
