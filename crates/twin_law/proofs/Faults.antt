-- Each fault of a process is one of its own.
use Rattle.std.proofs.Common.{◌≡◌, ◌⊎◌, inl, inr, ℕ, ◌%◌, ◌^◌, arith, Bool, true, List, [], ◌∷◌, Option, None, Some, refl, sym, subst}
use Rattle.batch_procs.specs.Faults.{IsDamaged}
use Rattle.network_law.specs.Network.{IsOne}
use Rattle.network_law.specs.Network as law
use Rattle.solo_base.specs.declared.page.Page.{Page}
use Rattle.solo_base.specs.declared.outcome.Outcome.{Outcome}
use Rattle.solo_base.specs.declared.outcome.Cause.{Cause}
use Rattle.page_codec.specs.Packing.{fits}
use Rattle.page_codec.specs.Reading.{page_read}
use Rattle.batch_procs.specs.declared.actions.Reply.{Reply}
use Rattle.batch_procs.specs.Jobs.{Jobs}
use Rattle.place_law.specs.Process.{Does, LacksMemory, Delays, or_new, fault_in}
use Rattle.solo_base.specs.declared.outcome.Outcome.TheVariants as outcome
use Rattle.solo_base.specs.declared.outcome.Cause.TheVariants as cause
use Rattle.solo_devices.specs.declared.card_read.CardRead.TheVariants as read
use Rattle.batch_procs.specs.declared.actions.Reply.TheVariants as reply
use Rattle.twin_law.specs.Process.{Action, AwaitRoom, AwaitItem, Request, Release, Stop, Ended, Entry, Process, place, given_cause, caused, next_action}
use Rattle.twin_law.specs.Sides.{Twin, A, B}
use Rattle.twin_law.specs.Ends.{ReadsCard, PutsCard, PutsEnd, HasPut, card, TakesLine, PrintsLine, HasPrinted, printer}
use Rattle.twin_law.specs.Input.{Takes, PutsFull, PutsLast, PutsEmptyA, PutsEmptyB, HasDealt, input}
use Rattle.twin_law.specs.Job.{TakesItems, LoadsFile, Toils, PutsLines, PutsLastLines, HasWorked, damage, job}
use Rattle.twin_law.specs.Output.{TakesLines, PutsLine, PutsOver, HasGathered, output}
use Rattle.twin_law.specs.Table.{process}
use Rattle.twin_law.specs.Twin.{Fits, twin}
use Rattle.twin_law.proofs.PagesRead.{read-either}
use Rattle.twin_law.proofs.Marks.{makes, IsAround}
use Rattle.twin_law.proofs.Open.{made-free}

pub same-cause : (a b : Cause) → Some (outcome.Fault a) ≡ Some (outcome.Fault b) → a ≡ b
same-cause a b e = cc

-- a page that was taken and has a fault
damaged-so : (n : ℕ) (page : Page) (last : Bool) (c : Cause) → fault_in (damage (page_read (n % 2 ^ 16) last page)) ≡ Some (outcome.Fault c) → IsDamaged c
damaged-so n page last c =
    read-either (λ result. fault_in (damage result) ≡ Some (outcome.Fault c) → IsDamaged c) (n % 2 ^ 16) last page
    (λ items e. absurd cc) (λ bad e. subst IsDamaged (same-cause (cause.Damaged bad.expected bad.found bad.at) c e) tt)

-- ---- which faults are whose
abbrev pub OfReading : Cause → Type 0
OfReading c = (c ≡ cause.ReadFault) ⊎ (c ≡ cause.DeckLimit)

abbrev pub OfDisk : Cause → Type 0
OfDisk c = c ≡ cause.DiskFault

abbrev pub OfJob : Cause → Type 0
OfJob c = (c ≡ cause.DiskFault) ⊎ (IsDamaged c ⊎ (c ≡ cause.NoMemory))

abbrev pub OfOutput : Cause → Type 0
OfOutput c = (c ≡ cause.DiskFault) ⊎ IsDamaged c

abbrev pub OfPrinter : Cause → Type 0
OfPrinter c = (c ≡ cause.PrintFault) ⊎ (c ≡ cause.NoMemory)

pub or-fault : (Is : Cause → Type 0) (old new : Option Outcome) (c : Cause) → (old ≡ Some (outcome.Fault c) → Is c) → (new ≡ Some (outcome.Fault c) → Is c)
    → or_new old new ≡ Some (outcome.Fault c) → Is c
or-fault Is None new c first second e = second e
or-fault Is (Some how) new c first second e = first e

module _ {L : Type 0} where
  pub around-fault : (p : Process L) (x : p.Place) (a : Action) (r : Reply L) (c : Cause) → IsAround a → Fits a r
      → given_cause p x a r ≡ Some (outcome.Fault c) → ⊥
  around-fault p x (AwaitRoom b) reply.Done c around fits e = cc
  around-fault p x (AwaitRoom b) reply.Stopped c around fits e = cc
  around-fault p x (AwaitItem b) reply.Done c around fits e = cc
  around-fault p x (AwaitItem b) reply.Stopped c around fits e = cc
  around-fault p x Request reply.Done c around fits e = cc
  around-fault p x Release reply.Done c around fits e = cc
  around-fault p x (Stop b) reply.Done c around fits e = cc
  around-fault p x (Ended how) reply.Done c around fits e = cc
  around-fault p x (AwaitRoom b) r c around fits e = fits
  around-fault p x (AwaitItem b) r c around fits e = fits
  around-fault p x Request r c around fits e = fits
  around-fault p x Release r c around fits e = fits
  around-fault p x (Stop b) r c around fits e = fits
  around-fault p x (Ended how) r c around fits e = fits
  around-fault p x a r c around fits e = around

  -- what a process may find at a place
  abbrev FaultsAt : (p : Process L) → (Cause → Type 0) → Type 0
  FaultsAt p Is = (x : p.Place) (r : Reply L) (c : Cause) → Fits (makes (p.aims x)) r → given_cause p x (makes (p.aims x)) r ≡ Some (outcome.Fault c) → Is c

  card-faults : FaultsAt card OfReading
  card-faults ReadsCard (reply.Card (read.Card line)) c fits e = absurd cc
  card-faults ReadsCard (reply.Card read.Spoiled) c fits e = absurd cc
  card-faults ReadsCard (reply.Card read.End) c fits e = absurd cc
  card-faults ReadsCard (reply.Card read.Failed) c fits e = inl (sym (same-cause cause.ReadFault c e))
  card-faults ReadsCard (reply.Card read.Limit) c fits e = inr (sym (same-cause cause.DeckLimit c e))
  card-faults (PutsCard item) reply.Done c fits e = absurd cc
  card-faults (PutsCard item) reply.Stopped c fits e = absurd cc
  card-faults PutsEnd reply.Done c fits e = absurd cc
  card-faults PutsEnd reply.Stopped c fits e = absurd cc
  card-faults HasPut reply.Done c fits e = absurd cc
  card-faults x r c fits e = absurd fits

  input-faults : FaultsAt input OfDisk
  input-faults (Takes side inside hand) (reply.Feed f) c fits e = absurd cc
  input-faults (Takes side inside hand) reply.Stopped c fits e = absurd cc
  input-faults (PutsFull side inside page hand) reply.Done c fits e = absurd cc
  input-faults (PutsFull side inside page hand) reply.Failed c fits e = sym (same-cause cause.DiskFault c e)
  input-faults (PutsLast side page opener) reply.Done c fits e = absurd cc
  input-faults (PutsLast side page opener) reply.Failed c fits e = sym (same-cause cause.DiskFault c e)
  input-faults (PutsEmptyA side) reply.Done c fits e = absurd cc
  input-faults (PutsEmptyA side) reply.Failed c fits e = sym (same-cause cause.DiskFault c e)
  input-faults (PutsEmptyB side) reply.Done c fits e = absurd cc
  input-faults (PutsEmptyB side) reply.Failed c fits e = sym (same-cause cause.DiskFault c e)
  input-faults HasDealt reply.Done c fits e = absurd cc
  input-faults x r c fits e = absurd fits

  job-faults : (J : Jobs L) (side : Twin) → FaultsAt (job J side) OfJob
  job-faults J side (TakesItems s) (reply.Page page last) c fits e = inr (inl (damaged-so s.pages page last c e))
  job-faults J side (TakesItems s) reply.Failed c fits e = inl (sym (same-cause cause.DiskFault c e))
  job-faults J side (LoadsFile file s last) (reply.Loaded load) c fits e = absurd cc
  job-faults J side (LoadsFile file s last) reply.Failed c fits e = inl (sym (same-cause cause.DiskFault c e))
  job-faults J side (LoadsFile file s last) reply.NoMemory c fits e = inr (inr (sym (same-cause cause.NoMemory c e)))
  job-faults J side (Toils s last) reply.Done c fits e = absurd cc
  job-faults J side (PutsLines page s last) reply.Done c fits e = absurd cc
  job-faults J side (PutsLines page s last) reply.Failed c fits e = inl (sym (same-cause cause.DiskFault c e))
  job-faults J side (PutsLastLines page some) reply.Done c fits e = absurd cc
  job-faults J side (PutsLastLines page some) reply.Failed c fits e = inl (sym (same-cause cause.DiskFault c e))
  job-faults J side HasWorked reply.Done c fits e = absurd cc
  job-faults J side x r c fits e = absurd fits

  output-faults : FaultsAt output OfOutput
  output-faults (TakesLines t) (reply.Page page last) c fits e = inr (damaged-so t.pages page last c e)
  output-faults (TakesLines t) reply.Failed c fits e = inl (sym (same-cause cause.DiskFault c e))
  output-faults (PutsLine line later t over) reply.Done c fits e = absurd cc
  output-faults (PutsLine line later t over) reply.Stopped c fits e = absurd cc
  output-faults PutsOver reply.Done c fits e = absurd cc
  output-faults PutsOver reply.Stopped c fits e = absurd cc
  output-faults HasGathered reply.Done c fits e = absurd cc
  output-faults x r c fits e = absurd fits

  printer-faults : FaultsAt printer OfPrinter
  printer-faults TakesLine (reply.Feed f) c fits e = absurd cc
  printer-faults TakesLine reply.Stopped c fits e = absurd cc
  printer-faults (PrintsLine line) reply.Done c fits e = absurd cc
  printer-faults (PrintsLine line) reply.Failed c fits e = inl (sym (same-cause cause.PrintFault c e))
  printer-faults (PrintsLine line) reply.NoMemory c fits e = inr (sym (same-cause cause.NoMemory c e))
  printer-faults HasPrinted reply.Done c fits e = absurd cc
  printer-faults x r c fits e = absurd fits

  -- ---- over histories
  module _ (J : Jobs L) (p : ℕ) (one : IsOne (twin J) p) (Is : Cause → Type 0) (at : FaultsAt (process J p) Is) (lacks : (process J p).works ≡ true → Is cause.NoMemory) where
    one-fault : (h : List (Entry L)) (a : Action) (r : Reply L) (c : Cause) → next_action (process J p) h ≡ Some a → Fits a r
        → given_cause (process J p) (place (process J p) h) a r ≡ Some (outcome.Fault c) → Is c
    one-fault h a r c next fits e =
        elim (made-free J p h a one next) as (λ _. Is c) [
          | inl around ↦ absurd (around-fault (process J p) (place (process J p) h) a r c around fits e)
          | inr is ↦ (subst (λ a. Fits a r → given_cause (process J p) (place (process J p) h) a r ≡ Some (outcome.Fault c) → Is c) is.1
              (λ fits e. at (place (process J p) h) r c fits e)) fits e
        ]

    pub faults-of : (h : List (Entry L)) (c : Cause) → law.Follows (twin J) p h → caused (process J p) h ≡ Some (outcome.Fault c) → Is c
    faults-of [] c follows e = absurd cc
    faults-of (Does a r ∷ h) c follows e =
        or-fault Is (caused (process J p) h) (given_cause (process J p) (place (process J p) h) a r) c (faults-of h c follows.2)
        (one-fault h a r c follows.0 follows.1.0) e
    faults-of (LacksMemory a r ∷ h) c follows e =
        or-fault Is (caused (process J p) h) (Some (outcome.Fault cause.NoMemory)) c (faults-of h c follows.2)
        (λ e. subst Is (same-cause cause.NoMemory c e) (lacks follows.1.0)) e
    faults-of (Delays a ∷ h) c follows e = faults-of h c follows.2 e

  module _ (J : Jobs L) where
    pub card-faulty : (h : List (Entry L)) (c : Cause) → law.Follows (twin J) 1 h → caused (process J 1) h ≡ Some (outcome.Fault c) → OfReading c
    card-faulty h c follows e = faults-of J 1 (omega arith, omega arith) OfReading card-faults (λ never. absurd cc) h c follows e

    pub input-faulty : (h : List (Entry L)) (c : Cause) → law.Follows (twin J) 2 h → caused (process J 2) h ≡ Some (outcome.Fault c) → OfDisk c
    input-faulty h c follows e = faults-of J 2 (omega arith, omega arith) OfDisk input-faults (λ never. absurd cc) h c follows e

    pub job-a-faulty : (h : List (Entry L)) (c : Cause) → law.Follows (twin J) 3 h → caused (process J 3) h ≡ Some (outcome.Fault c) → OfJob c
    job-a-faulty h c follows e = faults-of J 3 (omega arith, omega arith) OfJob (job-faults J A) (λ _. inr (inr refl)) h c follows e

    pub job-b-faulty : (h : List (Entry L)) (c : Cause) → law.Follows (twin J) 4 h → caused (process J 4) h ≡ Some (outcome.Fault c) → OfJob c
    job-b-faulty h c follows e = faults-of J 4 (omega arith, omega arith) OfJob (job-faults J B) (λ _. inr (inr refl)) h c follows e

    pub output-faulty : (h : List (Entry L)) (c : Cause) → law.Follows (twin J) 5 h → caused (process J 5) h ≡ Some (outcome.Fault c) → OfOutput c
    output-faulty h c follows e = faults-of J 5 (omega arith, omega arith) OfOutput output-faults (λ never. absurd cc) h c follows e

    pub printer-faulty : (h : List (Entry L)) (c : Cause) → law.Follows (twin J) 6 h → caused (process J 6) h ≡ Some (outcome.Fault c) → OfPrinter c
    printer-faulty h c follows e = faults-of J 6 (omega arith, omega arith) OfPrinter printer-faults (λ never. absurd cc) h c follows e
