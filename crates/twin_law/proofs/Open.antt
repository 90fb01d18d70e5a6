-- What a process does that isn't a call around a move, nor closing down: it has no cause, and is at the place that aims at it. So the
-- first alone reads, and the last alone prints.
use Rattle.std.proofs.Common.{◌≡◌, ◌⊎◌, inl, inr, ℕ, List, Option, None, Some, refl, sym, ap, subst}
use Rattle.network_law.specs.Network.{IsOne}
use Rattle.solo_base.specs.declared.outcome.Outcome.{Outcome}
use Rattle.batch_procs.specs.Jobs.{Jobs}
use Rattle.twin_law.specs.Process.{Action, ReadCard, Print, Entry, Aim, Reads, PutsFeed, TakesFeed, PutsPage, TakesPage, Loads, Works, Prints, Finishes, Process, place, aim, caused, newest, Closing, closing_by, closing, next_action}
use Rattle.twin_law.specs.Sides.{Twin, A, B, other}
use Rattle.twin_law.specs.Ends.{CardPlace, ReadsCard, PutsCard, PutsEnd, HasPut, card_aims, PrinterPlace, TakesLine, PrintsLine, HasPrinted, printer_aims}
use Rattle.twin_law.specs.Input.{InputPlace, Takes, PutsFull, PutsLast, PutsEmptyA, PutsEmptyB, HasDealt, input_aims}
use Rattle.twin_law.specs.Job.{JobPlace, TakesItems, LoadsFile, Toils, PutsLines, PutsLastLines, HasWorked, job_aims}
use Rattle.twin_law.specs.Output.{OutputPlace, TakesLines, PutsLine, PutsOver, HasGathered, output_aims}
use Rattle.twin_law.specs.Table.{process}
use Rattle.twin_law.specs.Twin.{twin}
use Rattle.twin_law.proofs.Lawful.{Shape, SeatedAt, next-shape, each-process}
use Rattle.twin_law.proofs.Marks.{makes, IsAround, Made, made-working, made-closes}

free-closing : {L : Type 0} (p : Process L) (cause : Option Outcome) (m : Aim) → closing_by p cause m ≡ None → cause ≡ None
free-closing p None m e = refl
free-closing p (Some how) m e = absurd cc

module _ {L : Type 0} (J : Jobs L) where
  abbrev pub MadeFree : ℕ → List (Entry L) → Action → Type 0
  MadeFree p h a = IsAround a ⊎ ((caused (process J p) h ≡ None) × (makes (aim (process J p) h) ≡ a))

  free-by : (p : ℕ) (h : List (Entry L)) (a : Action) → caused (process J p) h ≡ None → Made (aim (process J p) h) a → MadeFree p h a
  free-by p h a none (inl around) = inl around
  free-by p h a none (inr same) = inr (none, same)

  made-by : (p : ℕ) (h : List (Entry L)) (a : Action) (c : Option Closing) → closing (process J p) h ≡ c → Shape J p h c a → MadeFree p h a
  made-by p h a None e is =
      free-by p h a (free-closing (process J p) (caused (process J p) h) (aim (process J p) h) e)
      (subst (Made (aim (process J p) h)) (sym is.0) (made-working (newest h) (aim (process J p) h)))
  made-by p h a (Some c) e is = inl (made-closes (SeatedAt J p) h a is)

  pub made-free : (p : ℕ) (h : List (Entry L)) (a : Action) → IsOne (twin J) p → next_action (process J p) h ≡ Some a → MadeFree p h a
  made-free p h a one next = made-by p h a (closing (process J p) h) refl (next-shape J p h a one next)

-- ---- reads and prints
makes-read : (m : Aim) → makes m ≡ ReadCard → m ≡ Reads
makes-read Reads e = refl
makes-read (PutsFeed b f) e = absurd cc
makes-read (TakesFeed b) e = absurd cc
makes-read (PutsPage b page) e = absurd cc
makes-read (TakesPage b) e = absurd cc
makes-read (Loads file) e = absurd cc
makes-read Works e = absurd cc
makes-read (Prints line) e = absurd cc
makes-read Finishes e = absurd cc

makes-print : (line : List ℕ) (m : Aim) → makes m ≡ Print line → m ≡ Prints line
makes-print line (Prints other) e = (let same : other ≡ line = cc in ap Prints same)
makes-print line Reads e = absurd cc
makes-print line (PutsFeed b f) e = absurd cc
makes-print line (TakesFeed b) e = absurd cc
makes-print line (PutsPage b page) e = absurd cc
makes-print line (TakesPage b) e = absurd cc
makes-print line (Loads file) e = absurd cc
makes-print line Works e = absurd cc
makes-print line Finishes e = absurd cc

abbrev Special : Aim → ℕ → Type 0
Special Reads p = p ≡ 1
Special (Prints line) p = p ≡ 6
Special m p = Unit {0}

card-special : (x : CardPlace) → Special (card_aims x) 1
card-special ReadsCard = refl
card-special (PutsCard item) = tt
card-special PutsEnd = tt
card-special HasPut = tt

input-special : (x : InputPlace) → Special (input_aims x) 2
input-special (Takes side inside hand) = tt
input-special (PutsFull side inside page hand) = tt
input-special (PutsLast side page opener) = tt
input-special (PutsEmptyA side) = tt
input-special (PutsEmptyB side) = tt
input-special HasDealt = tt

job-special : {L : Type 0} (side : Twin) (p : ℕ) (x : JobPlace L) → Special (job_aims side x) p
job-special side p (TakesItems s) = tt
job-special side p (LoadsFile file s last) = tt
job-special side p (Toils s last) = tt
job-special side p (PutsLines page s last) = tt
job-special side p (PutsLastLines page some) = tt
job-special side p HasWorked = tt

output-special : (x : OutputPlace) → Special (output_aims x) 5
output-special (TakesLines t) = tt
output-special (PutsLine line later t over) = tt
output-special PutsOver = tt
output-special HasGathered = tt

printer-special : (x : PrinterPlace) → Special (printer_aims x) 6
printer-special TakesLine = tt
printer-special (PrintsLine line) = refl
printer-special HasPrinted = tt

no-read_around : IsAround ReadCard → ⊥
no-read_around is = is

no-print_around : (line : List ℕ) → IsAround (Print line) → ⊥
no-print_around line is = is

module _ {L : Type 0} (J : Jobs L) where
  abbrev SpecialAt : ℕ → Type 0
  SpecialAt p = (x : (process J p).Place) → Special ((process J p).aims x) p

  special : (p : ℕ) → IsOne (twin J) p → SpecialAt p
  special p one = each-process J SpecialAt p one card-special input-special (job-special A 3) (job-special B 4) output-special printer-special

  pub reads-first : (p : ℕ) (h : List (Entry L)) → IsOne (twin J) p → next_action (process J p) h ≡ Some ReadCard → p ≡ 1
  reads-first p h one next =
      elim (made-free J p h ReadCard one next) as (λ _. p ≡ 1) [
        | inl around ↦ absurd (no-read_around around)
        | inr is ↦ subst (λ m. Special m p) (makes-read (aim (process J p) h) is.1) (special p one (place (process J p) h))
      ]

  pub prints-last : (p : ℕ) (h : List (Entry L)) (line : List ℕ) → IsOne (twin J) p → next_action (process J p) h ≡ Some (Print line) → p ≡ 6
  prints-last p h line one next =
      elim (made-free J p h (Print line) one next) as (λ _. p ≡ 6) [
        | inl around ↦ absurd (no-print_around line around)
        | inr is ↦ subst (λ m. Special m p) (makes-print line (aim (process J p) h) is.1) (special p one (place (process J p) h))
      ]
