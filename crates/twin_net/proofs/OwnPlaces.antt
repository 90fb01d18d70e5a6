-- Where a process calls the disk: a page is moved at a spool at which it sits, and a file is loaded by one that works on jobs.
use Rattle.std.proofs.Common.{◌≡◌, inl, inr, ℕ, List, Option, None, Some, refl, ◌∙◌, ap, subst, lit≤}
use Rattle.batch_procs.specs.Jobs.{Jobs}
use Rattle.network_law.specs.Network.{IsOne}
use Rattle.twin_law.specs.Process.{Action, AwaitRoom, AwaitItem, Request, PutPage, TakePage, Load, Release, Stop, Ended, Entry, Aim, place, next_action}
use Rattle.twin_law.specs.Sides.{Twin, A, B, to_job, from_job}
use Rattle.twin_law.specs.Ends.{CardPlace, ReadsCard, PutsCard, PutsEnd, HasPut, card_aims, PrinterPlace, TakesLine, PrintsLine, HasPrinted, printer_aims}
use Rattle.twin_law.specs.Input.{InputPlace, Takes, PutsFull, PutsLast, PutsEmptyA, PutsEmptyB, HasDealt, input_aims}
use Rattle.twin_law.specs.Job.{JobPlace, TakesItems, LoadsFile, Toils, PutsLines, PutsLastLines, HasWorked, job_aims}
use Rattle.twin_law.specs.Output.{OutputPlace, TakesLines, PutsLine, PutsOver, HasGathered, output_aims}
use Rattle.twin_law.specs.Table.{process}
use Rattle.twin_law.specs.Twin.{twin}
use Rattle.twin_law.proofs.Lawful.{each-process}
use Rattle.twin_law.proofs.Marks.{makes, IsAround}
use Rattle.twin_law.proofs.Open.{made-free}
use Rattle.twin_net.specs.Counted.{DiskPlace, AtSpool, AtFiles, IsOwnPlace}

-- where an action calls the disk, if it does
abbrev pub place_of : Action → Option DiskPlace
place_of (PutPage b page) = Some (AtSpool b)
place_of (TakePage b) = Some (AtSpool b)
place_of (Load file) = Some AtFiles
place_of other = None

same-place : (a b : DiskPlace) → Some a ≡ Some b → a ≡ b
same-place a b e = cc

around-not : (a : Action) (x : DiskPlace) → IsAround a → place_of a ≡ Some x → ⊥
around-not (AwaitRoom b) x around e = cc
around-not (AwaitItem b) x around e = cc
around-not Request x around e = cc
around-not Release x around e = cc
around-not (Stop b) x around e = cc
around-not (Ended how) x around e = cc
around-not a x around e = around

-- ---- by what a process aims at
abbrev OwnAim : ℕ → Aim → Type 0
OwnAim p m = (x : DiskPlace) → place_of (makes m) ≡ Some x → IsOwnPlace p x

input-at : (side : Twin) → IsOwnPlace 2 (AtSpool (to_job side))
input-at A = ((lit≤ tt, lit≤ tt), inl refl)
input-at B = ((lit≤ tt, lit≤ tt), inl refl)

abbrev number : Twin → ℕ
number A = 3
number B = 4

taken-at : (side : Twin) → IsOwnPlace (number side) (AtSpool (to_job side))
taken-at A = ((lit≤ tt, lit≤ tt), inr refl)
taken-at B = ((lit≤ tt, lit≤ tt), inr refl)

put-at : (side : Twin) → IsOwnPlace (number side) (AtSpool (from_job side))
put-at A = ((lit≤ tt, lit≤ tt), inl refl)
put-at B = ((lit≤ tt, lit≤ tt), inl refl)

loaded-by : (side : Twin) → IsOwnPlace (number side) AtFiles
loaded-by A = inl refl
loaded-by B = inr refl

output-at : (side : Twin) → IsOwnPlace 5 (AtSpool (from_job side))
output-at A = ((lit≤ tt, lit≤ tt), inr refl)
output-at B = ((lit≤ tt, lit≤ tt), inr refl)

card-own : (at : CardPlace) → OwnAim 1 (card_aims at)
card-own ReadsCard x e = absurd cc
card-own (PutsCard item) x e = absurd cc
card-own PutsEnd x e = absurd cc
card-own HasPut x e = absurd cc

input-own : (at : InputPlace) → OwnAim 2 (input_aims at)
input-own (Takes side inside hand) x e = absurd cc
input-own (PutsFull side inside page hand) x e = subst (IsOwnPlace 2) (same-place (AtSpool (to_job side)) x e) (input-at side)
input-own (PutsLast side page opener) x e = subst (IsOwnPlace 2) (same-place (AtSpool (to_job side)) x e) (input-at side)
input-own (PutsEmptyA side) x e = subst (IsOwnPlace 2) (same-place (AtSpool 2) x e) (input-at A)
input-own (PutsEmptyB side) x e = subst (IsOwnPlace 2) (same-place (AtSpool 3) x e) (input-at B)
input-own HasDealt x e = absurd cc

job-own : {L : Type 0} (side : Twin) (at : JobPlace L) → OwnAim (number side) (job_aims side at)
job-own side (TakesItems s) x e = subst (IsOwnPlace (number side)) (same-place (AtSpool (to_job side)) x e) (taken-at side)
job-own side (LoadsFile file s last) x e = subst (IsOwnPlace (number side)) (same-place AtFiles x e) (loaded-by side)
job-own side (Toils s last) x e = absurd cc
job-own side (PutsLines page s last) x e = subst (IsOwnPlace (number side)) (same-place (AtSpool (from_job side)) x e) (put-at side)
job-own side (PutsLastLines page some) x e = subst (IsOwnPlace (number side)) (same-place (AtSpool (from_job side)) x e) (put-at side)
job-own side HasWorked x e = absurd cc

output-own : (at : OutputPlace) → OwnAim 5 (output_aims at)
output-own (TakesLines t) x e = subst (IsOwnPlace 5) (same-place (AtSpool (from_job t.side)) x e) (output-at t.side)
output-own (PutsLine line later t over) x e = absurd cc
output-own PutsOver x e = absurd cc
output-own HasGathered x e = absurd cc

printer-own : (at : PrinterPlace) → OwnAim 6 (printer_aims at)
printer-own TakesLine x e = absurd cc
printer-own (PrintsLine line) x e = absurd cc
printer-own HasPrinted x e = absurd cc

module _ {L : Type 0} (J : Jobs L) where
  abbrev OwnAims : ℕ → Type 0
  OwnAims p = (at : (process J p).Place) → OwnAim p ((process J p).aims at)

  own-aims : (p : ℕ) → IsOne (twin J) p → OwnAims p
  own-aims p one = each-process J OwnAims p one card-own input-own (job-own A) (job-own B) output-own printer-own

  pub calls-own : (p : ℕ) (h : List (Entry L)) (a : Action) (x : DiskPlace) → IsOne (twin J) p → next_action (process J p) h ≡ Some a → place_of a ≡ Some x
      → IsOwnPlace p x
  calls-own p h a x one next e =
      elim (made-free J p h a one next) as (λ _. IsOwnPlace p x) [
        | inl around ↦ absurd (around-not a x around e)
        | inr is ↦ own-aims p one (place (process J p) h) x (ap place_of is.1 ∙ e)
      ]
