-- A fault of the disk was counted at one of the five areas.
use Rattle.std.proofs.Common.{◌≡◌, ◌⊎◌, inl, inr, ◌≤◌, ◌==◌, ℕ, if◌then◌else◌, true, false, Option, Some, refl, ap, ◌∙◌, arith}
use Rattle.std.proofs.lemmas.Bool.Decides.{eqb_tells}
use Rattle.solo_base.specs.declared.outcome.Cause.TheVariants as cause
use Rattle.solo_base.specs.declared.outcome.Outcome.TheVariants as outcome
use Rattle.solo_devices.specs.Count.{raised, Rose}
use Rattle.batch_procs.specs.Faults.{IsDamaged}
use Rattle.twin_law.specs.Twin.{IsProcess}
use Rattle.twin_law.proofs.Counted.{each-buffer}
use Rattle.twin_ends.specs.declared.units.TwinOutcomes.{TwinOutcomes}
use Rattle.twin_ends.specs.declared.units.TwinUnits.{TwinUnits}
use Rattle.twin_ends.specs.TwinTells.{TwinCounts}
use Rattle.twin_net.specs.Causes.{spool_faults}
use Rattle.twin_net.specs.Counted.{DiskPlace, AtSpool, AtFiles, DiskFaultsAreOwn, IsOwnPlace, IsSpool, met_at, met_here}
use Rattle.twin_net.specs.Ended.{TwinFaultsAre, twin_outcome_at}

here-one : (b : ℕ) → met_here b (Some (AtSpool b)) ≡ 1
here-one b = elim (eqb_tells b b) as (λ _. ◌≡◌ {A = ℕ} (if b == b then 1 else 0) 1) [
  | inl same ↦ ap (λ t. if t then 1 else 0) same.0
  | inr other ↦ absurd (other.1 refl)
]

rises : (count now met : ℕ) → 1 ≤ met → raised count met ≤ now → Rose count now
rises count now met some most = omega (arith, some, most)

module _ {S K F A : Type 0} (counts : TwinCounts S K F A) (before now : TwinUnits S K F A) (outcomes : TwinOutcomes)
    (own : DiskFaultsAreOwn counts before now outcomes) (faults : TwinFaultsAre outcomes) where
  abbrev pub OneRose : Type 0
  OneRose = Rose (counts.file_faults before.files) (counts.file_faults now.files)
      ⊎ (Rose (counts.page_faults before.to_a) (counts.page_faults now.to_a)
      ⊎ (Rose (counts.page_faults before.to_b) (counts.page_faults now.to_b)
      ⊎ (Rose (counts.page_faults before.from_a) (counts.page_faults now.from_a)
      ⊎ Rose (counts.page_faults before.from_b) (counts.page_faults now.from_b))))

  abbrev AtOne : ℕ → Type 0
  AtOne b = IsSpool b → Rose (spool_faults counts before b) (spool_faults counts now b) → OneRose

  at-spool : (b : ℕ) → AtOne b
  at-spool b is = each-buffer AtOne b (omega (arith, is.0), omega (arith, is.1))
      (λ is. absurd (let low = is.0 in omega (arith, low)))
      (λ is rose. inr (inl rose)) (λ is rose. inr (inr (inl rose))) (λ is rose. inr (inr (inr (inl rose))))
      (λ is rose. inr (inr (inr (inr rose)))) (λ is. absurd (let high = is.1 in omega (arith, high))) is

  at-place : (p : ℕ) → ((b : ℕ) → own.met p ≡ Some (AtSpool b) → 1 ≤ met_at b own.met) → (place : DiskPlace) → own.met p ≡ Some place
      → IsOwnPlace p place → OneRose
  at-place p some (AtSpool b) is mine =
      at-spool b mine.0 (rises (spool_faults counts before b) (spool_faults counts now b) (met_at b own.met) (some b is) (own.spools b mine.0))
  at-place p some AtFiles is mine = inl (own.files p is)

  by-own : (p : ℕ) → IsProcess p → ((b : ℕ) → own.met p ≡ Some (AtSpool b) → 1 ≤ met_at b own.met)
      → twin_outcome_at outcomes p ≡ outcome.Fault cause.DiskFault → OneRose
  by-own p one some at = (let found = own.own p one at in at-place p some found.0 found.1 found.2)

  neither : {X Y : Type 0} → (X → ⊥) → (Y → ⊥) → X ⊎ Y → ⊥
  neither first second (inl a) = first a
  neither first second (inr b) = second b

  pub area-rose : (p : ℕ) → IsProcess p → twin_outcome_at outcomes p ≡ outcome.Fault cause.DiskFault → OneRose
  area-rose p one = each-buffer (λ p. twin_outcome_at outcomes p ≡ outcome.Fault cause.DiskFault → OneRose) p one
      (λ at. absurd (neither (λ e. cc) (λ e. cc) (faults.card cause.DiskFault at)))
      (by-own 2 (omega arith, omega arith) (λ b is. let here = ap (met_here b) is ∙ here-one b in omega (arith, here)))
      (by-own 3 (omega arith, omega arith) (λ b is. let here = ap (met_here b) is ∙ here-one b in omega (arith, here)))
      (by-own 4 (omega arith, omega arith) (λ b is. let here = ap (met_here b) is ∙ here-one b in omega (arith, here)))
      (by-own 5 (omega arith, omega arith) (λ b is. let here = ap (met_here b) is ∙ here-one b in omega (arith, here)))
      (λ at. absurd (neither (λ e. cc) (λ e. cc) (faults.printer cause.DiskFault at)))
