-- Whose fault the deciding cause of the six is.
use Rattle.std.proofs.Common.{◌≡◌, ◌≢◌, ◌⊎◌, inl, inr, ◌≤◌, ℕ, Option, Some, None, refl, sym, ap, subst, arith}
use Rattle.solo_base.specs.declared.outcome.Cause.{Cause}
use Rattle.solo_base.specs.declared.outcome.Cause.TheVariants as cause
use Rattle.solo_base.specs.declared.outcome.Outcome.{Outcome}
use Rattle.solo_base.specs.declared.outcome.Outcome.TheVariants as outcome
use Rattle.batch_procs.specs.Faults.{IsDamaged}
use Rattle.batch_ends.specs.Ended.{TellsWhere}
use Rattle.twin_law.specs.Twin.{IsProcess}
use Rattle.twin_law.proofs.Counted.{each-buffer}
use Rattle.twin_ends.specs.declared.units.TwinOutcomes.{TwinOutcomes}
use Rattle.twin_net.specs.Ended.{TwinFaultsAre, TwinTogether, twin_all_done, twin_outcome_at}
use Rattle.run_report.specs.Decides.{IsIn}
use Rattle.run_report.specs.Status.{number_of}
use Rattle.twin_top.specs.Answers.{IsTwinCause}
use Rattle.twin_top.specs.Runs.{EndedWith, NoneAtFault, six_outcomes}

neither : {A B : Type 0} → (A → ⊥) → (B → ⊥) → A ⊎ B → ⊥
neither first second (inl a) = first a
neither first second (inr b) = second b

-- one of the outcomes is that of a process
pub ended-at : (outcomes : TwinOutcomes) (c : Cause) → EndedWith outcomes c
    → (p : ℕ) × IsProcess p × (twin_outcome_at outcomes p ≡ outcome.Fault c)
ended-at outcomes c (inl at) = (1, (omega arith, omega arith), at)
ended-at outcomes c (inr (inl at)) = (2, (omega arith, omega arith), at)
ended-at outcomes c (inr (inr (inl at))) = (3, (omega arith, omega arith), at)
ended-at outcomes c (inr (inr (inr (inl at)))) = (4, (omega arith, omega arith), at)
ended-at outcomes c (inr (inr (inr (inr (inl at))))) = (5, (omega arith, omega arith), at)
ended-at outcomes c (inr (inr (inr (inr (inr (inl at)))))) = (6, (omega arith, omega arith), at)
ended-at outcomes c (inr (inr (inr (inr (inr (inr at)))))) = absurd at

-- ---- where none has a fault all six are done
-- the outcome of each process is one of them
is-in : (outcomes : TwinOutcomes) (p : ℕ) → IsProcess p → IsIn (twin_outcome_at outcomes p) (six_outcomes outcomes)
is-in outcomes p one = each-buffer (λ p. IsIn (twin_outcome_at outcomes p) (six_outcomes outcomes)) p one
    (inl refl) (inr (inl refl)) (inr (inr (inl refl))) (inr (inr (inr (inl refl)))) (inr (inr (inr (inr (inl refl)))))
    (inr (inr (inr (inr (inr (inl refl))))))

done-or : (o : Outcome) → ((c : Cause) → o ≡ outcome.Fault c → ⊥) → (o ≡ outcome.Stopped → ⊥) → o ≡ outcome.Done
done-or outcome.Done faulty stopped = refl
done-or (outcome.Fault c) faulty stopped = absurd (faulty c refl)
done-or outcome.Stopped faulty stopped = absurd (stopped refl)

all-six : (a b c d e f : Outcome) → a ≡ outcome.Done → b ≡ outcome.Done → c ≡ outcome.Done → d ≡ outcome.Done → e ≡ outcome.Done → f ≡ outcome.Done
    → record { card = a; input = b; job_a = c; job_b = d; output = e; printer = f } ≡ twin_all_done
all-six a b c d e f one two three four five six = cc

module _ (outcomes : TwinOutcomes) (none : NoneAtFault outcomes) (together : TwinTogether outcomes) where
  no-fault-at : (p : ℕ) → IsProcess p → (c : Cause) → twin_outcome_at outcomes p ≡ outcome.Fault c → ⊥
  no-fault-at p one c is = none c (subst (λ o. IsIn o (six_outcomes outcomes)) is (is-in outcomes p one))

  done-at : (p : ℕ) → IsProcess p → twin_outcome_at outcomes p ≡ outcome.Done
  done-at p one = done-or (twin_outcome_at outcomes p) (no-fault-at p one) (λ stopped.
      let fault = together p one stopped in no-fault-at fault.process fault.one fault.cause fault.is)

  pub all-done : outcomes ≡ twin_all_done
  all-done = all-six outcomes.card outcomes.input outcomes.job_a outcomes.job_b outcomes.output outcomes.printer
      (done-at 1 (omega arith, omega arith)) (done-at 2 (omega arith, omega arith)) (done-at 3 (omega arith, omega arith))
      (done-at 4 (omega arith, omega arith)) (done-at 5 (omega arith, omega arith)) (done-at 6 (omega arith, omega arith))

-- what may end one of the six
abbrev pub IsFaultOfSix : Cause → Type 0
IsFaultOfSix c = (c ≡ cause.ReadFault) ⊎ ((c ≡ cause.DeckLimit) ⊎ ((c ≡ cause.DiskFault) ⊎ (IsDamaged c
    ⊎ ((c ≡ cause.PrintFault) ⊎ (c ≡ cause.NoMemory)))))

module _ (outcomes : TwinOutcomes) (faults : TwinFaultsAre outcomes) where
  of-card : (c : Cause) → (c ≡ cause.ReadFault) ⊎ (c ≡ cause.DeckLimit) → IsFaultOfSix c
  of-card c (inl is) = inl is
  of-card c (inr is) = inr (inl is)

  of-job : (c : Cause) → (c ≡ cause.DiskFault) ⊎ (IsDamaged c ⊎ (c ≡ cause.NoMemory)) → IsFaultOfSix c
  of-job c (inl is) = inr (inr (inl is))
  of-job c (inr (inl is)) = inr (inr (inr (inl is)))
  of-job c (inr (inr is)) = inr (inr (inr (inr (inr is))))

  of-output : (c : Cause) → (c ≡ cause.DiskFault) ⊎ IsDamaged c → IsFaultOfSix c
  of-output c (inl is) = inr (inr (inl is))
  of-output c (inr is) = inr (inr (inr (inl is)))

  of-printer : (c : Cause) → (c ≡ cause.PrintFault) ⊎ (c ≡ cause.NoMemory) → IsFaultOfSix c
  of-printer c (inl is) = inr (inr (inr (inr (inl is))))
  of-printer c (inr is) = inr (inr (inr (inr (inr is))))

  pub fault-of-six : (c : Cause) → EndedWith outcomes c → IsFaultOfSix c
  fault-of-six c (inl at) = of-card c (faults.card c at)
  fault-of-six c (inr (inl at)) = inr (inr (inl (faults.input c at)))
  fault-of-six c (inr (inr (inl at))) = of-job c (faults.job_a c at)
  fault-of-six c (inr (inr (inr (inl at)))) = of-job c (faults.job_b c at)
  fault-of-six c (inr (inr (inr (inr (inl at))))) = of-output c (faults.output c at)
  fault-of-six c (inr (inr (inr (inr (inr (inl at)))))) = of-printer c (faults.printer c at)
  fault-of-six c (inr (inr (inr (inr (inr (inr at)))))) = absurd at

  pub read-in : EndedWith outcomes cause.ReadFault → outcomes.card ≡ outcome.Fault cause.ReadFault
  read-in (inl at) = at
  read-in (inr (inl at)) = absurd (let no : cause.ReadFault ≡ cause.DiskFault = faults.input cause.ReadFault at in cc)
  read-in (inr (inr (inl at))) = absurd (neither (λ e. cc) (neither (λ d. d) (λ e. cc)) (faults.job_a cause.ReadFault at))
  read-in (inr (inr (inr (inl at)))) = absurd (neither (λ e. cc) (neither (λ d. d) (λ e. cc)) (faults.job_b cause.ReadFault at))
  read-in (inr (inr (inr (inr (inl at))))) = absurd (neither (λ e. cc) (λ d. d) (faults.output cause.ReadFault at))
  read-in (inr (inr (inr (inr (inr (inl at)))))) = absurd (neither (λ e. cc) (λ e. cc) (faults.printer cause.ReadFault at))
  read-in (inr (inr (inr (inr (inr (inr at)))))) = absurd at

  pub limit-in : EndedWith outcomes cause.DeckLimit → outcomes.card ≡ outcome.Fault cause.DeckLimit
  limit-in (inl at) = at
  limit-in (inr (inl at)) = absurd (let no : cause.DeckLimit ≡ cause.DiskFault = faults.input cause.DeckLimit at in cc)
  limit-in (inr (inr (inl at))) = absurd (neither (λ e. cc) (neither (λ d. d) (λ e. cc)) (faults.job_a cause.DeckLimit at))
  limit-in (inr (inr (inr (inl at)))) = absurd (neither (λ e. cc) (neither (λ d. d) (λ e. cc)) (faults.job_b cause.DeckLimit at))
  limit-in (inr (inr (inr (inr (inl at))))) = absurd (neither (λ e. cc) (λ d. d) (faults.output cause.DeckLimit at))
  limit-in (inr (inr (inr (inr (inr (inl at)))))) = absurd (neither (λ e. cc) (λ e. cc) (faults.printer cause.DeckLimit at))
  limit-in (inr (inr (inr (inr (inr (inr at)))))) = absurd at

  pub print-in : EndedWith outcomes cause.PrintFault → outcomes.printer ≡ outcome.Fault cause.PrintFault
  print-in (inl at) = absurd (neither (λ e. cc) (λ e. cc) (faults.card cause.PrintFault at))
  print-in (inr (inl at)) = absurd (let no : cause.PrintFault ≡ cause.DiskFault = faults.input cause.PrintFault at in cc)
  print-in (inr (inr (inl at))) = absurd (neither (λ e. cc) (neither (λ d. d) (λ e. cc)) (faults.job_a cause.PrintFault at))
  print-in (inr (inr (inr (inl at)))) = absurd (neither (λ e. cc) (neither (λ d. d) (λ e. cc)) (faults.job_b cause.PrintFault at))
  print-in (inr (inr (inr (inr (inl at))))) = absurd (neither (λ e. cc) (λ d. d) (faults.output cause.PrintFault at))
  print-in (inr (inr (inr (inr (inr (inl at)))))) = at
  print-in (inr (inr (inr (inr (inr (inr at)))))) = absurd at

  pub numbers-in : (c : Cause) → EndedWith outcomes c → TellsWhere c
  numbers-in c at = (let one = ended-at outcomes c at in faults.numbers one.0 c one.1 one.2)

damaged-high : (c : Cause) → IsDamaged c → 8 ≤ number_of c
damaged-high cause.Usage is = absurd is
damaged-high cause.ReadFault is = absurd is
damaged-high cause.DiskFault is = absurd is
damaged-high cause.PrintFault is = absurd is
damaged-high cause.ConsoleFault is = absurd is
damaged-high cause.DeckLimit is = absurd is
damaged-high (cause.NotSolo page) is = absurd is
damaged-high (cause.Damaged expected found at) is = omega arith
damaged-high cause.NoMemory is = absurd is

-- ---- each is a cause of a run, and none names a page of the files
damaged-known : (c : Cause) → IsDamaged c → IsTwinCause c
damaged-known cause.Usage is = absurd is
damaged-known cause.ReadFault is = tt
damaged-known cause.DiskFault is = tt
damaged-known cause.PrintFault is = tt
damaged-known cause.ConsoleFault is = absurd is
damaged-known cause.DeckLimit is = tt
damaged-known (cause.NotSolo page) is = tt
damaged-known (cause.Damaged expected found at) is = tt
damaged-known cause.NoMemory is = tt

pub known-of : (c : Cause) → IsFaultOfSix c → IsTwinCause c
known-of c (inl is) = subst IsTwinCause (sym is) tt
known-of c (inr (inl is)) = subst IsTwinCause (sym is) tt
known-of c (inr (inr (inl is))) = subst IsTwinCause (sym is) tt
known-of c (inr (inr (inr (inl is)))) = damaged-known c is
known-of c (inr (inr (inr (inr (inl is))))) = subst IsTwinCause (sym is) tt
known-of c (inr (inr (inr (inr (inr is))))) = subst IsTwinCause (sym is) tt

pub no-page : (page : ℕ) → IsFaultOfSix (cause.NotSolo page) → ⊥
no-page page (inl is) = cc
no-page page (inr (inl is)) = cc
no-page page (inr (inr (inl is))) = cc
no-page page (inr (inr (inr (inl is)))) = is
no-page page (inr (inr (inr (inr (inl is))))) = cc
no-page page (inr (inr (inr (inr (inr is))))) = cc

-- ---- with a number of at most 6 it is one of four
pub low-fault : (c : Cause) → IsFaultOfSix c → number_of c ≤ 6
    → (c ≡ cause.ReadFault) ⊎ ((c ≡ cause.DiskFault) ⊎ ((c ≡ cause.PrintFault) ⊎ (c ≡ cause.DeckLimit)))
low-fault c (inl is) low = inl is
low-fault c (inr (inl is)) low = inr (inr (inr is))
low-fault c (inr (inr (inl is))) low = inr (inl is)
low-fault c (inr (inr (inr (inl is)))) low = absurd (let high = damaged-high c is in omega (arith, low, high))
low-fault c (inr (inr (inr (inr (inl is))))) low = inr (inr (inl is))
low-fault c (inr (inr (inr (inr (inr is))))) low = absurd (let nine : number_of c ≡ 9 = ap number_of is in omega (arith, low, nine))

-- with number 8 it is a damaged page
pub eight-is : (c : Cause) → number_of c ≡ 8 → IsDamaged c
eight-is cause.Usage is = absurd (omega (arith, is))
eight-is cause.ReadFault is = absurd (omega (arith, is))
eight-is cause.DiskFault is = absurd (omega (arith, is))
eight-is cause.PrintFault is = absurd (omega (arith, is))
eight-is cause.ConsoleFault is = absurd (omega (arith, is))
eight-is cause.DeckLimit is = absurd (omega (arith, is))
eight-is (cause.NotSolo page) is = absurd (omega (arith, is))
eight-is (cause.Damaged expected found at) is = tt
eight-is cause.NoMemory is = absurd (omega (arith, is))
