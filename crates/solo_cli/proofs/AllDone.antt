-- Where no cause decides, all five did their work; and whose fault the deciding cause is.
use Rattle.std.proofs.Common.{◌≡◌, ◌⊎◌, inl, inr, ℕ, List, Option, None, refl, subst, arith}
use Rattle.solo_base.specs.declared.outcome.Cause.{Cause}
use Rattle.solo_base.specs.declared.outcome.Cause.TheVariants as cause
use Rattle.solo_base.specs.declared.outcome.Outcome.{Outcome}
use Rattle.solo_base.specs.declared.outcome.Outcome.TheVariants as outcome
use Rattle.solo_base.specs.declared.outcome.Side.{Side}
use Rattle.batch_procs.specs.Faults.{IsDamaged}
use Rattle.core_law.specs.Ends.{IsProcess}
use Rattle.batch_ends.specs.declared.ends.Outcomes.{Outcomes}
use Rattle.batch_ends.specs.Ended.{outcome_at, all_done, EndTogether, FaultsAre, NoneDamaged, TellsWhere}
use Rattle.core_law.proofs.Row.{each-process}
use Rattle.run_report.specs.Decides.{IsIn, decides}
use Rattle.solo_cli.specs.Decides.{list_of}
use Rattle.run_report.proofs.Lowest.{no-fault}

-- the outcome of each process is one of the list
is-in : (outcomes : Outcomes) (p : ℕ) → IsProcess p → IsIn (outcome_at outcomes p) (list_of outcomes)
is-in outcomes p one = each-process (λ p. IsIn (outcome_at outcomes p) (list_of outcomes)) p one
    (inl refl) (inr (inl refl)) (inr (inr (inl refl))) (inr (inr (inr (inl refl)))) (inr (inr (inr (inr (inl refl)))))

done-or : (o : Outcome) → ((c : Cause) → o ≡ outcome.Fault c → ⊥) → (o ≡ outcome.Stopped → ⊥) → o ≡ outcome.Done
done-or outcome.Done faulty stopped = refl
done-or (outcome.Fault c) faulty stopped = absurd (faulty c refl)
done-or outcome.Stopped faulty stopped = absurd (stopped refl)

all-five : (a b c d e : Outcome) → a ≡ outcome.Done → b ≡ outcome.Done → c ≡ outcome.Done → d ≡ outcome.Done → e ≡ outcome.Done
    → record { card = a; input = b; job = c; output = d; printer = e } ≡ all_done
all-five a b c d e one two three four five = cc

module _ (outcomes : Outcomes) (stops : List (Option Side)) (together : EndTogether outcomes stops)
    (none : decides (list_of outcomes) ≡ None) where
  no-fault-at : (p : ℕ) → IsProcess p → (c : Cause) → outcome_at outcomes p ≡ outcome.Fault c → ⊥
  no-fault-at p one c is = no-fault (list_of outcomes) none c (subst (λ o. IsIn o (list_of outcomes)) is (is-in outcomes p one))

  done-at : (p : ℕ) → IsProcess p → outcome_at outcomes p ≡ outcome.Done
  done-at p one = done-or (outcome_at outcomes p) (no-fault-at p one) (λ stopped.
      let fault : _ = (together.stopped p one stopped).1 in no-fault-at fault.process fault.one fault.cause fault.is)

  pub all-done : outcomes ≡ all_done
  all-done = all-five outcomes.card outcomes.input outcomes.job outcomes.output outcomes.printer
      (done-at 1 (omega arith, omega arith)) (done-at 2 (omega arith, omega arith)) (done-at 3 (omega arith, omega arith))
      (done-at 4 (omega arith, omega arith)) (done-at 5 (omega arith, omega arith))

neither : {A B : Type 0} → (A → ⊥) → (B → ⊥) → A ⊎ B → ⊥
neither first second (inl a) = first a
neither first second (inr b) = second b

-- ---- whose fault the deciding cause is
module _ (outcomes : Outcomes) (faults : FaultsAre outcomes) where
  pub read-in : IsIn (outcome.Fault cause.ReadFault) (list_of outcomes) → outcomes.card ≡ outcome.Fault cause.ReadFault
  read-in (inl at) = at
  read-in (inr (inl at)) = absurd (let no : cause.ReadFault ≡ cause.DiskFault = faults.input cause.ReadFault at in cc)
  read-in (inr (inr (inl at))) = absurd (neither (λ e. cc) (neither (λ d. d) (λ e. cc)) (faults.job cause.ReadFault at))
  read-in (inr (inr (inr (inl at)))) = absurd (neither (λ e. cc) (λ d. d) (faults.output cause.ReadFault at))
  read-in (inr (inr (inr (inr (inl at))))) = absurd (neither (λ e. cc) (λ e. cc) (faults.printer cause.ReadFault at))
  read-in (inr (inr (inr (inr (inr at))))) = absurd at

  pub limit-in : IsIn (outcome.Fault cause.DeckLimit) (list_of outcomes) → outcomes.card ≡ outcome.Fault cause.DeckLimit
  limit-in (inl at) = at
  limit-in (inr (inl at)) = absurd (let no : cause.DeckLimit ≡ cause.DiskFault = faults.input cause.DeckLimit at in cc)
  limit-in (inr (inr (inl at))) = absurd (neither (λ e. cc) (neither (λ d. d) (λ e. cc)) (faults.job cause.DeckLimit at))
  limit-in (inr (inr (inr (inl at)))) = absurd (neither (λ e. cc) (λ d. d) (faults.output cause.DeckLimit at))
  limit-in (inr (inr (inr (inr (inl at))))) = absurd (neither (λ e. cc) (λ e. cc) (faults.printer cause.DeckLimit at))
  limit-in (inr (inr (inr (inr (inr at))))) = absurd at

  pub print-in : IsIn (outcome.Fault cause.PrintFault) (list_of outcomes) → outcomes.printer ≡ outcome.Fault cause.PrintFault
  print-in (inl at) = absurd (neither (λ e. cc) (λ e. cc) (faults.card cause.PrintFault at))
  print-in (inr (inl at)) = absurd (let no : cause.PrintFault ≡ cause.DiskFault = faults.input cause.PrintFault at in cc)
  print-in (inr (inr (inl at))) = absurd (neither (λ e. cc) (neither (λ d. d) (λ e. cc)) (faults.job cause.PrintFault at))
  print-in (inr (inr (inr (inl at)))) = absurd (neither (λ e. cc) (λ d. d) (faults.output cause.PrintFault at))
  print-in (inr (inr (inr (inr (inl at))))) = at
  print-in (inr (inr (inr (inr (inr at))))) = absurd at

  pub disk-in : IsIn (outcome.Fault cause.DiskFault) (list_of outcomes) → (outcomes.input ≡ outcome.Fault cause.DiskFault)
      ⊎ ((outcomes.job ≡ outcome.Fault cause.DiskFault) ⊎ (outcomes.output ≡ outcome.Fault cause.DiskFault))
  disk-in (inl at) = absurd (neither (λ e. cc) (λ e. cc) (faults.card cause.DiskFault at))
  disk-in (inr (inl at)) = inl at
  disk-in (inr (inr (inl at))) = inr (inl at)
  disk-in (inr (inr (inr (inl at)))) = inr (inr at)
  disk-in (inr (inr (inr (inr (inl at))))) = absurd (neither (λ e. cc) (λ e. cc) (faults.printer cause.DiskFault at))
  disk-in (inr (inr (inr (inr (inr at))))) = absurd at

-- where no process met a damaged page none decides
module _ (outcomes : Outcomes) (none : NoneDamaged outcomes) (c : Cause) (damaged : IsDamaged c) where
  pub in-none : IsIn (outcome.Fault c) (list_of outcomes) → ⊥
  in-none (inl at) = none 1 c (omega arith, omega arith) at damaged
  in-none (inr (inl at)) = none 2 c (omega arith, omega arith) at damaged
  in-none (inr (inr (inl at))) = none 3 c (omega arith, omega arith) at damaged
  in-none (inr (inr (inr (inl at)))) = none 4 c (omega arith, omega arith) at damaged
  in-none (inr (inr (inr (inr (inl at))))) = none 5 c (omega arith, omega arith) at damaged
  in-none (inr (inr (inr (inr (inr at))))) = at

-- the numbers of a fault of one of them agree
pub numbers-in : (outcomes : Outcomes) → FaultsAre outcomes → (c : Cause) → IsIn (outcome.Fault c) (list_of outcomes) → TellsWhere c
numbers-in outcomes faults c (inl at) = faults.numbers 1 c (omega arith, omega arith) at
numbers-in outcomes faults c (inr (inl at)) = faults.numbers 2 c (omega arith, omega arith) at
numbers-in outcomes faults c (inr (inr (inl at))) = faults.numbers 3 c (omega arith, omega arith) at
numbers-in outcomes faults c (inr (inr (inr (inl at)))) = faults.numbers 4 c (omega arith, omega arith) at
numbers-in outcomes faults c (inr (inr (inr (inr (inl at))))) = faults.numbers 5 c (omega arith, omega arith) at
numbers-in outcomes faults c (inr (inr (inr (inr (inr at))))) = absurd at
