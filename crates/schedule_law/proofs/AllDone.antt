-- Where no device counted a failure and no memory was refused, all five ended with their work done.
use Rattle.std.proofs.Common.{◌≡◌, inl, inr, ℕ, List, Option, Some, refl, ◌∙◌, ap, subst, arith, lit≤}
use Rattle.solo_base.specs.declared.item.Item.{Item}
use Rattle.solo_base.specs.declared.outcome.Side.{Side}
use Rattle.solo_base.specs.declared.outcome.Outcome.{Outcome}
use Rattle.solo_base.specs.declared.outcome.Outcome.TheVariants as outcome
use Rattle.solo_base.specs.declared.outcome.Cause.{Cause}
use Rattle.solo_base.specs.declared.outcome.Cause.TheVariants as cause
use Rattle.solo_devices.specs.Count.{Rose, Stayed}
use Rattle.batch_procs.specs.declared.actions.Action.{Action}
use Rattle.batch_procs.specs.declared.actions.Action.TheVariants as act
use Rattle.batch_procs.specs.Faults.{IsDamaged}
use Rattle.batch_procs.specs.History.{newest}
use Rattle.core_law.specs.Core.{CoreState}
use Rattle.core_law.specs.Ends.{IsProcess, HasEndedSo, AllDone}
use Rattle.core_law.specs.Holds.{AreTold}
use Rattle.core_law.specs.Opening.{Spools, opened}
use Rattle.core_law.proofs.Ends.{the-five}
use Rattle.core_law.proofs.Reached.{Centre, all-told, told-is, hands-over}
use Rattle.core_law.proofs.Row.{each-process}
use Rattle.core_law.proofs.Together.{ends-together}
use Rattle.core_law.proofs.Undamaged.{have-causes, undamaged}
use Rattle.net_core.specs.Ended.{EndsSo}
use Rattle.schedule_law.specs.NoneCounted.{NoneCounted, NoneLacked}
use Rattle.batch_procs.specs.Jobs.{Jobs, AreJobs, FilesAs}
use Rattle.batch_ends.specs.Causes.{Counts}
use Rattle.batch_ends.specs.Ended.{outcome_at, all_done}
use Rattle.batch_ends.specs.Faults.{AreCounted}
use Rattle.batch_ends.specs.declared.ends.Outcomes.{Outcomes}
use Rattle.batch_ends.specs.declared.units.Units.{Units}

stays-not : (before now : ℕ) → Rose before now → Stayed before now → ⊥
stays-not before now rose stayed = omega (arith, rose, stayed)

same-end : (last : Option Action) (a b : Outcome) → last ≡ Some (act.Ended a) → last ≡ Some (act.Ended b) → a ≡ b
same-end last a b first second = cc

module _ {L : Type 0} {J : Jobs L} (jobs : AreJobs J) where
  -- the outcomes of a state are those that it ends with
  pub done-so : (s : CoreState L) (outcomes : Outcomes) (stops : List (Option Side)) → EndsSo s outcomes stops → outcomes ≡ all_done → AllDone s
  done-so s outcomes stops ends are p one =
      let done : outcome_at all_done p ≡ outcome.Done = each-process (λ p. outcome_at all_done p ≡ outcome.Done) p one refl refl refl refl refl in
      subst (λ how. HasEndedSo s how p) (ap (λ all. outcome_at all p) are ∙ done) (ends.ended p one)

  module _ (spools : Spools) (deck : Option (List Item)) (paper : Option (List ℕ)) (files : Option (FilesAs L)) (are : AreTold spools)
      (s : CoreState L) (c : Centre jobs (opened spools deck paper files) s)
      {S K F A B : Type 0} (counts : Counts S K F A B) (before now : Units S K F A B) (outcomes : Outcomes) (stops : List (Option Side))
      (ends : EndsSo s outcomes stops) (counted : AreCounted counts before now outcomes) (none : NoneCounted counts before now)
      (lacked : NoneLacked outcomes) where
    abbrev opening : CoreState L
    opening = opened spools deck paper files

    whole : (p : ℕ) (x : Cause) → IsProcess p → outcome_at outcomes p ≡ outcome.Fault x → IsDamaged x → ⊥
    whole p x one e =
        undamaged jobs opening s c.stands (hands-over jobs opening s c.stands
        (λ b at. told-is jobs spools b (all-told jobs spools are b at))) p x one
        (subst (λ how. HasEndedSo s how p) e (ends.ended p one))

    ended-so : (p : ℕ) (x : Cause) → IsProcess p → outcome_at outcomes p ≡ outcome.Fault x → HasEndedSo s (outcome.Fault x) p
    ended-so p x one e = subst (λ how. HasEndedSo s how p) e (ends.ended p one)

    abbrev NoFault : ℕ → Type 0
    NoFault p = (x : Cause) → outcome_at outcomes p ≡ outcome.Fault x → ⊥

    card-none : NoFault 1
    card-none x e =
        elim ((have-causes jobs opening s c.stands).card x (ended-so 1 x (lit≤ tt, lit≤ tt) e)) as (λ _. ⊥) [
          | inl is ↦ stays-not _ _ (counted.read (e ∙ ap outcome.Fault is)) none.read
          | inr is ↦ (let over = counted.limit (e ∙ ap outcome.Fault is) in let within = none.within in omega (arith, over, within))
        ]

    input-none : NoFault 2
    input-none x e =
        let is = (have-causes jobs opening s c.stands).input x (ended-so 2 x (lit≤ tt, lit≤ tt) e) in
        stays-not _ _ (counted.input (e ∙ ap outcome.Fault is)) none.input

    job-disk : outcomes.job ≡ outcome.Fault cause.DiskFault → ⊥
    job-disk e =
        elim (counted.job e) as (λ _. ⊥) [
          | inl rose ↦ stays-not _ _ rose none.input
          | inr (inl rose) ↦ stays-not _ _ rose none.output
          | inr (inr rose) ↦ stays-not _ _ rose none.files
        ]

    job-none : NoFault 3
    job-none x e =
        elim ((have-causes jobs opening s c.stands).job x (ended-so 3 x (lit≤ tt, lit≤ tt) e)) as (λ _. ⊥) [
          | inl is ↦ job-disk (e ∙ ap outcome.Fault is)
          | inr (inl is) ↦ whole 3 x (lit≤ tt, lit≤ tt) e is
          | inr (inr is) ↦ lacked 3 (lit≤ tt, lit≤ tt) (e ∙ ap outcome.Fault is)
        ]

    output-none : NoFault 4
    output-none x e =
        elim ((have-causes jobs opening s c.stands).output x (ended-so 4 x (lit≤ tt, lit≤ tt) e)) as (λ _. ⊥) [
          | inl is ↦ stays-not _ _ (counted.output (e ∙ ap outcome.Fault is)) none.output
          | inr is ↦ whole 4 x (lit≤ tt, lit≤ tt) e is
        ]

    printer-none : NoFault 5
    printer-none x e =
        elim ((have-causes jobs opening s c.stands).printer x (ended-so 5 x (lit≤ tt, lit≤ tt) e)) as (λ _. ⊥) [
          | inl is ↦ stays-not _ _ (counted.print (e ∙ ap outcome.Fault is)) none.print
          | inr is ↦ lacked 5 (lit≤ tt, lit≤ tt) (e ∙ ap outcome.Fault is)
        ]

    no-fault : (p : ℕ) → IsProcess p → NoFault p
    no-fault p one = each-process NoFault p one card-none input-none job-none output-none printer-none

    none-stopped : (p : ℕ) → IsProcess p → HasEndedSo s outcome.Stopped p → ⊥
    none-stopped p one e =
        let (told, found) = (ends-together jobs (the-five jobs) opening s c.stands).stopped
        (λ q is. (outcome_at outcomes q, ends.ended q is)) p one e in
        let (q, x, is, fault) = found in
        no-fault q is x (same-end (newest (s.histories q)) (outcome_at outcomes q) (outcome.Fault x) (ends.ended q is) fault)

    done-by : (p : ℕ) (how : Outcome) → IsProcess p → outcome_at outcomes p ≡ how → HasEndedSo s how p → HasEndedSo s outcome.Done p
    done-by p outcome.Done one e so = so
    done-by p outcome.Stopped one e so = absurd (none-stopped p one so)
    done-by p (outcome.Fault x) one e so = absurd (no-fault p one x e)

    pub all-done : AllDone s
    all-done p one = done-by p (outcome_at outcomes p) one refl (ends.ended p one)
