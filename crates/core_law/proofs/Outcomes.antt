-- How one process ends is its cause.
use Rattle.std.proofs.Common.{◌≡◌, ◌⊎◌, inl, inr, List, [], ◌∷◌, Option, None, Some, refl, sym, ◌∙◌, ap, subst}
use Rattle.solo_base.specs.declared.outcome.Outcome.{Outcome}
use Rattle.solo_base.specs.declared.outcome.Outcome.TheVariants as outcome
use Rattle.batch_procs.specs.declared.actions.Action.{Action}
use Rattle.batch_procs.specs.declared.actions.Action.TheVariants as act
use Rattle.batch_procs.specs.declared.actions.Reply.{Reply}
use Rattle.batch_procs.specs.declared.actions.Reply.TheVariants as reply
use Rattle.batch_procs.specs.Parcels.{is_ended}
use Rattle.batch_procs.specs.History.{Entry, Does, LacksMemory, Delays, taken, newest}
use Rattle.batch_procs.specs.Fits.{Fits, MayLack}
use Rattle.batch_procs.specs.Causes.{caused, or_new, given_cause}
use Rattle.batch_procs.specs.Process.{Process, Follows, next_by, closes, due, unworked}
use Rattle.batch_procs.specs.Laws.{IsRelay, IsNotDone}
use Rattle.batch_procs.specs.Parts.{some-same}
use Rattle.batch_procs.proofs.Relay.{closing-next}
use Rattle.batch_procs.proofs.Closing.{aimed-end, working-end, closes-end}
use Rattle.core_law.specs.Ends.{outcome_by}
use Rattle.batch_procs.specs.Jobs.{Jobs, AreJobs}

pub stopped-cause : (cause : Option Outcome) → outcome_by cause ≡ outcome.Stopped → cause ≡ Some outcome.Stopped
stopped-cause None e = absurd cc
stopped-cause (Some how) e = ap Some e

pub any-way : (how : Outcome) → (how ≡ outcome.Done) ⊎ IsNotDone (Some how)
any-way outcome.Done = inl refl
any-way outcome.Stopped = inr tt
any-way (outcome.Fault cause) = inr tt

module _ {L : Type 0} {J : Jobs L} (jobs : AreJobs J) where
  ends-as : (p : Process L) (cause : Option Outcome) (h : List (Entry L)) (how : Outcome) → IsRelay p → next_by p cause h ≡ Some (act.Ended how)
      → outcome_by cause ≡ how
  ends-as p None h how relay next =
      let aims = working-end (newest h) _ how next in
      sym (aimed-end J p.takes (p.wants (taken h)) (due p h) (is_ended (taken h)) (unworked p h) how relay.takes aims).done
  ends-as p (Some cause) h how relay next = sym (closes-end J p.buffers cause how h (closing-next (newest h) (closes p.buffers cause h)
      (act.Ended how) next)).same

  end-reply : (how : Outcome) (r : Reply L) → Fits J (act.Ended how) r → r ≡ reply.Done
  end-reply how reply.Done fits = refl
  end-reply how r fits = absurd fits

  or-done : (old new : Option Outcome) → new ≡ None → or_new old new ≡ old
  or-done None new e = e
  or-done (Some how) new e = refl

  end-not_lacks : (a : Action) (r : Reply L) (how : Outcome) → a ≡ act.Ended how → MayLack a r → ⊥
  end-not_lacks a r how e may = subst (λ a. MayLack a r) e may

  pub ended-as : (p : Process L) (h : List (Entry L)) (how : Outcome) → IsRelay p → Follows J p h → newest h ≡ Some (act.Ended how)
      → outcome_by (caused h) ≡ how
  ended-as p [] how relay follows e = absurd cc
  ended-as p (Does a r ∷ h) how relay follows e =
      let is = end-reply how r (subst (λ a. Fits J a r) (some-same a (act.Ended how) e) follows.1) in
      ap outcome_by (or-done (caused h) (given_cause a r h) (ap (λ r. given_cause a r h) is)) ∙ ends-as p (caused h) h how relay (follows.0 ∙ e)
  ended-as p (LacksMemory a r ∷ h) how relay follows e = absurd (end-not_lacks a r how (some-same a (act.Ended how) e) follows.1.1)
  ended-as p (Delays a ∷ h) how relay follows e = ended-as p h how relay follows.2 e
