-- What holds behind the end of a process, from its history alone.
use Rattle.std.proofs.Common.{◌≡◌, ℕ, Bool, true, false, ◌||◌, List, [], ◌∷◌, ◌++◌, Option, None, Some, refl, sym, ◌∙◌, ap, subst}
use Rattle.std.proofs.lemmas.List.{append-nil}
use Rattle.std.specs.List.{AllByRecursion}
use Rattle.solo_base.specs.declared.outcome.Outcome.{Outcome}
use Rattle.solo_base.specs.declared.outcome.Outcome.TheVariants as outcome
use Rattle.batch_procs.specs.Jobs.{Jobs}
use Rattle.batch_procs.specs.declared.actions.Action.{Action}
use Rattle.batch_procs.specs.declared.actions.Action.TheVariants as act
use Rattle.batch_procs.specs.declared.actions.Reply.{Reply}
use Rattle.batch_procs.specs.declared.actions.Reply.TheVariants as reply
use Rattle.batch_procs.specs.Parcels.{Parcel, is_last, is_ended, NothingBehind}
use Rattle.batch_procs.specs.History.{Entry, Does, LacksMemory, Delays, taken, taken_by, sent, has_stopped, newest}
use Rattle.batch_procs.specs.Causes.{given_cause, or_new, caused}
use Rattle.batch_procs.specs.Fits.{Fits, MayLack}
use Rattle.batch_procs.specs.Process.{Process, closes, next_by, Follows}
use Rattle.batch_procs.specs.Laws.{IsRelay, IsNotDone, EndsRightly}
use Rattle.batch_procs.specs.Parts.{some-same}
use Rattle.batch_procs.proofs.Relay.{closing-next}
use Rattle.batch_procs.proofs.Closing.{ends-next, caused-not_done, closes-end}

or-nothing : (old new : Option Outcome) → old ≡ None → new ≡ None → or_new old new ≡ None
or-nothing None new is also = also
or-nothing (Some how) new is also = is

module _ {L : Type 0} (J : Jobs L) where
  stopped-same : (buffers : List ℕ) (how : Outcome) (r : Reply L) (h : List (Entry L)) → AllByRecursion (λ b. has_stopped b h ≡ true) buffers
      → AllByRecursion (λ b. has_stopped b (Does (act.Ended how) r ∷ h) ≡ true) buffers
  stopped-same [] how r h all = tt
  stopped-same (b ∷ later) how r h all = (all.0, stopped-same later how r h all.1)

  ends-entry : (p : Process L) (how : Outcome) (r : Reply L) (h : List (Entry L)) → r ≡ reply.Done → EndsRightly p h how
      → EndsRightly p (Does (act.Ended how) r ∷ h) how
  ends-entry p how r h is e =
      let taken-is : taken h ++ taken_by r ≡ taken h = ap (λ r. taken h ++ taken_by r) is ∙ append-nil (taken h) in
      record {
        done = λ done. (append-nil (sent h) ∙ (e.done done).0 ∙ ap p.sends (sym taken-is), ap is_ended taken-is ∙ (e.done done).1);
        otherwise = λ not. stopped-same p.buffers how r h (e.otherwise not);
      }

  stopped-delay : (buffers : List ℕ) (a : Action) (h : List (Entry L)) → AllByRecursion (λ b. has_stopped b h ≡ true) buffers
      → AllByRecursion (λ b. has_stopped b (Delays a ∷ h) ≡ true) buffers
  stopped-delay [] a h all = tt
  stopped-delay (b ∷ later) a h all = (all.0, stopped-delay later a h all.1)

  ends-fit : (how : Outcome) (r : Reply L) → Fits J (act.Ended how) r → r ≡ reply.Done
  ends-fit how reply.Done fits = refl
  ends-fit how other fits = absurd fits

  lacks-no_end : (a : Action) (r : Reply L) (how : Outcome) → MayLack a r → a ≡ act.Ended how → ⊥
  lacks-no_end a r how lacks is = subst (λ a. MayLack a r) is lacks

  -- Who ended with its work done sent all that it should, and took the last; any other stopped its buffers.
  pub ended-rightly : (p : Process L) (h : List (Entry L)) (how : Outcome) → IsRelay p → Follows J p h → newest h ≡ Some (act.Ended how) → EndsRightly p h how
  ended-rightly p [] how relay follows e = absurd cc
  ended-rightly p (Does a r ∷ h) how relay follows e =
      let same = some-same a (act.Ended how) e in
      subst (λ a. EndsRightly p (Does a r ∷ h) how) (sym same)
      (ends-entry p how r h (ends-fit how r (subst (λ a. Fits J a r) same follows.1)) (ends-next J p h how relay follows.2 (follows.0 ∙ e)))
  ended-rightly p (LacksMemory a r ∷ h) how relay follows e = absurd (lacks-no_end a r how follows.1.1 (some-same a (act.Ended how) e))
  ended-rightly p (Delays a ∷ h) how relay follows e =
      let before = ended-rightly p h how relay follows.2 e in
      record { done = before.done; otherwise = λ not. stopped-delay p.buffers a h (before.otherwise not) }

  -- Then nothing went wrong.
  done-by : (p : Process L) (cause : Option Outcome) (h : List (Entry L)) → IsNotDone cause → next_by p cause h ≡ Some (act.Ended outcome.Done) → cause ≡ None
  done-by p None h not next = refl
  done-by p (Some how) h not next =
      let all = closes-end J p.buffers how outcome.Done h (closing-next (newest h) (closes p.buffers how h) (act.Ended outcome.Done) next) in
      absurd (subst (λ o. IsNotDone (Some o)) (sym all.same) not)

  pub done-free : (p : Process L) (h : List (Entry L)) → Follows J p h → newest h ≡ Some (act.Ended outcome.Done) → caused h ≡ None
  done-free p [] follows e = refl
  done-free p (Does a r ∷ h) follows e =
      let is = ends-fit outcome.Done r (subst (λ a. Fits J a r) (some-same a (act.Ended outcome.Done) e) follows.1) in
      or-nothing (caused h) (given_cause a r h) (done-by p (caused h) h (caused-not_done J h) (follows.0 ∙ e)) (ap (λ r. given_cause a r h) is)
  done-free p (LacksMemory a r ∷ h) follows e = absurd (lacks-no_end a r outcome.Done follows.1.1 (some-same a (act.Ended outcome.Done) e))
  done-free p (Delays a ∷ h) follows e = done-free p h follows.2 e

  -- ---- nothing is left behind the last
  append-nothing : (tk inside : List (Parcel L)) → tk ++ inside ≡ [] → inside ≡ []
  append-nothing [] inside e = e
  append-nothing (x ∷ tk) inside e = absurd cc

  pub nothing-left : (tk inside : List (Parcel L)) → NothingBehind (tk ++ inside) → is_ended tk ≡ true → inside ≡ []
  nothing-left [] inside stream e = absurd cc
  nothing-left (x ∷ tk) inside stream e =
      let P : Bool → Type 0 = λ t. is_last x ≡ t → (t || is_ended tk) ≡ true → inside ≡ [] in
      elim (is_last x) as P [
        | true ↦ (λ last e. append-nothing tk inside (stream.0 last))
        | false ↦ (λ last e. nothing-left tk inside stream.1 e)
      ] refl e
