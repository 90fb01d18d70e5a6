-- A process that runs over its side of the buffers: its machine and it stand for one history, up to its end.
use Rattle.std.proofs.Common.{◌≡◌, Bool, List, [], ◌∷◌, Option, None, Some, Result, Ok, Err, refl, sym, ◌∙◌, ap, subst}
use Rattle.std.specs.Prelude.{OnOk, OnErr}
use Rattle.std.specs.List.{AllByRecursion}
use Rattle.solo_base.specs.declared.outcome.Outcome.{Outcome}
use Rattle.solo_base.specs.declared.no_memory.NoMemory.{NoMemory}
use Rattle.batch_procs.specs.declared.actions.Action.{Action}
use Rattle.batch_procs.specs.declared.actions.Action.TheVariants as act
use Rattle.batch_procs.specs.declared.actions.Reply.{Reply}
use Rattle.batch_procs.specs.declared.machine.Machine.{Machine}
use Rattle.batch_procs.specs.Parcels.{Parcel}
use Rattle.batch_procs.specs.Fits.{Fits}
use Rattle.batch_procs.specs.History.{Entry, Does, LacksMemory}
use Rattle.batch_procs.specs.Process.{Process, Follows, next_action}
use Rattle.batch_procs.specs.Machine.{StandsFor, NextIs}
use Rattle.batch_procs.specs.Laws.{HasEnded}
use Rattle.batch_procs.specs.Parts.{some-same}
use Rattle.batch_procs.proofs.Holding.{none-next}
use Rattle.batch_sides.specs.Running.{DoesOnly, Performed, IsPrompt, EndsSo, end_of}
use Rattle.batch_procs.specs.Jobs.{Jobs, AreJobs}

module _ {L : Type 0} {J : Jobs L} (jobs : AreJobs J) where
  -- Both stand for a history that has not ended.
  pub record Going {W X : Type 0} (p : Process L) (keeps : W → List (Parcel L) → List (Parcel L) → Bool → Type 0) (machine : Machine X W)
      (Stands : List (Entry L) → Type 0) : Type 0 where
    pub history : List (Entry L)
    pub machine_stands : StandsFor J p keeps machine history
    pub connected : Stands history
    pub prompt : AllByRecursion IsPrompt history
    pub goes_on : HasEnded history → ⊥

  next-here : (p : Process L) (a : Action) (h : List (Entry L)) → (HasEnded h → ⊥) → NextIs (next_action p h) a → next_action p h ≡ Some a
  next-here p a h goes_on is =
      let P : Option Action → Type 0 = λ o. next_action p h ≡ o → NextIs o a → next_action p h ≡ Some a in
      elim (next_action p h) as P [ None ↦ (λ e is. absurd (goes_on (none-next J p h e))) | Some next ↦ (λ e is. e ∙ ap Some is) ] refl is

  module _ {W X : Type 0} {p : Process L} {keeps : W → List (Parcel L) → List (Parcel L) → Bool → Type 0} {machine : Machine X W} where
    pub going-first : {Stands : List (Entry L) → Type 0} → StandsFor J p keeps machine [] → Stands [] → Going p keeps machine Stands
    going-first stands connected =
        record { history = []; machine_stands = stands; connected = connected; prompt = tt; goes_on = λ ended. (let e = ended.1 in absurd cc) }

    module _ {q : Process L} {Stands : List (Entry L) → Type 0} {a : Action} (same : q ≡ p) (going : Going p keeps machine Stands)
        (next : (h : List (Entry L)) → StandsFor J p keeps machine h → NextIs (next_action p h) a) where
      pub next-now : next_action p going.history ≡ Some a
      next-now = next-here p a going.history going.goes_on (next going.history going.machine_stands)

      pub follows-now : Follows J q going.history
      follows-now = subst (λ p. Follows J p going.history) (sym same) going.machine_stands.follows

      pub next-is : next_action q going.history ≡ Some a
      next-is = subst (λ p. next_action p going.history ≡ Some a) (sym same) next-now

      pub does-next : {does : Action → Type 0} → DoesOnly J q does → does a
      does-next only = only going.history a follows-now next-is

      -- ---- its end
      end-is : (a : Action) (how : Outcome) → end_of a ≡ Some how → a ≡ act.Ended how
      end-is (act.Ended other) how e = ap act.Ended (some-same other how e)
      end-is other how e = absurd cc

      pub ends-here : {Then : List (Entry L) → Type 0} {r : Reply L} {how : Outcome} → Performed J Then a r going.history
          → end_of a ≡ Some how → EndsSo J q Then how
      ends-here {Then} {r} {how} performed end = record {
        history = Does a r ∷ going.history;
        stands = performed.done;
        follows = (next-is, performed.fits, follows-now);
        prompt = (tt, going.prompt);
        ended = ap Some (end-is a how end);
      }

      -- ---- one action more
      not-ended : (r : Reply L) → end_of a ≡ None → HasEnded (Does a r ∷ going.history) → ⊥
      not-ended r end ended = (let is = ap end_of (some-same a (act.Ended ended.0) ended.1) in cc)

      pub going-on : {Then : List (Entry L) → Type 0} {r : Reply L} {new : Machine X W} (result : Result (Unit {0}) NoMemory)
          → Performed J Then a r going.history → end_of a ≡ None
          → OnOk result ((h : List (Entry L)) (action : Action) → StandsFor J p keeps machine h → next_action p h ≡ Some action
          → Fits J action r
          → StandsFor J p keeps new (Does action r ∷ h))
          → OnErr result ((h : List (Entry L)) (action : Action) → StandsFor J p keeps machine h → next_action p h ≡ Some action
          → Fits J action r
          → StandsFor J p keeps new (LacksMemory action r ∷ h))
          → Going p keeps new Then
      going-on {Then} {r} (Ok done) performed end ok err = record {
        history = Does a r ∷ going.history;
        machine_stands = ok going.history a going.machine_stands next-now performed.fits;
        connected = performed.done;
        prompt = (tt, going.prompt);
        goes_on = not-ended r end;
      }
      going-on {Then} {r} (Err refused) performed end ok err =
          let stands = err going.history a going.machine_stands next-now performed.fits in
          record {
            history = LacksMemory a r ∷ going.history;
            machine_stands = stands;
            connected = performed.lacks stands.follows.1.1;
            prompt = (tt, going.prompt);
            goes_on = not-ended r end;
          }
