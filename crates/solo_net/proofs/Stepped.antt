-- Which machine steps, by the number of the process.
use Rattle.std.proofs.Common.{◌≡◌, ℕ, true, false, List, Option, Some, refl, sym, ◌∙◌, ap, subst}
use Rattle.network_run.specs.declared.stepped.Stepped.{Stepped as SteppedOf}
use Rattle.network_run.specs.Law.{Placed}
use Rattle.network_run.specs.Law as law
use Rattle.network_law.specs.Stepping.{MayGo}
use Rattle.place_law.specs.Process.{next_action}
use Rattle.solo_law.specs.Work.{Work}
use Rattle.solo_law.specs.Actions.{Action}
use Rattle.solo_law.specs.Actions as act
use Rattle.solo_law.specs.Replies.{view}
use Rattle.solo_law.specs.Solo.{process, solo, SoloState, SoloEntry, the_law}
use Rattle.solo_procs.specs.declared.actions.SoloAction.{SoloAction}
use Rattle.solo_procs.specs.Said.{said}
use Rattle.solo_law.proofs.Placed.{is-1, is-3}
use Rattle.solo_procs.specs.declared.input_proc.InputProc.{InputProc}
use Rattle.solo_procs.specs.declared.output_proc.OutputProc.{OutputProc}
use Rattle.solo_procs.specs.declared.machine.Machine.{Machine}
use Rattle.solo_procs.specs.Machine.{StandsFor, SaysNext}
use Rattle.solo_net.specs.declared.net.SoloNet.{SoloNet}
use Rattle.solo_net.specs.declared.shared.Shared.{Shared}
use Rattle.solo_net.specs.Actions.{IsNoWork, is_work}
use Rattle.solo_net.specs.Telling.{Tells}
use Rattle.solo_net.specs.Steps.{MayStep, Steps}
use Rattle.solo_net.specs.Net.{CommandsOf, input_at, output_at, SoloNetStands, MovesSo}
use Rattle.solo_net.proofs.Stepping.{next-said}
use Rattle.solo_net.proofs.NetSteps.{may-now, may-own, no-work, at-input, at-output}

-- ---- whether the next action is a piece of work
pub record IsWork (a : Action) : Type 0 where
  pub work : Work
  pub is : a ≡ act.Works work

said-work : (a : Action) → is_work (said a) ≡ true → IsWork a
said-work (act.Works work) e = record { work = work; is = refl }
said-work act.Accept e = absurd cc
said-work (act.Display line) e = absurd cc
said-work act.ReadCard e = absurd cc
said-work (act.Print line) e = absurd cc
said-work (act.PutArg b x) e = absurd cc
said-work (act.TakeArg b) e = absurd cc
said-work (act.PutPage b page) e = absurd cc
said-work (act.TakePage b) e = absurd cc
said-work (act.Stop b) e = absurd cc
said-work (act.Ended how) e = absurd cc

said-no_work : (a : Action) → is_work (said a) ≡ false → IsNoWork a
said-no_work (act.Works work) e = absurd cc
said-no_work act.Accept e = tt
said-no_work (act.Display line) e = tt
said-no_work act.ReadCard e = tt
said-no_work (act.Print line) e = tt
said-no_work (act.PutArg b x) e = tt
said-no_work (act.TakeArg b) e = tt
said-no_work (act.PutPage b page) e = tt
said-no_work (act.TakePage b) e = tt
said-no_work (act.Stop b) e = tt
said-no_work (act.Ended how) e = tt

pub is-work : (next : Option Action) (r : SoloAction) (a : Action) → SaysNext next r → next ≡ Some a → is_work r ≡ true → IsWork a
is-work next r a says e so = said-work a (ap is_work (next-said next r a says e) ∙ so)

pub is-no_work : (next : Option Action) (r : SoloAction) (a : Action) → SaysNext next r → next ≡ Some a → is_work r ≡ false → IsNoWork a
is-no_work next r a says e so = said-no_work a (ap is_work (next-said next r a says e) ∙ so)

-- ---- that a machine may step
module _ {C F S Y K T : Type 0} (commands : CommandsOf C F) (tells : Tells S Y K T) (net : SoloNet C S Y K T F) where
  may-step-own : (p : ℕ) (Stands : List SoloEntry → Type 0) (m : law.MayStep the_law (SoloNetStands commands tells net) p)
      → Stands (m.at.state.histories p) → IsNoWork m.may.action → MayStep (process p) Stands net.shared p
  may-step-own p Stands m stands no_work = record {
    history = m.at.state.histories p;
    action = m.may.action;
    no_work = no_work;
    stands = stands;
    next = m.may.next;
    may = may-now commands tells net m.at p m.may.action m.may.one no_work m.may.next (may-own commands tells net m.at p m.may);
  }

  pub may-step : (p q : ℕ) (Stands : List SoloEntry → Type 0) → p ≡ q → (m : law.MayStep the_law (SoloNetStands commands tells net) p)
      → Stands (m.at.state.histories q) → IsNoWork m.may.action → MayStep (process q) Stands net.shared p
  may-step p q Stands e m stands no_work =
      subst (λ q. MayStep (process q) Stands net.shared p) e
      (may-step-own p Stands m (subst (λ q. Stands (m.at.state.histories q)) (sym e) stands) no_work)

  abbrev GoesOn : SoloNet C S Y K T F → SoloState → ℕ → SteppedOf → Type 0
  GoesOn behind s p result = law.Steps the_law (SoloNetStands commands tells) (MovesSo commands tells) net behind s p result

  -- what a machine promises of each history that it stands for
  abbrev AllSteps : {P : Type 0} → (n : ℕ) → (P → (process n).Place → Type 0) → (P → (process n).Place → Type 0) → Machine P → Machine P
      → Shared S Y K T F → ℕ → SteppedOf → Type 0
  AllSteps n is_at ready old m new p result = (h : List SoloEntry) (action : Action) → IsNoWork action → StandsFor (process n) is_at ready old h
      → next_action view (process n) h ≡ Some action
      → Steps (StandsFor (process n) is_at ready m) tells net.shared new p action h result

  pub input-goes : (p : ℕ) (m : Machine InputProc) (new : Shared S Y K T F) (result : SteppedOf) → p ≡ 1
      → AllSteps 1 input_at input_at net.input m new p result → (at : Placed the_law (SoloNetStands commands tells net)) → MayGo solo at.state p
      → GoesOn (record net { input = m; shared = new }) at.state p result
  input-goes p m new result e =
      subst (λ p. AllSteps 1 input_at input_at net.input m new p result → (at : Placed the_law (SoloNetStands commands tells net)) → MayGo solo at.state p
      → GoesOn (record net { input = m; shared = new }) at.state p result) (sym e)
      (λ all at may. at-input commands tells net at m new result may
      (all (at.state.histories 1) may.action (no-work commands tells net at 1 may.action is-1 (λ e. cc) may.next) at.stands.input may.next))

  pub output-goes : (p : ℕ) (m : Machine OutputProc) (new : Shared S Y K T F) (result : SteppedOf) → p ≡ 3
      → AllSteps 3 output_at output_at net.output m new p result → (at : Placed the_law (SoloNetStands commands tells net)) → MayGo solo at.state p
      → GoesOn (record net { output = m; shared = new }) at.state p result
  output-goes p m new result e =
      subst (λ p. AllSteps 3 output_at output_at net.output m new p result → (at : Placed the_law (SoloNetStands commands tells net)) → MayGo solo at.state p
      → GoesOn (record net { output = m; shared = new }) at.state p result) (sym e)
      (λ all at may. at-output commands tells net at m new result may
      (all (at.state.histories 3) may.action (no-work commands tells net at 3 may.action is-3 (λ e. cc) may.next) at.stands.output may.next))

  pub job-goes : (p : ℕ) (behind : SoloNet C S Y K T F) (result : SteppedOf) → p ≡ 2
      → ((at : Placed the_law (SoloNetStands commands tells net)) → MayGo solo at.state 2 → GoesOn behind at.state 2 result)
      → (at : Placed the_law (SoloNetStands commands tells net)) → MayGo solo at.state p → GoesOn behind at.state p result
  job-goes p behind result e all =
      subst (λ p. (at : Placed the_law (SoloNetStands commands tells net)) → MayGo solo at.state p → GoesOn behind at.state p result) (sym e) all

  pub may-two : (p : ℕ) → p ≡ 2 → law.MayStep the_law (SoloNetStands commands tells net) p → law.MayStep the_law (SoloNetStands commands tells net) 2
  may-two p e may = subst (law.MayStep the_law (SoloNetStands commands tells net)) e may

  no-work-at : (p n : ℕ) → p ≡ n → (n ≡ 2 → ⊥) → (m : law.MayStep the_law (SoloNetStands commands tells net) p) → IsNoWork m.may.action
  no-work-at p n e not m =
      no-work commands tells net m.at p m.may.action m.may.one (λ two. not (sym e ∙ two)) m.may.next

  pub no-work-one : (p : ℕ) → p ≡ 1 → (m : law.MayStep the_law (SoloNetStands commands tells net) p) → IsNoWork m.may.action
  no-work-one p e m = no-work-at p 1 e (λ two. cc) m

  pub no-work-three : (p : ℕ) → p ≡ 3 → (m : law.MayStep the_law (SoloNetStands commands tells net) p) → IsNoWork m.may.action
  no-work-three p e m = no-work-at p 3 e (λ two. cc) m
