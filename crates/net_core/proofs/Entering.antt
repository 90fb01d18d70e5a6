-- A step of a machine is an enabled event of the law.
use Rattle.std.proofs.Common.{◌≡◌, ℕ, List, ◌∷◌, Some, sym, ◌∙◌, ap, subst}
use Rattle.batch_procs.specs.declared.actions.Action.{Action}
use Rattle.batch_procs.specs.History.{Entry, action_of}
use Rattle.batch_procs.specs.Process.{IsFitting, next_action}
use Rattle.batch_procs.specs.Table.{process}
use Rattle.network_law.specs.Network.{MayCall, IsEnabled, set, happens}
use Rattle.core_law.specs.Core.{call, core, CoreState}
use Rattle.core_law.specs.Ends.{IsProcess}
use Rattle.net_core.specs.declared.shared.Shared.{Shared}
use Rattle.net_core.specs.Shared.{SharedStands}
use Rattle.net_core.specs.Steps.{Enters}
use Rattle.batch_procs.specs.Jobs.{Jobs, AreJobs}
use Rattle.batch_ends.specs.Tells.{Tells}

module _ {L : Type 0} {J : Jobs L} (jobs : AreJobs J) where
  -- an enabled event of a process, and what is shared stands for the state behind it
  pub record IsEvent {X S K F A B : Type 0} (tells : Tells L S K F A B) (new : Shared X S K F A B) (s : CoreState L) (p : ℕ) (entry : Entry L) : Type 0 where
    pub gained : List ℕ
    pub enabled : IsEnabled (core J (process J)) s record { process = p; entry = entry; gained = gained }
    pub after : SharedStands tells new (happens (core J (process J)) s record { process = p; entry = entry; gained = gained })

  module _ {X S K F A B : Type 0} (tells : Tells L S K F A B) (old new : Shared X S K F A B) (s : CoreState L) (ss : SharedStands tells old s) (p : ℕ)
      (one : IsProcess p) where
    by-action : (entry : Entry L) → next_action (process J p) (s.histories p) ≡ Some (action_of entry) → MayCall s p (call p (action_of entry))
        → IsFitting J (process J p) entry → Enters tells old new p (action_of entry) entry
        → IsEvent tells new s p entry
    by-action entry next may suits is = record {
      gained = is.gained;
      enabled = record { one = one; next = next; may = may; suits = suits; fits = is.fits s ss; allowed = is.allowed s ss };
      after = is.after s (set s.histories p (entry ∷ s.histories p)) ss;
    }

    -- Where the process is at its turn, its step is an enabled event.
    pub is-event : (a : Action) → next_action (process J p) (s.histories p) ≡ Some a → MayCall s p (call p a) → (entry : Entry L)
        → action_of entry ≡ a
        → IsFitting J (process J p) entry → Enters tells old new p a entry → IsEvent tells new s p entry
    is-event a next may entry same suits is =
        by-action entry (next
        ∙ ap Some (sym same)) (subst (λ a. MayCall s p (call p a)) (sym same) may) suits (subst (λ a. Enters tells old new p a entry) (sym same) is)
