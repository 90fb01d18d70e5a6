-- From what is performed to the entry of the process.
use Rattle.std.proofs.Common.{◌≡◌, ℕ, Bool, false, List, ◌∷◌, Option, None, Some, refl, sym, ◌∙◌, ap, subst}
use Rattle.batch_procs.specs.declared.actions.Action.{Action}
use Rattle.batch_procs.specs.declared.actions.Action.TheVariants as act
use Rattle.batch_procs.specs.declared.actions.Reply.{Reply}
use Rattle.batch_procs.specs.declared.actions.Reply.TheVariants as reply
use Rattle.batch_procs.specs.History.{Entry, Does, LacksMemory, Delays}
use Rattle.batch_procs.specs.Fits.{Fits, MayLack, MayWait}
use Rattle.batch_procs.specs.Machine.{NextIs}
use Rattle.network_run.specs.declared.stepped.Stepped.{Stepped}
use Rattle.network_run.specs.declared.stepped.Stepped.TheVariants.{Delayed}
use Rattle.network_law.specs.Acts.{is_delayed}
use Rattle.network_law.specs.Stepping.{is_again, stepped_so}
use Rattle.core_law.specs.Core.{call, went, CoreState}
use Rattle.core_law.proofs.Acting.{answered}
use Rattle.net_core.specs.declared.shared.Shared.{Shared}
use Rattle.core_law.specs.Replies.{entry_of}
use Rattle.net_core.specs.Causes.{HasCauses}
use Rattle.net_core.specs.Shared.{SharedStands, Performs}
use Rattle.net_core.specs.Steps.{is_end, Enters, Steps}
use Rattle.net_core.specs.Turns.{HasPlace}
use Rattle.batch_procs.specs.Jobs.{Jobs, AreJobs}
use Rattle.batch_ends.specs.Causes.{Counts}
use Rattle.batch_ends.specs.Tells.{Tells}

-- ---- a step of a machine
same-stepped : (d e g x y z : Bool) → d ≡ x → e ≡ y → g ≡ z → stepped_so d e g ≡ stepped_so x y z
same-stepped d e g x y z i j k = rw (i, j, k) refl

pub next-is : (next : Option Action) (a r : Action) → NextIs next r → next ≡ Some a → a ≡ r
next-is None a r is e = absurd cc
next-is (Some b) a r is e = (let same : b ≡ a = cc in sym same ∙ is)

module _ {L : Type 0} {J : Jobs L} (jobs : AreJobs J) where
  module _ {X S K F A B : Type 0} (tells : Tells L S K F A B) (old new : Shared X S K F A B) (p : ℕ) where
    pub enters : (action : Action) (result : Option (Reply L)) → Performs J tells old new p action result → Enters tells old new p action
        (entry_of action result)
    enters action result is = record {
      gained = is.gained;
      deck = is.deck;
      total = is.total;
      files = is.files;
      fits = is.fits;
      allowed = is.allowed;
      after =
          is.after;
    }

    pub enters-lacking : (action : Action) (r : Reply L) → MayLack action r → Performs J tells old new p action (Some r)
        → Enters tells old new p action (LacksMemory action r)
    enters-lacking act.TakePage (reply.Page page last) may is =
        record { gained = is.gained; deck = is.deck; total = is.total; files = is.files; fits = is.fits; allowed = is.allowed; after = is.after }
    enters-lacking act.Local reply.Done may is =
        record { gained = is.gained; deck = is.deck; total = is.total; files = is.files; fits = is.fits; allowed = is.allowed; after = is.after }
    enters-lacking action r may is = absurd may

  module _ {X S K F A B : Type 0} (Stands : List (Entry L) → Type 0) (tells : Tells L S K F A B) (counts : Counts S K F A B) (old new : Shared X S K F A B)
      (p : ℕ)
      (a r : Action)
      (h : List (Entry L)) (same : a ≡ r) where
    same-action : (result : Option (Reply L)) → Performs J tells old new p r result → Performs J tells old new p a result
    same-action result is = subst (λ a. Performs J tells old new p a result) (sym same) is

    same-causes : (result : Option (Reply L)) → HasCauses tells counts old new p r result → HasCauses tells counts old new p a result
    same-causes result is = subst (λ a. HasCauses tells counts old new p a result) (sym same) is

    pub steps-delayed : Performs J tells old new p r None → HasCauses tells counts old new p r None → (MayWait a → Stands (Delays a ∷ h))
        → Steps Stands tells counts old new p a h Delayed
    steps-delayed is causes stands =
        let own = same-action None is in
        record {
          entry = Delays a;
          told = λ s stood place. refl;
          action_is = refl;
          stands = stands own.suits;
          enters = enters tells old new p a None own;
          causes = same-causes None causes;
        }

    module _ (result : Stepped)
        (goes : (s : CoreState L) → SharedStands tells old s → HasPlace s p r → result ≡ stepped_so false (is_end r) (is_again s (call p r))) where
      told-so : (entry : Entry L) → ((b : Action) → entry ≡ Delays b → ⊥) → (s : CoreState L) → SharedStands tells old s → HasPlace s p a
          → result ≡ stepped_so (is_delayed (went entry)) (is_end a) (is_again s (call p a))
      told-so entry not s stood place =
          goes s stood (subst (HasPlace s p) same place)
          ∙ same-stepped _ _ _ _ _ _ (sym (answered jobs entry not)) (ap is_end (sym same)) (ap (λ a. is_again s (call p a)) (sym same))

      pub steps-acted : (reply : Reply L) → Performs J tells old new p r (Some reply) → HasCauses tells counts old new p r (Some reply)
          → (Fits J a reply → Stands (Does a reply ∷ h)) → Steps Stands tells counts old new p a h result
      steps-acted reply is causes stands =
          let own = same-action (Some reply) is in
          record {
            entry = Does a reply;
            told = told-so (Does a reply) (λ b e. cc);
            action_is = refl;
            stands = stands own.suits;
            enters = enters tells old new p a (Some reply) own;
            causes = same-causes (Some reply) causes;
          }

      pub steps-lacking : (reply : Reply L) → Performs J tells old new p r (Some reply) → HasCauses tells counts old new p r (Some reply)
          → (Fits J a reply → Stands (LacksMemory a reply ∷ h)) → (Stands (LacksMemory a reply ∷ h) → MayLack a reply)
          → Steps Stands tells counts old new p a h result
      steps-lacking reply is causes stands lack =
          let own = same-action (Some reply) is in
          record {
            entry = LacksMemory a reply;
            told = told-so (LacksMemory a reply) (λ b e. cc);
            action_is = refl;
            stands = stands own.suits;
            enters = enters-lacking tells old new p a reply (lack (stands own.suits)) own;
            causes = same-causes (Some reply) causes;
          }
