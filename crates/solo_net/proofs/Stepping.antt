-- From what is performed to the entry of the process.
use Rattle.std.proofs.Common.{◌≡◌, ℕ, Bool, false, List, ◌∷◌, Option, None, Some, refl, sym, ◌∙◌, ap, subst}
use Rattle.network_run.specs.declared.stepped.Stepped.{Stepped}
use Rattle.network_run.specs.declared.stepped.Stepped.TheVariants as stepped
use Rattle.network_law.specs.Acts.{Went, Delayed, is_delayed}
use Rattle.network_law.specs.Stepping.{is_again, stepped_so}
use Rattle.exchange_law.specs.Parcels.{Parcel}
use Rattle.place_law.specs.Process.{Process, Does, LacksMemory, Delays}
use Rattle.solo_law.specs.Work.{Need}
use Rattle.solo_law.specs.Actions.{Action, Reply}
use Rattle.solo_law.specs.Actions as act
use Rattle.solo_law.specs.Buffers.{call}
use Rattle.solo_law.specs.Replies.{view, Fits, MayLack, MayWait}
use Rattle.solo_law.specs.Solo.{SoloState, SoloEntry}
use Rattle.solo_law.proofs.Placed.{placed}
use Rattle.solo_procs.specs.declared.actions.SoloAction.{SoloAction}
use Rattle.solo_procs.specs.declared.actions.SoloReply.{SoloReply}
use Rattle.solo_procs.specs.declared.actions.SoloReply.TheVariants as hear
use Rattle.solo_procs.specs.declared.machine.Machine.{Machine}
use Rattle.solo_procs.specs.Said.{said, heard, Hears, is_end}
use Rattle.solo_procs.specs.Machine.{StandsFor, SaysNext, IsTold}
use Rattle.solo_net.specs.declared.shared.Shared.{Shared}
use Rattle.solo_net.specs.Actions.{unsaid, IsNoWork, SoloHasPlace}
use Rattle.solo_net.specs.SixBuffers.{SoloBuffersStand}
use Rattle.solo_net.specs.Telling.{Tells}
use Rattle.solo_net.specs.Sharing.{SoloMayPerform, SoloEnters, Performs}
use Rattle.solo_net.specs.Steps.{Steps}

-- ---- what is said
unsaid-said : (a : Action) → IsNoWork a → unsaid (said a) ≡ a
unsaid-said act.Accept is = refl
unsaid-said (act.Display line) is = refl
unsaid-said act.ReadCard is = refl
unsaid-said (act.Print line) is = refl
unsaid-said (act.PutArg b x) is = refl
unsaid-said (act.TakeArg b) is = refl
unsaid-said (act.PutPage b page) is = refl
unsaid-said (act.TakePage b) is = refl
unsaid-said (act.Works work) is = absurd is
unsaid-said (act.Stop b) is = refl
unsaid-said (act.Ended how) is = refl

pub next-said : (next : Option Action) (r : SoloAction) (a : Action) → SaysNext next r → next ≡ Some a → said a ≡ r
next-said None r a is e = absurd cc
next-said (Some b) r a is e = (let same : b ≡ a = cc in subst (λ b. said b ≡ r) same is)

pub unsaid-is : (r : SoloAction) (a : Action) → said a ≡ r → IsNoWork a → unsaid r ≡ a
unsaid-is r a same no_work = ap unsaid (sym same) ∙ unsaid-said a no_work

pub may-unsaid : {S Y K T F : Type 0} (shared : Shared S Y K T F) (p : ℕ) (r : SoloAction) (a : Action) → said a ≡ r → IsNoWork a
    → SoloMayPerform shared p a → SoloMayPerform shared p (unsaid r)
may-unsaid shared p r a same no_work may = subst (SoloMayPerform shared p) (sym (unsaid-is r a same no_work)) may

-- ---- what is heard
hears : (Ready : Type 0) (Came : Need → Type 0) (reply : SoloReply) → Ready → Hears Ready Came reply (heard reply)
hears Ready Came hear.Done ready = (refl, ready)
hears Ready Came hear.Stopped ready = refl
hears Ready Came hear.Failed ready = refl
hears Ready Came hear.NoMemory ready = refl
hears Ready Came (hear.Card answer) ready = (refl, ready)
hears Ready Came (hear.Arg a) ready = (refl, ready)
hears Ready Came (hear.Page page) ready = (refl, ready)

pub told-heard : {P : Type 0} (p : Process Action Reply) (is_at ready : P → p.Place → Type 0) (came : P → p.Place → Need → Type 0) (machine : Machine P)
    (h : List SoloEntry) (reply : SoloReply) → StandsFor p is_at ready machine h → IsTold p ready came machine h reply (heard reply)
told-heard p is_at ready came machine h reply st = λ free. hears _ _ reply (st.ready_there free)

-- ---- a step of a machine
not-delayed : (w : Went Parcel) → (w ≡ Delayed → ⊥) → is_delayed w ≡ false
not-delayed Delayed not = absurd (not refl)
not-delayed other not = refl

same-stepped : (d e g x y z : Bool) → d ≡ x → e ≡ y → g ≡ z → stepped_so d e g ≡ stepped_so x y z
same-stepped d e g x y z i j k = rw (i, j, k) refl

module _ {S Y K T F : Type 0} (Stands : List SoloEntry → Type 0) (tells : Tells S Y K T) (old new : Shared S Y K T F) (p : ℕ) (a : Action) (r : SoloAction)
    (h : List SoloEntry) (same : said a ≡ r) (no_work : IsNoWork a) where
  own : (result : Option SoloReply) → Performs tells old new p (unsaid r) result → Performs tells old new p a result
  own result is = subst (λ a. Performs tells old new p a result) (unsaid-is r a same no_work) is

  pub steps-delayed : Performs tells old new p (unsaid r) None → (MayWait a → Stands (Delays a ∷ h)) → Steps Stands tells old new p a h stepped.Delayed
  steps-delayed is stands =
      let is = own None is in
      record { entry = Delays a; told = λ s stood place. refl; action_is = refl; stands = stands is.suits; enters = is.enters }

  enters-lacking : (reply : Reply) → MayLack a reply → SoloEnters tells old new p a (Does a reply) → SoloEnters tells old new p a (LacksMemory a reply)
  enters-lacking reply may is = by a reply may is
    where
      by : (a : Action) (reply : Reply) → MayLack a reply → SoloEnters tells old new p a (Does a reply) → SoloEnters tells old new p a (LacksMemory a reply)
      by (act.TakePage b) (act.OfPage page) may is = record {
        gained = is.gained;
        fits = is.fits;
        allowed = is.allowed;
        after = is.after;
        work = is.work;
        causes = is.causes;
        files = is.files;
      }
      by action reply may is = absurd may

  module _ (result : Stepped) (result-is : (s : SoloState) → SoloBuffersStand old.buffers s.buffers → SoloHasPlace (unsaid r)
      → result ≡ stepped_so false (is_end r) (is_again s (call p (unsaid r)))) where
    told-so : (reply : Reply) (s : SoloState) → SoloBuffersStand old.buffers s.buffers → SoloHasPlace a
        → result ≡ stepped_so (is_delayed (view.went a reply)) (is_end (said a)) (is_again s (call p a))
    told-so reply s stood place =
        let a-is = unsaid-is r a same no_work in
        result-is s stood (subst SoloHasPlace (sym a-is) place)
        ∙ same-stepped _ _ _ _ _ _ (sym (not-delayed (view.went a reply) (placed.answered a reply))) (ap is_end (sym same))
        (ap (λ a. is_again s (call p a)) a-is)

    pub steps-acted : (reply : SoloReply) → Performs tells old new p (unsaid r) (Some reply) → (Fits a (heard reply) → Stands (Does a (heard reply) ∷ h))
        → Steps Stands tells old new p a h result
    steps-acted reply is stands =
        let is = own (Some reply) is in
        record {
          entry = Does a (heard reply);
          told = told-so (heard reply);
          action_is = refl;
          stands = stands is.suits;
          enters = is.enters;
        }

    pub steps-lacking : (reply : SoloReply) → Performs tells old new p (unsaid r) (Some reply) → (Fits a (heard reply)
        → Stands (LacksMemory a (heard reply) ∷ h))
        → (Stands (LacksMemory a (heard reply) ∷ h) → MayLack a (heard reply)) → Steps Stands tells old new p a h result
    steps-lacking reply is stands lack =
        let is = own (Some reply) is in
        record {
          entry = LacksMemory a (heard reply);
          told = told-so (heard reply);
          action_is = refl;
          stands = stands is.suits;
          enters = enters-lacking (heard reply) (lack (stands is.suits)) is.enters;
        }
