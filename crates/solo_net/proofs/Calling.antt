-- What the buffers say of a call, by the action that is said.
use Rattle.std.proofs.Common.{◌≡◌, ◌↔◌, ℕ, Bool, true, false, refl, sym, ◌∙◌, subst}
use Rattle.std.specs.Prelude.{IsTrue}
use Rattle.solo_base.specs.declared.outcome.Outcome.{Outcome}
use Rattle.solo_base.specs.declared.outcome.Side.{Side}
use Rattle.solo_base.specs.declared.page.Page.{Page}
use Rattle.solo_base.specs.declared.system_call.Arg.{Arg}
use Rattle.queue_var.specs.Sides.{MayEnter, MayStop}
use Rattle.network_law.specs.Acts.{At, Passes, Stops}
use Rattle.network_law.specs.Network.{MayCall}
use Rattle.network_law.specs.Stepping.{is_again, stepped_so}
use Rattle.network_run.specs.declared.stepped.Stepped.TheVariants.{Acted}
use Rattle.solo_law.specs.Actions.{Action}
use Rattle.solo_law.specs.Buffers.{call}
use Rattle.solo_law.specs.Holds.{IsBuffer}
use Rattle.solo_law.specs.Solo.{SoloState}
use Rattle.solo_procs.specs.declared.actions.SoloAction.{SoloAction}
use Rattle.solo_procs.specs.declared.actions.SoloAction.TheVariants as say
use Rattle.solo_procs.specs.Said.{is_end}
use Rattle.solo_net.specs.declared.buffers.Asked.{Asked}
use Rattle.solo_net.specs.declared.buffers.Buffers.{Buffers}
use Rattle.solo_net.specs.Actions.{unsaid, SoloHasPlace}
use Rattle.solo_net.specs.SixBuffers.{SoloBuffersStand, IsSo, sides_at}
use Rattle.solo_net.proofs.Visiting.{sides-are}

module _ (six : Buffers) (r : SoloAction) (a : Action) (b : ℕ) (side : Side) (same : unsaid r ≡ a) (is_buffer : SoloHasPlace a → IsBuffer b) where
  at-sides : (s : SoloState) → SoloBuffersStand six s.buffers → SoloHasPlace (unsaid r) → sides_at six b ≡ (s.buffers b).sides
  at-sides s stands place = sym (sides-are six s.buffers stands b (is_buffer (subst SoloHasPlace same place)))

  -- a put or a take
  pub enters : (p : ℕ) (t : Bool) → call p a ≡ At b side Passes → IsTrue t ↔ MayEnter (sides_at six b) side p
      → (s : SoloState) → SoloBuffersStand six s.buffers → SoloHasPlace (unsaid r) → IsTrue t ↔ MayCall s p (call p (unsaid r))
  enters p t calls is s stands place =
      subst (λ a. IsTrue t ↔ MayCall s p (call p a)) (sym same)
      (subst (λ c. IsTrue t ↔ MayCall s p c) (sym calls) (subst (λ sides. IsTrue t ↔ MayEnter sides side p) (at-sides s stands place) is))

  -- a stop
  pub stops : (p : ℕ) (t : Bool) → call p a ≡ At b side Stops → IsTrue t ↔ MayStop (sides_at six b) side
      → (s : SoloState) → SoloBuffersStand six s.buffers → SoloHasPlace (unsaid r) → IsTrue t ↔ MayCall s p (call p (unsaid r))
  stops p t calls is s stands place =
      subst (λ a. IsTrue t ↔ MayCall s p (call p a)) (sym same)
      (subst (λ c. IsTrue t ↔ MayCall s p c) (sym calls) (subst (λ sides. IsTrue t ↔ MayStop sides side) (at-sides s stands place) is))

-- no call on a buffer
pub alone : (r : SoloAction) → ((b : ℕ) (x : Arg) → r ≡ say.PutArg b x → ⊥) → ((b : ℕ) → r ≡ say.TakeArg b → ⊥)
    → ((b : ℕ) (page : Page) → r ≡ say.PutPage b page → ⊥) → ((b : ℕ) → r ≡ say.TakePage b → ⊥) → ((b : ℕ) → r ≡ say.Stop b → ⊥)
    → (p : ℕ) (s : SoloState) → IsTrue true ↔ MayCall s p (call p (unsaid r))
alone (say.PutArg b x) put take put_page take_page stop p s = absurd (put b x refl)
alone (say.TakeArg b) put take put_page take_page stop p s = absurd (take b refl)
alone (say.PutPage b page) put take put_page take_page stop p s = absurd (put_page b page refl)
alone (say.TakePage b) put take put_page take_page stop p s = absurd (take_page b refl)
alone (say.Stop b) put take put_page take_page stop p s = absurd (stop b refl)
alone other put take put_page take_page stop p s = (λ yes. tt, λ may. refl)

-- nor any that is made again
pub acts-alone : (r : SoloAction) → ((b : ℕ) (x : Arg) → r ≡ say.PutArg b x → ⊥) → ((b : ℕ) → r ≡ say.TakeArg b → ⊥)
    → ((b : ℕ) (page : Page) → r ≡ say.PutPage b page → ⊥) → ((b : ℕ) → r ≡ say.TakePage b → ⊥) → ((how : Outcome) → r ≡ say.Ended how → ⊥)
    → (p : ℕ) (s : SoloState) → Acted ≡ stepped_so false (is_end r) (is_again s (call p (unsaid r)))
acts-alone (say.PutArg b x) put take put_page take_page end p s = absurd (put b x refl)
acts-alone (say.TakeArg b) put take put_page take_page end p s = absurd (take b refl)
acts-alone (say.PutPage b page) put take put_page take_page end p s = absurd (put_page b page refl)
acts-alone (say.TakePage b) put take put_page take_page end p s = absurd (take_page b refl)
acts-alone (say.Ended how) put take put_page take_page end p s = absurd (end how refl)
acts-alone other put take put_page take_page end p s = refl

-- ---- what is asked of a buffer
pub asks-at : (six : Buffers) (b n : ℕ) (what : Asked) (t : Bool) → b ≡ n → (IsTrue t ↔ IsSo what (sides_at six n)) → IsTrue t ↔ IsSo what (sides_at six b)
asks-at six b n what t e is = subst (λ b. IsTrue t ↔ IsSo what (sides_at six b)) (sym e) is

pub same-truth : (a b : Bool) → a ≡ b → IsTrue a ↔ IsTrue b
same-truth a b e = (λ yes. sym e ∙ yes, λ yes. e ∙ yes)

pub so-not : (a b : Bool) → (IsTrue a ↔ IsTrue b) → a ≡ false → b ≡ false
so-not a true is not = absurd (let yes = is.1 refl in cc)
so-not a false is not = refl
