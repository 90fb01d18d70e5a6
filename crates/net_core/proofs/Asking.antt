-- Whether a call may be made: what the monitors say, of the law's state.
use Rattle.std.proofs.Common.{◌≡◌, ◌↔◌, ◌⊎◌, inl, inr, ℕ, Bool, true, false, refl, sym, ap, subst, arith}
use Rattle.std.specs.Prelude.{IsTrue}
use Rattle.solo_base.specs.declared.item.Feed.{Feed}
use Rattle.solo_base.specs.declared.page.Page.{Page}
use Rattle.solo_base.specs.declared.outcome.Outcome.{Outcome}
use Rattle.solo_base.specs.declared.outcome.Side.{Side}
use Rattle.solo_base.specs.declared.outcome.Side.TheVariants.{Sender, Receiver}
use Rattle.queue_var.specs.Sides.{Sides, MayEnter}
use Rattle.batch_procs.specs.declared.actions.Action.{Action}
use Rattle.batch_procs.specs.declared.actions.Action.TheVariants as act
use Rattle.network_run.specs.declared.stepped.Stepped.TheVariants.{Acted}
use Rattle.network_law.specs.Acts.{Awaits, Passes}
use Rattle.network_law.specs.Buffer.{Buffer}
use Rattle.network_law.specs.Network.{MayCall}
use Rattle.network_law.specs.Stepping.{is_again, stepped_so}
use Rattle.core_law.specs.Core.{call, upstream, CoreState, IsBuffer}
use Rattle.net_core.specs.Steps.{is_end}
use Rattle.net_core.specs.Turns.{HasPlace}

pub never : (X : Type 0) → false ≡ true → X
never X e = absurd cc

pub last-buffer : (b : ℕ) → IsBuffer b → (b ≡ 1 → ⊥) → (b ≡ 2 → ⊥) → (b ≡ 3 → ⊥) → b ≡ 4
last-buffer b is one two three = (let low = is.0 in let high = is.1 in omega (arith, low, high, one, two, three))

-- at the buffer of this number
pub enters-at : {P : Type 0} (buffers : ℕ → Buffer P) (b n : ℕ) (sides : Sides) (side : Side) (p : ℕ) (t : Bool) → b ≡ n → (buffers n).sides ≡ sides
    → (IsTrue t ↔ MayEnter sides side p) → IsTrue t ↔ MayEnter (buffers b).sides side p
enters-at buffers b n sides side p t e is each =
    subst (λ b. IsTrue t ↔ MayEnter (buffers b).sides side p) (sym e) (subst (λ sides. IsTrue t ↔ MayEnter sides side p) (sym is) each)

module _ {L : Type 0} (s : CoreState L) (p : ℕ) (t : Bool) where
  -- by what the action is
  pub may-at : (a b : Action) → a ≡ b → (IsTrue t ↔ MayCall s p (call p b)) → IsTrue t ↔ MayCall s p (call p a)
  may-at a b e each = subst (λ a. IsTrue t ↔ MayCall s p (call p a)) (sym e) each

  -- a call that waits, at the buffer behind the process and at the one before it
  pub may-put : (a : Action) → ((f : Feed) × (a ≡ act.PutFeed f)) ⊎ (a ≡ act.AwaitRoom) → HasPlace s p a
      → (IsBuffer p → IsTrue t ↔ MayEnter (s.buffers p).sides Sender p) → IsTrue t ↔ MayCall s p (call p a)
  may-put a (inl (f, e)) place each = may-at a (act.PutFeed f) e (each (place.buffer p Sender Passes (ap (call p) e)))
  may-put a (inr e) place each = may-at a act.AwaitRoom e (each (place.buffer p Sender Awaits (ap (call p) e)))

  pub may-take : (a : Action) (b : ℕ) → b ≡ upstream p → (a ≡ act.TakeFeed) ⊎ (a ≡ act.AwaitItem) → HasPlace s p a
      → (IsBuffer b → IsTrue t ↔ MayEnter (s.buffers b).sides Receiver p) → IsTrue t ↔ MayCall s p (call p a)
  may-take a b same is place each =
      let P : ℕ → Type 0 = λ b. IsBuffer b → IsTrue t ↔ MayEnter (s.buffers b).sides Receiver p in
      taken is (subst P same each)
    where
      taken : (a ≡ act.TakeFeed) ⊎ (a ≡ act.AwaitItem) → (IsBuffer (upstream p) → IsTrue t ↔ MayEnter (s.buffers (upstream p)).sides Receiver p)
          → IsTrue t ↔ MayCall s p (call p a)
      taken (inl e) each = may-at a act.TakeFeed e (each (place.buffer (upstream p) Receiver Passes (ap (call p) e)))
      taken (inr e) each = may-at a act.AwaitItem e (each (place.buffer (upstream p) Receiver Awaits (ap (call p) e)))

  -- no call of a monitor
  pub may-else : (a : Action) → ((f : Feed) → a ≡ act.PutFeed f → ⊥) → (a ≡ act.TakeFeed → ⊥) → (a ≡ act.AwaitRoom → ⊥) → (a ≡ act.AwaitItem → ⊥)
      → (a ≡ act.Request → ⊥) → ((page : Page) → a ≡ act.PutPage page → ⊥) → (a ≡ act.TakePage → ⊥) → (a ≡ act.Release → ⊥)
      → ((b : ℕ) → a ≡ act.Stop b → ⊥) → t ≡ true → IsTrue t ↔ MayCall s p (call p a)
  may-else (act.PutFeed f) x y z v u w r k j on = absurd (x f refl)
  may-else act.TakeFeed x y z v u w r k j on = absurd (y refl)
  may-else act.AwaitRoom x y z v u w r k j on = absurd (z refl)
  may-else act.AwaitItem x y z v u w r k j on = absurd (v refl)
  may-else act.Request x y z v u w r k j on = absurd (u refl)
  may-else (act.PutPage page) x y z v u w r k j on = absurd (w page refl)
  may-else act.TakePage x y z v u w r k j on = absurd (r refl)
  may-else act.Release x y z v u w r k j on = absurd (k refl)
  may-else (act.Stop b) x y z v u w r k j on = absurd (j b refl)
  may-else a x y z v u w r k j on = (λ yes. tt, λ may. on)

-- what is no call that waits, and no end
pub goes-else : {L : Type 0} (s : CoreState L) (p : ℕ) (a : Action) → ((f : Feed) → a ≡ act.PutFeed f → ⊥) → (a ≡ act.TakeFeed → ⊥) → (a ≡ act.AwaitRoom → ⊥)
    → (a ≡ act.AwaitItem → ⊥) → (a ≡ act.Request → ⊥) → ((how : Outcome) → a ≡ act.Ended how → ⊥)
    → Acted ≡ stepped_so false (is_end a) (is_again s (call p a))
goes-else s p (act.PutFeed f) x y z v u w = absurd (x f refl)
goes-else s p act.TakeFeed x y z v u w = absurd (y refl)
goes-else s p act.AwaitRoom x y z v u w = absurd (z refl)
goes-else s p act.AwaitItem x y z v u w = absurd (v refl)
goes-else s p act.Request x y z v u w = absurd (u refl)
goes-else s p (act.Ended how) x y z v u w = absurd (w how refl)
goes-else s p a x y z v u w = refl
