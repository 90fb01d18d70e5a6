-- It can be told who may go on.
use Rattle.std.proofs.Common.{◌≡◌, ◌≢◌, ◌⊎◌, inl, inr, ◌≤◌, ◌<◌, ltb, ℕ, zero, suc, Bool, true, false, List, [], ◌∷◌, Option, None, Some, refl, ap, subst, arith}
use Rattle.std.proofs.lemmas.Bool.Decides.{eqb_tells}
use Rattle.std.proofs.lemmas.Bool.{ltb-true, lt-ltb}
use Rattle.solo_base.specs.declared.outcome.Side.{Side}
use Rattle.solo_base.specs.declared.outcome.Side.TheVariants.{Sender, Receiver}
use Rattle.queue_var.specs.declared.turn.Turn.{Turn}
use Rattle.queue_var.specs.declared.turn.Turn.TheVariants.{Free, Handed}
use Rattle.queue_var.specs.Sides.{Sides, MayEnter, MayStop, queue}
use Rattle.resource_mon.specs.Claims.{IsNoneOf}
use Rattle.network_law.specs.Acts.{Call, Alone, At, Asks, Gives, Visit, Awaits, Passes, Moves, Stops}
use Rattle.network_law.specs.Buffer.{MayVisit}
use Rattle.network_law.specs.Network.{Network, State, IsOne, MayCall}
use Rattle.network_law.specs.Stepping.{MayGo}

abbrev pub Tells : Type 0 → Type 0
Tells X = X ⊎ (X → ⊥)

both : (X Y : Type 0) → Tells X → Tells Y → Tells (X × Y)
both X Y (inl x) (inl y) = inl (x, y)
both X Y (inl x) (inr never) = inr (λ xy. never xy.1)
both X Y (inr never) y = inr (λ xy. never xy.0)

either : (X Y : Type 0) → Tells X → Tells Y → Tells (X ⊎ Y)
either X Y (inl x) y = inl (inl x)
either X Y (inr never) (inl y) = inl (inr y)
either X Y (inr never) (inr too) = inr (λ xy. elim xy as (λ _. ⊥) [ inl x ↦ never x | inr y ↦ too y ])

is-none : (x : Option ℕ) → Tells (x ≡ None)
is-none None = inl refl
is-none (Some p) = inr (λ e. cc)

same-number : (p q : ℕ) → Tells (p ≡ q)
same-number p q = elim (eqb_tells p q) as (λ _. Tells (p ≡ q)) [ inl same ↦ inl same.1 | inr differ ↦ inr differ.1 ]

is-some : (x : Option ℕ) (p : ℕ) → Tells (x ≡ Some p)
is-some None p = inr (λ e. cc)
is-some (Some q) p = elim (same-number q p) as (λ _. Tells (Some q ≡ Some p)) [ inl same ↦ inl (ap Some same) | inr differ ↦ inr (λ e. differ cc) ]

none-of : (waiting : List ℕ) (p : ℕ) → Tells (IsNoneOf waiting p)
none-of [] p = inl tt
none-of (q ∷ later) p =
    both (q ≢ p) (IsNoneOf later p) (elim (same-number q p) as (λ _. Tells (q ≢ p)) [ inl same ↦ inr (λ differ. differ same) | inr differ ↦ inl differ ])
    (none-of later p)

is-free : (turn : Turn Side) → Tells (turn ≡ Free)
is-free Free = inl refl
is-free (Handed side) = inr (λ e. cc)

is-handed : (turn : Turn Side) (side : Side) → Tells (turn ≡ Handed side)
is-handed Free side = inr (λ e. cc)
is-handed (Handed Sender) Sender = inl refl
is-handed (Handed Sender) Receiver = inr (λ e. cc)
is-handed (Handed Receiver) Sender = inr (λ e. cc)
is-handed (Handed Receiver) Receiver = inl refl

-- ---- whether a process may call
may-stop : (sides : Sides) (side : Side) → Tells (MayStop sides side)
may-stop sides side = both _ _ (is-free sides.turn) (is-none (queue sides side))

may-enter : (sides : Sides) (side : Side) (p : ℕ) → Tells (MayEnter sides side p)
may-enter sides side p = either _ _ (may-stop sides side) (both _ _ (is-handed sides.turn side) (is-some (queue sides side) p))

may-visit : (sides : Sides) (side : Side) (p : ℕ) (visit : Visit) → Tells (MayVisit sides side p visit)
may-visit sides side p Awaits = may-enter sides side p
may-visit sides side p Passes = may-enter sides side p
may-visit sides side p Moves = may-stop sides side
may-visit sides side p Stops = may-stop sides side

may-call : {Devices Entry Parcel : Type 0} (s : State Devices Entry Parcel) (p : ℕ) (c : Call) → Tells (MayCall s p c)
may-call s p Alone = inl tt
may-call s p (At b side visit) = may-visit (s.buffers b).sides side p visit
may-call s p Asks =
    let claims = s.desk.claims in
    either _ _ (both _ _ (is-none claims.handed) (none-of claims.waiting p)) (is-some claims.handed p)
may-call s p Gives = is-none s.desk.claims.handed

-- ---- whether it may go on
not-over : (a b : ℕ) → (b < a → ⊥) → a ≤ b
not-over zero b never = omega arith
not-over (suc a) b never =
    elim (eqb_tells b a) as (λ _. suc a ≤ b) [
      | inl same ↦ absurd (never (let e = same.1 in omega (arith, e)))
      | inr differ ↦ (let less = not-over a b (λ over. never (omega (arith, over))) in let other = differ.1 in omega (arith, less, other))
    ]

at-most : (a b : ℕ) → Tells (a ≤ b)
at-most a b = by (ltb b a) refl
  where
    by : (over : Bool) → ltb b a ≡ over → Tells (a ≤ b)
    by true e = inr (λ most. (let over = ltb-true b a e in absurd (omega (arith, most, over))))
    by false e = inl (not-over a b (λ over. (let is = lt-ltb b a over in cc)))

module _ {Devices Action Entry Parcel : Type 0} (network : Network Devices Action Entry Parcel) where
  same-action : (a b : Action) (next : Option Action) → next ≡ Some a → next ≡ Some b → a ≡ b
  same-action a b next first second = cc

  pub may-tell : (s : State Devices Entry Parcel) (p : ℕ) → Tells (MayGo network s p)
  may-tell s p = by (both _ _ (at-most 1 p) (at-most p network.size)) (network.next p (s.histories p)) refl
    where
      by : Tells (IsOne network p) → (next : Option Action) → network.next p (s.histories p) ≡ next → Tells (MayGo network s p)
      by (inr never) next e = inr (λ may. never may.one)
      by (inl one) None e = inr (λ may. let some = may.next in cc)
      by (inl one) (Some a) e =
          elim (may-call s p (network.call p a)) as (λ _. Tells (MayGo network s p)) [
            | inl may ↦ inl record { action = a; one = one; next = e; may = may }
            | inr never ↦ inr (λ may. never (subst (λ a. MayCall s p (network.call p a)) (same-action may.action a _ may.next e) may.may))
          ]
