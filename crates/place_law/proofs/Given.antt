-- Which entry gave a process its cause, and who was told of a stop.
use Rattle.std.proofs.Common.{◌≡◌, ◌⊎◌, inl, inr, ℕ, ◌&&◌, ◌||◌, Bool, true, false, List, [], ◌∷◌, Option, None, Some, refl, sym, ◌∙◌, subst}
use Rattle.solo_base.specs.declared.outcome.Side.{Side}
use Rattle.solo_base.specs.declared.outcome.Outcome.{Outcome}
use Rattle.solo_base.specs.declared.outcome.Outcome.TheVariants as outcome
use Rattle.solo_base.specs.declared.outcome.Cause.TheVariants as cause
use Rattle.queue_var.specs.Sides.{other}
use Rattle.network_law.specs.Acts.{Call, Alone, At, Asks, Gives, Awaits, Passes, Moves, Stops, Went, Told, told_at, was_told}
use Rattle.network_law.specs.Network.{State, IsOne, acts}
use Rattle.network_law.specs.Network as law
use Rattle.network_law.specs.Kept.{Stands}
use Rattle.network_law.proofs.Numbers.{same-number}
use Rattle.network_law.proofs.Seats.{same-itself}
use Rattle.place_law.specs.Process.{Entry, Does, LacksMemory, Delays, Process, place, caused, given_cause, or_new}
use Rattle.place_law.specs.Table.{Table, network_of, PassesHere, IsToldAt, IsPlaced}
use Rattle.place_law.specs.Ending.{GivenBy, WasTold}
use Rattle.place_law.proofs.Nexts.{AtPlace, Stopping, Ending, next-shape}

or-here : (t u : Bool) → u ≡ true → (t || u) ≡ true
or-here true u e = refl
or-here false u e = e

or-front : (t u : Bool) → t ≡ true → (t || u) ≡ true
or-front true u e = refl
or-front false u e = absurd cc

both-true : (t u : Bool) → t ≡ true → u ≡ true → (t && u) ≡ true
both-true true u e f = f
both-true false u e f = absurd cc

-- the older cause, or where there was none the new
pub or-either : (old new : Option Outcome) (how : Outcome) → or_new old new ≡ Some how → ((old ≡ None) × (new ≡ Some how)) ⊎ (old ≡ Some how)
or-either None new how e = inl (refl, e)
or-either (Some why) new how e = inr e

same-cause : (a b : Outcome) → Some a ≡ Some b → b ≡ a
same-cause a b e = cc

module _ {Devices Action Reply Parcel : Type 0} (t : Table Devices Action Reply Parcel) where
  pub given-by : (p : Process Action Reply) (h : List (Entry Action Reply)) (how : Outcome) → caused t.view p h ≡ Some how → GivenBy t.view p how h
  given-by p [] how e = absurd cc
  given-by p (Does a r ∷ h) how e =
      elim (or-either (caused t.view p h) (given_cause t.view p (place p h) a r) how e) as (λ _. GivenBy t.view p how (Does a r ∷ h)) [
        | inl new ↦ inl new
        | inr old ↦ inr (given-by p h how old)
      ]
  given-by p (LacksMemory a r ∷ h) how e =
      elim (or-either (caused t.view p h) (Some (outcome.Fault cause.NoMemory)) how e) as (λ _. GivenBy t.view p how (LacksMemory a r ∷ h)) [
        | inl new ↦ inl (new.0, same-cause (outcome.Fault cause.NoMemory) how new.1)
        | inr old ↦ inr (given-by p h how old)
      ]
  given-by p (Delays a ∷ h) how e = given-by p h how e

  module _ (is : IsPlaced t) where
    -- ---- who has the cause Stopped was told so
    pub record ToldSo (p : ℕ) (h : List (Entry Action Reply)) : Type 0 where
      pub buffer : ℕ
      pub side : Side
      pub seated : t.seat buffer side ≡ p
      pub told : was_told buffer side (acts (network_of t) p h) ≡ true

    still-told : (p : ℕ) (h : List (Entry Action Reply)) (entry : Entry Action Reply) → ToldSo p h → ToldSo p (entry ∷ h)
    still-told p h entry told = record { buffer = told.buffer; side = told.side; seated = told.seated; told = or-here _ _ told.told }

    told-now : (p : ℕ) (c : Call) (w : Went Parcel) → PassesHere t.seat p c → IsToldAt c w
        → (b : ℕ) × (side : Side) × (t.seat b side ≡ p) × (told_at b side c w ≡ true)
    told-now p (At b side Passes) Told seated at = (b, side, seated, both-true _ _ (same-number b) (same-itself side))
    told-now p (At b side Awaits) w seated at = absurd seated
    told-now p (At b side Moves) w seated at = absurd seated
    told-now p (At b side Stops) w seated at = absurd seated
    told-now p Alone w seated at = absurd at
    told-now p Asks w seated at = absurd at
    told-now p Gives w seated at = absurd at
    told-now p (At b side Passes) other seated at = absurd at

    pub told-so : (p : ℕ) (h : List (Entry Action Reply)) → IsOne (network_of t) p → law.Follows (network_of t) p h
        → caused t.view (t.process p) h ≡ Some outcome.Stopped → ToldSo p h
    told-so p [] one follows e = absurd cc
    told-so p (Does a r ∷ h) one follows e =
        let at = place (t.process p) h in
        elim (or-either (caused t.view (t.process p) h) (given_cause t.view (t.process p) at a r) outcome.Stopped e) as (λ _. ToldSo p (Does a r ∷ h)) [
          | inl new ↦ elim (next-shape t is p h a one follows.0) as (λ _. ToldSo p (Does a r ∷ h)) [
            | AtPlace free same ↦
                let passing : PassesHere t.seat p ((t.process p).calls a) =
                subst (λ a. PassesHere t.seat p ((t.process p).calls a)) (sym same) (is.passes p one at) in
                let (b, side, seated, told) = told-now p ((t.process p).calls a) (t.view.went a r) passing (is.told p one at a r follows.1 new.1) in
                record { buffer = b; side = side; seated = seated; told = or-front _ _ told }
            | Stopping b stop ↦ absurd (let no = sym new.0 ∙ stop.caused_so in cc)
            | Ending end ↦ absurd (let no = sym new.0 ∙ end.caused_so in cc)
          ]
          | inr old ↦ still-told p h (Does a r) (told-so p h one follows.2 old)
        ]
    told-so p (LacksMemory a r ∷ h) one follows e =
        elim (or-either (caused t.view (t.process p) h) (Some (outcome.Fault cause.NoMemory)) outcome.Stopped e) as (λ _. ToldSo p (LacksMemory a r ∷ h)) [
          | inl new ↦ absurd (let no = new.1 in cc)
          | inr old ↦ still-told p h (LacksMemory a r) (told-so p h one follows.2 old)
        ]
    told-so p (Delays a ∷ h) one follows e = still-told p h (Delays a) (told-so p h one follows.2 e)

    -- and the other side of that buffer was the first to stop it
    pub was-told : (opening s : State Devices (Entry Action Reply) Parcel) → Stands (network_of t) opening s → (p : ℕ) → IsOne (network_of t) p
        → caused t.view (t.process p) (s.histories p) ≡ Some outcome.Stopped → WasTold t s p
    was-told opening s st p one e =
        let told = told-so p (s.histories p) one (st.follows p) e in
        let there : was_told told.buffer told.side (acts (network_of t) (t.seat told.buffer told.side) (s.histories (t.seat told.buffer told.side))) ≡ true =
        subst (λ q. was_told told.buffer told.side (acts (network_of t) q (s.histories q)) ≡ true) (sym told.seated) told.told in
        record { buffer = told.buffer; side = told.side; seated = told.seated; by = (st.buffers.told told.buffer told.side there).by_other }
