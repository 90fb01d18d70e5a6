-- What an event adds to the acts of the process at each side of each buffer.
use Rattle.std.proofs.Common.{◌≡◌, inl, inr, ℕ, ◌==◌, Bool, true, false, ◌&&◌, ◌||◌, [], ◌∷◌, ◌++◌, refl, sym, ◌∙◌, ap, subst}
use Rattle.std.proofs.lemmas.Bool.{eqb-true}
use Rattle.std.proofs.lemmas.Bool.Decides.{eqb_tells}
use Rattle.std.proofs.lemmas.List.{append-nil}
use Rattle.solo_base.specs.declared.outcome.Side.{Side}
use Rattle.solo_base.specs.declared.outcome.Side.TheVariants.{Sender, Receiver}
use Rattle.queue_var.specs.Sides.{same_side}
use Rattle.network_law.specs.Acts.{Visit, Awaits, Passes, Moves, Stops, Call, Alone, At, Asks, Gives, Went, Delayed, Told, Done, Moved, is_same, if_at, moved_by, moved, stops_at, made_stop, told_at, was_told}
use Rattle.network_law.specs.Network.{Network, State, Event, IsEnabled, Follows, call_of, happens, acts}
use Rattle.network_law.specs.Processes.{CallsNext, IsLawful}
use Rattle.network_law.specs.Kept.{acts_at, passed}
use Rattle.network_law.proofs.Numbers.{same-number, set-same, set-other}
use Rattle.network_law.proofs.Visits.{through}

-- ---- the same side of the same buffer
pub same_side-is : (x y : Side) → same_side x y ≡ true → x ≡ y
same_side-is Sender Sender e = refl
same_side-is Receiver Receiver e = refl
same_side-is Sender Receiver e = absurd cc
same_side-is Receiver Sender e = absurd cc

pub same-itself : (x : Side) → same_side x x ≡ true
same-itself Sender = refl
same-itself Receiver = refl

pub record AreSame (b : ℕ) (x : Side) (c : ℕ) (of : Side) : Type 0 where
  pub number : b ≡ c
  pub side : x ≡ of

pub same-tells : (b : ℕ) (x : Side) (c : ℕ) (of : Side) → is_same b x c of ≡ true → AreSame b x c of
same-tells b x c of e =
    let P : Bool → Type 0 = λ t. (b == c) ≡ t → (t && same_side x of) ≡ true → AreSame b x c of in
    elim (b == c) as P [
      | true ↦ (λ same e. record { number = eqb-true b c same; side = same_side-is x of e })
      | false ↦ (λ differ e. absurd cc)
    ] refl e

not-true : (t : Bool) → (t ≡ true → ⊥) → t ≡ false
not-true true not = absurd (not refl)
not-true false not = refl

pub same-own : (b : ℕ) (x of : Side) → is_same b x b of ≡ same_side x of
same-own b x of = ap (λ t. t && same_side x of) (same-number b)

-- what an act moved through each side of its own buffer
pub moved-own : {Parcel : Type 0} (b : ℕ) (x of : Side) (visit : Visit) (went : Went Parcel) → moved_by b x (At b of visit) went ≡ through x of went
moved-own b x of visit (Moved parcel) = ap (λ t. if_at t parcel) (same-own b x of)
moved-own b x of visit Delayed = refl
moved-own b x of visit Told = refl
moved-own b x of visit Done = refl

-- nothing of an act is at a side where it wasn't made
pub record IsElsewhere {Parcel : Type 0} (b : ℕ) (x : Side) (call : Call) (went : Went Parcel) : Type 0 where
  pub moved : moved_by b x call went ≡ []
  pub stops : stops_at b x call ≡ false
  pub told : told_at b x call went ≡ false

moved-none : {Parcel : Type 0} (b c : ℕ) (x of : Side) (visit : Visit) (went : Went Parcel) → is_same b x c of ≡ false → moved_by b x (At c of visit) went ≡ []
moved-none b c x of visit (Moved parcel) e = ap (λ t. if_at t parcel) e
moved-none b c x of visit Delayed e = refl
moved-none b c x of visit Told e = refl
moved-none b c x of visit Done e = refl

told-none : {Parcel : Type 0} (b c : ℕ) (x of : Side) (visit : Visit) (went : Went Parcel) → is_same b x c of ≡ false → told_at b x (At c of visit) went ≡ false
told-none b c x of visit Told e = e
told-none b c x of visit (Moved parcel) e = refl
told-none b c x of visit Delayed e = refl
told-none b c x of visit Done e = refl

stops-none : (b c : ℕ) (x of : Side) (visit : Visit) → is_same b x c of ≡ false → stops_at b x (At c of visit) ≡ false
stops-none b c x of Stops e = e
stops-none b c x of Awaits e = refl
stops-none b c x of Passes e = refl
stops-none b c x of Moves e = refl

pub elsewhere-at : {Parcel : Type 0} (b c : ℕ) (x of : Side) (visit : Visit) (went : Went Parcel) → (AreSame b x c of → ⊥)
    → IsElsewhere b x (At c of visit) went
elsewhere-at b c x of visit went differ =
    let e = not-true (is_same b x c of) (λ t. differ (same-tells b x c of t)) in
    record { moved = moved-none b c x of visit went e; stops = stops-none b c x of visit e; told = told-none b c x of visit went e }

elsewhere : {Parcel : Type 0} (b : ℕ) (x : Side) (call : Call) (went : Went Parcel)
    → ((c : ℕ) (of : Side) (visit : Visit) → call ≡ At c of visit → AreSame b x c of → ⊥) → IsElsewhere b x call went
elsewhere b x Alone went differ = record { moved = refl; stops = refl; told = refl }
elsewhere b x Asks went differ = record { moved = refl; stops = refl; told = refl }
elsewhere b x Gives went differ = record { moved = refl; stops = refl; told = refl }
elsewhere b x (At c of visit) went differ = elsewhere-at b c x of visit went (differ c of visit refl)

module _ {Devices Action Entry Parcel : Type 0} {network : Network Devices Action Entry Parcel} (laws : IsLawful network) (s : State Devices Entry Parcel)
    (event : Event Entry)
    (follows : (q : ℕ) → Follows network q (s.histories q)) (enabled : IsEnabled network s event) where
  abbrev pub p : ℕ
  p = event.process

  abbrev pub after : State Devices Entry Parcel
  after = happens network s event

  abbrev pub call : Call
  call = call_of network event.process event.entry

  abbrev pub went : Went Parcel
  went = network.went event.entry

  pub calls : (c : Call) → call ≡ c → CallsNext network p (s.histories p) c
  calls c e = record { action = network.action event.entry; next = enabled.next; call = e }

  pub is-seated : (b : ℕ) (side : Side) (visit : Visit) → call ≡ At b side visit → network.seat b side ≡ p
  is-seated b side visit e = laws.seated p (s.histories p) b side visit enabled.one (follows p) (calls (At b side visit) e)

  -- ---- the acts of each process
  pub acts-own : acts network p (after.histories p) ≡ record { call = call; went = went } ∷ acts network p (s.histories p)
  acts-own = ap (acts network p) (set-same s.histories p (event.entry ∷ s.histories p))

  pub acts-other : (q : ℕ) → (q ≡ p → ⊥) → acts network q (after.histories q) ≡ acts network q (s.histories q)
  acts-other q differ = ap (acts network q) (set-other s.histories p (event.entry ∷ s.histories p) q differ)

  pub at-own : (b : ℕ) (x : Side) → network.seat b x ≡ p → acts_at network after b x ≡ record { call = call; went = went } ∷ acts_at network s b x
  at-own b x e =
      let G : ℕ → Type 0 = λ q. acts network q (after.histories q) ≡ record { call = call; went = went } ∷ acts network q (s.histories q) in
      subst G (sym e) acts-own

  not-here : (b : ℕ) (x : Side) → (network.seat b x ≡ p → ⊥) → IsElsewhere b x call went
  not-here b x differ = elsewhere b x call went (λ c of visit e same. differ
      (ap (λ n. network.seat n x) same.number ∙ ap (network.seat c) same.side ∙ is-seated c of visit e))

  -- what went through a side
  pub passed-after : (b : ℕ) (x : Side) → passed network after b x ≡ passed network s b x ++ moved_by b x call went
  passed-after b x =
      elim (eqb_tells (network.seat b x) p) as (λ _. passed network after b x ≡ passed network s b x ++ moved_by b x call went) [
        | inl own ↦ ap (moved b x) (at-own b x own.1)
        | inr other ↦ ap (moved b x) (acts-other (network.seat b x) other.1) ∙ sym (append-nil (passed network s b x))
            ∙ ap (λ more. passed network s b x ++ more) (sym (not-here b x other.1).moved)
      ]

  pub stop-after : (b : ℕ) (x : Side) → made_stop b x (acts_at network after b x) ≡ (stops_at b x call || made_stop b x (acts_at network s b x))
  stop-after b x =
      elim (eqb_tells (network.seat b x) p) as (λ _. made_stop b x (acts_at network after b x) ≡ (stops_at b x call || made_stop b x (acts_at network s b x))) [
        | inl own ↦ ap (made_stop b x) (at-own b x own.1)
        | inr other ↦ ap (made_stop b x) (acts-other (network.seat b x) other.1)
            ∙ ap (λ t. t || made_stop b x (acts_at network s b x)) (sym (not-here b x other.1).stops)
      ]

  pub told-after : (b : ℕ) (x : Side) → was_told b x (acts_at network after b x) ≡ (told_at b x call went || was_told b x (acts_at network s b x))
  told-after b x =
      elim (eqb_tells (network.seat b x) p) as (λ _. was_told b x (acts_at network after b x)
      ≡ (told_at b x call went || was_told b x (acts_at network s b x))) [
        | inl own ↦ ap (was_told b x) (at-own b x own.1)
        | inr other ↦ ap (was_told b x) (acts-other (network.seat b x) other.1)
            ∙ ap (λ t. t || was_told b x (acts_at network s b x)) (sym (not-here b x other.1).told)
      ]
