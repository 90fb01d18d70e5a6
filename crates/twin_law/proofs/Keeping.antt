-- What holds of a process's place and of what it took and put, however its entries came: at its beginning, and behind each of its aims. With
-- the page that it awaits no fault is a damaged page.
use Rattle.std.proofs.Common.{◌≡◌, inl, inr, ℕ, List, [], ◌∷◌, ◌++◌, None, Some, refl, sym, ◌∙◌, ap, subst}
use Rattle.network_law.specs.Network.{IsOne}
use Rattle.network_law.specs.Network as law
use Rattle.solo_base.specs.declared.outcome.Outcome.TheVariants as outcome
use Rattle.solo_base.specs.declared.outcome.Cause.{Cause}
use Rattle.solo_base.specs.declared.outcome.Cause.TheVariants as cause
use Rattle.solo_devices.specs.declared.card_read.CardRead.TheVariants as read
use Rattle.batch_procs.specs.Faults.{IsDamaged}
use Rattle.batch_procs.specs.declared.actions.Reply.{Reply}
use Rattle.batch_procs.specs.declared.actions.Reply.TheVariants as reply
use Rattle.batch_procs.specs.Jobs.{Jobs}
use Rattle.batch_procs.specs.Parcels.{Parcel}
use Rattle.place_law.specs.Process.{Does, LacksMemory, Delays, fault_in}
use Rattle.twin_law.specs.Process.{Action, AwaitRoom, AwaitItem, Request, Release, Print, Stop, Ended, Entry, Process, stands_behind, place, aim, fault_at, given_cause, caused}
use Rattle.twin_law.specs.Table.{process}
use Rattle.twin_law.specs.Twin.{Fits, IsGood, twin}
use Rattle.twin_law.specs.Alone.{put_at, puts_by, puts}
use Rattle.twin_law.proofs.Marks.{makes, IsAround, made}
use Rattle.twin_law.proofs.Kahn.{put-append, seen_by, seen, around-unseen}
use Rattle.twin_law.proofs.Faults.{same-cause, or-fault, around-fault}
use Rattle.twin_law.proofs.Runs.{none-behind}

-- ---- what each answer to a process adds to a list
abbrev pub added : {L : Type 0} → (Action → Reply L → List (Parcel L)) → List (Entry L) → List (Parcel L)
added by [] = []
added by (Does a r ∷ before) = added by before ++ by a r
added by (LacksMemory a r ∷ before) = added by before
added by (Delays a ∷ before) = added by before

-- what goes into a buffer
abbrev pub sent_by : {L : Type 0} → ℕ → Action → Reply L → List (Parcel L)
sent_by b a r = put_at b (puts_by a r)

abbrev pub nothing_by : {L : Type 0} → Action → Reply L → List (Parcel L)
nothing_by a r = []

pub sent-added : {L : Type 0} (b : ℕ) (h : List (Entry L)) → added (sent_by b) h ≡ put_at b (puts h)
sent-added b [] = refl
sent-added b (Does a r ∷ h) = ap (λ ps. ps ++ sent_by b a r) (sent-added b h) ∙ sym (put-append b (puts h) (puts_by a r))
sent-added b (LacksMemory a r ∷ h) = sent-added b h
sent-added b (Delays a ∷ h) = sent-added b h

pub seen-added : {L : Type 0} (b : ℕ) (h : List (Entry L)) → added (seen_by b) h ≡ seen b h
seen-added b [] = refl
seen-added b (Does a r ∷ h) = ap (λ ps. ps ++ seen_by b a r) (seen-added b h)
seen-added b (LacksMemory a r ∷ h) = seen-added b h
seen-added b (Delays a ∷ h) = seen-added b h

-- the calls around a move add nothing
abbrev pub AddsNone : {L : Type 0} → (Action → Reply L → List (Parcel L)) → Type 0
AddsNone {L} by = (a : Action) (r : Reply L) → IsAround a → by a r ≡ []

pub sent-none : {L : Type 0} (b : ℕ) → AddsNone {L = L} (sent_by b)
sent-none b (AwaitRoom c) r is = refl
sent-none b (AwaitItem c) r is = refl
sent-none b Request r is = refl
sent-none b Release r is = refl
sent-none b (Stop c) r is = refl
sent-none b (Ended how) r is = refl
sent-none b a r is = absurd is

pub seen-none : {L : Type 0} (b : ℕ) → AddsNone {L = L} (seen_by b)
seen-none b a r is = around-unseen b a r is

pub nothing-none : {L : Type 0} → AddsNone {L = L} nothing_by
nothing-none a r is = refl

around-place : {L : Type 0} (p : Process L) (x : p.Place) (a : Action) (r : Reply L) → IsAround a → stands_behind p x a r ≡ x
around-place p x (AwaitRoom b) r is = refl
around-place p x (AwaitItem b) r is = refl
around-place p x Request r is = refl
around-place p x Release r is = refl
around-place p x (Stop b) r is = refl
around-place p x (Ended how) r is = refl
around-place p x a r is = absurd is

-- ---- which answer gives a damaged page
fault-not : (a : Action) (c : Cause) → fault_at a ≡ c → IsDamaged c → ⊥
fault-not (Print line) c e is = subst IsDamaged (sym e) is
fault-not other c e is = subst IsDamaged (sym e) is

other-fault : (c d : Cause) → Some (outcome.Fault d) ≡ Some (outcome.Fault c) → (IsDamaged d → ⊥) → IsDamaged c → ⊥
other-fault c d e not is = not (subst IsDamaged (sym (same-cause d c e)) is)

found-not : {L : Type 0} (p : Process L) (x : p.Place) (a : Action) (r : Reply L) (c : Cause) → p.finds x r ≡ None
    → given_cause p x a r ≡ Some (outcome.Fault c) → IsDamaged c → ⊥
found-not p x a reply.Done c none e is = cc
found-not p x a reply.Stopped c none e is = cc
found-not p x a reply.Failed c none e is = fault-not a c (same-cause (fault_at a) c e) is
found-not p x a reply.NoMemory c none e is = other-fault c cause.NoMemory e (λ no. no) is
found-not p x a (reply.Card (read.Card line)) c none e is = cc
found-not p x a (reply.Card read.Spoiled) c none e is = cc
found-not p x a (reply.Card read.End) c none e is = cc
found-not p x a (reply.Card read.Failed) c none e is = other-fault c cause.ReadFault e (λ no. no) is
found-not p x a (reply.Card read.Limit) c none e is = other-fault c cause.DeckLimit e (λ no. no) is
found-not p x a (reply.Feed f) c none e is = cc
found-not p x a (reply.Page page last) c none e is = (let no = ap fault_in (sym none) ∙ e in cc)
found-not p x a (reply.Loaded load) c none e is = cc

-- ---- over histories: three lists of what was taken or put
module _ {L : Type 0} (J : Jobs L) (p : ℕ) (one : IsOne (twin J) p) (tb fb gb : Action → Reply L → List (Parcel L)) (t_none : AddsNone tb)
    (f_none : AddsNone fb) (g_none : AddsNone gb) (Is : (process J p).Place → List (Parcel L) → List (Parcel L) → List (Parcel L) → Type 0)
    (Fine : List (Parcel L) → List (Parcel L) → List (Parcel L) → Type 0)
    (shorter : (t f g t' f' g' : List (Parcel L)) → Fine (t ++ t') (f ++ f') (g ++ g') → Fine t f g)
    (begins : Is (process J p).start [] [] [])
    (steps : (x : (process J p).Place) (r : Reply L) (t f g : List (Parcel L)) → Fits (makes ((process J p).aims x)) r → IsGood J r
    → Fine (t ++ tb (makes ((process J p).aims x)) r) (f ++ fb (makes ((process J p).aims x)) r) (g ++ gb (makes ((process J p).aims x)) r) → Is x t f g
    → Is (stands_behind (process J p) x (makes ((process J p).aims x)) r) (t ++ tb (makes ((process J p).aims x)) r) (f ++ fb (makes ((process J p).aims x)) r)
    (g ++ gb (makes ((process J p).aims x)) r)) where
  abbrev IsBehind : (process J p).Place → Action → Reply L → List (Parcel L) → List (Parcel L) → List (Parcel L) → Type 0
  IsBehind x a r t f g = Is (stands_behind (process J p) x a r) (t ++ tb a r) (f ++ fb a r) (g ++ gb a r)

  abbrev IsFine : List (Entry L) → Type 0
  IsFine h = Fine (added tb h) (added fb h) (added gb h)

  abbrev FineBehind : List (Entry L) → Action → Reply L → Type 0
  FineBehind h a r = Fine (added tb h ++ tb a r) (added fb h ++ fb a r) (added gb h ++ gb a r)

  around-keeps : (x : (process J p).Place) (a : Action) (r : Reply L) (t f g : List (Parcel L)) → IsAround a → Is x t f g → IsBehind x a r t f g
  around-keeps x a r t f g around is =
      subst (λ y. Is y (t ++ tb a r) (f ++ fb a r) (g ++ gb a r)) (sym (around-place (process J p) x a r around))
      (subst (λ (t : List (Parcel L)). Is x t (f ++ fb a r) (g ++ gb a r)) (sym (none-behind t (tb a r) (t_none a r around)))
      (subst (λ (f : List (Parcel L)). Is x t f (g ++ gb a r)) (sym (none-behind f (fb a r) (f_none a r around)))
      (subst (λ (g : List (Parcel L)). Is x t f g) (sym (none-behind g (gb a r) (g_none a r around))) is)))

  pub keeps : (h : List (Entry L)) → law.Follows (twin J) p h → IsFine h → Is (place (process J p) h) (added tb h) (added fb h) (added gb h)
  keeps [] follows fine = begins
  keeps (Does a r ∷ h) follows fine =
      let was = keeps h follows.2 (shorter (added tb h) (added fb h) (added gb h) (tb a r) (fb a r) (gb a r) fine) in
      elim (made J p h a one follows.0) as (λ _. IsBehind (place (process J p) h) a r (added tb h) (added fb h) (added gb h)) [
        | inl around ↦ around-keeps (place (process J p) h) a r (added tb h) (added fb h) (added gb h) around was
        | inr same ↦ (subst (λ a. Fits a r → FineBehind h a r → IsBehind (place (process J p) h) a r (added tb h) (added fb h) (added gb h)) same
            (λ fits fine. steps (place (process J p) h) r (added tb h) (added fb h) (added gb h) fits follows.1.1 fine was)) follows.1.0 fine
      ]
  keeps (LacksMemory a r ∷ h) follows fine = keeps h follows.2 fine
  keeps (Delays a ∷ h) follows fine = keeps h follows.2 fine

  module _ (finds : (x : (process J p).Place) (r : Reply L) (t f g : List (Parcel L)) → Fits (makes ((process J p).aims x)) r
      → Fine (t ++ tb (makes ((process J p).aims x)) r) (f ++ fb (makes ((process J p).aims x)) r) (g ++ gb (makes ((process J p).aims x)) r) → Is x t f g
      → (process J p).finds x r ≡ None) where
    abbrev NotDamaged : List (Entry L) → Action → Reply L → Cause → Type 0
    NotDamaged h a r c = given_cause (process J p) (place (process J p) h) a r ≡ Some (outcome.Fault c) → IsDamaged c → ⊥

    not-now : (h : List (Entry L)) (a : Action) (r : Reply L) (c : Cause) → law.Follows (twin J) p (Does a r ∷ h) → FineBehind h a r → NotDamaged h a r c
    not-now h a r c follows fine =
        let was = keeps h follows.2 (shorter (added tb h) (added fb h) (added gb h) (tb a r) (fb a r) (gb a r) fine) in
        elim (made J p h a one follows.0) as (λ _. NotDamaged h a r c) [
          | inl around ↦ (λ e is. around-fault (process J p) (place (process J p) h) a r c around follows.1.0 e)
          | inr same ↦ (subst (λ a. Fits a r → FineBehind h a r → NotDamaged h a r c) same
              (λ fits fine. found-not (process J p) (place (process J p) h) (makes (aim (process J p) h)) r c
              (finds (place (process J p) h) r (added tb h) (added fb h) (added gb h) fits fine was))) follows.1.0 fine
        ]

    pub none-damaged : (h : List (Entry L)) (c : Cause) → law.Follows (twin J) p h → IsFine h → caused (process J p) h ≡ Some (outcome.Fault c)
        → IsDamaged c → ⊥
    none-damaged [] c follows fine e = absurd cc
    none-damaged (Does a r ∷ h) c follows fine e =
        or-fault (λ c. IsDamaged c → ⊥) (caused (process J p) h) (given_cause (process J p) (place (process J p) h) a r) c
        (none-damaged h c follows.2 (shorter (added tb h) (added fb h) (added gb h) (tb a r) (fb a r) (gb a r) fine)) (not-now h a r c follows fine) e
    none-damaged (LacksMemory a r ∷ h) c follows fine e =
        or-fault (λ c. IsDamaged c → ⊥) (caused (process J p) h) (Some (outcome.Fault cause.NoMemory)) c (none-damaged h c follows.2 fine)
        (λ e. subst (λ c. IsDamaged c → ⊥) (same-cause cause.NoMemory c e) (λ no. no)) e
    none-damaged (Delays a ∷ h) c follows fine e = none-damaged h c follows.2 fine e
