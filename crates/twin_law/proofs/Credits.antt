-- What a process put is no more than so many times what it took, by what it is still worth at each place.
use Rattle.std.proofs.Common.{◌≡◌, inl, inr, ℕ, ◌+◌, ◌*◌, ◌≤◌, ◌==◌, ◌&&◌, true, false, List, [], ◌∷◌, length, refl, sym, ◌∙◌, ap, subst, arith}
use Rattle.network_law.specs.Acts.{Call, Alone, At, Asks, Gives, Moves, Went, Delayed, Told, Moved, moved_by, if_at}
use Rattle.network_law.specs.Acts as go
use Rattle.network_law.specs.Network.{IsOne, acts}
use Rattle.network_law.specs.Network as law
use Rattle.solo_base.specs.declared.outcome.Side.{Side}
use Rattle.solo_base.specs.declared.outcome.Side.TheVariants.{Sender, Receiver}
use Rattle.batch_procs.specs.declared.actions.Reply.{Reply}
use Rattle.batch_procs.specs.Jobs.{Jobs}
use Rattle.batch_procs.specs.Parcels.{Parcel, OfPage}
use Rattle.place_law.specs.Process.{Does, LacksMemory, Delays}
use Rattle.batch_procs.specs.declared.actions.Reply.TheVariants as reply
use Rattle.twin_law.specs.Process.{Action, AwaitRoom, AwaitItem, Request, TakePage, Release, Local, Stop, Ended, Entry, Process, stands_behind, place}
use Rattle.twin_law.specs.Table.{process}
use Rattle.twin_law.specs.Twin.{call, went_by, Fits, IsGood, MayLack, twin}
use Rattle.twin_law.proofs.Marks.{makes, IsAround, made}
use Rattle.twin_law.proofs.Pays.{Spot, spot, many, many_by, many-more, sum_of}

-- ---- plain numbers
still : (o e w' w km : ℕ) → o ≡ 0 → e ≡ 0 → w' ≡ w → o + e + w' ≤ km + w
still o e w' w km a b c = omega (arith, a, b, c)

step-on : (sent before w km sent' km' o e w' gain : ℕ) → sent + before + w ≤ km → o + e + w' ≤ gain + w → sent' ≡ sent + o → km' ≡ km + gain
    → sent' + (e + before) + w' ≤ km'
step-on sent before w km sent' km' o e w' gain was now a b = omega (arith, was, now, a, b)

nothing-yet : (sent w km : ℕ) → sent ≡ 0 → w ≡ 0 → sent + 0 + w ≤ km
nothing-yet sent w km none first = omega (arith, none, first)

spread : (k a b : ℕ) → k * (a + b) ≡ k * a + k * b
spread k a b = grind arith

-- a call that moved nothing
abbrev pub IsStill : {L : Type 0} → Went (Parcel L) → Type 0
IsStill (Moved parcel) = ⊥
IsStill w = Unit {0}

none-many : (L : Type 0) (spots : List Spot) → many {L = L} spots [] ≡ 0
none-many L [] = refl
none-many L (s ∷ rest) = (let none = none-many L rest in omega (arith, none))

-- these buffers, at the sides that send
abbrev pub sends : List ℕ → List Spot
sends [] = []
sends (b ∷ bs) = spot b Sender ∷ sends bs

module _ {L : Type 0} where
  pub around-still : (a : Action) (r : Reply L) → IsAround a → Fits a r → IsStill (went_by a r)
  around-still (AwaitRoom b) reply.Done is fits = tt
  around-still (AwaitRoom b) reply.Stopped is fits = tt
  around-still (AwaitItem b) reply.Done is fits = tt
  around-still (AwaitItem b) reply.Stopped is fits = tt
  around-still Request reply.Done is fits = tt
  around-still Release reply.Done is fits = tt
  around-still (Stop b) reply.Done is fits = tt
  around-still (Ended how) reply.Done is fits = tt
  around-still (AwaitRoom b) r is fits = absurd fits
  around-still (AwaitItem b) r is fits = absurd fits
  around-still Request r is fits = absurd fits
  around-still Release r is fits = absurd fits
  around-still (Stop b) r is fits = absurd fits
  around-still (Ended how) r is fits = absurd fits
  around-still a r is fits = absurd is

  pub same-place : (p : Process L) (x : p.Place) (a : Action) (r : Reply L) → IsAround a → stands_behind p x a r ≡ x
  same-place p x (AwaitRoom b) r is = refl
  same-place p x (AwaitItem b) r is = refl
  same-place p x Request r is = refl
  same-place p x Release r is = refl
  same-place p x (Stop b) r is = refl
  same-place p x (Ended how) r is = refl
  same-place p x a r is = absurd is

  none-moved : (b : ℕ) (side : Side) (c : Call) (w : Went (Parcel L)) → IsStill w → length (moved_by b side c w) ≡ 0
  none-moved b side (At d of visit) Delayed is = refl
  none-moved b side (At d of visit) Told is = refl
  none-moved b side (At d of visit) go.Done is = refl
  none-moved b side (At d of visit) (Moved parcel) is = absurd is
  none-moved b side Alone w is = refl
  none-moved b side Asks w is = refl
  none-moved b side Gives w is = refl

  pub still-many : (spots : List Spot) (c : Call) (w : Went (Parcel L)) → IsStill w → many_by spots c w ≡ 0
  still-many [] c w is = refl
  still-many (s ∷ rest) c w is = (let one = none-moved s.buffer s.side c w is in let more = still-many rest c w is in omega (arith, one, more))

  -- at sides that send, an answer without memory moved nothing
  pub not-sent : (b c : ℕ) (parcel : Parcel L) → length (moved_by b Sender (At c Receiver Moves) (Moved parcel)) ≡ 0
  not-sent b c parcel = elim (b == c) as (λ t. length (if_at (t && false) parcel) ≡ 0) [ true ↦ refl | false ↦ refl ]

  pub lacks-none : (bs : List ℕ) (p : ℕ) (a : Action) (r : Reply L) → MayLack a r → many_by (sends bs) (call p a) (went_by a r) ≡ 0
  lacks-none [] p a r may = refl
  lacks-none (b ∷ bs) p (TakePage c) (reply.Page page last) may =
      (let one = not-sent b c (OfPage page last) in let more = lacks-none bs p (TakePage c) (reply.Page page last) may in omega (arith, one, more))
  lacks-none (b ∷ bs) p Local reply.Done may = (let more = lacks-none bs p Local reply.Done may in omega (arith, more))
  lacks-none (b ∷ bs) p a r may = absurd may

module _ {L : Type 0} (J : Jobs L) (p : ℕ) (outs ins : List Spot) (extra : Entry L → ℕ) (k : ℕ) (Is : (process J p).Place → Type 0)
    (worth : (process J p).Place → ℕ) where
  -- one answer: what it puts, and what its place is worth then, comes of what it takes and of what its place was worth
  pub record Spends (x : (process J p).Place) (a : Action) (r : Reply L) : Type 0 where
    pub is : Is (stands_behind (process J p) x a r)
    pub few : many_by outs (call p a) (went_by a r) + extra (Does a r) + worth (stands_behind (process J p) x a r) ≤ k * many_by ins (call p a)
        (went_by a r) + worth x

  pub record HasCredit : Type 0 where
    pub first_is : Is (process J p).start
    pub first : worth (process J p).start ≡ 0
    pub step : (x : (process J p).Place) (r : Reply L) → Fits (makes ((process J p).aims x)) r → IsGood J r → Is x → Spends x (makes ((process J p).aims x)) r
    pub around : (a : Action) (r : Reply L) → IsAround a → extra (Does a r) ≡ 0
    pub waits : (a : Action) → extra (Delays a) ≡ 0
    pub lacks : (a : Action) (r : Reply L) → MayLack a r → many_by outs (call p a) (went_by a r) + extra (LacksMemory a r) ≡ 0

  pub record Owes (h : List (Entry L)) : Type 0 where
    pub is : Is (place (process J p) h)
    pub few : many outs (acts (twin J) p h) + sum_of extra h + worth (place (process J p) h) ≤ k * many ins (acts (twin J) p h)

  module _ (one : IsOne (twin J) p) (has : HasCredit) where
    around-spends : (x : (process J p).Place) (a : Action) (r : Reply L) → IsAround a → Fits a r → Is x → Spends x a r
    around-spends x a r around fits is =
        let same = same-place (process J p) x a r around in
        record {
          is = subst Is (sym same) is;
          few = still (many_by outs (call p a) (went_by a r)) (extra (Does a r)) (worth (stands_behind (process J p) x a r)) (worth x)
              (k * many_by ins (call p a) (went_by a r))
              (still-many outs (call p a) (went_by a r) (around-still a r around fits)) (has.around a r around) (ap worth same);
        }

    times-more : (c : Call) (w : Went (Parcel L)) (h : List (Entry L))
        → k * many ins (record { call = c; went = w } ∷ acts (twin J) p h) ≡ k * many ins (acts (twin J) p h) + k * many_by ins c w
    times-more c w h = ap (λ n. k * n) (many-more ins c w (acts (twin J) p h)) ∙ spread k (many ins (acts (twin J) p h)) (many_by ins c w)

    one-spends : (h : List (Entry L)) (a : Action) (r : Reply L) → law.Follows (twin J) p (Does a r ∷ h) → Is (place (process J p) h)
        → Spends (place (process J p) h) a r
    one-spends h a r follows is =
        elim (made J p h a one follows.0) as (λ _. Spends (place (process J p) h) a r) [
          | inl around ↦ around-spends (place (process J p) h) a r around follows.1.0 is
          | inr same ↦ (subst (λ a. Fits a r → Spends (place (process J p) h) a r) same
              (λ fits. has.step (place (process J p) h) r fits follows.1.1 is)) follows.1.0
        ]

    pub owes : (h : List (Entry L)) → law.Follows (twin J) p h → Owes h
    owes [] follows = record {
      is = has.first_is;
      few = nothing-yet (many {L = L} outs []) (worth (process J p).start) (k * many {L = L} ins []) (none-many L outs) has.first;
    }
    owes (Does a r ∷ h) follows =
        let was = owes h follows.2 in
        let now = one-spends h a r follows was.is in
        let ac = acts (twin J) p h in
        record {
          is = now.is;
          few = step-on (many outs ac) (sum_of extra h) (worth (place (process J p) h)) (k * many ins ac) _ _ (many_by outs (call p a) (went_by a r))
              (extra (Does a r))
              (worth (stands_behind (process J p) (place (process J p) h) a r)) (k * many_by ins (call p a) (went_by a r)) was.few now.few
              (many-more outs (call p a) (went_by a r) ac) (times-more (call p a) (went_by a r) h);
        }
    owes (LacksMemory a r ∷ h) follows =
        let was = owes h follows.2 in
        let ac = acts (twin J) p h in
        record {
          is = was.is;
          few = step-on (many outs ac) (sum_of extra h) (worth (place (process J p) h)) (k * many ins ac) _ _ (many_by outs (call p a) (went_by a r))
              (extra (LacksMemory a r))
              (worth (place (process J p) h)) (k * many_by ins (call p a) (went_by a r)) was.few
              (still-lacks _ _ (worth (place (process J p) h)) (k * many_by ins (call p a) (went_by a r)) (has.lacks a r follows.1.1))
              (many-more outs (call p a) (went_by a r) ac) (times-more (call p a) (went_by a r) h);
        }
      where
        still-lacks : (o e w km : ℕ) → o + e ≡ 0 → o + e + w ≤ km + w
        still-lacks o e w km none = omega (arith, none)
    owes (Delays a ∷ h) follows =
        let was = owes h follows.2 in
        let ac = acts (twin J) p h in
        record {
          is = was.is;
          few = step-on (many outs ac) (sum_of extra h) (worth (place (process J p) h)) (k * many ins ac) _ _ (many_by outs (call p a) Delayed)
              (extra (Delays a))
              (worth (place (process J p) h)) (k * many_by ins (call p a) Delayed) was.few
              (still (many_by outs (call p a) Delayed) (extra (Delays a)) (worth (place (process J p) h)) (worth (place (process J p) h))
              (k * many_by ins (call p a) Delayed)
              (still-many outs (call p a) Delayed tt) (has.waits a) refl)
              (many-more outs (call p a) Delayed ac) (times-more (call p a) Delayed h);
        }
