-- What the acts of a process of the row tell is what its history tells.
use Rattle.std.proofs.Common.{◌≡◌, ℕ, suc, ◌==◌, Bool, true, false, ◌&&◌, ◌||◌, List, [], ◌∷◌, None, refl, ◌∙◌, ap, subst, arith}
use Rattle.std.proofs.lemmas.Bool.{eqb-true}
use Rattle.solo_base.specs.declared.outcome.Side.{Side}
use Rattle.solo_base.specs.declared.outcome.Side.TheVariants.{Sender, Receiver}
use Rattle.solo_base.specs.declared.outcome.Outcome.TheVariants as outcome
use Rattle.queue_var.specs.Sides.{same_side}
use Rattle.batch_procs.specs.declared.actions.Action.{Action}
use Rattle.batch_procs.specs.declared.actions.Action.TheVariants as act
use Rattle.batch_procs.specs.declared.actions.Reply.{Reply}
use Rattle.batch_procs.specs.declared.actions.Reply.TheVariants as reply
use Rattle.batch_procs.specs.Parcels.{Parcel}
use Rattle.batch_procs.specs.History.{Entry, Does, LacksMemory, Delays, holds, holds_after, has_stopped, stops_at}
use Rattle.batch_procs.specs.Fits.{Fits, MayLack, MayWait}
use Rattle.batch_procs.specs.Causes.{caused, given_cause}
use Rattle.batch_procs.specs.Process.{Process, Follows}
use Rattle.batch_procs.specs.Laws.{AwaitedRoom, AwaitedItem}
use Rattle.batch_procs.proofs.Closing.{or-none}
use Rattle.batch_procs.proofs.Holding.{some-not_none}
use Rattle.network_law.specs.Acts as acts
use Rattle.network_law.specs.Acts.{Went, Delayed, is_delayed, is_same, made_stop, found_by, found_ready, holds_by}
use Rattle.network_law.specs.Network as law
use Rattle.network_law.proofs.Numbers.{same-number, other-number}
use Rattle.core_law.specs.Core.{upstream, seat, side_at, call, went_by, went, core}
use Rattle.batch_procs.specs.Jobs.{Jobs, AreJobs}

pub same-here : (b : ℕ) (side : Side) → is_same b side b side ≡ true
same-here b Sender = ap (λ t. t && true) (same-number b)
same-here b Receiver = ap (λ t. t && true) (same-number b)

module _ {L : Type 0} {J : Jobs L} (jobs : AreJobs J) where
  -- ---- histories
  pub follows-of : (row : ℕ → Process L) (p : ℕ) (h : List (Entry L)) → law.Follows (core J row) p h → Follows J (row p) h
  follows-of row p [] follows = tt
  follows-of row p (entry ∷ h) follows = (follows.0, follows.1, follows-of row p h follows.2)

  -- ---- sides
  and-false : (t : Bool) → (t && false) ≡ false
  and-false true = refl
  and-false false = refl

  not-itself : (b : ℕ) → suc b ≡ b → ⊥
  not-itself b e = omega (arith, e)

  seat-side : (b : ℕ) (side : Side) → same_side side (side_at (seat b side) b) ≡ true
  seat-side b Sender = rw (same-number b) refl
  seat-side b Receiver = rw (other-number (suc b) b (not-itself b)) refl

  -- at its own seat a stop of the buffer is a stop of the side
  stop-same : (b c : ℕ) (side : Side) → is_same b side c (side_at (seat b side) c) ≡ (b == c)
  stop-same b c side =
      let P : Bool → Type 0 = λ t. (b == c) ≡ t → (t && same_side side (side_at (seat b side) c)) ≡ t in
      elim (b == c) as P [
        | true ↦ (λ e. subst (λ c. same_side side (side_at (seat b side) c) ≡ true) (eqb-true b c e) (seat-side b side))
        | false ↦ (λ e. refl)
      ] refl

  -- ---- stops
  stop-does : (p b : ℕ) (side : Side) (a : Action) → seat b side ≡ p → acts.stops_at b side (call p a) ≡ stops_at b a
  stop-does p b side (act.Stop c) is = subst (λ p. is_same b side c (side_at p c) ≡ (b == c)) is (stop-same b c side)
  stop-does p b side act.ReadCard is = refl
  stop-does p b side (act.PutFeed f) is = refl
  stop-does p b side act.TakeFeed is = refl
  stop-does p b side act.AwaitRoom is = refl
  stop-does p b side act.AwaitItem is = refl
  stop-does p b side act.Request is = refl
  stop-does p b side (act.PutPage page) is = refl
  stop-does p b side act.TakePage is = refl
  stop-does p b side act.Release is = refl
  stop-does p b side (act.Load file) is = refl
  stop-does p b side act.Local is = refl
  stop-does p b side (act.Print line) is = refl
  stop-does p b side (act.Ended how) is = refl

  stop-lacks : (p b : ℕ) (side : Side) (a : Action) (r : Reply L) → MayLack a r → acts.stops_at b side (call p a) ≡ false
  stop-lacks p b side act.TakePage (reply.Page page last) may = refl
  stop-lacks p b side act.Local reply.Done may = refl
  stop-lacks p b side a r may = absurd may

  stop-waits : (p b : ℕ) (side : Side) (a : Action) → MayWait a → acts.stops_at b side (call p a) ≡ false
  stop-waits p b side (act.PutFeed f) may = refl
  stop-waits p b side act.TakeFeed may = refl
  stop-waits p b side act.AwaitRoom may = refl
  stop-waits p b side act.AwaitItem may = refl
  stop-waits p b side act.Request may = refl
  stop-waits p b side a may = absurd may

  pub stops-are : (row : ℕ → Process L) (p b : ℕ) (side : Side) (h : List (Entry L)) → seat b side ≡ p → Follows J (row p) h
      → made_stop b side (law.acts (core J row) p h) ≡ has_stopped b h
  stops-are row p b side [] is follows = refl
  stops-are row p b side (Does a r ∷ h) is follows = ap (λ t. t || made_stop b side (law.acts (core J row) p h)) (stop-does p b side a is)
      ∙ ap (λ t. stops_at b a || t) (stops-are row p b side h is follows.2)
  stops-are row p b side (LacksMemory a r ∷ h) is follows = ap (λ t. t || made_stop b side (law.acts (core J row) p h)) (stop-lacks p b side a r follows.1.1)
      ∙ stops-are row p b side h is follows.2
  stops-are row p b side (Delays a ∷ h) is follows = ap (λ t. t || made_stop b side (law.acts (core J row) p h)) (stop-waits p b side a follows.1)
      ∙ stops-are row p b side h is follows.2

  -- ---- the disk
  holds-does : (p : ℕ) (before : Bool) (a : Action) (r : Reply L) → Fits J a r → holds_by before (call p a) (went_by a r) ≡ holds_after before a
  holds-does p before act.Request reply.Done fits = refl
  holds-does p before act.Request r fits = absurd fits
  holds-does p before act.Release reply.Done fits = refl
  holds-does p before act.Release r fits = absurd fits
  holds-does p before act.ReadCard r fits = refl
  holds-does p before (act.PutFeed f) r fits = refl
  holds-does p before act.TakeFeed r fits = refl
  holds-does p before act.AwaitRoom r fits = refl
  holds-does p before act.AwaitItem r fits = refl
  holds-does p before (act.PutPage page) r fits = refl
  holds-does p before act.TakePage r fits = refl
  holds-does p before (act.Load file) r fits = refl
  holds-does p before act.Local r fits = refl
  holds-does p before (act.Print line) r fits = refl
  holds-does p before (act.Stop b) r fits = refl
  holds-does p before (act.Ended how) r fits = refl

  holds-lacks : (p : ℕ) (before : Bool) (a : Action) (r : Reply L) → MayLack a r → holds_by before (call p a) (went_by a r) ≡ before
  holds-lacks p before act.TakePage (reply.Page page last) may = refl
  holds-lacks p before act.Local reply.Done may = refl
  holds-lacks p before a r may = absurd may

  holds-waits : (p : ℕ) (before : Bool) (a : Action) → MayWait a → holds_by before (call p a) (went {L = L} (Delays a)) ≡ before
  holds-waits p before (act.PutFeed f) may = refl
  holds-waits p before act.TakeFeed may = refl
  holds-waits p before act.AwaitRoom may = refl
  holds-waits p before act.AwaitItem may = refl
  holds-waits p before act.Request may = refl
  holds-waits p before a may = absurd may

  pub holds-are : (row : ℕ → Process L) (p : ℕ) (h : List (Entry L)) → Follows J (row p) h → acts.holds (law.acts (core J row) p h) ≡ holds h
  holds-are row p [] follows = refl
  holds-are row p (Does a r ∷ h) follows = holds-does p (acts.holds (law.acts (core J row) p h)) a r follows.1
      ∙ ap (λ t. holds_after t a) (holds-are row p h follows.2)
  holds-are row p (LacksMemory a r ∷ h) follows = holds-lacks p (acts.holds (law.acts (core J row) p h)) a r follows.1.1 ∙ holds-are row p h follows.2
  holds-are row p (Delays a ∷ h) follows = holds-waits p (acts.holds (law.acts (core J row) p h)) a follows.1 ∙ holds-are row p h follows.2

  -- ---- what was awaited
  room-found : (p : ℕ) (before : Bool) (h : List (Entry L)) (r : Reply L) → Fits J act.AwaitRoom r → caused (Does act.AwaitRoom r ∷ h) ≡ None
      → found_by p Sender before (call p act.AwaitRoom) (went_by act.AwaitRoom r) ≡ true
  room-found p before h reply.Done fits none = same-here p Sender
  room-found p before h reply.Stopped fits none = absurd (some-not_none (caused h) outcome.Stopped none)
  room-found p before h r fits none = absurd fits

  item-found : (p : ℕ) (before : Bool) (h : List (Entry L)) (r : Reply L) → Fits J act.AwaitItem r → caused (Does act.AwaitItem r ∷ h) ≡ None
      → found_by (upstream p) Receiver before (call p act.AwaitItem) (went_by act.AwaitItem r) ≡ true
  item-found p before h reply.Done fits none = same-here (upstream p) Receiver
  item-found p before h reply.Stopped fits none = absurd (some-not_none (caused h) outcome.Stopped none)
  item-found p before h r fits none = absurd fits

  asked-found : (b p : ℕ) (side : Side) (before : Bool) (r : Reply L) → Fits J act.Request r
      → found_by b side before (call p act.Request) (went_by act.Request r) ≡ before
  asked-found b p side before reply.Done fits = refl
  asked-found b p side before r fits = absurd fits

  waits-found : (b p : ℕ) (side : Side) (before : Bool) (a : Action) → MayWait a → found_by b side before (call p a) (went {L = L} (Delays a)) ≡ before
  waits-found b p side before (act.PutFeed f) may = refl
  waits-found b p side before act.TakeFeed may = refl
  waits-found b p side before act.AwaitRoom may = refl
  waits-found b p side before act.AwaitItem may = refl
  waits-found b p side before act.Request may = refl
  waits-found b p side before a may = absurd may

  pub room-ready : (row : ℕ → Process L) (p : ℕ) (h : List (Entry L)) → Follows J (row p) h → caused h ≡ None → AwaitedRoom h
      → found_ready p Sender (law.acts (core J row) p h) ≡ true
  room-ready row p [] follows none awaited = absurd awaited
  room-ready row p (Does act.AwaitRoom r ∷ h) follows none awaited = room-found p (found_ready p Sender (law.acts (core J row) p h)) h r follows.1 none
  room-ready row p (Does act.Request r ∷ h) follows none awaited = asked-found p p Sender (found_ready p Sender (law.acts (core J row) p h)) r follows.1
      ∙ room-ready row p h follows.2 (or-none (caused h) (given_cause act.Request r h) none) awaited
  room-ready row p (Does a r ∷ h) follows none awaited = absurd awaited
  room-ready row p (LacksMemory a r ∷ h) follows none awaited = absurd awaited
  room-ready row p (Delays a ∷ h) follows none awaited = waits-found p p Sender (found_ready p Sender (law.acts (core J row) p h)) a follows.1
      ∙ room-ready row p h follows.2 none awaited

  pub item-ready : (row : ℕ → Process L) (p : ℕ) (h : List (Entry L)) → Follows J (row p) h → caused h ≡ None → AwaitedItem h
      → found_ready (upstream p) Receiver (law.acts (core J row) p h) ≡ true
  item-ready row p [] follows none awaited = absurd awaited
  item-ready row p (Does act.AwaitItem r ∷ h) follows none awaited = item-found p
      (found_ready (upstream p) Receiver (law.acts (core J row) p h)) h r follows.1 none
  item-ready row p (Does act.Request r ∷ h) follows none awaited = asked-found (upstream p) p Receiver
      (found_ready (upstream p) Receiver (law.acts (core J row) p h)) r follows.1
      ∙ item-ready row p h follows.2 (or-none (caused h) (given_cause act.Request r h) none) awaited
  item-ready row p (Does a r ∷ h) follows none awaited = absurd awaited
  item-ready row p (LacksMemory a r ∷ h) follows none awaited = absurd awaited
  item-ready row p (Delays a ∷ h) follows none awaited = waits-found (upstream p) p Receiver
      (found_ready (upstream p) Receiver (law.acts (core J row) p h)) a follows.1 ∙ item-ready row p h follows.2 none awaited

  -- ---- delays
  went-not : (a : Action) (r : Reply L) → went_by a r ≡ Delayed → ⊥
  went-not (act.PutFeed f) reply.Done e = cc
  went-not (act.PutPage page) reply.Done e = cc
  went-not act.TakeFeed (reply.Feed f) e = cc
  went-not act.TakePage (reply.Page page last) e = cc
  went-not a reply.Stopped e = cc
  went-not a r e = cc

  pub delays-of : (entry : Entry L) → went entry ≡ Delayed → (a : Action) × (entry ≡ Delays a)
  delays-of (Does a r) e = absurd (went-not a r e)
  delays-of (LacksMemory a r) e = absurd (went-not a r e)
  delays-of (Delays a) e = (a, refl)

  not-delayed : (w : Went (Parcel L)) → (w ≡ Delayed → ⊥) → is_delayed w ≡ false
  not-delayed Delayed not = absurd (not refl)
  not-delayed w not = refl

  pub answered : (entry : Entry L) → ((a : Action) → entry ≡ Delays a → ⊥) → is_delayed (went entry) ≡ false
  answered entry not = not-delayed (went entry) (λ e. (let (a, is) = delays-of entry e in not a is))
