-- A row of five meets what the law asks of the processes of a network.
use Rattle.std.proofs.Common.{◌≡◌, ◌⊎◌, inl, inr, ℕ, zero, suc, ◌≤◌, Bool, true, false, if◌then◌else◌, List, [], ◌∷◌, Option, None, Some, refl, sym, ◌∙◌, ap, subst, arith}
use Rattle.std.specs.List.{AllByRecursion}
use Rattle.solo_base.specs.declared.outcome.Side.{Side}
use Rattle.solo_base.specs.declared.outcome.Side.TheVariants.{Sender, Receiver}
use Rattle.solo_base.specs.declared.outcome.Outcome.{Outcome}
use Rattle.batch_procs.specs.declared.actions.Action.{Action}
use Rattle.batch_procs.specs.declared.actions.Action.TheVariants as act
use Rattle.batch_procs.specs.Parcels.{is_ended}
use Rattle.batch_procs.specs.History.{Entry, Delays, taken, holds, has_stopped, newest}
use Rattle.batch_procs.specs.Causes.{caused}
use Rattle.batch_procs.specs.Process.{Process, Follows, next_action, next_by, aim, due, unworked, closing, closes, stops_next}
use Rattle.batch_procs.specs.Laws.{IsRelay, IsHeld, IsOpen}
use Rattle.batch_procs.proofs.Relay.{open-next, closing-next}
use Rattle.batch_procs.proofs.Closing.{working-no_stop, aimed-no_stop, unstopped}
use Rattle.batch_procs.proofs.Holding.{holder-next, release-holds, request-holds_not, puts-awaited, takes-awaited}
use Rattle.network_law.specs.Acts.{At, Asks, Gives, Visit, Awaits, Passes, Moves, Stops, found_ready}
use Rattle.network_law.specs.Network as law
use Rattle.network_law.specs.Processes.{IsPrompt, IsLawful}
use Rattle.network_law.proofs.KeepsQueues.{at-number, at-side}
use Rattle.network_law.proofs.Numbers.{same-number, other-number}
use Rattle.core_law.specs.Core.{upstream, seat, side_at, call, core}
use Rattle.core_law.proofs.Row.{IsRow}
use Rattle.core_law.proofs.Acting.{follows-of, stops-are, holds-are, room-ready, item-ready, delays-of}
use Rattle.batch_procs.specs.Jobs.{Jobs, AreJobs}

not-itself : (b : ℕ) → suc b ≡ b → ⊥
not-itself b e = omega (arith, e)

-- the side at which a process stops a buffer beside it
pub own-seat : (p c : ℕ) → (c ≡ p) ⊎ (suc c ≡ p) → seat c (side_at p c) ≡ p
own-seat p c (inl same) =
    let is : side_at p c ≡ Sender = rw (same, same-number p) refl in
    ap (seat c) is ∙ same
own-seat p c (inr next) =
    let is : side_at p c ≡ Receiver = rw (other-number p c (λ e. not-itself c (next ∙ e))) refl in
    ap (seat c) is ∙ next

-- ---- by its next action
pub seat-upstream : (p : ℕ) → 1 ≤ p → suc (upstream p) ≡ p
seat-upstream zero one = absurd (omega (arith, one))
seat-upstream (suc k) one = refl

module _ {L : Type 0} {J : Jobs L} (jobs : AreJobs J) where
  -- ---- a process stops only the buffers beside it, each once
  pub record IsStop (Is : ℕ → Type 0) (h : List (Entry L)) (c : ℕ) : Type 0 where
    pub is : Is c
    pub not_yet : has_stopped c h ≡ false

  among : (buffers : List ℕ) (Is : ℕ → Type 0) (how : Outcome) (h : List (Entry L)) (c : ℕ) → AllByRecursion Is buffers → stops_next buffers how h ≡ act.Stop c
      → IsStop Is h c
  among [] Is how h c all e = absurd cc
  among (b ∷ later) Is how h c all e =
      let P : Bool → Type 0 = λ t. has_stopped b h ≡ t → (if t then stops_next later how h else act.Stop b) ≡ act.Stop c → IsStop Is h c in
      elim (has_stopped b h) as P [
        | true ↦ (λ stopped. among later Is how h c all.1)
        | false ↦ (λ not_yet e. let same : b ≡ c = cc in subst (IsStop Is h) same record { is = all.0; not_yet = not_yet })
      ] refl e

  closes-among : (buffers : List ℕ) (Is : ℕ → Type 0) (how : Outcome) (h : List (Entry L)) (c : ℕ) → AllByRecursion Is buffers
      → closes buffers how h ≡ act.Stop c
      → IsStop Is h c
  closes-among buffers Is how h c all e =
      let P : Bool → Type 0 = λ t. (if t then act.Release else stops_next buffers how h) ≡ act.Stop c → IsStop Is h c in
      elim (holds h) as P [ true ↦ (λ e. absurd cc) | false ↦ among buffers Is how h c all ] e

  stops-by : (p : Process L) (cause : Option Outcome) (Is : ℕ → Type 0) (h : List (Entry L)) (c : ℕ) → IsRelay p → AllByRecursion Is p.buffers
      → next_by p cause h ≡ Some (act.Stop c) → IsStop Is h c
  stops-by p None Is h c relay all e =
      absurd (working-no_stop (newest h) (aim p h) (act.Stop c)
      (aimed-no_stop J p.takes (p.wants (taken h)) (due p h) (is_ended (taken h)) (unworked p h) relay.takes) e)
  stops-by p (Some how) Is h c relay all e = closes-among p.buffers Is how h c all (closing-next (newest h) (closes p.buffers how h) (act.Stop c) e)

  pub stops-among : (p : Process L) (Is : ℕ → Type 0) (h : List (Entry L)) (c : ℕ) → IsRelay p → AllByRecursion Is p.buffers → next_action p h ≡ Some
      (act.Stop c)
      → IsStop Is h c
  stops-among p Is h c relay all e = stops-by p (caused h) Is h c relay all e

  -- ---- the call over a delay
  stops-again : (buffers : List ℕ) (how : Outcome) (a : Action) (h : List (Entry L)) → stops_next buffers how (Delays a ∷ h) ≡ stops_next buffers how h
  stops-again [] how a h = refl
  stops-again (b ∷ later) how a h = ap (λ rest. if has_stopped b h then rest else act.Stop b) (stops-again later how a h)

  delay-again : (p : Process L) (cause : Option Outcome) (a : Action) (h : List (Entry L)) → next_by p cause (Delays a ∷ h) ≡ next_by p cause h
  delay-again p None a h = refl
  delay-again p (Some how) a h = ap (λ rest. closing (newest h) (if holds h then act.Release else rest)) (stops-again p.buffers how a h)

  pub next-again : (p : Process L) (entry : Entry L) (a : Action) (h : List (Entry L)) → entry ≡ Delays a → next_action p (entry ∷ h) ≡ next_action p h
  next-again p entry a h e = rw e (delay-again p (caused h) a h)

  module _ {row : ℕ → Process L} (laws : IsRow jobs row) (p : ℕ) (h : List (Entry L)) (one : 1 ≤ p) (follows : Follows J (row p) h) where
    here : (n b : ℕ) (of side : Side) (one two : Visit) → seat n of ≡ p → At n of one ≡ At b side two → seat b side ≡ p
    here n b of side one two is e = subst (λ x. seat b x ≡ p) (at-side n b of side one two e) (subst (λ m. seat m of ≡ p) (at-number n b of side one two e) is)

    pub seated-by : (a : Action) (b : ℕ) (side : Side) (visit : Visit) → next_action (row p) h ≡ Some a → call p a ≡ At b side visit → seat b side ≡ p
    seated-by (act.PutFeed f) b side visit next e = here p b Sender side Passes visit refl e
    seated-by act.TakeFeed b side visit next e = here (upstream p) b Receiver side Passes visit (seat-upstream p one) e
    seated-by act.AwaitRoom b side visit next e = here p b Sender side Awaits visit refl e
    seated-by act.AwaitItem b side visit next e = here (upstream p) b Receiver side Awaits visit (seat-upstream p one) e
    seated-by (act.PutPage page) b side visit next e = here p b Sender side Moves visit refl e
    seated-by act.TakePage b side visit next e = here (upstream p) b Receiver side Moves visit (seat-upstream p one) e
    seated-by (act.Stop c) b side visit next e = here c b (side_at p c) side Stops visit
        (own-seat p c (stops-among (row p) (λ b. (b ≡ p) ⊎ (suc b ≡ p)) h c (laws.relays p) (laws.beside p) next).is) e
    seated-by act.ReadCard b side visit next e = absurd cc
    seated-by act.Request b side visit next e = absurd cc
    seated-by act.Release b side visit next e = absurd cc
    seated-by (act.Load file) b side visit next e = absurd cc
    seated-by act.Local b side visit next e = absurd cc
    seated-by (act.Print line) b side visit next e = absurd cc
    seated-by (act.Ended how) b side visit next e = absurd cc

    open-unstopped : (a : Action) (b : ℕ) → IsOpen a → next_action (row p) h ≡ Some a → has_stopped b h ≡ false
    open-unstopped a b is next = unstopped J (row p) b h (laws.relays p) follows (open-next J (row p) h a next is)

    pub unstopped-by : (a : Action) (b : ℕ) (side : Side) (visit : Visit) → next_action (row p) h ≡ Some a → call p a ≡ At b side visit
        → has_stopped b h ≡ false
    unstopped-by (act.Stop c) b side visit next e = subst (λ b. has_stopped b h ≡ false) (at-number c b (side_at p c) side Stops visit e)
        (stops-among (row p) (λ b. (b ≡ p) ⊎ (suc b ≡ p)) h c (laws.relays p) (laws.beside p) next).not_yet
    unstopped-by act.Release b side visit next e = absurd cc
    unstopped-by (act.Ended how) b side visit next e = absurd cc
    unstopped-by a b side visit next e = open-unstopped a b tt next

    found-at : (n b : ℕ) (of side : Side) → At n of Moves ≡ At b side Moves → found_ready n of (law.acts (core J row) p h) ≡ true
        → found_ready b side (law.acts (core J row) p h) ≡ true
    found-at n b of side e is = subst (λ x. found_ready b x (law.acts (core J row) p h) ≡ true) (at-side n b of side Moves Moves e)
        (subst (λ m. found_ready m of (law.acts (core J row) p h) ≡ true) (at-number n b of side Moves Moves e) is)

    found-by : (a : Action) (b : ℕ) (side : Side) → next_action (row p) h ≡ Some a → call p a ≡ At b side Moves
        → found_ready b side (law.acts (core J row) p h) ≡ true
    found-by (act.PutPage page) b side next e = found-at p b Sender side e (room-ready jobs row p h follows (open-next J (row p) h (act.PutPage page) next tt)
        (puts-awaited J (row p) h page (laws.relays p) follows next))
    found-by act.TakePage b side next e = found-at (upstream p) b Receiver side e
        (item-ready jobs row p h follows (open-next J (row p) h act.TakePage next tt) (takes-awaited J (row p) h (laws.relays p) follows next))
    found-by a b side next e = absurd cc

    asks-by : (a : Action) → next_action (row p) h ≡ Some a → call p a ≡ Asks → holds h ≡ false
    asks-by act.Request next e = request-holds_not J (row p) h (laws.relays p) follows next
    asks-by a next e = absurd cc

    gives-by : (a : Action) → next_action (row p) h ≡ Some a → call p a ≡ Gives → holds h ≡ true
    gives-by act.Release next e = release-holds J (row p) h (laws.relays p) follows next
    gives-by a next e = absurd cc

    prompt : (a : Action) → IsHeld a → IsPrompt (call p a)
    prompt (act.PutPage page) is = tt
    prompt act.TakePage is = tt
    prompt (act.Load file) is = tt
    prompt act.Release is = tt
    prompt a is = absurd is

  -- ---- all that the law asks
  pub lawful : {row : ℕ → Process L} → IsRow jobs row → IsLawful (core J row)
  lawful {row} laws = record {
    seated = λ p h b side visit one follows calls. seated-by laws p h one.0 (follows-of jobs row p h follows) calls.action b side visit calls.next calls.call;
    unstopped = λ p h b side visit one follows calls.
        stops-are jobs row p b side h (seated-by laws p h one.0 (follows-of jobs row p h follows) calls.action b side visit calls.next calls.call)
        (follows-of jobs row p h follows)
        ∙ unstopped-by laws p h one.0 (follows-of jobs row p h follows) calls.action b side visit calls.next calls.call;
    found = λ p h b side one follows calls. found-by laws p h one.0 (follows-of jobs row p h follows) calls.action b side calls.next calls.call;
    asks = λ p h one follows calls. holds-are jobs row p h (follows-of jobs row p h follows)
        ∙ asks-by laws p h one.0 (follows-of jobs row p h follows) calls.action calls.next calls.call;
    gives = λ p h one follows calls. holds-are jobs row p h (follows-of jobs row p h follows)
        ∙ gives-by laws p h one.0 (follows-of jobs row p h follows) calls.action calls.next calls.call;
    held = λ p h one follows holding.
        (let is = holder-next J (row p) h (laws.relays p) (follows-of jobs row p h follows) (sym (holds-are jobs row p h (follows-of jobs row p h follows))
        ∙ holding) in (
          call p is.action,
          prompt laws p h one.0
              (follows-of jobs row p h follows) is.action is.held,
          record { action = is.action; next = is.is; call = refl },
        ));
    again = λ p h entry delayed next. (let (a, is) = delays-of jobs entry delayed in next-again (row p) entry a h is ∙ next);
  }
