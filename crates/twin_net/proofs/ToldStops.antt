-- Who ended Stopped was told so at a buffer, and the other side had stopped it first.
use Rattle.std.proofs.Common.{◌≡◌, inl, inr, ℕ, Bool, true, false, ◌||◌, List, [], ◌∷◌, Option, None, Some, refl, sym, ◌∙◌, ap, subst}
use Rattle.solo_base.specs.declared.outcome.Side.{Side}
use Rattle.solo_base.specs.declared.outcome.Side.TheVariants.{Sender, Receiver}
use Rattle.solo_base.specs.declared.outcome.Outcome.TheVariants as outcome
use Rattle.solo_base.specs.declared.outcome.Cause.{Cause}
use Rattle.solo_devices.specs.declared.card_read.CardRead.{CardRead}
use Rattle.solo_devices.specs.declared.card_read.CardRead.TheVariants as read
use Rattle.queue_var.specs.Sides.{stopped_by}
use Rattle.batch_procs.specs.declared.actions.Reply.{Reply}
use Rattle.batch_procs.specs.declared.actions.Reply.TheVariants as reply
use Rattle.batch_procs.specs.Causes.{fault_read}
use Rattle.batch_procs.specs.Jobs.{Jobs}
use Rattle.batch_ends.specs.Ended.{stopped_at}
use Rattle.core_law.proofs.Acting.{same-here}
use Rattle.place_law.specs.Process.{Does, LacksMemory, Delays, action_of, fault_in}
use Rattle.network_law.specs.Acts.{At, Visit, Awaits, Passes, told_at, was_told}
use Rattle.network_law.specs.Network.{IsOne, acts}
use Rattle.network_law.specs.Network as law
use Rattle.network_law.specs.Kept.{Stands}
use Rattle.twin_law.specs.Process.{Action, PutFeed, TakeFeed, AwaitRoom, AwaitItem, Entry, Process, place, given_cause, caused, next_action}
use Rattle.twin_law.specs.Table.{process}
use Rattle.twin_law.specs.Twin.{seat, call, went, Fits, twin, TwinState, IsBuffer, IsProcess}
use Rattle.twin_law.proofs.Counted.{each-buffer}
use Rattle.twin_law.proofs.Lawful.{lawful}
use Rattle.twin_law.proofs.Numbered.{calls-at}
use Rattle.twin_net.specs.Ended.{six_sides, TwinStoppedBeside}
use Rattle.twin_net.proofs.EntryCauses.{cause_in, entry-gave}

-- ---- only one reply is the cause Stopped
read-not : (answer : CardRead) → fault_read answer ≡ Some outcome.Stopped → ⊥
read-not (read.Card line) e = cc
read-not read.Spoiled e = cc
read-not read.End e = cc
read-not read.Failed e = cc
read-not read.Limit e = cc

fault-not : (c : Option Cause) → fault_in c ≡ Some outcome.Stopped → ⊥
fault-not None e = cc
fault-not (Some c) e = cc

or-true : (t : Bool) → (t || true) ≡ true
or-true true = refl
or-true false = refl

module _ {L : Type 0} where
  given-stopped : (p : Process L) (a : Action) (r : Reply L) (h : List (Entry L)) → given_cause p (place p h) a r ≡ Some outcome.Stopped → r ≡ reply.Stopped
  given-stopped p a reply.Done h e = absurd cc
  given-stopped p a reply.Stopped h e = refl
  given-stopped p a reply.Failed h e = absurd cc
  given-stopped p a reply.NoMemory h e = absurd cc
  given-stopped p a (reply.Card answer) h e = absurd (read-not answer e)
  given-stopped p a (reply.Feed f) h e = absurd cc
  given-stopped p a (reply.Page page last) h e = absurd (fault-not (p.finds (place p h) (reply.Page page last)) e)
  given-stopped p a (reply.Loaded load) h e = absurd cc

module _ {L : Type 0} (J : Jobs L) where
  -- ---- who was told, and where
  record ToldAt (p : ℕ) (h : List (Entry L)) : Type 0 where
    buffer : ℕ
    side : Side
    is_buffer : IsBuffer buffer
    seated : seat buffer side ≡ p
    told : was_told buffer side (acts (twin J) p h) ≡ true

  module _ (p : ℕ) (one : IsOne (twin J) p) where
    told-more : (entry : Entry L) (h : List (Entry L)) → ToldAt p h → ToldAt p (entry ∷ h)
    told-more entry h is = record {
      buffer = is.buffer;
      side = is.side;
      is_buffer = is.is_buffer;
      seated = is.seated;
      told = ap (λ t. told_at is.buffer is.side (call p (action_of entry)) (went entry) || t) is.told
          ∙ or-true (told_at is.buffer is.side (call p (action_of entry)) (went entry));
    }

    told-here : (h : List (Entry L)) (a : Action) (b : ℕ) (side : Side) (visit : Visit) → law.Follows (twin J) p h → next_action (process J p) h ≡ Some a
        → call p a ≡ At b side visit
        → told_at b side (call p a) (went {L = L} (Does a reply.Stopped)) ≡ true → ToldAt p (Does a reply.Stopped ∷ h)
    told-here h a b side visit follows next e told = record {
      buffer = b;
      side = side;
      is_buffer = calls-at J p h a b side visit one next e;
      seated = (lawful J).seated p h b side visit one follows record { action = a; next = next; call = e };
      told = ap (λ t. t || was_told b side (acts (twin J) p h)) told;
    }

    told-now : (h : List (Entry L)) (a : Action) → law.Follows (twin J) p h → next_action (process J p) h ≡ Some a → Fits {L = L} a reply.Stopped
        → ToldAt p (Does a reply.Stopped ∷ h)
    told-now h (PutFeed b f) follows next fits = told-here h (PutFeed b f) b Sender Passes follows next refl (same-here b Sender)
    told-now h (TakeFeed b) follows next fits = told-here h (TakeFeed b) b Receiver Passes follows next refl (same-here b Receiver)
    told-now h (AwaitRoom b) follows next fits = told-here h (AwaitRoom b) b Sender Awaits follows next refl (same-here b Sender)
    told-now h (AwaitItem b) follows next fits = told-here h (AwaitItem b) b Receiver Awaits follows next refl (same-here b Receiver)
    told-now h a follows next fits = absurd fits

    told-by : (entry : Entry L) (h : List (Entry L)) → law.Follows (twin J) p (entry ∷ h) → cause_in (process J p) entry h ≡ Some outcome.Stopped
        → ToldAt p (entry ∷ h)
    told-by (Does a r) h follows e =
        let is = given-stopped (process J p) a r h e in
        subst (λ r. ToldAt p (Does a r ∷ h)) (sym is) (told-now h a follows.2 follows.0 (subst (Fits a) is follows.1.0))
    told-by (LacksMemory a r) h follows e = absurd cc
    told-by (Delays a) h follows e = absurd cc

    stopped-told : (h : List (Entry L)) → law.Follows (twin J) p h → caused (process J p) h ≡ Some outcome.Stopped → ToldAt p h
    stopped-told [] follows e = absurd cc
    stopped-told (entry ∷ h) follows e =
        elim (entry-gave (process J p) entry h outcome.Stopped e) as (λ _. ToldAt p (entry ∷ h)) [
          | inl had ↦ told-more entry h (stopped-told h follows.2 had)
          | inr gave ↦ told-by entry h follows gave
        ]

  -- the sides of the list are those of the state
  stopped-so : (s : TwinState L) (b : ℕ) → IsBuffer b → stopped_at (six_sides s) b ≡ stopped_by (s.buffers b).sides
  stopped-so s b is = each-buffer (λ b. stopped_at (six_sides s) b ≡ stopped_by (s.buffers b).sides) b is refl refl refl refl refl refl

  -- in a state
  pub stopped-beside : (opening s : TwinState L) → Stands (twin J) opening s → (stops : List (Option Side)) → stops ≡ six_sides s → (p : ℕ) → IsProcess p
      → caused (process J p) (s.histories p) ≡ Some outcome.Stopped → TwinStoppedBeside stops p
  stopped-beside opening s st stops stops_are p one e =
      let is = stopped-told p one (s.histories p) (st.follows p) e in
      let at = subst (λ q. was_told is.buffer is.side (acts (twin J) q (s.histories q)) ≡ true) (sym is.seated) is.told in
      record {
        buffer = is.buffer;
        side = is.side;
        is_buffer = is.is_buffer;
        seated = is.seated;
        by = ap (λ stops. stopped_at stops is.buffer) stops_are ∙ stopped-so s is.buffer is.is_buffer ∙ (st.buffers.told is.buffer is.side at).by_other;
      }
