-- The calls at a line buffer tell what its process sent or took, whether it stopped, and whether it was told of a stop.
use Rattle.std.proofs.Common.{◌≡◌, ℕ, ◌==◌, Bool, true, false, ◌||◌, if◌then◌else◌, List, [], ◌∷◌, Some, refl, ◌∙◌, ap}
use Rattle.std.specs.List.{list_any}
use Rattle.std.proofs.Math.Bool.{or_comm}
use Rattle.std.proofs.lemmas.List.Folds.{list_any-append}
use Rattle.solo_base.specs.declared.item.Feed.{Feed}
use Rattle.solo_base.specs.declared.outcome.Side.{Side}
use Rattle.solo_base.specs.declared.outcome.Side.TheVariants.{Sender, Receiver}
use Rattle.slot_buffer.specs.declared.call.SlotCall.{SlotCall}
use Rattle.slot_buffer.specs.declared.call.SlotCall.TheVariants as slot
use Rattle.slot_buffer.specs.Calls.{has_stop}
use Rattle.batch_procs.specs.declared.actions.Action.{Action}
use Rattle.batch_procs.specs.declared.actions.Action.TheVariants as act
use Rattle.batch_procs.specs.declared.actions.Reply.{Reply}
use Rattle.batch_procs.specs.declared.actions.Reply.TheVariants as reply
use Rattle.batch_procs.specs.Fits.{MayLack}
use Rattle.batch_procs.specs.History.{Entry, Does, LacksMemory, Delays, has_stopped, stops_at}
use Rattle.batch_procs.specs.Process.{Process, Follows, next_action}
use Rattle.batch_procs.specs.Laws.{IsRelay, IsOpen}
use Rattle.batch_procs.proofs.Relay.{open-next}
use Rattle.batch_procs.proofs.Closing.{unstopped}
use Rattle.batch_sides.specs.Calls.{and_then, line_call, line_calls}
use Rattle.batch_procs.specs.Jobs.{Jobs, AreJobs}

-- ---- a test of the calls
pub any-then : {C : Type 0} (test : C → Bool) (calls more : List C) → list_any test (and_then calls more) ≡ (list_any test more || list_any test calls)
any-then test calls [] = refl
any-then test calls (call ∷ more) = list_any-append test calls (call ∷ more) ∙ or_comm (list_any test calls) (list_any test (call ∷ more))

-- ---- stops
stop-if : (side : Side) (t : Bool) → has_stop {T = Feed} (if t then slot.Stop side ∷ [] else []) ≡ t
stop-if side true = refl
stop-if side false = refl

module _ {L : Type 0} {J : Jobs L} (jobs : AreJobs J) where
  -- an action that lacks its memory is no call of a line buffer
  pub lack-call : (side : Side) (b : ℕ) (a : Action) (r : Reply L) → MayLack a r → line_call side b a r ≡ []
  lack-call Sender b act.TakePage (reply.Page page last) may = refl
  lack-call Receiver b act.TakePage (reply.Page page last) may = refl
  lack-call Sender b act.Local reply.Done may = refl
  lack-call Receiver b act.Local reply.Done may = refl
  lack-call side b a r may = absurd may

  stop-call : (side : Side) (b : ℕ) (a : Action) (r : Reply L) → has_stop (line_call side b a r) ≡ stops_at b a
  stop-call Sender b (act.Stop c) r = stop-if Sender (b == c)
  stop-call Receiver b (act.Stop c) r = stop-if Receiver (b == c)
  stop-call Sender b (act.PutFeed f) reply.Done = refl
  stop-call Sender b (act.PutFeed f) reply.Stopped = refl
  stop-call Receiver b act.TakeFeed (reply.Feed f) = refl
  stop-call Receiver b act.TakeFeed reply.Stopped = refl
  stop-call Sender b a r = refl
  stop-call Receiver b a r = refl

  pub stops-are : (p : Process L) (side : Side) (b : ℕ) (h : List (Entry L)) → Follows J p h → has_stop (line_calls side b h) ≡ has_stopped b h
  stops-are p side b [] follows = refl
  stops-are p side b (Does a r ∷ h) follows =
      any-then _ (line_calls side b h) (line_call side b a r) ∙ ap (λ t. t || has_stop (line_calls side b h)) (stop-call side b a r)
      ∙ ap (λ t. stops_at b a || t) (stops-are p side b h follows.2)
  stops-are p side b (LacksMemory a r ∷ h) follows =
      ap (λ more. has_stop (and_then (line_calls side b h) more)) (lack-call side b a r follows.1.1) ∙ stops-are p side b h follows.2
  stops-are p side b (Delays a ∷ h) follows = stops-are p side b h follows.2

  -- who makes this action has not stopped
  pub not-stopped : (p : Process L) (side : Side) (b : ℕ) (h : List (Entry L)) (a : Action) (calls : List (SlotCall Feed)) → IsRelay p
      → Follows J p h
      → next_action p h ≡ Some a → IsOpen a → calls ≡ line_calls side b h → has_stop calls ≡ false
  not-stopped p side b h a calls relay follows next is e =
      ap has_stop e ∙ stops-are p side b h follows ∙ unstopped J p b h relay follows (open-next J p h a next is)
