-- The calls at a spool tell whether its process stopped, and whether it may put or take a page.
use Rattle.std.proofs.Common.{◌≡◌, ℕ, ◌==◌, Bool, true, false, ◌||◌, if◌then◌else◌, List, [], ◌∷◌, ◌++◌, Some, None, refl, ◌∙◌, ap}
use Rattle.solo_base.specs.declared.outcome.Side.{Side}
use Rattle.solo_base.specs.declared.outcome.Side.TheVariants.{Sender, Receiver}
use Rattle.solo_base.specs.declared.outcome.Outcome.TheVariants as outcome
use Rattle.solo_base.specs.declared.page.Page.{Page}
use Rattle.disk_spool.specs.declared.call.SpoolCall.{SpoolCall}
use Rattle.disk_spool.specs.declared.call.SpoolCall.TheVariants as spool
use Rattle.disk_spool.specs.Calls.{has_stop, is_ready, ready_after, is_await}
use Rattle.batch_procs.specs.declared.actions.Action.{Action}
use Rattle.batch_procs.specs.declared.actions.Action.TheVariants as act
use Rattle.batch_procs.specs.declared.actions.Reply.{Reply}
use Rattle.batch_procs.specs.declared.actions.Reply.TheVariants as reply
use Rattle.batch_procs.specs.Fits.{MayLack}
use Rattle.batch_procs.specs.History.{Entry, Does, LacksMemory, Delays, has_stopped, stops_at}
use Rattle.batch_procs.specs.Causes.{caused, given_cause}
use Rattle.batch_procs.specs.Process.{Process, Follows, next_action}
use Rattle.batch_procs.specs.Laws.{IsRelay, IsOpen, AwaitedRoom, AwaitedItem}
use Rattle.batch_procs.proofs.Relay.{open-next}
use Rattle.batch_procs.proofs.Closing.{unstopped, or-none}
use Rattle.batch_procs.proofs.Holding.{some-not_none, puts-awaited, takes-awaited}
use Rattle.batch_sides.specs.Calls.{and_then, spool_call, spool_calls}
use Rattle.batch_sides.proofs.LineCalls.{any-then}
use Rattle.batch_procs.specs.Jobs.{Jobs, AreJobs}

-- ---- stops
stop-if : (side : Side) (t : Bool) → has_stop {P = List ℕ} (if t then spool.Stop side ∷ [] else []) ≡ t
stop-if side true = refl
stop-if side false = refl

-- ---- what was awaited
ready-last : (ready : Bool) (calls : List (SpoolCall (List ℕ))) (side : Side) → ready_after ready (calls ++ spool.Await side ∷ []) ≡ true
ready-last ready [] side = refl
ready-last ready (call ∷ later) side = ready-last (is_await call) later side

module _ {L : Type 0} {J : Jobs L} (jobs : AreJobs J) where
  stop-call : (side : Side) (b : ℕ) (a : Action) (r : Reply L) → has_stop (spool_call side b a r) ≡ stops_at b a
  stop-call Sender b (act.Stop c) r = stop-if Sender (b == c)
  stop-call Receiver b (act.Stop c) r = stop-if Receiver (b == c)
  stop-call Sender b act.AwaitRoom reply.Done = refl
  stop-call Sender b act.AwaitRoom reply.Stopped = refl
  stop-call Sender b (act.PutPage page) reply.Done = refl
  stop-call Sender b (act.PutPage page) reply.Failed = refl
  stop-call Receiver b act.AwaitItem reply.Done = refl
  stop-call Receiver b act.AwaitItem reply.Stopped = refl
  stop-call Receiver b act.TakePage (reply.Page page last) = refl
  stop-call Receiver b act.TakePage reply.Failed = refl
  stop-call Sender b a r = refl
  stop-call Receiver b a r = refl

  lacks-no_stop : (b : ℕ) (a : Action) (r : Reply L) → MayLack a r → stops_at b a ≡ false
  lacks-no_stop b act.TakePage (reply.Page page last) may = refl
  lacks-no_stop b act.Local reply.Done may = refl
  lacks-no_stop b a r may = absurd may

  stop-more : (side : Side) (b : ℕ) (a : Action) (r : Reply L) (h : List (Entry L)) → has_stop (spool_calls side b h) ≡ has_stopped b h
      → has_stop (and_then (spool_calls side b h) (spool_call side b a r)) ≡ (stops_at b a || has_stopped b h)
  stop-more side b a r h before =
      any-then _ (spool_calls side b h) (spool_call side b a r) ∙ ap (λ t. t || has_stop (spool_calls side b h)) (stop-call side b a r)
      ∙ ap (λ t. stops_at b a || t) before

  pub stops-are : (p : Process L) (side : Side) (b : ℕ) (h : List (Entry L)) → Follows J p h → has_stop (spool_calls side b h) ≡ has_stopped b h
  stops-are p side b [] follows = refl
  stops-are p side b (Does a r ∷ h) follows = stop-more side b a r h (stops-are p side b h follows.2)
  stops-are p side b (LacksMemory a r ∷ h) follows =
      stop-more side b a r h (stops-are p side b h follows.2) ∙ ap (λ t. t || has_stopped b h) (lacks-no_stop b a r follows.1.1)
  stops-are p side b (Delays a ∷ h) follows = stops-are p side b h follows.2

  -- who makes this action has not stopped
  pub not-stopped : (p : Process L) (side : Side) (b : ℕ) (h : List (Entry L)) (a : Action) (calls : List (SpoolCall (List ℕ))) → IsRelay p
      → Follows J p h
      → next_action p h ≡ Some a → IsOpen a → calls ≡ spool_calls side b h → has_stop calls ≡ false
  not-stopped p side b h a calls relay follows next is e =
      ap has_stop e ∙ stops-are p side b h follows ∙ unstopped J p b h relay follows (open-next J p h a next is)

  room-ready : (p : Process L) (b : ℕ) (h : List (Entry L)) → Follows J p h → caused h ≡ None → AwaitedRoom h
      → is_ready (spool_calls Sender b h) ≡ true
  room-ready p b [] follows none awaited = absurd awaited
  room-ready p b (Does act.AwaitRoom reply.Done ∷ h) follows none awaited = ready-last false (spool_calls Sender b h) Sender
  room-ready p b (Does act.AwaitRoom reply.Stopped ∷ h) follows none awaited = absurd (some-not_none (caused h) outcome.Stopped none)
  room-ready p b (Does act.AwaitRoom r ∷ h) follows none awaited = absurd follows.1
  room-ready p b (Does act.Request r ∷ h) follows none awaited = room-ready p b h follows.2 (or-none (caused h) (given_cause act.Request r h) none) awaited
  room-ready p b (Does a r ∷ h) follows none awaited = absurd awaited
  room-ready p b (LacksMemory a r ∷ h) follows none awaited = absurd awaited
  room-ready p b (Delays a ∷ h) follows none awaited = room-ready p b h follows.2 none awaited

  item-ready : (p : Process L) (b : ℕ) (h : List (Entry L)) → Follows J p h → caused h ≡ None → AwaitedItem h
      → is_ready (spool_calls Receiver b h) ≡ true
  item-ready p b [] follows none awaited = absurd awaited
  item-ready p b (Does act.AwaitItem reply.Done ∷ h) follows none awaited = ready-last false (spool_calls Receiver b h) Receiver
  item-ready p b (Does act.AwaitItem reply.Stopped ∷ h) follows none awaited = absurd (some-not_none (caused h) outcome.Stopped none)
  item-ready p b (Does act.AwaitItem r ∷ h) follows none awaited = absurd follows.1
  item-ready p b (Does act.Request r ∷ h) follows none awaited = item-ready p b h follows.2 (or-none (caused h) (given_cause act.Request r h) none) awaited
  item-ready p b (Does a r ∷ h) follows none awaited = absurd awaited
  item-ready p b (LacksMemory a r ∷ h) follows none awaited = absurd awaited
  item-ready p b (Delays a ∷ h) follows none awaited = item-ready p b h follows.2 none awaited

  pub may-put : (p : Process L) (b : ℕ) (h : List (Entry L)) (page : Page) (calls : List (SpoolCall (List ℕ))) → IsRelay p → Follows J p h
      → next_action p h ≡ Some (act.PutPage page) → calls ≡ spool_calls Sender b h → is_ready calls ≡ true
  may-put p b h page calls relay follows next e =
      ap is_ready e ∙ room-ready p b h follows (open-next J p h (act.PutPage page) next tt) (puts-awaited J p h page relay follows next)

  pub may-take : (p : Process L) (b : ℕ) (h : List (Entry L)) (calls : List (SpoolCall (List ℕ))) → IsRelay p → Follows J p h
      → next_action p h ≡ Some act.TakePage → calls ≡ spool_calls Receiver b h → is_ready calls ≡ true
  may-take p b h calls relay follows next e =
      ap is_ready e ∙ item-ready p b h follows (open-next J p h act.TakePage next tt) (takes-awaited J p h relay follows next)
