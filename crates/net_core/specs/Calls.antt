-- What a call of a process is to the law, by the reply that it got.
use Rattle.std.specs.Prelude.{ℕ, Option, None, Some}
use Rattle.solo_base.specs.declared.outcome.Side.{Side}
use Rattle.disk_spool.specs.declared.answers.Await.{Await}
use Rattle.batch_procs.specs.declared.actions.Action.{Action}
use Rattle.batch_procs.specs.declared.actions.Reply.{Reply}
use Rattle.batch_procs.specs.declared.actions.Reply.TheVariants as reply
use Rattle.batch_procs.specs.Jobs.{Jobs}
use Rattle.batch_procs.specs.Parcels.{Parcel, is_last}
use Rattle.network_law.specs.Acts.{Visit}
use Rattle.network_law.specs.Buffer.{Buffer, VisitFits, after_visit}
use Rattle.core_law.specs.Core.{went}
use Rattle.core_law.specs.Replies.{entry_of, ReplyFits}

-- the reply to an await
abbrev pub await_reply : {L : Type 0} → Await → Option (Reply L)
await_reply Await.Ready = Some reply.Done
await_reply Await.Delayed = None
await_reply Await.Stopped = Some reply.Stopped

-- A call at a side of a buffer goes as the law allows, and the monitor stands for the buffer behind it.
pub record Visited {L M : Type 0} (J : Jobs L) (Stands : M → Buffer (Parcel L) → Type 0) (old new : M)
    (side : Side) (visit : Visit) (p : ℕ) (action : Action) (result : Option (Reply L)) : Type 0 where
  pub suits : ReplyFits J action result
  pub fits : (b : Buffer (Parcel L)) → Stands old b
      → VisitFits is_last side b visit (went (entry_of action result))
  pub after : (b : Buffer (Parcel L)) → Stands old b
      → Stands new (after_visit is_last visit side p (went (entry_of action result)) b)
