-- The calls that a process makes at its buffers and at the disk, by its history.
use Rattle.std.specs.Prelude.{ℕ, ◌==◌, if◌then◌else◌, List, [], ◌∷◌, ◌++◌}
use Rattle.solo_base.specs.declared.item.Feed.{Feed}
use Rattle.solo_base.specs.declared.outcome.Side.{Side}
use Rattle.solo_base.specs.declared.outcome.Side.TheVariants.{Sender, Receiver}
use Rattle.slot_buffer.specs.declared.call.SlotCall.{SlotCall}
use Rattle.slot_buffer.specs.declared.call.SlotCall.TheVariants as slot
use Rattle.disk_spool.specs.declared.call.SpoolCall.{SpoolCall}
use Rattle.disk_spool.specs.declared.call.SpoolCall.TheVariants as spool
use Rattle.batch_procs.specs.declared.actions.Action.{Action}
use Rattle.batch_procs.specs.declared.actions.Action.TheVariants as act
use Rattle.batch_procs.specs.declared.actions.Reply.{Reply}
use Rattle.batch_procs.specs.declared.actions.Reply.TheVariants as reply
use Rattle.batch_procs.specs.History.{Entry, Does, LacksMemory, Delays}

-- these calls, and those behind them
abbrev pub and_then : {C : Type 0} → List C → List C → List C
and_then calls [] = calls
and_then calls (call ∷ more) = calls ++ call ∷ more

-- what an action with its reply is at a line buffer, at one of its sides
abbrev pub line_call : {L : Type 0} → Side → ℕ → Action → Reply L → List (SlotCall Feed)
line_call Sender b (act.PutFeed feed) reply.Done = slot.Put feed ∷ []
line_call Sender b (act.PutFeed feed) reply.Stopped = slot.PutRefused feed ∷ []
line_call Receiver b act.TakeFeed (reply.Feed feed) = slot.Take feed ∷ []
line_call Receiver b act.TakeFeed reply.Stopped = slot.TakeRefused ∷ []
line_call side b (act.Stop c) r = if b == c then slot.Stop side ∷ [] else []
line_call side b action r = []

-- and all of them, the oldest first
abbrev pub line_calls : {L : Type 0} → Side → ℕ → List (Entry L) → List (SlotCall Feed)
line_calls side b [] = []
line_calls side b (Does action r ∷ h) = and_then (line_calls side b h) (line_call side b action r)
line_calls side b (LacksMemory action r ∷ h) = and_then (line_calls side b h) (line_call side b action r)
line_calls side b (Delays action ∷ h) = line_calls side b h

-- what an action with its reply is at a spool, at one of its sides
abbrev pub spool_call : {L : Type 0} → Side → ℕ → Action → Reply L → List (SpoolCall (List ℕ))
spool_call Sender b act.AwaitRoom reply.Done = spool.Await Sender ∷ []
spool_call Sender b act.AwaitRoom reply.Stopped = spool.AwaitRefused Sender ∷ []
spool_call Sender b (act.PutPage page) reply.Done = spool.Put page.0 ∷ []
spool_call Sender b (act.PutPage page) reply.Failed = spool.PutFailed page.0 ∷ []
spool_call Receiver b act.AwaitItem reply.Done = spool.Await Receiver ∷ []
spool_call Receiver b act.AwaitItem reply.Stopped = spool.AwaitRefused Receiver ∷ []
spool_call Receiver b act.TakePage (reply.Page page last) = spool.Take page.0 last ∷ []
spool_call Receiver b act.TakePage reply.Failed = spool.TakeFailed ∷ []
spool_call side b (act.Stop c) r = if b == c then spool.Stop side ∷ [] else []
spool_call side b action r = []

-- and all of them, the oldest first
abbrev pub spool_calls : {L : Type 0} → Side → ℕ → List (Entry L) → List (SpoolCall (List ℕ))
spool_calls side b [] = []
spool_calls side b (Does action r ∷ h) = and_then (spool_calls side b h) (spool_call side b action r)
spool_calls side b (LacksMemory action r ∷ h) = and_then (spool_calls side b h) (spool_call side b action r)
spool_calls side b (Delays action ∷ h) = spool_calls side b h
