-- What the output process does at the spool 3, the line buffer 4 and the disk.
use Rattle.std.specs.Prelude.{◌≡◌, ◌⊎◌, ℕ, ◌==◌, if◌then◌else◌, true, false, List, Option}
use Rattle.solo_base.specs.declared.outcome.Side.TheVariants.{Sender, Receiver}
use Rattle.monitor_gate.specs.Calls.{after_call}
use Rattle.slot_buffer.specs.declared.call.SlotCall.TheVariants as slot
use Rattle.slot_buffer.specs.Calls as lines
use Rattle.resource_mon.specs.Seats.{Pass}
use Rattle.disk_spool.specs.declared.call.SpoolCall.TheVariants as spool
use Rattle.disk_spool.specs.Calls as spools
use Rattle.disk_spool.specs.Ends.{known}
use Rattle.batch_procs.specs.declared.actions.Action.{Action}
use Rattle.batch_procs.specs.declared.actions.Action.TheVariants as act
use Rattle.batch_procs.specs.declared.actions.Reply.{Reply}
use Rattle.batch_procs.specs.declared.actions.Reply.TheVariants as reply
use Rattle.batch_procs.specs.History.{Entry}
use Rattle.batch_sides.specs.declared.output_side.OutputSide.{OutputSide}
use Rattle.batch_sides.specs.Calls.{line_calls, spool_calls}
use Rattle.batch_sides.specs.Desks.{DeskRan, IsAt}

abbrev pub does_output : Action → Type 0
does_output act.AwaitItem = Unit {0}
does_output act.Request = Unit {0}
does_output act.TakePage = Unit {0}
does_output act.Release = Unit {0}
does_output (act.PutFeed feed) = Unit {0}
does_output (act.Stop b) = (b ≡ 3) ⊎ (b ≡ 4)
does_output (act.Ended how) = Unit {0}
does_output other = ⊥

-- each end is one of its gate
abbrev pub OutputEndsAtGates : {B : Type 0} → (B → ℕ) → OutputSide B → Type 0
OutputEndsAtGates size c =
    (c.pages.gate ≡ known (size c.pages_gate.now.area) c.pages_gate.now) × (c.lines.gate ≡ c.lines_gate.now)

-- an action that it may perform
abbrev pub OutputMayMake : {B : Type 0} → (B → ℕ) → OutputSide B → Option Pass → Action → Type 0
OutputMayMake size c pass act.AwaitItem = OutputEndsAtGates size c × (spools.has_stop c.pages.calls ≡ false)
OutputMayMake size c pass act.Request = IsAt c.disk.now c.seat pass false
OutputMayMake size c pass act.TakePage = OutputEndsAtGates size c × (spools.has_stop c.pages.calls ≡ false)
    × (spools.is_ready c.pages.calls ≡ true) × IsAt c.disk.now c.seat pass true
OutputMayMake size c pass act.Release = IsAt c.disk.now c.seat pass true
OutputMayMake size c pass (act.PutFeed feed) = OutputEndsAtGates size c
    × (lines.has_stop c.lines.calls ≡ false)
OutputMayMake size c pass (act.Stop b) = OutputEndsAtGates size c × ((b ≡ 3) ⊎ (b ≡ 4))
OutputMayMake size c pass (act.Ended how) = Unit {0}
OutputMayMake size c pass other = ⊥

abbrev pub output_with_stop : {B : Type 0} → ℕ → OutputSide B → OutputSide B
output_with_stop b c =
    if b == 3 then record c { pages = after_call c.pages (spool.Stop Receiver) }
    else record c { lines = after_call c.lines (slot.Stop Sender) }

-- and what it made of its side and its pass, by what was answered
abbrev pub OutputMade : {L B : Type 0} → OutputSide B → Option Pass → OutputSide B → Option Pass → Action
    → Reply L → Type 0
OutputMade old had new has act.AwaitItem reply.Done =
    (new ≡ record old { pages = after_call old.pages (spool.Await Receiver) }) × (has ≡ had)
OutputMade old had new has act.AwaitItem reply.Stopped =
    (new ≡ record old { pages = after_call old.pages (spool.AwaitRefused Receiver) }) × (has ≡ had)
OutputMade old had new has act.Request reply.Done =
    (new ≡ record old { seat = new.seat }) × (new.seat.number ≡ old.seat.number)
    × IsAt old.disk.now new.seat has true
OutputMade old had new has act.TakePage (reply.Page page last) =
    (new ≡ record old { pages = after_call old.pages (spool.Take page.0 last) }) × (has ≡ had)
OutputMade old had new has act.TakePage reply.Failed =
    (new ≡ record old { pages = after_call old.pages spool.TakeFailed }) × (has ≡ had)
OutputMade old had new has act.Release reply.Done =
    (new ≡ record old { seat = new.seat }) × (new.seat.number ≡ old.seat.number)
    × IsAt old.disk.now new.seat has false
OutputMade old had new has (act.PutFeed feed) reply.Done =
    (new ≡ record old { lines = after_call old.lines (slot.Put feed) }) × (has ≡ had)
OutputMade old had new has (act.PutFeed feed) reply.Stopped =
    (new ≡ record old { lines = after_call old.lines (slot.PutRefused feed) }) × (has ≡ had)
OutputMade old had new has (act.Stop b) reply.Done = (new ≡ output_with_stop b old) × (has ≡ had)
OutputMade old had new has (act.Ended how) reply.Done = (new ≡ old) × (has ≡ had)
OutputMade old had new has action r = ⊥

-- From its first action on: each buffer has had the calls of the history at its side, and it has the disk or
-- not.
pub record OutputRan {L B : Type 0} (size : B → ℕ) (start now : OutputSide B) (pass : Option Pass)
    (h : List (Entry L)) : Type 0 where
  pub from_gate : (start.pages_gate.now ≡ now.pages_gate.now)
      × (now.pages.gate ≡ known (size now.pages_gate.now.area) now.pages_gate.now)
  pub from_calls : now.pages.calls ≡ spool_calls Receiver 3 h
  pub to_gate : (start.lines_gate.now ≡ now.lines_gate.now) × (now.lines.gate ≡ now.lines_gate.now)
  pub to_calls : now.lines.calls ≡ line_calls Sender 4 h
  pub disk : start.disk.now ≡ now.disk.now
  pub desk : DeskRan now.disk.now start.seat now.seat pass h
