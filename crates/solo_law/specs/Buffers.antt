-- The six buffers of Solo, who sits at them, and what an action is to them.
use Rattle.std.specs.Prelude.{ℕ, ◌==◌, if◌then◌else◌}
use Rattle.solo_base.specs.declared.outcome.Side.{Side}
use Rattle.solo_base.specs.declared.outcome.Side.TheVariants.{Sender, Receiver}
use Rattle.network_law.specs.Acts.{Call, Alone, At, Passes, Stops, Went, Told, Moved}
use Rattle.network_law.specs.Acts as go
use Rattle.exchange_law.specs.Parcels.{Parcel, OfArg, OfPage}
use Rattle.solo_law.specs.Actions.{Action, Reply}
use Rattle.solo_law.specs.Actions as act

-- The processes are 1 input, 2 job, 3 output. The buffers 1 to 3 stand between input and job: orders, pages
-- and reports of card files. The buffers 4 to 6 stand between job and output: orders, pages and reports of
-- printing.
abbrev pub seat : ℕ → Side → ℕ
seat b Sender =
    if b == 1 then 2 else if b == 2 then 1 else if b == 3 then 1
    else if b == 4 then 2 else if b == 5 then 2 else 3
seat b Receiver =
    if b == 1 then 1 else if b == 2 then 2 else if b == 3 then 2
    else if b == 4 then 3 else if b == 5 then 3 else 2

abbrev pub side_at : ℕ → ℕ → Side
side_at p b = if seat b Sender == p then Sender else Receiver

-- what an action of a process is to the monitors
abbrev pub call : ℕ → Action → Call
call p (act.PutArg b a) = At b Sender Passes
call p (act.TakeArg b) = At b Receiver Passes
call p (act.PutPage b page) = At b Sender Passes
call p (act.TakePage b) = At b Receiver Passes
call p (act.Stop b) = At b (side_at p b) Stops
call p other = Alone

-- and how it went there
abbrev pub went_by : Action → Reply → Went Parcel
went_by (act.PutArg b a) act.Done = Moved (OfArg a)
went_by (act.PutPage b page) act.Done = Moved (OfPage page)
went_by (act.TakeArg b) (act.OfArg a) = Moved (OfArg a)
went_by (act.TakePage b) (act.OfPage page) = Moved (OfPage page)
went_by action act.Stopped = Told
went_by action reply = go.Done
