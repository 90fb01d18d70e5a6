-- How much the core may still do: a number that falls with each event, whatever the devices tell and
-- whichever of them fails.
use Rattle.std.specs.Prelude.{◌≡◌, ◌<◌, ◌+◌, ◌*◌, ◌-◌, ℕ, zero, suc, Bool, false, length, Option, None, Some}
use Rattle.solo_base.specs.declared.outcome.Side.{Side}
use Rattle.solo_base.specs.declared.outcome.Side.TheVariants.{Sender, Receiver}
use Rattle.solo_base.specs.declared.outcome.Outcome.{Outcome}
use Rattle.queue_var.specs.declared.turn.Turn.{Turn}
use Rattle.queue_var.specs.declared.turn.Turn.TheVariants.{Handed}
use Rattle.queue_var.specs.Sides.{Sides}
use Rattle.batch_procs.specs.Jobs.{Jobs}
use Rattle.batch_procs.specs.declared.actions.Action.TheVariants as act
use Rattle.batch_procs.specs.Parcels.{is_ended}
use Rattle.batch_procs.specs.History.{Entry, Does, taken}
use Rattle.batch_procs.specs.Causes.{caused}
use Rattle.batch_procs.specs.Ahead.{ahead, most_of}
use Rattle.batch_procs.specs.Table.{process}
use Rattle.core_law.specs.Core.{CoreState, items_by}

-- ---- the calls that are left
-- What comes of a parcel that is handed over, where each of the parcels that it gives has this weight: their
-- puts with the calls around them, and the loads of the files that it names with theirs.
abbrev pub taken_weight : ℕ → ℕ → ℕ
taken_weight weight most = (weight + 9) * most + 5

-- what comes of one that so many processes are still to take, one after the other up to the printer
abbrev pub weight_before : {L : Type 0} → Jobs L → ℕ → ℕ
weight_before J zero = 0
weight_before J (suc n) = taken_weight (weight_before J n) (most_of J (5 - n))

-- of one that a process puts, by the process's number; 0 is the deck
abbrev pub weight : {L : Type 0} → Jobs L → ℕ → ℕ
weight J p = weight_before J (5 - p)

-- what a process may still do for what it took
abbrev pub process_left : {L : Type 0} → Jobs L → CoreState L → ℕ → ℕ
process_left J s p = ahead (weight J p) (most_of J p) (process J p) (s.histories p)

-- what may come of the parcels inside a buffer
abbrev pub buffer_left : {L : Type 0} → Jobs L → CoreState L → ℕ → ℕ
buffer_left J s b = weight J b * length (s.buffers b).marks

-- How many parcels the card process may still read, by its cause to stop and whether it has read the end: so
-- many cards, and the end.
abbrev pub reads_left : Option Outcome → Bool → ℕ → ℕ
reads_left None false cards = cards + 1
reads_left how ended cards = 0

-- and what may come of them, where the deck has no more than so many cards
abbrev pub deck_left : {L : Type 0} → Jobs L → ℕ → CoreState L → ℕ
deck_left J cards s =
    weight J 0 * reads_left (caused (s.histories 1)) (is_ended (taken (s.histories 1))) cards

-- the calls of all five, delays not counted
abbrev pub calls_left : {L : Type 0} → Jobs L → ℕ → CoreState L → ℕ
calls_left J cards s =
    deck_left J cards s
    + (process_left J s 1 + process_left J s 2 + process_left J s 3 + process_left J s 4 + process_left J s 5)
    + (buffer_left J s 1 + buffer_left J s 2 + buffer_left J s 3 + buffer_left J s 4)

-- ---- who sleeps: it waits in a queue, and the turn is not handed to it
abbrev pub sleeps : Side → Turn Side → Option ℕ → ℕ
sleeps side turn None = 0
sleeps Sender (Handed Sender) (Some p) = 0
sleeps Receiver (Handed Receiver) (Some p) = 0
sleeps side turn (Some p) = 1

abbrev pub sleepers_at : Sides → ℕ
sleepers_at sides = sleeps Sender sides.turn sides.sender + sleeps Receiver sides.turn sides.receiver

-- at the four buffers and the desk
abbrev pub sleepers : {L : Type 0} → CoreState L → ℕ
sleepers s =
    sleepers_at (s.buffers 1).sides + sleepers_at (s.buffers 2).sides + sleepers_at (s.buffers 3).sides
    + sleepers_at (s.buffers 4).sides + length s.desk.claims.waiting

-- There are eight queues at the buffers, and fewer than five wait for the disk.
abbrev pub most_sleepers : ℕ
most_sleepers = 12

-- ---- what is left
-- Each call lowers the calls that are left, and may wake one that sleeps; a delay puts one to sleep.
abbrev pub events_left : {L : Type 0} → Jobs L → ℕ → CoreState L → ℕ
events_left J cards s = 2 * calls_left J cards s + (most_sleepers - sleepers s)

-- how many cards a deck may still give before an entry and behind it: an item leaves it fewer, and no other
-- action than a read changes it
abbrev pub LeavesFewer : {L : Type 0} → Entry L → ℕ → ℕ → Type 0
LeavesFewer (Does act.ReadCard r) before after = 0 < length (items_by r) → after < before
LeavesFewer entry before after = after ≡ before
