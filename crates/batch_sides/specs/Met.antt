-- What is known of the buffers and of the disk once all five processes have ended.
use Rattle.std.specs.Prelude.{◌≡◌, ℕ, [], ◌∷◌, List, Option}
use Rattle.solo_base.specs.declared.item.Feed.{Feed}
use Rattle.queue_var.specs.BetweenTwo.{by_side}
use Rattle.slot_buffer.specs.Ends as line
use Rattle.disk_spool.specs.Ends as spool
use Rattle.disk_spool.specs.Ends.{known}
use Rattle.resource_mon.specs.Seats.{Desk, Seat}
use Rattle.batch_ends.specs.Ended.{stopped_at}
use Rattle.batch_sides.specs.declared.buffers.Seats.{Seats}
use Rattle.batch_sides.specs.declared.gates.AllMet.{AllMet as Met}
use Rattle.batch_sides.specs.declared.gates.Gates.{Gates}
use Rattle.batch_sides.specs.declared.gates.Ends.{Ends}

-- the seat at this disk of the process with this number
pub record IsSeatAt (disk : Desk) (number : ℕ) (seat : Seat) : Type 0 where
  pub gate : seat.gate ≡ disk.gate
  pub number_is : seat.number ≡ number
  pub alone : seat.joined ≡ []

-- The disk has three seats, and these are they.
pub record AreSeatsOf (disk : Desk) (seats : Seats) : Type 0 where
  pub three : disk.seats ≡ 3
  pub input : IsSeatAt disk 1 seats.input
  pub job : IsSeatAt disk 2 seats.job
  pub output : IsSeatAt disk 3 seats.output

-- Each end is one of its gate.
pub record AreEndsOf {A B : Type 0} (input_size output_size : ℕ) (gates : Gates A B)
    (ends : Ends A B) : Type 0 where
  pub cards_sender : ends.cards.0.gate ≡ gates.cards
  pub cards_receiver : ends.cards.1.gate ≡ gates.cards
  pub input_sender : ends.input.0.gate ≡ known input_size gates.input
  pub input_receiver : ends.input.1.gate ≡ known input_size gates.input
  pub output_sender : ends.output.0.gate ≡ known output_size gates.output
  pub output_receiver : ends.output.1.gate ≡ known output_size gates.output
  pub lines_sender : ends.lines.0.gate ≡ gates.lines
  pub lines_receiver : ends.lines.1.gate ≡ gates.lines
  pub seats : AreSeatsOf gates.disk ends.seats

-- The ends of each buffer have met, with something or nothing left inside.
pub record AllMeet {A B : Type 0} (input_size output_size : ℕ) (input_told : A → Option (List (List ℕ)))
    (input_faults : A → ℕ) (output_told : B → Option (List (List ℕ))) (output_faults : B → ℕ)
    (gates : Gates A B) (ends : Ends A B)
    (met : Met A B) : Type 0 where
  pub cards_rest : Option Feed
  pub cards : line.Meets (by_side ends.cards.0.calls ends.cards.1.calls) cards_rest
      (stopped_at met.stopped_by 1)
  pub input_left : ℕ
  pub input : spool.Meets input_told input_faults gates.input.area met.input
      (by_side ends.input.0.calls ends.input.1.calls) input_left (stopped_at met.stopped_by 2)
  pub input_room : spool.MeetsRoom input_size (by_side ends.input.0.calls ends.input.1.calls) input_left
  pub output_left : ℕ
  pub output : spool.Meets output_told output_faults gates.output.area met.output
      (by_side ends.output.0.calls ends.output.1.calls) output_left (stopped_at met.stopped_by 3)
  pub output_room : spool.MeetsRoom output_size (by_side ends.output.0.calls ends.output.1.calls) output_left
  pub lines_rest : Option Feed
  pub lines : line.Meets (by_side ends.lines.0.calls ends.lines.1.calls) lines_rest
      (stopped_at met.stopped_by 4)
  pub four : met.stopped_by ≡ stopped_at met.stopped_by 1 ∷ stopped_at met.stopped_by 2
      ∷ stopped_at met.stopped_by 3 ∷ stopped_at met.stopped_by 4 ∷ []
