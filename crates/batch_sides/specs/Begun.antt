-- What the five processes begin with: buffers and a disk that nobody has used, and their ends there.
use Rattle.std.specs.Prelude.{◌≡◌, ℕ, []}
use Rattle.solo_devices.specs.CardUnit.{Held}
use Rattle.solo_devices.specs.PrinterUnit.{Printing}
use Rattle.resource_mon.specs.Seats.{Desk, Seat}
use Rattle.disk_spool.specs.Ends.{known}
use Rattle.batch_ends.specs.declared.units.Units.{Units}
use Rattle.batch_sides.specs.declared.buffers.RunningLine.{RunningLine}
use Rattle.batch_sides.specs.declared.buffers.RunningSpool.{RunningSpool}
use Rattle.batch_sides.specs.declared.buffers.RunningDisk.{RunningDisk}
use Rattle.batch_sides.specs.declared.buffers.Seats.{Seats}
use Rattle.batch_sides.specs.declared.gates.Gates.{Gates}
use Rattle.batch_sides.specs.declared.gates.Ends.{Ends}
use Rattle.batch_sides.specs.declared.row.Row.{Row}

-- ---- before any call
pub record IsFreshLine (line : RunningLine) : Type 0 where
  pub sender : line.sender ≡ record { gate = line.gate; calls = [] }
  pub receiver : line.receiver ≡ record { gate = line.gate; calls = [] }

-- over an area of so many pages
pub record IsFreshSpool {A : Type 0} (size : ℕ) (spool : RunningSpool A) : Type 0 where
  pub sender : spool.sender ≡ record { gate = known size spool.gate; calls = [] }
  pub receiver : spool.receiver ≡ record { gate = known size spool.gate; calls = [] }

-- a seat at this disk of the process with this number, that hasn't asked for it
abbrev pub fresh_seat : Desk → ℕ → Seat
fresh_seat disk number = record { gate = disk.gate; number = number; calls = []; joined = [] }

-- The disk has three seats, and these are they.
pub record AreFreshSeats (disk : Desk) (seats : Seats) : Type 0 where
  pub three : disk.seats ≡ 3
  pub input : seats.input ≡ fresh_seat disk 1
  pub job : seats.job ≡ fresh_seat disk 2
  pub output : seats.output ≡ fresh_seat disk 3

abbrev pub IsFreshDisk : RunningDisk → Type 0
IsFreshDisk running = AreFreshSeats running.disk running.seats

-- all that the five begin with, the spools over areas of so many pages
pub record AreFresh {A B : Type 0} (input_size output_size : ℕ) (gates : Gates A B)
    (ends : Ends A B) : Type 0 where
  pub cards_sender : ends.cards.0 ≡ record { gate = gates.cards; calls = [] }
  pub cards_receiver : ends.cards.1 ≡ record { gate = gates.cards; calls = [] }
  pub input_sender : ends.input.0 ≡ record { gate = known input_size gates.input; calls = [] }
  pub input_receiver : ends.input.1 ≡ record { gate = known input_size gates.input; calls = [] }
  pub output_sender : ends.output.0 ≡ record { gate = known output_size gates.output; calls = [] }
  pub output_receiver : ends.output.1 ≡ record { gate = known output_size gates.output; calls = [] }
  pub lines_sender : ends.lines.0 ≡ record { gate = gates.lines; calls = [] }
  pub lines_receiver : ends.lines.1 ≡ record { gate = gates.lines; calls = [] }
  pub seats : AreFreshSeats gates.disk ends.seats

-- the units that they run on, with the areas of the spools at these gates
abbrev pub units_at : {S K F A B : Type 0} → Gates A B → Held S → Printing K → F → Units S K F A B
units_at gates deck paper files = record {
  deck = deck;
  paper = paper;
  files = files;
  input = gates.input.area;
  output = gates.output.area;
}

-- ---- the five processes at these gates, each with its own ends and devices
pub record BeginsBy {S K F A B : Type 0} (gates : Gates A B) (ends : Ends A B) (deck : Held S)
    (paper : Printing K) (files : F) (row : Row S K F A B) : Type 0 where
  pub deck_is : row.cards.deck ≡ deck
  pub paper_is : row.paper.paper ≡ paper
  pub files_are : row.jobs.files ≡ files
  pub card_gate : row.cards.gate.now ≡ gates.cards
  pub card_end : row.cards.lines ≡ ends.cards.0
  pub input_from_gate : row.pages.cards_gate.now ≡ gates.cards
  pub input_from_end : row.pages.cards ≡ ends.cards.1
  pub input_to_gate : row.pages.pages_gate.now ≡ gates.input
  pub input_to_end : row.pages.pages ≡ ends.input.0
  pub job_from_gate : row.jobs.cards_gate.now ≡ gates.input
  pub job_from_end : row.jobs.cards ≡ ends.input.1
  pub job_to_gate : row.jobs.pages_gate.now ≡ gates.output
  pub job_to_end : row.jobs.pages ≡ ends.output.0
  pub output_from_gate : row.lines.pages_gate.now ≡ gates.output
  pub output_from_end : row.lines.pages ≡ ends.output.1
  pub output_to_gate : row.lines.lines_gate.now ≡ gates.lines
  pub output_to_end : row.lines.lines ≡ ends.lines.0
  pub printer_gate : row.paper.gate.now ≡ gates.lines
  pub printer_end : row.paper.lines ≡ ends.lines.1
  pub input_disk : row.pages.disk.now ≡ gates.disk
  pub job_disk : row.jobs.disk.now ≡ gates.disk
  pub output_disk : row.lines.disk.now ≡ gates.disk
  pub input_seat : row.pages.seat ≡ ends.seats.input
  pub job_seat : row.jobs.seat ≡ ends.seats.job
  pub output_seat : row.lines.seat ≡ ends.seats.output
