-- A process at the disk: its seat, and its pass while it has the disk.
use Rattle.std.specs.Prelude.{◌≡◌, Bool, true, false, List, [], Option, None, Some}
use Rattle.resource_mon.specs.Seats.{Desk, Pass, Seat}
use Rattle.resource_mon.specs.DiskCalls.{has_grant}
use Rattle.batch_procs.specs.History.{Entry, holds}

-- its pass, where it has the disk
abbrev pub pass_of : Bool → Seat → Option Pass
pass_of true seat = Some record { gate = seat.gate; number = seat.number }
pass_of false seat = None

-- The seat is one of this disk and alone, and the process has the disk or has it not.
pub record IsAt (disk : Desk) (seat : Seat) (pass : Option Pass) (has : Bool) : Type 0 where
  pub gate : seat.gate ≡ disk.gate
  pub alone : seat.joined ≡ []
  pub grant : has_grant seat.calls ≡ has
  pub pass_is : pass ≡ pass_of has seat

-- It is the seat with the same number, and by its history the process has the disk or has it not.
abbrev pub DeskRan : {L : Type 0} → Desk → Seat → Seat → Option Pass → List (Entry L) → Type 0
DeskRan disk start now pass h = (now.number ≡ start.number) × IsAt disk now pass (holds h)
