-- What contracts see of a running disk resource, of its seats, and of the pass of whoever has it.
use Rattle.std.specs.Prelude.{◌≡◌, ℕ, zero, suc, true, false, List, [], ◌∷◌, ◌++◌}
use Rattle.monitor_gate.specs.declared.view.Line.{Line}
use Rattle.monitor_gate.specs.Ends.{TableId, GateView, PassView, IsPassOf, IsOutside}
use Rattle.monitor_gate.specs.Views.{entries_of, covers}
use Rattle.resource_mon.specs.declared.call.DiskCall.{DiskCall}
use Rattle.resource_mon.specs.Claims.{Claims}
use Rattle.resource_mon.specs.DiskCalls.{IsTied, IsSeated, has_grant}

-- which resource it is, and how many seats it has
pub record Desk : Type 0 where
  pub gate : TableId
  pub seats : ℕ

-- the resource of a seat, the number of its process, its calls, the oldest first, and those of the seats that it has joined
pub record Seat : Type 0 where
  pub gate : TableId
  pub number : ℕ
  pub calls : List DiskCall
  pub joined : List (Line DiskCall)

-- the resource, and the process that has it
pub record Pass : Type 0 where
  pub gate : TableId
  pub number : ℕ

-- the seat, once its process has completed one call more
abbrev pub after_call : Seat → DiskCall → Seat
after_call seat call = record seat { calls = seat.calls ++ call ∷ [] }

-- the calls of a seat, under its number, and those of the seats that it has joined
abbrev pub lines_of : Seat → List (Line DiskCall)
lines_of seat = record { number = seat.number; entries = seat.calls } ∷ seat.joined

-- the seat, once it has joined the other
abbrev pub after_join : Seat → Seat → Seat
after_join seat other = record seat { joined = seat.joined ++ lines_of other }

-- the seats of a new resource, for the processes from 1 to n
abbrev pub new_seats : TableId → ℕ → List Seat
new_seats gate zero = []
new_seats gate (suc n) = new_seats gate n ++ record { gate = gate; number = suc n; calls = []; joined = [] } ∷ []

-- the seat has joined all others
abbrev pub HasJoinedAll : Desk → Seat → Type 0
HasJoinedAll desk seat = covers desk.seats (lines_of seat) ≡ true

-- the calls of each process that a seat knows of
abbrev pub calls_of : Seat → ℕ → List DiskCall
calls_of seat = entries_of (lines_of seat)

-- the seat is one of this resource, its process hasn't got it, and it has joined no other
abbrev pub IsIdle : Desk → Seat → Type 0
IsIdle desk seat = (seat.gate ≡ desk.gate) × (has_grant seat.calls ≡ false) × (seat.joined ≡ [])

-- What a granted request finds: the resource is tied to the calls of all processes, this one's among them, and none of them
-- ends in a grant.
pub record FindsNoGrant (number : ℕ) (own : List DiskCall) : Type 0 where
  pub state : Claims
  pub calls : ℕ → List DiskCall
  pub own_calls : calls number ≡ own
  pub tied : IsTied calls state
  pub none : (p : ℕ) → has_grant (calls p) ≡ false

-- no two of these processes have a grant
abbrev pub HasOneGrant : (ℕ → List DiskCall) → Type 0
HasOneGrant calls = (p q : ℕ) → has_grant (calls p) ≡ true → has_grant (calls q) ≡ true → p ≡ q

-- ---- inside the crate
-- the pass of a seat, between two of its calls
pub record IsSeatOf (gate : GateView Claims) (pass : PassView Claims DiskCall) : Type 0 where
  pub of_gate : IsPassOf gate pass
  pub outside : IsOutside pass
  pub alone : pass.view.joined ≡ []
  pub seated : IsSeated pass.view.number
