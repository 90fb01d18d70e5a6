-- How many events a run has, by the calls that each process made.
use Rattle.std.specs.Prelude.{◌≡◌, ℕ, zero, suc, ◌+◌, ◌*◌, Bool, true, false, List, [], ◌∷◌, length, None}
use Rattle.solo_base.specs.declared.outcome.Side.{Side}
use Rattle.network_law.specs.Acts.{At, Gives, Stops, Act, is_delayed}
use Rattle.network_law.specs.Network.{Network, State, acts}
use Rattle.place_law.specs.Process.{Entry}
use Rattle.row_law.specs.Process.{View, Process}
use Rattle.row_law.specs.Row.{Row}
use Rattle.row_law.specs.Determined.{steps}

abbrev pub bit : Bool → ℕ
bit true = 1
bit false = 0

-- the delays among the acts of a process, and the calls that weren't delayed
abbrev pub delays_of : {Parcel : Type 0} → List (Act Parcel) → ℕ
delays_of [] = 0
delays_of (act ∷ before) = bit (is_delayed act.went) + delays_of before

abbrev pub if_made : Bool → ℕ
if_made true = 0
if_made false = 1

abbrev pub made_of : {Parcel : Type 0} → List (Act Parcel) → ℕ
made_of [] = 0
made_of (act ∷ before) = if_made (is_delayed act.went) + made_of before

-- of the numbers from 1 to this one
abbrev pub total : ℕ → (ℕ → ℕ) → ℕ
total zero f = 0
total (suc n) f = total n f + f (suc n)

-- what a process made so far
abbrev pub made_by : {Devices Action Entry Parcel : Type 0} → Network Devices Action Entry Parcel
    → State Devices Entry Parcel → ℕ → ℕ
made_by network s p = made_of (acts network p (s.histories p))

-- ---- in a row
-- a call that may lack memory is none with which a process closes down
abbrev pub LacksRightly : {Action Reply Parcel : Type 0} → View Action Reply Parcel → Process Action Reply
    → Type 0
LacksRightly {Action} {Reply} view p = (action : Action) (reply : Reply) → view.MayLack action reply
    → (p.calls action ≡ Gives → ⊥) × ((b : ℕ) (side : Side) → p.calls action ≡ At b side Stops → ⊥)
    × (view.ends action ≡ None)

-- by the steps of a process at its places, and its buffers
abbrev pub events_of : {Devices Action Reply Parcel : Type 0} → Row Devices Action Reply Parcel
    → State Devices (Entry Action Reply) Parcel → ℕ → ℕ
events_of t s p =
    2 * (length (steps t.view (t.process p) (s.histories p))
    + (length (t.process p).spools + length (t.process p).buffers + 5)) + 1
