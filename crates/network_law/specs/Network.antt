-- A network: processes by number, the buffers between them and one desk. Its states, its events, and which of
-- them may happen.
use Rattle.std.specs.Prelude.{◌≡◌, ◌≤◌, ℕ, ◌==◌, Bool, if◌then◌else◌, List, [], ◌∷◌, Option, None, Some}
use Rattle.solo_base.specs.declared.outcome.Side.{Side}
use Rattle.network_law.specs.Acts.{Call, Alone, At, Asks, Gives, Went, Done, Act}
use Rattle.network_law.specs.Buffer.{Buffer, fresh, after_visit, MayVisit, VisitFits}
use Rattle.network_law.specs.Desk.{Desk, idle, asked, after_asking, after_giving, MayAsk}

pub record Network (Devices Action Entry Parcel : Type 0) : Type 1 where
  -- the processes have the numbers from 1 to this one
  pub size : ℕ
  -- what a process does next, by its number and its history, the newest entry first; none once it has ended
  pub next : ℕ → List Entry → Option Action
  pub action : Entry → Action
  -- what an action of a process is to the monitors, and how an entry went there
  pub call : ℕ → Action → Call
  pub went : Entry → Went Parcel
  -- whether a process may have this entry: its reply fits its action
  pub Suits : ℕ → Entry → Type 0
  -- whether a parcel is the last of its stream
  pub mark : Parcel → Bool
  -- the process at a side of a buffer
  pub seat : ℕ → Side → ℕ
  -- whether the devices allow an entry, with the bytes that they gain by it, and how they stand then
  pub Allows : Devices → Entry → List ℕ → Type 0
  pub given : Devices → Entry → List ℕ → Devices

pub record State (Devices Entry Parcel : Type 0) : Type 0 where
  pub devices : Devices
  pub histories : ℕ → List Entry
  pub buffers : ℕ → Buffer Parcel
  pub desk : Desk

-- the opening state: nothing has happened; what is inside is told or not
abbrev pub inside_at : {Parcel : Type 0} → Bool → Option (List Parcel)
inside_at told = if told then Some [] else None

abbrev pub opening : {Devices Entry Parcel : Type 0} → Devices → (ℕ → ℕ) → (ℕ → Bool)
    → State Devices Entry Parcel
opening devices sizes told = record {
  devices = devices;
  histories = λ p. [];
  buffers = λ b. fresh (sizes b) (inside_at (told b));
  desk = idle;
}

-- an entry of a process, and the bytes that the devices gained by it
pub record Event (Entry : Type 0) : Type 0 where
  pub process : ℕ
  pub entry : Entry
  pub gained : List ℕ

-- with x at the number n
abbrev pub set : {X : Type 0} → (ℕ → X) → ℕ → X → ℕ → X
set f n x m = if m == n then x else f m

-- ---- what an event does
abbrev pub buffers_after : {Parcel : Type 0} → (Parcel → Bool) → Call → ℕ → Went Parcel → (ℕ → Buffer Parcel)
    → ℕ → Buffer Parcel
buffers_after mark (At b side visit) p went buffers =
    set buffers b (after_visit mark visit side p went (buffers b))
buffers_after mark Alone p went buffers = buffers
buffers_after mark Asks p went buffers = buffers
buffers_after mark Gives p went buffers = buffers

abbrev pub desk_after : {Parcel : Type 0} → Call → ℕ → Went Parcel → Desk → Desk
desk_after Asks p went desk = after_asking desk p went
desk_after Gives p went desk = after_giving desk
desk_after Alone p went desk = desk
desk_after (At b side visit) p went desk = desk

abbrev pub call_of : {Devices Action Entry Parcel : Type 0} → Network Devices Action Entry Parcel → ℕ → Entry
    → Call
call_of network p entry = network.call p (network.action entry)

abbrev pub happens : {Devices Action Entry Parcel : Type 0} → Network Devices Action Entry Parcel
    → State Devices Entry Parcel → Event Entry → State Devices Entry Parcel
happens network s event = record {
  devices = network.given s.devices event.entry event.gained;
  histories = set s.histories event.process (event.entry ∷ s.histories event.process);
  buffers = buffers_after network.mark (call_of network event.process event.entry) event.process
      (network.went event.entry) s.buffers;
  desk = desk_after (call_of network event.process event.entry) event.process
      (network.went event.entry) s.desk;
}

-- ---- which events may happen: at the process's turn
abbrev pub MayCall : {Devices Entry Parcel : Type 0} → State Devices Entry Parcel → ℕ → Call → Type 0
MayCall s p Alone = Unit {0}
MayCall s p (At b side visit) = MayVisit (s.buffers b).sides side p visit
MayCall s p Asks = MayAsk s.desk.claims p
MayCall s p Gives = s.desk.claims.handed ≡ None

-- and as the monitors answer
abbrev pub Fits : {Devices Entry Parcel : Type 0} → (Parcel → Bool) → State Devices Entry Parcel → Call
    → Went Parcel → Type 0
Fits mark s Alone went = went ≡ Done
Fits mark s (At b side visit) went = VisitFits mark side (s.buffers b) visit went
Fits mark s Asks went = went ≡ asked s.desk.claims.handed s.desk.claims.holder
Fits mark s Gives went = went ≡ Done

abbrev pub IsOne : {Devices Action Entry Parcel : Type 0} → Network Devices Action Entry Parcel → ℕ → Type 0
IsOne network p = (1 ≤ p) × (p ≤ network.size)

-- The entry is of the process's next action, at its turn, as the monitors answer, and the devices allow it.
pub record IsEnabled {Devices Action Entry Parcel : Type 0} (network : Network Devices Action Entry Parcel)
    (s : State Devices Entry Parcel) (event : Event Entry) : Type 0 where
  pub one : IsOne network event.process
  pub next : network.next event.process (s.histories event.process) ≡ Some (network.action event.entry)
  pub may : MayCall s event.process (call_of network event.process event.entry)
  pub suits : network.Suits event.process event.entry
  pub fits : Fits network.mark s (call_of network event.process event.entry) (network.went event.entry)
  pub allowed : network.Allows s.devices event.entry event.gained

-- ---- the acts of a process
abbrev pub acts : {Devices Action Entry Parcel : Type 0} → Network Devices Action Entry Parcel → ℕ
    → List Entry → List (Act Parcel)
acts network p [] = []
acts network p (entry ∷ before) = record {
  call = call_of network p entry;
  went = network.went entry;
} ∷ acts network p before

-- Each entry of the history was the next action of what came before, with a reply that fits it.
abbrev pub Follows : {Devices Action Entry Parcel : Type 0} → Network Devices Action Entry Parcel → ℕ
    → List Entry → Type 0
Follows network p [] = Unit {0}
Follows network p (entry ∷ before) = (network.next p before ≡ Some (network.action entry))
    × network.Suits p entry × Follows network p before
