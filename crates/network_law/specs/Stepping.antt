-- What a network is to who steps it: its law, with who may go on and how each event goes.
use Rattle.std.specs.Prelude.{◌≡◌, ◌-◌, ℕ, Bool, true, false, List, ◌∷◌, length, Option, None, Some, is_some, is_none}
use Rattle.solo_base.specs.declared.outcome.Side.{Side}
use Rattle.queue_var.specs.declared.turn.Turn.{Turn}
use Rattle.queue_var.specs.declared.turn.Turn.TheVariants.{Free, Handed}
use Rattle.network_run.specs.declared.stepped.Stepped.{Stepped}
use Rattle.network_run.specs.declared.stepped.Stepped.TheVariants as stepped
use Rattle.network_run.specs.Law.{Law}
use Rattle.network_law.specs.Acts.{Call, Alone, At, Asks, Gives, Visit, Awaits, Passes, Moves, Stops, is_delayed}
use Rattle.network_law.specs.Network.{Network, State, Event, IsOne, IsEnabled, MayCall, call_of, happens, opening}

-- From what a network opens: what the devices hold, how large the buffers are and which of them are told. And
-- of which opening all that is inside its devices is told, and in which entries no device fails and no memory
-- is refused.
pub record Openings (Devices Entry : Type 0) : Type 1 where
  pub Opening : Type 0
  pub devices : Opening → Devices
  pub sizes : Opening → ℕ → ℕ
  pub told : Opening → ℕ → Bool
  pub IsTold : Opening → Type 0
  pub IsSmooth : Entry → Type 0

-- A process has a next action, and is at its turn.
pub record MayGo {Devices Action Entry Parcel : Type 0} (network : Network Devices Action Entry Parcel)
    (s : State Devices Entry Parcel) (p : ℕ) : Type 0 where
  pub action : Action
  pub one : IsOne network p
  pub next : network.next p (s.histories p) ≡ Some action
  pub may : MayCall s p (network.call p action)

-- ---- how an event goes
abbrev pub is_named : Turn Side → Bool
is_named Free = false
is_named (Handed side) = true

-- whether a call that waits is made at a handed turn: it was made before, and is made again
abbrev pub is_again : {Devices Entry Parcel : Type 0} → State Devices Entry Parcel → Call → Bool
is_again s (At b side Awaits) = is_named (s.buffers b).sides.turn
is_again s (At b side Passes) = is_named (s.buffers b).sides.turn
is_again s (At b side Moves) = false
is_again s (At b side Stops) = false
is_again s Asks = is_some s.desk.claims.handed
is_again s Alone = false
is_again s Gives = false

-- by whether it ends in a delay, whether its process has ended then, and whether its call was made again
abbrev pub stepped_so : Bool → Bool → Bool → Stepped
stepped_so true ended again = stepped.Delayed
stepped_so false true again = stepped.Ended
stepped_so false false true = stepped.Resumed
stepped_so false false false = stepped.Acted

abbrev pub goes : {Devices Action Entry Parcel : Type 0} → Network Devices Action Entry Parcel
    → State Devices Entry Parcel → Event Entry → Stepped
goes network s event =
    stepped_so (is_delayed (network.went event.entry))
    (is_none (network.next event.process (event.entry ∷ s.histories event.process)))
    (is_again s (call_of network event.process event.entry))

-- ---- the law
abbrev pub law_of : {Devices Action Entry Parcel : Type 0} → Network Devices Action Entry Parcel
    → Openings Devices Entry → Law
law_of {Devices} {Action} {Entry} {Parcel} network openings = record {
  Opening = openings.Opening;
  State = State Devices Entry Parcel;
  Event = Event Entry;
  size = network.size;
  opened = λ o. opening (openings.devices o) (openings.sizes o) (openings.told o);
  happens = happens network;
  IsEnabled = IsEnabled network;
  MayGo = MayGo network;
  HasEnded = λ s p. network.next p (s.histories p) ≡ None;
  process = λ event. event.process;
  went = goes network;
  holder = λ s. s.desk.claims.holder;
  grants = λ s event. length (happens network s event).desk.granted - length s.desk.granted;
  IsTold = openings.IsTold;
  IsSmooth = λ event. openings.IsSmooth event.entry;
}
