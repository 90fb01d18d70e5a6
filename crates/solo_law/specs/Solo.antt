-- Solo's network: three processes and six buffers of one slot each.
use Rattle.std.specs.Prelude.{ℕ, ◌==◌, ◌≤◌, Bool, true, false, [], None}
use Rattle.solo_base.specs.declared.outcome.Outcome.TheVariants as outcome
use Rattle.solo_devices.specs.declared.card_read.CardRead.TheVariants as read
use Rattle.network_law.specs.Network.{Network, State, Event, IsEnabled, opening}
use Rattle.network_law.specs.Acts.{Alone}
use Rattle.network_law.specs.Stepping.{Openings, law_of}
use Rattle.network_run.specs.Law.{Law}
use Rattle.network_run.specs.Law as run
use Rattle.exchange_law.specs.Parcels.{Parcel, mark}
use Rattle.place_law.specs.Process.{Entry, Does, LacksMemory, Process}
use Rattle.place_law.specs.Table.{Table, network_of}
use Rattle.place_law.specs.Ending as ending
use Rattle.solo_law.specs.Actions.{Action, Reply}
use Rattle.solo_law.specs.Actions as act
use Rattle.solo_law.specs.Buffers.{seat}
use Rattle.solo_law.specs.Replies.{view}
use Rattle.solo_law.specs.InputPlaces.{input}
use Rattle.solo_law.specs.JobPlaces.{job}
use Rattle.solo_law.specs.OutputPlaces.{output}
use Rattle.solo_law.specs.Devices.{Devices, AreSound, Allows, given}

-- ---- the processes by their numbers; no process has another
pub data NoPlace : Type 0 where
  Nowhere : NoPlace

abbrev pub nobody : Process Action Reply
nobody = record {
  Place = NoPlace;
  start = Nowhere;
  does = λ at. act.Ended outcome.Done;
  behind = λ at reply. at;
  finds = λ at reply. None;
  may_lack = false;
  calls = λ action. Alone;
  buffers = [];
}

abbrev pub process_by : Bool → Process Action Reply → Process Action Reply → Process Action Reply
process_by true first second = first
process_by false first second = second

abbrev pub process : ℕ → Process Action Reply
process p = process_by (p == 1) input (process_by (p == 2) job (process_by (p == 3) output nobody))

-- ---- the network
abbrev pub table : Table Devices Action Reply Parcel
table = record {
  view = view;
  size = 3;
  process = process;
  mark = mark;
  seat = seat;
  Allows = Allows;
  given = given;
}

abbrev pub solo : Network Devices Action (Entry Action Reply) Parcel
solo = network_of table

abbrev pub SoloEntry : Type 0
SoloEntry = Entry Action Reply

abbrev pub SoloState : Type 0
SoloState = State Devices SoloEntry Parcel

abbrev pub SoloEvent : Type 0
SoloEvent = Event SoloEntry

-- six buffers of one slot, whose content is told
abbrev pub opened : Devices → SoloState
opened devices = opening devices (λ b. 1) (λ b. true)

-- ---- never stuck
-- an entry in which no device failed and no memory was refused
abbrev pub IsSmooth : SoloEntry → Type 0
IsSmooth (Does action act.Failed) = ⊥
IsSmooth (Does action act.NoMemory) = ⊥
IsSmooth (Does action (act.OfCard read.Failed)) = ⊥
IsSmooth (Does action (act.OfCard read.Limit)) = ⊥
IsSmooth (LacksMemory action reply) = ⊥
IsSmooth entry = Unit {0}

-- ---- the law, as the driver of networks asks for it
-- What Solo opens with: its devices, of which what is told is sound.
pub record SoloOpening : Type 0 where
  pub devices : Devices
  pub sound : AreSound devices

-- A program may ask for typed lines as long as there are any, so of no opening it is said that runs end.
abbrev pub openings : Openings Devices SoloEntry
openings = record {
  Opening = SoloOpening;
  devices = λ o. o.devices;
  sizes = λ o b. 1;
  told = λ o b. true;
  IsTold = λ o. ⊥;
  IsSmooth = IsSmooth;
}

abbrev pub the_law : Law
the_law = law_of solo openings

-- Some list of enabled events leads to it, from devices of which what is told is sound.
pub record IsReached (devices : Devices) (s : SoloState) : Type 0 where
  pub sound : AreSound devices
  pub reached : run.IsReached the_law (opened devices) s

-- one of the three
abbrev pub IsProcess : ℕ → Type 0
IsProcess p = (1 ≤ p) × (p ≤ 3)

-- Some process has not ended, and no event may happen in which no device fails and no memory is refused.
pub record IsStuck (s : SoloState) : Type 0 where
  pub not_ended : ((p : ℕ) → IsProcess p → ending.HasEnded table s p) → ⊥
  pub none_enabled : (event : SoloEvent) → IsEnabled solo s event → IsSmooth event.entry → ⊥
