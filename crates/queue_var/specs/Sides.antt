-- The two sides of a buffer.
use Rattle.std.specs.Prelude.{◌≡◌, ◌⊎◌, ℕ, Bool, true, false, if◌then◌else◌, Option, None, Some}
use Rattle.solo_base.specs.declared.outcome.Side.{Side}
use Rattle.solo_base.specs.declared.outcome.Side.TheVariants.{Sender, Receiver}
use Rattle.queue_var.specs.declared.turn.Turn.{Turn}
use Rattle.queue_var.specs.declared.turn.Turn.TheVariants.{Free, Handed}
use Rattle.queue_var.specs.declared.stops.Stops.{Stops}
use Rattle.queue_var.specs.declared.stops.Stops.TheVariants.{Neither, One, Both}

-- the process in the queue of each side, the turn, and who stopped
pub record Sides : Type 0 where
  pub sender : Option ℕ
  pub receiver : Option ℕ
  pub turn : Turn Side
  pub stops : Stops

-- nobody waits and nobody has stopped
abbrev pub nobody : Sides
nobody = record { sender = None; receiver = None; turn = Free; stops = Neither }

abbrev pub same_side : Side → Side → Bool
same_side Sender Sender = true
same_side Receiver Receiver = true
same_side Sender Receiver = false
same_side Receiver Sender = false

abbrev pub other : Side → Side
other Sender = Receiver
other Receiver = Sender

-- the process in the queue of a side
abbrev pub queue : Sides → Side → Option ℕ
queue sides Sender = sides.sender
queue sides Receiver = sides.receiver

-- the first side that stopped
abbrev pub first_of : Stops → Option Side
first_of Neither = None
first_of (One side) = Some side
first_of (Both side) = Some side

abbrev pub stopped_by : Sides → Option Side
stopped_by sides = first_of sides.stops

abbrev pub is_among : Side → Stops → Bool
is_among side Neither = false
is_among side (One stopped) = same_side side stopped
is_among side (Both first) = true

abbrev pub has_stopped : Sides → Side → Bool
has_stopped sides side = is_among side sides.stops

-- the turn names a queue that holds a process
abbrev pub NamesWhoWaits : Sides → Type 0
NamesWhoWaits sides = (side : Side) → sides.turn ≡ Handed side → (p : ℕ) × (queue sides side ≡ Some p)

-- A process may enter by its side where the turn is free and nobody of its side waits,
-- or where the turn is handed to it.
abbrev pub MayEnter : Sides → Side → ℕ → Type 0
MayEnter sides side p =
    ((sides.turn ≡ Free) × (queue sides side ≡ None)) ⊎ ((sides.turn ≡ Handed side) × (queue sides side ≡ Some p))

-- A stop is no call that waits: a side may stop where the turn is free and nobody of the side waits.
abbrev pub MayStop : Sides → Side → Type 0
MayStop sides side = (sides.turn ≡ Free) × (queue sides side ≡ None)

abbrev pub with_queue : Sides → Side → Option ℕ → Sides
with_queue sides side held =
    record sides {
      sender = if same_side side Sender then held else sides.sender;
      receiver = if same_side side Receiver then held else sides.receiver;
    }

-- a process of this side is inside: nobody of the side waits, and the turn is not handed to anyone
abbrev pub entered : Sides → Side → Sides
entered sides side = record (with_queue sides side None) { turn = Free }

-- it waits in its queue, and gives up the monitor
abbrev pub delayed : Sides → Side → ℕ → Sides
delayed sides side p = with_queue sides side (Some p)

abbrev pub turn_to : Side → Option ℕ → Turn Side
turn_to side None = Free
turn_to side (Some p) = Handed side

-- who waits on this side goes next
abbrev pub continued : Sides → Side → Sides
continued sides side = record sides { turn = turn_to side (queue sides side) }

abbrev pub with_stop : Stops → Side → Stops
with_stop Neither side = One side
with_stop (One Sender) Receiver = Both Sender
with_stop (One Receiver) Sender = Both Receiver
with_stop stops side = stops

abbrev pub stopped : Sides → Side → Sides
stopped sides side = record sides { stops = with_stop sides.stops side }
