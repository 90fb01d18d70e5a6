-- Which buffers of the law the six buffers stand for, and what a call on one of them is.
use Rattle.std.specs.Prelude.{◌≡◌, ◌≤◌, ◌==◌, ℕ, false, IsTrue, if◌then◌else◌, List, [], ◌∷◌, map, length, Option, Some}
use Rattle.solo_base.specs.declared.outcome.Side.{Side}
use Rattle.queue_var.specs.Sides.{Sides, MayEnter, MayStop, has_stopped, stopped_by}
use Rattle.slot_buffer.specs.Slot.{Slot}
use Rattle.network_law.specs.Buffer.{Buffer}
use Rattle.network_law.specs.Network.{Fits, buffers_after}
use Rattle.network_law.specs.Stepping.{is_named}
use Rattle.exchange_law.specs.Parcels.{Parcel, OfArg, OfPage, mark}
use Rattle.place_law.specs.Process.{went}
use Rattle.solo_law.specs.Actions.{Action}
use Rattle.solo_law.specs.Buffers.{call}
use Rattle.solo_law.specs.Replies.{view}
use Rattle.solo_law.specs.Solo.{SoloState}
use Rattle.solo_procs.specs.declared.actions.SoloReply.{SoloReply}
use Rattle.solo_net.specs.declared.buffers.Asked.{Asked}
use Rattle.solo_net.specs.declared.buffers.Asked.TheVariants as asked
use Rattle.solo_net.specs.declared.buffers.Buffers.{Buffers}
use Rattle.solo_net.specs.Replies.{entry_of, SoloReplyFits}
pub use Rattle.solo_net.specs.Actions.{IsArgBuffer, IsPageBuffer}

-- ---- one buffer: it has room for one, and what is inside is told
abbrev pub as_buffer : {X : Type 0} → (X → Parcel) → Slot X → List Side → Buffer Parcel
as_buffer of slot stops = record {
  capacity = 1;
  marks = map mark (map of slot.inside);
  inside = Some (map of slot.inside);
  sides = slot.sides;
  stops = stops;
}

pub record SlotStands {X : Type 0} (of : X → Parcel) (slot : Slot X) (b : Buffer Parcel) : Type 0 where
  pub is : b ≡ as_buffer of slot b.stops
  pub within : length slot.inside ≤ 1

-- ---- the six, by their numbers
pub record SoloBuffersStand (six : Buffers) (buffers : ℕ → Buffer Parcel) : Type 0 where
  pub card_orders : SlotStands OfArg six.card_orders (buffers 1)
  pub card_pages : SlotStands OfPage six.card_pages (buffers 2)
  pub card_reports : SlotStands OfArg six.card_reports (buffers 3)
  pub print_orders : SlotStands OfArg six.print_orders (buffers 4)
  pub print_pages : SlotStands OfPage six.print_pages (buffers 5)
  pub print_reports : SlotStands OfArg six.print_reports (buffers 6)

-- the two sides of a buffer, by its number
abbrev pub sides_at : Buffers → ℕ → Sides
sides_at six b =
    if b == 1 then six.card_orders.sides else if b == 2 then six.card_pages.sides
    else if b == 3 then six.card_reports.sides else if b == 4 then six.print_orders.sides
    else if b == 5 then six.print_pages.sides else six.print_reports.sides

-- who stopped each first
abbrev pub first_stops : Buffers → List (Option Side)
first_stops six =
    stopped_by six.card_orders.sides ∷ stopped_by six.card_pages.sides ∷ stopped_by six.card_reports.sides
    ∷ stopped_by six.print_orders.sides ∷ stopped_by six.print_pages.sides
    ∷ stopped_by six.print_reports.sides ∷ []

-- what is asked of them
abbrev pub IsSo : Asked → Sides → Type 0
IsSo (asked.Enter side p) sides = MayEnter sides side p
IsSo (asked.Stop side) sides = MayStop sides side
IsSo asked.Handed sides = IsTrue (is_named sides.turn)

-- ---- a call
-- A side may make a call that waits, and hasn't stopped.
abbrev pub SoloWaitsAt : Sides → Side → ℕ → Type 0
SoloWaitsAt sides side p = MayEnter sides side p × (has_stopped sides side ≡ false)

-- It goes as the law allows, and the six stand for the buffers behind it.
pub record SoloVisited (old new : Buffers) (p : ℕ) (action : Action) (result : Option SoloReply)
    : Type 0 where
  pub suits : SoloReplyFits action result
  pub fits : (s : SoloState) → SoloBuffersStand old s.buffers
      → Fits mark s (call p action) (went view (entry_of action result))
  pub after : (buffers : ℕ → Buffer Parcel) → SoloBuffersStand old buffers
      → SoloBuffersStand new
      (buffers_after mark (call p action) p (went view (entry_of action result)) buffers)
