-- What the three share, the states of Solo that it stands for, and what a call on it is.
use Rattle.std.specs.Prelude.{◌≡◌, ℕ, true, List, Option}
use Rattle.solo_base.specs.declared.outcome.Side.TheVariants.{Sender, Receiver}
use Rattle.solo_devices.specs.CardUnit.{items_ahead}
use Rattle.queue_var.specs.Sides.{MayStop}
use Rattle.network_law.specs.Buffer.{Buffer}
use Rattle.network_law.specs.Network.{Fits, buffers_after}
use Rattle.exchange_law.specs.Parcels.{Parcel, mark}
use Rattle.place_law.specs.Process.{went}
use Rattle.solo_law.specs.Actions.{Action}
use Rattle.solo_law.specs.Actions as act
use Rattle.solo_law.specs.Buffers.{call, side_at}
use Rattle.solo_law.specs.Replies.{view}
use Rattle.solo_law.specs.Devices.{Devices, Allows, given}
use Rattle.solo_law.specs.Solo.{SoloState, SoloEntry}
use Rattle.solo_law.specs.Holds.{IsBuffer}
use Rattle.solo_procs.specs.declared.actions.SoloReply.{SoloReply}
use Rattle.solo_ends.specs.declared.units.SoloUnits.{SoloUnits}
use Rattle.solo_net.specs.declared.shared.Shared.{Shared}
use Rattle.solo_net.specs.Actions.{IsArgBuffer, IsPageBuffer}
use Rattle.solo_net.specs.Replies.{entry_of, SoloReplyFits, solo_reply_of}
use Rattle.solo_net.specs.SixBuffers.{SoloBuffersStand, SoloWaitsAt, sides_at}
use Rattle.solo_net.specs.Telling.{Tells, SoloHasCauses}

pub record UnitsStand {S Y K T F : Type 0} (tells : Tells S Y K T) (units : SoloUnits S Y K T F)
    (devices : Devices) : Type 0 where
  pub cards : devices.cards ≡ items_ahead (tells.cards.left units.cards.source) units.cards.pending
  pub keys : devices.keys
      ≡ items_ahead (tells.keys.left units.typewriter.keys.source) units.typewriter.keys.pending
  pub paper : devices.paper ≡ tells.paper.given units.paper.sink
  pub console : devices.console ≡ tells.console.given units.typewriter.console.sink

pub record SoloSharedStands {S Y K T F : Type 0} (tells : Tells S Y K T) (shared : Shared S Y K T F)
    (devices : Devices) (buffers : ℕ → Buffer Parcel) : Type 0 where
  pub units : UnitsStand tells shared.units devices
  pub six : SoloBuffersStand shared.buffers buffers

-- ---- what a call asks for
abbrev pub SoloMayPerform : {S Y K T F : Type 0} → Shared S Y K T F → ℕ → Action → Type 0
SoloMayPerform shared p act.Accept = shared.units.typewriter.keys.live ≡ true
SoloMayPerform shared p (act.Display line) = shared.units.typewriter.console.live ≡ true
SoloMayPerform shared p act.ReadCard = shared.units.cards.live ≡ true
SoloMayPerform shared p (act.Print line) = shared.units.paper.live ≡ true
SoloMayPerform shared p (act.PutArg b a) = IsArgBuffer b × SoloWaitsAt (sides_at shared.buffers b) Sender p
SoloMayPerform shared p (act.TakeArg b) = IsArgBuffer b × SoloWaitsAt (sides_at shared.buffers b) Receiver p
SoloMayPerform shared p (act.PutPage b page) =
    IsPageBuffer b × SoloWaitsAt (sides_at shared.buffers b) Sender p
SoloMayPerform shared p (act.TakePage b) = IsPageBuffer b × SoloWaitsAt (sides_at shared.buffers b) Receiver p
SoloMayPerform shared p (act.Works work) = ⊥
SoloMayPerform shared p (act.Stop b) = IsBuffer b × MayStop (sides_at shared.buffers b) (side_at p b)
SoloMayPerform shared p (act.Ended how) = Unit {0}

-- ---- what an entry does
-- It goes as the law allows in each state that is stood for, and what is shared stands for the state behind
-- it. What the devices counted is its cause, and no file changes.
pub record SoloEnters {S Y K T F : Type 0} (tells : Tells S Y K T) (old new : Shared S Y K T F) (p : ℕ)
    (action : Action) (entry : SoloEntry) : Type 0 where
  pub gained : List ℕ
  pub fits : (s : SoloState) → SoloSharedStands tells old s.devices s.buffers
      → Fits mark s (call p action) (went view entry)
  pub allowed : (devices : Devices) (buffers : ℕ → Buffer Parcel) → SoloSharedStands tells old devices buffers
      → Allows devices entry gained
  pub after : (devices : Devices) (buffers : ℕ → Buffer Parcel) → SoloSharedStands tells old devices buffers
      → SoloSharedStands tells new (given devices entry gained)
      (buffers_after mark (call p action) p (went view entry) buffers)
  -- what the work comes to is as it was
  pub work : (devices : Devices) → (given devices entry gained).work ≡ devices.work
  pub causes : SoloHasCauses tells old.units new.units action (solo_reply_of entry)
  pub files : new.units.files ≡ old.units.files

pub record Performs {S Y K T F : Type 0} (tells : Tells S Y K T) (old new : Shared S Y K T F) (p : ℕ)
    (action : Action) (result : Option SoloReply) : Type 0 where
  pub suits : SoloReplyFits action result
  pub enters : SoloEnters tells old new p action (entry_of action result)
