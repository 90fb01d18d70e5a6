-- What a call of one of the six is to the law of the twin network, by the reply that it got.
use Rattle.std.specs.Prelude.{◌≡◌, ℕ, List, [], ◌++◌, length, drop, Option, None, Some}
use Rattle.std.specs.Option.{option_map}
use Rattle.solo_base.specs.declared.item.Item.{Item}
use Rattle.solo_base.specs.declared.outcome.Side.{Side}
use Rattle.resource_mon.specs.Claims.{Claims}
use Rattle.batch_procs.specs.declared.actions.Reply.{Reply}
use Rattle.batch_procs.specs.Jobs.{Jobs, FilesAs}
use Rattle.batch_procs.specs.Parcels.{Parcel, is_last}
use Rattle.place_law.specs.Process.{Does, Delays}
use Rattle.network_law.specs.Acts.{Visit, Done}
use Rattle.network_law.specs.Buffer.{Buffer, VisitFits, after_visit}
use Rattle.network_law.specs.Desk.{Desk, asked, after_asking, after_giving}
use Rattle.twin_law.specs.Process.{Action, ReadCard, Request, Load, Release, Print, Entry}
use Rattle.twin_law.specs.Twin.{went, Fits, IsGood, MayWait, Devices, Allows, items_by}

-- an action with its reply, or a delay where there is none
abbrev pub entry_for : {L : Type 0} → Action → Option (Reply L) → Entry L
entry_for action None = Delays action
entry_for action (Some r) = Does action r

abbrev pub ReplySuits : {L : Type 0} → Jobs L → Action → Option (Reply L) → Type 0
ReplySuits J action None = MayWait action
ReplySuits J action (Some r) = Fits action r × IsGood J r

-- A call at a side of a buffer goes as the law allows, and the monitor stands for the buffer behind it.
pub record TwinVisited {L M : Type 0} (J : Jobs L) (Stands : M → Buffer (Parcel L) → Type 0) (old new : M)
    (side : Side) (visit : Visit) (p : ℕ) (action : Action) (result : Option (Reply L)) : Type 0 where
  pub suits : ReplySuits J action result
  pub fits : (b : Buffer (Parcel L)) → Stands old b
      → VisitFits is_last side b visit (went (entry_for action result))
  pub after : (b : Buffer (Parcel L)) → Stands old b
      → Stands new (after_visit is_last visit side p (went (entry_for action result)) b)

-- ---- at the desk
pub record TwinAsked {L : Type 0} (J : Jobs L) (old new : Claims) (p : ℕ) (result : Option (Reply L))
    : Type 0 where
  pub suits : ReplySuits J Request result
  pub fits : went (entry_for Request result) ≡ asked old.handed old.holder
  pub after : (d : Desk) → d.claims ≡ old
      → (after_asking d p (went (entry_for Request result))).claims ≡ new

pub record TwinGiven {L : Type 0} (J : Jobs L) (old new : Claims) (result : Reply L) : Type 0 where
  pub suits : ReplySuits J Release (Some result)
  pub fits : went (entry_for Release (Some result)) ≡ Done
  pub after : (d : Desk) → d.claims ≡ old → (after_giving d).claims ≡ new

-- ---- at the devices
-- a card that is read, by the items that were ahead and are
pub record TwinReads {L : Type 0} (J : Jobs L) (old new : Option (List Item)) (result : Reply L)
    : Type 0 where
  pub suits : ReplySuits J ReadCard (Some result)
  pub allowed : (devices : Devices L) → devices.deck ≡ old → Allows devices (Does ReadCard result) []
  pub after : option_map (drop (length (items_by result))) old ≡ new

-- a line that is printed, by what the paper was given before and since
pub record TwinPrints {L : Type 0} (J : Jobs L) (old new : Option (List ℕ)) (line : List ℕ) (result : Reply L)
    : Type 0 where
  pub suits : ReplySuits J (Print line) (Some result)
  pub gained : List ℕ
  pub allowed : (devices : Devices L) → Allows devices (Does (Print line) result) gained
  pub after : option_map (λ before. before ++ gained) old ≡ new

-- a file that is loaded, by what each file is loaded as
pub record TwinLoads {L : Type 0} (J : Jobs L) (found : Option (FilesAs L)) (file : List ℕ) (result : Reply L)
    : Type 0 where
  pub suits : ReplySuits J (Load file) (Some result)
  pub allowed : (devices : Devices L) → devices.files ≡ found → Allows devices (Does (Load file) result) []
