-- What a call of the deck or of the paper is to the law.
use Rattle.std.specs.Prelude.{◌≡◌, ℕ, List, [], ◌++◌, length, drop, Option}
use Rattle.std.specs.Option.{option_map}
use Rattle.solo_base.specs.declared.item.Item.{Item}
use Rattle.solo_devices.specs.CardUnit.{Held, work_ahead}
use Rattle.batch_procs.specs.declared.actions.Action.TheVariants as act
use Rattle.batch_procs.specs.declared.actions.Reply.{Reply}
use Rattle.batch_procs.specs.Fits.{Fits}
use Rattle.batch_procs.specs.History.{Does}
use Rattle.batch_procs.specs.Jobs.{Jobs}
use Rattle.core_law.specs.Core.{Devices, Allows, items_by}

-- how many cards the deck may still give: no more than this number, which falls with each
abbrev pub cards_left : {S : Type 0} → (S → ℕ) → Held S → ℕ
cards_left taken deck = work_ahead (taken deck.source) deck.pending deck.ended

-- a card that is read, by the items that were ahead and are
pub record ReadsCard {L : Type 0} (J : Jobs L) (old new : Option (List Item))
    (result : Reply L) : Type 0 where
  pub suits : Fits J act.ReadCard result
  pub allowed : (devices : Devices L) → devices.deck ≡ old → Allows devices (Does act.ReadCard result) []
  pub after : option_map (drop (length (items_by result))) old ≡ new

-- a line that is printed, by what the paper was given before and since
pub record PrintsLine {L : Type 0} (J : Jobs L) (old new : Option (List ℕ)) (line : List ℕ)
    (result : Reply L) : Type 0 where
  pub suits : Fits J (act.Print line) result
  pub gained : List ℕ
  pub allowed : (devices : Devices L) → Allows devices (Does (act.Print line) result) gained
  pub after : option_map (λ before. before ++ gained) old ≡ new
