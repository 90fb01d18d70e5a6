-- What holds of a timetable in each reached state, where its keys tell what was typed.
use Rattle.std.specs.Prelude.{◌≡◌, ℕ, List, [], None, Some}
use Rattle.solo_base.specs.Prefixes.{IsPrefixOf}
use Rattle.solo_base.specs.Text.{text}
use Rattle.solo_base.specs.declared.item.Item.{Item}
use Rattle.solo_devices.specs.PrinterUnit.{Gains}
use Rattle.real_time.specs.Starts.{times}
use Rattle.real_time.specs.Deeds.{starts}
use Rattle.real_time.specs.States.{TimeState, Opening, Ended, seen_at}

-- the operator has ended without a fault
abbrev pub IsDone : TimeState → Type 0
IsDone s = (s.stage ≡ Ended) × (s.fault ≡ None)

-- all was displayed, all was read, and each task saw all its starts
pub record IsWhole (items : List Item) (s : TimeState) : Type 0 where
  pub shown : s.shown ≡ times items
  pub keys : s.keys ≡ Some []
  pub seen : (place : ℕ) → seen_at s place ≡ starts place items

-- The console gained a part of the text of the script's lines; each task saw a first part of its starts, in
-- order; and where the operator is done all is whole.
pub record IsTimed (o : Opening) (items : List Item) (s : TimeState) : Type 0 where
  pub shown : IsPrefixOf s.shown (times items)
  pub seen : (place : ℕ) → IsPrefixOf (seen_at s place) (starts place items)
  pub console : Gains o.console s.console (text (times items)) (IsDone s)
  pub whole : IsDone s → IsWhole items s
