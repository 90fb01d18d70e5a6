-- The law of the nine processes at their time table.
use Rattle.std.specs.Prelude.{◌≡◌, List, None, Some}
use Rattle.solo_base.specs.declared.item.Item.{Item}
use Rattle.solo_devices.specs.declared.card_read.CardRead.{CardRead}
use Rattle.solo_devices.specs.declared.card_read.CardRead.TheVariants as read
use Rattle.network_run.specs.Law.{Law}
use Rattle.real_time.specs.States.{TimeState, Opening, TimeEvent, Accepts, Displays, Moves, opened, occurs, process_of, how_went, MayHappen, MayMove, HasEnded}

-- the keys are told
abbrev pub AreTypedKeys : Opening → Type 0
AreTypedKeys o = (items : List Item) × (o.keys ≡ Some items)

abbrev pub IsTypedAnswer : CardRead → Type 0
IsTypedAnswer (read.Card line) = Unit {0}
IsTypedAnswer read.Spoiled = Unit {0}
IsTypedAnswer read.End = Unit {0}
IsTypedAnswer read.Failed = ⊥
IsTypedAnswer read.Limit = ⊥

-- No device fails in it.
abbrev pub IsUntroubled : TimeEvent → Type 0
IsUntroubled (Accepts answer) = IsTypedAnswer answer
IsUntroubled (Displays fault now) = fault ≡ None
IsUntroubled (Moves p how) = Unit {0}

abbrev pub timing : Law
timing = record {
  Opening = Opening;
  State = TimeState;
  Event = TimeEvent;
  size = 9;
  opened = opened;
  happens = occurs;
  IsEnabled = MayHappen;
  MayGo = MayMove;
  HasEnded = HasEnded;
  process = process_of;
  went = λ s event. how_went event;
  holder = λ s. None;
  grants = λ s event. 0;
  IsTold = AreTypedKeys;
  IsSmooth = IsUntroubled;
}
