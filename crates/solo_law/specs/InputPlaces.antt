-- The input process: it waits for an order, packs the next card file into pages, and reports whether none
-- of its cards was spoiled.
use Rattle.std.specs.Prelude.{ℕ, suc, Bool, true, false, if◌then◌else◌, List, [], ◌∷◌, ◌++◌, None}
use Rattle.solo_base.specs.declared.item.Item.TheVariants.{Line}
use Rattle.solo_base.specs.declared.page.Page.{Page}
use Rattle.solo_base.specs.declared.system_call.Arg.{Arg}
use Rattle.solo_base.specs.declared.system_call.Arg.TheVariants as arg
use Rattle.solo_base.specs.declared.outcome.Outcome.TheVariants as outcome
use Rattle.solo_devices.specs.declared.card_read.CardRead.{CardRead}
use Rattle.solo_devices.specs.declared.card_read.CardRead.TheVariants as read
use Rattle.deck_format.specs.Jobs.{is_end}
use Rattle.exchange_law.specs.Pages.{has_room_for, page_with}
use Rattle.place_law.specs.Process.{Process}
use Rattle.solo_law.specs.Actions.{Action, Reply}
use Rattle.solo_law.specs.Actions as act
use Rattle.solo_law.specs.Buffers.{call}

pub data InputPlace : Type 0 where
  AwaitsOrder : InputPlace
  -- behind so many pages, with these lines in hand, and no spoiled card so far or one
  Reads : ℕ → List (List ℕ) → Bool → InputPlace
  -- a full page is put, and behind it so many pages and these lines in hand
  PutsFull : Page → ℕ → List (List ℕ) → InputPlace
  PutsLast : Page → Bool → InputPlace
  Reports : Bool → InputPlace
  IsOver : InputPlace

abbrev pub input_does : InputPlace → Action
input_does AwaitsOrder = act.TakeArg 1
input_does (Reads pages hand sound) = act.ReadCard
input_does (PutsFull page pages hand) = act.PutPage 2 page
input_does (PutsLast page sound) = act.PutPage 2 page
input_does (Reports sound) = act.PutArg 3 (arg.Bool sound)
input_does IsOver = act.Ended outcome.Done

-- a card goes into the page in hand, or begins the next
abbrev pub packs : ℕ → List (List ℕ) → List ℕ → InputPlace
packs pages hand line =
    if has_room_for hand line then Reads pages (hand ++ line ∷ []) true
    else PutsFull (page_with pages false hand) (suc pages) (line ∷ [])

abbrev pub closes_file : ℕ → List (List ℕ) → Bool → InputPlace
closes_file pages hand sound = PutsLast (page_with pages true hand) sound

-- the cards behind a spoiled one are dropped
abbrev pub packs_if : Bool → ℕ → List (List ℕ) → List ℕ → InputPlace
packs_if true pages hand line = packs pages hand line
packs_if false pages hand line = Reads pages hand false

-- a card `#END` ends the card file and isn't passed on, and so does the end of the deck
abbrev pub behind_card : ℕ → List (List ℕ) → Bool → CardRead → InputPlace
behind_card pages hand sound (read.Card line) =
    if is_end (Line line) then closes_file pages hand sound else packs_if sound pages hand line
behind_card pages hand sound read.Spoiled = Reads pages hand false
behind_card pages hand sound read.End = closes_file pages hand sound
behind_card pages hand sound other = Reads pages hand sound

abbrev pub behind_order : Arg → InputPlace
behind_order arg.Nil = IsOver
behind_order other = Reads 0 [] true

abbrev pub input_behind : InputPlace → Reply → InputPlace
input_behind AwaitsOrder (act.OfArg a) = behind_order a
input_behind (Reads pages hand sound) (act.OfCard answer) = behind_card pages hand sound answer
input_behind (PutsFull page pages hand) act.Done = Reads pages hand true
input_behind (PutsLast page sound) act.Done = Reports sound
input_behind (Reports sound) act.Done = AwaitsOrder
input_behind at reply = at

abbrev pub input : Process Action Reply
input = record {
  Place = InputPlace;
  start = AwaitsOrder;
  does = input_does;
  behind = input_behind;
  finds = λ at reply. None;
  may_lack = false;
  calls = call 1;
  buffers = 1 ∷ 2 ∷ 3 ∷ [];
}
