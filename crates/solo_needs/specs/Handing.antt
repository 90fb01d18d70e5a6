-- What a piece of work is handed: the next card file of a deck, the next typed line, or nothing.
use Rattle.std.specs.Prelude.{◌≡◌, ℕ, not, Bool, true, false, if◌then◌else◌, List, [], ◌∷◌, Option, None, Some}
use Rattle.solo_base.specs.Blanks.{trimmed}
use Rattle.solo_base.specs.declared.item.Item.{Item}
use Rattle.solo_base.specs.declared.item.Item.TheVariants.{Line, Spoiled}
use Rattle.solo_base.specs.declared.item.Feed.{Feed}
use Rattle.solo_base.specs.declared.item.Feed.TheVariants as feed
use Rattle.deck_format.specs.Jobs.{is_end}
use Rattle.solo_needs.specs.Needs.{Given, OfLine, OfCards, OfTyped, OfNothing, Need, CardsNeeded, LineNeeded, DisplayNeeded, PageNeeded, EndNeeded}

-- ---- Card files

-- a card before others of its file; behind a spoiled one they are dropped
abbrev pub card_by : Item → Bool → List (List ℕ) → List (List ℕ)
card_by (Line line) true rest = line ∷ rest
card_by item sound rest = rest

abbrev pub sound_by : Item → Bool → Bool
sound_by (Line line) sound = sound
sound_by Spoiled sound = false

-- The cards of the first card file of a deck, up to a spoiled one; of one whose cards so far were sound or
-- weren't. It ends at a card `#END`, which isn't one of them, or at the end of the deck, behind which card
-- files are empty.
abbrev pub file_cards : Bool → List Item → List (List ℕ)
file_cards sound [] = []
file_cards sound (item ∷ rest) =
    if is_end item then [] else card_by item sound (file_cards (sound_by item sound) rest)

-- whether none of its cards is spoiled
abbrev pub file_sound : Bool → List Item → Bool
file_sound sound [] = sound
file_sound sound (item ∷ rest) = if is_end item then sound else file_sound (sound_by item sound) rest

-- the cards behind it
abbrev pub behind_file : List Item → List Item
behind_file [] = []
behind_file (item ∷ rest) = if is_end item then rest else behind_file rest

-- ---- Typed lines

abbrev pub next_feed : List Item → Feed
next_feed [] = feed.End
next_feed (item ∷ rest) = feed.Item item

abbrev pub later_lines : List Item → List Item
later_lines [] = []
later_lines (item ∷ rest) = rest

-- a blank line is no command
abbrev pub is_nothing : List ℕ → Bool
is_nothing [] = true
is_nothing (code ∷ rest) = false

abbrev pub says_nothing : Item → Bool
says_nothing (Line line) = is_nothing (trimmed line)
says_nothing Spoiled = false

-- ---- What is handed

-- the cards and the typed lines that are still unread
pub record Ahead : Type 0 where
  pub cards : List Item
  pub keys : List Item

-- what a piece of work begins with, and what is unread behind it
pub record Handed : Type 0 where
  pub given : Given
  pub ahead : Ahead

abbrev pub past_cards : Ahead → Ahead
past_cards ahead = record ahead { cards = behind_file ahead.cards }

abbrev pub past_line : Ahead → Ahead
past_line ahead = record ahead { keys = later_lines ahead.keys }

-- the next typed line that isn't blank, with these cards; none where no other is left
abbrev pub line_handed : List Item → List Item → Option Handed
line_handed cards [] = None
line_handed cards (item ∷ rest) =
    if says_nothing item then line_handed cards rest
    else Some (record { given = OfLine item; ahead = record { cards = cards; keys = rest } })

-- for a need; behind the end of a command the next one begins
abbrev pub hands : Need → Ahead → Option Handed
hands CardsNeeded ahead =
    Some (record {
      given = OfCards (file_cards true ahead.cards) (not (file_sound true ahead.cards));
      ahead = past_cards ahead;
    })
hands LineNeeded ahead = Some (record { given = OfTyped (next_feed ahead.keys); ahead = past_line ahead })
hands (DisplayNeeded line) ahead = Some (record { given = OfNothing; ahead = ahead })
hands (PageNeeded lines) ahead = Some (record { given = OfNothing; ahead = ahead })
hands (EndNeeded lines answers) ahead = line_handed ahead.cards ahead.keys

-- where no command is under way
abbrev pub no_command : Need
no_command = EndNeeded [] []

-- Pieces of work that begin so and come to these needs, one after the other: each begins with what is handed
-- for the need before it. The last of the needs, and what is unread behind them all.
abbrev pub HandsOn : Need → Ahead → List Given → List Need → Need → Ahead → Type 0
HandsOn before ahead [] [] last left = (before ≡ last) × (ahead ≡ left)
HandsOn before ahead (given ∷ givens) (need ∷ needs) last left =
    (behind : Ahead) × (hands before ahead ≡ Some (record { given = given; ahead = behind }))
    × HandsOn need behind givens needs last left
HandsOn before ahead [] (need ∷ needs) last left = ⊥
HandsOn before ahead (given ∷ givens) [] last left = ⊥
