-- The jobs of a deck: the whole list of items is cut before each opener, and what follows an opener at its first end.
use Rattle.std.specs.Prelude.{ℕ, ◌+◌, min, Bool, true, false, ◌==◌, List, [], ◌∷◌, ◌++◌, length, count_by, flat_map, Option, Some, None, if◌then◌else◌}
use Rattle.solo_base.specs.declared.item.Item.{Item}
use Rattle.solo_base.specs.declared.item.Item.TheVariants.{Line, Spoiled}
use Rattle.deck_format.specs.declared.control.Opener.{Opener}
use Rattle.deck_format.specs.declared.control.Opener.TheVariants as opener
use Rattle.deck_format.specs.declared.control.Control.{Control}
use Rattle.deck_format.specs.declared.control.Control.TheVariants as control
use Rattle.deck_format.specs.declared.job.Job.{Job}
use Rattle.deck_format.specs.declared.job.Job.TheVariants as job
use Rattle.deck_format.specs.declared.group.Kept.{Kept}
use Rattle.deck_format.specs.declared.job.CardFault.{CardFault}
use Rattle.deck_format.specs.declared.job.CardFaultKind.TheVariants as kind
use Rattle.deck_format.specs.Control.{control_of}

-- a count of cards, and the number of a card, stand still at 4,294,967,295
abbrev pub card_count : ℕ → ℕ
card_count n = min n 4294967295

abbrev pub is_some : Option Control → Bool
is_some None = false
is_some (Some control) = true

-- the opener of a control card
abbrev pub opener_in : Option Control → Option Opener
opener_in (Some (control.Opens opener)) = Some opener
opener_in (Some control.Data) = None
opener_in (Some control.End) = None
opener_in (Some control.Bad) = None
opener_in None = None

abbrev pub opener_of : Item → Option Opener
opener_of (Line card) = opener_in (control_of card)
opener_of Spoiled = None

abbrev pub ends_in : Option Control → Bool
ends_in (Some control.End) = true
ends_in (Some (control.Opens opener)) = false
ends_in (Some control.Data) = false
ends_in (Some control.Bad) = false
ends_in None = false

-- whether the item ends a group
abbrev pub is_end : Item → Bool
is_end (Line card) = ends_in (control_of card)
is_end Spoiled = false

-- a deck cut before its openers: what stands before the first, and each opener with what follows it
pub record Groups : Type 0 where
  pub front : List Item
  pub groups : List (Opener × List Item)

abbrev pub before_groups : Item → Option Opener → Groups → Groups
before_groups item None deck = record { front = item ∷ deck.front; groups = deck.groups }
before_groups item (Some opener) deck = record { front = []; groups = (opener, deck.front) ∷ deck.groups }

abbrev pub cut : List Item → Groups
cut [] = record { front = []; groups = [] }
cut (item ∷ rest) = before_groups item (opener_of item) (cut rest)

-- what follows an opener, up to its first end, and behind it
abbrev pub before_end : List Item → List Item
before_end [] = []
before_end (item ∷ rest) = if is_end item then [] else item ∷ before_end rest

abbrev pub after_end : List Item → List Item
after_end [] = []
after_end (item ∷ rest) = if is_end item then rest else after_end rest

-- outside a group a blank card is passed over, and every other item counts
abbrev pub counts : Item → Bool
counts (Line []) = false
counts (Line (code ∷ rest)) = true
counts Spoiled = true

-- the job of so many cards outside groups, where there are any
abbrev pub skipped : ℕ → List Job
skipped count = if count == 0 then [] else job.Skipped count ∷ []

abbrev pub stretch : List Item → List Job
stretch items = skipped (card_count (count_by counts items))

-- the faults of a card of this number
abbrev pub spoiled_at : Bool → ℕ → CardFault
spoiled_at in_input number = record { kind = kind.Spoiled; card = number; in_input = in_input }

abbrev pub control_at : Bool → ℕ → CardFault
control_at in_input number = record { kind = kind.Control; card = number; in_input = in_input }

-- the plain cards of a group, up to its first fault
abbrev pub listed : List Item → List (List ℕ)
listed [] = []
listed (Spoiled ∷ rest) = []
listed (Line card ∷ rest) = if is_some (control_of card) then [] else card ∷ listed rest

-- the first item that is no plain card; the first of the items has this number
abbrev pub first_fault : Bool → ℕ → List Item → Option CardFault
first_fault in_input number [] = None
first_fault in_input number (Spoiled ∷ rest) = Some (spoiled_at in_input number)
first_fault in_input number (Line card ∷ rest) =
    if is_some (control_of card) then Some (control_at in_input number)
    else first_fault in_input (card_count (number + 1)) rest

abbrev pub data_in : Option Control → Bool
data_in (Some control.Data) = true
data_in (Some (control.Opens opener)) = false
data_in (Some control.End) = false
data_in (Some control.Bad) = false
data_in None = false

-- whether the item parts a program from its input
abbrev pub is_data : Item → Bool
is_data (Line card) = data_in (control_of card)
is_data Spoiled = false

-- what stands before the first `#DATA`, and behind it
abbrev pub before_data : List Item → List Item
before_data [] = []
before_data (item ∷ rest) = if is_data item then [] else item ∷ before_data rest

abbrev pub behind_data : List Item → List Item
behind_data [] = []
behind_data (item ∷ rest) = if is_data item then rest else behind_data rest

-- ---- what is kept of a group: of its items the first has this number
-- cards that are listed, or are a program
abbrev pub listing : ℕ → List Item → Kept
listing number items = record { cards = listed items; input = []; fault = first_fault false number items }

-- cards that are input
abbrev pub input : ℕ → List Item → Kept
input number items = record { cards = []; input = listed items; fault = first_fault true number items }

-- the cards behind a fault are dropped
abbrev pub unless : Option CardFault → List (List ℕ) → List (List ℕ)
unless None cards = cards
unless (Some fault) cards = []

abbrev pub first_of : Option CardFault → Option CardFault → Option CardFault
first_of None later = later
first_of (Some fault) later = Some fault

abbrev pub followed_by : Kept → Kept → Kept
followed_by first next =
    record {
      cards =
          first.cards ++ unless first.fault next.cards;
      input = first.input ++ unless first.fault next.input;
      fault = first_of first.fault next.fault;
    }

-- a program, and its input behind `#DATA`
abbrev pub program : ℕ → List Item → Kept
program number items =
    followed_by (listing number (before_data items))
    (input (card_count (number + length (before_data items) + 1)) (behind_data items))

abbrev pub kept_of : Opener → List Item → Kept
kept_of (opener.List name) items = listing 1 items
kept_of (opener.Job name limit) items = program 1 items
kept_of (opener.Run name file) items = input 1 items

abbrev pub job_with : Opener → Kept → Job
job_with (opener.List name) kept = job.List name kept.cards kept.fault
job_with (opener.Job name limit) kept = job.Pascal name limit kept.cards kept.input kept.fault
job_with (opener.Run name file) kept = job.Run name file kept.input kept.fault

-- The one job of a group: `X`, `#DATA`, `7`, `#BAD` behind `#JOB P` is the program `X` with the input `7` and a
-- fault in card 4, in the input.
abbrev pub job_of : Opener → List Item → Job
job_of o items = job_with o (kept_of o items)

-- an opener and what follows it: its job, and the stretch behind its end
abbrev pub group_jobs : Opener × List Item → List Job
group_jobs group = job_of group.0 (before_end group.1) ∷ stretch (after_end group.1)

-- `X`, `#LIST A`, `HELLO`, `#END` gives one skipped card and the list `A` of one card
abbrev pub jobs : List Item → List Job
jobs items = stretch (cut items).front ++ flat_map group_jobs (cut items).groups
