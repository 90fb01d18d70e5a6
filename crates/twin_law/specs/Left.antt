-- How many events may still happen, whatever the devices tell and whichever of them fails.
use Rattle.std.specs.Prelude.{◌<◌, ◌+◌, ◌*◌, ◌-◌, ◌≡◌, ℕ, List, length, Option, None, Some}
use Rattle.solo_base.specs.declared.outcome.Outcome.{Outcome}
use Rattle.batch_procs.specs.Jobs.{Jobs}
use Rattle.place_law.specs.Process.{Does}
use Rattle.twin_law.specs.Process.{ReadCard, Entry, place, caused}
use Rattle.twin_law.specs.Ends.{CardPlace, ReadsCard, PutsCard, PutsEnd, HasPut, card}
use Rattle.twin_law.specs.Twin.{TwinState, items_by}
use Rattle.twin_law.specs.Told.{read_all}

-- of so many cards that the deck may still give those that may be read: none, once its end was read or the
-- card process has a cause to stop
abbrev pub still_read : Option Outcome → CardPlace → ℕ → ℕ
still_read (Some how) at cards = 0
still_read None ReadsCard cards = cards
still_read None (PutsCard item) cards = cards
still_read None PutsEnd cards = 0
still_read None HasPut cards = 0

-- the cards that were read, and those that may still be
abbrev pub cards_in_all : {L : Type 0} → ℕ → TwinState L → ℕ
cards_in_all {L} cards s =
    length (read_all (s.histories 1))
    + still_read (caused (card {L = L}) (s.histories 1)) (place (card {L = L}) (s.histories 1)) cards

-- all that happened so far
abbrev pub entries_in : {L : Type 0} → (ℕ → List (Entry L)) → ℕ
entries_in h =
    length (h 1) + length (h 2) + length (h 3) + length (h 4) + length (h 5) + length (h 6)

abbrev pub events_so_far : {L : Type 0} → TwinState L → ℕ
events_so_far s = entries_in s.histories

-- Three pages of items come of a card, at most. Of each come so many pages of lines: one for each line of 506
-- items, and two. And of each of these come 507 lines that the printer process takes.
abbrev pub line_pages : {L : Type 0} → Jobs L → ℕ
line_pages J = 506 * J.most + 2

-- No run has more events in which so many cards are read. A page of lines costs 14 calls, and 5 for each of
-- its lines: 2,549, and three times as many come of a card. Its pages of items, with a load for each of their
-- items, and all else cost no more than the other number.
abbrev pub most_with : {L : Type 0} → Jobs L → ℕ → ℕ
most_with J cards = (7647 * line_pages J + 7744) * (cards + 1)

-- How many may still happen where the deck gives so many cards more.
abbrev pub events_left : {L : Type 0} → Jobs L → ℕ → TwinState L → ℕ
events_left J cards s = most_with J (cards_in_all cards s) - events_so_far s

-- how many cards a deck may still give before an entry and behind it: an item leaves it fewer, and no other
-- action than a read changes it
abbrev pub DrawsFrom : {L : Type 0} → Entry L → ℕ → ℕ → Type 0
DrawsFrom (Does ReadCard r) before after = 0 < length (items_by r) → after < before
DrawsFrom entry before after = after ≡ before
