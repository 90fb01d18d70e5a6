-- What the histories of the first and the last tell of the deck and the paper.
use Rattle.std.specs.Prelude.{ℕ, Bool, true, false, ◌||◌, List, [], ◌∷◌, ◌++◌}
use Rattle.solo_base.specs.declared.item.Item.{Item}
use Rattle.place_law.specs.Process.{Does}
use Rattle.solo_devices.specs.declared.card_read.CardRead.TheVariants as read
use Rattle.batch_procs.specs.declared.actions.Reply.TheVariants as reply
use Rattle.twin_law.specs.Process.{ReadCard, Print, Entry}
use Rattle.twin_law.specs.Twin.{read_off}

-- the items that it read off the deck, the first of all first
abbrev pub read_all : {L : Type 0} → List (Entry L) → List Item
read_all [] = []
read_all (entry ∷ before) = read_all before ++ read_off entry

-- whether it read the end of the deck
abbrev pub reads_end : {L : Type 0} → Entry L → Bool
reads_end (Does ReadCard (reply.Card read.End)) = true
reads_end entry = false

abbrev pub end_read : {L : Type 0} → List (Entry L) → Bool
end_read [] = false
end_read (entry ∷ before) = reads_end entry || end_read before

-- the lines that it printed, the first of all first
abbrev pub printed_by : {L : Type 0} → Entry L → List (List ℕ)
printed_by (Does (Print line) reply.Done) = line ∷ []
printed_by entry = []

abbrev pub printed : {L : Type 0} → List (Entry L) → List (List ℕ)
printed [] = []
printed (entry ∷ before) = printed before ++ printed_by entry
