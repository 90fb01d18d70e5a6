-- The lines that a stream still gives, from where it stands in its deck, for each list of items to come.
use Rattle.std.specs.Prelude.{ℕ, ◌+◌, Bool, true, false, ◌||◌, List, [], ◌∷◌, ◌++◌, length, drop, flat_map, count_by, Option, Some, None, Result, Ok, Err, if◌then◌else◌}
use Rattle.solo_base.specs.declared.item.Item.{Item}
use Rattle.solo_base.specs.declared.item.Item.TheVariants.{Line, Spoiled}
use Rattle.deck_format.specs.declared.control.Opener.{Opener}
use Rattle.deck_format.specs.declared.control.Opener.TheVariants as opener
use Rattle.deck_format.specs.declared.job.CardFault.{CardFault}
use Rattle.deck_format.specs.declared.group.Group.{Group}
use Rattle.deck_format.specs.JobReader.{control_in, opened as opened_group, added as added_to_group}
use Rattle.deck_format.specs.Jobs.{cut, counts, card_count, skipped, before_end, after_end, spoiled_at, control_at, listed, first_fault}
use Rattle.code_law.specs.Compiling.{compiling}
use Rattle.program_lines.specs.Task.{Source, Says, source_of, Task}
use Rattle.disk_contents.specs.declared.loading.Loaded.{Loaded}
use Rattle.batch_job.specs.Report.{no_files, report, listed_line, fault_line, run_lines, file_limit, source_loaded}
use Rattle.batch_job.specs.Loads.{Begun, begun}
use Rattle.batch_job.specs.LinesSoFar.{is_closed, fault_so_far, runs_so_far, stretch_lines, group_lines}

-- Where a stream stands: outside groups, behind so many cards that count; in a list without a fault, behind
-- so many cards; in the group of a program, whose file was loaded so if it is one of a file, of which this is
-- kept, behind these of its lines; or in a group of which no more is told.
pub data Where : Type 0 where
  Outside : ℕ → Where
  InList : List ℕ → ℕ → Where
  InProgram : Loaded → Group → List (List ℕ) → Where
  Dropped : Where

-- ---- the group of a program
abbrev pub name_of : Opener → List ℕ
name_of (opener.List name) = name
name_of (opener.Job name limit) = name
name_of (opener.Run name file) = name

abbrev pub limit_of : Opener → ℕ
limit_of (opener.List name) = 0
limit_of (opener.Job name limit) = limit
limit_of (opener.Run name file) = file_limit

abbrev pub is_list : Opener → Bool
is_list (opener.List name) = true
is_list (opener.Job name limit) = false
is_list (opener.Run name file) = false

-- what a group has to run, by the cards of its program, or by what its file was loaded as
abbrev pub source_in : Loaded → Opener → List (List ℕ) → Source
source_in load (opener.List name) cards = Says []
source_in load (opener.Job name limit) cards = source_of name (compiling cards)
source_in load (opener.Run name file) cards = source_loaded name load

-- the lines of a group of which this is kept, behind its heading: where it is closed, and where it is open
abbrev pub told_by : Loaded → Group → Bool → List (List ℕ)
told_by load group true =
    run_lines (name_of group.opener) (limit_of group.opener) (source_in load group.opener group.kept.cards)
    group.kept.input group.kept.fault
told_by load group false =
    runs_so_far (name_of group.opener) (limit_of group.opener) (source_in load group.opener group.kept.cards)
    group.in_input group.kept.input group.kept.fault

-- its program, with the cards of its input so far
abbrev pub task_in : Loaded → Group → Task
task_in load group = record {
  name = name_of group.opener;
  limit = limit_of group.opener;
  source = source_in load group.opener group.kept.cards;
  input = group.kept.input;
  closed = false;
}

-- the group behind these items, none of which opens or ends one
abbrev pub behind : Group → List Item → Group
behind group [] = group
behind group (item ∷ items) = behind (added_to_group group item (control_in item)) items

-- its lines behind some that were given
abbrev pub told_behind : List (List ℕ) → Loaded → Group → Bool → List (List ℕ)
told_behind given load group closed = drop (length given) (told_by load group closed)

-- ---- of the items to come up to the next opener: whether the part is closed behind them, by an opener or
-- the end
abbrev pub end_line : List ℕ → ℕ → Option CardFault → List ℕ
end_line name count None = listed_line name (card_count count)
end_line name count (Some fault) = fault_line name fault

-- a list that goes on with these cards, up to its end
abbrev pub list_lines : List ℕ → ℕ → List Item → List (List ℕ)
list_lines name count items =
    listed items
    ++ end_line name (count + length (listed items)) (first_fault false (card_count (count + 1)) items) ∷ []

-- a list that may go on behind these cards
abbrev pub open_list : List ℕ → ℕ → List Item → List (List ℕ)
open_list name count items =
    if is_closed items then list_lines name count (before_end items)
    else listed items ++ fault_so_far name (first_fault false (card_count (count + 1)) items)

-- a program's group that may go on
abbrev pub open_program : Loaded → Group → List (List ℕ) → List Item → List (List ℕ)
open_program load group given items =
    if is_closed items then told_behind given load (behind group (before_end items)) true
    else told_behind given load (behind group items) false

-- the lines of a part, by whether it is closed behind these items
abbrev pub part_lines : Where → List Item → Bool → List (List ℕ)
part_lines (Outside count) items true =
    flat_map (report no_files) (skipped (card_count (count + count_by counts items)))
part_lines (Outside count) items false = []
part_lines (InList name count) items true =
    list_lines name count (before_end items) ++ stretch_lines (after_end items)
part_lines (InList name count) items false = open_list name count items
part_lines (InProgram load group given) items true =
    told_behind given load (behind group (before_end items)) true ++ stretch_lines (after_end items)
part_lines (InProgram load group given) items false = open_program load group given items
part_lines Dropped items true = stretch_lines (after_end items)
part_lines Dropped items false = []

-- ---- with the groups behind it
-- whether a group follows
abbrev pub is_there : List Begun → Bool
is_there [] = false
is_there (group ∷ rest) = true

-- all lines that these items still give with these loads, where they have ended or go on
abbrev pub lines_ahead : Where → List Item → List Loaded → Bool → List (List ℕ)
lines_ahead place items loads ended =
    let deck = begun (cut items).groups loads ended in
    part_lines place (cut items).front (deck.ended || is_there deck.groups)
    ++ group_lines deck.groups deck.ended

-- ---- what one item does
-- the lines of a part that is closed
abbrev pub closed_lines : Where → List (List ℕ)
closed_lines (Outside count) = flat_map (report no_files) (skipped (card_count count))
closed_lines (InList name count) = listed_line name (card_count count) ∷ []
closed_lines (InProgram load group given) = told_behind given load group true
closed_lines Dropped = []

-- where an opener leads, whose file was loaded so if it is one of a file
abbrev pub opened : Loaded → Opener → Where
opened load (opener.List name) = InList name 0
opened load (opener.Job name limit) = InProgram load (opened_group (opener.Job name limit)) []
opened load (opener.Run name file) = InProgram load (opened_group (opener.Run name file)) []

-- an item that neither opens nor ends a group
abbrev pub added_lines : Where → Item → Bool → List (List ℕ)
added_lines (Outside count) item control = []
added_lines (InList name count) Spoiled control =
    fault_line name (spoiled_at false (card_count (count + 1))) ∷ []
added_lines (InList name count) (Line card) true =
    fault_line name (control_at false (card_count (count + 1))) ∷ []
added_lines (InList name count) (Line card) false = card ∷ []
added_lines (InProgram load group given) item control = []
added_lines Dropped item control = []

-- the part behind such an item
abbrev pub added : Where → Item → Bool → Where
added (Outside count) item control = Outside (if counts item then card_count (count + 1) else count)
added (InList name count) Spoiled control = Dropped
added (InList name count) (Line card) true = Dropped
added (InList name count) (Line card) false = InList name (card_count (count + 1))
added (InProgram load group given) item control =
    InProgram load (added_to_group group item (control_in item)) given
added Dropped item control = Dropped

-- the card that an item of this number is in a group, or its fault
abbrev pub card_or_fault : Bool → Item → Bool → ℕ → Result (List ℕ) CardFault
card_or_fault in_input Spoiled control number = Err (spoiled_at in_input number)
card_or_fault in_input (Line card) true number = Err (control_at in_input number)
card_or_fault in_input (Line card) false number = Ok card

-- whether a group is open
abbrev pub is_in_group : Where → Bool
is_in_group (Outside count) = false
is_in_group (InList name count) = true
is_in_group (InProgram load group given) = true
is_in_group Dropped = true
