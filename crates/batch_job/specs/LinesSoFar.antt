-- The lines that the items of a deck give while it goes on.
use Rattle.std.specs.Prelude.{◌≡◌, ℕ, ◌+◌, ◌*◌, ◌≤◌, Bool, true, false, ◌||◌, List, [], ◌∷◌, ◌++◌, length, flat_map, Option, Some, None, if◌then◌else◌}
use Rattle.std.specs.List.{AllByRecursion}
use Rattle.solo_base.specs.declared.item.Item.{Item}
use Rattle.solo_base.specs.Card.{cards}
use Rattle.solo_base.specs.Line.{IsLine}
use Rattle.solo_base.specs.Prefixes.{IsPrefixOf}
use Rattle.page_codec.specs.Items.{AreItems}
use Rattle.deck_format.specs.declared.control.Opener.{Opener}
use Rattle.deck_format.specs.declared.control.Opener.TheVariants as opener
use Rattle.deck_format.specs.declared.job.CardFault.{CardFault}
use Rattle.deck_format.specs.Jobs.{cut, is_end, is_data, before_end, after_end, stretch, listed, first_fault, input, program, job_of}
use Rattle.code_law.specs.Compiling.{compiling}
use Rattle.program_lines.specs.Task.{Source, source_of, source_lines}
use Rattle.disk_contents.specs.declared.loading.Loaded.{Loaded}
use Rattle.batch_job.specs.Report.{Loads, no_files, report, heading, fault_line, file_limit, source_loaded}
use Rattle.batch_job.specs.OneThread.{one_thread_output}
use Rattle.batch_job.specs.Loads.{files_named, loads_of, AreLoaded, Begun, begun}

-- whether a group is closed by its end
abbrev pub is_closed : List Item → Bool
is_closed [] = false
is_closed (item ∷ rest) = is_end item || is_closed rest

-- the line of a fault, once it is there
abbrev pub fault_so_far : List ℕ → Option CardFault → List (List ℕ)
fault_so_far name None = []
fault_so_far name (Some fault) = fault_line name fault ∷ []

-- whether the input of a program has begun
abbrev pub has_data : List Item → Bool
has_data [] = false
has_data (item ∷ rest) = is_data item || has_data rest

-- A program runs once its input has begun, with the cards so far; behind a fault no further one comes.
abbrev pub runs_so_far : List ℕ → ℕ → Source → Bool → List (List ℕ) → Option CardFault → List (List ℕ)
runs_so_far name limit source begun input None =
    if begun then source_lines name limit source input false else []
runs_so_far name limit source begun input (Some fault) =
    if fault.in_input then source_lines name limit source input true ++ fault_line name fault ∷ []
    else fault_line name fault ∷ []

-- The lines of a group that is still open: of a list its cards so far, and its fault; of a program those that
-- it has completed with the cards of its input so far, and how it ended, where it has.
abbrev pub open_lines : Loaded → Opener → List Item → List (List ℕ)
open_lines load (opener.List name) items =
    heading name ∷ listed items ++ fault_so_far name (first_fault false 1 items)
open_lines load (opener.Job name limit) items =
    let kept = program 1 items in
    heading name
    ∷ runs_so_far name limit (source_of name (compiling kept.cards)) (has_data items) kept.input kept.fault
open_lines load (opener.Run name file) items =
    let kept = input 1 items in
    heading name ∷ runs_so_far name file_limit (source_loaded name load) true kept.input kept.fault

-- the stretch before, between or behind groups
abbrev pub stretch_lines : List Item → List (List ℕ)
stretch_lines items = flat_map (report no_files) (stretch items)

-- a group that is closed, and the stretch behind its end
abbrev pub closed_group : Begun → List (List ℕ)
closed_group g =
    report (λ file. g.load) (job_of g.opener (before_end g.items)) ++ stretch_lines (after_end g.items)

-- the last group, by whether it is closed; of the stretch behind its end nothing is told yet
abbrev pub last_lines : Begun → List (List ℕ)
last_lines g =
    if is_closed g.items then report (λ file. g.load) (job_of g.opener (before_end g.items))
    else open_lines g.load g.opener g.items

-- each group but the last is closed by the next opener, and the last by the end of the deck
abbrev pub group_lines : List Begun → Bool → List (List ℕ)
group_lines [] ended = []
group_lines (g ∷ []) true = closed_group g
group_lines (g ∷ []) false = last_lines g
group_lines (g ∷ next ∷ rest) ended = closed_group g ++ group_lines (next ∷ rest) ended

-- behind the cards before the first opener, which are told once it comes, or the end
abbrev pub lines_by : List Item → List Begun → Bool → List (List ℕ)
lines_by front [] true = stretch_lines front
lines_by front [] false = []
lines_by front (g ∷ rest) ended = stretch_lines front ++ group_lines (g ∷ rest) ended

-- The reports of the jobs that the items complete, and the lines of the group that is open, with what the
-- files of the jobs were loaded as, in order; nothing from the first job on whose file isn't loaded yet.
-- Where the items have ended, all is complete: `#LIST A`, `HELLO` gives `JOB A` and `HELLO`, and with the end
-- behind them `A: LISTED 1 CARDS` too.
abbrev pub lines_so_far : List Item → List Loaded → Bool → List (List ℕ)
lines_so_far items loads ended =
    let deck = begun (cut items).groups loads ended in
    lines_by (cut items).front deck.groups deck.ended

-- whether these are all lines: the items have ended, and each file is loaded
abbrev pub is_whole : List Item → List Loaded → Bool → Bool
is_whole items loads ended = (begun (cut items).groups loads ended).ended

-- ---- what holds of them

-- The lines of the items so far are a prefix of those with more items and more loads.
abbrev pub LinesGoOn : Type 0
LinesGoOn =
    (items more : List Item) (loads later : List Loaded) (ended : Bool)
    → IsPrefixOf (lines_so_far items loads false) (lines_so_far (items ++ more) (loads ++ later) ended)

-- Those that aren't all are a prefix of those with more loads; all lines stay as they are.
abbrev pub LoadsGoOn : Type 0
LoadsGoOn =
    (items : List Item) (loads later : List Loaded)
    → (is_whole items loads true ≡ false
    → IsPrefixOf (lines_so_far items loads true) (lines_so_far items (loads ++ later) true))
    × (is_whole items loads true ≡ true
    → (lines_so_far items (loads ++ later) true ≡ lines_so_far items loads true)
    × (is_whole items (loads ++ later) true ≡ true))

-- Those of a whole deck are what one thread prints, where each file is loaded as the files say.
abbrev pub EndGivesOutput : Type 0
EndGivesOutput =
    (files : Loads) (deck : List ℕ)
    → (lines_so_far (cards deck) (loads_of files (cards deck)) true ≡ one_thread_output files deck)
    × (is_whole (cards deck) (loads_of files (cards deck)) true ≡ true)

-- All are there once the items have ended, where as many files are loaded as these name.
abbrev pub AllOnceLoaded : Type 0
AllOnceLoaded =
    (items : List Item) (loads : List Loaded) (ended : Bool) → length (files_named items) ≤ length loads
    → is_whole items loads ended ≡ ended

-- They are lines, whatever the files are loaded as.
abbrev pub ArePrintable : Type 0
ArePrintable =
    (items : List Item) (loads : List Loaded) (ended : Bool) → AreItems items
    → AllByRecursion IsLine (lines_so_far items loads ended)

-- An item completes at most one program, whose limit is 1,000,000 ticks at most.
abbrev pub lines_of_an_item : ℕ
lines_of_an_item = 404000000000000

-- Each item adds at most so many lines, and the end of a deck one more.
abbrev pub FewLines : Type 0
FewLines =
    (items : List Item) (loads : List Loaded) (ended : Bool) → AreItems items → AreLoaded loads
    → length (lines_so_far items loads ended) ≤ lines_of_an_item * length items + 1
