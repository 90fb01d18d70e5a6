-- The lines that the jobs of a deck report are lines of the line length, where its cards are.
use Rattle.std.proofs.Common.{◌≡◌, ℕ, ◌+◌, ◌^◌, ◌<◌, ◌==◌, Bool, true, false, if◌then◌else◌, List, [], ◌∷◌, ◌++◌, length, length-append, map, Option, None, Some, refl, sym, subst, arith}
use Rattle.std.specs.Prelude.{flat_map, count_by}
use Rattle.std.specs.List.{AllByRecursion}
use Rattle.std.proofs.lemmas.List.{append-nil, length-map}
use Rattle.solo_base.specs.declared.item.Item.{Item}
use Rattle.solo_base.specs.declared.item.Item.TheVariants.{Line, Spoiled}
use Rattle.solo_base.specs.Line.{IsLine}
use Rattle.page_codec.specs.Items.{IsItem, AreItems}
use Rattle.deck_format.specs.declared.control.Opener.{Opener}
use Rattle.deck_format.specs.declared.control.Opener.TheVariants as opener
use Rattle.disk_contents.specs.declared.loading.Loaded.{Loaded}
use Rattle.disk_contents.specs.declared.loading.Loaded.TheVariants.{NoFile}
use Rattle.deck_format.specs.declared.job.Job.TheVariants as job
use Rattle.deck_format.specs.declared.job.CardFault.{CardFault}
use Rattle.deck_format.specs.Control.{control_of}
use Rattle.deck_format.specs.Jobs.{card_count, is_some, opener_of, is_end, Groups, before_groups, cut, before_end, after_end, counts, skipped, control_at, listed, first_fault, before_data, behind_data, first_of, program, job_of}
use Rattle.code_law.specs.Compiling.{compiling}
use Rattle.program_lines.specs.Task.{Source, source_of, program_lines}
use Rattle.batch_job.specs.Report.{Loads, no_files, fault_line, listing_end, run_lines, file_limit, source_loaded, report}
use Rattle.batch_job.specs.OneThread.{one_thread_lines}
use Rattle.batch_job.specs.Loads.{files_named, loads_of, Begun, Deck, load_for, begin_by, begun}
use Rattle.solo_base.specs.Prefixes.{IsPrefixOf}
use Rattle.batch_job.specs.LinesSoFar.{stretch_lines, closed_group, group_lines, lines_by, lines_so_far, is_whole}
use Rattle.batch_job.proofs.LinesSoFar.{lines_go_on, loads_go_on, whole_lines, all_loaded}
use Rattle.batch_job.proofs.PrintedTexts.{AreLinesOf, append-lines, IsNamed}
use Rattle.batch_job.proofs.NamedOpeners.{name_of, opener-named}
use Rattle.batch_job.proofs.NoteLines.{count-small, heading-line, fault-line, IsSmallFault, end-line, skipped-line}
use Rattle.batch_job.proofs.ProgramLines.{SaysLine, source-says, loaded-says, lines-of-program}

-- ---- the lines of a job
fault-small : (in_input : Bool) (number : ℕ) (items : List Item) → number < 2 ^ 32 → IsSmallFault (first_fault in_input number items)
fault-small in_input number [] small = tt
fault-small in_input number (Spoiled ∷ rest) small = small
fault-small in_input number (Line card ∷ rest) small =
    let P : Bool → Type 0 = λ t. IsSmallFault (if t then Some (control_at in_input number)
    else first_fault in_input (card_count (number + 1)) rest) in
    elim (is_some (control_of card)) as P [ true ↦ small | false ↦ fault-small in_input (card_count (number + 1)) rest (count-small (number + 1)) ]

first-small : (first later : Option CardFault) → IsSmallFault first → IsSmallFault later → IsSmallFault (first_of first later)
first-small None later x y = y
first-small (Some fault) later x y = x

program-small : (items : List Item) → IsSmallFault (program 1 items).fault
program-small items =
    first-small (first_fault false 1 (before_data items))
    (first_fault true (card_count (1 + length (before_data items) + 1)) (behind_data items))
    (fault-small false 1 (before_data items) (omega arith))
    (fault-small true (card_count (1 + length (before_data items) + 1)) (behind_data items) (count-small (1 + length (before_data items) + 1)))

run-lines : (name : List ℕ) (limit : ℕ) (source : Source) (input : List (List ℕ)) (fault : Option CardFault) → IsNamed name → SaysLine source
    → IsSmallFault fault → AreLinesOf (run_lines name limit source input fault)
run-lines name limit source input None is says small = lines-of-program name limit source input is says
run-lines name limit source input (Some fault) is says small =
    let P : Bool → Type 0 = λ t. AreLinesOf (if t then program_lines name limit source input ++ fault_line name fault ∷ []
    else fault_line name fault ∷ []) in
    elim fault.in_input as P [
      | true ↦ append-lines (program_lines name limit source input) (fault_line name fault ∷ [])
          (lines-of-program name limit source input is says) (fault-line name fault small is, tt)
      | false ↦ (fault-line name fault small is, tt)
    ]

listed-lines : (items : List Item) → AreItems items → AreLinesOf (listed items)
listed-lines [] are = tt
listed-lines (Spoiled ∷ rest) are = tt
listed-lines (Line card ∷ rest) are =
    let P : Bool → Type 0 = λ t. AreLinesOf (if t then [] else card ∷ listed rest) in
    elim (is_some (control_of card)) as P [ true ↦ tt | false ↦ (are.0, listed-lines rest are.1) ]

-- ---- the parts of a deck
before-items : (items : List Item) → AreItems items → AreItems (before_end items)
before-items [] are = tt
before-items (item ∷ rest) are =
    let P : Bool → Type 0 = λ t. AreItems (if t then [] else item ∷ before_end rest) in
    elim (is_end item) as P [ true ↦ tt | false ↦ (are.0, before-items rest are.1) ]

abbrev AreGroups : List (Opener × List Item) → Type 0
AreGroups groups = AllByRecursion (λ (group : Opener × List Item). IsNamed (name_of group.0) × AreItems group.1) groups

record IsCutRightly (deck : Groups) : Type 0 where
  front : AreItems deck.front
  groups : AreGroups deck.groups

cut-more : (item : Item) (o : Option Opener) (deck : Groups) → opener_of item ≡ o → IsItem item → IsCutRightly deck → IsCutRightly (before_groups item o deck)
cut-more item None deck e is r = record { front = (is, r.front); groups = r.groups }
cut-more item (Some o) deck e is r = record { front = tt; groups = ((opener-named item o e, r.front), r.groups) }

cut-rightly : (items : List Item) → AreItems items → IsCutRightly (cut items)
cut-rightly [] are = record { front = tt; groups = tt }
cut-rightly (item ∷ rest) are = cut-more item (opener_of item) (cut rest) refl are.0 (cut-rightly rest are.1)

-- ---- a group and the stretch behind its end
job-lines : (load : Loaded) (o : Opener) (items : List Item) → IsNamed (name_of o) → AreItems items → AreLinesOf (report (λ file. load) (job_of o items))
job-lines load (opener.List name) items is are = (
  heading-line name is,
  append-lines (listed items) (listing_end name (listed items) (first_fault false 1 items) ∷ []) (listed-lines items are)
      (end-line name (listed items) (first_fault false 1 items) (fault-small false 1 items (omega arith)) is, tt),
)
job-lines load (opener.Job name limit) items is are = (
  heading-line name is,
  run-lines name limit (source_of name (compiling (program 1 items).cards)) (program 1 items).input (program 1 items).fault is
      (source-says name (compiling (program 1 items).cards) is) (program-small items),
)
job-lines load (opener.Run name file) items is are = (
  heading-line name is,
  run-lines name file_limit (source_loaded name load) (listed items) (first_fault true 1 items) is (loaded-says name load is)
      (fault-small true 1 items (omega arith)),
)

skipped-lines : (n : ℕ) → AreLinesOf (flat_map (report no_files) (skipped (card_count n)))
skipped-lines n =
    let P : Bool → Type 0 = λ t. AreLinesOf (flat_map (report no_files) (if t then [] else job.Skipped (card_count n) ∷ [])) in
    elim (card_count n == 0) as P [ true ↦ tt | false ↦ (skipped-line n, tt) ]

stretch-lines : (items : List Item) → AreLinesOf (stretch_lines items)
stretch-lines items = skipped-lines (count_by counts items)

abbrev IsBegun : Begun → Type 0
IsBegun g = IsNamed (name_of g.opener) × AreItems g.items

closed-lines : (g : Begun) → IsBegun g → AreLinesOf (closed_group g)
closed-lines g is =
    append-lines (report (λ file. g.load) (job_of g.opener (before_end g.items))) (stretch_lines (after_end g.items))
    (job-lines g.load g.opener (before_end g.items) is.0 (before-items g.items is.1)) (stretch-lines (after_end g.items))

-- ---- all groups
abbrev AreBegun : List Begun → Type 0
AreBegun groups = AllByRecursion IsBegun groups

begins-by : (found : Option (Loaded × List Loaded)) (o : Opener) (items : List Item) (behind : List Loaded → Deck) → IsNamed (name_of o) → AreItems items
    → ((later : List Loaded) → AreBegun (behind later).groups) → AreBegun (begin_by found o items behind).groups
begins-by None o items behind is are rest = tt
begins-by (Some (load, later)) o items behind is are rest = ((is, are), rest later)

groups-begun : (groups : List (Opener × List Item)) (loads : List Loaded) (ended : Bool) → AreGroups groups → AreBegun (begun groups loads ended).groups
groups-begun [] loads ended are = tt
groups-begun ((o, items) ∷ rest) loads ended are =
    begins-by (load_for o loads) o items (λ later. begun rest later ended) are.0.0 are.0.1 (λ later. groups-begun rest later ended are.1)

group-lines : (groups : List Begun) → AreBegun groups → AreLinesOf (group_lines groups true)
group-lines [] are = tt
group-lines (g ∷ []) are = closed-lines g are.0
group-lines (g ∷ next ∷ rest) are =
    append-lines (closed_group g) (group_lines (next ∷ rest) true) (closed-lines g are.0) (group-lines (next ∷ rest) are.1)

all-lines : (front : List Item) (groups : List Begun) (ended : Bool) → ended ≡ true → AreBegun groups → AreLinesOf (lines_by front groups ended)
all-lines front [] true e are = stretch-lines front
all-lines front [] false e are = absurd cc
all-lines front (g ∷ rest) true e are = append-lines (stretch_lines front) (group_lines (g ∷ rest) true) (stretch-lines front) (group-lines (g ∷ rest) are)
all-lines front (g ∷ rest) false e are = absurd cc

-- Those of a whole deck are lines, where its cards are.
whole-lines : (items : List Item) (loads : List Loaded) → AreItems items → is_whole items loads true ≡ true → AreLinesOf (lines_so_far items loads true)
whole-lines items loads are whole =
    all-lines (cut items).front (begun (cut items).groups loads true).groups (begun (cut items).groups loads true).ended whole
    (groups-begun (cut items).groups loads true (cut-rightly items are).groups)

-- ---- a deck that goes on: its lines are the first of those with all files loaded
part-lines : (part rest : List (List ℕ)) → AreLinesOf (part ++ rest) → AreLinesOf part
part-lines [] rest are = tt
part-lines (line ∷ part) rest are = (are.0, part-lines part rest are.1)

first-lines : (part whole : List (List ℕ)) → IsPrefixOf part whole → AreLinesOf whole → AreLinesOf part
first-lines part whole (rest, e) are = part-lines part rest (subst AreLinesOf (sym e) are)

-- loads of files that aren't there, as many as are named
abbrev missing : List Item → List Loaded
missing items = map (λ file. NoFile) (files_named items)

with-missing : (items : List Item) (loads : List Loaded) → AreItems items → AreLinesOf (lines_so_far items (loads ++ missing items) true)
with-missing items loads are =
    let sum = length-append loads (missing items) in
    let many = length-map (files_named items) (λ file. NoFile) in
    whole-lines items (loads ++ missing items) are (all_loaded items (loads ++ missing items) true (omega (arith, sum, many)))

by-end : (items : List Item) (loads : List Loaded) (ended whole : Bool) → is_whole items loads ended ≡ whole → AreItems items
    → AreLinesOf (lines_so_far items loads ended)
by-end items loads true true e are = whole-lines items loads are e
by-end items loads true false e are = first-lines _ _ ((loads_go_on items loads (missing items)).0 e) (with-missing items loads are)
by-end items loads false whole e are =
    first-lines _ _ (lines_go_on items [] loads (missing items) true)
    (subst (λ all. AreLinesOf (lines_so_far all (loads ++ missing items) true)) (sym (append-nil items)) (with-missing items loads are))

-- The lines of a deck are lines, where its cards are, whatever its files are loaded as.
pub printable-lines : (items : List Item) (loads : List Loaded) (ended : Bool) → AreItems items → AllByRecursion IsLine (lines_so_far items loads ended)
printable-lines items loads ended are = by-end items loads ended (is_whole items loads ended) refl are

pub report-lines : (found : Loads) (items : List Item) → AreItems items → AllByRecursion IsLine (one_thread_lines found items)
report-lines found items are =
    subst (λ ls. AllByRecursion IsLine ls) (whole_lines found items).0 (printable-lines items (loads_of found items) true are)
