-- Item by item, the lines that a stream gives are those of the items so far.
use Rattle.std.proofs.Common.{◌≡◌, ◌≤◌, ℕ, zero, suc, drop, subst, ◌+◌, Bool, true, false, ◌||◌, ◌&&◌, List, [], ◌∷◌, ◌++◌, length, Option, Some, None, refl, sym, ◌∙◌, ap, append_assoc, zero-add, arith}
use Rattle.std.specs.Prelude.{flat_map, map, count_by, cond, if◌then◌else◌, ◌==◌}
use Rattle.std.proofs.lemmas.List.{append-nil}
use Rattle.std.proofs.lemmas.List.Sums.{sum_by-cons}
use Rattle.solo_base.specs.declared.item.Item.{Item}
use Rattle.solo_base.specs.declared.item.Item.TheVariants.{Line, Spoiled}
use Rattle.deck_format.specs.declared.control.Opener.{Opener}
use Rattle.deck_format.specs.declared.control.Opener.TheVariants as opener
use Rattle.deck_format.specs.declared.job.Job.{Job}
use Rattle.deck_format.specs.declared.job.Job.TheVariants.{Skipped}
use Rattle.deck_format.specs.declared.job.CardFault.{CardFault}
use Rattle.deck_format.specs.Control.{control_of}
use Rattle.deck_format.specs.Jobs.{Groups, is_some, cut, before_groups, opener_of, opener_in, is_end, ends_in, counts, card_count, skipped, before_end, after_end, stretch, listed, first_fault, job_of, group_jobs, jobs}
use Rattle.deck_format.specs.JobReader.{control_in}
use Rattle.disk_contents.specs.declared.loading.Loaded.{Loaded}
use Rattle.disk_contents.specs.declared.loading.Loaded.TheVariants.{NoFile}
use Rattle.batch_job.specs.Report.{Loads, no_files, report, heading, listed_line, listing_end}
use Rattle.batch_job.specs.OneThread.{one_thread_lines}
use Rattle.batch_job.specs.Loads.{file_named, files_named, loads_of, Begun, load_for, with_group, begin_by, begun}
use Rattle.solo_base.specs.Prefixes.{IsPrefixOf}
use Rattle.batch_job.specs.LinesSoFar.{is_closed, fault_so_far, open_lines, stretch_lines, closed_group, last_lines, group_lines, lines_by, lines_so_far, is_whole, LoadsGoOn}
use Rattle.deck_format.specs.declared.group.Group.{Group}
use Rattle.deck_format.specs.JobReader.{opened as opened_group}
use Rattle.batch_job.specs.LinesAhead.{Where, Outside, InList, InProgram, Dropped, name_of, is_list, told_behind, behind, open_program, end_line, list_lines, open_list, part_lines, is_there, lines_ahead, closed_lines, opened, added_lines, added, is_in_group}
use Rattle.batch_job.proofs.ProgramGroups.{report-behind, open-behind, prefix-same, prefix-more, told-on}

opener-control : (item : Item) → opener_of item ≡ opener_in (control_in item)
opener-control (Line card) = refl
opener-control Spoiled = refl

pub opener-is : (item : Item) → opener_of item ≡ opener_in (control_in item)
opener-is item = opener-control item

end-control : (item : Item) → is_end item ≡ ends_in (control_in item)
end-control (Line card) = refl
end-control Spoiled = refl

flat_map-append : (files : Loads) (jobs more : List Job)
    → flat_map (report files) (jobs ++ more) ≡ flat_map (report files) jobs ++ flat_map (report files) more
flat_map-append files [] more = refl
flat_map-append files (job ∷ jobs) more =
    ap (λ ls. report files job ++ ls) (flat_map-append files jobs more)
    ∙ sym (append_assoc (report files job) (flat_map (report files) jobs) (flat_map (report files) more))

-- ---- an opener
pub closed-lines : (part : Where) → part_lines part [] true ≡ closed_lines part
closed-lines (Outside count) = let same : count + 0 ≡ count = omega arith in ap (λ n. flat_map (report no_files) (skipped (card_count n))) same
closed-lines (InList name count) = let same : count + 0 ≡ count = omega arith in ap (λ n. listed_line name (card_count n) ∷ []) same
closed-lines (InProgram load group given) = append-nil (told_behind given load group true)
closed-lines Dropped = refl

fault-end : (name : List ℕ) (cards : List (List ℕ)) (fault : Option CardFault) → listing_end name cards fault ≡ end_line name (0 + length cards) fault
fault-end name cards None = let same : 0 + length cards ≡ length cards = omega arith in ap (λ n. listed_line name (card_count n)) (sym same)
fault-end name cards (Some fault) = refl

-- a group that is closed by the next opener or the end, and one that is open
abbrev group_of : Loaded → Opener → List Item → Begun
group_of load o items = record { load = load; opener = o; items = items }

group-closed : (load : Loaded) (o : Opener) (items : List Item)
    → closed_group (group_of load o items) ≡ heading (name_of o) ∷ part_lines (opened load o) items true
group-closed load (opener.List name) items =
    let cards = listed (before_end items) in
    ap (λ line. (heading name ∷ cards ++ line ∷ []) ++ stretch_lines (after_end items)) (fault-end name cards (first_fault false 1 (before_end items)))
group-closed load (opener.Job name limit) items =
    ap (λ ls. ls ++ stretch_lines (after_end items)) (report-behind load (opener.Job name limit) (before_end items) refl)
group-closed load (opener.Run name file) items =
    ap (λ ls. ls ++ stretch_lines (after_end items)) (report-behind load (opener.Run name file) (before_end items) refl)

program-open : (load : Loaded) (o : Opener) (items : List Item) → is_list o ≡ false
    → last_lines (group_of load o items) ≡ heading (name_of o) ∷ open_program load (opened_group o) [] items
program-open load o items other = by (is_closed items)
  where
    by : (t : Bool) → (if t then report (λ file. load) (job_of o (before_end items)) else open_lines load o items)
        ≡ heading (name_of o) ∷ (if t then told_behind [] load (behind (opened_group o) (before_end items)) true
        else told_behind [] load (behind (opened_group o) items) false)
    by true = report-behind load o (before_end items) other
    by false = open-behind load o items other

group-open : (load : Loaded) (o : Opener) (items : List Item)
    → last_lines (group_of load o items) ≡ heading (name_of o) ∷ part_lines (opened load o) items false
group-open load (opener.List name) items =
    let cards = listed (before_end items) in
    let P : Bool → Type 0 =
    λ t. (if t then report (λ file. load) (job_of (opener.List name) (before_end items)) else open_lines load (opener.List name) items)
    ≡ heading name ∷ (if t then list_lines name 0 (before_end items) else (listed items ++ fault_so_far name (first_fault false 1 items))) in
    elim (is_closed items) as P [
      | true ↦ ap (λ line. heading name ∷ cards ++ line ∷ []) (fault-end name cards (first_fault false 1 (before_end items)))
      | false ↦ refl
    ]
group-open load (opener.Job name limit) items = program-open load (opener.Job name limit) items refl
group-open load (opener.Run name file) items = program-open load (opener.Run name file) items refl

first-group : (load : Loaded) (o : Opener) (front : List Item) (groups : List Begun) (ended : Bool) →
    group_lines (group_of load o front ∷ groups) ended
    ≡ (heading (name_of o) ∷ []) ++ (part_lines (opened load o) front (ended || is_there groups) ++ group_lines groups ended)
first-group load o front [] true =
    group-closed load o front ∙ ap (λ ls. (heading (name_of o) ∷ []) ++ ls) (sym (append-nil (part_lines (opened load o) front true)))
first-group load o front [] false =
    group-open load o front ∙ ap (λ ls. (heading (name_of o) ∷ []) ++ ls) (sym (append-nil (part_lines (opened load o) front false)))
first-group load o front (next ∷ rest) true =
    ap (λ ls. ls ++ group_lines (next ∷ rest) true) (group-closed load o front)
    ∙ append_assoc (heading (name_of o) ∷ []) (part_lines (opened load o) front true) (group_lines (next ∷ rest) true)
first-group load o front (next ∷ rest) false =
    ap (λ ls. ls ++ group_lines (next ∷ rest) false) (group-closed load o front)
    ∙ append_assoc (heading (name_of o) ∷ []) (part_lines (opened load o) front true) (group_lines (next ∷ rest) false)

-- the lines ahead in a deck that is cut
abbrev from_cut : Where → Groups → List Loaded → Bool → List (List ℕ)
from_cut part deck loads ended =
    let behind = begun deck.groups loads ended in
    part_lines part deck.front (behind.ended || is_there behind.groups) ++ group_lines behind.groups behind.ended

always : (ended : Bool) → (ended || true) ≡ true
always true = refl
always false = refl

-- an opener whose file is loaded, if it is one of a file
pub opens : (part : Where) (item : Item) (o : Opener) (load : Loaded) (more : List Item) (loads left : List Loaded) (ended : Bool)
    → opener_in (control_in item) ≡ Some o → load_for o loads ≡ Some (load, left) →
    lines_ahead part (item ∷ more) loads ended
    ≡ closed_lines part ++ ((heading (name_of o) ∷ []) ++ lines_ahead (opened load o) more left ended)
opens part item o load more loads left ended is found =
    let front = (cut more).front in
    let behind = begun (cut more).groups left ended in
    ap (λ f. from_cut part (before_groups item f (cut more)) loads ended) (opener-control item ∙ is)
    ∙ ap (λ f. part_lines part [] ((begin_by f o front (λ later. begun (cut more).groups later ended)).ended
    || is_there (begin_by f o front (λ later. begun (cut more).groups later ended)).groups)
    ++ group_lines (begin_by f o front (λ later. begun (cut more).groups later ended)).groups
    (begin_by f o front (λ later. begun (cut more).groups later ended)).ended) found
    ∙ ap (λ t. part_lines part [] t ++ group_lines (group_of load o front ∷ behind.groups) behind.ended) (always behind.ended)
    ∙ ap (λ ls. ls ++ group_lines (group_of load o front ∷ behind.groups) behind.ended) (closed-lines part)
    ∙ ap (λ ls. closed_lines part ++ ls) (first-group load o front behind.groups behind.ended)

-- and one whose file isn't loaded yet
pub stops : (part : Where) (item : Item) (o : Opener) (more : List Item) (loads : List Loaded) (ended : Bool)
    → opener_in (control_in item) ≡ Some o → load_for o loads ≡ None → lines_ahead part (item ∷ more) loads ended ≡ lines_ahead part [] [] false
stops part item o more loads ended is none =
    let front = (cut more).front in
    ap (λ f. from_cut part (before_groups item f (cut more)) loads ended) (opener-control item ∙ is)
    ∙ ap (λ f. part_lines part [] ((begin_by f o front (λ later. begun (cut more).groups later ended)).ended
    || is_there (begin_by f o front (λ later. begun (cut more).groups later ended)).groups)
    ++ group_lines (begin_by f o front (λ later. begun (cut more).groups later ended)).groups
    (begin_by f o front (λ later. begun (cut more).groups later ended)).ended) none

-- ---- an item that opens no group
-- what it adds to the part of the deck that it stands in
stays : (part to : Where) (gives : List (List ℕ)) (item : Item) (more : List Item) (loads : List Loaded) (ended : Bool)
    → opener_in (control_in item) ≡ None →
    ((front : List Item) (closed : Bool) → part_lines part (item ∷ front) closed ≡ gives ++ part_lines to front closed)
    → lines_ahead part (item ∷ more) loads ended ≡ gives ++ lines_ahead to more loads ended
stays part to gives item more loads ended plain goes_on =
    let behind = begun (cut more).groups loads ended in
    let closed = behind.ended || is_there behind.groups in
    ap (λ found. from_cut part (before_groups item found (cut more)) loads ended) (opener-control item ∙ plain)
    ∙ ap (λ ls. ls ++ group_lines behind.groups behind.ended) (goes_on (cut more).front closed)
    ∙ append_assoc gives (part_lines to (cut more).front closed) (group_lines behind.groups behind.ended)

part-ends : (part : Where) (item : Item) (front : List Item) (closed : Bool) → is_in_group part ≡ true → is_end item ≡ true →
    part_lines part (item ∷ front) closed ≡ closed_lines part ++ part_lines (Outside 0) front closed
part-ends (Outside count) item front closed group end = absurd cc
part-ends (InList name count) item front true group end =
    let none : 0 + count_by counts front ≡ count_by counts front = omega arith in
    let same : count + 0 ≡ count = omega arith in
    rw end (rw (none, same) refl)
part-ends (InList name count) item front false group end =
    let same : count + 0 ≡ count = omega arith in
    rw end (rw same refl)
part-ends (InProgram load program given) item front true group end =
    let none : 0 + count_by counts front ≡ count_by counts front = omega arith in
    rw (end, none) refl
part-ends (InProgram load program given) item front false group end = rw end (sym (append-nil (told_behind given load program true)))
part-ends Dropped item front true group end = let none : 0 + count_by counts front ≡ count_by counts front = omega arith in rw end (rw none refl)
part-ends Dropped item front false group end = refl

pub ends : (part : Where) (item : Item) (more : List Item) (loads : List Loaded) (ended : Bool) → is_in_group part ≡ true → opener_in (control_in item) ≡ None
    → ends_in (control_in item) ≡ true →
    lines_ahead part (item ∷ more) loads ended ≡ closed_lines part ++ lines_ahead (Outside 0) more loads ended
ends part item more loads ended group plain end =
    stays part (Outside 0) (closed_lines part) item more loads ended plain (λ front closed. part-ends part item front closed group (end-control item ∙ end))

-- ---- an item that neither opens nor ends a group
outside : (b : Bool) (count others : ℕ) → card_count (count + (cond b 1 0 + others)) ≡ card_count ((if b then card_count (count + 1) else count) + others)
outside true count others = omega arith
outside false count others = omega arith

card-more : (count others : ℕ) → card_count (count + (1 + others)) ≡ card_count (card_count (count + 1) + others)
card-more count others = omega arith

end-more : (name : List ℕ) (count others : ℕ) (fault : Option CardFault)
    → end_line name (count + (1 + others)) fault ≡ end_line name (card_count (count + 1) + others) fault
end-more name count others None = ap (λ n. listed_line name n) (card-more count others)
end-more name count others (Some fault) = refl

one-more : (count n m : ℕ) → m ≡ 1 + n → count + m ≡ count + (1 + n)
one-more count n m e = omega (arith, e)

plain-list : (name : List ℕ) (count : ℕ) (card : List ℕ) (front : List Item) → is_some (control_of card) ≡ false →
    list_lines name count (Line card ∷ front) ≡ card ∷ list_lines name (card_count (count + 1)) front
plain-list name count card front plain =
    let cards = listed front in
    let fault = first_fault false (card_count (card_count (count + 1) + 1)) front in
    rw plain (ap (λ line. card ∷ cards ++ line ∷ []) (ap (λ n. end_line name n fault) (one-more count (length cards) (length (card ∷ cards)) (omega arith))
    ∙ end-more name count (length cards) fault))

-- a card of a list that is closed behind these items, and of one that is open
closed-card : (name : List ℕ) (count : ℕ) (card : List ℕ) (front : List Item) (t : Bool) → is_some (control_of card) ≡ t →
    list_lines name count (Line card ∷ before_end front) ++ stretch_lines (after_end front)
    ≡ added_lines (InList name count) (Line card) t ++ part_lines (added (InList name count) (Line card) t) front true
closed-card name count card front true is = rw is refl
closed-card name count card front false is = ap (λ ls. ls ++ stretch_lines (after_end front)) (plain-list name count card (before_end front) is)

open-card : (name : List ℕ) (count : ℕ) (card : List ℕ) (front : List Item) (t closed : Bool) → is_end (Line card) ≡ false → is_some (control_of card) ≡ t
    → is_closed front ≡ closed →
    open_list name count (Line card ∷ front) ≡ added_lines (InList name count) (Line card) t ++ part_lines (added (InList name count) (Line card) t) front false
open-card name count card front true true on is ends = rw (on, ends) (rw is refl)
open-card name count card front true false on is ends = rw (on, ends) (rw is refl)
open-card name count card front false true on is ends = rw (on, ends) (plain-list name count card (before_end front) is)
open-card name count card front false false on is ends = rw (on, ends) (rw is refl)

adds : (part : Where) (item : Item) (front : List Item) (closed : Bool) → (is_in_group part ≡ true → is_end item ≡ false) →
    part_lines part (item ∷ front) closed ≡ added_lines part item (is_some (control_in item))
    ++ part_lines (added part item (is_some (control_in item))) front closed
adds (Outside count) item front true goes_on =
    ap (λ n. flat_map (report no_files) (skipped (card_count (count + n)))) (sum_by-cons (λ x. cond (counts x) 1 0) item front)
    ∙ ap (λ n. flat_map (report no_files) (skipped n)) (outside (counts item) count (count_by counts front))
adds (Outside count) item front false goes_on = refl
adds (InList name count) Spoiled front true goes_on = refl
adds (InList name count) Spoiled front false goes_on = both (is_closed front)
  where
    both : (t : Bool)
        → (if t then list_lines name count (Spoiled ∷ before_end front) else (listed (Spoiled ∷ front)
        ++ fault_so_far name (first_fault false (card_count (count + 1)) (Spoiled ∷ front)))) ≡ added_lines (InList name count) Spoiled false
    both true = refl
    both false = refl
adds (InList name count) (Line card) front true goes_on = rw (goes_on refl) (closed-card name count card front (is_some (control_of card)) refl)
adds (InList name count) (Line card) front false goes_on =
    open-card name count card front (is_some (control_of card)) (is_closed front) (goes_on refl) refl refl
adds (InProgram load program given) item front true goes_on = rw (goes_on refl) refl
adds (InProgram load program given) item front false goes_on = rw (goes_on refl) refl
adds Dropped item front true goes_on = rw (goes_on refl) refl
adds Dropped item front false goes_on = refl

pub plain : (part : Where) (item : Item) (more : List Item) (loads : List Loaded) (ended : Bool) → (is_in_group part ≡ true → ends_in (control_in item) ≡ false)
    → opener_in (control_in item) ≡ None →
    lines_ahead part (item ∷ more) loads ended ≡ added_lines part item (is_some (control_in item))
    ++ lines_ahead (added part item (is_some (control_in item))) more loads ended
plain part item more loads ended goes_on none =
    stays part (added part item (is_some (control_in item))) (added_lines part item (is_some (control_in item))) item more loads ended none
    (λ front closed. adds part item front closed (λ group. end-control item ∙ goes_on group))

-- ---- an item gives some lines and leads to a part
-- with these loads, of which these are left; or its file isn't loaded yet
pub data Led (part : Where) (item : Item) (loads : List Loaded) : Type 0 where
  Leads : (gives : List (List ℕ)) (to : Where) (left : List Loaded)
      → ((more : List Item) (later : List Loaded) (ended : Bool)
      → lines_ahead part (item ∷ more) (loads ++ later) ended ≡ gives ++ lines_ahead to more (left ++ later) ended)
      → ((more : List Item) (later : List Loaded) (ended : Bool)
      → (begun (cut (item ∷ more)).groups (loads ++ later) ended).ended ≡ (begun (cut more).groups (left ++ later) ended).ended) → Led part item loads
  Lacks : ((more : List Item) (ended : Bool) → lines_ahead part (item ∷ more) loads ended ≡ lines_ahead part [] [] false)
      → ((more : List Item) (ended : Bool) → (begun (cut (item ∷ more)).groups loads ended).ended ≡ false) → Led part item loads

and-first : (a b : Bool) → (a && b) ≡ true → a ≡ true
and-first true b e = refl
and-first false b e = absurd cc

and-second : (a b : Bool) → (a && b) ≡ true → b ≡ true
and-second true b e = e
and-second false b e = absurd cc

and-not : (a b : Bool) → a ≡ true → (a && b) ≡ false → b ≡ false
and-not true b e on = on
and-not false b e on = absurd cc

-- a load and those behind it
abbrev pub a-load : Loaded → List Loaded → Option (Loaded × List Loaded)
a-load load left = Some (load, left)

abbrev pub load-or : Loaded → Option (Loaded × List Loaded) → Loaded
load-or other None = other
load-or other (Some (load, left)) = load

abbrev pub left-or : List Loaded → Option (Loaded × List Loaded) → List Loaded
left-or other None = other
left-or other (Some (load, left)) = left

abbrev pub with-more : List Loaded → Option (Loaded × List Loaded) → Option (Loaded × List Loaded)
with-more later None = None
with-more later (Some (load, left)) = Some (load, left ++ later)

pub same-load : (load other : Loaded) (left rest : List Loaded) → a-load load left ≡ a-load other rest → load ≡ other
same-load load other left rest is = ap (load-or load) is

pub same-left : (load other : Loaded) (left rest : List Loaded) → a-load load left ≡ a-load other rest → left ≡ rest
same-left load other left rest is = ap (left-or left) is

-- the loads of a group stay those with more of them
pub load-on : (o : Opener) (loads later left : List Loaded) (load : Loaded) → load_for o loads ≡ Some (load, left)
    → load_for o (loads ++ later) ≡ Some (load, left ++ later)
load-on (opener.List name) loads later left load is = ap (with-more later) is
load-on (opener.Job name limit) loads later left load is = ap (with-more later) is
load-on (opener.Run name file) [] later left load is = absurd cc
load-on (opener.Run name file) (first ∷ loads) later left load is = ap (with-more later) is

-- the end of a deck behind an item
ended-by : (item : Item) (more : List Item) (found : Option Opener) (loads : List Loaded) (ended : Bool) → opener_in (control_in item) ≡ found
    → (begun (cut (item ∷ more)).groups loads ended).ended ≡ (begun (before_groups item found (cut more)).groups loads ended).ended
ended-by item more found loads ended is = ap (λ f. (begun (before_groups item f (cut more)).groups loads ended).ended) (opener-control item ∙ is)

leads : (part : Where) (item : Item) (loads : List Loaded) → Led part item loads
leads part item loads = by (opener_in (control_in item)) refl (is_in_group part && ends_in (control_in item)) refl
  where
    with-load : (o : Opener) → opener_in (control_in item) ≡ Some o → (found : Option (Loaded × List Loaded)) → load_for o loads ≡ found → Led part item loads
    with-load o e (Some (load, left)) is =
        Leads (closed_lines part ++ (heading (name_of o) ∷ [])) (opened load o) left
        (λ more later ended.
        opens part item o load more (loads ++ later) (left ++ later) ended e (load-on o loads later left load is)
        ∙ sym (append_assoc (closed_lines part) (heading (name_of o) ∷ []) (lines_ahead (opened load o) more (left ++ later) ended)))
        (λ more later ended.
        ended-by item more (Some o) (loads ++ later) ended e
        ∙ ap (λ f. (begin_by f o (cut more).front (λ l. begun (cut more).groups l ended)).ended) (load-on o loads later left load is))
    with-load o e None is =
        Lacks (λ more ended. stops part item o more loads ended e is)
        (λ more ended.
        ended-by item more (Some o) loads ended e
        ∙ ap (λ f. (begin_by f o (cut more).front (λ l. begun (cut more).groups l ended)).ended) is)

    by : (found : Option Opener) → opener_in (control_in item) ≡ found → (t : Bool) → (is_in_group part && ends_in (control_in item)) ≡ t → Led part item loads
    by (Some o) e t ending = with-load o e (load_for o loads) refl
    by None e true ending =
        Leads (closed_lines part) (Outside 0) loads
        (λ more later ended. ends part item more (loads ++ later) ended (and-first _ _ ending) e (and-second _ _ ending))
        (λ more later ended. ended-by item more None (loads ++ later) ended e)
    by None e false on =
        Leads (added_lines part item (is_some (control_in item))) (added part item (is_some (control_in item))) loads
        (λ more later ended. plain part item more (loads ++ later) ended (λ group. and-not _ _ group on) e)
        (λ more later ended. ended-by item more None (loads ++ later) ended e)

-- ---- the lines of the items so far stay
pub drop-prefix : (n : ℕ) (a b : List (List ℕ)) → IsPrefixOf a b → IsPrefixOf (drop n a) (drop n b)
drop-prefix n a b (rest, is) = subst (λ ls. IsPrefixOf (drop n a) (drop n ls)) is (by n a)
  where
    by : (n : ℕ) (a : List (List ℕ)) → IsPrefixOf (drop n a) (drop n (a ++ rest))
    by zero a = (rest, refl)
    by (suc n) [] = (drop (suc n) rest, refl)
    by (suc n) (line ∷ a) = by n a

prefix-with : (a b c : List (List ℕ)) → IsPrefixOf a b → IsPrefixOf a (b ++ c)
prefix-with a b c (rest, is) = (rest ++ c, sym (append_assoc a rest c) ∙ ap (λ ls. ls ++ c) is)

pub program-on : (load : Loaded) (group : Group) (given : List (List ℕ)) (items : List Item) (closed : Bool)
    → IsPrefixOf (told_behind given load group false) (part_lines (InProgram load group given) items closed)
program-on load group given items true =
    prefix-with _ _ _ (drop-prefix (length given) _ _ (told-on load group (before_end items) true))
program-on load group given items false = by (is_closed items)
  where
    by : (t : Bool) → IsPrefixOf (told_behind given load group false)
        (if t then told_behind given load (behind group (before_end items)) true else told_behind given load (behind group items) false)
    by true = drop-prefix (length given) _ _ (told-on load group (before_end items) true)
    by false = drop-prefix (length given) _ _ (told-on load group items false)

-- what is ahead with no more items is the first of what is ahead with more
stays-now : (part : Where) (more : List Item) (loads : List Loaded) (ended : Bool)
    → IsPrefixOf (lines_ahead part [] [] false) (lines_ahead part more loads ended)
stays-now (Outside count) more loads ended = (lines_ahead (Outside count) more loads ended, refl)
stays-now (InList name count) more loads ended = (lines_ahead (InList name count) more loads ended, refl)
stays-now (InProgram load group given) more loads ended =
    let behind = begun (cut more).groups loads ended in
    prefix-more _ _ _ (prefix-same _ _ (append-nil (told_behind given load group false)))
    (prefix-with _ _ _ (program-on load group given (cut more).front (behind.ended || is_there behind.groups)))
stays-now Dropped more loads ended = (lines_ahead Dropped more loads ended, refl)

-- What is ahead with these items and loads, where it isn't all, is the first of what is ahead with more.
after-gives : (gives part_ahead whole : List (List ℕ)) → IsPrefixOf part_ahead whole → IsPrefixOf (gives ++ part_ahead) (gives ++ whole)
after-gives gives part_ahead whole (rest, e) = (rest, append_assoc gives part_ahead rest ∙ ap (λ ls. gives ++ ls) e)

ahead-stay : (part : Where) (items more : List Item) (loads later : List Loaded) (ended : Bool)
    → IsPrefixOf (lines_ahead part items loads false) (lines_ahead part (items ++ more) (loads ++ later) ended)
ahead-stay part [] more loads later ended = stays-now part more (loads ++ later) ended
ahead-stay part (item ∷ items) more loads later ended = by (leads part item loads) (λ to left. ahead-stay to items more left later ended)
  where
    by : Led part item loads
        → ((to : Where) (left : List Loaded) → IsPrefixOf (lines_ahead to items left false) (lines_ahead to (items ++ more) (left ++ later) ended))
        → IsPrefixOf (lines_ahead part (item ∷ items) loads false) (lines_ahead part (item ∷ (items ++ more)) (loads ++ later) ended)
    by (Leads gives to left ahead_is ended_is) stay =
        prefix-more _ _ _
        (prefix-same _ _ (ap (λ l. lines_ahead part (item ∷ items) l false) (sym (append-nil loads)) ∙ ahead_is items [] false
        ∙ ap (λ l. gives ++ lines_ahead to items l false) (append-nil left)))
        (prefix-more _ _ _ (after-gives gives _ _ (stay to left)) (prefix-same _ _ (sym (ahead_is (items ++ more) later ended))))
    by (Lacks ahead_is ended_is) stay =
        prefix-more _ _ _ (prefix-same _ _ (ahead_is items false)) (stays-now part (item ∷ (items ++ more)) (loads ++ later) ended)

-- ---- more loads
-- what is ahead at the end of a deck, with more loads
abbrev StaysWith : Where → List Item → List Loaded → List Loaded → Type 0
StaysWith part items loads later =
    ((begun (cut items).groups loads true).ended ≡ false
    → IsPrefixOf (lines_ahead part items loads true) (lines_ahead part items (loads ++ later) true))
    × ((begun (cut items).groups loads true).ended ≡ true
    → (lines_ahead part items (loads ++ later) true ≡ lines_ahead part items loads true)
    × ((begun (cut items).groups (loads ++ later) true).ended ≡ true))

loads-stay : (part : Where) (items : List Item) (loads later : List Loaded) → StaysWith part items loads later
loads-stay part [] loads later = ((λ never. absurd cc), (λ ended. (refl, refl)))
loads-stay part (item ∷ items) loads later = by (leads part item loads) (λ to left. loads-stay to items left later)
  where
    by : Led part item loads → ((to : Where) (left : List Loaded) → StaysWith to items left later) → StaysWith part (item ∷ items) loads later
    by (Leads gives to left ahead_is ended_is) stays_on =
        let now : lines_ahead part (item ∷ items) loads true ≡ gives ++ lines_ahead to items left true =
        ap (λ l. lines_ahead part (item ∷ items) l true) (sym (append-nil loads)) ∙ ahead_is items [] true
        ∙ ap (λ l. gives ++ lines_ahead to items l true) (append-nil left) in
        let same : (begun (cut (item ∷ items)).groups loads true).ended ≡ (begun (cut items).groups left true).ended =
        ap (λ l. (begun (cut (item ∷ items)).groups l true).ended) (sym (append-nil loads)) ∙ ended_is items [] true
        ∙ ap (λ l. (begun (cut items).groups l true).ended) (append-nil left) in
        let stay = stays_on to left in (
          (λ lacks. prefix-more _ _ _ (prefix-same _ _ now)
              (prefix-more _ _ _ (after-gives gives _ _ (stay.0 (sym same ∙ lacks))) (prefix-same _ _ (sym (ahead_is items later true))))),
          (λ whole. let on = stay.1 (sym same ∙ whole) in
              (ahead_is items later true ∙ ap (λ ls. gives ++ ls) on.0 ∙ sym now, ended_is items later true ∙ on.1)),
        )
    by (Lacks ahead_is ended_is) stays_on = (
      (λ lacks. prefix-more _ _ _ (prefix-same _ _ (ahead_is items true)) (stays-now part (item ∷ items) (loads ++ later) true)),
      (λ whole. absurd (let both : false ≡ true = sym (ended_is items true) ∙ whole in cc)),
    )

-- ---- from the beginning
open-deck : (front : List Item) (groups : List Begun) (ended : Bool)
    → lines_by front groups ended ≡ part_lines (Outside 0) front (ended || is_there groups) ++ group_lines groups ended
open-deck front [] true =
    ap (λ n. flat_map (report no_files) (skipped (card_count n))) (sym (zero-add (count_by counts front)))
    ∙ sym (append-nil (part_lines (Outside 0) front true))
open-deck front [] false = refl
open-deck front (group ∷ rest) true =
    ap (λ n. flat_map (report no_files) (skipped (card_count n)) ++ group_lines (group ∷ rest) true) (sym (zero-add (count_by counts front)))
open-deck front (group ∷ rest) false =
    ap (λ n. flat_map (report no_files) (skipped (card_count n)) ++ group_lines (group ∷ rest) false) (sym (zero-add (count_by counts front)))

pub from-start : (items : List Item) (loads : List Loaded) (ended : Bool) → lines_so_far items loads ended ≡ lines_ahead (Outside 0) items loads ended
from-start items loads ended =
    let deck = begun (cut items).groups loads ended in
    open-deck (cut items).front deck.groups deck.ended

pub lines_go_on : (items more : List Item) (loads later : List Loaded) (ended : Bool)
    → IsPrefixOf (lines_so_far items loads false) (lines_so_far (items ++ more) (loads ++ later) ended)
lines_go_on items more loads later ended =
    prefix-more _ _ _ (prefix-same _ _ (from-start items loads false))
    (prefix-more _ _ _ (ahead-stay (Outside 0) items more loads later ended) (prefix-same _ _ (sym (from-start (items ++ more) (loads ++ later) ended))))

pub loads_go_on : LoadsGoOn
loads_go_on items loads later =
    let stay = loads-stay (Outside 0) items loads later in (
      (λ lacks. prefix-more _ _ _ (prefix-same _ _ (from-start items loads true))
          (prefix-more _ _ _ (stay.0 lacks) (prefix-same _ _ (sym (from-start items (loads ++ later) true))))),
      (λ whole. let on = stay.1 whole in (from-start items (loads ++ later) true ∙ on.0 ∙ sym (from-start items loads true), on.1)),
    )

-- what hasn't ended isn't all
never-load : (o : Opener) (items : List Item) (rest : List (Opener × List Item)) (found : Option (Loaded × List Loaded))
    → ((later : List Loaded) → (begun rest later false).ended ≡ false) → (begin_by found o items (λ later. begun rest later false)).ended ≡ false
never-load o items rest None on = refl
never-load o items rest (Some (load, later)) on = on later

never-by : (groups : List (Opener × List Item)) (loads : List Loaded) → (begun groups loads false).ended ≡ false
never-by [] loads = refl
never-by ((o, items) ∷ rest) loads = never-load o items rest (load_for o loads) (λ later. never-by rest later)

pub never_whole : (items : List Item) (loads : List Loaded) → is_whole items loads false ≡ false
never_whole items loads = never-by (cut items).groups loads

-- ---- the whole of a deck
-- a job by what its own file is loaded as
skipped-same : (files : Loads) (items : List Item) → flat_map (report files) (stretch items) ≡ stretch_lines items
skipped-same files items = by (card_count (count_by counts items) == 0)
  where
    by : (t : Bool) → flat_map (report files) (cond t [] (Skipped (card_count (count_by counts items)) ∷ []))
        ≡ flat_map (report no_files) (cond t [] (Skipped (card_count (count_by counts items)) ∷ []))
    by true = refl
    by false = refl

-- the load of a group by the files, and the groups with theirs
abbrev load_by : Loads → Opener → Loaded
load_by files (opener.List name) = NoFile
load_by files (opener.Job name limit) = NoFile
load_by files (opener.Run name file) = files file

abbrev with_files : Loads → List (Opener × List Item) → List Begun
with_files files [] = []
with_files files ((o, items) ∷ rest) = group_of (load_by files o) o items ∷ with_files files rest

abbrev group_names : List (Opener × List Item) → List (List ℕ)
group_names [] = []
group_names ((o, items) ∷ rest) = file_named (Some o) ++ group_names rest

names-of : (items : List Item) → files_named items ≡ group_names (cut items).groups
names-of [] = refl
names-of (item ∷ rest) = by (opener_of item) (names-of rest)
  where
    by : (found : Option Opener) → files_named rest ≡ group_names (cut rest).groups
        → file_named found ++ files_named rest ≡ group_names (before_groups item found (cut rest)).groups
    by None same = same
    by (Some o) same = ap (λ ns. file_named (Some o) ++ ns) same

all-begun : (files : Loads) (groups : List (Opener × List Item))
    → begun groups (map files (group_names groups)) true ≡ record { groups = with_files files groups; ended = true }
all-begun files [] = refl
all-begun files ((opener.List name, items) ∷ rest) = ap (with_group (group_of NoFile (opener.List name) items)) (all-begun files rest)
all-begun files ((opener.Job name limit, items) ∷ rest) = ap (with_group (group_of NoFile (opener.Job name limit) items)) (all-begun files rest)
all-begun files ((opener.Run name file, items) ∷ rest) = ap (with_group (group_of (files file) (opener.Run name file) items)) (all-begun files rest)

own-report : (files : Loads) (o : Opener) (items : List Item) → report (λ file. load_by files o) (job_of o items) ≡ report files (job_of o items)
own-report files (opener.List name) items = refl
own-report files (opener.Job name limit) items = refl
own-report files (opener.Run name file) items = refl

one-group : (files : Loads) (o : Opener) (items : List Item)
    → closed_group (group_of (load_by files o) o items) ≡ flat_map (report files) (group_jobs (o, items))
one-group files o items =
    ap (λ ls. ls ++ stretch_lines (after_end items)) (own-report files o (before_end items))
    ∙ ap (λ ls. report files (job_of o (before_end items)) ++ ls) (sym (skipped-same files (after_end items)))

all-groups : (files : Loads) (groups : List (Opener × List Item))
    → group_lines (with_files files groups) true ≡ flat_map (report files) (flat_map group_jobs groups)
all-groups files [] = refl
all-groups files ((o, items) ∷ []) = one-group files o items ∙ ap (λ js. flat_map (report files) js) (sym (append-nil (group_jobs (o, items))))
all-groups files ((o, items) ∷ (p, later) ∷ rest) =
    ap (λ ls. ls ++ group_lines (with_files files ((p, later) ∷ rest)) true) (one-group files o items)
    ∙ ap (λ ls. flat_map (report files) (group_jobs (o, items)) ++ ls) (all-groups files ((p, later) ∷ rest))
    ∙ sym (flat_map-append files (group_jobs (o, items)) (flat_map group_jobs ((p, later) ∷ rest)))

all-lines : (files : Loads) (front : List Item) (groups : List (Opener × List Item))
    → lines_by front (with_files files groups) true ≡ flat_map (report files) (stretch front ++ flat_map group_jobs groups)
all-lines files front [] = sym (skipped-same files front) ∙ ap (λ js. flat_map (report files) js) (sym (append-nil (stretch front)))
all-lines files front ((o, items) ∷ rest) =
    ap (λ ls. stretch_lines front ++ ls) (all-groups files ((o, items) ∷ rest))
    ∙ ap (λ ls. ls ++ flat_map (report files) (flat_map group_jobs ((o, items) ∷ rest))) (sym (skipped-same files front))
    ∙ sym (flat_map-append files (stretch front) (flat_map group_jobs ((o, items) ∷ rest)))

-- With the loads of the files, the lines of all items are what one thread prints.
pub whole_lines : (files : Loads) (items : List Item)
    → (lines_so_far items (loads_of files items) true ≡ one_thread_lines files items) × (is_whole items (loads_of files items) true ≡ true)
whole_lines files items =
    let deck : begun (cut items).groups (loads_of files items) true ≡ record { groups = with_files files (cut items).groups; ended = true } =
    ap (λ ns. begun (cut items).groups (map files ns) true) (names-of items) ∙ all-begun files (cut items).groups in (
      ap (λ d. lines_by (cut items).front d.groups d.ended) deck ∙ all-lines files (cut items).front (cut items).groups,
      ap (λ d. d.ended) deck,
    )

-- where each file is loaded, the lines are all once the items have ended
groups-loaded : (groups : List (Opener × List Item)) (loads : List Loaded) (ended : Bool) → length (group_names groups) ≤ length loads
    → (begun groups loads ended).ended ≡ ended
groups-loaded [] loads ended enough = refl
groups-loaded ((opener.List name, items) ∷ rest) loads ended enough = groups-loaded rest loads ended enough
groups-loaded ((opener.Job name limit, items) ∷ rest) loads ended enough = groups-loaded rest loads ended enough
groups-loaded ((opener.Run name file, items) ∷ rest) [] ended enough = absurd (omega (arith, enough))
groups-loaded ((opener.Run name file, items) ∷ rest) (load ∷ later) ended enough = groups-loaded rest later ended (omega (arith, enough))

pub all_loaded : (items : List Item) (loads : List Loaded) (ended : Bool) → length (files_named items) ≤ length loads → is_whole items loads ended ≡ ended
all_loaded items loads ended enough =
    groups-loaded (cut items).groups loads ended (subst (λ ns. length ns ≤ length loads) (names-of items) enough)
