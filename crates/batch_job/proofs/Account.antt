-- What the code keeps and what it stands for: of lines, of a part, and of what an item does.
use Rattle.std.proofs.Common.{◌≡◌, ℕ, ◌==◌, Bool, true, false, ◌||◌, List, [], ◌∷◌, ◌++◌, length, drop, Option, Some, None, option_to_list, refl, sym, ◌∙◌, ap, subst, append_assoc}
use Rattle.std.specs.Prelude.{if◌then◌else◌}
use Rattle.std.proofs.lemmas.Bool.{eqb-true}
use Rattle.std.proofs.lemmas.List.{append-nil}
use Rattle.solo_base.specs.declared.item.Item.{Item}
use Rattle.solo_base.specs.declared.page.Page.{Page}
use Rattle.deck_format.specs.declared.control.Opener.{Opener}
use Rattle.deck_format.specs.declared.group.Group.{Group}
use Rattle.deck_format.specs.declared.control.Opener.TheVariants as opener
use Rattle.deck_format.specs.Jobs.{cut, card_count, opener_of, opener_in, ends_in, before_end, after_end}
use Rattle.deck_format.specs.JobReader.{control_in, opened as opened_group}
use Rattle.batch_program.specs.Laws.{IsPrefix}
use Rattle.program_lines.specs.Task.{Task, Says, new_task, task_lines, at_end}
use Rattle.program_lines.specs.Standing.{StandsFor, IsSpent}
use Rattle.program_lines.specs.declared.program_lines.ProgramLines.{ProgramLines}
use Rattle.program_lines.specs.declared.program_lines.ProgramLines.TheVariants as made
use Rattle.program_lines.proofs.Going.{all-cards}
use Rattle.program_lines.proofs.Giving.{given-first}
use Rattle.disk_contents.specs.declared.loading.Loaded.{Loaded}
use Rattle.disk_contents.specs.declared.loading.Loaded.TheVariants.{NoFile}
use Rattle.batch_job.specs.Report.{heading, listed_line, skipped_line, run_lines, file_limit, source_loaded}
use Rattle.batch_job.specs.Loads.{load_for, begun}
use Rattle.solo_base.specs.Prefixes.{IsPrefixOf}
use Rattle.batch_job.specs.LinesSoFar.{is_closed, runs_so_far, stretch_lines, group_lines}
use Rattle.batch_job.specs.LinesAhead.{Where, Outside, InList, InProgram, Dropped, name_of, told_by, told_behind, task_in, behind, part_lines, is_there, lines_ahead, closed_lines, opened, is_in_group}
use Rattle.batch_job.specs.Places.{program_group, IsInput, IsPart, is_in_a_group, StillGives, Holds, HasLoad, LeavesLoads, IsLoadOf, Leads, Opens, Ends, Adds, GivesOn, RestsAt}
use Rattle.batch_job.specs.declared.part.Part.{Part}
use Rattle.batch_job.specs.declared.part.Part.TheVariants as part
use Rattle.batch_job.specs.declared.item_lines.ItemLines.{ItemLines}
use Rattle.batch_job.proofs.LinesSoFar.{opens, ends, plain, same-load, load-on, opener-is}
use Rattle.batch_job.proofs.ProgramGroups.{prefix-more, told-on}

-- ---- lines that end a part
pub gives-none : StillGives made.Over []
gives-none = record {
  task = record { name = []; limit = 0; source = Says []; input = []; closed = true };
  given = [] ∷ [];
  stands = record { now = refl; later = λ never. absurd cc };
  closed = refl;
  all = refl;
}

pub gives-line : (line : List ℕ) → StillGives (made.Last line) (line ∷ [])
gives-line line = record {
  task = record { name = []; limit = 0; source = Says line; input = []; closed = true };
  given = [];
  stands = record { now = refl; later = λ never. absurd cc };
  closed = refl;
  all = refl;
}

pub drop-given : (given rest : List (List ℕ)) → drop (length given) (given ++ rest) ≡ rest
drop-given [] rest = refl
drop-given (line ∷ given) rest = drop-given given rest

split-at : (given all : List (List ℕ)) → IsPrefix given all → all ≡ given ++ drop (length given) all
split-at given all (rest, is) = is ∙ ap (λ ls. given ++ ls) (sym (drop-given given rest) ∙ ap (λ ls. drop (length given) ls) (sym is))

-- a program that is closed still gives what is left of its lines
pub gives-rest : (lines : ProgramLines) (t : Task) (given : List (List ℕ)) → StandsFor lines t given → t.closed ≡ true
    → StillGives lines (drop (length given) (task_lines t))
gives-rest lines t given stands closed = record {
  task = t;
  given = given;
  stands = stands;
  closed = closed;
  all = split-at given (task_lines t) (given-first lines t given stands);
}

-- the lines of a closed group are those of its task
closed-told : (load : Loaded) (group : Group) → group.kept.fault ≡ None → task_lines (at_end (task_in load group)) ≡ told_by load group true
closed-told load group fine =
    let t = task_in load group in
    all-cards t.name t.limit t.source t.input ∙ ap (λ f. run_lines t.name t.limit t.source t.input f) (sym fine)

pub input-ends : (name : List ℕ) (number : ℕ) (lines now : ProgramLines) (place : Where) → IsInput name number lines place
    → ((t : Task) (given : List (List ℕ)) → StandsFor lines t given → t.closed ≡ false → StandsFor now (at_end t) given)
    → StillGives now (closed_lines place)
input-ends name number lines now place is closes =
    let stands = closes (task_in is.load is.group) is.given is.stands refl in
    rw is.place_is
    (subst (λ ls. StillGives now (drop (length is.given) ls)) (closed-told is.load is.group is.fine)
    (gives-rest now (at_end (task_in is.load is.group)) is.given stands refl))

pub program-ends : (name : List ℕ) (limit number : ℕ) (cards : List (List ℕ)) (lines now : ProgramLines) (place : Where)
    → place ≡ InProgram NoFile (program_group name limit number cards) []
    → StandsFor lines (task_in NoFile (program_group name limit number cards)) []
    → ((t : Task) (given : List (List ℕ)) → StandsFor lines t given → t.closed ≡ false → StandsFor now (at_end t) given)
    → StillGives now (closed_lines place)
program-ends name limit number cards lines now place is stands closes =
    let group = program_group name limit number cards in
    rw is (subst (λ ls. StillGives now ls) (closed-told NoFile group refl)
    (gives-rest now (at_end (task_in NoFile group)) [] (closes (task_in NoFile group) [] stands refl) refl))

-- the count of a stretch
pub stretch-over : (count : ℕ) (place : Where) → place ≡ Outside count → count ≡ 0 → StillGives made.Over (closed_lines place)
stretch-over count place is none = rw (is, none) gives-none

not-zero : (count : ℕ) → (count ≡ 0 → ⊥) → (count == 0) ≡ false
not-zero count not = by (count == 0) refl
  where
    by : (t : Bool) → (count == 0) ≡ t → t ≡ false
    by false is = refl
    by true is = absurd (not (eqb-true count 0 is))

pub stretch-line : (count : ℕ) (place : Where) (line : List ℕ) → place ≡ Outside count → (count ≡ 0 → ⊥) → card_count count ≡ count
    → line ≡ skipped_line count → StillGives (made.Last line) (closed_lines place)
stretch-line count place line is some same line_is = rw (is, same, not-zero count some, line_is) (gives-line (skipped_line count))

pub list-line : (name : List ℕ) (count : ℕ) (place : Where) (line : List ℕ) → place ≡ InList name count → card_count count ≡ count
    → line ≡ listed_line name count → StillGives (made.Last line) (closed_lines place)
list-line name count place line is same line_is = rw (is, same, line_is) (gives-line (listed_line name count))

pub dropped-over : (place : Where) → place ≡ Dropped → StillGives made.Over (closed_lines place)
dropped-over place is = rw is gives-none

-- ---- lines of an item
pub holds-none : (lines : ItemLines) → lines ≡ record { ending = made.Over; own = None; note = None } → Holds lines []
holds-none lines is = rw is record { rest = []; ending = gives-none; all_are = refl }

pub holds-line : (line : List ℕ) → Holds (record { ending = made.Over; own = Some line; note = None }) (line ∷ [])
holds-line line = record { rest = []; ending = gives-none; all_are = refl }

-- ---- what an item does
pub same-group : (p : Part) (place : Where) → IsPart p place → is_in_a_group p ≡ is_in_group place
same-group (part.Stretch count) place is = ap is_in_group (sym is)
same-group (part.List name count) place is = ap is_in_group (sym is)
same-group (part.Program name limit number cards) place is = ap is_in_group (sym is)
same-group (part.Input name number lines) place is = ap is_in_group (sym is.place_is)
same-group part.Dropped place is = ap is_in_group (sym is)

pub opens-so : (place : Where) (item : Item) (o : Opener) (loads left : List Loaded) (lines : ItemLines) (p : Part)
    → opener_in (control_in item) ≡ Some o → Opens place o loads left lines p → Leads place item loads left lines p
opens-so place item o loads left lines p is does = record {
  to = opened does.load o;
  part_is = does.part_is;
  all = closed_lines place ++ heading (name_of o) ∷ [];
  holds = does.holds;
  more = λ more later ended.
      opens place item o does.load more (loads ++ later) (left ++ later) ended is (load-on o loads later left does.load does.load_is)
      ∙ sym (append_assoc (closed_lines place) (heading (name_of o) ∷ []) (lines_ahead (opened does.load o) more (left ++ later) ended));
}

-- an opener
own-load : (o : Opener) (loads left : List Loaded) (load : Loaded) → load_for o loads ≡ Some (load, left) → IsLoadOf o load
own-load (opener.List name) loads left load is = tt
own-load (opener.Job name limit) loads left load is = sym (same-load NoFile load loads left is)
own-load (opener.Run name file) loads left load is = tt

pub opens-by : (place : Where) (o : Opener) (loads left : List Loaded) (load taken : Loaded) (lines : ItemLines) (p : Part) (ending : ProgramLines)
    (name line : List ℕ) → load_for o loads ≡ Some (load, left) → taken ≡ load → (IsLoadOf o taken → IsPart p (opened taken o))
    → StillGives ending (closed_lines place) → name ≡ name_of o → line ≡ heading name
    → lines ≡ record { ending = ending; own = Some line; note = None } → Opens place o loads left lines p
opens-by place o loads left load taken lines p ending name line is same leads gives name_is line_is lines_are =
    rw lines_are record {
      load = load;
      load_is = is;
      part_is = subst (λ l. IsPart p (opened l o)) same (leads (subst (IsLoadOf o) (sym same) (own-load o loads left load is)));
      holds = record {
        rest = closed_lines place;
        ending = gives;
        all_are = ap (λ l. closed_lines place ++ l ∷ []) (ap heading (sym name_is) ∙ sym line_is) ∙ sym (append-nil (closed_lines place ++ line ∷ []));
      };
    }

-- the part behind it
pub program-opened : (name : List ℕ) (limit : ℕ) (load : Loaded) (p : Part) → p ≡ part.Program name limit 1 []
    → IsLoadOf (opener.Job name limit) load → IsPart p (opened load (opener.Job name limit))
program-opened name limit load p is own =
    subst (λ q. IsPart q (opened load (opener.Job name limit))) (sym is) (ap (λ l. InProgram l (opened_group (opener.Job name limit)) []) own)

pub file-opened : (name file : List ℕ) (load : Loaded) (p : Part) (lines : ProgramLines) → p ≡ part.Input name 1 lines
    → StandsFor lines (new_task name file_limit (source_loaded name load)) [] → IsPart p (opened load (opener.Run name file))
file-opened name file load p lines is stands =
    subst (λ q. IsPart q (opened load (opener.Run name file))) (sym is) record {
      load = load;
      group = opened_group (opener.Run name file);
      given = [];
      place_is = refl;
      name_is = refl;
      begun = refl;
      fine = refl;
      number_is = refl;
      stands = stands;
    }

-- with what an opener needs
pub opener-leads : (place : Where) (item : Item) (o : Opener) (loads left : List Loaded) (lines : ItemLines) (p : Part)
    → opener_in (control_in item) ≡ Some o
    → ((load : Loaded) (then_left : List Loaded) → load_for o loads ≡ Some (load, then_left) → Opens place o loads then_left lines p)
    → ((load : Loaded) (then_left : List Loaded) → load_for o loads ≡ Some (load, then_left) → left ≡ then_left)
    → HasLoad (opener_of item) loads → Leads place item loads left lines p
opener-leads place item o loads left lines p is opens leaves has =
    let (load, then_left, found) : HasLoad (Some o) loads = subst (λ f. HasLoad f loads) (opener-is item ∙ is) has in
    subst (λ l. Leads place item loads l lines p) (sym (leaves load then_left found))
    (opens-so place item o loads then_left lines p is (opens load then_left found))

pub opener-leaves : (item : Item) (o : Opener) (loads left : List Loaded) → opener_in (control_in item) ≡ Some o
    → ((load : Loaded) (then_left : List Loaded) → load_for o loads ≡ Some (load, then_left) → left ≡ then_left)
    → HasLoad (opener_of item) loads → LeavesLoads (opener_of item) loads left
opener-leaves item o loads left is leaves has =
    let (load, then_left, found) : HasLoad (Some o) loads = subst (λ f. HasLoad f loads) (opener-is item ∙ is) has in
    subst (λ f. LeavesLoads f loads left) (sym (opener-is item ∙ is))
    (load, subst (λ l. load_for o loads ≡ Some (load, l)) (sym (leaves load then_left found)) found)

pub none-leaves : (item : Item) (loads : List Loaded) → opener_in (control_in item) ≡ None → LeavesLoads (opener_of item) loads loads
none-leaves item loads none = subst (λ f. LeavesLoads f loads loads) (sym (opener-is item ∙ none)) refl

pub ends-so : (place : Where) (item : Item) (loads left : List Loaded) (lines : ItemLines) (p : Part) → left ≡ loads → is_in_group place ≡ true
    → opener_in (control_in item) ≡ None
    → ends_in (control_in item) ≡ true → Ends place lines p → Leads place item loads left lines p
ends-so place item loads left lines p same group none end does = record {
  to = Outside 0;
  part_is = does.part_is;
  all = closed_lines place;
  holds = does.holds;
  more = λ more later ended. ends place item more (loads ++ later) ended group none end
      ∙ ap (λ l. closed_lines place ++ lines_ahead (Outside 0) more (l ++ later) ended) (sym same);
}

pub adds-so : (place : Where) (item : Item) (loads left : List Loaded) (lines : ItemLines) (p : Part) → left ≡ loads
    → (is_in_group place ≡ true → ends_in (control_in item) ≡ false)
    → opener_in (control_in item) ≡ None → Adds place item lines p → Leads place item loads left lines p
adds-so place item loads left lines p same goes_on none does = record {
  to = does.to;
  part_is = does.part_is;
  all = does.all;
  holds = does.holds;
  more = λ more later ended. plain place item more (loads ++ later) ended goes_on none ∙ does.more more (loads ++ later) ended
      ∙ ap (λ l. does.all ++ lines_ahead does.to more (l ++ later) ended) (sym same);
}

-- ---- a program's next line
-- its task has the lines that its group has told so far
open-told : (load : Loaded) (group : Group) → group.in_input ≡ true → group.kept.fault ≡ None → told_by load group false ≡ task_lines (task_in load group)
open-told load group is_begun fine =
    let t = task_in load group in
    ap (λ f. runs_so_far t.name t.limit t.source group.in_input t.input f) fine
    ∙ ap (λ b. runs_so_far t.name t.limit t.source b t.input None) is_begun

one-more : (given all : List (List ℕ)) (line : List ℕ) → IsPrefixOf (given ++ line ∷ []) all
    → drop (length given) all ≡ (line ∷ []) ++ drop (length (given ++ line ∷ [])) all
one-more given all line (rest, is) =
    ap (λ ls. drop (length given) ls) (sym is ∙ append_assoc given (line ∷ []) rest)
    ∙ drop-given given ((line ∷ []) ++ rest)
    ∙ ap (λ ls. (line ∷ []) ++ ls) (sym (drop-given (given ++ line ∷ []) rest) ∙ ap (λ ls. drop (length (given ++ line ∷ [])) ls) is)

module _ (load : Loaded) (group : Group) (given : List (List ℕ)) (line : List ℕ) (first : IsPrefixOf (given ++ line ∷ []) (told_by load group false)) where
  told-more : (items : List Item) (closed : Bool)
      → told_behind given load (behind group items) closed ≡ (line ∷ []) ++ told_behind (given ++ line ∷ []) load (behind group items) closed
  told-more items closed = one-more given (told_by load (behind group items) closed) line (prefix-more _ _ _ first (told-on load group items closed))

  part-more : (front : List Item) (closed : Bool)
      → part_lines (InProgram load group given) front closed ≡ (line ∷ []) ++ part_lines (InProgram load group (given ++ line ∷ [])) front closed
  part-more front true = ap (λ ls. ls ++ stretch_lines (after_end front)) (told-more (before_end front) true)
  part-more front false = by (is_closed front)
    where
      by : (t : Bool) → (if t then told_behind given load (behind group (before_end front)) true else told_behind given load (behind group front) false)
          ≡ (line ∷ []) ++ (if t then told_behind (given ++ line ∷ []) load (behind group (before_end front)) true
          else told_behind (given ++ line ∷ []) load (behind group front) false)
      by true = told-more (before_end front) true
      by false = told-more front false

  ahead-more : (later : List Item) (loads : List Loaded) (ended : Bool)
      → lines_ahead (InProgram load group given) later loads ended
      ≡ (line ∷ []) ++ lines_ahead (InProgram load group (given ++ line ∷ [])) later loads ended
  ahead-more later loads ended =
      let deck = begun (cut later).groups loads ended in
      ap (λ ls. ls ++ group_lines deck.groups deck.ended) (part-more (cut later).front (deck.ended || is_there deck.groups))

pub input-gives : (name : List ℕ) (number : ℕ) (lines now : ProgramLines) (place : Where) (line : List ℕ) → IsInput name number lines place
    → ((t : Task) (given : List (List ℕ)) → StandsFor lines t given → StandsFor now t (given ++ line ∷ []))
    → GivesOn place (part.Input name number now) (line ∷ [])
input-gives name number lines now place line is stands =
    let t = task_in is.load is.group in
    let then_is = stands t is.given is.stands in
    let (rest, e) = given-first now t (is.given ++ line ∷ []) then_is in
    let first : IsPrefixOf (is.given ++ line ∷ []) (told_by is.load is.group false) = (rest, sym (open-told is.load is.group is.begun is.fine ∙ e)) in
    rw is.place_is record {
      to = InProgram is.load is.group (is.given ++ line ∷ []);
      part_is = record {
        load = is.load;
        group = is.group;
        given = is.given ++ line ∷ [];
        place_is = refl;
        name_is = is.name_is;
        begun = is.begun;
        fine = is.fine;
        number_is = is.number_is;
        stands = then_is;
      };
      gives = ahead-more is.load is.group is.given line first;
    }

pub input-rests : (name : List ℕ) (number : ℕ) (lines now : ProgramLines) (place : Where) → IsInput name number lines place
    → ((t : Task) (given : List (List ℕ)) → StandsFor lines t given → StandsFor now t (given ++ []))
    → ((t : Task) (given : List (List ℕ)) → StandsFor lines t given → task_lines t ≡ given)
    → RestsAt place (part.Input name number now)
input-rests name number lines now place is stands all =
    let t = task_in is.load is.group in
    let told : told_by is.load is.group false ≡ is.given = open-told is.load is.group is.begun is.fine ∙ all t is.given is.stands in
    record {
      part_is = record {
        load = is.load;
        group = is.group;
        given = is.given;
        place_is = is.place_is;
        name_is = is.name_is;
        begun = is.begun;
        fine = is.fine;
        number_is = is.number_is;
        stands = subst (λ ls. StandsFor now t ls) (append-nil is.given) (stands t is.given is.stands);
      };
      nothing =
          ap (λ p. lines_ahead p [] [] false) is.place_is
          ∙ append-nil (told_behind is.given is.load is.group false)
          ∙ ap (λ ls. drop (length is.given) ls) (told ∙ sym (append-nil is.given))
          ∙ drop-given is.given [];
    }

-- a program that is closed and needs a card has given all
pub spent-gives-none : (lines : ProgramLines) (rest : List (List ℕ)) → IsSpent lines → StillGives lines rest → rest ≡ []
spent-gives-none (made.Runs name r) rest needs gives =
    absurd (let both : false ≡ true = sym needs.closed ∙ gives.stands.at.closed ∙ gives.closed in cc)
spent-gives-none (made.Last line) rest never gives = absurd never
spent-gives-none made.Over rest spent gives =
    sym (drop-given gives.given rest)
    ∙ ap (λ ls. drop (length gives.given) ls) (sym gives.all ∙ gives.stands.now ∙ sym (append-nil gives.given))
    ∙ drop-given gives.given []

-- a line, or none
pub input-goes : (name : List ℕ) (number : ℕ) (lines now : ProgramLines) (place : Where) (result : Option (List ℕ)) → IsInput name number lines place
    → ((t : Task) (given : List (List ℕ)) → StandsFor lines t given → StandsFor now t (given ++ option_to_list result))
    → GivesOn place (part.Input name number now) (option_to_list result)
input-goes name number lines now place (Some line) is stands = input-gives name number lines now place line is stands
input-goes name number lines now place None is stands = record {
  to = place;
  part_is = record {
    load = is.load;
    group = is.group;
    given = is.given;
    place_is = is.place_is;
    name_is = is.name_is;
    begun = is.begun;
    fine = is.fine;
    number_is = is.number_is;
    stands = subst (λ ls. StandsFor now (task_in is.load is.group) ls) (append-nil is.given) (stands (task_in is.load is.group) is.given is.stands);
  };
  gives = λ more loads ended. refl;
}

-- ---- the next line of an item
abbrev pub Takes : List (List ℕ) → List (List ℕ) → ItemLines → Type 0
Takes all lines now = (rest : List (List ℕ)) × (all ≡ lines ++ rest) × Holds now rest

pub ending-line : (old new : ItemLines) (line : List ℕ) (all : List (List ℕ)) → Holds old all
    → ((t : Task) (given : List (List ℕ)) → StandsFor old.ending t given → StandsFor new.ending t (given ++ line ∷ []))
    → new.own ≡ old.own → new.note ≡ old.note → Takes all (line ∷ []) new
ending-line old new line all holds stands own note =
    let e = holds.ending in
    let now = stands e.task e.given e.stands in
    let (rest, is) = given-first new.ending e.task (e.given ++ line ∷ []) now in
    let next : holds.rest ≡ (line ∷ []) ++ rest =
    sym (drop-given e.given holds.rest)
    ∙ ap (λ ls. drop (length e.given) ls) (sym e.all ∙ is ∙ append_assoc e.given (line ∷ []) rest)
    ∙ drop-given e.given ((line ∷ []) ++ rest) in (
      rest ++ option_to_list new.own ++ option_to_list new.note,
      holds.all_are
          ∙ ap (λ ls. ls ++ option_to_list old.own ++ option_to_list old.note) next
          ∙ ap (λ o. ((line ∷ []) ++ rest) ++ option_to_list o ++ option_to_list old.note) (sym own)
          ∙ ap (λ n. ((line ∷ []) ++ rest) ++ option_to_list new.own ++ option_to_list n) (sym note),
      record {
        rest = rest;
        ending = record { task = e.task; given = e.given ++ line ∷ []; stands = now; closed = e.closed; all = is };
        all_are = refl;
      },
    )

-- what ends the part gave all
record IsQuiet (old : ItemLines) (now : ProgramLines) (all : List (List ℕ)) : Type 0 where
  pub ending : StillGives now []
  pub all_are : all ≡ option_to_list old.own ++ option_to_list old.note

quiet : (old : ItemLines) (now : ProgramLines) (all : List (List ℕ)) → Holds old all
    → ((t : Task) (given : List (List ℕ)) → StandsFor old.ending t given → StandsFor now t (given ++ []))
    → ((t : Task) (given : List (List ℕ)) → StandsFor old.ending t given → task_lines t ≡ given) → IsQuiet old now all
quiet old now all holds stands none =
    let e = holds.ending in
    let told = none e.task e.given e.stands in
    let nothing : holds.rest ≡ [] =
    sym (drop-given e.given holds.rest)
    ∙ ap (λ ls. drop (length e.given) ls) (sym e.all ∙ told ∙ sym (append-nil e.given))
    ∙ drop-given e.given [] in
    record {
      ending = record {
        task = e.task;
        given = e.given;
        stands = subst (λ ls. StandsFor now e.task ls) (append-nil e.given) (stands e.task e.given e.stands);
        closed = e.closed;
        all = told ∙ sym (append-nil e.given);
      };
      all_are = holds.all_are ∙ ap (λ ls. ls ++ option_to_list old.own ++ option_to_list old.note) nothing;
    }

pub own-line : (old new : ItemLines) (all : List (List ℕ)) (result : Option (List ℕ)) → Holds old all
    → ((t : Task) (given : List (List ℕ)) → StandsFor old.ending t given → StandsFor new.ending t (given ++ []))
    → ((t : Task) (given : List (List ℕ)) → StandsFor old.ending t given → task_lines t ≡ given)
    → result ≡ old.own → new.own ≡ None → new.note ≡ old.note → Takes all (option_to_list result) new
own-line old new all result holds stands none is own note =
    let q = quiet old new.ending all holds stands none in (
      option_to_list new.note,
      q.all_are ∙ ap (λ o. option_to_list o ++ option_to_list old.note) (sym is) ∙ ap (λ n. option_to_list result ++ option_to_list n) (sym note),
      record { rest = []; ending = q.ending; all_are = ap (λ o. option_to_list o ++ option_to_list new.note) (sym own) },
    )

pub note-line : (old new : ItemLines) (all : List (List ℕ)) (result : Option (List ℕ)) → Holds old all
    → ((t : Task) (given : List (List ℕ)) → StandsFor old.ending t given → StandsFor new.ending t (given ++ []))
    → ((t : Task) (given : List (List ℕ)) → StandsFor old.ending t given → task_lines t ≡ given)
    → old.own ≡ None → result ≡ old.note → new.own ≡ None → new.note ≡ None → Takes all (option_to_list result) new
note-line old new all result holds stands none empty is own note =
    let q = quiet old new.ending all holds stands none in (
      [],
      q.all_are ∙ ap (λ o. option_to_list o ++ option_to_list old.note) empty ∙ ap option_to_list (sym is) ∙ sym (append-nil (option_to_list result)),
      record {
        rest = [];
        ending = q.ending;
        all_are = ap (λ o. option_to_list o ++ []) (sym own) ∙ ap (λ n. option_to_list new.own ++ option_to_list n) (sym note);
      },
    )

pub nothing-left : (lines : ItemLines) (all : List (List ℕ)) → IsSpent lines.ending → lines.own ≡ None → lines.note ≡ None → Holds lines all → all ≡ []
nothing-left lines all spent own note holds =
    holds.all_are
    ∙ ap (λ ls. ls ++ option_to_list lines.own ++ option_to_list lines.note) (spent-gives-none lines.ending holds.rest spent holds.ending)
    ∙ ap (λ o. option_to_list o ++ option_to_list lines.note) own
    ∙ ap option_to_list note

pub no-line : (found : Option (List ℕ)) → ((line : List ℕ) → found ≡ Some line → ⊥) → found ≡ None
no-line None not = refl
no-line (Some line) not = absurd (not line refl)

pub not-there : (found : Option (List ℕ)) → Rattle.std.specs.Option.is_some found ≡ false → found ≡ None
not-there None is = refl
not-there (Some line) is = absurd cc

pub not-none : (found : Option (List ℕ)) → Rattle.std.specs.Option.is_some found ≡ true → found ≡ None → ⊥
not-none None is none = absurd cc
not-none (Some line) is none = absurd cc

-- ---- answers
pub none-found : (found : Option Opener) → ((o : Opener) → found ≡ Some o → ⊥) → found ≡ None
none-found None not = refl
none-found (Some o) not = absurd (not o refl)

pub not-due : (due : Option Page) → Rattle.std.specs.Option.is_some due ≡ false → due ≡ None
not-due None is = refl
not-due (Some page) is = absurd cc
