-- The group of a program, item by item: its report, its lines so far, and how they go on.
use Rattle.std.proofs.Common.{◌≡◌, ℕ, Bool, true, false, ◌||◌, List, [], ◌∷◌, ◌++◌, Option, Some, None, refl, sym, ◌∙◌, ap, subst, append_assoc}
use Rattle.std.specs.Prelude.{if◌then◌else◌}
use Rattle.std.proofs.lemmas.List.{append-nil}
use Rattle.solo_base.specs.declared.item.Item.{Item}
use Rattle.solo_base.specs.declared.item.Item.TheVariants.{Line, Spoiled}
use Rattle.deck_format.specs.declared.control.Opener.{Opener}
use Rattle.deck_format.specs.declared.control.Opener.TheVariants as opener
use Rattle.deck_format.specs.declared.control.Control.{Control}
use Rattle.deck_format.specs.declared.job.Job.{Job}
use Rattle.deck_format.specs.declared.job.Job.TheVariants as job
use Rattle.deck_format.specs.declared.job.CardFault.{CardFault}
use Rattle.deck_format.specs.declared.group.Group.{Group}
use Rattle.deck_format.specs.Control.{control_of}
use Rattle.deck_format.specs.Jobs.{is_data, kept_of, job_with, job_of, spoiled_at, control_at}
use Rattle.deck_format.specs.JobReader.{control_in, group_on, input_behind, parts_at, opened as opened_group, added as added_to_group, added_by}
use Rattle.deck_format.proofs.Steps.{group_nothing, group_more}
use Rattle.code_law.specs.Compiling.{compiling}
use Rattle.disk_contents.specs.declared.loading.Loaded.{Loaded}
use Rattle.program_lines.specs.Task.{Source, source_of, source_lines, program_lines}
use Rattle.program_lines.proofs.Going.{more-cards, all-cards}
use Rattle.batch_job.specs.Report.{report, heading, fault_line, run_lines, file_limit, source_loaded}
use Rattle.solo_base.specs.Prefixes.{IsPrefixOf}
use Rattle.batch_job.specs.LinesSoFar.{has_data, runs_so_far, open_lines}
use Rattle.batch_job.specs.LinesAhead.{name_of, limit_of, is_list, source_in, told_by, behind}

-- ---- what an item leaves as it is
added-opener : (group : Group) (item : Item) (c : Option Control) → (added_to_group group item c).opener ≡ group.opener
added-opener group item c = by group.kept.fault
  where
    by : (fault : Option CardFault) → (added_by fault group item c).opener ≡ group.opener
    by None = refl
    by (Some fault) = refl

pub behind-opener : (group : Group) (items : List Item) → (behind group items).opener ≡ group.opener
behind-opener group [] = refl
behind-opener group (item ∷ items) = behind-opener (added_to_group group item (control_in item)) items ∙ added-opener group item (control_in item)

pub fault-stays : (group : Group) (items : List Item) (fault : CardFault) → group.kept.fault ≡ Some fault → behind group items ≡ group
fault-stays group [] fault is = refl
fault-stays group (item ∷ items) fault is =
    ap (λ f. behind (added_by f group item (control_in item)) items) is ∙ fault-stays group items fault is

-- ---- a report
behind-job : (group : Group) (items : List Item) → group_on group items ≡ job_with (behind group items).opener (behind group items).kept
behind-job group [] = group_nothing group
behind-job group (item ∷ items) = group_more group item items ∙ behind-job (added_to_group group item (control_in item)) items

opened-job : (o : Opener) (items : List Item) → is_list o ≡ false → job_of o items ≡ group_on (opened_group o) items
opened-job (opener.List name) items other = absurd cc
opened-job (opener.Job name limit) items other = refl
opened-job (opener.Run name file) items other = refl

told-report : (load : Loaded) (group : Group) → is_list group.opener ≡ false
    → report (λ file. load) (job_with group.opener group.kept) ≡ heading (name_of group.opener) ∷ told_by load group true
told-report load group other = by group.opener other
  where
    by : (o : Opener) → is_list o ≡ false → report (λ file. load) (job_with o group.kept)
        ≡ heading (name_of o) ∷ run_lines (name_of o) (limit_of o) (source_in load o group.kept.cards) group.kept.input group.kept.fault
    by (opener.List name) other = absurd cc
    by (opener.Job name limit) other = refl
    by (opener.Run name file) other = refl

pub report-behind : (load : Loaded) (o : Opener) (items : List Item) → is_list o ≡ false
    → report (λ file. load) (job_of o items) ≡ heading (name_of o) ∷ told_by load (behind (opened_group o) items) true
report-behind load o items other =
    let group = behind (opened_group o) items in
    let same = behind-opener (opened_group o) items in
    ap (report (λ file. load)) (opened-job o items other ∙ behind-job (opened_group o) items)
    ∙ told-report load group (ap is_list same ∙ other)
    ∙ ap (λ p. heading (name_of p) ∷ told_by load group true) same

-- ---- whether the input has begun
or-false : (a : Bool) → (a || false) ≡ a
or-false true = refl
or-false false = refl

or-assoc : (a b c : Bool) → ((a || b) || c) ≡ (a || (b || c))
or-assoc true b c = refl
or-assoc false b c = refl

added-begun : (name : List ℕ) (limit : ℕ) (group : Group) (item : Item) → group.opener ≡ opener.Job name limit → group.kept.fault ≡ None
    → (added_to_group group item (control_in item)).in_input ≡ (group.in_input || is_data item)
added-begun name limit group item of none =
    ap (λ f. (added_by f group item (control_in item)).in_input) none
    ∙ ap (λ o. input_behind o group.in_input item (control_in item)) of
    ∙ by item group.in_input
  where
    by : (item : Item) (begun : Bool) → input_behind (opener.Job name limit) begun item (control_in item) ≡ (begun || is_data item)
    by Spoiled begun = sym (or-false begun)
    by (Line card) true = refl
    by (Line card) false = refl

begun-behind : (name : List ℕ) (limit : ℕ) (group : Group) (items : List Item) → group.opener ≡ opener.Job name limit
    → (behind group items).kept.fault ≡ None → (behind group items).in_input ≡ (group.in_input || has_data items)
begun-behind name limit group [] of none = sym (or-false group.in_input)
begun-behind name limit group (item ∷ items) of none =
    let next = added_to_group group item (control_in item) in
    begun-behind name limit next items (added-opener group item (control_in item) ∙ of) none
    ∙ ap (λ t. t || has_data items) (added-begun name limit group item of (fine group.kept.fault refl))
    ∙ or-assoc group.in_input (is_data item) (has_data items)
  where
    fine : (fault : Option CardFault) → group.kept.fault ≡ fault → fault ≡ None
    fine None is = refl
    fine (Some fault) is =
        let same : (behind group (item ∷ items)).kept.fault ≡ group.kept.fault = ap (λ g. g.kept.fault) (fault-stays group (item ∷ items) fault is) in
        absurd (let both : Some fault ≡ None = sym is ∙ sym same ∙ none in cc)

input-stays : (group : Group) (items : List Item) → group.in_input ≡ true → (behind group items).in_input ≡ true
input-stays group [] is = is
input-stays group (item ∷ items) is = input-stays (added_to_group group item (control_in item)) items (by group.kept.fault item)
  where
    by : (fault : Option CardFault) (item : Item) → (added_by fault group item (control_in item)).in_input ≡ true
    by (Some fault) item = is
    by None Spoiled = is
    by None (Line card) = ap (λ t. t || parts_at group.opener t (control_of card)) is

runs-begun : (name : List ℕ) (limit : ℕ) (source : Source) (a b : Bool) (input : List (List ℕ)) (fault : Option CardFault) → (fault ≡ None → a ≡ b)
    → runs_so_far name limit source a input fault ≡ runs_so_far name limit source b input fault
runs-begun name limit source a b input None same = ap (λ t. runs_so_far name limit source t input None) (same refl)
runs-begun name limit source a b input (Some fault) same = refl

-- ---- the lines of a group that is open
abbrev cards_in : Job → List (List ℕ)
cards_in (job.List name cards fault) = cards
cards_in (job.Pascal name limit program input fault) = program
cards_in (job.Run name file input fault) = []
cards_in (job.Skipped count) = []

abbrev inputs_in : Job → List (List ℕ)
inputs_in (job.List name cards fault) = []
inputs_in (job.Pascal name limit program input fault) = input
inputs_in (job.Run name file input fault) = input
inputs_in (job.Skipped count) = []

abbrev fault_in : Job → Option CardFault
fault_in (job.List name cards fault) = fault
fault_in (job.Pascal name limit program input fault) = fault
fault_in (job.Run name file input fault) = fault
fault_in (job.Skipped count) = None

same-job : (o : Opener) (items : List Item) → is_list o ≡ false → job_of o items ≡ job_with o (behind (opened_group o) items).kept
same-job o items other =
    let group = behind (opened_group o) items in
    opened-job o items other ∙ behind-job (opened_group o) items ∙ ap (λ p. job_with p group.kept) (behind-opener (opened_group o) items)

pub open-behind : (load : Loaded) (o : Opener) (items : List Item) → is_list o ≡ false
    → open_lines load o items ≡ heading (name_of o) ∷ told_by load (behind (opened_group o) items) false
open-behind load (opener.List name) items other = absurd cc
open-behind load (opener.Job name limit) items other =
    let o = opener.Job name limit in
    let group = behind (opened_group o) items in
    let kept = kept_of o items in
    let same = same-job o items other in
    let runs : List (List ℕ) → Bool → List (List ℕ) → Option CardFault → List (List ℕ) =
    λ cards begun input fault. heading name ∷ runs_so_far name limit (source_of name (compiling cards)) begun input fault in
    ap (λ cards. runs cards (has_data items) kept.input kept.fault) (ap cards_in same)
    ∙ ap (λ input. runs group.kept.cards (has_data items) input kept.fault) (ap inputs_in same)
    ∙ ap (λ fault. runs group.kept.cards (has_data items) group.kept.input fault) (ap fault_in same)
    ∙ ap (λ ls. heading name ∷ ls) (runs-begun name limit (source_of name (compiling group.kept.cards)) (has_data items) group.in_input group.kept.input
    group.kept.fault (λ none. sym (begun-behind name limit (opened_group o) items refl none)))
    ∙ ap (λ p. heading name ∷ runs_so_far (name_of p) (limit_of p) (source_in load p group.kept.cards) group.in_input group.kept.input group.kept.fault)
    (sym (behind-opener (opened_group o) items))
open-behind load (opener.Run name file) items other =
    let o = opener.Run name file in
    let group = behind (opened_group o) items in
    let kept = kept_of o items in
    let same = same-job o items other in
    let runs : Bool → List (List ℕ) → Option CardFault → List (List ℕ) =
    λ begun input fault. heading name ∷ runs_so_far name file_limit (source_loaded name load) begun input fault in
    ap (λ input. runs true input kept.fault) (ap inputs_in same)
    ∙ ap (λ fault. runs true group.kept.input fault) (ap fault_in same)
    ∙ ap (λ t. runs t group.kept.input group.kept.fault) (sym (input-stays (opened_group o) items refl))
    ∙ ap (λ p. heading name ∷ runs_so_far (name_of p) (limit_of p) (source_in load p group.kept.cards) group.in_input group.kept.input group.kept.fault)
    (sym (behind-opener (opened_group o) items))

-- ---- how they go on
pub prefix-same : (a b : List (List ℕ)) → a ≡ b → IsPrefixOf a b
prefix-same a b is = ([], append-nil a ∙ is)

pub prefix-more : (a b c : List (List ℕ)) → IsPrefixOf a b → IsPrefixOf b c → IsPrefixOf a c
prefix-more a b c (rest, is) (more, then_is) = (rest ++ more, sym (append_assoc a rest more) ∙ ap (λ ls. ls ++ more) is ∙ then_is)

closed-with : (name : List ℕ) (limit : ℕ) (source : Source) (input : List (List ℕ))
    → IsPrefixOf (source_lines name limit source input false) (source_lines name limit source input true)
closed-with name limit source input =
    let (rest, is) = more-cards name limit source input [] true in
    (rest, sym is ∙ ap (λ i. source_lines name limit source i true) (append-nil input))

pub told-closed : (load : Loaded) (group : Group) → IsPrefixOf (told_by load group false) (told_by load group true)
told-closed load group =
    by (name_of group.opener) (limit_of group.opener) (source_in load group.opener group.kept.cards) group.kept.input group.in_input group.kept.fault
  where
    by : (name : List ℕ) (limit : ℕ) (source : Source) (input : List (List ℕ)) (begun : Bool) (fault : Option CardFault)
        → IsPrefixOf (runs_so_far name limit source begun input fault) (run_lines name limit source input fault)
    by name limit source input false None = (program_lines name limit source input, refl)
    by name limit source input true None =
        prefix-more _ _ _ (closed-with name limit source input) (prefix-same _ _ (all-cards name limit source input))
    by name limit source input begun (Some fault) =
        prefix-same _ _ (ap (λ ls. if fault.in_input then ls ++ fault_line name fault ∷ [] else fault_line name fault ∷ []) (all-cards name limit source input))

module _ (load : Loaded) (o : Opener) (cards input : List (List ℕ)) (number : ℕ) where
  abbrev begun_group : Group
  begun_group = record { opener = o; kept = record { cards = cards; input = input; fault = None }; in_input = true; number = number }

  behind-fault : (fault : CardFault) → fault.in_input ≡ true
      → IsPrefixOf (told_by load begun_group false) (runs_so_far (name_of o) (limit_of o) (source_in load o (cards ++ [])) true (input ++ []) (Some fault))
  behind-fault fault is =
      let (rest, e) = closed-with (name_of o) (limit_of o) (source_in load o cards) input in
      let whole = source_lines (name_of o) (limit_of o) (source_in load o cards) input true in
      rw (append-nil cards, append-nil input, is) (
        rest ++ fault_line (name_of o) fault ∷ [],
        sym (append_assoc (told_by load begun_group false) rest (fault_line (name_of o) fault ∷ [])) ∙ ap (λ ls. ls ++ fault_line (name_of o) fault ∷ []) e,
      )

  begun-added : (item : Item) (c : Option Control) → IsPrefixOf (told_by load begun_group false) (told_by load (added_to_group begun_group item c) false)
  begun-added Spoiled c = behind-fault (spoiled_at true number) refl
  begun-added (Line card) None =
      let (rest, is) = more-cards (name_of o) (limit_of o) (source_in load o cards) input (card ∷ []) false in
      rw (append-nil cards) (rest, sym is)
  begun-added (Line card) (Some c) = behind-fault (control_at true number) refl

told-added : (load : Loaded) (group : Group) (item : Item)
    → IsPrefixOf (told_by load group false) (told_by load (added_to_group group item (control_in item)) false)
told-added load group item = by group.kept.fault refl group.in_input refl
  where
    by : (fault : Option CardFault) → group.kept.fault ≡ fault → (begun : Bool) → group.in_input ≡ begun
        → IsPrefixOf (told_by load group false) (told_by load (added_to_group group item (control_in item)) false)
    by (Some fault) is begun whether =
        prefix-same _ _ (ap (λ g. told_by load g false) (sym (ap (λ f. added_by f group item (control_in item)) is)))
    by None is false whether =
        let none : told_by load group false ≡ [] =
        ap (λ f. runs_so_far (name_of group.opener) (limit_of group.opener) (source_in load group.opener group.kept.cards) group.in_input group.kept.input f) is
        ∙ ap (λ t. runs_so_far (name_of group.opener) (limit_of group.opener) (source_in load group.opener group.kept.cards) t group.kept.input None) whether in
        rw none (_, refl)
    by None is true whether =
        let same : group ≡ begun_group load group.opener group.kept.cards group.kept.input group.number =
        ap (λ f. record {
          opener = group.opener;
          kept = record { cards = group.kept.cards; input = group.kept.input; fault = f };
          in_input = group.in_input;
          number = group.number;
        }) is
        ∙ ap (λ t. record {
          opener = group.opener;
          kept = record { cards = group.kept.cards; input = group.kept.input; fault = None };
          in_input = t;
          number = group.number;
        }) whether in
        subst (λ g. IsPrefixOf (told_by load g false) (told_by load (added_to_group g item (control_in item)) false)) (sym same)
        (begun-added load group.opener group.kept.cards group.kept.input group.number item (control_in item))

-- Whatever items follow, the lines of a group so far are the first of those that come then.
pub told-on : (load : Loaded) (group : Group) (items : List Item) (closed : Bool)
    → IsPrefixOf (told_by load group false) (told_by load (behind group items) closed)
told-on load group [] false = prefix-same _ _ refl
told-on load group [] true = told-closed load group
told-on load group (item ∷ items) closed =
    prefix-more _ _ _ (told-added load group item) (told-on load (added_to_group group item (control_in item)) items closed)
