-- What an item does that neither opens nor ends a group, by the part that it comes to.
use Rattle.std.proofs.Common.{◌≡◌, ℕ, ◌+◌, Bool, true, false, ◌||◌, List, [], ◌∷◌, ◌++◌, length, drop, Option, Some, None, Ok, Err, refl, sym, ◌∙◌, ap, subst, append_assoc}
use Rattle.std.specs.Prelude.{if◌then◌else◌}
use Rattle.std.proofs.lemmas.List.{append-nil}
use Rattle.solo_base.specs.declared.item.Item.{Item}
use Rattle.solo_base.specs.declared.item.Item.TheVariants.{Line, Spoiled}
use Rattle.deck_format.specs.declared.control.Opener.{Opener}
use Rattle.deck_format.specs.declared.control.Opener.TheVariants as opener
use Rattle.deck_format.specs.declared.control.Control.{Control}
use Rattle.deck_format.specs.declared.control.Control.TheVariants as control
use Rattle.deck_format.specs.declared.job.CardFault.{CardFault}
use Rattle.deck_format.specs.declared.group.Group.{Group}
use Rattle.deck_format.specs.Control.{control_of}
use Rattle.deck_format.specs.Jobs.{cut, is_some, counts, card_count, data_in, before_end, after_end, spoiled_at, control_at}
use Rattle.deck_format.specs.JobReader.{control_in, added as added_to_group}
use Rattle.batch_program.specs.Laws.{IsPrefix}
use Rattle.code_law.specs.Compiling.{compiling}
use Rattle.program_lines.specs.Task.{Task, source_of, program_lines, task_lines, new_task, with_card, at_end}
use Rattle.program_lines.specs.Standing.{StandsFor}
use Rattle.program_lines.specs.declared.program_lines.ProgramLines.{ProgramLines}
use Rattle.program_lines.proofs.Going.{all-cards}
use Rattle.program_lines.proofs.Giving.{given-first}
use Rattle.disk_contents.specs.declared.loading.Loaded.{Loaded}
use Rattle.disk_contents.specs.declared.loading.Loaded.TheVariants.{NoFile}
use Rattle.batch_job.specs.Report.{fault_line, run_lines}
use Rattle.batch_job.specs.Loads.{begun}
use Rattle.batch_job.specs.LinesSoFar.{is_closed, runs_so_far, stretch_lines, group_lines}
use Rattle.batch_job.specs.LinesAhead.{Where, Outside, InList, InProgram, Dropped, name_of, limit_of, source_in, told_by, told_behind, task_in, behind, part_lines, is_there, lines_ahead, added_lines, added, card_or_fault}
use Rattle.batch_job.specs.Places.{program_group, IsInput, Holds, Adds}
use Rattle.batch_job.specs.declared.part.Part.TheVariants as part
use Rattle.batch_job.specs.declared.item_lines.ItemLines.{ItemLines}
use Rattle.batch_job.proofs.ProgramGroups.{fault-stays}
use Rattle.batch_job.proofs.Account.{gives-rest, drop-given}

-- ---- outside groups, in a list, and behind a fault
pub adds-outside : (count more : ℕ) (item : Item) (place : Where) (lines : ItemLines) → more ≡ (if counts item then card_count (count + 1) else count)
    → Holds lines [] → place ≡ Outside count → Adds place item lines (part.Stretch more)
adds-outside count more item place lines is holds same = rw same record {
  to = Outside more;
  part_is = refl;
  all = [];
  holds = holds;
  more = λ later loads ended. ap (λ n. lines_ahead (Outside n) later loads ended) (sym is);
}

pub adds-dropped : (item : Item) (place : Where) (lines : ItemLines) → Holds lines [] → place ≡ Dropped → Adds place item lines part.Dropped
adds-dropped item place lines holds same = rw same record { to = Dropped; part_is = refl; all = []; holds = holds; more = λ later loads ended. refl }

pub adds-listed : (name : List ℕ) (count next : ℕ) (item : Item) (card : List ℕ) (place : Where) (lines : ItemLines) → next ≡ card_count (count + 1)
    → card_or_fault false item (is_some (control_in item)) next ≡ Ok card
    → Holds lines (card ∷ []) → place ≡ InList name count → Adds place item lines (part.List name next)
adds-listed name count next item card place lines next_is is holds same = rw same record {
  to = InList name next;
  part_is = refl;
  all = card ∷ [];
  holds = holds;
  more = λ later loads ended.
      by item (is_some (control_in item)) (subst (λ n. card_or_fault false item (is_some (control_in item)) n ≡ Ok card) next_is is) later loads ended
      ∙ ap (λ n. (card ∷ []) ++ lines_ahead (InList name n) later loads ended) (sym next_is);
}
  where
    by : (item : Item) (t : Bool) → card_or_fault false item t (card_count (count + 1)) ≡ Ok card → (later : List Item) (loads : List Loaded) (ended : Bool)
        → added_lines (InList name count) item t ++ lines_ahead (added (InList name count) item t) later loads ended
        ≡ (card ∷ []) ++ lines_ahead (InList name (card_count (count + 1))) later loads ended
    by Spoiled t is later loads ended = absurd cc
    by (Line x) true is later loads ended = absurd cc
    by (Line x) false is later loads ended = let same : x ≡ card = cc in ap (λ c. (c ∷ []) ++ lines_ahead (InList name (card_count
        (count + 1))) later loads ended) same

pub adds-list-fault : (name : List ℕ) (count next : ℕ) (item : Item) (fault : CardFault) (place : Where) (lines : ItemLines)
    → next ≡ card_count (count + 1) → card_or_fault false item (is_some (control_in item)) next ≡ Err fault
    → Holds lines (fault_line name fault ∷ []) → place ≡ InList name count → Adds place item lines part.Dropped
adds-list-fault name count next item fault place lines next_is is holds same = rw same record {
  to = Dropped;
  part_is = refl;
  all = fault_line name fault ∷ [];
  holds = holds;
  more = by item (is_some (control_in item)) (subst (λ n. card_or_fault false item (is_some (control_in item)) n ≡ Err fault) next_is is);
}
  where
    by : (item : Item) (t : Bool) → card_or_fault false item t (card_count (count + 1)) ≡ Err fault → (later : List Item) (loads : List Loaded) (ended : Bool)
        → added_lines (InList name count) item t ++ lines_ahead (added (InList name count) item t) later loads ended
        ≡ (fault_line name fault ∷ []) ++ lines_ahead Dropped later loads ended
    by Spoiled t is later loads ended =
        let same : spoiled_at false (card_count (count + 1)) ≡ fault = cc in ap (λ f. (fault_line name f ∷ []) ++ lines_ahead Dropped later loads ended) same
    by (Line x) true is later loads ended =
        let same : control_at false (card_count (count + 1)) ≡ fault = cc in ap (λ f. (fault_line name f ∷ []) ++ lines_ahead Dropped later loads ended) same
    by (Line x) false is later loads ended = absurd cc

-- ---- the group of a program with a fault tells no more than its fault
fault-told : (load : Loaded) (group : Group) (fault : CardFault) → group.kept.fault ≡ Some fault → told_by load group false ≡ told_by load group true
fault-told load group fault is =
    let name = name_of group.opener in
    let limit = limit_of group.opener in
    let source = source_in load group.opener group.kept.cards in
    ap (λ f. runs_so_far name limit source group.in_input group.kept.input f) is
    ∙ ap (λ ls. if fault.in_input then ls ++ fault_line name fault ∷ [] else fault_line name fault ∷ []) (all-cards name limit source group.kept.input)
    ∙ ap (λ f. run_lines name limit source group.kept.input f) (sym is)

fault-part : (load : Loaded) (group : Group) (given : List (List ℕ)) (fault : CardFault) → group.kept.fault ≡ Some fault
    → (front : List Item) (closed : Bool)
    → part_lines (InProgram load group given) front closed ≡ told_behind given load group true ++ part_lines Dropped front closed
fault-part load group given fault is front true =
    ap (λ g. told_behind given load g true ++ stretch_lines (after_end front)) (fault-stays group (before_end front) fault is)
fault-part load group given fault is front false = by (is_closed front) ∙ sym (append-nil (told_behind given load group true))
  where
    by : (t : Bool) → (if t then told_behind given load (behind group (before_end front)) true else told_behind given load (behind group front) false)
        ≡ told_behind given load group true
    by true = ap (λ g. told_behind given load g true) (fault-stays group (before_end front) fault is)
    by false =
        ap (λ g. told_behind given load g false) (fault-stays group front fault is)
        ∙ ap (λ ls. drop (length given) ls) (fault-told load group fault is)

fault-ahead : (load : Loaded) (group : Group) (given : List (List ℕ)) (fault : CardFault) → group.kept.fault ≡ Some fault
    → (later : List Item) (loads : List Loaded) (ended : Bool)
    → lines_ahead (InProgram load group given) later loads ended ≡ told_behind given load group true ++ lines_ahead Dropped later loads ended
fault-ahead load group given fault is later loads ended =
    let deck = begun (cut later).groups loads ended in
    let closed = deck.ended || is_there deck.groups in
    ap (λ ls. ls ++ group_lines deck.groups deck.ended) (fault-part load group given fault is (cut later).front closed)
    ∙ append_assoc (told_behind given load group true) (part_lines Dropped (cut later).front closed) (group_lines deck.groups deck.ended)

-- ---- in a program before its input
module _ (name : List ℕ) (limit number : ℕ) (cards : List (List ℕ)) where
  abbrev here : Group
  here = program_group name limit number cards

  card-kept : (item : Item) (card : List ℕ) → card_or_fault false item (is_some (control_in item)) number ≡ Ok card
      → added_to_group here item (control_in item) ≡ program_group name limit (card_count (number + 1)) (cards ++ card ∷ [])
  card-kept Spoiled card is = absurd cc
  card-kept (Line x) card is = by (control_of x) is
    where
      by : (c : Option Control) → card_or_fault false (Line x) (is_some c) number ≡ Ok card
          → added_to_group here (Line x) c ≡ program_group name limit (card_count (number + 1)) (cards ++ card ∷ [])
      by None is = (let same : x ≡ card = cc in ap (λ c. program_group name limit (card_count (number + 1)) (cards ++ c ∷ [])) same)
      by (Some c) is = absurd cc

  pub adds-card : (item : Item) (card : List ℕ) (lines : ItemLines) (next : ℕ) (then_cards : List (List ℕ)) → next ≡ card_count (number + 1)
      → then_cards ≡ cards ++ card ∷ [] → card_or_fault false item (is_some (control_in item)) number ≡ Ok card → Holds lines []
      → Adds (InProgram NoFile here []) item lines (part.Program name limit next then_cards)
  adds-card item card lines next then_cards next_is cards_are is holds = rw (next_is, cards_are) record {
    to = InProgram NoFile (program_group name limit (card_count (number + 1)) (cards ++ card ∷ [])) [];
    part_is = refl;
    all = [];
    holds = holds;
    more = λ later loads ended. ap (λ g. lines_ahead (InProgram NoFile g []) later loads ended) (card-kept item card is);
  }

  -- `#DATA`
  abbrev begun_here : Group
  begun_here = record {
    opener = opener.Job name limit;
    kept = record { cards = cards; input = []; fault = None };
    in_input = true;
    number = card_count (number + 1);
  }

  data-kept : (item : Item) → data_in (control_in item) ≡ true → added_to_group here item (control_in item) ≡ begun_here
  data-kept Spoiled is = absurd cc
  data-kept (Line x) is = by (control_of x) is
    where
      by : (c : Option Control) → data_in c ≡ true → added_to_group here (Line x) c ≡ begun_here
      by None is = absurd cc
      by (Some control.Data) is = rw (append-nil cards) refl
      by (Some (control.Opens o)) is = absurd cc
      by (Some control.End) is = absurd cc
      by (Some control.Bad) is = absurd cc

  pub adds-data : (item : Item) (lines : ProgramLines) (none : ItemLines) (next : ℕ) → next ≡ card_count (number + 1) → data_in (control_in item) ≡ true
      → StandsFor lines (new_task name limit (source_of name (compiling cards))) [] → Holds none []
      → Adds (InProgram NoFile here []) item none (part.Input name next lines)
  adds-data item lines none next next_is is stands holds = rw next_is record {
    to = InProgram NoFile begun_here [];
    part_is = record {
      load = NoFile;
      group = begun_here;
      given = [];
      place_is = refl;
      name_is = refl;
      begun = refl;
      fine = refl;
      number_is = refl;
      stands = stands;
    };
    all = [];
    holds = holds;
    more = λ later loads ended. ap (λ g. lines_ahead (InProgram NoFile g []) later loads ended) (data-kept item is);
  }

  -- a fault
  fault-kept : (item : Item) (fault : CardFault) → card_or_fault false item (is_some (control_in item)) number ≡ Err fault → data_in (control_in item) ≡ false
      → ((added_to_group here item (control_in item)).kept.fault ≡ Some fault) × (fault.in_input ≡ false)
      × ((added_to_group here item (control_in item)).opener ≡ opener.Job name limit)
  fault-kept Spoiled fault is plain =
      let same : spoiled_at false number ≡ fault = cc in (ap Some same, ap (λ f. f.in_input) (sym same), refl)
  fault-kept (Line x) fault is plain = by (control_of x) is plain
    where
      by : (c : Option Control) → card_or_fault false (Line x) (is_some c) number ≡ Err fault → data_in c ≡ false
          → ((added_to_group here (Line x) c).kept.fault ≡ Some fault) × (fault.in_input ≡ false) × ((added_to_group here (Line x) c).opener
          ≡ opener.Job name limit)
      by None is plain = absurd cc
      by (Some c) is plain =
          let same : control_at false number ≡ fault = cc in rw plain (ap Some same, ap (λ f. f.in_input) (sym same), refl)

  pub adds-fault : (item : Item) (fault : CardFault) (lines : ItemLines) → card_or_fault false item (is_some (control_in item)) number ≡ Err fault
      → data_in (control_in item) ≡ false → Holds lines (fault_line name fault ∷ []) → Adds (InProgram NoFile here []) item lines part.Dropped
  adds-fault item fault lines is plain holds =
      let group = added_to_group here item (control_in item) in
      let (kept, own, opens) = fault-kept item fault is plain in
      let told : told_by NoFile group true ≡ fault_line name fault ∷ [] =
      ap (λ f. run_lines (name_of group.opener) (limit_of group.opener) (source_in NoFile group.opener group.kept.cards) group.kept.input f) kept
      ∙ ap (λ t. if t then program_lines (name_of group.opener) (limit_of group.opener) (source_in NoFile group.opener group.kept.cards) group.kept.input
      ++ fault_line (name_of group.opener) fault ∷ [] else fault_line (name_of group.opener) fault ∷ []) own
      ∙ ap (λ o. fault_line (name_of o) fault ∷ []) opens in
      record {
        to = Dropped;
        part_is = refl;
        all = fault_line name fault ∷ [];
        holds = holds;
        more = λ later loads ended. fault-ahead NoFile group [] fault kept later loads ended ∙ ap (λ ls. ls ++ lines_ahead Dropped later loads ended) told;
      }

-- ---- in the input of a program
module _ (load : Loaded) (o : Opener) (cards input : List (List ℕ)) (number : ℕ) where
  abbrev reading : Group
  reading = record { opener = o; kept = record { cards = cards; input = input; fault = None }; in_input = true; number = number }

  abbrev read_on : List ℕ → Group
  read_on card = record {
    opener = o;
    kept = record { cards = cards; input = input ++ card ∷ []; fault = None };
    in_input = true;
    number = card_count (number + 1);
  }

  read-card : (item : Item) (card : List ℕ) → card_or_fault true item (is_some (control_in item)) number ≡ Ok card
      → added_to_group reading item (control_in item) ≡ read_on card
  read-card Spoiled card is = absurd cc
  read-card (Line x) card is = by (control_of x) is
    where
      by : (c : Option Control) → card_or_fault true (Line x) (is_some c) number ≡ Ok card → added_to_group reading (Line x) c ≡ read_on card
      by None is = (let same : x ≡ card = cc in rw (append-nil cards) (ap read_on same))
      by (Some c) is = absurd cc

  pub input-card : (item : Item) (card given-name : List ℕ) (given : List (List ℕ)) (lines : ProgramLines) (none : ItemLines) (next : ℕ)
      → next ≡ card_count (number + 1) → name_of o ≡ given-name
      → card_or_fault true item (is_some (control_in item)) number ≡ Ok card → StandsFor lines (with_card (task_in load reading) card) given
      → Holds none [] → Adds (InProgram load reading given) item none (part.Input given-name next lines)
  input-card item card given-name given lines none next next_is name is stands holds = rw next_is record {
    to = InProgram load (read_on card) given;
    part_is = record {
      load = load;
      group = read_on card;
      given = given;
      place_is = refl;
      name_is = name;
      begun = refl;
      fine = refl;
      number_is = refl;
      stands = stands;
    };
    all = [];
    holds = holds;
    more = λ later loads ended. ap (λ g. lines_ahead (InProgram load g given) later loads ended) (read-card item card is);
  }

  abbrev with_fault : CardFault → Group
  with_fault fault = record {
    opener = o;
    kept = record { cards = cards; input = input; fault = Some fault };
    in_input = true;
    number = card_count (number + 1);
  }

  read-fault : (item : Item) (fault : CardFault) → card_or_fault true item (is_some (control_in item)) number ≡ Err fault
      → (added_to_group reading item (control_in item) ≡ with_fault fault) × (fault.in_input ≡ true)
  read-fault Spoiled fault is =
      let same : spoiled_at true number ≡ fault = cc in (rw (append-nil cards, append-nil input) (ap with_fault same), ap (λ f. f.in_input) (sym same))
  read-fault (Line x) fault is = by (control_of x) is
    where
      by : (c : Option Control) → card_or_fault true (Line x) (is_some c) number ≡ Err fault
          → (added_to_group reading (Line x) c ≡ with_fault fault) × (fault.in_input ≡ true)
      by None is = absurd cc
      by (Some c) is =
          let same : control_at true number ≡ fault = cc in (rw (append-nil cards, append-nil input) (ap with_fault same), ap (λ f. f.in_input) (sym same))

  -- what is left of the program's lines, and then its fault
  drop-more : (given all : List (List ℕ)) (line : List ℕ) → IsPrefix given all → drop (length given) (all ++ line ∷ []) ≡ drop (length given) all ++ line ∷ []
  drop-more given all line (rest, is) =
      ap (λ ls. drop (length given) (ls ++ line ∷ [])) is
      ∙ ap (λ ls. drop (length given) ls) (append_assoc given rest (line ∷ []))
      ∙ drop-given given (rest ++ line ∷ [])
      ∙ ap (λ ls. ls ++ line ∷ []) (sym (drop-given given rest) ∙ ap (λ ls. drop (length given) ls) (sym is))

  pub input-fault : (item : Item) (fault : CardFault) (given : List (List ℕ)) (lines : ProgramLines) (all : ItemLines)
      → card_or_fault true item (is_some (control_in item)) number ≡ Err fault → StandsFor lines (at_end (task_in load reading)) given
      → all ≡ record { ending = lines; own = None; note = Some (fault_line (name_of o) fault) }
      → Adds (InProgram load reading given) item all part.Dropped
  input-fault item fault given lines all is stands all_are =
      let (kept, inside) = read-fault item fault is in
      let t = at_end (task_in load reading) in
      let rest = drop (length given) (task_lines t) in
      let line = fault_line (name_of o) fault in
      let told : told_behind given load (with_fault fault) true ≡ rest ++ line ∷ [] =
      ap (λ t. drop (length given) (if t then program_lines (name_of o) (limit_of o) (source_in load o cards) input ++ line ∷ [] else line ∷ [])) inside
      ∙ ap (λ ls. drop (length given) (ls ++ line ∷ [])) (sym (all-cards (name_of o) (limit_of o) (source_in load o cards) input))
      ∙ drop-more given (task_lines t) line (given-first lines t given stands) in
      rw all_are record {
        to = Dropped;
        part_is = refl;
        all = rest ++ line ∷ [];
        holds = record { rest = rest; ending = gives-rest lines t given stands refl; all_are = ap (λ ls. ls ++ line ∷ []) (sym (append-nil rest)) };
        more = λ later loads ended.
            ap (λ g. lines_ahead (InProgram load g given) later loads ended) kept
            ∙ fault-ahead load (with_fault fault) given fault refl later loads ended
            ∙ ap (λ ls. ls ++ lines_ahead Dropped later loads ended) told;
      }

-- a group in whose input there is no fault
pub is-reading : (load : Loaded) (group : Group) → group.in_input ≡ true → group.kept.fault ≡ None
    → group ≡ reading load group.opener group.kept.cards group.kept.input group.number
is-reading load group begun fine =
    ap (λ f. record {
      opener = group.opener;
      kept = record { cards = group.kept.cards; input = group.kept.input; fault = f };
      in_input = group.in_input;
      number = group.number;
    }) fine
    ∙ ap (λ t. record {
      opener = group.opener;
      kept = record { cards = group.kept.cards; input = group.kept.input; fault = None };
      in_input = t;
      number = group.number;
    }) begun

-- a card of the input, and its fault
pub input-read : (name card : List ℕ) (number next : ℕ) (lines now : ProgramLines) (item : Item) (place : Where) (none : ItemLines)
    → next ≡ card_count (number + 1) → card_or_fault true item (is_some (control_in item)) number ≡ Ok card
    → ((t : Task) (given : List (List ℕ)) → StandsFor lines t given → t.closed ≡ false → StandsFor now (with_card t card) given)
    → Holds none [] → IsInput name number lines place → Adds place item none (part.Input name next now)
input-read name card number next lines now item place none next_is is feeds holds i =
    let g = i.group in
    let same = is-reading i.load g i.begun i.fine in
    let stands = subst (λ h. StandsFor now (with_card (task_in i.load h) card) i.given) same (feeds (task_in i.load g) i.given i.stands refl) in
    rw i.place_is (subst (λ h. Adds (InProgram i.load h i.given) item none (part.Input name next now)) (sym same)
    (input-card i.load g.opener g.kept.cards g.kept.input g.number item card name i.given now none next (next_is ∙ ap (λ n. card_count (n + 1))
    (sym i.number_is))
    i.name_is (subst (λ n. card_or_fault true item (is_some (control_in item)) n ≡ Ok card) (sym i.number_is) is) stands holds))

pub input-broken : (name : List ℕ) (number : ℕ) (lines now : ProgramLines) (item : Item) (place : Where) (fault : CardFault) (all : ItemLines)
    → card_or_fault true item (is_some (control_in item)) number ≡ Err fault
    → ((t : Task) (given : List (List ℕ)) → StandsFor lines t given → t.closed ≡ false → StandsFor now (at_end t) given)
    → all ≡ record { ending = now; own = None; note = Some (fault_line name fault) } → IsInput name number lines place → Adds place item all part.Dropped
input-broken name number lines now item place fault all is closes all_are i =
    let g = i.group in
    let same = is-reading i.load g i.begun i.fine in
    let stands = subst (λ h. StandsFor now (at_end (task_in i.load h)) i.given) same (closes (task_in i.load g) i.given i.stands refl) in
    rw i.place_is (subst (λ h. Adds (InProgram i.load h i.given) item all part.Dropped) (sym same)
    (input-fault i.load g.opener g.kept.cards g.kept.input g.number item fault i.given now all
    (subst (λ n. card_or_fault true item (is_some (control_in item)) n ≡ Err fault) (sym i.number_is) is) stands
    (all_are ∙ ap (λ n. record { ending = now; own = None; note = Some (fault_line n fault) }) (sym i.name_is))))
