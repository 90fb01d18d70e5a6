-- What an item adds to the jobs that are still to come.
use Rattle.std.proofs.Common.{◌≡◌, ℕ, ◌+◌, List, [], ◌∷◌, ◌++◌, length, refl, ap, ◌∙◌, sym, arith, Bool, true, false, Option, Some, None, append_assoc}
use native.Mathlib.Numerals.{unary_clauses}
use Rattle.std.specs.Prelude.{flat_map, count_by, cond, if◌then◌else◌}
use Rattle.std.proofs.lemmas.List.{append-nil}
use Rattle.std.proofs.lemmas.List.Sums.{sum_by-cons}
use Rattle.solo_base.specs.declared.item.Item.{Item}
use Rattle.solo_base.specs.declared.item.Item.TheVariants.{Line, Spoiled}
use Rattle.deck_format.specs.declared.control.Opener.{Opener}
use Rattle.deck_format.specs.declared.control.Opener.TheVariants as opener
use Rattle.deck_format.specs.declared.control.Control.{Control}
use Rattle.deck_format.specs.declared.control.Control.TheVariants as control
use Rattle.deck_format.specs.declared.job.Job.{Job}
use Rattle.deck_format.specs.declared.job.Job.TheVariants as job
use Rattle.deck_format.specs.declared.job.CardFault.{CardFault}
use Rattle.deck_format.specs.declared.group.Group.{Group}
use Rattle.deck_format.specs.declared.group.Kept.{Kept}
use Rattle.deck_format.specs.declared.place.Place.{Place}
use Rattle.deck_format.specs.declared.place.Place.TheVariants.{Outside, InGroup}
use Rattle.deck_format.specs.Control.{control_of}
use Rattle.deck_format.specs.Jobs.{Groups, cut, before_groups, before_end, after_end, opener_of, opener_in, is_end, ends_in, data_in, is_data, before_data, behind_data, card_count, counts, is_some, skipped, stretch, listing, input, program, followed_by, unless, first_of, job_with, group_jobs, jobs}
use Rattle.deck_format.specs.JobReader.{StandsFor, in_hand, jobs_from, closed, opened, behind, is_in_group, control_in, kept_from, group_on, nothing_kept, item_kept, parts_at, input_behind, added, added_by}

-- ---- what is kept, one behind the other
followed-nothing : (kept : Kept) → followed_by kept nothing_kept ≡ kept
followed-nothing kept = by_fault kept.cards kept.input kept.fault
  where
    by_fault : (cards more : List (List ℕ)) (fault : Option CardFault) →
        followed_by (record { cards = cards; input = more; fault = fault }) nothing_kept ≡ record { cards = cards; input = more; fault = fault }
    by_fault cards more None = rw (append-nil cards, append-nil more) refl
    by_fault cards more (Some fault) = rw (append-nil cards, append-nil more) refl

followed-assoc : (first next last : Kept) → followed_by (followed_by first next) last ≡ followed_by first (followed_by next last)
followed-assoc first next last = by_fault first.cards first.input first.fault
  where
    by_fault : (cards more : List (List ℕ)) (fault : Option CardFault) →
        followed_by (followed_by (record { cards = cards; input = more; fault = fault }) next) last
        ≡ followed_by (record { cards = cards; input = more; fault = fault }) (followed_by next last)
    by_fault cards more None =
        rw (append_assoc cards next.cards (unless next.fault last.cards), append_assoc more next.input (unless next.fault last.input)) refl
    by_fault cards more (Some fault) = rw (append-nil cards, append-nil more, append-nil cards, append-nil more) refl

-- behind a fault it doesn't matter what comes
followed-fault : (first next last : Kept) (fault : CardFault) → first.fault ≡ Some fault → followed_by first next ≡ followed_by first last
followed-fault first next last fault is = rw is refl

-- where nothing more comes to the job in hand
nothing_from : (o : Opener) (in_input : Bool) (number : ℕ) → kept_from o in_input number [] ≡ nothing_kept
nothing_from o true number = refl
nothing_from (opener.List name) false number = refl
nothing_from (opener.Job name limit) false number = refl
nothing_from (opener.Run name file) false number = refl

pub group_nothing : (group : Group) → group_on group [] ≡ job_with group.opener group.kept
group_nothing group =
    ap (λ kept. job_with group.opener (followed_by group.kept kept)) (nothing_from group.opener group.in_input group.number)
    ∙ ap (λ kept. job_with group.opener kept) (followed-nothing group.kept)

pub in_hand-nothing : (place : Place) → in_hand place [] ≡ closed place
in_hand-nothing (Outside count) = let same : count + 0 ≡ count = omega arith in ap (λ n. skipped (card_count n)) same
in_hand-nothing (InGroup group) = ap (λ one. one ∷ []) (group_nothing group)

-- the group of an opener is in hand where the opener leads
opened_group : (o : Opener) (items : List Item) → in_hand (InGroup (opened o)) items ≡ group_jobs (o, items)
opened_group (opener.List name) items = refl
opened_group (opener.Job name limit) items = refl
opened_group (opener.Run name file) items = refl

-- the jobs of a deck that is cut
abbrev from_cut : Place → Groups → List Job
from_cut place deck = in_hand place deck.front ++ flat_map group_jobs deck.groups

opener-control : (item : Item) → opener_of item ≡ opener_in (control_in item)
opener-control (Line card) = refl
opener-control Spoiled = refl

end-control : (item : Item) → is_end item ≡ ends_in (control_in item)
end-control (Line card) = refl
end-control Spoiled = refl

pub open_more : (place : Place) (item : Item) (o : Opener) (more : List Item) → opener_in (control_in item) ≡ Some o →
    jobs_from place (item ∷ more) ≡ closed place ++ jobs_from (InGroup (opened o)) more
open_more place item o more opens =
    ap (λ found. from_cut place (before_groups item found (cut more))) (opener-control item ∙ opens)
    ∙ ap (λ hand. hand ++ (group_jobs (o, (cut more).front) ++ flat_map group_jobs (cut more).groups)) (in_hand-nothing place)
    ∙ ap (λ group. closed place ++ (group ++ flat_map group_jobs (cut more).groups)) (sym (opened_group o (cut more).front))

-- an item that opens no group comes to the job in hand
plain_more : (place : Place) (item : Item) (more : List Item) → opener_in (control_in item) ≡ None →
    jobs_from place (item ∷ more) ≡ in_hand place (item ∷ (cut more).front) ++ flat_map group_jobs (cut more).groups
plain_more place item more plain = ap (λ found. from_cut place (before_groups item found (cut more))) (opener-control item ∙ plain)

ended : (place : Place) (item : Item) (front : List Item) → is_in_group place ≡ true → is_end item ≡ true → in_hand place (item ∷ front) ≡ closed place ++ in_hand (Outside 0) front
ended (Outside count) item front group end = cc
ended (InGroup group) item front inside end =
    let none : 0 + count_by counts front ≡ count_by counts front = omega arith in
    let nothing : group_on group [] ∷ stretch front ≡ closed (InGroup group) ++ stretch front =
    ap (λ hand. hand ++ stretch front) (in_hand-nothing (InGroup group)) in
    rw (end, none) nothing

pub end_more : (place : Place) (item : Item) (more : List Item) → is_in_group place ≡ true → opener_in (control_in item) ≡ None → ends_in (control_in item) ≡ true →
    jobs_from place (item ∷ more) ≡ closed place ++ jobs_from (Outside 0) more
end_more place item more group plain end =
    plain_more place item more plain
    ∙ ap (λ hand. hand ++ flat_map group_jobs (cut more).groups) (ended place item (cut more).front group (end-control item ∙ end))
    ∙ append_assoc (closed place) (in_hand (Outside 0) (cut more).front) (flat_map group_jobs (cut more).groups)

outside : (b : Bool) (count others : ℕ) → card_count (count + (cond b 1 0 + others)) ≡ card_count ((if b then card_count (count + 1) else count) + others)
outside true count others = omega arith
outside false count others = omega arith

-- ---- one item more of a group
listing_more : (o : Opener) (number : ℕ) (item : Item) (rest : List Item) → parts_at o false (control_in item) ≡ false →
    listing number (item ∷ rest) ≡ followed_by (item_kept o false number item (control_in item)) (listing (card_count (number + 1)) rest)
listing_more o number Spoiled rest plain = refl
listing_more o number (Line card) rest plain = by_control (control_of card) refl
  where
    by_control : (c : Option Control) → control_of card ≡ c →
        listing number (Line card ∷ rest) ≡ followed_by (item_kept o false number (Line card) (control_of card)) (listing (card_count (number + 1)) rest)
    by_control None is = rw is refl
    by_control (Some c) is = let no : parts_at o false (Some c) ≡ false = ap (λ x. parts_at o false x) (sym is) ∙ plain in rw (is, no) refl

input_more : (o : Opener) (number : ℕ) (item : Item) (rest : List Item) →
    input number (item ∷ rest) ≡ followed_by (item_kept o true number item (control_in item)) (input (card_count (number + 1)) rest)
input_more o number Spoiled rest = refl
input_more o number (Line card) rest = by_control (control_of card) refl
  where
    by_control : (c : Option Control) → control_of card ≡ c →
        input number (Line card ∷ rest) ≡ followed_by (item_kept o true number (Line card) (control_of card)) (input (card_count (number + 1)) rest)
    by_control None is = rw is refl
    by_control (Some c) is = rw is refl

counted_on : (number : ℕ) (item : Item) (items : List Item) →
    card_count (number + length (item ∷ items) + 1) ≡ card_count (card_count (number + 1) + length items + 1)
counted_on number item items =
    let more : length (item ∷ items) ≡ length items + 1 = simp unary_clauses refl in
    rw more (one_more number (length items))
  where
    one_more : (number count : ℕ) → card_count (number + (count + 1) + 1) ≡ card_count (card_count (number + 1) + count + 1)
    one_more number count = omega arith

-- an item of a program, or `#DATA`
data_is : (c : Option Control) → data_in c ≡ true → c ≡ Some control.Data
data_is None is = cc
data_is (Some control.Data) is = refl
data_is (Some (control.Opens o)) is = cc
data_is (Some control.End) is = cc
data_is (Some control.Bad) is = cc

module _ (name : List ℕ) (limit : ℕ) where
  abbrev of_program : Opener
  of_program = opener.Job name limit

  behind_is : (item : Item) → input_behind of_program false item (control_in item) ≡ is_data item
  behind_is (Line card) = refl
  behind_is Spoiled = refl

  parts_is : (item : Item) → parts_at of_program false (control_in item) ≡ is_data item
  parts_is (Line card) = refl
  parts_is Spoiled = refl

  plain_of_program : (number : ℕ) (item : Item) (rest : List Item) → is_data item ≡ false →
      program number (item ∷ rest) ≡ followed_by (item_kept of_program false number item (control_in item)) (program (card_count (number + 1)) rest)
  plain_of_program number item rest plain =
      let kept : Kept = item_kept of_program false number item (control_in item) in
      let inputs : Kept = input (card_count (card_count (number + 1) + length (before_data rest) + 1)) (behind_data rest) in
      rw plain
      (ap (λ n. followed_by (listing number (item ∷ before_data rest)) (input n (behind_data rest))) (counted_on number item (before_data rest))
      ∙ ap (λ k. followed_by k inputs) (listing_more of_program number item (before_data rest) (parts_is item ∙ plain))
      ∙ followed-assoc kept (listing (card_count (number + 1)) (before_data rest)) inputs)

  data_of_program : (number : ℕ) (item : Item) (rest : List Item) → is_data item ≡ true →
      program number (item ∷ rest) ≡ followed_by (item_kept of_program false number item (control_in item)) (input (card_count (number + 1)) rest)
  data_of_program number Spoiled rest is = cc
  data_of_program number (Line card) rest is =
      let next : number + 0 + 1 ≡ number + 1 = omega arith in
      rw (data_is (control_of card) is, next) refl

  program_more : (number : ℕ) (item : Item) (rest : List Item) → (b : Bool) → is_data item ≡ b →
      program number (item ∷ rest) ≡ followed_by (item_kept of_program false number item (control_in item))
      (kept_from of_program (input_behind of_program false item (control_in item)) (card_count (number + 1)) rest)
  program_more number item rest true is = rw (behind_is item ∙ is) (data_of_program number item rest is)
  program_more number item rest false plain = rw (behind_is item ∙ plain) (plain_of_program number item rest plain)

from_more : (o : Opener) (in_input : Bool) (number : ℕ) (item : Item) (rest : List Item) →
    kept_from o in_input number (item ∷ rest) ≡ followed_by (item_kept o in_input number item (control_in item))
    (kept_from o (input_behind o in_input item (control_in item)) (card_count (number + 1)) rest)
from_more o true number Spoiled rest = refl
from_more o true number (Line card) rest = input_more o number (Line card) rest
from_more (opener.List name) false number Spoiled rest = refl
from_more (opener.List name) false number (Line card) rest = listing_more (opener.List name) number (Line card) rest refl
from_more (opener.Job name limit) false number item rest = program_more name limit number item rest (is_data item) refl
from_more (opener.Run name file) false number Spoiled rest = refl
from_more (opener.Run name file) false number (Line card) rest = listing_more (opener.Run name file) number (Line card) rest refl

-- a group with one more item goes on as before
pub group_more : (group : Group) (item : Item) (items : List Item) → group_on group (item ∷ items) ≡ group_on (added group item (control_in item)) items
group_more group item items = by_fault group.kept.fault refl
  where
    by_fault : (fault : Option CardFault) → group.kept.fault ≡ fault → group_on group (item ∷ items) ≡ group_on (added_by group.kept.fault group item (control_in item)) items
    by_fault (Some fault) is =
        ap (job_with group.opener) (followed-fault group.kept (kept_from group.opener group.in_input group.number (item ∷ items)) (kept_from group.opener group.in_input group.number items) fault is)
        ∙ ap (λ f. group_on (added_by f group item (control_in item)) items) (sym is)
    by_fault None is =
        ap (λ kept. job_with group.opener (followed_by group.kept kept)) (from_more group.opener group.in_input group.number item items)
        ∙ ap (job_with group.opener) (sym (followed-assoc group.kept (item_kept group.opener group.in_input group.number item (control_in item))
        (kept_from group.opener (input_behind group.opener group.in_input item (control_in item)) (card_count (group.number + 1)) items)))
        ∙ ap (λ f. group_on (added_by f group item (control_in item)) items) (sym is)

comes : (place : Place) (item : Item) (front : List Item) → (is_in_group place ≡ true → is_end item ≡ false) →
    in_hand place (item ∷ front) ≡ in_hand (behind place item (control_in item)) front
comes (Outside count) item front goes_on =
    ap (λ n. skipped (card_count (count + n))) (sum_by-cons (λ x. cond (counts x) 1 0) item front) ∙ ap skipped (outside (counts item) count (count_by counts front))
comes (InGroup group) item front goes_on = rw (goes_on refl) (ap (λ one. one ∷ stretch (after_end front)) (group_more group item (before_end front)))

pub behind_more : (place : Place) (item : Item) (c : Option Control) (more : List Item) → c ≡ control_in item → opener_in (control_in item) ≡ None →
    (is_in_group place ≡ true → ends_in (control_in item) ≡ false) → jobs_from place (item ∷ more) ≡ jobs_from (behind place item c) more
behind_more place item c more is plain goes_on =
    plain_more place item more plain
    ∙ ap (λ hand. hand ++ flat_map group_jobs (cut more).groups) (comes place item (cut more).front (λ group. end-control item ∙ goes_on group))
    ∙ ap (λ card. jobs_from (behind place item card) more) (sym is)

-- a reader that stands for some items has given the jobs of them, but for those in hand
pub finish_stands : (place : Place) (items : List Item) (so_far last : List Job) → last ≡ jobs_from place [] → StandsFor place items so_far → jobs items ≡ so_far ++ last
finish_stands place items so_far last is stands = ap jobs (sym (append-nil items)) ∙ stands.jobs_are [] ∙ ap (λ more. so_far ++ more) (sym is)

pub last_jobs : (place : Place) → jobs_from place [] ≡ closed place
last_jobs place = append-nil (in_hand place []) ∙ in_hand-nothing place
