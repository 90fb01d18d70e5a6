-- The jobs of the units are the jobs of the items; each unit has an item and a job.
use Rattle.std.proofs.Common.{◌≡◌, inl, inr, ℕ, suc, length, ◌+◌, ◌≤◌, Bool, true, false, not, ◌||◌, if◌then◌else◌, cond, List, [], ◌∷◌, ◌++◌, Option, None, Some, refl, sym, ◌∙◌, ap, subst, arith}
use Rattle.std.specs.Prelude.{count_by, flat_map}
use Rattle.std.specs.List.{AllByRecursion}
use Rattle.std.proofs.lemmas.List.{append-nil}
use Rattle.std.proofs.lemmas.List.Sums.{sum_by-cons}
use Rattle.std.proofs.lemmas.Grind.{flat_map-append}
use Rattle.solo_base.specs.declared.item.Item.{Item}
use Rattle.solo_base.specs.declared.item.Item.TheVariants.{Line, Spoiled}
use Rattle.deck_format.specs.declared.control.Opener.{Opener}
use Rattle.deck_format.specs.declared.job.Job.{Job}
use Rattle.deck_format.specs.declared.job.Job.TheVariants as job
use Rattle.std.proofs.lemmas.Bool.Decides.{eqb_tells}
use Rattle.deck_format.specs.Jobs.{opener_of, is_end, counts, Groups, before_groups, cut, before_end, after_end, card_count, skipped, stretch, job_of, group_jobs, jobs}
use Rattle.deck_units.specs.Units.{opens, is_inside, is_dropped, unless_dropped, kept, Cut, before_cut, cut_before_openers, first_unit, units_of, units}
use Rattle.deck_units.specs.Laws.{IsUnit, AreUnits}

-- ---- cut before its openers: the fronts are the same, and so are the jobs behind them
opens-none : (item : Item) (o : Option Opener) → opener_of item ≡ o → o ≡ None → opens item ≡ false
opens-none item o e none = rw (e ∙ none) refl

opens-some : (item : Item) (o : Opener) → opener_of item ≡ Some o → opens item ≡ true
opens-some item o e = rw e refl

-- a front has no opener
abbrev IsPlain : List Item → Type 0
IsPlain items = cut (cut_before_openers items).front ≡ record { front = (cut_before_openers items).front; groups = [] }

plain-by : (item : Item) (rest : List Item) (o : Option Opener) → opener_of item ≡ o → IsPlain rest → IsPlain (item ∷ rest)
plain-by item rest None e plain =
    rw (opens-none item None e refl) (ap (λ o. before_groups item o (cut (cut_before_openers rest).front)) e ∙ ap (before_groups item None) plain)
plain-by item rest (Some o) e plain = rw (opens-some item o e) refl

front-plain : (items : List Item) → IsPlain items
front-plain [] = refl
front-plain (item ∷ rest) = plain-by item rest (opener_of item) refl (front-plain rest)

pub record SameCut (items : List Item) : Type 0 where
  pub front : (cut_before_openers items).front ≡ (cut items).front
  pub groups : flat_map jobs (cut_before_openers items).groups ≡ flat_map group_jobs (cut items).groups

-- an opener and what follows it
opened-jobs : (item : Item) (o : Opener) (items : List Item) → opener_of item ≡ Some o
    → jobs (item ∷ (cut_before_openers items).front) ≡ group_jobs (o, (cut_before_openers items).front)
opened-jobs item o items e =
    let front = (cut_before_openers items).front in
    let whole : cut (item ∷ front) ≡ record { front = []; groups = (o, front) ∷ [] } =
    ap (λ o. before_groups item o (cut front)) e ∙ ap (before_groups item (Some o)) (front-plain items) in
    ap (λ (c : Groups). stretch c.front ++ flat_map group_jobs c.groups) whole ∙ append-nil (group_jobs (o, front))

same-by : (item : Item) (rest : List Item) (o : Option Opener) → opener_of item ≡ o → SameCut rest → SameCut (item ∷ rest)
same-by item rest None e is = record {
  front = rw (opens-none item None e refl) (rw e (ap (λ front. item ∷ front) is.front));
  groups = rw (opens-none item None e refl) (rw e is.groups);
}
same-by item rest (Some o) e is =
    let c = cut_before_openers rest in
    record {
      front = ap (λ t. (before_cut t item c).front) (opens-some item o e) ∙ sym (ap (λ o. (before_groups item o (cut rest)).front) e);
      groups = ap (λ t. flat_map jobs (before_cut t item c).groups) (opens-some item o e)
          ∙ ap (λ some. some ++ flat_map jobs c.groups) (opened-jobs item o rest e)
          ∙ ap (λ more. group_jobs (o, c.front) ++ more) is.groups
          ∙ ap (λ front. group_jobs (o, front) ++ flat_map group_jobs (cut rest).groups) is.front
          ∙ sym (ap (λ o. flat_map group_jobs (before_groups item o (cut rest)).groups) e);
    }

pub same-cut : (items : List Item) → SameCut items
same-cut [] = record { front = refl; groups = refl }
same-cut (item ∷ rest) = same-by item rest (opener_of item) refl (same-cut rest)

first-jobs : (items front : List Item) → (cut_before_openers items).front ≡ front → flat_map jobs (first_unit front) ≡ stretch front
first-jobs items [] e = refl
first-jobs items (item ∷ front) e =
    let plain : cut (item ∷ front) ≡ record { front = item ∷ front; groups = [] } =
    subst (λ front. cut front ≡ record { front = front; groups = [] }) e (front-plain items) in
    append-nil (jobs (item ∷ front))
    ∙ ap (λ (c : Groups). stretch c.front ++ flat_map group_jobs c.groups) plain ∙ append-nil (stretch (item ∷ front))

cut-jobs : (items : List Item) → flat_map jobs (units_of (cut_before_openers items)) ≡ jobs items
cut-jobs items =
    let is = same-cut items in
    let front = (cut_before_openers items).front in
    flat_map-append jobs (first_unit front) (cut_before_openers items).groups
    ∙ ap (λ some. some ++ flat_map jobs (cut_before_openers items).groups) (first-jobs items front refl)
    ∙ ap (λ more. stretch front ++ more) is.groups
    ∙ ap (λ front. stretch front ++ flat_map group_jobs (cut items).groups) is.front

-- ---- a blank card outside groups is in no job
abbrev FrontSame : Bool → List Item → List Item → Type 0
FrontSame false a b = count_by counts a ≡ count_by counts b
FrontSame true a b = (before_end a ≡ before_end b) × (count_by counts (after_end a) ≡ count_by counts (after_end b))

record SameJobs (inside : Bool) (some items : List Item) : Type 0 where
  front : FrontSame inside (cut some).front (cut items).front
  groups : flat_map group_jobs (cut some).groups ≡ flat_map group_jobs (cut items).groups

count-cons : (item : Item) (rest : List Item) → count_by counts (item ∷ rest) ≡ cond (counts item) 1 0 + count_by counts rest
count-cons item rest = sum_by-cons (λ x. cond (counts x) 1 0) item rest

front-nothing : (inside : Bool) → FrontSame inside [] []
front-nothing false = refl
front-nothing true = (refl, refl)

-- an opener counts
opener-counts : (item : Item) (o : Opener) → opener_of item ≡ Some o → counts item ≡ true
opener-counts (Line []) o e = absurd cc
opener-counts (Line (code ∷ rest)) o e = refl
opener-counts Spoiled o e = absurd cc

same-group : (o : Opener) (a b : List Item) → FrontSame true a b → group_jobs (o, a) ≡ group_jobs (o, b)
same-group o a b is =
    ap (λ items. job_of o items ∷ stretch (after_end a)) is.0 ∙ ap (λ n. job_of o (before_end b) ∷ skipped (card_count n)) is.1

-- an item that stays, in a group and outside
end-front : (now ends : Bool) (item : Item) (a b : List Item) → is_end item ≡ ends → now ≡ not ends → FrontSame now a b → FrontSame true (item ∷ a) (item ∷ b)
end-front now true item a b e is same =
    let out : FrontSame false a b = subst (λ t. FrontSame t a b) is same in
    rw e (refl, out)
end-front now false item a b e is same =
    let here : FrontSame true a b = subst (λ t. FrontSame t a b) is same in
    rw e (ap (λ items. item ∷ items) here.0, here.1)

module _ (item : Item) (rest : List Item) where
  stays : (inside : Bool) → is_dropped inside item ≡ false → kept inside (item ∷ rest) ≡ item ∷ kept (is_inside inside item) rest
  stays inside e = ap (λ t. unless_dropped t item (kept (is_inside inside item) rest)) e

  goes : (inside : Bool) → is_dropped inside item ≡ true → kept inside (item ∷ rest) ≡ kept (is_inside inside item) rest
  goes inside e = ap (λ t. unless_dropped t item (kept (is_inside inside item) rest)) e

  -- behind an opener
  opened : (o : Opener) (inside : Bool) → opener_of item ≡ Some o → SameJobs true (kept true rest) rest → is_dropped inside item ≡ false
      → SameJobs inside (kept inside (item ∷ rest)) (item ∷ rest)
  opened o inside e is not_dropped =
      let now : is_inside inside item ≡ true = rw (opens-some item o e) refl in
      let all : kept inside (item ∷ rest) ≡ item ∷ kept true rest = stays inside not_dropped ∙ ap (λ t. item ∷ kept t rest) now in
      subst (λ some. SameJobs inside some (item ∷ rest)) (sym all) record {
        front = rw e (front-nothing inside);
        groups = rw e (ap (λ some. some ++ flat_map group_jobs (cut (kept true rest)).groups) (same-group o (cut (kept true rest)).front (cut rest).front is.front)
            ∙ ap (λ more. group_jobs (o, (cut rest).front) ++ more) is.groups);
      }

  -- in a group
  inside-group : opener_of item ≡ None → (now : Bool) → is_inside true item ≡ now → SameJobs now (kept now rest) rest
      → SameJobs true (kept true (item ∷ rest)) (item ∷ rest)
  inside-group none now e is =
      let all : kept true (item ∷ rest) ≡ item ∷ kept now rest = ap (λ t. item ∷ kept t rest) e in
      let ends : now ≡ not (is_end item) = sym e ∙ ap (λ t. t || not (is_end item)) (opens-none item None none refl) in
      subst (λ some. SameJobs true some (item ∷ rest)) (sym all) record {
        front = rw none (end-front now (is_end item) item (cut (kept now rest)).front (cut rest).front refl ends is.front);
        groups = rw none is.groups;
      }

  -- outside of groups
  outside : opener_of item ≡ None → SameJobs false (kept false rest) rest → (counted : Bool) → counts item ≡ counted
      → SameJobs false (kept false (item ∷ rest)) (item ∷ rest)
  outside none is true e =
      let now : is_inside false item ≡ false = rw (opens-none item None none refl) refl in
      let all : kept false (item ∷ rest) ≡ item ∷ kept false rest = stays false (ap not e) ∙ ap (λ t. item ∷ kept t rest) now in
      subst (λ some. SameJobs false some (item ∷ rest)) (sym all) record {
        front = rw none (count-cons item (cut (kept false rest)).front ∙ ap (λ n. cond (counts item) 1 0 + n) is.front ∙ sym (count-cons item (cut rest).front));
        groups = rw none is.groups;
      }
  outside none is false e =
      let now : is_inside false item ≡ false = rw (opens-none item None none refl) refl in
      let all : kept false (item ∷ rest) ≡ kept false rest = goes false (ap not e) ∙ ap (λ t. kept t rest) now in
      let none_more : count_by counts (item ∷ (cut rest).front) ≡ count_by counts (cut rest).front =
      (let all = count-cons item (cut rest).front in let one : cond {A = ℕ} (counts item) 1 0 ≡ 0 = ap (λ t. cond {A = ℕ} t 1 0) e in omega (arith, all, one)) in
      subst (λ some. SameJobs false some (item ∷ rest)) (sym all) record {
        front = rw none (is.front ∙ sym none_more);
        groups = rw none is.groups;
      }

  not-dropped : (o : Opener) (inside : Bool) → opener_of item ≡ Some o → is_dropped inside item ≡ false
  not-dropped o true e = refl
  not-dropped o false e = ap not (opener-counts item o e)

  kept-by : (inside : Bool) (o : Option Opener) → opener_of item ≡ o → ((now : Bool) → SameJobs now (kept now rest) rest)
      → SameJobs inside (kept inside (item ∷ rest)) (item ∷ rest)
  kept-by true None e is = inside-group e (is_inside true item) refl (is (is_inside true item))
  kept-by false None e is = outside e (is false) (counts item) refl
  kept-by inside (Some o) e is = opened o inside e (is true) (not-dropped o inside e)

kept-jobs : (inside : Bool) (items : List Item) → SameJobs inside (kept inside items) items
kept-jobs inside [] = record { front = front-nothing inside; groups = refl }
kept-jobs inside (item ∷ rest) = kept-by item rest inside (opener_of item) refl (λ now. kept-jobs now rest)

pub units-jobs : (items : List Item) → jobs items ≡ flat_map jobs (units items)
units-jobs items =
    let is = kept-jobs false items in
    sym (cut-jobs (kept false items) ∙ ap (λ n. skipped (card_count n) ++ flat_map group_jobs (cut (kept false items)).groups) is.front
    ∙ ap (λ more. stretch (cut items).front ++ more) is.groups)

-- ---- each unit has an item and a job
abbrev Counted : List Item → Type 0
Counted items = AllByRecursion (λ item. counts item ≡ true) items

blank-opens : (item : Item) → opens item ≡ true → counts item ≡ false → ⊥
blank-opens (Line []) e f = cc
blank-opens (Line (code ∷ rest)) e f = cc
blank-opens Spoiled e f = cc

abbrev FrontCounted : List Item → Type 0
FrontCounted items = Counted (cut_before_openers (kept false items)).front

counted-by : (item : Item) (rest : List Item) (t c : Bool) → opens item ≡ t → counts item ≡ c → FrontCounted rest → FrontCounted (item ∷ rest)
counted-by item rest true false e f all = absurd (blank-opens item e f)
counted-by item rest false false e f all =
    let now : kept false (item ∷ rest) ≡ kept false rest =
    ap (λ c. unless_dropped (not c) item (kept (is_inside false item) rest)) f ∙ ap (λ t. kept (t || false) rest) e in
    subst (λ some. Counted (cut_before_openers some).front) (sym now) all
counted-by item rest true true e f all =
    let now : kept false (item ∷ rest) ≡ item ∷ kept (is_inside false item) rest = ap (λ c. unless_dropped (not c) item (kept (is_inside false item) rest)) f in
    subst (λ some. Counted (cut_before_openers some).front) (sym now) (rw e tt)
counted-by item rest false true e f all =
    let now : kept false (item ∷ rest) ≡ item ∷ kept false rest =
    ap (λ c. unless_dropped (not c) item (kept (is_inside false item) rest)) f ∙ ap (λ t. item ∷ kept (t || false) rest) e in
    subst (λ some. Counted (cut_before_openers some).front) (sym now) (rw e (f, all))

front-counted : (items : List Item) → FrontCounted items
front-counted [] = tt
front-counted (item ∷ rest) = counted-by item rest (opens item) (counts item) refl refl (front-counted rest)

one-skipped : (m : ℕ) → 1 ≤ m → (job : Job) × (skipped m ≡ job ∷ [])
one-skipped m low =
    elim (eqb_tells m 0) as (λ _. (job : Job) × (skipped m ≡ job ∷ [])) [
      | inl e ↦ absurd (let none = e.1 in omega (arith, low, none))
      | inr e ↦ (job.Skipped m, ap (λ t. if t then [] else job.Skipped m ∷ []) e.0)
    ]

some-skipped : (n : ℕ) → 1 ≤ n → (job : Job) × (skipped (card_count n) ≡ job ∷ [])
some-skipped n some = one-skipped (card_count n) (omega (arith, some))

first-is : (items front : List Item) → (cut_before_openers items).front ≡ front → Counted front → AllByRecursion IsUnit (first_unit front)
first-is items [] e all = tt
first-is items (item ∷ front) e all =
    let plain : cut (item ∷ front) ≡ record { front = item ∷ front; groups = [] } =
    subst (λ front. cut front ≡ record { front = front; groups = [] }) e (front-plain items) in
    let many : count_by counts (item ∷ front) ≡ 1 + count_by counts front = count-cons item front ∙ ap (λ t. cond t 1 0 + count_by counts front) all.0 in
    let (job, is) = some-skipped (count_by counts (item ∷ front)) (omega (arith, many)) in (
      record {
        item = item;
        others = front;
        items_are = refl;
        job = job;
        more = [];
        jobs_are = ap (λ (c : Groups). stretch c.front ++ flat_map group_jobs c.groups) plain ∙ append-nil (stretch (item ∷ front)) ∙ is;
      },
      tt,
    )

groups-by : (item : Item) (rest : List Item) (o : Option Opener) → opener_of item ≡ o → AllByRecursion IsUnit (cut_before_openers rest).groups
    → AllByRecursion IsUnit (cut_before_openers (item ∷ rest)).groups
groups-by item rest None e all = rw (opens-none item None e refl) all
groups-by item rest (Some o) e all = rw (opens-some item o e) (
  record {
    item = item;
    others = (cut_before_openers rest).front;
    items_are = refl;
    job = job_of o (before_end (cut_before_openers rest).front);
    more = stretch (after_end (cut_before_openers rest).front);
    jobs_are = opened-jobs item o rest e;
  },
  all,
)

groups-are : (items : List Item) → AllByRecursion IsUnit (cut_before_openers items).groups
groups-are [] = tt
groups-are (item ∷ rest) = groups-by item rest (opener_of item) refl (groups-are rest)

all-both : {T : Type 0} (Is : T → Type 0) (some more : List T) → AllByRecursion Is some → AllByRecursion Is more → AllByRecursion Is (some ++ more)
all-both Is [] more all rest = rest
all-both Is (x ∷ some) more all rest = (all.0, all-both Is some more all.1 rest)

pub are-units : (items : List Item) → AreUnits items
are-units items =
    let all = kept false items in
    record {
      jobs_are = units-jobs items;
      each = all-both IsUnit (first_unit (cut_before_openers all).front) (cut_before_openers all).groups
          (first-is all (cut_before_openers all).front refl (front-counted items)) (groups-are all);
    }

-- ---- what holds of each item holds of each item of each unit
kept-all : (Is : Item → Type 0) (inside : Bool) (items : List Item) → AllByRecursion Is items → AllByRecursion Is (kept inside items)
kept-all Is inside [] all = tt
kept-all Is inside (item ∷ rest) all =
    elim (is_dropped inside item) as (λ t. AllByRecursion Is (unless_dropped t item (kept (is_inside inside item) rest))) [
      | true ↦ kept-all Is (is_inside inside item) rest all.1
      | false ↦ (all.0, kept-all Is (is_inside inside item) rest all.1)
    ]

record CutAll (Is : Item → Type 0) (c : Cut) : Type 0 where
  front : AllByRecursion Is c.front
  groups : AllByRecursion (λ group. AllByRecursion Is group) c.groups

cut-all : (Is : Item → Type 0) (items : List Item) → AllByRecursion Is items → CutAll Is (cut_before_openers items)
cut-all Is [] all = record { front = tt; groups = tt }
cut-all Is (item ∷ rest) all =
    let is = cut-all Is rest all.1 in
    elim (opens item) as (λ t. CutAll Is (before_cut t item (cut_before_openers rest))) [
      | true ↦ record { front = tt; groups = ((all.0, is.front), is.groups) }
      | false ↦ record { front = (all.0, is.front); groups = is.groups }
    ]

first-all : (Is : Item → Type 0) (front : List Item) → AllByRecursion Is front → AllByRecursion (λ unit. AllByRecursion Is unit) (first_unit front)
first-all Is [] all = tt
first-all Is (item ∷ front) all = (all, tt)

pub units-all : (Is : Item → Type 0) (items : List Item) → AllByRecursion Is items → AllByRecursion (λ unit. AllByRecursion Is unit) (units items)
units-all Is items all =
    let is = cut-all Is (kept false items) (kept-all Is false items all) in
    all-both (λ unit. AllByRecursion Is unit) (first_unit (cut_before_openers (kept false items)).front) (cut_before_openers (kept false items)).groups
    (first-all Is (cut_before_openers (kept false items)).front is.front) is.groups

-- ---- the units have no more items than the deck
abbrev pub lengths : List (List Item) → ℕ
lengths [] = 0
lengths (unit ∷ rest) = length unit + lengths rest

few-kept : (inside : Bool) (items : List Item) → length (kept inside items) ≤ length items
few-kept inside [] = omega arith
few-kept inside (item ∷ rest) =
    let few = few-kept (is_inside inside item) rest in
    elim (is_dropped inside item) as (λ t. length (unless_dropped t item (kept (is_inside inside item) rest)) ≤ suc (length rest)) [
      | true ↦ omega (arith, few)
      | false ↦ omega (arith, few)
    ]

cut-lengths : (items : List Item) → length (cut_before_openers items).front + lengths (cut_before_openers items).groups ≡ length items
cut-lengths [] = refl
cut-lengths (item ∷ rest) =
    let c = cut_before_openers rest in
    let more = cut-lengths rest in
    elim (opens item) as (λ t. length (before_cut t item c).front + lengths (before_cut t item c).groups ≡ suc (length rest)) [
      | true ↦ omega (arith, more)
      | false ↦ omega (arith, more)
    ]

first-lengths : (front : List Item) (groups : List (List Item)) → lengths (first_unit front ++ groups) ≡ length front + lengths groups
first-lengths [] groups = omega arith
first-lengths (item ∷ front) groups = refl

pub few-items : (items : List Item) → lengths (units items) ≤ length items
few-items items =
    let c = cut_before_openers (kept false items) in
    let first = first-lengths c.front c.groups in
    let cut = cut-lengths (kept false items) in
    let few = few-kept false items in
    omega (arith, first, cut, few)
