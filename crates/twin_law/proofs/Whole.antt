-- In every reached state with told buffers, what went to the printer is the first of what one thread prints for the deck.
use Rattle.std.proofs.Common.{◌≡◌, inl, inr, ℕ, ◌≤◌, ◌==◌, true, false, if◌then◌else◌, List, [], ◌∷◌, ◌++◌, length, map, None, Some, refl, sym, ◌∙◌, ap, subst, arith}
use Rattle.std.specs.Prelude.{flat_map, option_to_list}
use Rattle.std.specs.List.{AllByRecursion}
use Rattle.std.proofs.lemmas.List.{append_assoc}
use Rattle.std.proofs.lemmas.Bool.{le-leb}
use Rattle.std.proofs.lemmas.Bool.Decides.{eqb_tells}
use Rattle.page_codec.proofs.Cutting.{item_is_short}
use Rattle.deck_units.specs.Laws.{IsUnit}
use Rattle.deck_units.proofs.UnitJobs.{are-units, units-all}
use Rattle.network_law.specs.Kept.{IsTold, Stands, passed}
use Rattle.solo_base.specs.declared.item.Item.{Item}
use Rattle.solo_base.specs.declared.item.Item.TheVariants.{Line}
use Rattle.solo_base.specs.declared.page.Page.{Page}
use Rattle.solo_base.specs.declared.outcome.Side.TheVariants.{Sender}
use Rattle.solo_base.specs.Prefixes.{IsPrefixOf}
use Rattle.page_codec.specs.Items.{AreItems, IsItem, item_bytes}
use Rattle.page_codec.specs.Form.{page_of}
use Rattle.page_codec.specs.Packing.{first_page, page_given, hand_after}
use Rattle.page_codec.specs.Stream.{IsStream}
use Rattle.batch_procs.specs.Sends.{lines_of}
use Rattle.batch_procs.specs.Jobs.{Jobs, AreJobs, FilesAs, one_thread}
use Rattle.batch_procs.specs.Parcels.{Parcel, OfFeed}
use Rattle.deck_units.specs.Units.{units}
use Rattle.solo_base.specs.declared.item.Feed.TheVariants as feed
use Rattle.twin_law.specs.Sides.{Twin, A, B, from_job, Dealt, dealt}
use Rattle.twin_law.specs.Input.{HasDealt, last_of, empty_page}
use Rattle.twin_law.specs.Job.{HasWorked}
use Rattle.twin_law.specs.Output.{HasGathered, is_some}
use Rattle.twin_law.specs.Table.{process}
use Rattle.twin_law.specs.Twin.{seat, twin, TwinState}
use Rattle.twin_law.specs.Alone.{Put, alone, put_at, AreLoadedSo, puts}
use Rattle.twin_law.specs.UnitWork.{AreByUnits}
use Rattle.twin_law.proofs.Dealing.{dealt-each}
use Rattle.twin_law.proofs.Kahn.{IsClosed, AllWithin, kahn}
use Rattle.twin_law.proofs.Goes.{first-put}
use Rattle.twin_law.proofs.Strips.{given_pages, last_hand, all_pages, packed-stream, line-items, as_pages, Strip, IsStrip, parcels, all_put, as-parcels}
use Rattle.twin_law.proofs.InputAlone.{streams, unit_pages, deck_feeds, input-alone}
use Rattle.twin_law.proofs.OutputAlone.{all_lines, line_puts, end_put, output-alone}
use Rattle.twin_law.proofs.JobAlone.{page_puts, put-all, made, job-alone}

-- ---- a unit as a strip
abbrev pub unit_strip : List Item → Strip
unit_strip unit = record { pages = unit_pages unit; items = unit }

first-fits : (item : Item) → IsItem item → page_given first_page item ≡ None
first-fits item is =
    let short = item_is_short item is in
    ap (λ t. if t then None else Some (page_of 0 false [])) (le-leb (length (item_bytes item)) 506 (omega (arith, short)))

pages-same : (unit : List Item) → AreItems unit → is_some unit ≡ true → all_pages unit ≡ unit_pages unit
pages-same [] are some = absurd cc
pages-same (item ∷ rest) are some =
    ap (λ given. (option_to_list given ++ given_pages (hand_after first_page item) rest) ++ last_of (last_hand (hand_after first_page item) rest) ∷ []) (first-fits item are.0)

unit-is : (unit : List Item) → AreItems unit → is_some unit ≡ true → IsStrip (unit_strip unit)
unit-is unit are some = record { stream = subst (λ (pages : List Page). IsStream 0 pages unit) (pages-same unit are some) (packed-stream unit are); some = some }

streams-put : (us : List (List Item)) → streams us ++ empty_page ∷ [] ≡ all_put (map unit_strip us)
streams-put [] = refl
streams-put (unit ∷ us) = append_assoc (unit_pages unit) (streams us) (empty_page ∷ []) ∙ ap (λ rest. unit_pages unit ++ rest) (streams-put us)

-- ---- of all, and of what is dealt
pub record BothAll {T : Type 0} (Is : T → Type 0) (d : Dealt T) : Type 0 where
  pub a : AllByRecursion Is d.a
  pub b : AllByRecursion Is d.b

dealt-all : {T : Type 0} (Is : T → Type 0) (all : List T) → AllByRecursion Is all → BothAll Is (dealt all)
dealt-all Is [] are = record { a = tt; b = tt }
dealt-all Is (x ∷ all) are = (let both = dealt-all Is all are.1 in record { a = (are.0, both.b); b = both.a })

map-all : {T U : Type 0} (Is : T → Type 0) (Are : U → Type 0) (f : T → U) (all : List T) → ((x : T) → Is x → Are (f x)) → AllByRecursion Is all → AllByRecursion Are (map f all)
map-all Is Are f [] so are = tt
map-all Is Are f (x ∷ all) so are = (so x are.0, map-all Is Are f all so are.1)

all-pair : {T : Type 0} (Is Are : T → Type 0) (all : List T) → AllByRecursion Is all → AllByRecursion Are all → AllByRecursion (λ x. Is x × Are x) all
all-pair Is Are [] first second = tt
all-pair Is Are (x ∷ all) first second = ((first.0, second.0), all-pair Is Are all first.1 second.1)

some-unit : (unit : List Item) → IsUnit unit → is_some unit ≡ true
some-unit unit is = ap is_some is.items_are

some-map : {T U : Type 0} (f : T → U) (xs : List T) → is_some (map f xs) ≡ is_some xs
some-map f [] = refl
some-map f (x ∷ xs) = refl

lines-back : (lines : List (List ℕ)) → lines_of (map Line lines) ≡ lines
lines-back [] = refl
lines-back (line ∷ rest) = ap (λ ls. line ∷ ls) (lines-back rest)

-- the lines that the printer is given, and the end
abbrev pub line_feeds : {L : Type 0} → List (List ℕ) → List (Parcel L)
line_feeds [] = OfFeed feed.End ∷ []
line_feeds (line ∷ rest) = OfFeed (feed.Item (Line line)) ∷ line_feeds rest

feeds-are : (L : Type 0) (lines : List (List ℕ)) → put_at 6 (line_puts {L = L} lines ++ end_put) ≡ line_feeds lines
feeds-are L [] = refl
feeds-are L (line ∷ rest) = ap (λ more. OfFeed (feed.Item (Line line)) ∷ more) (feeds-are L rest)

module _ {L : Type 0} {J : Jobs L} (jobs : AreJobs J) (by : AreByUnits J) (F : FilesAs L) where
  -- the report of a unit
  abbrev pub report : List Item → List (List ℕ)
  report unit = one_thread J unit F

  abbrev pub report_strip : List Item → Strip
  report_strip unit = record { pages = all_pages (map Line (report unit)); items = map Line (report unit) }

  report-is : (unit : List Item) → AreItems unit → is_some (report unit) ≡ true → IsStrip (report_strip unit)
  report-is unit are some = record {
    stream = packed-stream (map Line (report unit)) (line-items (report unit) (jobs.are_lines unit (map F (J.named unit)) true are));
    some = some-map Line (report unit) ∙ some;
  }

  reports-made : (side : Twin) (us : List (List Item)) → map (made jobs F side) (map unit_strip us) ≡ map report_strip us
  reports-made side [] = refl
  reports-made side (unit ∷ us) = ap (λ rest. report_strip unit ∷ rest) (reports-made side us)

  pub lines-all : (us : List (List Item)) → all_lines (map report_strip us) ≡ flat_map report us
  lines-all [] = refl
  lines-all (unit ∷ us) = ap (λ lines. lines ++ all_lines (map report_strip us)) (lines-back (report unit)) ∙ ap (λ rest. report unit ++ rest) (lines-all us)

  module _ (items : List Item) (are : AreItems items) where
    abbrev pub us : List (List Item)
    us = units items

    -- all that each buffer is given in the end
    abbrev pub whole : ℕ → List (Parcel L)
    whole c =
        if c == 1 then deck_feeds items else if c == 2 then parcels (map unit_strip (dealt us).a) else if c == 3 then parcels (map unit_strip (dealt us).b)
        else if c == 4 then parcels (map report_strip (dealt us).a) else if c == 5 then parcels (map report_strip (dealt us).b)
        else line_feeds (all_lines (map report_strip us))

    abbrev pub ClosedAt : ℕ → Type 0
    ClosedAt c = (n : ℕ) → IsPrefixOf (put_at c (alone F (process J (seat c Sender)) n (process J (seat c Sender)).start whole)) (whole c)

    abbrev pub IsGoodUnit : List Item → Type 0
    IsGoodUnit unit = AreItems unit × IsUnit unit

    good-units : AllByRecursion IsGoodUnit us
    good-units = all-pair AreItems IsUnit us (units-all IsItem items are) (are-units items).each

    pub unit-strips : (some : List (List Item)) → AllByRecursion IsGoodUnit some → AllByRecursion IsStrip (map unit_strip some)
    unit-strips some all = map-all IsGoodUnit IsStrip unit_strip some (λ unit is. unit-is unit is.0 (some-unit unit is.1)) all

    abbrev HasReport : List Item → Type 0
    HasReport unit = AreItems unit × (is_some (report unit) ≡ true)

    pub report-strips : AllByRecursion IsStrip (map report_strip us)
    report-strips =
        map-all HasReport IsStrip report_strip us (λ unit is. report-is unit is.0 is.1)
        (all-pair AreItems (λ unit. is_some (report unit) ≡ true) us (units-all IsItem items are) (by.some items F))

    pub both : BothAll IsGoodUnit (dealt us)
    both = dealt-all IsGoodUnit us good-units

    pub dealt-at : (c : ℕ) (puts : List (Put L)) (some : List (List Item)) → put_at c puts ≡ as_pages (streams some ++ empty_page ∷ []) → put_at c puts ≡ parcels (map unit_strip some)
    dealt-at c puts some e = e ∙ ap as_pages (streams-put some) ∙ as-parcels L (map unit_strip some)

    pub closed-2 : ClosedAt 2
    closed-2 n =
        let is = input-alone F items whole refl in
        subst (IsPrefixOf (put_at 2 (alone F (process J 2) n (process J 2).start whole))) (dealt-at 2 is.puts (dealt us).a is.at_a)
        (first-put F (process J 2) 2 (process J 2).start HasDealt whole is.left is.puts is.goes is.over n)

    pub closed-3 : ClosedAt 3
    closed-3 n =
        let is = input-alone F items whole refl in
        subst (IsPrefixOf (put_at 3 (alone F (process J 2) n (process J 2).start whole))) (dealt-at 3 is.puts (dealt us).b is.at_b)
        (first-put F (process J 2) 3 (process J 2).start HasDealt whole is.left is.puts is.goes is.over n)

    pub made-at : (side : Twin) (some : List (List Item))
        → put_at (from_job side) (page_puts {L = L} side (all_put (map (made jobs F side) (map unit_strip some)))) ≡ parcels (map report_strip some)
    made-at side some =
        put-all L side (all_put (map (made jobs F side) (map unit_strip some))) ∙ as-parcels L (map (made jobs F side) (map unit_strip some)) ∙ ap parcels (reports-made side some)

    pub closed-4 : ClosedAt 4
    closed-4 n =
        let ss = map unit_strip (dealt us).a in
        let is = job-alone jobs F A ss (unit-strips (dealt us).a both.a) whole refl in
        subst (IsPrefixOf (put_at 4 (alone F (process J 3) n (process J 3).start whole))) (made-at A (dealt us).a)
        (first-put F (process J 3) 4 (process J 3).start HasWorked whole is.left (page_puts A (all_put (map (made jobs F A) ss))) is.goes is.over n)

    pub closed-5 : ClosedAt 5
    closed-5 n =
        let ss = map unit_strip (dealt us).b in
        let is = job-alone jobs F B ss (unit-strips (dealt us).b both.b) whole refl in
        subst (IsPrefixOf (put_at 5 (alone F (process J 4) n (process J 4).start whole))) (made-at B (dealt us).b)
        (first-put F (process J 4) 5 (process J 4).start HasWorked whole is.left (page_puts B (all_put (map (made jobs F B) ss))) is.goes is.over n)

    closed-6 : ClosedAt 6
    closed-6 n =
        let all = map report_strip us in
        let is = output-alone F all report-strips whole
        (ap (λ (d : Dealt Strip). parcels d.a) (sym (dealt-each report_strip us))) (ap (λ (d : Dealt Strip). parcels d.b) (sym (dealt-each report_strip us))) in
        subst (IsPrefixOf (put_at 6 (alone F (process J 5) n (process J 5).start whole))) (feeds-are L (all_lines all))
        (first-put F (process J 5) 6 (process J 5).start HasGathered whole is.left (line_puts (all_lines all) ++ end_put) is.goes is.over n)

    among : (P : ℕ → Type 0) (c : ℕ) → 2 ≤ c → c ≤ 6 → P 2 → P 3 → P 4 → P 5 → P 6 → P c
    among P c low high two three four five six =
        elim (eqb_tells c 2) as (λ _. P c) [
          | inl a ↦ subst P (sym a.1) two
          | inr a ↦ elim (eqb_tells c 3) as (λ _. P c) [
            | inl b ↦ subst P (sym b.1) three
            | inr b ↦ elim (eqb_tells c 4) as (λ _. P c) [
              | inl d ↦ subst P (sym d.1) four
              | inr d ↦ elim (eqb_tells c 5) as (λ _. P c) [
                | inl e ↦ subst P (sym e.1) five
                | inr e ↦ (let last : c ≡ 6 = (let a = a.1 in let b = b.1 in let d = d.1 in let e = e.1 in omega (arith, a, b, d, e, low, high)) in subst P (sym last) six)
              ]
            ]
          ]
        ]

    closed : (opening s : TwinState L) (st : Stands (twin J) opening s) (told : (b : ℕ) → IsTold (s.buffers b)) (so : (p : ℕ) → AreLoadedSo F (s.histories p))
        → IsClosed J opening s st told F so whole
    closed opening s st told so c n low high = among ClosedAt c low high closed-2 closed-3 closed-4 closed-5 closed-6 n

    -- what went into each buffer is the first of all that it is given
    pub within : (opening s : TwinState L) (st : Stands (twin J) opening s) (told : (b : ℕ) → IsTold (s.buffers b)) (so : (p : ℕ) → AreLoadedSo F (s.histories p))
        → IsPrefixOf (passed (twin J) s 1 Sender) (deck_feeds items) → AllWithin J opening s st told F so whole
    within opening s st told so first = kahn J opening s st told F so whole first (closed opening s st told so)

    -- what went to the printer is the first of what one thread prints, and its end
    pub prints-first : (opening s : TwinState L) → Stands (twin J) opening s → ((b : ℕ) → IsTold (s.buffers b)) → ((p : ℕ) → AreLoadedSo F (s.histories p))
        → IsPrefixOf (passed (twin J) s 1 Sender) (deck_feeds items) → IsPrefixOf (passed (twin J) s 6 Sender) (line_feeds (one_thread J items F))
    prints-first opening s st told so first =
        subst (λ lines. IsPrefixOf (passed (twin J) s 6 Sender) (line_feeds lines)) (lines-all us ∙ sym (by.lines_are items F))
        (within opening s st told so first).lines
