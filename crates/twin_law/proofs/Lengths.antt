-- How long the lists are that each buffer is given in all.
use Rattle.std.proofs.Common.{◌≡◌, ℕ, suc, ◌+◌, ◌≤◌, ◌%◌, Bool, true, false, List, [], ◌∷◌, ◌++◌, length, length-append, map, Option, None, Some, refl, sym, ◌∙◌, ap, arith}
use Rattle.std.specs.Prelude.{flat_map, option_to_list}
use Rattle.std.specs.List.{AllByRecursion}
use Rattle.page_codec.proofs.Pages.{items_again}
use Rattle.solo_base.specs.declared.item.Item.{Item}
use Rattle.solo_base.specs.declared.page.Page.{Page}
use Rattle.solo_base.specs.Prefixes.{IsPrefixOf}
use Rattle.page_codec.specs.Form.{IsPage}
use Rattle.page_codec.specs.Packing.{PageInHand, first_page, page_given, hand_after}
use Rattle.page_codec.specs.Stream.{IsStream}
use Rattle.batch_procs.specs.Parcels.{Parcel}
use Rattle.twin_law.specs.Sides.{dealt}
use Rattle.twin_law.specs.Input.{last_of, empty_page}
use Rattle.twin_law.specs.Twin.{given}
use Rattle.twin_law.proofs.Strips.{given_pages, last_hand, all_pages, as_pages, Strip, IsStrip, parcels, empty-form, form-at}
use Rattle.twin_law.proofs.InputAlone.{unit_pages, deck_feeds}
use Rattle.twin_law.proofs.Whole.{line_feeds}
use Rattle.twin_law.proofs.CallsMade.{item_count}
use Rattle.twin_law.proofs.Pays.{items_sum, items-append}

-- ---- sums over what is dealt
abbrev pub sum : {T : Type 0} → (T → ℕ) → List T → ℕ
sum f [] = 0
sum f (x ∷ rest) = f x + sum f rest

pub dealt-sum : {T : Type 0} (f : T → ℕ) (all : List T) → sum f (dealt all).a + sum f (dealt all).b ≡ sum f all
dealt-sum f [] = refl
dealt-sum f (x ∷ all) = (let rest = dealt-sum f all in omega (arith, rest))

sum-more : {T : Type 0} (f g : T → ℕ) (all : List T) → ((x : T) → f x ≤ g x + 1) → sum f all ≤ sum g all + length all
sum-more f g [] less = omega arith
sum-more f g (x ∷ all) less = (let one = less x in let rest = sum-more f g all less in omega (arith, one, rest))

-- ---- feeds
pub deck-length : (L : Type 0) (items : List Item) → length (deck_feeds {L = L} items) ≡ length items + 1
deck-length L [] = refl
deck-length L (item ∷ rest) = (let more = deck-length L rest in omega (arith, more))

pub lines-length : (L : Type 0) (lines : List (List ℕ)) → length (line_feeds {L = L} lines) ≡ length lines + 1
lines-length L [] = refl
lines-length L (line ∷ rest) = (let more = lines-length L rest in omega (arith, more))

-- ---- pages
one-given : (given : Option Page) → length (option_to_list given) ≤ 1
one-given None = omega arith
one-given (Some page) = omega arith

given-length : (hand : PageInHand) (items : List Item) → length (given_pages hand items) ≤ length items
given-length hand [] = omega arith
given-length hand (item ∷ rest) =
    let one = one-given (page_given hand item) in
    let more = given-length (hand_after hand item) rest in
    let both = length-append (option_to_list (page_given hand item)) (given_pages (hand_after hand item) rest) in
    omega (arith, one, more, both)

last-length : (given : List Page) (last : Page) → length (given ++ last ∷ []) ≡ length given + 1
last-length given last = length-append given (last ∷ [])

pub all-length : (items : List Item) → length (all_pages items) ≤ length items + 1
all-length items =
    let few = given-length first_page items in
    let last = last-length (given_pages first_page items) (last_of (last_hand first_page items)) in
    omega (arith, few, last)

pub unit-length : (unit : List Item) → length (unit_pages unit) ≤ length unit + 1
unit-length [] = omega arith
unit-length (item ∷ rest) =
    let few = given-length (hand_after first_page item) rest in
    let last = last-length (given_pages (hand_after first_page item) rest) (last_of (last_hand (hand_after first_page item) rest)) in
    omega (arith, few, last)

as-length : (L : Type 0) (pages : List Page) → length (as_pages {L = L} pages) ≡ length pages
as-length L [] = refl
as-length L (page ∷ rest) = ap (λ n. suc n) (as-length L rest)

abbrev pub page_number : Strip → ℕ
page_number s = length s.pages

pub parcels-length : (L : Type 0) (ss : List Strip) → length (parcels {L = L} ss) ≡ sum page_number ss + 1
parcels-length L [] = refl
parcels-length L (s ∷ rest) =
    (let more = parcels-length L rest in let both = length-append (as_pages {L = L} s.pages) (parcels rest) in let one = as-length L s.pages in omega (arith, more, both, one))

-- ---- the items on pages
page-items : (n : ℕ) (last : Bool) (all : List Item) (page : Page) → IsPage n last all page → item_count page ≡ length all
page-items n last all page form =
    let here = form-at n (n % 65536) last all page (omega arith) form in
    ap length (items_again (n % 65536) last all page here)

stream-items : (L : Type 0) (pages : List Page) (n : ℕ) (all : List Item) → IsStream n pages all → items_sum (as_pages {L = L} pages) ≡ length all
stream-items L [] n all is = absurd is
stream-items L (page ∷ []) n all form = (let one = page-items n true all page form in omega (arith, one))
stream-items L (page ∷ next ∷ rest) n all (front, left, parts, form, more) =
    let one = page-items n false front page form in
    let others = stream-items L (next ∷ rest) (n + 1) left more in
    let whole = ap length parts ∙ length-append front left in
    omega (arith, one, others, whole)

abbrev pub item_number : Strip → ℕ
item_number s = length s.items

pub parcels-items : (L : Type 0) (ss : List Strip) → AllByRecursion IsStrip ss → items_sum (parcels {L = L} ss) ≡ sum item_number ss
parcels-items L [] are = stream-items L (empty_page ∷ []) 0 [] empty-form
parcels-items L (s ∷ rest) are =
    let more = parcels-items L rest are.1 in
    let both = items-append (as_pages {L = L} s.pages) (parcels rest) in
    let one = stream-items L s.pages 0 s.items are.0.stream in
    omega (arith, more, both, one)

-- ---- of prefixes
pub part-length : {T : Type 0} (part all : List T) → IsPrefixOf part all → length part ≤ length all
part-length part all (rest, e) = (let same = sym (length-append part rest) ∙ ap length e in omega (arith, same))

pub part-items : {L : Type 0} (part all : List (Parcel L)) → IsPrefixOf part all → items_sum part ≤ items_sum all
part-items part all (rest, e) = (let same = sym (items-append part rest) ∙ ap items_sum e in omega (arith, same))

-- ---- lines and units
pub flat-length : {T U : Type 0} (f : T → List U) (all : List T) → length (flat_map f all) ≡ sum (λ x. length (f x)) all
flat-length f [] = refl
flat-length f (x ∷ all) = (let rest = flat-length f all in let both = length-append (f x) (flat_map f all) in omega (arith, rest, both))

pub map-sum : {T U : Type 0} (g : U → ℕ) (f : T → U) (all : List T) → sum g (map f all) ≡ sum (λ x. g (f x)) all
map-sum g f [] = refl
map-sum g f (x ∷ all) = ap (λ n. g (f x) + n) (map-sum g f all)

pub sum-plus : {T : Type 0} (f g : T → ℕ) (all : List T) → ((x : T) → f x ≤ g x + 1) → sum f all ≤ sum g all + length all
sum-plus f g all less = sum-more f g all less
