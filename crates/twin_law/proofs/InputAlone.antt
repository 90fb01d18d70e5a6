-- The input process alone: to each side its units, dealt in turn, each as a stream of pages, and then an empty stream.
use Rattle.std.proofs.Common.{◌≡◌, ℕ, zero, suc, ◌&&◌, ◌||◌, not, Bool, true, false, if◌then◌else◌, List, [], ◌∷◌, ◌++◌, drop, Option, None, Some, refl, sym, ◌∙◌, ap, subst, arith}
use Rattle.std.specs.Prelude.{option_to_list}
use Rattle.deck_format.specs.Jobs.{is_end}
use Rattle.std.proofs.lemmas.List.{append_assoc, append-nil}
use Rattle.solo_base.specs.declared.item.Item.{Item}
use Rattle.solo_base.specs.declared.item.Feed.{Feed}
use Rattle.solo_base.specs.declared.page.Page.{Page}
use Rattle.page_codec.specs.Packing.{PageInHand, page_given, hand_after}
use Rattle.batch_procs.specs.Jobs.{FilesAs}
use Rattle.batch_procs.specs.Parcels.{Parcel, OfFeed, OfPage, mark}
use Rattle.deck_units.specs.Units.{opens, is_inside, is_dropped, units, kept, Cut, before_cut, cut_before_openers, first_unit, unless_dropped}
use Rattle.solo_base.specs.declared.item.Feed.TheVariants as feed
use Rattle.twin_law.specs.Sides.{Twin, A, B, other, to_job, dealt}
use Rattle.twin_law.specs.Input.{InputPlace, Takes, PutsFull, PutsLast, PutsEmptyA, PutsEmptyB, HasDealt, last_of, empty_page, begins_unit, pushes, deals, ends_deck, behind_feed, input_behind, input}
use Rattle.twin_law.specs.Twin.{given}
use Rattle.twin_law.specs.Alone.{reply_of, first_parcel, less_one, Put, alone, put_at}
use Rattle.twin_law.proofs.EndCounts.{IsOn, deals-on}
use Rattle.twin_law.proofs.After.{after}
use Rattle.twin_law.proofs.Goes.{Goes, goes-on, stays-put}
use Rattle.twin_law.proofs.Strips.{given_pages, last_hand, hand-append, given-append, as_pages, pages-append}

-- ---- the units, one item after the other, with these in hand
abbrev pub units_from : Bool → List Item → List Item → List (List Item)
units_from inside hand [] = first_unit hand
units_from inside hand (item ∷ rest) =
    if is_dropped inside item then units_from (is_inside inside item) hand rest
    else if opens item then first_unit hand ++ units_from (is_inside inside item) (item ∷ []) rest
    else units_from (is_inside inside item) (hand ++ item ∷ []) rest

abbrev UnitsAre : Bool → List Item → List Item → Type 0
UnitsAre inside hand items =
    units_from inside hand items ≡ first_unit (hand ++ (cut_before_openers (kept inside items)).front) ++ (cut_before_openers (kept inside items)).groups

units-item : (item : Item) (rest : List Item) (inside dropped opening : Bool) (hand : List Item) → ((hand : List Item) → UnitsAre inside hand rest)
    → (if dropped then units_from inside hand rest else if opening then first_unit hand ++ units_from inside (item ∷ []) rest else units_from inside (hand ++ item ∷ []) rest)
    ≡ (let c = if dropped then cut_before_openers (kept inside rest) else before_cut opening item (cut_before_openers (kept inside rest)) in first_unit (hand ++ c.front) ++ c.groups)
units-item item rest inside true opening hand are = are hand
units-item item rest inside false true hand are =
    ap (λ more. first_unit hand ++ more) (are (item ∷ [])) ∙ ap (λ some. first_unit some ++ (item ∷ (cut_before_openers (kept inside rest)).front) ∷ (cut_before_openers (kept inside rest)).groups) (sym (append-nil hand))
units-item item rest inside false false hand are =
    are (hand ++ item ∷ []) ∙ ap (λ some. first_unit some ++ (cut_before_openers (kept inside rest)).groups) (append_assoc hand (item ∷ []) (cut_before_openers (kept inside rest)).front)

dropped-cut : (dropped : Bool) (item : Item) (rest : List Item)
    → (if dropped then cut_before_openers rest else before_cut (opens item) item (cut_before_openers rest)) ≡ cut_before_openers (unless_dropped dropped item rest)
dropped-cut true item rest = refl
dropped-cut false item rest = refl

units-are : (items : List Item) (inside : Bool) (hand : List Item) → UnitsAre inside hand items
units-are [] inside hand = ap first_unit (sym (append-nil hand)) ∙ sym (append-nil (first_unit (hand ++ [])))
units-are (item ∷ rest) inside hand =
    let now = is_inside inside item in
    units-item item rest now (is_dropped inside item) (opens item) hand (λ hand. units-are rest now hand)
    ∙ ap (λ (c : Cut). first_unit (hand ++ c.front) ++ c.groups) (dropped-cut (is_dropped inside item) item (kept now rest))

pub units-all : (items : List Item) → units_from false [] items ≡ units items
units-all items = units-are items false []

-- ---- what it puts at a place before it takes again, and where it stands then
pub record Settled (L : Type 0) : Type 0 where
  pub puts : List (Put L)
  pub side : Twin
  pub inside : Bool
  pub hand : Option PageInHand

abbrev pub put_to : {L : Type 0} → Twin → Page → List (Put L)
put_to side page = record { at = to_job side; parcel = OfPage page (mark page) } ∷ []

abbrev pub settled : {L : Type 0} → InputPlace → Settled L
settled (Takes side inside hand) = record { puts = []; side = side; inside = inside; hand = hand }
settled (PutsFull side inside page hand) = record { puts = put_to side page; side = side; inside = inside; hand = Some hand }
settled (PutsLast side page (Some opener)) = record { puts = put_to side page; side = other side; inside = true; hand = Some (begins_unit opener) }
settled (PutsLast side page None) = record { puts = put_to side page; side = other side; inside = false; hand = None }
settled (PutsEmptyA side) = record { puts = []; side = side; inside = false; hand = None }
settled (PutsEmptyB side) = record { puts = []; side = side; inside = false; hand = None }
settled HasDealt = record { puts = []; side = A; inside = false; hand = None }

abbrev pub ends_put : {L : Type 0} → Twin → Option PageInHand → List (Put L)
ends_put side None = put_to A empty_page ++ put_to B empty_page
ends_put side (Some hand) = put_to side (last_of hand) ++ (put_to A empty_page ++ put_to B empty_page)

-- all that it puts for the items ahead, and then the end
abbrev pub gives : (L : Type 0) → Twin → Bool → Option PageInHand → List Item → List (Put L)
gives L side inside hand [] = ends_put side hand
gives L side inside hand (item ∷ rest) =
    let s : Settled L = settled (deals side inside hand item) in
    s.puts ++ gives L s.side s.inside s.hand rest

-- ---- a unit as pages
abbrev pub unit_pages : List Item → List Page
unit_pages [] = empty_page ∷ []
unit_pages (item ∷ rest) = given_pages (begins_unit item) rest ++ last_of (last_hand (begins_unit item) rest) ∷ []

abbrev pub streams : List (List Item) → List Page
streams [] = []
streams (unit ∷ rest) = unit_pages unit ++ streams rest

-- ---- what a put adds at each side
module _ (L : Type 0) where
  here : (side : Twin) (page : Page) (more : List (Put L)) → put_at (to_job side) (put_to side page ++ more) ≡ OfPage page (mark page) ∷ put_at (to_job side) more
  here A page more = refl
  here B page more = refl

  elsewhere : (side : Twin) (page : Page) (more : List (Put L)) → put_at (to_job (other side)) (put_to side page ++ more) ≡ put_at (to_job (other side)) more
  elsewhere A page more = refl
  elsewhere B page more = refl

  twice : (side : Twin) → other (other side) ≡ side
  twice A = refl
  twice B = refl

  abbrev empties : List (Put L)
  empties = put_to A empty_page ++ put_to B empty_page

  empties-at : (side : Twin) → put_at (to_job side) empties ≡ as_pages (empty_page ∷ [])
  empties-at A = refl
  empties-at B = refl

  -- behind these pages of a unit under way
  abbrev pub IsDealt : Twin → List Page → List (Put L) → List (List Item) → Type 0
  IsDealt side front puts us =
      (as_pages front ++ put_at (to_job side) puts ≡ as_pages (streams (dealt us).a ++ empty_page ∷ []))
      × (put_at (to_job (other side)) puts ≡ as_pages (streams (dealt us).b ++ empty_page ∷ []))

  -- a unit that is whole, and then the others from the other side
  unit-done : (side : Twin) (front : List Page) (last : Page) (unit : List Item) (puts : List (Put L)) (us : List (List Item)) → unit_pages unit ≡ front ++ last ∷ []
      → IsDealt (other side) [] puts us → IsDealt side front (put_to side last ++ puts) (unit ∷ us)
  unit-done side front last unit puts us whole is = (
    ap (λ ps. as_pages front ++ ps) (here side last puts)
        ∙ ap (λ ps. as_pages front ++ OfPage last (mark last) ∷ ps) (sym (ap (λ of. put_at (to_job of) puts) (twice side)) ∙ is.1)
        ∙ sym (pages-append L front (last ∷ (streams (dealt us).b ++ empty_page ∷ [])))
        ∙ ap as_pages (sym (append_assoc front (last ∷ []) (streams (dealt us).b ++ empty_page ∷ []))
        ∙ ap (λ ps. ps ++ (streams (dealt us).b ++ empty_page ∷ [])) (sym whole)
        ∙ sym (append_assoc (unit_pages unit) (streams (dealt us).b) (empty_page ∷ []))),
    elsewhere side last puts ∙ is.0,
  )

  ends-dealt : (side : Twin) → IsDealt side [] empties []
  ends-dealt side = (empties-at side, empties-at (other side))

  abbrev Known : Item → List Item → PageInHand
  Known h hs = last_hand (begins_unit h) hs

  abbrev Front : Item → List Item → List Page
  Front h hs = given_pages (begins_unit h) hs

  -- of a unit under way, with these items so far
  abbrev Rightly : List Item → Type 0
  Rightly items = (side : Twin) (inside : Bool) (h : Item) (hs : List Item)
      → IsDealt side (Front h hs) (gives L side inside (Some (Known h hs)) items) (units_from inside (h ∷ hs) items)

  abbrev place_by : Twin → Bool → PageInHand → Item → Bool → Bool → Option Page → InputPlace
  place_by side group hand item dropped opening given =
      if dropped then Takes side group (Some hand)
      else if opening then PutsLast side (last_of hand) (Some item)
      else pushes side group given (hand_after hand item)

  abbrev units_by : Bool → Item → List Item → Item → List Item → Bool → Bool → List (List Item)
  units_by group h hs item rest dropped opening =
      if dropped then units_from group (h ∷ hs) rest
      else if opening then (h ∷ hs) ∷ units_from group (item ∷ []) rest
      else units_from group (h ∷ (hs ++ item ∷ [])) rest

  abbrev Goes-by : InputPlace → List Item → List (Put L)
  Goes-by x rest = (let s : Settled L = settled x in s.puts ++ gives L s.side s.inside s.hand rest)

  hand-more : (h : Item) (hs : List Item) (item : Item) → Known h (hs ++ item ∷ []) ≡ hand_after (Known h hs) item
  hand-more h hs item = hand-append (begins_unit h) hs (item ∷ [])

  front-more : (h : Item) (hs : List Item) (item : Item) → Front h (hs ++ item ∷ []) ≡ Front h hs ++ option_to_list (page_given (Known h hs) item)
  front-more h hs item = given-append (begins_unit h) hs (item ∷ []) ∙ ap (λ ps. Front h hs ++ ps) (append-nil (option_to_list (page_given (Known h hs) item)))

  one-item : (rest : List Item) → Rightly rest → (side : Twin) (group : Bool) (h : Item) (hs : List Item) (item : Item) (dropped opening : Bool) (given : Option Page)
      → (opening ≡ true → group ≡ true) → page_given (Known h hs) item ≡ given
      → IsDealt side (Front h hs) (Goes-by (place_by side group (Known h hs) item dropped opening given) rest) (units_by group h hs item rest dropped opening)
  one-item rest right side group h hs item true opening given in_it is = right side group h hs
  one-item rest right side group h hs item false true given in_it is =
      subst (λ now. IsDealt side (Front h hs) (put_to side (last_of (Known h hs)) ++ gives L (other side) true (Some (begins_unit item)) rest)
      ((h ∷ hs) ∷ units_from now (item ∷ []) rest)) (sym (in_it refl))
      (unit-done side (Front h hs) (last_of (Known h hs)) (h ∷ hs) (gives L (other side) true (Some (begins_unit item)) rest)
      (units_from true (item ∷ []) rest) refl (right (other side) true item []))
  one-item rest right side group h hs item false false None in_it is =
      let front : Front h (hs ++ item ∷ []) ≡ Front h hs = front-more h hs item ∙ ap (λ given. Front h hs ++ option_to_list given) is ∙ append-nil (Front h hs) in
      subst (λ f. IsDealt side f (gives L side group (Some (hand_after (Known h hs) item)) rest) (units_from group (h ∷ (hs ++ item ∷ [])) rest)) front
      (subst (λ k. IsDealt side (Front h (hs ++ item ∷ [])) (gives L side group (Some k) rest) (units_from group (h ∷ (hs ++ item ∷ [])) rest)) (hand-more h hs item)
      (right side group h (hs ++ item ∷ [])))
  one-item rest right side group h hs item false false (Some page) in_it is =
      let next = hand_after (Known h hs) item in
      let front : Front h (hs ++ item ∷ []) ≡ Front h hs ++ page ∷ [] = front-more h hs item ∙ ap (λ given. Front h hs ++ option_to_list given) is in
      let was = subst (λ f. IsDealt side f (gives L side group (Some next) rest) (units_from group (h ∷ (hs ++ item ∷ [])) rest)) front
      (subst (λ k. IsDealt side (Front h (hs ++ item ∷ [])) (gives L side group (Some k) rest) (units_from group (h ∷ (hs ++ item ∷ [])) rest)) (hand-more h hs item)
      (right side group h (hs ++ item ∷ []))) in (
        ap (λ ps. as_pages (Front h hs) ++ ps) (here side page (gives L side group (Some next) rest))
            ∙ sym (append_assoc (as_pages (Front h hs)) (OfPage page (mark page) ∷ []) (put_at (to_job side) (gives L side group (Some next) rest)))
            ∙ ap (λ ps. ps ++ put_at (to_job side) (gives L side group (Some next) rest)) (sym (pages-append L (Front h hs) (page ∷ []))) ∙ was.0,
        elsewhere side page (gives L side group (Some next) rest) ∙ was.1,
      )

  or-true : (t u : Bool) → t ≡ true → (t || u) ≡ true
  or-true true u e = refl
  or-true false u e = absurd cc

  under-way : (items : List Item) → Rightly items
  under-way [] side inside h hs = unit-done side (Front h hs) (last_of (Known h hs)) (h ∷ hs) empties [] refl (ends-dealt (other side))
  under-way (item ∷ rest) side inside h hs =
      one-item rest (under-way rest) side (is_inside inside item) h hs item (is_dropped inside item) (opens item) (page_given (Known h hs) item)
      (λ opening. or-true (opens item) (inside && not (is_end item)) opening) refl

  -- before the first unit
  abbrev first_place : Bool → Item → Bool → InputPlace
  first_place group item dropped = if dropped then Takes A group None else Takes A group (Some (begins_unit item))

  abbrev first_units : Bool → Item → List Item → Bool → Bool → List (List Item)
  first_units group item rest dropped opening =
      if dropped then units_from group [] rest else if opening then units_from group (item ∷ []) rest else units_from group (item ∷ []) rest

  first-item : (group : Bool) (item : Item) (rest : List Item) (dropped opening : Bool) → IsDealt A [] (gives L A group None rest) (units_from group [] rest)
      → IsDealt A [] (Goes-by (first_place group item dropped) rest) (first_units group item rest dropped opening)
  first-item group item rest true opening was = was
  first-item group item rest false true was = under-way rest A group item []
  first-item group item rest false false was = under-way rest A group item []

  deals-units : (items : List Item) (inside : Bool) → IsDealt A [] (gives L A inside None items) (units_from inside [] items)
  deals-units [] inside = ends-dealt A
  deals-units (item ∷ rest) inside =
      first-item (is_inside inside item) item rest (is_dropped inside item) (opens item) (deals-units rest (is_inside inside item))

  -- so each side gets its units, whole and in order, and then an empty stream
  pub input-deals : (items : List Item) → IsDealt A [] (gives L A false None items) (units items)
  input-deals items = subst (IsDealt A [] (gives L A false None items)) (units-all items) (deals-units items false)

-- ---- the process gets through all of its items
-- the feeds of a deck
abbrev pub deck_feeds : {L : Type 0} → List Item → List (Parcel L)
deck_feeds [] = OfFeed feed.End ∷ []
deck_feeds (item ∷ rest) = OfFeed (feed.Item item) ∷ deck_feeds rest

module _ {L : Type 0} (F : FilesAs L) where
  abbrev W : Type 0
  W = ℕ → List (Parcel L)

  abbrev Gets : InputPlace → W → List (Put L) → InputPlace → W → Type 0
  Gets x w puts y v = Goes F (input {L = L}) x w puts y v

  take-goes : (side : Twin) (inside : Bool) (hand : Option PageInHand) (w : W) (f : Feed) (rest : List (Parcel L)) → w 1 ≡ OfFeed f ∷ rest
      → Gets (Takes side inside hand) w [] (behind_feed side inside hand f) (less_one w 1)
  take-goes side inside hand w f rest e n = (
    suc n,
    omega arith,
    ap (λ ps. alone F input n (input_behind (Takes side inside hand) (reply_of (first_parcel ps))) (less_one w 1)) e,
    ap (λ ps. after F input n (input_behind (Takes side inside hand) (reply_of (first_parcel ps))) (less_one w 1)) e,
  )

  abbrev rest_at : Settled L → InputPlace
  rest_at s = Takes s.side s.inside s.hand

  -- from where an item leads to where the next is taken
  settles : (side : Twin) (x : InputPlace) (w : W) → IsOn side x → Gets x w (settled {L = L} x).puts (rest_at (settled x)) w
  settles side (Takes of inside hand) w is = stays-put F input (Takes of inside hand) w
  settles side (PutsFull of inside page hand) w is = λ n. (suc n, omega arith, refl, refl)
  settles side (PutsLast of page (Some opener)) w is = λ n. (suc n, omega arith, refl, refl)
  settles side x w is = absurd is

  ends-go : (side : Twin) (hand : Option PageInHand) (w : W) → Gets (ends_deck side hand) w (ends_put side hand) HasDealt w
  ends-go side None w n = (suc (suc n), omega arith, refl, refl)
  ends-go side (Some hand) w n = (suc (suc (suc n)), omega arith, refl, refl)

  record Dealt-all (side : Twin) (inside : Bool) (hand : Option PageInHand) (items : List Item) (w : W) : Type 0 where
    left : W
    goes : Gets (Takes side inside hand) w (gives L side inside hand items) HasDealt left

  deals-all : (items : List Item) (side : Twin) (inside : Bool) (hand : Option PageInHand) (w : W) → w 1 ≡ deck_feeds items → Dealt-all side inside hand items w
  deals-all [] side inside hand w e =
      let v = less_one w 1 in
      record {
        left = v;
        goes = goes-on F input (Takes side inside hand) (ends_deck side hand) HasDealt w v v [] (ends_put side hand) (take-goes side inside hand w feed.End [] e) (ends-go side hand v);
      }
  deals-all (item ∷ rest) side inside hand w e =
      let v = less_one w 1 in
      let x = deals side inside hand item in
      let s : Settled L = settled x in
      let later = deals-all rest s.side s.inside s.hand v (ap (drop 1) e) in
      record {
        left = later.left;
        goes = goes-on F input (Takes side inside hand) x HasDealt w v later.left [] (s.puts ++ gives L s.side s.inside s.hand rest)
            (take-goes side inside hand w (feed.Item item) (deck_feeds rest) e)
            (goes-on F input x (rest_at s) HasDealt v v later.left s.puts (gives L s.side s.inside s.hand rest) (settles side x v (deals-on side inside hand item)) later.goes);
      }

  nothing-more : (n : ℕ) (w : W) → alone F input n HasDealt w ≡ []
  nothing-more zero w = refl
  nothing-more (suc n) w = refl

  pub record InputDone (items : List Item) (w : W) : Type 0 where
    pub puts : List (Put L)
    pub left : W
    pub goes : Goes F (input {L = L}) (input {L = L}).start w puts HasDealt left
    pub over : (n : ℕ) → alone F input n HasDealt left ≡ []
    pub at_a : put_at 2 puts ≡ as_pages (streams (dealt (units items)).a ++ empty_page ∷ [])
    pub at_b : put_at 3 puts ≡ as_pages (streams (dealt (units items)).b ++ empty_page ∷ [])

  pub input-alone : (items : List Item) (w : W) → w 1 ≡ deck_feeds items → InputDone items w
  input-alone items w e =
      let all = deals-all items A false None w e in
      let is = input-deals L items in
      record { puts = gives L A false None items; left = all.left; goes = all.goes; over = λ n. nothing-more n all.left; at_a = is.0; at_b = is.1 }
