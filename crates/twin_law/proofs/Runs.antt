-- Pages in order: each is the one that is awaited at its place in its stream, and behind the last page of a stream the next one begins.
use Rattle.std.proofs.Common.{◌≡◌, ◌≤◌, ◌<◌, ℕ, zero, suc, ◌+◌, ◌%◌, ◌^◌, Bool, true, false, if◌then◌else◌, List, [], ◌∷◌, ◌++◌, length, drop, Option, None, Some, refl, sym, ◌∙◌, ap, subst, arith}
use Rattle.std.specs.Prelude.{nat_le}
use Rattle.std.specs.List.{AllByRecursion}
use Rattle.std.proofs.lemmas.Bool.Decides.{nat_tests}
use Rattle.std.proofs.lemmas.List.{append-nil, length-append}
use Rattle.solo_base.specs.declared.item.Item.{Item}
use Rattle.solo_base.specs.declared.page.Page.{Page}
use Rattle.page_codec.specs.Form.{page_of, IsPage}
use Rattle.page_codec.specs.Items.{item_bytes, items_bytes, IsItem, AreItems}
use Rattle.page_codec.specs.Packing.{PageInHand, first_page, page_given, hand_after, fits}
use Rattle.page_codec.specs.Reading.{page_read}
use Rattle.page_codec.proofs.Cutting.{items_bytes-push, AreItems-append, item_is_short, page_of-same}
use Rattle.batch_procs.specs.Parcels.{Parcel, OfFeed, OfPage, OfLine, OfLoad, mark}
use Rattle.twin_law.specs.Input.{last_of, empty_page, begins_unit}
use Rattle.twin_law.specs.Job.{damage}
use Rattle.twin_law.specs.Output.{is_some}
use Rattle.twin_law.proofs.Strips.{good, read-back, marked-so, empty-form}

-- ---- the page that is awaited at a place
pub record IsDue (n : ℕ) (last : Bool) (page : Page) : Type 0 where
  pub items : List Item
  pub form : IsPage n last items page

pub read-due : (n : ℕ) (last : Bool) (page : Page) → (due : IsDue n last page) → page_read (n % 2 ^ 16) last page ≡ good due.items last
read-due n last page due = read-back n last due.items page due.form

pub due-damage : (n : ℕ) (last : Bool) (page : Page) → IsDue n last page → damage (page_read (n % 2 ^ 16) last page) ≡ None
due-damage n last page due = ap damage (read-due n last page due)

some-full : (n : ℕ) (last : Bool) (items : List Item) (page : Page) → IsPage n last items page → last ≡ false → is_some items ≡ true
some-full n last [] page form e = absurd (let full = form.full e in omega (arith, full))
some-full n last (item ∷ items) page form e = refl

-- one that isn't the last has an item
pub due-some : (n : ℕ) (last : Bool) (page : Page) → (due : IsDue n last page) → last ≡ false → is_some due.items ≡ true
due-some n last page due e = some-full n last due.items page due.form e

pub empty-due : IsDue 0 true empty_page
empty-due = record { items = []; form = empty-form }

-- ---- lists of pages
-- the place behind a page
abbrev pub turned : ℕ → Bool → ℕ
turned n true = 0
turned n false = n + 1

module _ {L : Type 0} where
  abbrev pub IsRun : ℕ → List (Parcel L) → Type 0
  IsRun n [] = Unit {0}
  IsRun n (OfPage page last ∷ rest) = IsDue n last page × IsRun (turned n last) rest
  IsRun n (OfFeed f ∷ rest) = ⊥
  IsRun n (OfLine line ∷ rest) = ⊥
  IsRun n (OfLoad load ∷ rest) = ⊥

  -- the place behind all of them
  abbrev pub turn : ℕ → List (Parcel L) → ℕ
  turn n [] = n
  turn n (OfPage page last ∷ rest) = turn (turned n last) rest
  turn n (OfFeed f ∷ rest) = turn n rest
  turn n (OfLine line ∷ rest) = turn n rest
  turn n (OfLoad load ∷ rest) = turn n rest

  turn-append : (n : ℕ) (ps more : List (Parcel L)) → turn n (ps ++ more) ≡ turn (turn n ps) more
  turn-append n [] more = refl
  turn-append n (OfPage page last ∷ ps) more = turn-append (turned n last) ps more
  turn-append n (OfFeed f ∷ ps) more = turn-append n ps more
  turn-append n (OfLine line ∷ ps) more = turn-append n ps more
  turn-append n (OfLoad load ∷ ps) more = turn-append n ps more

  pub turn-page : (n : ℕ) (ps : List (Parcel L)) (page : Page) (last : Bool) → turn 0 ps ≡ n → turn 0 (ps ++ OfPage page last ∷ []) ≡ turned n last
  turn-page n ps page last at = turn-append 0 ps (OfPage page last ∷ []) ∙ ap (λ m. turned m last) at

  pub run-first : (n : ℕ) (ps more : List (Parcel L)) → IsRun n (ps ++ more) → IsRun n ps
  run-first n [] more is = tt
  run-first n (OfPage page last ∷ ps) more is = (is.0, run-first (turned n last) ps more is.1)
  run-first n (OfFeed f ∷ ps) more is = is
  run-first n (OfLine line ∷ ps) more is = is
  run-first n (OfLoad load ∷ ps) more is = is

  run-next : (n : ℕ) (ps : List (Parcel L)) (page : Page) (last : Bool) → IsRun n (ps ++ OfPage page last ∷ []) → IsDue (turn n ps) last page
  run-next n [] page last is = is.0
  run-next n (OfPage other mark ∷ ps) page last is = run-next (turned n mark) ps page last is.1
  run-next n (OfFeed f ∷ ps) page last is = absurd is
  run-next n (OfLine line ∷ ps) page last is = absurd is
  run-next n (OfLoad load ∷ ps) page last is = absurd is

  run-on : (n : ℕ) (ps : List (Parcel L)) (page : Page) (last : Bool) → IsRun n ps → IsDue (turn n ps) last page → IsRun n (ps ++ OfPage page last ∷ [])
  run-on n [] page last is due = (due, tt)
  run-on n (OfPage other mark ∷ ps) page last is due = (is.0, run-on (turned n mark) ps page last is.1 due)
  run-on n (OfFeed f ∷ ps) page last is due = is
  run-on n (OfLine line ∷ ps) page last is due = is
  run-on n (OfLoad load ∷ ps) page last is due = is

  -- the one that is taken at this place
  pub next-due : (n : ℕ) (ps : List (Parcel L)) (page : Page) (last : Bool) → turn 0 ps ≡ n → IsRun 0 (ps ++ OfPage page last ∷ []) → IsDue n last page
  next-due n ps page last at is = subst (λ m. IsDue m last page) at (run-next 0 ps page last is)

  -- pages in order, and the place behind them
  pub record GoesOn (n : ℕ) (ps : List (Parcel L)) : Type 0 where
    pub run : IsRun 0 ps
    pub at : turn 0 ps ≡ n

  -- a page is put with its mark
  pub put-on : (n : ℕ) (ps : List (Parcel L)) (last : Bool) (page : Page) → GoesOn n ps → IsDue n last page
      → GoesOn (turned n last) (ps ++ OfPage page (mark page) ∷ [])
  put-on n ps last page goes due =
      let same : mark page ≡ last = marked-so n last due.items page due.form in
      let here : IsDue (turn 0 ps) (mark page) page =
      subst (λ m. IsDue m (mark page) page) (sym goes.at) (subst (λ (l : Bool). IsDue n l page) (sym same) due) in
      record { run = run-on 0 ps page (mark page) goes.run here; at = turn-page n ps page (mark page) goes.at ∙ ap (turned n) same }

  pub none-behind : (xs ys : List (Parcel L)) → ys ≡ [] → xs ++ ys ≡ xs
  none-behind xs ys e = ap (λ (ys : List (Parcel L)). xs ++ ys) e ∙ append-nil xs

  -- nothing more in two lists
  pub as-was : (P : List (Parcel L) → List (Parcel L) → Type 0) (f g : List (Parcel L)) → P f g → P (f ++ []) (g ++ [])
  as-was P f g is = subst (λ (f : List (Parcel L)). P f (g ++ [])) (sym (append-nil f)) (subst (λ (g : List (Parcel L)). P f g) (sym (append-nil g)) is)

-- ---- the page in hand, at a place
pub record InHand (n : ℕ) (hand : PageInHand) : Type 0 where
  pub items : List Item
  pub valid : AreItems items
  pub few : length (items_bytes items) ≤ 506
  pub number : hand.place % 65536 ≡ n % 65536
  pub bytes : hand.content ≡ items_bytes items

pub first-hand : InHand 0 first_page
first-hand = record { items = []; valid = tt; few = omega arith; number = refl; bytes = refl }

spelled-so : (n : ℕ) (hand : PageInHand) (last : Bool) → (has : InHand n hand) → page_of hand.place last hand.content ≡ page_of n last (items_bytes has.items)
spelled-so n hand last has = page_of-same hand.place n last hand.content has.number ∙ ap (page_of n last) has.bytes

pub last-due : (n : ℕ) (hand : PageInHand) → InHand n hand → IsDue n true (last_of hand)
last-due n hand has = record {
  items = has.items;
  form = record { valid = has.valid; fits = has.few; full = λ e. absurd cc; spelled = spelled-so n hand true has };
}

fits-so : (n : ℕ) → nat_le n 506 ≡ true → n ≤ 506
fits-so n e = grind (arith, nat_tests)

fits-not : (n : ℕ) → nat_le n 506 ≡ false → 506 < n
fits-not n e = grind (arith, nat_tests)

-- behind a push: a page goes out, or it is still the page in hand
abbrev pub Pushed : ℕ → Option Page → PageInHand → Type 0
Pushed n None hand = InHand n hand
Pushed n (Some page) hand = IsDue n false page × InHand (n + 1) hand

grown : (n : ℕ) (hand : PageInHand) (item : Item) → InHand n hand → IsItem item → length (hand.content ++ item_bytes item) ≤ 506
    → InHand n (record hand { content = hand.content ++ item_bytes item })
grown n hand item has valid short =
    let same : hand.content ++ item_bytes item ≡ items_bytes (has.items ++ item ∷ []) =
    ap (λ (l : List ℕ). l ++ item_bytes item) has.bytes ∙ sym (items_bytes-push has.items item) in
    record {
      items = has.items ++ item ∷ [];
      valid = AreItems-append has.items (item ∷ []) has.valid (valid, tt);
      few = subst (λ (l : List ℕ). length l ≤ 506) same short;
      number = has.number;
      bytes = same;
    }

begun : (n : ℕ) (hand : PageInHand) (item : Item) → InHand n hand → IsItem item
    → InHand (n + 1) (record { place = (hand.place + 1) % 2 ^ 16; content = item_bytes item })
begun n hand item has valid =
    let alone : items_bytes (item ∷ []) ≡ item_bytes item = append-nil (item_bytes item) in
    record {
      items = item ∷ [];
      valid = (valid, tt);
      few = (let short = item_is_short item valid in let same = ap length alone in omega (arith, short, same));
      number = (let same = has.number in omega (arith, same));
      bytes = sym alone;
    }

full-due : (n : ℕ) (hand : PageInHand) (item : Item) → InHand n hand → IsItem item → 506 < length (hand.content ++ item_bytes item)
    → IsDue n false (page_of hand.place false hand.content)
full-due n hand item has valid long =
    let here : 506 < length (items_bytes has.items ++ item_bytes item) = subst (λ (l : List ℕ). 506 < length (l ++ item_bytes item)) has.bytes long in
    let both = length-append (items_bytes has.items) (item_bytes item) in
    let short = item_is_short item valid in
    record {
      items = has.items;
      form = record { valid = has.valid; fits = has.few; full = λ _. omega (arith, here, both, short); spelled = spelled-so n hand false has };
    }

pub pushed : (n : ℕ) (hand : PageInHand) (item : Item) → InHand n hand → IsItem item → Pushed n (page_given hand item) (hand_after hand item)
pushed n hand item has valid =
    elim (fits hand item) as (λ t. fits hand item ≡ t → Pushed n (if t then None else Some (page_of hand.place false hand.content))
    (if t then record hand { content = hand.content ++ item_bytes item } else record { place = (hand.place + 1) % 2 ^ 16; content = item_bytes item })) [
      | true ↦ (λ e. grown n hand item has valid (fits-so (length (hand.content ++ item_bytes item)) e))
      | false ↦ (λ e. (full-due n hand item has valid (fits-not (length (hand.content ++ item_bytes item)) e), begun n hand item has valid))
    ] refl

-- the first item of a unit
pub begun-unit : (item : Item) → IsItem item → InHand 0 (begins_unit item)
begun-unit item valid =
    elim (fits first_page item) as (λ t. fits first_page item ≡ t
    → InHand 0 (if t then record first_page { content = [] ++ item_bytes item } else record { place = (0 + 1) % 2 ^ 16; content = item_bytes item })) [
      | true ↦ (λ e. grown 0 first_page item first-hand valid (fits-so (length (item_bytes item)) e))
      | false ↦ (λ e. absurd (let long = fits-not (length (item_bytes item)) e in let short = item_is_short item valid in omega (arith, long, short)))
    ] refl

-- ---- lists
pub all-drop : {T : Type 0} (Is : T → Type 0) (n : ℕ) (xs : List T) → AllByRecursion Is xs → AllByRecursion Is (drop n xs)
all-drop Is zero xs is = is
all-drop Is (suc n) [] is = tt
all-drop Is (suc n) (x ∷ xs) is = all-drop Is n xs is.1
