-- A page of lines is read back, and the pages of lines are pages.
use Rattle.std.proofs.Common.{◌≡◌, ℕ, suc, ◌+◌, ◌%◌, ◌^◌, ◌≤◌, ◌<◌, Bool, true, false, if◌then◌else◌, List, [], ◌∷◌, ◌++◌, length, map, None, refl, sym, ◌∙◌, ap, subst, arith, append_assoc}
use Rattle.std.specs.List.{AllByRecursion}
use Rattle.std.proofs.lemmas.Bool.{leb-true, leb-false}
use Rattle.std.proofs.lemmas.List.{append-nil}
use Rattle.std.proofs.lemmas.List as lists
use Rattle.solo_base.specs.Line.{IsLine}
use Rattle.solo_base.specs.declared.item.Item.{Item}
use Rattle.solo_base.specs.declared.item.Item.TheVariants.{Line, Spoiled}
use Rattle.page_codec.specs.declared.form.TheConstants.{CONTENT_ROOM}
use Rattle.page_codec.specs.Items.{item_bytes, items_bytes, AreItems}
use Rattle.page_codec.specs.Form.{IsPage, page_of}
use Rattle.page_codec.specs.Reading.{page_read}
use Rattle.page_codec.proofs.Pages.{nothing_wrong_again, items_again}
use Rattle.page_codec.proofs.Taking.{read_taken}
use Rattle.exchange_law.specs.Pages.{is_last, bytes_of, has_room_for, page_with, ArePage, pages_of, page_gives, items_read, damage, lines_of}

abbrev pub AreLines : List (List ℕ) → Type 0
AreLines lines = AllByRecursion IsLine lines

pub all-both : (some more : List (List ℕ)) → AreLines some → AreLines more → AreLines (some ++ more)
all-both [] more a b = b
all-both (x ∷ some) more a b = (a.0, all-both some more a.1 b)

pub are-items : (lines : List (List ℕ)) → AreLines lines → AreItems (map Line lines)
are-items [] are = tt
are-items (line ∷ lines) are = (are.0, are-items lines are.1)

-- ---- the mark of a page
pub marked : (place : ℕ) (last : Bool) (content : List ℕ) → is_last (page_of place last content) ≡ last
marked place true content = refl
marked place false content = refl

pub marked-with : (n : ℕ) (last : Bool) (lines : List (List ℕ)) → is_last (page_with n last lines) ≡ last
marked-with n last lines = marked (n % 2 ^ 16) last (items_bytes (map Line lines))

-- ---- a page is read back
pub lines-again : (lines : List (List ℕ)) → lines_of (map Line lines) ≡ lines
lines-again [] = refl
lines-again (line ∷ lines) = ap (λ x. line ∷ x) (lines-again lines)

pub lines-append : (some more : List Item) → lines_of (some ++ more) ≡ lines_of some ++ lines_of more
lines-append [] more = refl
lines-append (Line line ∷ some) more = ap (λ x. line ∷ x) (lines-append some more)
lines-append (Spoiled ∷ some) more = lines-append some more

is-page : (n : ℕ) (last : Bool) (lines : List (List ℕ)) → ArePage last lines → IsPage (n % 2 ^ 16) last (map Line lines) (page_with n last lines)
is-page n last lines is = record { valid = is.valid; fits = is.fits; full = is.full; spelled = refl }

below : (n : ℕ) → n % 2 ^ 16 < 2 ^ 16
below n = omega arith

pub read-again : (n : ℕ) (last : Bool) (lines : List (List ℕ)) → ArePage last lines → items_read (page_gives n (page_with n last lines)) ≡ map Line lines
read-again n last lines is =
    let page = page_with n last lines in
    let form = is-page n last lines is in
    ap (λ t. items_read (page_read (n % 2 ^ 16) t page)) (marked-with n last lines)
    ∙ ap items_read (read_taken (n % 2 ^ 16) last page (nothing_wrong_again (n % 2 ^ 16) last (map Line lines) page (below n) form))
    ∙ items_again (n % 2 ^ 16) last (map Line lines) page form

pub undamaged : (n : ℕ) (last : Bool) (lines : List (List ℕ)) → ArePage last lines → damage (page_gives n (page_with n last lines)) ≡ None
undamaged n last lines is =
    let page = page_with n last lines in
    let form = is-page n last lines is in
    ap (λ t. damage (page_read (n % 2 ^ 16) t page)) (marked-with n last lines)
    ∙ ap damage (read_taken (n % 2 ^ 16) last page (nothing_wrong_again (n % 2 ^ 16) last (map Line lines) page (below n) form))

pub lines-of-page : (n : ℕ) (last : Bool) (lines : List (List ℕ)) → ArePage last lines
    → lines_of (items_read (page_gives n (page_with n last lines))) ≡ lines
lines-of-page n last lines is = ap lines_of (read-again n last lines is) ∙ lines-again lines

-- ---- lines in hand
pub record HandFits (hand : List (List ℕ)) : Type 0 where
  pub lines : AreLines hand
  pub room : bytes_of hand ≤ CONTENT_ROOM

one-item : (n m : ℕ) → m ≡ suc n + 0 → m ≡ 0 + (n + 1)
one-item n m e = omega (arith, e)

further : (a b c d x y : ℕ) → a ≡ x + b → c ≡ x + d → b ≡ d + y → a ≡ c + y
further a b c d x y e f g = omega (arith, e, f, g)

bytes-append : (some : List (List ℕ)) (line : List ℕ) → bytes_of (some ++ line ∷ []) ≡ bytes_of some + (length line + 1)
bytes-append [] line = one-item (length line) _ (lists.length-append (item_bytes (Line line)) [])
bytes-append (first ∷ some) line =
    further _ _ _ _ _ _ (lists.length-append (item_bytes (Line first)) (items_bytes (map Line (some ++ line ∷ []))))
    (lists.length-append (item_bytes (Line first)) (items_bytes (map Line some))) (bytes-append some line)

pub empty-fits : HandFits []
empty-fits = record { lines = tt; room = omega arith }

one-room : (n m : ℕ) → n ≤ 132 → m ≡ 0 + (n + 1) → m ≤ 506
one-room n m short e = omega (arith, short, e)

pub one-fits : (line : List ℕ) → IsLine line → HandFits (line ∷ [])
one-fits line is = record { lines = (is, tt); room = one-room (length line) _ is.short (bytes-append [] line) }

pub more-fits : (hand : List (List ℕ)) (line : List ℕ) → HandFits hand → IsLine line → has_room_for hand line ≡ true → HandFits (hand ++ line ∷ [])
more-fits hand line is valid room = record {
  lines = all-both hand (line ∷ []) is.lines (valid, tt);
  room = leb-true (bytes_of (hand ++ line ∷ [])) CONTENT_ROOM room;
}

enough : (a n m : ℕ) → 506 < m → m ≡ a + (n + 1) → n ≤ 132 → 374 ≤ a
enough a n m over sum short = omega (arith, over, sum, short)

-- behind a line that has no room the lines in hand are a page that isn't the last
pub full-page : (hand : List (List ℕ)) (line : List ℕ) → HandFits hand → IsLine line → has_room_for hand line ≡ false → ArePage false hand
full-page hand line is valid none = record {
  valid = are-items hand is.lines;
  fits = is.room;
  full = λ e. enough (bytes_of hand) (length line) _ (leb-false (bytes_of (hand ++ line ∷ [])) CONTENT_ROOM none) (bytes-append hand line) valid.short;
}

pub last-page : (hand : List (List ℕ)) → HandFits hand → ArePage true hand
last-page hand is = record { valid = are-items hand is.lines; fits = is.room; full = λ e. absurd cc }

-- ---- the first of the pages of some lines
pub data Walk (n : ℕ) (hand rest : List (List ℕ)) : Type 0 where
  LastOf : pages_of n hand rest ≡ page_with n true (hand ++ rest) ∷ [] → ArePage true (hand ++ rest) → Walk n hand rest
  FullOf : (front : List (List ℕ)) (line : List ℕ) (later : List (List ℕ))
      → pages_of n hand rest ≡ page_with n false front ∷ pages_of (suc n) (line ∷ []) later → hand ++ rest ≡ front ++ (line ∷ later)
      → ArePage false front → IsLine line → AreLines later → Walk n hand rest

pub walk : (n : ℕ) (hand rest : List (List ℕ)) → HandFits hand → AreLines rest → Walk n hand rest
walk n hand [] fits are =
    LastOf (ap (λ lines. page_with n true lines ∷ []) (sym (append-nil hand))) (subst (ArePage true) (sym (append-nil hand)) (last-page hand fits))
walk n hand (line ∷ rest) fits are =
    let P : Bool → Type 0 = λ t. has_room_for hand line ≡ t → Walk n hand (line ∷ rest) in
    elim (has_room_for hand line) as P [
      | true ↦ (λ room. let e : pages_of n hand (line ∷ rest) ≡ pages_of n (hand ++ line ∷ []) rest =
          ap (λ t. if t then pages_of n (hand ++ line ∷ []) rest else page_with n false hand ∷ pages_of (suc n) (line ∷ []) rest) room in
          let whole = append_assoc hand (line ∷ []) rest in
          elim (walk n (hand ++ line ∷ []) rest (more-fits hand line fits are.0 room) are.1) as (λ _. Walk n hand (line ∷ rest)) [
            | LastOf is page ↦ LastOf (e ∙ is ∙ ap (λ lines. page_with n true lines ∷ []) whole) (subst (ArePage true) whole page)
            | FullOf front next later is parts page valid more ↦ FullOf front next later (e ∙ is) (sym whole ∙ parts) page valid more
          ])
      | false ↦ (λ none. FullOf hand line rest
          (ap (λ t. if t then pages_of n (hand ++ line ∷ []) rest else page_with n false hand ∷ pages_of (suc n) (line ∷ []) rest) none) refl
          (full-page hand line fits are.0 none) are.0 are.1)
    ] refl
