-- A page in which nothing is wrong is in the form, and a page in the form has nothing wrong.
use Rattle.std.proofs.Common.{◌≡◌, ℕ, ◌+◌, ◌-◌, ◌/◌, ◌%◌, ◌^◌, ◌≤◌, ◌<◌, Bool, false, List, [], ◌∷◌, ◌++◌, length, get_or, drop, replicate, None, refl, sym, ap, ◌∙◌, arith}
use Rattle.std.proofs.lemmas.List.{take_at, drop_at, append-nil, take-append-drop, drop-drop, length-drop, length-take-le}
use Rattle.std.proofs.lemmas.Nat.{from_be_bytes-to_be_bytes_2}
use Rattle.solo_base.specs.declared.item.Item.{Item}
use Rattle.solo_base.specs.declared.page.Page.{Page}
use Rattle.page_codec.specs.Items.{items_bytes, AreItems}
use Rattle.page_codec.specs.Form.{page_bytes, IsPage}
use Rattle.page_codec.specs.Places.{content_length, content_of}
use Rattle.page_codec.specs.Reading.{items_after, bad_item_after, bad_place}
use Rattle.page_codec.proofs.Scan.{all_read, bad_item_after-items, items_after-items}
use Rattle.page_codec.proofs.Judged.{IsGood, good_page, good_is_none, all_zero, zeros_are_zero}

abbrev pub IsBytes : List ℕ → Type 0
IsBytes bytes = (i : ℕ) → get_or bytes i 0 < 256

six_cells : (bytes : List ℕ) → 6 ≤ length bytes → bytes ≡ get_or bytes 0 0 ∷ get_or bytes 1 0 ∷ get_or bytes 2 0 ∷ get_or bytes 3 0 ∷ get_or bytes 4 0 ∷ get_or bytes 5 0 ∷ drop 6 bytes
six_cells [] long = absurd (omega arith)
six_cells (a ∷ []) long = absurd (omega arith)
six_cells (a ∷ b ∷ []) long = absurd (omega arith)
six_cells (a ∷ b ∷ c ∷ []) long = absurd (omega arith)
six_cells (a ∷ b ∷ c ∷ d ∷ []) long = absurd (omega arith)
six_cells (a ∷ b ∷ c ∷ d ∷ e ∷ []) long = absurd (omega arith)
six_cells (a ∷ b ∷ c ∷ d ∷ e ∷ f ∷ rest) long = refl

same_cells : (a b c d e f a' b' c' d' e' f' : ℕ) (l l' : List ℕ) → a ≡ a' → b ≡ b' → c ≡ c' → d ≡ d' → e ≡ e' → f ≡ f' → l ≡ l' → a ∷ b ∷ c ∷ d ∷ e ∷ f ∷ l ≡ a' ∷ b' ∷ c' ∷ d' ∷ e' ∷ f' ∷ l'
same_cells a b c d e f a' b' c' d' e' f' l l' a-is b-is c-is d-is e-is f-is l-is = cc

abbrev with_bytes : List ℕ → Page
with_bytes bytes = record { 0 = bytes }

spelled : (expected : ℕ) (last : Bool) (bytes : List ℕ) → length bytes ≡ 512 → IsBytes bytes → IsGood expected last bytes → bytes ≡ page_bytes expected last (content_of bytes)
spelled expected last bytes long fits good =
    let body = drop 6 bytes in
    let u = content_length bytes in
    let len : length (content_of bytes) ≡ u = length-take-le u body (omega (arith, good.fits, length-drop 6 bytes)) in
    let rest : drop u body ≡ replicate (506 - u) 0 =
    drop-drop u 6 bytes ∙ all_zero _ _ good.blank ∙ ap (λ (n : ℕ). replicate n 0) (omega (arith, length-drop (6 + u) bytes)) in
    let number-high : get_or bytes 0 0 ≡ expected / 256 % 256 = omega (arith, good.number, fits 0, fits 1) in
    let number-low : get_or bytes 1 0 ≡ expected % 256 = omega (arith, good.number, fits 0, fits 1) in
    let count-high : get_or bytes 4 0 ≡ length (content_of bytes) / 256 % 256 = omega (arith, len, fits 4, fits 5) in
    let count-low : get_or bytes 5 0 ≡ length (content_of bytes) % 256 = omega (arith, len, fits 4, fits 5) in
    let parts : body ≡ content_of bytes ++ replicate (506 - length (content_of bytes)) 0 = sym (take-append-drop u body) ∙ rw (len, rest) refl in
    six_cells bytes (omega arith) ∙ same_cells _ _ _ _ _ _ _ _ _ _ _ _ _ _ number-high number-low good.mark-is good.zero-is count-high count-low parts

pub is_page : (expected : ℕ) (last : Bool) (page : Page) → length page.0 ≡ 512 → IsBytes page.0 → bad_place expected last page.0 ≡ None → IsPage expected last (items_after 0 (content_of page.0)) page
is_page expected last page long fits none =
    let bytes = page.0 in
    let good = good_page expected last bytes none in
    let read = all_read (content_of bytes) 6 0 good.items in
    let content-is : content_of bytes ≡ items_bytes (items_after 0 (content_of bytes)) = read.bytes-are in
    let len : length (content_of bytes) ≡ content_length bytes = length-take-le _ _ (omega (arith, good.fits, length-drop 6 bytes)) in
    record {
      valid = read.valid;
      fits = rw (← content-is) (omega (arith, len, good.fits));
      full = λ e. rw (← content-is) (omega (arith, len, good.full e));
      spelled = rw (← content-is) (ap (λ (b : List ℕ). with_bytes b) (spelled expected last bytes long fits good));
    }

-- ---- and back

-- the content of a page in the form
pub content_again : (place : ℕ) (last : Bool) (content : List ℕ) → length content ≤ 506 → content_length (page_bytes place last content) ≡ length content
content_again place last content short = from_be_bytes-to_be_bytes_2 (length content) (omega arith)

pub taken_again : (place : ℕ) (last : Bool) (content : List ℕ) → length content ≤ 506 → content_of (page_bytes place last content) ≡ content
taken_again place last content short =
    rw (content_again place last content short) (take_at content (replicate (506 - length content) 0) (length content) refl)

good_again : (place : ℕ) (last : Bool) (items : List Item) → place < 2 ^ 16 → AreItems items → length (items_bytes items) ≤ 506 → (last ≡ false → 374 ≤ length (items_bytes items)) → IsGood place last (page_bytes place last (items_bytes items))
good_again place last items small valid short full =
    let content = items_bytes items in
    let bytes = page_bytes place last content in
    let count = content_again place last content short in
    let behind : drop (6 + length content) bytes ≡ replicate (506 - length content) 0 =
    sym (drop-drop (length content) 6 bytes) ∙ drop_at content (replicate (506 - length content) 0) (length content) refl in
    record {
      number = from_be_bytes-to_be_bytes_2 place small;
      mark-is = refl;
      zero-is = refl;
      fits = omega (arith, count);
      full = λ e. omega (arith, count, full e);
      items = rw (taken_again place last content short) (ap (λ (l : List ℕ). bad_item_after 6 0 l) (sym (append-nil content)) ∙ bad_item_after-items items 6 [] valid);
      blank = rw (count, behind) (zeros_are_zero (506 - length content) (6 + length content));
    }

pub nothing_wrong_again : (place : ℕ) (last : Bool) (items : List Item) (page : Page) → place < 2 ^ 16 → IsPage place last items page → bad_place place last page.0 ≡ None
nothing_wrong_again place last items page small form =
    rw form.spelled (good_is_none place last (page_bytes place last (items_bytes items)) (good_again place last items small form.valid form.fits form.full))

pub items_again : (place : ℕ) (last : Bool) (items : List Item) (page : Page) → IsPage place last items page → items_after 0 (content_of page.0) ≡ items
items_again place last items page form =
    rw (form.spelled, taken_again place last (items_bytes items) form.fits)
    (ap (λ (l : List ℕ). items_after 0 l) (sym (append-nil (items_bytes items))) ∙ items_after-items items [] form.valid ∙ append-nil items)
