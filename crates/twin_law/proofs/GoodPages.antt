-- A page that is read has 506 items at most, and these are items.
use Rattle.std.proofs.Common.{◌≡◌, ◌≤◌, ℕ, zero, suc, ◌==◌, Bool, true, false, ◌&&◌, not, if◌then◌else◌, List, [], ◌∷◌, length, take, drop, Option, None, Some, Result, Ok, Err, refl, arith}
use Rattle.std.specs.Prelude.{nat_le, slice_index}
use Rattle.std.proofs.lemmas.Bool.Decides.{nat_tests}
use Rattle.solo_base.specs.PageBytes.{number_at}
use Rattle.solo_base.specs.declared.item.Item.{Item}
use Rattle.solo_base.specs.declared.page.Page.{Page}
use Rattle.page_codec.specs.declared.judge.BadPage.{BadPage}
use Rattle.page_codec.specs.Form.{mark}
use Rattle.page_codec.specs.Places.{content_length, content_of}
use Rattle.page_codec.specs.Reading.{PageContent, characters, items_after, has_length, or_else, bad_body, bad_place, content_or_bad, page_read}
use Rattle.page_codec.specs.Items.{AreItems}
use Rattle.page_codec.proofs.Scan.{all_read}
use Rattle.place_law.specs.Process.{fault_in}
use Rattle.twin_law.specs.Job.{damage}
use Rattle.twin_law.proofs.CallsMade.{item_count}

items-few : (passed : ℕ) (bytes : List ℕ) → length (items_after passed bytes) ≤ length bytes
items-few passed [] = omega arith
items-few (suc passed) (byte ∷ rest) = let few = items-few passed rest in omega (arith, few)
items-few zero (byte ∷ rest) = let few = items-few (characters byte) rest in omega (arith, few)

take-most : (n : ℕ) (xs : List ℕ) → length (take n xs) ≤ n
take-most zero xs = omega arith
take-most (suc n) [] = omega arith
take-most (suc n) (x ∷ xs) = let few = take-most n xs in omega (arith, few)

-- none of a row of tests finds anything
record Passes (d : Bool) (rest : Option ℕ) : Type 0 where
  fourth : d ≡ false
  behind : rest ≡ None

passes : (a b c d : Bool) (rest : Option ℕ) → (if a then Some 0 else if b then Some 2 else if c then Some 3 else if d then Some 4 else rest) ≡ None
    → Passes d rest
passes true b c d rest e = absurd cc
passes false true c d rest e = absurd cc
passes false false true d rest e = absurd cc
passes false false false true rest e = absurd cc
passes false false false false rest e = record { fourth = refl; behind = e }

and-first : (a b : Bool) → not (a && b) ≡ false → a ≡ true
and-first true b e = refl
and-first false b e = absurd cc

neither : (a b : Option ℕ) → or_else a b ≡ None → a ≡ None
neither None b e = refl
neither (Some at) b e = absurd cc

room : (n : ℕ) → nat_le n 506 ≡ true → n ≤ 506
room n e = grind (arith, nat_tests)

record IsSound (bytes : List ℕ) : Type 0 where
  few : length (items_after 0 (content_of bytes)) ≤ 506
  are : AreItems (items_after 0 (content_of bytes))

sound : (place : ℕ) (last : Bool) (bytes : List ℕ) → bad_place place last bytes ≡ None → IsSound bytes
sound place last bytes e =
    let all = passes (not (number_at bytes 0 == place)) (not (slice_index bytes 2 == mark last)) (not (slice_index bytes 3 == 0))
    (not (has_length last (content_length bytes))) (bad_body (content_length bytes) bytes) e in
    let within = room (content_length bytes) (and-first (nat_le (content_length bytes) 506) _ all.fourth) in
    let taken = take-most (content_length bytes) (drop 6 bytes) in
    let few = items-few 0 (content_of bytes) in
    record { few = omega (arith, within, taken, few); are = (all_read (content_of bytes) 6 0 (neither _ _ all.behind)).valid }

-- what holds of a page with few items, and of a damaged one, holds of a page
pub good-page : (P : Result PageContent BadPage → Type 0) (n : ℕ) (last : Bool) (page : Page)
    → ((items : List Item) → length items ≤ 506 → AreItems items → P (Ok (record { items = items; last = last }))) → ((bad : BadPage) → P (Err bad))
    → P (page_read n last page)
good-page P n last page good bad = by (bad_place n last page.0) refl where
  by : (at : Option ℕ) → bad_place n last page.0 ≡ at → P (content_or_bad n last page.0 at)
  by None e = (let s = sound n last page.0 e in good (items_after 0 (content_of page.0)) s.few s.are)
  by (Some at) e = bad _

-- one that isn't damaged has few items
pub good-count : (n : ℕ) (last : Bool) (page : Page) → fault_in (damage (page_read n last page)) ≡ None → item_count page ≤ 506
good-count n last page = by (bad_place n last page.0) refl where
  by : (at : Option ℕ) → bad_place n last page.0 ≡ at → fault_in (damage (content_or_bad n last page.0 at)) ≡ None → item_count page ≤ 506
  by None e none = (sound n last page.0 e).few
  by (Some at) e none = absurd cc
