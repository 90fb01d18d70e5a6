-- Bit maps as lists of bytes, and the maps that are read from them.
use Rattle.std.proofs.Common.{◌≡◌, ℕ, suc, zero, ◌+◌, ◌*◌, ◌/◌, ◌%◌, ◌<◌, ◌≤◌, Bool, true, false, cond, ◌-◌, ◌==◌, ◌||◌, ◌&&◌, List, length, replicate, get_or, nat_lt, ap, sym, subst, ◌∙◌, refl, inl, inr, arith, add-one}
use Rattle.std.specs.FinSet as set
use Rattle.std.specs.Int.{bit_at}
use Rattle.std.proofs.lemmas.Nat.Bits.{bit_at-zero, bit_at-lt, same_from_bits_below}
use Rattle.std.proofs.lemmas.Bool.{cases_eq, cases_lt, lt-ltb, le-ltb, eq-eqb, eqb-true}
use Rattle.std.proofs.lemmas.Grind.{same_number_lists}
use Rattle.solo_base.specs.declared.page.Page.{Page}
use Rattle.solo_base.specs.PageBytes.{zero_page}
use Rattle.disk_pages.specs.Bits.{has_bit, is_marked, EndsInZeros, Marks}
use Rattle.disk_pages.specs.Pages.{Pages, marked_pages, IsReadFrom, IsBitMap, IsPage, IsKept}
use Rattle.disk_pages.proofs.MarkedPages.{insert_is, one_passes, none_passes, contains-marked_page, contains-marked_pages, marked_pages_are, len_first_marked}

get_or_zeros : (n k : ℕ) → ◌≡◌ {A = ℕ} (get_or (replicate n 0) k 0) 0
get_or_zeros zero k = refl
get_or_zeros (suc n) zero = refl
get_or_zeros (suc n) (suc k) = get_or_zeros n k

bit_of_zeros : (bytes : List ℕ) (q : ℕ) → bytes ≡ zero_page → has_bit bytes q ≡ false
bit_of_zeros bytes q zeros =
    ap (λ b. bit_at b (q % 8) == 1) (ap (λ bs. get_or bs (q / 8) 0) zeros ∙ get_or_zeros 512 (q / 8)) ∙ ap (λ b. b == 1) (bit_at-zero (q % 8))

-- pages of zeros mark no page
pub none_marked : (low high : Page) → low.0 ≡ zero_page → high.0 ≡ zero_page → (q : ℕ) → is_marked low high q ≡ nat_lt q 0
none_marked low high low_zeros high_zeros q = elim (nat_lt q 4096) as (λ b. cond b (has_bit low.0 q) (has_bit high.0 (q - 4096)) ≡ nat_lt q 0) [
  | true ↦ bit_of_zeros low.0 q low_zeros ∙ sym (le-ltb q 0 (omega arith))
  | false ↦ bit_of_zeros high.0 (q - 4096) high_zeros ∙ sym (le-ltb q 0 (omega arith))
]

pub zeros_end : (high : Page) → high.0 ≡ zero_page → EndsInZeros high
zeros_end high zeros k behind = ap (λ bs. get_or bs k 0) zeros ∙ get_or_zeros 512 k

-- one more page of the first ones is marked
pub marks_next : (n : ℕ) (low high low' high' : Page) → Marks n true low high low' high' → ((q : ℕ) → is_marked low high q ≡ nat_lt q n) → (q : ℕ) → is_marked low' high' q ≡ nat_lt q (n + 1)
marks_next n low high low' high' marks first q = elim (cases_eq q n) [
  | inl here ↦ ap (is_marked low' high') here ∙ marks.marked ∙ sym (lt-ltb q (n + 1) (omega arith))
  | inr apart ↦ marks.others q apart ∙ first q ∙ elim (cases_lt q n) [
    | inl below ↦ lt-ltb q n below ∙ sym (lt-ltb q (n + 1) (omega arith))
    | inr past ↦ le-ltb q n past ∙ sym (le-ltb q (n + 1) (omega arith))
  ]
]

pub kept_first : (low high : Page) (n : ℕ) → n ≡ 18 → ((q : ℕ) → is_marked low high q ≡ nat_lt q n) → EndsInZeros high → IsKept low high 18 4270
kept_first low high n all first zeros = record {
  system = omega arith;
  within = omega arith;
  taken = λ q below. first q ∙ lt-ltb q n (omega arith);
  zeros = zeros;
  count = omega (arith, len_first_marked low high n (omega arith) first);
}

pub first_pages : (low high : Page) (n : ℕ) → n ≡ 18 → ((q : ℕ) → is_marked low high q ≡ nat_lt q n) → (q : ℕ) → set.contains (marked_pages low high) q ≡ nat_lt q 18
first_pages low high n all first q = contains-marked_pages low high q ∙ ap (λ b. nat_lt q 4288 && b) (first q ∙ ap (nat_lt q) all) ∙ elim (cases_lt q 4288) [
  | inl below ↦ ap (λ b. b && nat_lt q 18) (lt-ltb q 4288 below)
  | inr past ↦ ap (λ b. b && nat_lt q 18) (le-ltb q 4288 past) ∙ sym (le-ltb q 18 (omega arith))
]

or_swap : (a b c : Bool) → (a || (b || c)) ≡ (b || (a || c))
or_swap true true c = refl
or_swap true false c = refl
or_swap false b c = refl

-- the page of the next bit is taken where the bit is 1
module _ (low high : Page) (taken : Pages) (n q : ℕ) (so_far : set.contains taken q ≡ (nat_lt q 18 || (nat_lt q n && is_marked low high q))) where
  pub one_more_read : is_marked low high n ≡ true → set.contains (set.insert taken n) q ≡ (nat_lt q 18 || (nat_lt q (n + 1) && is_marked low high q))
  one_more_read one =
      insert_is taken n q ∙ ap (λ b. (q == n) || b) so_far ∙ or_swap (q == n) (nat_lt q 18) (nat_lt q n && is_marked low high q)
      ∙ ap (λ b. nat_lt q 18 || b) (one_passes (is_marked low high) n q one) ∙ ap (λ k. nat_lt q 18 || (nat_lt q k && is_marked low high q)) (sym (add-one n))

  pub none_more_read : is_marked low high n ≡ false → set.contains taken q ≡ (nat_lt q 18 || (nat_lt q (n + 1) && is_marked low high q))
  none_more_read none =
      so_far ∙ ap (λ b. nat_lt q 18 || b) (none_passes (is_marked low high) n q none) ∙ ap (λ k. nat_lt q 18 || (nat_lt q k && is_marked low high q)) (sym (add-one n))

-- a bit map names the first pages itself
system_named : (low high : Page) → ((n : ℕ) → n < 18 → is_marked low high n ≡ true) → (q : ℕ) → (nat_lt q 18 || (nat_lt q 4288 && is_marked low high q)) ≡ (nat_lt q 4288 && is_marked low high q)
system_named low high system q = elim (cases_lt q 18) [
  | inl below ↦ ap (λ b. b || (nat_lt q 4288 && is_marked low high q)) (lt-ltb q 18 below) ∙ sym (ap (λ b. b && is_marked low high q) (lt-ltb q 4288 (omega arith)) ∙ system q below)
  | inr past ↦ ap (λ b. b || (nat_lt q 4288 && is_marked low high q)) (le-ltb q 18 past)
]

-- reading what was written gives the same set
read_again : (low high : Page) (taken : Pages) → ((n : ℕ) → n < 18 → is_marked low high n ≡ true) → IsReadFrom low high taken → taken ≡ marked_pages low high
read_again low high taken system read = marked_pages_are low high taken (λ q. read q ∙ system_named low high system q)

-- bits that pass one test are one
same_bit : (a b : ℕ) → a < 2 → b < 2 → (a == 1) ≡ (b == 1) → a ≡ b
same_bit a b a_bit b_bit same = elim (cases_eq a 1) [
  | inl one ↦ one ∙ sym (eqb-true b 1 (sym same ∙ eq-eqb a 1 one))
  | inr other ↦ elim (cases_eq b 1) [
    | inl one ↦ absurd (other (eqb-true a 1 (same ∙ eq-eqb b 1 one)))
    | inr none ↦ omega arith
  ]
]

-- bytes with the same bits are the same
same_byte : (xs ys : List ℕ) (k : ℕ) → get_or xs k 0 < 256 → get_or ys k 0 < 256 → ((i : ℕ) → i < 8 → has_bit xs (8 * k + i) ≡ has_bit ys (8 * k + i)) → get_or xs k 0 ≡ get_or ys k 0
same_byte xs ys k x_byte y_byte same = same_from_bits_below 8 (get_or xs k 0) (get_or ys k 0) x_byte y_byte (λ i below.
    let byte : (8 * k + i) / 8 ≡ k = omega arith in
    let place : (8 * k + i) % 8 ≡ i = omega arith in
    let at : (zs : List ℕ) → has_bit zs (8 * k + i) ≡ (bit_at (get_or zs k 0) i == 1) = λ zs. ap (λ b. bit_at (get_or zs b 0) ((8 * k + i) % 8) == 1) byte ∙ ap (λ j. bit_at (get_or zs k 0) j == 1) place in
    same_bit _ _ (bit_at-lt _ i) (bit_at-lt _ i) (sym (at xs) ∙ same i below ∙ at ys))

same_bytes : (xs ys : List ℕ) (count : ℕ) → length xs ≡ 512 → length ys ≡ 512 → ((k : ℕ) → get_or xs k 0 < 256) → ((k : ℕ) → get_or ys k 0 < 256)
    → ((q : ℕ) → q < 8 * count → has_bit xs q ≡ has_bit ys q) → ((k : ℕ) → count ≤ k → k < 512 → get_or xs k 0 ≡ get_or ys k 0) → xs ≡ ys
same_bytes xs ys count x_length y_length x_bytes y_bytes same rest = same_number_lists xs ys (omega arith) (λ k below. elim (cases_lt k count) [
  | inl early ↦ same_byte xs ys k (x_bytes k) (y_bytes k) (λ i small. same (8 * k + i) (omega arith))
  | inr late ↦ rest k late (omega arith)
])

marked_low : (low high : Page) (q : ℕ) → q < 4096 → is_marked low high q ≡ has_bit low.0 q
marked_low low high q below = ap (λ b. cond b (has_bit low.0 q) (has_bit high.0 (q - 4096))) (lt-ltb q 4096 below)

marked_high : (low high : Page) (q : ℕ) → is_marked low high (q + 4096) ≡ has_bit high.0 q
marked_high low high q =
    let back : q + 4096 - 4096 ≡ q = omega arith in
    ap (λ b. cond b (has_bit low.0 (q + 4096)) (has_bit high.0 (q + 4096 - 4096))) (le-ltb (q + 4096) 4096 (omega arith)) ∙ ap (has_bit high.0) back

-- two bit maps from which one set is read are the same
module _ (low high low' high' : Page) (low_page : IsPage low) (high_page : IsPage high) (low_page' : IsPage low') (high_page' : IsPage high')
    (same : (q : ℕ) → q < 4288 → is_marked low high q ≡ is_marked low' high' q) where
  same_low : low ≡ low'
  same_low =
      let page : List ℕ → Page = λ bytes. record { 0 = bytes } in
      ap page (same_bytes low.0 low'.0 512 low_page.length low_page'.length low_page.bytes low_page'.bytes
      (λ q below. sym (marked_low low high q (omega arith)) ∙ same q (omega arith) ∙ marked_low low' high' q (omega arith)) (λ k late early. absurd (omega arith)))

  same_high : EndsInZeros high → EndsInZeros high' → high ≡ high'
  same_high zeros zeros' =
      let page : List ℕ → Page = λ bytes. record { 0 = bytes } in
      ap page (same_bytes high.0 high'.0 24 high_page.length high_page'.length high_page.bytes high_page'.bytes
      (λ q below. sym (marked_high low high q) ∙ same (q + 4096) (omega arith) ∙ marked_high low' high' q) (λ k late early. zeros k late ∙ sym (zeros' k late)))

-- the bits of two maps from which one set is read
same_marks : (low high low' high' : Page) (taken : Pages) → ((n : ℕ) → n < 18 → is_marked low high n ≡ true) → IsBitMap low' high' → marked_pages low high ≡ taken → IsReadFrom low' high' taken
    → (q : ℕ) → q < 4288 → is_marked low high q ≡ is_marked low' high' q
same_marks low high low' high' taken system map view read q below =
    let test = lt-ltb q 4288 below in
    ap (λ b. b && is_marked low high q) (sym test) ∙ sym (contains-marked_pages low high q) ∙ ap (λ s. set.contains s q) view
    ∙ read q ∙ system_named low' high' map.system q ∙ ap (λ b. b && is_marked low' high' q) test

-- what the two pages of a map say
pub record Writes (taken : Pages) (low high : Page) : Type 0 where
  pub bits : (n : ℕ) → n < 4288 → is_marked low high n ≡ set.contains taken n
  pub format : IsBitMap low high
  pub pages : IsPage low × IsPage high
  pub read_again : (other : Pages) → IsReadFrom low high other → other ≡ taken
  pub written_again : (low' high' : Page) → IsPage low' → IsPage high' → IsBitMap low' high' → IsReadFrom low' high' taken → (low ≡ low') × (high ≡ high')

pub writes : (low high : Page) (taken : Pages) (least free : ℕ) → IsKept low high least free → marked_pages low high ≡ taken → IsPage low → IsPage high → Writes taken low high
writes low high taken least free kept view low_page high_page =
    let system : (n : ℕ) → n < 18 → is_marked low high n ≡ true = λ n below. kept.taken n (omega (arith, kept.system)) in
    record {
      bits = λ n within. sym (contains-marked_page low high n within) ∙ ap (λ s. set.contains s n) view;
      format = record { system = system; zeros = kept.zeros };
      pages = (low_page, high_page);
      read_again = λ other read. read_again low high other system read ∙ view;
      written_again = λ low' high' low_page' high_page' map read.
          let same = same_marks low high low' high' taken system map view read in
          (same_low low high low' high' low_page high_page low_page' high_page' same, same_high low high low' high' low_page high_page low_page' high_page' same kept.zeros map.zeros);
    }

-- a page that has the bytes of another is that one
pub writes_copies : (low high low' high' : Page) (taken : Pages) (least free : ℕ) → IsKept low high least free → marked_pages low high ≡ taken
    → low'.0 ≡ low.0 → high'.0 ≡ high.0 → IsPage low' → IsPage high' → Writes taken low' high'
writes_copies low high low' high' taken least free kept view low_same high_same low_page high_page =
    let page : List ℕ → Page = λ bytes. record { 0 = bytes } in
    let low_is : low ≡ low' = ap page (sym low_same) in
    let high_is : high ≡ high' = ap page (sym high_same) in
    writes low' high' taken least free (subst (λ p. IsKept p high' least free) low_is (subst (λ p. IsKept low p least free) high_is kept))
    (ap (λ p. marked_pages p high') (sym low_is) ∙ ap (marked_pages low) (sym high_is) ∙ view) low_page high_page
