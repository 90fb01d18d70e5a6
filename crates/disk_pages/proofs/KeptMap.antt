-- What a map keeps, where a page is taken and where one is given back.
use Rattle.std.proofs.Common.{◌≡◌, ℕ, ◌+◌, ◌-◌, ◌<◌, ◌≤◌, min, Bool, true, false, ◌==◌, ◌||◌, refl, ap, sym, ◌∙◌, inl, inr, arith}
use Rattle.std.specs.FinSet as set
use Rattle.std.proofs.lemmas.Bool.{cases_eq, cases_lt, cases_Bool, eq-eqb}
use Rattle.solo_base.specs.declared.page.Page.{Page}
use Rattle.disk_pages.specs.Bits.{is_marked, Marks}
use Rattle.disk_pages.specs.Pages.{Pages, marked_pages, IsLeastFree, IsKept}
use Rattle.disk_pages.proofs.MarkedPages.{insert_is, len_all_marked, contains-marked_page, len_one_unmarked, len_one_more, len_one_fewer, marks_one, unmarks_one}

or_true : (b : Bool) → (b || true) ≡ true
or_true true = refl
or_true false = refl

-- a page that isn't in the map's set has the bit 0, and one that is has 1
pub bit_of : (low high : Page) (taken : Pages) (n : ℕ) (b : Bool) → marked_pages low high ≡ taken → n < 4288 → set.contains taken n ≡ b → is_marked low high n ≡ b
bit_of low high taken n b view within there = sym (contains-marked_page low high n within) ∙ ap (λ s. set.contains s n) view ∙ there

-- where some page has the bit 0, some page is free
pub some_free : (low high : Page) (least free n : ℕ) → IsKept low high least free → n < 4288 → is_marked low high n ≡ false → 1 ≤ free
some_free low high least free n kept within unmarked = omega (arith, kept.count, len_one_unmarked low high n within unmarked)

module _ (n : ℕ) (low high low' high' : Page) (least free : ℕ) (kept : IsKept low high least free) (within : n < 4288) where
  pub kept_taking : is_marked low high n ≡ false → Marks n true low high low' high' → IsKept low' high' least (free - 1)
  kept_taking unmarked marks =
      let some = some_free low high least free n kept within unmarked in
      let more = ap set.len (marks_one n low high low' high' within marks) ∙ len_one_more (marked_pages low high) n (contains-marked_page low high n within ∙ unmarked) in
      record {
        system = kept.system;
        within = kept.within;
        taken = λ m below. elim (cases_eq m n) [
          | inl here ↦ ap (is_marked low' high') here ∙ marks.marked
          | inr apart ↦ marks.others m apart ∙ kept.taken m below
        ];
        zeros = marks.rest kept.zeros;
        count = omega (arith, kept.count);
      }

  pub kept_giving : 18 ≤ n → is_marked low high n ≡ true → Marks n false low high low' high' → IsKept low' high' (min least n) (free + 1)
  kept_giving file_page marked marks =
      let fewer = ap set.len (unmarks_one n low high low' high' marks) in
      let one = len_one_fewer (marked_pages low high) n (contains-marked_page low high n within ∙ marked) in
      record {
        system = omega (arith, kept.system);
        within = omega (arith, kept.within);
        taken = λ m below. marks.others m (λ e. absurd (omega arith)) ∙ kept.taken m (omega arith);
        zeros = marks.rest kept.zeros;
        count = omega (arith, kept.count);
      }

-- the page before which all are taken, and which isn't, is the least free one
pub least_free : (low high : Page) (taken : Pages) (least free n : ℕ) → IsKept low high least free → marked_pages low high ≡ taken
    → n < 4288 → is_marked low high n ≡ false → ((m : ℕ) → least ≤ m → m < n → is_marked low high m ≡ true) → IsLeastFree taken n
least_free low high taken least free n kept view within unmarked passed = record {
  within = within;
  free = sym (ap (λ s. set.contains s n) view) ∙ contains-marked_page low high n within ∙ unmarked;
  least = λ m below. sym (ap (λ s. set.contains s m) view) ∙ contains-marked_page low high m (omega arith) ∙ elim (cases_lt m least) [
    | inl early ↦ kept.taken m early
    | inr late ↦ passed m late below
  ];
}

-- where no page from the least one on has the bit 0, all are taken
pub all_taken : (low high : Page) (taken : Pages) (least free : ℕ) → IsKept low high least free → marked_pages low high ≡ taken
    → ((m : ℕ) → least ≤ m → m < 4288 → is_marked low high m ≡ true) → (n : ℕ) → n < 4288 → set.contains taken n ≡ true
all_taken low high taken least free kept view passed n within =
    sym (ap (λ s. set.contains s n) view) ∙ contains-marked_page low high n within ∙ elim (cases_lt n least) [
      | inl early ↦ kept.taken n early
      | inr late ↦ passed n late within
    ]

-- then there are no more
pub len_all_taken : (low high : Page) (taken : Pages) → marked_pages low high ≡ taken → ((n : ℕ) → n < 4288 → set.contains taken n ≡ true) → set.len taken ≡ 4288
len_all_taken low high taken view all =
    sym (ap set.len view) ∙ len_all_marked low high (λ n within. bit_of low high taken n true view within (all n within))

-- where no page is free, all are taken
pub none_free : (low high : Page) (taken : Pages) (least free : ℕ) → IsKept low high least free → marked_pages low high ≡ taken
    → free ≡ 0 → (n : ℕ) → n < 4288 → set.contains taken n ≡ true
none_free low high taken least free kept view none n within = elim (cases_Bool (set.contains taken n)) [
  | inl here ↦ here
  | inr missing ↦ absurd (omega (arith, some_free low high least free n kept within (bit_of low high taken n false view within missing)))
]

-- after the least free page was taken, the pages up to it are taken
pub kept_past : (low high : Page) (before taken : Pages) (least free n : ℕ) → IsKept low high least free → marked_pages low high ≡ taken
    → IsLeastFree before n → 18 ≤ n → taken ≡ set.insert before n → IsKept low high (n + 1) free
kept_past low high before taken least free n kept view found file_page more = record {
  system = omega arith;
  within = omega (arith, found.within);
  taken = λ m below. bit_of low high taken m true view (omega (arith, found.within)) (ap (λ s. set.contains s m) more ∙ insert_is before n m ∙ elim (cases_eq m n) [
    | inl here ↦ ap (λ b. b || set.contains before m) (eq-eqb m n here)
    | inr apart ↦ ap (λ b. (m == n) || b) (found.least m (omega arith)) ∙ or_true (m == n)
  ]);
  zeros = kept.zeros;
  count = kept.count;
}
