-- How many pages each file has, and how many parts they need.
use Rattle.std.proofs.Common.{◌≡◌, ◌≢◌, ℕ, suc, zero, ◌+◌, ◌<◌, ◌≤◌, ◌==◌, List, length, set, refl, ap, sym, ◌∙◌, inl, inr, arith, get_or-set_same, get_or-set_other}
use Rattle.std.specs.Prelude.{slice_index}
use Rattle.std.proofs.lemmas.Bool.{cases_eq, cond-false, cond-true, eq-eqb, ne_eqb}
use Rattle.solo_base.specs.PageBytes.{number_at}
use Rattle.disk_layout.specs.declared.entry.Entry.{Entry}
use Rattle.disk_layout.specs.Disk.{entry_of, number_of, page_at}
use Rattle.disk_layout.specs.Format.{part_count}
use Rattle.disk_layout.proofs.Written.{number_in}
use Rattle.disk_system.specs.Migrating.{LengthsRead, mapped_by, parts_below, parts_for}

-- an entry of no file has no pages
pub mapped_by_none : (pages : List (List ℕ)) (entry : Entry) → entry.kind ≡ 0 → mapped_by pages entry ≡ 0
mapped_by_none pages entry empty = cond-true (entry.kind == 0) _ _ (eq-eqb entry.kind 0 empty)

pub mapped_by_file : (pages : List (List ℕ)) (entry : Entry) → entry.kind ≢ 0 → mapped_by pages entry ≡ number_of pages entry.address 0
mapped_by_file pages entry used = cond-false (entry.kind == 0) _ _ (ne_eqb entry.kind 0 used)

-- the length that is read from the map page
pub mapped_read : (pages : List (List ℕ)) (entry : Entry) (bytes : List ℕ) → entry.kind ≢ 0 → bytes ≡ page_at pages entry.address
    → mapped_by pages entry ≡ number_at bytes 0
mapped_read pages entry bytes used read = mapped_by_file pages entry used ∙ number_in pages entry.address 0 bytes (sym read)

-- one more length was read
pub length_read : (pages : List (List ℕ)) (lengths : List ℕ) (place n : ℕ) → length lengths ≡ 240 → place < 240 → n ≡ mapped_by pages (entry_of pages place)
    → LengthsRead pages place lengths → LengthsRead pages (place + 1) (set lengths place n)
length_read pages lengths place n size within is read = λ p below. elim (cases_eq p place) [
  | inl here ↦ ap (slice_index (set lengths place n)) here ∙ get_or-set_same lengths place n 0 (omega (arith, size, within)) ∙ is
      ∙ ap (λ x. mapped_by pages (entry_of pages x)) (sym here)
  | inr apart ↦ get_or-set_other lengths place p n 0 apart ∙ read p (omega (arith, below, apart))
]

-- parts are needed as for the lengths that were read
pub parts_read : (pages : List (List ℕ)) (lengths : List ℕ) (n : ℕ) → LengthsRead pages n lengths → parts_for lengths n ≡ parts_below pages n
unfolding parts_for parts_below
parts_read pages lengths zero read = refl
parts_read pages lengths (suc n) read =
    ap (λ x. x + part_count (slice_index lengths n)) (parts_read pages lengths n (λ p below. read p (omega (arith, below))))
    ∙ ap (λ x. parts_below pages n + part_count x) (read n (omega arith))

pub parts_none : (lengths : List ℕ) → parts_for lengths 0 ≡ 0
unfolding parts_for
parts_none lengths = refl

pub parts_next : (lengths : List ℕ) (n : ℕ) → parts_for lengths (n + 1) ≡ parts_for lengths n + part_count (slice_index lengths n)
unfolding parts_for
parts_next lengths n = let next : n + 1 ≡ suc n = omega arith in ap (parts_for lengths) next

-- the files at more places need no fewer parts
pub parts_rise : (lengths : List ℕ) (n more : ℕ) → parts_for lengths n ≤ parts_for lengths (n + more)
unfolding parts_for
parts_rise lengths n zero = let same : n + 0 ≡ n = omega arith in let is = ap (parts_for lengths) same in omega (arith, is)
parts_rise lengths n (suc more) =
    let next : n + suc more ≡ suc (n + more) = omega arith in
    let is = ap (parts_for lengths) next in
    omega (arith, is, parts_rise lengths n more)

-- and it is at most 255
pub short_read : (lengths : List ℕ) (place n : ℕ) → length lengths ≡ 240 → place < 240 → n ≤ 255
    → ((p : ℕ) → p < place → slice_index lengths p ≤ 255) → (p : ℕ) → p < place + 1 → slice_index (set lengths place n) p ≤ 255
short_read lengths place n size within few short p below = elim (cases_eq p place) [
  | inl here ↦
      let is = ap (slice_index (set lengths place n)) here ∙ get_or-set_same lengths place n 0 (omega (arith, size, within)) in
      omega (arith, is, few)
  | inr apart ↦
      let is = get_or-set_other lengths place p n 0 apart in
      let before = short p (omega (arith, below, apart)) in
      omega (arith, is, before)
]
