-- The disk of one file of one page, whose length was set to 4,001: its index page is broken, and no bit is wrong.
use Rattle.std.proofs.Common.{◌≡◌, ℕ, ◌+◌, ◌≤◌, cond, ◌==◌, [], refl, ap, sym, subst, ◌∙◌, inl, inr, arith}
use Rattle.std.specs.Prelude.{nat_lt, codes}
use Rattle.std.proofs.lemmas.Bool.{cases_eq, cases_lt, eq-eqb, ne_eqb, lt-ltb, ltb-true, cond-true, cond-false}
use Rattle.disk_layout.specs.declared.entry.Entry.{Entry}
use Rattle.disk_layout.specs.Disk.{Disk, entry_page, entry_byte}
use Rattle.disk_layout.specs.Format.{IsAddress, IsIndexPage, UsesPart, IsPartPage, UsesPage, IsFilePage, IndexIsRight, MarkIsRight, key_of, key_from, has_key, count_below}

pub the_entry : ℕ → Entry
the_entry p = record { name = []; kind = cond (p == 0) 2 0; address = cond (p == 0) 18 0; protection = 0; key = 0; searches = 0 }

pub the_number : ℕ → ℕ → ℕ
the_number n k = cond (n == 18) (cond (k == 0) 4001 (cond (k == 1) 19 0)) (cond (n == 19) (cond (k == 0) 20 0) 0)

pub the_disk : Disk
the_disk = record { entry = the_entry; spare = λ _. []; number = the_number; marked = λ n. nat_lt n 21 }

index_is : (i : ℕ) → IsIndexPage the_disk i → i ≡ 18
unfolding the_disk the_entry
index_is i x = elim (cases_eq x.place 0) [
  | inl here ↦ sym x.named ∙ cond-true (x.place == 0) 18 0 (eq-eqb x.place 0 here)
  | inr other ↦ absurd (x.used (cond-false (x.place == 0) 2 0 (ne_eqb x.place 0 other)))
]

part_is : (i k q : ℕ) → UsesPart the_disk i k q → IsAddress q → (k ≡ 0) × (q ≡ 19)
unfolding the_disk the_number
part_is i k q u free =
    let at : the_number 18 (k + 1) ≡ q = ap (λ n. the_number n (k + 1)) (sym (index_is i u.index)) ∙ u.is in
    elim (cases_eq k 0) [
      | inl none ↦ (none, sym at ∙ ap (λ m. the_number 18 (m + 1)) none)
      | inr some ↦
          let zero : the_number 18 (k + 1) ≡ 0 = cond-false (k + 1 == 0) _ _ (ne_eqb (k + 1) 0 (λ e. omega (arith, e)))
          ∙ cond-false (k + 1 == 1) 19 0 (ne_eqb (k + 1) 1 (λ e. omega (arith, e, some))) in
          absurd (omega (arith, zero, at, free.file_page))
    ]

page_is : (q j f : ℕ) → UsesPage the_disk q j f → IsAddress f → (q ≡ 19) × (f ≡ 20)
unfolding the_disk the_number
page_is q j f u free =
    let here = (part_is u.by u.place q u.first.used u.part.free).1 in
    let at : the_number 19 j ≡ f = ap (λ n. the_number n j) (sym here) ∙ u.is in
    elim (cases_eq j 0) [
      | inl none ↦ (here, sym at ∙ ap (the_number 19) none)
      | inr some ↦ let zero : the_number 19 j ≡ 0 = cond-false (j == 0) 20 0 (ne_eqb j 0 some) in absurd (omega (arith, zero, at, free.file_page))
    ]

index_18 : IsIndexPage the_disk 18
unfolding the_disk the_entry
index_18 =
    record { free = record { file_page = omega arith; within = omega arith }; place = 0; inside = omega arith; used = λ e. omega (arith, e); named = refl }

use_19 : UsesPart the_disk 18 0 19
unfolding the_disk the_number
use_19 = record { index = index_18; below = omega arith; is = refl }

free_19 : IsAddress 19
free_19 = record { file_page = omega arith; within = omega arith }

part_19 : IsPartPage the_disk 19
part_19 = record { free = free_19; by = 18; part = 0; used = use_19; other = λ y. let e = index_is 19 y in omega (arith, e) }

page_20 : IsFilePage the_disk 20
unfolding the_disk the_number
page_20 = record {
  free = record { file_page = omega arith; within = omega arith };
  by = 19;
  place = 0;
  used = record {
    part = part_19;
    by = 18;
    place = 0;
    below = omega arith;
    is = refl;
    first = record { used = use_19; least = λ by part u. inr (sym (index_is by u.index), omega arith) };
  };
}

pub no_bit_is_wrong : (m : ℕ) → MarkIsRight the_disk m
unfolding the_disk
no_bit_is_wrong m = (
  λ marked. let below = ltb-true m 21 marked in elim (cases_lt m 18) [
    | inl system ↦ inl system
    | inr late ↦ elim (cases_eq m 18) [
      | inl here ↦ inr (inl (subst (IsIndexPage the_disk) (sym here) index_18))
      | inr not_18 ↦ elim (cases_eq m 19) [
        | inl here ↦ inr (inr (inl (subst (IsPartPage the_disk) (sym here) part_19)))
        | inr not_19 ↦ let here : m ≡ 20 = omega (arith, below, late, not_18, not_19) in inr (inr (inr (subst (IsFilePage the_disk) (sym here) page_20)))
      ]
    ]
  ],
  λ taken. lt-ltb m 21 (elim taken [
    | inl system ↦ omega (arith, system)
    | inr (inl x) ↦ let e = index_is m x in omega (arith, e)
    | inr (inr (inl x)) ↦ let e = part_is x.by x.part m x.used x.free in omega (arith, e.1)
    | inr (inr (inr x)) ↦ let e = page_is x.by x.place m x.used x.free in omega (arith, e.1)
  ]),
)

pub the_index_is_wrong : IndexIsRight the_disk 18 → ⊥
unfolding the_disk the_number
the_index_is_wrong right = let long : 4001 ≤ 4000 = right.length in omega (arith, long)

-- definitions that compute
the_key : key_of (codes "TEXT        ") ≡ 37
unfolding key_from
the_key = refl

the_count : count_below (has_key the_disk 7) 240 ≡ 0
unfolding the_disk the_entry count_below
the_count = refl

-- its entry stands in page 3 at byte 128
the_place : (entry_page 36 ≡ 3) × (entry_byte 36 ≡ 128)
the_place = (refl, refl)
