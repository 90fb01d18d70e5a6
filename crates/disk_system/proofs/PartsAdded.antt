-- What the writes of a file's parts leave, one part after the other.
use Rattle.std.proofs.Common.{◌≡◌, ◌≢◌, ℕ, ◌+◌, ◌*◌, ◌<◌, ◌≤◌, ◌==◌, ◌||◌, Bool, true, false, Option, Result, Ok, Err, List, length, get_or, set, refl, ap, sym, subst, ◌∙◌, inl, inr, arith, length-set}
use Rattle.std.specs.Prelude.{◌⊎◌, OnOk}
use Rattle.disk_files.specs.declared.fault.FileFault.{FileFault}
use Rattle.std.specs.FinSet as fin
use Rattle.std.proofs.lemmas.List.{length-replicate}
use Rattle.std.proofs.lemmas.Bool.{cases_Bool, cases_eq, eq-eqb, false≢true, ne_eqb}
use Rattle.solo_base.specs.PageBytes.{number_at, zero_page}
use Rattle.disk_pages.specs.Field.{ChangesOnly}
use Rattle.disk_pages.specs.Pages.{IsLeastFree, Pages}
use Rattle.disk_pages.proofs.MarkedPages.{insert_is, len_one_more}
use Rattle.disk_layout.specs.Disk.{number_of, page_at}
use Rattle.disk_layout.specs.Format.{IsAddress, count_in_part, part_count}
use Rattle.disk_layout.proofs.FirstPage.{zeros_at}
use Rattle.disk_layout.proofs.Written.{number_in, number_kept, number_stays, page_beside, page_written}
use Rattle.disk_files.specs.Answers.{Stays}
use Rattle.disk_system.specs.Migrating.{AddsParts, WritesParts}

taken_here : (taken : Pages) (q : ℕ) → fin.contains (fin.insert taken q) q ≡ true
taken_here taken q = insert_is taken q q ∙ ap (λ b. b || fin.contains taken q) (eq-eqb q q refl)

taken_still : (taken : Pages) (q n : ℕ) → fin.contains taken n ≡ true → fin.contains (fin.insert taken q) n ≡ true
taken_still taken q n is = insert_is taken q n ∙ ap (λ b. (n == q) || b) is ∙ or_true (n == q)
  where
    or_true : (b : Bool) → (b || true) ≡ true
    or_true true = refl
    or_true false = refl

taken_was : (taken : Pages) (q n : ℕ) → n ≢ q → fin.contains (fin.insert taken q) n ≡ true → fin.contains taken n ≡ true
taken_was taken q n apart is = sym (insert_is taken q n ∙ ap (λ b. b || fin.contains taken n) (ne_eqb n q apart)) ∙ is

pub blank_number : (at : ℕ) → number_at zero_page at ≡ 0
blank_number at = ap (λ x. x * 256 + get_or zero_page (at + 1) 0) (zeros_at 512 at) ∙ ap (λ x. 0 * 256 + x) (zeros_at 512 (at + 1))

-- before the first part
pub parts_begun : (pages : List (List ℕ)) (taken : Pages) (old index zeros : List ℕ) (count : ℕ) → zeros ≡ zero_page
    → number_at index 0 ≡ count → ChangesOnly 0 2 zeros index → WritesParts pages pages taken taken old index count 0
parts_begun pages taken old index zeros count blank is others = record {
  as_many = refl;
  size = others.as_many ∙ ap length blank ∙ length-replicate {A = ℕ} 512 0;
  length = is;
  rest = λ m some within. number_kept zeros index 0 m 0 others refl (λ e. omega (arith, e, some)) ∙ ap (λ b. number_at b (2 * m)) blank ∙ blank_number (2 * m);
  free = λ m below. absurd (omega (arith, below));
  new = λ m below. absurd (omega (arith, below));
  now_taken = λ m below. absurd (omega (arith, below));
  apart = λ m other below. absurd (omega (arith, below));
  numbers = λ m j below. absurd (omega (arith, below));
  part_rest = λ m j below. absurd (omega (arith, below));
  others = λ n _. refl;
  kept = λ n is. is;
  only = λ n is. inl is;
  least = λ m n below. absurd (omega (arith, below));
  many = none_more (fin.len taken);
}
  where
    none_more : (n : ℕ) → n ≡ n + 0
    none_more n = omega arith

module _ (first pages : List (List ℕ)) (taken taken_now : Pages) (old index index_then part : List ℕ) (count k q : ℕ)
    (w : WritesParts first pages taken taken_now old index count k) (whole : length first ≡ 4288) (least : IsLeastFree taken_now q) (address : IsAddress q)
    (here : number_at index_then (2 * (k + 1)) ≡ q) (changed : ChangesOnly (2 * (k + 1)) 2 index index_then)
    (numbers : (j : ℕ) → j < count_in_part count k → number_at part (2 * j) ≡ number_at old (2 * (250 * k + j + 1)))
    (rest : (j : ℕ) → count_in_part count k ≤ j → j < 256 → number_at part (2 * j) ≡ 0) where
  abbrev N : ℕ → ℕ
  N m = number_at index (2 * (m + 1))

  abbrev N' : ℕ → ℕ
  N' m = number_at index_then (2 * (m + 1))

  same : (m : ℕ) → m ≢ k → N' m ≡ N m
  same m apart = number_kept index index_then (k + 1) (m + 1) (2 * (k + 1)) changed refl (λ e. apart (omega (arith, e)))

  -- the new part is none of those before it
  other_part : (m : ℕ) → m < k → N m ≢ q
  other_part m below e = false≢true (sym least.free ∙ ap (fin.contains taken_now) (sym e) ∙ w.now_taken m below)

  not_taken : fin.contains taken q ≡ false
  not_taken = elim (cases_Bool (fin.contains taken q)) [
    | inl was ↦ absurd (false≢true (sym least.free ∙ w.kept q was))
    | inr new ↦ new
  ]

  size : length pages ≡ 4288
  size = w.as_many ∙ whole

  written : page_at (set pages q part) q ≡ part
  written = page_written pages q part (omega (arith, address.within, size))

  number_still : (m j : ℕ) → m < k → number_of (set pages q part) (N m) j ≡ number_of pages (N m) j
  number_still m j below = number_stays pages (set pages q part) (N m) j (page_beside pages q (N m) part (other_part m below))

  -- what holds of each part up to the new one
  each : (P : ℕ → ℕ → Type 0) → P k q → ((m : ℕ) → m < k → P m (N m)) → (m : ℕ) → m < k + 1 → P m (N' m)
  each P new before m below = elim (cases_eq m k) [
    | inl last ↦ subst (λ x. P x (N' x)) (sym last) (subst (P k) (sym here) new)
    | inr apart ↦ subst (P m) (sym (same m apart)) (before m (omega (arith, below, apart)))
  ]

  pub part_added : WritesParts first (set pages q part) taken (fin.insert taken_now q) old index_then count (k + 1)
  part_added = record {
    as_many = length-set pages q part ∙ w.as_many;
    size = changed.as_many ∙ w.size;
    length = number_kept index index_then (k + 1) 0 (2 * (k + 1)) changed refl (λ e. omega (arith, e)) ∙ w.length;
    rest = λ m past within. number_kept index index_then (k + 1) m (2 * (k + 1)) changed refl (λ e. omega (arith, e, past))
        ∙ w.rest m (omega (arith, past)) within;
    free = each (λ m n. IsAddress n) address w.free;
    new = each (λ m n. fin.contains taken n ≡ false) not_taken w.new;
    now_taken = each (λ m n. fin.contains (fin.insert taken_now q) n ≡ true) (taken_here taken_now q)
        (λ m below. taken_still taken_now q (N m) (w.now_taken m below));
    apart = λ m other below other_below e. elim (cases_eq m k) [
      | inl last ↦ elim (cases_eq other k) [
        | inl it ↦ last ∙ sym it
        | inr apart ↦ absurd (other_part other (omega (arith, other_below, apart)) (sym (same other apart) ∙ sym e ∙ ap N' last ∙ here))
      ]
      | inr apart ↦ elim (cases_eq other k) [
        | inl it ↦ absurd (other_part m (omega (arith, below, apart)) (sym (same m apart) ∙ e ∙ ap N' it ∙ here))
        | inr apart_too ↦ w.apart m other (omega (arith, below, apart)) (omega (arith, other_below, apart_too)) (sym (same m apart) ∙ e ∙ same other apart_too)
      ]
    ];
    numbers = λ m j below inside. each (λ m n. j < count_in_part count m → number_of (set pages q part) n j ≡ number_at old (2 * (250 * m + j + 1)))
        (λ inside. number_in (set pages q part) q j part written ∙ numbers j inside)
        (λ m below inside. number_still m j below ∙ w.numbers m j below inside) m below inside;
    part_rest = λ m j below late within. each (λ m n. count_in_part count m ≤ j → number_of (set pages q part) n j ≡ 0)
        (λ late. number_in (set pages q part) q j part written ∙ rest j late within)
        (λ m below late. number_still m j below ∙ w.part_rest m j below late within) m below late;
    others = λ n none.
        page_beside pages q n part (λ e. none k (omega arith) (e ∙ sym here))
        ∙ w.others n (λ m below e. none m (omega (arith, below)) (e ∙ sym (same m (λ x. omega (arith, x, below)))));
    kept = λ n is. taken_still taken_now q n (w.kept n is);
    only = λ n is. elim (cases_eq n q) [
      | inl last ↦ inr (k, omega arith, last ∙ sym here)
      | inr apart ↦ elim (w.only n (taken_was taken_now q n apart is)) [
        | inl was ↦ inl was
        | inr x ↦ inr (x.0, omega (arith, x.1), x.2 ∙ sym (same x.0 (λ e. omega (arith, e, x.1))))
      ]
    ];
    least = λ m n below under. each (λ m q. (n : ℕ) → n < q → (fin.contains taken n ≡ true) ⊎ ((other : ℕ) × (other < m) × (n ≡ N' other)))
        (λ n under. elim (w.only n (least.least n under)) [
          | inl was ↦ inl was
          | inr x ↦ inr (x.0, x.1, x.2 ∙ sym (same x.0 (λ e. omega (arith, e, x.1))))
        ])
        (λ m below n under. elim (w.least m n below under) [
          | inl was ↦ inl was
          | inr x ↦ inr (x.0, x.1, x.2 ∙ sym (same x.0 (λ e. omega (arith, e, x.1, below))))
        ]) m below n under;
    many = let one = len_one_more taken_now q least.free in let were = w.many in omega (arith, one, were);
  }

-- the index page is written last
pub parts_added : (pages parts : List (List ℕ)) (taken taken_then : Pages) (i count : ℕ) (old index : List ℕ) → length pages ≡ 4288
    → IsAddress i → old ≡ page_at pages i
    → WritesParts pages parts taken taken_then old index count (part_count count) → AddsParts pages (set parts i index) taken taken_then i count
parts_added pages parts taken taken_then i count old index size address read w = record {
  index = index;
  parts = parts;
  wrote = subst (λ o. WritesParts pages parts taken taken_then o index count (part_count count)) read w;
  is = page_written parts i index (omega (arith, address.within, size, w.as_many));
  as_many = length-set parts i index ∙ w.as_many;
  others = λ n apart. page_beside parts i n index apart;
}

pub no_writes : (pages : Option (List (List ℕ))) (many : ℕ) → Stays pages many pages many
no_writes pages many = record { has_size = λ h. h; untold = λ none. none }

pub one_more_taken : (r : Result (Unit {0}) FileFault) (taken taken_now : Pages) (q : ℕ) → IsLeastFree taken q → taken_now ≡ fin.insert taken q
    → OnOk r (fin.len taken_now ≡ fin.len taken + 1)
one_more_taken (Ok x) taken taken_now q least is = ap fin.len is ∙ len_one_more taken q least.free
one_more_taken (Err e) taken taken_now q least is = tt
