-- What the pages that a delete gives back leave in memory.
use Rattle.std.proofs.Common.{◌≡◌, ℕ, suc, ◌+◌, ◌*◌, ◌/◌, ◌%◌, ◌<◌, ◌&&◌, not, false, List, refl, ap, sym, ◌∙◌, inl, inr, arith}
use Rattle.std.specs.Cmp.{nat_cmp_total}
use Rattle.std.specs.FinSet as set
use Rattle.std.specs.FinSet.{same_set, nat_cmp-IsAntisymmetric}
use Rattle.std.proofs.lemmas.Bool.{cases_eq, eq-eqb, ne_eqb}
use Rattle.solo_base.specs.PageBytes.{number_at}
use Rattle.disk_pages.specs.Pages.{Pages}
use Rattle.disk_pages.proofs.MarkedPages.{remove_is}
use Rattle.disk_layout.specs.Disk.{disk_of, number_of, page_at}
use Rattle.disk_layout.specs.Files.{page_of}
use Rattle.disk_layout.specs.Format.{count_in_part}
use Rattle.disk_layout.specs.Deleting.{given_back, without_part, without_parts}

-- a page that isn't taken can't be given back
pub remove_absent : (s : Pages) (n : ℕ) → set.contains s n ≡ false → s ≡ set.remove s n
remove_absent s n free = same_set nat_cmp_total nat_cmp-IsAntisymmetric s (set.remove s n) (λ q. elim (cases_eq q n) [
  | inl here ↦ ap (set.contains s) here ∙ free ∙ sym (remove_is s n q ∙ ap (λ b. not b && set.contains s q) (eq-eqb q n here))
  | inr apart ↦ sym (remove_is s n q ∙ ap (λ b. not b && set.contains s q) (ne_eqb q n apart))
])

pub none_given_back : (taken : Pages) (address : ℕ → ℕ) → taken ≡ given_back taken address 0
unfolding given_back
none_given_back taken address = refl

pub one_given_back : (taken now : Pages) (address : ℕ → ℕ) (j n : ℕ) → now ≡ given_back taken address j → n ≡ address j
    → set.remove now n ≡ given_back taken address (j + 1)
unfolding given_back
one_given_back taken now address j n before is =
    ap (λ s. set.remove s n) before ∙ ap (λ x. set.remove (given_back taken address j) x) is ∙ ap (given_back taken address) (suc_is j)
  where
    suc_is : (k : ℕ) → suc k ≡ k + 1
    suc_is k = omega arith

-- the numbers of the page as it was read are those of the area's
pub numbers_given_back : (pages : List (List ℕ)) (q count : ℕ) (taken : Pages) (bytes : List ℕ) → bytes ≡ page_at pages q
    → given_back taken (λ j. number_at bytes (2 * j)) count ≡ given_back taken (number_of pages q) count
unfolding number_of
numbers_given_back pages q count taken bytes is = ap (λ b. given_back taken (λ j. number_at b (2 * j)) count) is

pub number_is : (pages : List (List ℕ)) (q j : ℕ) (bytes : List ℕ) → bytes ≡ page_at pages q → number_at bytes (2 * j) ≡ number_of pages q j
unfolding number_of
number_is pages q j bytes is = ap (λ b. number_at b (2 * j)) is

pub no_parts : (taken : Pages) (pages : List (List ℕ)) (i : ℕ) → taken ≡ without_parts taken (disk_of pages) i 0
unfolding without_parts
no_parts taken pages i = refl

pub next_part : (taken now after : Pages) (pages : List (List ℕ)) (i k q count : ℕ) → now ≡ without_parts taken (disk_of pages) i k
    → after ≡ without_part now (disk_of pages) q count → q ≡ number_of pages i (k + 1) → count ≡ count_in_part (number_of pages i 0) k
    → after ≡ without_parts taken (disk_of pages) i (k + 1)
unfolding without_parts
next_part taken now after pages i k q count before freed part many =
    freed ∙ ap (λ s. without_part s (disk_of pages) q count) before
    ∙ ap (λ x. without_part (without_parts taken (disk_of pages) i k) (disk_of pages) x count) part
    ∙ ap (λ c. without_part (without_parts taken (disk_of pages) i k) (disk_of pages) (number_of pages i (k + 1)) c) many
    ∙ ap (without_parts taken (disk_of pages) i) (suc_is k)
  where
    suc_is : (k : ℕ) → suc k ≡ k + 1
    suc_is k = omega arith

-- page j of part k is a page of the file
pub part_named : (pages : List (List ℕ)) (i k j q : ℕ) → j < 250 → q ≡ number_of pages i (k + 1) → page_of (disk_of pages) i (250 * k + j) ≡ number_of pages q j
part_named pages i k j q below is =
    let part : (250 * k + j) / 250 ≡ k = omega (arith, below) in
    let number : (250 * k + j) % 250 ≡ j = omega (arith, below) in
    ap (λ x. number_of pages (number_of pages i (x + 1)) ((250 * k + j) % 250)) part ∙ ap (number_of pages (number_of pages i (k + 1))) number
    ∙ ap (λ x. number_of pages x j) (sym is)
