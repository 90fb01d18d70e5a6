-- What a set of taken pages contains after a page was taken or given back, and how many pages are free beside it.
use Rattle.std.proofs.Common.{◌≡◌, ℕ, suc, zero, ◌+◌, ◌<◌, ◌≤◌, Bool, true, false, cond, not, ◌==◌, ◌||◌, ◌&&◌, List, refl, ap, sym, ◌∙◌, inl, inr, arith}
use Rattle.std.specs.FinSet as set
use Rattle.std.proofs.lemmas.Bool.{cases_lt, ne_eqb, lt-ltb, le-ltb}
use Rattle.disk_pages.specs.Pages.{Pages, passing_below}
use Rattle.disk_pages.proofs.MarkedPages.{insert_is, remove_is, passing_below_are, len_more, len_none}
use Rattle.disk_layout.specs.Disk.{marked_of}
use Rattle.disk_layout.specs.Format.{count_below}
use Rattle.disk_layout.specs.Files.{free_count}

abbrev NonePast : Pages → Type 0
NonePast taken = (n : ℕ) → 4288 ≤ n → set.contains taken n ≡ false

pub past_insert : (taken : Pages) (k : ℕ) → k < 4288 → NonePast taken → NonePast (set.insert taken k)
past_insert taken k below none n past =
    insert_is taken k n ∙ ap (λ b. b || set.contains taken n) (ne_eqb n k (λ e. omega (arith, e))) ∙ none n past

and_false : (b : Bool) → (b && false) ≡ false
and_false true = refl
and_false false = refl

pub past_remove : (taken : Pages) (k : ℕ) → NonePast taken → NonePast (set.remove taken k)
past_remove taken k none n past = remove_is taken k n ∙ ap (λ b. not (n == k) && b) (none n past) ∙ and_false (not (n == k))

-- those below a bound that pass a test and those that don't are as many as the bound
pub both_counted : (test : ℕ → Bool) (n : ℕ) → set.len (passing_below test n) + count_below (λ k. not (test k)) n ≡ n
unfolding count_below
both_counted test zero = omega (arith, len_none test)
both_counted test (suc n) = one_more (test n) refl (both_counted test n)
  where
    one_more : (b : Bool) → test n ≡ b → set.len (passing_below test n) + count_below (λ k. not (test k)) n ≡ n
        → set.len (passing_below test (suc n)) + (cond (not (test n)) 1 0 + count_below (λ k. not (test k)) n) ≡ suc n
    one_more true is before =
        let more = len_more test n in let here : cond (test n) 1 0 ≡ 1 = ap {B = ℕ} (λ b. cond b 1 0) is in
        let there : cond (not (test n)) 1 0 ≡ 0 = ap {B = ℕ} (λ b. cond (not b) 1 0) is in omega (arith, before, more, here, there)
    one_more false is before =
        let more = len_more test n in let here : cond (test n) 1 0 ≡ 0 = ap {B = ℕ} (λ b. cond b 1 0) is in
        let there : cond (not (test n)) 1 0 ≡ 1 = ap {B = ℕ} (λ b. cond (not b) 1 0) is in omega (arith, before, more, here, there)

-- the taken pages that are kept and the free pages of the area are all pages
pub free_and_taken : (taken : Pages) (pages : List (List ℕ)) → ((n : ℕ) → n < 4288 → marked_of pages n ≡ set.contains taken n) → NonePast taken
    → free_count pages + set.len taken ≡ 4288
free_and_taken taken pages same none =
    let is = passing_below_are (marked_of pages) 4288 taken (λ q. elim (cases_lt q 4288) [
      | inl below ↦ sym (same q below) ∙ sym (ap (λ b. b && marked_of pages q) (lt-ltb q 4288 below))
      | inr past ↦ none q past ∙ sym (ap (λ b. b && marked_of pages q) (le-ltb q 4288 past))
    ]) in
    omega (arith, both_counted (marked_of pages) 4288, ap set.len is)
