-- The set of the pages whose bits are 1, how many it has, and what a change of one bit makes of it.
use Rattle.std.proofs.Common.{◌≡◌, ◌≢◌, ℕ, suc, zero, ◌+◌, ◌-◌, ◌<◌, ◌≤◌, min, Bool, true, false, cond, not, ◌==◌, ◌||◌, ◌&&◌, ap, sym, ◌∙◌, refl, inl, inr, arith}
use Rattle.std.specs.Prelude.{nat_lt}
use Rattle.std.specs.Ordering.{nat_cmp}
use Rattle.std.specs.Cmp.{nat_cmp_total, unsigned_tied}
use Rattle.std.specs.FinSet as set
use Rattle.std.specs.FinSet.{contains-empty, contains-insert, contains-remove, len-empty, len-insert, len-remove, empty_of_len, same_set, nat_cmp-IsAntisymmetric}
use Rattle.std.proofs.lemmas.Bool.{cases_eq, cases_lt, lt-ltb, le-ltb, eq-eqb, ne_eqb, and_right, false≢true}
use Rattle.std.proofs.lemmas.Bool.Decides.{nat_tests}
use Rattle.solo_base.specs.declared.page.Page.{Page}
use Rattle.disk_pages.specs.Bits.{is_marked, Marks}
use Rattle.disk_pages.specs.Pages.{Pages, passing_below, marked_pages}

-- what a set with one page more contains
pub insert_is : (s : Pages) (k q : ℕ) → set.contains (set.insert s k) q ≡ ((q == k) || set.contains s q)
insert_is s k q = contains-insert nat_cmp_total s k q ∙ ap (λ b. b || set.contains s q) (unsigned_tied q k)

pub remove_is : (s : Pages) (k q : ℕ) → set.contains (set.remove s k) q ≡ (not (q == k) && set.contains s q)
remove_is s k q = contains-remove nat_cmp_total s k q ∙ ap (λ b. not b && set.contains s q) (unsigned_tied q k)

-- a number below n + 1 is n or below n
pub lt_suc : (q n : ℕ) → nat_lt q (suc n) ≡ ((q == n) || nat_lt q n)
lt_suc q n = grind (arith, nat_tests)

at_most_one : (b : Bool) → cond b 1 0 ≤ 1
at_most_one true = omega arith
at_most_one false = omega arith

module _ (test : ℕ → Bool) where
  pub one_passes : (n q : ℕ) → test n ≡ true → ((q == n) || (nat_lt q n && test q)) ≡ (nat_lt q (suc n) && test q)
  one_passes n q one = elim (cases_eq q n) [
    | inl here ↦
        let left = eq-eqb q n here in let more = lt-ltb q (suc n) (omega arith) in let passes = ap test here ∙ one in
        ap (λ b. b || (nat_lt q n && test q)) left ∙ sym (ap (λ b. b && test q) more ∙ passes)
    | inr apart ↦ ap (λ b. b || (nat_lt q n && test q)) (ne_eqb q n apart) ∙ ap (λ b. b && test q) (sym (lt_suc q n ∙ ap (λ b. b || nat_lt q n) (ne_eqb q n apart)))
  ]

  pub none_passes : (n q : ℕ) → test n ≡ false → (nat_lt q n && test q) ≡ (nat_lt q (suc n) && test q)
  none_passes n q none = elim (cases_eq q n) [
    | inl here ↦
        let left = le-ltb q n (omega arith) in let more = lt-ltb q (suc n) (omega arith) in let fails = ap test here ∙ none in
        ap (λ b. b && test q) left ∙ sym (ap (λ b. b && test q) more ∙ fails)
    | inr apart ↦ ap (λ b. b && test q) (sym (lt_suc q n ∙ ap (λ b. b || nat_lt q n) (ne_eqb q n apart)))
  ]

  pub contains-passing_below : (n q : ℕ) → set.contains (passing_below test n) q ≡ (nat_lt q n && test q)
  unfolding passing_below
  contains-passing_below zero q = contains-empty nat_cmp q ∙ ap (λ b. b && test q) (sym (le-ltb q 0 (omega arith)))
  contains-passing_below (suc n) q =
      elim (test n) as (λ b. test n ≡ b → set.contains (cond b (set.insert (passing_below test n) n) (passing_below test n)) q ≡ (nat_lt q (suc n) && test q)) [
        | true ↦ λ one. insert_is (passing_below test n) n q ∙ ap (λ b. (q == n) || b) (contains-passing_below n q) ∙ one_passes n q one
        | false ↦ λ none. contains-passing_below n q ∙ none_passes n q none
      ] refl

  -- the next number is not among those below it
  next_is_new : (n : ℕ) → set.contains (passing_below test n) n ≡ false
  next_is_new n = contains-passing_below n n ∙ ap (λ b. b && test n) (le-ltb n n (omega arith))

  pub len_more : (n : ℕ) → set.len (passing_below test (suc n)) ≡ set.len (passing_below test n) + cond (test n) 1 0
  unfolding passing_below
  len_more n =
      elim (test n) as (λ b. set.len (cond b (set.insert (passing_below test n) n) (passing_below test n)) ≡ set.len (passing_below test n) + cond b 1 0) [
        | true ↦ len-insert nat_cmp_total (passing_below test n) n ∙ ap (λ b. cond b (set.len (passing_below test n)) (set.len (passing_below test n) + 1)) (next_is_new n)
        | false ↦ omega arith
      ]

  pub len_none : set.len (passing_below test 0) ≡ 0
  unfolding passing_below
  len_none = len-empty nat_cmp

  len_at_most : (n : ℕ) → set.len (passing_below test n) ≤ n
  len_at_most zero = omega (arith, len_none)
  len_at_most (suc n) = omega (arith, len_at_most n, len_more n, at_most_one (test n))

  -- where all pass they are all there
  len_all : (n : ℕ) → ((q : ℕ) → q < n → test q ≡ true) → set.len (passing_below test n) ≡ n
  len_all zero all = len_none
  len_all (suc n) all =
      let before = len_all n (λ q below. all q (omega arith)) in
      let here = ap {B = ℕ} (λ b. cond b 1 0) (all n (omega arith)) in
      omega (arith, len_more n, before, here)

  -- where one fails there are fewer
  len_missing : (n q : ℕ) → q < n → test q ≡ false → set.len (passing_below test n) < n
  len_missing zero q below fails = absurd (omega arith)
  len_missing (suc n) q below fails = elim (cases_eq q n) [
    | inl here ↦ let none = ap {B = ℕ} (λ b. cond b 1 0) (sym (ap test here) ∙ fails) in omega (arith, len_more n, none, len_at_most n)
    | inr apart ↦ omega (arith, len_more n, at_most_one (test n), len_missing n q (omega arith) fails)
  ]

  -- where those below k pass and no others, there are k
  len_first : (k n : ℕ) → ((q : ℕ) → test q ≡ nat_lt q k) → set.len (passing_below test n) ≡ min n k
  len_first k zero first = omega (arith, len_none)
  len_first k (suc n) first = elim (cases_lt n k) [
    | inl below ↦ let one = ap {B = ℕ} (λ b. cond b 1 0) (first n ∙ lt-ltb n k below) in omega (arith, len_more n, one, len_first k n first)
    | inr past ↦ let none = ap {B = ℕ} (λ b. cond b 1 0) (first n ∙ le-ltb n k past) in omega (arith, len_more n, none, len_first k n first)
  ]

-- the set of the numbers below a bound that pass is the only one that contains just these
pub passing_below_are : (test : ℕ → Bool) (n : ℕ) (s : Pages) → ((q : ℕ) → set.contains s q ≡ (nat_lt q n && test q)) → s ≡ passing_below test n
passing_below_are test n s same = same_set nat_cmp_total nat_cmp-IsAntisymmetric s (passing_below test n) (λ q. same q ∙ sym (contains-passing_below test n q))

-- what the set of the marked pages contains
pub contains-marked_pages : (low high : Page) (q : ℕ) → set.contains (marked_pages low high) q ≡ (nat_lt q 4288 && is_marked low high q)
unfolding marked_pages
contains-marked_pages low high q = contains-passing_below (is_marked low high) 4288 q

pub contains-marked_page : (low high : Page) (q : ℕ) → q < 4288 → set.contains (marked_pages low high) q ≡ is_marked low high q
contains-marked_page low high q below = contains-marked_pages low high q ∙ ap (λ b. b && is_marked low high q) (lt-ltb q 4288 below)

-- it is the only such set
pub marked_pages_are : (low high : Page) (s : Pages) → ((q : ℕ) → set.contains s q ≡ (nat_lt q 4288 && is_marked low high q)) → s ≡ marked_pages low high
marked_pages_are low high s same = same_set nat_cmp_total nat_cmp-IsAntisymmetric s (marked_pages low high) (λ q. same q ∙ sym (contains-marked_pages low high q))

pub len_all_marked : (low high : Page) → ((q : ℕ) → q < 4288 → is_marked low high q ≡ true) → set.len (marked_pages low high) ≡ 4288
unfolding marked_pages
len_all_marked low high all = len_all (is_marked low high) 4288 all

pub len_one_unmarked : (low high : Page) (q : ℕ) → q < 4288 → is_marked low high q ≡ false → set.len (marked_pages low high) < 4288
unfolding marked_pages
len_one_unmarked low high q below unmarked = len_missing (is_marked low high) 4288 q below unmarked

pub len_first_marked : (low high : Page) (k : ℕ) → k ≤ 4288 → ((q : ℕ) → is_marked low high q ≡ nat_lt q k) → set.len (marked_pages low high) ≡ k
unfolding marked_pages
len_first_marked low high k within first = omega (arith, len_first (is_marked low high) k 4288 first)

-- two tests that differ at one number
module _ (f f' : ℕ → Bool) (n bound : ℕ) (others : (m : ℕ) → m ≢ n → f' m ≡ f m) where
  passes_too : n < bound → f' n ≡ true → (q : ℕ) → ((q == n) || (nat_lt q bound && f q)) ≡ (nat_lt q bound && f' q)
  passes_too within one q = elim (cases_eq q n) [
    | inl here ↦ ap (λ b. b || (nat_lt q bound && f q)) (eq-eqb q n here) ∙ sym (ap (λ b. b && f' q) (lt-ltb q bound (omega arith)) ∙ ap f' here ∙ one)
    | inr apart ↦ ap (λ b. b || (nat_lt q bound && f q)) (ne_eqb q n apart) ∙ ap (λ b. nat_lt q bound && b) (sym (others q apart))
  ]

  fails_now : f' n ≡ false → (q : ℕ) → (not (q == n) && (nat_lt q bound && f q)) ≡ (nat_lt q bound && f' q)
  fails_now none q = elim (cases_eq q n) [
    | inl here ↦ ap (λ b. not b && (nat_lt q bound && f q)) (eq-eqb q n here) ∙ sym (and_right _ _ (ap f' here ∙ none))
    | inr apart ↦ ap (λ b. not b && (nat_lt q bound && f q)) (ne_eqb q n apart) ∙ ap (λ b. nat_lt q bound && b) (sym (others q apart))
  ]

-- a page that is marked comes into the set
pub marks_one : (n : ℕ) (low high low' high' : Page) → n < 4288 → Marks n true low high low' high' → marked_pages low' high' ≡ set.insert (marked_pages low high) n
marks_one n low high low' high' within marks = sym (marked_pages_are low' high' _ (λ q.
    insert_is (marked_pages low high) n q ∙ ap (λ b. (q == n) || b) (contains-marked_pages low high q)
    ∙ passes_too (is_marked low high) (is_marked low' high') n 4288 marks.others within marks.marked q))

-- a page whose mark is taken away leaves the set
pub unmarks_one : (n : ℕ) (low high low' high' : Page) → Marks n false low high low' high' → marked_pages low' high' ≡ set.remove (marked_pages low high) n
unmarks_one n low high low' high' marks = sym (marked_pages_are low' high' _ (λ q.
    remove_is (marked_pages low high) n q ∙ ap (λ b. not (q == n) && b) (contains-marked_pages low high q)
    ∙ fails_now (is_marked low high) (is_marked low' high') n 4288 marks.others marks.marked q))

-- how many there are after a page came or went
pub len_one_more : (s : Pages) (n : ℕ) → set.contains s n ≡ false → set.len (set.insert s n) ≡ set.len s + 1
len_one_more s n new = len-insert nat_cmp_total s n ∙ ap (λ b. cond b (set.len s) (set.len s + 1)) new

pub len_one_fewer : (s : Pages) (n : ℕ) → set.contains s n ≡ true → set.len (set.remove s n) + 1 ≡ set.len s
len_one_fewer s n here =
    let left = len-remove nat_cmp_total s n ∙ ap (λ b. cond b (set.len s - 1) (set.len s)) here in
    elim (cases_eq (set.len s) 0) [
      | inl none ↦ absurd (false≢true (sym (contains-empty nat_cmp n) ∙ sym (ap (λ t. set.contains t n) (empty_of_len s none)) ∙ here))
      | inr some ↦ omega (arith, left)
    ]
