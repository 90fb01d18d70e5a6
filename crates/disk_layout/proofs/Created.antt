-- A new file, or one file less: the pages are laid out again.
use Rattle.std.proofs.Common.{◌≡◌, ◌≢◌, ℕ, ◌+◌, ◌/◌, ◌%◌, ◌<◌, ◌≤◌, Bool, true, false, ◌||◌, ◌==◌, cond, Option, Some, None, is_some, refl, ap, sym, subst, ◌∙◌, inl, inr, arith}
use Rattle.std.specs.Prelude.{nat_lt, ◌⊎◌}
use Rattle.std.proofs.lemmas.Bool.{cases_eq, eq-eqb, ne_eqb}
use Rattle.disk_layout.specs.Disk.{Disk}
use Rattle.disk_layout.specs.Format.{IsAddress, part_count}
use Rattle.disk_layout.specs.Layout.{Use, index_at, length_at, part_at, address_of, HasFile, InUse, Owns}
use Rattle.disk_layout.specs.Layout.Use.{Index, Part, Page}

-- a file without pages comes to the empty place p, with the index page i
pub record Created (d d' : Disk) (owner : ℕ → Option Use) (p i : ℕ) : Type 0 where
  pub inside : p < 240
  pub was_empty : (d.entry p).kind ≡ 0
  pub used : (d'.entry p).kind ≢ 0
  pub index : (d'.entry p).address ≡ i
  pub kinds : (k : ℕ) → k < 240 → k ≢ p → (d'.entry k).kind ≡ (d.entry k).kind
  pub addresses : (k : ℕ) → k < 240 → k ≢ p → (d'.entry k).address ≡ (d.entry k).address
  pub free_page : IsAddress i
  pub unused : owner i ≡ None
  pub blank : (k : ℕ) → k < 256 → d'.number i k ≡ 0
  pub others : (n k : ℕ) → IsAddress n → n ≢ i → d'.number n k ≡ d.number n k
  pub marked : (n : ℕ) → n < 4288 → d'.marked n ≡ ((n == i) || d.marked n)

or_true : (b : Bool) → (b || true) ≡ true
or_true true = refl
or_true false = refl

none_is_some : (u : Use) → ◌≡◌ {A = Option Use} None (Some u) → ⊥
none_is_some u e = cc

same_use : (u v : Use) → ◌≡◌ {A = Option Use} (Some u) (Some v) → u ≡ v
same_use u v e = cc

module _ (d d' : Disk) (owner : ℕ → Option Use) (p i : ℕ) (o : Owns d owner) (a : Created d d' owner p i) where
  abbrev pub owner_with : ℕ → Option Use
  owner_with n = cond (n == i) (Some (Index p)) (owner n)

  owner_i : (n : ℕ) → n ≡ i → owner_with n ≡ Some (Index p)
  owner_i n e = ap (λ b. cond b (Some (Index p)) (owner n)) (eq-eqb n i e)

  owner_other : (n : ℕ) → n ≢ i → owner_with n ≡ owner n
  owner_other n e = ap (λ b. cond b (Some (Index p)) (owner n)) (ne_eqb n i e)

  not_i : (n : ℕ) (u : Use) → owner n ≡ Some u → n ≢ i
  not_i n u e h = none_is_some u (sym a.unused ∙ ap owner (sym h) ∙ e)

  not_p : (p' : ℕ) → HasFile d p' → p' ≢ p
  not_p p' has e = has.used (ap (λ k. (d.entry k).kind) e ∙ a.was_empty)

  has_then : (p' : ℕ) → HasFile d p' → HasFile d' p'
  has_then p' has = record { inside = has.inside; used = λ e. has.used (sym (a.kinds p' has.inside (not_p p' has)) ∙ e) }

  had : (p' : ℕ) → HasFile d' p' → p' ≢ p → HasFile d p'
  had p' has other = record { inside = has.inside; used = λ e. has.used (a.kinds p' has.inside other ∙ e) }

  same_numbers : (n : ℕ) (u : Use) → owner n ≡ Some u → (k : ℕ) → d'.number n k ≡ d.number n k
  same_numbers n u e k = a.others n k (o.free n u e) (not_i n u e)

  index_same : (p' : ℕ) → HasFile d p' → index_at d' p' ≡ index_at d p'
  index_same p' has = a.addresses p' has.inside (not_p p' has)

  pub index_numbers : (p' : ℕ) → HasFile d p' → (k : ℕ) → d'.number (index_at d' p') k ≡ d.number (index_at d p') k
  index_numbers p' has k = ap (λ n. d'.number n k) (index_same p' has) ∙ same_numbers _ _ (o.known (Index p') has) k

  part_numbers : (p' k : ℕ) → HasFile d p' → k < part_count (length_at d p') → (j : ℕ) → d'.number (part_at d' p' k) j ≡ d.number (part_at d p' k) j
  part_numbers p' k has below j = ap (λ n. d'.number n j) (index_numbers p' has (k + 1)) ∙ same_numbers _ _ (o.known (Part p' k) (has, below)) j

  pub same_address : (u : Use) → InUse d u → address_of d' u ≡ address_of d u
  same_address (Index p') has = index_same p' has
  same_address (Part p' k) its = index_numbers p' its.0 (k + 1)
  same_address (Page p' j) its = part_numbers p' (j / 250) its.0 (omega (arith, its.1)) (j % 250)

  still : (u : Use) → InUse d u → InUse d' u
  still (Index p') has = has_then p' has
  still (Part p' k) its = (has_then p' its.0, omega (arith, its.1, index_numbers p' its.0 0))
  still (Page p' j) its = (has_then p' its.0, omega (arith, its.1, index_numbers p' its.0 0))

  empty_length : length_at d' p ≡ 0
  empty_length = ap (λ n. d'.number n 0) a.index ∙ a.blank 0 (omega arith)

  new_use : (u : Use) → InUse d' u → InUse d u ⊎ (u ≡ Index p)
  new_use (Index p') has = elim (cases_eq p' p) [
    | inl own ↦ inr (ap Index own)
    | inr other ↦ inl (had p' has other)
  ]
  new_use (Part p' k) its = elim (cases_eq p' p) [
    | inl own ↦ let less = subst (λ x. k < part_count (length_at d' x)) own its.1 in absurd (omega (arith, less, empty_length))
    | inr other ↦ let has = had p' its.0 other in inl (has, omega (arith, its.1, index_numbers p' has 0))
  ]
  new_use (Page p' j) its = elim (cases_eq p' p) [
    | inl own ↦ let less = subst (λ x. j < length_at d' x) own its.1 in absurd (omega (arith, less, empty_length))
    | inr other ↦ let has = had p' its.0 other in inl (has, omega (arith, its.1, index_numbers p' has 0))
  ]

  index_in_use : InUse d' (Index p)
  index_in_use = record { inside = a.inside; used = a.used }

  pub owns_with : Owns d' owner_with
  owns_with = record {
    known = λ u its. elim (new_use u its) [
      | inl old ↦ let e = o.known u old in ap owner_with (same_address u old) ∙ owner_other _ (not_i _ u e) ∙ e
      | inr e ↦ subst (λ x. owner_with (address_of d' x) ≡ Some x) (sym e) (owner_i _ a.index)
    ];
    only = λ n u e. elim (cases_eq n i) [
      | inl here ↦ subst (λ x. InUse d' x × (address_of d' x ≡ n)) (same_use _ u (sym (owner_i n here) ∙ e)) (index_in_use, a.index ∙ sym here)
      | inr other ↦ let its = o.only n u (sym (owner_other n other) ∙ e) in (still u its.0, same_address u its.0 ∙ its.1)
    ];
    free = λ n u e. elim (cases_eq n i) [
      | inl here ↦ subst IsAddress (sym here) a.free_page
      | inr other ↦ o.free n u (sym (owner_other n other) ∙ e)
    ];
    marked = λ n within. a.marked n within ∙ elim (cases_eq n i) [
      | inl here ↦ ap (λ b. b || d.marked n) (eq-eqb n i here) ∙ sym (ap (λ x. nat_lt n 18 || is_some x) (owner_i n here) ∙ or_true (nat_lt n 18))
      | inr other ↦ ap (λ b. b || d.marked n) (ne_eqb n i other) ∙ o.marked n within ∙ ap (λ x. nat_lt n 18 || is_some x) (sym (owner_other n other))
    ];
    short = λ p' has. elim (cases_eq p' p) [
      | inl own ↦ subst (λ x. length_at d' x ≤ 4000) (sym own) (omega (arith, empty_length))
      | inr other ↦ omega (arith, index_numbers p' (had p' has other) 0, o.short p' (had p' has other))
    ];
    index_rest = λ p' k has late within. elim (cases_eq p' p) [
      | inl own ↦ subst (λ x. d'.number (index_at d' x) k ≡ 0) (sym own) (ap (λ n. d'.number n k) a.index ∙ a.blank k within)
      | inr other ↦ let file = had p' has other in index_numbers p' file k ∙ o.index_rest p' k file (omega (arith, late, index_numbers p' file 0)) within
    ];
    part_rest = λ p' k j has below late within. elim (cases_eq p' p) [
      | inl own ↦ let less = subst (λ x. k < part_count (length_at d' x)) own below in absurd (omega (arith, less, empty_length))
      | inr other ↦
          let file = had p' has other in
          let same = index_numbers p' file 0 in
          let before : k < part_count (length_at d p') = omega (arith, below, same) in
          part_numbers p' k file before j ∙ o.part_rest p' k j file before (omega (arith, late, same)) within
    ];
  }

-- ---- One file less

abbrev pub place : Use → ℕ
place (Index p) = p
place (Part p k) = p
place (Page p j) = p

-- what the page serves for, unless it is the file's at place p
abbrev pub keep : ℕ → Option Use → Option Use
keep p None = None
keep p (Some u) = cond (place u == p) None (Some u)

pub record Deleted (d d' : Disk) (owner : ℕ → Option Use) (p : ℕ) : Type 0 where
  pub now_empty : (d'.entry p).kind ≡ 0
  pub kinds : (k : ℕ) → k < 240 → k ≢ p → (d'.entry k).kind ≡ (d.entry k).kind
  pub addresses : (k : ℕ) → k < 240 → k ≢ p → (d'.entry k).address ≡ (d.entry k).address
  pub numbers : (n k : ℕ) → IsAddress n → d'.number n k ≡ d.number n k
  pub marked : (n : ℕ) → n < 4288 → d'.marked n ≡ (nat_lt n 18 || is_some (keep p (owner n)))

module _ (d d' : Disk) (owner : ℕ → Option Use) (p : ℕ) (o : Owns d owner) (a : Deleted d d' owner p) where
  abbrev pub owner_without : ℕ → Option Use
  owner_without n = keep p (owner n)

  kept_owner : (n : ℕ) (u : Use) → owner n ≡ Some u → place u ≢ p → owner_without n ≡ Some u
  kept_owner n u e apart = ap (keep p) e ∙ ap (λ b. cond b None (Some u)) (ne_eqb (place u) p apart)

  was_owner : (n : ℕ) (u : Use) → owner_without n ≡ Some u → (owner n ≡ Some u) × (place u ≢ p)
  was_owner n u e = elim (owner n) as (λ x. keep p x ≡ Some u → (x ≡ Some u) × (place u ≢ p)) [
    | None ↦ λ h. absurd (none_is_some u h)
    | Some v ↦ λ h. elim (cases_eq (place v) p) [
      | inl gone ↦ absurd (none_is_some u (sym (ap (λ b. cond b None (Some v)) (eq-eqb (place v) p gone)) ∙ h))
      | inr stays ↦
          let same = sym (ap (λ b. cond b None (Some v)) (ne_eqb (place v) p stays)) ∙ h in
          (same, λ x. stays (ap place (same_use v u same) ∙ x))
    ]
  ] e

  had_file : (p' : ℕ) → HasFile d' p' → HasFile d p' × (p' ≢ p)
  had_file p' has =
      let other : p' ≢ p = λ e. has.used (ap (λ k. (d'.entry k).kind) e ∙ a.now_empty) in
      (record { inside = has.inside; used = λ e. has.used (a.kinds p' has.inside other ∙ e) }, other)

  has_file : (p' : ℕ) → HasFile d p' → p' ≢ p → HasFile d' p'
  has_file p' has other = record { inside = has.inside; used = λ e. has.used (sym (a.kinds p' has.inside other) ∙ e) }

  pub numbers_of_index : (p' : ℕ) → HasFile d p' → p' ≢ p → (k : ℕ) → d'.number (index_at d' p') k ≡ d.number (index_at d p') k
  numbers_of_index p' has other k = ap (λ n. d'.number n k) (a.addresses p' has.inside other) ∙ a.numbers _ k (o.free _ _ (o.known (Index p') has))

  numbers_of_part : (p' k : ℕ) → HasFile d p' → p' ≢ p → k < part_count (length_at d p') → (j : ℕ) → d'.number (part_at d' p' k) j ≡ d.number (part_at d p' k) j
  numbers_of_part p' k has other below j =
      ap (λ n. d'.number n j) (numbers_of_index p' has other (k + 1)) ∙ a.numbers _ j (o.free _ _ (o.known (Part p' k) (has, below)))

  pub address_stays : (u : Use) → InUse d u → place u ≢ p → address_of d' u ≡ address_of d u
  address_stays (Index p') has other = a.addresses p' has.inside other
  address_stays (Part p' k) its other = numbers_of_index p' its.0 other (k + 1)
  address_stays (Page p' j) its other = numbers_of_part p' (j / 250) its.0 other (omega (arith, its.1)) (j % 250)

  use_stays : (u : Use) → InUse d u → place u ≢ p → InUse d' u
  use_stays (Index p') has other = has_file p' has other
  use_stays (Part p' k) its other = (has_file p' its.0 other, omega (arith, its.1, numbers_of_index p' its.0 other 0))
  use_stays (Page p' j) its other = (has_file p' its.0 other, omega (arith, its.1, numbers_of_index p' its.0 other 0))

  use_was : (u : Use) → InUse d' u → InUse d u × (place u ≢ p)
  use_was (Index p') has = had_file p' has
  use_was (Part p' k) its = let x = had_file p' its.0 in ((x.0, omega (arith, its.1, numbers_of_index p' x.0 x.1 0)), x.1)
  use_was (Page p' j) its = let x = had_file p' its.0 in ((x.0, omega (arith, its.1, numbers_of_index p' x.0 x.1 0)), x.1)

  pub owns_without : Owns d' owner_without
  owns_without = record {
    known = λ u its. let x = use_was u its in ap owner_without (address_stays u x.0 x.1) ∙ kept_owner _ u (o.known u x.0) x.1;
    only = λ n u e. let x = was_owner n u e in let its = o.only n u x.0 in (use_stays u its.0 x.1, address_stays u its.0 x.1 ∙ its.1);
    free = λ n u e. o.free n u (was_owner n u e).0;
    marked = a.marked;
    short = λ p' has. let x = had_file p' has in omega (arith, numbers_of_index p' x.0 x.1 0, o.short p' x.0);
    index_rest =
        λ p' k has late within. let x = had_file p' has in numbers_of_index p' x.0 x.1 k
        ∙ o.index_rest p' k x.0 (omega (arith, late, numbers_of_index p' x.0 x.1 0)) within;
    part_rest = λ p' k j has below late within.
        let x = had_file p' has in
        let same = numbers_of_index p' x.0 x.1 0 in
        let before : k < part_count (length_at d p') = omega (arith, below, same) in
        numbers_of_part p' k x.0 x.1 before j ∙ o.part_rest p' k j x.0 before (omega (arith, late, same)) within;
  }
