-- A page more behind a file: the pages are laid out again.
use Rattle.std.proofs.Common.{◌≡◌, ◌≢◌, ℕ, ◌+◌, ◌/◌, ◌%◌, ◌<◌, ◌≤◌, Bool, true, false, ◌||◌, ◌==◌, cond, Option, Some, None, is_some, refl, ap, sym, subst, ◌∙◌, inl, inr, arith}
use Rattle.std.specs.Prelude.{nat_lt, ◌⊎◌}
use Rattle.std.proofs.lemmas.Bool.{cases_eq, eq-eqb, ne_eqb}
use Rattle.disk_layout.specs.Disk.{Disk}
use Rattle.disk_layout.specs.Format.{IsAddress, part_count, count_in_part}
use Rattle.disk_layout.specs.Layout.{Use, index_at, length_at, part_at, page_number, address_of, HasFile, InUse, Owns}
use Rattle.disk_layout.specs.Layout.Use.{Index, Part, Page}

-- the page f comes behind the file at place p, in its part page q
pub record Appended (d d' : Disk) (owner : ℕ → Option Use) (p q f : ℕ) : Type 0 where
  pub has : HasFile d p
  pub room : length_at d p < 4000
  pub entries : (k : ℕ) → k < 240 → d'.entry k ≡ d.entry k
  pub free_page : IsAddress f
  pub unused : owner f ≡ None
  pub part_page : IsAddress q
  pub apart : q ≢ f
  pub part : ((length_at d p % 250 ≡ 0) × (owner q ≡ None)) ⊎ ((length_at d p % 250 ≢ 0) × (owner q ≡ Some (Part p (length_at d p / 250))))
  pub named : d'.number q (length_at d p % 250) ≡ f
  pub part_kept : (j : ℕ) → j < length_at d p % 250 → d'.number q j ≡ d.number q j
  pub part_rest : (j : ℕ) → length_at d p % 250 < j → j < 256 → d'.number q j ≡ 0
  pub length : d'.number (index_at d p) 0 ≡ length_at d p + 1
  pub index : d'.number (index_at d p) (length_at d p / 250 + 1) ≡ q
  pub index_kept : (k : ℕ) → k ≢ 0 → k ≢ length_at d p / 250 + 1 → d'.number (index_at d p) k ≡ d.number (index_at d p) k
  pub others : (n k : ℕ) → IsAddress n → n ≢ f → n ≢ q → n ≢ index_at d p → d'.number n k ≡ d.number n k
  pub marked : (n : ℕ) → n < 4288 → d'.marked n ≡ ((n == f) || ((n == q) || d.marked n))

or_true : (b : Bool) → (b || true) ≡ true
or_true true = refl
or_true false = refl

module _ (d d' : Disk) (owner : ℕ → Option Use) (p q f : ℕ) (o : Owns d owner) (a : Appended d d' owner p q f) where
  abbrev L : ℕ
  L = length_at d p

  abbrev i : ℕ
  i = index_at d p

  abbrev pub owner_then : ℕ → Option Use
  owner_then n = cond (n == f) (Some (Page p (length_at d p))) (cond (n == q) (Some (Part p (length_at d p / 250))) (owner n))

  owner_f : (n : ℕ) → n ≡ f → owner_then n ≡ Some (Page p L)
  owner_f n e = ap (λ b. cond b (Some (Page p L)) (cond (n == q) (Some (Part p (L / 250))) (owner n))) (eq-eqb n f e)

  owner_q : (n : ℕ) → n ≡ q → owner_then n ≡ Some (Part p (L / 250))
  owner_q n e =
      ap (λ b. cond b (Some (Page p L)) (cond (n == q) (Some (Part p (L / 250))) (owner n))) (ne_eqb n f (λ h. a.apart (sym e ∙ h)))
      ∙ ap (λ b. cond b (Some (Part p (L / 250))) (owner n)) (eq-eqb n q e)

  owner_other : (n : ℕ) → n ≢ f → n ≢ q → owner_then n ≡ owner n
  owner_other n not_f not_q =
      ap (λ b. cond b (Some (Page p L)) (cond (n == q) (Some (Part p (L / 250))) (owner n))) (ne_eqb n f not_f)
      ∙ ap (λ b. cond b (Some (Part p (L / 250))) (owner n)) (ne_eqb n q not_q)

  none_is_some : (u : Use) → ◌≡◌ {A = Option Use} None (Some u) → ⊥
  none_is_some u e = cc

  same_use : (u v : Use) → ◌≡◌ {A = Option Use} (Some u) (Some v) → u ≡ v
  same_use u v e = cc

  not_f : (n : ℕ) (u : Use) → owner n ≡ Some u → n ≢ f
  not_f n u e h = none_is_some u (sym a.unused ∙ ap owner (sym h) ∙ e)

  -- whatever the new part page served for before is that part
  q_is : (n : ℕ) (u : Use) → owner n ≡ Some u → n ≡ q → u ≡ Part p (L / 250)
  q_is n u e h = elim a.part [
    | inl fresh ↦ absurd (none_is_some u (sym fresh.1 ∙ ap owner (sym h) ∙ e))
    | inr there ↦ same_use u _ (sym e ∙ ap owner h ∙ there.1)
  ]

  pub index_same : (p' : ℕ) → p' < 240 → index_at d' p' ≡ index_at d p'
  index_same p' inside = ap (λ e. e.address) (a.entries p' inside)

  has_then : (p' : ℕ) → HasFile d p' → HasFile d' p'
  has_then p' has = record { inside = has.inside; used = subst (λ e. e.kind ≢ 0) (sym (a.entries p' has.inside)) has.used }

  had : (p' : ℕ) → HasFile d' p' → HasFile d p'
  had p' has = record { inside = has.inside; used = subst (λ e. e.kind ≢ 0) (a.entries p' has.inside) has.used }

  number_same : (n : ℕ) (u : Use) → owner n ≡ Some u → u ≢ Index p → u ≢ Part p (L / 250) → (k : ℕ) → d'.number n k ≡ d.number n k
  number_same n u e not_index not_part k =
      a.others n k (o.free n u e) (not_f n u e) (λ h. not_part (q_is n u e h)) (λ h. not_index (same_use u (Index p) (sym e ∙ ap owner h
      ∙ o.known (Index p) a.has)))

  -- ---- The file itself

  pub length_own : length_at d' p ≡ L + 1
  length_own = ap (λ n. d'.number n 0) (index_same p a.has.inside) ∙ a.length

  new_part : part_at d' p (L / 250) ≡ q
  new_part = ap (λ n. d'.number n (L / 250 + 1)) (index_same p a.has.inside) ∙ a.index

  pub new_page : page_number d' p L ≡ f
  new_page = ap (λ n. d'.number n (L % 250)) new_part ∙ a.named

  -- a part in use that the new page comes into is the part page
  part_there : L % 250 ≢ 0 → part_at d p (L / 250) ≡ q
  part_there some = elim a.part [
    | inl fresh ↦ absurd (some fresh.0)
    | inr there ↦ (o.only q _ there.1).1
  ]

  part_own : (k : ℕ) → k < part_count L → part_at d' p k ≡ part_at d p k
  part_own k below = elim (cases_eq k (L / 250)) [
    | inl last ↦ let some : L % 250 ≢ 0 = λ none. omega (arith, none, below, last) in
        ap (part_at d' p) last ∙ new_part ∙ sym (part_there some) ∙ ap (part_at d p) (sym last)
    | inr other ↦ ap (λ n. d'.number n (k + 1)) (index_same p a.has.inside) ∙ a.index_kept (k + 1) (λ e. omega (arith, e)) (λ e. other (omega (arith, e)))
  ]

  -- ---- The other files

  index_not : (p' : ℕ) → p' ≢ p → Index p' ≢ Index p
  index_not p' other e = other (place_of e)
    where
      place : Use → ℕ
      place (Index x) = x
      place (Part x k) = x
      place (Page x k) = x

      place_of : Index p' ≡ Index p → p' ≡ p
      place_of e = ap place e

  pub index_numbers : (p' : ℕ) → p' ≢ p → HasFile d p' → (k : ℕ) → d'.number (index_at d' p') k ≡ d.number (index_at d p') k
  index_numbers p' other has k =
      ap (λ n. d'.number n k) (index_same p' has.inside) ∙ number_same (index_at d p') (Index p') (o.known (Index p') has) (index_not p' other) (λ e. cc) k

  -- ---- Both

  pub part_same : (p' k : ℕ) → HasFile d p' → k < part_count (length_at d p') → part_at d' p' k ≡ part_at d p' k
  part_same p' k has below = elim (cases_eq p' p) [
    | inl own ↦ subst (λ x. k < part_count (length_at d x) → part_at d' x k ≡ part_at d x k) (sym own) (part_own k) below
    | inr other ↦ index_numbers p' other has (k + 1)
  ]

  longer : (p' : ℕ) → HasFile d p' → length_at d p' ≤ length_at d' p'
  longer p' has = elim (cases_eq p' p) [
    | inl own ↦ subst (λ x. length_at d x ≤ length_at d' x) (sym own) (omega (arith, length_own))
    | inr other ↦ omega (arith, index_numbers p' other has 0)
  ]

  pub page_same : (p' j : ℕ) → HasFile d p' → j < length_at d p' → page_number d' p' j ≡ page_number d p' j
  page_same p' j has below =
      let within : j / 250 < part_count (length_at d p') = omega (arith, below) in
      let e = o.known (Part p' (j / 250)) (has, within) in
      ap (λ n. d'.number n (j % 250)) (part_same p' (j / 250) has within)
      ∙ elim (cases_eq p' p) [
        | inl own ↦ elim (cases_eq (j / 250) (L / 250)) [
          | inl last ↦
              let less : j < L = subst (λ x. j < length_at d x) own below in
              let some : L % 250 ≢ 0 = λ none. omega (arith, none, less, last) in
              let is : part_at d p' (j / 250) ≡ q = ap (λ x. part_at d x (j / 250)) own ∙ ap (part_at d p) last ∙ part_there some in
              ap (λ n. d'.number n (j % 250)) is ∙ a.part_kept (j % 250) (omega (arith, less, last)) ∙ ap (λ n. d.number n (j % 250)) (sym is)
          | inr earlier ↦ number_same _ _ e (λ h. cc) (λ h. earlier (part_place h)) (j % 250)
        ]
        | inr other ↦ number_same _ _ e (λ h. cc) (λ h. other (part_file h)) (j % 250)
      ]
    where
      place : Use → ℕ
      place (Index x) = x
      place (Part x k) = x
      place (Page x k) = x

      count : Use → ℕ
      count (Index x) = x
      count (Part x k) = k
      count (Page x k) = k

      part_file : {k k' : ℕ} → Part p' k ≡ Part p k' → p' ≡ p
      part_file e = ap place e

      part_place : {k k' : ℕ} → Part p' k ≡ Part p k' → k ≡ k'
      part_place e = ap count e

  pub same_address : (u : Use) → InUse d u → address_of d' u ≡ address_of d u
  same_address (Index p') has = index_same p' has.inside
  same_address (Part p' k) its = part_same p' k its.0 its.1
  same_address (Page p' j) its = page_same p' j its.0 its.1

  still : (u : Use) → InUse d u → InUse d' u
  still (Index p') has = has_then p' has
  still (Part p' k) its = (has_then p' its.0, omega (arith, its.1, longer p' its.0))
  still (Page p' j) its = (has_then p' its.0, omega (arith, its.1, longer p' its.0))

  new_use : (u : Use) → InUse d' u → InUse d u ⊎ ((u ≡ Page p L) ⊎ (u ≡ Part p (L / 250)))
  new_use (Index p') has = inl (had p' has)
  new_use (Part p' k) its =
      let has = had p' its.0 in
      elim (cases_eq p' p) [
        | inl own ↦ elim (cases_eq k (L / 250)) [
          | inl last ↦ inr (inr (ap (λ x. Part x k) own ∙ ap (Part p) last))
          | inr earlier ↦
              let less : k < part_count (length_at d' p) = subst (λ x. k < part_count (length_at d' x)) own its.1 in
              inl (has, subst (λ x. k < part_count (length_at d x)) (sym own) (omega (arith, less, length_own, earlier)))
        ]
        | inr other ↦ inl (has, omega (arith, its.1, index_numbers p' other has 0))
      ]
  new_use (Page p' j) its =
      let has = had p' its.0 in
      elim (cases_eq p' p) [
        | inl own ↦ elim (cases_eq j L) [
          | inl last ↦ inr (inl (ap (λ x. Page x j) own ∙ ap (Page p) last))
          | inr earlier ↦
              let less : j < length_at d' p = subst (λ x. j < length_at d' x) own its.1 in
              inl (has, subst (λ x. j < length_at d x) (sym own) (omega (arith, less, length_own, earlier)))
        ]
        | inr other ↦ inl (has, omega (arith, its.1, index_numbers p' other has 0))
      ]

  owned_same : (u : Use) → InUse d u → owner_then (address_of d u) ≡ Some u
  owned_same u its =
      let e = o.known u its in
      elim (cases_eq (address_of d u) q) [
        | inl here ↦ owner_q _ here ∙ ap Some (sym (q_is _ u e here))
        | inr other ↦ owner_other _ (not_f _ u e) other ∙ e
      ]

  known_then : (u : Use) → InUse d' u → owner_then (address_of d' u) ≡ Some u
  known_then u its = elim (new_use u its) [
    | inl old ↦ ap owner_then (same_address u old) ∙ owned_same u old
    | inr (inl e) ↦ subst (λ x. owner_then (address_of d' x) ≡ Some x) (sym e) (owner_f _ new_page)
    | inr (inr e) ↦ subst (λ x. owner_then (address_of d' x) ≡ Some x) (sym e) (owner_q _ new_part)
  ]

  page_in_use : InUse d' (Page p L)
  page_in_use = (has_then p a.has, omega (arith, length_own))

  part_in_use : InUse d' (Part p (L / 250))
  part_in_use = (has_then p a.has, omega (arith, length_own))

  only_then : (n : ℕ) (u : Use) → owner_then n ≡ Some u → InUse d' u × (address_of d' u ≡ n)
  only_then n u e = elim (cases_eq n f) [
    | inl here ↦ let is = same_use _ u (sym (owner_f n here) ∙ e) in
        subst (λ x. InUse d' x × (address_of d' x ≡ n)) is (page_in_use, new_page ∙ sym here)
    | inr other ↦ elim (cases_eq n q) [
      | inl here ↦ let is = same_use _ u (sym (owner_q n here) ∙ e) in
          subst (λ x. InUse d' x × (address_of d' x ≡ n)) is (part_in_use, new_part ∙ sym here)
      | inr apart ↦ let its = o.only n u (sym (owner_other n other apart) ∙ e) in
          (still u its.0, same_address u its.0 ∙ its.1)
    ]
  ]

  free_then : (n : ℕ) (u : Use) → owner_then n ≡ Some u → IsAddress n
  free_then n u e = elim (cases_eq n f) [
    | inl here ↦ subst IsAddress (sym here) a.free_page
    | inr other ↦ elim (cases_eq n q) [
      | inl here ↦ subst IsAddress (sym here) a.part_page
      | inr apart ↦ o.free n u (sym (owner_other n other apart) ∙ e)
    ]
  ]

  marked_then : (n : ℕ) → n < 4288 → d'.marked n ≡ (nat_lt n 18 || is_some (owner_then n))
  marked_then n within = a.marked n within ∙ elim (cases_eq n f) [
    | inl here ↦
        ap (λ b. b || ((n == q) || d.marked n)) (eq-eqb n f here)
        ∙ sym (ap (λ x. nat_lt n 18 || is_some x) (owner_f n here) ∙ or_true (nat_lt n 18))
    | inr other ↦ ap (λ b. b || ((n == q) || d.marked n)) (ne_eqb n f other) ∙ elim (cases_eq n q) [
      | inl here ↦
          ap (λ b. b || d.marked n) (eq-eqb n q here)
          ∙ sym (ap (λ x. nat_lt n 18 || is_some x) (owner_q n here) ∙ or_true (nat_lt n 18))
      | inr apart ↦
          ap (λ b. b || d.marked n) (ne_eqb n q apart) ∙ o.marked n within
          ∙ ap (λ x. nat_lt n 18 || is_some x) (sym (owner_other n other apart))
    ]
  ]

  short_then : (p' : ℕ) → HasFile d' p' → length_at d' p' ≤ 4000
  short_then p' has = elim (cases_eq p' p) [
    | inl own ↦ subst (λ x. length_at d' x ≤ 4000) (sym own) (omega (arith, length_own, a.room))
    | inr other ↦ omega (arith, index_numbers p' other (had p' has) 0, o.short p' (had p' has))
  ]

  index_rest_then : (p' k : ℕ) → HasFile d' p' → part_count (length_at d' p') < k → k < 256 → d'.number (index_at d' p') k ≡ 0
  index_rest_then p' k has late within = elim (cases_eq p' p) [
    | inl own ↦ subst (λ x. part_count (length_at d' x) < k → d'.number (index_at d' x) k ≡ 0) (sym own) (λ behind.
        ap (λ n. d'.number n k) (index_same p a.has.inside) ∙ a.index_kept k (λ e. omega (arith, e, behind)) (λ e. omega (arith, e, behind, length_own))
        ∙ o.index_rest p k a.has (omega (arith, behind, length_own)) within) late
    | inr other ↦ index_numbers p' other (had p' has) k ∙ o.index_rest p' k (had p' has) (omega (arith, late, index_numbers p' other (had p' has) 0)) within
  ]

  part_rest_then : (p' k j : ℕ) → HasFile d' p' → k < part_count (length_at d' p') → count_in_part (length_at d' p') k ≤ j → j < 256
      → d'.number (part_at d' p' k) j ≡ 0
  part_rest_then p' k j has below late within = elim (cases_eq p' p) [
    | inl own ↦
        subst (λ x. k < part_count (length_at d' x) → count_in_part (length_at d' x) k ≤ j
        → d'.number (part_at d' x k) j ≡ 0) (sym own) (λ less behind. elim (cases_eq k (L / 250)) [
          | inl last ↦ ap (λ n. d'.number n j) (ap (part_at d' p) last ∙ new_part) ∙ a.part_rest j (omega (arith, behind, last, length_own)) within
          | inr earlier ↦
              let before : k < part_count L = omega (arith, less, length_own, earlier) in
              ap (λ n. d'.number n j) (part_own k before)
              ∙ number_same _ _ (o.known (Part p k) (a.has, before)) (λ h. cc) (λ h. earlier (ap count h)) j
              ∙ o.part_rest p k j a.has before (omega (arith, behind, length_own, less, earlier)) within
        ]) below late
    | inr other ↦
        let had_file = had p' has in
        let same = index_numbers p' other had_file 0 in
        let before : k < part_count (length_at d p') = omega (arith, below, same) in
        ap (λ n. d'.number n j) (part_same p' k had_file before)
        ∙ number_same _ _ (o.known (Part p' k) (had_file, before)) (λ h. cc) (λ h. other (ap place h)) j
        ∙ o.part_rest p' k j had_file before (omega (arith, late, same)) within
  ]
    where
      place : Use → ℕ
      place (Index x) = x
      place (Part x k) = x
      place (Page x k) = x

      count : Use → ℕ
      count (Index x) = x
      count (Part x k) = k
      count (Page x k) = k

  pub owns_then : Owns d' owner_then
  owns_then = record {
    known = known_then;
    only = only_then;
    free = free_then;
    marked = marked_then;
    short = short_then;
    index_rest = index_rest_then;
    part_rest = part_rest_then;
  }
