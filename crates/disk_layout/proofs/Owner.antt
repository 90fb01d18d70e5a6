-- Where no page breaks the format, each page that is taken serves for one thing.
use Rattle.std.proofs.Common.{◌≡◌, ℕ, suc, zero, ◌+◌, ◌*◌, ◌/◌, ◌%◌, ◌<◌, ◌≤◌, Bool, true, false, not, cond, ◌||◌, ◌&&◌, ◌==◌, Option, Some, None, is_some, refl, ap, sym, subst, ◌∙◌, inl, inr, arith}
use Rattle.std.specs.Prelude.{nat_lt, ◌⊎◌}
use Rattle.std.proofs.lemmas.Bool.{cases_eq, cases_order, lt-ltb, ltb-true, eq-eqb, ne_eqb, eqb-true, false≢true, true≢false, and_parts, and_from, not-true}
use Rattle.disk_layout.specs.Disk.{Disk}
use Rattle.disk_layout.specs.Format.{IsAddress, IsIndexPage, file_length, part_count, UsesPart, IsPartPage, IsFirstUse, count_in_part, UsesPage, IsFilePage, IndexIsRight, PartIsRight, MarkIsRight}
use Rattle.disk_layout.specs.Layout.{Use, index_at, length_at, part_at, page_number, address_of, HasFile, InUse, Owns}
use Rattle.disk_layout.specs.Layout.Use.{Index, Part, Page}

-- the greatest number below a bound that passes a test
search_below : (ℕ → Bool) → ℕ → Option ℕ
search_below test zero = None
search_below test (suc n) = cond (test n) (Some n) (search_below test n)

found_none : (m : ℕ) → ◌≡◌ {A = Option ℕ} None (Some m) → ⊥
found_none m e = cc

found_some : (n m : ℕ) → ◌≡◌ {A = Option ℕ} (Some n) (Some m) → n ≡ m
found_some n m e = cc

found_below : (test : ℕ → Bool) (n m : ℕ) → search_below test n ≡ Some m → (m < n) × (test m ≡ true)
unfolding search_below
found_below test zero m e = absurd (found_none m e)
found_below test (suc n) m e =
    elim (test n) as (λ b. test n ≡ b → cond b (Some n) (search_below test n) ≡ Some m → (m < suc n) × (test m ≡ true)) [
      | true ↦ λ is here. let same = found_some n m here in (omega (arith, same), ap test (sym same) ∙ is)
      | false ↦ λ is further. let x = found_below test n m further in (omega (arith, x.0), x.1)
    ] refl e

none_below : (test : ℕ → Bool) (n m : ℕ) → search_below test n ≡ None → m < n → test m ≡ false
unfolding search_below
none_below test zero m e below = absurd (omega arith)
none_below test (suc n) m e below =
    elim (test n) as (λ b. test n ≡ b → cond b (Some n) (search_below test n) ≡ None → test m ≡ false) [
      | true ↦ λ is here. absurd (found_none n (sym here))
      | false ↦ λ is further. elim (cases_eq m n) [
        | inl last ↦ ap test last ∙ is
        | inr earlier ↦ none_below test n m further (omega arith)
      ]
    ] refl e

or_else : Option Use → Option Use → Option Use
or_else (Some u) v = Some u
or_else None v = v

as_use : (ℕ → Use) → Option ℕ → Option Use
as_use f None = None
as_use f (Some m) = Some (f m)

as_part : ℕ → Use
as_part m = Part (m / 16) (m % 16)

as_file_page : ℕ → Use
as_file_page m = Page (m / 4000) (m % 4000)

module _ (d : Disk) where
  in_use : Use → Bool
  in_use (Index p) = nat_lt p 240 && not ((d.entry p).kind == 0)
  in_use (Part p k) = (nat_lt p 240 && not ((d.entry p).kind == 0)) && nat_lt k (part_count (length_at d p))
  in_use (Page p j) = (nat_lt p 240 && not ((d.entry p).kind == 0)) && nat_lt j (length_at d p)

  has_true : (p : ℕ) → (nat_lt p 240 && not ((d.entry p).kind == 0)) ≡ true → HasFile d p
  has_true p e =
      let both = and_parts _ _ e in
      record { inside = ltb-true p 240 both.0; used = λ empty. true≢false (sym (eq-eqb (d.entry p).kind 0 empty) ∙ not-true _ both.1) }

  true_has : (p : ℕ) → HasFile d p → (nat_lt p 240 && not ((d.entry p).kind == 0)) ≡ true
  true_has p has = and_from _ _ (lt-ltb p 240 has.inside) (ap not (ne_eqb (d.entry p).kind 0 has.used))

  in_use_true : (u : Use) → in_use u ≡ true → InUse d u
  unfolding in_use
  in_use_true (Index p) e = has_true p e
  in_use_true (Part p k) e = let both = and_parts _ _ e in (has_true p both.0, ltb-true k _ both.1)
  in_use_true (Page p j) e = let both = and_parts _ _ e in (has_true p both.0, ltb-true j _ both.1)

  true_in_use : (u : Use) → InUse d u → in_use u ≡ true
  unfolding in_use
  true_in_use (Index p) has = true_has p has
  true_in_use (Part p k) its = and_from _ _ (true_has p its.0) (lt-ltb k _ its.1)
  true_in_use (Page p j) its = and_from _ _ (true_has p its.0) (lt-ltb j _ its.1)

  serves : ℕ → Use → Bool
  serves n u = in_use u && address_of d u == n

  serves_true : (n : ℕ) (u : Use) → serves n u ≡ true → InUse d u × (address_of d u ≡ n)
  unfolding serves
  serves_true n u e = let both = and_parts _ _ e in (in_use_true u both.0, eqb-true _ n both.1)

  true_serves : (n : ℕ) (u : Use) → InUse d u → address_of d u ≡ n → serves n u ≡ true
  unfolding serves
  true_serves n u its is = and_from _ _ (true_in_use u its) (eq-eqb _ n is)

  index_search : ℕ → Option ℕ
  index_search n = search_below (λ m. serves n (Index m)) 240

  part_search : ℕ → Option ℕ
  part_search n = search_below (λ m. serves n (as_part m)) 3840

  page_search : ℕ → Option ℕ
  page_search n = search_below (λ m. serves n (as_file_page m)) 960000

  index_found : (n m : ℕ) → index_search n ≡ Some m → serves n (Index m) ≡ true
  unfolding index_search
  index_found n m e = (found_below (λ k. serves n (Index k)) 240 m e).1

  part_found : (n m : ℕ) → part_search n ≡ Some m → serves n (as_part m) ≡ true
  unfolding part_search
  part_found n m e = (found_below (λ k. serves n (as_part k)) 3840 m e).1

  page_found : (n m : ℕ) → page_search n ≡ Some m → serves n (as_file_page m) ≡ true
  unfolding page_search
  page_found n m e = (found_below (λ k. serves n (as_file_page k)) 960000 m e).1

  no_index : (n m : ℕ) → index_search n ≡ None → m < 240 → serves n (Index m) ≡ false
  unfolding index_search
  no_index n m e below = none_below (λ k. serves n (Index k)) 240 m e below

  no_part : (n m : ℕ) → part_search n ≡ None → m < 3840 → serves n (as_part m) ≡ false
  unfolding part_search
  no_part n m e below = none_below (λ k. serves n (as_part k)) 3840 m e below

  no_page : (n m : ℕ) → page_search n ≡ None → m < 960000 → serves n (as_file_page m) ≡ false
  unfolding page_search
  no_page n m e below = none_below (λ k. serves n (as_file_page k)) 960000 m e below

  pub owner_found : ℕ → Option Use
  owner_found n = or_else (as_use Index (index_search n)) (or_else (as_use as_part (part_search n)) (as_use as_file_page (page_search n)))

  some_same : (x y : Use) → ◌≡◌ {A = Option Use} (Some x) (Some y) → x ≡ y
  some_same x y h = cc

  none_is_some : (u : Use) → ◌≡◌ {A = Option Use} None (Some u) → ⊥
  none_is_some u h = cc

  these : (n : ℕ) (u x : Use) → serves n x ≡ true → ◌≡◌ {A = Option Use} (Some x) (Some u) → InUse d u × (address_of d u ≡ n)
  these n u x h same = subst (λ y. InUse d y × (address_of d y ≡ n)) (some_same x u same) (serves_true n x h)

  owner_serves : (n : ℕ) (u : Use) → owner_found n ≡ Some u → InUse d u × (address_of d u ≡ n)
  unfolding owner_found or_else as_use
  owner_serves n u e =
      elim (index_search n) as (λ x. index_search n ≡ x
      → or_else (as_use Index x) (or_else (as_use as_part (part_search n)) (as_use as_file_page (page_search n))) ≡ Some u
      → InUse d u × (address_of d u ≡ n)) [
        | Some m ↦ λ is h. these n u (Index m) (index_found n m is) h
        | None ↦ λ _ h.
            elim (part_search n) as (λ x. part_search n ≡ x → or_else (as_use as_part x) (as_use as_file_page (page_search n)) ≡ Some u
            → InUse d u × (address_of d u ≡ n)) [
              | Some m ↦ λ is h2. these n u (as_part m) (part_found n m is) h2
              | None ↦ λ _ h2.
                  elim (page_search n) as (λ x. page_search n ≡ x → as_use as_file_page x ≡ Some u → InUse d u × (address_of d u ≡ n)) [
                    | Some m ↦ λ is h3. these n u (as_file_page m) (page_found n m is) h3
                    | None ↦ λ _ h3. absurd (none_is_some u h3)
                  ] refl h2
            ] refl h
      ] refl e

  -- where a page serves for nothing, all searches found nothing
  nothing : (n : ℕ) → owner_found n ≡ None → (index_search n ≡ None) × (part_search n ≡ None) × (page_search n ≡ None)
  unfolding owner_found or_else as_use
  nothing n e =
      elim (index_search n) as (λ x. or_else (as_use Index x) (or_else (as_use as_part (part_search n)) (as_use as_file_page (page_search n))) ≡ None
      → (x ≡ None) × (part_search n ≡ None) × (page_search n ≡ None)) [
        | Some m ↦ λ h. absurd (none_is_some (Index m) (sym h))
        | None ↦ λ h.
            elim (part_search n) as (λ x. or_else (as_use as_part x) (as_use as_file_page (page_search n)) ≡ None → (◌≡◌ {A =
            Option ℕ} None None) × (x ≡ None) × (page_search n ≡ None)) [
              | Some m ↦ λ h2. absurd (none_is_some (as_part m) (sym h2))
              | None ↦ λ h2.
                  elim (page_search n) as (λ x. as_use as_file_page x ≡ None → (◌≡◌ {A = Option ℕ} None None) × (◌≡◌ {A = Option ℕ} None None) × (x ≡ None)) [
                    | Some m ↦ λ h3. absurd (none_is_some (as_file_page m) (sym h3))
                    | None ↦ λ _. (refl, refl, refl)
                  ] h2
            ] h
      ] e

-- a disk on which no page breaks the format
pub record IsWhole (d : Disk) : Type 0 where
  pub full : (p : ℕ) → HasFile d p → IsAddress (index_at d p)
  pub apart : (p other : ℕ) → HasFile d p → HasFile d other → index_at d p ≡ index_at d other → p ≡ other
  pub index : (i : ℕ) → IsIndexPage d i → IndexIsRight d i
  pub part : (q by place : ℕ) → IsPartPage d q → IsFirstUse d q by place → PartIsRight d q (count_in_part (file_length d by) place)
  pub mark : (n : ℕ) → n < 4288 → MarkIsRight d n

module _ (d : Disk) (w : IsWhole d) where
  index_page : (p : ℕ) → HasFile d p → IsIndexPage d (index_at d p)
  index_page p has = record { free = w.full p has; place = p; inside = has.inside; used = has.used; named = refl }

  short : (p : ℕ) → HasFile d p → length_at d p ≤ 4000
  short p has = (w.index _ (index_page p has)).length

  below_is : (p k : ℕ) → HasFile d p → k < part_count (length_at d p) → k < part_count (file_length d (index_at d p))
  below_is p k has below = omega (arith, below, short p has)

  part_use : (p k : ℕ) → HasFile d p → k < part_count (length_at d p) → UsesPart d (index_at d p) k (part_at d p k)
  part_use p k has below = record { index = index_page p has; below = below_is p k has below; is = refl }

  -- an index page is that of one place
  place_is : (i : ℕ) (x : IsIndexPage d i) (p : ℕ) → HasFile d p → index_at d p ≡ i → x.place ≡ p
  place_is i x p has e = w.apart x.place p (record { inside = x.inside; used = x.used }) has (x.named ∙ sym e)

  no_index_part : (p k : ℕ) → HasFile d p → k < part_count (length_at d p) → IsIndexPage d (part_at d p k) → ⊥
  no_index_part p k has below y = (w.index _ (index_page p has)).no_index k (below_is p k has below) y

  -- a page is one part
  one_part : (p k p' k' : ℕ) → HasFile d p → k < part_count (length_at d p) → HasFile d p' → k' < part_count (length_at d p') → part_at d p k ≡ part_at d p' k'
      → (p ≡ p') × (k ≡ k')
  one_part p k p' k' has below has' below' e = elim (cases_order (index_at d p) (index_at d p')) [
    | inl same ↦
        let place = w.apart p p' has has' same in
        let own : part_at d p k ≡ part_at d p k' = e ∙ ap (λ n. d.number n (k' + 1)) (sym same) in (
          place,
          (w.index _ (index_page p has)).once k k' (below_is p k has below)
              (subst (λ n. k' < part_count (file_length d n)) (sym same) (below_is p' k' has' below')) own,
        )
    | inr (inl lesser) ↦ absurd ((w.index _ (index_page p' has')).no_lesser k' (index_at d p) k (below_is p' k' has' below') lesser
        (subst (UsesPart d (index_at d p) k) e (part_use p k has below)))
    | inr (inr greater) ↦ absurd ((w.index _ (index_page p has)).no_lesser k (index_at d p') k' (below_is p k has below) greater
        (subst (UsesPart d (index_at d p') k') (sym e) (part_use p' k' has' below')))
  ]

  part_page : (p k : ℕ) → HasFile d p → k < part_count (length_at d p) → IsPartPage d (part_at d p k)
  part_page p k has below = record {
    free = (w.index _ (index_page p has)).free k (below_is p k has below);
    by = index_at d p;
    part = k;
    used = part_use p k has below;
    other = no_index_part p k has below;
  }

  -- any use is by this index page and at this place
  part_of_use : (q i k : ℕ) (u : UsesPart d i k q) → HasFile d u.index.place × (k < part_count (length_at d u.index.place)) × (part_at d u.index.place k ≡ q)
  part_of_use q i k u =
      let has : HasFile d u.index.place = record { inside = u.index.inside; used = u.index.used } in
      let length : d.number i 0 ≡ length_at d u.index.place = ap (λ n. d.number n 0) (sym u.index.named) in
      (has, omega (arith, u.below, length, short u.index.place has), ap (λ n. d.number n (k + 1)) u.index.named ∙ u.is)

  first_use : (p k : ℕ) → HasFile d p → k < part_count (length_at d p) → IsFirstUse d (part_at d p k) (index_at d p) k
  first_use p k has below = record {
    used = part_use p k has below;
    least = λ by part u.
        let x = part_of_use _ by part u in
        let same = one_part p k u.index.place part has below x.0 x.1 (sym x.2) in
        inr (ap (index_at d) same.0 ∙ u.index.named, omega (arith, same.1));
  }

  right_part : (p k : ℕ) → HasFile d p → k < part_count (length_at d p) → PartIsRight d (part_at d p k) (count_in_part (file_length d (index_at d p)) k)
  right_part p k has below = w.part _ _ _ (part_page p k has below) (first_use p k has below)

  page_inside : (p j : ℕ) → HasFile d p → j < length_at d p
      → (j / 250 < part_count (length_at d p)) × (j % 250 < count_in_part (file_length d (index_at d p)) (j / 250))
  page_inside p j has below = (omega (arith, below), omega (arith, below, short p has))

  page_use : (p j : ℕ) → HasFile d p → j < length_at d p → UsesPage d (part_at d p (j / 250)) (j % 250) (page_number d p j)
  page_use p j has below =
      let x = page_inside p j has below in
      record { part = part_page p (j / 250) has x.0; by = index_at d p; place = j / 250; first = first_use p (j / 250) has x.0; below = x.1; is = refl }

  -- a page is one page of one file
  one_page : (p j p' j' : ℕ) → HasFile d p → j < length_at d p → HasFile d p' → j' < length_at d p' → page_number d p j ≡ page_number d p' j'
      → (p ≡ p') × (j ≡ j')
  one_page p j p' j' has below has' below' e =
      let x = page_inside p j has below in
      let x' = page_inside p' j' has' below' in
      elim (cases_order (part_at d p (j / 250)) (part_at d p' (j' / 250))) [
        | inl same ↦
            let part = one_part p (j / 250) p' (j' / 250) has x.0 has' x'.0 same in
            let here : j' % 250 < count_in_part (file_length d (index_at d p)) (j / 250) =
            subst (λ n. j' % 250 < count_in_part (file_length d (index_at d n)) (j / 250)) (sym part.0)
            (subst (λ n. j' % 250 < count_in_part (file_length d (index_at d p')) n) (sym part.1) x'.1) in
            let at = (right_part p (j / 250) has x.0).once (j % 250) (j' % 250) x.1 here (e ∙ ap (λ n. d.number n (j' % 250)) (sym same)) in
            (part.0, omega (arith, part.1, at))
        | inr (inl lesser) ↦ absurd ((right_part p' (j' / 250) has' x'.0).no_lesser (j' % 250) _ (j % 250) x'.1 lesser
            (subst (UsesPage d (part_at d p (j / 250)) (j % 250)) e (page_use p j has below)))
        | inr (inr greater) ↦ absurd ((right_part p (j / 250) has x.0).no_lesser (j % 250) _ (j' % 250) x.1 greater
            (subst (UsesPage d (part_at d p' (j' / 250)) (j' % 250)) (sym e) (page_use p' j' has' below')))
      ]

  part_not_page : (p k p' j : ℕ) → HasFile d p → k < part_count (length_at d p) → HasFile d p' → j < length_at d p' → part_at d p k ≡ page_number d p' j → ⊥
  part_not_page p k p' j has below has' below' e =
      let x = page_inside p' j has' below' in
      (right_part p' (j / 250) has' x.0).no_part (j % 250) x.1 (subst (IsPartPage d) e (part_page p k has below))

  index_not_page : (p p' j : ℕ) → HasFile d p → HasFile d p' → j < length_at d p' → index_at d p ≡ page_number d p' j → ⊥
  index_not_page p p' j has has' below' e =
      let x = page_inside p' j has' below' in
      (right_part p' (j / 250) has' x.0).no_index (j % 250) x.1 (subst (IsIndexPage d) e (index_page p has))

  index_not_part : (p p' k : ℕ) → HasFile d p → HasFile d p' → k < part_count (length_at d p') → index_at d p ≡ part_at d p' k → ⊥
  index_not_part p p' k has has' below e = no_index_part p' k has' below (subst (IsIndexPage d) e (index_page p has))

  one_use : (u v : Use) → InUse d u → InUse d v → address_of d u ≡ address_of d v → u ≡ v
  one_use (Index p) (Index p') has has' e = ap Index (w.apart p p' has has' e)
  one_use (Index p) (Part p' k) has its' e = absurd (index_not_part p p' k has its'.0 its'.1 e)
  one_use (Index p) (Page p' j) has its' e = absurd (index_not_page p p' j has its'.0 its'.1 e)
  one_use (Part p k) (Index p') its has' e = absurd (index_not_part p' p k has' its.0 its.1 (sym e))
  one_use (Part p k) (Part p' k') its its' e = let same = one_part p k p' k' its.0 its.1 its'.0 its'.1 e in ap (λ x. Part x k) same.0 ∙ ap (Part p') same.1
  one_use (Part p k) (Page p' j) its its' e = absurd (part_not_page p k p' j its.0 its.1 its'.0 its'.1 e)
  one_use (Page p j) (Index p') its has' e = absurd (index_not_page p' p j has' its.0 its.1 (sym e))
  one_use (Page p j) (Part p' k) its its' e = absurd (part_not_page p' k p j its'.0 its'.1 its.0 its.1 (sym e))
  one_use (Page p j) (Page p' j') its its' e = let same = one_page p j p' j' its.0 its.1 its'.0 its'.1 e in ap (λ x. Page x j) same.0 ∙ ap (Page p') same.1

  abbrev owner : ℕ → Option Use
  owner = owner_found d

  -- what is in use is found
  not_nothing : (u : Use) → InUse d u → owner (address_of d u) ≡ None → ⊥
  unfolding as_part as_file_page
  not_nothing (Index p) has e = false≢true (sym (no_index d _ p (nothing d _ e).0 has.inside) ∙ true_serves d _ (Index p) has refl)
  not_nothing (Part p k) its e =
      let small : k < 16 = omega (arith, its.1, short p its.0) in
      let place : (p * 16 + k) / 16 ≡ p = omega (arith, small) in
      let part : (p * 16 + k) % 16 ≡ k = omega (arith, small) in
      let none = no_part d _ (p * 16 + k) (nothing d _ e).1 (omega (arith, small, its.0.inside)) in
      false≢true (sym none ∙ ap (λ x. serves d (part_at d p k) (Part x ((p * 16 + k) % 16))) place ∙ ap (λ x. serves d (part_at d p k) (Part p x)) part
      ∙ true_serves d _ (Part p k) its refl)
  not_nothing (Page p j) its e =
      let small : j < 4000 = omega (arith, its.1, short p its.0) in
      let place : (p * 4000 + j) / 4000 ≡ p = omega (arith, small) in
      let page : (p * 4000 + j) % 4000 ≡ j = omega (arith, small) in
      let none = no_page d _ (p * 4000 + j) (nothing d _ e).2 (omega (arith, small, its.0.inside)) in
      false≢true (sym none ∙ ap (λ x. serves d (page_number d p j) (Page x ((p * 4000 + j) % 4000))) place
      ∙ ap (λ x. serves d (page_number d p j) (Page p x)) page ∙ true_serves d _ (Page p j) its refl)

  known : (u : Use) → InUse d u → owner (address_of d u) ≡ Some u
  known u its = elim (owner (address_of d u)) as (λ x. owner (address_of d u) ≡ x → x ≡ Some u) [
    | None ↦ λ e. absurd (not_nothing u its e)
    | Some v ↦ λ e. let x = owner_serves d (address_of d u) v e in ap Some (one_use v u x.0 its x.1)
  ] refl

  free_of : (u : Use) → InUse d u → IsAddress (address_of d u)
  free_of (Index p) has = w.full p has
  free_of (Part p k) its = (part_page p k its.0 its.1).free
  free_of (Page p j) its = let x = page_inside p j its.0 its.1 in (right_part p (j / 250) its.0 x.0).free (j % 250) x.1

  abbrev Taken : ℕ → Type 0
  Taken m = (m < 18) ⊎ IsIndexPage d m ⊎ IsPartPage d m ⊎ IsFilePage d m

  taken_by : (m : ℕ) (u : Use) → InUse d u → address_of d u ≡ m → Taken m
  taken_by m (Index p) has e = inr (inl (subst (IsIndexPage d) e (index_page p has)))
  taken_by m (Part p k) its e = inr (inr (inl (subst (IsPartPage d) e (part_page p k its.0 its.1))))
  taken_by m (Page p j) its e =
      inr (inr (inr (subst (IsFilePage d) e (record {
        free =
            free_of (Page p j) its;
        by = part_at d p (j / 250);
        place = j % 250;
        used = page_use p j its.0 its.1;
      }))))

  or_true : (b : Bool) → (b || true) ≡ true
  or_true true = refl
  or_true false = refl

  owned : (m : ℕ) (u : Use) → InUse d u → address_of d u ≡ m → (nat_lt m 18 || is_some (owner m)) ≡ true
  owned m u its e = ap (λ x. nat_lt m 18 || is_some x) (ap owner (sym e) ∙ known u its) ∙ or_true (nat_lt m 18)

  taken_is_owned : (m : ℕ) → Taken m → (nat_lt m 18 || is_some (owner m)) ≡ true
  taken_is_owned m (inl system) = ap (λ b. b || is_some (owner m)) (lt-ltb m 18 system)
  taken_is_owned m (inr (inl x)) = owned m (Index x.place) (record { inside = x.inside; used = x.used }) x.named
  taken_is_owned m (inr (inr (inl x))) = let u = part_of_use m x.by x.part x.used in owned m (Part x.used.index.place x.part) (u.0, u.1) u.2
  taken_is_owned m (inr (inr (inr x))) =
      let y = x.used in
      let u = part_of_use x.by y.by y.place y.first.used in
      let length : file_length d y.by
      ≡ length_at d y.first.used.index.place =
      (let e : d.number y.by 0
      ≡ length_at d y.first.used.index.place =
      ap (λ n. d.number n 0) (sym y.first.used.index.named) in omega (arith, e, short y.first.used.index.place u.0)) in
      let small : x.place < 250 = omega (arith, y.below) in
      let part : (250 * y.place + x.place) / 250 ≡ y.place = omega (arith, small) in
      let at : (250 * y.place + x.place) % 250 ≡ x.place = omega (arith, small) in
      owned m (Page y.first.used.index.place (250 * y.place + x.place)) (u.0, omega (arith, y.below, length))
      (ap (λ k. d.number (part_at d y.first.used.index.place k) ((250 * y.place + x.place) % 250)) part
      ∙ ap (λ n. d.number n ((250 * y.place + x.place) % 250)) u.2 ∙ ap (d.number x.by) at ∙ y.is)

  owned_is_taken : (m : ℕ) → (nat_lt m 18 || is_some (owner m)) ≡ true → Taken m
  owned_is_taken m h = elim (nat_lt m 18) as (λ b. nat_lt m 18 ≡ b → (b || is_some (owner m)) ≡ true → Taken m) [
    | true ↦ λ system _. inl (ltb-true m 18 system)
    | false ↦ λ _ some. elim (owner m) as (λ x. owner m ≡ x → is_some x ≡ true → Taken m) [
      | Some u ↦ λ e _. let x = owner_serves d m u e in taken_by m u x.0 x.1
      | None ↦ λ _ s. absurd (false≢true s)
    ] refl some
  ] refl h

  same_truth : (a b : Bool) → (a ≡ true → b ≡ true) → (b ≡ true → a ≡ true) → a ≡ b
  same_truth true b f g = sym (f refl)
  same_truth false true f g = g refl
  same_truth false false f g = refl

  pub owns_found : Owns d owner
  owns_found = record {
    known = known;
    only = λ n u e. owner_serves d n u e;
    free = λ n u e. let x = owner_serves d n u e in subst IsAddress x.1 (free_of u x.0);
    marked = λ n within. let mark = w.mark n within in same_truth _ _ (λ m. taken_is_owned n (mark.0 m)) (λ h. mark.1 (owned_is_taken n h));
    short = short;
    index_rest = λ p k has late within. (w.index _ (index_page p has)).rest k (omega (arith, late, short p has)) within;
    part_rest = λ p k j has below late within. (right_part p k has below).rest j (omega (arith, late, short p has)) within;
  }
