-- Pages that are laid out break no format.
use Rattle.std.proofs.Common.{◌≡◌, ℕ, ◌+◌, ◌*◌, ◌/◌, ◌%◌, ◌<◌, ◌≤◌, Bool, true, false, ◌||◌, Option, Some, None, is_some, refl, ap, sym, subst, ◌∙◌, inl, inr, arith}
use Rattle.std.specs.Prelude.{nat_lt, ◌⊎◌}
use Rattle.std.proofs.lemmas.Bool.{lt-ltb, ltb-true, false≢true}
use Rattle.disk_layout.specs.Disk.{Disk}
use Rattle.disk_layout.specs.Format.{IsIndexPage, file_length, part_count, UsesPart, IsPartPage, IsFirstUse, count_in_part, UsesPage, IsFilePage, IndexIsRight, PartIsRight, MarkIsRight}
use Rattle.disk_layout.specs.Layout.{Use, index_at, length_at, part_at, page_number, address_of, HasFile, InUse, Owns}
use Rattle.disk_layout.specs.Layout.Use.{Index, Part, Page}

module _ (d : Disk) (owner : ℕ → Option Use) (o : Owns d owner) where
  has_file : (i : ℕ) (x : IsIndexPage d i) → HasFile d x.place
  has_file i x = record { inside = x.inside; used = x.used }

  length_is : (i : ℕ) (x : IsIndexPage d i) → d.number i 0 ≡ length_at d x.place
  length_is i x = ap (λ n. d.number n 0) (sym x.named)

  short_length : (i : ℕ) (x : IsIndexPage d i) → d.number i 0 ≤ 4000
  short_length i x = omega (arith, length_is i x, o.short x.place (has_file i x))

  whole_length : (i : ℕ) (x : IsIndexPage d i) → file_length d i ≡ length_at d x.place
  whole_length i x = omega (arith, length_is i x, o.short x.place (has_file i x))

  pub index_owner : (i : ℕ) (x : IsIndexPage d i) → owner i ≡ Some (Index x.place)
  index_owner i x = ap owner (sym x.named) ∙ o.known (Index x.place) (has_file i x)

  part_is : (i k q : ℕ) (u : UsesPart d i k q) → part_at d u.index.place k ≡ q
  part_is i k q u = ap (λ n. d.number n (k + 1)) u.index.named ∙ u.is

  part_below : (i k q : ℕ) (u : UsesPart d i k q) → k < part_count (length_at d u.index.place)
  part_below i k q u = omega (arith, u.below, whole_length i u.index)

  pub part_owner : (i k q : ℕ) (u : UsesPart d i k q) → owner q ≡ Some (Part u.index.place k)
  part_owner i k q u = ap owner (sym (part_is i k q u)) ∙ o.known (Part u.index.place k) (has_file i u.index, part_below i k q u)

  module _ (q j f : ℕ) (u : UsesPage d q j f) where
    user : ℕ
    user = u.first.used.index.place

    page_place : ℕ
    page_place = 250 * u.place + j

    small : j < 250
    small = omega (arith, u.below)

    page_below : 250 * u.place + j < length_at d u.first.used.index.place
    page_below = omega (arith, u.below, whole_length u.by u.first.used.index)

    page_is : page_number d u.first.used.index.place (250 * u.place + j) ≡ f
    page_is =
        let part : (250 * u.place + j) / 250 ≡ u.place = omega (arith, small) in
        let at : (250 * u.place + j) % 250 ≡ j = omega (arith, small) in
        ap (λ k. d.number (part_at d u.first.used.index.place k) ((250 * u.place + j) % 250)) part
        ∙ ap (λ n. d.number n ((250 * u.place + j) % 250)) (part_is u.by u.place q u.first.used)
        ∙ ap (d.number q) at ∙ u.is

    pub page_owner : owner f ≡ Some (Page u.first.used.index.place (250 * u.place + j))
    page_owner = ap owner (sym page_is) ∙ o.known (Page u.first.used.index.place (250 * u.place + j)) (has_file u.by u.first.used.index, page_below)

  same_part : (p k p' k' : ℕ) → ◌≡◌ {A = Option Use} (Some (Part p k)) (Some (Part p' k')) → (p ≡ p') × (k ≡ k')
  same_part p k p' k' e = (cc, cc)

  same_page : (p k p' k' : ℕ) → ◌≡◌ {A = Option Use} (Some (Page p k)) (Some (Page p' k')) → (p ≡ p') × (k ≡ k')
  same_page p k p' k' e = (cc, cc)

  not_index_part : (p p' k' : ℕ) → ◌≡◌ {A = Option Use} (Some (Index p)) (Some (Part p' k')) → ⊥
  not_index_part p p' k' e = cc

  not_index_page : (p p' k' : ℕ) → ◌≡◌ {A = Option Use} (Some (Index p)) (Some (Page p' k')) → ⊥
  not_index_page p p' k' e = cc

  not_part_page : (p k p' k' : ℕ) → ◌≡◌ {A = Option Use} (Some (Part p k)) (Some (Page p' k')) → ⊥
  not_part_page p k p' k' e = cc

  pub index_right : (i : ℕ) → IsIndexPage d i → IndexIsRight d i
  index_right i x =
      let uses : (k : ℕ) → k < part_count (file_length d i) → UsesPart d i k (d.number i (k + 1)) = λ k below. record { index = x; below = below; is = refl } in
      record {
        length = short_length i x;
        free = λ k below. o.free _ _ (part_owner i k _ (uses k below));
        once =
            λ k other k_below other_below same. (same_part _ _ _ _ (sym (part_owner i k _ (uses k k_below)) ∙ ap owner same
            ∙ part_owner i other _ (uses other other_below))).1;
        no_index = λ k below y. not_index_part _ _ _ (sym (index_owner _ y) ∙ part_owner i k _ (uses k below));
        no_lesser = λ k lesser part below less u.
            let same = (same_part _ _ _ _ (sym (part_owner lesser part _ u) ∙ part_owner i k _ (uses k below))).0 in
            let here : lesser ≡ i = sym u.index.named ∙ ap (index_at d) same ∙ x.named in
            omega (arith, less, here);
        rest = λ k late within. ap (λ n. d.number n k) (sym x.named) ∙ o.index_rest x.place k (has_file i x) (omega (arith, late, whole_length i x)) within;
      }

  pub part_right : (q by place : ℕ) → IsPartPage d q → IsFirstUse d q by place → PartIsRight d q (count_in_part (file_length d by) place)
  part_right q by place x first =
      let count : ℕ = count_in_part (file_length d by) place in
      let uses : (j : ℕ) → j < count
      → UsesPage d q j (d.number q j) = λ j below. record { part = x; by = by; place = place; first = first; below = below; is = refl } in
      let owned : (j : ℕ) → j < count
      → owner (d.number q j) ≡ Some (Page first.used.index.place (250 * place + j)) = λ j below. page_owner q j _ (uses j below) in
      record {
        free = λ j below. o.free _ _ (owned j below);
        once = λ j other j_below other_below same.
            let e = (same_page _ _ _ _ (sym (owned j j_below) ∙ ap owner same ∙ owned other other_below)).1 in omega (arith, e);
        no_index = λ j below y. not_index_page _ _ _ (sym (index_owner _ y) ∙ owned j below);
        no_part = λ j below y. not_part_page _ _ _ _ (sym (part_owner _ _ _ y.used) ∙ owned j below);
        no_lesser = λ j lesser other below less u.
            let e = same_page _ _ _ _ (sym (page_owner lesser other _ u) ∙ owned j below) in
            let part : u.place ≡ place = omega (arith, e.1, u.below, below) in
            let here : lesser ≡ q = sym (part_is u.by u.place lesser u.first.used) ∙ ap (λ p. part_at d p u.place) e.0
            ∙ ap (part_at d first.used.index.place) part ∙ part_is by place q first.used in
            omega (arith, less, here);
        rest = λ j late within.
            ap (λ n. d.number n j) (sym (part_is by place q first.used))
            ∙ o.part_rest first.used.index.place place j (has_file by first.used.index) (part_below by place q first.used)
            (omega (arith, late, whole_length by first.used.index)) within;
      }

  -- the page of each use is one of the format's
  index_page : (p : ℕ) → HasFile d p → IsIndexPage d (index_at d p)
  index_page p has = record { free = o.free _ _ (o.known (Index p) has); place = p; inside = has.inside; used = has.used; named = refl }

  part_use : (p k : ℕ) → HasFile d p → k < part_count (length_at d p) → UsesPart d (index_at d p) k (part_at d p k)
  part_use p k has below = record { index = index_page p has; below = omega (arith, below, o.short p has); is = refl }

  part_page : (p k : ℕ) → HasFile d p → k < part_count (length_at d p) → IsPartPage d (part_at d p k)
  part_page p k has below = record {
    free = o.free _ _ (o.known (Part p k) (has, below));
    by = index_at d p;
    part = k;
    used = part_use p k has below;
    other = λ y. not_index_part _ _ _ (sym (index_owner _ y) ∙ o.known (Part p k) (has, below));
  }

  first_use : (p k : ℕ) → HasFile d p → k < part_count (length_at d p) → IsFirstUse d (part_at d p k) (index_at d p) k
  first_use p k has below = record {
    used = part_use p k has below;
    least = λ by part u.
        let e = same_part _ _ _ _ (sym (o.known (Part p k) (has, below)) ∙ part_owner by part _ u) in
        inr (ap (index_at d) e.0 ∙ u.index.named, omega (arith, e.1));
  }

  file_page : (p j : ℕ) → HasFile d p → j < length_at d p → IsFilePage d (page_number d p j)
  file_page p j has below =
      let part : j / 250 < part_count (length_at d p) = omega (arith, below) in
      record {
        free = o.free _ _ (o.known (Page p j) (has, below));
        by = part_at d p (j / 250);
        place = j % 250;
        used = record {
          part = part_page p (j / 250) has part;
          by = index_at d p;
          place = j / 250;
          first = first_use p (j / 250) has part;
          below = omega (arith, below, o.short p has);
          is = refl;
        };
      }

  abbrev Taken : ℕ → Type 0
  Taken m = (m < 18) ⊎ IsIndexPage d m ⊎ IsPartPage d m ⊎ IsFilePage d m

  taken_by : (m : ℕ) (u : Use) → InUse d u → address_of d u ≡ m → Taken m
  taken_by m (Index p) has e = inr (inl (subst (IsIndexPage d) e (index_page p has)))
  taken_by m (Part p k) its e = inr (inr (inl (subst (IsPartPage d) e (part_page p k its.0 its.1))))
  taken_by m (Page p j) its e = inr (inr (inr (subst (IsFilePage d) e (file_page p j its.0 its.1))))

  has_owner : (m : ℕ) (u : Use) → owner m ≡ Some u → (nat_lt m 18 || is_some (owner m)) ≡ true
  has_owner m u e = ap (λ x. nat_lt m 18 || is_some x) e ∙ or_true (nat_lt m 18)
    where
      or_true : (b : Bool) → (b || true) ≡ true
      or_true true = refl
      or_true false = refl

  taken_is_owned : (m : ℕ) → Taken m → (nat_lt m 18 || is_some (owner m)) ≡ true
  taken_is_owned m (inl system) = ap (λ b. b || is_some (owner m)) (lt-ltb m 18 system)
  taken_is_owned m (inr (inl x)) = has_owner m _ (index_owner m x)
  taken_is_owned m (inr (inr (inl x))) = has_owner m _ (part_owner _ _ _ x.used)
  taken_is_owned m (inr (inr (inr x))) = has_owner m _ (page_owner _ _ _ x.used)

  owned_is_taken : (m : ℕ) (b : Bool) (x : Option Use) → nat_lt m 18 ≡ b → owner m ≡ x → (b || is_some x) ≡ true → Taken m
  owned_is_taken m true x system e h = inl (ltb-true m 18 system)
  owned_is_taken m false (Some u) system e h = let its = o.only m u e in taken_by m u its.0 its.1
  owned_is_taken m false None system e h = absurd (false≢true h)

  pub mark_right : (m : ℕ) → m < 4288 → MarkIsRight d m
  mark_right m within = (
    λ marked. owned_is_taken m _ _ refl refl (sym (o.marked m within) ∙ marked),
    λ taken. o.marked m within ∙ taken_is_owned m taken,
  )
