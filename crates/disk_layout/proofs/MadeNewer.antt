-- An area of format 1 that was made one of format 2 breaks no format, and has the same files.
use Rattle.std.proofs.Common.{◌≡◌, ◌≢◌, ℕ, suc, zero, ◌+◌, ◌*◌, ◌/◌, ◌%◌, ◌<◌, ◌≤◌, ◌==◌, ◌++◌, ◌∷◌, [], true, false, cond, Some, None, List, refl, ap, sym, subst, ◌∙◌, inl, inr, arith}
use Rattle.std.specs.Prelude.{◌⊎◌}
use Rattle.std.proofs.lemmas.Bool.{cases_eq, cases_order, false≢true}
use Rattle.disk_layout.specs.Disk.{Disk, disk_of, entry_of, marked_of, number_of, page_at}
use Rattle.disk_layout.specs.Format.{IndexIsRight, IsAddress, IsFilePage, IsFirstUse, IsIndexPage, IsPartPage, IsSoloDisk, MarkIsRight, NumbersAreRight, PartIsRight, UsesNumber, UsesPage, UsesPart, count_in_part, file_length, part_count}
use Rattle.disk_layout.specs.Format1.{IsMappedPage, IsSoloDisk1, Mark1IsRight, all_of, file_at1, files1}
use Rattle.disk_layout.specs.Files.{files, files_below, file_at, first_pages, kind_of, named_as, page_of, pages_named, with_file}
use Rattle.disk_layout.specs.Layout.{HasFile}
use Rattle.disk_layout.specs.Newer.{MadeNewer, NeedsPart, map_at, mapped_at, new_part}
use Rattle.disk_layout.proofs.Entries.{still_right}
use Rattle.disk_layout.proofs.Maps.{Named}

module _ (pages after : List (List ℕ)) (solo : IsSoloDisk1 pages) (m : MadeNewer pages after) where
  abbrev d : Disk
  d = disk_of pages

  abbrev d' : Disk
  d' = disk_of after

  -- ---- What stays

  index_was : (i : ℕ) → IsIndexPage d' i → IsIndexPage d i
  index_was i x = record {
    free = x.free;
    place = x.place;
    inside = x.inside;
    used = subst (λ e. e.kind ≢ 0) (m.entries x.place x.inside) x.used;
    named = ap (λ e. e.address) (sym (m.entries x.place x.inside)) ∙ x.named;
  }

  index_still : (i : ℕ) → IsIndexPage d i → IsIndexPage d' i
  index_still i x = record {
    free = x.free;
    place = x.place;
    inside = x.inside;
    used = subst (λ e. e.kind ≢ 0) (sym (m.entries x.place x.inside)) x.used;
    named = ap (λ e. e.address) (m.entries x.place x.inside) ∙ x.named;
  }

  has_file : (i : ℕ) (x : IsIndexPage d' i) → HasFile d x.place
  has_file i x = record { inside = x.inside; used = subst (λ e. e.kind ≢ 0) (m.entries x.place x.inside) x.used }

  map_is : (i : ℕ) (x : IsIndexPage d' i) → map_at pages x.place ≡ i
  map_is i x = ap (λ e. e.address) (sym (m.entries x.place x.inside)) ∙ x.named

  full : (p : ℕ) → HasFile d p → IsAddress (map_at pages p)
  full p has = elim ((solo (1 + p / 16)).catalogue p has.inside refl).whole [
    | inl empty ↦ absurd (has.used empty.kind)
    | inr x ↦ x.address
  ]

  index_of : (p : ℕ) → HasFile d p → IsIndexPage d (map_at pages p)
  index_of p has = record { free = full p has; place = p; inside = has.inside; used = has.used; named = refl }

  map_right : (i : ℕ) → IsIndexPage d i → NumbersAreRight d 255 all_of i
  map_right i x = (solo i).map x

  short : (p : ℕ) → HasFile d p → mapped_at pages p ≤ 255
  short p has = (map_right (map_at pages p) (index_of p has)).length

  -- a page that is named by a map page
  uses : (p j : ℕ) → HasFile d p → j < mapped_at pages p → UsesNumber d 255 all_of (map_at pages p) j (number_of pages (map_at pages p) (j + 1))
  uses p j has below = record { index = index_of p has; below = omega (arith, below, short p has); is = refl }

  free_page : (p j : ℕ) → HasFile d p → j < mapped_at pages p → IsAddress (number_of pages (map_at pages p) (j + 1))
  free_page p j has below = (map_right (map_at pages p) (index_of p has)).free j (omega (arith, below, short p has))

  mapped : (p j : ℕ) → HasFile d p → j < mapped_at pages p → IsMappedPage d (number_of pages (map_at pages p) (j + 1))
  mapped p j has below = record { free = free_page p j has below; by = map_at pages p; place = j; used = uses p j has below }

  marks : (n : ℕ) → n < 4288 → Mark1IsRight d n
  marks n within = (solo (16 + n / 4096)).bits n within refl

  -- ---- Parts

  length_now : (i : ℕ) (x : IsIndexPage d' i) → number_of after i 0 ≡ mapped_at pages x.place
  length_now i x = ap (λ n. number_of after n 0) (sym (map_is i x)) ∙ m.lengths x.place (has_file i x)

  whole_length : (i : ℕ) (x : IsIndexPage d' i) → file_length d' i ≡ mapped_at pages x.place
  whole_length i x = let is = length_now i x in let few = short x.place (has_file i x) in omega (arith, is, few)

  needs : (i k q : ℕ) (u : UsesPart d' i k q) → NeedsPart pages u.index.place k
  needs i k q u = record { file = has_file i u.index; below = let is = whole_length i u.index in omega (arith, u.below, is) }

  part_is : (i k q : ℕ) (u : UsesPart d' i k q) → new_part pages after u.index.place k ≡ q
  part_is i k q u = ap (λ n. number_of after n (k + 1)) (map_is i u.index) ∙ u.is

  part_use : (p k : ℕ) → NeedsPart pages p k → UsesPart d' (map_at pages p) k (new_part pages after p k)
  part_use p k need =
      let x = index_still (map_at pages p) (index_of p need.file) in
      record {
        index = x;
        below = let is = m.lengths p need.file in let few = short p need.file in
            let below = need.below in omega (arith, below, is, few);
        is = refl;
      }

  not_marked : (n : ℕ) → marked_of pages n ≡ false → marked_of pages n ≡ true → ⊥
  not_marked n unmarked h = false≢true (sym unmarked ∙ h)

  -- a new part is no map page of the area, and no page of a file
  not_map : (p k : ℕ) → NeedsPart pages p k → IsIndexPage d (new_part pages after p k) → ⊥
  not_map p k need x = not_marked _ (m.new p k need) ((marks _ (m.free p k need).within).1 (inr (inl x)))

  not_mapped : (p k : ℕ) → NeedsPart pages p k → IsMappedPage d (new_part pages after p k) → ⊥
  not_mapped p k need x = not_marked _ (m.new p k need) ((marks _ (m.free p k need).within).1 (inr (inr x)))

  part_page : (p k : ℕ) → NeedsPart pages p k → IsPartPage d' (new_part pages after p k)
  part_page p k need = record {
    free = m.free p k need;
    by = map_at pages p;
    part = k;
    used = part_use p k need;
    other = λ y. not_map p k need (index_was _ y);
  }

  first_use : (p k : ℕ) → NeedsPart pages p k → IsFirstUse d' (new_part pages after p k) (map_at pages p) k
  first_use p k need = record {
    used = part_use p k need;
    least = λ by part u.
        let same = m.apart p k u.index.place part need (needs by part _ u) (sym (part_is by part _ u)) in
        inr (ap (map_at pages) same.0 ∙ map_is by u.index, omega (arith, same.1));
  }

  -- ---- The rules

  index_right : (i : ℕ) → IsIndexPage d' i → IndexIsRight d' i
  index_right i x =
      let p : ℕ = x.place in
      let has = has_file i x in
      let long = whole_length i x in
      let use_at : (k : ℕ) → k < part_count (file_length d' i) → UsesPart d' i k (d'.number i (k + 1)) =
      λ k below. record { index = x; below = below; is = refl } in
      record {
        length = let is = length_now i x in let few = short p has in omega (arith, is, few);
        free = λ k below. subst IsAddress (part_is i k _ (use_at k below)) (m.free p k (needs i k _ (use_at k below)));
        once = λ k other k_below other_below same.
            (m.apart p k p other (needs i k _ (use_at k k_below)) (needs i other _ (use_at other other_below)) (part_is i k _ (use_at k k_below) ∙ same
            ∙ sym (part_is i other _ (use_at other other_below)))).1;
        no_index = λ k below y. not_map p k (needs i k _ (use_at k below)) (subst (IsIndexPage d) (sym (part_is i k _ (use_at k below))) (index_was _ y));
        no_lesser = λ k lesser part below less u.
            let same = (m.apart u.index.place part p k (needs lesser part _ u) (needs i k _ (use_at k below))
            (part_is lesser part _ u ∙ sym (part_is i k _ (use_at k below)))).0 in
            let here : lesser ≡ i = sym (map_is lesser u.index) ∙ ap (map_at pages) same ∙ map_is i x in
            omega (arith, less, here);
        rest = λ k late within. ap (λ n. number_of after n k) (sym (map_is i x)) ∙ m.index_rest p k has (omega (arith, late, long)) within;
      }

  -- number j of a part is that of the map page
  number_is : (q by place j : ℕ) (first : IsFirstUse d' q by place) → j < count_in_part (file_length d' by) place
      → (d'.number q j ≡ number_of pages (map_at pages first.used.index.place) (250 * place + j + 1))
      × (250 * place + j < mapped_at pages first.used.index.place)
  number_is q by place j first below =
      let u = first.used in
      let long = whole_length by u.index in
      let need = needs by place q u in (
        ap (λ n. number_of after n j) (sym (part_is by place q u)) ∙ m.numbers u.index.place place j need (omega (arith, below, long)),
        omega (arith, below, long),
      )

  part_right : (q by place : ℕ) → IsPartPage d' q → IsFirstUse d' q by place → PartIsRight d' q (count_in_part (file_length d' by) place)
  part_right q by place x first =
      let u = first.used in
      let p : ℕ = u.index.place in
      let has = has_file by u.index in
      let right = map_right (map_at pages p) (index_of p has) in
      let long = whole_length by u.index in
      let need = needs by place q u in
      record {
        free = λ j below. let is = number_is q by place j first below in subst IsAddress (sym is.0) (free_page p (250 * place + j) has is.1);
        once = λ j other j_below other_below same.
            let is = number_is q by place j first j_below in
            let it = number_is q by place other first other_below in
            let few = short p has in
            let e = right.once (250 * place + j) (250 * place + other) (omega (arith, is.1, few)) (omega (arith, it.1, few)) (sym is.0 ∙ same ∙ it.0) in
            omega (arith, e);
        no_index = λ j below y.
            let is = number_is q by place j first below in
            let few = short p has in
            right.no_index (250 * place + j) (omega (arith, is.1, few)) (subst (IsIndexPage d) is.0 (index_was _ y));
        no_part = λ j below y.
            let is = number_is q by place j first below in
            not_mapped y.used.index.place y.part (needs y.by y.part _ y.used)
            (subst (IsMappedPage d) (sym (part_is y.by y.part _ y.used ∙ is.0)) (mapped p (250 * place + j) has is.1));
        no_lesser = λ j lesser other below less y.
            let is = number_is q by place j first below in
            let it = number_is lesser y.by y.place other y.first y.below in
            by_order q by place x first j lesser other below less y is it (cases_order (map_at pages y.first.used.index.place) (map_at pages p));
        rest = λ j late within. ap (λ n. number_of after n j) (sym (part_is by place q u)) ∙ m.part_rest p place j need (omega (arith, late, long)) within;
      }
    where
      by_order : (q by place : ℕ) (x : IsPartPage d' q) (first : IsFirstUse d' q by place) (j lesser other : ℕ)
          → j < count_in_part (file_length d' by) place → lesser < q → (y : UsesPage d' lesser other (d'.number q j))
          → (d'.number q j ≡ number_of pages (map_at pages first.used.index.place) (250 * place + j + 1))
          × (250 * place + j < mapped_at pages first.used.index.place)
          → (d'.number lesser other ≡ number_of pages (map_at pages y.first.used.index.place) (250 * y.place + other + 1))
          × (250 * y.place + other < mapped_at pages y.first.used.index.place)
          → (map_at pages y.first.used.index.place ≡ map_at pages first.used.index.place)
          ⊎ ((map_at pages y.first.used.index.place < map_at pages first.used.index.place)
          ⊎ (map_at pages first.used.index.place < map_at pages y.first.used.index.place)) → ⊥
      by_order q by place x first j lesser other below less y is it order =
          let p : ℕ = first.used.index.place in
          let p' : ℕ = y.first.used.index.place in
          let has = has_file by first.used.index in
          let has' = has_file y.by y.first.used.index in
          let few = short p has in
          let few' = short p' has' in
          let same : number_of pages (map_at pages p') (250 * y.place + other + 1) ≡ number_of pages (map_at pages p) (250 * place + j + 1) =
          sym it.0 ∙ y.is ∙ is.0 in
          elim order [
            | inl here ↦
                let e = (map_right (map_at pages p) (index_of p has)).once (250 * y.place + other) (250 * place + j)
                (let inside = it.1 in let length_same = ap (λ n. number_of pages n 0) here in omega (arith, inside, length_same, few))
                (omega (arith, is.1, few))
                (ap (λ n. number_of pages n (250 * y.place + other + 1)) (sym here) ∙ same) in
                let part : y.place ≡ place = omega (arith, e, below, y.below) in
                let page : lesser ≡ q = sym (part_is y.by y.place lesser y.first.used) ∙ ap (λ n. number_of after n (y.place + 1)) here
                ∙ ap (λ k. number_of after (map_at pages p) (k + 1)) part ∙ part_is by place q first.used in
                omega (arith, less, page)
            | inr (inl before) ↦
                (map_right (map_at pages p) (index_of p has)).no_lesser (250 * place + j) (map_at pages p') (250 * y.place + other)
                (omega (arith, is.1, few)) before
                (subst (UsesNumber d 255 all_of (map_at pages p') (250 * y.place + other)) same (uses p' (250 * y.place + other) has' it.1))
            | inr (inr behind) ↦
                (map_right (map_at pages p') (index_of p' has')).no_lesser (250 * y.place + other) (map_at pages p) (250 * place + j)
                (omega (arith, it.1, few')) behind
                (subst (UsesNumber d 255 all_of (map_at pages p) (250 * place + j)) (sym same) (uses p (250 * place + j) has is.1))
          ]

  -- a page that a map page named is a page of the file
  file_page : (p j : ℕ) → HasFile d p → j < mapped_at pages p → IsFilePage d' (number_of pages (map_at pages p) (j + 1))
  file_page p j has below =
      let need : NeedsPart pages p (j / 250) = record { file = has; below = omega (arith, below) } in
      let x = index_still (map_at pages p) (index_of p has) in
      let few = short p has in
      let is = m.lengths p has in
      let whole : 250 * (j / 250) + j % 250 ≡ j = omega arith in
      record {
        free = free_page p j has below;
        by = new_part pages after p (j / 250);
        place = j % 250;
        used = record {
          part = part_page p (j / 250) need;
          by = map_at pages p;
          place = j / 250;
          first = first_use p (j / 250) need;
          below = omega (arith, below, is, few);
          is = m.numbers p (j / 250) (j % 250) need (omega (arith, below)) ∙ ap (λ n. number_of pages (map_at pages p) (n + 1)) whole;
        };
      }

  mark_right : (n : ℕ) → n < 4288 → MarkIsRight d' n
  mark_right n within = (λ marked. taken ((m.marked n within).0 marked), λ used. (m.marked n within).1 (was used))
    where
      taken : (marked_of pages n ≡ true) ⊎ ((p : ℕ) × (k : ℕ) × NeedsPart pages p k × (n ≡ new_part pages after p k))
          → (n < 18) ⊎ IsIndexPage d' n ⊎ IsPartPage d' n ⊎ IsFilePage d' n
      taken (inr part) = inr (inr (inl (subst (IsPartPage d') (sym part.3) (part_page part.0 part.1 part.2))))
      taken (inl marked) = elim ((marks n within).0 marked) [
        | inl system ↦ inl system
        | inr (inl x) ↦ inr (inl (index_still n x))
        | inr (inr x) ↦
            let u = x.used in
            let p : ℕ = u.index.place in
            let has : HasFile d p = record { inside = u.index.inside; used = u.index.used } in
            let named = u.index.named in
            let few = short p has in
            let below : x.place < mapped_at pages p = (let b = u.below in let e = ap (λ i. number_of pages i 0) named in omega (arith, b, e)) in
            let here : number_of pages (map_at pages p) (x.place + 1) ≡ n = ap (λ i. number_of pages i (x.place + 1)) named ∙ u.is in
            inr (inr (inr (subst (IsFilePage d') here (file_page p x.place has below))))
      ]

      was : (n < 18) ⊎ IsIndexPage d' n ⊎ IsPartPage d' n ⊎ IsFilePage d' n
          → (marked_of pages n ≡ true) ⊎ ((p : ℕ) × (k : ℕ) × NeedsPart pages p k × (n ≡ new_part pages after p k))
      was (inl system) = inl ((marks n within).1 (inl system))
      was (inr (inl x)) = inl ((marks n within).1 (inr (inl (index_was n x))))
      was (inr (inr (inl x))) = inr (x.used.index.place, x.part, needs x.by x.part n x.used, sym (part_is x.by x.part n x.used))
      was (inr (inr (inr x))) =
          let is = number_is x.by x.used.by x.used.place x.place x.used.first x.used.below in
          let page = mapped x.used.first.used.index.place (250 * x.used.place + x.place) (has_file x.used.by x.used.first.used.index) is.1 in
          inl ((marks n within).1 (inr (inr (subst (IsMappedPage d) (sym is.0 ∙ x.used.is) page))))

  pub newer_is_solo : IsSoloDisk after
  newer_is_solo = λ n. record {
    first = λ _. m.first;
    catalogue = λ p below _. still_right d d' m.entries m.spares p below ((solo (1 + p / 16)).catalogue p below refl);
    bits = λ k within _. mark_right k within;
    zeros = λ _. m.zeros;
    index = index_right n;
    part = part_right n;
  }

  -- ---- The files

  pub page_now : (p j : ℕ) → HasFile d p → j < mapped_at pages p → page_of d' (map_at pages p) j ≡ number_of pages (map_at pages p) (j + 1)
  page_now p j has below =
      let need : NeedsPart pages p (j / 250) = record { file = has; below = omega (arith, below) } in
      let whole : 250 * (j / 250) + j % 250 ≡ j = omega arith in
      m.numbers p (j / 250) (j % 250) need (omega (arith, below)) ∙ ap (λ n. number_of pages (map_at pages p) (n + 1)) whole

  page_stays : (p j : ℕ) → HasFile d p → j < mapped_at pages p
      → page_at after (number_of pages (map_at pages p) (j + 1)) ≡ page_at pages (number_of pages (map_at pages p) (j + 1))
  page_stays p j has below =
      let few = short p has in
      m.others _ (free_page p j has below).file_page
      (λ other its e. (map_right (map_at pages p) (index_of p has)).no_index j (omega (arith, below, few)) (subst (IsIndexPage d) (sym e) (index_of other its)))
      (λ other k need e. not_mapped other k need (subst (IsMappedPage d) e (mapped p j has below)))

  pages_same : (p n : ℕ) → HasFile d p → n ≤ mapped_at pages p
      → pages_named after (page_of d' (map_at pages p)) n ≡ pages_named pages (λ j. number_of pages (map_at pages p) (j + 1)) n
  unfolding pages_named
  pages_same p zero has few = refl
  pages_same p (suc n) has few =
      ap (λ ps. ps ++ page_at after (page_of d' (map_at pages p) n) ∷ []) (pages_same p n has (omega (arith, few)))
      ∙ ap (λ page. pages_named pages (λ j. number_of pages (map_at pages p) (j + 1)) n ++ page ∷ [])
      (ap (page_at after) (page_now p n has (omega (arith, few))) ∙ page_stays p n has (omega (arith, few)))

  file_same : (p : ℕ) → HasFile d p → file_at after (entry_of pages p) ≡ file_at1 pages (entry_of pages p)
  unfolding file_at file_at1
  file_same p has =
      ap (λ n. record { kind = kind_of (entry_of pages p).kind; protected = (entry_of pages p).protection == 1; pages = first_pages after (map_at pages p) n })
      (m.lengths p has)
      ∙ ap (λ ps. record { kind = kind_of (entry_of pages p).kind; protected = (entry_of pages p).protection == 1; pages = ps })
      (pages_same p (mapped_at pages p) has (omega arith))

  named_same : (p : ℕ) → p < 240 → named_as (file_at after) after p ≡ named_as (file_at1 pages) pages p
  unfolding named_as
  named_same p below = elim (cases_eq (entry_of pages p).kind 0) [
    | inl empty ↦ by_entry ∙ ap (λ n. cond {A = Named} (n == 0) None (Some ((entry_of pages p).name, file_at after (entry_of pages p)))) empty
        ∙ sym (ap (λ n. cond {A = Named} (n == 0) None (Some ((entry_of pages p).name, file_at1 pages (entry_of pages p)))) empty)
    | inr used ↦ by_entry ∙ ap (λ f. cond {A = Named} ((entry_of pages p).kind == 0) None (Some ((entry_of pages p).name, f)))
        (file_same p record { inside = below; used = used })
  ]
    where
      by_entry : cond {A = Named} ((entry_of after p).kind == 0) None (Some ((entry_of after p).name, file_at after (entry_of after p)))
          ≡ cond {A = Named} ((entry_of pages p).kind == 0) None (Some ((entry_of pages p).name, file_at after (entry_of pages p)))
      by_entry = ap (λ e. cond {A = Named} (e.kind == 0) None (Some (e.name, file_at after e))) (m.entries p below)

  same_below : (f g : ℕ → Named) (n : ℕ) → ((p : ℕ) → p < n → f p ≡ g p) → files_below f n ≡ files_below g n
  unfolding files_below
  same_below f g zero same = refl
  same_below f g (suc n) same =
      ap (λ x. with_file x (files_below f n)) (same n (omega arith)) ∙ ap (with_file (g n)) (same_below f g n (λ p below. same p (omega arith)))

  pub newer_has_files : files after ≡ files1 pages
  newer_has_files = same_below (named_as (file_at after) after) (named_as (file_at1 pages) pages) 240 named_same
