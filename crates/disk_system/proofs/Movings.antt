-- The files of an area of format 1 get their parts one after the other.
use Rattle.std.proofs.Common.{◌≡◌, ◌≢◌, ℕ, ◌+◌, ◌*◌, ◌/◌, ◌<◌, ◌≤◌, Bool, true, false, List, refl, ap, sym, subst, ◌∙◌, inl, inr, arith}
use Rattle.std.specs.FinSet as fin
use Rattle.std.proofs.lemmas.Bool.{cases_eq, cases_order, false≢true}
use Rattle.solo_base.specs.PageBytes.{number_at}
use Rattle.disk_pages.specs.Pages.{Pages}
use Rattle.disk_layout.specs.Disk.{disk_of, entry_of, marked_of, number_of, page_at, spare_of}
use Rattle.disk_layout.specs.Format.{IsAddress, IsFullEntry, IsIndexPage, count_in_part, part_count}
use Rattle.disk_layout.specs.Format1.{IsSoloDisk1}
use Rattle.disk_layout.specs.Judging.{IsBefore}
use Rattle.disk_layout.specs.Layout.{HasFile}
use Rattle.disk_layout.specs.Newer.{NeedsPart, map_at, mapped_at, new_part}
use Rattle.disk_layout.proofs.Written.{number_in, number_stays}
use Rattle.disk_system.specs.Migrating.{AddsParts, IsTakenBy, Moving}

pub moving_begun : (pages : List (List ℕ)) (taken : Pages) → ((m : ℕ) → m < 4288 → marked_of pages m ≡ fin.contains taken m) → Moving pages pages taken 0
moving_begun pages taken same = record {
  as_many = refl;
  lengths = λ p below. absurd (omega (arith, below));
  index_rest = λ p k below. absurd (omega (arith, below));
  numbers = λ p k j below. absurd (omega (arith, below));
  part_rest = λ p k j below. absurd (omega (arith, below));
  free = λ p k below. absurd (omega (arith, below));
  new = λ p k below. absurd (omega (arith, below));
  now_taken = λ p k below. absurd (omega (arith, below));
  apart = λ p k other part below. absurd (omega (arith, below));
  others = λ m _ _. refl;
  kept = λ m within marked. sym (same m within) ∙ marked;
  only = λ m within its. inl (same m within ∙ its);
  least = λ p k below. absurd (omega (arith, below));
}

-- a place without a file is passed over
pub moving_passed : (pages now : List (List ℕ)) (taken : Pages) (n : ℕ) → (HasFile (disk_of pages) n → ⊥) → Moving pages now taken n
    → Moving pages now taken (n + 1)
moving_passed pages now taken n none m = record {
  as_many = m.as_many;
  lengths = λ p below has. m.lengths p (before p below has) has;
  index_rest = λ p k below has. m.index_rest p k (before p below has) has;
  numbers = λ p k j below need. m.numbers p k j (before p below need.file) need;
  part_rest = λ p k j below need. m.part_rest p k j (before p below need.file) need;
  free = λ p k below need. m.free p k (before p below need.file) need;
  new = λ p k below need. m.new p k (before p below need.file) need;
  now_taken = λ p k below need. m.now_taken p k (before p below need.file) need;
  apart = λ p k other part below other_below need its. m.apart p k other part (before p below need.file) (before other other_below its.file) need its;
  others = λ q not_map not_part. m.others q (λ p below. not_map p (omega (arith, below))) (λ p k below. not_part p k (omega (arith, below)));
  kept = m.kept;
  only = λ q within its. elim (m.only q within its) [
    | inl marked ↦ inl marked
    | inr x ↦ inr (x.0, x.1, omega (arith, x.2), x.3, x.4)
  ];
  least = λ p k below need. m.least p k (before p below need.file) need;
}
  where
    before : (p : ℕ) → p < n + 1 → HasFile (disk_of pages) p → p < n
    before p below has = elim (cases_eq p n) [
      | inl here ↦ absurd (none (subst (HasFile (disk_of pages)) here has))
      | inr apart ↦ omega (arith, below, apart)
    ]

-- ---- A file gets its parts

module _ (pages : List (List ℕ)) (solo : IsSoloDisk1 pages) where
  pub full : (p : ℕ) → HasFile (disk_of pages) p → IsFullEntry (entry_of pages p) (spare_of pages p)
  full p has = elim ((solo (1 + p / 16)).catalogue p has.inside refl).whole [
    | inl empty ↦ absurd (has.used empty.kind)
    | inr x ↦ x
  ]

  pub index_of : (p : ℕ) → HasFile (disk_of pages) p → IsIndexPage (disk_of pages) (map_at pages p)
  index_of p has = record { free = (full p has).address; place = p; inside = has.inside; used = has.used; named = refl }

  map_marked : (p : ℕ) → HasFile (disk_of pages) p → marked_of pages (map_at pages p) ≡ true
  map_marked p has =
      let within = (full p has).address.within in ((solo (16 + map_at pages p / 4096)).bits (map_at pages p) within refl).1 (inr (inl (index_of p has)))

  -- two files have two map pages
  maps_apart : (p other : ℕ) → HasFile (disk_of pages) p → HasFile (disk_of pages) other → map_at pages p ≡ map_at pages other → p ≡ other
  maps_apart p other has its same = elim (cases_order p other) [
    | inl e ↦ e
    | inr (inl before) ↦ absurd (((solo (1 + other / 16)).catalogue other its.inside refl).address p before (full p has) (sym same))
    | inr (inr behind) ↦ absurd (((solo (1 + p / 16)).catalogue p has.inside refl).address other behind (full other its) same)
  ]

  module _ (now after : List (List ℕ)) (taken taken_then : Pages) (n : ℕ) (has : HasFile (disk_of pages) n) (m : Moving pages now taken n)
      (a : AddsParts now after taken taken_then (map_at pages n) (mapped_at pages n)) where
    abbrev i : ℕ
    i = map_at pages n

    abbrev N : ℕ → ℕ
    N k = number_at a.index (2 * (k + 1))

    map_taken : (p : ℕ) → HasFile (disk_of pages) p → fin.contains taken (map_at pages p) ≡ true
    map_taken p its = m.kept (map_at pages p) (full p its).address.within (map_marked p its)

    -- a page that is taken is no new part
    not_new : (q k : ℕ) → fin.contains taken q ≡ true → k < part_count (mapped_at pages n) → q ≢ N k
    not_new q k is below e = false≢true (sym (a.wrote.new k below) ∙ ap (fin.contains taken) (sym e) ∙ is)

    -- a page that is taken, and isn't this map page, stays
    stays : (q : ℕ) → fin.contains taken q ≡ true → q ≢ i → page_at after q ≡ page_at now q
    stays q is apart = a.others q apart ∙ a.wrote.others q (λ k below. not_new q k is below)

    -- this map page was that of the area until now
    unmoved : page_at now i ≡ page_at pages i
    unmoved = m.others i
        (λ p below its e. omega (arith, below, maps_apart n p has its e))
        (λ p k below need e. false≢true (sym (m.new p k below need) ∙ ap (marked_of pages) (sym e) ∙ map_marked n has))

    index_now : (k : ℕ) → number_of after i k ≡ number_at a.index (2 * k)
    index_now k = number_in after i k a.index a.is

    part_here : (k : ℕ) → new_part pages after n k ≡ N k
    part_here k = index_now (k + 1)

    map_stays : (p : ℕ) → p < n → HasFile (disk_of pages) p → page_at after (map_at pages p) ≡ page_at now (map_at pages p)
    map_stays p below its = stays (map_at pages p) (map_taken p its) (λ e. omega (arith, below, maps_apart p n its has e))

    part_before : (p k : ℕ) → p < n → HasFile (disk_of pages) p → new_part pages after p k ≡ new_part pages now p k
    part_before p k below its = number_stays now after (map_at pages p) (k + 1) (map_stays p below its)

    part_stays : (p k : ℕ) → p < n → NeedsPart pages p k → page_at after (new_part pages now p k) ≡ page_at now (new_part pages now p k)
    part_stays p k below need = stays (new_part pages now p k) (m.now_taken p k below need)
        (λ e. false≢true (sym (m.new p k below need) ∙ ap (marked_of pages) e ∙ map_marked n has))

    -- a new part is not this map page
    part_apart : (k : ℕ) → k < part_count (mapped_at pages n) → N k ≢ i
    part_apart k below e = not_new i k (map_taken n has) below (sym e)

    -- what holds of the parts of each file up to this one
    each_part : (P : ℕ → ℕ → ℕ → Type 0) → ((k : ℕ) → k < part_count (mapped_at pages n) → P n k (N k))
        → ((p k : ℕ) → p < n → NeedsPart pages p k → P p k (new_part pages now p k)) → (p k : ℕ) → p < n + 1 → NeedsPart pages p k
        → P p k (new_part pages after p k)
    each_part P here before p k below need = elim (cases_eq p n) [
      | inl last ↦ subst (λ x. P x k (new_part pages after x k)) (sym last)
          (subst (P n k) (sym (part_here k)) (here k (subst (λ x. k < part_count (mapped_at pages x)) last need.below)))
      | inr apart ↦
          let less : p < n = omega (arith, below, apart) in
          subst (P p k) (sym (part_before p k less need.file)) (before p k less need)
    ]

    each_map : (P : ℕ → Type 0) → P n → ((p : ℕ) → p < n → HasFile (disk_of pages) p → P p) → (p : ℕ) → p < n + 1 → HasFile (disk_of pages) p → P p
    each_map P here before p below its = elim (cases_eq p n) [
      | inl last ↦ subst P (sym last) here
      | inr apart ↦ before p (omega (arith, below, apart)) its
    ]

    part_now : (k j : ℕ) → k < part_count (mapped_at pages n) → number_of after (N k) j ≡ number_of a.parts (N k) j
    part_now k j below = number_stays a.parts after (N k) j (a.others (N k) (part_apart k below))

    old_number : (j : ℕ) → number_at (page_at now i) (2 * j) ≡ number_of pages i j
    old_number j = sym (number_in pages i j (page_at now i) (sym unmoved))

    new_unmarked : (k : ℕ) → k < part_count (mapped_at pages n) → marked_of pages (N k) ≡ false
    new_unmarked k below = by_mark (marked_of pages (N k)) refl
      where
        by_mark : (b : Bool) → marked_of pages (N k) ≡ b → marked_of pages (N k) ≡ false
        by_mark true is = absurd (false≢true (sym (a.wrote.new k below) ∙ m.kept (N k) (a.wrote.free k below).within is))
        by_mark false is = is

    -- a page that wasn't free before a part of an earlier file isn't free before it now
    taken_still : (p k q : ℕ) → p < n → IsTakenBy pages now p k q → IsTakenBy pages after p k q
    taken_still p k q below (inl marked) = inl marked
    taken_still p k q below (inr x) = inr (x.0, x.1, x.2, x.3, x.4 ∙ sym (part_before x.0 x.1 (less x.2) x.3.file))
      where
        less : IsBefore x.0 x.1 p k → x.0 < n
        less (inl before) = omega (arith, before, below)
        less (inr same) = omega (arith, same.0, below)

    -- what is below a part of this file isn't free before it
    least_here : (k : ℕ) → k < part_count (mapped_at pages n) → (q : ℕ) → q < N k → IsTakenBy pages after n k q
    least_here k below q under = elim (a.wrote.least k q below under) [
      | inl is ↦ elim (m.only q (let inside = (a.wrote.free k below).within in omega (arith, inside, under)) is) [
        | inl marked ↦ inl marked
        | inr x ↦ inr (x.0, x.1, inl x.2, x.3, x.4 ∙ sym (part_before x.0 x.1 x.2 x.3.file))
      ]
      | inr x ↦ inr (n, x.0, inr (refl, x.1), record { file = has; below = omega (arith, x.1, below) }, x.2 ∙ sym (part_here x.0))
    ]

    pub moving_added : Moving pages after taken_then (n + 1)
    moving_added = record {
      as_many = a.as_many ∙ m.as_many;
      lengths = each_map (λ p. number_of after (map_at pages p) 0 ≡ mapped_at pages p) (index_now 0 ∙ a.wrote.length)
          (λ p below its. number_stays now after (map_at pages p) 0 (map_stays p below its) ∙ m.lengths p below its);
      index_rest = λ p k below its late within.
          each_map (λ p. part_count (mapped_at pages p) < k → number_of after (map_at pages p) k ≡ 0) (λ late. index_now k ∙ a.wrote.rest k late within)
          (λ p below its late. number_stays now after (map_at pages p) k (map_stays p below its) ∙ m.index_rest p k below its late within) p below its late;
      numbers = λ p k j below need inside.
          each_part (λ p k q. j < count_in_part (mapped_at pages p) k → number_of after q j ≡ number_of pages (map_at pages p) (250 * k + j + 1))
          (λ k below inside. part_now k j below ∙ a.wrote.numbers k j below inside ∙ old_number (250 * k + j + 1))
          (λ p k below need inside. number_stays now after _ j (part_stays p k below need) ∙ m.numbers p k j below need inside) p k below need inside;
      part_rest = λ p k j below need late within.
          each_part (λ p k q. count_in_part (mapped_at pages p) k ≤ j → number_of after q j ≡ 0)
          (λ k below late. part_now k j below ∙ a.wrote.part_rest k j below late within)
          (λ p k below need late. number_stays now after _ j (part_stays p k below need) ∙ m.part_rest p k j below need late within) p k below need late;
      free = each_part (λ p k q. IsAddress q) a.wrote.free m.free;
      new = each_part (λ p k q. marked_of pages q ≡ false) new_unmarked m.new;
      now_taken = each_part (λ p k q. fin.contains taken_then q ≡ true) a.wrote.now_taken (λ p k below need. a.wrote.kept _ (m.now_taken p k below need));
      apart = λ p k other part below other_below need its e. elim (cases_eq p n) [
        | inl last ↦ elim (cases_eq other n) [
          | inl it ↦ (
            last ∙ sym it,
            a.wrote.apart k part (subst (λ x. k < part_count (mapped_at pages x)) last need.below)
                (subst (λ x. part < part_count (mapped_at pages x)) it its.below)
                (sym (part_here k) ∙ ap (λ x. new_part pages after x k) (sym last) ∙ e ∙ ap (λ x. new_part pages after x part) it ∙ part_here part),
          )
          | inr apart ↦
              let less : other < n = omega (arith, other_below, apart) in
              absurd (not_new (new_part pages now other part) k (m.now_taken other part less its)
              (subst (λ x. k < part_count (mapped_at pages x)) last need.below)
              (sym (part_before other part less its.file) ∙ sym e ∙ ap (λ x. new_part pages after x k) last ∙ part_here k))
        ]
        | inr apart ↦
            let less : p < n = omega (arith, below, apart) in
            elim (cases_eq other n) [
              | inl it ↦ absurd (not_new (new_part pages now p k) part (m.now_taken p k less need)
                  (subst (λ x. part < part_count (mapped_at pages x)) it its.below)
                  (sym (part_before p k less need.file) ∙ e ∙ ap (λ x. new_part pages after x part) it ∙ part_here part))
              | inr apart_too ↦
                  let other_less : other < n = omega (arith, other_below, apart_too) in
                  m.apart p k other part less other_less need its (sym (part_before p k less need.file) ∙ e ∙ part_before other part other_less its.file)
            ]
      ];
      others = λ q not_map not_part.
          a.others q (not_map n (omega arith) has)
          ∙ a.wrote.others q (λ k below e. not_part n k (omega arith) (record { file = has; below = below }) (e ∙ sym (part_here k)))
          ∙ m.others q (λ p below its. not_map p (omega (arith, below)) its)
          (λ p k below need e. not_part p k (omega (arith, below)) need (e ∙ sym (part_before p k below need.file)));
      kept = λ q within marked. a.wrote.kept q (m.kept q within marked);
      only = λ q within its. elim (a.wrote.only q its) [
        | inl was ↦ elim (m.only q within was) [
          | inl marked ↦ inl marked
          | inr x ↦ inr (x.0, x.1, omega (arith, x.2), x.3, x.4 ∙ sym (part_before x.0 x.1 x.2 x.3.file))
        ]
        | inr x ↦ inr (n, x.0, omega arith, record { file = has; below = x.1 }, x.2 ∙ sym (part_here x.0))
      ];
      least = each_part (λ p k page. (q : ℕ) → q < page → IsTakenBy pages after p k q) least_here
          (λ p k below need q under. taken_still p k q below (m.least p k below need q under));
    }
