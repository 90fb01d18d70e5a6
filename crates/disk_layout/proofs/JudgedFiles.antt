-- The part pages are judged behind the index pages, and then all pages that are in use are known.
use Rattle.std.proofs.Common.{◌≡◌, ◌≢◌, ℕ, ◌+◌, ◌<◌, ◌≤◌, Bool, true, false, not, ◌||◌, ◌==◌, Option, List, get_or, refl, ap, sym, subst, ◌∙◌, inl, inr, arith}
use Rattle.std.specs.Prelude.{◌⊎◌, ◌↔◌, IsTrue, nat_lt}
use Rattle.std.proofs.lemmas.Bool.{cases_eq, cases_lt, false≢true, lt-ltb, le-ltb, ne_eqb, eq-eqb}
use Rattle.disk_layout.specs.Disk.{Disk, disk_of, page_at}
use Rattle.disk_layout.specs.Format.{IsIndexPage, IsPartPage, IsFilePage, UsesPage, IsFirstUse, PartIsRight, MarkIsRight, file_length, count_in_part}
use Rattle.disk_layout.specs.Judging.{IsBefore, Roles, FileRoles, HasNumbers, PartKeeps, JudgedBelow, noted_bad}
use Rattle.disk_layout.proofs.Written.{number_in}
use Rattle.disk_layout.proofs.LeastBad.{judged_over, judged_on}

-- a part has one first use
same_first : (d : Disk) (q i k i' k' : ℕ) → IsFirstUse d q i k → IsFirstUse d q i' k' → (i ≡ i') × (k ≡ k')
same_first d q i k i' k' f g = by_both (f.least i' k' g.used) (g.least i k f.used)
  where
    by_both : (i < i') ⊎ ((i ≡ i') × (k ≤ k')) → (i' < i) ⊎ ((i' ≡ i) × (k' ≤ k)) → (i ≡ i') × (k ≡ k')
    by_both (inl less) (inl greater) = absurd (omega (arith, less, greater))
    by_both (inl less) (inr same) = absurd (omega (arith, less, same.0))
    by_both (inr same) (inl less) = absurd (omega (arith, less, same.0))
    by_both (inr same) (inr here) = (same.0, omega (arith, same.1, here.1))

same_count : (d : Disk) (q i k i' k' : ℕ) → IsFirstUse d q i k → IsFirstUse d q i' k' → count_in_part (file_length d i) k ≡ count_in_part (file_length d i') k'
same_count d q i k i' k' f g =
    let same = same_first d q i k i' k' f g in
    ap (λ x. count_in_part (file_length d x) k) same.0 ∙ ap (count_in_part (file_length d i')) same.1

module _ (d : Disk) (roles : List ℕ) where
  -- what was noted of the parts when all index pages are judged
  pub parts_begin : Roles d 4288 0 roles → FileRoles d 0 0 roles
  parts_begin r = record {
    size = r.size;
    address = r.address;
    index = r.index;
    is_index = r.is_index;
    part =
        λ n by place x first. let noted = r.part n (met_part n x) (not_index n x) in noted.count
        ∙ same_count d n noted.by noted.place by place noted.first first;
    first_use = λ n x. let noted = r.part n (met_part n x) (not_index n x) in (noted.by, noted.place, noted.first);
    noted_part = λ n x. met_part n x;
    is_part = λ n some small. let noted = r.part n some (λ e. omega (arith, e, small)) in record {
      free = r.address n some;
      by = noted.by;
      part = noted.place;
      used = noted.first.used;
      other = λ y. let role = r.index n y in omega (arith, role, small);
    };
    few = λ n other. elim (cases_eq (get_or roles n 0) 0) [
      | inl none ↦ omega (arith, none)
      | inr some ↦ let noted = r.part n some other in omega (arith, noted.count)
    ];
    page = λ n e. absurd (too_many n e);
    met = λ lesser other n before u. absurd (none_before lesser other before);
  }
    where
      met_part : (n : ℕ) → IsPartPage d n → get_or roles n 0 ≢ 0
      met_part n x = r.met x.by x.part n (inl (x.used.index.free.within)) x.used x.free

      not_index : (n : ℕ) → IsPartPage d n → get_or roles n 0 ≢ 255
      not_index n x e = x.other (r.is_index n e)

      too_many : (n : ℕ) → get_or roles n 0 ≡ 251 → ⊥
      too_many n e = let noted = r.part n (λ zero. omega (arith, e, zero)) (λ full. omega (arith, e, full)) in omega (arith, e, noted.count)

      none_before : (by place : ℕ) → IsBefore by place 0 0 → ⊥
      none_before by place (inl less) = omega (arith, less)
      none_before by place (inr here) = omega (arith, here.1)

  on : (q j q' j' : ℕ) → ((lesser other n : ℕ) → IsBefore lesser other q' j' → UsesPage d lesser other n → IsBefore lesser other q j)
      → ((lesser other : ℕ) → IsBefore lesser other q j → IsBefore lesser other q' j') → FileRoles d q j roles → FileRoles d q' j' roles
  on q j q' j' back forth r = record {
    size = r.size;
    address = r.address;
    index = r.index;
    is_index = r.is_index;
    part = r.part;
    first_use = r.first_use;
    noted_part = r.noted_part;
    is_part = r.is_part;
    few = r.few;
    page = λ n e. let u = r.page n e in (u.0, u.1, forth u.0 u.1 u.2, u.3);
    met = λ lesser other n before u free. r.met lesser other n (back lesser other n before u) u free;
  }

  -- behind all numbers of a part page that are in use the next page begins
  pub part_over : (q count by place : ℕ) → IsFirstUse d q by place → count ≡ count_in_part (file_length d by) place → FileRoles d q count roles
      → FileRoles d (q + 1) 0 roles
  part_over q count by place first count_is r = on q count (q + 1) 0 back forth r
    where
      back : (lesser other n : ℕ) → IsBefore lesser other (q + 1) 0 → UsesPage d lesser other n → IsBefore lesser other q count
      back lesser other n (inl less) u = elim (cases_eq lesser q) [
        | inl same ↦ inr (
          same,
          omega
              (arith, u.below, count_is, same_count d q by place u.by u.place first (subst (λ x. IsFirstUse d x u.by u.place) same u.first)),
        )
        | inr apart ↦ inl (omega (arith, less, apart))
      ]
      back lesser other n (inr none) u = absurd (omega (arith, none.1))

      forth : (lesser other : ℕ) → IsBefore lesser other q count → IsBefore lesser other (q + 1) 0
      forth lesser other (inl less) = inl (omega (arith, less))
      forth lesser other (inr here) = inl (omega (arith, here.0))

  not_part_over : (q : ℕ) → (IsPartPage d q → ⊥) → FileRoles d q 0 roles → FileRoles d (q + 1) 0 roles
  not_part_over q none r = on q 0 (q + 1) 0 back forth r
    where
      back : (lesser other n : ℕ) → IsBefore lesser other (q + 1) 0 → UsesPage d lesser other n → IsBefore lesser other q 0
      back lesser other n (inl less) u = elim (cases_eq lesser q) [
        | inl same ↦ absurd (none (subst (IsPartPage d) same u.part))
        | inr apart ↦ inl (omega (arith, less, apart))
      ]
      back lesser other n (inr here) u = absurd (omega (arith, here.1))

      forth : (lesser other : ℕ) → IsBefore lesser other q 0 → IsBefore lesser other (q + 1) 0
      forth lesser other (inl less) = inl (omega (arith, less))
      forth lesser other (inr here) = absurd (omega (arith, here.1))

  -- a page that is no part page is passed over
  pub passed_part : (q : ℕ) (bad : Option ℕ) → (get_or roles q 0 ≡ 0) ⊎ (250 < get_or roles q 0) → FileRoles d q 0 roles → JudgedBelow (PartKeeps d) q bad
      → FileRoles d (q + 1) 0 roles × JudgedBelow (PartKeeps d) (q + 1) bad
  passed_part q bad other r j = (not_part_over q none r, judged_on (PartKeeps d) q bad (λ by place x. absurd (none x)) j)
    where
      none : IsPartPage d q → ⊥
      none x =
          let first = r.first_use q x in let role = r.part q first.0 first.1 x first.2 in
          elim other [
            | inl zero ↦ r.noted_part q x zero
            | inr many ↦ omega (arith, many, role)
          ]

  -- the pages that were noted are those in use
  noted_taken : FileRoles d 4288 0 roles → (n : ℕ) → get_or roles n 0 ≢ 0 → IsIndexPage d n ⊎ IsPartPage d n ⊎ IsFilePage d n
  noted_taken r n some = elim (cases_eq (get_or roles n 0) 255) [
    | inl index ↦ inl (r.is_index n index)
    | inr other ↦ elim (cases_eq (get_or roles n 0) 251) [
      | inl page ↦ let u = r.page n page in inr (inr (record { free = r.address n some; by = u.0; place = u.1; used = u.3 }))
      | inr apart ↦ let few = r.few n other in inr (inl (r.is_part n some (omega (arith, few, apart))))
    ]
  ]

  taken_noted : FileRoles d 4288 0 roles → (n : ℕ) → IsIndexPage d n ⊎ IsPartPage d n ⊎ IsFilePage d n → get_or roles n 0 ≢ 0
  taken_noted r n (inl x) zero = let role = r.index n x in omega (arith, role, zero)
  taken_noted r n (inr (inl x)) zero = r.noted_part n x zero
  taken_noted r n (inr (inr x)) zero = r.met x.by x.place n (inl (x.used.part.free.within)) x.used x.free zero

  abbrev taken : ℕ → Bool
  taken n = nat_lt n 18 || not (get_or roles n 0 == 0)

  taken_is : FileRoles d 4288 0 roles → (n : ℕ) → (IsTrue (taken n)) ↔ ((n < 18) ⊎ IsIndexPage d n ⊎ IsPartPage d n ⊎ IsFilePage d n)
  taken_is r n = elim (cases_lt n 18) [
    | inl system ↦ ((λ _. inl system), (λ _. ap (λ b. b || not (get_or roles n 0 == 0)) (lt-ltb n 18 system)))
    | inr past ↦ elim (cases_eq (get_or roles n 0) 0) [
      | inl zero ↦ (
        (λ h. absurd (false≢true (sym (ap (λ b. b || not (get_or roles n 0 == 0)) (le-ltb n 18 past) ∙ ap not (eq-eqb (get_or roles n 0) 0 zero)) ∙ h))),
        (λ used. absurd (by_use past zero used)),
      )
      | inr some ↦ (
        (λ _. inr (noted_taken r n some)),
        (λ _. ap (λ b. b || not (get_or roles n 0 == 0)) (le-ltb n 18 past) ∙ ap not (ne_eqb (get_or roles n 0) 0 some)),
      )
    ]
  ]
    where
      by_use : 18 ≤ n → get_or roles n 0 ≡ 0 → (n < 18) ⊎ IsIndexPage d n ⊎ IsPartPage d n ⊎ IsFilePage d n → ⊥
      by_use past zero (inl system) = omega (arith, past, system)
      by_use past zero (inr used) = taken_noted r n used zero

  -- a bit is right where it is as what was noted of its page
  pub bit_judged : FileRoles d 4288 0 roles → (n : ℕ) (marked : Bool) → d.marked n ≡ marked
      → (marked ≡ taken n → MarkIsRight d n) × ((marked ≡ taken n → ⊥) → MarkIsRight d n → ⊥)
  bit_judged r n marked is = (
    (λ same. ((λ h. (taken_is r n).0 (sym same ∙ sym is ∙ h)), (λ used. is ∙ same ∙ (taken_is r n).1 used))),
    (λ apart right. apart (both_ways marked (taken n) (λ h. (taken_is r n).1 (right.0 (is ∙ h))) (λ h. sym is ∙ right.1 ((taken_is r n).0 h)))),
  )
    where
      both_ways : (a b : Bool) → (a ≡ true → b ≡ true) → (b ≡ true → a ≡ true) → a ≡ b
      both_ways true b f g = sym (f refl)
      both_ways false true f g = g refl
      both_ways false false f g = refl

-- a part page is judged
pub part_judged_here : (pages : List (List ℕ)) (n : ℕ) (bytes roles roles_now : List ℕ) (bad bad_now : Option ℕ) (right : Bool) → get_or roles n 0 ≢ 0
    → get_or roles n 0 ≤ 250 → bytes ≡ page_at pages n
    → FileRoles (disk_of pages) n 0 roles → JudgedBelow (PartKeeps (disk_of pages)) n bad → bad_now ≡ noted_bad bad n right
    → ((d : Disk) (q by place : ℕ) → IsPartPage d q → IsFirstUse d q by place → get_or roles n 0 ≡ count_in_part (file_length d by) place → HasNumbers d q bytes
    → FileRoles d q 0 roles → FileRoles d q (get_or roles n 0) roles_now)
    → ((d : Disk) (q by place : ℕ) → IsPartPage d q → IsFirstUse d q by place → get_or roles n 0 ≡ count_in_part (file_length d by) place → HasNumbers d q bytes
    → FileRoles d q 0 roles → right ≡ true → PartIsRight d q (get_or roles n 0))
    → ((d : Disk) (q by place : ℕ) → IsPartPage d q → IsFirstUse d q by place → get_or roles n 0 ≡ count_in_part (file_length d by) place → HasNumbers d q bytes
    → FileRoles d q 0 roles → right ≡ false → PartIsRight d q (get_or roles n 0) → ⊥)
    → FileRoles (disk_of pages) (n + 1) 0 roles_now × JudgedBelow (PartKeeps (disk_of pages)) (n + 1) bad_now
part_judged_here pages n bytes roles roles_now bad bad_now right some small read r j bad_is noted good wrong =
    let x : IsPartPage (disk_of pages) n = r.is_part n some small in
    let first = r.first_use n x in
    let count = r.part n first.0 first.1 x first.2 in
    let numbers : HasNumbers (disk_of pages) n bytes = λ k _. number_in pages n k bytes (sym read) in (
      part_over (disk_of pages) roles_now n (get_or roles n 0) first.0 first.1 first.2 count
          (noted (disk_of pages) n first.0 first.1 x first.2 count numbers r),
      subst (JudgedBelow (PartKeeps (disk_of pages)) (n + 1)) (sym bad_is)
          (judged_over (PartKeeps (disk_of pages)) n bad right
          (λ _ e by place y its. subst (PartIsRight (disk_of pages) n) (r.part n by place y its)
          (good (disk_of pages) n first.0 first.1 x first.2 count numbers r e))
          (λ _ e keeps. wrong (disk_of pages) n first.0 first.1 x first.2 count numbers r e
          (subst (PartIsRight (disk_of pages) n) (sym count) (keeps first.0 first.1 x first.2))) j),
    )
