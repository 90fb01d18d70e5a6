-- A map page of format 1 is judged number by number, and all of them one after the other.
use Rattle.std.proofs.Common.{◌≡◌, ◌≢◌, ℕ, ◌+◌, ◌<◌, ◌≤◌, Bool, true, false, min, not, ◌||◌, ◌==◌, Option, List, get_or, set, refl, ap, sym, subst, ◌∙◌, inl, inr, arith, get_or-set_same, get_or-set_other, length-set}
use Rattle.std.specs.Prelude.{◌⊎◌, ◌↔◌, IsTrue, nat_lt}
use Rattle.std.proofs.lemmas.Bool.{cases_eq, cases_lt, cases_order, false≢true, lt-ltb, le-ltb, ne_eqb, eq-eqb}
use Rattle.disk_layout.specs.Disk.{Disk, disk_of, page_at}
use Rattle.disk_layout.specs.Format.{IsAddress, IsIndexPage, NumbersAreRight}
use Rattle.disk_layout.specs.Format1.{IsMappedPage, Mark1IsRight, all_of}
use Rattle.disk_layout.specs.Judging.{HasNumbers, IsBefore, JudgedBelow, MapKeeps, MapRoles, Roles, UsesMapped, noted_bad}
use Rattle.disk_layout.proofs.Written.{number_in}
use Rattle.disk_layout.proofs.LeastBad.{judged_on, judged_over}

-- a length over 255 counts as 255
abbrev pub map_length : Disk → ℕ → ℕ
map_length d i = min (d.number i 0) 255

-- the first k numbers of the map page i are right
pub record MapRight (d : Disk) (i k : ℕ) : Type 0 where
  pub short : d.number i 0 ≤ 255
  pub free : (m : ℕ) → m < k → IsAddress (d.number i (m + 1))
  pub no_index : (m : ℕ) → m < k → IsIndexPage d (d.number i (m + 1)) → ⊥
  pub no_use : (m by place : ℕ) → m < k → IsBefore by place i m → UsesMapped d by place (d.number i (m + 1)) → ⊥

-- what is known behind the first k numbers
pub record MapSoFar (d : Disk) (i k : ℕ) (met : List ℕ) (so_far : Bool) : Type 0 where
  pub roles : MapRoles d i k met
  pub right : so_far ≡ true → MapRight d i k
  pub wrong : so_far ≡ false → NumbersAreRight d 255 all_of i → ⊥

later : (by place i k : ℕ) → IsBefore by place i k → IsBefore by place i (k + 1)
later by place i k (inl less) = inl less
later by place i k (inr here) = inr (here.0, omega (arith, here.1))

module _ (d : Disk) (i : ℕ) (x : IsIndexPage d i) (k : ℕ) (below : k < map_length d i) (roles : List ℕ) (r : MapRoles d i k roles) (q : ℕ)
    (is : d.number i (k + 1) ≡ q) where
  use_here : UsesMapped d i k q
  use_here = record { index = x; below = below; is = is }

  -- a use before place k + 1 is one before k, or this one
  up_to_here : (by place n : ℕ) → IsBefore by place i (k + 1) → UsesMapped d by place n → IsBefore by place i k ⊎ (n ≡ q)
  up_to_here by place n (inl less) u = inl (inl less)
  up_to_here by place n (inr here) u = elim (cases_lt place k) [
    | inl earlier ↦ inl (inr (here.0, earlier))
    | inr late ↦
        let last : place ≡ k = omega (arith, here.1, late) in
        inr (sym u.is ∙ ap (λ m. d.number m (place + 1)) here.0 ∙ ap (λ m. d.number i (m + 1)) last ∙ is)
  ]

  module _ (free : IsAddress q) (unmet : get_or roles q 0 ≡ 0) where
    here_now : get_or (set roles q 251) q 0 ≡ 251
    here_now = get_or-set_same roles q 251 0 (omega (arith, free.within, r.size))

    not_before : (by place : ℕ) → UsesMapped d by place q → IsBefore by place i k → ⊥
    not_before by place u before = r.met by place q before u free unmet

    noted_roles : MapRoles d i (k + 1) (set roles q 251)
    noted_roles = record {
      size = length-set roles q 251 ∙ r.size;
      address = λ n some. elim (cases_eq n q) [
        | inl here ↦ subst IsAddress (sym here) free
        | inr apart ↦ r.address n (λ e. some (get_or-set_other roles q n 251 0 apart ∙ e))
      ];
      index = λ n y. let was = r.index n y in get_or-set_other roles q n 251 0 (λ e. omega (arith, was, unmet, ap (λ m. get_or roles m 0) e)) ∙ was;
      is_index = λ n e. elim (cases_eq n q) [
        | inl here ↦ absurd (omega (arith, e, here_now, ap (λ m. get_or (set roles q 251) m 0) here))
        | inr apart ↦ r.is_index n (sym (get_or-set_other roles q n 251 0 apart) ∙ e)
      ];
      page = λ n some not_index. elim (cases_eq n q) [
        | inl here ↦ (i, k, inr (refl, omega arith), subst (UsesMapped d i k) (sym here) use_here)
        | inr apart ↦
            let same = get_or-set_other roles q n 251 0 apart in
            let u = r.page n (λ e. some (same ∙ e)) (λ e. not_index (same ∙ e)) in
            (u.0, u.1, later u.0 u.1 i k u.2, u.3)
      ];
      met = λ by place n before u n_free zero. elim (cases_eq n q) [
        | inl here ↦ omega (arith, here_now, zero, ap (λ m. get_or (set roles q 251) m 0) here)
        | inr apart ↦ elim (up_to_here by place n before u) [
          | inl earlier ↦ r.met by place n earlier u n_free (sym (get_or-set_other roles q n 251 0 apart) ∙ zero)
          | inr here ↦ apart here
        ]
      ];
    }

    noted_right : MapRight d i k → MapRight d i (k + 1)
    noted_right so_far = record {
      short = so_far.short;
      free = λ m less. elim (cases_lt m k) [
        | inl before ↦ so_far.free m before
        | inr late ↦ let last : m ≡ k = omega (arith, less, late) in subst IsAddress (sym (ap (λ n. d.number i (n + 1)) last ∙ is)) free
      ];
      no_index = λ m less y. elim (cases_lt m k) [
        | inl before ↦ so_far.no_index m before y
        | inr late ↦
            let last : m ≡ k = omega (arith, less, late) in
            let role = r.index q (subst (IsIndexPage d) (ap (λ n. d.number i (n + 1)) last ∙ is) y) in omega (arith, role, unmet)
      ];
      no_use = λ m by place less before u. elim (cases_lt m k) [
        | inl earlier ↦ so_far.no_use m by place earlier before u
        | inr late ↦
            let last : m ≡ k = omega (arith, less, late) in
            not_before by place (subst (UsesMapped d by place) (ap (λ n. d.number i (n + 1)) last ∙ is) u) (subst (IsBefore by place i) last before)
      ];
    }

  module _ (refused : IsAddress q → get_or roles q 0 ≡ 0 → ⊥) where
    passed_roles : MapRoles d i (k + 1) roles
    passed_roles = record {
      size = r.size;
      address = r.address;
      index = r.index;
      is_index = r.is_index;
      page = λ n some not_index. let u = r.page n some not_index in (u.0, u.1, later u.0 u.1 i k u.2, u.3);
      met = λ by place n before u free zero. elim (up_to_here by place n before u) [
        | inl earlier ↦ r.met by place n earlier u free zero
        | inr here ↦ refused (subst IsAddress here free) (sym (ap (λ m. get_or roles m 0) here) ∙ zero)
      ];
    }

    passed_wrong : NumbersAreRight d 255 all_of i → ⊥
    passed_wrong right =
        let free : IsAddress q = subst IsAddress is (right.free k below) in
        elim (cases_eq (get_or roles q 0) 255) [
          | inl index ↦ right.no_index k below (subst (IsIndexPage d) (sym is) (r.is_index q index))
          | inr other ↦
              let u = r.page q (refused free) other in
              elim u.2 [
                | inl lesser ↦ right.no_lesser k u.0 u.1 below lesser (subst (UsesMapped d u.0 u.1) (sym is) u.3)
                | inr here ↦
                    let its : d.number i (u.1 + 1) ≡ q = ap (λ m. d.number m (u.1 + 1)) (sym here.0) ∙ u.3.is in
                    let same = right.once k u.1 below (subst (λ m. u.1 < map_length d m) here.0 u.3.below) (is ∙ sym its) in
                    omega (arith, same, here.1)
              ]
        ]

-- ---- The ends

pub map_begun : (d : Disk) (i : ℕ) (roles : List ℕ) (so_far : Bool) → MapRoles d i 0 roles → (so_far ≡ true → d.number i 0 ≤ 255)
    → (so_far ≡ false → 255 < d.number i 0) → MapSoFar d i 0 roles so_far
map_begun d i roles so_far r short long = record {
  roles = r;
  right = λ e. record {
    short = short e;
    free = λ m less. absurd (omega (arith, less));
    no_index = λ m less _. omega (arith, less);
    no_use = λ m by place less _ _. omega (arith, less);
  };
  wrong = λ e right. omega (arith, long e, right.length);
}

pub map_over : (d : Disk) (i : ℕ) (roles : List ℕ) → MapRoles d i (map_length d i) roles → MapRoles d (i + 1) 0 roles
map_over d i roles r = record {
  size = r.size;
  address = r.address;
  index = r.index;
  is_index = r.is_index;
  page = λ n some not_index. let u = r.page n some not_index in (
    u.0,
    u.1,
    inl (elim u.2 [ inl less ↦ omega (arith, less) | inr here ↦ omega (arith, here.0) ]),
    u.3,
  );
  met = λ by place n before u free. r.met by place n (earlier by place n before u) u free;
}
  where
    earlier : (by place n : ℕ) → IsBefore by place (i + 1) 0 → UsesMapped d by place n → IsBefore by place i (map_length d i)
    earlier by place n (inl less) u = elim (cases_eq by i) [
      | inl same ↦ inr (same, subst (λ m. place < map_length d m) same u.below)
      | inr other ↦ inl (omega (arith, less, other))
    ]
    earlier by place n (inr none) u = absurd (omega (arith, none.1))

pub map_right : (d : Disk) (i : ℕ) → IsIndexPage d i → MapRight d i (map_length d i)
    → ((k : ℕ) → map_length d i < k → k < 256 → d.number i k ≡ 0) → NumbersAreRight d 255 all_of i
map_right d i x so_far rest = record {
  length = so_far.short;
  free = so_far.free;
  once = λ k other k_below other_below same. elim (cases_order k other) [
    | inl e ↦ e
    | inr (inl less) ↦ absurd (so_far.no_use other i k other_below (inr (refl, less)) (record { index = x; below = k_below; is = same }))
    | inr (inr greater) ↦ absurd (so_far.no_use k i other k_below (inr (refl, greater)) (record { index = x; below = other_below; is = sym same }))
  ];
  no_index = so_far.no_index;
  no_lesser = λ k lesser part below less u. so_far.no_use k lesser part below (inl less) u;
  rest = rest;
}

-- one number more
pub map_more : (d : Disk) (i : ℕ) → IsIndexPage d i → (k : ℕ) → k < map_length d i → (roles : List ℕ) (so_far : Bool) → MapSoFar d i k roles so_far
    → (q : ℕ) → d.number i (k + 1) ≡ q → (noted : Bool) (roles_now : List ℕ) (right_now : Bool)
    → (noted ≡ true → IsAddress q × (get_or roles q 0 ≡ 0) × (roles_now ≡ set roles q 251))
    → (noted ≡ false → ((IsAddress q → get_or roles q 0 ≡ 0 → ⊥) × (roles_now ≡ roles)))
    → (right_now ≡ true → (so_far ≡ true) × (noted ≡ true)) → (right_now ≡ false → (so_far ≡ false) ⊎ (noted ≡ false))
    → MapSoFar d i (k + 1) roles_now right_now
map_more d i x k below roles so_far s q is true roles_now right_now new old both either =
    let n = new refl in
    record {
      roles = subst (MapRoles d i (k + 1)) (sym n.2) (noted_roles d i x k below roles s.roles q is n.0 n.1);
      right = λ e. noted_right d i x k below roles s.roles q is n.0 n.1 (s.right (both e).0);
      wrong = λ e. elim (either e) [
        | inl before ↦ s.wrong before
        | inr here ↦ absurd (false≢true (sym here))
      ];
    }
map_more d i x k below roles so_far s q is false roles_now right_now new old both either =
    let n = old refl in
    record {
      roles = subst (MapRoles d i (k + 1)) (sym n.1) (passed_roles d i x k below roles s.roles q is n.0);
      right = λ e. absurd (false≢true (both e).1);
      wrong = λ e. passed_wrong d i x k below roles s.roles q is n.0;
    }

-- ---- Page by page

not_map_over : (d : Disk) (n : ℕ) (roles : List ℕ) → (IsIndexPage d n → ⊥) → MapRoles d n 0 roles → MapRoles d (n + 1) 0 roles
not_map_over d n roles other r = record {
  size = r.size;
  address = r.address;
  index = r.index;
  is_index = r.is_index;
  page = λ q some not_index. let u = r.page q some not_index in (
    u.0,
    u.1,
    inl (elim u.2 [ inl less ↦ omega (arith, less) | inr here ↦ omega (arith, here.1) ]),
    u.3,
  );
  met = λ by place q before u free. r.met by place q (earlier by place q before u) u free;
}
  where
    earlier : (by place q : ℕ) → IsBefore by place (n + 1) 0 → UsesMapped d by place q → IsBefore by place n 0
    earlier by place q (inl less) u = elim (cases_eq by n) [
      | inl same ↦ absurd (other (subst (IsIndexPage d) same u.index))
      | inr apart ↦ inl (omega (arith, less, apart))
    ]
    earlier by place q (inr none) u = absurd (omega (arith, none.1))

-- a page that is no map page is passed over
pub map_passed : (d : Disk) (n : ℕ) (roles : List ℕ) (bad : Option ℕ) → (get_or roles n 0 ≡ 255 → ⊥) → MapRoles d n 0 roles → JudgedBelow (MapKeeps d) n bad
    → MapRoles d (n + 1) 0 roles × JudgedBelow (MapKeeps d) (n + 1) bad
map_passed d n roles bad other r j =
    let not_index : IsIndexPage d n → ⊥ = λ y. other (r.index n y) in
    (not_map_over d n roles not_index r, judged_on (MapKeeps d) n bad (λ x. absurd (not_index x)) j)

-- a map page is judged
pub map_judged : (pages : List (List ℕ)) (n : ℕ) (bytes roles roles_now : List ℕ) (bad bad_now : Option ℕ) (right : Bool) → get_or roles n 0 ≡ 255
    → bytes ≡ page_at pages n
    → MapRoles (disk_of pages) n 0 roles → JudgedBelow (MapKeeps (disk_of pages)) n bad → bad_now ≡ noted_bad bad n right
    → ((d : Disk) (i : ℕ) → IsIndexPage d i → HasNumbers d i bytes → MapRoles d i 0 roles → MapRoles d (i + 1) 0 roles_now)
    → ((d : Disk) (i : ℕ) → IsIndexPage d i → HasNumbers d i bytes → MapRoles d i 0 roles → right ≡ true → NumbersAreRight d 255 all_of i)
    → ((d : Disk) (i : ℕ) → IsIndexPage d i → HasNumbers d i bytes → MapRoles d i 0 roles → right ≡ false → NumbersAreRight d 255 all_of i → ⊥)
    → MapRoles (disk_of pages) (n + 1) 0 roles_now × JudgedBelow (MapKeeps (disk_of pages)) (n + 1) bad_now
map_judged pages n bytes roles roles_now bad bad_now right here read r j bad_is noted good wrong =
    let x : IsIndexPage (disk_of pages) n = r.is_index n here in
    let numbers : HasNumbers (disk_of pages) n bytes = λ k _. number_in pages n k bytes (sym read) in (
      noted (disk_of pages) n x numbers r,
      subst (JudgedBelow (MapKeeps (disk_of pages)) (n + 1)) (sym bad_is)
          (judged_over (MapKeeps (disk_of pages)) n bad right (λ _ e _. good (disk_of pages) n x numbers r e)
          (λ _ e keeps. wrong (disk_of pages) n x numbers r e (keeps x)) j),
    )

-- ---- The bits

module _ (d : Disk) (roles : List ℕ) (r : MapRoles d 4288 0 roles) where
  abbrev taken : ℕ → Bool
  taken n = nat_lt n 18 || not (get_or roles n 0 == 0)

  noted_taken : (n : ℕ) → get_or roles n 0 ≢ 0 → IsIndexPage d n ⊎ IsMappedPage d n
  noted_taken n some = elim (cases_eq (get_or roles n 0) 255) [
    | inl index ↦ inl (r.is_index n index)
    | inr other ↦ let u = r.page n some other in inr (record { free = r.address n some; by = u.0; place = u.1; used = u.3 })
  ]

  taken_noted : (n : ℕ) → IsIndexPage d n ⊎ IsMappedPage d n → get_or roles n 0 ≢ 0
  taken_noted n (inl x) zero = let role = r.index n x in omega (arith, role, zero)
  taken_noted n (inr x) zero = r.met x.by x.place n (inl x.used.index.free.within) x.used x.free zero

  taken_is : (n : ℕ) → (IsTrue (taken n)) ↔ ((n < 18) ⊎ IsIndexPage d n ⊎ IsMappedPage d n)
  taken_is n = elim (cases_lt n 18) [
    | inl system ↦ ((λ _. inl system), (λ _. ap (λ b. b || not (get_or roles n 0 == 0)) (lt-ltb n 18 system)))
    | inr past ↦ elim (cases_eq (get_or roles n 0) 0) [
      | inl zero ↦ (
        (λ h. absurd (false≢true (sym (ap (λ b. b || not (get_or roles n 0 == 0)) (le-ltb n 18 past) ∙ ap not (eq-eqb (get_or roles n 0) 0 zero)) ∙ h))),
        (λ used. absurd (by_use past zero used)),
      )
      | inr some ↦ (
        (λ _. inr (noted_taken n some)),
        (λ _. ap (λ b. b || not (get_or roles n 0 == 0)) (le-ltb n 18 past) ∙ ap not (ne_eqb (get_or roles n 0) 0 some)),
      )
    ]
  ]
    where
      by_use : 18 ≤ n → get_or roles n 0 ≡ 0 → (n < 18) ⊎ IsIndexPage d n ⊎ IsMappedPage d n → ⊥
      by_use past zero (inl system) = omega (arith, past, system)
      by_use past zero (inr used) = taken_noted n used zero

  -- a bit is right where it is as what was noted of its page
  pub map_bit_judged : (n : ℕ) (marked : Bool) → d.marked n ≡ marked
      → (marked ≡ taken n → Mark1IsRight d n) × ((marked ≡ taken n → ⊥) → Mark1IsRight d n → ⊥)
  map_bit_judged n marked is = (
    (λ same. ((λ h. (taken_is n).0 (sym same ∙ sym is ∙ h)), (λ used. is ∙ same ∙ (taken_is n).1 used))),
    (λ apart right. apart (both_ways marked (taken n) (λ h. (taken_is n).1 (right.0 (is ∙ h))) (λ h. sym is ∙ right.1 ((taken_is n).0 h)))),
  )
    where
      both_ways : (a b : Bool) → (a ≡ true → b ≡ true) → (b ≡ true → a ≡ true) → a ≡ b
      both_ways true b f g = sym (f refl)
      both_ways false true f g = g refl
      both_ways false false f g = refl

-- before the first map page is judged
pub maps_begin : (d : Disk) (roles : List ℕ) → Roles d 0 0 roles → MapRoles d 0 0 roles
maps_begin d roles r = record {
  size = r.size;
  address = r.address;
  index = r.index;
  is_index = r.is_index;
  page = λ n some other. let p = r.part n some other in absurd (none_before p.by p.place p.before);
  met = λ by place n before u. absurd (none_before by place before);
}
  where
    none_before : (by place : ℕ) → IsBefore by place 0 0 → ⊥
    none_before by place (inl less) = omega (arith, less)
    none_before by place (inr here) = omega (arith, here.1)
