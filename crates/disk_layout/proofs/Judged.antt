-- An index page is judged number by number.
use Rattle.std.proofs.Common.{◌≡◌, ℕ, ◌+◌, ◌<◌, ◌≤◌, Bool, true, false, Option, List, get_or, set, refl, ap, sym, subst, ◌∙◌, inl, inr, arith, get_or-set_same, get_or-set_other, length-set}
use Rattle.std.specs.Prelude.{◌⊎◌}
use Rattle.std.proofs.lemmas.Bool.{cases_eq, cases_lt, cases_order, false≢true}
use Rattle.disk_layout.specs.Disk.{Disk, disk_of, page_at}
use Rattle.disk_layout.specs.Format.{IsAddress, IsIndexPage, IndexIsRight, UsesPart, IsFirstUse, file_length, part_count, count_in_part}
use Rattle.disk_layout.specs.Judging.{IndexKeeps, IsBefore, NotedPart, Roles, HasNumbers, JudgedBelow, noted_bad}
use Rattle.disk_layout.proofs.Written.{number_in}
use Rattle.disk_layout.proofs.LeastBad.{judged_over, judged_on}

-- the first k numbers of the index page i are right
pub record RightSoFar (d : Disk) (i k : ℕ) : Type 0 where
  pub short : d.number i 0 ≤ 4000
  pub free : (m : ℕ) → m < k → IsAddress (d.number i (m + 1))
  pub no_index : (m : ℕ) → m < k → IsIndexPage d (d.number i (m + 1)) → ⊥
  pub no_use : (m by place : ℕ) → m < k → IsBefore by place i m → UsesPart d by place (d.number i (m + 1)) → ⊥

-- what is known behind the first k numbers
pub record SoFar (d : Disk) (i k : ℕ) (met : List ℕ) (so_far : Bool) : Type 0 where
  pub roles : Roles d i k met
  pub right : so_far ≡ true → RightSoFar d i k
  pub wrong : so_far ≡ false → IndexIsRight d i → ⊥

later : (by place i k : ℕ) → IsBefore by place i k → IsBefore by place i (k + 1)
later by place i k (inl less) = inl less
later by place i k (inr here) = inr (here.0, omega (arith, here.1))

note_later : (d : Disk) (i k q noted : ℕ) → NotedPart d i k q noted → NotedPart d i (k + 1) q noted
note_later d i k q noted p = record { by = p.by; place = p.place; before = later p.by p.place i k p.before; first = p.first; count = p.count }

module _ (d : Disk) (i : ℕ) (x : IsIndexPage d i) (k : ℕ) (below : k < part_count (file_length d i)) (roles : List ℕ) (r : Roles d i k roles) (q : ℕ)
    (is : d.number i (k + 1) ≡ q) where
  use_here : UsesPart d i k q
  use_here = record { index = x; below = below; is = is }

  -- a use before place k + 1 is one before k, or this one
  up_to_here : (by place n : ℕ) → IsBefore by place i (k + 1) → UsesPart d by place n → IsBefore by place i k ⊎ (n ≡ q)
  up_to_here by place n (inl less) u = inl (inl less)
  up_to_here by place n (inr here) u = elim (cases_lt place k) [
    | inl earlier ↦ inl (inr (here.0, earlier))
    | inr late ↦
        let last : place ≡ k = omega (arith, here.1, late) in
        inr (sym u.is ∙ ap (λ m. d.number m (place + 1)) here.0 ∙ ap (λ m. d.number i (m + 1)) last ∙ is)
  ]

  module _ (count : ℕ) (free : IsAddress q) (unmet : get_or roles q 0 ≡ 0) (count_is : count ≡ count_in_part (file_length d i) k) (some : 0 < count)
      (few : count ≤ 250) where
    here_now : get_or (set roles q count) q 0 ≡ count
    here_now = get_or-set_same roles q count 0 (omega (arith, free.within, r.size))

    not_before : (by place : ℕ) → UsesPart d by place q → IsBefore by place i k → ⊥
    not_before by place u before = r.met by place q before u free unmet

    first : IsFirstUse d q i k
    first = record {
      used = use_here;
      least = λ by part u. elim (cases_order i by) [
        | inl same ↦ elim (cases_lt part k) [
          | inl earlier ↦ absurd (not_before by part u (inr (sym same, earlier)))
          | inr late ↦ inr (same, late)
        ]
        | inr (inl less) ↦ inl less
        | inr (inr greater) ↦ absurd (not_before by part u (inl greater))
      ];
    }

    pub noted_roles : Roles d i (k + 1) (set roles q count)
    noted_roles = record {
      size = length-set roles q count ∙ r.size;
      address = λ n some. elim (cases_eq n q) [
        | inl here ↦ subst IsAddress (sym here) free
        | inr apart ↦ r.address n (λ e. some (get_or-set_other roles q n count 0 apart ∙ e))
      ];
      index = λ n y. let was = r.index n y in get_or-set_other roles q n count 0 (λ e. omega (arith, was, unmet, ap (λ m. get_or roles m 0) e)) ∙ was;
      is_index = λ n e. elim (cases_eq n q) [
        | inl here ↦ absurd (omega (arith, e, here_now, few, ap (λ m. get_or (set roles q count) m 0) here))
        | inr apart ↦ r.is_index n (sym (get_or-set_other roles q n count 0 apart) ∙ e)
      ];
      part = λ n some_role not_index. elim (cases_eq n q) [
        | inl here ↦ subst (λ m. NotedPart d i (k + 1) m (get_or (set roles q count) m 0)) (sym here) (record {
          by =
              i;
          place = k;
          before = inr (refl, omega arith);
          first = first;
          count = here_now ∙ count_is;
        })
        | inr apart ↦
            let same = get_or-set_other roles q n count 0 apart in
            subst (NotedPart d i (k + 1) n) (sym same) (note_later d i k n _ (r.part n (λ e. some_role (same ∙ e)) (λ e. not_index (same ∙ e))))
      ];
      met = λ by place n before u n_free zero. elim (cases_eq n q) [
        | inl here ↦ omega (arith, some, here_now, zero, ap (λ m. get_or (set roles q count) m 0) here)
        | inr apart ↦ elim (up_to_here by place n before u) [
          | inl earlier ↦ r.met by place n earlier u n_free (sym (get_or-set_other roles q n count 0 apart) ∙ zero)
          | inr here ↦ apart here
        ]
      ];
    }

    pub noted_right : RightSoFar d i k → RightSoFar d i (k + 1)
    noted_right so_far = record {
      short = so_far.short;
      free = λ m less. elim (cases_lt m k) [
        | inl before ↦ so_far.free m before
        | inr late ↦ let last : m ≡ k = omega (arith, less, late) in subst IsAddress (sym (ap (λ n. d.number i (n + 1)) last ∙ is)) free
      ];
      no_index = λ m less y. elim (cases_lt m k) [
        | inl before ↦ so_far.no_index m before y
        | inr late ↦
            let last : m ≡ k = omega (arith, less, late) in
            let role = r.index q (subst (IsIndexPage d) (ap (λ n. d.number i (n + 1)) last ∙ is) y) in omega (arith, role, unmet)
      ];
      no_use = λ m by place less before u. elim (cases_lt m k) [
        | inl earlier ↦ so_far.no_use m by place earlier before u
        | inr late ↦
            let last : m ≡ k = omega (arith, less, late) in
            not_before by place (subst (UsesPart d by place) (ap (λ n. d.number i (n + 1)) last ∙ is) u) (subst (IsBefore by place i) last before)
      ];
    }

  module _ (refused : IsAddress q → get_or roles q 0 ≡ 0 → ⊥) where
    pub passed_roles : Roles d i (k + 1) roles
    passed_roles = record {
      size = r.size;
      address = r.address;
      index = r.index;
      is_index = r.is_index;
      part = λ n some not_index. note_later d i k n _ (r.part n some not_index);
      met = λ by place n before u free zero. elim (up_to_here by place n before u) [
        | inl earlier ↦ r.met by place n earlier u free zero
        | inr here ↦ refused (subst IsAddress here free) (sym (ap (λ m. get_or roles m 0) here) ∙ zero)
      ];
    }

    pub passed_wrong : IndexIsRight d i → ⊥
    passed_wrong right =
        let free : IsAddress q = subst IsAddress is (right.free k below) in
        elim (cases_eq (get_or roles q 0) 255) [
          | inl index ↦ right.no_index k below (subst (IsIndexPage d) (sym is) (r.is_index q index))
          | inr other ↦
              let p = r.part q (refused free) other in
              elim p.before [
                | inl lesser ↦ right.no_lesser k p.by p.place below lesser (subst (UsesPart d p.by p.place) (sym is) p.first.used)
                | inr here ↦
                    let its : d.number i (p.place + 1) ≡ q = ap (λ m. d.number m (p.place + 1)) (sym here.0) ∙ p.first.used.is in
                    let same = right.once k p.place below (subst (λ m. p.place < part_count (file_length d m)) here.0 p.first.used.below) (is
                    ∙ sym its) in omega (arith, same, here.1)
              ]
        ]

-- ---- The ends

pub begun : (d : Disk) (i : ℕ) (roles : List ℕ) (so_far : Bool) → Roles d i 0 roles → (so_far ≡ true → d.number i 0 ≤ 4000)
    → (so_far ≡ false → 4000 < d.number i 0) → SoFar d i 0 roles so_far
begun d i roles so_far r short long = record {
  roles = r;
  right =
      λ e. record {
        short =
            short e;
        free =
            λ m less. absurd (omega (arith, less));
        no_index = λ m less _. omega (arith, less);
        no_use = λ m by place less _ _. omega (arith, less);
      };
  wrong = λ e right. omega (arith, long e, right.length);
}

pub page_over : (d : Disk) (i : ℕ) (roles : List ℕ) → Roles d i (part_count (file_length d i)) roles → Roles d (i + 1) 0 roles
page_over d i roles r = record {
  size = r.size;
  address = r.address;
  index = r.index;
  is_index = r.is_index;
  part = λ n some not_index. let p = r.part n some not_index in record {
    by = p.by;
    place = p.place;
    first = p.first;
    count = p.count;
    before = inl (elim p.before [ inl less ↦ omega (arith, less) | inr here ↦ omega (arith, here.0) ]);
  };
  met = λ by place n before u free. r.met by place n (earlier by place n before u) u free;
}
  where
    earlier : (by place n : ℕ) → IsBefore by place (i + 1) 0 → UsesPart d by place n → IsBefore by place i (part_count (file_length d i))
    earlier by place n (inl less) u = elim (cases_eq by i) [
      | inl same ↦ inr (same, subst (λ m. place < part_count (file_length d m)) same u.below)
      | inr other ↦ inl (omega (arith, less, other))
    ]
    earlier by place n (inr none) u = absurd (omega (arith, none.1))

pub all_right : (d : Disk) (i : ℕ) → IsIndexPage d i → RightSoFar d i (part_count (file_length d i))
    → ((k : ℕ) → part_count (file_length d i) < k → k < 256 → d.number i k ≡ 0) → IndexIsRight d i
all_right d i x so_far rest = record {
  length = so_far.short;
  free = so_far.free;
  once = λ k other k_below other_below same. elim (cases_order k other) [
    | inl e ↦ e
    | inr (inl less) ↦ absurd (so_far.no_use other i k other_below (inr (refl, less)) (record { index = x; below = k_below; is = same }))
    | inr (inr greater) ↦ absurd (so_far.no_use k i other k_below (inr (refl, greater)) (record { index = x; below = other_below; is = sym same }))
  ];
  no_index = so_far.no_index;
  no_lesser = λ k lesser part below less u. so_far.no_use k lesser part below (inl less) u;
  rest = rest;
}

-- one number more
pub one_more : (d : Disk) (i : ℕ) → IsIndexPage d i → (k : ℕ) → k < part_count (file_length d i) → (roles : List ℕ) (so_far : Bool) → SoFar d i k roles so_far
    → (q : ℕ) → d.number i (k + 1) ≡ q → (count : ℕ) → count ≡ count_in_part (file_length d i) k → 0 < count → count ≤ 250
    → (noted : Bool) (roles_now : List ℕ) (right_now : Bool)
    → (noted ≡ true → IsAddress q × (get_or roles q 0 ≡ 0) × (roles_now ≡ set roles q count))
    → (noted ≡ false → ((IsAddress q → get_or roles q 0 ≡ 0 → ⊥) × (roles_now ≡ roles)))
    → (right_now ≡ true → (so_far ≡ true) × (noted ≡ true)) → (right_now ≡ false → (so_far ≡ false) ⊎ (noted ≡ false))
    → SoFar d i (k + 1) roles_now right_now
one_more d i x k below roles so_far s q is count count_is some few true roles_now right_now new old both either =
    let n = new refl in
    record {
      roles = subst (Roles d i (k + 1)) (sym n.2) (noted_roles d i x k below roles s.roles q is count n.0 n.1 count_is some few);
      right = λ e. noted_right d i x k below roles s.roles q is count n.0 n.1 count_is some few (s.right (both e).0);
      wrong = λ e. elim (either e) [
        | inl before ↦ s.wrong before
        | inr here ↦ absurd (false≢true (sym here))
      ];
    }
one_more d i x k below roles so_far s q is count count_is some few false roles_now right_now new old both either =
    let n = old refl in
    record {
      roles = subst (Roles d i (k + 1)) (sym n.1) (passed_roles d i x k below roles s.roles q is n.0);
      right = λ e. absurd (false≢true (both e).1);
      wrong = λ e. passed_wrong d i x k below roles s.roles q is n.0;
    }

-- ---- Page by page

not_index_over : (d : Disk) (n : ℕ) (roles : List ℕ) → (IsIndexPage d n → ⊥) → Roles d n 0 roles → Roles d (n + 1) 0 roles
not_index_over d n roles other r = record {
  size = r.size;
  address = r.address;
  index = r.index;
  is_index = r.is_index;
  part = λ q some not_index. let p = r.part q some not_index in record {
    by = p.by;
    place = p.place;
    first = p.first;
    count = p.count;
    before = inl (elim p.before [ inl less ↦ omega (arith, less) | inr here ↦ omega (arith, here.1) ]);
  };
  met = λ by place q before u free. r.met by place q (earlier by place q before u) u free;
}
  where
    earlier : (by place q : ℕ) → IsBefore by place (n + 1) 0 → UsesPart d by place q → IsBefore by place n 0
    earlier by place q (inl less) u = elim (cases_eq by n) [
      | inl same ↦ absurd (other (subst (IsIndexPage d) same u.index))
      | inr apart ↦ inl (omega (arith, less, apart))
    ]
    earlier by place q (inr none) u = absurd (omega (arith, none.1))

-- a page that is no index page is passed over
pub passed_over : (d : Disk) (n : ℕ) (roles : List ℕ) (bad : Option ℕ) → (get_or roles n 0 ≡ 255 → ⊥) → Roles d n 0 roles → JudgedBelow (IndexKeeps d) n bad
    → Roles d (n + 1) 0 roles × JudgedBelow (IndexKeeps d) (n + 1) bad
passed_over d n roles bad other r j =
    let not_index : IsIndexPage d n → ⊥ = λ y. other (r.index n y) in
    (not_index_over d n roles not_index r, judged_on (IndexKeeps d) n bad (λ x. absurd (not_index x)) j)

-- an index page is judged
pub judged_here : (pages : List (List ℕ)) (n : ℕ) (bytes roles roles_now : List ℕ) (bad bad_now : Option ℕ) (right : Bool) → get_or roles n 0 ≡ 255
    → bytes ≡ page_at pages n
    → Roles (disk_of pages) n 0 roles → JudgedBelow (IndexKeeps (disk_of pages)) n bad → bad_now ≡ noted_bad bad n right
    → ((d : Disk) (i : ℕ) → IsIndexPage d i → HasNumbers d i bytes → Roles d i 0 roles → Roles d (i + 1) 0 roles_now)
    → ((d : Disk) (i : ℕ) → IsIndexPage d i → HasNumbers d i bytes → Roles d i 0 roles → right ≡ true → IndexIsRight d i)
    → ((d : Disk) (i : ℕ) → IsIndexPage d i → HasNumbers d i bytes → Roles d i 0 roles → right ≡ false → IndexIsRight d i → ⊥)
    → Roles (disk_of pages) (n + 1) 0 roles_now × JudgedBelow (IndexKeeps (disk_of pages)) (n + 1) bad_now
judged_here pages n bytes roles roles_now bad bad_now right here read r j bad_is noted good wrong =
    let d = disk_of pages in
    let x : IsIndexPage (disk_of pages) n = r.is_index n here in
    let numbers : HasNumbers (disk_of pages) n bytes = λ k _. number_in pages n k bytes (sym read) in (
      noted (disk_of pages) n x numbers r,
      subst (JudgedBelow (IndexKeeps (disk_of pages)) (n + 1)) (sym bad_is)
          (judged_over (IndexKeeps (disk_of pages)) n bad right (λ _ e _. good (disk_of pages) n x numbers r e)
          (λ _ e keeps. wrong (disk_of pages) n x numbers r e (keeps x)) j),
    )
