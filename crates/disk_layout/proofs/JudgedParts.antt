-- A part page is judged number by number.
use Rattle.std.proofs.Common.{◌≡◌, ◌≢◌, ℕ, ◌+◌, ◌<◌, ◌≤◌, Bool, true, false, List, get_or, set, refl, ap, sym, subst, ◌∙◌, inl, inr, arith, get_or-set_same, get_or-set_other, length-set}
use Rattle.std.specs.Prelude.{◌⊎◌}
use Rattle.std.proofs.lemmas.Bool.{cases_eq, cases_lt, cases_order, false≢true}
use Rattle.disk_layout.specs.Disk.{Disk}
use Rattle.disk_layout.specs.Format.{IsAddress, IsIndexPage, IsPartPage, UsesPage, IsFirstUse, PartIsRight, file_length, count_in_part}
use Rattle.disk_layout.specs.Judging.{IsBefore, FileRoles}

pub record PartSoFar (d : Disk) (q j : ℕ) : Type 0 where
  pub free : (m : ℕ) → m < j → IsAddress (d.number q m)
  pub no_index : (m : ℕ) → m < j → IsIndexPage d (d.number q m) → ⊥
  pub no_part : (m : ℕ) → m < j → IsPartPage d (d.number q m) → ⊥
  pub no_use : (m lesser other : ℕ) → m < j → IsBefore lesser other q m → UsesPage d lesser other (d.number q m) → ⊥

pub record SoFarPart (d : Disk) (q count j : ℕ) (met : List ℕ) (so_far : Bool) : Type 0 where
  pub roles : FileRoles d q j met
  pub right : so_far ≡ true → PartSoFar d q j
  pub wrong : so_far ≡ false → PartIsRight d q count → ⊥

later : (a b q j : ℕ) → IsBefore a b q j → IsBefore a b q (j + 1)
later a b q j (inl less) = inl less
later a b q j (inr here) = inr (here.0, omega (arith, here.1))

module _ (d : Disk) (q by place : ℕ) (x : IsPartPage d q) (first : IsFirstUse d q by place) (j : ℕ) (below : j < count_in_part (file_length d by) place)
    (roles : List ℕ) (r : FileRoles d q j roles) (f : ℕ) (is : d.number q j ≡ f) where
  use_here : UsesPage d q j f
  use_here = record { part = x; by = by; place = place; first = first; below = below; is = is }

  up_to_here : (lesser other n : ℕ) → IsBefore lesser other q (j + 1) → UsesPage d lesser other n → IsBefore lesser other q j ⊎ (n ≡ f)
  up_to_here lesser other n (inl less) u = inl (inl less)
  up_to_here lesser other n (inr here) u = elim (cases_lt other j) [
    | inl earlier ↦ inl (inr (here.0, earlier))
    | inr late ↦ let last : other ≡ j = omega (arith, here.1, late) in inr (sym u.is ∙ ap (λ m. d.number m other) here.0 ∙ ap (d.number q) last ∙ is)
  ]

  module _ (free : IsAddress f) (unmet : get_or roles f 0 ≡ 0) where
    here_now : get_or (set roles f 251) f 0 ≡ 251
    here_now = get_or-set_same roles f 251 0 (omega (arith, free.within, r.size))

    beside_now : (n : ℕ) → n ≢ f → get_or (set roles f 251) n 0 ≡ get_or roles n 0
    beside_now n apart = get_or-set_other roles f n 251 0 apart

    at_f : (n : ℕ) → n ≡ f → get_or (set roles f 251) n 0 ≡ 251
    at_f n here = ap (λ m. get_or (set roles f 251) m 0) here ∙ here_now

    not_before : (lesser other : ℕ) → UsesPage d lesser other f → IsBefore lesser other q j → ⊥
    not_before lesser other u before = r.met lesser other f before u free unmet

    pub noted_page : FileRoles d q (j + 1) (set roles f 251)
    noted_page = record {
      size = length-set roles f 251 ∙ r.size;
      address = λ n some. elim (cases_eq n f) [
        | inl here ↦ subst IsAddress (sym here) free
        | inr apart ↦ r.address n (λ e. some (beside_now n apart ∙ e))
      ];
      first_use = r.first_use;
      index = λ n y. let was = r.index n y in beside_now n (λ e. omega (arith, was, unmet, ap (λ m. get_or roles m 0) e)) ∙ was;
      is_index = λ n e. elim (cases_eq n f) [
        | inl here ↦ absurd (omega (arith, e, at_f n here))
        | inr apart ↦ r.is_index n (sym (beside_now n apart) ∙ e)
      ];
      part =
          λ n a b y u. let was = r.part n a b y u in let some = part_used n a b u in beside_now n
          (λ e. omega (arith, was, some, unmet, ap (λ m. get_or roles m 0) e)) ∙ was;
      noted_part = λ n y zero. elim (cases_eq n f) [
        | inl here ↦ omega (arith, zero, at_f n here)
        | inr apart ↦ r.noted_part n y (sym (beside_now n apart) ∙ zero)
      ];
      is_part = λ n some small. elim (cases_eq n f) [
        | inl here ↦ absurd (omega (arith, small, at_f n here))
        | inr apart ↦ r.is_part n (λ e. some (beside_now n apart ∙ e)) (omega (arith, small, beside_now n apart))
      ];
      few = λ n other. elim (cases_eq n f) [
        | inl here ↦ omega (arith, at_f n here)
        | inr apart ↦ let was = r.few n (λ e. other (beside_now n apart ∙ e)) in omega (arith, was, beside_now n apart)
      ];
      page = λ n e. elim (cases_eq n f) [
        | inl here ↦ (q, j, inr (refl, omega arith), subst (UsesPage d q j) (sym here) use_here)
        | inr apart ↦ let u = r.page n (sym (beside_now n apart) ∙ e) in (u.0, u.1, later u.0 u.1 q j u.2, u.3)
      ];
      met = λ lesser other n before u n_free zero. elim (cases_eq n f) [
        | inl here ↦ omega (arith, zero, at_f n here)
        | inr apart ↦ elim (up_to_here lesser other n before u) [
          | inl earlier ↦ r.met lesser other n earlier u n_free (sym (beside_now n apart) ∙ zero)
          | inr here ↦ apart here
        ]
      ];
    }
      where
        part_used : (n a b : ℕ) → IsFirstUse d n a b → 0 < count_in_part (file_length d a) b
        part_used n a b u = omega (arith, u.used.below)

    at_last : (m : ℕ) → m < j + 1 → (j ≤ m) → d.number q m ≡ f
    at_last m less late = let last : m ≡ j = omega (arith, less, late) in ap (d.number q) last ∙ is

    pub noted_page_right : PartSoFar d q j → PartSoFar d q (j + 1)
    noted_page_right so_far = record {
      free = λ m less. elim (cases_lt m j) [ inl before ↦ so_far.free m before | inr late ↦ subst IsAddress (sym (at_last m less late)) free ];
      no_index = λ m less y. elim (cases_lt m j) [
        | inl before ↦ so_far.no_index m before y
        | inr late ↦ let role = r.index f (subst (IsIndexPage d) (at_last m less late) y) in omega (arith, role, unmet)
      ];
      no_part = λ m less y. elim (cases_lt m j) [
        | inl before ↦ so_far.no_part m before y
        | inr late ↦ no_part_here (subst (IsPartPage d) (at_last m less late) y)
      ];
      no_use = λ m lesser other less before u. elim (cases_lt m j) [
        | inl earlier ↦ so_far.no_use m lesser other earlier before u
        | inr late ↦
            let last : m ≡ j = omega (arith, less, late) in
            not_before lesser other (subst (UsesPage d lesser other) (at_last m less late) u) (subst (IsBefore lesser other q) last before)
      ];
    }
      where
        no_part_here : IsPartPage d f → ⊥
        no_part_here y = r.noted_part f y unmet

  module _ (refused : IsAddress f → get_or roles f 0 ≡ 0 → ⊥) where
    pub passed_page : FileRoles d q (j + 1) roles
    passed_page = record {
      size = r.size;
      address = r.address;
      first_use = r.first_use;
      index = r.index;
      is_index = r.is_index;
      part = r.part;
      noted_part = r.noted_part;
      is_part = r.is_part;
      few = r.few;
      page = λ n e. let u = r.page n e in (u.0, u.1, later u.0 u.1 q j u.2, u.3);
      met = λ lesser other n before u free zero. elim (up_to_here lesser other n before u) [
        | inl earlier ↦ r.met lesser other n earlier u free zero
        | inr here ↦ refused (subst IsAddress here free) (sym (ap (λ m. get_or roles m 0) here) ∙ zero)
      ];
    }

    pub passed_page_wrong : PartIsRight d q (count_in_part (file_length d by) place) → ⊥
    passed_page_wrong right =
        let free : IsAddress f = subst IsAddress is (right.free j below) in
        elim (cases_eq (get_or roles f 0) 255) [
          | inl index ↦ right.no_index j below (subst (IsIndexPage d) (sym is) (r.is_index f index))
          | inr other ↦ elim (cases_eq (get_or roles f 0) 251) [
            | inl met ↦
                let u = r.page f met in
                elim u.2 [
                  | inl lesser ↦ right.no_lesser j u.0 u.1 below lesser (subst (UsesPage d u.0 u.1) (sym is) u.3)
                  | inr here ↦
                      let its : d.number q u.1 ≡ f = ap (λ m. d.number m u.1) (sym here.0) ∙ u.3.is in
                      let mine = r.part q by place x first in
                      let theirs = r.part u.0 u.3.by u.3.place u.3.part u.3.first in
                      let inside : u.1 < count_in_part (file_length d by) place = omega (arith, u.3.below, mine, theirs, ap (λ m. get_or roles m 0) here.0) in
                      let same = right.once j u.1 below inside (is ∙ sym its) in omega (arith, same, here.1)
                ]
            | inr not_page ↦ right.no_part j below (subst (IsPartPage d) (sym is) (r.is_part f (refused free) (let small =
                r.few f other in omega (arith, small, not_page))))
          ]
        ]

pub begun_part : (d : Disk) (q count : ℕ) (roles : List ℕ) (so_far : Bool) → FileRoles d q 0 roles → so_far ≡ true → SoFarPart d q count 0 roles so_far
begun_part d q count roles so_far r yes_so = record {
  roles = r;
  right =
      λ e. record {
        free =
            λ m less. absurd (omega (arith, less));
        no_index =
            λ m less _. omega (arith, less);
        no_part = λ m less _. omega (arith, less);
        no_use = λ m lesser other less _ _. omega (arith, less);
      };
  wrong = λ e right. false≢true (sym e ∙ yes_so);
}

pub one_page_more : (d : Disk) (q by place : ℕ) → IsPartPage d q → IsFirstUse d q by place → (count j : ℕ) → count ≡ count_in_part (file_length d by) place
    → j < count → (roles : List ℕ) (so_far : Bool) → SoFarPart d q count j roles so_far
    → (f : ℕ) → d.number q j ≡ f → (noted : Bool) (roles_now : List ℕ) (right_now : Bool)
    → (noted ≡ true → IsAddress f × (get_or roles f 0 ≡ 0) × (roles_now ≡ set roles f 251))
    → (noted ≡ false → ((IsAddress f → get_or roles f 0 ≡ 0 → ⊥) × (roles_now ≡ roles)))
    → (right_now ≡ true → (so_far ≡ true) × (noted ≡ true)) → (right_now ≡ false → (so_far ≡ false) ⊎ (noted ≡ false))
    → SoFarPart d q count (j + 1) roles_now right_now
one_page_more d q by place x first count j count_is below roles so_far s f is true roles_now right_now new old both either =
    let n = new refl in
    let inside : j < count_in_part (file_length d by) place = omega (arith, below, count_is) in
    record {
      roles = subst (FileRoles d q (j + 1)) (sym n.2) (noted_page d q by place x first j inside roles s.roles f is n.0 n.1);
      right = λ e. noted_page_right d q by place x first j inside roles s.roles f is n.0 n.1 (s.right (both e).0);
      wrong = λ e. elim (either e) [ inl before ↦ s.wrong before | inr here ↦ absurd (false≢true (sym here)) ];
    }
one_page_more d q by place x first count j count_is below roles so_far s f is false roles_now right_now new old both either =
    let n = old refl in
    let inside : j < count_in_part (file_length d by) place = omega (arith, below, count_is) in
    record {
      roles = subst (FileRoles d q (j + 1)) (sym n.1) (passed_page d q by place x first j inside roles s.roles f is n.0);
      right = λ e. absurd (false≢true (both e).1);
      wrong = λ e right. passed_page_wrong d q by place x first j inside roles s.roles f is n.0 (subst (PartIsRight d q) count_is right);
    }

pub part_all_right : (d : Disk) (q by place : ℕ) → IsPartPage d q → IsFirstUse d q by place → (count : ℕ) → count ≡ count_in_part (file_length d by) place
    → PartSoFar d q count → ((j : ℕ) → count ≤ j → j < 256 → d.number q j ≡ 0) → PartIsRight d q count
part_all_right d q by place x first count count_is so_far rest = record {
  free = so_far.free;
  once = λ j other j_below other_below same. elim (cases_order j other) [
    | inl e ↦ e
    | inr (inl less) ↦ absurd (so_far.no_use other q j other_below (inr (refl, less)) (record {
      part =
          x;
      by = by;
      place = place;
      first = first;
      below = omega (arith, j_below, count_is);
      is = same;
    }))
    | inr (inr greater) ↦ absurd (so_far.no_use j q other j_below (inr (refl, greater)) (record {
      part =
          x;
      by = by;
      place = place;
      first = first;
      below = omega (arith, other_below, count_is);
      is = sym same;
    }))
  ];
  no_index = so_far.no_index;
  no_part = so_far.no_part;
  no_lesser = λ j lesser other below less u. so_far.no_use j lesser other below (inl less) u;
  rest = rest;
}
