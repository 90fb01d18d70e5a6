-- The map of files that stand at places, and what a change at one place makes of it.
use Rattle.std.proofs.Common.{◌≡◌, ◌≢◌, ℕ, suc, zero, ◌<◌, Bool, true, false, cond, Option, Some, None, List, refl, ap, sym, subst, ◌∙◌, inl, inr, arith}
use Rattle.std.specs.Prelude.{◌⊎◌}
use Rattle.std.specs.Ordering.{nat_cmp, is_eq, eq_by_cmp}
use Rattle.std.specs.declared.cmp.Ordering.{Ordering}
use Rattle.std.specs.declared.cmp.Ordering.TheVariants.{Less, Equal, Greater}
use Rattle.std.specs.Cmp.{eq_by_cmp_equiv}
use Rattle.std.specs.Cmp.Lexicographic.{slice_cmp, nat_list_cmp_total}
use Rattle.std.specs.FinMap as fin
use Rattle.std.specs.FinMap.{get-empty, get-insert, get-remove, same_map, nat_cmp-IsAntisymmetric, slice_cmp-IsAntisymmetric}
use Rattle.std.proofs.lemmas.Bool.{cases_eq, cases_Bool, false≢true}
use Rattle.disk_layout.specs.Files.{File, Files, with_file, files_below}

abbrev pub Named : Type 0
Named = Option (List ℕ × File)

abbrev ties : List ℕ → List ℕ → Bool
ties q k = eq_by_cmp (slice_cmp nat_cmp) q k

is_equal : (r : Ordering) → is_eq r ≡ true → r ≡ Equal
is_equal Less e = absurd (false≢true e)
is_equal Equal e = refl
is_equal Greater e = absurd (false≢true e)

same_when_tied : (q k : List ℕ) → ties q k ≡ true → q ≡ k
same_when_tied q k e = slice_cmp-IsAntisymmetric nat_cmp-IsAntisymmetric q k (is_equal _ e)

tied_to_itself : (q k : List ℕ) → q ≡ k → ties q k ≡ true
tied_to_itself q k e = subst (λ x. ties q x ≡ true) e ((eq_by_cmp_equiv nat_list_cmp_total).refl q)

not_tied : (q k : List ℕ) → q ≢ k → ties q k ≡ false
not_tied q k apart = elim (cases_Bool (ties q k)) [
  | inl same ↦ absurd (apart (same_when_tied q k same))
  | inr other ↦ other
]

pub cases_name : (q k : List ℕ) → (q ≡ k) ⊎ (q ≢ k)
cases_name q k = elim (cases_Bool (ties q k)) [
  | inl same ↦ inl (same_when_tied q k same)
  | inr other ↦ inr (λ e. false≢true (sym other ∙ tied_to_itself q k e))
]

pub get_inserted : (files : Files) (k q : List ℕ) (file : File) → q ≡ k → fin.get (fin.insert files k file) q ≡ Some file
get_inserted files k q file e = get-insert nat_list_cmp_total files k file q ∙ ap (λ b. cond b (Some file) (fin.get files q)) (tied_to_itself q k e)

pub get_beside_inserted : (files : Files) (k q : List ℕ) (file : File) → q ≢ k → fin.get (fin.insert files k file) q ≡ fin.get files q
get_beside_inserted files k q file apart = get-insert nat_list_cmp_total files k file q ∙ ap (λ b. cond b (Some file) (fin.get files q)) (not_tied q k apart)

pub get_removed : (files : Files) (k q : List ℕ) → q ≡ k → fin.get (fin.remove files k) q ≡ None
get_removed files k q e = get-remove nat_list_cmp_total files k q ∙ ap (λ b. cond b None (fin.get files q)) (tied_to_itself q k e)

pub get_beside_removed : (files : Files) (k q : List ℕ) → q ≢ k → fin.get (fin.remove files k) q ≡ fin.get files q
get_beside_removed files k q apart = get-remove nat_list_cmp_total files k q ∙ ap (λ b. cond b None (fin.get files q)) (not_tied q k apart)

-- what stands at a place has not this name
unfoldable pub IsBeside : List ℕ → Named → Type 0
IsBeside q x = (named : List ℕ × File) → x ≡ Some named → named.0 ≢ q

get_beside : (x : Named) (files : Files) (q : List ℕ) → IsBeside q x → fin.get (with_file x files) q ≡ fin.get files q
unfolding IsBeside
get_beside None files q beside = refl
get_beside (Some named) files q beside = get_beside_inserted files named.0 q named.1 (λ e. beside named refl (sym e))

module _ (at : ℕ → Named) where
  pub files_next : (p : ℕ) → files_below at (suc p) ≡ with_file (at p) (files_below at p)
  unfolding files_below
  files_next p = refl

  pub none_named : (q : List ℕ) (n : ℕ) → ((p : ℕ) → p < n → IsBeside q (at p)) → fin.get (files_below at n) q ≡ None
  unfolding files_below
  none_named q zero beside = get-empty (slice_cmp nat_cmp) q
  none_named q (suc n) beside = get_beside (at n) (files_below at n) q (beside n (omega arith)) ∙ none_named q n (λ p below. beside p (omega arith))

  pub one_named : (q : List ℕ) (file : File) (p n : ℕ) → p < n → at p ≡ Some (q, file) → ((other : ℕ) → other < n → other ≢ p → IsBeside q (at other))
      → fin.get (files_below at n) q ≡ Some file
  unfolding files_below
  one_named q file p zero below here beside = absurd (omega arith)
  one_named q file p (suc n) below here beside = elim (cases_eq p n) [
    | inl last ↦ ap (λ x. fin.get (with_file x (files_below at n)) q) (sym (ap at last) ∙ here) ∙ get_inserted (files_below at n) q q file refl
    | inr earlier ↦
        get_beside (at n) (files_below at n) q (beside n (omega arith) (λ e. earlier (sym e)))
        ∙ one_named q file p n (omega arith) here (λ other less apart. beside other (omega arith) apart)
  ]

-- a name that stands at neither of two tables' differing places has the same file in both
module _ (at at' : ℕ → Named) (q : List ℕ) where
  pub same_beside : (n : ℕ) → ((p : ℕ) → p < n → (at' p ≡ at p) ⊎ (IsBeside q (at p) × IsBeside q (at' p)))
      → fin.get (files_below at' n) q ≡ fin.get (files_below at n) q
  unfolding files_below
  same_beside zero same = refl
  same_beside (suc n) same =
      let before = same_beside n (λ p below. same p (omega arith)) in
      elim (same n (omega arith)) [
        | inl e ↦ ap (λ x. fin.get (with_file x (files_below at' n)) q) e ∙ alike (at n) (files_below at' n) (files_below at n) before
        | inr beside ↦ get_beside (at' n) (files_below at' n) q beside.1 ∙ before ∙ sym (get_beside (at n) (files_below at n) q beside.0)
      ]
    where
      alike : (x : Named) (files' files : Files) → fin.get files' q ≡ fin.get files q → fin.get (with_file x files') q ≡ fin.get (with_file x files) q
      alike None files' files e = e
      alike (Some named) files' files e =
          get-insert nat_list_cmp_total files' named.0 named.1 q ∙ ap (cond (ties q named.0) (Some named.1)) e
          ∙ sym (get-insert nat_list_cmp_total files named.0 named.1 q)

-- one place has another file of this name
module _ (at at' : ℕ → Named) (p n : ℕ) (below : p < n) (others : (k : ℕ) → k < n → k ≢ p → at' k ≡ at k) (q : List ℕ)
    (apart : (k : ℕ) → k < n → k ≢ p → IsBeside q (at k)) where
  beside_now : (k : ℕ) → k < n → k ≢ p → IsBeside q (at' k)
  beside_now k less other = subst (IsBeside q) (sym (others k less other)) (apart k less other)

  differ_here : (r : List ℕ) → r ≢ q → ((x : List ℕ × File) → at p ≡ Some x → x.0 ≡ q) → ((x : List ℕ × File) → at' p ≡ Some x → x.0 ≡ q)
      → (k : ℕ) → k < n → (at' k ≡ at k) ⊎ (IsBeside r (at k) × IsBeside r (at' k))
  unfolding IsBeside
  differ_here r other was is k less = elim (cases_eq k p) [
    | inl here ↦ inr (λ x e same. other (sym same ∙ was x (sym (ap at here) ∙ e)), λ x e same. other (sym same ∙ is x (sym (ap at' here) ∙ e)))
    | inr elsewhere ↦ inl (others k less elsewhere)
  ]

  pub files_with : (file : File) → ((x : List ℕ × File) → at p ≡ Some x → x.0 ≡ q) → at' p ≡ Some (q, file)
      → files_below at' n ≡ fin.insert (files_below at n) q file
  files_with file was is = same_map nat_list_cmp_total (slice_cmp-IsAntisymmetric nat_cmp-IsAntisymmetric) _ _ (λ r. elim (cases_name r q) [
    | inl same ↦ ap (fin.get (files_below at' n)) same ∙ one_named at' q file p n below is beside_now ∙ sym (get_inserted (files_below at n) q r file same)
    | inr other ↦ same_beside at at' r n (differ_here r other was (λ x e. ap name_of (sym e ∙ is)))
        ∙ sym (get_beside_inserted (files_below at n) q r file other)
  ])
    where
      name_of : Named → List ℕ
      name_of None = q
      name_of (Some x) = x.0

  pub files_without : ((x : List ℕ × File) → at p ≡ Some x → x.0 ≡ q) → at' p ≡ None → files_below at' n ≡ fin.remove (files_below at n) q
  unfolding IsBeside
  files_without was is = same_map nat_list_cmp_total (slice_cmp-IsAntisymmetric nat_cmp-IsAntisymmetric) _ _ (λ r. elim (cases_name r q) [
    | inl same ↦
        ap (fin.get (files_below at' n)) same
        ∙ none_named at' q n (λ k less. elim (cases_eq k p) [
          | inl here ↦ λ x e. absurd (none_is_some (sym is ∙ ap at' (sym here) ∙ e))
          | inr elsewhere ↦ beside_now k less elsewhere
        ])
        ∙ sym (get_removed (files_below at n) q r same)
    | inr other ↦ same_beside at at' r n (differ_here r other was (λ x e. absurd (none_is_some (sym is ∙ e))))
        ∙ sym (get_beside_removed (files_below at n) q r other)
  ])
    where
      none_is_some : {x : List ℕ × File} → ◌≡◌ {A = Named} None (Some x) → ⊥
      none_is_some e = cc
