-- The next name among those of the first entries, with one entry more.
use Rattle.std.proofs.Common.{◌≡◌, ℕ, suc, zero, ◌+◌, ◌<◌, ◌≢◌, true, false, Option, Some, None, List, refl, ap, sym, subst, ◌∙◌, inl, inr, arith}
use Rattle.std.specs.Prelude.{◌⊎◌, slice_index_or}
use Rattle.std.specs.Ordering.{nat_cmp, is_lt}
use Rattle.std.specs.declared.cmp.Ordering.{Ordering}
use Rattle.std.specs.declared.cmp.Ordering.TheVariants.{Less, Equal, Greater}
use Rattle.std.specs.Cmp.Lexicographic.{slice_cmp, nat_list_cmp_total}
use Rattle.std.proofs.lemmas.Cmp.{tied_itself}
use Rattle.std.proofs.lemmas.Bool.{cases_eq, cases_Bool, true≢false}
use Rattle.disk_layout.specs.declared.entry.Entry.{Entry}
use Rattle.std.specs.FinMap as fin
use Rattle.disk_pages.specs.Pages.{Pages}
use Rattle.disk_layout.specs.Files.{File, files, file_at}
use Rattle.disk_layout.specs.Layout.{IsLaidOut, blank_entry}
use Rattle.disk_layout.proofs.Lookups.{found_file, no_file}
use Rattle.disk_layout.proofs.Maps.{cases_name}
use Rattle.disk_layout.specs.Names.{IsNameAfter, IsNextBelow, IsUsed, comes_before, is_past, name_at}

less_is : (r : Ordering) → is_lt r ≡ true → r ≡ Less
less_is Less e = refl
less_is Equal e = absurd (true≢false (sym e))
less_is Greater e = absurd (true≢false (sym e))

pub before_then : (a b c : List ℕ) → comes_before a b ≡ true → comes_before b c ≡ true → comes_before a c ≡ true
before_then a b c one two =
    ap is_lt (nat_list_cmp_total.trans a b c (less_is (slice_cmp nat_cmp a b) one) (less_is (slice_cmp nat_cmp b c) two))

pub not_before_itself : (a : List ℕ) → comes_before a a ≡ false
not_before_itself a = ap is_lt (tied_itself nat_list_cmp_total a)

module _ (entries : List Entry) (after : Option (List ℕ)) (n : ℕ) where
  -- an entry that isn't behind, or has no name
  pub passed_by : (next : Option ℕ) → ((IsUsed entries n → ⊥) ⊎ (is_past after (name_at entries n) ≡ false)) → IsNextBelow entries after n next
      → IsNextBelow entries after (n + 1) next
  passed_by None not before = λ k below used. elim (cases_eq k n) [
    | inl here ↦ elim not [
      | inl unused ↦ absurd (unused (subst (IsUsed entries) here used))
      | inr early ↦ ap (λ x. is_past after (name_at entries x)) here ∙ early
    ]
    | inr apart ↦ before k (omega (arith, below, apart)) used
  ]
  passed_by (Some p) not before = (
    omega (arith, before.0),
    before.1,
    before.2,
    λ k below used past. elim (cases_eq k n) [
      | inl here ↦ elim not [
        | inl unused ↦ absurd (unused (subst (IsUsed entries) here used))
        | inr early ↦ absurd (true≢false (sym past ∙ ap (λ x. is_past after (name_at entries x)) here ∙ early))
      ]
      | inr apart ↦ before.3 k (omega (arith, below, apart)) used past
    ],
  )

  pub first_found : IsUsed entries n → is_past after (name_at entries n) ≡ true → IsNextBelow entries after n None → IsNextBelow entries after (n + 1) (Some n)
  first_found used past before = (
    omega arith,
    used,
    past,
    λ k below its behind. elim (cases_eq k n) [
      | inl here ↦ ap (λ x. comes_before (name_at entries x) (name_at entries n)) here ∙ not_before_itself (name_at entries n)
      | inr apart ↦ absurd (true≢false (sym behind ∙ before k (omega (arith, below, apart)) its))
    ],
  )

  pub nearer_found : (p : ℕ) → IsUsed entries n → is_past after (name_at entries n) ≡ true → comes_before (name_at entries n) (name_at entries p) ≡ true
      → IsNextBelow entries after n (Some p) → IsNextBelow entries after (n + 1) (Some n)
  nearer_found p used past less before = (
    omega arith,
    used,
    past,
    λ k below its behind. elim (cases_eq k n) [
      | inl here ↦ ap (λ x. comes_before (name_at entries x) (name_at entries n)) here ∙ not_before_itself (name_at entries n)
      | inr apart ↦ elim (cases_Bool (comes_before (name_at entries k) (name_at entries n))) [
        | inl lesser ↦ absurd (true≢false (sym (before_then (name_at entries k) (name_at entries n) (name_at entries p) lesser less)
            ∙ before.3 k (omega (arith, below, apart)) its behind))
        | inr stays ↦ stays
      ]
    ],
  )

  pub not_nearer : (p : ℕ) → comes_before (name_at entries n) (name_at entries p) ≡ false → IsNextBelow entries after n (Some p)
      → IsNextBelow entries after (n + 1) (Some p)
  not_nearer p not before = (
    omega (arith, before.0),
    before.1,
    before.2,
    λ k below its behind. elim (cases_eq k n) [
      | inl here ↦ ap (λ x. comes_before (name_at entries x) (name_at entries p)) here ∙ not
      | inr apart ↦ before.3 k (omega (arith, below, apart)) its behind
    ],
  )

-- a name stands at a place below, or at none
named_or_none : (entries : List Entry) (q : List ℕ) (n : ℕ)
    → ((k : ℕ) × (k < n) × IsUsed entries k × (name_at entries k ≡ q)) ⊎ ((k : ℕ) → k < n → IsUsed entries k → name_at entries k ≢ q)
named_or_none entries q zero = inr (λ k below. absurd (omega (arith, below)))
named_or_none entries q (suc n) = elim (named_or_none entries q n) [
  | inl w ↦ inl (w.0, omega (arith, w.1), w.2, w.3)
  | inr none ↦ elim (cases_eq (slice_index_or entries n blank_entry).kind 0) [
    | inl empty ↦ inr (λ k below used. elim (cases_eq k n) [
      | inl here ↦ absurd (used (ap (λ x. (slice_index_or entries x blank_entry).kind) here ∙ empty))
      | inr apart ↦ none k (omega (arith, below, apart)) used
    ])
    | inr used ↦ elim (cases_name (name_at entries n) q) [
      | inl same ↦ inl (n, omega arith, used, same)
      | inr other ↦ inr (λ k below its. elim (cases_eq k n) [
        | inl here ↦ λ e. other (sym (ap (name_at entries) here) ∙ e)
        | inr apart ↦ none k (omega (arith, below, apart)) its
      ])
    ]
  ]
]

module _ (kept : List Entry) (taken : Pages) (pages : List (List ℕ)) (laid : IsLaidOut kept taken pages) (after : Option (List ℕ)) where
  -- the name of a file stands in the catalogue
  named_at_some : (q : List ℕ) (file : File) → fin.get (files pages) q ≡ Some file → (k : ℕ) × (k < 240) × IsUsed kept k × (name_at kept k ≡ q)
  named_at_some q file is = elim (named_or_none kept q 240) [
    | inl w ↦ w
    | inr none ↦ absurd (none_is_some (sym (no_file kept taken pages laid q
        (λ p below used. none p (let places = laid.places in omega (arith, below, places)) used)) ∙ is))
  ]
    where
      none_is_some : ◌≡◌ {A = Option File} None (Some file) → ⊥
      none_is_some e = cc

  pub none_after : IsNextBelow kept after 240 None → IsNameAfter (files pages) after None
  none_after none = λ name file is. let w = named_at_some name file is in sym (ap (is_past after) w.3) ∙ none w.0 w.1 w.2

  pub name_after : (p : ℕ) (name : List ℕ) → name_at kept p ≡ name → IsNextBelow kept after 240 (Some p) → IsNameAfter (files pages) after (Some name)
  name_after p name is next = (
    (file_at pages (slice_index_or kept p blank_entry), found_file kept taken pages laid p name next.0 next.1 is),
    sym (ap (is_past after) is) ∙ next.2,
    λ other file its past.
        let w = named_at_some other file its in
        sym (ap (λ x. comes_before x name) w.3) ∙ sym (ap (comes_before (name_at kept w.0)) is) ∙ next.3 w.0 w.1 w.2 (ap (is_past after) w.3 ∙ past),
  )
