-- The catalogue after a name was put into an empty entry, or an entry was cleared.
use Rattle.std.proofs.Common.{◌≡◌, ◌≢◌, ℕ, suc, zero, ◌+◌, ◌<◌, ◌==◌, ◌&&◌, Bool, false, not, cond, List, replicate, ap, sym, subst, ◌∙◌, inl, inr, arith}
use Rattle.std.specs.Prelude.{◌⊎◌}
use Rattle.std.proofs.lemmas.Bool.{cases_eq, eq-eqb, ne_eqb}
use Rattle.solo_base.specs.Ident.{IsIdent}
use Rattle.disk_layout.specs.declared.entry.Entry.{Entry}
use Rattle.disk_layout.specs.Disk.{Disk}
use Rattle.disk_layout.specs.Format.{IsEmptyEntry, IsFullEntry, EntryIsRight, has_key, count_below}
use Rattle.disk_layout.proofs.Entries.{count_same}

abbrev tick : Bool → ℕ
tick b = cond b 1 0

-- where two tests differ at one number, their counts differ by it
pub count_one_more : (f f' : ℕ → Bool) (p n : ℕ) → p < n → ((k : ℕ) → k < n → k ≢ p → f' k ≡ f k) → f p ≡ false
    → count_below f' n ≡ count_below f n + cond (f' p) 1 0
unfolding count_below
count_one_more f f' p zero below others none = absurd (omega arith)
count_one_more f f' p (suc n) below others none = elim (cases_eq p n) [
  | inl last ↦
      let here : tick (f' n) ≡ tick (f' p) = ap (λ k. tick (f' k)) (sym last) in
      let was : tick (f n) ≡ 0 = ap tick (ap f (sym last) ∙ none) in
      let rest = count_same f f' n (λ k less. others k (omega arith) (λ e. omega (arith, e, last, less))) in
      omega (arith, here, was, rest)
  | inr earlier ↦
      let rest = count_one_more f f' p n (omega arith) (λ k less apart. others k (omega arith) apart) none in
      let here : tick (f' n) ≡ tick (f n) = ap tick (others n (omega arith) (λ e. earlier (sym e))) in
      omega (arith, rest, here)
]

-- all entries but that at place p are as they were, but for their search lengths
pub record SameBeside (d d' : Disk) (p : ℕ) : Type 0 where
  pub inside : p < 240
  pub entries : (k : ℕ) → k < 240 → k ≢ p → d'.entry k ≡ record (d.entry k) { searches = (d'.entry k).searches }
  pub spares : (k : ℕ) → k < 240 → k ≢ p → d'.spare k ≡ d.spare k

empty_with : (e : Entry) (s : ℕ) (sp : List ℕ) → IsEmptyEntry e sp → IsEmptyEntry (record e { searches = s }) sp
empty_with e s sp x = record { name = x.name; kind = x.kind; address = x.address; protection = x.protection; key = x.key; spare = x.spare }

full_with : (e : Entry) (s : ℕ) (sp : List ℕ) → IsFullEntry e sp → IsFullEntry (record e { searches = s }) sp
full_with e s sp x =
    record { name = x.name; some_kind = x.some_kind; kind = x.kind; address = x.address; protection = x.protection; key = x.key; spare = x.spare }

full_without : (e : Entry) (s : ℕ) (sp : List ℕ) → IsFullEntry (record e { searches = s }) sp → IsFullEntry e sp
full_without e s sp x =
    record { name = x.name; some_kind = x.some_kind; kind = x.kind; address = x.address; protection = x.protection; key = x.key; spare = x.spare }

-- zeros are no name
zeros_are_no_name : IsIdent (replicate 12 0) → ⊥
zeros_are_no_name e = cc

module _ (d d' : Disk) (p : ℕ) (b : SameBeside d d' p) where
  whole_beside : (k : ℕ) → k < 240 → k ≢ p → IsEmptyEntry (d.entry k) (d.spare k) ⊎ IsFullEntry (d.entry k) (d.spare k)
      → IsEmptyEntry (d'.entry k) (d'.spare k) ⊎ IsFullEntry (d'.entry k) (d'.spare k)
  whole_beside k below apart (inl x) =
      inl (subst (λ s. IsEmptyEntry (d'.entry k) s) (sym (b.spares k below apart))
      (subst (λ e. IsEmptyEntry e (d.spare k)) (sym (b.entries k below apart)) (empty_with (d.entry k) _ (d.spare k) x)))
  whole_beside k below apart (inr x) =
      inr (subst (λ s. IsFullEntry (d'.entry k) s) (sym (b.spares k below apart))
      (subst (λ e. IsFullEntry e (d.spare k)) (sym (b.entries k below apart)) (full_with (d.entry k) _ (d.spare k) x)))

  full_beside : (k : ℕ) → k < 240 → k ≢ p → IsFullEntry (d'.entry k) (d'.spare k) → IsFullEntry (d.entry k) (d.spare k)
  full_beside k below apart x =
      full_without (d.entry k) (d'.entry k).searches (d.spare k) (subst (λ s. IsFullEntry (record (d.entry k) {
        searches =
            (d'.entry k).searches;
      }) s) (b.spares k below apart) (subst (λ e. IsFullEntry e (d'.spare k)) (b.entries k below apart) x))

  name_beside : (k : ℕ) → k < 240 → k ≢ p → (d'.entry k).name ≡ (d.entry k).name
  name_beside k below apart = ap (λ e. e.name) (b.entries k below apart)

  address_beside : (k : ℕ) → k < 240 → k ≢ p → (d'.entry k).address ≡ (d.entry k).address
  address_beside k below apart = ap (λ e. e.address) (b.entries k below apart)

  key_beside : (s k : ℕ) → k < 240 → k ≢ p → has_key d' s k ≡ has_key d s k
  key_beside s k below apart = ap (λ e. not (e.kind == 0) && e.key == s + 1) (b.entries k below apart)

-- a name comes to the empty place p
pub record EntryPut (d d' : Disk) (p : ℕ) : Type 0 where
  pub beside : SameBeside d d' p
  pub was_empty : (d.entry p).kind ≡ 0
  pub full : IsFullEntry (d'.entry p) (d'.spare p)
  pub searches : (s : ℕ) → s < 240 → (d'.entry s).searches ≡ (d.entry s).searches + cond ((d'.entry p).key == s + 1) 1 0
  pub new_name : (k : ℕ) → k < 240 → (d.entry k).kind ≢ 0 → (d.entry k).name ≢ (d'.entry p).name
  pub new_address : (k : ℕ) → k < 240 → (d.entry k).kind ≢ 0 → (d.entry k).address ≢ (d'.entry p).address

module _ (d d' : Disk) (p : ℕ) (a : EntryPut d d' p) (right : (k : ℕ) → k < 240 → EntryIsRight d k) where
  -- an entry beside it has another name and another address, empty ones too
  other_name : (k : ℕ) → k < 240 → k ≢ p → (d.entry k).name ≢ (d'.entry p).name
  other_name k below apart e = elim (right k below).whole [
    | inl x ↦ zeros_are_no_name (subst IsIdent (sym e ∙ x.name) a.full.name)
    | inr x ↦ a.new_name k below (λ h. omega (arith, h, x.some_kind)) e
  ]

  other_address : (k : ℕ) → k < 240 → k ≢ p → (d.entry k).address ≢ (d'.entry p).address
  other_address k below apart e = elim (right k below).whole [
    | inl x ↦ omega (arith, e, x.address, a.full.address.file_page)
    | inr x ↦ a.new_address k below (λ h. omega (arith, h, x.some_kind)) e
  ]

  counted : (s : ℕ) → count_below (has_key d' s) 240 ≡ count_below (has_key d s) 240 + cond ((d'.entry p).key == s + 1) 1 0
  counted s =
      let was : has_key d s p ≡ false = ap (λ x. not x && (d.entry p).key == s + 1) (eq-eqb (d.entry p).kind 0 a.was_empty) in
      let now : has_key d' s p
      ≡ ((d'.entry p).key == s + 1) = ap (λ x. not x && (d'.entry p).key == s + 1) (ne_eqb (d'.entry p).kind 0 (λ h. omega (arith, h, a.full.some_kind))) in
      count_one_more (has_key d s) (has_key d' s) p 240 a.beside.inside (key_beside d d' p a.beside s) was
      ∙ ap (λ x. count_below (has_key d s) 240 + cond x 1 0) now

  pub right_with : (k : ℕ) → k < 240 → EntryIsRight d' k
  right_with k below = record {
    whole = elim (cases_eq k p) [
      | inl here ↦ inr (subst (λ x. IsFullEntry (d'.entry x) (d'.spare x)) (sym here) a.full)
      | inr apart ↦ whole_beside d d' p a.beside k below apart (right k below).whole
    ];
    name = λ earlier less full e. elim (cases_eq k p) [
      | inl here ↦
          let apart : earlier ≢ p = λ h. omega (arith, less, here, h) in
          other_name earlier (omega (arith, less, below)) apart (sym (name_beside d d' p a.beside earlier (omega (arith, less, below)) apart) ∙ sym e
          ∙ ap (λ x. (d'.entry x).name) here)
      | inr other ↦ elim (cases_eq earlier p) [
        | inl there ↦ other_name k below other (sym (name_beside d d' p a.beside k below other) ∙ e ∙ ap (λ x. (d'.entry x).name) there)
        | inr apart ↦
            let early : earlier < 240 = omega (arith, less, below) in
            (right k below).name earlier less (full_beside d d' p a.beside earlier early apart full) (sym (name_beside d d' p a.beside k below other) ∙ e
            ∙ name_beside d d' p a.beside earlier early apart)
      ]
    ];
    address = λ earlier less full e. elim (cases_eq k p) [
      | inl here ↦
          let apart : earlier ≢ p = λ h. omega (arith, less, here, h) in
          other_address earlier (omega (arith, less, below)) apart (sym (address_beside d d' p a.beside earlier (omega (arith, less, below)) apart) ∙ sym e
          ∙ ap (λ x. (d'.entry x).address) here)
      | inr other ↦ elim (cases_eq earlier p) [
        | inl there ↦ other_address k below other (sym (address_beside d d' p a.beside k below other) ∙ e ∙ ap (λ x. (d'.entry x).address) there)
        | inr apart ↦
            let early : earlier < 240 = omega (arith, less, below) in
            (right k below).address earlier less (full_beside d d' p a.beside earlier early apart full) (sym (address_beside d d' p a.beside k below other) ∙ e
            ∙ address_beside d d' p a.beside earlier early apart)
      ]
    ];
    searches = a.searches k below ∙ ap (λ n. n + cond ((d'.entry p).key == k + 1) 1 0) (right k below).searches ∙ sym (counted k);
  }

-- the name at place p goes
pub record EntryCleared (d d' : Disk) (p : ℕ) : Type 0 where
  pub beside : SameBeside d d' p
  pub was_used : (d.entry p).kind ≢ 0
  pub empty : IsEmptyEntry (d'.entry p) (d'.spare p)
  pub searches : (s : ℕ) → s < 240 → (d.entry s).searches ≡ (d'.entry s).searches + cond ((d.entry p).key == s + 1) 1 0

module _ (d d' : Disk) (p : ℕ) (a : EntryCleared d d' p) (right : (k : ℕ) → k < 240 → EntryIsRight d k) where
  not_full : (k : ℕ) → IsFullEntry (d'.entry k) (d'.spare k) → k ≢ p
  not_full k full here = let kind : (d'.entry k).kind ≡ 0 = ap (λ x. (d'.entry x).kind) here ∙ a.empty.kind in omega (arith, kind, full.some_kind)

  counted_less : (s : ℕ) → count_below (has_key d s) 240 ≡ count_below (has_key d' s) 240 + cond ((d.entry p).key == s + 1) 1 0
  counted_less s =
      let now : has_key d' s p ≡ false = ap (λ x. not x && (d'.entry p).key == s + 1) (eq-eqb (d'.entry p).kind 0 a.empty.kind) in
      let was : has_key d s p ≡ ((d.entry p).key == s + 1) = ap (λ x. not x && (d.entry p).key == s + 1) (ne_eqb (d.entry p).kind 0 a.was_used) in
      count_one_more (has_key d' s) (has_key d s) p 240 a.beside.inside (λ k below apart. sym (key_beside d d' p a.beside s k below apart)) now
      ∙ ap (λ x. count_below (has_key d' s) 240 + cond x 1 0) was

  pub right_without : (k : ℕ) → k < 240 → EntryIsRight d' k
  right_without k below = elim (cases_eq k p) [
    | inl here ↦ record {
      whole = inl (subst (λ x. IsEmptyEntry (d'.entry x) (d'.spare x)) (sym here) a.empty);
      name = λ earlier less full e. zeros_are_no_name (subst IsIdent (sym e ∙ ap (λ x. (d'.entry x).name) here ∙ a.empty.name) full.name);
      address =
          λ earlier less full e. let none : (d'.entry k).address ≡ 0 = ap (λ x. (d'.entry x).address) here
          ∙ a.empty.address in omega (arith, e, none, full.address.file_page);
      searches = omega (arith, a.searches k below, (right k below).searches, counted_less k);
    }
    | inr other ↦ record {
      whole = whole_beside d d' p a.beside k below other (right k below).whole;
      name = λ earlier less full e.
          let early : earlier < 240 = omega (arith, less, below) in
          let apart = not_full earlier full in
          (right k below).name earlier less (full_beside d d' p a.beside earlier early apart full) (sym (name_beside d d' p a.beside k below other) ∙ e
          ∙ name_beside d d' p a.beside earlier early apart);
      address = λ earlier less full e.
          let early : earlier < 240 = omega (arith, less, below) in
          let apart = not_full earlier full in
          (right k below).address earlier less (full_beside d d' p a.beside earlier early apart full) (sym (address_beside d d' p a.beside k below other) ∙ e
          ∙ address_beside d d' p a.beside earlier early apart);
      searches = omega (arith, a.searches k below, (right k below).searches, counted_less k);
    }
  ]
