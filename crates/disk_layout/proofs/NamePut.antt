-- The entries in memory after a name was put or cleared.
use Rattle.std.proofs.Common.{◌≡◌, ◌≢◌, ℕ, ◌+◌, ◌-◌, ◌<◌, ◌≤◌, cond, min, List, length, get_or, set, ap, sym, subst, ◌∙◌, inl, inr, arith, length-set, get_or-set_same, get_or-set_other}
use Rattle.std.proofs.lemmas.Bool.{cases_eq, eq-eqb, ne_eqb}
use Rattle.disk_layout.specs.declared.entry.Entry.{Entry}
use Rattle.disk_layout.specs.Layout.{blank_entry}
use Rattle.disk_layout.specs.Judging.{IsKeptEntry}
use Rattle.disk_layout.specs.Writing.{ClearsName, PutsEntry, PutsName, unnamed}

abbrev at : List Entry → ℕ → Entry
at entries k = get_or entries k blank_entry

abbrev with_searches : ℕ → Entry → Entry
with_searches n e = record e { searches = n }

-- the entries after one was put at a place under its search length
abbrev pub entry_set : List Entry → ℕ → Entry → List Entry
entry_set kept p new = set kept p (with_searches (at kept p).searches new)

-- and the search length at a place after it was set
abbrev pub searches_set : List Entry → ℕ → ℕ → List Entry
searches_set kept s m = set kept s (with_searches m (at kept s))

module _ (kept : List Entry) (p s m : ℕ) (new : Entry) (size : length kept ≡ 240) (below : p < 240) (s_below : s < 240) where
  abbrev one : List Entry
  one = entry_set kept p new

  abbrev two : List Entry
  two = searches_set one s m

  one_here : at one p ≡ with_searches (at kept p).searches new
  one_here = get_or-set_same kept p _ blank_entry (omega (arith, size, below))

  one_beside : (k : ℕ) → k ≢ p → at one k ≡ at kept k
  one_beside k apart = get_or-set_other kept p k _ blank_entry apart

  two_here : at two s ≡ with_searches m (at one s)
  two_here = get_or-set_same one s _ blank_entry (let same = length-set kept p (with_searches (at kept p).searches new) in omega (arith, size, same, s_below))

  two_beside : (k : ℕ) → k ≢ s → at two k ≡ at one k
  two_beside k apart = get_or-set_other one s k _ blank_entry apart

  pub searches_one : (k : ℕ) → (at one k).searches ≡ (at kept k).searches
  searches_one k = elim (cases_eq k p) [
    | inl own ↦ ap (λ x. (at one x).searches) own ∙ ap (λ e. e.searches) one_here ∙ ap (λ x. (at kept x).searches) (sym own)
    | inr apart ↦ ap (λ e. e.searches) (one_beside k apart)
  ]

  -- what an entry is but for its search length
  alike : (k : ℕ) → at two k ≡ with_searches (at two k).searches (at one k)
  alike k = elim (cases_eq k s) [
    | inl own ↦
        let is = ap (at two) own ∙ two_here in
        is ∙ ap (λ n. with_searches n (at one s)) (sym (ap (λ e. e.searches) is)) ∙ ap (λ x. with_searches (at two k).searches (at one x)) (sym own)
    | inr apart ↦ let is = two_beside k apart in is ∙ ap (λ n. with_searches n (at one k)) (sym (ap (λ e. e.searches) is))
  ]

  pub places_set : length two ≡ length kept
  places_set = length-set one s _ ∙ length-set kept p _

  pub here_set : at two p ≡ with_searches (at two p).searches new
  here_set = alike p ∙ ap (with_searches (at two p).searches) one_here

  pub beside_set : (k : ℕ) → k ≢ p → at two k ≡ with_searches (at two k).searches (at kept k)
  beside_set k apart = alike k ∙ ap (with_searches (at two k).searches) (one_beside k apart)

  pub searches_here : (k : ℕ) → k ≡ s → (at two k).searches ≡ m
  searches_here k own = ap (λ x. (at two x).searches) own ∙ ap (λ e. e.searches) two_here

  pub searches_stay : (k : ℕ) → k ≢ s → (at two k).searches ≡ (at kept k).searches
  searches_stay k apart = ap (λ e. e.searches) (two_beside k apart) ∙ searches_one k

module _ (kept : List Entry) (p s : ℕ) (new : Entry) (size : length kept ≡ 240) (below : p < 240) (key : new.key ≡ s + 1) (s_below : s < 240)
    (room : (k : ℕ) → k < 240 → (at kept k).searches < 65535) where
  abbrev raised : ℕ
  raised = min ((at (entry_set kept p new) s).searches + 1) 65535

  pub puts_name : PutsName kept (searches_set (entry_set kept p new) s raised) p new
  puts_name = record {
    places = places_set kept p s raised new size below s_below;
    here = here_set kept p s raised new size below s_below;
    beside = λ k inside apart. beside_set kept p s raised new size below s_below k apart;
    searches = λ k inside. elim (cases_eq k s) [
      | inl own ↦
          let now = searches_here kept p s raised new size below s_below k own in
          let was = searches_one kept p s raised new size below s_below s in let small = room s s_below in let here = ap (λ x. (at kept x).searches) own in
          let one_more = ap {B = ℕ} (λ b. cond b 1 0) (eq-eqb new.key (k + 1) (omega (arith, key, own))) in
          omega (arith, now, was, small, here, one_more)
      | inr apart ↦
          let stays = searches_stay kept p s raised new size below s_below k apart in
          let none = ap {B = ℕ} (λ b. cond b 1 0) (ne_eqb new.key (k + 1) (λ e. apart (omega (arith, key, e)))) in
          omega (arith, stays, none)
    ];
  }

module _ (kept : List Entry) (p s : ℕ) (size : length kept ≡ 240) (below : p < 240) (key : (at kept p).key ≡ s + 1) (s_below : s < 240)
    (some : 1 ≤ (at kept s).searches) where
  abbrev lowered : ℕ
  lowered = (at (entry_set kept p (unnamed 0)) s).searches - 1

  pub clears_name : ClearsName kept (searches_set (entry_set kept p (unnamed 0)) s lowered) p
  clears_name = record {
    places = places_set kept p s lowered (unnamed 0) size below s_below;
    here = here_set kept p s lowered (unnamed 0) size below s_below;
    beside = λ k inside apart. beside_set kept p s lowered (unnamed 0) size below s_below k apart;
    searches = λ k inside. elim (cases_eq k s) [
      | inl own ↦
          let now = searches_here kept p s lowered (unnamed 0) size below s_below k own in
          let was = searches_one kept p s lowered (unnamed 0) size below s_below s in let here = ap (λ x. (at kept x).searches) own in
          let one_less = ap {B = ℕ} (λ b. cond b 1 0) (eq-eqb (at kept p).key (k + 1) (omega (arith, key, own))) in
          omega (arith, now, was, some, here, one_less)
      | inr apart ↦
          let stays = searches_stay kept p s lowered (unnamed 0) size below s_below k apart in
          let none = ap {B = ℕ} (λ b. cond b 1 0) (ne_eqb (at kept p).key (k + 1) (λ e. apart (omega (arith, key, e)))) in
          omega (arith, stays, none)
    ];
  }

-- the entries after one was set and the search length at a place was made one less
abbrev pub entry_lowered : List Entry → ℕ → ℕ → Entry → List Entry
entry_lowered kept p s e = searches_set (set kept p e) s ((at (set kept p e) s).searches - 1)

-- an entry may be kept whatever its search length
kept_with : (e : Entry) (n : ℕ) → IsKeptEntry e → IsKeptEntry (with_searches n e)
kept_with e n (inl empty) = inl empty
kept_with e n (inr x) =
    inr (record { name = x.name; some_kind = x.some_kind; kind = x.kind; address = x.address; protection = x.protection; key = x.key; spare = x.spare })

abbrev put_first : List Entry → ℕ → ℕ → Entry → List Entry
put_first kept p n new = set kept p (with_searches n new)

pub kept_put : (kept now : List Entry) (p s n m : ℕ) (new : Entry) → length kept ≡ 240 → p < 240 → s < 240
    → now ≡ set (put_first kept p n new) s (with_searches m (at (put_first kept p n new) s))
    → ((k : ℕ) → k < 240 → IsKeptEntry (at kept k)) → IsKeptEntry new → (k : ℕ) → k < 240 → IsKeptEntry (at now k)
kept_put kept now p s n m new size below s_below is all one k inside = subst (λ x. IsKeptEntry (at x k)) (sym is) (elim (cases_eq k s) [
  | inl here ↦ subst IsKeptEntry (sym (ap (at (set (put_first kept p n new) s _)) here ∙ get_or-set_same (put_first kept p n new) s _ blank_entry (let same =
      length-set kept p (with_searches n new) in omega (arith, size, same, s_below))))
      (kept_with (at (put_first kept p n new) s) m (first_kept s s_below))
  | inr apart ↦ subst IsKeptEntry (sym (get_or-set_other (put_first kept p n new) s k _ blank_entry apart)) (first_kept k inside)
])
  where
    first_kept : (k : ℕ) → k < 240 → IsKeptEntry (at (put_first kept p n new) k)
    first_kept k inside = elim (cases_eq k p) [
      | inl here ↦ subst IsKeptEntry (sym (ap (at (put_first kept p n new)) here
          ∙ get_or-set_same kept p _ blank_entry (omega (arith, size, below)))) (kept_with new n one)
      | inr apart ↦ subst IsKeptEntry (sym (get_or-set_other kept p k _ blank_entry apart)) (all k inside)
    ]

pub named_put : (kept now : List Entry) (p s n m : ℕ) (new : Entry) → length kept ≡ 240 → p < 240 → s < 240
    → now ≡ set (put_first kept p n new) s (with_searches m (at (put_first kept p n new) s)) → (at now p).name ≡ new.name
named_put kept now p s n m new size below s_below is = ap (λ x. (at x p).name) is ∙ elim (cases_eq p s) [
  | inl here ↦
      let same = length-set kept p (with_searches n new) in
      ap (λ k. (at (set (put_first kept p n new) s (with_searches m (at (put_first kept p n new) s))) k).name) here
      ∙ ap (λ e. e.name) (get_or-set_same (put_first kept p n new) s _ blank_entry (omega (arith, size, same, s_below)))
      ∙ ap (λ k. (at (put_first kept p n new) k).name) (sym here)
      ∙ ap (λ e. e.name) (get_or-set_same kept p _ blank_entry (omega (arith, size, below)))
  | inr apart ↦ ap (λ e. e.name) (get_or-set_other (put_first kept p n new) s p _ blank_entry apart
      ∙ get_or-set_same kept p _ blank_entry (omega (arith, size, below)))
]

pub stands_put : (kept now : List Entry) (p s m : ℕ) (new : Entry) → length kept ≡ 240 → p < 240 → s < 240
    → now ≡ searches_set (entry_set kept p new) s m → PutsEntry kept now p new
stands_put kept now p s m new size below s_below is = subst (λ x. PutsEntry kept x p new) (sym is) (record {
  here = here_set kept p s m new size below s_below;
  beside = λ k apart. beside_set kept p s m new size below s_below k apart;
})
