-- What the writes of entries one after the other make of the pages.
use Rattle.std.proofs.Common.{◌≡◌, ◌≢◌, ℕ, ◌+◌, ◌/◌, ◌<◌, ◌≤◌, cond, List, length, get_or, ap, sym, ◌∙◌, inl, inr, arith}
use Rattle.std.specs.Prelude.{◌⊎◌, slice_index_or}
use Rattle.std.proofs.lemmas.Bool.{cases_eq, ne_eqb}
use Rattle.disk_pages.specs.Pages.{Pages}
use Rattle.disk_layout.specs.declared.entry.Entry.{Entry}
use Rattle.disk_layout.specs.Disk.{entry_of, page_at, spare_of}
use Rattle.disk_layout.specs.Layout.{IsLaidOut, blank_entry}
use Rattle.disk_layout.specs.Appending.{SavesMap}
use Rattle.disk_layout.specs.Writing.{CatalogueWrites, ClearsName, EntryWritten, PutsName}
use Rattle.disk_layout.proofs.CreateWritten.{entry_same, spare_same, same_entry}
use Rattle.disk_layout.proofs.InPlace.{marked_stays}

-- entries may have changed, and nothing else
pub record OnlyEntries (pages after : List (List ℕ)) : Type 0 where
  pub as_many : length after ≡ length pages
  pub spares : (k : ℕ) → k < 240 → spare_of after k ≡ spare_of pages k
  pub first : page_at after 0 ≡ page_at pages 0
  pub behind : (n : ℕ) → 16 ≤ n → page_at after n ≡ page_at pages n

pub entry_only : (pages after : List (List ℕ)) (p : ℕ) (e : Entry) → p < 240 → EntryWritten pages after p e → OnlyEntries pages after
entry_only pages after p e below w = record {
  as_many = w.as_many;
  spares = w.spares;
  first = w.others 0 (λ x. omega (arith, x));
  behind = λ n high. w.others n (λ x. omega (arith, high, x, below));
}

pub only_then : (a b c : List (List ℕ)) → OnlyEntries a b → OnlyEntries b c → OnlyEntries a c
only_then a b c one two = record {
  as_many = two.as_many ∙ one.as_many;
  spares = λ k inside. two.spares k inside ∙ one.spares k inside;
  first = two.first ∙ one.first;
  behind = λ n high. two.behind n high ∙ one.behind n high;
}

-- the entries of the pages are those in memory, but at places that are still to be written
abbrev pub SavedBut : (ℕ → Type 0) → List (List ℕ) → List Entry → Type 0
SavedBut Unsaved pages kept = (k : ℕ) → k < 240 → (Unsaved k → ⊥) → entry_of pages k ≡ slice_index_or kept k blank_entry

pub one_saved : (Unsaved : ℕ → Type 0) (pages after : List (List ℕ)) (kept : List Entry) (p : ℕ)
    → SavedBut (λ k. (k ≡ p) ⊎ Unsaved k) pages kept → EntryWritten pages after p (slice_index_or kept p blank_entry) → SavedBut Unsaved after kept
one_saved Unsaved pages after kept p before w k inside saved = elim (cases_eq k p) [
  | inl here ↦ ap (entry_of after) here ∙ w.is ∙ ap (λ x. slice_index_or kept x blank_entry) (sym here)
  | inr apart ↦ w.entries k inside apart ∙ before k inside (not_here apart)
]
  where
    not_here : k ≢ p → (k ≡ p) ⊎ Unsaved k → ⊥
    not_here apart (inl here) = apart here
    not_here apart (inr other) = saved other

module _ (kept kept_now : List Entry) (p s : ℕ) (cleared : ClearsName kept kept_now p) (key : (slice_index_or kept p blank_entry).key ≡ s + 1) where
  -- an entry that a clearing leaves
  pub cleared_beside : (k : ℕ) → k < 240 → k ≢ p → k ≢ s → slice_index_or kept_now k blank_entry ≡ slice_index_or kept k blank_entry
  cleared_beside k inside apart other =
      let none = ap {B = ℕ} (λ b. cond b 1 0) (ne_eqb (slice_index_or kept p blank_entry).key (k + 1) (λ e. other (omega (arith, e, key)))) in
      same_entry (slice_index_or kept k blank_entry) (slice_index_or kept_now k blank_entry) (cleared.beside k inside apart)
      (omega (arith, cleared.searches k inside, none))

module _ (kept kept_now : List Entry) (p s : ℕ) (new : Entry) (put : PutsName kept kept_now p new) (key : new.key ≡ s + 1) where
  -- an entry that a name put elsewhere leaves
  pub put_beside : (k : ℕ) → k < 240 → k ≢ p → k ≢ s → slice_index_or kept_now k blank_entry ≡ slice_index_or kept k blank_entry
  put_beside k inside apart other =
      let none = ap {B = ℕ} (λ b. cond b 1 0) (ne_eqb new.key (k + 1) (λ e. other (omega (arith, e, key)))) in
      same_entry (slice_index_or kept k blank_entry) (slice_index_or kept_now k blank_entry) (put.beside k inside apart)
      (omega (arith, put.searches k inside, none))

module _ (kept : List Entry) (taken : Pages) (pages : List (List ℕ)) (laid : IsLaidOut kept taken pages) where
  -- a delete: the entry, that at the place of its key, and the bits
  pub delete_writes : (kept_now : List Entry) (taken_now : Pages) (two three after : List (List ℕ)) (p s : ℕ) → p < 240 → s < 240
      → ClearsName kept kept_now p → (slice_index_or kept p blank_entry).key ≡ s + 1
      → EntryWritten pages two p (slice_index_or kept_now p blank_entry) → EntryWritten two three s (slice_index_or kept_now s blank_entry)
      → SavesMap three after taken_now → CatalogueWrites pages after kept_now taken_now
  delete_writes kept_now taken_now two three after p s below s_below cleared key first last saved =
      let only = only_then pages two three (entry_only pages two p _ below first) (entry_only two three s _ s_below last) in
      let before : SavedBut (λ k. (k ≡ p) ⊎ ((k ≡ s) ⊎ ⊥)) pages kept_now = λ k inside unsaved.
      sym (laid.entries k inside) ∙ sym (cleared_beside kept kept_now p s cleared key k inside (λ e. unsaved (inl e)) (λ e. unsaved (inr (inl e)))) in
      let all = one_saved (λ k. ⊥) two three kept_now s (one_saved (λ k. (k ≡ s) ⊎ ⊥) pages two kept_now p before first) last in
      let catalogue : (k : ℕ) → k < 240 → page_at after (1 + k / 16) ≡ page_at three (1 + k / 16) =
      λ k inside. saved.others (1 + k / 16) (λ e. omega (arith, e, inside)) (λ e. omega (arith, e, inside)) in
      record {
        as_many = saved.as_many ∙ only.as_many;
        first = saved.others 0 (λ e. omega (arith, e)) (λ e. omega (arith, e)) ∙ only.first;
        entries = λ k inside. sym (entry_same three after k (catalogue k inside) ∙ all k inside (λ x. x));
        spares = λ k inside. spare_same three after k (catalogue k inside) ∙ only.spares k inside;
        others = λ n high. saved.others n (λ e. omega (arith, high, e)) (λ e. omega (arith, high, e)) ∙ only.behind n (omega (arith, high));
        marked = saved.marked;
        zeros = saved.zeros;
      }

  -- a rename: the cleared entry and that at the place of its key, and the same of the new name
  pub rename_writes : (kept_then kept_now : List Entry) (one two three after : List (List ℕ)) (p s to s_now : ℕ) (new : Entry)
      → p < 240 → s < 240 → to < 240 → s_now < 240 → ClearsName kept kept_then p → (slice_index_or kept p blank_entry).key ≡ s + 1
      → PutsName kept_then kept_now to new → new.key ≡ s_now + 1
      → EntryWritten pages one p (slice_index_or kept_now p blank_entry) → EntryWritten one two s (slice_index_or kept_now s blank_entry)
      → EntryWritten two three to (slice_index_or kept_now to blank_entry) → EntryWritten three after s_now (slice_index_or kept_now s_now blank_entry)
      → CatalogueWrites pages after kept_now taken
  rename_writes kept_then kept_now one two three after p s to s_now new below s_below to_below now_below cleared key put new_key w1 w2 w3 w4 =
      let only = only_then pages three after (only_then pages two three
      (only_then pages one two (entry_only pages one p _ below w1) (entry_only one two s _ s_below w2))
      (entry_only two three to _ to_below w3)) (entry_only three after s_now _ now_below w4) in
      let before : SavedBut (λ k. (k ≡ p) ⊎ ((k ≡ s) ⊎ ((k ≡ to) ⊎ ((k ≡ s_now) ⊎ ⊥)))) pages kept_now = λ k inside unsaved.
      sym (laid.entries k inside)
      ∙ sym (cleared_beside kept kept_then p s cleared key k inside (λ e. unsaved (inl e)) (λ e. unsaved (inr (inl e))))
      ∙ sym (put_beside kept_then kept_now to s_now new put new_key k inside (λ e. unsaved (inr (inr (inl e)))) (λ e. unsaved (inr (inr (inr (inl e)))))) in
      let all =
      one_saved (λ k. ⊥) three after kept_now s_now (one_saved (λ k. (k ≡ s_now) ⊎ ⊥) two three kept_now to
      (one_saved (λ k. (k ≡ to) ⊎ ((k ≡ s_now) ⊎ ⊥)) one two kept_now s
      (one_saved (λ k. (k ≡ s) ⊎ ((k ≡ to) ⊎ ((k ≡ s_now) ⊎ ⊥))) pages one kept_now p before w1) w2) w3) w4 in
      record {
        as_many = only.as_many;
        first = only.first;
        entries = λ k inside. sym (all k inside (λ x. x));
        spares = only.spares;
        others = λ n high. only.behind n (omega (arith, high));
        marked = λ n within. marked_stays pages after (only.behind 16 (omega arith)) (only.behind 17 (omega arith)) n ∙ laid.taken n within;
        zeros = λ k behind. ap (λ b. get_or b k 0) (only.behind 17 (omega arith)) ∙ laid.zeros k behind;
      }
