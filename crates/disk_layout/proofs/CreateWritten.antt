-- What the writes of a create make of the pages: the blank index page, the entry, the entry at the place of the key, the bits.
use Rattle.std.proofs.Common.{◌≡◌, ◌≢◌, ℕ, ◌+◌, ◌*◌, ◌/◌, ◌%◌, ◌<◌, ◌≤◌, cond, List, length, replicate, set, take, drop, ap, sym, ◌∙◌, inl, inr, arith, length-set}
use Rattle.std.specs.Prelude.{slice_index_or}
use Rattle.std.proofs.lemmas.Bool.{cases_eq, ne_eqb}
use Rattle.disk_pages.specs.Pages.{Pages}
use Rattle.disk_layout.specs.declared.entry.Entry.{Entry}
use Rattle.disk_layout.specs.Disk.{entry_in, entry_of, page_at, spare_of}
use Rattle.disk_layout.specs.Format.{IsAddress}
use Rattle.disk_layout.specs.Layout.{blank_entry}
use Rattle.disk_layout.specs.Appending.{SavesMap}
use Rattle.disk_layout.specs.Writing.{CreateWrites, EntryWritten, PutsName}
use Rattle.disk_layout.proofs.Written.{page_written, page_beside}

pub entry_same : (pages after : List (List ℕ)) (k : ℕ) → page_at after (1 + k / 16) ≡ page_at pages (1 + k / 16) → entry_of after k ≡ entry_of pages k
unfolding entry_of
entry_same pages after k same = ap (λ b. entry_in b (32 * (k % 16))) same

pub spare_same : (pages after : List (List ℕ)) (k : ℕ) → page_at after (1 + k / 16) ≡ page_at pages (1 + k / 16) → spare_of after k ≡ spare_of pages k
unfolding spare_of
spare_same pages after k same = ap (λ b. take 10 (drop (32 * (k % 16) + 18) b)) same

-- an entry whose search length stays is the entry that was
pub same_entry : (e now : Entry) → now ≡ record e { searches = now.searches } → now.searches ≡ e.searches → now ≡ e
same_entry e now is same = is ∙ ap (λ n. record e { searches = n }) same

module _ (kept kept_now : List Entry) (taken_now : Pages) (pages one two three after : List (List ℕ)) (p s : ℕ) (new : Entry)
    (size : length pages ≡ 4288) (below : p < 240) (s_below : s < 240) (key : new.key ≡ s + 1) (free : IsAddress new.address)
    (entries : (k : ℕ) → k < 240 → slice_index_or kept k blank_entry ≡ entry_of pages k) (put : PutsName kept kept_now p new)
    (index : one ≡ set pages new.address (replicate 512 0)) (first : EntryWritten one two p (slice_index_or kept_now p blank_entry))
    (last : EntryWritten two three s (slice_index_or kept_now s blank_entry)) (saved : SavesMap three after taken_now) where
  one_beside : (n : ℕ) → n ≢ new.address → page_at one n ≡ page_at pages n
  one_beside n apart = ap (λ x. page_at x n) index ∙ page_beside pages new.address n (replicate 512 0) apart

  -- a page past the catalogue
  behind : (n : ℕ) → 18 ≤ n → page_at after n ≡ page_at one n
  behind n high =
      saved.others n (λ e. omega (arith, high, e)) (λ e. omega (arith, high, e)) ∙ last.others n (λ e. omega (arith, high, e, s_below))
      ∙ first.others n (λ e. omega (arith, high, e, below))

  catalogue : (k : ℕ) → k < 240 → page_at after (1 + k / 16) ≡ page_at three (1 + k / 16)
  catalogue k inside = saved.others (1 + k / 16) (λ e. omega (arith, e, inside)) (λ e. omega (arith, e, inside))

  before : (k : ℕ) → k < 240 → page_at one (1 + k / 16) ≡ page_at pages (1 + k / 16)
  before k inside = one_beside (1 + k / 16) (λ e. let high = free.file_page in omega (arith, e, inside, high))

  unchanged : (k : ℕ) → k < 240 → k ≢ p → k ≢ s → slice_index_or kept_now k blank_entry ≡ entry_of pages k
  unchanged k inside apart other =
      let none = ap {B = ℕ} (λ b. cond b 1 0) (ne_eqb new.key (k + 1) (λ e. other (omega (arith, e, key)))) in
      same_entry (slice_index_or kept k blank_entry) (slice_index_or kept_now k blank_entry) (put.beside k inside apart)
      (omega (arith, put.searches k inside, none)) ∙ entries k inside

  pub create_writes : CreateWrites pages after kept_now taken_now new.address
  create_writes = record {
    as_many = saved.as_many ∙ last.as_many ∙ first.as_many ∙ ap length index ∙ length-set pages new.address (replicate 512 0);
    first = saved.others 0 (λ e. omega (arith, e)) (λ e. omega (arith, e)) ∙ last.others 0 (λ e. omega (arith, e)) ∙ first.others 0 (λ e. omega (arith, e))
        ∙ one_beside 0 (λ e. let high = free.file_page in omega (arith, e, high));
    entries = λ k inside. sym (entry_same three after k (catalogue k inside) ∙ elim (cases_eq k s) [
      | inl here ↦ ap (entry_of three) here ∙ last.is ∙ ap (λ x. slice_index_or kept_now x blank_entry) (sym here)
      | inr apart ↦ last.entries k inside apart ∙ elim (cases_eq k p) [
        | inl own ↦ ap (entry_of two) own ∙ first.is ∙ ap (λ x. slice_index_or kept_now x blank_entry) (sym own)
        | inr other ↦ first.entries k inside other ∙ entry_same pages one k (before k inside) ∙ sym (unchanged k inside other apart)
      ]
    ]);
    spares =
        λ k inside. spare_same three after k (catalogue k inside) ∙ last.spares k inside ∙ first.spares k inside ∙ spare_same pages one k (before k inside);
    blank = behind new.address free.file_page ∙ ap (λ x. page_at x new.address) index
        ∙ page_written pages new.address (replicate 512 0) (let within = free.within in omega (arith, size, within));
    others = λ n high apart. behind n high ∙ one_beside n apart;
    marked = saved.marked;
    zeros = saved.zeros;
  }
