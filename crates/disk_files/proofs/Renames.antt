-- What the writes of a delete and of a rename leave.
use Rattle.std.proofs.Common.{◌≡◌, ◌≢◌, ℕ, suc, zero, ◌+◌, ◌-◌, ◌*◌, ◌%◌, ◌<◌, ◌≤◌, ◌==◌, ◌&&◌, not, Bool, true, false, cond, Option, Some, List, [], ◌∷◌, refl, ap, sym, subst, ◌∙◌, inl, inr, arith}
use Rattle.std.specs.Prelude.{slice_index_or}
use Rattle.std.specs.FinSet as set
use Rattle.std.specs.FinMap as fin
use Rattle.std.proofs.lemmas.Bool.{cases_eq, eq-eqb, ne_eqb}
use Rattle.solo_base.specs.Ident.{IsIdent}
use Rattle.disk_pages.specs.Pages.{Pages}
use Rattle.disk_layout.specs.declared.entry.Entry.{Entry}
use Rattle.disk_layout.specs.Disk.{disk_of, entry_of, number_of}
use Rattle.disk_layout.specs.Format.{count_below, has_key, key_from, key_of}
use Rattle.disk_layout.specs.Files.{files, file_at}
use Rattle.disk_layout.specs.Layout.{IsLaidOut, blank_entry}
use Rattle.disk_layout.specs.Judging.{IsKeptEntry}
use Rattle.disk_layout.specs.Deleting.{without_file, pages_held}
use Rattle.disk_layout.specs.Appending.{SavesMap}
use Rattle.disk_layout.specs.Writing.{ClearsName, EntryWritten, IsFirstEmpty, IsRenamed, PutsName}
use Rattle.disk_layout.proofs.CatalogueWritten.{delete_writes, rename_writes}
use Rattle.disk_layout.proofs.DeletedPages.{laid_deleted, files_deleted, without_counted}
use Rattle.disk_layout.proofs.RenamedPages.{laid_renamed, files_renamed}
use Rattle.disk_layout.proofs.Lookups.{kept_has}
use Rattle.disk_files.specs.Answers.{LaidNow}
use Rattle.disk_files.proofs.Creates.{searches_few}

abbrev at : List Entry → ℕ → Entry
at kept k = slice_index_or kept k blank_entry

-- ---- Keys and search lengths

next_key : (key code : ℕ) → 1 ≤ key → key ≤ 240 → (1 ≤ cond (code == 32) key ((key * code) % 240 + 1)) × (cond (code == 32) key ((key * code) % 240 + 1) ≤ 240)
next_key key code some last = by_test (code == 32)
  where
    by_test : (b : Bool) → (1 ≤ cond b key ((key * code) % 240 + 1)) × (cond b key ((key * code) % 240 + 1) ≤ 240)
    by_test true = (some, last)
    by_test false = let n : ℕ = key * code in (within n)
      where
        within : (n : ℕ) → (1 ≤ n % 240 + 1) × (n % 240 + 1 ≤ 240)
        within n = (omega arith, omega arith)

key_within : (name : List ℕ) (key : ℕ) → 1 ≤ key → key ≤ 240 → (1 ≤ key_from key name) × (key_from key name ≤ 240)
unfolding key_from
key_within [] key some last = (some, last)
key_within (code ∷ rest) key some last = let next = next_key key code some last in key_within rest _ next.0 next.1

pub key_some : (e : Entry) → IsKeptEntry e → e.kind ≢ 0 → 1 ≤ e.key
key_some e (inl empty) used = absurd (used empty)
key_some e (inr full) used = subst (λ n. 1 ≤ n) (sym full.key) (key_within e.name 1 (omega arith) (omega arith)).0

pub key_last : (e : Entry) → IsKeptEntry e → e.kind ≢ 0 → e.key ≤ 240
key_last e (inl empty) used = absurd (used empty)
key_last e (inr full) used = subst (λ n. n ≤ 240) (sym full.key) (key_within e.name 1 (omega arith) (omega arith)).1

one_counted : (f : ℕ → Bool) (n p : ℕ) → p < n → f p ≡ true → 1 ≤ count_below f n
unfolding count_below
one_counted f zero p below passes = absurd (omega (arith, below))
one_counted f (suc n) p below passes = elim (cases_eq p n) [
  | inl here ↦ let one = ap {B = ℕ} (λ b. cond b 1 0) (sym (ap f here) ∙ passes) in omega (arith, one)
  | inr apart ↦ omega (arith, one_counted f n p (omega (arith, below, apart)) passes)
]

-- the entry of a file that is renamed may be kept
pub renamed_kept : (e : Entry) (name : List ℕ) (key : ℕ) → IsKeptEntry e → e.kind ≢ 0 → IsIdent name → key ≡ key_of name
    → IsKeptEntry (record e { name = name; key = key })
renamed_kept e name key (inl empty) used ident is = absurd (used empty)
renamed_kept e name key (inr full) used ident is = inr (record {
  name = ident;
  some_kind = full.some_kind;
  kind = full.kind;
  address = full.address;
  protection = full.protection;
  key = is;
  spare = refl;
})

module _ (kept : List Entry) (taken : Pages) (pages : List (List ℕ)) (laid : IsLaidOut kept taken pages) (p : ℕ) (below : p < 240)
    (used : (at kept p).kind ≢ 0) (kept_entry : IsKeptEntry (at kept p)) where
  abbrev s : ℕ
  s = (at kept p).key - 1

  key_is : (at kept p).key ≡ s + 1
  key_is = let some = key_some (at kept p) kept_entry used in omega (arith, some)

  s_below : s < 240
  s_below = let last = key_last (at kept p) kept_entry used in let some = key_some (at kept p) kept_entry used in omega (arith, last, some)

  -- a name is counted where its key begins
  pub searched : 1 ≤ (at kept s).searches
  searched =
      let is = laid.entries p below in
      let passes : has_key (disk_of pages) s p ≡ true =
      ap (λ e. not (e.kind == 0) && e.key == s + 1) (sym is) ∙ ap (λ b. not b && (at kept p).key == s + 1) (ne_eqb (at kept p).kind 0 used)
      ∙ eq-eqb (at kept p).key (s + 1) key_is in
      let counted = one_counted (has_key (disk_of pages) s) 240 p below passes in
      let searches = ap (λ e. e.searches) (laid.entries s s_below) ∙ (laid.right s s_below).searches in
      omega (arith, counted, searches)

  pub deleted_now : (kept_now : List Entry) (taken_now : Pages) (now : Option (List (List ℕ))) (two three after : List (List ℕ)) → now ≡ Some after
      → taken_now ≡ without_file taken (disk_of pages) (at kept p).address → ClearsName kept kept_now p
      → EntryWritten pages two p (at kept_now p) → EntryWritten two three s (at kept_now s) → SavesMap three after taken_now
      → LaidNow now kept_now taken_now (fin.remove (files pages) (at kept p).name)
      × (set.len taken_now + pages_held (number_of pages (at kept p).address 0) ≡ set.len taken)
  deleted_now kept_now taken_now now two three after told freed cleared first second saved =
      let has = kept_has kept taken pages laid p below used in
      let is = laid.entries p below in
      let writes = delete_writes kept taken pages laid kept_now taken_now two three after p s below s_below cleared key_is first second saved in
      let taken_is = freed ∙ ap (λ e. without_file taken (disk_of pages) e.address) is in (
        record {
          pages = after;
          told = told;
          laid = laid_deleted kept taken pages laid p has kept_now taken_now after taken_is cleared writes;
          files = files_deleted kept taken pages laid p has kept_now taken_now after taken_is cleared writes
              ∙ ap (λ e. fin.remove (files pages) e.name) (sym is);
        },
        ap (λ t. set.len t + pages_held (number_of pages (at kept p).address 0)) taken_is
            ∙ ap (λ e. set.len (without_file taken (disk_of pages) (entry_of pages p).address) + pages_held (number_of pages e.address 0)) is
            ∙ without_counted kept taken pages laid p has,
      )

  module _ (kept_then kept_now : List Entry) (to key : ℕ) (name : List ℕ) (to_below : to < 240) (key_named : key ≡ key_of name) (some : 1 ≤ key)
      (last : key ≤ 240) (ident : IsIdent name) (cleared : ClearsName kept kept_then p)
      (puts : ((k : ℕ) → k < 240 → (at kept_then k).searches < 65535) → PutsName kept_then kept_now to (record (at kept p) { name = name; key = key })) where
    -- the search lengths after the old name was cleared are small too
    few_then : (k : ℕ) → k < 240 → (at kept_then k).searches < 65535
    few_then k inside = let few = searches_few kept taken pages laid k inside in omega (arith, few, cleared.searches k inside)

    pub renamed_as : IsFirstEmpty kept_then (key_of name - 1) to → IsRenamed kept kept_now p name
    renamed_as first = record {
      between = kept_then;
      cleared = cleared;
      to = to;
      first = first;
      put = subst (λ n. PutsName kept_then kept_now to (record (at kept p) { name = name; key = n })) key_named (puts few_then);
    }

    pub renamed_now : (now : Option (List (List ℕ))) (one two three after : List (List ℕ)) → now ≡ Some after → (at kept_then to).kind ≡ 0
        → ((k : ℕ) → k < 240 → (at kept k).kind ≢ 0 → (at kept k).name ≢ name)
        → EntryWritten pages one p (at kept_now p) → EntryWritten one two s (at kept_now s)
        → EntryWritten two three to (at kept_now to) → EntryWritten three after (key - 1) (at kept_now (key - 1))
        → LaidNow now kept_now taken (fin.insert (fin.remove (files pages) (at kept p).name) name (file_at pages (at kept p)))
    renamed_now now one two three after told empty fresh w1 w2 w3 w4 =
        let has = kept_has kept taken pages laid p below used in
        let is = laid.entries p below in
        let new : Entry = record (at kept p) { name = name; key = key } in
        let put = puts few_then in
        let writes = rename_writes kept taken pages laid kept_then kept_now one two three after p s to (key - 1) new below s_below to_below
        (omega (arith, some, last)) cleared key_is put (omega (arith, some)) w1 w2 w3 w4 in
        record {
          pages = after;
          told = told;
          laid = laid_renamed kept taken pages laid p has kept_then kept_now to new after to_below cleared empty put ident key_named (ap (λ e. e.kind) is)
              (ap (λ e. e.address) is) (ap (λ e. e.protection) is) fresh writes;
          files = files_renamed kept taken pages laid p has kept_then kept_now to new after to_below cleared empty put ident key_named (ap (λ e. e.kind) is)
              (ap (λ e. e.address) is) (ap (λ e. e.protection) is) fresh writes
              ∙ ap (λ e. fin.insert (fin.remove (files pages) e.name) name (file_at pages e)) (sym is);
        }
