-- How many names and how many free pages there are, by the files alone.
use Rattle.std.proofs.Common.{◌≡◌, ◌≢◌, ◌⊎◌, inl, inr, ℕ, suc, zero, ◌+◌, ◌/◌, ◌<◌, ◌≤◌, cond, not, ◌==◌, Option, Some, None, Result, List, [], ◌∷◌, length, refl, ap, sym, subst, ◌∙◌, arith}
use Rattle.std.specs.Prelude.{OnOk, IfErr}
use Rattle.std.specs.FinMap as fin
use Rattle.std.specs.Ordering.{nat_cmp, is_eq}
use Rattle.std.specs.Cmp.Lexicographic.{slice_cmp, nat_list_cmp_total}
use Rattle.std.specs.declared.cmp.Ordering.{Ordering}
use Rattle.std.specs.declared.cmp.Ordering.TheVariants.{Less, Equal, Greater}
use Rattle.std.proofs.lemmas.Bool.{cases_eq, eq-eqb, ne_eqb}
use Rattle.disk_layout.specs.Disk.{disk_of, entry_of}
use Rattle.disk_layout.specs.Format.{count_below, IsSoloDisk, EntryIsRight}
use Rattle.disk_layout.specs.Files.{File, Files, files, files_below, file_at, named_at, with_file, name_count, free_count}
use Rattle.disk_layout.proofs.Lookups.{beside, full_entry, named_empty, named_used}
use Rattle.disk_layout.proofs.Maps.{none_named, files_next}
use Rattle.disk_files.specs.declared.fault.FileFault.{FileFault}
use Rattle.disk_files.specs.declared.fault.FileFault.TheVariants.{DiskFault}
use Rattle.disk_files.specs.Answers.{Answers, Holds}
use Rattle.disk_system.specs.Calls.{room_answer, store_answer}
use Rattle.program_task.specs.OpenFiles.{pages_free}
use Rattle.solo_task.specs.Answers.{becomes, stores}
use Rattle.file_commands.specs.Settling.{change_line, IsAnsweredSo}
use Rattle.file_commands.proofs.Changes.{changed}

-- ---- Names

some_none : (file : File) → ◌≡◌ {A = Option File} (Some file) None → ⊥
some_none file e = cc

one_put : (k : List ℕ) (v : File) (e : List ℕ × File) (es put : List (List ℕ × File)) (found : Option File) (r : Ordering)
    → (found ≡ None → length put ≡ suc (length es)) → cond (is_eq r) (Some e.1) found ≡ None
    → length (fin.Entries.by_order r ((k, v) ∷ e ∷ es) ((e.0, v) ∷ es) (e ∷ put)) ≡ suc (suc (length es))
one_put k v e es put found Less later none = refl
one_put k v e es put found Equal later none = absurd (some_none e.1 none)
one_put k v e es put found Greater later none = ap suc (later none)

put_more : (k : List ℕ) (v : File) (es : List (List ℕ × File)) → fin.find (slice_cmp nat_cmp) k es ≡ None
    → length (fin.put (slice_cmp nat_cmp) k v es) ≡ suc (length es)
put_more k v [] none = refl
put_more k v (e ∷ es) none =
    one_put k v e es (fin.put (slice_cmp nat_cmp) k v es) (fin.find (slice_cmp nat_cmp) k es) (slice_cmp nat_cmp k e.0) (λ later. put_more k v es later) none

insert_more : (all : Files) (k : List ℕ) (v : File) → fin.get all k ≡ None → fin.len (fin.insert all k v) ≡ suc (fin.len all)
insert_more all k v none =
    fin.len-entries (fin.insert all k v) ∙ ap length (fin.entries-insert nat_list_cmp_total all k v)
    ∙ put_more k v (fin.entries all) (sym (fin.get-entries all k) ∙ none) ∙ ap suc (sym (fin.len-entries all))

no_names : (at : ℕ → Option (List ℕ × File)) → fin.len (files_below at 0) ≡ 0
unfolding files_below
no_names at = fin.len-empty (slice_cmp nat_cmp) File

module _ (pages : List (List ℕ)) (solo : IsSoloDisk pages) where
  right : (p : ℕ) → p < 240 → EntryIsRight (disk_of pages) p
  right p below = (solo (1 + p / 16)).catalogue p below refl

  apart : (p other : ℕ) → p < 240 → other < p → (entry_of pages p).kind ≢ 0 → (entry_of pages other).kind ≢ 0
      → (entry_of pages other).name ≢ (entry_of pages p).name
  apart p other below before used other_used = λ e.
      (right p below).name other before (full_entry (disk_of pages) other (right other (omega (arith, below, before))) other_used) (sym e)

  counted : (n : ℕ) → n ≤ 240 → fin.len (files_below (named_at pages) n) ≡ count_below (λ p. not ((entry_of pages p).kind == 0)) n
  unfolding count_below
  counted zero within = no_names (named_at pages)
  counted (suc n) within =
      let before = counted n (omega (arith, within)) in
      elim (cases_eq (entry_of pages n).kind 0) [
        | inl empty ↦
            let here = ap {B = ℕ} (λ b. cond (not b) 1 0) (eq-eqb (entry_of pages n).kind 0 empty) in
            let same = ap fin.len (files_next (named_at pages) n)
            ∙ ap (λ x. fin.len (with_file x (files_below (named_at pages) n))) (named_empty pages n empty) in
            omega (arith, before, here, same)
        | inr used ↦
            let fresh = none_named (named_at pages) (entry_of pages n).name n (λ p below. beside pages (entry_of pages n).name p
            (λ other. apart n p (omega (arith, within)) below used other)) in
            let here = ap {B = ℕ} (λ b. cond (not b) 1 0) (ne_eqb (entry_of pages n).kind 0 used) in
            let same = ap fin.len (files_next (named_at pages) n) ∙ ap (λ x. fin.len (with_file x (files_below (named_at pages) n))) (named_used pages n used)
            ∙ insert_more (files_below (named_at pages) n) (entry_of pages n).name (file_at pages (entry_of pages n)) fresh in
            omega (arith, before, here, same)
      ]

  pub names-are : fin.len (files pages) ≡ name_count pages
  names-are = counted 240 (omega arith)

-- ---- Stores

-- where there is room, by the files alone
pub room-is : (pages : List (List ℕ)) (count many : ℕ) → IsSoloDisk pages → free_count pages ≡ pages_free (files pages) → many ≡ count
    → room_answer (fin.len (files pages)) (pages_free (files pages)) many ≡ store_answer None (name_count pages) (free_count pages) count
room-is pages count many solo free same =
    ap (λ n. room_answer n (pages_free (files pages)) many) (names-are pages solo)
    ∙ ap (λ n. room_answer (name_count pages) n many) (sym free) ∙ ap (λ n. room_answer (name_count pages) (free_count pages) n) same

-- and one of the file area itself
pub change-settles : (word : List ℕ) (pages : List (List ℕ)) (name : List ℕ) (file : File) (count unused : ℕ)
    (result : Result (Unit {0}) FileFault) (after : Option (List (List ℕ))) → IsSoloDisk pages → free_count pages ≡ pages_free (files pages)
    → length file.pages ≡ count → fin.get (files pages) name ≡ None
    → Answers result (store_answer (fin.get (files pages) name) (name_count pages) (free_count pages) count)
    → OnOk result (Holds after (fin.insert (files pages) name file) unused)
    → IfErr result (λ fault. (fault ≡ DiskFault) ⊎ (after ≡ Some pages))
    → IsAnsweredSo (stores word (files pages) name file) pages (change_line word result) after
change-settles word pages name file count unused result after solo free many new answers holds stays =
    subst (λ e. IsAnsweredSo (becomes word e (fin.insert (files pages) name file)) pages (change_line word result) after)
    (sym (room-is pages count (length file.pages) solo free many))
    (changed word (store_answer None (name_count pages) (free_count pages) count) pages (fin.insert (files pages) name file) unused result after
    (subst (λ o. Answers result (store_answer o (name_count pages) (free_count pages) count)) new answers) holds stays)
