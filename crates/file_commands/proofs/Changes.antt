-- What answers a change of the files.
use Rattle.std.proofs.Common.{◌≡◌, ◌⊎◌, inl, inr, ℕ, Bool, true, false, List, [], ◌∷◌, ◌++◌, length, map, Option, Some, None, Result, Ok, Err, codes, refl, sym, ◌∙◌, ap, subst, arith}
use Rattle.std.specs.Prelude.{OnOk, IfErr}
use Rattle.std.specs.FinMap as fin
use Rattle.std.proofs.lemmas.List.{length-map}
use Rattle.disk_layout.specs.Files.{File, Files, files, with_protection}
use Rattle.disk_files.specs.declared.fault.FileFault.{FileFault}
use Rattle.disk_files.specs.declared.fault.FileFault.TheVariants.{NotSolo, NoFile, Exists, Protected, CatalogFull, DiskFull, FileFull, PageRange, DiskFault, NoMemory}
use Rattle.disk_files.specs.Answers.{Answers, Holds, delete_answer, rename_answer, protect_answer}
use Rattle.disk_system.specs.Listing.{file_line, file_lines}
use Rattle.program_task.specs.Task.{Gives}
use Rattle.solo_task.specs.Answers.{becomes}
use Rattle.solo_task.specs.Doing.{lists, deletes, renames, renamed, protects, protected}
use Rattle.file_commands.specs.declared.fault.CommandFault.{CommandFault}
use Rattle.file_commands.specs.declared.fault.CommandFault.TheVariants as lacks
use Rattle.file_commands.specs.Counting.{count_line, CountBehind}
use Rattle.file_commands.specs.Settling.{change_line, IsSettledSo, IsAnsweredSo, SettledIn}

same_fault : (a b : FileFault) → ◌≡◌ {A = Result (Unit {0}) FileFault} (Err a) (Err b) → a ≡ b
same_fault a b e = cc

-- the files stay, and the refusal is told
refused : (word : List ℕ) (expected : Result (Unit {0}) FileFault) (pages : List (List ℕ)) (now : Files) (fault : FileFault) (after : Option (List (List ℕ)))
    → (line : List ℕ) → becomes word (Err fault) now ≡ Gives (line ∷ []) → expected ≡ Err fault → after ≡ Some pages
    → SettledIn (becomes word expected now) pages (line ∷ []) after
refused word expected pages now fault after line gives is told =
    record { pages = pages; told = told; settles = inl (ap (λ e. becomes word e now) is ∙ gives, refl) }

pub changed : (word : List ℕ) (expected : Result (Unit {0}) FileFault) (pages : List (List ℕ)) (now : Files) (unused : ℕ)
    (result : Result (Unit {0}) FileFault) (after : Option (List (List ℕ))) → Answers result expected
    → OnOk result (Holds after now unused) → IfErr result (λ fault. (fault ≡ DiskFault) ⊎ (after ≡ Some pages))
    → IsAnsweredSo (becomes word expected now) pages (change_line word result) after
changed word expected pages now unused (Ok done) after (inl failed) holds stays = absurd cc
changed word expected pages now unused (Ok done) after (inr is) holds stays = record {
  pages = holds.pages;
  told = holds.told;
  settles = inr (ap (λ e. becomes word e now) (sym is) ∙ ap (λ all. becomes word (Ok tt) all) (sym holds.files));
}
changed word expected pages now unused (Err DiskFault) after answers holds stays = tt
changed word expected pages now unused (Err NoMemory) after answers holds (inl failed) = absurd cc
changed word expected pages now unused (Err NoMemory) after answers holds (inr told) = told
changed word expected pages now unused (Err (NotSolo page)) after (inl failed) holds stays = absurd cc
changed word expected pages now unused (Err (NotSolo page)) after (inr is) holds (inl failed) = absurd cc
changed word expected pages now unused (Err (NotSolo page)) after (inr is) holds (inr told) =
    refused word expected pages now (NotSolo page) after _ refl (sym is) told
changed word expected pages now unused (Err NoFile) after (inl failed) holds stays = absurd cc
changed word expected pages now unused (Err NoFile) after (inr is) holds (inl failed) = absurd cc
changed word expected pages now unused (Err NoFile) after (inr is) holds (inr told) = refused word expected pages now NoFile after _ refl (sym is) told
changed word expected pages now unused (Err Exists) after (inl failed) holds stays = absurd cc
changed word expected pages now unused (Err Exists) after (inr is) holds (inl failed) = absurd cc
changed word expected pages now unused (Err Exists) after (inr is) holds (inr told) = refused word expected pages now Exists after _ refl (sym is) told
changed word expected pages now unused (Err Protected) after (inl failed) holds stays = absurd cc
changed word expected pages now unused (Err Protected) after (inr is) holds (inl failed) = absurd cc
changed word expected pages now unused (Err Protected) after (inr is) holds (inr told) =
    refused word expected pages now Protected after _ refl (sym is) told
changed word expected pages now unused (Err CatalogFull) after (inl failed) holds stays = absurd cc
changed word expected pages now unused (Err CatalogFull) after (inr is) holds (inl failed) = absurd cc
changed word expected pages now unused (Err CatalogFull) after (inr is) holds (inr told) =
    refused word expected pages now CatalogFull after _ refl (sym is) told
changed word expected pages now unused (Err DiskFull) after (inl failed) holds stays = absurd cc
changed word expected pages now unused (Err DiskFull) after (inr is) holds (inl failed) = absurd cc
changed word expected pages now unused (Err DiskFull) after (inr is) holds (inr told) =
    refused word expected pages now DiskFull after _ refl (sym is) told
changed word expected pages now unused (Err FileFull) after (inl failed) holds stays = absurd cc
changed word expected pages now unused (Err FileFull) after (inr is) holds (inl failed) = absurd cc
changed word expected pages now unused (Err FileFull) after (inr is) holds (inr told) =
    refused word expected pages now FileFull after _ refl (sym is) told
changed word expected pages now unused (Err PageRange) after (inl failed) holds stays = absurd cc
changed word expected pages now unused (Err PageRange) after (inr is) holds (inl failed) = absurd cc
changed word expected pages now unused (Err PageRange) after (inr is) holds (inr told) =
    refused word expected pages now PageRange after _ refl (sym is) told

-- ---- The commands

no-file : (now : Files) (all : Files) (unused : ℕ) (after : Option (List (List ℕ))) (result : Result (Unit {0}) FileFault)
    → Answers result (Err NoFile) → OnOk result (Holds after now unused)
no-file now all unused after (Ok done) (inl failed) = absurd cc
no-file now all unused after (Ok done) (inr is) = absurd cc
no-file now all unused after (Err fault) answers = tt

pub deleted : (name : List ℕ) (pages : List (List ℕ)) (unused : File → ℕ) (result : Result (Unit {0}) FileFault) (after : Option (List (List ℕ)))
    → Answers result (delete_answer (fin.get (files pages) name))
    → ((file : File) → fin.get (files pages) name ≡ Some file → OnOk result (Holds after (fin.remove (files pages) name) (unused file)))
    → IfErr result (λ fault. (fault ≡ DiskFault) ⊎ (after ≡ Some pages))
    → IsAnsweredSo (deletes (files pages) name) pages (change_line (codes "DELETE") result) after
deleted name pages unused result after = by (fin.get (files pages) name)
  where
    by : (found : Option File) → Answers result (delete_answer found)
        → ((file : File) → found ≡ Some file → OnOk result (Holds after (fin.remove (files pages) name) (unused file)))
        → IfErr result (λ fault. (fault ≡ DiskFault) ⊎ (after ≡ Some pages))
        → IsAnsweredSo (becomes (codes "DELETE") (delete_answer found) (fin.remove (files pages) name)) pages (change_line (codes "DELETE") result) after
    by None answers holds stays =
        changed (codes "DELETE") (Err NoFile) pages (fin.remove (files pages) name) 0 result after answers
        (no-file (fin.remove (files pages) name) (files pages) 0 after result answers) stays
    by (Some file) answers holds stays =
        changed (codes "DELETE") (delete_answer (Some file)) pages (fin.remove (files pages) name) (unused file) result after answers (holds file refl) stays

pub renamed-so : (old new : List ℕ) (pages : List (List ℕ)) (unused : ℕ) (result : Result (Unit {0}) FileFault) (after : Option (List (List ℕ)))
    → Answers result (rename_answer (fin.get (files pages) old) (fin.get (files pages) new))
    → ((file : File) → fin.get (files pages) old ≡ Some file
    → OnOk result (Holds after (fin.insert (fin.remove (files pages) old) new file) unused))
    → IfErr result (λ fault. (fault ≡ DiskFault) ⊎ (after ≡ Some pages))
    → IsAnsweredSo (renames (files pages) old new) pages (change_line (codes "RENAME") result) after
renamed-so old new pages unused result after = by (fin.get (files pages) old)
  where
    by : (found : Option File) → Answers result (rename_answer found (fin.get (files pages) new))
        → ((file : File) → found ≡ Some file → OnOk result (Holds after (fin.insert (fin.remove (files pages) old) new file) unused))
        → IfErr result (λ fault. (fault ≡ DiskFault) ⊎ (after ≡ Some pages))
        → IsAnsweredSo (becomes (codes "RENAME") (rename_answer found (fin.get (files pages) new)) (renamed (files pages) old new found)) pages
        (change_line (codes "RENAME") result) after
    by None answers holds stays =
        changed (codes "RENAME") (Err NoFile) pages (files pages) 0 result after answers (no-file (files pages) (files pages) 0 after result answers) stays
    by (Some file) answers holds stays =
        changed (codes "RENAME") (rename_answer (Some file) (fin.get (files pages) new)) pages (fin.insert (fin.remove (files pages) old) new file) unused
        result after answers (holds file refl) stays

pub protected-so : (name : List ℕ) (on : Bool) (pages : List (List ℕ)) (unused : ℕ) (result : Result (Unit {0}) FileFault) (after : Option (List (List ℕ)))
    → Answers result (protect_answer (fin.get (files pages) name))
    → ((file : File) → fin.get (files pages) name ≡ Some file
    → OnOk result (Holds after (fin.insert (files pages) name (with_protection file on)) unused))
    → IfErr result (λ fault. (fault ≡ DiskFault) ⊎ (after ≡ Some pages))
    → IsAnsweredSo (protects (files pages) name on) pages (change_line (codes "PROTECT") result) after
protected-so name on pages unused result after = by (fin.get (files pages) name)
  where
    by : (found : Option File) → Answers result (protect_answer found)
        → ((file : File) → found ≡ Some file → OnOk result (Holds after (fin.insert (files pages) name (with_protection file on)) unused))
        → IfErr result (λ fault. (fault ≡ DiskFault) ⊎ (after ≡ Some pages))
        → IsAnsweredSo (becomes (codes "PROTECT") (protect_answer found) (protected (files pages) name on found))
        pages (change_line (codes "PROTECT") result) after
    by None answers holds stays =
        changed (codes "PROTECT") (Err NoFile) pages (files pages) 0 result after answers (no-file (files pages) (files pages) 0 after result answers) stays
    by (Some file) answers holds stays =
        changed (codes "PROTECT") (Ok tt) pages (fin.insert (files pages) name (with_protection file on)) unused result after answers (holds file refl) stays

-- ---- The list

as-many : (all : Files) → length (file_lines all) ≡ fin.len all
as-many all = length-map (fin.entries all) (λ e. file_line e.0 e.1) ∙ sym (fin.len-entries all)

pub listed : (pages lines : List (List ℕ)) (result : Result (List (List ℕ)) CommandFault) (after : Option (List (List ℕ)))
    → lines ≡ file_lines (files pages) → CountBehind lines result → after ≡ Some pages → IsSettledSo (lists (files pages)) pages result after
listed pages lines (Ok all) after is counted told = record {
  pages = pages;
  told = told;
  settles = inl (
    ap Gives (sym (counted ∙ ap (λ ls. ls ++ count_line (length ls) ∷ []) is
        ∙ ap (λ n. file_lines (files pages) ++ count_line n ∷ []) (as-many (files pages)))),
    refl,
  );
}
listed pages lines (Err lacks.NoMemory) after is counted told = told
listed pages lines (Err lacks.DiskFault) after is counted told = tt
