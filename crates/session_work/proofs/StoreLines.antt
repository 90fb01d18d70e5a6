-- What a store of code came to is answered as the task says.
use Rattle.std.proofs.Common.{◌≡◌, ◌⊎◌, inl, inr, ℕ, Option, Some, None, Result, Ok, Err, List, length, refl, ap, sym, subst}
use Rattle.std.specs.Prelude.{OnOk, IfErr}
use Rattle.std.specs.FinMap as fin
use Rattle.disk_layout.specs.Format.{IsSoloDisk}
use Rattle.disk_layout.specs.Files.{File, Files, files, name_count, free_count}
use Rattle.disk_files.specs.declared.fault.FileFault.{FileFault}
use Rattle.disk_files.specs.declared.fault.FileFault.TheVariants.{DiskFault, NoMemory}
use Rattle.disk_files.specs.Answers.{Holds}
use Rattle.disk_system.specs.declared.fault.SystemFault.{SystemFault}
use Rattle.disk_system.specs.declared.fault.SystemFault.TheVariants.{File as OfFiles, NotText, NotCode, BadCode}
use Rattle.disk_system.specs.Calls.{store_answer, as_system, StoreAnswers}
use Rattle.program_task.specs.OpenFiles.{pages_free}
use Rattle.solo_task.specs.Answers.{becomes, stores}
use Rattle.file_commands.specs.Settling.{change_line, IsAnsweredSo}
use Rattle.file_commands.proofs.Changes.{changed}
use Rattle.file_commands.proofs.Rooms.{room-is}
use Rattle.session_work.specs.StoreLines.{store_line}

system_file : (a b : FileFault) → ◌≡◌ {A = Result (Unit {0}) SystemFault} (Err (OfFiles a)) (Err (OfFiles b)) → a ≡ b
system_file a b e = cc

file_same : (a b : FileFault) → ◌≡◌ {A = SystemFault} (OfFiles a) (OfFiles b) → a ≡ b
file_same a b e = cc

as_file : (fault : FileFault) (expected : Result (Unit {0}) FileFault)
    → ◌≡◌ {A = Result (Unit {0}) SystemFault} (Err (OfFiles fault)) (as_system expected) → Err fault ≡ expected
as_file fault (Ok done) e = absurd cc
as_file fault (Err other) e = ap (λ f. Err f) (system_file fault other e)

no_memory : (expected : Result (Unit {0}) FileFault)
    → (word : List ℕ) (pages : List (List ℕ)) (now : Files) (after : Option (List (List ℕ))) (fault : FileFault)
    → fault ≡ NoMemory → after ≡ Some pages → IsAnsweredSo (becomes word expected now) pages (change_line word (Err fault)) after
no_memory expected word pages now after fault is told =
    subst (λ f. IsAnsweredSo (becomes word expected now) pages (change_line word (Err f)) after) (sym is) told

failed : (expected : Result (Unit {0}) FileFault) → (word : List ℕ) (pages : List (List ℕ)) (now : Files) (after : Option (List (List ℕ))) (fault : FileFault)
    → fault ≡ DiskFault → IsAnsweredSo (becomes word expected now) pages (change_line word (Err fault)) after
failed expected word pages now after fault is =
    subst (λ f. IsAnsweredSo (becomes word expected now) pages (change_line word (Err f)) after) (sym is) tt

-- what a store came to
store_changes : (word : List ℕ) (expected : Result (Unit {0}) FileFault) (pages : List (List ℕ)) (now : Files) (unused : ℕ)
    (result : Result (Unit {0}) SystemFault) (after : Option (List (List ℕ))) → StoreAnswers result expected
    → OnOk result (Holds after now unused) → IfErr result (λ fault. (fault ≡ OfFiles DiskFault) ⊎ (after ≡ Some pages))
    → IsAnsweredSo (becomes word expected now) pages (store_line word result) after
store_changes word expected pages now unused (Ok done) after (inl f) holds stays = absurd cc
store_changes word expected pages now unused (Ok done) after (inr (inl f)) holds stays = absurd cc
store_changes word (Ok other) pages now unused (Ok done) after (inr (inr is)) holds stays =
    changed word (Ok other) pages now unused (Ok tt) after (inr refl) holds tt
store_changes word (Err fault) pages now unused (Ok done) after (inr (inr is)) holds stays = absurd cc
store_changes word expected pages now unused (Err (OfFiles fault)) after (inl f) holds stays =
    failed expected word pages now after fault (system_file fault DiskFault f)
store_changes word expected pages now unused (Err (OfFiles fault)) after (inr (inl f)) holds (inl area) =
    failed expected word pages now after fault (file_same fault DiskFault area)
store_changes word expected pages now unused (Err (OfFiles fault)) after (inr (inl f)) holds (inr told) =
    no_memory expected word pages now after fault (system_file fault NoMemory f) told
store_changes word expected pages now unused (Err (OfFiles fault)) after (inr (inr is)) holds (inl area) =
    failed expected word pages now after fault (file_same fault DiskFault area)
store_changes word expected pages now unused (Err (OfFiles fault)) after (inr (inr is)) holds (inr told) =
    changed word expected pages now unused (Err fault) after (inr (as_file fault expected is)) tt (inr told)
store_changes word expected pages now unused (Err NotText) after answers holds (inl area) = absurd cc
store_changes word expected pages now unused (Err NotText) after answers holds (inr told) = told
store_changes word expected pages now unused (Err NotCode) after answers holds (inl area) = absurd cc
store_changes word expected pages now unused (Err NotCode) after answers holds (inr told) = told
store_changes word expected pages now unused (Err (BadCode at)) after answers holds (inl area) = absurd cc
store_changes word expected pages now unused (Err (BadCode at)) after answers holds (inr told) = told

pub store-settles : (word : List ℕ) (pages : List (List ℕ)) (name : List ℕ) (file : File) (count unused : ℕ)
    (result : Result (Unit {0}) SystemFault) (after : Option (List (List ℕ))) → IsSoloDisk pages → free_count pages ≡ pages_free (files pages)
    → length file.pages ≡ count → fin.get (files pages) name ≡ None
    → StoreAnswers result (store_answer (fin.get (files pages) name) (name_count pages) (free_count pages) count)
    → OnOk result (Holds after (fin.insert (files pages) name file) unused)
    → IfErr result (λ fault. (fault ≡ OfFiles DiskFault) ⊎ (after ≡ Some pages))
    → IsAnsweredSo (stores word (files pages) name file) pages (store_line word result) after
store-settles word pages name file count unused result after solo free many new answers holds stays =
    subst (λ e. IsAnsweredSo (becomes word e (fin.insert (files pages) name file)) pages (store_line word result) after)
    (sym (room-is pages count (length file.pages) solo free many))
    (store_changes word (store_answer None (name_count pages) (free_count pages) count) pages (fin.insert (files pages) name file) unused result after
    (subst (λ o. StoreAnswers result (store_answer o (name_count pages) (free_count pages) count)) new answers) holds stays)
