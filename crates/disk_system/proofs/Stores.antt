-- What the calls of a store leave.
use Rattle.std.proofs.Common.{◌≡◌, ℕ, suc, ◌+◌, ◌-◌, ◌*◌, ◌%◌, ◌<◌, ◌≤◌, ◌==◌, false, Option, Some, None, Result, Ok, Err, List, [], ◌∷◌, ◌++◌, length, take, drop, refl, ap, sym, subst, ◌∙◌, inl, inr, arith}
use Rattle.std.specs.Prelude.{nat_le, nat_lt, IfErr, OnOk}
use Rattle.std.specs.Cmp.Lexicographic.{nat_list_cmp_total}
use Rattle.std.specs.FinMap as fin
use Rattle.std.specs.FinMap.{same_map, nat_cmp-IsAntisymmetric, slice_cmp-IsAntisymmetric}
use Rattle.std.proofs.lemmas.Bool.{cases_eq, cases_lt, cond-true, cond-false, eq-eqb, ne_eqb, lt-ltb, le-ltb, le-leb, lt-leb}
use Rattle.disk_layout.specs.Files.{File, Files, files, free_count, with_page}
use Rattle.disk_layout.specs.Format.{part_count}
use Rattle.disk_layout.specs.Deleting.{pages_held}
use Rattle.disk_layout.proofs.Maps.{cases_name, get_inserted, get_beside_inserted}
use Rattle.disk_files.specs.declared.fault.FileFault.{FileFault}
use Rattle.disk_files.specs.declared.fault.FileFault.TheVariants.{CatalogFull, DiskFault, DiskFull, Exists, FileFull, NoFile}
use Rattle.disk_files.specs.declared.fault.FileInfo.{FileInfo}
use Rattle.disk_files.specs.Answers.{Answers, Holds, append_answer, append_answer_of, create_answer, info_of, lookup_answer, pages_needed}
use Rattle.disk_files.proofs.Numbers.{append_done, on_ok}
use Rattle.disk_layout.specs.Taking.{TakesNext}
use Rattle.disk_contents.specs.Contents.{cut}
use Rattle.disk_system.specs.Taken.{TakesPages}
use Rattle.disk_system.specs.declared.fault.SystemFault.TheVariants.{File as OfFiles}
use Rattle.disk_system.specs.Calls.{StoreAnswers, as_system, room_answer, store_answer}
use Rattle.disk_system.proofs.Stored.{cut_more, cut_none, length-cut}

-- ---- Numbers

-- a file of so many pages holds a part for every 250 besides
pub needed_next : (k : ℕ) → k + part_count k + pages_needed k ≡ k + 1 + part_count (k + 1)
needed_next k = elim (cases_eq (k % 250) 0) [
  | inl full ↦ let two : pages_needed k ≡ 2 = cond-true (k % 250 == 0) 2 1 (eq-eqb (k % 250) 0 full) in omega (arith, full, two)
  | inr begun ↦ let one : pages_needed k ≡ 1 = cond-false (k % 250 == 0) 2 1 (ne_eqb (k % 250) 0 begun) in omega (arith, begun, one)
]

pub parts_grow : (k count : ℕ) → k ≤ count → part_count k ≤ part_count count
parts_grow k count less = omega (arith, less)

-- ---- Where there is room

ok_is_err : (fault : FileFault) → ◌≡◌ {A = Result (Unit {0}) FileFault} (Err fault) (Ok tt) → ⊥
ok_is_err fault e = cc

pub record HasRoom (file : Option File) (names unused count : ℕ) : Type 0 where
  pub missing : file ≡ None
  pub few : names < 240
  pub short : count ≤ 4000
  pub held : pages_held count ≤ unused

pub has_room : (file : Option File) (names unused count : ℕ) → store_answer file names unused count ≡ Ok tt → HasRoom file names unused count
has_room (Some file) names unused count is = absurd (ok_is_err Exists is)
has_room None names unused count is = elim (cases_lt names 240) [
  | inr full ↦ absurd (ok_is_err CatalogFull (sym (cond-true (nat_le 240 names) _ _ (le-leb 240 names full)) ∙ is))
  | inl few ↦
      let one = sym (cond-false (nat_le 240 names) (Err CatalogFull) _ (lt-leb 240 names few)) ∙ is in
      elim (cases_lt 4000 count) [
        | inl long ↦ absurd (ok_is_err FileFull (sym (cond-true (nat_lt 4000 count) _ _ (lt-ltb 4000 count long)) ∙ one))
        | inr short ↦
            let two = sym (cond-false (nat_lt 4000 count) (Err FileFull) _ (le-ltb 4000 count short)) ∙ one in
            elim (cases_lt unused (pages_held count)) [
              | inl none ↦ absurd (ok_is_err DiskFull (sym (cond-true (nat_lt unused (pages_held count)) _ _ (lt-ltb unused (pages_held count) none)) ∙ two))
              | inr room ↦ record { missing = refl; few = few; short = short; held = room }
            ]
      ]
]

-- the answer of a store by what was found
module _ (names unused count : ℕ) where
  pub catalog_full : 240 ≤ names → room_answer names unused count ≡ Err CatalogFull
  catalog_full full = cond-true (nat_le 240 names) _ _ (le-leb 240 names full)

  pub file_full : names < 240 → 4000 < count → room_answer names unused count ≡ Err FileFull
  file_full few long = cond-false (nat_le 240 names) _ _ (lt-leb 240 names few) ∙ cond-true (nat_lt 4000 count) _ _ (lt-ltb 4000 count long)

  pub disk_full : names < 240 → count ≤ 4000 → unused < pages_held count → room_answer names unused count ≡ Err DiskFull
  disk_full few short none =
      cond-false (nat_le 240 names) _ _ (lt-leb 240 names few) ∙ cond-false (nat_lt 4000 count) _ _ (le-ltb 4000 count short)
      ∙ cond-true (nat_lt unused (pages_held count)) _ _ (lt-ltb unused (pages_held count) none)

  pub room_found : names < 240 → count ≤ 4000 → pages_held count ≤ unused → room_answer names unused count ≡ Ok tt
  room_found few short room =
      cond-false (nat_le 240 names) _ _ (lt-leb 240 names few) ∙ cond-false (nat_lt 4000 count) _ _ (le-ltb 4000 count short)
      ∙ cond-false (nat_lt unused (pages_held count)) _ _ (le-ltb unused (pages_held count) room)

-- a create answers so where there is room
pub create_done : (file : Option File) (names unused count : ℕ) → HasRoom file names unused count → create_answer file names unused ≡ Ok tt
create_done file names unused count room =
    let some : 1 ≤ unused = (let held = room.held in omega (arith, held)) in
    ap (λ f. create_answer f names unused) room.missing ∙ cond-false (nat_le 240 names) _ _ (lt-leb 240 names room.few)
    ∙ cond-false (unused == 0) _ _ (ne_eqb unused 0 (λ e. omega (arith, e, some)))

-- what is answered where only the area can fail
pub only_fault : (r expected : Result (Unit {0}) FileFault) → expected ≡ Ok tt → Answers r expected → IfErr r (λ fault. fault ≡ DiskFault)
only_fault (Ok x) expected is answer = tt
only_fault (Err fault) expected is (inl failed) = same fault DiskFault failed
  where
    same : (a b : FileFault) → ◌≡◌ {A = Result (Unit {0}) FileFault} (Err a) (Err b) → a ≡ b
    same a b e = cc
only_fault (Err fault) expected is (inr answer) = absurd (ok_is_err fault (answer ∙ is))

-- what the room was found for
pub room_answered : (u : Unit {0}) (expected : Result (Unit {0}) FileFault) → Answers (Ok u) expected → expected ≡ Ok tt
room_answered u expected (inl failed) = absurd (ok_is_err DiskFault (sym failed))
room_answered u expected (inr answer) = sym answer

-- the answer of a store is that of the file area
pub store_answered : (fault : FileFault) (expected : Result (Unit {0}) FileFault) → Answers (Err fault) expected
    → StoreAnswers (Err (OfFiles fault)) expected
store_answered fault expected (inl failed) = inl (ap as_system failed)
store_answered fault expected (inr answer) = inr (inr (ap as_system answer))

-- what was told of a file
pub looked_up : (found : Option File) (info : FileInfo) → Answers (Ok info) (lookup_answer found) → (file : File) × (found ≡ Some file) × (info ≡ info_of file)
looked_up None info answer = absurd (elim answer [ inl failed ↦ refused DiskFault failed | inr none ↦ refused NoFile none ])
  where
    refused : (fault : FileFault) → ◌≡◌ {A = Result FileInfo FileFault} (Ok info) (Err fault) → ⊥
    refused fault e = cc
looked_up (Some file) info (inl failed) = absurd (refused failed)
  where
    refused : ◌≡◌ {A = Result FileInfo FileFault} (Ok info) (Err DiskFault) → ⊥
    refused e = cc
looked_up (Some file) info (inr is) = (file, refl, same is)
  where
    same : ◌≡◌ {A = Result FileInfo FileFault} (Ok info) (Ok (info_of file)) → info ≡ info_of file
    same e = cc

-- ---- The map

pub insert_again : (all : Files) (q : List ℕ) (a b : File) → fin.insert (fin.insert all q a) q b ≡ fin.insert all q b
insert_again all q a b = same_map nat_list_cmp_total (slice_cmp-IsAntisymmetric nat_cmp-IsAntisymmetric) _ _ (λ r. elim (cases_name r q) [
  | inl same ↦ get_inserted (fin.insert all q a) q r b same ∙ sym (get_inserted all q r b same)
  | inr apart ↦ get_beside_inserted (fin.insert all q a) q r b apart ∙ get_beside_inserted all q r a apart ∙ sym (get_beside_inserted all q r b apart)
])

module _ (others : Files) (q : List ℕ) (file : File) (bytes : List ℕ) (k unused : ℕ) (now : Option (List (List ℕ)))
    (h : Holds now (fin.insert others q (record file { pages = cut bytes k })) unused) (loose : file.protected ≡ false) (short : k < 4000)
    (room : pages_needed k ≤ unused) where
  pub its_file : fin.get (files h.pages) q ≡ Some (record file { pages = cut bytes k })
  its_file = ap (λ m. fin.get m q) h.files ∙ get_inserted others q q (record file { pages = cut bytes k }) refl

  pub appends : append_answer (fin.get (files h.pages) q) (free_count h.pages) ≡ Ok tt
  appends =
      let size = length-cut bytes k in
      ap (λ f. append_answer f (free_count h.pages)) its_file ∙ cond-false file.protected _ _ loose
      ∙ ap (λ n. append_answer_of n (free_count h.pages)) size
      ∙ append_done k (free_count h.pages) short (let free = h.free in omega (arith, free, room))

  pub grown : (r : Result (Unit {0}) FileFault) (after : Option (List (List ℕ))) (page : List ℕ) → page ≡ take 512 (drop (512 * k) bytes)
      → OnOk r (Holds after (fin.insert (files h.pages) q (with_page (record file { pages = cut bytes k }) page))
      (free_count h.pages - pages_needed (length (cut bytes k))))
      → OnOk r (Holds after (fin.insert others q (record file { pages = cut bytes (k + 1) })) (unused - pages_needed k))
  grown r after page is =
      let map_is : fin.insert (files h.pages) q (with_page (record file { pages = cut bytes k }) page)
      ≡ fin.insert others q (record file { pages = cut bytes (k + 1) }) =
      ap (λ m. fin.insert m q (with_page (record file { pages = cut bytes k }) page)) h.files
      ∙ insert_again others q (record file { pages = cut bytes k }) (with_page (record file { pages = cut bytes k }) page)
      ∙ ap (λ p. fin.insert others q (record file { pages = cut bytes k ++ p ∷ [] })) is
      ∙ ap (λ ps. fin.insert others q (record file { pages = ps })) (sym (cut_more bytes k)) in
      let rest : free_count h.pages - pages_needed (length (cut bytes k)) ≡ unused - pages_needed k =
      ap (λ n. n - pages_needed (length (cut bytes k))) h.free ∙ ap (λ n. unused - pages_needed n) (length-cut bytes k) in
      on_ok r _ _ (λ x. subst (λ n. Holds after (fin.insert others q (record file { pages = cut bytes (k + 1) })) n) rest
      (subst (λ m. Holds after m (free_count h.pages - pages_needed (length (cut bytes k)))) map_is x))

-- a file without pages
pub begun : (now : Option (List (List ℕ))) (others : Files) (q : List ℕ) (file : File) (bytes : List ℕ) (unused : ℕ)
    → Holds now (fin.insert others q (record file { pages = [] })) unused → Holds now (fin.insert others q (record file { pages = cut bytes 0 })) (unused - 0)
begun now others q file bytes unused h =
    subst (Holds now (fin.insert others q (record file { pages = cut bytes 0 }))) (same unused)
    (subst (λ ps. Holds now (fin.insert others q (record file { pages = ps })) unused) (sym (cut_none bytes)) h)
  where
    same : (n : ℕ) → n ≡ n - 0
    same n = omega arith

-- room for one page more
pub room_for : (k count unused : ℕ) → k < count → count + part_count count ≤ unused → pages_needed k ≤ unused - (k + part_count k)
room_for k count unused below room =
    let next = needed_next k in let grow = parts_grow (k + 1) count (omega (arith, below)) in omega (arith, next, grow, below, room)

pub left_then : (k unused : ℕ) → unused - (k + part_count k) - pages_needed k ≡ unused - (k + 1 + part_count (k + 1))
left_then k unused = let next = needed_next k in minus unused (k + part_count k) (pages_needed k) (k + 1 + part_count (k + 1)) next
  where
    minus : (u a b c : ℕ) → a + b ≡ c → u - a - b ≡ u - c
    minus u a b c e = omega (arith, e)

-- what the whole store takes
pub held_by : (unused count : ℕ) → 1 ≤ unused → unused - 1 - (count + part_count count) ≡ unused - pages_held count
held_by unused count some = minus unused (count + part_count count)
  where
    minus : (u a : ℕ) → u - 1 - a ≡ u - (a + 1)
    minus u a = omega arith

pub on_done : {X E : Type 0} (r : Result X E) (P Q : Type 0) → (P → Q) → OnOk r P → OnOk r Q
on_done (Ok x) P Q f p = f p
on_done (Err e) P Q f p = tt

-- ---- Which pages are taken

-- what an area tells is one list of pages
pub one_told : (now : Option (List (List ℕ))) (a b : List (List ℕ)) → now ≡ Some a → now ≡ Some b → a ≡ b
one_told now a b told again = cc

pub found_in : (others : Files) (q : List ℕ) (file : File) (pages : List (List ℕ)) → files pages ≡ fin.insert others q file
    → fin.get (files pages) q ≡ Some file
found_in others q file pages is = ap (λ m. fin.get m q) is ∙ get_inserted others q q file refl

pub next_taken : (pages between was after : List (List ℕ)) (name : List ℕ) (k : ℕ) → was ≡ between → TakesPages pages between name k
    → TakesNext was after name k → TakesPages pages after name (k + 1)
next_taken pages between was after name k same before next =
    subst (TakesPages pages after name) (one_later k) (between, before, subst (λ b. TakesNext b after name k) same next)
  where
    one_later : (n : ℕ) → suc n ≡ n + 1
    one_later n = omega arith
