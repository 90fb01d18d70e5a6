-- The pages that are free are those that no file holds.
use Rattle.std.proofs.Common.{◌≡◌, ◌≢◌, ℕ, suc, zero, ◌+◌, ◌<◌, ◌≤◌, min, Bool, true, false, not, cond, ◌==◌, ◌||◌, ◌&&◌, Option, Some, None, is_some, List, [], ◌∷◌, length, refl, ap, sym, subst, ◌∙◌, inl, inr, arith}
use Rattle.std.specs.Prelude.{nat_lt}
use Rattle.std.specs.FinSet as set
use Rattle.std.specs.FinMap as fin
use Rattle.std.specs.Ordering.{nat_cmp, is_eq}
use Rattle.std.specs.Cmp.Lexicographic.{slice_cmp, nat_list_cmp_total}
use Rattle.std.specs.declared.cmp.Ordering.{Ordering}
use Rattle.std.specs.declared.cmp.Ordering.TheVariants.{Less, Equal, Greater}
use Rattle.std.proofs.lemmas.Bool.{cases_eq, cases_lt, eq-eqb, ne_eqb, lt-ltb, le-ltb}
use Rattle.disk_pages.specs.Pages.{Pages, passing_below}
use Rattle.disk_pages.proofs.MarkedPages.{contains-passing_below, passing_below_are, len_more, len_none}
use Rattle.disk_layout.specs.declared.entry.Entry.{Entry}
use Rattle.disk_layout.specs.Disk.{Disk, disk_of, entry_of, marked_of, number_of}
use Rattle.disk_layout.specs.Files.{File, Files, files, files_below, file_at, named_at, with_file, free_count}
use Rattle.disk_layout.specs.Deleting.{without_file, pages_held}
use Rattle.disk_layout.specs.Held.{held_by, held_in, held_by_all}
use Rattle.disk_layout.specs.Layout.{Use, InUse, Owns, HasFile, IsLaidOut, address_of, index_at, length_at, blank_entry}
use Rattle.disk_layout.specs.Layout.Use.{Index, Part, Page}
use Rattle.disk_layout.proofs.Created.{Deleted, keep, owner_without, owns_without}
use Rattle.disk_layout.proofs.GivenBack.{freed_are, freed_counted}
use Rattle.disk_layout.proofs.Lookups.{beside, length-first_pages, names_apart, named_empty, named_used}
use Rattle.disk_layout.proofs.Maps.{none_named, files_next}
use Rattle.disk_layout.proofs.TakenPages.{both_counted}

-- ---- What the files at the places hold

abbrev held_at : Disk → ℕ → ℕ
held_at d p = cond ((d.entry p).kind == 0) 0 (pages_held (length_at d p))

abbrev held_below : Disk → ℕ → ℕ
held_below d zero = 0
held_below d (suc p) = held_at d p + held_below d p

some_none : (file : File) → ◌≡◌ {A = Option File} (Some file) None → ⊥
some_none file e = cc

one_put : (k : List ℕ) (v : File) (e : List ℕ × File) (es put : List (List ℕ × File)) (found : Option File) (r : Ordering)
    → (found ≡ None → held_in put ≡ held_by v + held_in es) → cond (is_eq r) (Some e.1) found ≡ None
    → held_in (fin.Entries.by_order r ((k, v) ∷ e ∷ es) ((e.0, v) ∷ es) (e ∷ put)) ≡ held_by v + (held_by e.1 + held_in es)
one_put k v e es put found Less later none = refl
one_put k v e es put found Equal later none = absurd (some_none e.1 none)
one_put k v e es put found Greater later none = omega (arith, later none)

put_held : (k : List ℕ) (v : File) (es : List (List ℕ × File)) → fin.find (slice_cmp nat_cmp) k es ≡ None
    → held_in (fin.put (slice_cmp nat_cmp) k v es) ≡ held_by v + held_in es
put_held k v [] none = refl
put_held k v (e ∷ es) none =
    one_put k v e es (fin.put (slice_cmp nat_cmp) k v es) (fin.find (slice_cmp nat_cmp) k es) (slice_cmp nat_cmp k e.0) (λ later. put_held k v es later) none

insert_held : (all : Files) (k : List ℕ) (v : File) → fin.get all k ≡ None → held_by_all (fin.insert all k v) ≡ held_by v + held_by_all all
insert_held all k v none =
    ap held_in (fin.entries-insert nat_list_cmp_total all k v) ∙ put_held k v (fin.entries all) (sym (fin.get-entries all k) ∙ none)

none_held : (es : List (List ℕ × File)) → length es ≡ 0 → held_in es ≡ 0
none_held [] none = refl
none_held (e ∷ es) none = absurd (omega (arith, none))

no_names : (at : ℕ → Option (List ℕ × File)) → fin.len (files_below at 0) ≡ 0
unfolding files_below
no_names at = fin.len-empty (slice_cmp nat_cmp) File

file_held : (pages : List (List ℕ)) (p : ℕ) → held_by (file_at pages (entry_of pages p)) ≡ pages_held (length_at (disk_of pages) p)
unfolding file_at
file_held pages p = ap pages_held (length-first_pages pages (entry_of pages p).address (number_of pages (entry_of pages p).address 0))

module _ (kept : List Entry) (taken : Pages) (pages : List (List ℕ)) (laid : IsLaidOut kept taken pages) where
  files_held : (n : ℕ) → n ≤ 240 → held_by_all (files_below (named_at pages) n) ≡ held_below (disk_of pages) n
  files_held zero within = none_held _ (sym (fin.len-entries _) ∙ no_names (named_at pages))
  files_held (suc n) within =
      let before = files_held n (omega (arith, within)) in
      elim (cases_eq (entry_of pages n).kind 0) [
        | inl empty ↦
            let here = ap (λ b. cond b 0 (pages_held (length_at (disk_of pages) n))) (eq-eqb (entry_of pages n).kind 0 empty) in
            let same = ap held_by_all (files_next (named_at pages) n) ∙ ap (λ x. held_by_all (with_file x (files_below (named_at pages) n))) (named_empty pages n empty) in
            omega (arith, before, here, same)
        | inr used ↦
            let fresh = none_named (named_at pages) (entry_of pages n).name n (λ p below. beside pages (entry_of pages n).name p
            (λ other. names_apart kept taken pages laid n p (omega (arith, within)) (omega (arith, within, below)) (λ same. omega (arith, same, below)) used other)) in
            let here = ap (λ b. cond b 0 (pages_held (length_at (disk_of pages) n))) (ne_eqb (entry_of pages n).kind 0 used) in
            let same = ap held_by_all (files_next (named_at pages) n) ∙ ap (λ x. held_by_all (with_file x (files_below (named_at pages) n))) (named_used pages n used)
            ∙ insert_held (files_below (named_at pages) n) (entry_of pages n).name (file_at pages (entry_of pages n)) fresh in
            omega (arith, before, here, same, file_held pages n)
      ]

-- ---- How many pages are taken

-- the first 18 of so many
firsts : (n : ℕ) → set.len (passing_below (λ k. nat_lt k 18) n) ≡ min n 18
firsts zero = len_none (λ k. nat_lt k 18)
firsts (suc n) =
    let before = firsts n in let more = len_more (λ k. nat_lt k 18) n in
    elim (cases_lt n 18) [
      | inl below ↦ let here = ap {B = ℕ} (λ b. cond b 1 0) (lt-ltb n 18 below) in omega (arith, before, more, here, below)
      | inr past ↦ let here = ap {B = ℕ} (λ b. cond b 1 0) (le-ltb n 18 past) in omega (arith, before, more, here, past)
    ]

-- a disk without the file at a place
abbrev emptied : Disk → (ℕ → Option Use) → ℕ → Disk
emptied d owner p = record d {
  entry =
      λ k. cond (k == p) blank_entry (d.entry k);
  marked = λ n. nat_lt n 18 || is_some (keep p (owner n));
}

held_same : (d d' : Disk) (n : ℕ) → ((i k : ℕ) → d'.number i k ≡ d.number i k) → ((k : ℕ) → k < n → d'.entry k ≡ d.entry k) → held_below d' n ≡ held_below d n
held_same d d' zero numbers same = refl
held_same d d' (suc n) numbers same =
    let here : held_at d' n ≡ held_at d n =
    ap (λ e. cond (e.kind == 0) 0 (pages_held (d'.number e.address 0))) (same n (omega arith))
    ∙ ap (λ l. cond ((d.entry n).kind == 0) 0 (pages_held l)) (numbers (d.entry n).address 0) in
    omega (arith, here, held_same d d' n numbers (λ k below. same k (omega (arith, below))))

module _ (d : Disk) (owner : ℕ → Option Use) (o : Owns d owner) where
  -- what serves for something is taken
  owned : (n : ℕ) (u : Use) → owner n ≡ Some u → set.contains (passing_below d.marked 4288) n ≡ true
  owned n u e =
      let free = o.free n u e in
      contains-passing_below d.marked 4288 n ∙ ap (λ b. b && d.marked n) (lt-ltb n 4288 free.within) ∙ o.marked n free.within
      ∙ ap (λ x. nat_lt n 18 || is_some x) e ∙ or_true (nat_lt n 18)
    where
      or_true : (b : Bool) → (b || true) ≡ true
      or_true true = refl
      or_true false = refl

  module _ (p : ℕ) (has : HasFile d p) where
    deleted : Deleted d (emptied d owner p) owner p
    deleted = record {
      now_empty = ap (λ b. (cond b blank_entry (d.entry p)).kind) (eq-eqb p p refl);
      kinds = λ k inside apart. ap (λ b. (cond b blank_entry (d.entry k)).kind) (ne_eqb k p apart);
      addresses = λ k inside apart. ap (λ b. (cond b blank_entry (d.entry k)).address) (ne_eqb k p apart);
      numbers = λ n k address. refl;
      marked = λ n within. refl;
    }

    -- what is taken without the file
    still : (n : ℕ) → set.contains (without_file (passing_below d.marked 4288) d (index_at d p)) n
        ≡ (nat_lt n 4288 && (emptied d owner p).marked n)
    still n =
        freed_are d owner o p has (passing_below d.marked 4288) owned n
        ∙ ap (λ b. b && not (is_some (owner n) && not (is_some (keep p (owner n))))) (contains-passing_below d.marked 4288 n)
        ∙ elim (cases_lt n 4288) [
          | inl below ↦
              ap (λ b. (nat_lt n 4288 && b) && not (is_some (owner n) && not (is_some (keep p (owner n))))) (o.marked n below)
              ∙ inside (nat_lt n 4288) (owner n) (λ u e. le-ltb n 18 (o.free n u e).file_page)
          | inr past ↦ outside (nat_lt n 4288) (d.marked n) (is_some (owner n) && not (is_some (keep p (owner n)))) ((emptied d owner p).marked n) (le-ltb n 4288 past)
        ]
      where
        outside : (a b c e : Bool) → a ≡ false → ((a && b) && not c) ≡ (a && e)
        outside true b c e no_one = absurd (true_is_false no_one)
          where
            true_is_false : true ≡ false → ⊥
            true_is_false e = cc
        outside false b c e no_one = refl

        none : (a b : Bool) → ((a && (b || false)) && not (false && true)) ≡ (a && (b || false))
        none true true = refl
        none true false = refl
        none false b = refl

        some : (a b c : Bool) → b ≡ false → ((a && (b || true)) && not (true && not c)) ≡ (a && (b || c))
        some a true c is = absurd (true_is_false is)
          where
            true_is_false : true ≡ false → ⊥
            true_is_false e = cc
        some true false true is = refl
        some true false false is = refl
        some false false c is = refl

        inside : (a : Bool) (x : Option Use) → ((u : Use) → x ≡ Some u → nat_lt n 18 ≡ false)
            → ((a && (nat_lt n 18 || is_some x)) && not (is_some x && not (is_some (keep p x)))) ≡ (a && (nat_lt n 18 || is_some (keep p x)))
        inside a None free = none a (nat_lt n 18)
        inside a (Some u) free = some a (nat_lt n 18) (is_some (keep p (Some u))) (free u refl)

    one_fewer : set.len (passing_below (emptied d owner p).marked 4288) + pages_held (length_at d p) ≡ set.len (passing_below d.marked 4288)
    one_fewer =
        ap (λ s. set.len s + pages_held (length_at d p)) (sym (passing_below_are (emptied d owner p).marked 4288
        (without_file (passing_below d.marked 4288) d (index_at d p)) still))
        ∙ freed_counted d owner o p has (passing_below d.marked 4288) owned

  -- without files the first 18 pages are taken
  no_files : ((k : ℕ) → k < 240 → (d.entry k).kind ≡ 0) → set.len (passing_below d.marked 4288) ≡ 18
  no_files empty = ap set.len (passing_below_are (λ k. nat_lt k 18) 4288 (passing_below d.marked 4288) same) ∙ firsts 4288
    where
      serves : (u : Use) → InUse d u → ⊥
      serves (Index p) its = its.used (empty p its.inside)
      serves (Part p k) its = its.0.used (empty p its.0.inside)
      serves (Page p j) its = its.0.used (empty p its.0.inside)

      none_owned : (x : Option Use) → ((u : Use) → x ≡ Some u → ⊥) → x ≡ None
      none_owned None no_one = refl
      none_owned (Some u) no_one = absurd (no_one u refl)

      or_false : (b : Bool) → (b || false) ≡ b
      or_false true = refl
      or_false false = refl

      outside : (a b c : Bool) → a ≡ false → (a && b) ≡ (a && c)
      outside true b c no_one = absurd (true_is_false no_one)
        where
          true_is_false : true ≡ false → ⊥
          true_is_false e = cc
      outside false b c no_one = refl

      same : (n : ℕ) → set.contains (passing_below d.marked 4288) n ≡ (nat_lt n 4288 && nat_lt n 18)
      same n =
          contains-passing_below d.marked 4288 n ∙ elim (cases_lt n 4288) [
            | inl below ↦ ap (λ b. nat_lt n 4288 && b) (o.marked n below
                ∙ ap (λ x. nat_lt n 18 || is_some x) (none_owned (owner n) (λ u e. serves u (o.only n u e).0)) ∙ or_false (nat_lt n 18))
            | inr past ↦ outside (nat_lt n 4288) (d.marked n) (nat_lt n 18) (le-ltb n 4288 past)
          ]

-- where no file stands from a place on, the taken pages are the first 18 and those of the files below it
all_taken : (m : ℕ) → m ≤ 240 → (d : Disk) (owner : ℕ → Option Use) → Owns d owner → ((k : ℕ) → k < 240 → m ≤ k → (d.entry k).kind ≡ 0)
    → set.len (passing_below d.marked 4288) ≡ 18 + held_below d m
all_taken zero within d owner o empty = no_files d owner o (λ k inside. empty k inside (omega arith))
all_taken (suc m) within d owner o empty = elim (cases_eq (d.entry m).kind 0) [
  | inl none ↦
      let below = all_taken m (omega (arith, within)) d owner o (λ k inside from. elim (cases_eq k m) [
        | inl here ↦ ap (λ x. (d.entry x).kind) here ∙ none
        | inr apart ↦ empty k inside (omega (arith, from, apart))
      ]) in
      let here = ap (λ b. cond b 0 (pages_held (length_at d m))) (eq-eqb (d.entry m).kind 0 none) in
      omega (arith, below, here)
  | inr used ↦
      let has : HasFile d m = record { inside = omega (arith, within); used = used } in
      let gone = deleted d owner o m has in
      let below = all_taken m (omega (arith, within)) (emptied d owner m) (owner_without d (emptied d owner m) owner m o gone)
      (owns_without d (emptied d owner m) owner m o gone) (λ k inside from. elim (cases_eq k m) [
        | inl here ↦ ap (λ b. (cond b blank_entry (d.entry k)).kind) (eq-eqb k m here)
        | inr apart ↦ ap (λ b. (cond b blank_entry (d.entry k)).kind) (ne_eqb k m apart) ∙ empty k inside (omega (arith, from, apart))
      ]) in
      let same = held_same d (emptied d owner m) m (λ i k. refl) (λ k less. ap (λ b. cond b blank_entry (d.entry k)) (ne_eqb k m (λ e. omega (arith, e, less)))) in
      let here = ap (λ b. cond b 0 (pages_held (length_at d m))) (ne_eqb (d.entry m).kind 0 used) in
      let fewer = one_fewer d owner o m has in
      omega (arith, below, same, here, fewer)
]

-- the free pages and those that the files hold are all but the first 18
pub free_and_held : (kept : List Entry) (taken : Pages) (pages : List (List ℕ)) → IsLaidOut kept taken pages
    → free_count pages + held_by_all (files pages) ≡ 4270
free_and_held kept taken pages laid =
    let counted = all_taken 240 (omega arith) (disk_of pages) laid.owner laid.owns (λ k inside past. absurd (omega (arith, inside, past))) in
    let both = both_counted (marked_of pages) 4288 in
    let held = files_held kept taken pages laid 240 (omega arith) in
    omega (arith, counted, both, held)
