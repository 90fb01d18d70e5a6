-- An area that was formatted is a Solo disk without a file.
use Rattle.std.proofs.Common.{◌≡◌, ℕ, suc, zero, ◌+◌, ◌-◌, ◌*◌, ◌/◌, ◌%◌, ◌<◌, ◌≤◌, Bool, true, false, not, cond, ◌==◌, ◌&&◌, ◌||◌, Option, Some, None, List, take, drop, replicate, get_or, refl, ap, sym, ◌∙◌, inl, inr, arith}
use Rattle.std.specs.Prelude.{nat_lt}
use Rattle.std.specs.FinMap as fin
use Rattle.std.proofs.lemmas.List.{take-replicate, drop-replicate}
use Rattle.std.proofs.lemmas.Bool.{cases_lt, lt-ltb, le-ltb}
use Rattle.solo_base.specs.PageBytes.{zero_page, number_at}
use Rattle.disk_layout.specs.declared.entry.Entry.{Entry}
use Rattle.disk_layout.specs.Disk.{disk_of, entry_in, entry_of, spare_of, marked_of, page_at, entry_page, entry_byte}
use Rattle.disk_layout.specs.Format.{IsSoloDisk, EntryIsRight, IsFullEntry, has_key, count_below}
use Rattle.disk_layout.specs.Files.{with_file, files_below, named_as, named_at, file_at, free_count}
use Rattle.disk_layout.specs.Layout.{Use, Owns, InUse, HasFile}
use Rattle.disk_layout.specs.Layout.Use.{Index, Part, Page}
use Rattle.disk_layout.specs.Writing.{unnamed}
use Rattle.disk_layout.proofs.Maps.{Named}
use Rattle.disk_layout.proofs.FirstPage.{zeros_at}
use Rattle.disk_layout.proofs.Law.{index_right, part_right, mark_right}
use Rattle.disk_layout.proofs.Entries.{count_same}
use Rattle.disk_files.specs.Answers.{Holds}
use Rattle.disk_system.specs.Formatted.{IsFormatted}

-- ---- Zeros

zeros_within : (n at : ℕ) → at + n ≤ 512 → take n (drop at zero_page) ≡ replicate n 0
zeros_within n at fits = ap (take n) (drop-replicate at 512 0) ∙ take-replicate n (512 - at) 0 (omega (arith, fits))

number_zero : (at : ℕ) → number_at zero_page at ≡ 0
number_zero at = ap (λ x. x * 256 + get_or zero_page (at + 1) 0) (zeros_at 512 at) ∙ ap (λ x. 0 * 256 + x) (zeros_at 512 (at + 1))

-- an entry with these fields
with_fields : List ℕ → ℕ → ℕ → ℕ → ℕ → ℕ → Entry
with_fields name kind address protection key searches =
    record { name = name; kind = kind; address = address; protection = protection; key = key; searches = searches }

entry_zero : (at : ℕ) → at ≤ 480 → entry_in zero_page at ≡ unnamed 0
unfolding entry_in with_fields
entry_zero at fits =
    let n : ℕ → ℕ = λ k. number_at zero_page (at + k) in
    ap (λ name. with_fields name (n 12) (n 14) (n 16) (n 28) (n 30)) (zeros_within 12 at (omega (arith, fits)))
    ∙ ap (λ k. with_fields (replicate 12 0) k (n 14) (n 16) (n 28) (n 30)) (number_zero (at + 12))
    ∙ ap (λ k. with_fields (replicate 12 0) 0 k (n 16) (n 28) (n 30)) (number_zero (at + 14))
    ∙ ap (λ k. with_fields (replicate 12 0) 0 0 k (n 28) (n 30)) (number_zero (at + 16))
    ∙ ap (λ k. with_fields (replicate 12 0) 0 0 0 k (n 30)) (number_zero (at + 28))
    ∙ ap (with_fields (replicate 12 0) 0 0 0 0) (number_zero (at + 30))

-- ---- Counts

none_counted : (test : ℕ → Bool) (n : ℕ) → ((k : ℕ) → k < n → test k ≡ false) → count_below test n ≡ 0
unfolding count_below
none_counted test zero none = refl
none_counted test (suc n) none =
    let here = ap {B = ℕ} (λ b. cond b 1 0) (none n (omega arith)) in
    omega (arith, here, none_counted test n (λ k below. none k (omega arith)))

past_counted : (bound n : ℕ) → count_below (λ k. not (nat_lt k bound)) n ≡ n - bound
unfolding count_below
past_counted bound zero = omega arith
past_counted bound (suc n) = elim (cases_lt n bound) [
  | inl below ↦
      let here = ap {B = ℕ} (λ b. cond (not b) 1 0) (lt-ltb n bound below) in
      omega (arith, here, below, past_counted bound n)
  | inr past ↦
      let here = ap {B = ℕ} (λ b. cond (not b) 1 0) (le-ltb n bound past) in
      omega (arith, here, past, past_counted bound n)
]

-- ---- The area

module _ (pages after : List (List ℕ)) (f : IsFormatted pages after) where
  blank : (p : ℕ) → p < 240 → page_at after (entry_page p) ≡ zero_page
  blank p below = f.catalogue (1 + p / 16) (omega arith) (omega (arith, below))

  entry_blank : (p : ℕ) → p < 240 → entry_of after p ≡ unnamed 0
  unfolding entry_of
  entry_blank p below = ap (λ b. entry_in b (entry_byte p)) (blank p below) ∙ entry_zero (32 * (p % 16)) (omega arith)

  spare_blank : (p : ℕ) → p < 240 → spare_of after p ≡ replicate 10 0
  unfolding spare_of
  spare_blank p below = ap (λ b. take 10 (drop (entry_byte p + 18) b)) (blank p below) ∙ zeros_within 10 (32 * (p % 16) + 18) (omega arith)

  kind_blank : (p : ℕ) → p < 240 → (entry_of after p).kind ≡ 0
  kind_blank p below = ap (λ e. e.kind) (entry_blank p below)

  not_full : (p : ℕ) → p < 240 → IsFullEntry (entry_of after p) (spare_of after p) → ⊥
  not_full p below full = let kind = kind_blank p below in let some = full.some_kind in omega (arith, kind, some)

  no_key : (s p : ℕ) → p < 240 → has_key (disk_of after) s p ≡ false
  no_key s p below = ap (λ e. not (e.kind == 0) && e.key == s + 1) (entry_blank p below)

  right : (p : ℕ) → p < 240 → EntryIsRight (disk_of after) p
  right p below =
      let e = entry_blank p below in
      record {
        whole = inl (record {
          name = ap (λ x. x.name) e;
          kind = ap (λ x. x.kind) e;
          address = ap (λ x. x.address) e;
          protection = ap (λ x. x.protection) e;
          key = ap (λ x. x.key) e;
          spare = spare_blank p below;
        });
        name = λ earlier less full _. not_full earlier (omega (arith, less, below)) full;
        address = λ earlier less full _. not_full earlier (omega (arith, less, below)) full;
        searches = ap (λ x. x.searches) e ∙ sym (none_counted (has_key (disk_of after) p) 240 (no_key p));
      }

  no_file : (p : ℕ) → HasFile (disk_of after) p → ⊥
  no_file p has = has.used (kind_blank p has.inside)

  unused : (u : Use) → InUse (disk_of after) u → ⊥
  unused (Index p) has = no_file p has
  unused (Part p k) its = no_file p its.0
  unused (Page p j) its = no_file p its.0

  nobody : ℕ → Option Use
  nobody n = None

  or_false : (b : Bool) → b ≡ (b || false)
  or_false true = refl
  or_false false = refl

  none_owned : (u : Use) → ◌≡◌ {A = Option Use} None (Some u) → ⊥
  none_owned u e = cc

  owns : Owns (disk_of after) nobody
  unfolding nobody
  owns = record {
    known = λ u its. absurd (unused u its);
    only = λ n u e. absurd (none_owned u e);
    free = λ n u e. absurd (none_owned u e);
    marked = λ n within. f.marked n within ∙ or_false (nat_lt n 18);
    short = λ p has. absurd (no_file p has);
    index_rest = λ p k has _ _. absurd (no_file p has);
    part_rest = λ p k j has _ _ _. absurd (no_file p has);
  }

  solo : IsSoloDisk after
  solo = λ n. record {
    first = λ _. f.first;
    catalogue = λ p below _. right p below;
    bits = λ m within _. mark_right (disk_of after) nobody owns m within;
    zeros = λ _. f.zeros;
    index = index_right (disk_of after) nobody owns n;
    part = λ by place x first. part_right (disk_of after) nobody owns n by place x first;
  }

  none_named : (p : ℕ) → p < 240 → named_at after p ≡ None
  unfolding named_as
  none_named p below = ap (λ e. cond (e.kind == 0) None (Some (e.name, file_at after e))) (entry_blank p below)

  no_files : (at : ℕ → Named) (n : ℕ) → ((p : ℕ) → p < n → at p ≡ None) → files_below at n ≡ fin.empty
  unfolding files_below
  no_files at zero none = refl
  no_files at (suc n) none = ap (λ x. with_file x (files_below at n)) (none n (omega arith)) ∙ no_files at n (λ p below. none p (omega arith))

  free : free_count after ≡ 4270
  free = count_same (λ n. not (nat_lt n 18)) (λ n. not (marked_of after n)) 4288 (λ n within. ap not (f.marked n within)) ∙ past_counted 18 4288

  pub emptied : Holds (Some after) fin.empty 4270
  emptied = record {
    pages = after;
    told = refl;
    solo = solo;
    files = no_files (named_at after) 240 none_named;
    free = free;
  }
