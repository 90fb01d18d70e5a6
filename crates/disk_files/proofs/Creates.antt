-- What the writes of a create leave.
use Rattle.std.proofs.Common.{◌≡◌, ◌≢◌, ℕ, suc, zero, ◌+◌, ◌-◌, ◌<◌, ◌≤◌, ◌==◌, Bool, true, false, not, cond, Option, Some, None, Ok, Err, inl, inr, List, [], length, replicate, set as set_at, refl, ap, sym, subst, ◌∙◌, arith}
use Rattle.std.specs.Prelude.{nat_le, slice_index_or}
use Rattle.std.proofs.lemmas.Bool.{cases_eq, cond-false, cond-true, eq-eqb, le-leb, lt-leb, ne_eqb}
use Rattle.std.specs.FinSet as set
use Rattle.std.specs.FinMap as fin
use Rattle.solo_base.specs.Ident.{IsIdent}
use Rattle.disk_pages.specs.Pages.{Pages, IsLeastFree}
use Rattle.disk_pages.proofs.MarkedPages.{len_one_more}
use Rattle.disk_layout.specs.declared.entry.Entry.{Entry}
use Rattle.disk_layout.specs.declared.kind.FileKind.{FileKind}
use Rattle.disk_layout.specs.Format.{IsAddress, count_below, has_key, key_of}
use Rattle.disk_layout.specs.Disk.{disk_of, entry_of, marked_of}
use Rattle.disk_layout.specs.Taking.{TakesIndex}
use Rattle.disk_layout.proofs.Takings.{takes_least}
use Rattle.disk_layout.specs.Files.{files, kind_of, name_count}
use Rattle.disk_layout.specs.Layout.{IsLaidOut, blank_entry}
use Rattle.disk_layout.specs.Appending.{SavesMap}
use Rattle.disk_layout.specs.Writing.{EntryWritten, PutsEntry, PutsName}
use Rattle.disk_layout.proofs.Entries.{count_same}
use Rattle.disk_layout.proofs.CreatedPages.{laid_created, files_created}
use Rattle.disk_layout.proofs.CreateWritten.{create_writes}
use Rattle.disk_layout.specs.Judging.{IsKeptEntry}
use Rattle.disk_files.specs.declared.fault.FileFault.TheVariants.{CatalogFull, DiskFull}
use Rattle.disk_files.specs.Answers.{LaidNow, StandsOpen, Told, create_answer}

at_most_one : (b : Bool) → cond b 1 0 ≤ 1
at_most_one true = omega arith
at_most_one false = omega arith

few : (f : ℕ → Bool) (n : ℕ) → count_below f n ≤ n
unfolding count_below
few f zero = omega arith
few f (suc n) = omega (arith, few f n, at_most_one (f n))

-- a search length of a catalogue is small
pub searches_few : (kept : List Entry) (taken : Pages) (pages : List (List ℕ)) → IsLaidOut kept taken pages → (k : ℕ) → k < 240
    → (slice_index_or kept k blank_entry).searches < 65535
searches_few kept taken pages laid k below =
    let is = ap (λ e. e.searches) (laid.entries k below) in let right = (laid.right k below).searches in let small = few (has_key (disk_of pages) k)
    240 in omega (arith, is, right, small)

module _ (kept kept_now : List Entry) (taken taken_now : Pages) (pages : List (List ℕ)) (laid : IsLaidOut kept taken pages) (p i key : ℕ) (name zeros : List ℕ)
    (number : ℕ) (kind : FileKind)
    (below : p < 240) (empty : (slice_index_or kept p blank_entry).kind ≡ 0) (ident : IsIdent name) (kind_is : kind_of number
    ≡ kind) (some : 1 ≤ number) (last : number ≤ 4)
    (key_is : key ≡ key_of name) (key_some : 1 ≤ key) (key_last : key ≤ 240) (free : IsAddress i) (least : IsLeastFree taken i) (taken_is : taken_now
    ≡ set.insert taken i)
    (fresh : (k : ℕ) → k < 240 → (slice_index_or kept k blank_entry).kind ≢ 0
    → (slice_index_or kept k blank_entry).name ≢ name) (blank : zeros ≡ replicate 512 0)
    (put : PutsName kept kept_now p (record { name = name; kind = number; address = i; protection = 0; key = key; searches = 0 })) where
  abbrev new : Entry
  new = record { name = name; kind = number; address = i; protection = 0; key = key; searches = 0 }

  pub created_now : (now : Option (List (List ℕ))) (two three after : List (List ℕ)) → now ≡ Some after
      → EntryWritten (set_at pages i zeros) two p (slice_index_or kept_now p blank_entry)
      → EntryWritten two three (key - 1) (slice_index_or kept_now (key - 1) blank_entry) → SavesMap three after taken_now
      → LaidNow now kept_now taken_now (fin.insert (files pages) name (record {
        kind =
            kind;
        protected = false;
        pages = [];
      })) × (set.len taken_now ≡ set.len taken + 1) × Told now (λ after. TakesIndex pages after name)
  created_now now two three after told first second saved =
      let w = create_writes kept kept_now taken_now pages (set_at pages i zeros) two three after p (key - 1) new laid.as_many below
      (omega (arith, key_some, key_last)) (omega (arith, key_some)) free
      laid.entries put (ap (set_at pages i) blank) first second saved in (
        record {
          pages = after;
          told = told;
          laid = laid_created kept taken pages laid p new kept_now taken_now after below empty ident some last refl key_is free least taken_is fresh put w;
          files = files_created kept taken pages laid p new kept_now taken_now after below empty ident some last refl key_is free least taken_is fresh put w
              ∙ ap (λ k. fin.insert (files pages) name (record { kind = k; protected = false; pages = [] })) kind_is;
        },
        ap set.len taken_is ∙ len_one_more taken i least.free,
        (
          after,
          told,
          record {
            index = i;
            indexed =
                let here = sym (w.entries p below) ∙ put.here in let kind = ap (λ e. e.kind) here in record {
                  place = p;
                  inside = below;
                  used = λ e. omega (arith, e, kind, some);
                  named = ap (λ e. e.name) here;
                  address = ap (λ e. e.address) here;
                };
            taken = takes_least taken taken_now (marked_of pages) (marked_of after) i least taken_is laid.taken w.marked;
          },
        ),
      )

-- ---- How many names there are

all_pass : (f : ℕ → Bool) (n : ℕ) → ((k : ℕ) → k < n → f k ≡ true) → count_below f n ≡ n
unfolding count_below
all_pass f zero all = refl
all_pass f (suc n) all =
    let here = ap {B = ℕ} (λ b. cond b 1 0) (all n (omega arith)) in omega (arith, here, all_pass f n (λ k below. all k (omega (arith, below))))

one_fails : (f : ℕ → Bool) (n p : ℕ) → p < n → f p ≡ false → count_below f n < n
unfolding count_below
one_fails f zero p below fails = absurd (omega (arith, below))
one_fails f (suc n) p below fails = elim (cases_eq p n) [
  | inl here ↦ let none = ap {B = ℕ} (λ b. cond b 1 0) (sym (ap f here) ∙ fails) in omega (arith, none, few f n)
  | inr apart ↦ omega (arith, at_most_one (f n), one_fails f n p (omega (arith, below, apart)) fails)
]

pub all_named : (kept : List Entry) (taken : Pages) (pages : List (List ℕ)) → IsLaidOut kept taken pages
    → ((k : ℕ) → k < length kept → (slice_index_or kept k blank_entry).kind ≢ 0) → name_count pages ≡ 240
all_named kept taken pages laid all = all_pass (λ k. not ((entry_of pages k).kind == 0)) 240
    (λ k below. ap not (ne_eqb (entry_of pages k).kind 0 (subst (λ e. e.kind ≢ 0) (laid.entries k below) (all k (omega (arith, below, laid.places))))))

pub one_unnamed : (kept : List Entry) (taken : Pages) (pages : List (List ℕ)) (p : ℕ) → IsLaidOut kept taken pages → p < 240
    → (slice_index_or kept p blank_entry).kind ≡ 0 → name_count pages < 240
one_unnamed kept taken pages p laid below empty = one_fails (λ k. not ((entry_of pages k).kind == 0)) 240 p below
    (ap not (eq-eqb (entry_of pages p).kind 0 (sym (ap (λ e. e.kind) (laid.entries p below)) ∙ empty)))

pub names_counted : (kept : List Entry) (taken : Pages) (pages : List (List ℕ)) → IsLaidOut kept taken pages
    → count_below (λ k. not ((slice_index_or kept k blank_entry).kind == 0)) (length kept) ≡ name_count pages
names_counted kept taken pages laid =
    ap (count_below (λ k. not ((slice_index_or kept k blank_entry).kind == 0))) laid.places
    ∙ count_same (λ k. not ((entry_of pages k).kind == 0)) (λ k. not ((slice_index_or kept k blank_entry).kind == 0)) 240
    (λ k below. ap (λ e. not (e.kind == 0)) (laid.entries k below))

-- a name that was new stands in the catalogue then, unprotected
pub open_put : (kept now : List Entry) (p : ℕ) (new : Entry) → PutsEntry kept now p new → p < 240 → 1 ≤ new.kind → new.protection ≡ 0
    → ((k : ℕ) → k < 240 → (slice_index_or kept k blank_entry).kind ≢ 0 → (slice_index_or kept k blank_entry).name ≢ new.name) → StandsOpen now new.name
open_put kept now p new put below some loose fresh = record {
  place = p;
  inside = below;
  used = λ none. let kind = ap (λ e. e.kind) put.here in omega (arith, kind, none, some);
  named = ap (λ e. e.name) put.here;
  unprotected = λ k inside used named. elim (cases_eq k p) [
    | inl own ↦ ap (λ x. (slice_index_or now x blank_entry).protection) own ∙ ap (λ e. e.protection) put.here ∙ loose
    | inr apart ↦ absurd (fresh k inside (λ none. used (ap (λ e. e.kind) (put.beside k apart) ∙ none)) (sym (ap (λ e. e.name) (put.beside k apart)) ∙ named))
  ];
}

-- ---- The answers

pub full_answer : (names free : ℕ) → names ≡ 240 → create_answer None names free ≡ Err CatalogFull
full_answer names free full = cond-true (nat_le 240 names) _ _ (le-leb 240 names (omega (arith, full)))

pub no_room_answer : (names free : ℕ) → names < 240 → free ≡ 0 → create_answer None names free ≡ Err DiskFull
no_room_answer names free short none = cond-false (nat_le 240 names) _ _ (lt-leb 240 names short) ∙ cond-true (free == 0) _ _ (eq-eqb free 0 none)

pub done_answer : (names free : ℕ) → names < 240 → free ≢ 0 → create_answer None names free ≡ Ok tt
done_answer names free short some = cond-false (nat_le 240 names) _ _ (lt-leb 240 names short) ∙ cond-false (free == 0) _ _ (ne_eqb free 0 some)

-- the entry of an empty file may be kept
pub new_kept : (name : List ℕ) (number i key : ℕ) → IsIdent name → 1 ≤ number → number ≤ 4 → IsAddress i → key ≡ key_of name
    → IsKeptEntry (record { name = name; kind = number; address = i; protection = 0; key = key; searches = 0 })
new_kept name number i key ident some last free is =
    inr (record { name = ident; some_kind = some; kind = last; address = free; protection = omega arith; key = is; spare = refl })
