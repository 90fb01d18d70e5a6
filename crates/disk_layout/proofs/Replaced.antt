-- A page of a file becomes another.
use Rattle.std.proofs.Common.{◌≡◌, ◌≢◌, ℕ, ◌+◌, ◌*◌, ◌/◌, ◌%◌, ◌<◌, ◌==◌, Option, Some, List, set, take, drop, ap, sym, ◌∙◌, arith, length-set}
use Rattle.std.specs.FinMap as fin
use Rattle.disk_pages.specs.Pages.{Pages}
use Rattle.disk_layout.specs.declared.entry.Entry.{Entry}
use Rattle.disk_layout.specs.Disk.{Disk, disk_of, page_at, entry_of, spare_of, number_of, entry_in}
use Rattle.disk_layout.specs.Format.{IsAddress}
use Rattle.disk_layout.specs.Files.{kind_of, files, file_at, first_pages}
use Rattle.disk_layout.specs.Layout.{Use, index_at, length_at, part_at, page_number, HasFile, IsLaidOut}
use Rattle.disk_layout.specs.Layout.Use.{Index, Part, Page}
use Rattle.disk_layout.proofs.Entries.{still_right}
use Rattle.disk_layout.proofs.InPlace.{StaysInPlace, laid_in_place, files_in_place, page_stays_there}
use Rattle.disk_layout.proofs.FilesStay.{one_page_set}
use Rattle.disk_layout.proofs.Written.{page_written, page_beside, number_stays}

module _ (kept : List Entry) (taken : Pages) (pages : List (List ℕ)) (laid : IsLaidOut kept taken pages) (p j : ℕ) (has : HasFile (disk_of pages) p)
    (below : j < length_at (disk_of pages) p) (bytes : List ℕ) where
  abbrev d : Disk
  d = disk_of pages

  abbrev f : ℕ
  f = page_number (disk_of pages) p j

  abbrev after : List (List ℕ)
  after = set pages (page_number (disk_of pages) p j) bytes

  owned : laid.owner f ≡ Some (Page p j)
  owned = laid.owns.known (Page p j) (has, below)

  free : IsAddress f
  free = laid.owns.free f (Page p j) owned

  other_page : (n : ℕ) (u : Use) → laid.owner n ≡ Some u → u ≢ Page p j → page_at after n ≡ page_at pages n
  other_page n u e apart = page_beside pages f n bytes (λ h. apart (same_use (sym e ∙ ap laid.owner h ∙ owned)))
    where
      same_use : ◌≡◌ {A = Option Use} (Some u) (Some (Page p j)) → u ≡ Page p j
      same_use x = cc

  system_page : (n : ℕ) → n < 18 → page_at after n ≡ page_at pages n
  system_page n low = let file = free.file_page in page_beside pages f n bytes (λ e. omega (arith, e, low, file))

  entries_stay : (k : ℕ) → k < 240 → entry_of after k ≡ entry_of pages k
  unfolding entry_of
  entries_stay k inside = ap (λ b. entry_in b (32 * (k % 16))) (system_page (1 + k / 16) (omega (arith, inside)))

  spares_stay : (k : ℕ) → k < 240 → spare_of after k ≡ spare_of pages k
  unfolding spare_of
  spares_stay k inside = ap (λ b. take 10 (drop (32 * (k % 16) + 18) b)) (system_page (1 + k / 16) (omega (arith, inside)))

  in_place : StaysInPlace pages after
  in_place = record {
    as_many = length-set pages f bytes;
    first = system_page 0 (omega arith);
    kinds = λ k inside. ap (λ e. e.kind) (entries_stay k inside);
    addresses = λ k inside. ap (λ e. e.address) (entries_stay k inside);
    indexes = λ q k file. number_stays pages after (index_at d q) k (other_page _ (Index q) (laid.owns.known (Index q) file) (λ e. cc));
    parts = λ q k i file less. number_stays pages after (part_at d q k) i (other_page _ (Part q k) (laid.owns.known (Part q k) (file, less)) (λ e. cc));
    low = system_page 16 (omega arith);
    high = system_page 17 (omega arith);
  }

  pub laid_replaced : IsLaidOut kept taken after
  laid_replaced = laid_in_place kept taken pages laid after in_place kept laid.places (λ k inside. laid.entries k inside ∙ sym (entries_stay k inside))
      (λ k inside. still_right d (disk_of after) entries_stay spares_stay k inside (laid.right k inside))

  same_place : (q i : ℕ) → Page q i ≡ Page p j → (q ≡ p) × (i ≡ j)
  same_place q i e = (ap place e, ap number e)
    where
      place : Use → ℕ
      place (Index x) = x
      place (Part x k) = x
      place (Page x k) = x

      number : Use → ℕ
      number (Index x) = x
      number (Part x k) = k
      number (Page x k) = k

  own_file : file_at after (entry_of after p) ≡ record (file_at pages (entry_of pages p)) { pages = set (file_at pages (entry_of pages p)).pages j bytes }
  unfolding file_at
  own_file =
      let e = entries_stay p has.inside in
      let index = ap (λ x. x.address) e in
      let count : number_of after (entry_of after p).address 0 ≡ number_of pages (entry_of pages p).address 0 = ap (λ n. number_of after n 0) index
      ∙ in_place.indexes p 0 has in
      let its : first_pages after (entry_of after p).address (number_of after (entry_of after p).address 0)
      ≡ set (first_pages pages (entry_of pages p).address (number_of pages (entry_of pages p).address 0)) j bytes =
      (ap (first_pages after (entry_of after p).address) count
      ∙ one_page_set pages after (entry_of pages p).address (entry_of after p).address (length_at d p) j bytes below
      (ap (page_at after) (page_stays_there kept taken pages laid after in_place p j has below) ∙ page_written pages f bytes (let size =
      laid.as_many in let within = free.within in omega (arith, size, within)))
      (λ k less apart. ap (page_at after) (page_stays_there kept taken pages laid after in_place p k has less)
      ∙ other_page _ (Page p k) (laid.owns.known (Page p k) (has, less)) (λ x. apart (same_place p k x).1))) in
      ap (λ x. record {
        kind =
            kind_of x.kind;
        protected =
            x.protection == 1;
        pages = first_pages after (entry_of after p).address (number_of after (entry_of after p).address 0);
      }) e
      ∙ ap (λ ps. record { kind = kind_of (entry_of pages p).kind; protected = (entry_of pages p).protection == 1; pages = ps }) its

  pub files_replaced : files after
      ≡ fin.insert (files pages) (entry_of pages p).name (record (file_at pages (entry_of pages p)) {
        pages =
            set (file_at pages (entry_of pages p)).pages j bytes;
      })
  files_replaced =
      files_in_place kept taken pages laid after in_place p has (λ k inside _. entries_stay k inside)
      (λ k i apart file less. other_page _ (Page k i) (laid.owns.known (Page k i) (file, less)) (λ x. apart (same_place k i x).0))
      _ (ap (λ x. x.name) (entries_stay p has.inside)) own_file
