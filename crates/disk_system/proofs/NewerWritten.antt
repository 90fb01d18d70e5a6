-- Once each file has its parts, the label and the bit map make the area one of format 2.
use Rattle.std.proofs.Common.{◌≡◌, ◌≢◌, ℕ, ◌+◌, ◌<◌, ◌≤◌, true, Option, Result, Ok, Err, List, length, set, take, drop, ap, sym, subst, ◌∙◌, inl, inr, arith, length-set}
use Rattle.std.specs.Prelude.{◌⊎◌, OnOk}
use Rattle.std.specs.FinSet as fin
use Rattle.std.proofs.lemmas.Bool.{false≢true}
use Rattle.disk_pages.specs.Pages.{Pages}
use Rattle.disk_layout.specs.declared.entry.Entry.{Entry}
use Rattle.disk_layout.specs.Appending.{SavesMap}
use Rattle.disk_layout.specs.Disk.{disk_of, entry_of, entry_page, marked_of, number_of, page_at, spare_of, entry_in, entry_byte}
use Rattle.disk_layout.specs.Format.{IsAddress, label}
use Rattle.disk_layout.specs.Format1.{IsSoloDisk1}
use Rattle.disk_layout.specs.Judging.{IsBefore}
use Rattle.disk_layout.specs.Layout.{HasFile}
use Rattle.disk_layout.specs.Newer.{MadeNewer, NeedsPart, map_at, mapped_at, new_part}
use Rattle.disk_layout.proofs.MadeNewer.{newer_has_files, newer_is_solo, page_now}
use Rattle.disk_layout.proofs.Written.{number_stays, page_beside, page_written}
use Rattle.disk_files.specs.declared.fault.FileFault.{FileFault}
use Rattle.disk_files.specs.Answers.{Told}
use Rattle.disk_system.specs.Migrating.{AddsParts, IsTakenBy, Migrates, Moving, TakesPart, mapped_by}
use Rattle.disk_system.proofs.Movings.{full, moving_added, moving_passed}
use Rattle.disk_system.proofs.Needed.{mapped_by_file}

module _ (pages now after : List (List ℕ)) (taken : Pages) (solo : IsSoloDisk1 pages) (size : length pages ≡ 4288) (m : Moving pages now taken 240)
    (saved : SavesMap (set now 0 label) after taken) where
  -- the pages of files stay as they are
  at_file : (n : ℕ) → 18 ≤ n → page_at after n ≡ page_at now n
  at_file n past =
      saved.others n (λ e. omega (arith, e, past)) (λ e. omega (arith, e, past)) ∙ page_beside now 0 n label (λ e. omega (arith, e, past))

  at_map : (p : ℕ) → HasFile (disk_of pages) p → page_at after (map_at pages p) ≡ page_at now (map_at pages p)
  at_map p has = at_file (map_at pages p) (full pages solo p has).address.file_page

  part_same : (p k : ℕ) → HasFile (disk_of pages) p → new_part pages after p k ≡ new_part pages now p k
  part_same p k has = number_stays now after (map_at pages p) (k + 1) (at_map p has)

  at_part : (p k : ℕ) → NeedsPart pages p k → page_at after (new_part pages now p k) ≡ page_at now (new_part pages now p k)
  at_part p k need = at_file (new_part pages now p k) (m.free p k need.file.inside need).file_page

  -- the catalogue stays as it is
  at_entry : (p : ℕ) → p < 240 → page_at after (entry_page p) ≡ page_at pages (entry_page p)
  at_entry p below =
      saved.others (entry_page p) (λ e. omega (arith, e, below)) (λ e. omega (arith, e, below))
      ∙ page_beside now 0 (entry_page p) label (λ e. omega (arith, e))
      ∙ m.others (entry_page p)
      (λ other inside has e. let past = (full pages solo other has).address.file_page in omega (arith, e, past, below))
      (λ other k inside need e. let past = (m.free other k inside need).file_page in omega (arith, e, past, below))

  entry_same : (p : ℕ) → p < 240 → entry_of after p ≡ entry_of pages p
  unfolding entry_of
  entry_same p below = ap (λ b. entry_in b (entry_byte p)) (at_entry p below)

  spare_same : (p : ℕ) → p < 240 → spare_of after p ≡ spare_of pages p
  unfolding spare_of
  spare_same p below = ap (λ b. take 10 (drop (entry_byte p + 18) b)) (at_entry p below)

  made_newer : MadeNewer pages after
  made_newer = record {
    as_many = saved.as_many ∙ length-set now 0 label ∙ m.as_many;
    first = saved.others 0 (λ e. absurd (omega (arith, e))) (λ e. absurd (omega (arith, e))) ∙ page_written now 0 label (omega (arith, size, m.as_many));
    entries = entry_same;
    spares = spare_same;
    lengths = λ p has. number_stays now after (map_at pages p) 0 (at_map p has) ∙ m.lengths p has.inside has;
    index_rest = λ p k has late within. number_stays now after (map_at pages p) k (at_map p has) ∙ m.index_rest p k has.inside has late within;
    numbers = λ p k j need inside.
        ap (λ n. number_of after n j) (part_same p k need.file) ∙ number_stays now after _ j (at_part p k need)
        ∙ m.numbers p k j need.file.inside need inside;
    part_rest = λ p k j need late within.
        ap (λ n. number_of after n j) (part_same p k need.file) ∙ number_stays now after _ j (at_part p k need)
        ∙ m.part_rest p k j need.file.inside need late within;
    free = λ p k need. subst IsAddress (sym (part_same p k need.file)) (m.free p k need.file.inside need);
    new = λ p k need. ap (marked_of pages) (part_same p k need.file) ∙ m.new p k need.file.inside need;
    apart = λ p k other part need its e.
        m.apart p k other part need.file.inside its.file.inside need its (sym (part_same p k need.file) ∙ e ∙ part_same other part its.file);
    others = λ n past not_map not_part.
        at_file n past
        ∙ m.others n (λ p inside has. not_map p has) (λ p k inside need e. not_part p k need (e ∙ sym (part_same p k need.file)));
    marked = λ n within. (
      λ is. elim (m.only n within (sym (saved.marked n within) ∙ is)) [
        | inl marked ↦ inl marked
        | inr x ↦ inr (x.0, x.1, x.3, x.4 ∙ sym (part_same x.0 x.1 x.3.file))
      ],
      λ is. saved.marked n within ∙ now_taken n within is,
    );
    zeros = saved.zeros;
  }
    where
      now_taken : (n : ℕ) → n < 4288
          → (marked_of pages n ≡ true) ⊎ ((p : ℕ) × (k : ℕ) × NeedsPart pages p k × (n ≡ new_part pages after p k)) → fin.contains taken n ≡ true
      now_taken n within (inl marked) = m.kept n within marked
      now_taken n within (inr x) =
          ap (fin.contains taken) (x.3 ∙ part_same x.0 x.1 x.2.file) ∙ m.now_taken x.0 x.1 x.2.file.inside x.2

  taken_same : (p k n : ℕ) → IsTakenBy pages now p k n → IsTakenBy pages after p k n
  taken_same p k n (inl marked) = inl marked
  taken_same p k n (inr x) = inr (x.0, x.1, x.2, x.3, x.4 ∙ sym (part_same x.0 x.1 x.3.file))

  -- an earlier part is another part
  not_before : (other part p k : ℕ) → IsBefore other part p k → (other ≡ p) × (part ≡ k) → ⊥
  not_before other part p k (inl before) same = omega (arith, before, same.0)
  not_before other part p k (inr before) same = omega (arith, before.1, same.1)

  takes_part : (p k : ℕ) → NeedsPart pages p k → TakesPart pages after p k
  takes_part p k need = record {
    free = not_taken;
    least = λ n under. taken_same p k n (m.least p k need.file.inside need n (omega (arith, under, part_same p k need.file)));
  }
    where
      not_taken : IsTakenBy pages after p k (new_part pages after p k) → ⊥
      not_taken (inl marked) = false≢true (sym (made_newer.new p k need) ∙ marked)
      not_taken (inr x) = not_before x.0 x.1 p k x.2 (made_newer.apart x.0 x.1 p k x.3 need (sym x.4))

  pub migrates : Migrates pages after
  migrates = record {
    solo = newer_is_solo pages after solo made_newer;
    files = newer_has_files pages after solo made_newer;
    entries = entry_same;
    addresses = λ p j has below. page_now pages after solo made_newer p j has below;
    parts = takes_part;
  }

-- the file at the next place has its parts, where there is one
pub file_moved : (r : Result (Unit {0}) FileFault) (pages now : List (List ℕ)) (told : Option (List (List ℕ))) (taken taken_then : Pages)
    (n count : ℕ) (entry : Entry)
    → IsSoloDisk1 pages → n < 240 → entry ≡ entry_of pages n → entry.kind ≢ 0 → count ≡ mapped_by pages entry → Moving pages now taken n
    → OnOk r (Told told (λ after. AddsParts now after taken taken_then entry.address count))
    → OnOk r (Told told (λ after. Moving pages after taken_then (n + 1)))
file_moved (Ok x) pages now told taken taken_then n count entry solo within is used counted moving adds =
    let has : HasFile (disk_of pages) n = record { inside = within; used = subst (λ e. e.kind ≢ 0) is used } in
    let length_is : count ≡ mapped_at pages n = counted ∙ mapped_by_file pages entry used ∙ ap (λ e. number_of pages e.address 0) is in
    let here = subst (λ c. AddsParts now adds.0 taken taken_then (map_at pages n) c) length_is
    (subst (λ e. AddsParts now adds.0 taken taken_then e.address count) is adds.2) in
    (adds.0, adds.1, moving_added pages solo now adds.0 taken taken_then n has moving here)
file_moved (Err fault) pages now told taken taken_then n count entry solo within is used counted moving adds = tt

pub none_moved : (pages now : List (List ℕ)) (taken : Pages) (n : ℕ) (entry : Entry) → entry ≡ entry_of pages n → entry.kind ≡ 0
    → Moving pages now taken n → Moving pages now taken (n + 1)
none_moved pages now taken n entry is empty moving = moving_passed pages now taken n (λ has. has.used (ap (λ e. e.kind) (sym is) ∙ empty)) moving
