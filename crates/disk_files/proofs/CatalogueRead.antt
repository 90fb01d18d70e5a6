-- The entries of a page of the catalogue, as they are read from its bytes.
use Rattle.std.proofs.Common.{◌≡◌, ℕ, ◌+◌, ◌*◌, ◌/◌, ◌%◌, ◌<◌, List, take, drop, ap, sym, ◌∙◌, arith}
use Rattle.disk_layout.specs.Disk.{disk_of, entry_in, entry_of, page_at, spare_of}
use Rattle.disk_layout.specs.Judging.{HasEntry}

pub has_entry : (pages : List (List ℕ)) (n k : ℕ) (bytes : List ℕ) → k < 16 → bytes ≡ page_at pages (1 + n)
    → HasEntry (disk_of pages) (16 * n + k) bytes (32 * k)
unfolding entry_of spare_of
has_entry pages n k bytes small read =
    let page : (16 * n + k) / 16 ≡ n = omega (arith, small) in
    let place : (16 * n + k) % 16 ≡ k = omega (arith, small) in
    record {
      entry =
          ap (λ q. entry_in (page_at pages (1 + q)) (32 * ((16 * n + k) % 16))) page ∙ ap (λ r. entry_in (page_at pages (1 + n)) (32 * r)) place
          ∙ ap (λ b. entry_in b (32 * k)) (sym read);
      spare =
          ap (λ q. take 10 (drop (32 * ((16 * n + k) % 16) + 18) (page_at pages (1 + q)))) page
          ∙ ap (λ r. take 10 (drop (32 * r + 18) (page_at pages (1 + n)))) place
          ∙ ap (λ b. take 10 (drop (32 * k + 18) b)) (sym read);
    }
