-- Whole pages, and texts that are copied.
use Rattle.std.proofs.Common.{◌≡◌, ℕ, suc, zero, ◌+◌, ◌*◌, ◌/◌, ◌<◌, ◌≤◌, Option, Some, None, List, [], ◌∷◌, ◌++◌, length, take, drop, get_or, refl, ap, sym, ◌∙◌, arith, length-append}
use Rattle.std.specs.Prelude.{slice_index_or}
use Rattle.std.specs.List.{concat}
use Rattle.std.specs.Option.{option_map}
use Rattle.std.proofs.lemmas.List.{take_at, take_more, take_all}
use Rattle.disk_layout.specs.Files.{File}
use Rattle.disk_files.specs.declared.fault.FileInfo.{FileInfo}
use Rattle.disk_files.specs.Answers.{info_of}
use Rattle.disk_contents.specs.Contents.{cut, in_pages}
use Rattle.disk_system.proofs.Stored.{cut_more, cut_none}
use Rattle.file_commands.specs.Stores.{IsPagesOf}

-- ---- Whole pages

drop_past : (page rest : List ℕ) (m : ℕ) → drop (length page + m) (page ++ rest) ≡ drop m rest
drop_past [] rest m = ap (λ n. drop n rest) (none m)
  where
    none : (m : ℕ) → 0 + m ≡ m
    none m = omega arith
drop_past (code ∷ page) rest m = ap (λ n. drop n (code ∷ (page ++ rest))) (one (length page) m) ∙ drop_past page rest m
  where
    one : (n m : ℕ) → suc n + m ≡ suc (n + m)
    one n m = omega arith

piece_at : (pages : List (List ℕ)) (k : ℕ) → ((n : ℕ) → n < length pages → length (slice_index_or pages n []) ≡ 512) → k < length pages
    → take 512 (drop (512 * k) (concat pages)) ≡ get_or pages k []
piece_at [] k whole below = absurd (omega (arith, below))
piece_at (page ∷ pages) zero whole below = take_at page (concat pages) 512 (whole 0 (omega arith))
piece_at (page ∷ pages) (suc k) whole below =
    ap (λ n. take 512 (drop n (page ++ concat pages))) (next k (whole 0 (omega arith)))
    ∙ ap (λ bytes. take 512 bytes) (drop_past page (concat pages) (512 * k))
    ∙ piece_at pages k (λ n inside. whole (suc n) (omega (arith, inside))) (omega (arith, below))
  where
    next : (k : ℕ) → length page ≡ 512 → 512 * suc k ≡ length page + 512 * k
    next k e = omega (arith, e)

long : (pages : List (List ℕ)) → ((n : ℕ) → n < length pages → length (slice_index_or pages n []) ≡ 512) → length (concat pages) ≡ 512 * length pages
long [] whole = refl
long (page ∷ pages) whole =
    let here = whole 0 (omega arith) in
    let rest = long pages (λ n inside. whole (suc n) (omega (arith, inside))) in
    let both = length-append page (concat pages) in
    omega (arith, here, rest, both)

cut_so_far : (pages : List (List ℕ)) (k : ℕ) → ((n : ℕ) → n < length pages → length (slice_index_or pages n []) ≡ 512) → k ≤ length pages
    → cut (concat pages) k ≡ take k pages
cut_so_far pages zero whole within = cut_none (concat pages)
cut_so_far pages (suc k) whole within =
    ap (cut (concat pages)) (one k) ∙ cut_more (concat pages) k
    ∙ ap (λ first. first ++ take 512 (drop (512 * k) (concat pages)) ∷ []) (cut_so_far pages k whole (omega (arith, within)))
    ∙ ap (λ piece. take k pages ++ piece ∷ []) (piece_at pages k whole (omega (arith, within)))
    ∙ sym (take_more pages k [] (omega (arith, within))) ∙ ap (λ n. take n pages) (sym (one k))
  where
    one : (k : ℕ) → suc k ≡ k + 1
    one k = omega arith

pub pages-again : (bytes : List ℕ) (pages : List (List ℕ)) → IsPagesOf bytes pages → in_pages bytes ≡ pages
pages-again bytes pages (is, whole) =
    ap in_pages is ∙ ap (cut (concat pages)) (many (long pages whole)) ∙ cut_so_far pages (length pages) whole (omega arith)
    ∙ take_all (length pages) pages (omega arith)
  where
    many : length (concat pages) ≡ 512 * length pages → length (concat pages) / 512 ≡ length pages
    many e = omega (arith, e)

pub as-many-pages : (bytes : List ℕ) (pages : List (List ℕ)) → IsPagesOf bytes pages → length pages ≡ length bytes / 512
as-many-pages bytes pages (is, whole) = let e = long pages whole in let same = ap length is in omega (arith, e, same)

-- ---- What was found

pub found-one : (found : Option File) (info : FileInfo) → Some info ≡ option_map info_of found → (file : File) × (found ≡ Some file) × (info ≡ info_of file)
found-one None info is = absurd cc
found-one (Some file) info is = (file, refl, same_info info (info_of file) is) where
  same_info : (a b : FileInfo) → Some a ≡ Some b → a ≡ b
  same_info a b e = cc

pub found-none : (found : Option File) → None ≡ option_map info_of found → found ≡ None
found-none None is = refl
found-none (Some file) is = absurd cc

-- ---- Texts

pub file-kind : (file : File) (info : FileInfo) → info ≡ info_of file → info.kind ≡ file.kind
file-kind file info is = ap (λ (i : FileInfo). i.kind) is
