use Rattle.std.proofs.Common.{◌≡◌, ◌+◌, ◌-◌, ◌<◌, ◌≤◌, ◌++◌, ◌∙◌, ap, sym, subst, get_or, take, length, arith, Ok, [], ℕ, List, inl, inr}
use Rattle.std.specs.Prelude.{slice_index_or}
use Rattle.std.specs.List.{concat}
use Rattle.std.proofs.lemmas.Bool.{cases_lt}
use Rattle.disk_files.proofs.Kept.{faults_then}
use Rattle.disk_system.proofs.Stored.{pages_all, pages_on}
use Rattle.file_commands.proofs.copying.whole_pages.Goals as goal

last_or_before : (P : ℕ → Type 0) (n : ℕ) → ((k : ℕ) → k < n → P k) → P n → (k : ℕ) → k < n + 1 → P k
last_or_before P n before here k below = elim (cases_lt k n) [
  | inl less ↦ before k less
  | inr not_less ↦ subst P (same n k below not_less) here
]
  where
    same : (n k : ℕ) → k < n + 1 → n ≤ k → n ≡ k
    same n k a b = omega (arith, a, b)

pub loop-n-preserved : goal.loop-n-preserved
loop-n-preserved g c = record {
  sound = c.in_ok-add_page.ensures.sound;
  left = c.add_page.ensures.left ∙ c.loop-n.invariant.left;
  faults = faults_then _ _ _ _ _ c.loop-n.invariant.faults c.in_ok-add_page.ensures.cause;
  bytes = λ told file is named all.
      let below : c.loop-n.n < c.args.pages = c.loop-n-test.true in
      let place : c.loop-n.n + 1 - 1 ≡ c.loop-n.n = omega arith in
      let (so_far, whole) = c.loop-n.invariant.bytes told file is named all in
      let (added, long) = c.in_ok-add_page.ensures.bytes told file (c.loop-n.invariant.left ∙ is) named (omega arith) (omega (arith, below, all)) in (
        added ∙ ap (λ bytes. bytes ++ get_or file.pages (c.loop-n.n + 1 - 1) []) so_far
            ∙ ap (λ k. concat (take c.loop-n.n file.pages) ++ get_or file.pages k []) place
            ∙ sym (pages_on file.pages c.loop-n.n (omega (arith, below, all))),
        last_or_before (λ k. length (slice_index_or file.pages k []) ≡ 512) c.loop-n.n whole
            (subst (λ k. length (slice_index_or file.pages k []) ≡ 512) place long),
      );
}

pub returns-clause-bytes : goal.returns-clause-bytes
returns-clause-bytes g c = λ told file is named all.
    let (bytes, whole) = c.loop-n.invariant.bytes told file is named all in (
      bytes ∙ pages_all file.pages c.loop-n.n (omega (arith, c.loop-n-test.false, c.loop-n.auto.n-end, all)),
      λ k below. whole k (omega (arith, below, c.loop-n-test.false, c.loop-n.auto.n-end, all)),
    )
