use Rattle.std.proofs.Common.{◌≡◌, ◌*◌, ◌<◌, ℕ}
use Rattle.solo_base.specs.PageBytes.{number_at}
use Rattle.disk_layout.specs.Format.{IsAddress}
use Rattle.disk_layout.specs.Deleting.{given_back}
use Rattle.disk_files.proofs.delete.free_numbers.Given as goal

abbrev pub invariant-loop-j : goal.invariant-loop-j
invariant-loop-j l = ((j : ℕ) → j < l.count → IsAddress (number_at l.part.0 (2 * j))) → l.map ≡ given_back l.initial.map (λ j. number_at l.part.0 (2 * j)) l.j
