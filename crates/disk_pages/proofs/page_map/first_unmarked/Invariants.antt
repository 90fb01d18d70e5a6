use Rattle.std.proofs.Common.{◌≡◌, ◌<◌, ◌≤◌, ℕ, true}
use Rattle.disk_pages.specs.Bits.{is_marked}
use Rattle.disk_pages.proofs.page_map.first_unmarked.Given as goal

-- the bits so far are 1
abbrev pub invariant-loop-n : goal.invariant-loop-n
invariant-loop-n l = (m : ℕ) → l.from ≤ m → m < l.n → is_marked l.low l.high m ≡ true
