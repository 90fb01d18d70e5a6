use Rattle.std.proofs.Common.{◌≡◌, ℕ, nat_lt, ◌||◌, ◌&&◌}
use Rattle.std.specs.FinSet as set
use Rattle.disk_pages.specs.Bits.{is_marked}
use Rattle.disk_pages.proofs.page_map.PageMap.of_pages.Given as goal

-- the pages that the bits so far name are taken
abbrev pub invariant-loop-n : goal.invariant-loop-n
invariant-loop-n l = (q : ℕ) → set.contains l.map q ≡ (nat_lt q 18 || (nat_lt q l.n && is_marked l.low l.high q))
