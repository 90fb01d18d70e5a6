use Rattle.std.proofs.Common.{◌≡◌, ℕ, nat_lt}
use Rattle.disk_pages.specs.Bits.{is_marked, EndsInZeros}
use Rattle.disk_pages.proofs.page_map.PageMap.fresh.Given as goal

-- the bits so far are 1, and no others
abbrev pub invariant-loop-n : goal.invariant-loop-n
invariant-loop-n l = record {
  first : (q : ℕ) → is_marked l.low l.high q ≡ nat_lt q l.n;
  zeros : EndsInZeros l.high;
}
