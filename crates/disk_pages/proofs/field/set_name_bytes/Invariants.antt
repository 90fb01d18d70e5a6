use Rattle.std.proofs.Common.{◌≡◌, take, drop}
use Rattle.disk_pages.specs.Field.{ChangesOnly}
use Rattle.disk_pages.proofs.field.set_name_bytes.Given as goal

-- the bytes so far are written, and no others
abbrev pub invariant-loop-i : goal.invariant-loop-i
invariant-loop-i l = record {
  written : take l.i (drop l.fn.at l.page.0) ≡ take l.i l.byte-items;
  others : ChangesOnly l.fn.at 12 l.initial.page.0 l.page.0;
}
