use Rattle.std.proofs.Common.{◌≡◌, map, replicate}
use Rattle.solo_base.specs.PageBytes.{zero_page}
use Rattle.solo_devices.specs.Area.{page_bytes}
use Rattle.solo_devices.proofs.sure_area.SureArea.new.Given as goal

abbrev pub invariant-loop : goal.invariant-loop
invariant-loop l = map page_bytes l.zeros.items ≡ replicate l.counter zero_page
