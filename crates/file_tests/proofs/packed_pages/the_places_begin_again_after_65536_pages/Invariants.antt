use Rattle.std.proofs.Common.{◌≡◌, false}
use Rattle.file_tests.proofs.packed_pages.the_places_begin_again_after_65536_pages.Given as goal

abbrev pub invariant-loop-place : goal.invariant-loop-place
invariant-loop-place g l = l.unpacker.ended ≡ false
