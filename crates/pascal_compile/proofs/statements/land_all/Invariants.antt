use Rattle.std.proofs.Common.{◌≡◌, drop, length}
use Rattle.pascal_compile.specs.Landed.{all_landed, AreBefore}
use Rattle.pascal_compile.proofs.statements.land_all.Given as goal

abbrev pub invariant-loop-place : goal.invariant-loop-place
invariant-loop-place l = record {
  code : all_landed l.code (drop l.place-index l.places) ≡ all_landed l.fn.code l.places;
  before : AreBefore (length l.code) (drop l.place-index l.places);
}
