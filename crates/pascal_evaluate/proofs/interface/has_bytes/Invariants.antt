use Rattle.std.proofs.Common.{◌≡◌, ◌-◌, pos, ◌+ℤ◌}
use Rattle.solo_base.specs.Arithmetic.{are_bytes}
use Rattle.pascal_mean.specs.Variables.{size_of, elements_from, whole_array}
use Rattle.pascal_evaluate.specs.SeenStore.{situation, seen_array}
use Rattle.pascal_evaluate.proofs.interface.has_bytes.Given as goal

abbrev pub invariant-loop-place : goal.invariant-loop-place
invariant-loop-place l =
    let a = seen_array l.array in
    are_bytes (elements_from a ((a.bounds).low +ℤ pos l.place) (size_of a.bounds - l.place) (situation l.run)) ≡ are_bytes (whole_array a (situation l.run))
