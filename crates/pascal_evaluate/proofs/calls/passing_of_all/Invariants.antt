use Rattle.std.proofs.Common.{◌≡◌, ◌++◌, drop, map}
use Rattle.pascal_mean.specs.Calls.{passing_of}
use Rattle.pascal_evaluate.specs.SeenNames.{seen_parameter}
use Rattle.pascal_evaluate.specs.SeenStore.{seen_passing}
use Rattle.pascal_evaluate.proofs.calls.passing_of_all.Given as goal

abbrev pub invariant-loop-parameter : goal.invariant-loop-parameter
invariant-loop-parameter l =
    map seen_passing l.all.items ++ map passing_of (map seen_parameter (drop l.parameter-index l.parameters))
    ≡ map passing_of (map seen_parameter l.parameters)
