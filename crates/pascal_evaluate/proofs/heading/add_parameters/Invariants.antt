use Rattle.std.proofs.Common.{◌≡◌, ℕ, List, ◌++◌, drop, map}
use Rattle.pascal_tree.specs.Word.{NameAt}
use Rattle.pascal_mean.specs.Means.{Parameter}
use Rattle.pascal_mean.specs.Declarations.{parameter_of, declared_parameters}
use Rattle.pascal_evaluate.specs.SeenNames.{seen_scalar, seen_parameter, seen_items}
use Rattle.pascal_evaluate.proofs.heading.add_parameters.Given as goal

abbrev pub invariant-loop-name : goal.invariant-loop-name
invariant-loop-name l =
    let of : List (ℕ × NameAt) → List Parameter = λ names. map (parameter_of l.var (seen_scalar l.scalar)) (map (λ m. (m.1).letters) names) in
    record {
      list : map seen_parameter l.list.items ++ of (drop l.name-index l.names) ≡ map seen_parameter l.fn.list.items ++ of l.names;
      own : declared_parameters (of (drop l.name-index l.names)) (seen_items l.own.items) ≡ declared_parameters (of l.names) (seen_items l.fn.own.items);
    }
