use Rattle.std.proofs.Common.{◌≡◌, drop, map}
use Rattle.pascal_mean.specs.Declarations.{declared_names}
use Rattle.pascal_evaluate.specs.SeenNames.{seen_plain, seen_items}
use Rattle.pascal_evaluate.proofs.declare.declare_more.Given as goal

abbrev pub invariant-loop-name : goal.invariant-loop-name
invariant-loop-name l =
    declared_names (seen_plain l.plain) (map (λ m. (m.1).letters) (drop l.name-index l.names)) (seen_items l.items.items)
    ≡ declared_names (seen_plain l.plain) (map (λ m. (m.1).letters) l.names) (seen_items l.fn.items.items)
