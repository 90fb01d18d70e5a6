use Rattle.std.proofs.Common.{◌≡◌, ◌++◌, drop, map}
use Rattle.pascal_tree.specs.DeclarationRules.{group_wants}
use Rattle.pascal_check.proofs.parameters.want_more.Given as goal

abbrev pub invariant-loop-place : goal.invariant-loop-place
invariant-loop-place l =
    l.wanted ++ group_wants l.parameter (map (λ n. n.1) (drop l.place l.names)) ≡ l.fn.wanted ++ group_wants l.parameter (map (λ n. n.1) l.names)
