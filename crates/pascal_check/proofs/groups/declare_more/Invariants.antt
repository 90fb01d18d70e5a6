use Rattle.std.proofs.Common.{◌≡◌, ◌≤◌, drop, map}
use Rattle.pascal_tree.specs.DeclarationRules.{one_by_one, behind_names, frame_words, first_broken}
use Rattle.pascal_check.specs.Frames.{judged_within}
use Rattle.pascal_check.specs.Holds.{means_held}
use Rattle.pascal_check.proofs.groups.declare_more.Given as goal

abbrev pub invariant-loop-name : goal.invariant-loop-name
invariant-loop-name l = record {
  used : l.total ≡ frame_words l.scope;
  most : l.total ≤ l.limit.most;
  judged : first_broken (one_by_one (judged_within l.limit.rule l.limit.most) l.scope (means_held l.held) (map (λ n. n.1) (drop l.name-index l.names)))
      ≡ first_broken (one_by_one (judged_within l.limit.rule l.limit.most) l.fn.scope (means_held l.held) (map (λ n. n.1) l.names));
  behind : behind_names l.scope (means_held l.held) (map (λ n. n.1) (drop l.name-index l.names))
      ≡ behind_names l.fn.scope (means_held l.held) (map (λ n. n.1) l.names);
}
