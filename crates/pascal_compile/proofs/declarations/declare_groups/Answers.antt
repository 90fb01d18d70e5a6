use Rattle.std.proofs.Common.{◌+◌, ◌∙◌, drop, map, sym, subst, arith}
use Rattle.std.proofs.Math.ListN.{drop_of_length-le}
use Rattle.pascal_tree.specs.SeenProgram.{seen_names, seen_group}
use Rattle.pascal_mean.specs.Declarations.{name_list, variable_of, declared_names, declared_groups}
use Rattle.pascal_compile.specs.Seen.{seen_owner}
use Rattle.pascal_compile.specs.Holds.{LaidOut}
use Rattle.pascal_compile.proofs.Turns.{next_item}
use Rattle.pascal_compile.proofs.Frames.{nothing_laid, laid_then}
use Rattle.pascal_compile.proofs.declarations.declare_groups.Goals as goal

pub loop-group-preserved : goal.loop-group-preserved
loop-group-preserved c =
    let gs = c.args.groups.now in
    let i = c.loop-group.group-index in
    let g = c.group-item.result in
    let a = c.loop-group.frame in
    let b = c.declare_group.new.frame in
    let p = c.args.program.now in
    let owner = seen_owner c.args.frame.now.owner in
    record {
      left = λ after later.
          c.loop-group.invariant.left after
          (subst (λ hs. LaidOut p a after (λ scope. declared_groups owner scope (map seen_group hs)))
          (sym (next_item gs i g c.group-item.is c.loop-group-test.true))
          (laid_then p a b after (λ scope items. declared_names (variable_of owner (scope items) g.kind) (name_list (seen_names g.names)) items)
          (λ scope. declared_groups owner scope (map seen_group (drop (i + 1) gs)))
          (subst (λ o. LaidOut p a b (λ scope items. declared_names (variable_of (seen_owner o) (scope items) g.kind) (name_list (seen_names g.names)) items))
          c.loop-group.invariant.owner c.in_ok-declare_group.ensures.group)
          later));
      owner = c.in_ok-declare_group.ensures.owner ∙ c.loop-group.invariant.owner;
    }

pub returns-clause-groups : goal.returns-clause-groups
returns-clause-groups c =
    let a = c.loop-group.frame in
    let owner = seen_owner c.args.frame.now.owner in
    c.loop-group.invariant.left a
    (subst (λ hs. LaidOut c.args.program.now a a (λ scope. declared_groups owner scope (map seen_group hs)))
    (sym (drop_of_length-le c.args.groups.now (omega arith))) (nothing_laid c.args.program.now a))
