use Rattle.std.proofs.Common.{◌+◌, ◌∙◌, drop, map, sym, subst, arith}
use Rattle.std.proofs.Math.ListN.{drop_of_length-le}
use Rattle.pascal_tree.specs.SeenProgram.{seen_parameter_group}
use Rattle.pascal_compile.specs.Holds.{ParametersLaidOut}
use Rattle.pascal_compile.proofs.Turns.{next_item}
use Rattle.pascal_compile.proofs.Frames.{no_parameters, parameters_then}
use Rattle.pascal_compile.proofs.declarations.declare_parameter_groups.Goals as goal

pub loop-group-preserved : goal.loop-group-preserved
loop-group-preserved c =
    let gs = c.args.groups.now in
    let i = c.loop-group.group-index in
    let g = c.loop-group-item.result in
    let a = c.loop-group.frame in
    let b = c.declare_parameter_group.new.frame in
    record {
      left = λ after later.
          c.loop-group.invariant.left after
          (subst (λ hs. ParametersLaidOut a after (map (λ h. (h.0, seen_parameter_group h.1)) hs))
          (sym (next_item gs i g c.loop-group-item.is c.loop-group-test.true))
          (parameters_then a b after (g.0, seen_parameter_group g.1) (map (λ h. (h.0, seen_parameter_group h.1)) (drop (i + 1) gs))
          c.in_ok-declare_parameter_group.ensures.group c.in_ok-declare_parameter_group.ensures.owner later));
      owner = c.in_ok-declare_parameter_group.ensures.owner ∙ c.loop-group.invariant.owner;
    }

pub returns-clause-groups : goal.returns-clause-groups
returns-clause-groups c =
    let gs = c.args.groups.now in
    let a = c.loop-group.frame in
    c.loop-group.invariant.left a
    (subst (λ hs. ParametersLaidOut a a (map (λ h. (h.0, seen_parameter_group h.1)) hs)) (sym (drop_of_length-le gs (omega arith))) (no_parameters a))
