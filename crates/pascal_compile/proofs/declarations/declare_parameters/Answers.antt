use Rattle.std.proofs.Common.{[], map, sym, subst}
use Rattle.std.specs.Prelude.{option_map, OnOk}
use Rattle.std.proofs.lemmas.Result.{on_ok_weaker}
use Rattle.pascal_tree.specs.SeenProgram.{seen_parameter_group, seen_parameters}
use Rattle.pascal_mean.specs.Declarations.{declared_parameters, parameter_list}
use Rattle.pascal_code.specs.Frames.{plain_frame}
use Rattle.pascal_compile.specs.Holds.{HoldsFrame, ParametersLaidOut}
use Rattle.pascal_compile.proofs.Frames.{parameters_then}
use Rattle.pascal_compile.proofs.declarations.declare_parameters.Goals as goal

pub returns-clause-parameters : goal.returns-clause-parameters
returns-clause-parameters c =
    let p = c.in-Some.parameters in
    let after = c.declare_parameter_groups.new.frame in
    on_ok_weaker c.declare_parameter_groups.result
    (λ later known owner before.
    subst (λ o. HoldsFrame after (plain_frame (declared_parameters (parameter_list known (option_map seen_parameters o)) []))) (sym c.in-Some.is)
    (parameters_then c.args.frame.now c.declare_parameter_group.new.frame after (p.opening, seen_parameter_group p.first)
    (map (λ g. (g.0, seen_parameter_group g.1)) (p.rest).items) c.in_ok-declare_parameter_group.ensures.group
    c.in_ok-declare_parameter_group.ensures.owner later known (plain_frame []) owner before))
    (subst (λ gs. OnOk c.declare_parameter_groups.result (ParametersLaidOut c.declare_parameter_group.new.frame after (map (λ g.
    (g.0, seen_parameter_group g.1)) gs)))
    c.deref.ensures.value c.declare_parameter_groups.ensures.groups)
