use Rattle.std.proofs.lemmas.Result.{on_ok_weaker}
use Rattle.pascal_tree.specs.SeenProgram.{seen_parameter_group}
use Rattle.pascal_mean.specs.Scope.{scalar_named}
use Rattle.pascal_compile.proofs.Frames.{parameters_laid}
use Rattle.pascal_compile.proofs.declarations.declare_parameter_group.Goals as goal

pub returns-clause-group : goal.returns-clause-group
returns-clause-group c =
    let g = seen_parameter_group c.args.group.now in
    on_ok_weaker c.declare_names.result
    (λ names scope f owner before. parameters_laid c.args.frame.now c.declare_names.new.frame c.held_by_parameter-held.result g
    c.held_by_parameter-held.ensures names (scalar_named (scope (g.kind).letters)) f owner before)
    c.declare_names.ensures.names
