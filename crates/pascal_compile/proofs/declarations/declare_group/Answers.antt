use Rattle.std.proofs.lemmas.Result.{on_ok_weaker}
use Rattle.pascal_tree.specs.SeenProgram.{seen_names}
use Rattle.pascal_mean.specs.Declarations.{name_list, variable_of}
use Rattle.pascal_compile.specs.Seen.{seen_owner}
use Rattle.pascal_compile.proofs.Frames.{group_laid}
use Rattle.pascal_compile.proofs.declarations.declare_group.Goals as goal

pub returns-clause-group : goal.returns-clause-group
returns-clause-group c =
    let a = c.args.frame.now in
    let g = c.args.group.now in
    let owner = seen_owner a.owner in
    on_ok_weaker c.declare_names.result
    (λ names. group_laid c.args.program.now a c.declare_names.new.frame c.held_by-held.result (name_list (seen_names g.names))
    (λ scope. variable_of owner scope g.kind) (c.held_by-held.ensures owner) names)
    c.declare_names.ensures.names
