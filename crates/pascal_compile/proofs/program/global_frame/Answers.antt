use Rattle.std.proofs.Common.{◌∙◌, subst}
use Rattle.pascal_tree.specs.SeenProgram.{seen_program}
use Rattle.pascal_mean.specs.Declarations.{declared_variables}
use Rattle.pascal_compile.specs.Seen.{seen_owner}
use Rattle.pascal_compile.specs.Holds.{LaidOut}
use Rattle.pascal_compile.proofs.ProgramFrames.{globals_held}
use Rattle.pascal_compile.proofs.program.global_frame.Goals as goal

pub returns : goal.returns
returns c =
    let p = seen_program c.args.program.now in
    let n = c.new-nothing.result in
    let a = c.new-frame.result in
    let b = c.declare_constants.new.frame in
    let after = c.declare_variables.new.frame in
    globals_held n a b after p c.new-nothing.ensures c.new-frame.ensures.names c.new-frame.ensures.words c.in_ok-declare_constants.ensures.constants
    (subst (λ o. LaidOut n b after (λ scope. declared_variables (seen_owner o) scope p.vars))
    (c.in_ok-declare_constants.ensures.owner ∙ c.new-frame.ensures.owner) c.in_ok-declare_variables.ensures.variables)
