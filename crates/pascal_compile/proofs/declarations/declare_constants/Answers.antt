use Rattle.std.proofs.Common.{◌∷◌, sym, subst}
use Rattle.std.specs.Prelude.{option_map, OnOk}
use Rattle.std.proofs.lemmas.Result.{on_ok_weaker}
use Rattle.pascal_tree.specs.SeenProgram.{seen_consts}
use Rattle.pascal_mean.specs.Declarations.{constant_item, declared_definitions, declared_constants}
use Rattle.pascal_compile.specs.Holds.{LaidOut}
use Rattle.pascal_compile.proofs.Frames.{laid_then}
use Rattle.pascal_compile.proofs.declarations.declare_constants.Goals as goal

pub returns-clause-constants : goal.returns-clause-constants
returns-clause-constants c =
    let d = c.in-Some.consts in
    let p = c.args.program.now in
    let after = c.declare_definitions.new.frame in
    on_ok_weaker c.declare_definitions.result
    (λ later.
    subst (λ o. LaidOut p c.args.frame.now after (λ scope. declared_constants scope (option_map seen_consts o))) (sym c.in-Some.is)
    (laid_then p c.args.frame.now c.declare_constant.new.frame after (λ scope items. constant_item (scope items) d.first ∷ items)
    (λ scope. declared_definitions scope (d.rest).items) c.in_ok-declare_constant.ensures.constant later))
    (subst (λ es. OnOk c.declare_definitions.result (LaidOut p c.declare_constant.new.frame after (λ scope. declared_definitions scope es)))
    c.deref.ensures.value c.declare_definitions.ensures.definitions)
