use Rattle.std.proofs.Common.{◌≡◌, List, map, ◌∙◌, ap}
use Rattle.std.specs.Prelude.{option_map}
use Rattle.pascal_tree.specs.SeenProgram.{seen_consts, seen_vars, seen_block, seen_routine}
use Rattle.pascal_mean.specs.Means.{OfRoutine}
use Rattle.pascal_mean.specs.Predeclared.{Item}
use Rattle.pascal_mean.specs.Scope.{Scope, scope_of}
use Rattle.pascal_mean.specs.Declarations.{declared_parameters, declared_constants, declared_variables, own_items, signature_of, block_of}
use Rattle.pascal_evaluate.specs.SeenNames.{seen_parameter, seen_signature, seen_items}
use Rattle.pascal_evaluate.proofs.Declared.{routine_is}
use Rattle.pascal_evaluate.proofs.table.declared_routine.Goals as goal

pub returns : goal.returns
returns c =
    let known = seen_items c.args.known.now in
    let scope : List Item → Scope = λ own. scope_of own known in
    let block = c.block_of-block.result.now in
    let signature = c.in_ok-signature.signature in
    let consts = option_map seen_consts block.consts in
    let vars = option_map seen_vars block.vars in
    let own : seen_items c.declare_variables.new.items.items ≡ own_items known (seen_signature signature) (seen_block block) =
    c.in_ok-declare_variables.ensures
    ∙ ap (declared_variables OfRoutine scope vars) (c.in_ok-declare_constants.ensures
    ∙ ap (declared_constants scope consts) (c.in_ok-declare_parameters.ensures
    ∙ ap (λ ps. declared_parameters (map seen_parameter ps) (seen_items c.new-own.result.items)) c.deref.ensures.value
    ∙ ap (λ items. declared_parameters (map seen_parameter signature.parameters.items) (seen_items items)) c.new-own.ensures.items)) in
    routine_is known (seen_signature signature) (signature_of (seen_items c.args.before.now) (seen_routine c.args.routine.now))
    (seen_block block) (block_of (seen_routine c.args.routine.now)) (seen_items c.declare_variables.new.items.items)
    c.in_ok-signature.ensures c.block_of-block.ensures own
