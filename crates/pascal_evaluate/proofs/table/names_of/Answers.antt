use Rattle.std.proofs.Common.{[], map, ◌∙◌, ap}
use Rattle.std.specs.Prelude.{option_map}
use Rattle.pascal_tree.specs.SeenProgram.{seen_consts, seen_vars, seen_routine}
use Rattle.pascal_mean.specs.Means.{OfProgram}
use Rattle.pascal_mean.specs.Scope.{scope_of}
use Rattle.pascal_mean.specs.Declarations.{declared_constants, declared_variables, declared_headings}
use Rattle.pascal_evaluate.specs.SeenNames.{seen_items}
use Rattle.pascal_evaluate.proofs.Declared.{one_scope}
use Rattle.pascal_evaluate.proofs.table.names_of.Goals as goal

pub returns : goal.returns
returns c =
    let p = c.args.program.now in
    let consts = option_map seen_consts p.consts in
    let vars = option_map seen_vars p.vars in
    let routines = map seen_routine p.routines.items in
    c.in_ok-declare_headings.ensures
    ∙ ap (λ rs. declared_headings 1 (map seen_routine rs) (seen_items c.declare_variables.new.items.items)) c.deref.ensures.value
    ∙ ap (declared_headings 1 routines) (c.in_ok-declare_variables.ensures
    ∙ ap (declared_variables OfProgram (λ own. scope_of own []) vars) (c.in_ok-declare_constants.ensures
    ∙ ap (λ items. declared_constants (λ own. scope_of own []) consts (seen_items items)) c.new-items.ensures.items)
    ∙ ap (λ scope. declared_variables OfProgram scope vars (declared_constants scope consts [])) one_scope)
