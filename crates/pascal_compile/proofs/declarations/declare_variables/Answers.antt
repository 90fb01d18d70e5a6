use Rattle.std.proofs.Common.{map, sym, subst}
use Rattle.std.specs.Prelude.{option_map, OnOk}
use Rattle.std.proofs.lemmas.Result.{on_ok_weaker}
use Rattle.pascal_tree.specs.SeenProgram.{seen_names, seen_group, seen_vars}
use Rattle.pascal_mean.specs.Declarations.{name_list, variable_of, declared_names, declared_groups, declared_variables}
use Rattle.pascal_compile.specs.Seen.{seen_owner}
use Rattle.pascal_compile.specs.Holds.{LaidOut}
use Rattle.pascal_compile.proofs.Frames.{laid_then}
use Rattle.pascal_compile.proofs.declarations.declare_variables.Goals as goal

pub returns-clause-variables : goal.returns-clause-variables
returns-clause-variables c =
    let v = c.in-Some.vars in
    let p = c.args.program.now in
    let a = c.args.frame.now in
    let b = c.declare_group.new.frame in
    let after = c.declare_groups.new.frame in
    let owner = seen_owner a.owner in
    on_ok_weaker c.declare_groups.result
    (λ later.
    subst (λ o. LaidOut p a after (λ scope. declared_variables owner scope (option_map seen_vars o))) (sym c.in-Some.is)
    (laid_then p a b after (λ scope items. declared_names (variable_of owner (scope items) (v.first).kind) (name_list (seen_names (v.first).names)) items)
    (λ scope. declared_groups owner scope (map seen_group (v.rest).items)) c.in_ok-declare_group.ensures.group
    (subst (λ o. LaidOut p b after (λ scope. declared_groups (seen_owner o) scope (map seen_group (v.rest).items))) c.in_ok-declare_group.ensures.owner later)))
    (subst (λ gs. OnOk c.declare_groups.result (LaidOut p b after (λ scope. declared_groups (seen_owner b.owner) scope (map seen_group gs))))
    c.deref.ensures.value c.declare_groups.ensures.groups)
