use Rattle.std.proofs.Common.{◌∙◌}
use Rattle.pascal_tree.specs.SeenProgram.{seen_parameter_group}
use Rattle.pascal_tree.specs.DeclarationRules.{judged_parameter_group, one_by_one, all_names}
use Rattle.pascal_check.specs.Faults.{IsFault}
use Rattle.pascal_check.specs.Frames.{judged_within}
use Rattle.pascal_check.specs.Holds.{means_held}
use Rattle.pascal_check.proofs.Faulty.{err_is, fault_same}
use Rattle.pascal_check.proofs.Limits.{group_within}
use Rattle.pascal_check.proofs.parameters.judge_parameter_group.Goals as goal

pub returns-in_err-used-clause-broken : goal.returns-in_err-used-clause-broken
returns-in_err-used-clause-broken c =
    let s = c.args.scope.now in
    let g = seen_parameter_group c.args.group.now in
    let m = means_held c.held.result in
    let same = group_within s g c.in_ok-type_.type_ m c.args.used c.in_ok-type_.ensures.ok c.in_ok-type_.ensures.typed c.held.ensures.means
    c.requires.used c.requires.most in
    let fault = c.in_err-used.field-0.0 in
    err_is c.from_residual-in_err-used.result (IsFault (judged_parameter_group s g)) fault c.from_residual-in_err-used.ensures.1
    (fault_same (judged_parameter_group s g) (one_by_one (judged_within 7 16) s m (all_names g.names)) fault same c.in_err-used.ensures.broken)

pub returns-clause-ok : goal.returns-clause-ok
returns-clause-ok c =
    let s = c.args.scope.now in
    let g = seen_parameter_group c.args.group.now in
    group_within s g c.in_ok-type_.type_ (means_held c.held.result) c.args.used c.in_ok-type_.ensures.ok c.in_ok-type_.ensures.typed c.held.ensures.means
    c.requires.used c.requires.most
    ∙ c.in_ok-used.ensures.ok
