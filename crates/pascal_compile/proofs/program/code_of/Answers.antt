use Rattle.std.proofs.Common.{◌≡◌, Err, ap, ◌∙◌}
use Rattle.pascal_tree.specs.SeenProgram.{seen_program}
use Rattle.pascal_compile.proofs.CodeParts.{emitted_for, too_long, same_fault}
use Rattle.pascal_compile.proofs.program.code_of.Goals as goal

pub limited-requires : goal.limited-requires
limited-requires c =
    let p = seen_program c.args.checked.now in
    let q = seen_program c.behind-checked.inside.program in
    let same : q ≡ p = ap seen_program (c.behind-checked.view_is ∙ c.tree.ensures.tree) in
    let emitted = emitted_for q c.add_program.new.drafts c.add_routines.new.drafts c.new-infos.result.items c.add_program.new.infos.items
    c.add_routines.new.infos.items c.deref-in-Ok.result.now c.new-infos.ensures.items c.in_ok-add_program.ensures.code c.in_ok-add_program.ensures.info
    c.in-Ok.ensures.code c.in-Ok.ensures.infos c.deref-in-Ok.ensures.value p same in
    (p, c.requires.tree, c.requires.unbroken, emitted)

pub returns-in-Ok-clause-code : goal.returns-in-Ok-clause-code
returns-in-Ok-clause-code c =
    let p = seen_program c.args.checked.now in
    let q = seen_program c.behind-checked.inside.program in
    let same : q ≡ p = ap seen_program (c.behind-checked.view_is ∙ c.tree.ensures.tree) in
    let emitted = emitted_for q c.add_program.new.drafts c.add_routines.new.drafts c.new-infos.result.items c.add_program.new.infos.items
    c.add_routines.new.infos.items c.deref-in-Ok.result.now c.new-infos.ensures.items c.in_ok-add_program.ensures.code c.in_ok-add_program.ensures.info
    c.in-Ok.ensures.code c.in-Ok.ensures.infos c.deref-in-Ok.ensures.value p same in
    c.limited.ensures.code p c.requires.tree c.requires.unbroken emitted

pub returns-in-Ok-clause-fits : goal.returns-in-Ok-clause-fits
returns-in-Ok-clause-fits c =
    let p = seen_program c.args.checked.now in
    let q = seen_program c.behind-checked.inside.program in
    let same : q ≡ p = ap seen_program (c.behind-checked.view_is ∙ c.tree.ensures.tree) in
    let emitted = emitted_for q c.add_program.new.drafts c.add_routines.new.drafts c.new-infos.result.items c.add_program.new.infos.items
    c.add_routines.new.infos.items c.deref-in-Ok.result.now c.new-infos.ensures.items c.in_ok-add_program.ensures.code c.in_ok-add_program.ensures.info
    c.in-Ok.ensures.code c.in-Ok.ensures.infos c.deref-in-Ok.ensures.value p same in
    c.limited.ensures.fits p emitted

pub returns-in-Ok-clause-limit : goal.returns-in-Ok-clause-limit
returns-in-Ok-clause-limit c =
    let p = seen_program c.args.checked.now in
    let q = seen_program c.behind-checked.inside.program in
    let same : q ≡ p = ap seen_program (c.behind-checked.view_is ∙ c.tree.ensures.tree) in
    let emitted = emitted_for q c.add_program.new.drafts c.add_routines.new.drafts c.new-infos.result.items c.add_program.new.infos.items
    c.add_routines.new.infos.items c.deref-in-Ok.result.now c.new-infos.ensures.items c.in_ok-add_program.ensures.code c.in_ok-add_program.ensures.info
    c.in-Ok.ensures.code c.in-Ok.ensures.infos c.deref-in-Ok.ensures.value p same in
    c.limited.ensures.limit p emitted

pub returns-clause-limit : goal.returns-clause-limit
returns-clause-limit c = λ e.
    let p = seen_program c.args.checked.now in
    let q = seen_program c.behind-checked.inside.program in
    let same : q ≡ p = ap seen_program (c.behind-checked.view_is ∙ c.tree.ensures.tree) in
    too_long p q c.add_program.new.drafts same c.in_ok-add_program.ensures.code
    (c.add_routines.ensures.limit (c.in-Err.is ∙ ap Err (same_fault _ _ e)))
