use Rattle.std.proofs.Common.{refl, reverse, sym, ◌∙◌}
use Rattle.prog_stack.proofs.StackRows.{run_refused, refused_full, refused_name, refused_code, not_run_full, not_run_name, not_run_code}
use Rattle.prog_stack.proofs.running.Running.run.Goals as goal

pub returns-then-full-clause-served : goal.returns-then-full-clause-served
returns-then-full-clause-served g c = λ size few is.
    let top = c.args.self.now.top in
    let below = reverse c.args.self.now.below.items in
    let before = g.A.Area.pages c.args.files.now.area in
    run_refused size c.args.name.now c.args.left top below before before c.nothing_ran.result c.nothing_ran.ensures.value
    (c.nothing_ran.ensures.fits c.args.name.now c.args.left) refl
    (refused_full size c.args.name.now c.args.left top below before (sym is ∙ c.if-full.true))
    (not_run_full size c.args.name.now c.args.left top below before (sym is ∙ c.if-full.true))

pub returns-in-None-clause-served : goal.returns-in-None-clause-served
returns-in-None-clause-served g c = λ size few is.
    let top = c.args.self.now.top in
    let below = reverse c.args.self.now.below.items in
    let before = g.A.Area.pages c.args.files.now.area in
    run_refused size c.args.name.now c.args.left top below before before c.nothing_ran-in-None.result c.nothing_ran-in-None.ensures.value
    (c.nothing_ran-in-None.ensures.fits c.args.name.now c.args.left) refl
    (refused_name size c.args.name.now c.args.left top below before (sym c.of_words.ensures ∙ c.in-None.is))
    (not_run_name size c.args.name.now c.args.left top below before (sym c.of_words.ensures ∙ c.in-None.is))

pub returns-in-Ok-None-clause-served : goal.returns-in-Ok-None-clause-served
returns-in-Ok-None-clause-served g c = λ size few is.
    let top = c.args.self.now.top in
    let below = reverse c.args.self.now.below.items in
    let before = g.A.Area.pages c.args.files.now.area in
    run_refused size c.args.name.now c.args.left top below before
    (g.A.Area.pages c.code_in.new.files.area) c.nothing_ran-in-Ok-None.result c.nothing_ran-in-Ok-None.ensures.value
    (c.nothing_ran-in-Ok-None.ensures.fits c.args.name.now c.args.left) c.code_in.ensures.left
    (refused_code size c.args.name.now c.args.left c.in-Some.name c.in-Ok-None.field-0 top below before (sym c.of_words.ensures
    ∙ c.in-Some.is) c.in-Ok-None.field-0-is c.in-Ok-None.ensures.found)
    (not_run_code size c.args.name.now c.args.left c.in-Some.name c.in-Ok-None.field-0 top below before (sym c.of_words.ensures ∙ c.in-Some.is)
    c.in-Ok-None.field-0-is c.in-Ok-None.ensures.found)
