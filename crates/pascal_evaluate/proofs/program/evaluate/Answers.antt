use Rattle.std.proofs.Common.{◌≡◌, map, ◌∙◌, ap, rules}
use Rattle.solo_base.specs.Text.{text}
use Rattle.pascal_tree.specs.declared.statement.Body as bodies
use Rattle.pascal_tree.specs.Statement.{body}
use Rattle.pascal_tree.specs.SeenStatement.{seen_body, seen_sequence}
use Rattle.pascal_tree.specs.SeenProgram.{seen_program}
use Rattle.pascal_mean.specs.Statements.{after_sequence}
use Rattle.pascal_mean.specs.Batch.{output_of}
use Rattle.pascal_evaluate.specs.SeenNames.{seen_declared}
use Rattle.pascal_evaluate.specs.SeenStore.{seen_made, situation}
use Rattle.pascal_evaluate.specs.SeenSetting.{seen_setting}
use Rattle.pascal_evaluate.proofs.Ended.{part_is, batch_ending}
use Rattle.pascal_evaluate.proofs.program.evaluate.Goals as goal

pub returns : goal.returns
returns c =
    let p = seen_program c.args.program.now in
    let cards = c.args.input.now in
    let b = bodies.out-Body c.args.program.now.body in
    let made : seen_body c.args.program.now.body ≡ body b.begin (seen_sequence b.statements) b.end = search (rules, bodies.the_lemmas) in
    let begins = situation c.in_ok-run.run' in
    let then_is = situation c.sequence.new.run in
    let all = ap (map seen_declared) c.deref-2.ensures.value ∙ c.in_ok-routines.ensures in
    let input = c.deref-3.ensures.value ∙ c.in_ok-text.ensures in
    let setting = seen_setting 63 c.outermost-setting.result in
    let part = part_is p c.args.limit c.deref-3.result.now (text cards) (map seen_declared c.deref-2.result.now) setting
    (seen_sequence b.statements) b.begin b.end begins
    all input made c.in_ok-run.ensures c.outermost-setting.ensures in
    let course = after_sequence setting (seen_sequence b.statements) begins in
    let lines = c.in_ok-output.ensures ∙ ap (λ calls. output_of (map seen_made calls)) c.deref-4.ensures.value in
    batch_ending p c.args.limit cards course c.in_ok-result.result then_is c.in_ok-output.output part
    (c.in_ok-result.ensures course then_is c.sequence.ensures) lines
