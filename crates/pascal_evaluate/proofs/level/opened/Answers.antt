use Rattle.std.proofs.Common.{◌≡◌, ℤ, length, map, sym, ◌∙◌, ap, arith, rules}
use Rattle.std.specs.Prelude.{FitsSigned}
use Rattle.std.specs.Int.{w16}
use Rattle.std.proofs.lemmas.Int.{to_z-of_z}
use Rattle.std.proofs.lemmas.List.{length-map}
use mir.Val.{to_z, of_z}
use Rattle.pascal_tree.specs.declared.statement.Body as bodies
use Rattle.pascal_tree.specs.Statement.{body}
use Rattle.pascal_tree.specs.SeenStatement.{seen_body, seen_sequence}
use Rattle.pascal_mean.specs.Situation.{Gives}
use Rattle.pascal_mean.specs.Meaning.{ended}
use Rattle.pascal_evaluate.specs.SeenNames.{seen_declared}
use Rattle.pascal_evaluate.specs.SeenStore.{seen_activation, situation, all_given}
use Rattle.pascal_evaluate.specs.SeenSetting.{seen_setting}
use Rattle.pascal_evaluate.proofs.Opened.{opened_stopped, opened_gives}
use Rattle.pascal_evaluate.proofs.level.opened.Goals as goal

pub returns-in-Ok : goal.returns-in-Ok
returns-in-Ok g c =
    let after = situation c.sequence.new.run in
    let line = c.args.run.now.line in
    let b = bodies.out-Body c.args.declared.now.body.now in
    let made : seen_body c.args.declared.now.body.now ≡ body b.begin (seen_sequence b.statements) b.end = search (rules, bodies.the_lemmas) in
    let counted : c.len-number.result ≡ length (map seen_activation c.args.run.now.activations.items) =
    omega (arith, c.len-number.ensures, c.args.run.now.activations.ok.0, length-map c.args.run.now.activations.items seen_activation) in
    let fits : FitsSigned w16 c.end.result = record { sfits = c.end.type_inv } in
    let value = to_z w16 (of_z w16 c.end.result) in
    opened_gives g.L.Level.free c.args.setting.now (seen_declared c.args.declared.now) (all_given c.args.given.now) (situation c.args.run.now)
    (seen_setting g.L.Level.free c.inside-inside.result) c.len-number.result (situation c.begin.new.run)
    (seen_sequence b.statements) b.begin b.end made counted (c.inside-inside.ensures g.L.Level.free) c.in_ok-begin.ensures
    after c.in-Ok.ensures
    ∙ ap (λ (v : ℤ). Gives v (ended c.len-number.result line after)) (sym (to_z-of_z w16 c.end.result fits ∙ c.end.ensures.answer))
    ∙ ap (Gives value) (sym c.end.ensures.run)

pub returns-in-Err : goal.returns-in-Err
returns-in-Err g c =
    let b = bodies.out-Body c.args.declared.now.body.now in
    let made : seen_body c.args.declared.now.body.now ≡ body b.begin (seen_sequence b.statements) b.end = search (rules, bodies.the_lemmas) in
    let counted : c.len-number.result ≡ length (map seen_activation c.args.run.now.activations.items) =
    omega (arith, c.len-number.ensures, c.args.run.now.activations.ok.0, length-map c.args.run.now.activations.items seen_activation) in
    opened_stopped g.L.Level.free c.args.setting.now (seen_declared c.args.declared.now) (all_given c.args.given.now) (situation c.args.run.now)
    (seen_setting g.L.Level.free c.inside-inside.result) c.len-number.result (situation c.begin.new.run)
    (seen_sequence b.statements) b.begin b.end made counted (c.inside-inside.ensures g.L.Level.free) c.in_ok-begin.ensures
    c.in-Err.stop (situation c.sequence.new.run) c.in-Err.ensures
