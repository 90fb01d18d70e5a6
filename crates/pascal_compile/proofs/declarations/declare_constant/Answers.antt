use Rattle.std.proofs.Common.{◌≡◌, rules, w16, to_z, of_z}
use Rattle.std.proofs.lemmas.Result.{on_ok_weaker}
use Rattle.pascal_code.specs.Senses.{constant_value}
use Rattle.pascal_compile.specs.Seen.{seen_scope}
use Rattle.pascal_compile.proofs.Frames.{constant_laid}
use Rattle.pascal_compile.proofs.declarations.declare_constant.Goals as goal

pub returns-clause-constant : goal.returns-clause-constant
returns-clause-constant c =
    let d = c.args.definition.now in
    let v = to_z w16 (of_z w16 c.number-value.result) in
    let is : v ≡ constant_value (seen_scope (c.args.frame.now).names c.args.program.now) d.value = search rules in
    on_ok_weaker c.declare.result
    (λ named. constant_laid c.args.program.now c.args.frame.now c.declare.new.self d v is named c.declare.ensures.words) c.declare.ensures.names
