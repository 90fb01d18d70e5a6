use Rattle.std.proofs.Common.{rules, arith}
use Rattle.std.proofs.lemmas.Grind.{common_steps}
use Rattle.std.proofs.lemmas.Int.{to_z-of_z}
use Rattle.std.specs.Int.{w16}
use mir.Val.{SFits}
use Rattle.pascal_evaluate.specs.SeenStore.{situation}
use Rattle.pascal_evaluate.proofs.expression.call_value.Goals as goal

pub returns-in-Plain-Function : goal.returns-in-Plain-Function
returns-in-Plain-Function g c =
    let word : SFits w16 c.first_value.result = record { sfits = c.first_value.type_inv } in
    let done = rw (to_z-of_z w16 c.first_value.result word, c.first_value.ensures) at (c.standard.ensures (situation c.args.run.now)) in
    first_of (search (rules, done), grind (arith, common_steps, done))
