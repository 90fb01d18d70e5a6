use Rattle.std.proofs.Common.{◌∙◌, ◌∷◌, [], ap, length, arith}
use Rattle.std.proofs.lemmas.List.{length-append}
use Rattle.stack_code.proofs.Short.{begun_is_short}
use Rattle.stack_code.proofs.listed.line_of.Goals as goal

pub push-requires-2-clause-room : goal.push-requires-2-clause-room
push-requires-2-clause-room c =
    omega (arith, begun_is_short c.args.instr.now.op _ _ _ _ _ _ c.new-line.ensures (c.as_bytes.ensures.value ∙ c.name.ensures) c.append.ensures c.push.ensures c.from.type_inv c.append_number.ensures)

pub append_number-requires-2 : goal.append_number-requires-2
append_number-requires-2 c =
    omega (arith, ap length c.push-2.ensures, length-append c.append_number.new.self (32 ∷ []), begun_is_short c.args.instr.now.op _ _ _ _ _ _ c.new-line.ensures (c.as_bytes.ensures.value ∙ c.name.ensures) c.append.ensures c.push.ensures c.from.type_inv c.append_number.ensures)
