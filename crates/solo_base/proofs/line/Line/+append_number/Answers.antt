use Rattle.std.proofs.Common.{◌+◌, ◌<◌, ◌/◌, ◌%◌, ◌^◌, [], ◌∷◌, arith, append_assoc, rules}
use Rattle.std.specs.Fmt.{decimal}
use Rattle.std.proofs.lemmas.Fmt.{decimal_digit, decimal_step}
use Rattle.solo_base.proofs.Decimals.{few_before}
use Rattle.solo_base.proofs.line.Line.+append_number.Goals as goal

pub returns-then-number-lt10 : goal.returns-then-number-lt10
returns-then-number-lt10 t c = rw (c.push.ensures, decimal_digit c.args.number (omega arith)) (search rules)

pub push-requires-2-clause-room : goal.push-requires-2-clause-room
push-requires-2-clause-room t c =
    rw c.append_number.ensures (few_before c.args.self.now c.args.number (omega arith) c.requires)

pub returns : goal.returns
returns t c =
    let small : c.args.number < 2 ^ 64 = omega arith in
    rw (c.push-2.ensures, c.append_number.ensures, decimal_step c.args.number (omega arith) small)
    (append_assoc c.args.self.now (decimal (c.args.number / 10)) ((48 + c.args.number % 10) ∷ []))
