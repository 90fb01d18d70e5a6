use Rattle.std.proofs.Common.{arith, rules}
use Rattle.deck_format.proofs.Numerals.{OneMore, one_more}
use Rattle.deck_format.proofs.numeral.+value_after.Goals as goal

pub overflow_mul-number : goal.overflow_mul-number
overflow_mul-number t c =
    let more : OneMore c.args.number c.args.digits.now = one_more c.args.number c.args.digits.now c.in-len1-up.len_at_least c.requires.digits c.requires.small in omega arith

pub overflow_add-number : goal.overflow_add-number
overflow_add-number t c =
    let more : OneMore c.args.number c.args.digits.now = one_more c.args.number c.args.digits.now c.in-len1-up.len_at_least c.requires.digits c.requires.small in omega arith

pub value_after-requires : goal.value_after-requires
value_after-requires t c =
    let more : OneMore c.args.number c.args.digits.now = one_more c.args.number c.args.digits.now c.in-len1-up.len_at_least c.requires.digits c.requires.small in (search rules, (more.rest_digits, more.rest_small))
