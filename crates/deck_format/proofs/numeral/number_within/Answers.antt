use Rattle.std.proofs.Common.{length, arith}
use Rattle.deck_format.proofs.Numerals.{first_small}
use Rattle.deck_format.proofs.numeral.number_within.Goals as goal

pub value_after-value-requires-clause-small : goal.value_after-value-requires-clause-small
value_after-value-requires-clause-small c = first_small (length c.args.word.now) c.args.digits (omega arith) c.requires
