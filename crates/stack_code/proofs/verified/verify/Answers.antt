use Rattle.std.proofs.Common.{sym, ◌∙◌}
use Rattle.stack_code.proofs.Good.{good_from}
use Rattle.stack_code.proofs.verified.verify.Goals as goal

pub invariant_of-result : goal.invariant_of-result
invariant_of-result c = good_from c.args.code (sym c.broken_record.ensures ∙ c.in_default.is)
