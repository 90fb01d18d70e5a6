-- Behind the last row the list of operations has no element.
use Rattle.std.proofs.Common.{arith, sym}
use Rattle.std.proofs.lemmas.Option.{slice_get_past}
use Rattle.stack_code.specs.Table.{ops}
use Rattle.stack_code.proofs.table.Op.at.Goals as goal

pub returns-in_default : goal.returns-in_default
returns-in_default c = sym (slice_get_past ops c.args.number (omega arith))
