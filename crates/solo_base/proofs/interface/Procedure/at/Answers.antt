-- Behind the last row the list of procedures has no element.
use Rattle.std.proofs.Common.{arith, sym}
use Rattle.std.proofs.lemmas.Option.{slice_get_past}
use Rattle.solo_base.specs.Interface.{procedures}
use Rattle.solo_base.proofs.interface.Procedure.at.Goals as goal

pub returns-in_default : goal.returns-in_default
returns-in_default c = sym (slice_get_past procedures c.args.number (omega arith))
