use Rattle.solo_base.proofs.Names.{printable_name}
use Rattle.solo_base.proofs.ident.Ident.name.Goals as goal

pub returns-clause-printable : goal.returns-clause-printable
returns-clause-printable c = rw c.trim_end.ensures (printable_name c.self.inside.bytes c.self.invariant)
