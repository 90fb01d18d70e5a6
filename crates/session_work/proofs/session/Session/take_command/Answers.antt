use Rattle.session_work.proofs.Pieces.{command-begins}
use Rattle.session_work.proofs.session.Session.take_command.Goals as goal

pub returns-clause-piece : goal.returns-clause-piece
returns-clause-piece g c =
    command-begins c.args.item.now c.args.self.now c.begin.new.self (g.A.Area.pages c.args.files.now.area) (g.A.Area.pages c.begin.new.files.area) c.begin.result c.begin.ensures.worked
