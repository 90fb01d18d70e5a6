use Rattle.std.proofs.Common.{refl, sym, ap, subst, ◌∙◌}
use Rattle.solo_procs.specs.Commands.{given_of}
use Rattle.session_work.specs.Working.{PieceSo}
use Rattle.session_work.proofs.Face.{comes-if, piece-leads}
use Rattle.session_work.proofs.commands.SessionCommandsCommands.work.Goals as goal

pub returns-clause-comes : goal.returns-clause-comes
returns-clause-comes g c = λ pages awaits.
    comes-if (given_of c.args.given) c.args.self.now c.work-need.new.self (g.A.Area.pages c.args.files.now.area) (g.A.Area.pages c.work-need.new.files.area)
    c.work-need.result pages (subst (λ s. PieceSo (given_of c.args.given) s (g.A.Area.pages c.args.files.now.area) c.work-need.result c.work-need.new.self
    (g.A.Area.pages c.work-need.new.files.area)) c.self.view_is c.work-need.ensures.piece) awaits

pub returns-clause-follows : goal.returns-clause-follows
returns-clause-follows g c = λ opening before follows.
    piece-leads (given_of c.args.given) c.args.self.now c.work-need.new.self (g.A.Area.pages opening.area) (g.A.Area.pages c.args.files.now.area)
    (g.A.Area.pages c.work-need.new.files.area) before c.work-need.result (subst (λ s. PieceSo (given_of c.args.given) s (g.A.Area.pages c.args.files.now.area) c.work-need.result c.work-need.new.self
    (g.A.Area.pages c.work-need.new.files.area)) c.self.view_is c.work-need.ensures.piece)
    (λ stays. c.sound-sound.ensures.solo (c.sound-sound.ensures.value ∙ c.work-need.ensures.sound ∙ stays)) follows
