use Rattle.program_lines.proofs.Giving.{begins}
use Rattle.program_lines.proofs.program_lines.ProgramLines.start.Goals as goal

pub returns-in_ok-program-in-Ok : goal.returns-in_ok-program-in-Ok
returns-in_ok-program-in-Ok c =
    let is = c.in-Ok.ensures.code in
    begins c.args.name c.args.limit c.args.cards.now c.in-Ok.code c.in_ok-program-in-Ok.program is
    (λ limit replies fits. c.in-Ok.ensures.meaning is.program limit replies is.comes_to fits) c.in_ok-program-in-Ok.ensures.stands
