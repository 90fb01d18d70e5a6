use Rattle.std.proofs.Common.{subst}
use Rattle.program_lines.specs.Standing.{StandsFor}
use Rattle.program_lines.proofs.Giving.{is-closed, settled-closed}
use Rattle.program_lines.proofs.program_lines.ProgramLines.close.Goals as goal

pub returns-in-Runs-clause-stands : goal.returns-in-Runs-clause-stands
returns-in-Runs-clause-stands c = λ t given s is_open.
    is-closed c.in-Runs.name c.in-Runs.program c.close.new.self t given (subst (λ l. StandsFor l t given) c.in-Runs.is s) c.close.ensures.stands

pub returns-in-Last-clause-stands : goal.returns-in-Last-clause-stands
returns-in-Last-clause-stands c = λ t given s is_open.
    let same = c.in-Last.is in
    rw same (settled-closed t _ (subst (λ l. StandsFor l t given) same s) is_open)

pub returns-in-Over-clause-stands : goal.returns-in-Over-clause-stands
returns-in-Over-clause-stands c = λ t given s is_open.
    let same = c.in-Over.is in
    rw same (settled-closed t given (subst (λ l. StandsFor l t given) same s) is_open)
