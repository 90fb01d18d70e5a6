use Rattle.std.proofs.Common.{◌++◌, ◌∷◌, [], subst, sym}
use Rattle.batch_program.specs.Told.{IsAt, Tells, line_in}
use Rattle.program_lines.specs.Standing.{StandsFor, IsSettled}
use Rattle.program_lines.proofs.Giving.{goes-on, waits-so, ends-so, work}
use Rattle.program_lines.proofs.program_lines.ProgramLines.next.Goals as goal

pub returns-in-Line-clause-stands : goal.returns-in-Line-clause-stands
returns-in-Line-clause-stands c = λ t given s.
    goes-on c.in-Runs.name c.in-Runs.program c.next.new.self t given (c.in-Line.line ∷ []) (subst (λ l. StandsFor l t given) c.in-Runs.is s)
    (λ w g at. subst (λ told. IsAt c.next.new.self w (g ++ line_in told)) c.in-Line.is (c.next.ensures.stands w g at))

pub returns-in-WaitsForCard-clause-stands : goal.returns-in-WaitsForCard-clause-stands
returns-in-WaitsForCard-clause-stands c = λ t given s.
    goes-on c.in-Runs.name c.in-Runs.program c.next.new.self t given [] (subst (λ l. StandsFor l t given) c.in-Runs.is s)
    (λ w g at. subst (λ told. IsAt c.next.new.self w (g ++ line_in told)) c.in-WaitsForCard.is (c.next.ensures.stands w g at))

pub returns-in-WaitsForCard-clause-none : goal.returns-in-WaitsForCard-clause-none
returns-in-WaitsForCard-clause-none c = λ none t given s.
    let u = subst (λ l. StandsFor l t given) c.in-Runs.is s in
    let w = work c.in-Runs.name c.in-Runs.program t given u in
    waits-so c.in-Runs.name c.in-Runs.program t given u
    (subst (λ told. Tells w given told) c.in-WaitsForCard.is (c.next.ensures.tells w given u.at))

pub returns-in-Ended-clause-stands : goal.returns-in-Ended-clause-stands
returns-in-Ended-clause-stands c = λ t given s.
    let u = subst (λ l. StandsFor l t given) c.in-Runs.is s in
    let w = work c.in-Runs.name c.in-Runs.program t given u in
    subst (λ line. IsSettled t (given ++ line ∷ [])) (sym c.result_line-last.ensures)
    (ends-so c.in-Runs.name c.in-Runs.program t given u c.in-Ended.how c.in-Ended.line
    (subst (λ told. Tells w given told) c.in-Ended.is (c.next.ensures.tells w given u.at)))
