use Rattle.std.proofs.Common.{subst}
use Rattle.program_lines.specs.Standing.{StandsFor}
use Rattle.program_lines.proofs.Giving.{is-fed}
use Rattle.program_lines.proofs.program_lines.ProgramLines.feed.Goals as goal

pub returns-in-Runs : goal.returns-in-Runs
returns-in-Runs c = λ t given s is_open.
    is-fed c.in-Runs.name c.in-Runs.program c.feed.new.self t given c.args.card.now (subst (λ l. StandsFor l t given) c.in-Runs.is s) c.feed.ensures.stands
