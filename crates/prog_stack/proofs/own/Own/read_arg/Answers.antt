use Rattle.std.proofs.Common.{◌+◌, drop, sym, ◌∙◌, ap}
use Rattle.program_task.specs.Arguments.{argument}
use Rattle.program_task.specs.Program.{simply}
use Rattle.prog_stack.specs.contracts.own.Own.{the_view}
use Rattle.prog_stack.proofs.OwnRows.{one_left, reads_next}
use Rattle.prog_stack.proofs.own.Own.read_arg.Goals as goal

pub returns-clause-row : goal.returns-clause-row
returns-clause-row c = λ deeper w.
    let first = c.get-first.result in
    let rest = drop (c.self.inside.read + 1) c.self.inside.incoming in
    let is = ap (λ o. o.incoming) (sym c.self.view_is) ∙ one_left c.self.inside.incoming c.self.inside.read first c.get-first.ensures in
    reads_next c.args.self.now first rest w is ∙ ap (λ o. simply (argument first) (record o { incoming = rest }) w) (sym c.self.view_is)
    ∙ ap (λ r. simply r (record (the_view c.self.inside) { incoming = rest }) w) (sym c.argument-2.ensures.value)
