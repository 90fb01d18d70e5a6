use Rattle.run_report.specs.Told.{sink_told}
use Rattle.solo_cli.proofs.Judging.{judged}
use Rattle.solo_cli.proofs.check.check.Goals as goal

pub returns : goal.returns
returns g c =
    let r = c.read_deck-items.ensures in
    let p = c.print_judgement-cause.ensures in
    judged (sink_told g.K.Sink) c.args.paper c.print_judgement-cause.result.1 (λ items. items.items)
    c.read_deck-items.result.0 p.judged p.refused r.known r.all_taken r.items c.requires r.total r.failed r.limit r.beyond
