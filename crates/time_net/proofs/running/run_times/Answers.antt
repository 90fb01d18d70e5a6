use Rattle.std.proofs.Common.{◌∙◌, sym, subst}
use Rattle.solo_devices.specs.Typewriter.{Typing}
use Rattle.network_run.proofs.Along.{place-behind}
use Rattle.real_time.specs.TimesLaw.{timing}
use Rattle.time_net.specs.TimeStands.{IsCounted, IsFaultOfTimes, tellers, times_place}
use Rattle.time_net.specs.TimesRuns.{fault_told}
use Rattle.time_net.proofs.Finishing.{well-done}
use Rattle.time_net.proofs.WholeRuns.{counted-first, known-first, none-granted, outcome-told, the-counts, the-fault, to-end}
use Rattle.time_net.proofs.running.run_times.Goals as goal

pub run_by-counts-requires : goal.run_by-counts-requires
run_by-counts-requires g c = record { before = times_place c.make-net.ensures }

pub finish-requires : goal.finish-requires
finish-requires g c = (let run = c.run_by-counts.ensures in record { ended = record { at = run.after; ended = run.ended run.after } })

pub returns-clause-runs : goal.returns-clause-runs
returns-clause-runs g c =
    let tells = tellers g.Y.Source.left g.Y.Source.taken g.Y.Source.faults g.T.Sink.given g.T.Sink.faults in
    let at = times_place c.make-net.ensures in
    let ran = c.run_by-counts.ensures.runs at in
    let behind = place-behind timing _ _ at ran.events ran.enabled ran.stands in
    to-end tells c.make-net.result c.run_by-counts.new.self c.args.rule at c.run_by-counts.result ran (c.run_by-counts.ensures.ended behind)
    c.finish.result.runs (c.finish.ensures.runs behind) c.finish.result.typewriter c.finish.ensures.typewriter

pub returns-clause-counts : goal.returns-clause-counts
returns-clause-counts g c =
    let tells = tellers g.Y.Source.left g.Y.Source.taken g.Y.Source.faults g.T.Sink.given g.T.Sink.faults in λ items told done.
    let at = times_place c.make-net.ensures in
    let ran = c.run_by-counts.ensures.runs at in
    the-counts tells c.make-net.result c.run_by-counts.new.self c.args.rule at c.run_by-counts.result ran
    (c.run_by-counts.ensures.ended (place-behind timing _ _ at ran.events ran.enabled ran.stands)) items told
    (well-done c.run_by-counts.new.self.operator.fault (sym c.finish.ensures.outcome ∙ done))

pub returns-clause-grants : goal.returns-clause-grants
returns-clause-grants g c =
    let ran = c.run_by-counts.ensures.runs (times_place c.make-net.ensures) in
    none-granted _ ran.events c.run_by-counts.result ran.counts_are

pub returns-clause-shows : goal.returns-clause-shows
returns-clause-shows g c = λ items told.
    let at = times_place c.make-net.ensures in
    let ran = c.run_by-counts.ensures.runs at in
    c.finish.ensures.shows (place-behind timing _ _ at ran.events ran.enabled ran.stands) items told

pub returns-clause-counted : goal.returns-clause-counted
returns-clause-counted g c =
    let tells = tellers g.Y.Source.left g.Y.Source.taken g.Y.Source.faults g.T.Sink.given g.T.Sink.faults in
    subst (λ (t : Typing _ _). IsCounted tells c.args.source c.args.sink (fault_told c.finish.result.outcome) t) (sym c.finish.ensures.typewriter)
    (subst (λ f. IsCounted tells c.args.source c.args.sink f c.run_by-counts.new.self.typewriter) (the-fault c.finish.result.outcome
    c.run_by-counts.new.self.operator.fault c.finish.ensures.outcome)
    (c.run_by-counts.ensures.keeps.counted c.args.source c.args.sink (counted-first tells c.make-net.result c.args.source c.args.sink c.make-net.ensures
    c.requires)))

pub returns-clause-known : goal.returns-clause-known
returns-clause-known g c =
    let tells = tellers g.Y.Source.left g.Y.Source.taken g.Y.Source.faults g.T.Sink.given g.T.Sink.faults in
    subst IsFaultOfTimes (the-fault c.finish.result.outcome c.run_by-counts.new.self.operator.fault c.finish.ensures.outcome)
    (c.run_by-counts.ensures.keeps.known (known-first tells c.make-net.result c.args.source c.args.sink c.make-net.ensures))

pub returns-clause-ends : goal.returns-clause-ends
returns-clause-ends g c = outcome-told c.finish.result.outcome c.run_by-counts.new.self.operator.fault c.finish.ensures.outcome
