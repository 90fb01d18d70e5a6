use Rattle.std.proofs.Common.{◌∙◌, ap, get_or}
use Rattle.real_time.specs.Awaiting.{Row}
use Rattle.time_net.specs.Standing.{runs_text}
use Rattle.time_net.proofs.Operating.{asks-runs}
use Rattle.time_net.proofs.operator.Operator.tell_runs.Goals as goal

pub returns : goal.returns
returns c = λ s w tasks.
    asks-runs c.args.self.now.tasks.items c.args.place s.script s.fault s c.runs_line.result c.index-rows-place.result c.runs.result w
    (c.runs.ensures ∙ (tasks.each c.args.place _ w.few).runs_are)
    (λ inside. c.runs_line.ensures ∙ ap (λ name. runs_text name c.runs.result)
    (c.name.ensures ∙ ap (λ (row : Row). row.name) (c.index-rows-place.is
    ∙ ap (λ rows. get_or rows c.args.place c.index-rows-place.result) c.as_slice-rows.ensures.value)))
