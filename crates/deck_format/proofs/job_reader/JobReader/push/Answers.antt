use Rattle.std.specs.Prelude.{◌≡◌, List, ◌∷◌, ◌++◌, Option, []}
use Rattle.std.proofs.lemmas.Result.{IfOk-weaker}
use Rattle.solo_base.specs.declared.item.Item.{Item}
use Rattle.deck_format.specs.declared.job.Job.{Job}
use Rattle.deck_format.specs.JobReader.{given, jobs_from, StandsFor}
use Rattle.deck_format.specs.Completed.{completed}
use Rattle.deck_format.proofs.Completed.{push-completes}
use Rattle.deck_format.proofs.job_reader.JobReader.push.Goals as goal

pub returns-clause-completes : goal.returns-clause-completes
returns-clause-completes c = rw (← c.self.view_is)
    (IfOk-weaker c.step.result
    (λ (job : Option Job). (more : List Item) → jobs_from c.self.inside.place (c.args.item.now ∷ more) ≡ given job ++ jobs_from c.step.new.place more)
    (λ (job : Option Job). (items : List Item) (so_far : List Job) → StandsFor c.self.inside.place items so_far → completed (items ++ c.args.item.now ∷ []) ≡ completed items ++ given job)
    (λ job next. push-completes c.self.inside.place c.step.new.place c.args.item.now (given job) next) c.step.ensures.next)
