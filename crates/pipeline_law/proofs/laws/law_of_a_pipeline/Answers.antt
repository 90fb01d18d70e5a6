use Rattle.std.proofs.Common.{refl}
use Rattle.row_law.proofs.Calls.{row-events}
use Rattle.row_law.proofs.Lawful.{lawful}
use Rattle.row_law.proofs.Passing.{pass-alike}
use Rattle.row_law.proofs.Ranked.{never-stuck}
use Rattle.row_law.proofs.Reached.{ends}
use Rattle.row_law.proofs.Stuck.{is-ranked}
use Rattle.row_chain.proofs.Chains.{has-causes, has-ranks, is-row}
use Rattle.row_chain.proofs.Determined.{are-determined, lacks-rightly}
use Rattle.row_chain.specs.Chain.{row_of}
use Rattle.pipeline_law.specs.Steps.{openings_of, pipeline_of}
use Rattle.pipeline_law.proofs.laws.law_of_a_pipeline.Goals as goal

pub returns-clause-never_stuck : goal.returns-clause-never_stuck
returns-clause-never_stuck g c =
    let chain = pipeline_of g.P.PipelineOf.count g.P.PipelineOf.steps in let openings = openings_of _ g.P.PipelineOf.places in
    λ o s reached none. never-stuck (lawful (row_of chain) (is-row chain)) openings o s g.met.P.PipelineOf.some_place
    (is-ranked (row_of chain) (is-row chain) (openings.sizes o) (has-ranks chain (openings.sizes o))) reached none

pub returns-clause-ends : goal.returns-clause-ends
returns-clause-ends g c =
    let chain = pipeline_of g.P.PipelineOf.count g.P.PipelineOf.steps in
    λ o s reached. ends (row_of chain) (openings_of _ g.P.PipelineOf.places) (is-row chain) (has-causes chain) o s reached

pub returns-clause-determined : goal.returns-clause-determined
returns-clause-determined g c =
    let chain = pipeline_of g.P.PipelineOf.count g.P.PipelineOf.steps in
    λ o u s z one two heard.
    pass-alike (row_of chain) (openings_of _ g.P.PipelineOf.places) (is-row chain) (are-determined chain) o u s z (λ b. refl) (λ b. refl) one two heard

pub returns-clause-few_events : goal.returns-clause-few_events
returns-clause-few_events g c =
    let chain = pipeline_of g.P.PipelineOf.count g.P.PipelineOf.steps in
    λ o events are. row-events (row_of chain) (is-row chain) (openings_of _ g.P.PipelineOf.places) o events (λ p one. lacks-rightly chain p) are
