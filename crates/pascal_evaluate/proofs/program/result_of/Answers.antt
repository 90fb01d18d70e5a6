use Rattle.std.proofs.Common.{◌≡◌, subst}
use Rattle.solo_base.specs.declared.outcome.ProgResult.{ProgResult}
use Rattle.pascal_mean.specs.Meaning.{outcome_of}
use Rattle.pascal_evaluate.specs.declared.stop.Stop.{Stop}
use Rattle.pascal_evaluate.specs.declared.stop.Stop.TheVariants as stop
use Rattle.pascal_evaluate.specs.Ran.{IsEnd, IsStopped}
use Rattle.pascal_evaluate.proofs.Activations.{if_ok}
use Rattle.pascal_evaluate.proofs.Ended.{ends_well, ends_badly}
use Rattle.pascal_evaluate.proofs.program.result_of.Goals as goal

pub returns-in-Ok : goal.returns-in-Ok
returns-in-Ok c course now is = ends_well course now (rw c.in-Ok.is at is)

pub returns-in-Err : goal.returns-in-Err
returns-in-Err c course now is =
    let stopped : IsStopped course c.in-Err.stop now = rw c.in-Err.is at is in
    let ended : (r : ProgResult) → c.in-Err.stop ≡ stop.Over r → IsEnd (outcome_of course) r now =
    λ r over. ends_badly course r now (subst (λ (s : Stop). IsStopped course s now) over stopped) in
    if_ok c.result.result (λ (r : ProgResult). c.in-Err.stop ≡ stop.Over r) (λ (r : ProgResult). IsEnd (outcome_of course) r now) c.result.ensures ended
