use Rattle.std.proofs.Common.{refl, sym, ◌∙◌}
use Rattle.pipeline.proofs.Calls.{when_ok}
use Rattle.pipeline.proofs.Turns.{goes_leads, turn_broke, turn_goes, turn_stayed}
use Rattle.pipeline.proofs.work.pass_on.Goals as goal

pub returns-then-is_err-clause-leads : goal.returns-then-is_err-clause-leads
returns-then-is_err-clause-leads g c = λ gives taken goes. turn_stayed gives _ taken _ c.args.item goes

pub returns-then-not-put_outs-clause-leads : goal.returns-then-not-put_outs-clause-leads
returns-then-not-put_outs-clause-leads g c =
    let step = when_ok c.step.result c.step.ensures (sym c.is_err.ensures.value ∙ c.if-is_err.false) in
    let gave = c.put_outs.ensures.first c.if-not-put_outs.true in
    λ gives taken goes. turn_broke gives _ _ taken _ _ c.args.item _ _ gave.0 c.requires.empty step gave.1 goes

pub returns-clause-goes : goal.returns-clause-goes
returns-clause-goes g c =
    let step = when_ok c.step.result c.step.ensures (sym c.is_err.ensures.value ∙ c.if-is_err.false) in
    let gave = c.put_outs.ensures.all c.if-not-put_outs.false in
    λ same gives taken goes. turn_goes gives _ _ taken _ _ c.args.item _ _ c.requires.empty step gave goes

pub returns-clause-leads : goal.returns-clause-leads
returns-clause-leads g c = λ gives taken goes. goes_leads gives _ _ _ (returns-clause-goes g c refl gives taken goes)
