use Rattle.std.proofs.Common.{[], ◌∷◌, ◌++◌, sym, ap, ◌∙◌, subst}
use Rattle.slot_buffer.specs.Calls.{sent_of}
use Rattle.pipeline.specs.declared.parcel.Parcel.TheVariants.{End}
use Rattle.pipeline.specs.Rows.{Leads}
use Rattle.pipeline.proofs.Calls.{put_none, put_one, when_ok}
use Rattle.pipeline.proofs.Turns.{last_broke, last_closes, last_stayed}
use Rattle.pipeline.proofs.work.pass_last.Goals as goal

pub returns-then-is_err-clause-leads : goal.returns-then-is_err-clause-leads
returns-then-is_err-clause-leads g c = λ gives taken goes. last_stayed gives _ taken _ goes

pub returns-then-not-put_outs-clause-leads : goal.returns-then-not-put_outs-clause-leads
returns-then-not-put_outs-clause-leads g c =
    let last = when_ok c.last.result c.last.ensures (sym c.is_err.ensures.value ∙ c.if-is_err.false) in
    let gave = c.put_outs.ensures.first c.if-not-put_outs.true in
    λ gives taken goes. last_broke gives _ taken _ _ _ _ gave.0 c.requires.empty last gave.1 goes

pub returns-then-is_err-2-clause-leads : goal.returns-then-is_err-2-clause-leads
returns-then-is_err-2-clause-leads g c =
    let last = when_ok c.last.result c.last.ensures (sym c.is_err.ensures.value ∙ c.if-is_err.false) in
    let gave = c.put_outs.ensures.all c.if-not-put_outs.false in
    let same = ap (λ e. sent_of e.calls) c.put.ensures.call ∙ put_none c.put_outs.new.putter.calls End c.put.result (sym c.is_err-2.ensures.value ∙ c.if-is_err-2.true) in
    λ gives taken goes. subst (λ s. Leads gives (taken ++ End ∷ []) s) (sym same) (last_broke gives _ taken _ _ _ _ [] c.requires.empty last gave goes)

pub returns-clause-leads : goal.returns-clause-leads
returns-clause-leads g c =
    let last = when_ok c.last.result c.last.ensures (sym c.is_err.ensures.value ∙ c.if-is_err.false) in
    let gave = c.put_outs.ensures.all c.if-not-put_outs.false in
    let same = ap (λ e. sent_of e.calls) c.put.ensures.call ∙ put_one c.put_outs.new.putter.calls End c.put.result (sym c.is_err-2.ensures.value ∙ c.if-is_err-2.false) in
    λ gives taken goes. subst (λ s. Leads gives (taken ++ End ∷ []) s) (sym same) (last_closes gives _ taken _ _ _ _ c.requires.empty last gave goes)
