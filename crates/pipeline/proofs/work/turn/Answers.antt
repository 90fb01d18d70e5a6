use Rattle.std.proofs.Common.{Ok, refl, ap, ◌∙◌}
use Rattle.solo_base.specs.declared.outcome.Side.TheVariants.{Sender}
use Rattle.slot_buffer.specs.Calls.{sent_of, taken_of, was_refused}
use Rattle.pipeline.specs.declared.parcel.Parcel.TheVariants.{Item}
use Rattle.pipeline.proofs.Calls.{stop_put, take_none, take_one, take_refused, unheard}
use Rattle.pipeline.proofs.Turns.{goes_at, goes_leads}
use Rattle.pipeline.proofs.work.turn.Goals as goal

pub returns-in_default-clause-worked : goal.returns-in_default-clause-worked
returns-in_default-clause-worked g c =
    let took = ap (λ e. taken_of e.calls) c.take.ensures.call ∙ take_none c.args.taker.now.calls c.in_default.field-0 c.take.result c.in_default.is in
    let told = ap (λ e. was_refused e.calls) c.take.ensures.call ∙ take_refused c.args.taker.now.calls c.in_default.field-0 c.take.result c.in_default.is in
    let put = ap (λ e. sent_of e.calls) c.stop.ensures ∙ stop_put c.args.putter.now.calls Sender in
    λ gives goes. record {
      leads = goes_leads gives _ _ _ (goes_at gives _ _ _ _ _ took put goes);
      heeds = λ none. c.take.ensures.not_stopped;
      goes_on = λ none heard. unheard _ told heard;
    }

pub returns-in-All-clause-goes : goal.returns-in-All-clause-goes
returns-in-All-clause-goes g c =
    let took = ap (λ e. taken_of e.calls) c.take.ensures.call ∙ take_one c.args.taker.now.calls (Item c.in-Item.item) c.take.result (c.in-Ok.is ∙ ap Ok c.in-Item.is) in
    λ on gives goes. goes_at gives _ _ _ _ _ took refl (c.pass_on.ensures.goes c.in-All.is gives _ goes)
