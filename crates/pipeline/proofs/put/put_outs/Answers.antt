use Rattle.std.proofs.Common.{refl, sym, ap, ◌∙◌, rules}
use Rattle.slot_buffer.specs.Calls.{sent_of}
use Rattle.pipeline.specs.declared.parcel.Parcel.TheVariants.{Item}
use Rattle.pipeline.proofs.Calls.{put_one}
use Rattle.pipeline.proofs.Turns.{gave_more, gave_so}
use Rattle.pipeline.proofs.put.put_outs.Goals as goal

pub loop-item-preserved : goal.loop-item-preserved
loop-item-preserved g c = (
  search rules,
  c.put.ensures.not_stopped,
  gave_more _ _ _ c.in-Some.item _ _ _ c.loop-item.invariant.2 c.in-Some.ensures.first
      (ap (λ e. sent_of e.calls) c.put.ensures.call ∙ put_one c.loop-item.putter.calls (Item c.in-Some.item) c.put.result (sym c.is_err.ensures.value ∙ c.if-is_err.false)),
)

pub returns-clause-all : goal.returns-clause-all
returns-clause-all g c = λ same. gave_so _ _ _ _ _ _ c.loop-item.invariant.2 (c.in_default.ensures.first ∙ c.in_default.ensures.none) refl
