use Rattle.std.proofs.Common.{true, Ok, [], ◌∷◌, ◌++◌, refl, sym, ap, ◌∙◌, append-nil}
use Rattle.solo_base.specs.declared.outcome.Side.TheVariants.{Receiver}
use Rattle.slot_buffer.specs.Calls.{taken_of, was_refused}
use Rattle.pipeline.specs.declared.parcel.Parcel.TheVariants.{Item, End}
use Rattle.pipeline.specs.Rows.{items}
use Rattle.pipeline.proofs.AtEnds.{collected}
use Rattle.pipeline.proofs.Calls.{stop_took, take_none, take_one, take_refused, unheard, when_err, when_ok}
use Rattle.pipeline.proofs.Parts.{items-append}
use Rattle.pipeline.proofs.sink.take_all.Goals as goal

pub returns-then-not-go-clause-comes : goal.returns-then-not-go-clause-comes
returns-then-not-go-clause-comes g c = c.refused.ensures.comes (λ xs. xs)

pub returns-in_default-clause-comes : goal.returns-in_default-clause-comes
returns-in_default-clause-comes g c =
    let took = ap (λ e. taken_of e.calls) c.take.ensures.call ∙ take_none c.loop.taker.calls c.in_default.field-0 c.take.result c.in_default.is ∙ c.loop.invariant.2 in
    let told = ap (λ e. was_refused e.calls) c.take.ensures.call ∙ take_refused c.loop.taker.calls c.in_default.field-0 c.take.result c.in_default.is in
    collected (g.Z.Sink.took c.loop.sink) [] _ _ (took ∙ sym (append-nil (items (g.Z.Sink.took c.loop.sink)))) c.take.ensures.not_stopped (λ none. unheard _ told none)

pub returns-in-End-clause-comes : goal.returns-in-End-clause-comes
returns-in-End-clause-comes g c =
    let took = ap (λ e. taken_of e.calls) c.take.ensures.call ∙ take_one c.loop.taker.calls End c.take.result (c.in-Ok.is ∙ ap Ok c.in-End.is) in
    collected (g.Z.Sink.took c.loop.sink) (End ∷ []) _ _ (took ∙ ap (λ t. t ++ End ∷ []) c.loop.invariant.2) c.take.ensures.not_stopped (λ none. refl)

pub returns-then-is_err-clause-comes : goal.returns-then-is_err-clause-comes
returns-then-is_err-clause-comes g c =
    let last = Item c.in-Item.item ∷ [] in
    let took = ap (λ e. taken_of e.calls) c.take.ensures.call ∙ take_one c.loop.taker.calls (Item c.in-Item.item) c.take.result (c.in-Ok.is ∙ ap Ok c.in-Item.is) in
    let stopped = ap (λ e. taken_of e.calls) c.stop.ensures ∙ stop_took c.take.new.self.calls Receiver in
    let kept = when_err c.put.result c.put.ensures.kept (sym c.is_err.ensures.value ∙ c.if-is_err.true) in
    collected (g.Z.Sink.took c.put.new.self) last _ _ (stopped ∙ took ∙ ap (λ t. t ++ last) (c.loop.invariant.2 ∙ ap items (sym kept))) tt tt

pub loop-preserved : goal.loop-preserved
loop-preserved g c =
    let last = c.in-Item.item ∷ [] in
    let took = ap (λ e. taken_of e.calls) c.take.ensures.call ∙ take_one c.loop.taker.calls (Item c.in-Item.item) c.take.result (c.in-Ok.is ∙ ap Ok c.in-Item.is) in
    let more = when_ok c.put.result c.put.ensures.took (sym c.is_err.ensures.value ∙ c.if-is_err.false) in (
      ap (λ e. e.gate) c.take.ensures.call ∙ c.loop.invariant.0,
      c.take.ensures.not_stopped,
      took ∙ ap (λ t. t ++ items last) c.loop.invariant.2 ∙ sym (items-append (g.Z.Sink.took c.loop.sink) last) ∙ ap items (sym more),
    )
