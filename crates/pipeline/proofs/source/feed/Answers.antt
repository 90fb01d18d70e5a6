use Rattle.std.proofs.Common.{Ok, [], ◌∷◌, ◌++◌, option_to_list, refl, sym, ap, ◌∙◌, append-nil, subst}
use Rattle.solo_base.specs.declared.outcome.Side.TheVariants.{Sender}
use Rattle.slot_buffer.specs.Calls.{has_stop, sent_of, was_refused}
use Rattle.pipeline.specs.declared.parcel.Parcel.TheVariants.{Item}
use Rattle.pipeline.specs.First.{IsFirst}
use Rattle.pipeline.specs.Rows.{items}
use Rattle.pipeline.proofs.AtEnds.{all_first, fed_end, fed_part}
use Rattle.pipeline.proofs.Calls.{put_none, put_one, put_refused, stop_put, unheard}
use Rattle.pipeline.proofs.Parts.{items-append, none_first}
use Rattle.pipeline.proofs.source.feed.Goals as goal

pub loop-init : goal.loop-init
loop-init g c = (
  ap (λ e. e.gate) c.requires.putter,
  ap (λ e. has_stop e.calls) c.requires.putter,
  ap (λ e. sent_of e.calls) c.requires.putter ∙ ap items (sym c.requires.begins),
  refl,
  λ all tell. subst (λ gave. IsFirst gave all) (sym c.requires.begins) (none_first all),
)

pub returns-in-Err-clause-fed : goal.returns-in-Err-clause-fed
returns-in-Err-clause-fed g c =
    let sent = ap (λ e. sent_of e.calls) c.stop.ensures ∙ stop_put c.loop.putter.calls Sender ∙ c.loop.invariant.2 ∙ ap items (sym c.in-Err.ensures.kept) in
    let tells = c.next-in-loop.ensures.tells ∙ c.loop.invariant.3 in
    fed_part _ _ _ _ _ sent (all_first _) (λ all tell. c.next-in-loop.ensures.within all (tells ∙ tell)) tt tt

pub returns-in-Ok-None-clause-fed : goal.returns-in-Ok-None-clause-fed
returns-in-Ok-None-clause-fed g c =
    let tells = c.next-in-loop.ensures.tells ∙ c.loop.invariant.3 in
    let gave = c.in-Ok-None.ensures.gave ∙ ap (λ item. g.S.Source.gave c.loop.source ++ option_to_list item) c.in-Ok-None.field-0-is ∙ append-nil (g.S.Source.gave c.loop.source) in
    let over = c.next-in-loop.ensures.over (c.in-Ok-None.is ∙ ap Ok c.in-Ok-None.field-0-is) in
    fed_end _ _ c.loop.putter.calls _ c.put.result (ap (λ e. e.calls) c.put.ensures.call) (c.loop.invariant.2 ∙ ap items (sym gave)) c.put.ensures.not_stopped
    (λ all tell. c.next-in-loop.ensures.within all (tells ∙ tell)) (λ all tell. over all (tells ∙ tell)) _

pub returns-then-is_err-clause-fed : goal.returns-then-is_err-clause-fed
returns-then-is_err-clause-fed g c =
    let tells = c.next-in-loop.ensures.tells ∙ c.loop.invariant.3 in
    let item = c.in-Ok-Some.item in let calls = c.loop.putter.calls in let refused = sym c.is_err.ensures.value ∙ c.if-is_err.true in
    let gave = c.in-Ok-Some.ensures.gave ∙ ap (λ item. g.S.Source.gave c.loop.source ++ option_to_list item) c.in-Ok-Some.field-0-is in
    let sent = ap (λ e. sent_of e.calls) c.put-in-Ok-Some.ensures.call ∙ put_none calls (Item item) c.put-in-Ok-Some.result refused ∙ c.loop.invariant.2 in
    let told = ap (λ e. was_refused e.calls) c.put-in-Ok-Some.ensures.call ∙ put_refused calls (Item item) c.put-in-Ok-Some.result refused in
    fed_part _ _ _ _ (g.S.Source.gave c.loop.source) sent (record { later = item ∷ []; all_are = gave }) (λ all tell. c.next-in-loop.ensures.within all (tells ∙ tell))
    c.put-in-Ok-Some.ensures.not_stopped (λ none. unheard _ told none)

pub loop-preserved : goal.loop-preserved
loop-preserved g c =
    let item = c.in-Ok-Some.item in let tells = c.next-in-loop.ensures.tells ∙ c.loop.invariant.3 in
    let gave = c.in-Ok-Some.ensures.gave ∙ ap (λ item. g.S.Source.gave c.loop.source ++ option_to_list item) c.in-Ok-Some.field-0-is in
    let sent = ap (λ e. sent_of e.calls) c.put-in-Ok-Some.ensures.call ∙ put_one c.loop.putter.calls (Item item) c.put-in-Ok-Some.result (sym c.is_err.ensures.value ∙ c.if-is_err.false) in (
      ap (λ e. e.gate) c.put-in-Ok-Some.ensures.call ∙ c.loop.invariant.0,
      c.put-in-Ok-Some.ensures.not_stopped,
      sent ∙ ap (λ s. s ++ Item item ∷ []) c.loop.invariant.2 ∙ sym (items-append (g.S.Source.gave c.loop.source) (item ∷ [])) ∙ ap items (sym gave),
      tells,
      λ all tell. c.next-in-loop.ensures.within all tell,
    )
