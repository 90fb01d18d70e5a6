use Rattle.std.proofs.Common.{◌≡◌, ◌∙◌, ap, sym, Some, None, true, false}
use Rattle.deck_format.specs.Jobs.{opener_in, ends_in}
use Rattle.deck_format.specs.JobReader.{control_in, is_in_group}
use Rattle.deck_format.proofs.Steps.{open_more, end_more, behind_more}
use Rattle.deck_format.proofs.place.step.Goals as goal
use Rattle.deck_format.proofs.place.step.Goals.{else-ends_in-via-then-ends_in+else-is_in_group, else-ends_in-via-else-ends_in}

pub returns-in-Some-clause-next : goal.returns-in-Some-clause-next
returns-in-Some-clause-next c = λ more.
    let opens : opener_in (control_in c.args.item.now) ≡ Some c.in-Some.opener =
    ap opener_in (sym c.control_in-control.ensures) ∙ sym c.opener_in.ensures ∙ c.in-Some.is in
    rw (c.lead.ensures.job, c.lead.ensures.place, c.«open».ensures) (open_more c.args.place.now c.args.item.now c.in-Some.opener more opens)

pub returns-clause-next : goal.returns-clause-next
returns-clause-next c = λ more.
    let plain : opener_in (control_in c.args.item.now) ≡ None =
    ap opener_in (sym c.control_in-control.ensures) ∙ sym c.opener_in.ensures ∙ c.in_default.is in
    let goes_on : is_in_group c.args.place.now ≡ true → ends_in (control_in c.args.item.now) ≡ false =
    λ group. elim c.else-ends_in.branch [
      | else-ends_in-via-then-ends_in+else-is_in_group w ↦
          let outside : is_in_group c.args.place.now ≡ false = sym w.is_in_group.ensures ∙ w.if-is_in_group.false in
          let clash : true ≡ false = sym group ∙ outside in cc
      | else-ends_in-via-else-ends_in w ↦ ap ends_in (sym c.control_in-control.ensures) ∙ sym c.ends_in.ensures ∙ w.if-ends_in.false
    ] in
    rw c.in_ok-add.ensures.ok
    (behind_more c.args.place.now c.args.item.now c.control_in-control.result more c.control_in-control.ensures plain goes_on)

pub returns-then-is_in_group-clause-next : goal.returns-then-is_in_group-clause-next
returns-then-is_in_group-clause-next c = λ more.
    let plain : opener_in (control_in c.args.item.now) ≡ None =
    ap opener_in (sym c.control_in-control.ensures) ∙ sym c.opener_in.ensures ∙ c.in_default.is in
    let ends : ends_in (control_in c.args.item.now) ≡ true =
    ap ends_in (sym c.control_in-control.ensures) ∙ sym c.ends_in.ensures ∙ c.if-ends_in.true in
    let inside : is_in_group c.args.place.now ≡ true = sym c.is_in_group.ensures ∙ c.if-is_in_group.true in
    rw (c.lead-then-is_in_group.ensures.job, c.lead-then-is_in_group.ensures.place) (end_more c.args.place.now c.args.item.now more inside plain ends)
