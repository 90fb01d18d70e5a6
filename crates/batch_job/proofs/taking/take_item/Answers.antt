use Rattle.std.proofs.Common.{◌≡◌, ◌∙◌, List, Some, true, false, refl, sym, ap}
use Rattle.deck_format.specs.Jobs.{opener_of, opener_in, ends_in}
use Rattle.deck_format.specs.JobReader.{control_in}
use Rattle.disk_contents.specs.declared.loading.Loaded.{Loaded}
use Rattle.batch_job.specs.Loads.{load_for}
use Rattle.batch_job.specs.LinesAhead.{Where, is_in_group}
use Rattle.batch_job.specs.Places.{IsPart, HasLoad, Leads, Opens, Ends, Adds}
use Rattle.batch_job.proofs.Account.{none-found, opener-leads, opener-leaves, none-leaves, ends-so, adds-so, same-group}
use Rattle.batch_job.proofs.RunLines.{on-ok}
use Rattle.batch_job.proofs.taking.take_item.Goals.{else-ends_in-via-then-ends_in+else-is_in_group, else-ends_in-via-else-ends_in}
use Rattle.batch_job.proofs.taking.take_item.Goals as goal

pub returns-in-Some-clause-leads : goal.returns-in-Some-clause-leads
returns-in-Some-clause-leads c =
    let is = ap opener_in (sym c.control_in-control.ensures) ∙ sym c.opener_in.ensures ∙ c.in-Some.is in
    let item = c.args.item.now in
    let o = c.in-Some.opener in
    let loads = c.args.loads.now.given in
    let left = c.take_opener.new.loads.given in
    let p = c.take_opener.new.part in
    on-ok c.take_opener.result
    ((place : Where) (load : Loaded) (then_left : List Loaded) → IsPart c.args.part.now place → load_for o loads ≡ Some (load, then_left)
    → Opens place o loads then_left c.take_opener.new.waiting p)
    ((place : Where) → IsPart c.args.part.now place → HasLoad (opener_of item) loads → Leads place item loads left c.take_opener.new.waiting p)
    (λ opens place at has.
    opener-leads place item o loads left c.take_opener.new.waiting p is (λ load then_left found. opens place load then_left at found) c.take_opener.ensures.left has)
    c.take_opener.ensures.opens

pub returns-in-Some-clause-left : goal.returns-in-Some-clause-left
returns-in-Some-clause-left c =
    let is = ap opener_in (sym c.control_in-control.ensures) ∙ sym c.opener_in.ensures ∙ c.in-Some.is in
    on-ok c.take_opener.result _ _
    (λ opens has. opener-leaves c.args.item.now c.in-Some.opener c.args.loads.now.given c.take_opener.new.loads.given is c.take_opener.ensures.left has)
    c.take_opener.ensures.opens

pub returns-then-is_in_group-clause-leads : goal.returns-then-is_in_group-clause-leads
returns-then-is_in_group-clause-leads c =
    let none = ap opener_in (sym c.control_in-control.ensures) ∙ sym c.opener_in.ensures ∙ none-found c.opener_in.result c.in_default.not-Some in
    let end = ap ends_in (sym c.control_in-control.ensures) ∙ sym c.ends_in.ensures ∙ c.if-ends_in.true in
    let item = c.args.item.now in
    let loads = c.args.loads.now.given in
    on-ok c.take_end.result ((place : Where) → IsPart c.args.part.now place → Ends place c.take_end.new.waiting c.take_end.new.part)
    ((place : Where) → IsPart c.args.part.now place → HasLoad (opener_of item) loads → Leads place item loads loads c.take_end.new.waiting c.take_end.new.part)
    (λ closes place at has. ends-so place item loads loads c.take_end.new.waiting c.take_end.new.part refl
    (sym (same-group c.args.part.now place at) ∙ sym c.is_in_group.ensures ∙ c.if-is_in_group.true) none end (closes place at)) c.take_end.ensures

pub returns-then-is_in_group-clause-left : goal.returns-then-is_in_group-clause-left
returns-then-is_in_group-clause-left c =
    let none = ap opener_in (sym c.control_in-control.ensures) ∙ sym c.opener_in.ensures ∙ none-found c.opener_in.result c.in_default.not-Some in
    on-ok c.take_end.result _ _ (λ closes has. none-leaves c.args.item.now c.args.loads.now.given none) c.take_end.ensures

pub returns-clause-leads : goal.returns-clause-leads
returns-clause-leads c =
    let none = ap opener_in (sym c.control_in-control.ensures) ∙ sym c.opener_in.ensures ∙ none-found c.opener_in.result c.in_default.not-Some in
    let item = c.args.item.now in
    let loads = c.args.loads.now.given in
    let goes_on : (place : Where) → IsPart c.args.part.now place → is_in_group place ≡ true → ends_in (control_in item) ≡ false = λ place at.
    elim c.else-ends_in.branch [
      | else-ends_in-via-then-ends_in+else-is_in_group w ↦ (λ group.
          absurd (let inside = same-group c.args.part.now place at ∙ group in let other = w.if-is_in_group.false in let is = w.is_in_group.ensures in cc))
      | else-ends_in-via-else-ends_in w ↦ (λ group. ap ends_in (sym c.control_in-control.ensures) ∙ sym c.ends_in.ensures ∙ w.if-ends_in.false)
    ] in
    on-ok c.add.result ((place : Where) → IsPart c.args.part.now place → Adds place item c.add.new.waiting c.add.new.part)
    ((place : Where) → IsPart c.args.part.now place → HasLoad (opener_of item) loads → Leads place item loads loads c.add.new.waiting c.add.new.part)
    (λ adds place at has. adds-so place item loads loads c.add.new.waiting c.add.new.part refl (goes_on place at) none (adds place at)) c.add.ensures

pub returns-clause-left : goal.returns-clause-left
returns-clause-left c =
    let none = ap opener_in (sym c.control_in-control.ensures) ∙ sym c.opener_in.ensures ∙ none-found c.opener_in.result c.in_default.not-Some in
    on-ok c.add.result _ _ (λ adds has. none-leaves c.args.item.now c.args.loads.now.given none) c.add.ensures
