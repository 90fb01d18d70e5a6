use Rattle.std.proofs.Common.{◌≡◌, ◌∙◌, Some, subst}
use Rattle.std.specs.Prelude.{slice_get}
use Rattle.solo_work.specs.Paper.{AddsLine}
use Rattle.solo_work.proofs.Lines.{goes-on, page-full, none-given}
use Rattle.solo_work.proofs.printing.Printing.print.Goals as goal

pub returns-in-Some-clause-prints : goal.returns-in-Some-clause-prints
returns-in-Some-clause-prints c = λ pages hand is.
    let line = c.get-line.result in
    page-full c.args.self.now.lines c.args.self.now.next pages hand c.printing.self.next c.printing.paper c.print.new.self line c.in-Some.page
    (subst (λ lines. slice_get lines c.printing.self.next ≡ Some line) c.printing.invariant.lines c.get-line.ensures)
    (c.printing.invariant.printed pages hand is)
    (λ pages hand is. subst (λ r. AddsLine pages hand line r c.print.new.self) c.in-Some.is (c.print.ensures pages hand is))

pub printing-preserved : goal.printing-preserved
printing-preserved c =
    let line = c.get-line.result in
    record {
      printed = λ pages hand is.
          goes-on c.args.self.now.lines c.args.self.now.next pages hand c.printing.self.next c.printing.paper c.print.new.self line
          (subst (λ lines. slice_get lines c.printing.self.next ≡ Some line) c.printing.invariant.lines c.get-line.ensures)
          (c.printing.invariant.printed pages hand is)
          (λ pages hand is. subst (λ r. AddsLine pages hand line r c.print.new.self) (none-given c.print.result c.in_default.not-Some)
          (c.print.ensures pages hand is));
      lines = c.printing.invariant.lines;
      answers = c.printing.invariant.answers;
    }
