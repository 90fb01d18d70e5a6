use Rattle.std.proofs.Common.{rules, ◌≡◌, subst, sym, ◌∙◌}
use Rattle.deck_format.specs.Jobs.{card_count}
use Rattle.batch_job.specs.Places.{IsPart}
use Rattle.batch_job.proofs.Account.{stretch-over, stretch-line, list-line, program-ends, input-ends, dropped-over}
use Rattle.batch_job.proofs.taking.end_part.Goals as goal

pub returns-then-count-eq0-clause-lines : goal.returns-then-count-eq0-clause-lines
returns-then-count-eq0-clause-lines c = λ place is.
    stretch-over c.in-Stretch.count place (subst (λ p. IsPart p place) (sym c.replace.ensures.value ∙ c.in-Stretch.is) is) c.if-count-eq0.true

pub returns-else-count-eq0-clause-lines : goal.returns-else-count-eq0-clause-lines
returns-else-count-eq0-clause-lines c = λ place is.
    let same : card_count c.in-Stretch.count ≡ c.in-Stretch.count = search rules in
    stretch-line c.in-Stretch.count place c.skipped_line.result (subst (λ p. IsPart p place) (sym c.replace.ensures.value ∙ c.in-Stretch.is) is)
    c.if-count-eq0.false same c.skipped_line.ensures

pub returns-in-List-clause-lines : goal.returns-in-List-clause-lines
returns-in-List-clause-lines c = λ place is.
    let same : card_count c.in-List.count ≡ c.in-List.count = search rules in
    list-line c.in-List.name c.in-List.count place c.listed_line.result (subst (λ p. IsPart p place) (sym c.replace.ensures.value ∙ c.in-List.is) is)
    same c.listed_line.ensures

pub returns-in_ok-lines-in-Program-clause-lines : goal.returns-in_ok-lines-in-Program-clause-lines
returns-in_ok-lines-in-Program-clause-lines c = λ place is.
    program-ends c.in-Program.name c.in-Program.limit c.in-Program.number c.in-Program.cards c.in_ok-lines-in-Program.lines c.close.new.self place
    (subst (λ p. IsPart p place) (sym c.replace.ensures.value ∙ c.in-Program.is) is) c.in_ok-lines-in-Program.ensures c.close.ensures.stands

pub returns-in-Input-clause-lines : goal.returns-in-Input-clause-lines
returns-in-Input-clause-lines c = λ place is.
    input-ends c.in-Input.name c.in-Input.number c.in-Input.lines c.close-in-Input.new.self place
    (subst (λ p. IsPart p place) (sym c.replace.ensures.value ∙ c.in-Input.is) is) c.close-in-Input.ensures.stands

pub returns-in-Dropped-clause-lines : goal.returns-in-Dropped-clause-lines
returns-in-Dropped-clause-lines c = λ place is. dropped-over place (subst (λ p. IsPart p place) (sym c.replace.ensures.value ∙ c.in-Dropped.is) is)
