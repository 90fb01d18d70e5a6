use Rattle.std.proofs.Common.{ap}
use Rattle.net_core.proofs.Asking.{enters-at, last-buffer}
use Rattle.net_core.proofs.shared.Shared.may_enter.Goals as goal

pub returns-then-b-eq1 : goal.returns-then-b-eq1
returns-then-b-eq1 g c = λ s stands one.
    enters-at s.buffers c.args.b 1 c.args.self.now.cards.sides c.args.side c.args.p c.may_enter.result c.if-b-eq1.true
    (ap (λ x. x.sides) stands.cards.is) c.may_enter.ensures

pub returns-then-b-eq2 : goal.returns-then-b-eq2
returns-then-b-eq2 g c = λ s stands one.
    enters-at s.buffers c.args.b 2 c.args.self.now.input.sides c.args.side c.args.p c.may_enter-then-b-eq2.result c.if-b-eq2.true
    (ap (λ x. x.sides) stands.input.is) c.may_enter-then-b-eq2.ensures

pub returns-then-b-eq3 : goal.returns-then-b-eq3
returns-then-b-eq3 g c = λ s stands one.
    enters-at s.buffers c.args.b 3 c.args.self.now.output.sides c.args.side c.args.p c.may_enter-then-b-eq3.result c.if-b-eq3.true
    (ap (λ x. x.sides) stands.output.is) c.may_enter-then-b-eq3.ensures

pub returns-else-b-eq3 : goal.returns-else-b-eq3
returns-else-b-eq3 g c = λ s stands one.
    enters-at s.buffers c.args.b 4 c.args.self.now.lines.sides c.args.side c.args.p c.may_enter-else-b-eq3.result
    (last-buffer c.args.b one c.if-b-eq1.false c.if-b-eq2.false c.if-b-eq3.false)
    (ap (λ x. x.sides) stands.lines.is) c.may_enter-else-b-eq3.ensures
