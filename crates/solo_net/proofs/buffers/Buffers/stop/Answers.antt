use Rattle.solo_net.proofs.Visiting.{last-buffer, stop-1, stop-2, stop-3, stop-4, stop-5, stop-6}
use Rattle.solo_net.proofs.buffers.Buffers.stop.Goals as goal

pub returns-then-b-eq1 : goal.returns-then-b-eq1
returns-then-b-eq1 c =
    stop-1 c.args.self.now c.args.p c.args.b c.side_at-side.result c.side_at-side.ensures c.stop.new.self c.stop.ensures.after c.if-b-eq1.true

pub returns-then-b-eq2 : goal.returns-then-b-eq2
returns-then-b-eq2 c =
    stop-2 c.args.self.now c.args.p c.args.b c.side_at-side.result c.side_at-side.ensures c.stop-then-b-eq2.new.self c.stop-then-b-eq2.ensures.after
    c.if-b-eq2.true

pub returns-then-b-eq3 : goal.returns-then-b-eq3
returns-then-b-eq3 c =
    stop-3 c.args.self.now c.args.p c.args.b c.side_at-side.result c.side_at-side.ensures c.stop-then-b-eq3.new.self c.stop-then-b-eq3.ensures.after
    c.if-b-eq3.true

pub returns-then-b-eq4 : goal.returns-then-b-eq4
returns-then-b-eq4 c =
    stop-4 c.args.self.now c.args.p c.args.b c.side_at-side.result c.side_at-side.ensures c.stop-then-b-eq4.new.self c.stop-then-b-eq4.ensures.after
    c.if-b-eq4.true

pub returns-then-b-eq5 : goal.returns-then-b-eq5
returns-then-b-eq5 c =
    stop-5 c.args.self.now c.args.p c.args.b c.side_at-side.result c.side_at-side.ensures c.stop-then-b-eq5.new.self c.stop-then-b-eq5.ensures.after
    c.if-b-eq5.true

pub returns-else-b-eq5 : goal.returns-else-b-eq5
returns-else-b-eq5 c =
    stop-6 c.args.self.now c.args.p c.args.b c.side_at-side.result c.side_at-side.ensures c.stop-else-b-eq5.new.self c.stop-else-b-eq5.ensures.after
    (last-buffer c.args.b c.requires.one c.if-b-eq1.false c.if-b-eq2.false c.if-b-eq3.false c.if-b-eq4.false c.if-b-eq5.false)
