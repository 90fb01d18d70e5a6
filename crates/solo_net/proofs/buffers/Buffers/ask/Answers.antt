use Rattle.solo_net.proofs.Calling.{asks-at}
use Rattle.solo_net.proofs.buffers.Buffers.ask.Goals as goal

pub returns-then-b-eq1 : goal.returns-then-b-eq1
returns-then-b-eq1 c = asks-at c.args.self.now c.args.b 1 c.args.asked c.is_so.result c.if-b-eq1.true c.is_so.ensures

pub returns-then-b-eq2 : goal.returns-then-b-eq2
returns-then-b-eq2 c = asks-at c.args.self.now c.args.b 2 c.args.asked c.is_so-then-b-eq2.result c.if-b-eq2.true c.is_so-then-b-eq2.ensures

pub returns-then-b-eq3 : goal.returns-then-b-eq3
returns-then-b-eq3 c = asks-at c.args.self.now c.args.b 3 c.args.asked c.is_so-then-b-eq3.result c.if-b-eq3.true c.is_so-then-b-eq3.ensures

pub returns-then-b-eq4 : goal.returns-then-b-eq4
returns-then-b-eq4 c = asks-at c.args.self.now c.args.b 4 c.args.asked c.is_so-then-b-eq4.result c.if-b-eq4.true c.is_so-then-b-eq4.ensures

pub returns-then-b-eq5 : goal.returns-then-b-eq5
returns-then-b-eq5 c = asks-at c.args.self.now c.args.b 5 c.args.asked c.is_so-then-b-eq5.result c.if-b-eq5.true c.is_so-then-b-eq5.ensures
