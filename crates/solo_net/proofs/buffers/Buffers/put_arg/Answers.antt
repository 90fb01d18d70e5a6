use Rattle.solo_net.proofs.Visiting.{last-arg, put-1, put-3, put-4, put-6}
use Rattle.solo_net.proofs.buffers.Buffers.put_arg.Goals as goal

pub returns-then-b-eq1 : goal.returns-then-b-eq1
returns-then-b-eq1 c =
    put-1 c.args.self.now c.args.p c.args.b c.put_reply.result c.args.arg c.put.result c.put.new.self c.put_reply.ensures
    c.put.ensures.answer c.put.ensures.after c.if-b-eq1.true

pub returns-then-b-eq3 : goal.returns-then-b-eq3
returns-then-b-eq3 c =
    put-3 c.args.self.now c.args.p c.args.b c.put_reply-then-b-eq3.result c.args.arg c.put-then-b-eq3.result c.put-then-b-eq3.new.self
    c.put_reply-then-b-eq3.ensures
    c.put-then-b-eq3.ensures.answer c.put-then-b-eq3.ensures.after c.if-b-eq3.true

pub returns-then-b-eq4 : goal.returns-then-b-eq4
returns-then-b-eq4 c =
    put-4 c.args.self.now c.args.p c.args.b c.put_reply-then-b-eq4.result c.args.arg c.put-then-b-eq4.result c.put-then-b-eq4.new.self
    c.put_reply-then-b-eq4.ensures
    c.put-then-b-eq4.ensures.answer c.put-then-b-eq4.ensures.after c.if-b-eq4.true

pub returns-else-b-eq4 : goal.returns-else-b-eq4
returns-else-b-eq4 c =
    put-6 c.args.self.now c.args.p c.args.b c.put_reply-else-b-eq4.result c.args.arg c.put-else-b-eq4.result c.put-else-b-eq4.new.self
    c.put_reply-else-b-eq4.ensures
    c.put-else-b-eq4.ensures.answer c.put-else-b-eq4.ensures.after
    (last-arg c.args.b c.requires.one c.if-b-eq1.false c.if-b-eq3.false c.if-b-eq4.false)
