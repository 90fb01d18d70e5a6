use Rattle.solo_net.proofs.Visiting.{last-arg, take-1, take-3, take-4, take-6}
use Rattle.solo_net.proofs.buffers.Buffers.take_arg.Goals as goal

pub returns-then-b-eq1 : goal.returns-then-b-eq1
returns-then-b-eq1 c =
    take-1 c.args.self.now c.args.p c.args.b c.arg_reply.result c.take.result c.take.new.self c.arg_reply.ensures
    c.take.ensures.answer c.take.ensures.after c.if-b-eq1.true

pub returns-then-b-eq3 : goal.returns-then-b-eq3
returns-then-b-eq3 c =
    take-3 c.args.self.now c.args.p c.args.b c.arg_reply-then-b-eq3.result c.take-then-b-eq3.result c.take-then-b-eq3.new.self
    c.arg_reply-then-b-eq3.ensures
    c.take-then-b-eq3.ensures.answer c.take-then-b-eq3.ensures.after c.if-b-eq3.true

pub returns-then-b-eq4 : goal.returns-then-b-eq4
returns-then-b-eq4 c =
    take-4 c.args.self.now c.args.p c.args.b c.arg_reply-then-b-eq4.result c.take-then-b-eq4.result c.take-then-b-eq4.new.self
    c.arg_reply-then-b-eq4.ensures
    c.take-then-b-eq4.ensures.answer c.take-then-b-eq4.ensures.after c.if-b-eq4.true

pub returns-else-b-eq4 : goal.returns-else-b-eq4
returns-else-b-eq4 c =
    take-6 c.args.self.now c.args.p c.args.b c.arg_reply-else-b-eq4.result c.take-else-b-eq4.result c.take-else-b-eq4.new.self
    c.arg_reply-else-b-eq4.ensures
    c.take-else-b-eq4.ensures.answer c.take-else-b-eq4.ensures.after
    (last-arg c.args.b c.requires.one c.if-b-eq1.false c.if-b-eq3.false c.if-b-eq4.false)
