use Rattle.solo_net.proofs.Visiting.{last-page, put-2, put-5}
use Rattle.solo_net.proofs.buffers.Buffers.put_page.Goals as goal

pub returns-then-b-eq2 : goal.returns-then-b-eq2
returns-then-b-eq2 c =
    put-2 c.args.self.now c.args.p c.args.b c.put_reply.result c.args.page c.put.result c.put.new.self c.put_reply.ensures
    c.put.ensures.answer c.put.ensures.after c.if-b-eq2.true

pub returns-else-b-eq2 : goal.returns-else-b-eq2
returns-else-b-eq2 c =
    put-5 c.args.self.now c.args.p c.args.b c.put_reply-else-b-eq2.result c.args.page c.put-else-b-eq2.result c.put-else-b-eq2.new.self
    c.put_reply-else-b-eq2.ensures
    c.put-else-b-eq2.ensures.answer c.put-else-b-eq2.ensures.after (last-page c.args.b c.requires.one c.if-b-eq2.false)
