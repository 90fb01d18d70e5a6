use Rattle.solo_net.proofs.Visiting.{last-page, take-2, take-5}
use Rattle.solo_net.proofs.buffers.Buffers.take_page.Goals as goal

pub returns-then-b-eq2 : goal.returns-then-b-eq2
returns-then-b-eq2 c =
    take-2 c.args.self.now c.args.p c.args.b c.page_reply.result c.take.result c.take.new.self c.page_reply.ensures
    c.take.ensures.answer c.take.ensures.after c.if-b-eq2.true

pub returns-else-b-eq2 : goal.returns-else-b-eq2
returns-else-b-eq2 c =
    take-5 c.args.self.now c.args.p c.args.b c.page_reply-else-b-eq2.result c.take-else-b-eq2.result c.take-else-b-eq2.new.self
    c.page_reply-else-b-eq2.ensures
    c.take-else-b-eq2.ensures.answer c.take-else-b-eq2.ensures.after (last-page c.args.b c.requires.one c.if-b-eq2.false)
