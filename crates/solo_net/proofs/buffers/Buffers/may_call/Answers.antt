use Rattle.std.proofs.Common.{◌↔◌, refl, ap, subst}
use Rattle.std.specs.Prelude.{IsTrue}
use Rattle.solo_base.specs.declared.outcome.Side.TheVariants.{Sender, Receiver}
use Rattle.queue_var.specs.Sides.{MayStop}
use Rattle.solo_law.specs.Buffers.{side_at}
use Rattle.solo_net.specs.Actions.{unsaid}
use Rattle.solo_net.specs.SixBuffers.{sides_at}
use Rattle.solo_net.proofs.Visiting.{arg-is, page-is}
use Rattle.solo_net.proofs.Calling.{enters, stops, alone}
use Rattle.solo_net.proofs.buffers.Buffers.may_call.Goals as goal

pub returns-in-PutArg : goal.returns-in-PutArg
returns-in-PutArg c =
    enters c.args.self.now c.args.action.now _ c.in-PutArg.buffer Sender (ap unsaid c.in-PutArg.is) (λ place. arg-is _ place) c.args.p
    c.ask.result refl c.ask.ensures

pub returns-in-TakeArg : goal.returns-in-TakeArg
returns-in-TakeArg c =
    enters c.args.self.now c.args.action.now _ c.in-TakeArg.buffer Receiver (ap unsaid c.in-TakeArg.is) (λ place. arg-is _ place) c.args.p
    c.ask-in-TakeArg.result refl c.ask-in-TakeArg.ensures

pub returns-in-PutPage : goal.returns-in-PutPage
returns-in-PutPage c =
    enters c.args.self.now c.args.action.now _ c.in-PutPage.buffer Sender (ap unsaid c.in-PutPage.is) (λ place. page-is _ place) c.args.p
    c.ask-in-PutPage.result refl c.ask-in-PutPage.ensures

pub returns-in-TakePage : goal.returns-in-TakePage
returns-in-TakePage c =
    enters c.args.self.now c.args.action.now _ c.in-TakePage.buffer Receiver (ap unsaid c.in-TakePage.is) (λ place. page-is _ place) c.args.p
    c.ask-in-TakePage.result refl c.ask-in-TakePage.ensures

pub returns-in-Stop : goal.returns-in-Stop
returns-in-Stop c =
    stops c.args.self.now c.args.action.now _ c.in-Stop.buffer (side_at c.args.p c.in-Stop.buffer) (ap unsaid c.in-Stop.is) (λ place. place) c.args.p
    c.ask-in-Stop.result refl
    (subst (λ side. IsTrue c.ask-in-Stop.result ↔ MayStop (sides_at c.args.self.now c.in-Stop.buffer) side) c.side_at.ensures c.ask-in-Stop.ensures)

pub returns-in_default : goal.returns-in_default
returns-in_default c = λ s six place.
    alone c.args.action.now c.in_default.not-PutArg c.in_default.not-TakeArg c.in_default.not-PutPage c.in_default.not-TakePage c.in_default.not-Stop
    c.args.p s
