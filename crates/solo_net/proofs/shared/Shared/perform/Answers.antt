use Rattle.std.proofs.Common.{Some, ap, subst}
use Rattle.solo_law.specs.Actions as act
use Rattle.solo_procs.specs.declared.actions.SoloReply.TheVariants as hear
use Rattle.solo_net.specs.Actions.{unsaid}
use Rattle.solo_net.specs.Sharing.{SoloMayPerform}
use Rattle.solo_net.proofs.Performing.{at-action, at-six, at-end, read-so, at-keys, at-cards, printed-so, console-said, paper-said}
use Rattle.solo_net.proofs.shared.Shared.perform.Goals as goal

pub put_arg-requires : goal.put_arg-requires
put_arg-requires g c =
    let may = subst (SoloMayPerform c.args.self.now c.args.p) (ap unsaid c.in-PutArg.is) c.requires.may in
    record { one = may.0; waits = may.1 }

pub take_arg-requires : goal.take_arg-requires
take_arg-requires g c =
    let may = subst (SoloMayPerform c.args.self.now c.args.p) (ap unsaid c.in-TakeArg.is) c.requires.may in
    record { one = may.0; waits = may.1 }

pub put_page-requires : goal.put_page-requires
put_page-requires g c =
    let may = subst (SoloMayPerform c.args.self.now c.args.p) (ap unsaid c.in-PutPage.is) c.requires.may in
    record { one = may.0; waits = may.1 }

pub take_page-requires : goal.take_page-requires
take_page-requires g c =
    let may = subst (SoloMayPerform c.args.self.now c.args.p) (ap unsaid c.in-TakePage.is) c.requires.may in
    record { one = may.0; waits = may.1 }

pub stop-requires : goal.stop-requires
stop-requires g c =
    let may = subst (SoloMayPerform c.args.self.now c.args.p) (ap unsaid c.in-Stop.is) c.requires.may in
    record { one = may.0; may = may.1 }

pub returns-in-Accept : goal.returns-in-Accept
returns-in-Accept g c = record {
  performs =
      let read = c.accept-answer.ensures in
      at-action _ c.args.self.now _ c.args.p _ act.Accept _ (ap unsaid c.in-Accept.is)
      (at-keys _ c.args.self.now c.args.p c.accept-answer.result c.is_line.ensures c.accept-answer.new.self read.console read.next
      (read-so _ _ _ c.accept-answer.result read.failed read.counts read.limit read.total read.all_taken read.live));
}

pub returns-in-Display : goal.returns-in-Display
returns-in-Display g c = record {
  performs =
      at-action _ c.args.self.now _ c.args.p _ (act.Display c.in-Display.line) _ (ap unsaid c.in-Display.is)
      (console-said _ c.args.self.now c.args.p c.in-Display.line c.display.result c.print_reply.result c.print_reply.ensures c.display.new.self
      c.display.ensures.keys c.display.ensures.line
      (printed-so _ _ _ c.display.result c.display.ensures.failed c.display.ensures.counts c.display.ensures.live));
}

pub returns-in-ReadCard : goal.returns-in-ReadCard
returns-in-ReadCard g c = record {
  performs =
      let read = c.read-answer.ensures in
      at-action _ c.args.self.now _ c.args.p _ act.ReadCard _ (ap unsaid c.in-ReadCard.is)
      (at-cards _ c.args.self.now c.args.p c.read-answer.result c.is_line-in-ReadCard.ensures c.read-answer.new.self read.next
      (read-so _ _ _ c.read-answer.result read.failed read.counts read.limit read.total read.all_taken read.live));
}

pub returns-in-Print : goal.returns-in-Print
returns-in-Print g c = record {
  performs =
      at-action _ c.args.self.now _ c.args.p _ (act.Print c.in-Print.line) _ (ap unsaid c.in-Print.is)
      (paper-said _ c.args.self.now c.args.p c.in-Print.line c.print.result c.print_reply-in-Print.result c.print_reply-in-Print.ensures c.print.new.self
      c.print.ensures.line (printed-so _ _ _ c.print.result c.print.ensures.failed c.print.ensures.counts c.print.ensures.live));
}

pub returns-in-PutArg : goal.returns-in-PutArg
returns-in-PutArg g c = record {
  performs =
      at-action _ c.args.self.now _ c.args.p _ (act.PutArg c.in-PutArg.buffer c.in-PutArg.arg) c.put_arg.result (ap unsaid c.in-PutArg.is)
      (at-six _ c.args.self.now c.args.p (act.PutArg c.in-PutArg.buffer c.in-PutArg.arg) c.put_arg.result c.put_arg.new.self tt c.put_arg.ensures);
}

pub returns-in-TakeArg : goal.returns-in-TakeArg
returns-in-TakeArg g c = record {
  performs =
      at-action _ c.args.self.now _ c.args.p _ (act.TakeArg c.in-TakeArg.buffer) c.take_arg.result (ap unsaid c.in-TakeArg.is)
      (at-six _ c.args.self.now c.args.p (act.TakeArg c.in-TakeArg.buffer) c.take_arg.result c.take_arg.new.self tt c.take_arg.ensures);
}

pub returns-in-PutPage : goal.returns-in-PutPage
returns-in-PutPage g c = record {
  performs =
      at-action _ c.args.self.now _ c.args.p _ (act.PutPage c.in-PutPage.buffer c.in-PutPage.page) c.put_page.result (ap unsaid c.in-PutPage.is)
      (at-six _ c.args.self.now c.args.p (act.PutPage c.in-PutPage.buffer c.in-PutPage.page) c.put_page.result c.put_page.new.self tt c.put_page.ensures);
}

pub returns-in-TakePage : goal.returns-in-TakePage
returns-in-TakePage g c = record {
  performs =
      at-action _ c.args.self.now _ c.args.p _ (act.TakePage c.in-TakePage.buffer) c.take_page.result (ap unsaid c.in-TakePage.is)
      (at-six _ c.args.self.now c.args.p (act.TakePage c.in-TakePage.buffer) c.take_page.result c.take_page.new.self tt c.take_page.ensures);
}

pub returns-in-Stop : goal.returns-in-Stop
returns-in-Stop g c = record {
  performs =
      at-action _ c.args.self.now _ c.args.p _ (act.Stop c.in-Stop.buffer) (Some hear.Done) (ap unsaid c.in-Stop.is)
      (at-six _ c.args.self.now c.args.p (act.Stop c.in-Stop.buffer) (Some hear.Done) c.stop.new.self tt c.stop.ensures);
}

pub returns-in-Ended : goal.returns-in-Ended
returns-in-Ended g c = record {
  performs =
      at-action _ c.args.self.now _ c.args.p _ (act.Ended c.in-Ended.field-0) _ (ap unsaid c.in-Ended.is)
      (at-end _ c.args.self.now c.args.p c.in-Ended.field-0);
}
