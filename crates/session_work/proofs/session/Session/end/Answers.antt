use Rattle.std.proofs.Common.{refl, sym, subst, ap, ◌∙◌, []}
use Rattle.solo_work.specs.Paper.{IsHand}
use Rattle.session_work.specs.declared.session.Session.{Session}
use Rattle.session_work.proofs.Answering.{ended}
use Rattle.session_work.proofs.session.Session.end.Goals as goal

pub returns-clause-worked : goal.returns-clause-worked
returns-clause-worked c = λ before pages hand is.
    ended pages hand c.args.answers c.last.result c.args.self.now.paper _ before is
    (c.last.ensures pages hand (subst (λ p. IsHand p pages hand) (sym (c.replace-paper.ensures.value ∙ ap (λ (s : Session). s.paper) c.set.ensures)) is)) (ap (λ (s : Session). s.under_way) c.set.ensures)
    (subst (λ p. IsHand p 0 []) (sym c.replace-paper.ensures.after) c.new.ensures)
