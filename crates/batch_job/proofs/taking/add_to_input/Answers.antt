use Rattle.std.proofs.Common.{rules, ◌≡◌, ◌+◌, true, ap, sym, subst, ◌∙◌, Some, None}
use Rattle.std.specs.Prelude.{Ok, Err, IfOk, IfErr}
use Rattle.deck_format.specs.Jobs.{is_some, card_count}
use Rattle.batch_job.specs.LinesAhead.{card_or_fault}
use Rattle.batch_job.specs.Places.{IsPart}
use Rattle.batch_job.proofs.Account.{holds-none}
use Rattle.batch_job.proofs.Adding.{input-read, input-broken}
use Rattle.batch_job.proofs.taking.add_to_input.Goals as goal

pub returns-in-Ok : goal.returns-in-Ok
returns-in-Ok c = λ place at.
    let next : c.saturating_add.result ≡ card_count (c.in-Input.number + 1) = search rules in
    input-read c.in-Input.name c.in-Ok.card.now c.in-Input.number c.saturating_add.result c.in-Input.lines c.feed.new.self c.args.item.now place c.clear.new.self next
    (ap (λ k. card_or_fault true c.args.item.now (is_some k) c.in-Input.number) (sym c.requires.control)
    ∙ subst (λ r. IfOk r (λ card. card_or_fault true c.args.item.now (is_some c.args.control.now) c.in-Input.number ≡ Ok card.now)) c.in-Ok.is c.card_of.ensures.ok)
    c.feed.ensures (holds-none c.clear.new.self c.clear.ensures) (subst (λ p. IsPart p place) c.in-Input.is at)

pub returns-in-Err : goal.returns-in-Err
returns-in-Err c = λ place at.
    input-broken c.in-Input.name c.in-Input.number c.in-Input.lines c.close.new.self c.args.item.now place c.in-Err.fault _
    (ap (λ k. card_or_fault true c.args.item.now (is_some k) c.in-Input.number) (sym c.requires.control)
    ∙ subst (λ r. IfErr r (λ fault. card_or_fault true c.args.item.now (is_some c.args.control.now) c.in-Input.number ≡ Err fault)) c.in-Err.is c.card_of.ensures.err)
    c.close.ensures.stands
    (ap (λ l. record { ending = l; own = None; note = Some c.fault_line.result }) c.replace-ending.ensures.value
    ∙ ap (λ l. record { ending = c.close.new.self; own = None; note = Some l }) c.fault_line.ensures)
    (subst (λ p. IsPart p place) c.in-Input.is at)
