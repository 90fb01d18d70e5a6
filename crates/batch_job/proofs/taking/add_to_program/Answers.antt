use Rattle.std.proofs.Common.{rules, ◌≡◌, ◌+◌, ◌∷◌, [], false, ap, sym, subst, ◌∙◌}
use Rattle.std.specs.Prelude.{Ok, Err, IfOk, IfErr}
use Rattle.deck_format.specs.Jobs.{is_some, card_count, data_in}
use Rattle.batch_job.specs.LinesAhead.{card_or_fault}
use Rattle.batch_job.specs.Places.{IsPart, Holds}
use Rattle.batch_job.proofs.Account.{holds-none}
use Rattle.batch_job.proofs.Adding.{adds-card, adds-data, adds-fault}
use Rattle.batch_job.proofs.taking.add_to_program.Goals as goal

pub returns-in_ok-push-in-Ok : goal.returns-in_ok-push-in-Ok
returns-in_ok-push-in-Ok c = λ place at.
    let p = c.in-Program in
    let next : c.saturating_add-next.result ≡ card_count (p.number + 1) = search rules in
    rw (subst (λ is. IsPart is place) p.is at)
    (adds-card p.name p.limit p.number p.cards c.args.item.now c.in-Ok.card.now c.clear.new.self c.saturating_add-next.result c.push.new.self next
    c.in_ok-push-in-Ok.ensures.ok
    (ap (λ k. card_or_fault false c.args.item.now (is_some k) p.number) (sym c.requires.control)
    ∙ subst (λ r. IfOk r (λ card. card_or_fault false c.args.item.now (is_some c.args.control.now) p.number ≡ Ok card.now)) c.in-Ok.is c.card_of.ensures.ok)
    (holds-none c.clear.new.self c.clear.ensures))

pub returns-in_ok-lines-in-Err : goal.returns-in_ok-lines-in-Err
returns-in_ok-lines-in-Err c = λ place at.
    let p = c.in-Program in
    let next : c.saturating_add-next.result ≡ card_count (p.number + 1) = search rules in
    rw (subst (λ is. IsPart is place) p.is at)
    (rw c.input_from.ensures
    (adds-data p.name p.limit p.number p.cards c.args.item.now c.in_ok-lines-in-Err.lines c.clear-in-Err.new.self
    c.saturating_add-next.result next
    (ap data_in (sym c.requires.control) ∙ sym c.data_in.ensures ∙ c.if-not-data_in.false) c.in_ok-lines-in-Err.ensures
    (holds-none c.clear-in-Err.new.self c.clear-in-Err.ensures)))

pub returns-then-not-data_in : goal.returns-then-not-data_in
returns-then-not-data_in c = λ place at.
    let p = c.in-Program in
    rw (subst (λ is. IsPart is place) p.is at)
    (adds-fault p.name p.limit p.number p.cards c.args.item.now c.in-Err.fault c.hold.new.self
    (ap (λ k. card_or_fault false c.args.item.now (is_some k) p.number) (sym c.requires.control)
    ∙ subst (λ r. IfErr r (λ fault. card_or_fault false c.args.item.now (is_some c.args.control.now) p.number ≡ Err fault)) c.in-Err.is c.card_of.ensures.err)
    (ap data_in (sym c.requires.control) ∙ sym c.data_in.ensures ∙ c.if-not-data_in.true)
    (subst (λ l. Holds c.hold.new.self (l ∷ [])) c.fault_line.ensures c.hold.ensures))
