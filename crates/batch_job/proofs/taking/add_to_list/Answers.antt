use Rattle.std.proofs.Common.{rules, ◌≡◌, ◌+◌, ◌∷◌, [], false, ap, sym, subst, ◌∙◌}
use Rattle.std.specs.Prelude.{Ok, Err, IfOk, IfErr}
use Rattle.deck_format.specs.Jobs.{is_some, card_count}
use Rattle.batch_job.specs.LinesAhead.{card_or_fault}
use Rattle.batch_job.specs.Places.{IsPart, Holds}
use Rattle.batch_job.proofs.Adding.{adds-listed, adds-list-fault}
use Rattle.batch_job.proofs.taking.add_to_list.Goals as goal

pub returns-in-Ok : goal.returns-in-Ok
returns-in-Ok c = λ place at.
    let next : c.saturating_add-number.result ≡ card_count (c.in-List.count + 1) = search rules in
    adds-listed c.in-List.name c.in-List.count c.saturating_add-number.result c.args.item.now c.in-Ok.card.now place c.hold.new.self next
    (ap (λ k. card_or_fault false c.args.item.now (is_some k) c.saturating_add-number.result) (sym c.requires.control)
    ∙ subst (λ r. IfOk r (λ card. card_or_fault false c.args.item.now (is_some c.args.control.now) c.saturating_add-number.result ≡ Ok card.now)) c.in-Ok.is c.card_of.ensures.ok)
    c.hold.ensures (subst (λ p. IsPart p place) c.in-List.is at)

pub returns-in-Err : goal.returns-in-Err
returns-in-Err c = λ place at.
    let next : c.saturating_add-number.result ≡ card_count (c.in-List.count + 1) = search rules in
    adds-list-fault c.in-List.name c.in-List.count c.saturating_add-number.result c.args.item.now c.in-Err.fault place c.hold-in-Err.new.self next
    (ap (λ k. card_or_fault false c.args.item.now (is_some k) c.saturating_add-number.result) (sym c.requires.control)
    ∙ subst (λ r. IfErr r (λ fault. card_or_fault false c.args.item.now (is_some c.args.control.now) c.saturating_add-number.result ≡ Err fault)) c.in-Err.is c.card_of.ensures.err)
    (subst (λ l. Holds c.hold-in-Err.new.self (l ∷ [])) c.fault_line.ensures c.hold-in-Err.ensures) (subst (λ p. IsPart p place) c.in-List.is at)
