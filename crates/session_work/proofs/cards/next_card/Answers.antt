use Rattle.std.proofs.Common.{◌≡◌, ◌≤◌, not, length, refl, sym, ◌∙◌, rules, arith}
use Rattle.std.specs.Prelude.{◌==◌}
use Rattle.std.proofs.lemmas.List.Sums.{prefix_len-le-length}
use Rattle.pascal_read.specs.Scan.{next_line}
use Rattle.session_work.proofs.CardLines.{card-taken, no-card-left, no-more}
use Rattle.session_work.proofs.cards.next_card.Goals as goal

pub card_before-requires : goal.card_before-requires
card_before-requires c = omega (arith, c.first_place-end.ensures, prefix_len-le-length (λ code. not (code == 10)) c.args.text.now.rest.now)

pub returns-in_default : goal.returns-in_default
returns-in_default c = (
  refl,
  refl,
  no-card-left c.args.text.now.rest.now c.args.text.now.line c.first_place-end.result c.first_place-end.ensures
      (sym c.card_before.ensures ∙ no-more c.card_before.result c.in_default.not-Some),
)

pub returns : goal.returns
returns c =
    let next : c.saturating_add-text.result ≡ next_line c.args.text.now.line = search rules in
    card-taken c.args.text.now.rest.now c.args.text.now.line c.first_place-end.result c.in-Some.card c.behind-text.result.now
    c.saturating_add-text.result c.first_place-end.ensures (sym c.card_before.ensures ∙ c.in-Some.is) c.behind-text.ensures next
