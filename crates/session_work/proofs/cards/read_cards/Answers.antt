use Rattle.std.proofs.Common.{subst, sym}
use Rattle.session_work.specs.Cards.{NextCard, ReadsOn}
use Rattle.session_work.proofs.CardLines.{begins-so, no-more, reading-goes-on, reading-ends, less-left}
use Rattle.session_work.proofs.cards.read_cards.Goals as goal

pub reading-init : goal.reading-init
reading-init c = begins-so c.args.text.now.rest.now c.args.cards.now c.args.text.now.line c.requires.none c.requires.first

pub returns : goal.returns
returns c =
    reading-ends c.args.text.now.rest.now c.reading.text.rest.now c.next_card.new.text.rest.now c.reading.cards c.reading.text.line c.next_card.new.text.line
    c.reading.invariant
    (subst (λ r. NextCard c.reading.text.rest.now c.reading.text.line r c.next_card.new.text.rest.now c.next_card.new.text.line)
    (no-more c.next_card.result c.in_default.not-Some) c.next_card.ensures)

pub reading-preserved : goal.reading-preserved
reading-preserved c =
    subst (λ cards. ReadsOn c.args.text.now.rest.now cards c.next_card.new.text.rest.now c.next_card.new.text.line) (sym c.in_ok-push.ensures.ok)
    (reading-goes-on c.args.text.now.rest.now c.reading.text.rest.now c.next_card.new.text.rest.now c.reading.cards c.reading.text.line c.next_card.new.text.line
    c.in-Some.card c.reading.invariant c.in-Some.ensures)

pub reading-smaller : goal.reading-smaller
reading-smaller c =
    less-left c.reading.text.rest.now c.next_card.new.text.rest.now c.reading.text.line c.next_card.new.text.line c.in-Some.card c.in-Some.ensures
