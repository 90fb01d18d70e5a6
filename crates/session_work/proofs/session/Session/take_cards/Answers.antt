use Rattle.std.proofs.Common.{sym, subst, refl, ◌∙◌}
use Rattle.solo_law.specs.Work.{OfCards}
use Rattle.session_work.proofs.Pieces.{PassesOver, passed-over, cards-passed, prints-the-cards, stores-the-cards, reads-the-cards}
use Rattle.session_work.proofs.session.Session.take_cards.Goals as goal

pub returns-in-PrintsCards-clause-piece : goal.returns-in-PrintsCards-clause-piece
returns-in-PrintsCards-clause-piece g c =
    prints-the-cards c.args.cards.now c.args.spoiled c.args.self.now c.print_cards.new.self (g.A.Area.pages c.args.files.now.area) (g.A.Area.pages c.args.files.now.area) c.print_cards.result (sym c.replace.ensures.value ∙ c.in-PrintsCards.is)
    (λ pages hand is. c.print_cards.ensures.worked (g.A.Area.pages c.args.files.now.area) pages hand is)

pub returns-in-StoresCards-clause-piece : goal.returns-in-StoresCards-clause-piece
returns-in-StoresCards-clause-piece g c =
    stores-the-cards c.in-StoresCards.to c.args.cards.now c.args.spoiled c.args.self.now c.store_cards.new.self (g.A.Area.pages c.args.files.now.area)
    (g.A.Area.pages c.store_cards.new.files.area) c.store_cards.result (sym c.replace.ensures.value ∙ c.in-StoresCards.is) c.store_cards.ensures.worked

pub returns-in-ReadsCards-clause-piece : goal.returns-in-ReadsCards-clause-piece
returns-in-ReadsCards-clause-piece g c =
    reads-the-cards c.in-ReadsCards.program c.args.cards.now c.args.spoiled c.args.self.now c.read_cards.new.self (g.A.Area.pages c.args.files.now.area)
    (g.A.Area.pages c.read_cards.new.files.area) c.read_cards.result (sym c.replace.ensures.value ∙ c.in-ReadsCards.is) c.read_cards.ensures.worked

pub returns-in_default-clause-piece : goal.returns-in_default-clause-piece
returns-in_default-clause-piece g c =
    passed-over (OfCards c.args.cards.now c.args.spoiled) c.args.self.now c.pass_over.new.self (g.A.Area.pages c.args.files.now.area) c.pass_over.result
    (subst (PassesOver (OfCards c.args.cards.now c.args.spoiled)) c.replace.ensures.value
    (cards-passed c.args.cards.now c.args.spoiled c.replace.result c.in_default.not-PrintsCards c.in_default.not-StoresCards c.in_default.not-ReadsCards))
    c.pass_over.ensures.over
