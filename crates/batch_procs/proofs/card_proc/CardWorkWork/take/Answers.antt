use Rattle.std.proofs.Common.{refl, sym, ap, ◌∙◌}
use Rattle.solo_base.specs.declared.item.Item.TheVariants.{Line, Spoiled}
use Rattle.solo_base.specs.declared.item.Feed.TheVariants as feed
use Rattle.batch_procs.specs.declared.actions.Reply.TheVariants as reply
use Rattle.batch_procs.specs.History.{taken_by}
use Rattle.batch_procs.specs.Work.{cause_of}
use Rattle.batch_procs.specs.Table.{card}
use Rattle.batch_procs.proofs.Takes.{card-takes, still-going}
use Rattle.batch_procs.proofs.card_proc.CardWorkWork.take.Goals as goal

pub returns-in-Card-Card-clause-ok : goal.returns-in-Card-Card-clause-ok
returns-in-Card-Card-clause-ok g c = λ taken sent keeps may.
    let is = c.in-Card-Card.is ∙ ap reply.Card c.in-Card-Card.field-0-is in (
      sym (ap (λ r. cause_of r taken) is),
      λ none. card-takes _ _ _ taken sent c.args.reply (feed.Item (Line c.in-Card-Card.line)) (ap taken_by is)
          (still-going card _ _ taken sent c.args.reply keeps may) keeps may,
    )

pub returns-in-Card-Spoiled-clause-ok : goal.returns-in-Card-Spoiled-clause-ok
returns-in-Card-Spoiled-clause-ok g c = λ taken sent keeps may.
    let is = c.in-Card-Spoiled.is ∙ ap reply.Card c.in-Card-Spoiled.field-0-is in (
      sym (ap (λ r. cause_of r taken) is),
      λ none. card-takes _ _ _ taken sent c.args.reply (feed.Item Spoiled) (ap taken_by is)
          (still-going card _ _ taken sent c.args.reply keeps may) keeps may,
    )

pub returns-in-Card-End-clause-ok : goal.returns-in-Card-End-clause-ok
returns-in-Card-End-clause-ok g c = λ taken sent keeps may.
    let is = c.in-Card-End.is ∙ ap reply.Card c.in-Card-End.field-0-is in
    (sym (ap (λ r. cause_of r taken) is), λ none. card-takes _ _ _ taken sent c.args.reply feed.End (ap taken_by is) refl keeps may)

pub returns-in-Card-Failed-clause-ok : goal.returns-in-Card-Failed-clause-ok
returns-in-Card-Failed-clause-ok g c = λ taken sent keeps may.
    let is = c.in-Card-Failed.is ∙ ap reply.Card c.in-Card-Failed.field-0-is in (sym (ap (λ r. cause_of r taken) is), λ none. absurd cc)

pub returns-in-Card-Limit-clause-ok : goal.returns-in-Card-Limit-clause-ok
returns-in-Card-Limit-clause-ok g c = λ taken sent keeps may.
    let is = c.in-Card-Limit.is ∙ ap reply.Card c.in-Card-Limit.field-0-is in (sym (ap (λ r. cause_of r taken) is), λ none. absurd cc)
