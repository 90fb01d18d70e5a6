use Rattle.std.proofs.Common.{true, false, refl, sym, ap, ◌∙◌, option_to_list}
use Rattle.std.proofs.lemmas.List.{append-nil}
use Rattle.solo_base.specs.declared.item.Feed.TheVariants as feed
use Rattle.batch_procs.specs.declared.actions.Reply.TheVariants as reply
use Rattle.page_codec.specs.Due.{page_due, due_alone}
use Rattle.page_codec.specs.Packing.{page_given}
use Rattle.batch_procs.specs.Sends.{marked}
use Rattle.batch_procs.specs.Table.{input}
use Rattle.batch_procs.specs.Work.{cause_of}
use Rattle.batch_procs.proofs.Takes.{input-takes, still-going, none-due}
use Rattle.batch_procs.proofs.input_proc.InputWorkWork.take.Goals as goal

pub returns-in-Feed-Item-clause-ok : goal.returns-in-Feed-Item-clause-ok
returns-in-Feed-Item-clause-ok g c = λ taken sent keeps may.
    let is = c.in-Feed-Item.is ∙ ap reply.Feed c.in-Feed-Item.field-0-is in
    let going = still-going input _ _ taken sent c.args.reply keeps.keeps may in (
      sym (ap (λ r. cause_of r taken) is),
      λ none. input-takes _ _ _ _ _ _ taken sent c.args.reply (feed.Item c.in-Feed-Item.item) is keeps may
          (ap (λ t. marked t (option_to_list c.push_into.new.due)) going ∙ ap (λ page. marked false (option_to_list page)) (c.push_into.ensures.page
          ∙ ap (page_due c.args.self.now.packer c.in-Feed-Item.item) (none-due _ _ _ _ _ _ _ keeps.keeps may) ∙ due_alone c.args.self.now.packer c.in-Feed-Item.item)
          ∙ sym (append-nil (marked false (option_to_list (page_given c.args.self.now.packer c.in-Feed-Item.item)))))
          going (λ on. c.push_into.ensures.hand),
    )

pub returns-in-Feed-End-clause-ok : goal.returns-in-Feed-End-clause-ok
returns-in-Feed-End-clause-ok g c = λ taken sent keeps may.
    let is = c.in-Feed-End.is ∙ ap reply.Feed c.in-Feed-End.field-0-is in (
      sym (ap (λ r. cause_of r taken) is),
      λ none. input-takes _ _ _ _ _ _ taken sent c.args.reply feed.End is keeps may
          (ap (λ page. marked true (option_to_list page)) c.finish.ensures) refl (λ on. absurd cc),
    )
