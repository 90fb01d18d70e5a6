use Rattle.std.proofs.Common.{refl, ap, ◌∙◌, ◌++◌, option_to_list}
use Rattle.page_codec.specs.Reading.{items_left}
use Rattle.batch_job.specs.JobStream.{stream_of}
use Rattle.batch_job.proofs.Making.{next-item, has-load, wanted-here}
use Rattle.batch_job.proofs.lines_ahead.LinesAhead.make_item.Goals as goal

pub returns-in_ok-take_item-in-Some-clause-passes : goal.returns-in_ok-take_item-in-Some-clause-passes
returns-in_ok-take_item-in-Some-clause-passes c = λ a is.
    let old = stream_of c.args.self.now in
    let item = c.in-Some.item in
    let rest = items_left c.next_item.new.items in
    let left = c.next_item.ensures.items ∙ ap (λ r. option_to_list r ++ items_left c.next_item.new.items) c.in-Some.is in
    let has = has-load item rest old.loads (wanted-here old a item rest is left c.requires.wanted) in
    next-item old _ a item rest is (c.requires.none.waiting a.waiting is.waiting) left c.requires.goes_on refl refl c.requires.wanted
    (c.take_item.ensures.wanted ∙ c.requires.wanted) (c.in_ok-take_item-in-Some.ensures.left has) (c.in_ok-take_item-in-Some.ensures.leads a.place is.part has)
