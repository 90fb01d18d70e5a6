use Rattle.std.proofs.Common.{sym, ap, subst, ◌∙◌, option_to_list}
use Rattle.solo_base.specs.declared.item.Item.TheVariants.{Line}
use Rattle.page_codec.specs.Due.{page_due, due_alone}
use Rattle.batch_job.specs.JobStream.{stream_of, goes_on, Passes, PacksMade}
use Rattle.batch_job.proofs.Account.{no-line, not-due}
use Rattle.batch_job.proofs.PushingLines.{pushed-on, pushed-due, rests-on}
use Rattle.batch_job.proofs.job_stream.push_made.Goals as goal

pub returns-then-is_some-clause-packs : goal.returns-then-is_some-clause-packs
returns-then-is_some-clause-packs c = λ first hand so_far.
    let line = Line c.in-Some.line in
    pushed-due first (stream_of c.pushing.ahead) (stream_of c.next.new.self) hand c.pushing.packer c.push_line.new.self c.in-Some.line c.push_line.new.due
    (sym c.is_some.ensures ∙ c.if-is_some.true)
    (c.pushing.invariant.0 first hand so_far) (ap goes_on c.next.ensures.end) c.next.ensures.wanted
    (λ a is. subst (λ r. Passes a (stream_of c.next.new.self) (option_to_list r)) c.in-Some.is (c.next.ensures.passes a is))
    (sym (c.push_line.ensures.page ∙ ap (page_due c.pushing.packer line) c.pushing.invariant.3 ∙ due_alone c.pushing.packer line)) c.push_line.ensures.hand

pub pushing-preserved : goal.pushing-preserved
pushing-preserved c =
    let line = Line c.in-Some.line in
    let none = not-due c.push_line.new.due (sym c.is_some.ensures ∙ c.if-is_some.false) in (
      λ first hand so_far.
          pushed-on first (stream_of c.pushing.ahead) (stream_of c.next.new.self) hand c.pushing.packer c.push_line.new.self c.in-Some.line
          (c.pushing.invariant.0 first hand so_far) (ap goes_on c.next.ensures.end) c.next.ensures.wanted
          (λ a is. subst (λ r. Passes a (stream_of c.next.new.self) (option_to_list r)) c.in-Some.is (c.next.ensures.passes a is))
          (sym (c.push_line.ensures.page ∙ ap (page_due c.pushing.packer line) c.pushing.invariant.3 ∙ due_alone c.pushing.packer line) ∙ none)
          c.push_line.ensures.hand,
      c.next.ensures.turns ∙ c.pushing.invariant.1,
      c.next.ensures.wanted ∙ c.pushing.invariant.2,
      none,
    )

pub returns-clause-packs : goal.returns-clause-packs
returns-clause-packs c = λ first hand so_far.
    subst (λ due. PacksMade first hand due (stream_of c.next.new.self) c.pushing.packer) (sym c.pushing.invariant.3)
    (rests-on first (stream_of c.pushing.ahead) (stream_of c.next.new.self) hand c.pushing.packer (c.pushing.invariant.0 first hand so_far)
    (ap goes_on c.next.ensures.end) c.next.ensures.wanted (c.next.ensures.rests (no-line c.next.result c.in_default.not-Some)))
