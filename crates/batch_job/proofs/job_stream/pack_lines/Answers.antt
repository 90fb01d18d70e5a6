use Rattle.std.proofs.Common.{subst, sym, None, ◌∙◌}
use Rattle.batch_job.specs.JobStream.{stream_of, IsTold, Packs, PacksMade}
use Rattle.batch_job.proofs.Account.{not-due}
use Rattle.batch_job.proofs.PushingLines.{packs-all, packs-due, makes-on}
use Rattle.batch_job.proofs.job_stream.pack_lines.Goals as goal

pub returns-then-is_some : goal.returns-then-is_some
returns-then-is_some c =
    packs-due _ _ _ _ c.push_made.new.due (sym c.is_some.ensures ∙ c.if-is_some.true) (c.push_made.ensures.packs _ _ c.packing.invariant.0)

pub returns-then-not-branch : goal.returns-then-not-branch
returns-then-not-branch c =
    let first = stream_of c.args.ahead.now in
    let hand = c.args.packer.now in
    let pushed = stream_of c.push_made.new.ahead in
    let none = not-due c.push_made.new.due (sym c.is_some.ensures ∙ c.if-is_some.false) in
    let resting = subst (λ r. PacksMade first hand r pushed c.push_made.new.packer) none (c.push_made.ensures.packs first hand c.packing.invariant.0) in
    let (same, told) = c.in_ok-make.ensures.none c.if-not-branch.true in
    subst (λ r. Packs first hand r (stream_of c.make.new.self) c.push_made.new.packer) (sym none)
    (subst (λ s. Packs first hand None s c.push_made.new.packer) (sym same)
    (packs-all first pushed hand c.push_made.new.packer resting (c.push_made.ensures.none none, subst (λ s. IsTold s.end s.left) same told)))

pub packing-preserved : goal.packing-preserved
packing-preserved c =
    let first = stream_of c.args.ahead.now in
    let hand = c.args.packer.now in
    let pushed = stream_of c.push_made.new.ahead in
    let none = not-due c.push_made.new.due (sym c.is_some.ensures ∙ c.if-is_some.false) in
    let resting = subst (λ r. PacksMade first hand r pushed c.push_made.new.packer) none (c.push_made.ensures.packs first hand c.packing.invariant.0) in (
      makes-on first pushed (stream_of c.make.new.self) hand c.push_made.new.packer resting.pushing c.in_ok-make.ensures.end
          (c.in_ok-make.ensures.wanted ∙ sym (c.push_made.ensures.wanted ∙ c.packing.invariant.1)) c.in_ok-make.ensures.passes,
      c.in_ok-make.ensures.wanted,
      none,
    )
