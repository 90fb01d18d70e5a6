use Rattle.std.proofs.Common.{refl, sym, subst}
use Rattle.batch_job.specs.LinesAhead.{Outside, closed_lines}
use Rattle.batch_job.specs.Places.{IsPart}
use Rattle.batch_job.specs.JobStream.{stream_of}
use Rattle.batch_job.proofs.Making.{at-end}
use Rattle.batch_job.proofs.lines_ahead.LinesAhead.make_end.Goals as goal

pub returns-clause-passes : goal.returns-clause-passes
returns-clause-passes c = λ a is.
    at-end (stream_of c.args.self.now) _ a is (c.requires.none.waiting a.waiting is.waiting) c.requires.left c.requires.due c.requires.left refl refl refl
    (subst (λ p. IsPart p (Outside 0)) (sym c.in_ok-ending.ensures.part) refl)
    (c.ending_with.ensures (closed_lines a.place) (c.in_ok-ending.ensures.lines a.place is.part))
