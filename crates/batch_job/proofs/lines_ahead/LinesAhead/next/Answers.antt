use Rattle.std.proofs.Common.{refl, sym, ◌∙◌, option_to_list}
use Rattle.batch_job.specs.JobStream.{stream_of}
use Rattle.batch_job.proofs.Account.{not-there, not-none}
use Rattle.batch_job.proofs.Making.{same-loads, waiting-line, emptied, part-line, rests-so}
use Rattle.batch_job.proofs.lines_ahead.LinesAhead.next.Goals as goal

pub returns-then-is_some-clause-passes : goal.returns-then-is_some-clause-passes
returns-then-is_some-clause-passes c = λ a is.
    waiting-line (stream_of c.args.self.now) _ a (option_to_list c.next-waiting.result) is refl (same-loads _ _ refl refl refl refl)
    (c.next-waiting.ensures.lines a.waiting is.waiting)

pub returns-then-is_some-clause-none : goal.returns-then-is_some-clause-none
returns-then-is_some-clause-none c = λ nothing. absurd (not-none c.next-waiting.result (sym c.is_some.ensures ∙ c.if-is_some.true) nothing)

pub returns-then-is_some-clause-rests : goal.returns-then-is_some-clause-rests
returns-then-is_some-clause-rests c = λ nothing. absurd (not-none c.next-waiting.result (sym c.is_some.ensures ∙ c.if-is_some.true) nothing)

pub returns-clause-passes : goal.returns-clause-passes
returns-clause-passes c = λ a is.
    let none = not-there c.next-waiting.result (sym c.is_some.ensures ∙ c.if-is_some.false) in
    let (empty, holds) = emptied a.waiting c.next-waiting.result c.next-waiting.new.self (c.next-waiting.ensures.lines a.waiting is.waiting) none (c.next-waiting.ensures.none none) in
    part-line (stream_of c.args.self.now) _ a (option_to_list c.next.result) is empty (same-loads _ _ refl refl refl refl) holds
    (c.next.ensures.gives a.place is.part)

pub returns-clause-none : goal.returns-clause-none
returns-clause-none c = λ nothing.
    let none = not-there c.next-waiting.result (sym c.is_some.ensures ∙ c.if-is_some.false) in
    record { waiting = c.next-waiting.ensures.none none; part = c.next.ensures.none nothing }

pub returns-clause-rests : goal.returns-clause-rests
returns-clause-rests c = λ nothing a is.
    let none = not-there c.next-waiting.result (sym c.is_some.ensures ∙ c.if-is_some.false) in
    let (empty, holds) = emptied a.waiting c.next-waiting.result c.next-waiting.new.self (c.next-waiting.ensures.lines a.waiting is.waiting) none (c.next-waiting.ensures.none none) in
    rests-so (stream_of c.args.self.now) _ a is empty (same-loads _ _ refl refl refl refl) holds (c.next.ensures.rests nothing a.place is.part)
