use Rattle.std.proofs.Common.{None, subst, sym, refl, ◌∙◌, ◌++◌, option_to_list}
use Rattle.program_lines.specs.Standing.{StandsFor}
use Rattle.batch_job.proofs.Account.{ending-line, own-line, note-line, nothing-left, no-line, not-there}
use Rattle.batch_job.proofs.item_lines.ItemLines.next.Goals as goal

pub returns-in-Some-clause-lines : goal.returns-in-Some-clause-lines
returns-in-Some-clause-lines c = λ all holds.
    ending-line c.args.self.now (record { ending = c.next.new.self; own = c.args.self.now.own; note = c.args.self.now.note }) c.in-Some.line all holds
    (λ t given s. subst (λ r. StandsFor c.next.new.self t (given ++ option_to_list r)) c.in-Some.is (c.next.ensures.stands t given s)) refl refl

pub returns-then-is_some-clause-lines : goal.returns-then-is_some-clause-lines
returns-then-is_some-clause-lines c = λ all holds.
    let none = no-line c.next.result c.in_default.not-Some in
    own-line c.args.self.now (record { ending = c.next.new.self; own = c.take.new.self; note = c.args.self.now.note }) all c.take.result holds
    (λ t given s. subst (λ r. StandsFor c.next.new.self t (given ++ option_to_list r)) none (c.next.ensures.stands t given s)) (c.next.ensures.none none)
    c.take.ensures.value c.take.ensures.after refl

pub returns-then-is_some-2-clause-lines : goal.returns-then-is_some-2-clause-lines
returns-then-is_some-2-clause-lines c = λ all holds.
    let none = no-line c.next.result c.in_default.not-Some in
    let empty = not-there c.args.self.now.own (sym c.is_some.ensures ∙ c.if-is_some.false) in
    note-line c.args.self.now (record { ending = c.next.new.self; own = c.args.self.now.own; note = c.take-then-is_some-2.new.self }) all c.take-then-is_some-2.result holds
    (λ t given s. subst (λ r. StandsFor c.next.new.self t (given ++ option_to_list r)) none (c.next.ensures.stands t given s)) (c.next.ensures.none none)
    empty c.take-then-is_some-2.ensures.value empty c.take-then-is_some-2.ensures.after

pub returns-clause-lines : goal.returns-clause-lines
returns-clause-lines c = λ all holds.
    let none = no-line c.next.result c.in_default.not-Some in
    let empty = not-there c.args.self.now.own (sym c.is_some.ensures ∙ c.if-is_some.false) in
    let bare = not-there c.args.self.now.note (sym c.is_some-2.ensures ∙ c.if-is_some-2.false) in
    note-line c.args.self.now (record { ending = c.next.new.self; own = c.args.self.now.own; note = c.args.self.now.note }) all None holds
    (λ t given s. subst (λ r. StandsFor c.next.new.self t (given ++ option_to_list r)) none (c.next.ensures.stands t given s)) (c.next.ensures.none none)
    empty (sym bare) empty bare

pub returns-clause-none : goal.returns-clause-none
returns-clause-none c = λ nothing all holds.
    let none = no-line c.next.result c.in_default.not-Some in
    let empty = not-there c.args.self.now.own (sym c.is_some.ensures ∙ c.if-is_some.false) in
    let bare = not-there c.args.self.now.note (sym c.is_some-2.ensures ∙ c.if-is_some-2.false) in
    nothing-left (record { ending = c.next.new.self; own = c.args.self.now.own; note = c.args.self.now.note }) all (c.next.ensures.spent none) empty bare holds
