use Rattle.std.proofs.Common.{inl, inr}
use Rattle.disk_layout.proofs.JudgedFiles.{part_judged_here, passed_part}
use Rattle.disk_files.proofs.judge_area.judge_next_part.Goals as goal

pub returns-clause-judged : goal.returns-clause-judged
returns-clause-judged g c = λ pages told r j.
    part_judged_here pages c.args.n _ c.args.roles.now _ c.args.bad.now _ c.judge_part-right.result c.if-count-eq0.false c.if-count-gt250.false
    (c.in_ok-read.ensures.page pages told) r j c.note_bad.ensures
    c.judge_part-right.ensures.noted c.judge_part-right.ensures.right c.judge_part-right.ensures.wrong

pub returns-then-count-eq0-clause-judged : goal.returns-then-count-eq0-clause-judged
returns-then-count-eq0-clause-judged g c = λ pages told r j.
    passed_part _ c.args.roles.now c.args.n c.args.bad.now (elim c.then-count-eq0.either [ inl zero ↦ inl zero | inr many ↦ inr many.1 ]) r j
