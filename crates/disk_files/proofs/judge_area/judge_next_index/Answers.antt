use Rattle.disk_layout.proofs.Judged.{judged_here, passed_over}
use Rattle.disk_files.proofs.judge_area.judge_next_index.Goals as goal

pub returns-clause-judged : goal.returns-clause-judged
returns-clause-judged g c =
    λ pages told r j. judged_here pages c.args.n _ c.args.roles.now _ c.args.bad.now _ c.judge_index-right.result c.if-roles-n.false
    (c.in_ok-read.ensures.page pages told) r j c.note_bad.ensures c.judge_index-right.ensures.noted c.judge_index-right.ensures.right
    c.judge_index-right.ensures.wrong

pub returns-then-roles-n-clause-judged : goal.returns-then-roles-n-clause-judged
returns-then-roles-n-clause-judged g c = λ pages told r j. passed_over _ c.args.n c.args.roles.now c.args.bad.now c.if-roles-n.true r j
