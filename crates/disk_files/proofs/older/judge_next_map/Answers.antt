use Rattle.disk_layout.proofs.JudgedMaps.{map_judged, map_passed}
use Rattle.disk_files.proofs.older.judge_next_map.Goals as goal

pub returns-clause-judged : goal.returns-clause-judged
returns-clause-judged g c =
    λ pages told r j. map_judged pages c.args.n _ c.args.roles.now _ c.args.bad.now _ c.judge_map_page-right.result c.if-roles-n.false
    (c.in_ok-read.ensures.page pages told) r j c.note_bad.ensures c.judge_map_page-right.ensures.noted c.judge_map_page-right.ensures.right
    c.judge_map_page-right.ensures.wrong

pub returns-then-roles-n-clause-judged : goal.returns-then-roles-n-clause-judged
returns-then-roles-n-clause-judged g c = λ pages told r j. map_passed _ c.args.n c.args.roles.now c.args.bad.now c.if-roles-n.true r j
