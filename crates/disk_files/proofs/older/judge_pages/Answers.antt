use Rattle.std.proofs.Common.{◌∙◌}
use Rattle.disk_files.proofs.older.judge_pages.Goals as goal

pub returns-clause-judged : goal.returns-clause-judged
returns-clause-judged g c =
    λ pages told. c.judge_rest.ensures.judged pages (c.in_ok-judge_label.ensures.left ∙ told) (c.in_ok-judge_label.ensures.judged pages told)
