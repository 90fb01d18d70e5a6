use Rattle.std.proofs.Common.{sym, ◌∙◌, arith}
use Rattle.page_codec.proofs.Scan.{turn}
use Rattle.page_codec.proofs.judge.bad_item.Goals as goal

pub loop-left-preserved : goal.loop-left-preserved
loop-left-preserved c =
    let good = sym c.begins_item.ensures ∙ c.if-not-begins_item.false in
    let t = turn c.loop-left.at c.characters-passed.result c.loop-left.left.now c.in-len1-up.len_at_least good c.characters-passed.ensures in
    (t.bad ∙ c.loop-left.invariant.0, omega (arith, t.long, c.loop-left.invariant.1))
