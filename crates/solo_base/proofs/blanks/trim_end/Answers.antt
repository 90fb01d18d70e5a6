use Rattle.std.proofs.Common.{◌∙◌, sym}
use Rattle.solo_base.proofs.Trimming.{trimmed-take_blank, trimmed-own}
use Rattle.solo_base.proofs.blanks.trim_end.Goals as goal

pub loop-front-preserved : goal.loop-front-preserved
loop-front-preserved c =
    trimmed-take_blank c.loop-front.front.now c.in-len1-up.len_at_least c.if-last-ne32.false ∙ c.loop-front.invariant

pub returns-then-last-ne32 : goal.returns-then-last-ne32
returns-then-last-ne32 c =
    sym (trimmed-own c.loop-front.front.now c.in-len1-up.len_at_least c.if-last-ne32.true) ∙ c.loop-front.invariant
