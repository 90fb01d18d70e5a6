use Rattle.std.proofs.Common.{◌≡◌, length}
use Rattle.solo_base.specs.Blanks.{trimmed}
use Rattle.solo_base.proofs.blanks.trim_end.Given as goal

abbrev pub invariant-loop-front : goal.invariant-loop-front
invariant-loop-front l = trimmed l.front ≡ trimmed l.bytes

abbrev pub decreases-loop-front : goal.decreases-loop-front
decreases-loop-front l = length l.front
