use Rattle.std.proofs.Common.{◌≡◌, ◌++◌, drop}
use Rattle.solo_base.specs.Text.{text}
use Rattle.pascal_mean.proofs.input.text_of.Given as goal

abbrev pub invariant-loop-place : goal.invariant-loop-place
invariant-loop-place l = l.text.items ++ text (drop l.place l.cards) ≡ text l.cards
