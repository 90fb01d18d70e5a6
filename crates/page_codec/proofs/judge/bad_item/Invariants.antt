use Rattle.std.proofs.Common.{◌≡◌, ◌+◌, length}
use Rattle.page_codec.specs.Reading.{bad_item_after}
use Rattle.page_codec.proofs.judge.bad_item.Given as goal

abbrev pub invariant-loop-left : goal.invariant-loop-left
invariant-loop-left l =
    (bad_item_after l.at 0 l.left ≡ bad_item_after 6 0 l.fn.content) × (l.at + length l.left ≡ 6 + length l.fn.content)

abbrev pub decreases-loop-left : goal.decreases-loop-left
decreases-loop-left l = length l.left
