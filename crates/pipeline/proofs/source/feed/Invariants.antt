use Rattle.std.proofs.Common.{◌≡◌, false, List, Some}
use Rattle.slot_buffer.specs.Calls.{has_stop, sent_of}
use Rattle.pipeline.specs.First.{IsFirst}
use Rattle.pipeline.specs.Rows.{items}
use Rattle.pipeline.proofs.source.feed.Given as goal

abbrev pub invariant-loop : goal.invariant-loop
invariant-loop g l = (l.putter.gate ≡ l.back) × (has_stop l.putter.calls ≡ false) × (sent_of l.putter.calls ≡ items (g.S.Source.gave l.source))
    × (g.S.Source.tells l.source ≡ g.S.Source.tells l.fn.source)
    × ((all : List _) → g.S.Source.tells l.source ≡ Some all → IsFirst (g.S.Source.gave l.source) all)
