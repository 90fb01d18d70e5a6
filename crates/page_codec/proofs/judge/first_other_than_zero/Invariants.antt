use Rattle.std.proofs.Common.{◌≡◌, ◌+◌, drop}
use Rattle.page_codec.specs.Reading.{first_other_than_zero}
use Rattle.page_codec.proofs.judge.first_other_than_zero.Given as goal

abbrev pub invariant-loop-byte : goal.invariant-loop-byte
invariant-loop-byte l =
    (l.at ≡ l.from + l.byte-index) × (first_other_than_zero l.at (drop l.byte-index l.bytes) ≡ first_other_than_zero l.from l.bytes)
