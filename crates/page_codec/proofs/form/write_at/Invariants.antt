use Rattle.std.proofs.Common.{◌≡◌, ◌+◌, ◌++◌, take, drop}
use Rattle.page_codec.proofs.form.write_at.Given as goal

abbrev pub invariant-loop-i : goal.invariant-loop-i
invariant-loop-i l = l.bytes ≡ take l.at l.fn.bytes ++ take l.i l.piece ++ drop (l.at + l.i) l.fn.bytes
