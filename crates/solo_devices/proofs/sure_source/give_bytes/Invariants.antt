use Rattle.std.proofs.Common.{◌≡◌, take}
use Rattle.solo_devices.proofs.sure_source.give_bytes.Given as goal

abbrev pub invariant-loop-place : goal.invariant-loop-place
invariant-loop-place l = take l.place l.piece ≡ take l.place l.left
