use Rattle.std.proofs.Common.{◌≡◌, ◌-◌, ◌++◌, take}
use Rattle.std.specs.Prelude.{map, replicate}
use Rattle.solo_base.specs.Ident.{capital}
use Rattle.solo_base.proofs.ident.padded.Given as goal

abbrev pub invariant-loop-place : goal.invariant-loop-place
invariant-loop-place l = l.padded ≡ map capital (take l.place l.bytes) ++ replicate (12 - l.place) 32
