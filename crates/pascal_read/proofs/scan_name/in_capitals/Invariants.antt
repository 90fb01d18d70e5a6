use Rattle.std.proofs.Common.{◌≡◌, map, take}
use Rattle.solo_base.specs.Ident.{capital}
use Rattle.pascal_read.proofs.scan_name.in_capitals.Given as goal

abbrev pub invariant-loop-letter : goal.invariant-loop-letter
invariant-loop-letter l = l.name ≡ map capital (take l.letter-index l.letters)
