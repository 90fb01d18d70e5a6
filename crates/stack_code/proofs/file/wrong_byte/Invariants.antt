-- The least wrong place of the whole file is the least one among the places from here on.
use Rattle.std.proofs.Common.{◌≡◌, ◌+◌, ◌-◌}
use Rattle.stack_code.specs.CodeFile.{is_wrong, file_end, least}
use Rattle.stack_code.proofs.file.wrong_byte.Given as goal

abbrev pub invariant-loop-place : goal.invariant-loop-place
invariant-loop-place l = least (is_wrong l.bytes) l.place (l.place-end - l.place) ≡ least (is_wrong l.bytes) 0 (file_end l.bytes + 1)
