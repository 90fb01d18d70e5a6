-- Where a program stands that is under way in the batch.
use Rattle.std.specs.Prelude.{◌≡◌, ℕ, ◌+◌, ◌*◌, Bool, false, List, [], length}
use Rattle.stack_machine.specs.Standing.{Standing}
use Rattle.stack_machine.specs.Left.{left_until_end}
use Rattle.pascal_mean.specs.Batch.{last_line}

-- the machine, what is left of the cards so far, whether no further one comes, and the line in hand
pub record Progress : Type 0 where
  pub machine : Standing
  pub input : List ℕ
  pub closed : Bool
  pub line : List ℕ

-- all characters of its cards were read, and a further card may come
pub record NeedsCard (p : Progress) : Type 0 where
  pub input : p.input ≡ []
  pub closed : p.closed ≡ false

-- No more lines than these are still to come, whatever cards follow: a call completes one at most, and of
-- what is left to run each call takes some.
abbrev pub most_lines_left : Progress → ℕ
most_lines_left p =
    2 * left_until_end p.machine.code p.machine.limit p.machine.state + length (last_line p.line)
