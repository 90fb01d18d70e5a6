-- The line that tells how long a run of the core took.
use Rattle.std.specs.Prelude.{ℕ, List, ◌++◌, codes}
use Rattle.std.specs.Fmt.{decimal}

-- `COUNTS: 54 EVENTS, 9 DELAYS, 4 GRANTS`: how many events there were, how many of them ended in a delay, and
-- how often the disk was granted
abbrev pub counts_line : ℕ → ℕ → ℕ → List ℕ
counts_line events delays grants =
    codes "COUNTS: " ++ decimal events ++ codes " EVENTS, " ++ decimal delays ++ codes " DELAYS, "
    ++ decimal grants ++ codes " GRANTS"
