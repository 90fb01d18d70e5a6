-- How many digits a number has.
use Rattle.std.proofs.Common.{ℕ, ◌+◌, ◌/◌, ◌<◌, ◌≤◌, ◌^◌, List, ◌++◌, length, length-append, arith}
use Rattle.std.specs.Fmt.{decimal}
use Rattle.std.proofs.lemmas.Fmt.{length-decimal-le}

-- a line with room for ten digits has room for the last of them
pub few_before : (line : List ℕ) (n : ℕ) → n < 2 ^ 32 → length line + 10 ≤ 132 → length (line ++ decimal (n / 10)) < 132
few_before line n small room =
    let few : length (decimal (n / 10)) ≤ 9 = length-decimal-le 9 (n / 10) (omega arith) (omega arith) (omega arith) in
    rw (length-append line (decimal (n / 10))) (omega arith)
