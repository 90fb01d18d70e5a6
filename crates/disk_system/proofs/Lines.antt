-- How long a line of the list is.
use Rattle.std.proofs.Common.{ℕ, ◌<◌, ◌≤◌, ◌^◌, length, arith}
use Rattle.std.specs.Fmt.{decimal}
use Rattle.std.proofs.lemmas.Fmt.{length-decimal-le}

pub few_digits : (n : ℕ) → n < 2 ^ 16 → length (decimal n) ≤ 5
few_digits n small = length-decimal-le 5 n (omega arith) (omega (arith, small)) (omega (arith, small))
