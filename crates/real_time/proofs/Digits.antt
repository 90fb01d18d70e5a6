-- Numbers of one digit.
use Rattle.std.proofs.Common.{◌≡◌, ℕ, ◌+◌, ◌<◌, [], ◌∷◌, refl, arith}
use Rattle.std.specs.Fmt.{decimal}
use Rattle.std.proofs.lemmas.Fmt.{decimal_by_steps}

pub one_digit : (n : ℕ) → n < 10 → decimal n ≡ (48 + n) ∷ []
one_digit n small =
    decimal_by_steps (λ n ds. n < 10 → ds ≡ (48 + n) ∷ []) (λ n small again. refl)
    (λ n ds big before small. absurd (omega (arith, big, small))) n (omega (arith, small)) small
