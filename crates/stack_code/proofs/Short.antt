-- A listed line is far shorter than a line may be.
use Rattle.std.proofs.Common.{◌≡◌, ℕ, ◌^◌, ◌<◌, ◌≤◌, List, [], ◌∷◌, ◌++◌, length, ap, arith, lit≤}
use Rattle.std.specs.Fmt.{decimal}
use Rattle.std.proofs.lemmas.Fmt.{length-decimal-le}
use Rattle.std.proofs.lemmas.List.{length-append}
use Rattle.stack_code.specs.declared.table.Op.{Op}
use Rattle.stack_code.specs.declared.table.Op.TheVariants as op
use Rattle.stack_code.specs.Table.{name_of}

name_is_short : (o : Op) → length (name_of o) ≤ 7
name_is_short op.Push = lit≤ tt
name_is_short other = lit≤ tt

-- the name, a blank and a number
pub begun_is_short : (o : Op) (empty name first second third : List ℕ) (n : ℕ) → empty ≡ [] → name ≡ name_of o → first ≡ empty ++ name → second ≡ first ++ 32 ∷ [] → n < 2 ^ 32 → third ≡ second ++ decimal n → length third ≤ 18
begun_is_short o empty name first second third n e0 e1 e2 e3 fits e4 =
    omega (arith, ap length e0, ap length e1, ap length e2, ap length e3, ap length e4, name_is_short o, length-append empty name, length-append first (32 ∷ []), length-append second (decimal n), length-decimal-le 10 n (omega arith) (omega arith) (omega arith))
