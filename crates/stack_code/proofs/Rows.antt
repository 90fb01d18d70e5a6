-- The numbers of the table's rows.
use Rattle.std.proofs.Common.{◌≡◌, ℕ, ◌<◌, Some, length, refl, sym, ◌∙◌}
use Rattle.std.proofs.Common.{get_or}
use Rattle.std.proofs.Common.{true, eqb, ap}
use Rattle.std.proofs.lemmas.Bool.{eqb-true, agree_below_at}
use Rattle.std.proofs.lemmas.Option.{slice_get-get_or, slice_get_within}
use Rattle.stack_code.specs.declared.table.Op.{Op}
use Rattle.stack_code.specs.declared.table.Op.TheVariants as op
use Rattle.stack_code.specs.Table.{row, ops, op_at}

-- the number of an operation leads to it
pub op_at-number : (o : Op) → op_at (row o).number ≡ Some o
op_at-number op.Push = refl
op_at-number other = refl

pub some_is : {X : Type 0} (x y : X) → Some x ≡ Some y → x ≡ y
some_is x y e = cc

-- the number leads to the operation, and back
pub number-op_at : (n : ℕ) (o : Op) → op_at n ≡ Some o → (row o).number ≡ n
number-op_at n o found =
    let below : n < length ops = slice_get_within ops n o found in
    let there : get_or ops n op.Halt ≡ o = some_is _ _ (sym (slice_get-get_or ops n op.Halt below) ∙ found) in
    let same = eqb-true _ _ (agree_below_at (λ k. eqb (row (get_or ops k op.Halt)).number k) (λ k. true) (length ops) n refl below) in
    sym (ap (λ (x : Op). (row x).number) there) ∙ same
