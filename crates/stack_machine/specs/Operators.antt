-- What each operator of one or two operands gives.
use Rattle.std.specs.Prelude.{not, ◌&&◌, ◌||◌, Option, Some, None, ℤ, pos, negsuc, ◌+ℤ◌, neg_ℤ, unsigned_abs, int_le, int_lt}
use Rattle.std.specs.Ordering.{int_eq}
use Rattle.stack_code.specs.declared.table.Op.{Op}
use Rattle.stack_code.specs.declared.table.Op.TheVariants as op
use Rattle.solo_base.specs.Arithmetic.{fit, sum, difference, product, quotient, remainder, truth, holds}

abbrev pub unary_of : Op → ℤ → Option ℤ
unary_of op.Neg v = fit (neg_ℤ v)
unary_of op.Abs v = fit (pos (unsigned_abs v))
unary_of op.Not v = Some (truth (not (holds v)))
unary_of op.Succ v = fit (v +ℤ pos 1)
unary_of op.Pred v = fit (v +ℤ negsuc 0)
unary_of other v = None

abbrev pub binary_of : Op → ℤ → ℤ → Option ℤ
binary_of op.Add l r = sum l r
binary_of op.Sub l r = difference l r
binary_of op.Mul l r = product l r
binary_of op.Div l r = quotient l r
binary_of op.Mod l r = remainder l r
binary_of op.And l r = Some (truth (holds l && holds r))
binary_of op.Or l r = Some (truth (holds l || holds r))
binary_of op.Eq l r = Some (truth (int_eq l r))
binary_of op.Ne l r = Some (truth (not (int_eq l r)))
binary_of op.Lt l r = Some (truth (int_lt l r))
binary_of op.Gt l r = Some (truth (int_lt r l))
binary_of op.Le l r = Some (truth (int_le l r))
binary_of op.Ge l r = Some (truth (int_le r l))
binary_of other l r = None
