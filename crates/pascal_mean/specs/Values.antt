-- What each operator and each standard function gives.
use Rattle.std.specs.Prelude.{not, ◌&&◌, ◌||◌, Option, Some, ℤ, pos, neg_ℤ, int_le, int_lt, unsigned_abs}
use Rattle.std.specs.Ordering.{int_eq}
use Rattle.solo_base.specs.Arithmetic.{fit, sum, difference, product, quotient, remainder, truth, holds}
use Rattle.solo_base.specs.declared.outcome.ProgResult.TheVariants as result
use Rattle.pascal_tree.specs.declared.expression.Relation.{Relation}
use Rattle.pascal_tree.specs.declared.expression.Relation.TheVariants as relation
use Rattle.pascal_tree.specs.declared.expression.Sign.{Sign}
use Rattle.pascal_tree.specs.declared.expression.Sign.TheVariants as sign
use Rattle.pascal_tree.specs.declared.expression.Adding.{Adding}
use Rattle.pascal_tree.specs.declared.expression.Adding.TheVariants as adding
use Rattle.pascal_tree.specs.declared.expression.Multiplying.{Multiplying}
use Rattle.pascal_tree.specs.declared.expression.Multiplying.TheVariants as multiplying
use Rattle.pascal_mean.specs.Means.{Standard, Abs, Succ, Pred, Ord, Chr, Bounds}
use Rattle.pascal_mean.specs.Situation.{Part, Gives, choose, end_with, number_or_overflow}

abbrev pub compared_values : Relation → ℤ → ℤ → ℤ
compared_values relation.Equal l r = truth (int_eq l r)
compared_values relation.NotEqual l r = truth (not (int_eq l r))
compared_values relation.Less l r = truth (int_lt l r)
compared_values relation.Greater l r = truth (int_lt r l)
compared_values relation.LessOrEqual l r = truth (int_le l r)
compared_values relation.GreaterOrEqual l r = truth (int_le r l)

-- nothing stands for an overflow, here and in the next two
abbrev pub added : Adding → ℤ → ℤ → Option ℤ
added adding.Plus l r = sum l r
added adding.Minus l r = difference l r
added adding.Or l r = Some (truth (holds l || holds r))

abbrev pub multiplied : Multiplying → ℤ → ℤ → Option ℤ
multiplied multiplying.Times l r = product l r
multiplied multiplying.Div l r = quotient l r
multiplied multiplying.Mod l r = remainder l r
multiplied multiplying.And l r = Some (truth (holds l && holds r))

abbrev pub signed : Sign → ℤ → Option ℤ
signed sign.Plus v = Some v
signed sign.Minus v = fit (neg_ℤ v)

-- CHR outside 0 to 127 is a range error
abbrev pub standard_value : Standard → ℤ → Part ℤ
standard_value Abs v now = number_or_overflow (fit (pos (unsigned_abs v))) now
standard_value Succ v now = number_or_overflow (sum v (pos 1)) now
standard_value Pred v now = number_or_overflow (difference v (pos 1)) now
standard_value Ord v now = Gives v now
standard_value Chr v now =
    choose (int_le (pos 0) v && int_le v (pos 127)) (Gives v) (end_with result.RangeError) now

-- an index within its bounds, or a range error
abbrev pub within : Bounds → ℤ → Part ℤ
within bounds v now =
    choose (int_le bounds.low v && int_le v bounds.high) (Gives v) (end_with result.RangeError) now
