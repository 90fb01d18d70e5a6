use Rattle.std.proofs.Common.{◌==◌, ap, sym, ◌∙◌}
use Rattle.std.specs.Int.{w8}
use Rattle.std.proofs.lemmas.Nat.Bits.{bit_at_set_same, bit_at_set_other, bit_at_clear_same, bit_at_clear_other}
use Rattle.disk_pages.proofs.bits.with_bit.Goals as goal

pub returns-then-on-clause-bit : goal.returns-then-on-clause-bit
returns-then-on-clause-bit c = ap (λ b. b == 1) (bit_at_set_same w8 c.args.byte c.args.i c.requires) ∙ sym c.if-on.true

pub returns-then-on-clause-others : goal.returns-then-on-clause-others
returns-then-on-clause-others c = λ j below apart. bit_at_set_other w8 c.args.byte c.args.i c.requires j apart

pub returns-else-on-clause-bit : goal.returns-else-on-clause-bit
returns-else-on-clause-bit c = ap (λ b. b == 1) (bit_at_clear_same w8 c.args.byte c.args.i c.requires) ∙ sym c.if-on.false

pub returns-else-on-clause-others : goal.returns-else-on-clause-others
returns-else-on-clause-others c = λ j below apart. bit_at_clear_other w8 c.args.byte c.args.i c.requires j below apart
