use Rattle.std.proofs.Common.{◌≡◌, length, pos, ap, sym, ◌∙◌, arith}
use Rattle.solo_base.proofs.Copies.{image}
use Rattle.solo_base.proofs.ident.Ident.words.Goals as goal

pub returns : goal.returns
returns c =
    let long : length c.args.self.now ≡ 12 = ap length (sym c.self.view_is) ∙ c.self.told in
    image pos 0 (pos 0) c.args.self.now c.loop-place.words (c.loop-place.invariant.long ∙ sym long)
    (λ i inside. c.loop-place.invariant.same i (omega (arith, long, inside, c.loop-place-test.false)))
