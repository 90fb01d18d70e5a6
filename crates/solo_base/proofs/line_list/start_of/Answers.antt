use Rattle.std.proofs.Common.{◌≡◌, ◌-◌, ◌<◌, length, suc, arith, sym, ap, ◌∙◌, refl}
use Rattle.solo_base.specs.LineList.{start_at}
use Rattle.solo_base.proofs.Cuts.{start_at-suc}
use Rattle.solo_base.proofs.line_list.start_of.Goals as goal

pub returns-then-place-eq0 : goal.returns-then-place-eq0
returns-then-place-eq0 c = rw c.if-place-eq0.true refl

pub returns-else-place-eq0 : goal.returns-else-place-eq0
returns-else-place-eq0 c =
    let before : c.args.place ≡ suc (c.args.place - 1) = omega arith in
    let below : c.args.place - 1 < length c.args.ends.now = omega arith in
    sym (ap (λ p. start_at 0 c.args.ends.now p) before ∙ start_at-suc 0 c.args.ends.now (c.args.place - 1) below)
