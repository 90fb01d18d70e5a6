use Rattle.std.proofs.Common.{◌≤◌, ◌<◌, ◌++◌, length, refl, arith}
use Rattle.std.proofs.lemmas.Bool.{le-leb, lt-leb}
use Rattle.std.proofs.lemmas.Grind.{common_steps}
use Rattle.page_codec.specs.Items.{item_bytes}
use Rattle.page_codec.proofs.Cutting.{packed_on, packed_more}
use Rattle.page_codec.proofs.packer.Packer.push_into.Goals as goal

pub returns-then-length_of-remaining_capacity-clause-history :
    goal.returns-then-length_of-remaining_capacity-clause-history
returns-then-length_of-remaining_capacity-clause-history c =
    λ items pages packed.
    let short : length (c.args.self.now.content ++ item_bytes c.args.item.now) ≤ 506 = grind (arith, common_steps) in
    rw (le-leb _ _ short) (packed_on _ items pages _ _ packed c.length_of.ensures.item short (rw (← c.self.view_is) refl) (grind (arith, common_steps)))

pub returns-clause-history : goal.returns-clause-history
returns-clause-history c =
    λ items pages packed.
    let full : 506 < length (c.args.self.now.content ++ item_bytes c.args.item.now) = grind (arith, common_steps) in
    rw (lt-leb _ _ full) (packed_more _ items pages _ _ _ packed c.length_of.ensures.item full (grind (arith, common_steps)) (grind (arith, common_steps)) refl)
