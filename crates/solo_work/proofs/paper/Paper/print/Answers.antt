use Rattle.std.proofs.Common.{ap, ◌∙◌}
use Rattle.solo_base.specs.declared.item.Item.TheVariants.{Line}
use Rattle.page_codec.specs.Packing.{page_given, hand_after}
use Rattle.solo_work.proofs.Pages.{line-added}
use Rattle.solo_work.proofs.paper.Paper.print.Goals as goal

pub returns : goal.returns
returns c = λ pages hand is.
    let packer = c.args.self.now.packer in
    line-added c.args.self.now c.args.line.now c.push.result c.push.new.self pages hand c.bytes.ensures.line
    (c.push.ensures.page ∙ ap (λ l. page_given packer (Line l)) c.copy.ensures) (c.push.ensures.hand ∙ ap (λ l. hand_after packer (Line l)) c.copy.ensures) is
