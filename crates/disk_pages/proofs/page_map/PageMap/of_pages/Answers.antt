use Rattle.std.proofs.Common.{ap, sym, ◌∙◌}
use Rattle.std.specs.FinSet as set
use Rattle.disk_pages.proofs.BitMaps.{one_more_read, none_more_read}
use Rattle.disk_pages.proofs.page_map.PageMap.of_pages.Goals as goal
use Rattle.disk_pages.proofs.page_map.PageMap.of_pages.Goals.{then-is_marked, else-is_marked}

pub loop-n-preserved : goal.loop-n-preserved
loop-n-preserved c = λ q. elim c.if-is_marked.branch [
  | then-is_marked w ↦
      ap (λ s. set.contains s q) (w.map-is ∙ w.take.ensures.taken)
      ∙ one_more_read c.args.low.now c.args.high.now c.loop-n.map c.loop-n.n q (c.loop-n.invariant q) (sym c.is_marked.ensures ∙ w.if-is_marked.true)
  | else-is_marked w ↦
      ap (λ s. set.contains s q) w.map-is
      ∙ none_more_read c.args.low.now c.args.high.now c.loop-n.map c.loop-n.n q (c.loop-n.invariant q) (sym c.is_marked.ensures ∙ w.if-is_marked.false)
]
