use Rattle.std.proofs.Common.{true, ap, ◌∙◌}
use Rattle.std.specs.FinSet as set
use Rattle.disk_pages.proofs.MarkedPages.{unmarks_one}
use Rattle.disk_pages.proofs.KeptMap.{bit_of, kept_giving}
use Rattle.disk_pages.proofs.page_map.PageMap.give_back.Goals as goal

pub invariant_of-self : goal.invariant_of-self
invariant_of-self c =
    let map = c.self.inside in
    rw c.min-self-inside.ensures
    (kept_giving c.args.n map.low map.high c.mark.new.low c.mark.new.high map.least map.free c.self.invariant c.requires.within c.requires.file_page
    (bit_of map.low map.high c.args.self.now c.args.n true c.self.view_is c.requires.within c.requires.taken) c.mark.ensures)

pub returns : goal.returns
returns c =
    let map = c.self.inside in
    unmarks_one c.args.n map.low map.high c.mark.new.low c.mark.new.high c.mark.ensures ∙ ap (λ s. set.remove s c.args.n) c.self.view_is
