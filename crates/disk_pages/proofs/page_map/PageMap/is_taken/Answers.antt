use Rattle.std.proofs.Common.{ap, sym, ◌∙◌}
use Rattle.std.specs.FinSet as set
use Rattle.disk_pages.proofs.MarkedPages.{contains-marked_page}
use Rattle.disk_pages.proofs.page_map.PageMap.is_taken.Goals as goal

pub returns-clause-taken : goal.returns-clause-taken
returns-clause-taken c =
    let map = c.self.inside in
    c.is_marked.ensures ∙ sym (contains-marked_page map.low map.high c.args.n c.requires) ∙ ap (λ s. set.contains s c.args.n) c.self.view_is
