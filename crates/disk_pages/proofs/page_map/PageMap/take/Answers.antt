use Rattle.std.proofs.Common.{false, ap, ◌∙◌}
use Rattle.std.specs.FinSet as set
use Rattle.disk_pages.proofs.MarkedPages.{marks_one}
use Rattle.disk_pages.proofs.KeptMap.{bit_of, some_free, kept_taking}
use Rattle.disk_pages.proofs.page_map.PageMap.take.Goals as goal

pub overflow_sub-self : goal.overflow_sub-self
overflow_sub-self c =
    let map = c.self.inside in
    some_free map.low map.high map.least map.free c.args.n c.self.invariant c.requires.within
    (bit_of map.low map.high c.args.self.now c.args.n false c.self.view_is c.requires.within c.requires.free)

pub invariant_of-self : goal.invariant_of-self
invariant_of-self c =
    let map = c.self.inside in
    kept_taking c.args.n map.low map.high c.mark.new.low c.mark.new.high map.least map.free c.self.invariant c.requires.within
    (bit_of map.low map.high c.args.self.now c.args.n false c.self.view_is c.requires.within c.requires.free) c.mark.ensures

pub returns : goal.returns
returns c =
    let map = c.self.inside in
    record {
      taken = marks_one c.args.n map.low map.high c.mark.new.low c.mark.new.high c.requires.within c.mark.ensures ∙ ap (λ s. set.insert s c.args.n) c.self.view_is;
    }
