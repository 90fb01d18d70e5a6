use Rattle.std.proofs.Common.{◌∙◌, ap, set, length-set}
use Rattle.disk_system.proofs.Clearing.{formatted}
use Rattle.disk_system.proofs.Stores.{on_done}
use Rattle.disk_system.proofs.formatting.write_first_pages.Goals as goal

pub returns-clause-formatted : goal.returns-clause-formatted
returns-clause-formatted g c = λ pages told size.
    let first = c.in_ok-write.ensures.page pages told in
    let cleared = c.in_ok-clear_catalogue.ensures.cleared _ first (length-set pages 0 c.label.result.0 ∙ size) in
    let low = c.in_ok-write-2.ensures.page cleared.0 cleared.1 in
    on_done c.write-3.result _ _
    (λ high. (
      set (set cleared.0 16 c.to_pages.result.0.0) 17 c.to_pages.result.1.0,
      high,
      formatted pages _ cleared.0 c.fresh.result c.to_pages.result.0 c.to_pages.result.1 size
          (ap (set pages 0) c.label.ensures) cleared.2 c.to_pages.ensures.bits
          c.to_pages.ensures.format c.fresh.ensures,
    ))
    (c.write-3.ensures.page _ low)
