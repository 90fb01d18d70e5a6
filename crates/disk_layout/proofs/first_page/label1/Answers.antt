use Rattle.std.proofs.Common.{◌∙◌}
use Rattle.disk_layout.proofs.FirstPage.{label1_written}
use Rattle.disk_layout.proofs.first_page.label1.Goals as goal

pub returns : goal.returns
returns c =
    c.bytes.ensures.bytes
    ∙ label1_written _ _ c.bytes.ensures.length c.zeros-page.ensures c.set_name_bytes.ensures.name (λ k behind. c.set_name_bytes.ensures.others.behind k behind)
