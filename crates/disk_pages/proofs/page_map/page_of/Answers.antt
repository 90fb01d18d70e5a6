use Rattle.std.proofs.Common.{length, ap, ◌∙◌, arith}
use Rattle.disk_pages.proofs.page_map.page_of.Goals as goal

pub returns-clause-page : goal.returns-clause-page
returns-clause-page c = record {
  length = ap length c.copy_from_slice.ensures.after ∙ c.requires;
  bytes = λ k. rw c.copy_from_slice.ensures.after (omega (arith, c.type_inv.bytes k));
}
