use Rattle.std.proofs.Common.{◌∙◌, sym}
use Rattle.disk_files.proofs.Deletes.{remove_absent}
use Rattle.disk_files.proofs.delete.free_page.Goals as goal

pub returns-else-is_taken : goal.returns-else-is_taken
returns-else-is_taken c = remove_absent _ c.args.n (sym c.is_taken.ensures.taken ∙ c.if-is_taken.false)
