use Rattle.std.proofs.Common.{length}
use Rattle.access_check.proofs.name_list.NameList.+first_outside.Given as goal

abbrev pub decreases-first_outside : goal.decreases-first_outside
decreases-first_outside l = length l.names.now
