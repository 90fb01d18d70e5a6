use Rattle.std.proofs.Common.{length}
use Rattle.access_check.proofs.name_list.NameList.+append.Given as goal

abbrev pub decreases-append : goal.decreases-append
decreases-append l = length l.names.now
