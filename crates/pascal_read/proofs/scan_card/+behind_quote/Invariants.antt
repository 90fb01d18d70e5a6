use Rattle.std.proofs.Common.{length}
use Rattle.pascal_read.proofs.scan_card.+behind_quote.Given as goal

abbrev pub decreases-behind_quote : goal.decreases-behind_quote
decreases-behind_quote l = length l.bytes.now
