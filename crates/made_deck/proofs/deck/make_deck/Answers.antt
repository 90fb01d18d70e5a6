use Rattle.std.proofs.Common.{rules}
use Rattle.made_deck.proofs.Texts.{job_more}
use Rattle.made_deck.proofs.deck.make_deck.Goals as goal

pub loop-k-preserved : goal.loop-k-preserved
loop-k-preserved c = search (rules, job_more)
