use Rattle.pascal_mean.proofs.Answering.{more_replies, each_call}
use Rattle.pascal_mean.proofs.laws.replies_are_taken_in_order.Goals as goal

pub returns-clause-more : goal.returns-clause-more
returns-clause-more c = more_replies

pub returns-clause-each : goal.returns-clause-each
returns-clause-each c = each_call
