use Rattle.pascal_mean.proofs.Answering.{each_ends, one_ending}
use Rattle.pascal_mean.proofs.BatchReplies.{batch_fits, batch_replies_fit}
use Rattle.pascal_mean.proofs.laws.each_program_ends_in_the_batch.Goals as goal

pub returns-clause-ends : goal.returns-clause-ends
returns-clause-ends c = each_ends

pub returns-clause-fits : goal.returns-clause-fits
returns-clause-fits c = batch_fits

pub returns-clause-replies : goal.returns-clause-replies
returns-clause-replies c = batch_replies_fit

pub returns-clause-one : goal.returns-clause-one
returns-clause-one c = one_ending
