use Rattle.prog_stack.proofs.Measure.{begins_within, itself_never_rises, reply_lowers_all, run_lowers, end_lowers}
use Rattle.prog_stack.proofs.laws.less_is_left_behind_each_call.Goals as goal

pub returns-clause-begins : goal.returns-clause-begins
returns-clause-begins c = begins_within

pub returns-clause-itself : goal.returns-clause-itself
returns-clause-itself c = itself_never_rises

pub returns-clause-reply : goal.returns-clause-reply
returns-clause-reply c = reply_lowers_all

pub returns-clause-run : goal.returns-clause-run
returns-clause-run c = run_lowers

pub returns-clause-end : goal.returns-clause-end
returns-clause-end c = end_lowers
