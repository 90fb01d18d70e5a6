use Rattle.std.proofs.Common.{not, sym, ◌∙◌, ap, length}
use Rattle.stack_code.specs.Rules.{routine_is_good}
use Rattle.stack_code.proofs.Least.{least_here, least_further, least_nowhere}
use Rattle.stack_code.proofs.broken.broken_routine.Goals as goal

pub returns-then-not-routine_is_good-clause-first : goal.returns-then-not-routine_is_good-clause-first
returns-then-not-routine_is_good-clause-first c =
    sym (least_here (λ k. not (routine_is_good c.args.code.now k)) c.loop-k.k (length c.routines-k-end.result.now) c.loop-k-test.true (ap not (sym c.routine_is_good.ensures ∙ c.if-not-routine_is_good.true)))
    ∙ c.loop-k.invariant

pub loop-k-preserved : goal.loop-k-preserved
loop-k-preserved c =
    sym (least_further (λ k. not (routine_is_good c.args.code.now k)) c.loop-k.k (length c.routines-k-end.result.now) c.loop-k-test.true (ap not (sym c.routine_is_good.ensures ∙ c.if-not-routine_is_good.false)))
    ∙ c.loop-k.invariant

pub returns-clause-first : goal.returns-clause-first
returns-clause-first c =
    sym (least_nowhere (λ k. not (routine_is_good c.args.code.now k)) c.loop-k.k (length c.routines-k-end.result.now) c.loop-k-test.false)
    ∙ c.loop-k.invariant
