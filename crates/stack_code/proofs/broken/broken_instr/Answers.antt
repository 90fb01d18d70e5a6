use Rattle.std.proofs.Common.{◌+◌, not, sym, ◌∙◌, ap, length, arith}
use Rattle.std.specs.Prelude.{false}
use Rattle.std.proofs.lemmas.List.{get_or-replicate}
use Rattle.stack_code.specs.CodeFile.{least}
use Rattle.stack_code.specs.Rules.{instr_is_good}
use Rattle.stack_code.proofs.Least.{least_here, least_further, least_nowhere}
use Rattle.stack_code.proofs.Along.{along_start}
use Rattle.stack_code.proofs.broken.broken_instr.Goals as goal

pub loop-place-init : goal.loop-place-init
loop-place-init c = record {
  least = ap (least (λ place. not (instr_is_good c.args.code.now place)) 0) (omega (arith, ap length c.instrs-place-end.ensures.list));
  along = along_start c.args.code.now c.requires (omega (arith, c.instrs-place-end.ensures.code.some_routine));
}

pub returns-then-not-instr_is_good-clause-first : goal.returns-then-not-instr_is_good-clause-first
returns-then-not-instr_is_good-clause-first c =
    sym (least_here (λ place. not (instr_is_good c.args.code.now place)) c.loop-place.place
    (length c.instrs-place-end.result.now) c.loop-place-test.true (ap not (sym c.instr_is_good.ensures ∙ c.if-not-instr_is_good.true)))
    ∙ c.loop-place.invariant.least

pub loop-place-preserved : goal.loop-place-preserved
loop-place-preserved c = record {
  least =
      sym (least_further (λ place. not (instr_is_good c.args.code.now place)) c.loop-place.place
      (length c.instrs-place-end.result.now) c.loop-place-test.true (ap not (sym c.instr_is_good.ensures ∙ c.if-not-instr_is_good.false)))
      ∙ c.loop-place.invariant.least;
  along = c.along_next-along.ensures;
}

pub returns-clause-first : goal.returns-clause-first
returns-clause-first c =
    sym (least_nowhere (λ place. not (instr_is_good c.args.code.now place)) c.loop-place.place
    (length c.instrs-place-end.result.now) c.loop-place-test.false)
    ∙ c.loop-place.invariant.least

pub mark_targets-requires : goal.mark_targets-requires
mark_targets-requires c = λ place below. get_or-replicate 8193 place false false below

pub instr_is_good-requires-clause-target : goal.instr_is_good-requires-clause-target
instr_is_good-requires-clause-target c = c.mark_targets.ensures c.loop-place.place (omega
    (arith, c.loop-place-test.true, c.instrs-place-end.ensures.code.few_instrs, ap length c.instrs-place-end.ensures.list))

pub along_next-along-requires-clause-target : goal.along_next-along-requires-clause-target
along_next-along-requires-clause-target c = c.mark_targets.ensures (c.loop-place.place + 1) (omega
    (arith, c.loop-place-test.true, c.instrs-place-end.ensures.code.few_instrs, ap length c.instrs-place-end.ensures.list))
