use Rattle.std.proofs.Common.{◌&&◌, eqb, sym, ◌∙◌}
use Rattle.std.proofs.lemmas.List.Folds.{list_any_more}
use Rattle.stack_code.specs.declared.instr.Instr.{Instr}
use Rattle.stack_code.specs.Rules.{is_jump}
use Rattle.stack_code.proofs.targets.mark_targets.Goals as goal

pub loop-instr-preserved : goal.loop-instr-preserved
loop-instr-preserved c = λ place below.
    let step = c.mark_target.ensures place below in
    let so_far = c.loop-instr.invariant place below in
    (rw so_far at step)
    ∙ sym (list_any_more (λ (i : Instr). is_jump i.op && eqb i.a place) c.instrs-instr-items.result.now c.loop-instr.instr-index _ c.loop-instr-test.true)
