use Rattle.std.proofs.Common.{max, ◌∙◌, ap, arith}
use Rattle.stack_code.specs.declared.instr.RoutineInfo.{RoutineInfo}
use Rattle.stack_code.specs.CodeLists.{routine_at}
use Rattle.stack_machine.proofs.Rooms.{more_covered}
use Rattle.stack_machine.proofs.room.Room.of.Goals as goal

pub loop-number-preserved : goal.loop-number-preserved
loop-number-preserved c =
    let so_far = c.loop-number.invariant in
    let words = c.max-words.ensures ∙ ap (λ (r : RoutineInfo). max r.words c.loop-number.words) c.routine_at-routine.ensures.routine in
    let height = c.max-height.ensures ∙ ap (λ (r : RoutineInfo). max r.height c.loop-number.height) c.routine_at-routine.ensures.routine in
    record {
      words = more_covered c.loop-number.number c.loop-number.words c.max-words.result (λ k. (routine_at c.args.code.now k).words) so_far.words words;
      height = more_covered c.loop-number.number c.loop-number.height c.max-height.result (λ k. (routine_at c.args.code.now k).height) so_far.height height;
      no_more_words = λ n all. omega (arith, words, all c.loop-number.number, so_far.no_more_words n all);
      no_higher = λ n all. omega (arith, height, all c.loop-number.number, so_far.no_higher n all);
      small = omega (arith, c.max-words.ensures, c.routine_at-routine.ensures.small, so_far.small);
      low = omega (arith, c.max-height.ensures, c.routine_at-routine.ensures.low, so_far.low);
    }
