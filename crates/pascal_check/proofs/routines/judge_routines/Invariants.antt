use Rattle.std.proofs.Common.{◌≡◌, drop, map}
use Rattle.pascal_tree.specs.SeenProgram.{seen_routine}
use Rattle.pascal_tree.specs.DeclarationRules.{judged_routines, behind_routines, first_broken}
use Rattle.pascal_check.specs.Entered.{IsOfProgram}
use Rattle.pascal_check.proofs.routines.judge_routines.Given as goal

abbrev pub invariant-loop-place : goal.invariant-loop-place
invariant-loop-place l = record {
  of_program : IsOfProgram l.scope;
  judged : first_broken (judged_routines l.scope l.place (map seen_routine (drop l.place l.routines)))
      ≡ first_broken (judged_routines l.fn.scope 0 (map seen_routine l.routines));
  behind : behind_routines l.scope (map seen_routine (drop l.place l.routines)) ≡ behind_routines l.fn.scope (map seen_routine l.routines);
}
