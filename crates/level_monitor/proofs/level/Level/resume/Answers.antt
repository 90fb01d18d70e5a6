use Rattle.std.proofs.Common.{◌≡◌, ◌%◌, ap, arith}
use Rattle.std.proofs.lemmas.Bool.Decides.{nat_tests}
use Rattle.std.specs.Prelude.{slice_set, false}
use Rattle.level_monitor.proofs.level.Level.resume.Goals as goal

pub returns-then-p-eq1 : goal.returns-then-p-eq1
returns-then-p-eq1 c = record {
  process = c.requires.process;
  call = grind (arith, nat_tests);
  range = let can = c.requires.can.0 (omega arith) in omega arith;
  level = omega arith;
  waiting = ap (λ n. slice_set c.args.self.now.waiting n false) c.from.ensures;
  woken = λ q e. let h = c.first_waiting-self.ensures q e in let even : q % 2 ≡ 0 = h.1 in (h.0, ((λ odd. absurd (omega arith)), (λ _. omega arith)));
}

pub returns-else-p-eq1 : goal.returns-else-p-eq1
returns-else-p-eq1 c = let odd_no = c.if-p-eq1.false in let even : c.args.p % 2 ≡ 0 = omega (arith, odd_no) in let low = c.requires.can.1 even in let range = c.requires.range in record {
  process = c.requires.process;
  call = grind (arith, nat_tests);
  range = omega arith;
  level = omega arith;
  waiting = ap (λ n. slice_set c.args.self.now.waiting n false) c.from.ensures;
  woken = λ q e. let h = c.first_waiting-self-else-p-eq1.ensures q e in let odd : q % 2 ≡ 1 = h.1 in (h.0, ((λ _. omega arith), (λ even. absurd (omega arith))));
}
