use Rattle.std.proofs.Common.{refl, arith}
use Rattle.real_time.proofs.Digits.{one_digit}
use Rattle.real_time.proofs.rows.worked_rows.Goals as goal

pub returns-clause-tasks : goal.returns-clause-tasks
returns-clause-tasks c =
    rw (one_digit 1 (omega arith), one_digit 2 (omega arith), one_digit 5 (omega arith), one_digit 6 (omega arith), one_digit 9 (omega arith)) refl

pub returns-clause-refused : goal.returns-clause-refused
returns-clause-refused c = rw (one_digit 0 (omega arith)) refl
