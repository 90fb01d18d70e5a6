use Rattle.std.proofs.Common.{[], ◌∷◌, refl}
use mathlib.Core.Logic.{inl, inr}
use Rattle.access_check.specs.RunRows.{monitor_a, monitor_b, process_p, process_q}
use Rattle.access_check.specs.Places.{same}
use Rattle.access_check.proofs.Entering.{beside_the_first}
use Rattle.access_check.proofs.run_rows.runs_into_cycles.Goals as goal

pub returns-clause-itself : goal.returns-clause-itself
returns-clause-itself c = refl

pub returns-clause-alone : goal.returns-clause-alone
returns-clause-alone c = record {
  run = (record { is_process = inl refl; right = inl refl; free = λ other process there. there }, tt);
  cycle = record {
    first = process_p;
    others = [];
    processes = (inl refl, tt);
    waits = record { monitor = monitor_a; right = inr (inl refl); inside = inl refl };
  };
  first_is = refl;
  others_are = refl;
}

pub returns-clause-each_other : goal.returns-clause-each_other
returns-clause-each_other c = refl

pub returns-clause-together : goal.returns-clause-together
returns-clause-together c = record {
  run = (
    record { is_process = inl refl; right = inl refl; free = λ other process there. there },
    (
      record {
        is_process = inr (inl refl);
        right = inr (inl refl);
        free = λ other process there. beside_the_first (same process_p other) there;
      },
      tt,
    ),
  );
  cycle = record {
    first = process_p;
    others = process_q ∷ [];
    processes = (inl refl, (inr (inl refl), tt));
    waits = (
      record { monitor = monitor_b; right = inr (inr (inl refl)); inside = inl refl },
      record { monitor = monitor_a; right = inr (inr (inr (inl refl))); inside = inl refl },
    );
  };
  first_is = refl;
  others_are = refl;
}
