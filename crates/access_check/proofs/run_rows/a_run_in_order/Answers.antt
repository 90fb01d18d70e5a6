use Rattle.std.proofs.Common.{refl}
use mathlib.Core.Logic.{inl, inr}
use Rattle.access_check.specs.RunRows.{monitor_a, process_p}
use Rattle.access_check.specs.Places.{same}
use Rattle.access_check.proofs.Entering.{behind_both, beside_the_first}
use Rattle.access_check.proofs.run_rows.a_run_in_order.Goals as goal

pub returns-clause-accepted : goal.returns-clause-accepted
returns-clause-accepted c = refl

pub returns-clause-enters : goal.returns-clause-enters
returns-clause-enters c = record {
  run = (
    record { is_process = inl refl; right = inl refl; free = λ other process there. there },
    (
      record {
        is_process = inl refl;
        right = inr (inr (inl refl));
        free = λ other process there. beside_the_first (same process_p other) there;
      },
      tt,
    ),
  );
  inside_is = refl;
}

pub returns-clause-waits : goal.returns-clause-waits
returns-clause-waits c = record {
  may_not = λ may. may.free process_p (inl refl) (inl refl);
  waits = record { monitor = monitor_a; right = inr (inl refl); inside = inl refl };
}

pub returns-clause-leaves : goal.returns-clause-leaves
returns-clause-leaves c = record {
  run = (
    record { is_process = inl refl; right = inl refl; free = λ other process there. there },
    (
      record {
        is_process = inl refl;
        right = inr (inr (inl refl));
        free = λ other process there. beside_the_first (same process_p other) there;
      },
      (
        record { is_process = inl refl; inside = λ e. absurd cc },
        (
          record { is_process = inl refl; inside = λ e. absurd cc },
          (
            record {
              is_process = inr (inl refl);
              right = inr (inl refl);
              free = λ other process there. behind_both (same process_p other) there;
            },
            tt,
          ),
        ),
      ),
    ),
  );
  inside_is = refl;
}
