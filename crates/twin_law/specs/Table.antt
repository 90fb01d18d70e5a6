-- The six processes, by their numbers.
use Rattle.std.specs.Prelude.{ℕ, ◌==◌, Bool, true, false}
use Rattle.batch_procs.specs.Jobs.{Jobs}
use Rattle.twin_law.specs.Process.{Process}
use Rattle.twin_law.specs.Sides.{A, B}
use Rattle.twin_law.specs.Ends.{card, printer}
use Rattle.twin_law.specs.Input.{input}
use Rattle.twin_law.specs.Job.{job}
use Rattle.twin_law.specs.Output.{output}

abbrev pub process_by : {L : Type 0} → Bool → Process L → Process L → Process L
process_by true first second = first
process_by false first second = second

-- 1 card, 2 input, 3 job A, 4 job B, 5 output, 6 printer
abbrev pub process : {L : Type 0} → Jobs L → ℕ → Process L
process J p =
    process_by (p == 1) card
    (process_by (p == 2) input
    (process_by (p == 3) (job J A)
    (process_by (p == 4) (job J B) (process_by (p == 5) output printer))))
