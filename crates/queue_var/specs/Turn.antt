-- To whom a monitor hands its turn.
use Rattle.std.specs.Prelude.{ℕ, Option, None}
use Rattle.queue_var.specs.declared.turn.Turn.{Turn}
use Rattle.queue_var.specs.declared.turn.Turn.TheVariants.{Free, Handed}

-- the process to which a turn is handed, by what each queue holds
abbrev pub handed : {Queue : Type 0} → Turn Queue → (Queue → Option ℕ) → Option ℕ
handed Free in_queue = None
handed (Handed queue) in_queue = in_queue queue
