-- What contracts see of what a program has of its own.
use Rattle.std.specs.Prelude.{ℕ, List, drop, Option}
use Rattle.solo_base.specs.declared.system_call.Arg.{Arg}
use Rattle.program_task.specs.Program.{Own}

-- of the arguments that it was given those that it hasn't read
abbrev pub own_shown : List Arg → ℕ → List Arg → Option (List ℕ) → Option (List ℕ) → Own
own_shown given read written first second =
    record { incoming = drop read given; outgoing = written; first = first; second = second }
