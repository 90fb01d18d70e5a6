use Rattle.std.specs.Prelude.{◌≡◌, ℕ, List, ◌∷◌, take, drop, map}
use Rattle.real_time.specs.Starts.{Change}
use Rattle.real_time.specs.Awaiting.{AllAwait, IsAhead}
use Rattle.real_time.proofs.Changing.{name_of}
use Rattle.real_time.proofs.tasks.change_named.Given as goal

-- those before this one have the plan, the others not yet
abbrev pub invariant-changing : goal.invariant-changing
invariant-changing l =
    ((accepted : List Change) (now : ℕ) → IsAhead l.plan now → AllAwait accepted now l.initial.tasks
    → AllAwait (record { name = l.name; plan = l.plan } ∷ accepted) now (take l.place l.tasks) × AllAwait accepted now (drop l.place l.tasks))
    × (map name_of l.tasks ≡ map name_of l.initial.tasks)
