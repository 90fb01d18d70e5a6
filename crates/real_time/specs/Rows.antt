-- Two scripts with their lines.
use Rattle.std.specs.Prelude.{ℕ, List, [], ◌∷◌, map, codes}
use Rattle.solo_base.specs.declared.item.Item.{Item}
use Rattle.solo_base.specs.declared.item.Item.TheVariants as item

-- two tasks, of which one is stopped
abbrev pub two_tasks : List Item
two_tasks = map item.Line
    (codes "TASK A" ∷ codes "TASK B" ∷ codes "START A 2 3" ∷ codes "START B 2 0" ∷ codes "TICK 6"
    ∷ codes "STOP A" ∷ codes "TICK 3" ∷ codes "START B 9 1" ∷ [])

abbrev pub two_tasks_lines : List (List ℕ)
two_tasks_lines =
    codes "TASK: OK" ∷ codes "TASK: OK" ∷ codes "START: OK" ∷ codes "START: OK" ∷ codes "2 A" ∷ codes "2 B"
    ∷ codes "5 A" ∷ codes "TIME 6" ∷ codes "STOP: OK" ∷ codes "TIME 9" ∷ codes "START: TIME IS PAST"
    ∷ codes "A: 2 RUNS" ∷ codes "B: 1 RUNS" ∷ []

-- refusals
abbrev pub refusals : List Item
refusals = map item.Line (codes "START C 1 1" ∷ codes "TICK 0" ∷ codes "TASK A" ∷ codes "TASK A" ∷ [])

abbrev pub refusals_lines : List (List ℕ)
refusals_lines =
    codes "START: NO TASK" ∷ codes "BAD COMMAND" ∷ codes "TASK: OK" ∷ codes "TASK: TASK EXISTS"
    ∷ codes "A: 0 RUNS" ∷ []
