-- The jobs that the items so far complete, whatever follows.
use Rattle.std.specs.Prelude.{List, [], ◌∷◌, ◌++◌}
use Rattle.solo_base.specs.declared.item.Item.{Item}
use Rattle.solo_base.specs.declared.item.Item.TheVariants.{Spoiled}
use Rattle.deck_format.specs.declared.job.Job.{Job}
use Rattle.deck_format.specs.Jobs.{jobs}

-- all but the last
abbrev pub before_last : {T : Type 0} → List T → List T
before_last [] = []
before_last (x ∷ []) = []
before_last (x ∷ y ∷ rest) = x ∷ before_last (y ∷ rest)

-- One more spoiled card belongs to the job that is still open, so the jobs before that one are complete:
-- `#LIST A`, `HELLO` complete none, and with `#END` behind them one.
abbrev pub completed : List Item → List Job
completed items = before_last (jobs (items ++ Spoiled ∷ []))
