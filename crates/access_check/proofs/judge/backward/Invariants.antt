use Rattle.std.proofs.Common.{◌≡◌, drop}
use Rattle.access_check.specs.Description.{rights}
use Rattle.access_check.specs.Judgement.{backward, backward_fault}
use Rattle.access_check.proofs.judge.backward.Given as goal

abbrev pub invariant-loop-item : goal.invariant-loop-item
invariant-loop-item l =
    backward_fault (backward l.description (rights l.items)) ≡ backward_fault (backward l.description (rights (drop l.item-index l.items)))
