use Rattle.batch_procs.specs.Keeping.{card_keeps}
use Rattle.batch_procs.specs.Table.{card}
use Rattle.batch_sides.specs.Cards.{CardRan}
use Rattle.batch_sides.proofs.Going.{Going}
use Rattle.batch_sides.proofs.card_side.run_cards.Given as goal

abbrev pub invariant-loop : goal.invariant-loop
invariant-loop g l =
    Going g.J.HasJobs.are_jobs card card_keeps l.machine
    (CardRan g.S.Source.left g.S.Source.taken g.S.Source.faults l.initial.at.side l.at.side l.at.pass)
