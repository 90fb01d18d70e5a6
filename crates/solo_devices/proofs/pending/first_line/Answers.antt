use Rattle.solo_devices.proofs.Cutting.{cards-found, partial_nowhere}
use Rattle.solo_devices.proofs.pending.first_line.Goals as goal

pub returns-then-end-bytes-clause-partial : goal.returns-then-end-bytes-clause-partial
returns-then-end-bytes-clause-partial c = partial_nowhere c.args.bytes.now c.first_place-end.result c.first_place-end.ensures c.if-end-bytes.true

pub returns-clause-item : goal.returns-clause-item
returns-clause-item c =
    rw c.judge.ensures (cards-found c.args.bytes.now c.first_place-end.result c.first_place-end.ensures c.if-end-bytes.false)
