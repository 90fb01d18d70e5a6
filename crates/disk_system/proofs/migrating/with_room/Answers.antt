use Rattle.disk_system.proofs.RoomForParts.{made_of, no_room}
use Rattle.disk_system.proofs.migrating.with_room.Goals as goal

pub returns-then-free-needed-clause-made : goal.returns-then-free-needed-clause-made
returns-then-free-needed-clause-made g c = λ pages told older read.
    no_room c.args.entries.now c.args.map.now pages older c.args.lengths.now c.parts_for-needed.result c.free-free.result read c.parts_for-needed.ensures.parts
    c.free-free.ensures c.if-free-needed.true

pub returns-in-Ok-clause-made : goal.returns-in-Ok-clause-made
returns-in-Ok-clause-made g c = λ pages told older read. (
  made_of c.args.entries.now c.args.map.now pages older c.args.lengths.now c.parts_for-needed.result c.free-free.result read c.parts_for-needed.ensures.parts
      c.free-free.ensures c.count_names.result c.if-free-needed.false c.count_names.ensures.count,
  c.in-Ok.ensures.newer pages told older read,
)
