use Rattle.std.proofs.Common.{◌∙◌}
use Rattle.disk_system.proofs.RoomForParts.{mapped_short}
use Rattle.disk_system.proofs.migrating.give_parts.Goals as goal

pub returns-in-Ok-clause-made : goal.returns-in-Ok-clause-made
returns-in-Ok-clause-made g c = λ pages told older.
    c.with_room.ensures.made pages (c.read_lengths.ensures.left ∙ told) older (c.in-Ok.ensures.lengths pages told older.entries (mapped_short pages older.solo))
