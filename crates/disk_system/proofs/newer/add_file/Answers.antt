use Rattle.std.proofs.Common.{◌∙◌}
use Rattle.disk_system.proofs.NewerWritten.{file_moved}
use Rattle.disk_system.proofs.newer.add_file.Goals as goal

pub returns-clause-moved : goal.returns-clause-moved
returns-clause-moved g c = λ pages now n told solo size within is counted moving.
    file_moved c.add_parts.result pages now _ c.args.map.now c.add_parts.new.map n c.args.count c.args.entry.now solo within is c.if-entry-eq0.false
    counted moving
    (c.add_parts.ensures.wrote now told (moving.as_many ∙ size))
