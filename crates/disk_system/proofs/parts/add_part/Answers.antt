use Rattle.std.proofs.Common.{◌+◌, set, subst, sym}
use Rattle.disk_system.specs.Migrating.{WritesParts}
use Rattle.disk_system.proofs.PartsAdded.{one_more_taken, part_added}
use Rattle.disk_system.proofs.Stores.{on_done}
use Rattle.disk_system.proofs.parts.add_part.Goals as goal

pub returns-clause-wrote : goal.returns-clause-wrote
returns-clause-wrote g c = λ first pages taken told whole w.
    on_done c.write.result _ _
    (λ done. (
      set pages c.take-part.result c.part_of.result.0,
      done,
      subst (λ t. WritesParts first (set pages c.take-part.result c.part_of.result.0) taken t c.args.old.now.0
          c.set_number.new.page.0 c.args.count (c.args.k + 1))
          (sym c.take-part.ensures.taken)
          (part_added first pages taken c.args.map.now c.args.old.now.0 c.args.new.now.0 c.set_number.new.page.0 c.part_of.result.0 c.args.count c.args.k
          c.take-part.result w whole c.take-part.ensures.least c.take-part.ensures.free c.set_number.ensures.number c.set_number.ensures.others
          c.part_of.ensures.numbers c.part_of.ensures.rest),
    ))
    (c.write.ensures.page pages told)

pub returns-clause-many : goal.returns-clause-many
returns-clause-many g c = one_more_taken c.write.result c.args.map.now _ c.take-part.result c.take-part.ensures.least c.take-part.ensures.taken
