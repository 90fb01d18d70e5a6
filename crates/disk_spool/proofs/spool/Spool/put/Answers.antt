use Rattle.std.proofs.Common.{rules, sym, ap, ◌∙◌}
use Rattle.solo_devices.specs.declared.area.Moved.TheVariants as Moved
use Rattle.disk_spool.specs.Ring.{Ring}
use Rattle.disk_spool.specs.History.{put-stands, size_kept}
use Rattle.disk_spool.proofs.spool.Spool.put.Goals as goal

pub invariant_of-self : goal.invariant_of-self
invariant_of-self g c =
    let spool = c.self.inside in (
      c.self.invariant.0 ∙ sym c.write.ensures.size,
      rw c.write.ensures.size (size_kept (g.A.Area.pages spool.area) (g.A.Area.pages c.write.new.self) _ (g.A.Area.size spool.area) _ _ c.write.ensures.page c.self.invariant.1),
    )

pub invariant_of-self-2 : goal.invariant_of-self-2
invariant_of-self-2 g c =
    let spool = c.self.inside in (
      ap (λ (r : Ring). r.capacity) c.add.ensures ∙ c.self.invariant.0 ∙ sym c.write.ensures.size,
      rw c.write.ensures.size (size_kept (g.A.Area.pages spool.area) (g.A.Area.pages c.write.new.self) _ (g.A.Area.size spool.area) _ _ c.write.ensures.page c.self.invariant.1),
    )

pub returns-then-eq-clause-history : goal.returns-then-eq-clause-history
returns-then-eq-clause-history g c = λ sent taken stops h.
    put-stands g.A.Area.pages c.args.self.now _ sent taken stops h c.write.new.self c.args.page.now.0 Moved.Failed c.requires.nobody_waits c.requires.room
    (search rules) (search rules)

pub returns-clause-history : goal.returns-clause-history
returns-clause-history g c = λ sent taken stops h.
    put-stands g.A.Area.pages c.args.self.now _ sent taken stops h c.write.new.self c.args.page.now.0 Moved.Done c.requires.nobody_waits c.requires.room
    (search rules) (search rules)
