use Rattle.std.proofs.Common.{◌≡◌, ◌∙◌, set, subst, arith}
use Rattle.disk_layout.specs.Format.{part_count}
use Rattle.disk_files.proofs.Kept.{faults_then, no_faults, stays_then}
use Rattle.disk_system.specs.Migrating.{WritesParts}
use Rattle.disk_system.proofs.PartsAdded.{no_writes, parts_added, parts_begun}
use Rattle.disk_system.proofs.Stores.{on_done}
use Rattle.disk_system.proofs.parts.add_parts.Goals as goal

pub loop-k-init : goal.loop-k-init
loop-k-init g c = record {
  size = c.read.ensures.size ∙ c.requires.size;
  stays = no_writes _ _;
  faults = no_faults _ tt;
  many = omega arith;
  written = λ pages told whole. (
    pages,
    told,
    parts_begun pages c.args.map.now c.read.new.page.0 c.set_number.new.page.0 c.zeros-new.result.0 c.args.count c.zeros-new.ensures
        c.set_number.ensures.number c.set_number.ensures.others,
  );
}

pub loop-k-preserved : goal.loop-k-preserved
loop-k-preserved g c = record {
  size = c.add_part.ensures.size ∙ c.loop-k.invariant.size;
  stays = stays_then _ _ _ _ _ _ c.loop-k.invariant.stays c.add_part.ensures.stays;
  faults = faults_then _ _ _ _ _ c.loop-k.invariant.faults c.in_ok-add_part.ensures.cause;
  many = omega (arith, c.loop-k.invariant.many, c.in_ok-add_part.ensures.many);
  written = λ pages told whole.
      let was = c.loop-k.invariant.written pages told whole in
      c.in_ok-add_part.ensures.wrote pages was.0 _ was.1 whole was.2;
}

pub returns-clause-wrote : goal.returns-clause-wrote
returns-clause-wrote g c = λ pages told whole.
    let was = c.loop-k.invariant.written pages (c.read.ensures.left ∙ told) whole in
    let last : c.loop-k.k ≡ part_count c.args.count = omega (arith, c.loop-k-test.false, c.loop-k.auto.k-end, c.part_count-k-end.ensures) in
    on_done c.write.result _ _
    (λ done. (
      set was.0 c.args.index c.loop-k.new.0,
      done,
      parts_added pages was.0 c.args.map.now c.loop-k.map c.args.index c.args.count c.read.new.page.0 c.loop-k.new.0 whole c.requires.address
          (c.in_ok-read.ensures.page pages told)
          (subst (WritesParts pages was.0 c.args.map.now c.loop-k.map c.read.new.page.0 c.loop-k.new.0 c.args.count) last was.2),
    ))
    (c.write.ensures.page was.0 was.1)
