use Rattle.std.proofs.Common.{◌≡◌, ◌+◌, ◌-◌, ◌∙◌, ap, sym, arith}
use Rattle.disk_files.proofs.Kept.{faults_then, no_faults, stays_then}
use Rattle.disk_system.specs.Migrating.{mapped_by, parts_for}
use Rattle.disk_system.proofs.Movings.{moving_begun}
use Rattle.disk_system.proofs.Needed.{parts_next, parts_rise}
use Rattle.disk_system.proofs.PartsAdded.{no_writes}
use Rattle.disk_system.proofs.newer.add_files.Goals as goal

pub loop-place-init : goal.loop-place-init
loop-place-init g c = record {
  size = c.requires.size;
  stays = no_writes _ _;
  faults = no_faults _ tt;
  many = omega arith;
  moved = λ pages told older read. (pages, told, moving_begun pages c.args.map.now older.taken);
}

pub add_file-requires-clause-room : goal.add_file-requires-clause-room
add_file-requires-clause-room g c =
    let here = c.loop-place-test.true in
    let rest : c.loop-place.place + 1 + (239 - c.loop-place.place) ≡ 240 = omega (arith, here) in
    let all = parts_rise c.args.lengths.now (c.loop-place.place + 1) (239 - c.loop-place.place) in
    let last = ap (parts_for c.args.lengths.now) rest in
    omega (arith, all, last, parts_next c.args.lengths.now c.loop-place.place, c.loop-place.invariant.many, c.requires.room)

pub loop-place-preserved : goal.loop-place-preserved
loop-place-preserved g c = record {
  size = c.add_file.ensures.size ∙ c.loop-place.invariant.size;
  stays = stays_then _ _ _ _ _ _ c.loop-place.invariant.stays c.add_file.ensures.stays;
  faults = faults_then _ _ _ _ _ c.loop-place.invariant.faults c.in_ok-add_file.ensures.cause;
  many = omega (arith, c.loop-place.invariant.many, c.in_ok-add_file.ensures.many, parts_next c.args.lengths.now c.loop-place.place);
  moved = λ pages told older read.
      let was = c.loop-place.invariant.moved pages told older read in
      let here = c.loop-place-test.true in
      let is = older.entries c.loop-place.place here in
      c.in_ok-add_file.ensures.moved pages was.0 c.loop-place.place was.1 older.solo older.as_many here is
      (read c.loop-place.place here ∙ ap (mapped_by pages) (sym is)) was.2;
}
