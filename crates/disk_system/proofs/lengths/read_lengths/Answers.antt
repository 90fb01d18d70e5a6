use Rattle.std.proofs.Common.{◌≤◌, ◌∙◌, ap, sym, subst, arith, length-set, refl}
use Rattle.disk_files.proofs.Kept.{faults_then, no_faults}
use Rattle.disk_system.specs.Migrating.{mapped_by}
use Rattle.disk_system.proofs.Failing.{done_counted}
use Rattle.disk_system.proofs.Needed.{length_read, short_read}
use Rattle.disk_system.proofs.lengths.read_lengths.Goals as goal

pub loop-place-init : goal.loop-place-init
loop-place-init g c = record {
  size = c.requires.size;
  left = refl;
  faults = no_faults _ tt;
  room = c.requires.room;
  short = λ p below. absurd (omega (arith, below));
  lengths = λ pages told same few p below. absurd (omega (arith, below));
}

pub loop-place-preserved : goal.loop-place-preserved
loop-place-preserved g c =
    let size = c.loop-place.invariant.room in
    let here = c.loop-place-test.true in
    record {
      size = c.length_of.ensures.size ∙ c.loop-place.invariant.size;
      left = c.length_of.ensures.left ∙ c.loop-place.invariant.left;
      faults = faults_then _ _ _ _ _ c.loop-place.invariant.faults (done_counted _ _ _ tt c.in_ok-lengths.ensures.cause);
      room = length-set c.loop-place.lengths c.loop-place.place c.in_ok-lengths.field-0 ∙ size;
      short = short_read c.loop-place.lengths c.loop-place.place c.in_ok-lengths.field-0 size here c.in_ok-lengths.ensures.short c.loop-place.invariant.short;
      lengths = λ pages told same few.
          let is = same c.loop-place.place here in
          let counted = c.in_ok-lengths.ensures.length pages (c.loop-place.invariant.left ∙ told)
          (subst (λ e. mapped_by pages e ≤ 255) (sym is) (few c.loop-place.place here)) in
          length_read pages c.loop-place.lengths c.loop-place.place c.in_ok-lengths.field-0 size here (counted ∙ ap (mapped_by pages) is)
          (c.loop-place.invariant.lengths pages told same few);
    }
