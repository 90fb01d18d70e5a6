use Rattle.std.proofs.Common.{◌≡◌, ◌∙◌, ◌+◌, ◌*◌, ◌<◌, ℕ, ap, refl, subst, sym, arith}
use Rattle.std.specs.FinSet as set
use Rattle.disk_layout.specs.Disk.{disk_of, number_of}
use Rattle.disk_layout.specs.Format.{IsAddress, count_in_part, part_count}
use Rattle.disk_layout.specs.Deleting.{without_parts}
use Rattle.disk_layout.proofs.Written.{number_read}
use Rattle.disk_files.proofs.Deletes.{no_parts, next_part, part_named}
use Rattle.disk_files.proofs.Kept.{faults_then, no_faults}
use Rattle.disk_files.proofs.delete.free_file.Goals as goal

pub loop-part-init : goal.loop-part-init
loop-part-init g c = record {
  size = c.read.ensures.size ∙ c.requires.size;
  left = refl;
  faults = no_faults _ tt;
  freed = λ pages told has. no_parts _ pages _;
}

pub loop-part-preserved : goal.loop-part-preserved
loop-part-preserved g c = record {
  size = c.free_part.ensures.size ∙ c.loop-part.invariant.size;
  left = c.free_part.ensures.left ∙ c.loop-part.invariant.left;
  faults = faults_then _ _ _ _ _ c.loop-part.invariant.faults c.in_ok-free_part.ensures.cause;
  freed = λ pages told has.
      let bytes = c.in_ok-read.ensures.page pages (sym c.read.ensures.left ∙ told) in
      let k : ℕ = c.loop-part.part in
      let length_is : c.number.result ≡ number_of pages c.args.index 0 = number_read pages _ _ _ 0 0 _ c.number.ensures refl bytes refl in
      let all : c.min-length.result ≡ number_of pages c.args.index 0 = omega (arith, length_is, has.length, c.min-length.ensures) in
      let below : k < part_count (number_of pages c.args.index 0) = omega (arith, c.loop-part-test.true, all) in
      let is : c.number-in-loop-part.result ≡ number_of pages c.args.index (k + 1) =
      number_read pages _ _ _ (k + 1) _ _ c.number-in-loop-part.ensures refl bytes refl in
      let part_is : c.file_page-part_page.result ≡ number_of pages c.args.index (k + 1) =
      c.file_page-part_page.ensures.same (subst IsAddress (sym is) (has.parts k below)) ∙ is in
      let count_is : c.min.result ≡ count_in_part (number_of pages c.args.index 0) k = omega (arith, c.min.ensures, all) in
      let freed = c.in_ok-free_part.ensures.freed pages (c.loop-part.invariant.left ∙ told) (λ j less.
      subst IsAddress (part_named pages c.args.index k j c.file_page-part_page.result (omega (arith, less, count_is)) part_is)
      (has.pages (250 * k + j) (omega (arith, less, count_is)))) in
      next_part _ _ _ pages c.args.index k _ _ (c.loop-part.invariant.freed pages told has) freed part_is count_is;
}

pub returns-clause-freed : goal.returns-clause-freed
returns-clause-freed g c = λ pages told has.
    let bytes = c.in_ok-read.ensures.page pages told in
    let length_is : c.number.result ≡ number_of pages c.args.index 0 = number_read pages _ _ _ 0 0 _ c.number.ensures refl bytes refl in
    let all : c.min-length.result ≡ number_of pages c.args.index 0 = omega (arith, length_is, has.length, c.min-length.ensures) in
    let last : c.loop-part.part ≡ part_count (number_of pages c.args.index 0) = omega (arith, c.loop-part-test.false, c.loop-part.auto.part-end, all) in
    c.free_page.ensures
    ∙ ap (λ s. set.remove s c.args.index)
    (c.loop-part.invariant.freed pages (c.read.ensures.left ∙ told) has ∙ ap (without_parts c.args.map.now (disk_of pages) c.args.index) last)
