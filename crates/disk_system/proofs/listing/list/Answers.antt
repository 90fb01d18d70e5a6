use Rattle.std.proofs.Common.{◌∙◌, ap, refl, arith, Ok}
use Rattle.disk_layout.specs.Files.{files as file_map}
use Rattle.disk_files.specs.Answers.{after_reading}
use Rattle.disk_files.proofs.Kept.{faults_then, no_faults}
use Rattle.disk_system.proofs.Failing.{read_none}
use Rattle.disk_system.proofs.InOrder.{few_names, listed_all, listed_next, listed_none}
use Rattle.disk_system.proofs.listing.list.Goals as goal

pub loop-n-init : goal.loop-n-init
loop-n-init g c = record {
  after = read_none _ c.requires;
  left = refl;
  faults = no_faults _ tt;
  listed = λ pages told. listed_none (file_map pages) c.new-lines.result c.new-lines.ensures;
}

pub loop-n-preserved : goal.loop-n-preserved
loop-n-preserved g c = record {
  after = c.in_ok-list_next.ensures.after ∙ ap (λ f. after_reading {T = Unit {0}} f c.list_next.new.files.area (Ok tt)) c.loop-n.invariant.after;
  left = c.list_next.ensures.left ∙ c.loop-n.invariant.left;
  faults = faults_then _ _ _ _ _ c.loop-n.invariant.faults c.in_ok-list_next.ensures.cause;
  listed = λ pages told.
      listed_next (file_map pages) _ _ _ _ _ (c.loop-n.invariant.listed pages told)
      (c.in_ok-list_next.ensures.line pages (c.loop-n.invariant.left ∙ told));
}

pub returns-clause-lines : goal.returns-clause-lines
returns-clause-lines g c = λ pages told.
    let few = few_names pages in
    let count = c.names-n-end.ensures.count pages told in
    listed_all (file_map pages) _ _ _ (c.loop-n.invariant.listed pages told) (omega (arith, few, count, c.loop-n-test.false))
