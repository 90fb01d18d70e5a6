use Rattle.std.proofs.Common.{◌+◌, ◌∙◌, subst, sym, set}
use Rattle.disk_files.proofs.Kept.{faults_then, no_faults}
use Rattle.disk_system.specs.Formatted.{IsCleared}
use Rattle.disk_system.proofs.Failing.{kept_so_far, kept_then}
use Rattle.disk_system.proofs.Clearing.{cleared_next, cleared_none}
use Rattle.disk_system.proofs.formatting.clear_catalogue.Goals as goal

pub loop-n-init : goal.loop-n-init
loop-n-init g c = record {
  size = c.requires;
  kept = kept_so_far _;
  faults = no_faults _ tt;
  cleared = λ pages told size. (pages, told, cleared_none pages);
}

pub loop-n-preserved : goal.loop-n-preserved
loop-n-preserved g c = record {
  size = c.write.ensures.size ∙ c.loop-n.invariant.size;
  kept = kept_then _ _ _ c.loop-n.invariant.kept c.write.ensures.kept;
  faults = faults_then _ _ _ _ _ c.loop-n.invariant.faults c.in_ok-write.ensures.cause;
  cleared = λ pages told size.
      let was = c.loop-n.invariant.cleared pages told size in (
        set was.0 (1 + c.loop-n.n) c.zeros.result.0,
        c.in_ok-write.ensures.page was.0 was.1,
        subst (λ page. IsCleared pages (c.loop-n.n + 1) (set was.0 (1 + c.loop-n.n) page)) (sym c.zeros.ensures)
            (cleared_next pages was.0 c.loop-n.n c.loop-n-test.true size was.2),
      );
}
