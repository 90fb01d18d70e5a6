use Rattle.std.proofs.Common.{◌∙◌, sym}
use Rattle.disk_layout.proofs.SoloDisk.{laid_out_breaks_nothing}
use Rattle.disk_files.proofs.file_area.FileArea.mount.Goals as goal

pub returns-in-Ok-clause-judged : goal.returns-in-Ok-clause-judged
returns-in-Ok-clause-judged g c = λ pages told. laid_out_breaks_nothing _ _ pages (c.in-Ok.ensures.judged pages told)

pub invariant_of-result : goal.invariant_of-result
invariant_of-result g c = record {
  whole = c.in-Ok.ensures.size ∙ c.requires;
  has_size = c.in-Ok.ensures.whole;
  places = c.judge.ensures.places;
  entries = c.in-Ok.ensures.kept;
  laid = λ _ pages told. c.in-Ok.ensures.judged pages (sym c.in-Ok.ensures.left ∙ told);
}
