use Rattle.std.proofs.Common.{◌≡◌, ◌+◌, ◌-◌, ◌<◌, ◌++◌, ◌∙◌, ap, sym, get_or, take, arith, Ok, []}
use Rattle.std.specs.List.{concat}
use Rattle.disk_files.specs.Answers.{after_reading}
use Rattle.disk_files.proofs.Kept.{faults_then}
use Rattle.disk_system.proofs.Stored.{pages_all, pages_on}
use Rattle.disk_system.proofs.contents.bytes_of.Goals as goal

pub loop-n-preserved : goal.loop-n-preserved
loop-n-preserved g c = record {
  after = c.in_ok-add_page.ensures.after ∙ ap (λ f. after_reading {T = Unit {0}} f c.add_page.new.files.area (Ok tt)) c.loop-n.invariant.after;
  left = c.add_page.ensures.left ∙ c.loop-n.invariant.left;
  faults = faults_then _ _ _ _ _ c.loop-n.invariant.faults c.in_ok-add_page.ensures.cause;
  bytes = λ told file is named all.
      let below : c.loop-n.n < c.args.pages = c.loop-n-test.true in
      let place : c.loop-n.n + 1 - 1 ≡ c.loop-n.n = omega arith in
      c.in_ok-add_page.ensures.bytes told file (c.loop-n.invariant.left ∙ is) named (omega arith) (omega (arith, below, all))
      ∙ ap (λ bytes. bytes ++ get_or file.pages (c.loop-n.n + 1 - 1) []) (c.loop-n.invariant.bytes told file is named all)
      ∙ ap (λ k. concat (take c.loop-n.n file.pages) ++ get_or file.pages k []) place ∙ sym (pages_on file.pages c.loop-n.n (omega (arith, below, all)));
}

pub returns-clause-bytes : goal.returns-clause-bytes
returns-clause-bytes g c = λ told file is named all.
    c.loop-n.invariant.bytes told file is named all
    ∙ pages_all file.pages c.loop-n.n (omega (arith, c.loop-n-test.false, c.loop-n.auto.n-end, all))
