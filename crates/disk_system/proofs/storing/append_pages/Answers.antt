use Rattle.std.proofs.Common.{◌+◌, ◌∙◌, refl, sym, subst, arith}
use Rattle.std.specs.Prelude.{◌≡◌, IfErr}
use Rattle.std.specs.FinMap as fin
use Rattle.std.proofs.lemmas.Result.{err_from_is_err_and}
use Rattle.disk_files.specs.declared.fault.FileFault.TheVariants.{DiskFault}
use Rattle.disk_files.specs.Answers.{Holds}
use Rattle.disk_files.proofs.Kept.{faults_then, no_faults}
use Rattle.disk_contents.specs.Contents.{cut}
use Rattle.disk_system.specs.Taken.{TakesPages}
use Rattle.disk_system.proofs.Stores.{begun, left_then, next_taken, one_told, room_for}
use Rattle.disk_system.proofs.storing.append_pages.Goals as goal

pub loop-k-init : goal.loop-k-init
loop-k-init g c = record {
  sound = c.requires.sound;
  stands = c.requires.stands;
  faults = no_faults _ tt;
  appended = λ others file unused h loose few room. begun _ others c.args.name.now file c.args.bytes.now unused h;
  taken = λ others file unused h loose few room. (h.pages, h.told, refl);
}

pub loop-k-preserved : goal.loop-k-preserved
loop-k-preserved g c = record {
  sound = c.in_ok-append_page.ensures.sound;
  stands = c.append_page.ensures.stands;
  faults = faults_then _ _ _ _ _ c.loop-k.invariant.faults c.in_ok-append_page.ensures.cause;
  appended = λ others file unused h loose few room.
      let was = c.loop-k.invariant.appended others file unused h loose few room in
      subst (Holds (g.A.Area.pages c.append_page.new.files.area)
      (fin.insert others c.args.name.now (record file { pages = cut c.args.bytes.now (c.loop-k.k + 1) })))
      (left_then c.loop-k.k unused)
      (c.in_ok-append_page.ensures.appended others file _ was loose (omega (arith, c.loop-k-test.true, few))
      (room_for c.loop-k.k c.args.count unused c.loop-k-test.true room));
  taken = λ others file unused h loose few room.
      let was = c.loop-k.invariant.appended others file unused h loose few room in
      let before = c.loop-k.invariant.taken others file unused h loose few room in
      let next = c.in_ok-append_page.ensures.taken others file _ was in (
        next.0,
        next.1,
        next_taken h.pages before.0 was.pages next.0 c.args.name.now c.loop-k.k (one_told _ was.pages before.0 was.told before.1) before.2 next.2,
      );
}

pub returns-in_err-append_page-clause-fault : goal.returns-in_err-append_page-clause-fault
returns-in_err-append_page-clause-fault g c = λ others file unused h loose few room.
    let was = c.loop-k.invariant.appended others file unused h loose few room in
    let failed = c.in_err-append_page.ensures.fault others file _ was loose (omega (arith, c.loop-k-test.true, few))
    (room_for c.loop-k.k c.args.count unused c.loop-k-test.true room) in
    let handed = err_from_is_err_and c.from_residual.result c.from_residual.ensures.1 in
    subst (λ r. IfErr r (λ fault. fault ≡ DiskFault)) (sym handed.1) (handed.2 ∙ failed)

pub returns-clause-taken : goal.returns-clause-taken
returns-clause-taken g c = λ others file unused h loose few room.
    let all = c.loop-k.invariant.taken others file unused h loose few room in
    let last : c.loop-k.k ≡ c.args.count = omega (arith, c.loop-k-test.false, c.loop-k.auto.k-end) in
    (all.0, all.1, subst (TakesPages h.pages all.0 c.args.name.now) last all.2)
