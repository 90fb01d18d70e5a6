use Rattle.std.proofs.Common.{sym, ◌∙◌}
use Rattle.batch_procs.proofs.Answering.{is-put, is-local, uses-put, uses-work}
use Rattle.batch_procs.proofs.machine.finish.Goals as goal

pub returns-in-Put : goal.returns-in-Put
returns-in-Put g c = λ action done. record {
  uses =
      λ h follows none next fits kept. uses-put g.J.HasJobs.jobs g.W.Work.process (g.W.Work.keeps c.args.work.now)
      (g.W.Work.keeps c.put.new.self) action h
      g.met.W.Work.relay c.put.ensures follows next (is-put action (sym c.in-Put.is ∙ done)) kept;
  lacks = tt;
}

pub returns-in_ok-work-in-Work : goal.returns-in_ok-work-in-Work
returns-in_ok-work-in-Work g c = λ action done. record {
  uses =
      λ h follows none next fits kept. uses-work g.J.HasJobs.jobs g.W.Work.process (g.W.Work.keeps c.args.work.now)
      (g.W.Work.keeps c.work.new.self) action h
      g.met.W.Work.relay (is-local action (sym c.in-Work.is ∙ done)) c.in_ok-work-in-Work.ensures.ok follows next kept;
  lacks = tt;
}
