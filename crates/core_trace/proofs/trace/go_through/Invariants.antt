use Rattle.network_run.specs.Law.{Placed}
use Rattle.core_law.specs.TheLaw.{the_law}
use Rattle.net_core.specs.Net.{StandsWithin, the_keeps}
use Rattle.core_trace.proofs.trace.go_through.Given as goal

-- the network stands for a state that was reached
abbrev pub invariant-running : goal.invariant-running
invariant-running g l =
    Placed (the_law g.J.HasJobs.jobs) (StandsWithin g.J.HasJobs.jobs (the_keeps g.J.HasJobs.jobs g.J.JobWork.keeps) record {
      left = g.S.Source.left;
      taken = g.S.Source.taken;
      given = g.K.Sink.given;
      files = g.F.Loader.found;
      sound = g.F.Loader.sound;
      pages = g.F.Loader.pages;
      input_size = g.A.Area.size;
      input_pages = g.A.Area.pages;
      output_size = g.B.Area.size;
      output_pages = g.B.Area.pages;
    } l.net)
