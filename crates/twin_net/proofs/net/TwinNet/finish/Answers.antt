use Rattle.twin_net.proofs.Finishing.{ends, faults, stopped, counted, prints, reads, together, undamaged}
use Rattle.twin_net.proofs.net.TwinNet.finish.Goals as goal

pub returns : goal.returns
returns g c = record {
  ends = ends g.J.HasJobs.are_jobs g.J.JobWork.keeps _ c.args.self c.ended_as-outcomes.result c.stopped_by.result c.into_units.result
      c.requires.ended c.ended_as-outcomes.ensures c.stopped_by.ensures c.into_units.ensures;
  faults = faults g.J.HasJobs.are_jobs g.J.JobWork.keeps _ c.args.self c.ended_as-outcomes.result c.stopped_by.result c.into_units.result
      c.requires.ended c.ended_as-outcomes.ensures c.stopped_by.ensures c.into_units.ensures;
  stopped = stopped g.J.HasJobs.are_jobs g.J.JobWork.keeps _ c.args.self c.ended_as-outcomes.result c.stopped_by.result c.into_units.result
      c.requires.ended c.ended_as-outcomes.ensures c.stopped_by.ensures c.into_units.ensures;
  counted = counted g.J.HasJobs.are_jobs g.J.JobWork.keeps _ c.args.self c.ended_as-outcomes.result c.stopped_by.result c.into_units.result
      c.requires.ended c.ended_as-outcomes.ensures c.stopped_by.ensures c.into_units.ensures _;
  prints = prints g.J.HasJobs.are_jobs g.J.JobWork.keeps _ c.args.self c.ended_as-outcomes.result c.stopped_by.result c.into_units.result
      c.requires.ended c.ended_as-outcomes.ensures c.stopped_by.ensures c.into_units.ensures;
  reads = reads g.J.HasJobs.are_jobs g.J.JobWork.keeps _ c.args.self c.ended_as-outcomes.result c.stopped_by.result c.into_units.result
      c.requires.ended c.ended_as-outcomes.ensures c.stopped_by.ensures c.into_units.ensures;
  together = together g.J.HasJobs.are_jobs g.J.JobWork.keeps _ c.args.self c.ended_as-outcomes.result c.stopped_by.result c.into_units.result
      c.requires.ended c.ended_as-outcomes.ensures c.stopped_by.ensures c.into_units.ensures;
  undamaged = undamaged g.J.HasJobs.are_jobs g.J.JobWork.keeps _ c.args.self c.ended_as-outcomes.result c.stopped_by.result c.into_units.result
      c.requires.ended c.ended_as-outcomes.ensures c.stopped_by.ensures c.into_units.ensures;
  units = c.into_units.ensures;
}
