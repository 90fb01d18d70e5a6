use Rattle.net_core.specs.Faults.{units_of}
use Rattle.net_core.proofs.Finishing.{sides-are, ends, faults, together, prints, reads, undamaged}
use Rattle.net_core.proofs.FaultsCounted.{ended-met, same-devices}
use Rattle.net_core.proofs.net.Net.finish.Goals as goal

pub returns : goal.returns
returns g c = record {
  ends = ends g.J.HasJobs.are_jobs _ _ c.args.self _ _ c.requires.ended c.outcome.ensures c.outcome-2.ensures c.outcome-3.ensures c.outcome-4.ensures
      c.outcome-5.ensures
      (λ s st. sides-are g.J.HasJobs.are_jobs _ c.args.self.shared s st.shared _ _ _ _ c.stopped_by.ensures.marked c.stopped_by-2.ensures.marked
      c.stopped_by-3.ensures.marked
      c.stopped_by-4.ensures.marked);
  together = together g.J.HasJobs.are_jobs _ _ c.args.self _ _ c.requires.ended c.outcome.ensures c.outcome-2.ensures c.outcome-3.ensures
      c.outcome-4.ensures c.outcome-5.ensures
      (λ s st. sides-are g.J.HasJobs.are_jobs _ c.args.self.shared s st.shared _ _ _ _ c.stopped_by.ensures.marked c.stopped_by-2.ensures.marked
      c.stopped_by-3.ensures.marked
      c.stopped_by-4.ensures.marked);
  faults = faults g.J.HasJobs.are_jobs _ _ c.args.self _ _ c.requires.ended c.outcome.ensures c.outcome-2.ensures c.outcome-3.ensures c.outcome-4.ensures
      c.outcome-5.ensures
      (λ s st. sides-are g.J.HasJobs.are_jobs _ c.args.self.shared s st.shared _ _ _ _ c.stopped_by.ensures.marked c.stopped_by-2.ensures.marked
      c.stopped_by-3.ensures.marked
      c.stopped_by-4.ensures.marked);
  prints = prints g.J.HasJobs.are_jobs _ _ c.args.self _ _ c.requires.ended c.outcome.ensures c.outcome-2.ensures c.outcome-3.ensures c.outcome-4.ensures
      c.outcome-5.ensures
      (λ s st. sides-are g.J.HasJobs.are_jobs _ c.args.self.shared s st.shared _ _ _ _ c.stopped_by.ensures.marked c.stopped_by-2.ensures.marked
      c.stopped_by-3.ensures.marked
      c.stopped_by-4.ensures.marked);
  reads = reads g.J.HasJobs.are_jobs _ _ c.args.self _ _ c.requires.ended c.outcome.ensures c.outcome-2.ensures c.outcome-3.ensures c.outcome-4.ensures
      c.outcome-5.ensures
      (λ s st. sides-are g.J.HasJobs.are_jobs _ c.args.self.shared s st.shared _ _ _ _ c.stopped_by.ensures.marked c.stopped_by-2.ensures.marked
      c.stopped_by-3.ensures.marked
      c.stopped_by-4.ensures.marked);
  undamaged = undamaged g.J.HasJobs.are_jobs _ _ c.args.self _ _ c.requires.ended c.outcome.ensures c.outcome-2.ensures c.outcome-3.ensures
      c.outcome-4.ensures c.outcome-5.ensures
      (λ s st. sides-are g.J.HasJobs.are_jobs _ c.args.self.shared s st.shared _ _ _ _ c.stopped_by.ensures.marked c.stopped_by-2.ensures.marked
      c.stopped_by-3.ensures.marked
      c.stopped_by-4.ensures.marked);
  counted = λ before were.
      let some = c.requires.ended.at in
      (ended-met g.J.HasJobs.are_jobs _ _ _ c.args.self _ _ some.state some.stands.is (c.outcome.ensures (some.state.histories 1) some.stands.is.card)
      (c.outcome-2.ensures (some.state.histories 2) some.stands.is.input) (c.outcome-3.ensures (some.state.histories 3) some.stands.is.job)
      (c.outcome-4.ensures (some.state.histories 4) some.stands.is.output) (c.outcome-5.ensures (some.state.histories 5) some.stands.is.printer)
      (same-devices (units_of c.args.self.shared) _ _ c.into_inner.ensures c.into_inner-2.ensures) before were).counted;
  own = λ before were.
      let some = c.requires.ended.at in
      (ended-met g.J.HasJobs.are_jobs _ _ _ c.args.self _ _ some.state some.stands.is (c.outcome.ensures (some.state.histories 1) some.stands.is.card)
      (c.outcome-2.ensures (some.state.histories 2) some.stands.is.input) (c.outcome-3.ensures (some.state.histories 3) some.stands.is.job)
      (c.outcome-4.ensures (some.state.histories 4) some.stands.is.output) (c.outcome-5.ensures (some.state.histories 5) some.stands.is.printer)
      (same-devices (units_of c.args.self.shared) _ _ c.into_inner.ensures c.into_inner-2.ensures) before were).own;
  units = same-devices (units_of c.args.self.shared) _ _ c.into_inner.ensures c.into_inner-2.ensures;
}
