use Rattle.std.proofs.Common.{ap}
use Rattle.monitor_gate.proofs.Closes.{closes_as, closed_some, closed_is}
use Rattle.monitor_gate.proofs.gate.Gate.close.Goals as goal

pub unwrap-state-requires : goal.unwrap-state-requires
unwrap-state-requires g c = closed_some g.M.MonitorKind.handed_to g.M.MonitorKind.ties g.M.MonitorKind.waits _ _ _ _ c.take.ensures.value
    (closes_as _ _ _ g.M.MonitorKind.wakes _ _ _ _ _ c.args.self.opening c.args.self.passes _ _ (ap (λ m. m.0) c.into_seat.ensures.1) (ap (λ v. v.opening) c.self.view_is) (ap (λ v. v.passes) c.self.view_is) c.requires.outside c.requires.all c.close_with-closed.ensures.values.2)

pub returns-clause-tied : goal.returns-clause-tied
returns-clause-tied g c = rw c.into_inner.ensures (closed_is g.M.MonitorKind.handed_to g.M.MonitorKind.ties g.M.MonitorKind.waits _ _ _ _ _ c.take.ensures.value
    (closes_as _ _ _ g.M.MonitorKind.wakes _ _ _ _ _ c.args.self.opening c.args.self.passes _ _ (ap (λ m. m.0) c.into_seat.ensures.1) (ap (λ v. v.opening) c.self.view_is) (ap (λ v. v.passes) c.self.view_is) c.requires.outside c.requires.all c.close_with-closed.ensures.values.2)
    c.unwrap-state.ensures).0

pub returns-clause-nobody_waits : goal.returns-clause-nobody_waits
returns-clause-nobody_waits g c = rw c.into_inner.ensures (closed_is g.M.MonitorKind.handed_to g.M.MonitorKind.ties g.M.MonitorKind.waits _ _ _ _ _ c.take.ensures.value
    (closes_as _ _ _ g.M.MonitorKind.wakes _ _ _ _ _ c.args.self.opening c.args.self.passes _ _ (ap (λ m. m.0) c.into_seat.ensures.1) (ap (λ v. v.opening) c.self.view_is) (ap (λ v. v.passes) c.self.view_is) c.requires.outside c.requires.all c.close_with-closed.ensures.values.2)
    c.unwrap-state.ensures).1

pub returns-clause-free : goal.returns-clause-free
returns-clause-free g c = rw c.into_inner.ensures (closed_is g.M.MonitorKind.handed_to g.M.MonitorKind.ties g.M.MonitorKind.waits _ _ _ _ _ c.take.ensures.value
    (closes_as _ _ _ g.M.MonitorKind.wakes _ _ _ _ _ c.args.self.opening c.args.self.passes _ _ (ap (λ m. m.0) c.into_seat.ensures.1) (ap (λ v. v.opening) c.self.view_is) (ap (λ v. v.passes) c.self.view_is) c.requires.outside c.requires.all c.close_with-closed.ensures.values.2)
    c.unwrap-state.ensures).2
