use Rattle.std.proofs.Common.{◌++◌, map, length, sym, ap, ◌∙◌, append-nil, append_assoc, arith}
use Rattle.std.proofs.lemmas.List.{nil_from_length}
use Rattle.monitor_gate.specs.Ends.{new_passes}
use Rattle.resource_mon.specs.Claims.{Claims}
use Rattle.resource_mon.proofs.Dealt.{seat_of, seats_dealt, all_new, length_dealt}
use Rattle.resource_mon.proofs.disk.DiskResource.make.Goals as goal

pub loop-pass-init : goal.loop-pass-init
loop-pass-init c =
    let gives = c.into_iter-pass-iterator.ensures.into_iter_gives in
    let gate = c.in-Ok.made.0 in
    let items = gives.0 ∙ c.in-Ok.ensures.dealt ∙ ap (λ (opening : Claims). new_passes gate.name opening c.args.seats) c.new.ensures.unclaimed in
    let count = ap length items ∙ length_dealt gate.name c.args.seats in
    let few = c.requires.few in
    let empty = c.in_ok-dealt.ensures in
    let none = empty.len in
    let room = empty.capacity in (
      rw (empty.items, items) (seats_dealt gate.name c.args.seats),
      rw items (all_new gate.name c.args.seats few),
      c.into_iter-pass-iterator.result.rest.ok.0,
      omega arith,
    )

pub loop-pass-preserved : goal.loop-pass-preserved
loop-pass-preserved c =
    let before = c.loop-pass.invariant in
    let steps = c.in-Some.ensures.steps in
    let pushed = c.push_reserved.ensures in
    let rest = c.next.new.self.rest.items in
    let count = ap length steps.0 in
    let len = before.2 in
    let room = before.3 in
    let longer = pushed.len in
    let as_much = pushed.capacity in (
      rw (pushed.items, c.of.ensures) (append_assoc c.loop-pass.dealt.items _ (map seat_of rest) ∙ sym (ap (λ left. c.loop-pass.dealt.items ++ map seat_of left) steps.0) ∙ before.0),
      (rw steps.0 at before.1).1,
      (let less = steps.1 in omega arith),
      omega arith,
    )

pub returns-clause-seats : goal.returns-clause-seats
returns-clause-seats c =
    let before = c.loop-pass.invariant in
    let none = nil_from_length c.loop-pass.pass-iterator.rest.items (sym before.2 ∙ c.in-None.ensures.steps.0) in
    sym (append-nil c.loop-pass.dealt.items) ∙ sym (ap (λ left. c.loop-pass.dealt.items ++ map seat_of left) none) ∙ before.0
