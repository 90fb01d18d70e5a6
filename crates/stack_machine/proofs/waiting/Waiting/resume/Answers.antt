use Rattle.std.proofs.Common.{◌-◌, length, sym, ◌∙◌, ap, arith, subst}
use Rattle.std.proofs.lemmas.List.{length-set}
use Rattle.stack_machine.specs.declared.room.Room.{Room}
use Rattle.stack_machine.specs.Store.{Waiters}
use Rattle.stack_machine.specs.Slots.{HasRoomOf}
use Rattle.stack_machine.proofs.Slots.{slot_room, room_set, seen_count}
use Rattle.stack_machine.proofs.waiting.Waiting.resume.Goals as goal

pub invariant_of-self : goal.invariant_of-self
invariant_of-self c =
    let kept = subst (λ (r : Room). HasRoomOf r c.swap.new.x) (sym (ap (λ (w : Waiters). w.room) c.self.view_is)) (rw c.swap.ensures.x_after c.requires.same) in (
      omega (arith, c.self.invariant.0),
      c.self.invariant.1,
      length-set c.self.inside.slots.items (c.self.inside.count - 1) c.swap.new.x ∙ c.self.invariant.2,
      room_set c.self.inside.room c.self.inside.slots.items (c.self.inside.count - 1) c.swap.new.x c.self.invariant.3 kept,
    )

pub returns-clause-same : goal.returns-clause-same
returns-clause-same c =
    let same = ap (λ (w : Waiters). w.room) c.self.view_is in
    let few = seen_count c.self.inside.slots.items c.self.inside.count (omega (arith, c.self.invariant.0, c.self.invariant.2)) in
    let there = slot_room c.self.inside.room c.self.inside.slots.items (c.self.inside.count - 1) c.index_mut.result.now c.self.invariant.3
    (omega (arith, few, c.self.invariant.0, c.self.invariant.2, c.requires.some, ap (λ (w : Waiters). length w.waiting) c.self.view_is)) c.index_mut.ensures.value in
    rw c.swap.ensures.y_after (there.0 ∙ ap (λ (r : Room). r.words) same, there.1 ∙ ap (λ (r : Room). r.height) same)
