use Rattle.std.proofs.Common.{length, sym, ◌∙◌, ap, arith, subst}
use Rattle.std.proofs.lemmas.List.{length-set}
use Rattle.stack_machine.specs.declared.room.Room.{Room}
use Rattle.stack_machine.specs.Store.{Bounded, Waiters}
use Rattle.stack_machine.specs.Slots.{HasRoomOf}
use Rattle.stack_machine.proofs.Slots.{slot_room, room_set, seen_count}
use Rattle.stack_machine.proofs.waiting.Waiting.open.Goals as goal

pub begin-requires-clause-room : goal.begin-requires-clause-room
begin-requires-clause-room c =
    let same = ap (λ (w : Waiters). w.room.words) c.self.view_is in
    let few = seen_count c.self.inside.slots.items c.self.inside.count (omega (arith, c.self.invariant.0, c.self.invariant.2)) in
    let there = slot_room c.self.inside.room c.self.inside.slots.items c.self.inside.count c.index_mut-slot.result.now c.self.invariant.3
    (omega (arith, few, c.self.invariant.2, c.requires.room, ap (λ (w : Waiters). length w.waiting) c.self.view_is, ap (λ (w : Waiters). w.room.waiting) c.self.view_is)) c.index_mut-slot.ensures.value in
    omega (arith, there.0, c.requires.words, same)

pub invariant_of-self : goal.invariant_of-self
invariant_of-self c =
    let same = ap (λ (w : Waiters). w.room) c.self.view_is in
    let few = seen_count c.self.inside.slots.items c.self.inside.count (omega (arith, c.self.invariant.0, c.self.invariant.2)) in
    let kept = subst (λ (r : Room). HasRoomOf r c.swap.new.x) (sym same)
    (rw c.swap.ensures.x_after (c.requires.same.0, ap (λ (b : Bounded). b.room) c.drop_top.ensures ∙ c.requires.same.1)) in (
      omega (arith, few, c.requires.room, ap (λ (w : Waiters). length w.waiting) c.self.view_is, ap (λ (w : Waiters). w.room.waiting) c.self.view_is),
      c.self.invariant.1,
      length-set c.self.inside.slots.items c.self.inside.count c.swap.new.x ∙ c.self.invariant.2,
      room_set c.self.inside.room c.self.inside.slots.items c.self.inside.count c.swap.new.x c.self.invariant.3 kept,
    )

pub returns-clause-same : goal.returns-clause-same
returns-clause-same c =
    let same = ap (λ (w : Waiters). w.room) c.self.view_is in
    let few = seen_count c.self.inside.slots.items c.self.inside.count (omega (arith, c.self.invariant.0, c.self.invariant.2)) in
    let there = slot_room c.self.inside.room c.self.inside.slots.items c.self.inside.count c.index_mut-slot.result.now c.self.invariant.3
    (omega (arith, few, c.self.invariant.2, c.requires.room, ap (λ (w : Waiters). length w.waiting) c.self.view_is, ap (λ (w : Waiters). w.room.waiting) c.self.view_is)) c.index_mut-slot.ensures.value in
    rw c.swap.ensures.y_after (
      ap (λ (b : Bounded). b.room) c.begin.ensures ∙ there.0 ∙ ap (λ (r : Room). r.words) same,
      ap (λ (b : Bounded). b.room) c.clear.ensures ∙ there.1 ∙ ap (λ (r : Room). r.height) same,
    )
