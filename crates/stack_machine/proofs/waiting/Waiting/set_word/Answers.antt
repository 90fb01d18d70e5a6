use Rattle.std.proofs.Common.{length, ◌∙◌, ap, arith}
use Rattle.std.specs.Int.{w16}
use Rattle.std.proofs.lemmas.Int.{to_z-of_z}
use Rattle.std.proofs.lemmas.List.{length-set}
use Rattle.stack_machine.specs.Store.{Bounded, Waiters}
use Rattle.stack_machine.proofs.Slots.{slot_set, slot_room, room_set, seen_count}
use Rattle.stack_machine.proofs.waiting.Waiting.set_word.Goals as goal

pub returns : goal.returns
returns c = λ a found.
    slot_set c.self.inside.slots.items c.args.self.now c.self.inside.room c.self.inside.count c.args.number c.args.place c.args.word c.index_mut.result.now a c.set.new.self
    c.self.view_is (omega (arith, c.self.invariant.0, c.self.invariant.2)) c.requires.waits c.index_mut.ensures.value found (rw (to_z-of_z w16 c.args.word c.ranges.word) at c.set.ensures)

pub invariant_of-self : goal.invariant_of-self
invariant_of-self c =
    let few = seen_count c.self.inside.slots.items c.self.inside.count (omega (arith, c.self.invariant.0, c.self.invariant.2)) in
    let there = slot_room c.self.inside.room c.self.inside.slots.items c.args.number c.index_mut.result.now c.self.invariant.3
    (omega (arith, few, c.self.invariant.0, c.self.invariant.2, c.requires.waits, ap (λ (w : Waiters). length w.waiting) c.self.view_is)) c.index_mut.ensures.value in (
      c.self.invariant.0,
      c.self.invariant.1,
      length-set c.self.inside.slots.items c.args.number _ ∙ c.self.invariant.2,
      room_set c.self.inside.room c.self.inside.slots.items c.args.number _ c.self.invariant.3 (ap (λ (b : Bounded). b.room) c.set.ensures ∙ there.0, there.1),
    )
