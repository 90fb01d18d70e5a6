use Rattle.std.proofs.Common.{◌≡◌, sym, ap, subst, [], ◌∷◌, ◌++◌}
use Rattle.stack_machine.specs.States.{State}
use Rattle.stack_machine.specs.State.{Asks}
use Rattle.stack_machine.specs.Machine.{next}
use Rattle.stack_machine.specs.Standing.{Standing, Awaits}
use Rattle.stack_machine.specs.History.{StandsFor}
use Rattle.stack_machine.proofs.Histories.{stands_answered}
use Rattle.stack_machine.specs.Shown.{shown, rooms}
use Rattle.stack_machine.proofs.Rooms.{high, still_roomy}
use Rattle.stack_machine.proofs.Reply.{room_in, stands_on}
use Rattle.stack_machine.proofs.machine.Machine.answer.Goals as goal

pub answer-requires : goal.answer-requires
answer-requires c = room_in _ _ c.args.reply c.self.invariant.0 (high c.self.inside.code c.self.inside.store c.self.invariant.1 _) c.self.ranges.1.0.1 (subst (λ m. Awaits m c.args.reply) (sym c.self.view_is) c.requires)

pub invariant_of-self : goal.invariant_of-self
invariant_of-self c = (
  stands_on _ c.args.reply (shown c.answer.new.self) c.self.invariant.0 (subst (λ m. Awaits m c.args.reply) (sym c.self.view_is) c.requires) (ap shown c.answer.ensures),
  still_roomy c.self.inside.code c.self.inside.store c.answer.new.self (ap rooms c.answer.ensures) c.self.invariant.1,
)

pub returns-clause-well : goal.returns-clause-well
returns-clause-well c = stands_on _ c.args.reply (shown c.answer.new.self) c.self.invariant.0 (subst (λ m. Awaits m c.args.reply) (sym c.self.view_is) c.requires) (ap shown c.answer.ensures)

pub returns-clause-history : goal.returns-clause-history
returns-clause-history c =
    λ replies calls call asks stands.
    let before : Standing = record { code = c.self.inside.code; limit = c.self.inside.limit; state = shown c.self.inside.store } in
    let there = subst (λ (m : Standing). next m.code m.limit m.state ≡ Asks call m.state) (sym c.self.view_is) asks in
    subst (λ (t : State). StandsFor (record before { state = t }) (replies ++ c.args.reply ∷ []) (calls ++ call ∷ [])) (sym (ap shown c.answer.ensures))
    (stands_answered before call c.args.reply replies calls there (subst (λ m. StandsFor m replies calls) (sym c.self.view_is) stands))
