use Rattle.std.proofs.Common.{sym, ap, ◌∙◌, arith}
use Rattle.monitor_gate.specs.Views.{in_hand}
use Rattle.monitor_gate.proofs.Deals.{joins}
use Rattle.monitor_gate.proofs.gate.Gate.join.Goals as goal

pub join_seat-requires : goal.join_seat-requires
join_seat-requires g c =
    let name = sym (ap (λ v. v.name) c.self.view_is) in
    let words = c.self.invariant.0 in (
      ap (λ p. p.gate) c.into.view_is ∙ (c.requires.passes.0.name ∙ name),
      c.into_seat.ensures.0 ∙ (c.requires.passes.1.name ∙ name),
      ap (λ m. m.1) c.into_seat.ensures.1 ∙ ap in_hand c.requires.outside.1,
      omega arith,
      joins _ _ _ _ _ _ _ _ _ _ (ap (λ p. p.view.stage) c.into.view_is ∙ c.requires.outside.0) (ap (λ m. m.0.stage) c.into_seat.ensures.1 ∙ c.requires.outside.1),
    )
