-- Both ends of a buffer meet.
use Rattle.std.proofs.Common.{◌≡◌, Option, None, Some, List, [], ◌++◌, option_to_list, refl, sym, ap, ◌∙◌, subst}
use Rattle.std.specs.declared.snapshot.Snapshot.{Snapshot}
use Rattle.solo_base.specs.declared.outcome.Side.{Side}
use Rattle.solo_base.specs.declared.outcome.Side.TheVariants.{Receiver}
use Rattle.queue_var.specs.Sides.{stopped_by}
use Rattle.queue_var.specs.BetweenTwo.{by_side, calls_of}
use Rattle.queue_var.proofs.BetweenTwo.{calls-met, who-stopped}
use Rattle.monitor_gate.specs.Views.{entries_of}
use Rattle.monitor_gate.specs.Ends.{PassView, joined, lists_of}
use Rattle.monitor_gate.specs.Calls.{calls_in}
use Rattle.monitor_gate.proofs.Pairs.{paired}
use Rattle.slot_buffer.specs.declared.call.SlotCall.{SlotCall}
use Rattle.slot_buffer.specs.Slot.{Slot}
use Rattle.slot_buffer.specs.Calls.{IsTied, value, taken_of}
use Rattle.slot_buffer.specs.Ends.{Meets}

none_rests : {T : Type 0} (rest : Option T) → [] ≡ option_to_list rest → rest ≡ None
none_rests None e = refl
none_rests (Some item) e = absurd cc

met : {T : Type 0} (calls : Side → List (SlotCall T)) (state : Slot T) (rest : Option T) (by : Option Side) → IsTied calls state → state.inside ≡ option_to_list rest → by ≡ stopped_by state.sides → Meets calls rest by
met calls state rest by tied inside first = record {
  in_order = ap (λ rest. taken_of (calls Receiver) ++ rest) (sym inside) ∙ tied.stands.hands_over.in_order;
  stopped = who-stopped _ _ state.sides by tied.sides first;
  nothing_left = λ told. none_rests rest (sym (tied.nothing_left told) ∙ inside);
}

pub meets : {T : Type 0} (pass other into : PassView (Slot T) (SlotCall (Snapshot T))) (state : Slot T) (rest : Option T) (by : Option Side) → into ≡ joined pass other → pass.view.number ≡ 1 → other.view.number ≡ 2 → pass.view.joined ≡ []
    → IsTied (calls_of value (entries_of (lists_of into))) state → state.inside ≡ option_to_list rest → by ≡ stopped_by state.sides → Meets (by_side (calls_in value pass) (calls_in value other)) rest by
meets pass other into state rest by is one two alone tied inside first =
    let entries = paired pass other one two alone in
    let calls = ap (λ p. calls_of value (entries_of (lists_of p))) is ∙ calls-met value (entries_of (lists_of (joined pass other))) pass.view.entries other.view.entries entries.0 entries.1 in
    met (by_side (calls_in value pass) (calls_in value other)) state rest by (subst (λ c. IsTied c state) calls tied) inside first
