use Rattle.std.proofs.Common.{◌≡◌, ◌≤◌, [], vec_len, vec_capacity}
use Rattle.monitor_gate.specs.Views.{maker}
use Rattle.monitor_gate.specs.Ends.{new_passes}
use Rattle.monitor_gate.proofs.deal.deal.Given as goal

abbrev pub invariant-loop-made : goal.invariant-loop-made
invariant-loop-made g l = record {
  gate : l.seat.table_id ≡ l.word.table_id;
  making : l.seat.me ≡ (maker l.word.key.state.value l.made, []);
  dealt : l.dealt.items ≡ new_passes l.word.table_id l.word.key.state.value l.made;
  full : vec_len l.dealt ≡ l.made;
  room : l.passes ≤ vec_capacity l.dealt;
}
