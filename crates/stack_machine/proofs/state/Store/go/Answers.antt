use Rattle.std.proofs.Common.{sym, ◌∙◌, ap}
use Rattle.stack_machine.specs.declared.state.Store.{Store}
use Rattle.stack_machine.specs.Shown.{shown}
use Rattle.stack_machine.proofs.Onward.{next_here, goes_further, comes_nearer, asks_there, ends_there, never_stuck, has_ended}
use Rattle.stack_machine.proofs.Rooms.{still_roomy, some_to_call}
use Rattle.stack_machine.proofs.state.Store.go.Goals as goal

pub returns-in-Some-clause-pauses : goal.returns-in-Some-clause-pauses
returns-in-Some-clause-pauses c = (has_ended c.args.code.now c.args.limit (shown c.args.self.now) c.in-Some.finish c.in-Some.is, c.in-Some.is)

pub unreachable-requires : goal.unreachable-requires
unreachable-requires c = never_stuck c.args.code.now c.args.limit (shown c.args.self.now) (shown c.loop-self.self) c.loop-self.invariant.way (next_here c.args.code.now c.args.limit (shown c.args.self.now) (shown c.loop-self.self) c.instr-instr.result c.loop-self.invariant.way c.instr-instr.ensures.found ∙ sym c.in-Stuck.ensures)

pub returns-in-Call-clause-pauses : goal.returns-in-Call-clause-pauses
returns-in-Call-clause-pauses c = (asks_there c.args.code.now c.args.limit (shown c.args.self.now) (shown c.loop-self.self) (shown c.loop-self.self) c.in-Call.call c.loop-self.invariant.way (next_here c.args.code.now c.args.limit (shown c.args.self.now) (shown c.loop-self.self) c.instr-instr.result c.loop-self.invariant.way c.instr-instr.ensures.found ∙ sym c.in-Call.ensures)).0

pub returns-in-Stopped-clause-pauses : goal.returns-in-Stopped-clause-pauses
returns-in-Stopped-clause-pauses c =
    let there = ends_there c.args.code.now c.args.limit (shown c.args.self.now) (shown c.loop-self.self) (shown c.end.new.self) (record { result = c.in-Stopped.result_of; line = c.in-Stopped.line; ticks = c.loop-self.self.ticks }) c.loop-self.invariant.way (next_here c.args.code.now c.args.limit (shown c.args.self.now) (shown c.loop-self.self) c.instr-instr.result c.loop-self.invariant.way c.instr-instr.ensures.found ∙ sym c.in-Stopped.ensures) (ap (λ (v : Store). v.ended) c.end.ensures.ended) in
    rw c.end.ensures.finish there.0

pub loop-self-smaller : goal.loop-self-smaller
loop-self-smaller c = comes_nearer c.args.code.now c.args.limit (shown c.args.self.now) (shown c.loop-self.self) (shown c.perform.new.self) c.loop-self.invariant.way (next_here c.args.code.now c.args.limit (shown c.args.self.now) (shown c.loop-self.self) c.instr-instr.result c.loop-self.invariant.way c.instr-instr.ensures.found ∙ sym c.in-Moved.ensures.does)

pub loop-self-preserved : goal.loop-self-preserved
loop-self-preserved c = record {
  way =
      goes_further c.args.code.now c.args.limit (shown c.args.self.now) (shown c.loop-self.self) (shown c.perform.new.self) c.loop-self.invariant.way (next_here c.args.code.now c.args.limit (shown c.args.self.now) (shown c.loop-self.self) c.instr-instr.result c.loop-self.invariant.way c.instr-instr.ensures.found ∙ sym c.in-Moved.ensures.does);
  room = c.in-Moved.ensures.room ∙ c.loop-self.invariant.room;
}

pub returns-in-Stopped-perform-clause-pauses : goal.returns-in-Stopped-perform-clause-pauses
returns-in-Stopped-perform-clause-pauses c =
    let there = ends_there c.args.code.now c.args.limit (shown c.args.self.now) (shown c.loop-self.self) (shown c.end-in-Stopped-perform.new.self) (record { result = c.in-Stopped-perform.result_of; line = c.in-Stopped-perform.line; ticks = c.perform.new.self.ticks }) c.loop-self.invariant.way (next_here c.args.code.now c.args.limit (shown c.args.self.now) (shown c.loop-self.self) c.instr-instr.result c.loop-self.invariant.way c.instr-instr.ensures.found ∙ sym c.in-Stopped-perform.ensures.does) (ap (λ (v : Store). v.ended) c.end-in-Stopped-perform.ensures.ended) in
    rw c.end-in-Stopped-perform.ensures.finish there.0

pub returns-in-Stopped-perform-clause-sound : goal.returns-in-Stopped-perform-clause-sound
returns-in-Stopped-perform-clause-sound c =
    let there = ends_there c.args.code.now c.args.limit (shown c.args.self.now) (shown c.loop-self.self) (shown c.end-in-Stopped-perform.new.self) (record { result = c.in-Stopped-perform.result_of; line = c.in-Stopped-perform.line; ticks = c.perform.new.self.ticks }) c.loop-self.invariant.way (next_here c.args.code.now c.args.limit (shown c.args.self.now) (shown c.loop-self.self) c.instr-instr.result c.loop-self.invariant.way c.instr-instr.ensures.found ∙ sym c.in-Stopped-perform.ensures.does) (ap (λ (v : Store). v.ended) c.end-in-Stopped-perform.ensures.ended) in
    there.1

pub unreachable-requires-in-Stuck-perform : goal.unreachable-requires-in-Stuck-perform
unreachable-requires-in-Stuck-perform c = never_stuck c.args.code.now c.args.limit (shown c.args.self.now) (shown c.loop-self.self) c.loop-self.invariant.way (next_here c.args.code.now c.args.limit (shown c.args.self.now) (shown c.loop-self.self) c.instr-instr.result c.loop-self.invariant.way c.instr-instr.ensures.found ∙ sym c.in-Stuck-perform.ensures.does)

pub perform-requires-clause-roomy : goal.perform-requires-clause-roomy
perform-requires-clause-roomy c = still_roomy c.args.code.now c.args.self.now c.loop-self.self c.loop-self.invariant.room c.requires.roomy

pub perform-requires-clause-some : goal.perform-requires-clause-some
perform-requires-clause-some c = some_to_call c.args.code.now c.loop-self.self.current.place c.instr-instr.result c.loop-self.invariant.way.good c.instr-instr.ensures.found
