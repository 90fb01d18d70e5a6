use Rattle.std.proofs.Common.{refl, sym, ap, ◌∙◌, subst, ◌<◌}
use Rattle.stack_machine.proofs.Rounds.{so_far_begins, room_in_round, so_far_more, round_less, ran_to_end, broke_off}
use Rattle.stack_machine.specs.Shown.{shown, rooms}
use Rattle.stack_machine.proofs.Rooms.{high, still_roomy}
use Rattle.stack_machine.specs.Left.{left_until_end}
use Rattle.stack_machine.proofs.state.Store.run.Goals as goal

pub loop-finish-init : goal.loop-finish-init
loop-finish-init g c = record {
  far = so_far_begins g.W.World.answers c.args.code.now c.args.limit (shown c.args.self.now) c.args.world.now c.requires.sound;
  room = refl;
}

pub returns-in-Finished-clause-ends : goal.returns-in-Finished-clause-ends
returns-in-Finished-clause-ends g c =
    ran_to_end g.W.World.answers c.args.code.now c.args.limit (shown c.args.self.now) c.args.world.now (shown c.loop-finish.self) (shown c.go.new.self) c.loop-finish.world c.in-Finished.finish c.loop-finish.invariant.far c.in-Finished.ensures.pauses.0 c.in-Finished.ensures.pauses.1 c.in-Finished.ensures.sound

pub answer-requires : goal.answer-requires
answer-requires g c = room_in_round c.args.code.now c.args.limit (shown c.loop-finish.self) (shown c.go.new.self) c.go.new.self.current.operands.room c.in-Call.call c.in-Ok.reply c.in-Call.ensures.pauses c.in-Call.ensures.sound
    (high c.args.code.now c.go.new.self (still_roomy c.args.code.now c.args.self.now c.go.new.self (c.in-Call.ensures.room ∙ c.loop-finish.invariant.room) c.requires.roomy) c.go.new.self.current.routine) c.ranges.limit.fits c.in-Ok.ensures.fits

pub loop-finish-smaller : goal.loop-finish-smaller
loop-finish-smaller g c =
    subst (λ t. left_until_end c.args.code.now c.args.limit t < left_until_end c.args.code.now c.args.limit (shown c.loop-finish.self)) (sym (ap shown c.answer.ensures))
    (round_less c.args.code.now c.args.limit (shown c.loop-finish.self) (shown c.go.new.self) c.in-Call.call c.in-Ok.reply c.in-Call.ensures.sound.good c.in-Call.ensures.pauses)

pub loop-finish-preserved : goal.loop-finish-preserved
loop-finish-preserved g c = record {
  far =
      so_far_more g.W.World.answers c.args.code.now c.args.limit (shown c.args.self.now) c.args.world.now (shown c.loop-finish.self) (shown c.go.new.self) (shown c.answer.new.self) c.loop-finish.world c.call.new.self c.in-Call.call c.in-Ok.reply c.loop-finish.invariant.far c.in-Call.ensures.pauses c.in-Call.ensures.sound c.in-Ok.ensures.answers c.in-Ok.ensures.fits (ap shown c.answer.ensures);
  room = ap rooms c.answer.ensures ∙ c.in-Call.ensures.room ∙ c.loop-finish.invariant.room;
}

pub returns-in-Err-clause-broke_off : goal.returns-in-Err-clause-broke_off
returns-in-Err-clause-broke_off g c =
    broke_off g.W.World.answers c.args.code.now c.args.limit (shown c.args.self.now) c.args.world.now (shown c.loop-finish.self) (shown c.go.new.self) c.loop-finish.world c.call.new.self
    c.in-Call.call c.in-Err.fault c.loop-finish.invariant.far c.in-Call.ensures.pauses c.in-Err.ensures.answers

pub go-requires-clause-roomy : goal.go-requires-clause-roomy
go-requires-clause-roomy g c = still_roomy c.args.code.now c.args.self.now c.loop-finish.self c.loop-finish.invariant.room c.requires.roomy

pub go-requires-clause-sound : goal.go-requires-clause-sound
go-requires-clause-sound g c = c.loop-finish.invariant.far.sound
