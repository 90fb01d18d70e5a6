use Rattle.std.proofs.Common.{map, take, pos, refl}
use Rattle.stack_machine.proofs.Answered.{byte_is_set, no_bytes_set, still_inside}
use Rattle.stack_machine.proofs.state.Store.set_bytes.Goals as goal

pub loop-place-preserved : goal.loop-place-preserved
loop-place-preserved c = byte_is_set c.args.program c.args.self.now c.loop-place.self c.set_word.new.self c.args.start c.loop-place.place c.args.bytes.now c.from.result c.loop-place.invariant c.loop-place-test.true c.requires.inside c.from.ensures (c.type_inv.bytes c.loop-place.place) c.set_word.ensures

pub loop-place-init : goal.loop-place-init
loop-place-init c = no_bytes_set c.args.program c.args.self.now c.args.start (map pos (take 0 c.args.bytes.now)) refl

pub set_word-requires : goal.set_word-requires
set_word-requires c = still_inside c.args.program c.args.self.now c.loop-place.self c.args.start c.loop-place.place c.args.bytes.now
    c.loop-place.invariant c.loop-place-test.true c.requires.inside
