use Rattle.std.proofs.Common.{◌≤◌, ◌-◌, length, drop, arith, length-drop}
use Rattle.solo_devices.proofs.pending.Pending.skip.Goals as goal

within : (c : goal.After-self) → c.args.count ≤ length c.self.inside.bytes.items - c.self.inside.start
within c =
    let few : c.args.count ≤ length (drop c.self.inside.start c.self.inside.bytes.items) = rw c.self.view_is c.requires in
    omega (arith, length-drop c.self.inside.start c.self.inside.bytes.items)

pub overflow_add-self : goal.overflow_add-self
overflow_add-self c = omega (arith, within c, c.self.invariant.0, c.self.invariant.1)
