use Rattle.std.proofs.Common.{◌≡◌, true, false}
use Rattle.std.specs.List.{list_any}
use Rattle.real_time.specs.Awaiting.{has_name}
use Rattle.real_time.proofs.Answering.{stop-none, stop-done}
use Rattle.real_time.proofs.tasks.stop.Goals as goal

pub returns-then-not-is_task : goal.returns-then-not-is_task
returns-then-not-is_task c = λ s st.
    let none : list_any (has_name c.args.name.now) c.args.tasks.now ≡ false = (let is = c.is_task.ensures in let no = c.if-not-is_task.true in cc) in
    stop-none s c.args.name.now c.args.tasks.now st none

pub returns : goal.returns
returns c = λ s st.
    let some : list_any (has_name c.args.name.now) c.args.tasks.now ≡ true = (let is = c.is_task.ensures in let yes = c.if-not-is_task.false in cc) in
    stop-done s c.args.name.now c.args.tasks.now st c.change_named.new.tasks some c.change_named.ensures.names
    (c.change_named.ensures.awaits s.accepted s.now tt st.await)
