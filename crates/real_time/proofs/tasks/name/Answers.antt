use Rattle.std.proofs.Common.{◌≡◌, ◌≤◌, ◌<◌, true, false, length, rules}
use Rattle.std.specs.List.{list_any}
use Rattle.real_time.specs.Awaiting.{has_name}
use Rattle.real_time.proofs.Naming.{name-exists, name-full, name-new}
use Rattle.real_time.proofs.Answering.{has-passed, is-ahead}
use Rattle.real_time.proofs.tasks.name.Goals as goal

pub returns-then-is_task : goal.returns-then-is_task
returns-then-is_task c = λ s st.
    let some : list_any (has_name c.args.name) c.args.tasks.now.items ≡ true = search rules in
    name-exists s c.args.name c.args.tasks.now.items st some

pub returns-then-len-eq-MOST_TASKS : goal.returns-then-len-eq-MOST_TASKS
returns-then-len-eq-MOST_TASKS c = λ s st.
    let none : list_any (has_name c.args.name) c.args.tasks.now.items ≡ false = search rules in
    let full : 8 ≤ length c.args.tasks.now.items = search rules in
    name-full s c.args.name c.args.tasks.now.items st none (has-passed (length c.args.tasks.now.items) 8 full)

pub returns : goal.returns
returns c = λ s st.
    let none : list_any (has_name c.args.name) c.args.tasks.now.items ≡ false = search rules in
    let room : length c.args.tasks.now.items < 8 = search rules in
    rw (c.push.ensures.items, c.new.ensures.row)
    (name-new s c.args.name c.args.tasks.now.items st none (is-ahead (length c.args.tasks.now.items) 8 room) (rw (← c.new.ensures.row)
    (c.new.ensures.plan s.now)))
