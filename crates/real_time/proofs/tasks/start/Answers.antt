use Rattle.std.proofs.Common.{◌≡◌, ◌≤◌, ◌<◌, true, false, sym, subst, arith}
use Rattle.std.specs.List.{list_any}
use Rattle.real_time.specs.Awaiting.{has_name}
use Rattle.real_time.proofs.Answering.{start-none, start-past, start-done, has-passed, is-ahead}
use Rattle.real_time.proofs.tasks.start.Goals as goal

pub returns-then-not-is_task : goal.returns-then-not-is_task
returns-then-not-is_task c = λ s at st.
    let none : list_any (has_name c.args.name.now) c.args.tasks.now ≡ false = (let is = c.is_task.ensures in let no = c.if-not-is_task.true in cc) in
    start-none s c.args.name.now c.args.tasks.now st c.args.time c.args.period none

pub returns-then-time-now : goal.returns-then-time-now
returns-then-time-now c = λ s at st.
    let some : list_any (has_name c.args.name.now) c.args.tasks.now ≡ true = (let is = c.is_task.ensures in let yes = c.if-not-is_task.false in cc) in
    let past : c.args.time ≤ c.args.now = (let test = c.if-time-now.true in omega (arith, test)) in
    start-past s c.args.name.now c.args.tasks.now st c.args.time c.args.period c.args.now at some (has-passed c.args.now c.args.time past)

pub returns : goal.returns
returns c = λ s at st.
    let some : list_any (has_name c.args.name.now) c.args.tasks.now ≡ true = (let is = c.is_task.ensures in let yes = c.if-not-is_task.false in cc) in
    let ahead : c.args.now < c.args.time = (let test = c.if-time-now.false in omega (arith, test)) in
    start-done s c.args.name.now c.args.tasks.now st c.args.time c.args.period c.args.now c.change_named.new.tasks at some
    (is-ahead c.args.now c.args.time ahead) c.change_named.ensures.names
    (c.change_named.ensures.awaits s.accepted s.now (subst (λ n. n < c.args.time) (sym at) ahead) st.await)
