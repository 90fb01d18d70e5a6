use Rattle.real_time.proofs.Passing.{pass-stands}
use Rattle.real_time.proofs.tasks.pass.Goals as goal

pub returns-clause-stands : goal.returns-clause-stands
returns-clause-stands c = λ s second_is st.
    pass-stands s c.args.tasks.now c.args.place c.args.second c.passes.new.self c.index-tasks-place.result c.passes.result c.requires.place
    c.passes.ensures.name
    (c.passes.ensures.passes _ s.now second_is) second_is st
