use Rattle.pascal_evaluate.proofs.statement.assign.Goals as goal

pub returns-in-Some : goal.returns-in-Some
returns-in-Some g c =
    let done = rw (← c.a.view_is) at c.assign_element.ensures in
    rw (← c.a.view_is, c.in-Some.is, c.in_ok-tick.ensures, ← c.deref.ensures) done
