use Rattle.disk_layout.proofs.catalogue.is_named.Goals as goal

pub returns-in-Some-clause-yes : goal.returns-in-Some-clause-yes
returns-in-Some-clause-yes c = λ e. (c.in-Some._place, c.in-Some.ensures.inside, c.in-Some.ensures.used, c.in-Some.ensures.name)
