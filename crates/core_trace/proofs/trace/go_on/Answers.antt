use Rattle.core_trace.proofs.trace.go_on.Goals as goal

pub next_by-requires : goal.next_by-requires
next_by-requires g c = record { some = c.requires }

pub happen-event-requires : goal.happen-event-requires
happen-event-requires g c = record { at = c.requires; may = (c.in-Some.ensures.picks c.requires).1 }
