use Rattle.twin_top.proofs.Mounted.{mounted-ready, mounted-runs, not-mounted-runs}
use Rattle.twin_top.proofs.top.run_deck.Goals as goal

pub returns-in-Ok : goal.returns-in-Ok
returns-in-Ok g c = mounted-runs c.in-Ok.ensures.mounted c.args.schedule c.run_mounted.ensures.ran c.run_mounted.ensures.reasons c.run_mounted.ensures.never

pub returns-in-Err : goal.returns-in-Err
returns-in-Err g c = not-mounted-runs c.in-Err.ensures.unmounted c.args.schedule c.requires

pub run_mounted-requires-clause-ready : goal.run_mounted-requires-clause-ready
run_mounted-requires-clause-ready g c = mounted-ready c.in-Ok.ensures.mounted c.requires
