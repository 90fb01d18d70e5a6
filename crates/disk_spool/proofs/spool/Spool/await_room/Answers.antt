use Rattle.std.proofs.Common.{rules}
use Rattle.disk_spool.specs.declared.answers.Await.TheVariants as Await
use Rattle.disk_spool.specs.History.{room-stands}
use Rattle.disk_spool.proofs.spool.Spool.await_room.Goals as goal

pub returns-then-eq-clause-history : goal.returns-then-eq-clause-history
returns-then-eq-clause-history g c = λ sent taken stops h.
    room-stands g.A.Area.pages c.args.self.now _ sent taken stops h c.args.p Await.Stopped c.requires.may_enter c.requires.not_stopped (search rules) (search rules)

pub returns-then-is_full-clause-history : goal.returns-then-is_full-clause-history
returns-then-is_full-clause-history g c = λ sent taken stops h.
    room-stands g.A.Area.pages c.args.self.now _ sent taken stops h c.args.p Await.Delayed c.requires.may_enter c.requires.not_stopped (search rules) (search rules)

pub returns-clause-history : goal.returns-clause-history
returns-clause-history g c = λ sent taken stops h.
    room-stands g.A.Area.pages c.args.self.now _ sent taken stops h c.args.p Await.Ready c.requires.may_enter c.requires.not_stopped (search rules) (search rules)
