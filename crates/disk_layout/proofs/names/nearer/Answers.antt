use Rattle.std.proofs.Common.{subst, sym}
use Rattle.disk_layout.specs.Names.{IsNextBelow}
use Rattle.disk_layout.proofs.NextNames.{first_found, nearer_found}
use Rattle.disk_layout.proofs.names.nearer.Goals as goal

pub returns-then-comes_before : goal.returns-then-comes_before
returns-then-comes_before c =
    nearer_found c.args.entries.now c.args.after c.args.place c.in-Some.found c.if-entry-eq0.false (sym c.if-not-is_past.ensures)
    (sym c.if-comes_before.ensures)
    (subst (IsNextBelow c.args.entries.now c.args.after c.args.place) c.in-Some.is c.requires.next)

pub returns-in-None : goal.returns-in-None
returns-in-None c =
    first_found c.args.entries.now c.args.after c.args.place c.if-entry-eq0.false (sym c.if-not-is_past.ensures)
    (subst (IsNextBelow c.args.entries.now c.args.after c.args.place) c.in-None.is c.requires.next)
