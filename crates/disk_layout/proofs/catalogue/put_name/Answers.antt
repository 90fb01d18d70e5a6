use Rattle.std.proofs.Common.{◌-◌, arith}
use Rattle.disk_layout.proofs.NamePut.{kept_put, named_put, stands_put}
use Rattle.disk_layout.proofs.catalogue.put_name.Goals as goal

pub returns-clause-kept : goal.returns-clause-kept
returns-clause-kept c =
    kept_put _ _ c.args.place (c.args.entry.now.key - 1) _ _ c.args.entry.now c.requires.places c.requires.place
    (omega (arith, c.requires.some, c.requires.last)) c.raise_searches.ensures

pub returns-clause-named : goal.returns-clause-named
returns-clause-named c =
    named_put _ _ c.args.place (c.args.entry.now.key - 1) _ _ c.args.entry.now c.requires.places c.requires.place
    (omega (arith, c.requires.some, c.requires.last)) c.raise_searches.ensures

pub returns-clause-stands : goal.returns-clause-stands
returns-clause-stands c =
    stands_put _ _ c.args.place (c.args.entry.now.key - 1) _ c.args.entry.now c.requires.places c.requires.place
    (omega (arith, c.requires.some, c.requires.last)) c.raise_searches.ensures
