use Rattle.std.proofs.Common.{◌-◌, ◌∙◌, ap, inl, refl, arith, get_or}
use Rattle.disk_layout.specs.Layout.{blank_entry}
use Rattle.disk_layout.specs.Writing.{unnamed}
use Rattle.disk_layout.proofs.NamePut.{kept_put, entry_lowered}
use Rattle.disk_layout.proofs.catalogue.clear_name.Goals as goal

pub returns-clause-kept : goal.returns-clause-kept
returns-clause-kept c =
    let key = (get_or c.args.entries.now c.args.place blank_entry).key in
    λ all. kept_put _ _ c.args.place (key - 1) _ _ (unnamed 0) c.requires.places c.requires.place (omega (arith, c.requires.some, c.requires.last))
    (c.lower_searches.ensures ∙ ap (entry_lowered c.args.entries.now c.args.place (key - 1)) c.unnamed.ensures) all (inl refl)
