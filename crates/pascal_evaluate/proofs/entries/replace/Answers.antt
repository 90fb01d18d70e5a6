use Rattle.std.specs.Int.{w16}
use Rattle.std.proofs.lemmas.Int.{to_z-of_z}
use Rattle.pascal_evaluate.proofs.Replaced.{set_is}
use Rattle.pascal_evaluate.proofs.entries.replace.Goals as goal

pub returns : goal.returns
returns c =
    set_is c.args.entries.now c.args.place c.index-entries-place.result c.args.value _ c.requires (to_z-of_z w16 c.args.value c.ranges.value)
