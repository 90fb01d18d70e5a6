use Rattle.solo_commands.proofs.Cutting.{cut_none, cut_parts}
use Rattle.solo_commands.proofs.words.cut.Goals as goal

pub returns-then-place-text-clause-none : goal.returns-then-place-text-clause-none
returns-then-place-text-clause-none c =
    cut_none c.args.stop c.args.text.now c.first_place-place.result c.first_place-place.ensures c.if-place-text.true

pub returns-clause-parts : goal.returns-clause-parts
returns-clause-parts c =
    cut_parts c.args.stop c.args.text.now c.first_place-place.result c.first_place-place.ensures c.if-place-text.false
