use Rattle.std.proofs.Common.{sym, ◌∙◌, ap}
use Rattle.solo_base.specs.Arithmetic.{are_bytes}
use Rattle.pascal_evaluate.specs.SeenStore.{seen_array, situation, all_given}
use Rattle.pascal_evaluate.proofs.Answered.{array_first, array_none}
use Rattle.pascal_evaluate.proofs.interface.gives_bytes.Goals as goal

pub returns-in-Some : goal.returns-in-Some
returns-in-Some c =
    c.has_bytes.ensures
    ∙ ap are_bytes (sym (array_first (all_given c.args.given.now) (seen_array c.in-Some.array.now) (situation c.args.run.now) (sym c.in-Some.ensures)))

pub returns-in-None : goal.returns-in-None
returns-in-None c = ap are_bytes (sym (array_none (all_given c.args.given.now) (situation c.args.run.now) (sym c.in-None.ensures)))
