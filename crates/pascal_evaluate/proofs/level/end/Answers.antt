use Rattle.std.proofs.Common.{List, map, sym, ◌∙◌, ap}
use Rattle.std.proofs.lemmas.List.{take-map}
use Rattle.pascal_mean.specs.Situation.{Map, Situation}
use Rattle.pascal_evaluate.specs.SeenStore.{seen_activation, situation}
use Rattle.pascal_evaluate.proofs.level.end.Goals as goal

pub returns-clause-run : goal.returns-clause-run
returns-clause-run c =
    let now = situation c.args.run.now in
    ap (λ (maps : List Map). let n : Situation = record now { maps = maps; line = c.args.line } in n)
    (ap (map seen_activation) c.truncate.ensures.items ∙ sym (take-map seen_activation c.args.number c.args.run.now.activations.items))
