use Rattle.std.proofs.Common.{map, ap}
use Rattle.std.proofs.lemmas.Result.{on_ok_weaker}
use Rattle.pascal_tree.specs.SeenProgram.{seen_routine}
use Rattle.pascal_compile.specs.Seen.{seen_passing}
use Rattle.pascal_compile.proofs.Headings.{heading_held}
use Rattle.pascal_compile.proofs.routines.declare_heading.Goals as goal

pub returns-clause-heading : goal.returns-clause-heading
returns-clause-heading c =
    on_ok_weaker c.declare.result
    (λ named f before. heading_held c.args.frame.now c.declare.new.self c.args.number (seen_routine c.args.routine.now) (map seen_passing c.args.passing.now)
    c.requires (c.name_of.result.now).letters f (ap (λ n. n.letters) c.name_of.ensures) named c.declare.ensures.words before)
    c.declare.ensures.names
