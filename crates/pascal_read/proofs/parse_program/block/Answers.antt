use Rattle.std.proofs.Common.{option_map}
use Rattle.pascal_tree.specs.SeenStatement.{seen_body}
use Rattle.pascal_tree.specs.SeenProgram.{seen_consts, seen_vars}
use Rattle.pascal_tree.specs.SpellStatement.{spelled_body}
use Rattle.pascal_tree.specs.SpellProgram.{spelled_consts, spelled_vars}
use Rattle.pascal_read.proofs.ParseJoined.{three_parts}
use Rattle.pascal_read.proofs.parse_program.block.Goals as goal

pub returns-clause-words : goal.returns-clause-words
returns-clause-words c =
    three_parts (spelled_consts (option_map seen_consts c.in_ok-consts.consts)) (spelled_vars (option_map seen_vars c.in_ok-vars.vars))
    (spelled_body (seen_body c.in_ok-body.body)) _ _ _ _
    c.in_ok-consts.ensures.words c.in_ok-vars.ensures.words c.in_ok-body.ensures.words
