use Rattle.std.proofs.Common.{◌++◌, sym, ap, ◌∙◌}
use Rattle.pascal_tree.proofs.Joined.{function_joined}
use Rattle.pascal_tree.specs.SeenProgram.{seen_routine}
use Rattle.pascal_tree.specs.SpellProgram.{spelled_routine}
use Rattle.pascal_tree.proofs.spelling.spell_routine.Goals as goal

pub returns-in_ok-push_symbol-in-Function-3 : goal.returns-in_ok-push_symbol-in-Function-3
returns-in_ok-push_symbol-in-Function-3 c =
    rw (c.in_ok-push_symbol-in-Function-3.ensures, c.in_ok-spell_block-in-Function.ensures, c.in_ok-push_symbol-in-Function-2.ensures)
    (rw (c.in_ok-push_name-in-Function-2.ensures, c.in_ok-push_symbol-in-Function.ensures, c.in_ok-spell_parameters-in-Function.ensures)
    (rw (c.in_ok-push_name-in-Function.ensures, c.in_ok-push_reserved-in-Function.ensures)
    (function_joined _ _ _ _ _ _ _ _ _ ∙ ap (λ r. c.args.out.now.items ++ spelled_routine (seen_routine r)) (sym c.in-Function.is))))
