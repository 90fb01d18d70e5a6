use Rattle.std.proofs.Common.{◌++◌, sym, ap, ◌∙◌}
use Rattle.pascal_tree.proofs.Joined.{kind_joined}
use Rattle.pascal_tree.specs.SpellProgram.{spelled_kind}
use Rattle.pascal_tree.proofs.spelling.spell_kind.Goals as goal

pub returns-in_ok-push_name-in-Array : goal.returns-in_ok-push_name-in-Array
returns-in_ok-push_name-in-Array c =
    rw (c.in_ok-push_name-in-Array.ensures, c.in_ok-push_reserved-in-Array-2.ensures, c.in_ok-push_symbol-in-Array-3.ensures)
    (rw (c.in_ok-spell_constant-in-Array-2.ensures, c.in_ok-push_symbol-in-Array-2.ensures, c.in_ok-spell_constant-in-Array.ensures)
    (rw (c.in_ok-push_symbol-in-Array.ensures, c.in_ok-push_reserved-in-Array.ensures)
    (kind_joined _ _ _ _ _ _ _ _ _ ∙ ap (λ k. c.args.out.now.items ++ spelled_kind k) (sym c.in-Array.is))))
