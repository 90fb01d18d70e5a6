use Rattle.std.proofs.Common.{◌≡◌, ◌++◌, drop}
use Rattle.pascal_tree.specs.SpellProgram.{spelled_definitions}
use Rattle.pascal_tree.proofs.spelling.spell_definitions.Given as goal

abbrev pub invariant-loop-definition : goal.invariant-loop-definition
invariant-loop-definition l =
    l.out.items ++ spelled_definitions (drop l.definition-index l.definitions) ≡ l.fn.out.items ++ spelled_definitions l.definitions
