-- What a fault says of nodes.
use Rattle.std.specs.Prelude.{◌≡◌, Some}
use Rattle.pascal_tree.specs.ExpressionRules.{Judged}
use Rattle.pascal_tree.specs.DeclarationRules.{first_broken}
use Rattle.pascal_check.specs.declared.fault.CheckFault.{CheckFault}
use Rattle.pascal_check.specs.declared.fault.CheckFault.TheVariants as fault

-- the fault is the first broken rule of these nodes, or want of memory, of which nothing is said
abbrev pub IsFault : Judged → CheckFault → Type 0
IsFault nodes (fault.Semantic line rule) = first_broken nodes ≡ Some (record { rule = rule; line = line })
IsFault nodes fault.NoMemory = Unit {0}
