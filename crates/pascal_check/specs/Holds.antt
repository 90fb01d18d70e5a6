-- What a name of a group means.
use Rattle.pascal_tree.specs.declared.means.Means.{Means}
use Rattle.pascal_tree.specs.declared.means.Means.TheVariants as means
use Rattle.pascal_check.specs.declared.groups.Held.{Held}
use Rattle.pascal_check.specs.declared.groups.Held.TheVariants as held

-- what a name means that holds a variable or a reference
abbrev pub means_held : Held → Means
means_held (held.Variable t) = means.Variable t
means_held (held.Reference t) = means.Reference t
