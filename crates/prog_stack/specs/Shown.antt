-- The programs on a stack, the top one first.
use Rattle.std.specs.Prelude.{List, [], ◌∷◌, reverse, Option, Some, None}
use Rattle.prog_stack.specs.declared.frame.Frame.{Frame}
use Rattle.prog_stack.specs.declared.running.Running.{Running}

abbrev pub shown : Running → List Frame
shown r = r.top ∷ reverse r.below.items

abbrev pub shown_if : Option Running → List Frame
shown_if None = []
shown_if (Some r) = shown r
