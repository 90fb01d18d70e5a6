-- The scope of a routine, from its beginning to its end.
use Rattle.std.specs.Prelude.{◌≡◌, ℕ, List, [], ◌∷◌, None}
use Rattle.pascal_tree.specs.Scopes.{Scope, named_as}
use Rattle.pascal_tree.specs.declared.means.Means.{Means}

-- the routine itself is declared in the program's list
abbrev pub outside : Scope → List ℕ → Means → Scope
outside s name means = record s { outer = named_as name means ∷ s.outer }

-- behind the routine
abbrev pub left : Scope → Scope
left s = record { own = s.outer; outer = []; within = None }

-- the scope of a program stands in no routine
abbrev pub IsOfProgram : Scope → Type 0
IsOfProgram s = (s.outer ≡ []) × (s.within ≡ None)
