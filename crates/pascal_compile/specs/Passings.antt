-- How the arguments of routines are passed, by their headings alone.
use Rattle.std.specs.Prelude.{◌≡◌, ℕ, List, [], ◌∷◌, ◌++◌, map, Option, Some, None}
use Rattle.std.specs.Global.{Vec}
use Rattle.pascal_tree.specs.Program.{ParameterGroup, Parameters, Routine, procedure, function}
use Rattle.pascal_mean.specs.Calls.{Passing, ByValue, ByVariable}
use Rattle.pascal_mean.specs.Declarations.{name_list}
use Rattle.pascal_compile.specs.declared.senses.Passing as passing_type
use Rattle.pascal_compile.specs.Seen.{seen_passing}

-- with VAR as a variable, else by its value
abbrev pub var_passing : Option ℕ → Passing
var_passing None = ByValue
var_passing (Some line) = ByVariable

-- each name of a group is passed alike
abbrev pub group_passing : ParameterGroup → List Passing
group_passing g = map (λ x. var_passing g.var) (name_list g.names)

abbrev pub groups_passing : List (ℕ × ParameterGroup) → List Passing
groups_passing [] = []
groups_passing (g ∷ more) = group_passing g.1 ++ groups_passing more

abbrev pub parameters_passing : Option Parameters → List Passing
parameters_passing None = []
parameters_passing (Some p) = groups_passing ((p.opening, p.first) ∷ p.rest)

abbrev pub parameters_in : Routine → Option Parameters
parameters_in (procedure line x p semicolon b end) = p
parameters_in (function line x p colon t semicolon b end) = p

abbrev pub heading_passing : Routine → List Passing
heading_passing r = parameters_passing (parameters_in r)

-- a list for each routine
abbrev pub ArePassed : List (Vec passing_type.Passing) → List Routine → Type 0
ArePassed lists routines = map (λ v. map seen_passing v.items) lists ≡ map heading_passing routines
