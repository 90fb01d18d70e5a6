-- What the static rules say of declarations, and the first broken rule of a program.
use Rattle.std.specs.Prelude.{ℕ, ◌+◌, Bool, false, not, ◌&&◌, nat_le, nat_lt, List, [], ◌∷◌, ◌++◌, map, Option, Some, None, is_some, pos, int_le}
use Rattle.pascal_tree.specs.Word.{NameAt}
use Rattle.pascal_tree.specs.Program.{Names, Consts, Group, Vars, ParameterGroup, Parameters, Block, Routine, procedure, function, Program}
use Rattle.pascal_tree.specs.Scopes.{Scope, found, means_of, declare, same_scalar, words_of_list, result_words}
use Rattle.pascal_tree.specs.declared.broken.Broken.{Broken}
use Rattle.pascal_tree.specs.declared.scalar.Scalar.{Scalar}
use Rattle.pascal_tree.specs.declared.scalar.Scalar.TheVariants as scalar
use Rattle.pascal_tree.specs.declared.scalar.VariableType.{VariableType}
use Rattle.pascal_tree.specs.declared.scalar.VariableType.TheVariants as variable_type
use Rattle.pascal_tree.specs.declared.parameter.Parameter.{Parameter}
use Rattle.pascal_tree.specs.declared.parameter.Parameter.TheVariants as parameter
use Rattle.pascal_tree.specs.declared.means.Means.{Means}
use Rattle.pascal_tree.specs.declared.means.Means.TheVariants as means
use Rattle.pascal_tree.specs.ExpressionRules.{Judged, breaks}
use Rattle.pascal_tree.specs.StatementRules.{Valued, value_of, judged_constant, judged_body}
use Rattle.pascal_tree.specs.declared.declaration.Definition.{Definition}
use Rattle.pascal_tree.specs.declared.declaration.Kind.{Kind}
use Rattle.pascal_tree.specs.declared.declaration.Kind.TheVariants as kind

-- the scope behind a definition; a constant without a value stands for 0
abbrev pub constant_means : Option Valued → Means
constant_means None = means.Constant scalar.Integer (pos 0)
constant_means (Some v) = means.Constant v.type v.value

abbrev pub behind_definition : Scope → Definition → Scope
behind_definition s d = declare s d.name.letters (constant_means (value_of s d.value))

abbrev pub behind_definitions : Scope → List Definition → Scope
behind_definitions s [] = s
behind_definitions s (d ∷ more) = behind_definitions (behind_definition s d) more

abbrev pub behind_consts : Scope → Option Consts → Scope
behind_consts s None = s
behind_consts s (Some c) = behind_definitions (behind_definition s c.first) c.rest

abbrev pub judged_definition : Scope → Definition → Judged
judged_definition s d =
    judged_constant s d.value ++ breaks 1 (is_some (found s.own d.name.letters)) d.name.line ∷ []

abbrev pub judged_definitions : Scope → List Definition → Judged
judged_definitions s [] = []
judged_definitions s (d ∷ more) = judged_definition s d ++ judged_definitions (behind_definition s d) more

abbrev pub judged_consts : Scope → Option Consts → Judged
judged_consts s None = []
judged_consts s (Some c) = judged_definition s c.first ++ judged_definitions (behind_definition s c.first) c.rest

-- the scalar type that a name means, if it means one
abbrev pub type_meant : Option Means → Option Scalar
type_meant (Some (means.TypeName t)) = Some t
type_meant other = None

abbrev pub scalar_named : Scope → NameAt → Option Scalar
scalar_named s n = type_meant (means_of s n.letters)

-- the type, or INTEGER in place of none
abbrev pub or_integer : Option Scalar → Scalar
or_integer None = scalar.Integer
or_integer (Some t) = t

-- two bounds of an array, in their order
abbrev pub are_bounds : Option Valued → Option Valued → Bool
are_bounds (Some a) (Some b) =
    same_scalar a.type scalar.Integer && same_scalar b.type scalar.Integer && int_le a.value b.value
are_bounds a b = false

abbrev pub array_between : Option Valued → Option Valued → Scalar → VariableType
array_between (Some a) (Some b) t = variable_type.Array a.value b.value t
array_between a b t = variable_type.Plain t

abbrev pub type_of_kind : Scope → Kind → VariableType
type_of_kind s (kind.Name n) = variable_type.Plain (or_integer (scalar_named s n))
type_of_kind s (kind.Array l o a u b c f n) =
    array_between (value_of s a) (value_of s b) (or_integer (scalar_named s n))

abbrev pub judged_type_name : Scope → NameAt → Option Broken
judged_type_name s n = breaks 4 (not (is_some (scalar_named s n))) n.line

abbrev pub judged_kind : Scope → Kind → Judged
judged_kind s (kind.Name n) = judged_type_name s n ∷ []
judged_kind s (kind.Array l o a u b c f n) =
    judged_constant s a ++ (judged_constant s b
    ++ (judged_type_name s n ∷ breaks 5 (not (are_bounds (value_of s a) (value_of s b))) l ∷ []))

-- the names of a group
abbrev pub all_names : Names → List NameAt
all_names n = n.first ∷ map (λ later. later.1) n.rest

abbrev pub behind_names : Scope → Means → List NameAt → Scope
behind_names s m [] = s
behind_names s m (n ∷ more) = behind_names (declare s n.letters m) m more

-- how many words a frame has
abbrev pub frame_words : Scope → ℕ
frame_words s = words_of_list s.own + result_words s.within

-- a name that its list has already
abbrev pub judged_once : Scope → NameAt → Option Broken
judged_once s n = breaks 1 (is_some (found s.own n.letters)) n.line

-- a name with which the frame has more than so many words
abbrev pub judged_words : (rule most : ℕ) → Scope → Means → NameAt → Option Broken
judged_words rule most s m n = breaks rule (nat_lt most (frame_words (declare s n.letters m))) n.line

-- what is judged of a variable, and of a parameter
abbrev pub judged_variable : Scope → Means → NameAt → Judged
judged_variable s m n = judged_once s n ∷ judged_words 6 4096 s m n ∷ []

abbrev pub judged_parameter : Scope → Means → NameAt → Judged
judged_parameter s m n = judged_once s n ∷ judged_words 6 4096 s m n ∷ judged_words 7 16 s m n ∷ []

-- the names of a group one by one, each where those before it are declared
abbrev pub one_by_one : (Scope → Means → NameAt → Judged) → Scope → Means → List NameAt → Judged
one_by_one judged s m [] = []
one_by_one judged s m (n ∷ more) = judged s m n ++ one_by_one judged (declare s n.letters m) m more

-- variables of one type: the type, and then their names
abbrev pub behind_group : Scope → Group → Scope
behind_group s g = behind_names s (means.Variable (type_of_kind s g.kind)) (all_names g.names)

abbrev pub judged_group : Scope → Group → Judged
judged_group s g =
    judged_kind s g.kind
    ++ one_by_one judged_variable s (means.Variable (type_of_kind s g.kind)) (all_names g.names)

abbrev pub behind_groups : Scope → List Group → Scope
behind_groups s [] = s
behind_groups s (g ∷ more) = behind_groups (behind_group s g) more

abbrev pub judged_groups : Scope → List Group → Judged
judged_groups s [] = []
judged_groups s (g ∷ more) = judged_group s g ++ judged_groups (behind_group s g) more

abbrev pub behind_vars : Scope → Option Vars → Scope
behind_vars s None = s
behind_vars s (Some v) = behind_groups s (v.first ∷ v.rest)

abbrev pub judged_vars : Scope → Option Vars → Judged
judged_vars s None = []
judged_vars s (Some v) = judged_groups s (v.first ∷ v.rest)

-- parameters of one type: the type, and then their names
abbrev pub parameter_means : Option ℕ → Scalar → Means
parameter_means None t = means.Variable (variable_type.Plain t)
parameter_means (Some line) t = means.Reference t

abbrev pub parameter_wants : Option ℕ → Scalar → Parameter
parameter_wants None t = parameter.Value t
parameter_wants (Some line) t = parameter.VariableOf t

abbrev pub group_means : Scope → ParameterGroup → Means
group_means s g = parameter_means g.var (or_integer (scalar_named s g.kind))

abbrev pub behind_parameter_group : Scope → ParameterGroup → Scope
behind_parameter_group s g = behind_names s (group_means s g) (all_names g.names)

abbrev pub judged_parameter_group : Scope → ParameterGroup → Judged
judged_parameter_group s g =
    judged_type_name s g.kind ∷ one_by_one judged_parameter s (group_means s g) (all_names g.names)

abbrev pub behind_parameter_groups : Scope → List ParameterGroup → Scope
behind_parameter_groups s [] = s
behind_parameter_groups s (g ∷ more) = behind_parameter_groups (behind_parameter_group s g) more

abbrev pub judged_parameter_groups : Scope → List ParameterGroup → Judged
judged_parameter_groups s [] = []
judged_parameter_groups s (g ∷ more) =
    judged_parameter_group s g ++ judged_parameter_groups (behind_parameter_group s g) more

abbrev pub all_groups : Option Parameters → List ParameterGroup
all_groups None = []
all_groups (Some p) = p.first ∷ map (λ later. later.1) p.rest

-- what the parameters of groups want, in their order
abbrev pub group_wants : Parameter → List NameAt → List Parameter
group_wants p names = map (λ n. p) names

abbrev pub parameters_wanted : Scope → List ParameterGroup → List Parameter
parameters_wanted s [] = []
parameters_wanted s (g ∷ more) =
    group_wants (parameter_wants g.var (or_integer (scalar_named s g.kind))) (all_names g.names)
    ++ parameters_wanted (behind_parameter_group s g) more

-- A routine's list is its own; those of the program stand outside it.
abbrev pub inside : Scope → Scope
inside program = record { own = []; outer = program.own; within = None }

abbrev pub behind_parameters : Scope → Option Parameters → Scope
behind_parameters program p = behind_parameter_groups (inside program) (all_groups p)

-- what a routine is to the program behind its heading
abbrev pub routine_means : Scope → Routine → Means
routine_means program (procedure l x p c b e) =
    means.Procedure (parameters_wanted (inside program) (all_groups p))
routine_means program (function l x p c t d b e) =
    means.Function (parameters_wanted (inside program) (all_groups p)) (or_integer (scalar_named (behind_parameters program p) t))

abbrev pub routine_name : Routine → NameAt
routine_name (procedure l x p c b e) = x
routine_name (function l x p c t d b e) = x

abbrev pub behind_heading : Scope → Routine → Scope
behind_heading program r = declare program (routine_name r).letters (routine_means program r)

-- where the block of a routine begins
abbrev pub block_scope : Scope → Routine → Option Parameters → Option (List ℕ) → Scope
block_scope program r p within =
    record { own = (behind_parameters program p).own; outer = (behind_heading program r).own; within = within }

abbrev pub judged_block : Scope → Block → Judged
judged_block s b =
    let t = behind_consts s b.consts in
    judged_consts s b.consts ++ (judged_vars t b.vars ++ judged_body (behind_vars t b.vars) b.body)

-- a heading behind its parameters: its name, the type of its result, and how many routines stand before it
abbrev pub judged_routine : Scope → ℕ → Routine → Judged
judged_routine program before (procedure l x p c b e) =
    judged_parameter_groups (inside program) (all_groups p)
    ++ (breaks 1 (is_some (found program.own x.letters)) x.line
    ∷ breaks 7 (nat_le 254 before) x.line
    ∷ judged_block (block_scope program (procedure l x p c b e) p None) b)
judged_routine program before (function l x p c t d b e) =
    judged_parameter_groups (inside program) (all_groups p)
    ++ (breaks 1 (is_some (found program.own x.letters)) x.line
    ∷ judged_type_name (behind_parameters program p) t
    ∷ breaks 7 (nat_le 254 before) x.line
    ∷ judged_block (block_scope program (function l x p c t d b e) p (Some x.letters)) b)

abbrev pub behind_routines : Scope → List Routine → Scope
behind_routines s [] = s
behind_routines s (r ∷ more) = behind_routines (behind_heading s r) more

abbrev pub judged_routines : Scope → ℕ → List Routine → Judged
judged_routines s before [] = []
judged_routines s before (r ∷ more) = judged_routine s before r ++ judged_routines (behind_heading s r) (before + 1) more

-- where a program begins
abbrev pub empty_scope : Scope
empty_scope = record { own = []; outer = []; within = None }

-- the nodes of a program, in the order in which they end
abbrev pub judged : Program → Judged
judged p =
    let constants = behind_consts empty_scope p.consts in
    let variables = behind_vars constants p.vars in
    judged_consts empty_scope p.consts ++ (judged_vars constants p.vars
    ++ (judged_routines variables 0 p.routines ++ judged_body (behind_routines variables p.routines) p.body))

abbrev pub first_broken : Judged → Option Broken
first_broken [] = None
first_broken (None ∷ more) = first_broken more
first_broken (Some b ∷ more) = Some b

-- The first broken rule of a program, with the line of the word that is named: `BEGIN X := 1 END.`
-- breaks rule 2 on the line of X.
unfoldable pub broken : Program → Option Broken
broken p = first_broken (judged p)
