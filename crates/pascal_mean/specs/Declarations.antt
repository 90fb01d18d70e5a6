-- What a program's declarations say, one after the other.
use Rattle.std.specs.Prelude.{ℕ, ◌+◌, true, false, List, [], ◌∷◌, ◌++◌, map, Option, Some, None, if◌then◌else◌}
use Rattle.pascal_tree.specs.Word.{NameAt}
use Rattle.pascal_tree.specs.Statement.{Body, body, sequence, empty, no_statement}
use Rattle.pascal_tree.specs.Program.{Names, Consts, Group, Vars, ParameterGroup, Parameters, Block, Routine, procedure, function, Program}
use Rattle.pascal_tree.specs.declared.declaration.Definition.{Definition}
use Rattle.pascal_tree.specs.declared.declaration.Kind.{Kind}
use Rattle.pascal_tree.specs.declared.declaration.Kind.TheVariants as kind
use Rattle.pascal_mean.specs.Means.{Means, Scalar, Owner, OfProgram, OfRoutine, Parameter, Signature}
use Rattle.pascal_mean.specs.Means as meant
use Rattle.pascal_mean.specs.Predeclared.{Item}
use Rattle.pascal_mean.specs.Scope.{Scope, scope_of, constant_number, constant_scalar, scalar_named}

-- the names of a group, in order
abbrev pub name_list : Names → List (List ℕ)
name_list n = (n.first).letters ∷ map (λ m. (m.1).letters) n.rest

-- these names, each with this meaning, are declared after those of a list
abbrev pub declared_names : Means → List (List ℕ) → List Item → List Item
declared_names means [] items = items
declared_names means (x ∷ more) items =
    declared_names means more (record { letters = x; means = means } ∷ items)

-- ---- Constants

abbrev pub constant_item : Scope → Definition → Item
constant_item scope d =
    let means = meant.Constant (constant_scalar scope d.value) (constant_number scope d.value) in
    record { letters = (d.name).letters; means = means }

-- each definition knows those before it; the scope is that of the list so far
abbrev pub declared_definitions : (List Item → Scope) → List Definition → List Item → List Item
declared_definitions scope [] items = items
declared_definitions scope (d ∷ more) items =
    declared_definitions scope more (constant_item (scope items) d ∷ items)

abbrev pub declared_constants : (List Item → Scope) → Option Consts → List Item → List Item
declared_constants scope None items = items
declared_constants scope (Some c) items = declared_definitions scope (c.first ∷ c.rest) items

-- ---- Variables

-- what a variable of a type means
abbrev pub variable_of : Owner → Scope → Kind → Means
variable_of owner scope (kind.Name n) = meant.Variable owner (scalar_named (scope n.letters))
variable_of owner scope (kind.Array line opening low up_to high closing of element) =
    meant.Array owner (scalar_named (scope element.letters))
    (record { low = constant_number scope low; high = constant_number scope high })

-- a group's type is known before its names are
abbrev pub declared_groups : Owner → (List Item → Scope) → List Group → List Item → List Item
declared_groups owner scope [] items = items
declared_groups owner scope (g ∷ more) items =
    let means = variable_of owner (scope items) g.kind in
    declared_groups owner scope more (declared_names means (name_list g.names) items)

abbrev pub declared_variables : Owner → (List Item → Scope) → Option Vars → List Item → List Item
declared_variables owner scope None items = items
declared_variables owner scope (Some v) items = declared_groups owner scope (v.first ∷ v.rest) items

-- ---- Headings

abbrev pub parameter_of : Option ℕ → Scalar → List ℕ → Parameter
parameter_of None t x = record { letters = x; scalar = t; is_variable = false }
parameter_of (Some line) t x = record { letters = x; scalar = t; is_variable = true }

abbrev pub group_parameters : Scope → ParameterGroup → List Parameter
group_parameters scope g =
    map (parameter_of g.var (scalar_named (scope (g.kind).letters))) (name_list g.names)

abbrev pub parameter_means : Parameter → Means
parameter_means p = if p.is_variable then meant.Reference p.scalar else meant.Variable OfRoutine p.scalar

abbrev pub declared_parameters : List Parameter → List Item → List Item
declared_parameters [] items = items
declared_parameters (p ∷ more) items =
    declared_parameters more (record { letters = p.letters; means = parameter_means p } ∷ items)

-- each group's type is looked up among the program's names and the parameters before it
abbrev pub parameters_after : List Item → List Item → List (ℕ × ParameterGroup) → List Parameter
parameters_after own program [] = []
parameters_after own program (g ∷ more) =
    let these = group_parameters (scope_of own program) g.1 in
    these ++ parameters_after (declared_parameters these own) program more

abbrev pub parameter_list : List Item → Option Parameters → List Parameter
parameter_list program None = []
parameter_list program (Some p) = parameters_after [] program ((p.opening, p.first) ∷ p.rest)

abbrev pub signature_of : List Item → Routine → Signature
signature_of program (procedure line x p semicolon b end) =
    record { parameters = parameter_list program p; answer = None }
signature_of program (function line x p colon t semicolon b end) =
    let parameters = parameter_list program p in
    let scope = scope_of (declared_parameters parameters []) program in
    record { parameters = parameters; answer = Some (scalar_named (scope t.letters)) }

-- ---- Routines

abbrev pub routine_name : Routine → NameAt
routine_name (procedure line x p semicolon b end) = x
routine_name (function line x p colon t semicolon b end) = x

abbrev pub block_of : Routine → Block
block_of (procedure line x p semicolon b end) = b
block_of (function line x p colon t semicolon b end) = b

-- A routine as its declarations leave it: its parameters and result, what names mean in its
-- statements, and these. The program itself is one without parameters.
pub record Declared : Type 0 where
  pub signature : Signature
  pub scope : Scope
  pub body : Body

-- the constants and variables of a routine, declared after its parameters
abbrev pub own_items : List Item → Signature → Block → List Item
own_items program signature b =
    let scope : List Item → Scope = λ own. scope_of own program in
    declared_variables OfRoutine scope b.vars
    (declared_constants scope b.consts (declared_parameters signature.parameters []))

abbrev pub declared_routine : List Item → Signature → Block → Declared
declared_routine program signature b =
    record { signature = signature; scope = scope_of (own_items program signature b) program; body = b.body }

abbrev pub heading_item : ℕ → List Item → Routine → Item
heading_item k program r =
    record { letters = (routine_name r).letters; means = meant.Routine k (signature_of program r) }

-- the headings of routines, from a number on
abbrev pub declared_headings : ℕ → List Routine → List Item → List Item
declared_headings k [] items = items
declared_headings k (r ∷ more) items = declared_headings (k + 1) more (heading_item k items r ∷ items)

-- the routines from a number on: each knows the program's names up to its own heading
abbrev pub routines_after : ℕ → List Item → List Routine → List Declared
routines_after k program [] = []
routines_after k program (r ∷ more) =
    let known = heading_item k program r ∷ program in
    declared_routine known (signature_of program r) (block_of r) ∷ routines_after (k + 1) known more

-- ---- The program

-- the program's constants and variables
abbrev pub global_items : Program → List Item
global_items p =
    let scope : List Item → Scope = scope_of [] in
    declared_variables OfProgram scope p.vars (declared_constants scope p.consts [])

abbrev pub program_itself : Program → Declared
program_itself p = record {
  signature = record { parameters = []; answer = None };
  scope = scope_of [] (declared_headings 1 p.routines (global_items p));
  body = p.body;
}

-- the program, and behind it its routines in order
abbrev pub all_declared : Program → List Declared
all_declared p = program_itself p ∷ routines_after 1 (global_items p) p.routines

-- what stands for a number that no routine has
abbrev pub no_routine : Declared
no_routine = record {
  signature = record { parameters = []; answer = None };
  scope = λ x. meant.Nothing;
  body = body 0 (sequence empty no_statement) 0;
}
