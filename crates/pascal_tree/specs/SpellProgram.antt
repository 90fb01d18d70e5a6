-- The words of a program, production by production.
use Rattle.std.specs.Prelude.{ℕ, List, [], ◌∷◌, ◌++◌, Option, Some, None}
use Rattle.pascal_tree.specs.Word.{Spot, NameAt}
use Rattle.pascal_tree.specs.Program.{Consts, Group, Vars, ParameterGroup, Parameters, Block, Routine, procedure, function, Program}
use Rattle.pascal_tree.specs.SpellExpression.{reserved_at, symbol_at, name_at}
use Rattle.pascal_tree.specs.SpellConstant.{spelled_constant}
use Rattle.pascal_tree.specs.SpellStatement.{spelled_body}
use Rattle.pascal_tree.specs.declared.token.Word.TheVariants as word
use Rattle.pascal_tree.specs.declared.token.Reserved.TheVariants as reserved
use Rattle.pascal_tree.specs.declared.token.Symbol.TheVariants as symbol
use Rattle.pascal_tree.specs.declared.declaration.Definition.{Definition}
use Rattle.pascal_tree.specs.declared.declaration.Kind.{Kind}
use Rattle.pascal_tree.specs.declared.declaration.Kind.TheVariants as kind
use Rattle.pascal_tree.specs.declared.declaration.Heading.{Heading}

-- constdef = name "=" constant ";"
abbrev pub spelled_definition : Definition → List Spot
spelled_definition d =
    name_at d.name ∷ (symbol_at symbol.Equal d.equal ∷ (spelled_constant d.value ++ symbol_at symbol.Semicolon d.semicolon ∷ []))

abbrev pub spelled_definitions : List Definition → List Spot
spelled_definitions [] = []
spelled_definitions (d ∷ more) = spelled_definition d ++ spelled_definitions more

-- consts = [ CONST constdef { constdef } ]
abbrev pub spelled_consts : Option Consts → List Spot
spelled_consts None = []
spelled_consts (Some c) = reserved_at reserved.Const c.line ∷ (spelled_definition c.first ++ spelled_definitions c.rest)

-- { "," name }
abbrev pub spelled_more_names : List (ℕ × NameAt) → List Spot
spelled_more_names [] = []
spelled_more_names (n ∷ more) = symbol_at symbol.Comma n.0 ∷ (name_at n.1 ∷ spelled_more_names more)

-- type = name | ARRAY "(." constant ".." constant ".)" OF name
abbrev pub spelled_kind : Kind → List Spot
spelled_kind (kind.Name n) = name_at n ∷ []
spelled_kind (kind.Array l o a u b c f n) =
    reserved_at reserved.Array l ∷ (symbol_at symbol.OpenIndex o ∷ (spelled_constant a ++ (symbol_at symbol.UpTo u ∷ (spelled_constant b
    ++ (symbol_at symbol.CloseIndex c ∷ (reserved_at reserved.Of f ∷ (name_at n ∷ [])))))))

-- group ";", where group = name { "," name } ":" type
abbrev pub spelled_group : Group → List Spot
spelled_group g =
    name_at (g.names).first ∷ (spelled_more_names (g.names).rest ++ (symbol_at symbol.Colon g.colon ∷ (spelled_kind g.kind ++ symbol_at symbol.Semicolon g.semicolon ∷ [])))

abbrev pub spelled_groups : List Group → List Spot
spelled_groups [] = []
spelled_groups (g ∷ more) = spelled_group g ++ spelled_groups more

-- vars = [ VAR group ";" { group ";" } ]
abbrev pub spelled_vars : Option Vars → List Spot
spelled_vars None = []
spelled_vars (Some v) = reserved_at reserved.Var v.line ∷ (spelled_group v.first ++ spelled_groups v.rest)

-- [ VAR ]
abbrev pub spelled_var : Option ℕ → List Spot
spelled_var None = []
spelled_var (Some line) = reserved_at reserved.Var line ∷ []

-- pgroup = [ VAR ] name { "," name } ":" name
abbrev pub spelled_parameter_group : ParameterGroup → List Spot
spelled_parameter_group g =
    spelled_var g.var ++ (name_at (g.names).first ∷ (spelled_more_names (g.names).rest
    ++ (symbol_at symbol.Colon g.colon ∷ (name_at g.kind ∷ []))))

-- { ";" pgroup }
abbrev pub spelled_parameter_groups : List (ℕ × ParameterGroup) → List Spot
spelled_parameter_groups [] = []
spelled_parameter_groups (g ∷ more) =
    symbol_at symbol.Semicolon g.0 ∷ (spelled_parameter_group g.1 ++ spelled_parameter_groups more)

-- params = [ "(" pgroup { ";" pgroup } ")" ]
abbrev pub spelled_parameters : Option Parameters → List Spot
spelled_parameters None = []
spelled_parameters (Some p) =
    symbol_at symbol.Open p.opening ∷ (spelled_parameter_group p.first ++ (spelled_parameter_groups p.rest ++ symbol_at symbol.Close p.closing ∷ []))

-- consts vars body
abbrev pub spelled_block : Block → List Spot
spelled_block b = spelled_consts b.consts ++ (spelled_vars b.vars ++ spelled_body b.body)

-- routine = PROCEDURE name params ";" consts vars body ";"
--         | FUNCTION name params ":" name ";" consts vars body ";"
abbrev pub spelled_routine : Routine → List Spot
spelled_routine (procedure l n p s b e) =
    reserved_at reserved.Procedure l ∷ (name_at n ∷ (spelled_parameters p
    ++ (symbol_at symbol.Semicolon s ∷ (spelled_block b ++ symbol_at symbol.Semicolon e ∷ []))))
spelled_routine (function l n p c a s b e) =
    reserved_at reserved.Function l ∷ (name_at n ∷ (spelled_parameters p
    ++ (symbol_at symbol.Colon c ∷ (name_at a ∷ (symbol_at symbol.Semicolon s ∷ (spelled_block b ++ symbol_at symbol.Semicolon e ∷ []))))))

abbrev pub spelled_routines : List Routine → List Spot
spelled_routines [] = []
spelled_routines (r ∷ more) = spelled_routine r ++ spelled_routines more

-- [ PROGRAM name ";" ]
abbrev pub spelled_heading : Option Heading → List Spot
spelled_heading None = []
spelled_heading (Some h) =
    reserved_at reserved.Program h.line ∷ (name_at h.name ∷ (symbol_at symbol.Semicolon h.semicolon ∷ []))

-- program = [ PROGRAM name ";" ] consts vars { routine } body ".", and the end token
abbrev pub spelled : Program → List Spot
spelled p =
    spelled_heading p.heading ++ (spelled_consts p.consts ++ (spelled_vars p.vars ++ (spelled_routines p.routines
    ++ (spelled_body p.body ++ (symbol_at symbol.Period p.period ∷ (record { word = word.End; line = p.end } ∷ []))))))
