-- The program that a value of the code stands for.
use Rattle.std.specs.Prelude.{map, option_map}
use Rattle.pascal_tree.specs.Program.{Names, Consts, Group, Vars, ParameterGroup, Parameters, Block, Routine, procedure, function, Program}
use Rattle.pascal_tree.specs.SeenStatement.{seen_body}
use Rattle.pascal_tree.specs.declared.declaration.Names as names
use Rattle.pascal_tree.specs.declared.declaration.Consts as consts
use Rattle.pascal_tree.specs.declared.declaration.Group as groups
use Rattle.pascal_tree.specs.declared.declaration.Vars as vars
use Rattle.pascal_tree.specs.declared.declaration.ParameterGroup as parameter_groups
use Rattle.pascal_tree.specs.declared.declaration.Parameters as parameters
use Rattle.pascal_tree.specs.declared.declaration.Block as blocks
use Rattle.pascal_tree.specs.declared.declaration.Routine as routines
use Rattle.pascal_tree.specs.declared.declaration.Routine.TheVariants as routine
use Rattle.pascal_tree.specs.declared.declaration.Program as programs

abbrev pub seen_names : names.Names → Names
seen_names n = record { first = n.first; rest = (n.rest).items }

abbrev pub seen_consts : consts.Consts → Consts
seen_consts c = record { line = c.line; first = c.first; rest = (c.rest).items }

abbrev pub seen_group : groups.Group → Group
seen_group g = record { names = seen_names g.names; colon = g.colon; kind = g.kind; semicolon = g.semicolon }

abbrev pub seen_vars : vars.Vars → Vars
seen_vars v = record { line = v.line; first = seen_group v.first; rest = map seen_group (v.rest).items }

abbrev pub seen_parameter_group : parameter_groups.ParameterGroup → ParameterGroup
seen_parameter_group g = record { var = g.var; names = seen_names g.names; colon = g.colon; kind = g.kind }

abbrev pub seen_parameters : parameters.Parameters → Parameters
seen_parameters p =
    record { opening = p.opening; first = seen_parameter_group p.first; rest = map (λ g. (g.0, seen_parameter_group g.1)) (p.rest).items; closing = p.closing }

abbrev pub seen_block : blocks.Block → Block
seen_block b =
    record { consts = option_map seen_consts b.consts; vars = option_map seen_vars b.vars; body = seen_body b.body }

abbrev pub seen_routine : routines.Routine → Routine
seen_routine (routine.Procedure l n p s b e) = procedure l n (option_map seen_parameters p) s (seen_block b) e
seen_routine (routine.Function l n p c a s b e) = function l n (option_map seen_parameters p) c a s (seen_block b) e

abbrev pub seen_program : programs.Program → Program
seen_program p =
    record { heading = p.heading; consts = option_map seen_consts p.consts; vars = option_map seen_vars p.vars; routines = map seen_routine (p.routines).items; body = seen_body p.body; period = p.period; end = p.end }
