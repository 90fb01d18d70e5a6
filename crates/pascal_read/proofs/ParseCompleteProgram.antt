-- Each program's spelling is read to its end.
use Rattle.std.proofs.Common.{◌≡◌, ℕ, ◌≤◌, false, List, [], ◌∷◌, ◌++◌, Option, Some, None, refl, ap, ◌∙◌, append_assoc, arith}
use Rattle.pascal_tree.specs.Word.{Spot, NameAt}
use Rattle.pascal_tree.specs.Program.{Consts, Group, Vars, ParameterGroup, Parameters, Block, Routine, procedure, function, Program}
use Rattle.pascal_tree.specs.SpellExpression.{reserved_at, symbol_at, name_at}
use Rattle.pascal_tree.specs.SpellConstant.{spelled_constant}
use Rattle.pascal_tree.specs.SpellStatement.{spelled_body}
use Rattle.pascal_tree.specs.SpellProgram.{spelled, spelled_heading, spelled_definition, spelled_definitions, spelled_consts, spelled_more_names, spelled_kind, spelled_group, spelled_groups, spelled_vars, spelled_var, spelled_parameter_group, spelled_parameter_groups, spelled_parameters, spelled_block, spelled_routine, spelled_routines}
use Rattle.pascal_tree.specs.Limits.{BodyFits, RoutineFits, RoutinesFit, IsTree}
use Rattle.pascal_tree.proofs.UniqueProgram.{stage, first_stage, stage_body, stage_vars, stage_consts, stage_routines}
use Rattle.pascal_tree.specs.declared.token.Word.{Word}
use Rattle.pascal_tree.specs.declared.token.Word.TheVariants as word
use Rattle.pascal_tree.specs.declared.token.Reserved.TheVariants as reserved
use Rattle.pascal_tree.specs.declared.token.Symbol.TheVariants as symbol
use Rattle.pascal_tree.specs.declared.declaration.Definition.{Definition}
use Rattle.pascal_tree.specs.declared.declaration.Kind.{Kind}
use Rattle.pascal_tree.specs.declared.declaration.Kind.TheVariants as kinds
use Rattle.pascal_tree.specs.declared.declaration.Heading.{Heading}
use Rattle.pascal_read.specs.ParseFirst.{first_is, end_at}
use Rattle.pascal_read.specs.ParseWants.{Want, report, run, reserved_word, mark, is_reserved, is_symbol, is_name, parameter_group_rest, program_wants}
use Rattle.pascal_read.specs.ParseWants as want
use Rattle.pascal_read.proofs.ParseRows.{mark_goes, reserved_goes}
use Rattle.pascal_read.proofs.ParseStatementRows.{name_goes}
use Rattle.pascal_read.proofs.ParseDeclarationRows.{heading_goes, heading_skip, consts_goes, consts_skip, definition_is, more_definitions_goes, more_definitions_skip, kind_name, kind_array, vars_goes, vars_skip, group_is, more_groups_goes, more_groups_skip, more_names_goes, more_names_skip, parameters_goes, parameters_skip, parameter_group_var, parameter_group_is, more_parameters_goes, more_parameters_skip, end_goes, procedure_goes, function_goes, routines_skip}
use Rattle.pascal_read.proofs.ParseComplete.{at_wants}
use Rattle.pascal_read.proofs.ParseCompleteConstant.{read_constant}
use Rattle.pascal_read.proofs.ParseCompleteStatement.{read_body}

-- a part that begins later is no part that begins earlier
not_at-Program : (w : Word) → 2 ≤ stage w → is_reserved w reserved.Program ≡ false
not_at-Program (word.Reserved reserved.Program) h = absurd (omega arith)
not_at-Program (word.Reserved other) h = refl
not_at-Program other h = refl

not-Program : (r : List Spot) → 2 ≤ first_stage r → first_is (λ w. is_reserved w reserved.Program) r ≡ false
not-Program [] h = refl
not-Program (t ∷ r) h = not_at-Program t.word h

not_at-Const : (w : Word) → 3 ≤ stage w → is_reserved w reserved.Const ≡ false
not_at-Const (word.Reserved reserved.Const) h = absurd (omega arith)
not_at-Const (word.Reserved other) h = refl
not_at-Const other h = refl

not-Const : (r : List Spot) → 3 ≤ first_stage r → first_is (λ w. is_reserved w reserved.Const) r ≡ false
not-Const [] h = refl
not-Const (t ∷ r) h = not_at-Const t.word h

not_at-Var : (w : Word) → 4 ≤ stage w → is_reserved w reserved.Var ≡ false
not_at-Var (word.Reserved reserved.Var) h = absurd (omega arith)
not_at-Var (word.Reserved other) h = refl
not_at-Var other h = refl

not-Var : (r : List Spot) → 4 ≤ first_stage r → first_is (λ w. is_reserved w reserved.Var) r ≡ false
not-Var [] h = refl
not-Var (t ∷ r) h = not_at-Var t.word h

not_at-Procedure : (w : Word) → 5 ≤ stage w → is_reserved w reserved.Procedure ≡ false
not_at-Procedure (word.Reserved reserved.Procedure) h = absurd (omega arith)
not_at-Procedure (word.Reserved other) h = refl
not_at-Procedure other h = refl

not-Procedure : (r : List Spot) → 5 ≤ first_stage r → first_is (λ w. is_reserved w reserved.Procedure) r ≡ false
not-Procedure [] h = refl
not-Procedure (t ∷ r) h = not_at-Procedure t.word h

not_at-Function : (w : Word) → 5 ≤ stage w → is_reserved w reserved.Function ≡ false
not_at-Function (word.Reserved reserved.Function) h = absurd (omega arith)
not_at-Function (word.Reserved other) h = refl
not_at-Function other h = refl

not-Function : (r : List Spot) → 5 ≤ first_stage r → first_is (λ w. is_reserved w reserved.Function) r ≡ false
not-Function [] h = refl
not-Function (t ∷ r) h = not_at-Function t.word h

not_at-name : (w : Word) → 1 ≤ stage w → is_name w ≡ false
not_at-name (word.Name letters) h = absurd (omega arith)
not_at-name other h = refl

not-name : (r : List Spot) → 1 ≤ first_stage r → first_is is_name r ≡ false
not-name [] h = refl
not-name (t ∷ r) h = not_at-name t.word h

read_heading : (x : Option Heading) (r : List Spot) (y : Want) (rest : List Want) → 2 ≤ first_stage r → report (spelled_heading x ++ r) (want.heading ∷ (y ∷ rest)) ≡ report r (y ∷ rest)
read_heading None r y rest h = heading_skip r y rest (not-Program r h)
read_heading (Some x) r y rest h =
    heading_goes x.line (name_at x.name ∷ (symbol_at symbol.Semicolon x.semicolon ∷ r)) (y ∷ rest)
    ∙ name_goes x.name (symbol_at symbol.Semicolon x.semicolon ∷ r) (mark symbol.Semicolon ∷ (y ∷ rest))
    ∙ mark_goes symbol.Semicolon x.semicolon r (y ∷ rest)

-- a definition behind its name
read_definition : (x : Definition) (r : List Spot) (rest : List Want) →
    report (symbol_at symbol.Equal x.equal ∷ ((spelled_constant x.value ++ symbol_at symbol.Semicolon x.semicolon ∷ []) ++ r)) (mark symbol.Equal ∷ (want.constant ∷ (mark symbol.Semicolon ∷ rest))) ≡ report r rest
read_definition x r rest =
    mark_goes symbol.Equal x.equal ((spelled_constant x.value ++ symbol_at symbol.Semicolon x.semicolon ∷ []) ++ r) (want.constant ∷ (mark symbol.Semicolon ∷ rest))
    ∙ at_wants (want.constant ∷ (mark symbol.Semicolon ∷ rest)) (append_assoc (spelled_constant x.value) (symbol_at symbol.Semicolon x.semicolon ∷ []) r)
    ∙ read_constant x.value (symbol_at symbol.Semicolon x.semicolon ∷ r) (mark symbol.Semicolon ∷ rest)
    ∙ mark_goes symbol.Semicolon x.semicolon r rest

read_definitions : (xs : List Definition) (r : List Spot) (y : Want) (rest : List Want) → 1 ≤ first_stage r → report (spelled_definitions xs ++ r) (want.more_definitions ∷ (y ∷ rest)) ≡ report r (y ∷ rest)
read_definitions [] r y rest h = more_definitions_skip r y rest (not-name r h)
read_definitions (x ∷ xs) r y rest h =
    let tail : List Spot = spelled_definitions xs ++ r in
    at_wants (want.more_definitions ∷ (y ∷ rest)) (append_assoc (spelled_definition x) (spelled_definitions xs) r)
    ∙ more_definitions_goes x.name (symbol_at symbol.Equal x.equal ∷ ((spelled_constant x.value ++ symbol_at symbol.Semicolon x.semicolon ∷ []) ++ tail)) (y ∷ rest)
    ∙ read_definition x tail (want.more_definitions ∷ (y ∷ rest))
    ∙ read_definitions xs r y rest h

read_consts : (x : Option Consts) (r : List Spot) (y : Want) (rest : List Want) → 3 ≤ first_stage r → report (spelled_consts x ++ r) (want.consts ∷ (y ∷ rest)) ≡ report r (y ∷ rest)
read_consts None r y rest h = consts_skip r y rest (not-Const r h)
read_consts (Some x) r y rest h =
    let d = x.first in
    let tail : List Spot = spelled_definitions x.rest ++ r in
    let inside : List Spot = symbol_at symbol.Equal d.equal ∷ ((spelled_constant d.value ++ symbol_at symbol.Semicolon d.semicolon ∷ []) ++ tail) in
    consts_goes x.line ((spelled_definition d ++ spelled_definitions x.rest) ++ r) (y ∷ rest)
    ∙ at_wants (want.definition ∷ (want.more_definitions ∷ (y ∷ rest))) (append_assoc (spelled_definition d) (spelled_definitions x.rest) r)
    ∙ definition_is (name_at d.name ∷ inside) (want.more_definitions ∷ (y ∷ rest))
    ∙ name_goes d.name inside (mark symbol.Equal ∷ (want.constant ∷ (mark symbol.Semicolon ∷ (want.more_definitions ∷ (y ∷ rest)))))
    ∙ read_definition d tail (want.more_definitions ∷ (y ∷ rest))
    ∙ read_definitions x.rest r y rest (omega arith)

read_names : (xs : List (ℕ × NameAt)) (c : ℕ) (r : List Spot) (rest : List Want) → report (spelled_more_names xs ++ (symbol_at symbol.Colon c ∷ r)) (want.more_names ∷ (mark symbol.Colon ∷ rest)) ≡ report r rest
read_names [] c r rest = more_names_skip (symbol_at symbol.Colon c ∷ r) (mark symbol.Colon) rest refl ∙ mark_goes symbol.Colon c r rest
read_names (x ∷ xs) c r rest =
    let tail : List Spot = spelled_more_names xs ++ (symbol_at symbol.Colon c ∷ r) in
    more_names_goes x.0 (name_at x.1 ∷ tail) (mark symbol.Colon ∷ rest)
    ∙ name_goes x.1 tail (want.more_names ∷ (mark symbol.Colon ∷ rest))
    ∙ read_names xs c r rest

read_kind : (x : Kind) (r : List Spot) (rest : List Want) → report (spelled_kind x ++ r) (want.kind ∷ rest) ≡ report r rest
read_kind (kinds.Name x) r rest = kind_name x r rest
read_kind (kinds.Array l o a u b c f n) r rest =
    let t3 : List Spot = symbol_at symbol.CloseIndex c ∷ (reserved_at reserved.Of f ∷ (name_at n ∷ [])) in
    let t2 : List Spot = symbol_at symbol.UpTo u ∷ (spelled_constant b ++ t3) in
    let k3 : List Want = mark symbol.CloseIndex ∷ (reserved_word reserved.Of ∷ (want.name ∷ rest)) in
    let k2 : List Want = mark symbol.UpTo ∷ (want.constant ∷ k3) in
    kind_array l (symbol_at symbol.OpenIndex o ∷ ((spelled_constant a ++ t2) ++ r)) rest
    ∙ mark_goes symbol.OpenIndex o ((spelled_constant a ++ t2) ++ r) (want.constant ∷ k2)
    ∙ at_wants (want.constant ∷ k2) (append_assoc (spelled_constant a) t2 r)
    ∙ read_constant a (t2 ++ r) k2
    ∙ mark_goes symbol.UpTo u ((spelled_constant b ++ t3) ++ r) (want.constant ∷ k3)
    ∙ at_wants (want.constant ∷ k3) (append_assoc (spelled_constant b) t3 r)
    ∙ read_constant b (t3 ++ r) k3
    ∙ mark_goes symbol.CloseIndex c (reserved_at reserved.Of f ∷ (name_at n ∷ r)) (reserved_word reserved.Of ∷ (want.name ∷ rest))
    ∙ reserved_goes reserved.Of f (name_at n ∷ r) (want.name ∷ rest)
    ∙ name_goes n r rest

-- a group behind its first name
read_group : (x : Group) (r : List Spot) (rest : List Want) →
    report ((spelled_more_names (x.names).rest ++ (symbol_at symbol.Colon x.colon ∷ (spelled_kind x.kind ++ symbol_at symbol.Semicolon x.semicolon ∷ []))) ++ r) (want.more_names ∷ (mark symbol.Colon ∷ (want.kind ∷ (mark symbol.Semicolon ∷ rest)))) ≡ report r rest
read_group x r rest =
    let t : List Spot = spelled_kind x.kind ++ symbol_at symbol.Semicolon x.semicolon ∷ [] in
    let k : List Want = want.kind ∷ (mark symbol.Semicolon ∷ rest) in
    at_wants (want.more_names ∷ (mark symbol.Colon ∷ k)) (append_assoc (spelled_more_names (x.names).rest) (symbol_at symbol.Colon x.colon ∷ t) r)
    ∙ read_names (x.names).rest x.colon (t ++ r) k
    ∙ at_wants k (append_assoc (spelled_kind x.kind) (symbol_at symbol.Semicolon x.semicolon ∷ []) r)
    ∙ read_kind x.kind (symbol_at symbol.Semicolon x.semicolon ∷ r) (mark symbol.Semicolon ∷ rest)
    ∙ mark_goes symbol.Semicolon x.semicolon r rest

read_groups : (xs : List Group) (r : List Spot) (y : Want) (rest : List Want) → 1 ≤ first_stage r → report (spelled_groups xs ++ r) (want.more_groups ∷ (y ∷ rest)) ≡ report r (y ∷ rest)
read_groups [] r y rest h = more_groups_skip r y rest (not-name r h)
read_groups (x ∷ xs) r y rest h =
    let tail : List Spot = spelled_groups xs ++ r in
    let t : List Spot = spelled_more_names (x.names).rest ++ (symbol_at symbol.Colon x.colon ∷ (spelled_kind x.kind ++ symbol_at symbol.Semicolon x.semicolon ∷ [])) in
    at_wants (want.more_groups ∷ (y ∷ rest)) (append_assoc (spelled_group x) (spelled_groups xs) r)
    ∙ more_groups_goes (x.names).first (t ++ tail) (y ∷ rest)
    ∙ read_group x tail (want.more_groups ∷ (y ∷ rest))
    ∙ read_groups xs r y rest h

read_vars : (x : Option Vars) (r : List Spot) (y : Want) (rest : List Want) → 4 ≤ first_stage r → report (spelled_vars x ++ r) (want.vars ∷ (y ∷ rest)) ≡ report r (y ∷ rest)
read_vars None r y rest h = vars_skip r y rest (not-Var r h)
read_vars (Some x) r y rest h =
    let g = x.first in
    let tail : List Spot = spelled_groups x.rest ++ r in
    let t : List Spot = spelled_more_names (g.names).rest ++ (symbol_at symbol.Colon g.colon ∷ (spelled_kind g.kind ++ symbol_at symbol.Semicolon g.semicolon ∷ [])) in
    let k : List Want = want.more_groups ∷ (y ∷ rest) in
    vars_goes x.line ((spelled_group g ++ spelled_groups x.rest) ++ r) (y ∷ rest)
    ∙ at_wants (want.group ∷ k) (append_assoc (spelled_group g) (spelled_groups x.rest) r)
    ∙ group_is (name_at (g.names).first ∷ (t ++ tail)) k
    ∙ name_goes (g.names).first (t ++ tail) (want.more_names ∷ (mark symbol.Colon ∷ (want.kind ∷ (mark symbol.Semicolon ∷ k))))
    ∙ read_group g tail k
    ∙ read_groups x.rest r y rest (omega arith)

-- VAR, where it stands there, and the first name
read_var : (x : Option ℕ) (n : NameAt) (r : List Spot) (rest : List Want) →
    report (spelled_var x ++ (name_at n ∷ r)) (want.parameter_group ∷ rest) ≡ report r (parameter_group_rest ++ rest)
read_var None n r rest = parameter_group_is (name_at n ∷ r) rest refl ∙ name_goes n r (parameter_group_rest ++ rest)
read_var (Some l) n r rest = parameter_group_var l (name_at n ∷ r) rest ∙ name_goes n r (parameter_group_rest ++ rest)

read_parameter_group : (x : ParameterGroup) (r : List Spot) (rest : List Want) → report (spelled_parameter_group x ++ r) (want.parameter_group ∷ rest) ≡ report r rest
read_parameter_group x r rest =
    let t : List Spot = symbol_at symbol.Colon x.colon ∷ (name_at x.kind ∷ []) in
    let inside : List Spot = spelled_more_names (x.names).rest ++ t in
    let k : List Want = want.more_names ∷ (mark symbol.Colon ∷ (want.name ∷ rest)) in
    at_wants (want.parameter_group ∷ rest) (append_assoc (spelled_var x.var) (name_at (x.names).first ∷ inside) r)
    ∙ read_var x.var (x.names).first (inside ++ r) rest
    ∙ at_wants k (append_assoc (spelled_more_names (x.names).rest) t r)
    ∙ read_names (x.names).rest x.colon (name_at x.kind ∷ r) (want.name ∷ rest)
    ∙ name_goes x.kind r rest

read_parameter_groups : (xs : List (ℕ × ParameterGroup)) (c : ℕ) (r : List Spot) (rest : List Want) →
    report (spelled_parameter_groups xs ++ (symbol_at symbol.Close c ∷ r)) (want.more_parameters ∷ (mark symbol.Close ∷ rest)) ≡ report r rest
read_parameter_groups [] c r rest = more_parameters_skip (symbol_at symbol.Close c ∷ r) (mark symbol.Close) rest refl ∙ mark_goes symbol.Close c r rest
read_parameter_groups (x ∷ xs) c r rest =
    let tail : List Spot = symbol_at symbol.Close c ∷ r in
    let k : List Want = want.more_parameters ∷ (mark symbol.Close ∷ rest) in
    more_parameters_goes x.0 ((spelled_parameter_group x.1 ++ spelled_parameter_groups xs) ++ tail) (mark symbol.Close ∷ rest)
    ∙ at_wants (want.parameter_group ∷ k) (append_assoc (spelled_parameter_group x.1) (spelled_parameter_groups xs) tail)
    ∙ read_parameter_group x.1 (spelled_parameter_groups xs ++ tail) k
    ∙ read_parameter_groups xs c r rest

read_parameters : (x : Option Parameters) (r : List Spot) (y : Want) (rest : List Want) → first_is (λ w. is_symbol w symbol.Open) r ≡ false → report (spelled_parameters x ++ r) (want.parameters ∷ (y ∷ rest)) ≡ report r (y ∷ rest)
read_parameters None r y rest h = parameters_skip r y rest h
read_parameters (Some x) r y rest h =
    let c : List Spot = symbol_at symbol.Close x.closing ∷ [] in
    let k : List Want = want.more_parameters ∷ (mark symbol.Close ∷ (y ∷ rest)) in
    parameters_goes x.opening ((spelled_parameter_group x.first ++ (spelled_parameter_groups x.rest ++ c)) ++ r) (y ∷ rest)
    ∙ at_wants (want.parameter_group ∷ k) (append_assoc (spelled_parameter_group x.first) (spelled_parameter_groups x.rest ++ c) r ∙ ap (λ s. spelled_parameter_group x.first ++ s) (append_assoc (spelled_parameter_groups x.rest) c r))
    ∙ read_parameter_group x.first (spelled_parameter_groups x.rest ++ (symbol_at symbol.Close x.closing ∷ r)) k
    ∙ read_parameter_groups x.rest x.closing r (y ∷ rest)

read_block : (x : Block) (z : ℕ) (r : List Spot) (rest : List Want) → BodyFits x.body 64 →
    report ((spelled_block x ++ symbol_at symbol.Semicolon z ∷ []) ++ r) (want.consts ∷ (want.vars ∷ (want.body ∷ (mark symbol.Semicolon ∷ rest)))) ≡ report r rest
read_block x z r rest f =
    let s : List Spot = symbol_at symbol.Semicolon z ∷ r in
    let b : List Spot = spelled_body x.body ++ s in
    let v : List Spot = spelled_vars x.vars ++ b in
    let k : List Want = want.consts ∷ (want.vars ∷ (want.body ∷ (mark symbol.Semicolon ∷ rest))) in
    let fifth : first_stage b ≡ 5 = stage_body x.body s in
    at_wants k (append_assoc (spelled_block x) (symbol_at symbol.Semicolon z ∷ []) r)
    ∙ at_wants k (append_assoc (spelled_consts x.consts) (spelled_vars x.vars ++ spelled_body x.body) s ∙ ap (λ u. spelled_consts x.consts ++ u) (append_assoc (spelled_vars x.vars) (spelled_body x.body) s))
    ∙ read_consts x.consts v want.vars (want.body ∷ (mark symbol.Semicolon ∷ rest)) (stage_vars x.vars b (omega arith))
    ∙ read_vars x.vars b want.body (mark symbol.Semicolon ∷ rest) (omega arith)
    ∙ read_body x.body s (mark symbol.Semicolon) rest f
    ∙ mark_goes symbol.Semicolon z r rest

read_routine : (x : Routine) (r : List Spot) (rest : List Want) → RoutineFits x → report (spelled_routine x ++ r) (want.routines ∷ rest) ≡ report r (want.routines ∷ rest)
read_routine (procedure l n p c b z) r rest f =
    let inside : List Spot = spelled_block b ++ symbol_at symbol.Semicolon z ∷ [] in
    let k : List Want = want.consts ∷ (want.vars ∷ (want.body ∷ (mark symbol.Semicolon ∷ (want.routines ∷ rest)))) in
    let t : List Spot = symbol_at symbol.Semicolon c ∷ inside in
    procedure_goes l (name_at n ∷ ((spelled_parameters p ++ t) ++ r)) rest
    ∙ name_goes n ((spelled_parameters p ++ t) ++ r) (want.parameters ∷ (mark symbol.Semicolon ∷ k))
    ∙ at_wants (want.parameters ∷ (mark symbol.Semicolon ∷ k)) (append_assoc (spelled_parameters p) t r)
    ∙ read_parameters p (t ++ r) (mark symbol.Semicolon) k refl
    ∙ mark_goes symbol.Semicolon c (inside ++ r) k
    ∙ read_block b z r (want.routines ∷ rest) f
read_routine (function l n p k0 w c b z) r rest f =
    let inside : List Spot = spelled_block b ++ symbol_at symbol.Semicolon z ∷ [] in
    let k : List Want = want.consts ∷ (want.vars ∷ (want.body ∷ (mark symbol.Semicolon ∷ (want.routines ∷ rest)))) in
    let t : List Spot = symbol_at symbol.Colon k0 ∷ (name_at w ∷ (symbol_at symbol.Semicolon c ∷ inside)) in
    let j : List Want = mark symbol.Colon ∷ (want.name ∷ (mark symbol.Semicolon ∷ k)) in
    function_goes l (name_at n ∷ ((spelled_parameters p ++ t) ++ r)) rest
    ∙ name_goes n ((spelled_parameters p ++ t) ++ r) (want.parameters ∷ j)
    ∙ at_wants (want.parameters ∷ j) (append_assoc (spelled_parameters p) t r)
    ∙ read_parameters p (t ++ r) (mark symbol.Colon) (want.name ∷ (mark symbol.Semicolon ∷ k)) refl
    ∙ mark_goes symbol.Colon k0 (name_at w ∷ (symbol_at symbol.Semicolon c ∷ (inside ++ r))) (want.name ∷ (mark symbol.Semicolon ∷ k))
    ∙ name_goes w (symbol_at symbol.Semicolon c ∷ (inside ++ r)) (mark symbol.Semicolon ∷ k)
    ∙ mark_goes symbol.Semicolon c (inside ++ r) k
    ∙ read_block b z r (want.routines ∷ rest) f

read_routines : (xs : List Routine) (r : List Spot) (y : Want) (rest : List Want) → RoutinesFit xs → 5 ≤ first_stage r → report (spelled_routines xs ++ r) (want.routines ∷ (y ∷ rest)) ≡ report r (y ∷ rest)
read_routines [] r y rest f h = routines_skip r y rest (not-Procedure r h) (not-Function r h)
read_routines (x ∷ xs) r y rest f h =
    at_wants (want.routines ∷ (y ∷ rest)) (append_assoc (spelled_routine x) (spelled_routines xs) r)
    ∙ read_routine x (spelled_routines xs ++ r) (y ∷ rest) f.0
    ∙ read_routines xs r y rest f.1 h

-- Over the spelling of a tree the reader comes to the period and the end token.
pub read_program : (x : Program) → IsTree x →
    report (spelled x) program_wants ≡ report (symbol_at symbol.Period x.period ∷ (end_at x.end ∷ [])) (mark symbol.Period ∷ (want.end ∷ []))
read_program x f =
    let e : List Spot = symbol_at symbol.Period x.period ∷ (end_at x.end ∷ []) in
    let b : List Spot = spelled_body x.body ++ e in
    let r : List Spot = spelled_routines x.routines ++ b in
    let v : List Spot = spelled_vars x.vars ++ r in
    let c : List Spot = spelled_consts x.consts ++ v in
    let fifth : first_stage b ≡ 5 = stage_body x.body e in
    let fourth : 4 ≤ first_stage r = stage_routines x.routines b fifth in
    let third : 3 ≤ first_stage v = stage_vars x.vars r fourth in
    let last : List Want = mark symbol.Period ∷ (want.end ∷ []) in
    read_heading x.heading c want.consts (want.vars ∷ (want.routines ∷ (want.body ∷ last))) (stage_consts x.consts v third)
    ∙ read_consts x.consts v want.vars (want.routines ∷ (want.body ∷ last)) third
    ∙ read_vars x.vars r want.routines (want.body ∷ last) fourth
    ∙ read_routines x.routines b want.body last f.routines (omega arith)
    ∙ read_body x.body e (mark symbol.Period) (want.end ∷ []) f.body

at_the_end : (p e : ℕ) → report (symbol_at symbol.Period p ∷ (end_at e ∷ [])) (mark symbol.Period ∷ (want.end ∷ [])) ≡ None
unfolding report run
at_the_end p e = mark_goes symbol.Period p (end_at e ∷ []) (want.end ∷ []) ∙ end_goes e [] [] ∙ refl

pub each_is_read : (x : Program) → IsTree x → report (spelled x) program_wants ≡ None
each_is_read x f = read_program x f ∙ at_the_end x.period x.end
