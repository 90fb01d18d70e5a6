-- What one word makes of a declaration that is wanted, a lemma for each way to go on.
use Rattle.std.proofs.Common.{◌≡◌, ℕ, Bool, true, false, List, [], ◌∷◌, ◌++◌, Some, refl, sym, ◌∙◌}
use Rattle.pascal_tree.specs.Word.{Spot, NameAt, NumberAt, CharacterAt}
use Rattle.pascal_tree.specs.SpellExpression.{reserved_at, symbol_at, name_at, number_at, character_at}
use Rattle.pascal_tree.specs.declared.token.Reserved.TheVariants as reserved
use Rattle.pascal_tree.specs.declared.token.Symbol.TheVariants as symbol
use Rattle.pascal_read.specs.ParseFirst.{first_line, first_is, end_at}
use Rattle.pascal_read.specs.ParseWants.{Want, report, reserved_word, mark, is_reserved, is_symbol, is_name, is_number, is_character, is_end, parameter_group_rest}
use Rattle.pascal_read.specs.ParseWants as want
use Rattle.pascal_read.proofs.ParseRows.{taken, skipped, refused, at_end, mark_goes, mark_stuck, reserved_goes, reserved_stuck}
use Rattle.pascal_read.proofs.ParseStatementRows.{name_goes, name_stuck, body_goes, body_stuck}

pub heading_goes : (l : ℕ) (ts : List Spot) (rest : List Want) → report (reserved_at reserved.Program l ∷ ts) (want.heading ∷ rest) ≡ report ts (want.name ∷ (mark symbol.Semicolon ∷ rest))
heading_goes l ts rest = taken (reserved_at reserved.Program l) ts want.heading (want.name ∷ (mark symbol.Semicolon ∷ [])) rest refl

pub heading_skip : (before : List Spot) (y : Want) (rest : List Want) → first_is (λ w. is_reserved w reserved.Program) before ≡ false → report before (want.heading ∷ (y ∷ rest)) ≡ report before (y ∷ rest)
heading_skip [] y rest a = at_end want.heading (y ∷ rest) ∙ sym (at_end y rest)
heading_skip (t ∷ ts) y rest a = skipped t ts want.heading y rest (rw (a))

pub constant_name : (x : NameAt) (ts : List Spot) (rest : List Want) → report (name_at x ∷ ts) (want.constant ∷ rest) ≡ report ts rest
constant_name x ts rest = taken (name_at x) ts want.constant [] rest refl

pub constant_number : (x : NumberAt) (ts : List Spot) (rest : List Want) → report (number_at x ∷ ts) (want.constant ∷ rest) ≡ report ts rest
constant_number x ts rest = taken (number_at x) ts want.constant [] rest refl

pub constant_character : (x : CharacterAt) (ts : List Spot) (rest : List Want) → report (character_at x ∷ ts) (want.constant ∷ rest) ≡ report ts rest
constant_character x ts rest = taken (character_at x) ts want.constant [] rest refl

pub constant_minus : (l : ℕ) (ts : List Spot) (rest : List Want) → report (symbol_at symbol.Minus l ∷ ts) (want.constant ∷ rest) ≡ report ts (want.number ∷ rest)
constant_minus l ts rest = taken (symbol_at symbol.Minus l) ts want.constant (want.number ∷ []) rest refl

pub constant_stuck : (before : List Spot) (rest : List Want) → first_is is_name before ≡ false → first_is is_number before ≡ false → first_is (λ w. is_symbol w symbol.Minus) before ≡ false → first_is is_character before ≡ false → report before (want.constant ∷ rest) ≡ Some (first_line before)
constant_stuck [] rest a b c d = at_end want.constant rest
constant_stuck (t ∷ ts) rest a b c d = refused t ts want.constant rest (rw (a, b, c, d))

pub number_goes : (x : NumberAt) (ts : List Spot) (rest : List Want) → report (number_at x ∷ ts) (want.number ∷ rest) ≡ report ts rest
number_goes x ts rest = taken (number_at x) ts want.number [] rest refl

pub end_goes : (l : ℕ) (ts : List Spot) (rest : List Want) → report (end_at l ∷ ts) (want.end ∷ rest) ≡ report ts rest
end_goes l ts rest = taken (end_at l) ts want.end [] rest refl

pub number_stuck : (before : List Spot) (rest : List Want) → first_is is_number before ≡ false → report before (want.number ∷ rest) ≡ Some (first_line before)
number_stuck [] rest a = at_end want.number rest
number_stuck (t ∷ ts) rest a = refused t ts want.number rest (rw (a))

pub end_stuck : (before : List Spot) (rest : List Want) → first_is is_end before ≡ false → report before (want.end ∷ rest) ≡ Some (first_line before)
end_stuck [] rest a = at_end want.end rest
end_stuck (t ∷ ts) rest a = refused t ts want.end rest (rw (a))

pub consts_goes : (l : ℕ) (ts : List Spot) (rest : List Want) → report (reserved_at reserved.Const l ∷ ts) (want.consts ∷ rest) ≡ report ts (want.definition ∷ (want.more_definitions ∷ rest))
consts_goes l ts rest = taken (reserved_at reserved.Const l) ts want.consts (want.definition ∷ (want.more_definitions ∷ [])) rest refl

pub consts_skip : (before : List Spot) (y : Want) (rest : List Want) → first_is (λ w. is_reserved w reserved.Const) before ≡ false → report before (want.consts ∷ (y ∷ rest)) ≡ report before (y ∷ rest)
consts_skip [] y rest a = at_end want.consts (y ∷ rest) ∙ sym (at_end y rest)
consts_skip (t ∷ ts) y rest a = skipped t ts want.consts y rest (rw (a))

definition_is-word : (b : Bool) (t : Spot) (ts : List Spot) (rest : List Want) → is_name t.word ≡ b → report (t ∷ ts) (want.definition ∷ rest) ≡ report (t ∷ ts) (want.name ∷ (mark symbol.Equal ∷ (want.constant ∷ (mark symbol.Semicolon ∷ rest))))
definition_is-word true t ts rest e = taken t ts want.definition (mark symbol.Equal ∷ (want.constant ∷ (mark symbol.Semicolon ∷ []))) rest (rw e) ∙ sym (taken t ts want.name [] (mark symbol.Equal ∷ (want.constant ∷ (mark symbol.Semicolon ∷ rest))) (rw e))
definition_is-word false t ts rest e = refused t ts want.definition rest (rw e) ∙ sym (refused t ts want.name (mark symbol.Equal ∷ (want.constant ∷ (mark symbol.Semicolon ∷ rest))) (rw e))

pub definition_is : (before : List Spot) (rest : List Want) → report before (want.definition ∷ rest) ≡ report before (want.name ∷ (mark symbol.Equal ∷ (want.constant ∷ (mark symbol.Semicolon ∷ rest))))
definition_is [] rest = at_end want.definition rest ∙ sym (at_end want.name (mark symbol.Equal ∷ (want.constant ∷ (mark symbol.Semicolon ∷ rest))))
definition_is (t ∷ ts) rest = definition_is-word (is_name t.word) t ts rest refl

pub more_definitions_goes : (x : NameAt) (ts : List Spot) (rest : List Want) → report (name_at x ∷ ts) (want.more_definitions ∷ rest) ≡ report ts (mark symbol.Equal ∷ (want.constant ∷ (mark symbol.Semicolon ∷ (want.more_definitions ∷ rest))))
more_definitions_goes x ts rest = taken (name_at x) ts want.more_definitions (mark symbol.Equal ∷ (want.constant ∷ (mark symbol.Semicolon ∷ (want.more_definitions ∷ [])))) rest refl

pub more_definitions_skip : (before : List Spot) (y : Want) (rest : List Want) → first_is is_name before ≡ false → report before (want.more_definitions ∷ (y ∷ rest)) ≡ report before (y ∷ rest)
more_definitions_skip [] y rest a = at_end want.more_definitions (y ∷ rest) ∙ sym (at_end y rest)
more_definitions_skip (t ∷ ts) y rest a = skipped t ts want.more_definitions y rest (rw (a))

pub kind_name : (x : NameAt) (ts : List Spot) (rest : List Want) → report (name_at x ∷ ts) (want.kind ∷ rest) ≡ report ts rest
kind_name x ts rest = taken (name_at x) ts want.kind [] rest refl

pub kind_array : (l : ℕ) (ts : List Spot) (rest : List Want) → report (reserved_at reserved.Array l ∷ ts) (want.kind ∷ rest) ≡ report ts (mark symbol.OpenIndex ∷ (want.constant ∷ (mark symbol.UpTo ∷ (want.constant ∷ (mark symbol.CloseIndex ∷ (reserved_word reserved.Of ∷ (want.name ∷ rest)))))))
kind_array l ts rest = taken (reserved_at reserved.Array l) ts want.kind (mark symbol.OpenIndex ∷ (want.constant ∷ (mark symbol.UpTo ∷ (want.constant ∷ (mark symbol.CloseIndex ∷ (reserved_word reserved.Of ∷ (want.name ∷ []))))))) rest refl

pub kind_stuck : (before : List Spot) (rest : List Want) → first_is is_name before ≡ false → first_is (λ w. is_reserved w reserved.Array) before ≡ false → report before (want.kind ∷ rest) ≡ Some (first_line before)
kind_stuck [] rest a b = at_end want.kind rest
kind_stuck (t ∷ ts) rest a b = refused t ts want.kind rest (rw (a, b))

pub vars_goes : (l : ℕ) (ts : List Spot) (rest : List Want) → report (reserved_at reserved.Var l ∷ ts) (want.vars ∷ rest) ≡ report ts (want.group ∷ (want.more_groups ∷ rest))
vars_goes l ts rest = taken (reserved_at reserved.Var l) ts want.vars (want.group ∷ (want.more_groups ∷ [])) rest refl

pub vars_skip : (before : List Spot) (y : Want) (rest : List Want) → first_is (λ w. is_reserved w reserved.Var) before ≡ false → report before (want.vars ∷ (y ∷ rest)) ≡ report before (y ∷ rest)
vars_skip [] y rest a = at_end want.vars (y ∷ rest) ∙ sym (at_end y rest)
vars_skip (t ∷ ts) y rest a = skipped t ts want.vars y rest (rw (a))

group_is-word : (b : Bool) (t : Spot) (ts : List Spot) (rest : List Want) → is_name t.word ≡ b → report (t ∷ ts) (want.group ∷ rest) ≡ report (t ∷ ts) (want.name ∷ (want.more_names ∷ (mark symbol.Colon ∷ (want.kind ∷ (mark symbol.Semicolon ∷ rest)))))
group_is-word true t ts rest e = taken t ts want.group (want.more_names ∷ (mark symbol.Colon ∷ (want.kind ∷ (mark symbol.Semicolon ∷ [])))) rest (rw e) ∙ sym (taken t ts want.name [] (want.more_names ∷ (mark symbol.Colon ∷ (want.kind ∷ (mark symbol.Semicolon ∷ rest)))) (rw e))
group_is-word false t ts rest e = refused t ts want.group rest (rw e) ∙ sym (refused t ts want.name (want.more_names ∷ (mark symbol.Colon ∷ (want.kind ∷ (mark symbol.Semicolon ∷ rest)))) (rw e))

pub group_is : (before : List Spot) (rest : List Want) → report before (want.group ∷ rest) ≡ report before (want.name ∷ (want.more_names ∷ (mark symbol.Colon ∷ (want.kind ∷ (mark symbol.Semicolon ∷ rest)))))
group_is [] rest = at_end want.group rest ∙ sym (at_end want.name (want.more_names ∷ (mark symbol.Colon ∷ (want.kind ∷ (mark symbol.Semicolon ∷ rest)))))
group_is (t ∷ ts) rest = group_is-word (is_name t.word) t ts rest refl

pub more_groups_goes : (x : NameAt) (ts : List Spot) (rest : List Want) → report (name_at x ∷ ts) (want.more_groups ∷ rest) ≡ report ts (want.more_names ∷ (mark symbol.Colon ∷ (want.kind ∷ (mark symbol.Semicolon ∷ (want.more_groups ∷ rest)))))
more_groups_goes x ts rest = taken (name_at x) ts want.more_groups (want.more_names ∷ (mark symbol.Colon ∷ (want.kind ∷ (mark symbol.Semicolon ∷ (want.more_groups ∷ []))))) rest refl

pub more_groups_skip : (before : List Spot) (y : Want) (rest : List Want) → first_is is_name before ≡ false → report before (want.more_groups ∷ (y ∷ rest)) ≡ report before (y ∷ rest)
more_groups_skip [] y rest a = at_end want.more_groups (y ∷ rest) ∙ sym (at_end y rest)
more_groups_skip (t ∷ ts) y rest a = skipped t ts want.more_groups y rest (rw (a))

pub more_names_goes : (l : ℕ) (ts : List Spot) (rest : List Want) → report (symbol_at symbol.Comma l ∷ ts) (want.more_names ∷ rest) ≡ report ts (want.name ∷ (want.more_names ∷ rest))
more_names_goes l ts rest = taken (symbol_at symbol.Comma l) ts want.more_names (want.name ∷ (want.more_names ∷ [])) rest refl

pub more_names_skip : (before : List Spot) (y : Want) (rest : List Want) → first_is (λ w. is_symbol w symbol.Comma) before ≡ false → report before (want.more_names ∷ (y ∷ rest)) ≡ report before (y ∷ rest)
more_names_skip [] y rest a = at_end want.more_names (y ∷ rest) ∙ sym (at_end y rest)
more_names_skip (t ∷ ts) y rest a = skipped t ts want.more_names y rest (rw (a))

pub parameters_goes : (l : ℕ) (ts : List Spot) (rest : List Want) → report (symbol_at symbol.Open l ∷ ts) (want.parameters ∷ rest) ≡ report ts (want.parameter_group ∷ (want.more_parameters ∷ (mark symbol.Close ∷ rest)))
parameters_goes l ts rest = taken (symbol_at symbol.Open l) ts want.parameters (want.parameter_group ∷ (want.more_parameters ∷ (mark symbol.Close ∷ []))) rest refl

pub parameters_skip : (before : List Spot) (y : Want) (rest : List Want) → first_is (λ w. is_symbol w symbol.Open) before ≡ false → report before (want.parameters ∷ (y ∷ rest)) ≡ report before (y ∷ rest)
parameters_skip [] y rest a = at_end want.parameters (y ∷ rest) ∙ sym (at_end y rest)
parameters_skip (t ∷ ts) y rest a = skipped t ts want.parameters y rest (rw (a))

pub parameter_group_var : (l : ℕ) (ts : List Spot) (rest : List Want) → report (reserved_at reserved.Var l ∷ ts) (want.parameter_group ∷ rest) ≡ report ts (want.name ∷ (parameter_group_rest ++ rest))
parameter_group_var l ts rest = taken (reserved_at reserved.Var l) ts want.parameter_group (want.name ∷ parameter_group_rest) rest refl

parameter_group_is-word : (b : Bool) (t : Spot) (ts : List Spot) (rest : List Want) → is_name t.word ≡ b → is_reserved t.word reserved.Var ≡ false → report (t ∷ ts) (want.parameter_group ∷ rest) ≡ report (t ∷ ts) (want.name ∷ (parameter_group_rest ++ rest))
parameter_group_is-word true t ts rest e f = taken t ts want.parameter_group parameter_group_rest rest (rw e) ∙ sym (taken t ts want.name [] (parameter_group_rest ++ rest) (rw e))
parameter_group_is-word false t ts rest e f = refused t ts want.parameter_group rest (rw (e, f)) ∙ sym (refused t ts want.name (parameter_group_rest ++ rest) (rw e))

pub parameter_group_is : (before : List Spot) (rest : List Want) → first_is (λ w. is_reserved w reserved.Var) before ≡ false → report before (want.parameter_group ∷ rest) ≡ report before (want.name ∷ (parameter_group_rest ++ rest))
parameter_group_is [] rest f = at_end want.parameter_group rest ∙ sym (at_end want.name (parameter_group_rest ++ rest))
parameter_group_is (t ∷ ts) rest f = parameter_group_is-word (is_name t.word) t ts rest refl f

pub more_parameters_goes : (l : ℕ) (ts : List Spot) (rest : List Want) → report (symbol_at symbol.Semicolon l ∷ ts) (want.more_parameters ∷ rest) ≡ report ts (want.parameter_group ∷ (want.more_parameters ∷ rest))
more_parameters_goes l ts rest = taken (symbol_at symbol.Semicolon l) ts want.more_parameters (want.parameter_group ∷ (want.more_parameters ∷ [])) rest refl

pub more_parameters_skip : (before : List Spot) (y : Want) (rest : List Want) → first_is (λ w. is_symbol w symbol.Semicolon) before ≡ false → report before (want.more_parameters ∷ (y ∷ rest)) ≡ report before (y ∷ rest)
more_parameters_skip [] y rest a = at_end want.more_parameters (y ∷ rest) ∙ sym (at_end y rest)
more_parameters_skip (t ∷ ts) y rest a = skipped t ts want.more_parameters y rest (rw (a))

pub procedure_goes : (l : ℕ) (ts : List Spot) (rest : List Want) → report (reserved_at reserved.Procedure l ∷ ts) (want.routines ∷ rest) ≡ report ts (want.name ∷ (want.parameters ∷ (mark symbol.Semicolon ∷ (want.consts ∷ (want.vars ∷ (want.body ∷ (mark symbol.Semicolon ∷ (want.routines ∷ rest))))))))
procedure_goes l ts rest = taken (reserved_at reserved.Procedure l) ts want.routines (want.name ∷ (want.parameters ∷ (mark symbol.Semicolon ∷ (want.consts ∷ (want.vars ∷ (want.body ∷ (mark symbol.Semicolon ∷ (want.routines ∷ [])))))))) rest refl

pub function_goes : (l : ℕ) (ts : List Spot) (rest : List Want) → report (reserved_at reserved.Function l ∷ ts) (want.routines ∷ rest) ≡ report ts (want.name ∷ (want.parameters ∷ (mark symbol.Colon ∷ (want.name ∷ (mark symbol.Semicolon ∷ (want.consts ∷ (want.vars ∷ (want.body ∷ (mark symbol.Semicolon ∷ (want.routines ∷ rest))))))))))
function_goes l ts rest = taken (reserved_at reserved.Function l) ts want.routines (want.name ∷ (want.parameters ∷ (mark symbol.Colon ∷ (want.name ∷ (mark symbol.Semicolon ∷ (want.consts ∷ (want.vars ∷ (want.body ∷ (mark symbol.Semicolon ∷ (want.routines ∷ [])))))))))) rest refl

pub routines_skip : (before : List Spot) (y : Want) (rest : List Want) → first_is (λ w. is_reserved w reserved.Procedure) before ≡ false → first_is (λ w. is_reserved w reserved.Function) before ≡ false → report before (want.routines ∷ (y ∷ rest)) ≡ report before (y ∷ rest)
routines_skip [] y rest a b = at_end want.routines (y ∷ rest) ∙ sym (at_end y rest)
routines_skip (t ∷ ts) y rest a b = skipped t ts want.routines y rest (rw (a, b))

pub ruleset declaration_rows = (mark_goes, mark_stuck, reserved_goes, reserved_stuck, name_goes, name_stuck, body_goes, body_stuck, heading_goes, heading_skip, constant_name, constant_number, constant_character, constant_minus, constant_stuck, number_goes, end_goes, number_stuck, end_stuck, consts_goes, consts_skip, definition_is, more_definitions_goes, more_definitions_skip, kind_name, kind_array, kind_stuck, vars_goes, vars_skip, group_is, more_groups_goes, more_groups_skip, more_names_goes, more_names_skip, parameters_goes, parameters_skip, parameter_group_var, parameter_group_is, more_parameters_goes, more_parameters_skip, procedure_goes, function_goes, routines_skip)
