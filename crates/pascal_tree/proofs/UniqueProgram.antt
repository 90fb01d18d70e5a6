-- No two programs have one spelling.
use Rattle.std.proofs.Common.{◌≡◌, ℕ, ◌≤◌, List, [], ◌∷◌, ◌++◌, Option, Some, None, refl, ap, arith}
use Rattle.pascal_tree.specs.Word.{Spot, NameAt}
use Rattle.pascal_tree.specs.Statement.{Body, body}
use Rattle.pascal_tree.specs.Program.{Names, Consts, Group, Vars, ParameterGroup, Parameters, Block, Routine, procedure, function, Program}
use Rattle.pascal_tree.specs.SpellExpression.{reserved_at, symbol_at, name_at}
use Rattle.pascal_tree.specs.SpellConstant.{spelled_constant}
use Rattle.pascal_tree.specs.SpellStatement.{spelled_body}
use Rattle.pascal_tree.specs.SpellProgram.{spelled, spelled_heading, spelled_definition, spelled_definitions, spelled_consts, spelled_more_names, spelled_kind, spelled_group, spelled_groups, spelled_vars, spelled_var, spelled_parameter_group, spelled_parameter_groups, spelled_parameters, spelled_block, spelled_routine, spelled_routines}
use Rattle.pascal_tree.specs.Limits.{most_levels, BodyFits, RoutineFits, RoutinesFit, IsTree}
use Rattle.pascal_tree.proofs.UniqueExpression.{first_strength, first_of, rest_of, differ, same_name, line_of, regroup, regroup3}
use Rattle.pascal_tree.proofs.UniqueConstant.{unique_constant}
use Rattle.pascal_tree.proofs.UniqueStatement.{unique_body}
use Rattle.pascal_tree.specs.declared.token.Word.{Word}
use Rattle.pascal_tree.specs.declared.token.Word.TheVariants as word
use Rattle.pascal_tree.specs.declared.token.Reserved.TheVariants as reserved
use Rattle.pascal_tree.specs.declared.token.Symbol.TheVariants as symbol
use Rattle.pascal_tree.specs.declared.declaration.Definition.{Definition}
use Rattle.pascal_tree.specs.declared.declaration.Kind.{Kind}
use Rattle.pascal_tree.specs.declared.declaration.Kind.TheVariants as kind
use Rattle.pascal_tree.specs.declared.declaration.Heading.{Heading}

-- the order of a program's parts, by their first words
abbrev pub stage : Word → ℕ
stage (word.Reserved reserved.Program) = 1
stage (word.Reserved reserved.Const) = 2
stage (word.Reserved reserved.Var) = 3
stage (word.Reserved reserved.Procedure) = 4
stage (word.Reserved reserved.Function) = 4
stage (word.Reserved reserved.Begin) = 5
stage other = 0

abbrev pub first_stage : List Spot → ℕ
first_stage [] = 0
first_stage (t ∷ more) = stage t.word

-- a body begins with BEGIN
pub stage_body : (b : Body) (r : List Spot) → first_stage (spelled_body b ++ r) ≡ 5
stage_body (body b s e) r = refl

same_definition : (x y : Definition) → x.name ≡ y.name → x.equal ≡ y.equal → x.value ≡ y.value → x.semicolon ≡ y.semicolon → x ≡ y
same_definition x y a b c d =
    let e : (let v : Definition = record { name = x.name; equal = x.equal; value = x.value; semicolon = x.semicolon } in v)
    ≡ (let w : Definition = record { name = y.name; equal = y.equal; value = y.value; semicolon = y.semicolon } in w) = cc in e

same_consts : (x y : Consts) → x.line ≡ y.line → x.first ≡ y.first → x.rest ≡ y.rest → x ≡ y
same_consts x y a b c =
    let e : (let v : Consts = record { line = x.line; first = x.first; rest = x.rest } in v) ≡ (let w : Consts = record { line = y.line; first = y.first; rest = y.rest } in w) = cc in e

same_names : (x y : Names) → x.first ≡ y.first → x.rest ≡ y.rest → x ≡ y
same_names x y a b =
    let e : (let v : Names = record { first = x.first; rest = x.rest } in v) ≡ (let w : Names = record { first = y.first; rest = y.rest } in w) = cc in e

same_group : (x y : Group) → x.names ≡ y.names → x.colon ≡ y.colon → x.kind ≡ y.kind → x.semicolon ≡ y.semicolon → x ≡ y
same_group x y a b c d =
    let e : (let v : Group = record { names = x.names; colon = x.colon; kind = x.kind; semicolon = x.semicolon } in v)
    ≡ (let w : Group = record { names = y.names; colon = y.colon; kind = y.kind; semicolon = y.semicolon } in w) = cc in e

same_vars : (x y : Vars) → x.line ≡ y.line → x.first ≡ y.first → x.rest ≡ y.rest → x ≡ y
same_vars x y a b c =
    let e : (let v : Vars = record { line = x.line; first = x.first; rest = x.rest } in v) ≡ (let w : Vars = record { line = y.line; first = y.first; rest = y.rest } in w) = cc in e

same_parameter_group : (x y : ParameterGroup) → x.var ≡ y.var → x.names ≡ y.names → x.colon ≡ y.colon → x.kind ≡ y.kind → x ≡ y
same_parameter_group x y a b c d =
    let e : (let v : ParameterGroup = record { var = x.var; names = x.names; colon = x.colon; kind = x.kind } in v)
    ≡ (let w : ParameterGroup = record { var = y.var; names = y.names; colon = y.colon; kind = y.kind } in w) = cc in e

same_parameters : (x y : Parameters) → x.opening ≡ y.opening → x.first ≡ y.first → x.rest ≡ y.rest → x.closing ≡ y.closing → x ≡ y
same_parameters x y a b c d =
    let e : (let v : Parameters = record { opening = x.opening; first = x.first; rest = x.rest; closing = x.closing } in v)
    ≡ (let w : Parameters = record { opening = y.opening; first = y.first; rest = y.rest; closing = y.closing } in w) = cc in e

same_block : (x y : Block) → x.consts ≡ y.consts → x.vars ≡ y.vars → x.body ≡ y.body → x ≡ y
same_block x y a b c =
    let e : (let v : Block = record { consts = x.consts; vars = x.vars; body = x.body } in v) ≡ (let w : Block = record { consts = y.consts; vars = y.vars; body = y.body } in w) = cc in e

same_heading : (x y : Heading) → x.line ≡ y.line → x.name ≡ y.name → x.semicolon ≡ y.semicolon → x ≡ y
same_heading x y a b c =
    let e : (let v : Heading = record { line = x.line; name = x.name; semicolon = x.semicolon } in v) ≡ (let w : Heading = record { line = y.line; name = y.name; semicolon = y.semicolon } in w) = cc in e

same_program : (x y : Program) → x.heading ≡ y.heading → x.consts ≡ y.consts → x.vars ≡ y.vars → x.routines ≡ y.routines → x.body ≡ y.body → x.period ≡ y.period →
    x.end ≡ y.end → x ≡ y
same_program x y a b c d f g h =
    let e : (let v : Program = record { heading = x.heading; consts = x.consts; vars = x.vars; routines = x.routines; body = x.body; period = x.period; end = x.end } in v)
    ≡ (let w : Program = record { heading = y.heading; consts = y.consts; vars = y.vars; routines = y.routines; body = y.body; period = y.period; end = y.end } in w) = cc in e

unique_definition : (x y : Definition) (r s : List Spot) → spelled_definition x ++ r ≡ spelled_definition y ++ s → (x ≡ y) × (r ≡ s)
unique_definition x y r s e =
    let t = regroup (spelled_constant x.value) (symbol_at symbol.Semicolon x.semicolon ∷ []) r (spelled_constant y.value) (symbol_at symbol.Semicolon y.semicolon ∷ []) s (rest_of (rest_of e)) in
    let c = unique_constant x.value y.value (symbol_at symbol.Semicolon x.semicolon ∷ r) (symbol_at symbol.Semicolon y.semicolon ∷ s) t in
    (same_definition x y (same_name x.name y.name (first_of e)) (line_of _ _ _ _ (first_of (rest_of e))) c.0 (line_of _ _ _ _ (first_of c.1)), rest_of c.1)

unique_definitions : (xs ys : List Definition) (r s : List Spot) → 1 ≤ first_stage r → 1 ≤ first_stage s →
    spelled_definitions xs ++ r ≡ spelled_definitions ys ++ s → (xs ≡ ys) × (r ≡ s)
unique_definitions [] [] r s p q e = (refl, e)
unique_definitions [] (y ∷ ys) r s p q e = let h : first_stage r ≡ 0 = ap first_stage e in absurd (omega arith)
unique_definitions (x ∷ xs) [] r s p q e = let h : 0 ≡ first_stage s = ap first_stage e in absurd (omega arith)
unique_definitions (x ∷ xs) (y ∷ ys) r s p q e =
    let a = unique_definition x y (spelled_definitions xs ++ r) (spelled_definitions ys ++ s) (regroup (spelled_definition x) (spelled_definitions xs) r (spelled_definition y) (spelled_definitions ys) s e) in
    let b = unique_definitions xs ys r s p q a.1 in
    let xy : x ≡ y = a.0 in
    let z : xs ≡ ys = b.0 in
    (cc, b.1)

unique_consts : (x y : Option Consts) (r s : List Spot) → 3 ≤ first_stage r → 3 ≤ first_stage s →
    spelled_consts x ++ r ≡ spelled_consts y ++ s → (x ≡ y) × (r ≡ s)
unique_consts None None r s p q e = (refl, e)
unique_consts None (Some y) r s p q e = let h : first_stage r ≡ 2 = ap first_stage e in absurd (omega arith)
unique_consts (Some x) None r s p q e = let h : 2 ≡ first_stage s = ap first_stage e in absurd (omega arith)
unique_consts (Some x) (Some y) r s p q e =
    let a = unique_definition x.first y.first (spelled_definitions x.rest ++ r) (spelled_definitions y.rest ++ s) (regroup (spelled_definition x.first) (spelled_definitions x.rest) r (spelled_definition y.first) (spelled_definitions y.rest) s (rest_of e)) in
    let b = unique_definitions x.rest y.rest r s (omega arith) (omega arith) a.1 in
    (ap Some (same_consts x y (line_of _ _ _ _ (first_of e)) a.0 b.0), b.1)

unique_more_names : (xs ys : List (ℕ × NameAt)) (c d : ℕ) (r s : List Spot) →
    spelled_more_names xs ++ (symbol_at symbol.Colon c ∷ r) ≡ spelled_more_names ys ++ (symbol_at symbol.Colon d ∷ s) → (xs ≡ ys) × (c ≡ d) × (r ≡ s)
unique_more_names [] [] c d r s e = (refl, line_of _ _ _ _ (first_of e), rest_of e)
unique_more_names [] (y ∷ ys) c d r s e = absurd (differ _ _ _ _ e (λ h. cc))
unique_more_names (x ∷ xs) [] c d r s e = absurd (differ _ _ _ _ e (λ h. cc))
unique_more_names (x ∷ xs) (y ∷ ys) c d r s e =
    let l : x.0 ≡ y.0 = line_of _ _ _ _ (first_of e) in
    let n : x.1 ≡ y.1 = same_name x.1 y.1 (first_of (rest_of e)) in
    let xy : x ≡ y = (let p : (let v : ℕ × NameAt = (x.0, x.1) in v) ≡ (let w : ℕ × NameAt = (y.0, y.1) in w) = cc in p) in
    let b = unique_more_names xs ys c d r s (rest_of (rest_of e)) in
    let z : xs ≡ ys = b.0 in
    (cc, b.1, b.2)

unique_kind : (x y : Kind) (r s : List Spot) → spelled_kind x ++ r ≡ spelled_kind y ++ s → (x ≡ y) × (r ≡ s)
unique_kind (kind.Name x) (kind.Name y) r s e = (ap kind.Name (same_name x y (first_of e)), rest_of e)
unique_kind (kind.Array l o a u b c f n) (kind.Array l' o' a' u' b' c' f' n') r s e =
    let i1 = line_of _ _ _ _ (first_of e) in
    let i2 = line_of _ _ _ _ (first_of (rest_of e)) in
    let t = regroup (spelled_constant a) (symbol_at symbol.UpTo u ∷ (spelled_constant b ++ (symbol_at symbol.CloseIndex c ∷ (reserved_at reserved.Of f ∷ (name_at n ∷ []))))) r
    (spelled_constant a') (symbol_at symbol.UpTo u' ∷ (spelled_constant b' ++ (symbol_at symbol.CloseIndex c' ∷ (reserved_at reserved.Of f' ∷ (name_at n' ∷ []))))) s (rest_of (rest_of e)) in
    let k = unique_constant a a' _ _ t in
    let i3 : a ≡ a' = k.0 in
    let i4 = line_of _ _ _ _ (first_of k.1) in
    let v = regroup (spelled_constant b) (symbol_at symbol.CloseIndex c ∷ (reserved_at reserved.Of f ∷ (name_at n ∷ []))) r
    (spelled_constant b') (symbol_at symbol.CloseIndex c' ∷ (reserved_at reserved.Of f' ∷ (name_at n' ∷ []))) s (rest_of k.1) in
    let m = unique_constant b b' _ _ v in
    let i5 : b ≡ b' = m.0 in
    let i6 = line_of _ _ _ _ (first_of m.1) in
    let i7 = line_of _ _ _ _ (first_of (rest_of m.1)) in
    let i8 = same_name n n' (first_of (rest_of (rest_of m.1))) in
    (cc, rest_of (rest_of (rest_of m.1)))
unique_kind x y r s e = absurd (differ _ _ _ _ e (λ h. cc))

unique_group : (x y : Group) (r s : List Spot) → spelled_group x ++ r ≡ spelled_group y ++ s → (x ≡ y) × (r ≡ s)
unique_group x y r s e =
    let n = same_name (x.names).first (y.names).first (first_of e) in
    let t = regroup (spelled_more_names (x.names).rest) (symbol_at symbol.Colon x.colon ∷ (spelled_kind x.kind ++ symbol_at symbol.Semicolon x.semicolon ∷ [])) r
    (spelled_more_names (y.names).rest) (symbol_at symbol.Colon y.colon ∷ (spelled_kind y.kind ++ symbol_at symbol.Semicolon y.semicolon ∷ [])) s (rest_of e) in
    let a = unique_more_names (x.names).rest (y.names).rest x.colon y.colon _ _ t in
    let u = regroup (spelled_kind x.kind) (symbol_at symbol.Semicolon x.semicolon ∷ []) r (spelled_kind y.kind) (symbol_at symbol.Semicolon y.semicolon ∷ []) s a.2 in
    let b = unique_kind x.kind y.kind (symbol_at symbol.Semicolon x.semicolon ∷ r) (symbol_at symbol.Semicolon y.semicolon ∷ s) u in
    (same_group x y (same_names x.names y.names n a.0) a.1 b.0 (line_of _ _ _ _ (first_of b.1)), rest_of b.1)

unique_groups : (xs ys : List Group) (r s : List Spot) → 1 ≤ first_stage r → 1 ≤ first_stage s →
    spelled_groups xs ++ r ≡ spelled_groups ys ++ s → (xs ≡ ys) × (r ≡ s)
unique_groups [] [] r s p q e = (refl, e)
unique_groups [] (y ∷ ys) r s p q e = let h : first_stage r ≡ 0 = ap first_stage e in absurd (omega arith)
unique_groups (x ∷ xs) [] r s p q e = let h : 0 ≡ first_stage s = ap first_stage e in absurd (omega arith)
unique_groups (x ∷ xs) (y ∷ ys) r s p q e =
    let a = unique_group x y (spelled_groups xs ++ r) (spelled_groups ys ++ s) (regroup (spelled_group x) (spelled_groups xs) r (spelled_group y) (spelled_groups ys) s e) in
    let b = unique_groups xs ys r s p q a.1 in
    let xy : x ≡ y = a.0 in
    let z : xs ≡ ys = b.0 in
    (cc, b.1)

unique_vars : (x y : Option Vars) (r s : List Spot) → 4 ≤ first_stage r → 4 ≤ first_stage s →
    spelled_vars x ++ r ≡ spelled_vars y ++ s → (x ≡ y) × (r ≡ s)
unique_vars None None r s p q e = (refl, e)
unique_vars None (Some y) r s p q e = let h : first_stage r ≡ 3 = ap first_stage e in absurd (omega arith)
unique_vars (Some x) None r s p q e = let h : 3 ≡ first_stage s = ap first_stage e in absurd (omega arith)
unique_vars (Some x) (Some y) r s p q e =
    let a = unique_group x.first y.first (spelled_groups x.rest ++ r) (spelled_groups y.rest ++ s) (regroup (spelled_group x.first) (spelled_groups x.rest) r (spelled_group y.first) (spelled_groups y.rest) s (rest_of e)) in
    let b = unique_groups x.rest y.rest r s (omega arith) (omega arith) a.1 in
    (ap Some (same_vars x y (line_of _ _ _ _ (first_of e)) a.0 b.0), b.1)

unique_var : (x y : Option ℕ) (a b : NameAt) (r s : List Spot) →
    spelled_var x ++ (name_at a ∷ r) ≡ spelled_var y ++ (name_at b ∷ s) → (x ≡ y) × (a ≡ b) × (r ≡ s)
unique_var None None a b r s e = (refl, same_name a b (first_of e), rest_of e)
unique_var None (Some y) a b r s e = absurd (differ _ _ _ _ e (λ h. cc))
unique_var (Some x) None a b r s e = absurd (differ _ _ _ _ e (λ h. cc))
unique_var (Some x) (Some y) a b r s e = (ap Some (line_of _ _ _ _ (first_of e)), same_name a b (first_of (rest_of e)), rest_of (rest_of e))

-- what stands behind the first name of a parameter group
abbrev behind_first : ParameterGroup → List Spot
behind_first g = spelled_more_names (g.names).rest ++ (symbol_at symbol.Colon g.colon ∷ (name_at g.kind ∷ []))

unique_parameter_group : (x y : ParameterGroup) (r s : List Spot) → spelled_parameter_group x ++ r ≡ spelled_parameter_group y ++ s → (x ≡ y) × (r ≡ s)
unique_parameter_group x y r s e =
    let h = regroup (spelled_var x.var) (name_at (x.names).first ∷ behind_first x) r (spelled_var y.var) (name_at (y.names).first ∷ behind_first y) s e in
    let u = unique_var x.var y.var (x.names).first (y.names).first (behind_first x ++ r) (behind_first y ++ s) h in
    let t = regroup (spelled_more_names (x.names).rest) (symbol_at symbol.Colon x.colon ∷ (name_at x.kind ∷ [])) r
    (spelled_more_names (y.names).rest) (symbol_at symbol.Colon y.colon ∷ (name_at y.kind ∷ [])) s u.2 in
    let a = unique_more_names (x.names).rest (y.names).rest x.colon y.colon _ _ t in
    let k = same_name x.kind y.kind (first_of a.2) in
    (same_parameter_group x y u.0 (same_names x.names y.names u.1 a.0) a.1 k, rest_of a.2)

unique_parameter_groups : (xs ys : List (ℕ × ParameterGroup)) (c d : ℕ) (r s : List Spot) →
    spelled_parameter_groups xs ++ (symbol_at symbol.Close c ∷ r) ≡ spelled_parameter_groups ys ++ (symbol_at symbol.Close d ∷ s) → (xs ≡ ys) × (c ≡ d) × (r ≡ s)
unique_parameter_groups [] [] c d r s e = (refl, line_of _ _ _ _ (first_of e), rest_of e)
unique_parameter_groups [] (y ∷ ys) c d r s e = absurd (differ _ _ _ _ e (λ h. cc))
unique_parameter_groups (x ∷ xs) [] c d r s e = absurd (differ _ _ _ _ e (λ h. cc))
unique_parameter_groups (x ∷ xs) (y ∷ ys) c d r s e =
    let l : x.0 ≡ y.0 = line_of _ _ _ _ (first_of e) in
    let t = regroup (spelled_parameter_group x.1) (spelled_parameter_groups xs) (symbol_at symbol.Close c ∷ r) (spelled_parameter_group y.1) (spelled_parameter_groups ys) (symbol_at symbol.Close d ∷ s) (rest_of e) in
    let a = unique_parameter_group x.1 y.1 _ _ t in
    let g : x.1 ≡ y.1 = a.0 in
    let xy : x ≡ y = (let p : (let v : ℕ × ParameterGroup = (x.0, x.1) in v) ≡ (let w : ℕ × ParameterGroup = (y.0, y.1) in w) = cc in p) in
    let b = unique_parameter_groups xs ys c d r s a.1 in
    let z : xs ≡ ys = b.0 in
    (cc, b.1, b.2)

unique_parameters : (x y : Option Parameters) (r s : List Spot) → first_strength r ≡ 0 → first_strength s ≡ 0 →
    spelled_parameters x ++ r ≡ spelled_parameters y ++ s → (x ≡ y) × (r ≡ s)
unique_parameters None None r s p q e = (refl, e)
unique_parameters None (Some y) r s p q e = let h : first_strength r ≡ 4 = ap first_strength e in absurd (omega arith)
unique_parameters (Some x) None r s p q e = let h : 4 ≡ first_strength s = ap first_strength e in absurd (omega arith)
unique_parameters (Some x) (Some y) r s p q e =
    let t = regroup3 (spelled_parameter_group x.first) (spelled_parameter_groups x.rest) (symbol_at symbol.Close x.closing ∷ []) r
    (spelled_parameter_group y.first) (spelled_parameter_groups y.rest) (symbol_at symbol.Close y.closing ∷ []) s (rest_of e) in
    let a = unique_parameter_group x.first y.first _ _ t in
    let b = unique_parameter_groups x.rest y.rest x.closing y.closing r s a.1 in
    (ap Some (same_parameters x y (line_of _ _ _ _ (first_of e)) a.0 b.0 b.1), b.2)

pub stage_vars : (v : Option Vars) (r : List Spot) → 4 ≤ first_stage r → 3 ≤ first_stage (spelled_vars v ++ r)
stage_vars None r p = omega arith
stage_vars (Some v) r p = omega arith

pub stage_consts : (c : Option Consts) (r : List Spot) → 3 ≤ first_stage r → 2 ≤ first_stage (spelled_consts c ++ r)
stage_consts None r p = omega arith
stage_consts (Some c) r p = omega arith

pub stage_routines : (rs : List Routine) (r : List Spot) → first_stage r ≡ 5 → 4 ≤ first_stage (spelled_routines rs ++ r)
stage_routines [] r p = omega arith
stage_routines (procedure l n p s b e ∷ rs) r q = omega arith
stage_routines (function l n p c a s b e ∷ rs) r q = omega arith

unique_block : (x y : Block) (r s : List Spot) → BodyFits x.body most_levels → BodyFits y.body most_levels → spelled_block x ++ r ≡ spelled_block y ++ s → (x ≡ y) × (r ≡ s)
unique_block x y r s f g e =
    let t = regroup3 (spelled_consts x.consts) (spelled_vars x.vars) (spelled_body x.body) r (spelled_consts y.consts) (spelled_vars y.vars) (spelled_body y.body) s e in
    let m = stage_body x.body r in
    let n = stage_body y.body s in
    let a = unique_consts x.consts y.consts (spelled_vars x.vars ++ (spelled_body x.body ++ r)) (spelled_vars y.vars ++ (spelled_body y.body ++ s)) (stage_vars x.vars _ (omega arith)) (stage_vars y.vars _ (omega arith)) t in
    let b = unique_vars x.vars y.vars (spelled_body x.body ++ r) (spelled_body y.body ++ s) (omega arith) (omega arith) a.1 in
    let c = unique_body x.body y.body _ _ r s f g b.1 in
    (same_block x y a.0 b.0 c.0, c.1)

unique_routine : (x y : Routine) (r s : List Spot) → RoutineFits x → RoutineFits y → spelled_routine x ++ r ≡ spelled_routine y ++ s → (x ≡ y) × (r ≡ s)
unique_routine (procedure l n p c b z) (procedure l' n' p' c' b' z') r s f g e =
    let i1 = line_of _ _ _ _ (first_of e) in
    let i2 = same_name n n' (first_of (rest_of e)) in
    let t = regroup (spelled_parameters p) (symbol_at symbol.Semicolon c ∷ (spelled_block b ++ symbol_at symbol.Semicolon z ∷ [])) r
    (spelled_parameters p') (symbol_at symbol.Semicolon c' ∷ (spelled_block b' ++ symbol_at symbol.Semicolon z' ∷ [])) s (rest_of (rest_of e)) in
    let a = unique_parameters p p' _ _ refl refl t in
    let i3 : p ≡ p' = a.0 in
    let i4 = line_of _ _ _ _ (first_of a.1) in
    let u = regroup (spelled_block b) (symbol_at symbol.Semicolon z ∷ []) r (spelled_block b') (symbol_at symbol.Semicolon z' ∷ []) s (rest_of a.1) in
    let d = unique_block b b' (symbol_at symbol.Semicolon z ∷ r) (symbol_at symbol.Semicolon z' ∷ s) f g u in
    let i5 : b ≡ b' = d.0 in
    let i6 = line_of _ _ _ _ (first_of d.1) in
    (cc, rest_of d.1)
unique_routine (function l n p k w c b z) (function l' n' p' k' w' c' b' z') r s f g e =
    let i1 = line_of _ _ _ _ (first_of e) in
    let i2 = same_name n n' (first_of (rest_of e)) in
    let t = regroup (spelled_parameters p) (symbol_at symbol.Colon k ∷ (name_at w ∷ (symbol_at symbol.Semicolon c ∷ (spelled_block b ++ symbol_at symbol.Semicolon z ∷ [])))) r
    (spelled_parameters p') (symbol_at symbol.Colon k' ∷ (name_at w' ∷ (symbol_at symbol.Semicolon c' ∷ (spelled_block b' ++ symbol_at symbol.Semicolon z' ∷ [])))) s (rest_of (rest_of e)) in
    let a = unique_parameters p p' _ _ refl refl t in
    let i3 : p ≡ p' = a.0 in
    let i4 = line_of _ _ _ _ (first_of a.1) in
    let i7 = same_name w w' (first_of (rest_of a.1)) in
    let i8 = line_of _ _ _ _ (first_of (rest_of (rest_of a.1))) in
    let u = regroup (spelled_block b) (symbol_at symbol.Semicolon z ∷ []) r (spelled_block b') (symbol_at symbol.Semicolon z' ∷ []) s (rest_of (rest_of (rest_of a.1))) in
    let d = unique_block b b' (symbol_at symbol.Semicolon z ∷ r) (symbol_at symbol.Semicolon z' ∷ s) f g u in
    let i5 : b ≡ b' = d.0 in
    let i6 = line_of _ _ _ _ (first_of d.1) in
    (cc, rest_of d.1)
unique_routine x y r s f g e = absurd (differ _ _ _ _ e (λ h. cc))

unique_routines : (xs ys : List Routine) (r s : List Spot) → RoutinesFit xs → RoutinesFit ys → first_stage r ≡ 5 → first_stage s ≡ 5 →
    spelled_routines xs ++ r ≡ spelled_routines ys ++ s → (xs ≡ ys) × (r ≡ s)
unique_routines [] [] r s f g p q e = (refl, e)
unique_routines [] (procedure l n p c b z ∷ ys) r s f g i q e = let h : first_stage r ≡ 4 = ap first_stage e in absurd (omega arith)
unique_routines [] (function l n p k w c b z ∷ ys) r s f g i q e = let h : first_stage r ≡ 4 = ap first_stage e in absurd (omega arith)
unique_routines (procedure l n p c b z ∷ xs) [] r s f g i q e = let h : 4 ≡ first_stage s = ap first_stage e in absurd (omega arith)
unique_routines (function l n p k w c b z ∷ xs) [] r s f g i q e = let h : 4 ≡ first_stage s = ap first_stage e in absurd (omega arith)
unique_routines (x ∷ xs) (y ∷ ys) r s f g p q e =
    let a = unique_routine x y (spelled_routines xs ++ r) (spelled_routines ys ++ s) f.0 g.0 (regroup (spelled_routine x) (spelled_routines xs) r (spelled_routine y) (spelled_routines ys) s e) in
    let b = unique_routines xs ys r s f.1 g.1 p q a.1 in
    let xy : x ≡ y = a.0 in
    let z : xs ≡ ys = b.0 in
    (cc, b.1)

unique_heading : (x y : Option Heading) (r s : List Spot) → 2 ≤ first_stage r → 2 ≤ first_stage s →
    spelled_heading x ++ r ≡ spelled_heading y ++ s → (x ≡ y) × (r ≡ s)
unique_heading None None r s p q e = (refl, e)
unique_heading None (Some y) r s p q e = let h : first_stage r ≡ 1 = ap first_stage e in absurd (omega arith)
unique_heading (Some x) None r s p q e = let h : 1 ≡ first_stage s = ap first_stage e in absurd (omega arith)
unique_heading (Some x) (Some y) r s p q e =
    (ap Some (same_heading x y (line_of _ _ _ _ (first_of e)) (same_name x.name y.name (first_of (rest_of e))) (line_of _ _ _ _ (first_of (rest_of (rest_of e))))), rest_of (rest_of (rest_of e)))

-- what stands behind a program's body
abbrev tail_of : Program → List Spot
tail_of p = symbol_at symbol.Period p.period ∷ ((let t : Spot = record { word = word.End; line = p.end } in t) ∷ [])

-- No two programs that keep the limits have one spelling.
pub unique_program : (x y : Program) → IsTree x → IsTree y → spelled x ≡ spelled y → x ≡ y
unique_program x y f g e =
    let bx = spelled_body x.body ++ tail_of x in
    let by = spelled_body y.body ++ tail_of y in
    let rx = spelled_routines x.routines ++ bx in
    let ry = spelled_routines y.routines ++ by in
    let vx = spelled_vars x.vars ++ rx in
    let vy = spelled_vars y.vars ++ ry in
    let mx = stage_body x.body (tail_of x) in
    let my = stage_body y.body (tail_of y) in
    let sx = stage_vars x.vars rx (stage_routines x.routines bx mx) in
    let sy = stage_vars y.vars ry (stage_routines y.routines by my) in
    let h = unique_heading x.heading y.heading (spelled_consts x.consts ++ vx) (spelled_consts y.consts ++ vy) (stage_consts x.consts vx sx) (stage_consts y.consts vy sy) e in
    let c = unique_consts x.consts y.consts vx vy sx sy h.1 in
    let v = unique_vars x.vars y.vars rx ry (stage_routines x.routines bx mx) (stage_routines y.routines by my) c.1 in
    let r = unique_routines x.routines y.routines bx by f.routines g.routines mx my v.1 in
    let b = unique_body x.body y.body _ _ (tail_of x) (tail_of y) f.body g.body r.1 in
    same_program x y h.0 c.0 v.0 r.0 b.0 (line_of _ _ _ _ (first_of b.1)) (line_of _ _ _ _ (first_of (rest_of b.1)))
