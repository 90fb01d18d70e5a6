-- What one declaration more at a list's end does to its spelling and its levels.
use Rattle.std.proofs.Common.{◌≡◌, ℕ, List, [], ◌∷◌, ◌++◌, map, sym, ap, ◌∙◌, append_assoc}
use Rattle.std.proofs.lemmas.List.{append-nil}
use Rattle.pascal_tree.specs.Word.{Spot, NameAt}
use Rattle.pascal_tree.specs.SpellExpression.{symbol_at, name_at}
use Rattle.pascal_tree.specs.SeenProgram.{seen_group, seen_parameter_group, seen_routine}
use Rattle.pascal_tree.specs.Limits.{RoutineFits, RoutinesFit}
use Rattle.pascal_tree.specs.SpellProgram.{spelled_definition, spelled_definitions, spelled_more_names, spelled_group, spelled_groups, spelled_parameter_group, spelled_parameter_groups, spelled_routine, spelled_routines}
use Rattle.pascal_tree.specs.declared.token.Symbol.TheVariants as symbol
use Rattle.pascal_tree.specs.declared.declaration.Definition.{Definition}
use Rattle.pascal_tree.specs.declared.declaration.Group as groups
use Rattle.pascal_tree.specs.declared.declaration.ParameterGroup as parameter_groups
use Rattle.pascal_tree.specs.declared.declaration.Routine as routine_types

pub definitions-push : (xs : List Definition) (x : Definition) → spelled_definitions (xs ++ x ∷ []) ≡ spelled_definitions xs ++ spelled_definition x
definitions-push [] x = append-nil (spelled_definition x)
definitions-push (a ∷ xs) x = ap (λ s. spelled_definition a ++ s) (definitions-push xs x) ∙ sym (append_assoc (spelled_definition a) (spelled_definitions xs) (spelled_definition x))

pub one_more-definitions : (xs : List Definition) (x : Definition) (start before after : List Spot) → start ≡ spelled_definitions xs ++ before → before ≡ spelled_definition x ++ after → start ≡ spelled_definitions (xs ++ x ∷ []) ++ after
one_more-definitions xs x start before after p q =
    p ∙ ap (λ s. spelled_definitions xs ++ s) q ∙ sym (append_assoc (spelled_definitions xs) (spelled_definition x) after) ∙ ap (λ s. s ++ after) (sym (definitions-push xs x))

pub groups-push : (xs : List groups.Group) (x : groups.Group) → spelled_groups (map seen_group (xs ++ x ∷ [])) ≡ spelled_groups (map seen_group xs) ++ spelled_group (seen_group x)
groups-push [] x = append-nil (spelled_group (seen_group x))
groups-push (a ∷ xs) x = ap (λ s. spelled_group (seen_group a) ++ s) (groups-push xs x) ∙ sym (append_assoc (spelled_group (seen_group a)) (spelled_groups (map seen_group xs)) (spelled_group (seen_group x)))

pub one_more-groups : (xs : List groups.Group) (x : groups.Group) (start before after : List Spot) → start ≡ spelled_groups (map seen_group xs) ++ before → before ≡ spelled_group (seen_group x) ++ after → start ≡ spelled_groups (map seen_group (xs ++ x ∷ [])) ++ after
one_more-groups xs x start before after p q =
    p ∙ ap (λ s. spelled_groups (map seen_group xs) ++ s) q ∙ sym (append_assoc (spelled_groups (map seen_group xs)) (spelled_group (seen_group x)) after) ∙ ap (λ s. s ++ after) (sym (groups-push xs x))

pub more_names-push : (xs : List (ℕ × NameAt)) (x : ℕ × NameAt) → spelled_more_names (xs ++ x ∷ []) ≡ spelled_more_names xs ++ (symbol_at symbol.Comma x.0 ∷ (name_at x.1 ∷ []))
more_names-push [] x = append-nil ((symbol_at symbol.Comma x.0 ∷ (name_at x.1 ∷ [])))
more_names-push (a ∷ xs) x = ap (λ s. (symbol_at symbol.Comma a.0 ∷ (name_at a.1 ∷ [])) ++ s) (more_names-push xs x) ∙ sym (append_assoc ((symbol_at symbol.Comma a.0 ∷ (name_at a.1 ∷ []))) (spelled_more_names xs) ((symbol_at symbol.Comma x.0 ∷ (name_at x.1 ∷ []))))

pub one_more-more_names : (xs : List (ℕ × NameAt)) (x : ℕ × NameAt) (start before after : List Spot) → start ≡ spelled_more_names xs ++ before → before ≡ (symbol_at symbol.Comma x.0 ∷ (name_at x.1 ∷ [])) ++ after → start ≡ spelled_more_names (xs ++ x ∷ []) ++ after
one_more-more_names xs x start before after p q =
    p ∙ ap (λ s. spelled_more_names xs ++ s) q ∙ sym (append_assoc (spelled_more_names xs) ((symbol_at symbol.Comma x.0 ∷ (name_at x.1 ∷ []))) after) ∙ ap (λ s. s ++ after) (sym (more_names-push xs x))

pub parameter_groups-push : (xs : List (ℕ × parameter_groups.ParameterGroup)) (x : ℕ × parameter_groups.ParameterGroup) → spelled_parameter_groups (map (λ g. (g.0, seen_parameter_group g.1)) (xs ++ x ∷ [])) ≡ spelled_parameter_groups (map (λ g. (g.0, seen_parameter_group g.1)) xs) ++ (symbol_at symbol.Semicolon x.0 ∷ spelled_parameter_group (seen_parameter_group x.1))
parameter_groups-push [] x = append-nil ((symbol_at symbol.Semicolon x.0 ∷ spelled_parameter_group (seen_parameter_group x.1)))
parameter_groups-push (a ∷ xs) x = ap (λ s. (symbol_at symbol.Semicolon a.0 ∷ spelled_parameter_group (seen_parameter_group a.1)) ++ s) (parameter_groups-push xs x) ∙ sym (append_assoc ((symbol_at symbol.Semicolon a.0 ∷ spelled_parameter_group (seen_parameter_group a.1))) (spelled_parameter_groups (map (λ g. (g.0, seen_parameter_group g.1)) xs)) ((symbol_at symbol.Semicolon x.0 ∷ spelled_parameter_group (seen_parameter_group x.1))))

pub one_more-parameter_groups : (xs : List (ℕ × parameter_groups.ParameterGroup)) (x : ℕ × parameter_groups.ParameterGroup) (start before after : List Spot) → start ≡ spelled_parameter_groups (map (λ g. (g.0, seen_parameter_group g.1)) xs) ++ before → before ≡ (symbol_at symbol.Semicolon x.0 ∷ spelled_parameter_group (seen_parameter_group x.1)) ++ after → start ≡ spelled_parameter_groups (map (λ g. (g.0, seen_parameter_group g.1)) (xs ++ x ∷ [])) ++ after
one_more-parameter_groups xs x start before after p q =
    p ∙ ap (λ s. spelled_parameter_groups (map (λ g. (g.0, seen_parameter_group g.1)) xs) ++ s) q ∙ sym (append_assoc (spelled_parameter_groups (map (λ g. (g.0, seen_parameter_group g.1)) xs)) ((symbol_at symbol.Semicolon x.0 ∷ spelled_parameter_group (seen_parameter_group x.1))) after) ∙ ap (λ s. s ++ after) (sym (parameter_groups-push xs x))

pub routines-push : (xs : List routine_types.Routine) (x : routine_types.Routine) → spelled_routines (map seen_routine (xs ++ x ∷ [])) ≡ spelled_routines (map seen_routine xs) ++ spelled_routine (seen_routine x)
routines-push [] x = append-nil (spelled_routine (seen_routine x))
routines-push (a ∷ xs) x =
    ap (λ s. spelled_routine (seen_routine a) ++ s) (routines-push xs x) ∙ sym (append_assoc (spelled_routine (seen_routine a)) (spelled_routines (map seen_routine xs)) (spelled_routine (seen_routine x)))

pub one_more-routines : (xs : List routine_types.Routine) (x : routine_types.Routine) (start before after : List Spot) → start ≡ spelled_routines (map seen_routine xs) ++ before →
    before ≡ spelled_routine (seen_routine x) ++ after → start ≡ spelled_routines (map seen_routine (xs ++ x ∷ [])) ++ after
one_more-routines xs x start before after p q =
    p ∙ ap (λ s. spelled_routines (map seen_routine xs) ++ s) q ∙ sym (append_assoc (spelled_routines (map seen_routine xs)) (spelled_routine (seen_routine x)) after)
    ∙ ap (λ s. s ++ after) (sym (routines-push xs x))

pub RoutinesFit-push : (xs : List routine_types.Routine) (x : routine_types.Routine) → RoutinesFit (map seen_routine xs) → RoutineFits (seen_routine x) → RoutinesFit (map seen_routine (xs ++ x ∷ []))
RoutinesFit-push [] x f g = (g, tt)
RoutinesFit-push (a ∷ xs) x f g = (f.0, RoutinesFit-push xs x f.1 g)
