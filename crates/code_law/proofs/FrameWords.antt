-- The words of a frame, as the rules count them and as the code does.
use Rattle.std.proofs.Common.{◌≡◌, ℕ, ◌+◌, ◌≤◌, nat_lt, List, [], ◌∷◌, Option, Some, None, refl, ap, ◌∙◌, arith}
use Rattle.std.proofs.lemmas.Bool.{ltb-false}
use Rattle.pascal_tree.specs.Word.{NameAt}
use Rattle.pascal_tree.specs.Program.{Consts, ParameterGroup}
use Rattle.pascal_tree.specs.Scopes as rules
use Rattle.pascal_tree.specs.Scopes.{Declared, declare, words_of_means, words_of_list}
use Rattle.pascal_tree.specs.StatementRules.{value_of}
use Rattle.pascal_tree.specs.DeclarationRules.{constant_means, behind_definition, behind_definitions, behind_consts, all_names, judged_once, judged_words, judged_parameter, one_by_one, behind_names, frame_words, group_means, judged_type_name, behind_parameter_group, behind_parameter_groups, judged_parameter_group, judged_parameter_groups, first_broken}
use Rattle.pascal_tree.specs.declared.declaration.Definition.{Definition}
use Rattle.pascal_tree.specs.declared.means.Means.{Means}
use Rattle.pascal_check.proofs.Unbroken.{before, behind, tested}
use Rattle.pascal_mean.specs.Predeclared.{Item}
use Rattle.pascal_code.specs.Frames.{words_of, words_in}
use Rattle.code_law.specs.Suits.{Routines}
use Rattle.code_law.proofs.Tests.{parted}
use Rattle.code_law.proofs.Senses.{AreAlike}
use Rattle.code_law.proofs.Declared.{no_words}

pub words_alike : (rs : Routines) (ds : List Declared) (is : List Item) → AreAlike rs ds is → words_of_list ds ≡ words_in is
words_alike rs [] [] are = refl
words_alike rs [] (i ∷ is) are = absurd are
words_alike rs (d ∷ ds) [] are = absurd are
words_alike rs (d ∷ ds) (i ∷ is) are = ap (λ (n : ℕ). n + words_of_list ds) (are.0).words ∙ ap (λ (n : ℕ). words_of i.means + n) (words_alike rs ds is are.1)

-- ---- Constants have no words
definition_words : (s : rules.Scope) (d : Definition) → words_of_list (behind_definition s d).own ≡ words_of_list s.own
definition_words s d =
    let same : words_of_means (constant_means (value_of s d.value)) + words_of_list s.own ≡ words_of_list s.own =
    omega (arith, no_words (value_of s d.value)) in
    same

definitions_words : (ds : List Definition) (s : rules.Scope) → words_of_list (behind_definitions s ds).own ≡ words_of_list s.own
definitions_words [] s = refl
definitions_words (d ∷ more) s = definitions_words more (behind_definition s d) ∙ definition_words s d

pub constants_words : (c : Option Consts) (s : rules.Scope) → words_of_list (behind_consts s c).own ≡ words_of_list s.own
constants_words None s = refl
constants_words (Some c) s = definitions_words (c.first ∷ c.rest) s

-- ---- Parameters have at most 16
kept : (m : Means) (names : List NameAt) (s : rules.Scope) → frame_words s ≤ 16 → first_broken (one_by_one judged_parameter s m names) ≡ None
    → frame_words (behind_names s m names) ≤ 16
kept m [] s fits none = fits
kept m (n ∷ more) s fits none =
    let t = declare s n.letters m in
    let rest = one_by_one judged_parameter t m more in
    let once = parted (judged_once s n) (judged_words 6 4096 s m n ∷ judged_words 7 16 s m n ∷ rest) none in
    let large = parted (judged_words 6 4096 s m n) (judged_words 7 16 s m n ∷ rest) once.1 in
    let few = tested 7 n.line (nat_lt 16 (frame_words t)) rest large.1 in
    kept m more t (ltb-false 16 (frame_words t) few.0) few.1

group_kept : (s : rules.Scope) (g : ParameterGroup) → frame_words s ≤ 16 → first_broken (judged_parameter_group s g) ≡ None
    → frame_words (behind_parameter_group s g) ≤ 16
group_kept s g fits none =
    let m = group_means s g in
    let names = all_names g.names in
    kept m names s fits (parted (judged_type_name s g.kind) (one_by_one judged_parameter s m names) none).1

pub groups_kept : (gs : List ParameterGroup) (s : rules.Scope) → frame_words s ≤ 16 → first_broken (judged_parameter_groups s gs) ≡ None
    → frame_words (behind_parameter_groups s gs) ≤ 16
groups_kept [] s fits none = fits
groups_kept (g ∷ more) s fits none =
    groups_kept more (behind_parameter_group s g)
    (group_kept s g fits (before (judged_parameter_group s g) (judged_parameter_groups (behind_parameter_group s g) more) none))
    (behind (judged_parameter_group s g) (judged_parameter_groups (behind_parameter_group s g) more) none)
