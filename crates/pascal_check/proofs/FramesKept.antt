-- Frames that pass no limit.
use Rattle.std.proofs.Common.{◌≡◌, ◌≤◌, nat_lt, List, [], ◌∷◌, Option, Some, None, is_some}
use Rattle.std.proofs.lemmas.Bool.{ltb-false}
use Rattle.pascal_tree.specs.Word.{NameAt}
use Rattle.pascal_tree.specs.Program.{Group, Vars}
use Rattle.pascal_tree.specs.Scopes.{Scope, found, declare}
use Rattle.pascal_tree.specs.DeclarationRules.{judged_kind, judged_words, judged_variable, one_by_one, behind_names, judged_group, judged_groups, judged_vars, behind_group, behind_groups, behind_vars, type_of_kind, all_names, frame_words, first_broken}
use Rattle.pascal_tree.specs.declared.means.Means.{Means}
use Rattle.pascal_tree.specs.declared.means.Means.TheVariants as means
use Rattle.pascal_check.proofs.Unbroken.{before, behind, tested}

kept : (s : Scope) (m : Means) (names : List NameAt) → frame_words s ≤ 4096 → first_broken (one_by_one judged_variable s m names) ≡ None
    → frame_words (behind_names s m names) ≤ 4096
kept s m [] fits h = fits
kept s m (n ∷ more) fits h =
    let t = declare s n.letters m in
    let rest = one_by_one judged_variable t m more in
    let once = tested 1 n.line (is_some (found s.own n.letters)) (judged_words 6 4096 s m n ∷ rest) h in
    let few = tested 6 n.line (nat_lt 4096 (frame_words t)) rest once.1 in
    kept t m more (ltb-false 4096 (frame_words t) few.0) few.1

group_kept : (s : Scope) (g : Group) → frame_words s ≤ 4096 → first_broken (judged_group s g) ≡ None → frame_words (behind_group s g) ≤ 4096
group_kept s g fits h =
    let m = means.Variable (type_of_kind s g.kind) in
    let names = all_names g.names in
    kept s m names fits (behind (judged_kind s g.kind) (one_by_one judged_variable s m names) h)

groups_kept : (s : Scope) (gs : List Group) → frame_words s ≤ 4096 → first_broken (judged_groups s gs) ≡ None → frame_words (behind_groups s gs) ≤ 4096
groups_kept s [] fits h = fits
groups_kept s (g ∷ more) fits h =
    groups_kept (behind_group s g) more
    (group_kept s g fits (before (judged_group s g) (judged_groups (behind_group s g) more) h))
    (behind (judged_group s g) (judged_groups (behind_group s g) more) h)

pub vars_kept : (s : Scope) (v : Option Vars) → frame_words s ≤ 4096 → first_broken (judged_vars s v) ≡ None → frame_words (behind_vars s v) ≤ 4096
vars_kept s None fits h = fits
vars_kept s (Some v) fits h = groups_kept s (v.first ∷ v.rest) fits h
