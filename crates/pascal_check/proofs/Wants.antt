-- What the parameters behind the first of a group want.
use Rattle.std.proofs.Common.{◌≡◌, ℕ, ◌<◌, List, [], ◌∷◌, ◌++◌, map, length, drop, sym, ap, ◌∙◌, ◌+◌, append_assoc, add-one, drop-cons}
use Rattle.pascal_tree.specs.Word.{NameAt}
use Rattle.pascal_tree.specs.declared.parameter.Parameter.{Parameter}
use Rattle.pascal_tree.specs.DeclarationRules.{group_wants}

no_name : ℕ × NameAt
no_name = (0, record { letters = []; line = 0 })

pub want_behind : (old : List Parameter) (p : Parameter) (names : List (ℕ × NameAt)) (k : ℕ) → k < length names
    → (old ++ p ∷ []) ++ group_wants p (map (λ n. n.1) (drop (k + 1) names)) ≡ old ++ group_wants p (map (λ n. n.1) (drop k names))
want_behind old p names k h =
    append_assoc old (p ∷ []) (group_wants p (map (λ n. n.1) (drop (k + 1) names)))
    ∙ ap (λ i. old ++ p ∷ group_wants p (map (λ n. n.1) (drop i names))) (add-one k)
    ∙ ap (λ l. old ++ group_wants p (map (λ n. n.1) l)) (sym (drop-cons names k no_name h))
