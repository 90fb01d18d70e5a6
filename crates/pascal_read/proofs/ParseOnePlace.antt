-- Words that spell a tree have no first error, and other words have no two.
use Rattle.std.proofs.Common.{◌≡◌, ℕ, ◌⊎◌, List, [], ◌∷◌, ◌++◌, inl, inr, sym, ap, ◌∙◌, append_assoc}
use Rattle.pascal_tree.specs.Word.{Spot}
use Rattle.pascal_read.specs.ErrorPlace.{ErrorPlace, SpellATree, BeginATree}

pub no_tree : (words : List Spot) (line : ℕ) → ErrorPlace words line → SpellATree words → ⊥
no_tree words line e s =
    e.impossible (record { tree = s.tree; is_tree = s.is_tree; more = e.behind; is = s.is ∙ e.words_are ∙ sym (append_assoc e.before (e.at ∷ []) e.behind) })

-- of two places in a list, one is behind the other, or they are the same
abbrev IsBehind : List Spot → List Spot → Spot → Type 0
IsBehind longer front t = (more : List Spot) × (longer ≡ (front ++ t ∷ []) ++ more)

abbrev TwoPlaces : List Spot → Spot → List Spot → Spot → Type 0
TwoPlaces front t other u = (t ≡ u) ⊎ (IsBehind other front t ⊎ IsBehind front other u)

both_further : (v w : Spot) (front other : List Spot) (t u : Spot) → v ≡ w → TwoPlaces front t other u → TwoPlaces (v ∷ front) t (w ∷ other) u
both_further v w front other t u e (inl same) = inl same
both_further v w front other t u e (inr (inl behind)) = inr (inl (behind.0, ap (λ ts. w ∷ ts) behind.1 ∙ ap (λ s. s ∷ ((front ++ t ∷ []) ++ behind.0)) (sym e)))
both_further v w front other t u e (inr (inr behind)) = inr (inr (behind.0, ap (λ ts. v ∷ ts) behind.1 ∙ ap (λ s. s ∷ ((other ++ u ∷ []) ++ behind.0)) e))

two_places : (front other : List Spot) (t u : Spot) (p q : List Spot) → front ++ t ∷ p ≡ other ++ u ∷ q → TwoPlaces front t other u
two_places [] [] t u p q e = inl cc
two_places [] (w ∷ other) t u p q e =
    let first : w ≡ t = cc in
    inr (inl (other, ap (λ s. s ∷ other) first))
two_places (v ∷ front) [] t u p q e =
    let first : v ≡ u = cc in
    inr (inr (front, ap (λ s. s ∷ front) first))
two_places (v ∷ front) (w ∷ other) t u p q e =
    let first : v ≡ w = cc in
    let rest : front ++ t ∷ p ≡ other ++ u ∷ q = cc in
    both_further v w front other t u first (two_places front other t u p q rest)

-- no place behind the first error is one
not_behind : (longer front : List Spot) (t : Spot) → (BeginATree (front ++ t ∷ []) → ⊥) → BeginATree longer → IsBehind longer front t → ⊥
not_behind longer front t impossible b behind =
    impossible (record {
      tree = b.tree;
      is_tree = b.is_tree;
      more = behind.0 ++ b.more;
      is = b.is ∙ ap (λ ts. ts ++ b.more) behind.1 ∙ append_assoc (front ++ t ∷ []) behind.0 b.more;
    })

pub one_place : (words : List Spot) (line other : ℕ) → ErrorPlace words line → ErrorPlace words other → line ≡ other
one_place words line other e f =
    elim (two_places e.before f.before e.at f.at e.behind f.behind (sym e.words_are ∙ f.words_are)) [
      | inl same ↦ e.line_is ∙ ap (λ s. s.line) same ∙ sym f.line_is
      | inr (inl behind) ↦ absurd (not_behind f.before e.before e.at e.impossible f.possible behind)
      | inr (inr behind) ↦ absurd (not_behind e.before f.before f.at f.impossible e.possible behind)
    ]
