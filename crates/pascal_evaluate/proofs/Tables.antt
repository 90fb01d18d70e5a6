-- What a list of declared names says of a name.
use Rattle.std.proofs.Common.{◌≡◌, ℕ, Bool, true, false, cond, Option, Some, List, [], ◌∷◌, refl, ◌∙◌, ap}
use Rattle.std.specs.Prelude.{bytes_eq}
use Rattle.pascal_mean.specs.Means.{Means}
use Rattle.pascal_mean.specs.Means as meant
use Rattle.pascal_mean.specs.Predeclared.{Item}
use Rattle.pascal_mean.specs.Scope.{found}
use Rattle.pascal_evaluate.specs.SeenNames.{means_or_nothing}

-- row by row, as a table of the code is searched
abbrev pub named_in : List Item → List ℕ → Means
named_in [] x = meant.Nothing
named_in (i ∷ more) x = cond (bytes_eq i.letters x) i.means (named_in more x)

means_of_first : (b : Bool) (m : Means) (q : Option Means) → cond b m (means_or_nothing q) ≡ means_or_nothing (cond b (Some m) q)
means_of_first true m q = refl
means_of_first false m q = refl

pub named_is : (items : List Item) (x : List ℕ) → named_in items x ≡ means_or_nothing (found items x)
named_is [] x = refl
named_is (i ∷ more) x =
    ap (λ m. cond (bytes_eq i.letters x) i.means m) (named_is more x)
    ∙ means_of_first (bytes_eq i.letters x) i.means (found more x)
