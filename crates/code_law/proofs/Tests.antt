-- What tests say that broke no rule.
use Rattle.std.proofs.Common.{◌≡◌, Bool, true, false, not, ◌&&◌, ◌||◌, ◌∷◌, Option, Some, None, is_some, refl, ap, true≢false}
use Rattle.pascal_tree.specs.ExpressionRules.{Judged}
use Rattle.pascal_tree.specs.DeclarationRules.{first_broken}
use Rattle.pascal_tree.specs.declared.broken.Broken.{Broken}

pub never : {A B : Type 0} {x : A} → Some x ≡ None → B
never h = absurd (true≢false (ap is_some h))

pub parted : (o : Option Broken) (more : Judged) → first_broken (o ∷ more) ≡ None → (o ≡ None) × (first_broken more ≡ None)
parted None more h = (refl, h)
parted (Some b) more h = never h

pub not_so : {B : Type 0} → false ≡ true → B
not_so h = absurd (true≢false (by h))
  where
    by : false ≡ true → true ≡ false
    by e = cc

pub is_none : {A : Type 0} (o : Option A) → is_some o ≡ false → o ≡ None
is_none None h = refl
is_none (Some x) h = absurd (true≢false h)

pub is_so : (b : Bool) → not b ≡ false → b ≡ true
is_so true h = refl
is_so false h = absurd (true≢false h)

pub both_so : (a b : Bool) → (a && b) ≡ true → (a ≡ true) × (b ≡ true)
both_so true b h = (refl, h)
both_so false b h = not_so h

pub neither_so : (a b : Bool) → (a || b) ≡ false → (a ≡ false) × (b ≡ false)
neither_so true b h = absurd (true≢false h)
neither_so false b h = (refl, h)
