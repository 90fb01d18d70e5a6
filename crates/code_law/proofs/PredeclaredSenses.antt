-- Names that every program may use, to the rules and to the code.
use Rattle.std.proofs.Common.{◌≡◌, ℕ, Bool, true, false, List, [], ◌∷◌, Option, Some, pos, refl, sym, subst, true≢false, ◌∙◌, arith}
use Rattle.std.specs.Prelude.{drop, bytes_eq, codes, if◌then◌else◌}
use Rattle.std.proofs.lemmas.Slice.Eq.{bytes_eq-Decides}
use Rattle.pascal_tree.specs.Scopes as rules
use Rattle.pascal_tree.specs.Scopes.{Declared, named_as}
use Rattle.pascal_tree.specs.declared.means.Means.{Means}
use Rattle.pascal_tree.specs.declared.means.Means.TheVariants as means
use Rattle.pascal_tree.specs.declared.scalar.Scalar.TheVariants as scalar
use Rattle.pascal_mean.specs.Means as meant
use Rattle.pascal_mean.specs.Predeclared.{Item}
use Rattle.pascal_mean.specs.Predeclared as meaning
use Rattle.pascal_mean.specs.Scope.{found}
use Rattle.code_law.specs.Suits.{Routines}
use Rattle.code_law.proofs.Numbers.{held}
use Rattle.code_law.proofs.Senses.{IsMeant, IsAlike, IsFound, AreAlike, turned, found_before, found_alike}

-- FALSE and TRUE, which stand the other way round in the meaning
abbrev false_declared : Declared
false_declared = named_as (codes "FALSE") (means.Constant scalar.Boolean (pos 0))

abbrev true_declared : Declared
true_declared = named_as (codes "TRUE") (means.Constant scalar.Boolean (pos 1))

abbrev false_item : Item
false_item = record { letters = codes "FALSE"; means = meant.Constant meant.Boolean (pos 0) }

abbrev true_item : Item
true_item = record { letters = codes "TRUE"; means = meant.Constant meant.Boolean (pos 1) }

-- the types before these two, and what stands behind them
abbrev rule_types : List Declared
rule_types =
    named_as (codes "INTEGER") (means.TypeName scalar.Integer) ∷ named_as (codes "BOOLEAN") (means.TypeName scalar.Boolean)
    ∷ named_as (codes "CHAR") (means.TypeName scalar.Character) ∷ []

abbrev rule_others : List Declared
rule_others = drop 5 rules.predeclared

abbrev other_items : List Item
other_items = drop 5 meaning.predeclared

module _ (rs : Routines) where
  false_alike : IsAlike rs false_declared false_item
  false_alike = record { name = refl; is = λ a. (refl, (held 0 (omega arith), held 0 (omega arith))); words = refl }

  true_alike : IsAlike rs true_declared true_item
  true_alike = record { name = refl; is = λ a. (refl, (held 1 (omega arith), held 1 (omega arith))); words = refl }

  types_alike : AreAlike rs rule_types meaning.predeclared_types
  types_alike = (
    record { name = refl; is = λ a. tt; words = refl },
    (
      record { name = refl; is = λ a. tt; words = refl },
      (record { name = refl; is = λ a. tt; words = refl }, tt),
    ),
  )

  others_alike : AreAlike rs rule_others other_items
  others_alike = (
    record { name = refl; is = λ a. (refl, (held 10 (omega arith), held 10 (omega arith))); words = refl },
    (
      record { name = refl; is = λ a. (refl, (held 25 (omega arith), held 25 (omega arith))); words = refl },
      (
        record { name = refl; is = λ a. (refl, (tt, tt)); words = refl },
        (
          record { name = refl; is = λ a. (refl, (tt, tt)); words = refl },
          (
            record { name = refl; is = λ a. (refl, (tt, tt)); words = refl },
            (
              record { name = refl; is = λ a. (refl, (tt, tt)); words = refl },
              (
                record { name = refl; is = λ a. (refl, (tt, tt)); words = refl },
                (
                  record { name = refl; is = λ a. (refl, (tt, tt)); words = refl },
                  (
                    record { name = refl; is = λ a. (refl, (tt, tt)); words = refl },
                    (
                      record { name = refl; is = λ a. (refl, (tt, tt)); words = refl },
                      (
                        record { name = refl; is = λ a. (refl, (tt, tt)); words = refl },
                        (
                          record { name = refl; is = λ a. (refl, (tt, tt)); words = refl },
                          (
                            record { name = refl; is = λ a. (refl, (tt, ((tt, refl), (tt, tt)))); words = refl },
                            (
                              record { name = refl; is = λ a. (refl, (tt, tt)); words = refl },
                              (
                                record { name = refl; is = λ a. (refl, (tt, (tt, ((tt, refl), tt)))); words = refl },
                                (
                                  record { name = refl; is = λ a. (refl, (tt, (tt, ((tt, refl), tt)))); words = refl },
                                  (
                                    record { name = refl; is = λ a. ((refl, refl), (tt, tt)); words = refl },
                                    (
                                      record { name = refl; is = λ a. (refl, ((tt, refl), (tt, (tt, tt)))); words = refl },
                                      (
                                        record { name = refl; is = λ a. (refl, (tt, (tt, ((tt, refl), tt)))); words = refl },
                                        (
                                          record { name = refl; is = λ a. (refl, (tt, (tt, ((tt, refl), tt)))); words = refl },
                                          (
                                            record { name = refl; is = λ a. (refl, ((tt, refl), (tt, (tt, tt)))); words = refl },
                                            tt,
                                          ),
                                        ),
                                      ),
                                    ),
                                  ),
                                ),
                              ),
                            ),
                          ),
                        ),
                      ),
                    ),
                  ),
                ),
              ),
            ),
          ),
        ),
      ),
    ),
  )

  -- two that stand the other way round have different names
  either_first : (b c : Bool) → (b ≡ true → c ≡ true → ⊥) → (m n : Means) (u v : meant.Means) → IsMeant rs (Some m) u → IsMeant rs (Some n) v
      → (o : Option Means) (p : Option meant.Means) → IsFound rs o p
      → IsFound rs (if b then Some m else (if c then Some n else o)) (if c then Some v else (if b then Some u else p))
  either_first true true apart m n u v h i o p j = absurd (apart refl refl)
  either_first true false apart m n u v h i o p j = h
  either_first false true apart m n u v h i o p j = i
  either_first false false apart m n u v h i o p j = j

  truths_found : (x : List ℕ) → (ds : List Declared) (is : List Item) → IsFound rs (rules.found ds x) (found is x)
      → IsFound rs (rules.found (false_declared ∷ true_declared ∷ ds) x) (found (true_item ∷ false_item ∷ is) x)
  truths_found x ds is h =
      let b = bytes_eq x (codes "FALSE") in
      let c = bytes_eq x (codes "TRUE") in
      let P : Bool → Bool → Type 0 = λ d e.
      IsFound rs (if b then Some false_declared.means else (if c then Some true_declared.means else rules.found ds x))
      (if e then Some true_item.means else (if d then Some false_item.means else found is x)) in
      subst (λ d. P d (bytes_eq (codes "TRUE") x)) (turned x (codes "FALSE"))
      (subst (λ e. P b e) (turned x (codes "TRUE"))
      (either_first b c apart false_declared.means true_declared.means false_item.means true_item.means false_alike.is true_alike.is
      (rules.found ds x) (found is x) h))
    where
      apart : bytes_eq x (codes "FALSE") ≡ true → bytes_eq x (codes "TRUE") ≡ true → ⊥
      apart f t =
          let same : codes "FALSE" ≡ codes "TRUE" = sym ((bytes_eq-Decides x (codes "FALSE")).0 f) ∙ (bytes_eq-Decides x (codes "TRUE")).0 t in
          true≢false (sym ((bytes_eq-Decides (codes "FALSE") (codes "TRUE")).1 same))

  pub predeclared_found : (x : List ℕ) → IsFound rs (rules.found rules.predeclared x) (found meaning.predeclared x)
  predeclared_found x =
      found_before rs rule_types (false_declared ∷ true_declared ∷ rule_others) meaning.predeclared_types (true_item ∷ false_item ∷ other_items) x types_alike
      (truths_found x rule_others other_items (found_alike rs rule_others other_items x others_alike))
