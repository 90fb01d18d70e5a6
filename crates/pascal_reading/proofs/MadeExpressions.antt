-- One word at a want of an expression makes, with the parts that are wanted behind it, what was wanted.
use Rattle.std.proofs.Common.{ℕ, ◌≤◌, List, [], ◌∷◌, ◌++◌, Option, Some, None, option_map, refl, ap, ◌∙◌, append_assoc, arith}
use Rattle.pascal_tree.specs.Word.{Spot, NameAt}
use Rattle.pascal_tree.specs.Expression.{Expr, alone, compared, Simple, simple, Addends, no_addend, addend, term, Multipliers, no_multiplier, multiplier, Factor, Exprs}
use Rattle.pascal_tree.specs.SpellExpression.{reserved_at, symbol_at, number_at, character_at, spelled_expr, spelled_factor}
use Rattle.pascal_tree.specs.declared.token.Reserved.TheVariants as reserved
use Rattle.pascal_tree.specs.declared.token.Symbol.TheVariants as symbol
use Rattle.pascal_read.specs.ParseWants.{Want, Step, took, skip, begun, extended, or_else, if_some, want_step, behind_name_step, factor_begins, term_begins, simple_begins, expr_begins, sign_of}
use Rattle.pascal_read.specs.ParseWants as want
use Rattle.pascal_reading.specs.Parts.{PartOf, PartsOf, first_parts, later_parts}
use Rattle.pascal_reading.specs.Making.{Makes, BeginsPart, made_begun, extend, when_some, signed_simple, factor_made, term_made, simple_made, expr_made, behind_name_made, making}
use Rattle.pascal_reading.proofs.PartsRead.{IsRead, AreRead, HaveLevels, levels_append, both_read, IsMade, IsRight}
use Rattle.pascal_reading.proofs.WordCases.{by_symbol, by_reserved, by_name, by_number, by_character, by_level, by_relation, by_sign, by_adding, by_multiplying}

-- the same of what the first word of a part leaves to be read
abbrev pub BeginsRight : (x : Want) → Spot → (o : Option (List Want)) → BeginsPart (PartOf x) o → Type 0
BeginsRight x t None b = Unit {0}
BeginsRight x t (Some more) b = IsMade x t more b

pub right_begun : (x : Want) (t : Spot) (o : Option (List Want)) (b : BeginsPart (PartOf x) o) → BeginsRight x t o b
    → IsRight x t (begun o) (made_begun (PartOf x) o b)
right_begun x t None b r = tt
right_begun x t (Some more) b r = r

-- a part of a part, and what is wanted behind it
extended_right : (x y : Want) (t : Spot) (rest : List Want) (o : Option (List Want)) (f : PartOf y → PartsOf rest → PartOf x) (b : BeginsPart (PartOf y) o)
    → HaveLevels rest
    → ((part : PartOf y) (p : PartsOf rest) (before middle after : List Spot) → IsRead y part before middle → AreRead rest p middle after
    → IsRead x (f part p) before after)
    → BeginsRight y t o b → BeginsRight x t (extended o rest) (extend rest o f b)
extended_right x y t rest None f b l joins r = tt
extended_right x y t rest (Some more) f b l joins r = (
  levels_append more rest r.0 l,
  λ p middle after are.
      let s = both_read more rest p middle after are in
      let first = first_parts more rest p in
      joins (b first) (later_parts more rest p) (t ∷ middle) s.0 after (r.1 first middle s.0 s.1) s.2,
)

pub factor_right : (n : ℕ) (t : Spot) → 1 ≤ n → BeginsRight (want.factor n) t (factor_begins n t.word) (factor_made n t)
factor_right n t h =
    let P : Option (List Want) → Type 0 = λ o. BeginsPart Factor o in
    let Q : Spot → (o : Option (List Want)) → BeginsPart Factor o → Type 0 = λ u o b. BeginsRight (want.factor n) u o b in
    by_number P Q t _ _ _ _ (λ x. (tt, λ p middle after r. record { keeps = h; is = ap (λ s. number_at x ∷ s) r }))
    (by_character P Q t _ _ _ _ (λ x. (tt, λ p middle after r. record { keeps = h; is = ap (λ s. character_at x ∷ s) r }))
    (by_name P Q t _ _ _ _
    (λ x. (
      (h, tt),
      λ p middle after r.
          let f = r.1 x in
          record { keeps = f.keeps; is = f.is ∙ ap (λ s. spelled_factor (p.0 x) ++ s) r.2 },
    ))
    (by_symbol P Q t symbol.Open _ _ _ _
    (by_level P (Q (symbol_at symbol.Open t.line)) n _ _ _ _
    (λ two. (
      (omega arith, (tt, tt)),
      λ p middle after r. record {
        keeps = (omega arith, r.1.keeps);
        is = simp (r.1.is, r.2.1.is, r.2.2, append_assoc) refl;
      },
    )) tt)
    (by_reserved P Q t reserved.Not _ _ _ _
    (by_level P (Q (reserved_at reserved.Not t.line)) n _ _ _ _
    (λ two. ((omega arith, tt), λ p middle after r. record { keeps = (h, r.1.keeps); is = simp (r.1.is, r.2) refl })) tt)
    (λ other. tt)))))

pub term_right : (n : ℕ) (t : Spot) → 1 ≤ n → BeginsRight (want.term n) t (term_begins n t.word) (term_made n t)
term_right n t h =
    extended_right (want.term n) (want.factor n) t (want.multipliers n ∷ []) (factor_begins n t.word) (λ f r. term f r.0) (factor_made n t) (h, tt)
    (λ f p before middle after is more. record {
      keeps = (is.keeps, more.1.keeps);
      is = simp (is.is, more.1.is, more.2, append_assoc) refl;
    })
    (factor_right n t h)

-- a sign that stands before the first term
signed_right : (n : ℕ) (t : Spot) (o : Option (List Want)) (b : BeginsPart Simple o) → 1 ≤ n → BeginsRight (want.simple n) t o b
    → BeginsRight (want.simple n) t (or_else (option_map (λ s. want.term n ∷ (want.addends n ∷ [])) (sign_of t.word)) o)
    (signed_simple n t.line (sign_of t.word) o b)
signed_right n t o b h right =
    by_sign (λ u s. BeginsRight (want.simple n) u o b
    → BeginsRight (want.simple n) u (or_else (option_map (λ z. want.term n ∷ (want.addends n ∷ [])) s) o) (signed_simple n t.line s o b)) t
    (λ s none. (
      (h, (h, tt)),
      λ p middle after r. record {
        keeps = (r.1.keeps, r.2.1.keeps);
        is = simp (r.1.is, r.2.1.is, r.2.2, append_assoc) refl;
      },
    ))
    (λ none. none) right

pub simple_right : (n : ℕ) (t : Spot) → 1 ≤ n → BeginsRight (want.simple n) t (simple_begins n t.word) (simple_made n t)
simple_right n t h =
    signed_right n t (extended (term_begins n t.word) (want.addends n ∷ []))
    (extend (want.addends n ∷ []) (term_begins n t.word) (λ x r. simple None x r.0) (term_made n t)) h
    (extended_right (want.simple n) (want.term n) t (want.addends n ∷ []) (term_begins n t.word) (λ x r. simple None x r.0) (term_made n t) (h, tt)
    (λ x p before middle after is more. record {
      keeps = (is.keeps, more.1.keeps);
      is = simp (is.is, more.1.is, more.2, append_assoc) refl;
    })
    (term_right n t h))

pub expr_right : (n : ℕ) (t : Spot) → 1 ≤ n → BeginsRight (want.expr n) t (expr_begins n t.word) (expr_made n t)
expr_right n t h =
    extended_right (want.expr n) (want.simple n) t (want.relation n ∷ []) (simple_begins n t.word) (λ s r. r.0 s) (simple_made n t) (h, tt)
    (λ s p before middle after is more.
    let e = more.1 s is.keeps in
    record {
      keeps = e.keeps;
      is = is.is ∙ e.is ∙ ap (λ u. spelled_expr (p.0 s) ++ u) more.2;
    })
    (simple_right n t h)

pub relation_right : (n : ℕ) (t : Spot) → 1 ≤ n → IsRight (want.relation n) t (want_step (want.relation n) t.word) (making (want.relation n) t)
relation_right n t h =
    let P : Step → Type 0 = λ s. Makes (Simple → Expr) s in
    by_relation (λ u o. IsRight (want.relation n) u (if_some o (took (want.simple n ∷ [])) skip)
    (when_some P o (took (want.simple n ∷ [])) skip (λ c r s. compared s c t.line r.0) (λ s. alone s))) t
    (λ c. (
      (h, tt),
      λ p middle after r s fits. record {
        keeps = (fits, r.1.keeps);
        is = simp (r.1.is, r.2, append_assoc) refl;
      },
    ))
    (λ after s fits. record { keeps = fits; is = refl })

pub addends_right : (n : ℕ) (t : Spot) → 1 ≤ n → IsRight (want.addends n) t (want_step (want.addends n) t.word) (making (want.addends n) t)
addends_right n t h =
    let P : Step → Type 0 = λ s. Makes Addends s in
    by_adding (λ u o. IsRight (want.addends n) u (if_some o (took (want.term n ∷ (want.addends n ∷ []))) skip)
    (when_some P o (took (want.term n ∷ (want.addends n ∷ []))) skip (λ a r. addend a t.line r.0 r.1.0) no_addend)) t
    (λ a. (
      (h, (h, tt)),
      λ p middle after r. record {
        keeps = (r.1.keeps, r.2.1.keeps);
        is = simp (r.1.is, r.2.1.is, r.2.2, append_assoc) refl;
      },
    ))
    (λ after. record { keeps = tt; is = refl })

pub multipliers_right : (n : ℕ) (t : Spot) → 1 ≤ n
    → IsRight (want.multipliers n) t (want_step (want.multipliers n) t.word) (making (want.multipliers n) t)
multipliers_right n t h =
    let P : Step → Type 0 = λ s. Makes Multipliers s in
    by_multiplying (λ u o. IsRight (want.multipliers n) u (if_some o (took (want.factor n ∷ (want.multipliers n ∷ []))) skip)
    (when_some P o (took (want.factor n ∷ (want.multipliers n ∷ []))) skip (λ m r. multiplier m t.line r.0 r.1.0) no_multiplier)) t
    (λ m. (
      (h, (h, tt)),
      λ p middle after r. record {
        keeps = (r.1.keeps, r.2.1.keeps);
        is = simp (r.1.is, r.2.1.is, r.2.2, append_assoc) refl;
      },
    ))
    (λ after. record { keeps = tt; is = refl })

pub behind_name_right : (n : ℕ) (t : Spot) → 1 ≤ n → IsRight (want.behind_name n) t (behind_name_step n t.word) (behind_name_made n t)
behind_name_right n t h =
    let P : Step → Type 0 = λ s. Makes (NameAt → Factor) s in
    let Q : Spot → (s : Step) → Makes (NameAt → Factor) s → Type 0 = λ u s m. IsRight (want.behind_name n) u s m in
    by_symbol P Q t symbol.OpenIndex _ _ _ _
    (by_level P (Q (symbol_at symbol.OpenIndex t.line)) n _ _ _ _
    (λ two. (
      (omega arith, (tt, tt)),
      λ p middle after r x. record {
        keeps = (omega arith, r.1.keeps);
        is = simp (r.1.is, r.2.1.is, r.2.2, append_assoc) refl;
      },
    )) tt)
    (by_symbol P Q t symbol.Open _ _ _ _
    (by_level P (Q (symbol_at symbol.Open t.line)) n _ _ _ _
    (λ two. (
      (omega arith, (omega arith, (tt, tt))),
      λ p middle after r x. record {
        keeps = (omega arith, (r.1.keeps, r.2.1.keeps));
        is = simp (r.1.is, r.2.1.is, r.2.2.1.is, r.2.2.2, append_assoc) refl;
      },
    )) tt)
    (λ after x. record { keeps = h; is = refl }))

pub more_exprs_right : (n : ℕ) (t : Spot) → 1 ≤ n → IsRight (want.more_exprs n) t (want_step (want.more_exprs n) t.word) (making (want.more_exprs n) t)
more_exprs_right n t h =
    by_symbol (λ s. Makes Exprs s) (λ u s m. IsRight (want.more_exprs n) u s m) t symbol.Comma _ _ _ _ (
      (h, (h, tt)),
      λ p middle after r. record {
        keeps = (r.1.keeps, r.2.1.keeps);
        is = simp (r.1.is, r.2.1.is, r.2.2, append_assoc) refl;
      },
    )
    (λ after. record { keeps = tt; is = refl })
