-- One word at a want of an expression: the parts that are wanted after it make, with it, what was wanted.
use Rattle.std.proofs.Common.{ℕ, ◌-◌, ◌≤◌, List, [], ◌∷◌, ◌++◌, Option, Some, None, option_map, refl, ap, ◌∙◌, append_assoc, arith}
use Rattle.pascal_tree.specs.Word.{Spot}
use Rattle.pascal_tree.specs.Expression.{alone, compared, simple, no_addend, addend, term, no_multiplier, multiplier, number, character, named, element, called, group, negated, index, arguments, no_expr, next_expr}
use Rattle.pascal_tree.specs.SpellExpression.{reserved_at, symbol_at, number_at, character_at, sign_symbol, spelled_expr, spelled_factor}
use Rattle.pascal_tree.specs.declared.token.Reserved.TheVariants as reserved
use Rattle.pascal_tree.specs.declared.token.Symbol.TheVariants as symbol
use Rattle.pascal_tree.specs.declared.expression.Relation.{Relation}
use Rattle.pascal_tree.specs.declared.expression.Sign.{Sign}
use Rattle.pascal_tree.specs.declared.expression.Adding.{Adding}
use Rattle.pascal_tree.specs.declared.expression.Multiplying.{Multiplying}
use Rattle.pascal_read.specs.ParseWants.{Want, Step, took, skip, no, begun, extended, inner, deeper, or_else, if_some, factor_begins, term_begins, simple_begins, expr_begins, behind_name_step, want_step, relation_of, sign_of, adding_of, multiplying_of, is_symbol, is_reserved, is_name, is_number, is_character}
use Rattle.pascal_read.specs.ParseWants as want
use Rattle.pascal_read.proofs.ParseSpells.{Makes, IsRight, Reads, AllRead, AreInner, AreInner-append, split_read}
use Rattle.pascal_read.proofs.ParseSpellsCases.{if_symbol, if_reserved, if_name, if_number, if_character, if_two, if_relation, if_sign, if_adding, if_multiplying}

-- the same of what the first word of a part leaves to be read
abbrev pub BeginsRight : Want → Spot → Option (List Want) → Type 0
BeginsRight x t None = Unit {0}
BeginsRight x t (Some more) = Makes x t more

pub right_begun : (x : Want) (t : Spot) (o : Option (List Want)) → BeginsRight x t o → IsRight x t (begun o)
right_begun x t None b = tt
right_begun x t (Some more) b = b

-- a part of a part, and what is wanted behind it
extend : (x y : Want) (t : Spot) (rest : List Want) (o : Option (List Want)) → AreInner rest →
    ((before middle after : List Spot) → Reads y before middle → AllRead rest middle after → Reads x before after) →
    BeginsRight y t o → BeginsRight x t (extended o rest)
extend x y t rest None i f b = tt
extend x y t rest (Some more) i f b = record {
  inner = AreInner-append more rest b.inner i;
  joins = λ middle after r.
      let s = split_read more rest middle after r in
      f (t ∷ middle) s.0 after (b.joins middle s.0 s.1) s.2;
}

factor_group : (n line : ℕ) → 2 ≤ n → Makes (want.factor n) (symbol_at symbol.Open line) (want.expr (n - 1) ∷ (want.mark symbol.Close ∷ []))
factor_group n line h = record {
  inner = (omega arith, (tt, tt));
  joins = λ middle after r. record {
    part = group line r.1.part r.2.1.part;
    keeps = (omega arith, r.1.keeps);
    is = simp (r.1.is, r.2.1.is, r.2.2, append_assoc) refl;
  };
}

pub factor_right : (n : ℕ) (t : Spot) → 1 ≤ n → BeginsRight (want.factor n) t (factor_begins n t.word)
factor_right n t h =
    let P : Spot → Option (List Want) → Type 0 = λ u o. BeginsRight (want.factor n) u o in
    if_number P t _ _ (λ x. record { inner = tt; joins = λ middle after r. record { part = number x; keeps = h; is = ap (λ s. number_at x ∷ s) r } })
    (if_character P t _ _ (λ x. record { inner = tt; joins = λ middle after r. record { part = character x; keeps = h; is = ap (λ s. character_at x ∷ s) r } })
    (if_name P t _ _ (λ x. record { inner = (h, tt); joins = λ middle after r. let f = r.1 x in record { part = f.part; keeps = f.keeps; is = f.is ∙ ap (λ s. spelled_factor f.part ++ s) r.2 } })
    (if_symbol P t symbol.Open _ _ (λ line. if_two (λ o. P (symbol_at symbol.Open line) o) n _ _ (λ two. factor_group n line two) tt)
    (if_reserved P t reserved.Not _ _
    (λ line. if_two (λ o. P (reserved_at reserved.Not line) o) n _ _
    (λ two. record {
      inner = (omega arith, tt);
      joins = λ middle after r. record {
        part = negated line r.1.part;
        keeps = (h, r.1.keeps);
        is = simp (r.1.is, r.2) refl;
      };
    }) tt)
    (λ other. tt)))))

pub term_right : (n : ℕ) (t : Spot) → 1 ≤ n → BeginsRight (want.term n) t (term_begins n t.word)
term_right n t h =
    extend (want.term n) (want.factor n) t (want.multipliers n ∷ []) (factor_begins n t.word) (h, tt)
    (λ before middle after f m. record {
      part = term f.part m.1.part;
      keeps = (f.keeps, m.1.keeps);
      is = simp (f.is, m.1.is, m.2, append_assoc) refl;
    })
    (factor_right n t h)

signed : (n line : ℕ) (s : Sign) → 1 ≤ n → Makes (want.simple n) (symbol_at (sign_symbol s) line) (want.term n ∷ (want.addends n ∷ []))
signed n line s h = record {
  inner = (h, (h, tt));
  joins = λ middle after r. record {
    part = simple (Some (s, line)) r.1.part r.2.1.part;
    keeps = (r.1.keeps, r.2.1.keeps);
    is = simp (r.1.is, r.2.1.is, r.2.2, append_assoc) refl;
  };
}

pub simple_right : (n : ℕ) (t : Spot) → 1 ≤ n → BeginsRight (want.simple n) t (simple_begins n t.word)
simple_right n t h =
    let P : Spot → Option Sign → Type 0 = λ u o.
    BeginsRight (want.simple n) u (or_else (option_map (λ s. want.term n ∷ (want.addends n ∷ [])) o) (extended (term_begins n t.word) (want.addends n ∷ []))) in
    if_sign P t (λ s line. signed n line s h)
    (extend (want.simple n) (want.term n) t (want.addends n ∷ []) (term_begins n t.word) (h, tt)
    (λ before middle after x a. record {
      part = simple None x.part a.1.part;
      keeps = (x.keeps, a.1.keeps);
      is = simp (x.is, a.1.is, a.2, append_assoc) refl;
    })
    (term_right n t h))

pub expr_right : (n : ℕ) (t : Spot) → 1 ≤ n → BeginsRight (want.expr n) t (expr_begins n t.word)
expr_right n t h =
    extend (want.expr n) (want.simple n) t (want.relation n ∷ []) (simple_begins n t.word) (h, tt)
    (λ before middle after s r.
    let e = r.1 s.part s.keeps in
    record {
      part = e.part;
      keeps = e.keeps;
      is = s.is ∙ e.is ∙ ap (λ u. spelled_expr e.part ++ u) r.2;
    })
    (simple_right n t h)

pub relation_right : (n : ℕ) (t : Spot) → 1 ≤ n → IsRight (want.relation n) t (if_some (relation_of t.word) (took (want.simple n ∷ [])) skip)
relation_right n t h =
    let P : Spot → Option Relation → Type 0 = λ u o. IsRight (want.relation n) u (if_some o (took (want.simple n ∷ [])) skip) in
    if_relation P t
    (λ r line. record {
      inner = (h, tt);
      joins = λ middle after x s fits. record {
        part = compared s r line x.1.part;
        keeps = (fits, x.1.keeps);
        is = simp (x.1.is, x.2, append_assoc) refl;
      };
    })
    (λ after s fits. record { part = alone s; keeps = fits; is = refl })

pub addends_right : (n : ℕ) (t : Spot) → 1 ≤ n → IsRight (want.addends n) t (if_some (adding_of t.word) (took (want.term n ∷ (want.addends n ∷ []))) skip)
addends_right n t h =
    let P : Spot → Option Adding → Type 0 = λ u o. IsRight (want.addends n) u (if_some o (took (want.term n ∷ (want.addends n ∷ []))) skip) in
    if_adding P t
    (λ a line. record {
      inner = (h, (h, tt));
      joins = λ middle after r. record {
        part = addend a line r.1.part r.2.1.part;
        keeps = (r.1.keeps, r.2.1.keeps);
        is = simp (r.1.is, r.2.1.is, r.2.2, append_assoc) refl;
      };
    })
    (λ after. record { part = no_addend; keeps = tt; is = refl })

pub multipliers_right : (n : ℕ) (t : Spot) → 1 ≤ n → IsRight (want.multipliers n) t (if_some (multiplying_of t.word) (took (want.factor n ∷ (want.multipliers n ∷ []))) skip)
multipliers_right n t h =
    let P : Spot → Option Multiplying → Type 0 = λ u o. IsRight (want.multipliers n) u (if_some o (took (want.factor n ∷ (want.multipliers n ∷ []))) skip) in
    if_multiplying P t
    (λ m line. record {
      inner = (h, (h, tt));
      joins = λ middle after r. record {
        part = multiplier m line r.1.part r.2.1.part;
        keeps = (r.1.keeps, r.2.1.keeps);
        is = simp (r.1.is, r.2.1.is, r.2.2, append_assoc) refl;
      };
    })
    (λ after. record { part = no_multiplier; keeps = tt; is = refl })

element_right : (n line : ℕ) → 2 ≤ n → Makes (want.behind_name n) (symbol_at symbol.OpenIndex line) (want.expr (n - 1) ∷ (want.mark symbol.CloseIndex ∷ []))
element_right n line h = record {
  inner = (omega arith, (tt, tt));
  joins = λ middle after r x. record {
    part = element x (index line r.1.part r.2.1.part);
    keeps = (omega arith, r.1.keeps);
    is = simp (r.1.is, r.2.1.is, r.2.2, append_assoc) refl;
  };
}

called_right : (n line : ℕ) → 2 ≤ n → Makes (want.behind_name n) (symbol_at symbol.Open line) (want.expr (n - 1) ∷ (want.more_exprs (n - 1) ∷ (want.mark symbol.Close ∷ [])))
called_right n line h = record {
  inner = (omega arith, (omega arith, (tt, tt)));
  joins = λ middle after r x. record {
    part = called x (arguments line r.1.part r.2.1.part r.2.2.1.part);
    keeps = (omega arith, (r.1.keeps, r.2.1.keeps));
    is = simp (r.1.is, r.2.1.is, r.2.2.1.is, r.2.2.2, append_assoc) refl;
  };
}

pub behind_name_right : (n : ℕ) (t : Spot) → 1 ≤ n → IsRight (want.behind_name n) t (behind_name_step n t.word)
behind_name_right n t h =
    let P : Spot → Step → Type 0 = λ u s. IsRight (want.behind_name n) u s in
    if_symbol P t symbol.OpenIndex _ _ (λ line. if_two (λ s. P (symbol_at symbol.OpenIndex line) s) n _ _ (λ two. element_right n line two) tt)
    (if_symbol P t symbol.Open _ _ (λ line. if_two (λ s. P (symbol_at symbol.Open line) s) n _ _ (λ two. called_right n line two) tt)
    (λ after x. record { part = named x; keeps = h; is = refl }))

pub more_exprs_right : (n : ℕ) (t : Spot) → 1 ≤ n → IsRight (want.more_exprs n) t (want_step (want.more_exprs n) t.word)
more_exprs_right n t h =
    let P : Spot → Step → Type 0 = λ u s. IsRight (want.more_exprs n) u s in
    if_symbol P t symbol.Comma _ _
    (λ line. record {
      inner = (h, (h, tt));
      joins = λ middle after r. record {
        part = next_expr line r.1.part r.2.1.part;
        keeps = (r.1.keeps, r.2.1.keeps);
        is = simp (r.1.is, r.2.1.is, r.2.2, append_assoc) refl;
      };
    })
    (λ after. record { part = no_expr; keeps = tt; is = refl })
