-- One word at a want of a statement: the parts that are wanted after it make, with it, what was wanted.
use Rattle.std.proofs.Common.{◌≡◌, ℕ, ◌-◌, ◌≤◌, false, List, [], ◌∷◌, Some, None, inl, inr, refl, sym, ap, subst, ◌∙◌, append_assoc, arith}
use Rattle.pascal_tree.specs.Word.{Spot}
use Rattle.pascal_tree.specs.Statement.{empty, assign, call, compound, if_then, if_else, while_do, repeat_until, for_do, case_of, body, sequence, no_statement, next_statement, branch, no_branch, next_branch}
use Rattle.pascal_tree.specs.Expression.{index, arguments}
use Rattle.pascal_tree.specs.SpellExpression.{reserved_at, name_at}
use Rattle.pascal_tree.specs.declared.statement.Direction.TheVariants as directions
use Rattle.pascal_tree.specs.declared.token.Reserved.{Reserved}
use Rattle.pascal_tree.specs.declared.token.Reserved.TheVariants as reserved
use Rattle.pascal_tree.specs.declared.token.Symbol.{Symbol}
use Rattle.pascal_tree.specs.declared.token.Symbol.TheVariants as symbol
use Rattle.pascal_read.specs.ParseWants.{Want, Step, took, skip, no, statement_step, behind_first_name_step, want_step, case_wants}
use Rattle.pascal_read.specs.ParseWants as want
use Rattle.pascal_read.proofs.ParseSpells.{AllRead, StatementPart, begins_else, Makes, IsRight}
use Rattle.pascal_read.proofs.ParseSpellsCases.{if_symbol, if_reserved, if_name, if_two}

abbrev begin_rest : ℕ → List Want
begin_rest m = want.statement m ∷ (want.more_statements m ∷ (want.reserved_word reserved.End ∷ []))

abbrev if_rest : ℕ → List Want
if_rest m = want.expr 64 ∷ (want.reserved_word reserved.Then ∷ (want.statement m ∷ (want.otherwise m ∷ [])))

abbrev while_rest : ℕ → List Want
while_rest m = want.expr 64 ∷ (want.reserved_word reserved.Do ∷ (want.statement m ∷ []))

abbrev repeat_rest : ℕ → List Want
repeat_rest m = want.statement m ∷ (want.more_statements m ∷ (want.reserved_word reserved.Until ∷ (want.expr 64 ∷ [])))

abbrev for_rest : ℕ → List Want
for_rest m =
    want.name ∷ (want.mark symbol.Becomes ∷ (want.expr 64 ∷ (want.direction ∷ (want.expr 64 ∷ (want.reserved_word reserved.Do ∷ (want.statement m ∷ []))))))

begin_makes : (n line : ℕ) → 2 ≤ n → Makes (want.statement n) (reserved_at reserved.Begin line) (begin_rest (n - 1))
begin_makes n line h = record {
  inner = (omega arith, (omega arith, (tt, tt)));
  joins = λ middle after r. record {
    part = compound (body line (sequence r.1.part r.2.1.part) r.2.2.1.part);
    keeps = ((omega arith, (r.1.keeps.0, r.2.1.keeps)), λ e. tt);
    is = simp (r.1.is, r.2.1.is, r.2.2.1.is, r.2.2.2, append_assoc) refl;
  };
}

-- an IF, with ELSE or without
if_joins : (n line : ℕ) (middle after : List Spot) → 2 ≤ n → AllRead (if_rest (n - 1)) middle after → StatementPart n (reserved_at reserved.If line ∷ middle) after
if_joins n line middle after h r =
    elim (r.2.2.2.1) as (λ o. StatementPart n (reserved_at reserved.If line ∷ middle) after) [
      | inl none ↦
          let without : begins_else after ≡ false = sym (ap begins_else r.2.2.2.2) ∙ none.1 in
          record {
            part = if_then line r.1.part r.2.1.part r.2.2.1.part;
            keeps = ((omega arith, r.1.keeps, r.2.2.1.keeps.0), λ e. absurd cc);
            is = simp (r.1.is, r.2.1.is, r.2.2.1.is, none.0, r.2.2.2.2, append_assoc) refl;
          }
      | inr e ↦ record {
        part = if_else line r.1.part r.2.1.part r.2.2.1.part e.part.0 e.part.1;
        keeps = ((omega arith, r.1.keeps, r.2.2.1.keeps.0, r.2.2.1.keeps.1 (ap begins_else e.is), e.keeps.0), λ i. e.keeps.1 (ap begins_else r.2.2.2.2 ∙ i));
        is = simp (r.1.is, r.2.1.is, r.2.2.1.is, e.is, r.2.2.2.2, append_assoc) refl;
      }
    ]

if_makes : (n line : ℕ) → 2 ≤ n → Makes (want.statement n) (reserved_at reserved.If line) (if_rest (n - 1))
if_makes n line h = record {
  inner = (omega arith, (tt, (omega arith, (omega arith, tt))));
  joins = λ middle after r. if_joins n line middle after h r;
}

while_makes : (n line : ℕ) → 2 ≤ n → Makes (want.statement n) (reserved_at reserved.While line) (while_rest (n - 1))
while_makes n line h = record {
  inner = (omega arith, (tt, (omega arith, tt)));
  joins = λ middle after r. record {
    part = while_do line r.1.part r.2.1.part r.2.2.1.part;
    keeps = ((omega arith, r.1.keeps, r.2.2.1.keeps.0), λ e. r.2.2.1.keeps.1 (ap begins_else r.2.2.2 ∙ e));
    is = simp (r.1.is, r.2.1.is, r.2.2.1.is, r.2.2.2, append_assoc) refl;
  };
}

repeat_makes : (n line : ℕ) → 2 ≤ n → Makes (want.statement n) (reserved_at reserved.Repeat line) (repeat_rest (n - 1))
repeat_makes n line h = record {
  inner = (omega arith, (omega arith, (tt, (omega arith, tt))));
  joins = λ middle after r. record {
    part = repeat_until line (sequence r.1.part r.2.1.part) r.2.2.1.part r.2.2.2.1.part;
    keeps = ((omega arith, (r.1.keeps.0, r.2.1.keeps), r.2.2.2.1.keeps), λ e. tt);
    is = simp (r.1.is, r.2.1.is, r.2.2.1.is, r.2.2.2.1.is, r.2.2.2.2, append_assoc) refl;
  };
}

for_makes : (n line : ℕ) → 2 ≤ n → Makes (want.statement n) (reserved_at reserved.For line) (for_rest (n - 1))
for_makes n line h = record {
  inner = (tt, (tt, (omega arith, (tt, (omega arith, (tt, (omega arith, tt)))))));
  joins = λ middle after r.
      let d = r.2.2.2.1.part in
      let s = r.2.2.2.2.2.2.1 in
      record {
        part = for_do line r.1.part r.2.1.part r.2.2.1.part d.0 d.1 r.2.2.2.2.1.part r.2.2.2.2.2.1.part s.part;
        keeps = ((omega arith, r.2.2.1.keeps, r.2.2.2.2.1.keeps, s.keeps.0), λ e. s.keeps.1 (ap begins_else r.2.2.2.2.2.2.2 ∙ e));
        is = simp (r.1.is, r.2.1.is, r.2.2.1.is, r.2.2.2.1.is, r.2.2.2.2.1.is, r.2.2.2.2.2.1.is, s.is, r.2.2.2.2.2.2.2, append_assoc) refl;
      };
}

case_makes : (n line : ℕ) → 2 ≤ n → Makes (want.statement n) (reserved_at reserved.Case line) (case_wants (n - 1))
case_makes n line h = record {
  inner = (omega arith, (tt, (tt, (tt, (tt, (omega arith, (omega arith, (tt, tt))))))));
  joins = λ middle after r.
      let l = r.2.2 in
      let s = l.2.2.2 in
      let m = s.2 in
      record {
        part = case_of line r.1.part r.2.1.part (branch (record { first = l.1.part; rest = l.2.1.part }) l.2.2.1.part s.1.part) m.1.part m.2.1.part;
        keeps = ((omega arith, r.1.keeps, s.1.keeps.0, m.1.keeps), λ e. tt);
        is = simp (r.1.is, r.2.1.is, l.1.is, l.2.1.is, l.2.2.1.is, s.1.is, m.1.is, m.2.1.is, m.2.2, append_assoc) refl;
      };
}

pub statement_right : (n : ℕ) (t : Spot) → 1 ≤ n → IsRight (want.statement n) t (statement_step n t.word)
statement_right n t h =
    let P : Spot → Step → Type 0 = λ u s. IsRight (want.statement n) u s in
    if_name P t _ _ (λ x. record { inner = (tt, tt); joins = λ middle after r. subst (λ m. StatementPart n (name_at x ∷ middle) m) r.2 (r.1 x n h) })
    (if_reserved P t reserved.Begin _ _ (λ line. if_two (λ s. P (reserved_at reserved.Begin line) s) n _ _ (begin_makes n line) tt) (λ o.
    if_reserved P t reserved.If _ _ (λ line. if_two (λ s. P (reserved_at reserved.If line) s) n _ _ (if_makes n line) tt) (λ o.
    if_reserved P t reserved.While _ _ (λ line. if_two (λ s. P (reserved_at reserved.While line) s) n _ _ (while_makes n line) tt) (λ o.
    if_reserved P t reserved.Repeat _ _ (λ line. if_two (λ s. P (reserved_at reserved.Repeat line) s) n _ _ (repeat_makes n line) tt) (λ o.
    if_reserved P t reserved.For _ _ (λ line. if_two (λ s. P (reserved_at reserved.For line) s) n _ _ (for_makes n line) tt) (λ o.
    if_reserved P t reserved.Case _ _ (λ line. if_two (λ s. P (reserved_at reserved.Case line) s) n _ _ (case_makes n line) tt) (λ o.
    λ after. record { part = empty; keeps = (h, λ e. tt); is = refl })))))))

pub behind_first_name_right : (t : Spot) → IsRight want.behind_first_name t (behind_first_name_step t.word)
behind_first_name_right t =
    let P : Spot → Step → Type 0 = λ u s. IsRight want.behind_first_name u s in
    if_symbol P t symbol.Becomes _ _
    (λ line. record {
      inner = (omega arith, tt);
      joins = λ middle after r x n h. record {
        part = assign x None line r.1.part;
        keeps = ((h, tt, r.1.keeps), λ e. tt);
        is = simp (r.1.is, r.2) refl;
      };
    })
    (if_symbol P t symbol.OpenIndex _ _
    (λ line. record {
      inner = (omega arith, (tt, (tt, (omega arith, tt))));
      joins = λ middle after r x n h. record {
        part = assign x (Some (index line r.1.part r.2.1.part)) r.2.2.1.part r.2.2.2.1.part;
        keeps = ((h, r.1.keeps, r.2.2.2.1.keeps), λ e. tt);
        is = simp (r.1.is, r.2.1.is, r.2.2.1.is, r.2.2.2.1.is, r.2.2.2.2, append_assoc) refl;
      };
    })
    (if_symbol P t symbol.Open _ _
    (λ line. record {
      inner = (omega arith, (omega arith, (tt, tt)));
      joins = λ middle after r x n h. record {
        part = call x (Some (arguments line r.1.part r.2.1.part r.2.2.1.part));
        keeps = ((h, (r.1.keeps, r.2.1.keeps)), λ e. tt);
        is = simp (r.1.is, r.2.1.is, r.2.2.1.is, r.2.2.2, append_assoc) refl;
      };
    })
    (λ after x n h. record { part = call x None; keeps = ((h, tt), λ e. tt); is = refl })))

pub otherwise_right : (n : ℕ) (t : Spot) → 1 ≤ n → IsRight (want.otherwise n) t (want_step (want.otherwise n) t.word)
otherwise_right n t h =
    let P : Spot → Step → Type 0 = λ u s. IsRight (want.otherwise n) u s in
    if_reserved P t reserved.Else _ _
    (λ line. record {
      inner = (h, tt);
      joins = λ middle after r. inr (record {
        part = (line, r.1.part);
        keeps = (r.1.keeps.0, λ e. r.1.keeps.1 (ap begins_else r.2 ∙ e));
        is = simp (r.1.is, r.2) refl;
      });
    })
    (λ other after. inl (refl, other))

pub more_statements_right : (n : ℕ) (t : Spot) → 1 ≤ n → IsRight (want.more_statements n) t (want_step (want.more_statements n) t.word)
more_statements_right n t h =
    let P : Spot → Step → Type 0 = λ u s. IsRight (want.more_statements n) u s in
    if_symbol P t symbol.Semicolon _ _
    (λ line. record {
      inner = (h, (h, tt));
      joins = λ middle after r. record {
        part = next_statement line r.1.part r.2.1.part;
        keeps = (r.1.keeps.0, r.2.1.keeps);
        is = simp (r.1.is, r.2.1.is, r.2.2, append_assoc) refl;
      };
    })
    (λ after. record { part = no_statement; keeps = tt; is = refl })

pub more_branches_right : (n : ℕ) (t : Spot) → 1 ≤ n → IsRight (want.more_branches n) t (want_step (want.more_branches n) t.word)
more_branches_right n t h =
    let P : Spot → Step → Type 0 = λ u s. IsRight (want.more_branches n) u s in
    if_symbol P t symbol.Semicolon _ _
    (λ line. record {
      inner = (tt, (tt, (tt, (h, (h, tt)))));
      joins = λ middle after r.
          let s = r.2.2.2 in
          record {
            part = next_branch line (branch (record { first = r.1.part; rest = r.2.1.part }) r.2.2.1.part s.1.part) s.2.1.part;
            keeps = (s.1.keeps.0, s.2.1.keeps);
            is = simp (r.1.is, r.2.1.is, r.2.2.1.is, s.1.is, s.2.1.is, s.2.2, append_assoc) refl;
          };
    })
    (λ after. record { part = no_branch; keeps = tt; is = refl })

pub more_labels_right : (t : Spot) → IsRight want.more_labels t (want_step want.more_labels t.word)
more_labels_right t =
    if_symbol (λ u p. IsRight want.more_labels u p) t symbol.Comma _ _
    (λ line. record {
      inner = (tt, (tt, tt));
      joins = λ middle after r. record {
        part = (line, r.1.part) ∷ r.2.1.part;
        keeps = tt;
        is = simp (r.1.is, r.2.1.is, r.2.2, append_assoc) refl;
      };
    })
    (λ after. record { part = []; keeps = tt; is = refl })

pub direction_right : (t : Spot) → IsRight want.direction t (want_step want.direction t.word)
direction_right t =
    let P : Spot → Step → Type 0 = λ u s. IsRight want.direction u s in
    if_reserved P t reserved.To _ _ (λ line. record { inner = tt; joins = λ middle after r. record { part = (directions.To, line); keeps = tt; is = simp r refl } }) (λ o.
    if_reserved P t reserved.Downto _ _ (λ line. record { inner = tt; joins = λ middle after r. record { part = (directions.Downto, line); keeps = tt; is = simp r refl } }) (λ p. tt))

pub body_right : (t : Spot) → IsRight want.body t (want_step want.body t.word)
body_right t =
    let P : Spot → Step → Type 0 = λ u s. IsRight want.body u s in
    if_reserved P t reserved.Begin _ _
    (λ line. record {
      inner = (omega arith, (omega arith, (tt, tt)));
      joins = λ middle after r. record {
        part = body line (sequence r.1.part r.2.1.part) r.2.2.1.part;
        keeps = (r.1.keeps.0, r.2.1.keeps);
        is = simp (r.1.is, r.2.1.is, r.2.2.1.is, r.2.2.2, append_assoc) refl;
      };
    })
    (λ o. tt)

pub reserved_word_right : (r : Reserved) (t : Spot) → IsRight (want.reserved_word r) t (want_step (want.reserved_word r) t.word)
reserved_word_right r t =
    if_reserved (λ u s. IsRight (want.reserved_word r) u s) t r _ _ (λ line. record { inner = tt; joins = λ middle after e. record { part = line; keeps = tt; is = simp e refl } }) (λ o. tt)

pub mark_right : (s : Symbol) (t : Spot) → IsRight (want.mark s) t (want_step (want.mark s) t.word)
mark_right s t =
    if_symbol (λ u p. IsRight (want.mark s) u p) t s _ _ (λ line. record { inner = tt; joins = λ middle after e. record { part = line; keeps = tt; is = simp e refl } }) tt

pub name_right : (t : Spot) → IsRight want.name t (want_step want.name t.word)
name_right t = if_name (λ u p. IsRight want.name u p) t _ _ (λ x. record { inner = tt; joins = λ middle after e. record { part = x; keeps = tt; is = simp e refl } }) tt
