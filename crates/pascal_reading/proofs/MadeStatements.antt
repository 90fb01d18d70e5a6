-- One word at a want of a statement makes, with the parts that are wanted behind it, what was wanted.
use Rattle.std.proofs.Common.{◌≡◌, ℕ, ◌-◌, ◌≤◌, false, List, [], ◌∷◌, ◌++◌, Option, Some, None, refl, sym, ap, subst, ◌∙◌, append_assoc, arith}
use Rattle.pascal_tree.specs.Word.{Spot, NameAt}
use Rattle.pascal_tree.specs.Expression.{Expr}
use Rattle.pascal_tree.specs.Statement.{Statement, Statements, Body, Branches}
use Rattle.pascal_tree.specs.Statement as tree
use Rattle.pascal_tree.specs.Limits.{ExprFits}
use Rattle.pascal_tree.specs.SpellExpression.{reserved_at, name_at, spelled_expr}
use Rattle.pascal_tree.specs.declared.constant.Constant.{Constant}
use Rattle.pascal_tree.specs.declared.statement.Direction.{Direction}
use Rattle.pascal_tree.specs.declared.token.Reserved.{Reserved}
use Rattle.pascal_tree.specs.declared.token.Reserved.TheVariants as reserved
use Rattle.pascal_tree.specs.declared.token.Symbol.{Symbol}
use Rattle.pascal_tree.specs.declared.token.Symbol.TheVariants as symbol
use Rattle.pascal_read.specs.ParseWants.{Want, Step, took, skip, want_step, statement_step, behind_first_name_step, if_wants}
use Rattle.pascal_read.specs.ParseWants as want
use Rattle.pascal_read.proofs.ParseSpells.{begins_else}
use Rattle.pascal_reading.specs.Making.{Makes, conditional, made_for, made_case, statement_made, behind_first_name_made, making}
use Rattle.pascal_reading.proofs.PartsRead.{IsSpelled, IsStatement, IsOtherwise, IsRight}
use Rattle.pascal_reading.proofs.WordCases.{by_symbol, by_reserved, by_name, by_level}

begin_made : (n line : ℕ) → 2 ≤ n
    → IsRight (want.statement n) (reserved_at reserved.Begin line) (took (want.compound_wants (n - 1)))
    (λ r. tree.compound (tree.body line (tree.sequence r.0 r.1.0) r.1.1.0))
begin_made n line h = (
  (omega arith, (omega arith, (tt, tt))),
  λ p middle after r. record {
    keeps = ((omega arith, (r.1.keeps.0, r.2.1.keeps)), λ e. tt);
    is = simp (r.1.is, r.2.1.is, r.2.2.1.is, r.2.2.2, append_assoc) refl;
  },
)

-- an IF, with ELSE or without
conditional_read : (n line does : ℕ) (e : Expr) (s : Statement) (o : Option (ℕ × Statement)) (middle at_then at_statement behind after end : List Spot) → 2 ≤ n
    → IsSpelled (ExprFits e 64) (spelled_expr e) middle at_then
    → IsSpelled (Unit {0}) (reserved_at reserved.Then does ∷ []) at_then at_statement
    → IsStatement (n - 1) s at_statement behind → IsOtherwise (n - 1) o behind after → after ≡ end
    → IsStatement n (conditional line e does s o) (reserved_at reserved.If line ∷ middle) end
conditional_read n line does e s None middle at_then at_statement behind after end h condition then_is branch none same =
    let without : begins_else end ≡ false = sym (ap begins_else same) ∙ none.1 in
    record {
      keeps = ((omega arith, condition.keeps, branch.keeps.0), λ e. absurd cc);
      is = simp (condition.is, then_is.is, branch.is, none.0, same, append_assoc) refl;
    }
conditional_read n line does e s (Some o) middle at_then at_statement behind after end h condition then_is branch other same = record {
  keeps = (
    (omega arith, condition.keeps, branch.keeps.0, branch.keeps.1 (ap begins_else other.is), other.keeps.0),
    λ i. other.keeps.1 (ap begins_else same ∙ i),
  );
  is = simp (condition.is, then_is.is, branch.is, other.is, same, append_assoc) refl;
}

if_made : (n line : ℕ) → 2 ≤ n
    → IsRight (want.statement n) (reserved_at reserved.If line) (took (if_wants (n - 1))) (λ r. conditional line r.0 r.1.0 r.1.1.0 r.1.1.1.0)
if_made n line h = (
  (omega arith, (tt, (omega arith, (omega arith, tt)))),
  λ p middle after r.
      conditional_read n line p.1.0 p.0 p.1.1.0 p.1.1.1.0 middle r.0 r.2.0 r.2.2.0 r.2.2.2.0 after h r.1 r.2.1 r.2.2.1 r.2.2.2.1 r.2.2.2.2,
)

while_made : (n line : ℕ) → 2 ≤ n
    → IsRight (want.statement n) (reserved_at reserved.While line) (took (want.while_wants (n - 1))) (λ r. tree.while_do line r.0 r.1.0 r.1.1.0)
while_made n line h = (
  (omega arith, (tt, (omega arith, tt))),
  λ p middle after r. record {
    keeps = ((omega arith, r.1.keeps, r.2.2.1.keeps.0), λ e. r.2.2.1.keeps.1 (ap begins_else r.2.2.2 ∙ e));
    is = simp (r.1.is, r.2.1.is, r.2.2.1.is, r.2.2.2, append_assoc) refl;
  },
)

repeat_made : (n line : ℕ) → 2 ≤ n
    → IsRight (want.statement n) (reserved_at reserved.Repeat line) (took (want.repeat_wants (n - 1)))
    (λ r. tree.repeat_until line (tree.sequence r.0 r.1.0) r.1.1.0 r.1.1.1.0)
repeat_made n line h = (
  (omega arith, (omega arith, (tt, (omega arith, tt)))),
  λ p middle after r. record {
    keeps = ((omega arith, (r.1.keeps.0, r.2.1.keeps), r.2.2.2.1.keeps), λ e. tt);
    is = simp (r.1.is, r.2.1.is, r.2.2.1.is, r.2.2.2.1.is, r.2.2.2.2, append_assoc) refl;
  },
)

for_made : (n line : ℕ) → 2 ≤ n
    → IsRight (want.statement n) (reserved_at reserved.For line) (took (want.range_wants ++ (want.statement (n - 1) ∷ []))) (λ r. made_for line (n - 1) r)
for_made n line h = (
  (tt, (tt, (omega arith, (tt, (omega arith, (tt, (omega arith, tt))))))),
  λ p middle after r.
      let s = r.2.2.2.2.2.2.1 in
      record {
        keeps = ((omega arith, r.2.2.1.keeps, r.2.2.2.2.1.keeps, s.keeps.0), λ e. s.keeps.1 (ap begins_else r.2.2.2.2.2.2.2 ∙ e));
        is = simp (r.1.is, r.2.1.is, r.2.2.1.is, r.2.2.2.1.is, r.2.2.2.2.1.is, r.2.2.2.2.2.1.is, s.is, r.2.2.2.2.2.2.2, append_assoc) refl;
      },
)

case_made : (n line : ℕ) → 2 ≤ n
    → IsRight (want.statement n) (reserved_at reserved.Case line) (took (want.case_wants (n - 1))) (λ r. made_case line (n - 1) r)
case_made n line h = (
  (omega arith, (tt, (tt, (tt, (tt, (omega arith, (omega arith, (tt, tt)))))))),
  λ p middle after r.
      let l = r.2.2 in
      let s = l.2.2.2 in
      let m = s.2 in
      record {
        keeps = ((omega arith, r.1.keeps, s.1.keeps.0, m.1.keeps), λ e. tt);
        is = simp (r.1.is, r.2.1.is, l.1.is, l.2.1.is, l.2.2.1.is, s.1.is, m.1.is, m.2.1.is, m.2.2, append_assoc) refl;
      },
)

pub statement_right : (n : ℕ) (t : Spot) → 1 ≤ n → IsRight (want.statement n) t (statement_step n t.word) (statement_made n t)
statement_right n t h =
    let P : Step → Type 0 = λ s. Makes Statement s in
    let Q : Spot → (s : Step) → Makes Statement s → Type 0 = λ u s m. IsRight (want.statement n) u s m in
    by_name P Q t _ _ _ _ (λ x. ((tt, tt), λ p middle after r. subst (λ m. IsStatement n (p.0 x) (name_at x ∷ middle) m) r.2 (r.1 x n h)))
    (by_reserved P Q t reserved.Begin _ _ _ _ (by_level P (Q (reserved_at reserved.Begin t.line)) n _ _ _ _ (begin_made n t.line) tt) (λ o.
    by_reserved P Q t reserved.If _ _ _ _ (by_level P (Q (reserved_at reserved.If t.line)) n _ _ _ _ (if_made n t.line) tt) (λ o.
    by_reserved P Q t reserved.While _ _ _ _ (by_level P (Q (reserved_at reserved.While t.line)) n _ _ _ _ (while_made n t.line) tt) (λ o.
    by_reserved P Q t reserved.Repeat _ _ _ _ (by_level P (Q (reserved_at reserved.Repeat t.line)) n _ _ _ _ (repeat_made n t.line) tt) (λ o.
    by_reserved P Q t reserved.For _ _ _ _ (by_level P (Q (reserved_at reserved.For t.line)) n _ _ _ _ (for_made n t.line) tt) (λ o.
    by_reserved P Q t reserved.Case _ _ _ _ (by_level P (Q (reserved_at reserved.Case t.line)) n _ _ _ _ (case_made n t.line) tt) (λ o.
    λ after. record { keeps = (h, λ e. tt); is = refl })))))))

pub behind_first_name_right : (t : Spot) → IsRight want.behind_first_name t (behind_first_name_step t.word) (behind_first_name_made t)
behind_first_name_right t =
    let P : Step → Type 0 = λ s. Makes (NameAt → Statement) s in
    let Q : Spot → (s : Step) → Makes (NameAt → Statement) s → Type 0 = λ u s m. IsRight want.behind_first_name u s m in
    by_symbol P Q t symbol.Becomes _ _ _ _ (
      (omega arith, tt),
      λ p middle after r x n h. record {
        keeps = ((h, tt, r.1.keeps), λ e. tt);
        is = simp (r.1.is, r.2) refl;
      },
    )
    (by_symbol P Q t symbol.OpenIndex _ _ _ _ (
      (omega arith, (tt, (tt, (omega arith, tt)))),
      λ p middle after r x n h. record {
        keeps = ((h, r.1.keeps, r.2.2.2.1.keeps), λ e. tt);
        is = simp (r.1.is, r.2.1.is, r.2.2.1.is, r.2.2.2.1.is, r.2.2.2.2, append_assoc) refl;
      },
    )
    (by_symbol P Q t symbol.Open _ _ _ _ (
      (omega arith, (omega arith, (tt, tt))),
      λ p middle after r x n h. record {
        keeps = ((h, (r.1.keeps, r.2.1.keeps)), λ e. tt);
        is = simp (r.1.is, r.2.1.is, r.2.2.1.is, r.2.2.2, append_assoc) refl;
      },
    )
    (λ after x n h. record { keeps = ((h, tt), λ e. tt); is = refl })))

pub otherwise_right : (n : ℕ) (t : Spot) → 1 ≤ n → IsRight (want.otherwise n) t (want_step (want.otherwise n) t.word) (making (want.otherwise n) t)
otherwise_right n t h =
    by_reserved (λ s. Makes (Option (ℕ × Statement)) s) (λ u s m. IsRight (want.otherwise n) u s m) t reserved.Else _ _ _ _ (
      (h, tt),
      λ p middle after r. record {
        keeps = (r.1.keeps.0, λ e. r.1.keeps.1 (ap begins_else r.2 ∙ e));
        is = simp (r.1.is, r.2) refl;
      },
    )
    (λ other after. (refl, other))

pub more_statements_right : (n : ℕ) (t : Spot) → 1 ≤ n
    → IsRight (want.more_statements n) t (want_step (want.more_statements n) t.word) (making (want.more_statements n) t)
more_statements_right n t h =
    by_symbol (λ s. Makes Statements s) (λ u s m. IsRight (want.more_statements n) u s m) t symbol.Semicolon _ _ _ _ (
      (h, (h, tt)),
      λ p middle after r. record {
        keeps = (r.1.keeps.0, r.2.1.keeps);
        is = simp (r.1.is, r.2.1.is, r.2.2, append_assoc) refl;
      },
    )
    (λ after. record { keeps = tt; is = refl })

pub more_branches_right : (n : ℕ) (t : Spot) → 1 ≤ n
    → IsRight (want.more_branches n) t (want_step (want.more_branches n) t.word) (making (want.more_branches n) t)
more_branches_right n t h =
    by_symbol (λ s. Makes Branches s) (λ u s m. IsRight (want.more_branches n) u s m) t symbol.Semicolon _ _ _ _ (
      (tt, (tt, (tt, (h, (h, tt))))),
      λ p middle after r.
          let s = r.2.2.2 in
          record {
            keeps = (s.1.keeps.0, s.2.1.keeps);
            is = simp (r.1.is, r.2.1.is, r.2.2.1.is, s.1.is, s.2.1.is, s.2.2, append_assoc) refl;
          },
    )
    (λ after. record { keeps = tt; is = refl })

pub more_labels_right : (t : Spot) → IsRight want.more_labels t (want_step want.more_labels t.word) (making want.more_labels t)
more_labels_right t =
    by_symbol (λ s. Makes (List (ℕ × Constant)) s) (λ u s m. IsRight want.more_labels u s m) t symbol.Comma _ _ _ _
    ((tt, (tt, tt)), λ p middle after r. record { keeps = tt; is = simp (r.1.is, r.2.1.is, r.2.2, append_assoc) refl })
    (λ after. record { keeps = tt; is = refl })

pub direction_right : (t : Spot) → IsRight want.direction t (want_step want.direction t.word) (making want.direction t)
direction_right t =
    let P : Step → Type 0 = λ s. Makes (Direction × ℕ) s in
    let Q : Spot → (s : Step) → Makes (Direction × ℕ) s → Type 0 = λ u s m. IsRight want.direction u s m in
    by_reserved P Q t reserved.To _ _ _ _ (tt, λ p middle after r. record { keeps = tt; is = simp r refl }) (λ o.
    by_reserved P Q t reserved.Downto _ _ _ _ (tt, λ p middle after r. record { keeps = tt; is = simp r refl }) (λ o. tt))

pub body_right : (t : Spot) → IsRight want.body t (want_step want.body t.word) (making want.body t)
body_right t =
    by_reserved (λ s. Makes Body s) (λ u s m. IsRight want.body u s m) t reserved.Begin _ _ _ _ (
      (omega arith, (omega arith, (tt, tt))),
      λ p middle after r. record {
        keeps = (r.1.keeps.0, r.2.1.keeps);
        is = simp (r.1.is, r.2.1.is, r.2.2.1.is, r.2.2.2, append_assoc) refl;
      },
    )
    (λ o. tt)

pub reserved_word_right : (w : Reserved) (t : Spot)
    → IsRight (want.reserved_word w) t (want_step (want.reserved_word w) t.word) (making (want.reserved_word w) t)
reserved_word_right w t =
    by_reserved (λ s. Makes ℕ s) (λ u s m. IsRight (want.reserved_word w) u s m) t w _ _ _ _
    (tt, λ p middle after r. record { keeps = tt; is = simp r refl }) (λ o. tt)

pub mark_right : (m : Symbol) (t : Spot) → IsRight (want.mark m) t (want_step (want.mark m) t.word) (making (want.mark m) t)
mark_right m t =
    by_symbol (λ s. Makes ℕ s) (λ u s k. IsRight (want.mark m) u s k) t m _ _ _ _
    (tt, λ p middle after r. record { keeps = tt; is = simp r refl }) tt

pub name_right : (t : Spot) → IsRight want.name t (want_step want.name t.word) (making want.name t)
name_right t =
    by_name (λ s. Makes NameAt s) (λ u s m. IsRight want.name u s m) t _ _ _ _
    (λ x. (tt, λ p middle after r. record { keeps = tt; is = simp r refl })) tt
