-- A statement takes its tick, and then does the rest.
use Rattle.std.proofs.Common.{◌≡◌, ℕ, [], Option, Some, None, ℤ, refl}
use Rattle.pascal_tree.specs.Word.{NameAt}
use Rattle.pascal_tree.specs.Expression.{Expr, Index, Arguments}
use Rattle.pascal_tree.specs.Statement.{Statement, assign, call}
use Rattle.pascal_tree.specs.SeenStatement.{if_of}
use Rattle.pascal_mean.specs.Calls.{passing_named}
use Rattle.pascal_mean.specs.Expressions.{Setting, call_value, expr_value, index_value, arguments_given, is_true}
use Rattle.pascal_mean.specs.Variables.{ArrayPlace, array_named, stored_element}
use Rattle.pascal_mean.specs.Situation.{Situation, Part, Gives, and_then, choose, take_tick}
use Rattle.pascal_mean.specs.Statements.{after_assigning, after_assigning_at, after_statement}
use Rattle.pascal_evaluate.specs.declared.stop.Stop.{Stop}
use Rattle.pascal_evaluate.specs.Ran.{IsStopped}
use Rattle.pascal_evaluate.proofs.Parts.{steps, stopped_then}
use Rattle.pascal_evaluate.proofs.Loops.{loop_turn, count_turn}

abbrev pub after_otherwise : Setting → Option (ℕ × Statement) → Part (Unit {0})
after_otherwise c None now = Gives tt now
after_otherwise c (Some o) now = after_statement c o.1 now

pub if_opens : (c : Setting) (line : ℕ) (e : Expr) (line_then : ℕ) (s : Statement) (o : Option (ℕ × Statement)) (now : Situation)
    → after_statement c (if_of line e line_then s o) now
    ≡ and_then (take_tick c.limit line now) (λ _ ticked. and_then (is_true c e ticked)
    (λ holding tested. choose holding (after_statement c s) (after_otherwise c o) tested))
if_opens c line e line_then s None now = refl
if_opens c line e line_then s (Some o) now = refl

abbrev pub after_setting : Setting → NameAt → Option Index → Expr → Part (Unit {0})
after_setting c x None e now = after_assigning c x e now
after_setting c x (Some i) e now = after_assigning_at c x i e now

pub assign_opens : (c : Setting) (x : NameAt) (i : Option Index) (becomes : ℕ) (e : Expr) (now : Situation)
    → after_statement c (assign x i becomes e) now
    ≡ and_then (take_tick c.limit x.line now) (λ _ ticked. after_setting c x i e ticked)
assign_opens c x None becomes e now = refl
assign_opens c x (Some i) becomes e now = refl

abbrev pub after_calling : Setting → NameAt → Option Arguments → Part (Unit {0})
after_calling c x None now = and_then (call_value c (c.scope x.letters) [] now) (λ _ then_is. Gives tt then_is)
after_calling c x (Some a) now =
    and_then (arguments_given c (passing_named (c.scope x.letters)) a now)
    (λ given mid. and_then (call_value c (c.scope x.letters) given mid) (λ _ then_is. Gives tt then_is))

pub call_opens : (c : Setting) (x : NameAt) (a : Option Arguments) (now : Situation)
    → after_statement c (call x a) now ≡ and_then (take_tick c.limit x.line now) (λ _ ticked. after_calling c x a ticked)
call_opens c x None now = refl
call_opens c x (Some a) now = refl

-- an assignment to an element of an array
module _ (c : Setting) (x : NameAt) (i : Index) (a : ArrayPlace) (before : Situation)
    (is : a ≡ array_named (c.scope x.letters) c.number x.letters) (e : Expr) where
  abbrev behind : ℤ → Part (Unit {0})
  behind at mid = and_then (expr_value c e mid) (λ v now. Gives tt (stored_element a at v now))

  pub place_stops : (why : Stop) (now : Situation) → IsStopped (index_value c a.bounds i before) why now
      → IsStopped (after_assigning_at c x i e before) why now
  place_stops why now stopped = rw (← is) (stopped_then (index_value c a.bounds i before) behind why now stopped)

  pub value_stops : (at : ℤ) (mid : Situation) → index_value c a.bounds i before ≡ Gives at mid → (why : Stop) (now : Situation)
      → IsStopped (expr_value c e mid) why now → IsStopped (after_assigning_at c x i e before) why now
  value_stops at mid gives why now stopped =
      rw (← is, gives) (stopped_then (expr_value c e mid) (λ v now. Gives tt (stored_element a at v now)) why now stopped)

  pub value_stored : (at : ℤ) (mid : Situation) → index_value c a.bounds i before ≡ Gives at mid → (v : ℤ) (now : Situation)
      → expr_value c e mid ≡ Gives v now → after_assigning_at c x i e before ≡ Gives tt (stored_element a at v now)
  value_stored at mid gives v now is_v = rw (← is, gives, is_v) refl

pub ruleset openings = (steps, if_opens, assign_opens, call_opens, loop_turn, count_turn)
