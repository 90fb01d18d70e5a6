-- Statements, however calls are answered.
use Rattle.std.proofs.Common.{ℕ, zero, suc, ◌-◌, Bool, Some, None, List, [], ℤ, refl}
use Rattle.pascal_tree.specs.Word.{NameAt}
use Rattle.pascal_tree.specs.Expression.{Expr, Index}
use Rattle.pascal_tree.specs.Statement.{Statement, empty, assign, call, compound, if_then, if_else, while_do, repeat_until, for_do, case_of, Body, body, Sequence, sequence, Statements, no_statement, next_statement, Branch, branch, Branches, no_branch, next_branch}
use Rattle.pascal_tree.specs.declared.statement.Direction.{Direction}
use Rattle.pascal_mean.specs.Scope.{Scope}
use Rattle.pascal_mean.specs.Situation.{Answers, Situation, Part, Gives, and_then, choose, number_or_overflow, take_tick}
use Rattle.pascal_mean.specs.Variables.{array_named, assigned, stored_element}
use Rattle.pascal_mean.specs.Calls.{Given, passing_named}
use Rattle.pascal_mean.specs.Expressions.{Setting, call_value, expr_value, is_true, is_false}
use Rattle.pascal_mean.specs.Statements.{after_loop, within_reach, before_last, next_count, after_turns, is_labelled, after_assigning, after_assigning_at, after_statement, after_body, after_sequence, after_statements, after_branch, after_branches}
use Rattle.pascal_mean.proofs.Steady.{IsSteady, Keeps, then_steady, choose_steady, at_each, gives_steady, value_steady, end_steady, time_steady, number_steady, tick_steady}
use Rattle.pascal_mean.proofs.SteadyCalls.{assigned_kept}
use Rattle.pascal_mean.proofs.SteadyExpressions.{setting, call_value_steady, expr_steady, index_steady, arguments_steady, true_steady, false_steady}

-- ---- Loops

-- what follows a tick
after_tick : {a b : Answers} {part other : Part (Unit {0})} (limit line : ℕ) → IsSteady a b part other
    → IsSteady a b (λ now. and_then (take_tick limit line now) (λ _ n. part n)) (λ now. and_then (take_tick limit line now) (λ _ n. other n))
after_tick {part = part} {other = other} limit line steady =
    let go : Part (Unit {0}) → Unit {0} → Part (Unit {0}) = λ p _. p in
    then_steady (go part) (go other) (tick_steady limit line) (λ _. steady)

loop_steady : {a b : Answers} {test test_too : Part Bool} {turn turn_too : Part (Unit {0})} (limit turns line : ℕ) → IsSteady a b test test_too
    → IsSteady a b turn turn_too
    → IsSteady a b (after_loop limit turns line test turn) (after_loop limit turns line test_too turn_too)
loop_steady limit zero line tested turned = time_steady line
loop_steady {test = test} {test_too = test_too} {turn = turn} {turn_too = turn_too} limit (suc turns) line tested turned =
    let again : Part Bool → Part (Unit {0}) → Unit {0} → Part (Unit {0}) = λ t u _. after_loop limit turns line t u in
    let chosen : Part Bool → Part (Unit {0}) → Bool → Part (Unit {0}) = λ t u goes_on. choose goes_on (λ n. and_then (u n) (again t u)) (Gives tt) in
    after_tick limit line (then_steady (chosen test turn) (chosen test_too turn_too) tested (λ goes_on.
    choose_steady goes_on (then_steady (again test turn) (again test_too turn_too) turned (λ _. loop_steady limit turns line tested turned)) (value_steady tt)))

-- a part after a change of its situation
pub after_change : {A : Type 0} {a b : Answers} {part other : Part A} (change : Situation → Situation) → Keeps change → IsSteady a b part other
    → IsSteady a b (λ now. part (change now)) (λ now. other (change now))
after_change {A} {part = part} {other = other} change keeps steady =
    let go : Part A → Unit {0} → Part A = λ p _. p in
    then_steady (go part) (go other) (gives_steady (λ now. tt) change keeps) (λ _. steady)

turns_steady : {a b : Answers} {turn turn_too : Part (Unit {0})} (limit turns line : ℕ) (way : Direction) (set : ℤ → Situation → Situation) (last counter : ℤ)
    → ((v : ℤ) → Keeps (set v)) → IsSteady a b turn turn_too
    → IsSteady a b (after_turns limit turns line way set turn last counter) (after_turns limit turns line way set turn_too last counter)
turns_steady limit zero line way set last counter kept turned = time_steady line
turns_steady {turn = turn} {turn_too = turn_too} limit (suc turns) line way set last counter kept turned =
    let again : Part (Unit {0}) → ℤ → Part (Unit {0}) = λ t next. after_turns limit turns line way set t last next in
    let counted : Part (Unit {0}) → Part (Unit {0}) = λ t n. and_then (number_or_overflow (next_count way counter) n) (again t) in
    let rest : Part (Unit {0}) → Unit {0} → Part (Unit {0}) = λ t _. choose (before_last way counter last) (counted t) (Gives tt) in
    after_tick limit line (then_steady (rest turn) (rest turn_too) (after_change (set counter) (kept counter) turned) (λ _.
    choose_steady (before_last way counter last)
    (then_steady (again turn) (again turn_too) (number_steady (next_count way counter)) (λ next. turns_steady limit turns line way set last next kept turned))
    (value_steady tt)))

-- ---- Statements

module _ (a b : Answers) (limit : ℕ) (scope : Scope) (at : ℕ) (one other : ℕ → List Given → Part ℤ)
    (does : (k : ℕ) (given : List Given) → IsSteady a b (one k given) (other k given)) where
  abbrev c : Setting
  c = setting limit scope at a one

  abbrev d : Setting
  d = setting limit scope at b other

  -- the same part in the two settings
  abbrev pub Does : {A : Type 0} → (Setting → Part A) → Type 0
  Does part = IsSteady a b (part c) (part d)

  then_does : {A B : Type 0} {first first_too : Part A} (go : Setting → A → Part B) → IsSteady a b first first_too → ((v : A) → IsSteady a b (go c v) (go d v))
      → IsSteady a b (λ now. and_then (first now) (go c)) (λ now. and_then (first_too now) (go d))
  then_does go steady others = then_steady (go c) (go d) steady others

  value_of : (e : Expr) → Does (λ s. expr_value s e)
  value_of e = expr_steady a b limit scope at one other does e

  assigning_steady : (x : NameAt) (e : Expr) → Does (λ s. after_assigning s x e)
  assigning_steady x e =
      let set : ℤ → Situation → Situation = assigned (scope x.letters) at x.letters in
      then_does (λ s v then_is. Gives tt (set v then_is)) (value_of e) (λ v. gives_steady (λ now. tt) (set v) (assigned_kept (scope x.letters) at x.letters v))

  assigning_at_steady : (x : NameAt) (i : Index) (e : Expr) → Does (λ s. after_assigning_at s x i e)
  assigning_at_steady x i e =
      let array = array_named (scope x.letters) at x.letters in
      let set : ℤ → ℤ → Part (Unit {0}) = λ v w then_is. Gives tt (stored_element array v w then_is) in
      then_does (λ s v mid. and_then (expr_value s e mid) (set v)) (index_steady a b limit scope at one other does array.bounds i) (λ v.
      then_does (λ s. set v) (value_of e) (λ w. gives_steady (λ now. tt) (stored_element array v w) (λ now. refl)))

  abbrev calling : NameAt → Setting → List Given → Part (Unit {0})
  calling x s given now = and_then (call_value s (scope x.letters) given now) (λ _ then_is. Gives tt then_is)

  calling_steady : (x : NameAt) (given : List Given) → IsSteady a b (calling x c given) (calling x d given)
  calling_steady x given =
      let done : Setting → ℤ → Part (Unit {0}) = λ s _. Gives tt in
      then_does done (call_value_steady a b limit scope at one other does (scope x.letters) given) (λ _. value_steady tt)

  mutual
    pub statement_steady : (s : Statement) → Does (λ e. after_statement e s)
    statement_steady empty = value_steady tt
    statement_steady (assign x None becomes e) = after_tick limit x.line (assigning_steady x e)
    statement_steady (assign x (Some i) becomes e) = after_tick limit x.line (assigning_at_steady x i e)
    statement_steady (call x None) = after_tick limit x.line (calling_steady x [])
    statement_steady (call x (Some args)) =
        after_tick limit x.line (then_does (calling x)
        (arguments_steady a b limit scope at one other does (passing_named (scope x.letters)) args) (λ given. calling_steady x given))
    statement_steady (compound b') = body_steady b'
    statement_steady (if_then line e then_line s) =
        after_tick limit line (then_does (λ f holding. choose holding (after_statement f s) (Gives tt))
        (true_steady a b limit scope at one other does e) (λ holding.
        choose_steady holding (statement_steady s) (value_steady tt)))
    statement_steady (if_else line e then_line s else_line t) =
        after_tick limit line (then_does (λ f holding. choose holding (after_statement f s) (after_statement f t))
        (true_steady a b limit scope at one other does e) (λ holding.
        choose_steady holding (statement_steady s) (statement_steady t)))
    statement_steady (while_do line e do_line s) =
        let looping : Setting → Situation → Part (Unit {0}) = λ f n. after_loop limit (limit - n.ticks) line (is_true f e) (after_statement f s) in
        after_tick limit line (at_each (looping c) (looping d) (λ n.
        loop_steady limit (limit - n.ticks) line (true_steady a b limit scope at one other does e) (statement_steady s)))
    statement_steady (repeat_until line s until_line e) =
        let looping : Setting → Situation → Part (Unit {0}) = λ f n. after_loop limit (limit - n.ticks) line (is_false f e) (after_sequence f s) in
        after_tick limit line (then_does (λ f _ n. looping f n n) (sequence_steady s) (λ _. at_each (looping c) (looping d) (λ n.
        loop_steady limit (limit - n.ticks) line (false_steady a b limit scope at one other does e) (sequence_steady s))))
    statement_steady (for_do line x becomes from way way_line to do_line s) =
        let set : ℤ → Situation → Situation = assigned (scope x.letters) at x.letters in
        let turning : Setting → ℤ → ℤ → Situation → Part (Unit {0}) = λ f first last n.
        after_turns limit (limit - n.ticks) line way set (after_statement f s) last first in
        let chosen : Setting → ℤ → ℤ → Part (Unit {0}) = λ f first last. choose (within_reach way first last) (λ n. turning f first last n n) (Gives tt) in
        after_tick limit line (then_does (λ f first mid. and_then (expr_value f to mid) (chosen f first)) (value_of from) (λ first.
        then_does (λ f. chosen f first) (value_of to) (λ last.
        choose_steady (within_reach way first last) (at_each (turning c first last) (turning d first last) (λ n.
        turns_steady limit (limit - n.ticks) line way set last first (λ v. assigned_kept (scope x.letters) at x.letters v) (statement_steady s)))
        (value_steady tt))))
    statement_steady (case_of line e of_line first more end_line) =
        after_tick limit line (then_does (λ f v. after_branch f v first (after_branches f v more))
        (value_of e) (λ v. branch_steady v first (branches_steady v more)))

    pub body_steady : (s : Body) → Does (λ e. after_body e s)
    body_steady (body begin s end) = sequence_steady s

    pub sequence_steady : (s : Sequence) → Does (λ e. after_sequence e s)
    sequence_steady (sequence s more) = then_does (λ e _. after_statements e more) (statement_steady s) (λ _. statements_steady more)

    pub statements_steady : (s : Statements) → Does (λ e. after_statements e s)
    statements_steady no_statement = value_steady tt
    statements_steady (next_statement line s more) = then_does (λ e _. after_statements e more) (statement_steady s) (λ _. statements_steady more)

    pub branch_steady : {otherwise otherwise_too : Part (Unit {0})} (v : ℤ) (s : Branch) → IsSteady a b otherwise otherwise_too
        → IsSteady a b (after_branch c v s otherwise) (after_branch d v s otherwise_too)
    branch_steady v (branch labels colon s) steady = choose_steady (is_labelled scope labels v) (statement_steady s) steady

    pub branches_steady : (v : ℤ) (s : Branches) → Does (λ e. after_branches e v s)
    branches_steady v no_branch = end_steady _
    branches_steady v (next_branch line s more) = branch_steady v s (branches_steady v more)
