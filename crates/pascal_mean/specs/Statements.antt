-- What statements do.
use Rattle.std.specs.Prelude.{ℕ, zero, suc, ◌-◌, Bool, ◌||◌, [], Option, Some, None, ℤ, pos, int_le, int_lt}
use Rattle.std.specs.Ordering.{int_eq}
use Rattle.std.specs.List.{list_any}
use Rattle.solo_base.specs.declared.outcome.ProgResult.TheVariants as result
use Rattle.solo_base.specs.Arithmetic.{sum, difference}
use Rattle.pascal_tree.specs.Word.{NameAt}
use Rattle.pascal_tree.specs.Expression.{Expr, Index}
use Rattle.pascal_tree.specs.Statement.{Labels, Statement, empty, assign, call, compound, if_then, if_else, while_do, repeat_until, for_do, case_of, Body, body, Sequence, sequence, Statements, no_statement, next_statement, Branch, branch, Branches, no_branch, next_branch}
use Rattle.pascal_tree.specs.declared.statement.Direction.{Direction}
use Rattle.pascal_tree.specs.declared.statement.Direction.TheVariants as direction
use Rattle.pascal_mean.specs.Scope.{Scope, constant_number}
use Rattle.pascal_mean.specs.Situation.{Situation, Part, Gives, and_then, choose, end_with, number_or_overflow, time_is_up, take_tick}
use Rattle.pascal_mean.specs.Variables.{array_named, assigned, stored_element}
use Rattle.pascal_mean.specs.Calls.{passing_named}
use Rattle.pascal_mean.specs.Expressions.{Setting, call_value, expr_value, index_value, arguments_given, is_true, is_false}

-- ---- Loops

-- A loop: a tick, the test, the body, and again. A turn takes a tick, so that there are no more turns
-- than ticks are left.
abbrev pub after_loop : ℕ → ℕ → ℕ → Part Bool → Part (Unit {0}) → Part (Unit {0})
after_loop limit zero line test turn now = time_is_up line now
after_loop limit (suc turns) line test turn now =
    let again : Part (Unit {0}) = λ n.
    and_then (turn n) (λ _ then_is. after_loop limit turns line test turn then_is) in
    and_then (take_tick limit line now) (λ _ ticked.
    and_then (test ticked) (λ goes_on tested. choose goes_on again (Gives tt) tested))

-- whether a counter hasn't passed the last value, and whether it hasn't reached it
abbrev pub within_reach : Direction → ℤ → ℤ → Bool
within_reach direction.To counter last = int_le counter last
within_reach direction.Downto counter last = int_le last counter

abbrev pub before_last : Direction → ℤ → ℤ → Bool
before_last direction.To counter last = int_lt counter last
before_last direction.Downto counter last = int_lt last counter

abbrev pub next_count : Direction → ℤ → Option ℤ
next_count direction.To counter = sum counter (pos 1)
next_count direction.Downto counter = difference counter (pos 1)

-- The turns of a FOR, each with a tick, up to the last value. Each sets the control variable from a
-- counter that is the loop's own.
abbrev pub after_turns : ℕ → ℕ → ℕ → Direction → (ℤ → Situation → Situation) → Part (Unit {0}) → ℤ → ℤ
    → Part (Unit {0})
after_turns limit zero line way set turn last counter now = time_is_up line now
after_turns limit (suc turns) line way set turn last counter now =
    let again : Part (Unit {0}) = λ n.
    and_then (number_or_overflow (next_count way counter) n) (λ next then_is.
    after_turns limit turns line way set turn last next then_is) in
    and_then (take_tick limit line now) (λ _ ticked.
    and_then (turn (set counter ticked)) (λ _ turned.
    choose (before_last way counter last) again (Gives tt) turned))

-- ---- Statements

-- one of the labels has the value
abbrev pub is_labelled : Scope → Labels → ℤ → Bool
is_labelled scope labels v =
    int_eq (constant_number scope labels.first) v
    || list_any (λ l. int_eq (constant_number scope l.1) v) labels.rest

-- an assignment to a name, after its tick
abbrev pub after_assigning : Setting → NameAt → Expr → Part (Unit {0})
after_assigning c x e now =
    and_then (expr_value c e now) (λ v then_is.
    Gives tt (assigned (c.scope x.letters) c.number x.letters v then_is))

-- an assignment to an element: the index is evaluated and tested first
abbrev pub after_assigning_at : Setting → NameAt → Index → Expr → Part (Unit {0})
after_assigning_at c x i e now =
    let a = array_named (c.scope x.letters) c.number x.letters in
    and_then (index_value c a.bounds i now) (λ at mid.
    and_then (expr_value c e mid) (λ v then_is. Gives tt (stored_element a at v then_is)))

abbrev mutual
  pub after_statement : Setting → Statement → Part (Unit {0})
  after_statement c empty now = Gives tt now
  after_statement c (assign x None becomes e) now =
      and_then (take_tick c.limit x.line now) (λ _ ticked. after_assigning c x e ticked)
  after_statement c (assign x (Some i) becomes e) now =
      and_then (take_tick c.limit x.line now) (λ _ ticked. after_assigning_at c x i e ticked)
  after_statement c (call x None) now =
      and_then (take_tick c.limit x.line now) (λ _ ticked.
      and_then (call_value c (c.scope x.letters) [] ticked) (λ _ then_is. Gives tt then_is))
  after_statement c (call x (Some a)) now =
      let means = c.scope x.letters in
      and_then (take_tick c.limit x.line now) (λ _ ticked.
      and_then (arguments_given c (passing_named means) a ticked) (λ given mid.
      and_then (call_value c means given mid) (λ _ then_is. Gives tt then_is)))
  after_statement c (compound b) now = after_body c b now
  after_statement c (if_then line e then_line s) now =
      and_then (take_tick c.limit line now) (λ _ ticked.
      and_then (is_true c e ticked) (λ holding tested.
      choose holding (after_statement c s) (Gives tt) tested))
  after_statement c (if_else line e then_line s else_line t) now =
      and_then (take_tick c.limit line now) (λ _ ticked.
      and_then (is_true c e ticked) (λ holding tested.
      choose holding (after_statement c s) (after_statement c t) tested))
  after_statement c (while_do line e do_line s) now =
      and_then (take_tick c.limit line now) (λ _ ticked.
      after_loop c.limit (c.limit - ticked.ticks) line (is_true c e) (after_statement c s) ticked)
  after_statement c (repeat_until line s until_line e) now =
      and_then (take_tick c.limit line now) (λ _ ticked.
      and_then (after_sequence c s ticked) (λ _ first.
      after_loop c.limit (c.limit - first.ticks) line (is_false c e) (after_sequence c s) first))
  after_statement c (for_do line x becomes from way way_line to do_line s) now =
      and_then (take_tick c.limit line now) (λ _ ticked.
      and_then (expr_value c from ticked) (λ first mid.
      and_then (expr_value c to mid) (λ last then_is.
      let set = assigned (c.scope x.letters) c.number x.letters in
      let turns : Part (Unit {0}) = λ n.
      after_turns c.limit (c.limit - n.ticks) line way set (after_statement c s) last first n in
      choose (within_reach way first last) turns (Gives tt) then_is)))
  after_statement c (case_of line e of_line first more end_line) now =
      and_then (take_tick c.limit line now) (λ _ ticked.
      and_then (expr_value c e ticked) (λ v selected.
      after_branch c v first (after_branches c v more) selected))

  pub after_body : Setting → Body → Part (Unit {0})
  after_body c (body begin s end) now = after_sequence c s now

  pub after_sequence : Setting → Sequence → Part (Unit {0})
  after_sequence c (sequence s more) now =
      and_then (after_statement c s now) (λ _ then_is. after_statements c more then_is)

  pub after_statements : Setting → Statements → Part (Unit {0})
  after_statements c no_statement now = Gives tt now
  after_statements c (next_statement line s more) now =
      and_then (after_statement c s now) (λ _ then_is. after_statements c more then_is)

  -- the branch's statement where the value is one of its labels, else the other way
  pub after_branch : Setting → ℤ → Branch → Part (Unit {0}) → Part (Unit {0})
  after_branch c v (branch labels colon s) otherwise now =
      choose (is_labelled c.scope labels v) (after_statement c s) otherwise now

  -- a value that no branch has is a range error
  pub after_branches : Setting → ℤ → Branches → Part (Unit {0})
  after_branches c v no_branch now = end_with result.RangeError now
  after_branches c v (next_branch line b more) now = after_branch c v b (after_branches c v more) now
