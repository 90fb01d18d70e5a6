-- One turn of a FOR, step by step.
use Rattle.std.proofs.Common.{◌≡◌, ℕ, ◌-◌, true, false, Option, Some, None, ℤ, refl, sym, ◌∙◌, ap}
use Rattle.solo_base.specs.declared.outcome.ProgResult.TheVariants as result
use Rattle.pascal_tree.specs.Word.{NameAt}
use Rattle.pascal_tree.specs.Expression.{Expr}
use Rattle.pascal_tree.specs.Statement.{Statement, for_do}
use Rattle.pascal_tree.specs.declared.statement.Direction.{Direction}
use Rattle.pascal_mean.specs.Situation.{Situation, Course, Part, Gives, and_then, choose, number_or_overflow, take_tick}
use Rattle.pascal_mean.specs.Variables.{assigned}
use Rattle.pascal_mean.specs.Expressions.{Setting, expr_value}
use Rattle.pascal_mean.specs.Statements.{within_reach, before_last, next_count, after_turns, after_statement}
use Rattle.pascal_evaluate.specs.declared.stop.Stop.{Stop}
use Rattle.pascal_evaluate.specs.declared.stop.Stop.TheVariants as stop
use Rattle.pascal_evaluate.specs.Ran.{IsStopped}
use Rattle.pascal_evaluate.specs.Turns.{one_count}
use Rattle.pascal_evaluate.proofs.Parts.{ends_here, stopped_then}

abbrev counting_on : Direction → ℤ → ℤ → Unit {0} → Part (Option ℤ)
counting_on way last counter _ turned =
    choose (before_last way counter last)
    (λ n. and_then (number_or_overflow (next_count way counter) n) (λ next then_is. Gives (Some next) then_is)) (Gives None) turned

module _ (limit line : ℕ) (way : Direction) (set : ℤ → Situation → Situation) (turn : Part (Unit {0})) (last counter : ℤ) (now ticked mid : Situation)
    (ticks : take_tick limit line now ≡ Gives tt ticked) (sets : mid ≡ set counter ticked) where
  after_tick : one_count limit line way set turn last counter now ≡ and_then (turn mid) (counting_on way last counter)
  after_tick =
      ap (λ (k : Course (Unit {0})). and_then k (λ _ n. and_then (turn (set counter n)) (counting_on way last counter))) ticks
      ∙ ap (λ n. and_then (turn n) (counting_on way last counter)) (sym sets)

  pub turn_stops : (why : Stop) (then_is : Situation) → IsStopped (turn mid) why then_is → IsStopped (one_count limit line way set turn last counter now) why
      then_is
  turn_stops why then_is stopped = rw after_tick (stopped_then (turn mid) (counting_on way last counter) why then_is stopped)

  after_turn : (turned : Situation) → turn mid ≡ Gives tt turned → one_count limit line way set turn last counter now ≡ counting_on way last counter tt turned
  after_turn turned gives = after_tick ∙ ap (λ (k : Course (Unit {0})). and_then k (counting_on way last counter)) gives

  pub turn_is_last : (turned : Situation) → turn mid ≡ Gives tt turned → before_last way counter last ≡ false
      → one_count limit line way set turn last counter now ≡ Gives None turned
  turn_is_last turned gives late = after_turn turned gives ∙ ap (λ b. choose b
      (λ n. and_then (number_or_overflow (next_count way counter) n) (λ next then_is. Gives (Some next) then_is)) (Gives None) turned) late

  more_turns : (turned : Situation) → turn mid ≡ Gives tt turned → before_last way counter last ≡ true
      → one_count limit line way set turn last counter now
      ≡ and_then (number_or_overflow (next_count way counter) turned) (λ next then_is. Gives (Some next) then_is)
  more_turns turned gives early = after_turn turned gives ∙ ap (λ b. choose b
      (λ n. and_then (number_or_overflow (next_count way counter) n) (λ next then_is. Gives (Some next) then_is)) (Gives None) turned) early

  pub turn_goes_on : (turned : Situation) (next : ℤ) → turn mid ≡ Gives tt turned → before_last way counter last ≡ true → next_count way counter ≡ Some next
      → one_count limit line way set turn last counter now ≡ Gives (Some next) turned
  turn_goes_on turned next gives early is =
      more_turns turned gives early ∙ ap (λ o. and_then (number_or_overflow o turned) (λ v then_is. Gives (Some v) then_is)) is

  pub turn_overflows : (turned : Situation) → turn mid ≡ Gives tt turned → before_last way counter last ≡ true → next_count way counter ≡ None
      → IsStopped (one_count limit line way set turn last counter now) (stop.Over result.Overflow) turned
  turn_overflows turned gives early is =
      rw (more_turns turned gives early ∙ ap (λ o. and_then (number_or_overflow o turned) (λ v then_is. Gives (Some v) then_is)) is)
      (ends_here result.Overflow turned)

-- how a FOR begins, where it has a turn
pub for_opens : (c : Setting) (line : ℕ) (x : NameAt) (becomes : ℕ) (from : Expr) (way : Direction) (way_line : ℕ) (to : Expr) (do_line : ℕ) (s : Statement)
    (now ticked mid then_is : Situation) (first last : ℤ) → take_tick c.limit line now ≡ Gives tt ticked → expr_value c from ticked ≡ Gives first mid
    → expr_value c to mid ≡ Gives last then_is → within_reach way first last ≡ true
    → after_turns c.limit (c.limit - then_is.ticks) line way (assigned (c.scope x.letters) c.number x.letters) (after_statement c s) last first then_is
    ≡ after_statement c (for_do line x becomes from way way_line to do_line s) now
for_opens c line x becomes from way way_line to do_line s now ticked mid then_is first last ticks from_is to_is reaches =
    rw (ticks, from_is, to_is, reaches) refl
