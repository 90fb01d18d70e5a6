-- A loop is one turn and then the other turns.
use Rattle.std.proofs.Common.{◌≡◌, ℕ, suc, ◌+◌, ◌-◌, ◌<◌, ◌≤◌, Bool, true, false, Option, Some, None, ℤ, refl, sym, ◌∙◌, ap, arith}
use Rattle.solo_base.specs.declared.outcome.ProgResult.TheVariants as result
use Rattle.solo_base.specs.RunOutcome.{Ends}
use Rattle.pascal_tree.specs.declared.statement.Direction.{Direction}
use Rattle.pascal_mean.specs.Situation.{Situation, Course, Part, Gives, Over, and_then, choose, number_or_overflow, take_tick}
use Rattle.pascal_mean.specs.Statements.{before_last, next_count, after_loop, after_turns}
use Rattle.pascal_evaluate.specs.declared.stop.Stop.{Stop}
use Rattle.pascal_evaluate.specs.declared.stop.Stop.TheVariants as stop
use Rattle.pascal_evaluate.specs.Turns.{one_turn, one_count}
use Rattle.pascal_evaluate.specs.Ran.{IsStopped}
use Rattle.pascal_evaluate.proofs.Parts.{stopped_then}

-- ---- WHILE and REPEAT

turned : (q : Course (Unit {0})) (again : Part (Unit {0}))
    → and_then q (λ _ then_is. again then_is)
    ≡ and_then (and_then q (λ _ then_is. Gives true then_is)) (λ goes_on then_is. choose goes_on again (Gives tt) then_is)
turned (Gives v now) again = refl
turned (Over outcome) again = refl

tested : (q : Course Bool) (turn again : Part (Unit {0}))
    → and_then q (λ goes_on now. choose goes_on (λ n. and_then (turn n) (λ _ then_is. again then_is)) (Gives tt) now)
    ≡ and_then (and_then q (λ goes_on now. choose goes_on (λ n. and_then (turn n) (λ _ then_is. Gives true then_is)) (Gives false) now))
    (λ goes_on then_is. choose goes_on again (Gives tt) then_is)
tested (Gives true now) turn again = turned (turn now) again
tested (Gives false now) turn again = refl
tested (Over outcome) turn again = refl

ticked : (q : Course (Unit {0})) (test : Part Bool) (turn again : Part (Unit {0}))
    → and_then q (λ _ mid. and_then (test mid) (λ goes_on now. choose goes_on (λ n. and_then (turn n) (λ _ then_is. again then_is)) (Gives tt) now))
    ≡ and_then (and_then q (λ _ mid. and_then (test mid)
    (λ goes_on now. choose goes_on (λ n. and_then (turn n) (λ _ then_is. Gives true then_is)) (Gives false) now)))
    (λ goes_on then_is. choose goes_on again (Gives tt) then_is)
ticked (Gives v now) test turn again = tested (test now) turn again
ticked (Over outcome) test turn again = refl

pub loop_turn : (limit turns line : ℕ) (test : Part Bool) (turn : Part (Unit {0})) (now : Situation)
    → after_loop limit (suc turns) line test turn now
    ≡ and_then (one_turn limit line test turn now) (λ goes_on then_is. choose goes_on (after_loop limit turns line test turn) (Gives tt) then_is)
loop_turn limit turns line test turn now =
    ticked (take_tick limit line now) test turn (after_loop limit turns line test turn)

-- ---- FOR

-- the other turns, where there is a next counter
abbrev pub goes_to : (ℤ → Part (Unit {0})) → Option ℤ → Part (Unit {0})
goes_to again None now = Gives tt now
goes_to again (Some next) now = again next now

counted : (q : Course ℤ) (again : ℤ → Part (Unit {0}))
    → and_then q (λ next then_is. again next then_is)
    ≡ and_then (and_then q (λ next then_is. Gives (Some next) then_is)) (goes_to again)
counted (Gives v now) again = refl
counted (Over outcome) again = refl

chosen : (b : Bool) (next : Option ℤ) (again : ℤ → Part (Unit {0})) (now : Situation)
    → choose b (λ n. and_then (number_or_overflow next n) (λ v then_is. again v then_is)) (Gives tt) now
    ≡ and_then (choose b (λ n. and_then (number_or_overflow next n) (λ v then_is. Gives (Some v) then_is)) (Gives None) now) (goes_to again)
chosen true next again now = counted (number_or_overflow next now) again
chosen false next again now = refl

turned_for : (q : Course (Unit {0})) (b : Bool) (next : Option ℤ) (again : ℤ → Part (Unit {0}))
    → and_then q (λ _ now. choose b (λ n. and_then (number_or_overflow next n) (λ v then_is. again v then_is)) (Gives tt) now)
    ≡ and_then (and_then q (λ _ now. choose b (λ n. and_then (number_or_overflow next n) (λ v then_is. Gives (Some v) then_is)) (Gives None) now))
    (goes_to again)
turned_for (Gives v now) b next again = chosen b next again now
turned_for (Over outcome) b next again = refl

ticked_for : (q : Course (Unit {0})) (turn : Part (Unit {0})) (set : Situation → Situation) (b : Bool) (next : Option ℤ)
    (again : ℤ → Part (Unit {0}))
    → and_then q (λ _ mid. and_then (turn (set mid))
    (λ _ now. choose b (λ n. and_then (number_or_overflow next n) (λ v then_is. again v then_is)) (Gives tt) now))
    ≡ and_then (and_then q (λ _ mid. and_then (turn (set mid))
    (λ _ now. choose b (λ n. and_then (number_or_overflow next n) (λ v then_is. Gives (Some v) then_is)) (Gives None) now))) (goes_to again)
ticked_for (Gives v now) turn set b next again = turned_for (turn (set now)) b next again
ticked_for (Over outcome) turn set b next again = refl

pub count_turn : (limit turns line : ℕ) (way : Direction) (set : ℤ → Situation → Situation) (turn : Part (Unit {0})) (last counter : ℤ)
    (now : Situation)
    → after_turns limit (suc turns) line way set turn last counter now
    ≡ and_then (one_count limit line way set turn last counter now) (goes_to (after_turns limit turns line way set turn last))
count_turn limit turns line way set turn last counter now =
    ticked_for (take_tick limit line now) turn (set counter) (before_last way counter last) (next_count way counter)
    (after_turns limit turns line way set turn last)

-- ---- What a turn says of the whole, while turns are left, and when none is

one_more : (limit spent : ℕ) → spent < limit → limit - spent ≡ suc (limit - (spent + 1))
one_more limit spent less = omega (arith, less)

none_left : (limit spent : ℕ) → limit ≤ spent → limit - spent ≡ 0
none_left limit spent past = omega (arith, past)

module _ (limit spent line : ℕ) (test : Part Bool) (turn : Part (Unit {0})) (before : Situation) (whole : Course (Unit {0}))
    (left : after_loop limit (limit - spent) line test turn before ≡ whole) where
  opened : spent < limit
      → whole ≡ and_then (one_turn limit line test turn before)
      (λ goes_on then_is. choose goes_on (after_loop limit (limit - (spent + 1)) line test turn) (Gives tt) then_is)
  opened less =
      sym left ∙ ap (λ turns. after_loop limit turns line test turn before) (one_more limit spent less)
      ∙ loop_turn limit (limit - (spent + 1)) line test turn before

  pub loop_stops : spent < limit → (why : Stop) (now : Situation)
      → IsStopped (one_turn limit line test turn before) why now → IsStopped whole why now
  loop_stops less why now stopped =
      rw (opened less) (stopped_then (one_turn limit line test turn before) _ why now stopped)

  pub loop_goes : spent < limit → (now : Situation) → one_turn limit line test turn before ≡ Gives true now
      → after_loop limit (limit - (spent + 1)) line test turn now ≡ whole
  loop_goes less now gives =
      sym (opened less ∙ ap (λ q. and_then q (λ goes_on then_is. choose goes_on (after_loop limit (limit - (spent + 1)) line test turn) (Gives tt) then_is))
      gives)

  pub loop_ends : spent < limit → (now : Situation) → one_turn limit line test turn before ≡ Gives false now → whole ≡ Gives tt now
  loop_ends less now gives =
      opened less ∙ ap (λ q. and_then q (λ goes_on then_is. choose goes_on (after_loop limit (limit - (spent + 1)) line test turn) (Gives tt) then_is)) gives

  pub loop_late : limit ≤ spent → IsStopped whole (stop.Over result.TimeLimit) (record before { line = line })
  loop_late past =
      let over : whole ≡ Over (Ends result.TimeLimit line before.ticks before.made) =
      sym left ∙ ap (λ turns. after_loop limit turns line test turn before) (none_left limit spent past) in
      (Ends result.TimeLimit line before.ticks before.made, over, (refl, refl, refl, refl))

module _ (limit spent line : ℕ) (way : Direction) (set : ℤ → Situation → Situation) (turn : Part (Unit {0})) (last counter : ℤ)
    (before : Situation) (whole : Course (Unit {0})) (left : after_turns limit (limit - spent) line way set turn last counter before ≡ whole) where
  counting : spent < limit
      → whole ≡ and_then (one_count limit line way set turn last counter before)
      (goes_to (after_turns limit (limit - (spent + 1)) line way set turn last))
  counting less =
      sym left ∙ ap (λ turns. after_turns limit turns line way set turn last counter before) (one_more limit spent less)
      ∙ count_turn limit (limit - (spent + 1)) line way set turn last counter before

  pub count_stops : spent < limit → (why : Stop) (now : Situation)
      → IsStopped (one_count limit line way set turn last counter before) why now → IsStopped whole why now
  count_stops less why now stopped =
      rw (counting less) (stopped_then (one_count limit line way set turn last counter before) _ why now stopped)

  pub count_goes : spent < limit → (next : ℤ) (now : Situation)
      → one_count limit line way set turn last counter before ≡ Gives (Some next) now
      → after_turns limit (limit - (spent + 1)) line way set turn last next now ≡ whole
  count_goes less next now gives =
      sym (counting less ∙ ap (λ q. and_then q (goes_to (after_turns limit (limit - (spent + 1)) line way set turn last))) gives)

  pub count_ends : spent < limit → (now : Situation) → one_count limit line way set turn last counter before ≡ Gives None now
      → whole ≡ Gives tt now
  count_ends less now gives =
      counting less ∙ ap (λ q. and_then q (goes_to (after_turns limit (limit - (spent + 1)) line way set turn last))) gives

  pub count_late : limit ≤ spent → IsStopped whole (stop.Over result.TimeLimit) (record before { line = line })
  count_late past =
      let over : whole ≡ Over (Ends result.TimeLimit line before.ticks before.made) =
      sym left ∙ ap (λ turns. after_turns limit turns line way set turn last counter before) (none_left limit spent past) in
      (Ends result.TimeLimit line before.ticks before.made, over, (refl, refl, refl, refl))
