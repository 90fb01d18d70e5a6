-- One turn of each loop.
use Rattle.std.specs.Prelude.{ℕ, Bool, true, false, Option, Some, None, ℤ}
use Rattle.pascal_tree.specs.Statement.{Statement, while_do, repeat_until, for_do}
use Rattle.pascal_tree.specs.declared.statement.Direction.{Direction}
use Rattle.pascal_mean.specs.Situation.{Situation, Part, Gives, and_then, choose, number_or_overflow, take_tick}
use Rattle.pascal_mean.specs.Variables.{assigned}
use Rattle.pascal_mean.specs.Expressions.{Setting, is_true, is_false}
use Rattle.pascal_mean.specs.Statements.{before_last, next_count, after_loop, after_turns, after_statement, after_sequence}

-- a turn of WHILE and REPEAT, and whether the loop goes on
abbrev pub one_turn : ℕ → ℕ → Part Bool → Part (Unit {0}) → Part Bool
one_turn limit line test turn now =
    and_then (take_tick limit line now) (λ _ ticked.
    and_then (test ticked) (λ goes_on tested.
    choose goes_on (λ n. and_then (turn n) (λ _ then_is. Gives true then_is)) (Gives false) tested))

-- a turn of FOR, and the next counter where the loop goes on
abbrev pub one_count : ℕ → ℕ → Direction → (ℤ → Situation → Situation) → Part (Unit {0}) → ℤ → ℤ
    → Part (Option ℤ)
one_count limit line way set turn last counter now =
    and_then (take_tick limit line now) (λ _ ticked.
    and_then (turn (set counter ticked)) (λ _ turned.
    choose (before_last way counter last)
    (λ n. and_then (number_or_overflow (next_count way counter) n) (λ next then_is.
    Gives (Some next) then_is))
    (Gives None) turned))

abbrev pub while_turn : Setting → Statement → Part Bool
while_turn c (while_do line e do_line s) now = one_turn c.limit line (is_true c e) (after_statement c s) now
while_turn c other now = Gives false now

abbrev pub repeat_turn : Setting → Statement → Part Bool
repeat_turn c (repeat_until line s until_line e) now =
    one_turn c.limit line (is_false c e) (after_sequence c s) now
repeat_turn c other now = Gives false now

abbrev pub for_turn : Setting → Statement → ℤ → ℤ → Part (Option ℤ)
for_turn c (for_do line x becomes from way way_line to do_line s) counter last now =
    let set = assigned (c.scope x.letters) c.number x.letters in
    one_count c.limit line way set (after_statement c s) last counter now
for_turn c other counter last now = Gives None now

-- ---- The turns that are left

abbrev pub while_loop : Setting → Statement → ℕ → Part (Unit {0})
while_loop c (while_do line e do_line s) turns now =
    after_loop c.limit turns line (is_true c e) (after_statement c s) now
while_loop c other turns now = Gives tt now

abbrev pub repeat_loop : Setting → Statement → ℕ → Part (Unit {0})
repeat_loop c (repeat_until line s until_line e) turns now =
    after_loop c.limit turns line (is_false c e) (after_sequence c s) now
repeat_loop c other turns now = Gives tt now

abbrev pub for_loop : Setting → Statement → ℕ → ℤ → ℤ → Part (Unit {0})
for_loop c (for_do line x becomes from way way_line to do_line s) turns counter last now =
    let set = assigned (c.scope x.letters) c.number x.letters in
    after_turns c.limit turns line way set (after_statement c s) last counter now
for_loop c other turns counter last now = Gives tt now
