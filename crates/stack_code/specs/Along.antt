-- What is known of a place from those before it, in code whose routines break no rule.
use Rattle.std.specs.Prelude.{◌≡◌, ℕ, ◌*◌, ◌≤◌, ◌<◌, length}
use Rattle.stack_code.specs.declared.broken.Along.{Along}
use Rattle.stack_code.specs.CodeLists.{CodeLists}
use Rattle.stack_code.specs.Rules.{routine_of, height_at, is_behind_tick}

-- the number of its routine, the height of the operand stack before it, and whether it stands behind a TICK
pub record IsAlong (c : CodeLists) (place : ℕ) (a : Along) : Type 0 where
  pub routine : a.routine ≡ routine_of c place
  pub number : a.routine < length c.routines
  pub few : a.routine ≤ place
  pub height : a.height ≡ height_at c place
  pub low : a.height ≤ 256 * place
  pub behind_tick : a.behind_tick ≡ is_behind_tick c place
