-- What an instruction with a call does.
use Rattle.std.proofs.Common.{◌≡◌, ℕ, true, refl}
use Rattle.std.proofs.lemmas.Bool.{false≢true}
use Rattle.stack_code.specs.declared.table.Op.{Op}
use Rattle.stack_code.specs.declared.table.Op.TheVariants as op
use Rattle.stack_code.specs.CodeLists.{CodeLists}
use Rattle.stack_machine.specs.States.{State}
use Rattle.stack_machine.specs.Calls.{sys}
use Rattle.stack_machine.specs.Machine.{effect, calls, uses_program, array_start}

pub call_effect : (c : CodeLists) (limit : ℕ) (s : State) (o : Op) (a b : ℕ) → calls o ≡ true → sys c limit s (uses_program o) a (array_start o b) ≡ effect c limit s o a b
unfolding effect
call_effect c limit s op.Sys a b is = refl
call_effect c limit s op.SysG a b is = refl
call_effect c limit s op.SysL a b is = refl
call_effect c limit s other a b is = absurd (false≢true is)
