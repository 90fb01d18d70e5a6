-- The machine of the top program, lent.
use Rattle.std.specs.Prelude.{List, [], ◌∷◌, Option, Some, None}
use Rattle.std.specs.Borrow.{LendsIf, MutBor, Fml, RattleType}
use Rattle.stack_machine.specs.Standing.{Standing}
use Rattle.stack_machine.specs.contracts.machine.Machine.{the_row as machine_row}
use Rattle.prog_stack.specs.declared.frame.Frame.{Frame}
use Rattle.prog_stack.specs.contracts.stack.ProgStack.{the_row}
use Rattle.prog_stack.specs.Callers.{with_machine}

abbrev pub top_machine : List Frame → Option Standing
top_machine [] = None
top_machine (top ∷ below) = Some top.machine

module _ (N : RattleType) (s : MutBor (List Frame)) where
  -- once the borrow r ends, the top program has its machine as r shows it last; without one nothing changes
  abbrev pub lends_top : Option (MutBor Standing) → Fml
  lends_top r = LendsIf (the_row N) machine_row s r (with_machine s.now) s.now
