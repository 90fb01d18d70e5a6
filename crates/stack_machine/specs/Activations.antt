-- Open activations: what a CALL makes of the caller's and of the called routine's, and the words of each.
use Rattle.std.specs.Prelude.{ℕ, zero, suc, ◌+◌, ◌-◌, List, [], ◌∷◌, ◌++◌, take, drop, reverse, replicate, ℤ, pos}
use Rattle.stack_code.specs.declared.instr.RoutineInfo.{RoutineInfo}
use Rattle.stack_machine.specs.States.{Activation}

-- the activation of a routine: its parameters are on top of the caller's operands, the last one topmost
abbrev pub opened : RoutineInfo → ℕ → List ℤ → Activation
opened r a operands = record {
  routine = a;
  place = r.start;
  line = 0;
  words = reverse (take r.params operands) ++ replicate (r.words - r.params) (pos 0);
  operands = [];
}

-- the caller, at its next instruction and without the parameters
abbrev pub waiting_caller : RoutineInfo → Activation → Activation
waiting_caller r a = record a { place = a.place + 1; operands = drop r.params a.operands }

-- what stands past the end of a list of activations
abbrev pub nobody : Activation
nobody = record { routine = 0; place = 0; line = 0; words = []; operands = [] }

-- ---- Words

-- The words of the activation with a number, of those that wait and the current one's own: the program's has
-- 0, and any other one more than its caller. None where no activation with the number is open.
abbrev pub words_from : List Activation → List ℤ → ℕ → List ℤ
words_from [] own zero = own
words_from [] own (suc number) = []
words_from (a ∷ above) own zero = a.words
words_from (a ∷ above) own (suc number) = words_from above own number

-- those that wait, where the activation with a number has other words
abbrev pub waiting_with : List Activation → ℕ → List ℤ → List Activation
waiting_with [] number words = []
waiting_with (a ∷ above) zero words = record a { words = words } ∷ above
waiting_with (a ∷ above) (suc number) words = a ∷ waiting_with above number words

-- and the current one's own words
abbrev pub own_with : List Activation → List ℤ → ℕ → List ℤ → List ℤ
own_with [] own zero words = words
own_with [] own (suc number) words = own
own_with (a ∷ above) own zero words = own
own_with (a ∷ above) own (suc number) words = own_with above own number words
