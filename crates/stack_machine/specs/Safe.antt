-- What holds of a state of good code at each instruction, so that nothing is lacking there.
use Rattle.std.specs.Prelude.{◌≡◌, ℕ, ◌+◌, ◌≤◌, ◌<◌, List, [], ◌∷◌, length, Some, None}
use Rattle.stack_code.specs.CodeLists.{CodeLists, routine_at}
use Rattle.stack_code.specs.CodeFile.{mark}
use Rattle.stack_code.specs.Rules.{IsGood, routine_of, height_at}
use Rattle.stack_machine.specs.States.{Activation, State}
use Rattle.stack_machine.specs.declared.state.Finish.{Finish}

-- An activation stands at a place of its routine, with the words of its frame. With so many words more
-- it has as many operands as the straight line gives there, and they don't pass the routine's height.
pub record IsAtPlace (c : CodeLists) (a : Activation) (more : ℕ) : Type 0 where
  pub inside : a.place < length c.instrs
  pub routine : a.routine ≡ routine_of c a.place
  pub words : length a.words ≡ (routine_at c a.routine).words
  pub operands : length a.operands + more ≡ height_at c a.place
  pub height : length a.operands + more ≤ (routine_at c a.routine).height

-- a caller waits for the word that the called routine gives, if it is a function; the program is never called
pub record Waits (c : CodeLists) (caller : Activation) (called : ℕ) : Type 0 where
  pub not_program : 1 ≤ called
  pub place : IsAtPlace c caller (mark (routine_at c called).function)

-- the routine of the lowest of the activations that wait, or the current one's where none waits
abbrev pub lowest_routine : List Activation → ℕ → ℕ
lowest_routine [] current = current
lowest_routine (a ∷ above) current = a.routine

-- each of the waiting activations called the one above it, and the last one called the current routine
abbrev pub AreWaiting : CodeLists → List Activation → ℕ → Type 0
AreWaiting c [] current = Unit {0}
AreWaiting c (a ∷ above) current = Waits c a (lowest_routine above current) × AreWaiting c above current

-- A program that hasn't ended stands at a place of its code. At most 64 activations are open, the lowest
-- of them the program's, and at most the limit of ticks was taken.
pub record IsRunning (c : CodeLists) (limit : ℕ) (s : State) : Type 0 where
  pub current : IsAtPlace c s.current 0
  pub waiting : AreWaiting c s.below s.current.routine
  pub program : lowest_routine s.below s.current.routine ≡ 0
  pub open_activations : length s.below ≤ 63
  pub ticks : s.ticks ≤ limit

-- every state that a machine over good code comes to
abbrev pub IsSafe : CodeLists → ℕ → State → Type 0
IsSafe c limit s = s.ended ≡ None → IsRunning c limit s

-- where a machine over good code stands: nothing is lacking, and no more ticks were taken than its limit
pub record IsSound (c : CodeLists) (limit : ℕ) (s : State) : Type 0 where
  pub good : IsGood c
  pub safe : IsSafe c limit s
  pub ended : (finish : Finish) → s.ended ≡ Some finish → finish.ticks ≤ limit
