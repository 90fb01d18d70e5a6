-- Where a program stands while it is evaluated, and what comes of a part of it.
use Rattle.std.specs.Prelude.{ℕ, ◌+◌, nat_lt, Bool, true, false, List, [], ◌∷◌, ◌++◌, Option, Some, None, ℤ}
use Rattle.solo_base.specs.declared.outcome.ProgResult.{ProgResult}
use Rattle.solo_base.specs.declared.outcome.ProgResult.TheVariants as result
use Rattle.solo_base.specs.declared.system_call.SysCall.{SysCall}
use Rattle.solo_base.specs.declared.system_call.SysReply.{SysReply}
use Rattle.solo_base.specs.declared.system_call.SysReply.TheVariants as replies
use Rattle.solo_base.specs.Replies.{ticks_in}
use Rattle.solo_base.specs.RunOutcome.{RunOutcome, Ends, Waits}

-- a variable: the number of its activation, and its name
pub record Place : Type 0 where
  pub activation : ℕ
  pub letters : List ℕ

-- What the names of one activation stand for: the values of its scalar variables, the elements of its
-- arrays by their indexes, the variables that its VAR parameters are other names for; and the result
-- that a function has so far.
pub record Map : Type 0 where
  pub values : List ℕ → ℤ
  pub elements : List ℕ → ℤ → ℤ
  pub references : List ℕ → Place
  pub answer : ℤ

-- The maps of the open activations, the program's first; the line of the latest tick of the last one;
-- the ticks taken; the calls that were made.
pub record Situation : Type 0 where
  pub maps : List Map
  pub line : ℕ
  pub ticks : ℕ
  pub made : List SysCall

-- a part of the program gives a value and goes on, or the whole run is over
pub data Course (A : Type 0) : Type 0 where
  Gives : A → Situation → Course A
  Over : RunOutcome → Course A

-- what a part of a program does from any situation
abbrev pub Part : Type 0 → Type 0
Part A = Situation → Course A

abbrev pub and_then : {A B : Type 0} → Course A → (A → Part B) → Course B
and_then (Gives value now) go = go value now
and_then (Over outcome) go = Over outcome

-- one of two ways to go on
abbrev pub choose : {A : Type 0} → Bool → Part A → Part A → Part A
choose true first second now = first now
choose false first second now = second now

-- the program ends with a result, in the line of the latest tick
abbrev pub end_with : {A : Type 0} → ProgResult → Part A
end_with r now = Over (Ends r now.line now.ticks now.made)

-- a number, or an overflow
abbrev pub number_or_overflow : Option ℤ → Part ℤ
number_or_overflow (Some v) now = Gives v now
number_or_overflow None now = end_with result.Overflow now

-- a tick past the limit ends the program in the line of that tick
abbrev pub time_is_up : {A : Type 0} → ℕ → Part A
time_is_up line now = Over (Ends result.TimeLimit line now.ticks now.made)

-- a tick in a line
abbrev pub take_tick : ℕ → ℕ → Part (Unit {0})
take_tick limit line now =
    choose (nat_lt now.ticks limit)
    (λ n. Gives tt (record n { line = line; ticks = n.ticks + 1 }))
    (time_is_up line) now

-- ---- Calls of the interface

-- what is answered to the last of some calls, if anything is
abbrev pub Answers : Type 0
Answers = List SysCall → Option SysReply

-- a reply to a call: CallError ends the program
abbrev pub replied : SysReply → Part SysReply
replied replies.CallError now = end_with result.CallError now
replied reply now = Gives reply (record now { ticks = now.ticks + ticks_in reply })

-- with no reply to the last call the program waits for ever
abbrev pub answered_by : Option SysReply → Part SysReply
answered_by None now = Over (Waits now.made)
answered_by (Some reply) now = replied reply now

abbrev pub with_call : SysCall → Situation → Situation
with_call call now = record now { made = now.made ++ call ∷ [] }

-- the program makes a call, and takes the reply
abbrev pub make_call : Answers → SysCall → Part SysReply
make_call answers call now = answered_by (answers (with_call call now).made) (with_call call now)
