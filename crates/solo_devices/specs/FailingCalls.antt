-- Which calls of a device in memory fail: those with the listed numbers, counted from 1.
use Rattle.std.specs.Prelude.{ℕ, List, Contains}
use Rattle.solo_devices.specs.Count.{raised}

-- the numbers of the calls that fail, and how many calls were made
pub record Calls : Type 0 where
  pub failing : List ℕ
  pub made : ℕ

-- no call was made yet
abbrev pub fresh_calls : List ℕ → Calls
fresh_calls failing = record { failing = failing; made = 0 }

-- the next call has a number that is listed
abbrev pub FailsNext : Calls → Type 0
FailsNext calls = Contains calls.failing (raised calls.made 1)

-- after one call more
abbrev pub one_more : Calls → Calls
one_more calls = record calls { made = raised calls.made 1 }
