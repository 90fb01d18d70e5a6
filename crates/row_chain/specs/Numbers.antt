-- An example: numbers are read by the first stage, handed on by any number of stages, and shown by the last.
-- None is the
-- end of the stream.
use Rattle.std.specs.Prelude.{ℕ, Bool, true, false, refl, Option, None, Some}
use Rattle.network_law.specs.Stepping.{Openings}
use Rattle.place_law.specs.Process.{Entry}
use Rattle.row_chain.specs.Chain.{Action, Reply, Aim, Takes, Puts, Uses, Finishes, Given, Parcel_taken, Device_answer, Stage, Chain, has_before, has_behind}

pub data Place : Type 0 where
  Waits : Place
  Holds : Option ℕ → Place
  IsOver : Place

-- it reads a number (None), or shows one
abbrev pub aims_at : (before behind : Bool) → Place → Aim before behind (Option ℕ) (Option ℕ)
aims_at true behind Waits = Takes refl
aims_at false behind Waits = Uses None
aims_at before true (Holds x) = Puts refl x
aims_at before false (Holds (Some n)) = Uses (Some n)
aims_at before false (Holds None) = Finishes
aims_at before behind IsOver = Finishes

abbrev pub goes_on : Place → Given (Option ℕ) (Option ℕ) → Place
goes_on Waits (Parcel_taken x) = Holds x
goes_on Waits (Device_answer x) = Holds x
goes_on (Holds (Some n)) given = Waits
goes_on (Holds None) given = IsOver
goes_on at given = at

abbrev pub stage : (before behind : Bool) → Stage before behind (Option ℕ) (Option ℕ) (Option ℕ)
stage before behind = record {
  Place = Place;
  start = Waits;
  aims = aims_at before behind;
  goes = goes_on;
  finds = λ at given. None;
}

abbrev pub is_none : Option ℕ → Bool
is_none None = true
is_none (Some n) = false

-- so many stages, over devices of which nothing is told
abbrev pub numbers : ℕ → Chain ℕ (Option ℕ) (Option ℕ) (Option ℕ)
numbers n = record {
  size = n;
  stage = λ p. stage (has_before p) (has_behind n p);
  mark = is_none;
  Allows = λ devices entry gained. Unit {0};
  given = λ devices entry gained. devices;
}

abbrev pub number_openings : Openings ℕ (Entry (Action (Option ℕ) (Option ℕ)) (Reply (Option ℕ) (Option ℕ)))
number_openings = record {
  Opening = ℕ;
  devices = λ o. o;
  sizes = λ o b. 1;
  told = λ o b. true;
  IsTold = λ o. ⊥;
  IsSmooth = λ entry. Unit {0};
}
