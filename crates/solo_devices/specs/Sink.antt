-- What giving bytes to a sink does. A sink may tell the bytes that it was given, or tell nothing.
use Rattle.std.specs.Prelude.{◌≡◌, ℕ, ◌≤◌, ◌<◌, List, [], ◌++◌, length, take, Option, Some, None}
use Rattle.solo_devices.specs.Count.{Rose, last_count}
use Rattle.solo_devices.specs.declared.sink.Gave.{Gave}
use Rattle.solo_devices.specs.declared.sink.Gave.TheVariants.{Bytes, Failed, NoMemory}

-- the bytes of the piece that an answer says were taken
abbrev pub bytes_given : Gave → List ℕ → List ℕ
bytes_given (Bytes n) piece = take n piece
bytes_given Failed piece = []
bytes_given NoMemory piece = []

-- the bytes that were taken stand behind those from before
pub record GivesTo (before now : Option (List ℕ)) (answer : Gave) (piece : List ℕ) : Type 0 where
  pub told : (given : List ℕ) → before ≡ Some given → now ≡ Some (given ++ bytes_given answer piece)
  pub untold : before ≡ None → now ≡ None

-- no more bytes than the piece has
abbrev pub FitsPiece : Gave → List ℕ → Type 0
FitsPiece (Bytes n) piece = n ≤ length piece
FitsPiece Failed piece = Unit {0}
FitsPiece NoMemory piece = Unit {0}

-- a failure is counted, and so is a piece of which nothing was taken; the count stands still at its last value
pub record CountsFaults (before now : ℕ) (answer : Gave) (piece : List ℕ) : Type 0 where
  pub later : before ≤ now
  pub stays : before ≤ last_count → now ≤ last_count
  pub failed : answer ≡ Failed → Rose before now
  pub nothing : answer ≡ Bytes 0 → 0 < length piece → Rose before now
