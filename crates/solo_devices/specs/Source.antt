-- What a take from a source does. A source may tell the bytes that it has left, or tell nothing.
use Rattle.std.specs.Prelude.{◌≡◌, ℕ, ◌≤◌, ◌<◌, List, [], length, take, drop, Option, Some, None}
use Rattle.solo_devices.specs.Count.{Rose, last_count}
use Rattle.solo_devices.specs.declared.source.Took.{Took}
use Rattle.solo_devices.specs.declared.source.Took.TheVariants.{Bytes, Failed}

-- n bytes were taken of those that were left, and stand at the beginning of the piece
pub record TakesFirst (n : ℕ) (left : List ℕ) (now : Option (List ℕ)) (piece : List ℕ) : Type 0 where
  pub piece_begins : take n piece ≡ take n left
  pub rest : now ≡ Some (drop n left)
  pub there : n ≤ length left
  -- no bytes of a piece that isn't empty are the end
  pub end : 0 < length piece → n ≡ 0 → left ≡ []

-- what an answer says of the bytes that were left
abbrev pub TakesOf : List ℕ → Option (List ℕ) → Took → List ℕ → Type 0
TakesOf left now (Bytes n) piece = TakesFirst n left now piece
TakesOf left now Failed piece = now ≡ Some left

-- a source that tells what it has left goes on telling it, and another goes on not telling it
pub record TakesFrom (before now : Option (List ℕ)) (answer : Took) (piece : List ℕ) : Type 0 where
  pub told : (left : List ℕ) → before ≡ Some left → TakesOf left now answer piece
  pub untold : before ≡ None → now ≡ None

-- no more bytes than the piece has room for
abbrev pub FitsPiece : Took → List ℕ → Type 0
FitsPiece (Bytes n) piece = n ≤ length piece
FitsPiece Failed piece = Unit {0}

-- how many bytes an answer adds to those that were taken
abbrev pub bytes_taken : Took → ℕ
bytes_taken (Bytes n) = n
bytes_taken Failed = 0

-- a failure is counted, and the count stands still at its last value
pub record CountsFaults (before now : ℕ) (answer : Took) : Type 0 where
  pub later : before ≤ now
  pub stays : before ≤ last_count → now ≤ last_count
  pub failed : answer ≡ Failed → Rose before now
