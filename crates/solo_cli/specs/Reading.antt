-- What is read to its end.
use Rattle.std.specs.Prelude.{◌≡◌, ◌<◌, ◌≤◌, ◌⊎◌, ℕ, List, [], Option, Some, None, length}
use Rattle.solo_devices.specs.CardUnit.{byte_limit}
use Rattle.run_report.specs.Told.{SourceTold}

-- Where all is done nothing is left of what told its bytes. That never comes where there are more of them
-- than the limit allows.
pub record ReadsToEnd {S : Type 0} (before after : SourceTold S) (all : Type 0) : Type 0 where
  pub emptied : (bytes : List ℕ) → before.left ≡ Some bytes → all → after.left ≡ Some []
  pub longer : (bytes : List ℕ) → before.left ≡ Some bytes → byte_limit < length bytes → all → ⊥

-- it tells its bytes, no more than the limit allows
abbrev pub IsWithinLimit : Option (List ℕ) → Type 0
IsWithinLimit None = ⊥
IsWithinLimit (Some bytes) = length bytes ≤ byte_limit

-- It tells that it has no more bytes than the limit allows, or no more were taken of it.
abbrev pub StaysWithin : {S : Type 0} → SourceTold S → SourceTold S → Type 0
StaysWithin before after = IsWithinLimit before.left ⊎ (after.taken ≤ byte_limit)
