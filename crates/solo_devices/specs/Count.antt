-- Counts that only rise, up to their last value.
use Rattle.std.specs.Prelude.{ℕ, ◌+◌, ◌<◌, ◌≤◌, min}

-- where a count of 64 bits stands still
abbrev pub last_count : ℕ
last_count = 18446744073709551615

-- the count after so many more
abbrev pub raised : ℕ → ℕ → ℕ
raised count more = min (count + more) last_count

-- the count rose, or stands at its last value
abbrev pub Rose : ℕ → ℕ → Type 0
Rose before now = raised before 1 ≤ now

-- it did neither
abbrev pub Stayed : ℕ → ℕ → Type 0
Stayed before now = now < raised before 1
