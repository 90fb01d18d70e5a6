-- The calls on a drive with their answers, and what they say of the pages of a range.
use Rattle.std.specs.Prelude.{◌<◌, ◌≤◌, ℕ, zero, suc, ◌+◌, ◌-◌, ◌==◌, Bool, true, false, if◌then◌else◌}
use Rattle.std.specs.Prelude.{List, [], ◌∷◌, take, drop, length, slice_index, slice_get, slice_set, bytes_eq}
use Rattle.std.specs.Prelude.{Option, Some, None}
use Rattle.std.specs.List.{All}
use Rattle.solo_devices.specs.declared.area.Moved.{Moved}
use Rattle.solo_devices.specs.declared.area.Moved.TheVariants.{Done, Failed}

-- a read (0) or a write (1), the address of the page, whether it was done, and the bytes
abbrev pub DriveEvent : Type 0
DriveEvent = ℕ × ℕ × Bool × List ℕ

abbrev pub event_of : List ℕ → List ℕ → DriveEvent
event_of numbers bytes = (slice_index numbers 0, slice_index numbers 1, slice_index numbers 2 == 1, bytes)

abbrev pub is_done : Moved → Bool
is_done Done = true
is_done Failed = false

abbrev pub was_read : ℕ → Moved → List ℕ → DriveEvent
was_read at answer bytes = (0, at, is_done answer, bytes)

abbrev pub was_written : ℕ → Moved → List ℕ → DriveEvent
was_written at answer bytes = (1, at, is_done answer, bytes)

-- the page is there and has these bytes
abbrev pub agrees : Option (List ℕ) → List ℕ → Bool
agrees (Some page) bytes = bytes_eq page bytes
agrees None bytes = false

-- The pages after a call on page n; none is told after an answer that disagrees with them. What a write that
-- failed left in its page is `torn`, of which nothing is supposed.
abbrev pub after_call : ℕ → ℕ → Bool → List ℕ → List ℕ → List (List ℕ) → Option (List (List ℕ))
after_call zero n true bytes torn pages = if agrees (slice_get pages n) bytes then Some pages else None
after_call zero n false bytes torn pages = Some pages
after_call (suc more) n true bytes torn pages = Some (slice_set pages n bytes)
after_call (suc more) n false bytes torn pages = Some (slice_set pages n torn)

abbrev pub then_call : ℕ → ℕ → Bool → List ℕ → List ℕ → Option (List (List ℕ)) → Option (List (List ℕ))
then_call call n ok bytes torn None = None
then_call call n ok bytes torn (Some pages) = after_call call n ok bytes torn pages

-- the pages of a range that begins at page `first` of the drive, after these calls
abbrev pub replay : ℕ → List (List ℕ) → (ℕ → List ℕ) → List DriveEvent → Option (List (List ℕ))
replay first start torn [] = Some start
replay first start torn (e ∷ earlier) =
    then_call e.0 (e.1 - first) e.2 e.3 (torn (length earlier)) (replay first start torn earlier)

-- every call lies in the range
abbrev pub InRange : ℕ → ℕ → List DriveEvent → Type 0
InRange first size history = All (λ e. (first ≤ e.1) × (e.1 < first + size)) history

-- these pages of the drive
abbrev pub range_of : ℕ → ℕ → List (List ℕ) → List (List ℕ)
range_of first size pages = take size (drop first pages)
