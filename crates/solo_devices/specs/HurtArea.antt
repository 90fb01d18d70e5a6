-- What a read of an area gives of which one read is damaged.
use Rattle.std.specs.Prelude.{◌≡◌, ℕ, ◌==◌, if◌then◌else◌, List, Option, Some, slice_get, slice_set}
use Rattle.solo_devices.specs.declared.sure_area.SureArea.{SureArea}

-- the read of this number gives the page with this byte at this place, every other read the page as it is
pub record Harm : Type 0 where
  pub read : ℕ
  pub at : ℕ
  pub byte : ℕ

-- an area with such a read: what it has, how many reads were made, and which is damaged
pub record Hurt : Type 0 where
  pub area : SureArea
  pub reads : ℕ
  pub harm : Harm

abbrev pub harmed : Harm → ℕ → List ℕ → List ℕ
harmed harm read page = if read == harm.read then slice_set page harm.at harm.byte else page

-- what the read of this number gives of the pages of the area
abbrev pub GivesHarmed : Harm → ℕ → Option (List (List ℕ)) → ℕ → List ℕ → Type 0
GivesHarmed harm read pages n given =
    (all : List (List ℕ)) (page : List ℕ) → pages ≡ Some all → slice_get all n ≡ Some page → given ≡ harmed harm read page
