-- What a call on an area did, where its answer agreed: who tells the pages afterwards told them before.
use Rattle.std.specs.Prelude.{◌≡◌, ℕ, List, Option, Some}
use Rattle.solo_devices.specs.declared.area.Moved.{Moved}
use Rattle.solo_devices.specs.Area.{ReadsOf, WritesTo}

abbrev pub ReadsIfHonest : Option (List (List ℕ)) → Option (List (List ℕ)) → ℕ → Moved → List ℕ
    → Type 0
ReadsIfHonest before now n answer page =
    (pages : List (List ℕ)) → now ≡ Some pages → (before ≡ Some pages) × ReadsOf pages n answer page

abbrev pub WritesIfHonest : Option (List (List ℕ)) → Option (List (List ℕ)) → ℕ → Moved → List ℕ
    → Type 0
WritesIfHonest before now n answer page =
    (after : List (List ℕ)) → now ≡ Some after
    → (pages : List (List ℕ)) × (before ≡ Some pages) × WritesTo pages now n answer page
