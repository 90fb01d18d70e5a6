-- What a printer unit adds to its sink: a line and a line feed, or a prefix of that where it refuses.
use Rattle.std.specs.Prelude.{◌≡◌, ℕ, Bool, true, List, ◌++◌, Option, Some, None, refl}
use Rattle.std.specs.Coded.{Coded, code_by, coded×, coded_bool}

-- A unit: its sink, and whether it may still print, since nothing was refused.
pub record Printing (K : Type 0) : Type 0 where
  pub sink : K
  pub live : Bool

-- it is stored as its fields
abbrev pub printing_code : {K : Type 0} → Coded K → Coded (Printing K)
printing_code {K} code = code_by (K × Bool) (coded× code coded_bool) (λ u. (u.sink, u.live)) (λ p. record { sink = p.0; live = p.1 }) (λ _. refl)

-- a unit as it is made
abbrev pub fresh_printer : {K : Type 0} → K → Printing K
fresh_printer sink = record { sink = sink; live = true }

-- the bytes begin so
pub record IsPrefixOf (part whole : List ℕ) : Type 0 where
  pub rest : List ℕ
  pub whole_is : part ++ rest ≡ whole

-- after a part of the bytes was given, and before the rest
pub record HasGiven (before now : Option (List ℕ)) (whole rest : List ℕ) : Type 0 where
  pub part : List ℕ
  pub parts_are : part ++ rest ≡ whole
  pub told : (given : List ℕ) → before ≡ Some given → now ≡ Some (given ++ part)
  pub untold : before ≡ None → now ≡ None

-- a sink that tells what it was given gained a part of the bytes, and all of them where this holds
pub record GainsOf (given : List ℕ) (now : Option (List ℕ)) (whole : List ℕ) (all : Type 0) : Type 0 where
  pub part : List ℕ
  pub now_is : now ≡ Some (given ++ part)
  pub prefix : IsPrefixOf part whole
  pub all_is : all → part ≡ whole

pub record Gains (before now : Option (List ℕ)) (whole : List ℕ) (all : Type 0) : Type 0 where
  pub told : (given : List ℕ) → before ≡ Some given → GainsOf given now whole all
  pub untold : before ≡ None → now ≡ None
