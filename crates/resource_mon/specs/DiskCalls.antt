-- The calls at a running disk resource, and what they have to do with its state.
use Rattle.std.specs.Prelude.{◌≡◌, ℕ, ◌≤◌, ◌==◌, Bool, true, false, ◌||◌, Option, None, Some, List, [], ◌∷◌}
use Rattle.std.specs.List.{AllByRecursion, list_any}
use Rattle.resource_mon.specs.declared.call.DiskCall.{DiskCall}
use Rattle.resource_mon.specs.declared.call.DiskCall.TheVariants.{Request, Release}
use Rattle.resource_mon.specs.declared.grant.Grant.TheVariants.{Got, Wait}
use Rattle.resource_mon.specs.Claims.{Claims, HasOneHolder, IsNoneOf, claimants, after_request, after_release, after_resumed}

-- the latest of these calls, the oldest of which comes first, is a grant
abbrev pub holds_after : Bool → List DiskCall → Bool
holds_after held [] = held
holds_after held (Request ∷ later) = holds_after true later
holds_after held (Release ∷ later) = holds_after false later

-- these calls end in a grant that no release follows
abbrev pub has_grant : List DiskCall → Bool
has_grant calls = holds_after false calls

-- a number of a process that has a seat
abbrev pub IsSeated : ℕ → Type 0
IsSeated p = (1 ≤ p) × (p ≤ 8)

-- The resource stands where it does after the calls of all processes: some requests, grants and releases lead there, each
-- process that has it or waits has a seat, and the calls of a process end in a grant exactly where it has the resource and
-- the turn isn't handed to it.
pub record IsTied (calls : ℕ → List DiskCall) (state : Claims) : Type 0 where
  pub requested : List ℕ
  pub granted : List ℕ
  pub released : List ℕ
  pub stands : HasOneHolder requested granted released state
  pub seated : AllByRecursion IsSeated (claimants state)
  pub holder : (p : ℕ) → state.holder ≡ Some p → state.handed ≡ None → has_grant (calls p) ≡ true
  pub no_other : (p : ℕ) → has_grant (calls p) ≡ true → (state.holder ≡ Some p) × (state.handed ≡ None)

abbrev pub is_handed : ℕ → Option ℕ → Bool
is_handed p None = false
is_handed p (Some q) = q == p

-- the process waits, or the turn is handed to it and it hasn't resumed
abbrev pub is_waiting : ℕ → Claims → Bool
is_waiting p state = list_any (λ q. q == p) state.waiting || is_handed p state.handed

-- the turn is handed to the process, which has the resource
pub record IsWoken (p : ℕ) (state : Claims) : Type 0 where
  pub turn : state.handed ≡ Some p
  pub has : state.holder ≡ Some p

-- a process asks for the resource while the turn is free
pub record Asks (p : ℕ) (before : Claims) : Type 0 where
  pub seat : IsSeated p
  pub free : before.handed ≡ None
  pub no_claim : IsNoneOf (claimants before) p

-- it has it at once
pub record Gets (p : ℕ) (before after : Claims) : Type 0 where
  pub asks : Asks p before
  pub nobody : before.holder ≡ None
  pub after_is : after ≡ after_request before p Got

-- it has waited, and resumes
pub record Resumes (p : ℕ) (before after : Claims) : Type 0 where
  pub turn : before.handed ≡ Some p
  pub after_is : after ≡ after_resumed before

pub data Granted (p : ℕ) (before after : Claims) : Type 0 where
  at_once : Gets p before after → Granted p before after
  at_last : Resumes p before after → Granted p before after

-- the holder gives it up
pub record GivesUp (p : ℕ) (before after : Claims) : Type 0 where
  pub held : before.holder ≡ Some p
  pub free : before.handed ≡ None
  pub after_is : after ≡ after_release before

-- an entry of the process that completes this call leads from the one state to the other
abbrev pub Moves : ℕ → Claims → DiskCall → Claims → Type 0
Moves p before Request after = Granted p before after
Moves p before Release after = GivesUp p before after

-- a request of the process that ends in a delay leads from the one state to the other
pub record Rests (p : ℕ) (before after : Claims) : Type 0 where
  pub asks : Asks p before
  pub holder : ℕ
  pub held : before.holder ≡ Some holder
  pub after_is : after ≡ after_request before p Wait
