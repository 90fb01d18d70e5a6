-- Who has a resource, and who waits for it.
use Rattle.std.specs.Prelude.{◌≡◌, ◌≢◌, ◌⊎◌, ℕ, Option, None, Some, List, [], ◌∷◌, ◌++◌, option_to_list}
use Rattle.std.specs.List.{AllByRecursion}
use Rattle.resource_mon.specs.declared.grant.Grant.{Grant}
use Rattle.resource_mon.specs.declared.grant.Grant.TheVariants.{Got, Wait}

-- the process that has the resource, those that wait for it in order of arrival, and the process to
-- which the turn is handed
pub record Claims : Type 0 where
  pub holder : Option ℕ
  pub waiting : List ℕ
  pub handed : Option ℕ

abbrev pub unclaimed : Claims
unclaimed = record { holder = None; waiting = []; handed = None }

-- who has it, and then who waits for it
abbrev pub claimants : Claims → List ℕ
claimants claims = option_to_list claims.holder ++ claims.waiting

-- a process that is none of these
abbrev pub IsNoneOf : List ℕ → ℕ → Type 0
IsNoneOf processes p = AllByRecursion (λ q. q ≢ p) processes

-- A process may make its request where the turn is free, and it neither has the resource nor waits for it;
-- one that the turn is handed to resumes.
abbrev pub MayRequest : Claims → ℕ → Type 0
MayRequest claims p = ((claims.handed ≡ None) × IsNoneOf (claimants claims) p) ⊎ (claims.handed ≡ Some p)

-- no process stands twice
abbrev pub EachOnce : List ℕ → Type 0
EachOnce [] = Unit {0}
EachOnce (p ∷ later) = IsNoneOf later p × EachOnce later

-- The requests, the grants and the releases so far, each in order: the grants come in order of the
-- requests, and whoever was granted has released, but for the holder.
pub record HasOneHolder (requested granted released : List ℕ) (claims : Claims) : Type 0 where
  pub in_order : granted ++ claims.waiting ≡ requested
  pub one_holder : released ++ option_to_list claims.holder ≡ granted
  -- where there is no holder nobody waits
  pub idle : claims.holder ≡ None → claims.waiting ≡ []
  pub each_once : EachOnce (claimants claims)
  pub handed_to_holder : (p : ℕ) → claims.handed ≡ Some p → claims.holder ≡ Some p

abbrev pub grant_by : Option ℕ → Grant
grant_by None = Got
grant_by (Some holder) = Wait

abbrev pub after_request : Claims → ℕ → Grant → Claims
after_request claims p Got = record claims { holder = Some p }
after_request claims p Wait = record claims { waiting = claims.waiting ++ p ∷ [] }

-- the grants, with the answer to this request
abbrev pub granted_with : List ℕ → ℕ → Grant → List ℕ
granted_with granted p Got = granted ++ p ∷ []
granted_with granted p Wait = granted

abbrev pub first_of : List ℕ → Option ℕ
first_of [] = None
first_of (first ∷ later) = Some first

abbrev pub later_of : List ℕ → List ℕ
later_of [] = []
later_of (first ∷ later) = later

-- The first that waits has it, and the turn.
abbrev pub after_release : Claims → Claims
after_release claims =
    record { holder = first_of claims.waiting; waiting = later_of claims.waiting; handed = first_of claims.waiting }

abbrev pub after_resumed : Claims → Claims
after_resumed claims = record claims { handed = None }
