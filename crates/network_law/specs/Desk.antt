-- The desk, which grants the disk: who has it, who waits for it, and all requests, grants and releases in
-- order.
use Rattle.std.specs.Prelude.{◌≡◌, ◌⊎◌, ℕ, List, [], ◌∷◌, ◌++◌, Option, None, Some, option_to_list}
use Rattle.resource_mon.specs.Claims.{Claims, IsNoneOf, unclaimed, first_of, after_request, after_release, after_resumed}
use Rattle.resource_mon.specs.declared.grant.Grant.TheVariants as grant
use Rattle.network_law.specs.Acts.{Went, Delayed, Done}

pub record Desk : Type 0 where
  pub claims : Claims
  pub requested : List ℕ
  pub granted : List ℕ
  pub released : List ℕ

abbrev pub idle : Desk
idle = record { claims = unclaimed; requested = []; granted = []; released = [] }

-- A request is granted where nobody has the disk, and so is the one to which the turn is handed; any other
-- waits.
abbrev pub asked : {Parcel : Type 0} → Option ℕ → Option ℕ → Went Parcel
asked (Some turn) holder = Done
asked None None = Done
asked None (Some holder) = Delayed

-- who asks again, when the turn is handed to it, has made its request before
abbrev pub after_grant : Option ℕ → Desk → ℕ → Desk
after_grant (Some turn) desk p = record desk { claims = after_resumed desk.claims }
after_grant None desk p =
    record {
      claims = after_request desk.claims p grant.Got;
      requested = desk.requested ++ p ∷ [];
      granted = desk.granted ++ p ∷ [];
      released = desk.released;
    }

abbrev pub after_asking : {Parcel : Type 0} → Desk → ℕ → Went Parcel → Desk
after_asking desk p Delayed = record desk {
  claims = after_request desk.claims p grant.Wait;
  requested = desk.requested ++ p ∷ [];
}
after_asking desk p went = after_grant desk.claims.handed desk p

-- the first that waits has it next
abbrev pub after_giving : Desk → Desk
after_giving desk = record {
  claims = after_release desk.claims;
  requested = desk.requested;
  granted = desk.granted ++ option_to_list (first_of desk.claims.waiting);
  released = desk.released ++ option_to_list desk.claims.holder;
}

-- A process asks while no turn is handed and it doesn't wait yet, or when the turn is handed to it.
abbrev pub MayAsk : Claims → ℕ → Type 0
MayAsk claims p = ((claims.handed ≡ None) × IsNoneOf claims.waiting p) ⊎ (claims.handed ≡ Some p)
