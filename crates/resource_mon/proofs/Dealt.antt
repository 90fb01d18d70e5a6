-- The seats of a new resource, one for each pass of its gate.
use Rattle.std.proofs.Common.{◌≡◌, ℕ, zero, suc, ◌≤◌, Some, List, [], ◌∷◌, ◌++◌, map, length, refl, ap, ◌∙◌, arith}
use Rattle.std.specs.List.{AllByRecursion}
use Rattle.std.proofs.lemmas.List.{map_push}
use Rattle.monitor_gate.specs.declared.view.Stage.TheVariants.{Outside}
use Rattle.monitor_gate.specs.Ends.{TableId, PassView, new_passes}
use Rattle.resource_mon.specs.declared.call.DiskCall.{DiskCall}
use Rattle.resource_mon.specs.Claims.{Claims, unclaimed}
use Rattle.resource_mon.specs.DiskCalls.{IsSeated}
use Rattle.resource_mon.specs.Seats.{Seat, new_seats}

-- the seat of a pass
abbrev pub seat_of : PassView Claims DiskCall → Seat
seat_of pass = record { gate = pass.gate; number = pass.view.number; calls = pass.view.entries; joined = pass.view.joined }

-- a pass of a resource that nobody has asked for
abbrev pub IsNew : PassView Claims DiskCall → Type 0
IsNew pass = (pass.view.opening ≡ Some unclaimed) × (pass.view.stage ≡ Outside) × IsSeated pass.view.number

all-more : (P : PassView Claims DiskCall → Type 0) (passes : List (PassView Claims DiskCall)) (pass : PassView Claims DiskCall) → AllByRecursion P passes → P pass → AllByRecursion P (passes ++ pass ∷ [])
all-more P [] pass all here = (here, tt)
all-more P (first ∷ later) pass all here = (all.0, all-more P later pass all.1 here)

pub seats_dealt : (gate : TableId) (n : ℕ) → map seat_of (new_passes gate unclaimed n) ≡ new_seats gate n
seats_dealt gate zero = refl
seats_dealt gate (suc n) = map_push seat_of (new_passes gate unclaimed n) _ ∙ ap (λ seats. seats ++ record { gate = gate; number = suc n; calls = []; joined = [] } ∷ []) (seats_dealt gate n)

pub all_new : (gate : TableId) (n : ℕ) → n ≤ 8 → AllByRecursion IsNew (new_passes gate unclaimed n)
all_new gate zero few = tt
all_new gate (suc n) few = all-more IsNew (new_passes gate unclaimed n) _ (all_new gate n (omega arith)) (refl, refl, ((omega arith), few))

pub length_dealt : (gate : TableId) (n : ℕ) → length (new_passes {S = Claims} {E = DiskCall} gate unclaimed n) ≡ n
length_dealt gate zero = refl
length_dealt gate (suc n) = length-push (new_passes gate unclaimed n) _ ∙ ap suc (length_dealt gate n) where
  length-push : (passes : List (PassView Claims DiskCall)) (pass : PassView Claims DiskCall) → length (passes ++ pass ∷ []) ≡ suc (length passes)
  length-push [] pass = refl
  length-push (first ∷ later) pass = ap suc (length-push later pass)
