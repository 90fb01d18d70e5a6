-- Where no plan is told.
use Rattle.std.proofs.Common.{◌≡◌, None, Some}
use Rattle.solo_law.specs.Work as law

pub none_some : (plan : law.Plan) → None ≡ Some plan → ⊥
none_some plan is = cc
