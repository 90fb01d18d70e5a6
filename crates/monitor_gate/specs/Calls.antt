-- An end of a monitor between two processes: a pass, as contracts see it that speak of plain calls.
use Rattle.std.specs.Prelude.{◌≡◌, ℕ, List, [], ◌∷◌, ◌++◌, map}
use Rattle.monitor_gate.specs.Ends.{GateView, PassView, IsPassOf, IsOutside, left}

-- what is known of the gate of an end, and the calls that the end has completed, the oldest first
pub record End (G C : Type 0) : Type 0 where
  pub gate : G
  pub calls : List C

-- the end, once it has completed one call more
abbrev pub after_call : {G C : Type 0} → End G C → C → End G C
after_call end call = record end { calls = end.calls ++ call ∷ [] }

module _ {S E : Type 0} where
  -- the pass of this process, between two of its entries, which has joined no other
  pub record IsEndOf (gate : GateView S) (number : ℕ) (pass : PassView S E) : Type 0 where
    pub of_gate : IsPassOf gate pass
    pub outside : IsOutside pass
    pub alone : pass.view.joined ≡ []
    pub number_is : pass.view.number ≡ number

module _ {S E C : Type 0} where
  -- the pass, once its process has completed an entry that is this call
  pub record HasCalled (value : E → C) (old new : PassView S E) (call : C) : Type 0 where
    pub entry : E
    pub left_is : new ≡ left old entry
    pub call_is : value entry ≡ call

  -- the calls of a pass
  abbrev pub calls_in : (E → C) → PassView S E → List C
  calls_in value pass = map value pass.view.entries
