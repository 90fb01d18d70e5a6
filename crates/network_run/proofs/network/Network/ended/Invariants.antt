use Rattle.std.specs.Prelude.{◌≤◌, ◌<◌, ℕ}
use Rattle.network_run.specs.Law.{Placed}
use Rattle.network_run.proofs.network.Network.ended.Given as goal

-- those before this one have ended
abbrev pub invariant-asking : goal.invariant-asking
invariant-asking g l =
    (at : Placed g.Self.Network.law (g.Self.Network.Stands l.self)) → (q : ℕ) → 1 ≤ q → q < l.p → g.Self.Network.law.HasEnded at.state q
