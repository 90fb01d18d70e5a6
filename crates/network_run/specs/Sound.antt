-- What is proved of a law before its network is run.
use Rattle.std.specs.Prelude.{◌≡◌, ◌≤◌, ◌⊎◌, ℕ, List, length}
use Rattle.network_run.specs.Counting.{grants_by}
use Rattle.network_run.specs.Law.{Law, IsOne, IsReached, AreEnabled, NoneGoes, AllEnded}

-- Whatever the devices do: no reached state is stuck, and a grant is seen at the holder.
pub record IsSoundLaw (law : Law) : Type 0 where
  pub few : law.size ≤ 16
  -- only a process may go on, and none that has ended
  pub goers : (s : law.State) (p : ℕ) → law.MayGo s p → IsOne law p × (law.HasEnded s p → ⊥)
  pub enabled_go : (s : law.State) (event : law.Event) → law.IsEnabled s event
      → law.MayGo s (law.process event)
  pub never_stuck : (opening : law.Opening) (s : law.State) → IsReached law (law.opened opening) s
      → NoneGoes law s → AllEnded law s
  pub granted : (opening : law.Opening) (s : law.State) (event : law.Event)
      → IsReached law (law.opened opening) s → law.IsEnabled s event
      → law.grants s event ≡ grants_by (law.holder s) (law.holder (law.happens s event))

-- Where an opening is told, nothing is open but who steps next.
pub record IsSureLaw (law : Law) : Type 0 where
  pub may_tell : (s : law.State) (p : ℕ) → law.MayGo s p ⊎ (law.MayGo s p → ⊥)
  pub one_event : (opening : law.Opening) (s : law.State) (event other : law.Event)
      → IsReached law (law.opened opening) s → law.IsTold opening → law.IsEnabled s event
      → law.IsEnabled s other → law.IsSmooth event → law.IsSmooth other
      → law.process other ≡ law.process event → other ≡ event
  pub some_event : (opening : law.Opening) (s : law.State) (p : ℕ) → IsReached law (law.opened opening) s
      → law.IsTold opening → law.MayGo s p
      → (event : law.Event) × law.IsEnabled s event × (law.process event ≡ p) × law.IsSmooth event
  -- no run is longer than some number
  pub no_longer : (opening : law.Opening) → law.IsTold opening → (most : ℕ)
      × ((events : List law.Event) → AreEnabled law (law.opened opening) events → length events ≤ most)
