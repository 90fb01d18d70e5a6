-- What is asked of the processes of a network, each over its own history.
use Rattle.std.specs.Prelude.{◌≡◌, ℕ, true, false, List, ◌∷◌, Some}
use Rattle.solo_base.specs.declared.outcome.Side.{Side}
use Rattle.network_law.specs.Acts.{Call, Alone, At, Moves, Asks, Gives, Visit, Delayed, made_stop, found_ready, holds}
use Rattle.network_law.specs.Network.{Network, IsOne, Follows, acts}

-- After this history a process makes this call next.
pub record CallsNext {Devices Action Entry Parcel : Type 0} (network : Network Devices Action Entry Parcel)
    (p : ℕ) (h : List Entry) (c : Call) : Type 0 where
  pub action : Action
  pub next : network.next p h ≡ Some action
  pub call : network.call p action ≡ c

-- a call that no monitor delays
abbrev pub IsPrompt : Call → Type 0
IsPrompt Alone = Unit {0}
IsPrompt (At b side Moves) = Unit {0}
IsPrompt Gives = Unit {0}
IsPrompt call = ⊥

pub record IsLawful {Devices Action Entry Parcel : Type 0}
    (network : Network Devices Action Entry Parcel) : Type 0 where
  -- The process at a side of a buffer calls there, and after it has stopped the side no more.
  pub seated : (p : ℕ) (h : List Entry) (b : ℕ) (side : Side) (visit : Visit) → IsOne network p
      → Follows network p h → CallsNext network p h (At b side visit) → network.seat b side ≡ p
  pub unstopped : (p : ℕ) (h : List Entry) (b : ℕ) (side : Side) (visit : Visit) → IsOne network p
      → Follows network p h → CallsNext network p h (At b side visit)
      → made_stop b side (acts network p h) ≡ false
  -- It moves what it awaited.
  pub found : (p : ℕ) (h : List Entry) (b : ℕ) (side : Side) → IsOne network p → Follows network p h
      → CallsNext network p h (At b side Moves) → found_ready b side (acts network p h) ≡ true
  -- It asks for the disk where it doesn't have it, and gives it back where it has.
  pub asks : (p : ℕ) (h : List Entry) → IsOne network p → Follows network p h → CallsNext network p h Asks
      → holds (acts network p h) ≡ false
  pub gives : (p : ℕ) (h : List Entry) → IsOne network p → Follows network p h → CallsNext network p h Gives
      → holds (acts network p h) ≡ true
  -- Who has the disk goes on without waiting.
  pub held : (p : ℕ) (h : List Entry) → IsOne network p → Follows network p h
      → holds (acts network p h) ≡ true → (c : Call) × IsPrompt c × CallsNext network p h c
  -- A call that waits is made again.
  pub again : (p : ℕ) (h : List Entry) (entry : Entry) → network.went entry ≡ Delayed
      → network.next p h ≡ Some (network.action entry)
      → network.next p (entry ∷ h) ≡ Some (network.action entry)
