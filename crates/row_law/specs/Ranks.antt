-- Why a network is never stuck: who waits at a buffer waits for the process at its other side, and where
-- that one
-- waits elsewhere its rank there is less.
use Rattle.std.specs.Prelude.{◌≡◌, ◌⊎◌, ◌≤◌, ◌<◌, ℕ, Bool, false, List, ◌++◌, length, map, None}
use Rattle.solo_base.specs.declared.outcome.Side.{Side}
use Rattle.solo_base.specs.declared.outcome.Side.TheVariants.{Sender, Receiver}
use Rattle.queue_var.specs.Sides.{other}
use Rattle.queue_var.specs.HandsOver.{Lacks}
use Rattle.network_law.specs.Acts.{At, Visit, moved, made_stop}
use Rattle.network_law.specs.Network.{Network, IsOne, Follows, acts}
use Rattle.network_law.specs.Processes.{CallsNext}
use Rattle.network_law.specs.Kept.{CanWait}

-- After this history a process calls at a side of a buffer next, where it may wait.
pub record CallsAt {Devices Action Entry Parcel : Type 0} (network : Network Devices Action Entry Parcel)
    (p : ℕ) (h : List Entry) (b : ℕ) (side : Side) : Type 0 where
  pub visit : Visit
  pub can_wait : CanWait visit
  pub calls : CallsNext network p h (At b side visit)

-- the marks of what a process moved at a side of a buffer
abbrev pub marks_at : {Devices Action Entry Parcel : Type 0} → Network Devices Action Entry Parcel → ℕ
    → List Entry → ℕ → Side → List Bool
marks_at network p h b side = map network.mark (moved b side (acts network p h))

-- what was taken, and then what is inside, is what was put, by what each side moved
abbrev pub AgreeSo : Side → List Bool → List Bool → List Bool → Type 0
AgreeSo Sender mine theirs inside = theirs ++ inside ≡ mine
AgreeSo Receiver mine theirs inside = mine ++ inside ≡ theirs

-- Two processes sit at the sides of a buffer, with these histories; this one calls there next, lacks what it
-- waits for, and neither has stopped the buffer.
pub record WaitsFor {Devices Action Entry Parcel : Type 0} (network : Network Devices Action Entry Parcel)
    (capacity : ℕ → ℕ) (p : ℕ) (h : List Entry) (q : ℕ) (g : List Entry) (b : ℕ)
    (side : Side) : Type 0 where
  pub one : IsOne network p
  pub follows : Follows network p h
  pub calls : CallsAt network p h b side
  pub seated : network.seat b side ≡ p
  pub other_seated : network.seat b (other side) ≡ q
  pub other_one : IsOne network q
  pub other_follows : Follows network q g
  -- at each buffer between the two what was taken, and then what is inside, is what was put
  pub inside : ℕ → List Bool
  pub agree : (c : ℕ) (of : Side) → network.seat c of ≡ p → network.seat c (other of) ≡ q
      → AgreeSo of (marks_at network p h c of) (marks_at network q g c (other of)) (inside c)
  pub within : (c : ℕ) → length (inside c) ≤ capacity c
  pub lacks : Lacks (capacity b) (inside b) side
  pub going : made_stop b side (acts network p h) ≡ false
  pub other_going : made_stop b (other side) (acts network q g) ≡ false

-- in a lower layer, or in the same and of a lower rank
abbrev pub IsBelow : ℕ → ℕ → ℕ → ℕ → Type 0
IsBelow layer rank above high = (layer < above) ⊎ ((layer ≡ above) × (rank < high))

pub record IsRanked {Devices Action Entry Parcel : Type 0} (network : Network Devices Action Entry Parcel)
    (capacity : ℕ → ℕ) : Type 0 where
  -- of each process that waits at a side of a buffer a layer and a rank in it, by its own history
  pub layer : ℕ → ℕ → Side → List Entry → ℕ
  pub rank : ℕ → ℕ → Side → List Entry → ℕ
  -- who calls at a buffer has a process at its other side
  pub partner : (p : ℕ) (h : List Entry) (b : ℕ) (side : Side) → IsOne network p → Follows network p h
      → CallsAt network p h b side → IsOne network (network.seat b (other side))
  -- nobody waits for one that has ended
  pub never_over : (p : ℕ) (h : List Entry) (q : ℕ) (g : List Entry) (b : ℕ) (side : Side)
      → WaitsFor network capacity p h q g b side → network.next q g ≡ None → ⊥
  -- who is waited for and waits elsewhere stands below
  pub falls : (p : ℕ) (h : List Entry) (q : ℕ) (g : List Entry) (b : ℕ) (side : Side) (c : ℕ) (of : Side)
      → (for : WaitsFor network capacity p h q g b side) → CallsAt network q g c of
      → Lacks (capacity c) (for.inside c) of
      → ((c ≡ b) × (of ≡ other side) → ⊥)
      → IsBelow (layer q c of g) (rank q c of g) (layer p b side h) (rank p b side h)
