-- Why a row is never stuck, by the places of its processes.
use Rattle.std.specs.Prelude.{◌≡◌, ℕ, Bool, List, [], None, Some}
use Rattle.solo_base.specs.declared.outcome.Side.{Side}
use Rattle.solo_base.specs.declared.outcome.Side.TheVariants.{Receiver}
use Rattle.queue_var.specs.Sides.{other}
use Rattle.queue_var.specs.HandsOver.{Lacks}
use Rattle.network_law.specs.Acts.{At, Visit}
use Rattle.network_law.specs.Network.{IsOne, Follows}
use Rattle.network_law.specs.Kept.{CanWait, IsAmong}
use Rattle.place_law.specs.Process.{Entry}
use Rattle.row_law.specs.Process.{Process, place, caused}
use Rattle.row_law.specs.Row.{Row, network_of}
use Rattle.row_law.specs.Ranks.{marks_at, AgreeSo, WaitsFor, IsBelow}

-- at this place a process calls at a side of a buffer, where it may wait
pub record CallsThere {Action Reply : Type 0} (p : Process Action Reply) (at : p.Place) (b : ℕ)
    (side : Side) : Type 0 where
  pub action : Action
  pub visit : Visit
  pub can_wait : CanWait visit
  pub does : p.does at ≡ Some action
  pub call : p.calls action ≡ At b side visit

-- it has no cause to stop, and stands at such a place
pub record IsAt {Devices Action Reply Parcel : Type 0} (t : Row Devices Action Reply Parcel) (p : ℕ)
    (h : List (Entry Action Reply)) (b : ℕ) (side : Side) : Type 0 where
  pub free : caused t.view (t.process p) h ≡ None
  pub calls : CallsThere (t.process p) (place (t.process p) h) b side

-- it has no cause to stop, and all its work is done
pub record IsDone {Devices Action Reply Parcel : Type 0} (t : Row Devices Action Reply Parcel) (p : ℕ)
    (h : List (Entry Action Reply)) : Type 0 where
  pub free : caused t.view (t.process p) h ≡ None
  pub over : (t.process p).does (place (t.process p) h) ≡ None

-- at the other side of a buffer sits another process, which has the buffer among its own
pub record Meets {Devices Action Reply Parcel : Type 0} (t : Row Devices Action Reply Parcel) (p b : ℕ)
    (side : Side) : Type 0 where
  pub partner : IsOne (network_of t) (t.seat b (other side))
  pub apart : t.seat b (other side) ≡ p → ⊥
  pub listed : IsAmong (t.process (t.seat b (other side))).buffers b

pub record Ranks {Devices Action Reply Parcel : Type 0} (t : Row Devices Action Reply Parcel)
    (capacity : ℕ → ℕ) : Type 0 where
  -- who calls at a buffer meets another there
  pub meets : (p : ℕ) → IsOne (network_of t) p → (at : (t.process p).Place) (b : ℕ) (side : Side)
      → CallsThere (t.process p) at b side → Meets t p b side
  -- nobody waits for one whose work is done, at a buffer that it doesn't stop then
  pub never_over : (p : ℕ) (h : List (Entry Action Reply)) (q : ℕ) (g : List (Entry Action Reply)) (b : ℕ)
      (side : Side)
      → WaitsFor (network_of t) capacity p h q g b side → IsAt t p h b side → IsDone t q g
      → (IsAmong (t.process q).spools b → ⊥) → ⊥
  -- the layer and the rank of a process that waits at a side of a buffer, by its own history; and who is
  -- waited for
  -- and waits elsewhere stands below
  pub layer : ℕ → ℕ → Side → List (Entry Action Reply) → ℕ
  pub rank : ℕ → ℕ → Side → List (Entry Action Reply) → ℕ
  pub falls : (p : ℕ) (h : List (Entry Action Reply)) (q : ℕ) (g : List (Entry Action Reply)) (b : ℕ)
      (side : Side)
      (c : ℕ) (of : Side) → (for : WaitsFor (network_of t) capacity p h q g b side) → IsAt t p h b side
      → IsAt t q g c of → Lacks (capacity c) (for.inside c) of → ((c ≡ b) × (of ≡ other side) → ⊥)
      → IsBelow (layer q c of g) (rank q c of g) (layer p b side h) (rank p b side h)

-- ---- whose work is done is missed by nobody
-- Two processes sit at the sides of a buffer, with these histories; a receiver here finds nothing inside.
pub record SitAt {Devices Action Reply Parcel : Type 0} (t : Row Devices Action Reply Parcel) (p : ℕ)
    (h : List (Entry Action Reply)) (q : ℕ) (g : List (Entry Action Reply)) (b : ℕ)
    (side : Side) : Type 0 where
  pub one : IsOne (network_of t) p
  pub follows : Follows (network_of t) p h
  pub seated : t.seat b side ≡ p
  pub other_seated : t.seat b (other side) ≡ q
  pub other_one : IsOne (network_of t) q
  pub other_follows : Follows (network_of t) q g
  pub inside : List Bool
  pub agree : AgreeSo side (marks_at (network_of t) p h b side) (marks_at (network_of t) q g b
      (other side)) inside
  pub empty : side ≡ Receiver → inside ≡ []

-- so none calls at a buffer whose other process has done all its work
abbrev pub NoneMissed : {Devices Action Reply Parcel : Type 0} → Row Devices Action Reply Parcel → Type 0
NoneMissed {Devices} {Action} {Reply} {Parcel} t =
    (p : ℕ) (h : List (Entry Action Reply)) (q : ℕ) (g : List (Entry Action Reply)) (b : ℕ) (side : Side)
    → SitAt t p h q g b side → IsAt t p h b side → IsDone t q g → ⊥
