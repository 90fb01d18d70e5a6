-- Where the last parcel of each buffer bears a mark: who calls at a buffer hasn't moved it, and who has done
-- all its
-- work has, at each of its buffers. Said by places.
use Rattle.std.specs.Prelude.{◌≡◌, ◌||◌, ℕ, Bool, true, false, List, [], ◌∷◌, map, None, Some}
use Rattle.solo_base.specs.declared.outcome.Side.{Side}
use Rattle.network_law.specs.Acts.{Call, Went, moved_by}
use Rattle.network_law.specs.Network.{IsOne}
use Rattle.network_law.specs.Kept.{IsAmong}
use Rattle.place_law.specs.Process.{or_new, fault_in}
use Rattle.place_law.specs.Table.{MovesNothing}
use Rattle.row_law.specs.Process.{View, Process, given_cause}
use Rattle.row_law.specs.Row.{Row, network_of}
use Rattle.row_law.specs.Waits.{CallsThere}
use Rattle.row_law.specs.Aims.{Aim, Makes, Conveys, Borrows, Finishes, Aims, AimsAt}

abbrev pub has_true : List Bool → Bool
has_true [] = false
has_true (mark ∷ marks) = mark || has_true marks

-- whether a call moved the last parcel at a side of a buffer
abbrev pub moves_last : {Parcel : Type 0} → (Parcel → Bool) → ℕ → Side → Call → Went Parcel → Bool
moves_last mark b side call went = has_true (map mark (moved_by b side call went))

pub record MarksAt {Action Reply Parcel : Type 0} (view : View Action Reply Parcel) (mark : Parcel → Bool)
    (seat : ℕ → Side → ℕ) (n : ℕ) (p : Process Action Reply) : Type 0 where
  -- whether the last went through a side of a buffer, by the place
  pub marked : p.Place → ℕ → Side → Bool
  pub starts : (b : ℕ) (side : Side) → marked p.start b side ≡ false
  pub behind : (at : p.Place) (action : Action) (reply : Reply) (b : ℕ) (side : Side)
      → p.does at ≡ Some action
      → view.Fits action reply → given_cause view p at action reply ≡ None
      → marked (p.behind at reply) b side
      ≡ (marked at b side || moves_last mark b side (p.calls action) (view.went action reply))
  -- who calls at a buffer hasn't moved the last, and who has done all its work has
  pub calls : (at : p.Place) (b : ℕ) (side : Side) → CallsThere p at b side → marked at b side ≡ false
  pub over : (at : p.Place) (b : ℕ) (side : Side) → p.does at ≡ None → seat b side ≡ n → IsAmong p.buffers b
      → marked at b side ≡ true
  pub stays : (at : p.Place) (reply : Reply) (b : ℕ) (side : Side) → p.does at ≡ None
      → marked (p.behind at reply) b side ≡ marked at b side

pub record EndsByMark {Devices Action Reply Parcel : Type 0}
    (t : Row Devices Action Reply Parcel) : Type 0 where
  pub marks : (p : ℕ) → IsOne (network_of t) p → MarksAt t.view t.mark t.seat p (t.process p)
  pub stop_moves_not : (b : ℕ) (reply : Reply) → MovesNothing (t.view.went (t.view.stop b) reply)

-- ---- the same of a process that is told by its aims
-- what a place tells behind the reply to this action
abbrev pub TellsBehind : {Action Reply Parcel : Type 0} → View Action Reply Parcel → (Parcel → Bool)
    → (p : Aims Action Reply) → (p.Place → ℕ → Side → Bool) → p.Place → Action → Type 0
TellsBehind {Reply = Reply} view mark p marked at action = (reply : Reply) (b : ℕ) (side : Side)
    → view.Fits action reply
    → or_new (view.cause action reply) (fault_in (p.finds at reply)) ≡ None
    → marked (p.behind at reply) b side
    ≡ (marked at b side || moves_last mark b side (p.calls action) (view.went action reply))

abbrev pub TellsAt : {Action Reply Parcel : Type 0} → View Action Reply Parcel → (Parcel → Bool)
    → (p : Aims Action Reply) → (p.Place → ℕ → Side → Bool) → p.Place → Aim Action → Type 0
TellsAt view mark p marked at (Makes a) = TellsBehind view mark p marked at a
TellsAt view mark p marked at (Conveys b side await move) = TellsBehind view mark p marked at move
TellsAt view mark p marked at (Borrows a) = TellsBehind view mark p marked at a
TellsAt view mark p marked at Finishes = Unit {0}

pub record AimsMark {Action Reply Parcel : Type 0} (view : View Action Reply Parcel) (mark : Parcel → Bool)
    (seat : ℕ → Side → ℕ) (n : ℕ) (p : Aims Action Reply) : Type 0 where
  -- whether the last went through a side of a buffer, by the place
  pub marked : p.Place → ℕ → Side → Bool
  pub starts : (b : ℕ) (side : Side) → marked p.start b side ≡ false
  pub behind : (at : p.Place) → TellsAt view mark p marked at (p.aims at)
  -- who aims at a buffer hasn't moved the last, and who has finished has
  pub calls : (at : p.Place) (b : ℕ) (side : Side) → AimsAt p.calls (p.aims at) b side
      → marked at b side ≡ false
  pub over : (at : p.Place) (b : ℕ) (side : Side) → p.aims at ≡ Finishes → seat b side ≡ n
      → IsAmong p.buffers b → marked at b side ≡ true
