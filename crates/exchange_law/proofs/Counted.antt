-- The marks of what acts moved at a side of a buffer.
use Rattle.std.proofs.Common.{◌≡◌, ℕ, Bool, List, [], ◌∷◌, ◌++◌, map, refl, ap}
use Rattle.solo_base.specs.declared.outcome.Side.{Side}
use Rattle.network_law.specs.Acts.{Call, Alone, At, Asks, Gives, Went, Delayed, Act, moved, moved_by}

pub map-append : {A B : Type 0} (f : A → B) (some more : List A) → map f (some ++ more) ≡ map f some ++ map f more
map-append f [] more = refl
map-append f (x ∷ some) more = ap (λ rest. f x ∷ rest) (map-append f some more)

pub none-delayed : {Parcel : Type 0} (b : ℕ) (side : Side) (c : Call) → moved_by {Parcel = Parcel} b side c Delayed ≡ []
none-delayed b side Alone = refl
none-delayed b side (At d of visit) = refl
none-delayed b side Asks = refl
none-delayed b side Gives = refl

-- the marks of what acts moved at a side of a buffer
abbrev pub marks_at : {Parcel : Type 0} → (Parcel → Bool) → ℕ → Side → List (Act Parcel) → List Bool
marks_at mark b side acts = map mark (moved b side acts)

abbrev pub marks_by : {Parcel : Type 0} → (Parcel → Bool) → ℕ → Side → Call → Went Parcel → List Bool
marks_by mark b side c w = map mark (moved_by b side c w)
