-- What is dealt in turn, each made on its own side.
use Rattle.std.proofs.Common.{◌≡◌, List, [], ◌∷◌, map, refl, ap}
use Rattle.twin_law.specs.Sides.{Dealt, dealt}

-- the reports of the units, each made on its own side
abbrev pub each : {T U : Type 0} → (T → U) → Dealt T → Dealt U
each f d = record { a = map f d.a; b = map f d.b }

pub dealt-each : {T U : Type 0} (f : T → U) (all : List T) → dealt (map f all) ≡ each f (dealt all)
dealt-each f [] = refl
dealt-each f (x ∷ all) = ap (λ (d : Dealt _). record { a = f x ∷ d.b; b = d.a }) (dealt-each f all)
