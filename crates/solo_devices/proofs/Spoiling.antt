-- A write that failed: whatever was written instead, one page alone may have changed.
use Rattle.std.proofs.Common.{◌≡◌, ◌≢◌, ℕ, zero, suc, List, [], ◌∷◌, refl, ap, Option, length-set}
use Rattle.std.specs.Prelude.{slice_get, slice_set}
use Rattle.solo_devices.specs.declared.area.Moved.{Moved}
use Rattle.solo_devices.specs.declared.area.Moved.TheVariants.{Done, Failed}
use Rattle.solo_devices.specs.Area.{Writes}

apart : (pages : List (List ℕ)) (n k : ℕ) (page : List ℕ) → k ≢ n → slice_get (slice_set pages n page) k ≡ slice_get pages k
apart [] n k page other = refl
apart (first ∷ rest) zero zero page other = absurd (other refl)
apart (first ∷ rest) zero (suc k) page other = refl
apart (first ∷ rest) (suc n) zero page other = refl
apart (first ∷ rest) (suc n) (suc k) page other = apart rest n k page (λ same. other (ap suc same))

pub spoiled : (before now : Option (List (List ℕ))) (n : ℕ) (answer : Moved) (written page : List ℕ) → Writes before now n answer written → Writes before now n Failed page
spoiled before now n Done written page w = record {
  told = λ pages is. (slice_set pages n written, w.told pages is, record { as_many = length-set pages n written; others = λ k other. apart pages n k written other });
  untold = w.untold;
}
spoiled before now n Failed written page w = record { told = w.told; untold = w.untold }
