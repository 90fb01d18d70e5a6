-- Instructions that stand in the code.
use Rattle.std.proofs.Common.{◌≡◌, ℕ, ◌+◌, Some, List, [], ◌∷◌, ◌++◌, refl, length, arith, ◌∙◌, sym}
use Rattle.std.specs.Prelude.{slice_get}
use Rattle.stack_code.specs.declared.instr.Instr.{Instr}
use Rattle.stack_code.specs.CodeLists.{CodeLists}

-- these instructions stand in the code from one place up to another
abbrev pub Stand : CodeLists → ℕ → List Instr → ℕ → Type 0
Stand c p [] q = p ≡ q
Stand c p (i ∷ is) q = (slice_get c.instrs p ≡ Some i) × Stand c (p + 1) is q

-- two parts, and the place between them
pub parted : (c : CodeLists) (p : ℕ) (first rest : List Instr) (q : ℕ) → Stand c p (first ++ rest) q → (m : ℕ) × (Stand c p first m × Stand c m rest q)
parted c p [] rest q stand = (p, (refl, stand))
parted c p (i ∷ first) rest q stand = let more = parted c (p + 1) first rest q stand.1 in (more.0, ((stand.0, more.1.0), more.1.1))

-- the place behind
pub stands_to : (c : CodeLists) (p : ℕ) (is : List Instr) (q : ℕ) → Stand c p is q → q ≡ p + length is
stands_to c p [] q stand = let same : p ≡ p + 0 = omega arith in sym stand ∙ same
stands_to c p (i ∷ is) q stand = let next : p + 1 + length is ≡ p + length (i ∷ is) = omega arith in stands_to c (p + 1) is q stand.1 ∙ next
