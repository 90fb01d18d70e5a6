-- What is read to its end.
use Rattle.std.proofs.Common.{◌≡◌, ◌⊎◌, inl, inr, ◌<◌, ◌≤◌, ◌+◌, ℕ, List, [], length, Option, Some, None, refl, sym, ◌∙◌, ap, arith}
use Rattle.solo_base.specs.declared.outcome.Cause.TheVariants as cause
use Rattle.solo_devices.specs.CardUnit.{byte_limit, bytes_total, IsAllTaken}
use Rattle.run_report.specs.Told.{SourceTold}
use Rattle.solo_cli.specs.declared.refusal.Refusal.{Refusal}
use Rattle.solo_cli.specs.declared.refusal.Refusal.TheVariants.{Fault}
use Rattle.solo_cli.specs.Reading.{IsWithinLimit, ReadsToEnd, StaysWithin}

-- of a deck that told its bytes no more was taken than it had, and all of it where nothing is left
pub taken-of : (taken before : ℕ) (left told : Option (List ℕ)) (bytes : List ℕ) → before ≡ 0 → told ≡ Some bytes →
    bytes_total taken left ≡ bytes_total before told → (taken ≤ length bytes) × (IsAllTaken left → taken ≡ length bytes)
taken-of taken before None told bytes zero is total =
    absurd (let no : None ≡ Some (before + length bytes) = total ∙ ap (bytes_total before) is in cc)
taken-of taken before (Some rest) told bytes zero is total =
    let both : Some (taken + length rest) ≡ Some (before + length bytes) = total ∙ ap (bytes_total before) is in
    let same : taken + length rest ≡ before + length bytes = cc in
    (omega (arith, same, zero), λ all. (let none : length rest ≡ 0 = ap length (all rest refl) in omega (arith, same, none, zero)))

-- a deck that told its bytes tells that none is left, where all were taken
emptied-of : (taken before : ℕ) (left told : Option (List ℕ)) (bytes : List ℕ) → told ≡ Some bytes →
    bytes_total taken left ≡ bytes_total before told → IsAllTaken left → left ≡ Some []
emptied-of taken before None told bytes is total all =
    absurd (let no : None ≡ Some (before + length bytes) = total ∙ ap (bytes_total before) is in cc)
emptied-of taken before (Some rest) told bytes is total all = ap Some (all rest refl)

-- where too many bytes were taken there is a cause
few : (taken : ℕ) (answer : Option Refusal) → answer ≡ None → (byte_limit < taken
    → (answer ≡ Some (Fault cause.DiskFault)) ⊎ ((answer ≡ Some (Fault cause.PrintFault)) ⊎ (answer ≡ Some (Fault cause.DeckLimit))))
    → byte_limit < taken → ⊥
few taken answer none beyond more = elim (beyond more) [
  | inl is ↦ (let no : None ≡ Some (Fault cause.DiskFault) = sym none ∙ is in cc)
  | inr (inl is) ↦ (let no : None ≡ Some (Fault cause.PrintFault) = sym none ∙ is in cc)
  | inr (inr is) ↦ (let no : None ≡ Some (Fault cause.DeckLimit) = sym none ∙ is in cc)
]

pub reads-to-end : {S : Type 0} {before after : SourceTold S} {answer : Option Refusal} → before.taken ≡ 0
    → bytes_total after.taken after.left ≡ bytes_total before.taken before.left → (answer ≡ None → IsAllTaken after.left)
    → (byte_limit < after.taken
    → (answer ≡ Some (Fault cause.DiskFault)) ⊎ ((answer ≡ Some (Fault cause.PrintFault)) ⊎ (answer ≡ Some (Fault cause.DeckLimit))))
    → ReadsToEnd before after (answer ≡ None)
reads-to-end {before = before} {after = after} {answer = answer} zero total all beyond = record {
  emptied = λ bytes told none. emptied-of after.taken before.taken after.left before.left bytes told total (all none);
  longer = λ bytes told more none.
      let whole = (taken-of after.taken before.taken after.left before.left bytes zero told total).1 (all none) in
      few after.taken answer none beyond (omega (arith, whole, more));
}

-- no more than the limit is taken of what is within it
few-taken : (taken before : ℕ) (left told : Option (List ℕ)) → IsWithinLimit told → before ≡ 0
    → bytes_total taken left ≡ bytes_total before told → byte_limit < taken → ⊥
few-taken taken before left None within zero total more = within
few-taken taken before left (Some bytes) within zero total more =
    let few = (taken-of taken before left (Some bytes) bytes zero refl total).0 in omega (arith, few, within, more)

pub none-beyond : {S : Type 0} (before after : SourceTold S) → StaysWithin before after → before.taken ≡ 0
    → bytes_total after.taken after.left ≡ bytes_total before.taken before.left → byte_limit < after.taken → ⊥
none-beyond before after (inl within) zero total more = few-taken after.taken before.taken after.left before.left within zero total more
none-beyond before after (inr few) zero total more = omega (arith, few, more)
