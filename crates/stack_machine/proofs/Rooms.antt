-- A store that holds its code.
use Rattle.std.proofs.Common.{◌≡◌, ℕ, ◌+◌, ◌<◌, ◌≤◌, true, length, max, sym, arith, subst, inl, inr}
use Rattle.std.proofs.lemmas.Bool.{leb-true, ltb-true, and_parts, cases_lt}
use Rattle.std.specs.Prelude.{nat_le, nat_lt, slice_get, Some}
use Rattle.std.proofs.lemmas.Option.{get_or_from_slice_get, slice_get_within}
use Rattle.stack_code.specs.declared.instr.Instr.{Instr}
use Rattle.stack_code.specs.declared.table.Op.TheVariants as op
use Rattle.stack_code.specs.CodeLists.{CodeLists, routine_at, no_instr}
use Rattle.stack_code.specs.Rules.{IsGood, operands_fit}
use Rattle.stack_machine.specs.declared.state.Store.{Store}
use Rattle.stack_machine.specs.Shown.{rooms, IsRoomy}
use Rattle.stack_machine.proofs.Obedience.{obeys}

-- room for each operand of the code
pub high : (c : CodeLists) (s : Store) → IsRoomy c (rooms s) → (k : ℕ) → (routine_at c k).height ≤ s.current.operands.room
high c s roomy k = omega (arith, roomy.0.height k, roomy.2)

-- a store with the same room
pub still_roomy : (c : CodeLists) (s t : Store) → rooms t ≡ rooms s → IsRoomy c (rooms s) → IsRoomy c (rooms t)
still_roomy c s t same roomy = subst (IsRoomy c) (sym same) roomy

-- good code calls only where it has a routine to call
pub some_to_call : (c : CodeLists) (place : ℕ) (i : Instr) → IsGood c → slice_get c.instrs place ≡ Some i → i.op ≡ op.Call → 1 < length c.routines
some_to_call c place i good found calls =
    let there = get_or_from_slice_get c.instrs place i no_instr found in
    let obedient = obeys c good place i.op i.a i.b (slice_get_within c.instrs place i found) there in
    let fits = subst (λ o. operands_fit c place o i.a i.b ≡ true) calls obedient.fits in
    let parts = and_parts (nat_le 1 i.a) (nat_lt i.a (length c.routines)) fits in
    omega (arith, leb-true 1 i.a parts.0, ltb-true i.a (length c.routines) parts.1)

-- ---- The largest routine

-- one more is looked at
pub more_covered : (number most now : ℕ) (need : ℕ → ℕ) → ((k : ℕ) → k < number → need k ≤ most) → now ≡ max (need number) most → (k : ℕ) → k < number + 1 → need k ≤ now
more_covered number most now need covered is k low = elim (cases_lt k number) [
  | inl before ↦ omega (arith, covered k before, is)
  | inr here ↦ let same : k ≡ number = omega arith in rw same (omega (arith, is))
]
