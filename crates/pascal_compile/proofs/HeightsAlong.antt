-- Heights along instructions, one after the other.
use Rattle.std.proofs.Common.{◌≡◌, ℕ, ◌+◌, ◌-◌, ◌<◌, ◌≤◌, max, Bool, true, false, cond, ◌==◌, List, [], ◌∷◌, length, drop, get_or, nat_cmp, is_lt, Less, Equal, Greater, refl, ap, ◌∙◌, subst, arith, inl, inr}
use Rattle.std.specs.Ordering.{ord_max}
use Rattle.std.proofs.lemmas.Bool.{cases_lt, lt-ltb, le-ltb}
use Rattle.std.proofs.lemmas.List.{drop_more}
use Rattle.stack_code.specs.declared.instr.Instr.{Instr}
use Rattle.stack_code.specs.CodeLists.{CodeLists}
use Rattle.stack_code.specs.Rules.{pops, pushes}
use Rattle.pascal_code.specs.Code.{greatest_height}

-- the first height is no greater than the greatest
first_is_within : (c : CodeLists) (code : List Instr) (h : ℕ) → h ≤ greatest_height c h code
first_is_within c [] h = omega arith
first_is_within c (i ∷ more) h = omega arith

-- behind an instruction, of so many operands before it and the greatest number so far
pub record Behind (c : CodeLists) (i : Instr) (more : List Instr) (h greatest total : ℕ) : Type 0 where
  pub greatest_is : max (max greatest (h - pops c i.op i.a + pushes c i.op i.a)) (greatest_height c (h - pops c i.op i.a + pushes c i.op i.a) more) ≡ total
  pub within : h - pops c i.op i.a + pushes c i.op i.a ≤ max greatest (h - pops c i.op i.a + pushes c i.op i.a)
  pub low : h - pops c i.op i.a + pushes c i.op i.a ≤ total

-- the same of any numbers
step : (h n g greatest total : ℕ) → h ≤ greatest → n ≤ g → max greatest (max h g) ≡ total
    → (max (max greatest n) g ≡ total) × (n ≤ max greatest n) × (n ≤ total)
step h n g greatest total within low is = (omega (arith, within, low, is), omega arith, omega (arith, low, is))

pub behind_one : (c : CodeLists) (i : Instr) (more : List Instr) (h greatest total : ℕ) → h ≤ greatest
    → max greatest (greatest_height c h (i ∷ more)) ≡ total → Behind c i more h greatest total
behind_one c i more h greatest total within is =
    let next = h - pops c i.op i.a + pushes c i.op i.a in
    let parts = step h next (greatest_height c next more) greatest total within (first_is_within c more next) is in
    record { greatest_is = parts.0; within = parts.1; low = parts.2 }

-- the same at a place of a list of instructions
pub behind_place : (c : CodeLists) (instrs : List Instr) (place : ℕ) (d : Instr) (h greatest total : ℕ) → place < length instrs → h ≤ greatest
    → max greatest (greatest_height c h (drop place instrs)) ≡ total → Behind c (get_or instrs place d) (drop (place + 1) instrs) h greatest total
behind_place c instrs place d h greatest total inside within is =
    behind_one c (get_or instrs place d) (drop (place + 1) instrs) h greatest total within
    (subst (λ (l : List Instr). max greatest (greatest_height c h l) ≡ total) (drop_more instrs place d inside) is)

-- the greater of two numbers
not_less : (t : Bool) (a b : ℕ) → cond (is_lt (cond t Equal Greater)) a b ≡ b
not_less true a b = refl
not_less false a b = refl

max_is : (a b : ℕ) → ord_max nat_cmp a b ≡ max a b
max_is a b = elim (cases_lt b a) [
  | inl less ↦
      let greater : a ≡ max a b = omega (arith, less) in
      ap (λ t. cond (is_lt (cond t Less (cond (b == a) Equal Greater))) a b) (lt-ltb b a less) ∙ greater
  | inr not_less_than ↦
      let greater : b ≡ max a b = omega (arith, not_less_than) in
      ap (λ t. cond (is_lt (cond t Less (cond (b == a) Equal Greater))) a b) (le-ltb b a not_less_than) ∙ (not_less (b == a) a b ∙ greater)
]

-- so the next round begins as this one did
pub record Round (c : CodeLists) (more : List Instr) (height greatest total : ℕ) : Type 0 where
  pub greatest_is : max greatest (greatest_height c height more) ≡ total
  pub within : height ≤ greatest

pub next_round : (c : CodeLists) (i : Instr) (more : List Instr) (h greatest total height so_far : ℕ) → Behind c i more h greatest total
    → height ≡ h - pops c i.op i.a + pushes c i.op i.a → so_far ≡ ord_max nat_cmp greatest height → Round c more height so_far total
next_round c i more h greatest total height so_far behind is so_far_is =
    let greater : so_far ≡ max greatest height = so_far_is ∙ max_is greatest height in
    rw greater (rw is (record { greatest_is = behind.greatest_is; within = behind.within }))
