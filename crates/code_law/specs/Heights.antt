-- How high the operand stack stands along code, and what holds of an instruction wherever it stands.
use Rattle.std.specs.Prelude.{◌≡◌, ℕ, ◌+◌, ◌-◌, ◌<◌, ◌≤◌, true, false, List, [], ◌∷◌, length, Bool}
use Rattle.stack_code.specs.declared.instr.Instr.{Instr}
use Rattle.stack_code.specs.CodeLists.{CodeLists, routine_at}
use Rattle.stack_code.specs.Rules.{pops, pushes, routine_of, operands_fit, is_jump, is_tick, leaves_nothing, bounds_fit}
use Rattle.pascal_mean.specs.Means.{Owner, OfProgram, OfRoutine, Bounds}
use Rattle.pascal_mean.specs.Variables.{size_of}
use Rattle.pascal_mean.specs.Calls.{Passing, ByValue, ByVariable, ByArray}
use Rattle.pascal_code.specs.Instructions.{operand}
use Rattle.pascal_code.specs.Senses.{Variable, Array, Reference, Routine, Site}
use Rattle.code_law.specs.Suits.{Routines}

-- the operands behind an instruction
abbrev pub behind : CodeLists → Instr → ℕ → ℕ
behind c i h = h - pops c i.op i.a + pushes c i.op i.a

-- These instructions find what they pop and lead from one height to another. Behind each there are at least
-- so many operands and at most so many, and what leaves nothing on the stack pops all.
abbrev pub Lift : CodeLists → ℕ → ℕ → List Instr → ℕ → ℕ → Type 0
Lift c least most [] h k = h ≡ k
Lift c least most (i ∷ more) h k =
    (pops c i.op i.a ≤ h)
    × (least ≤ behind c i h)
    × (behind c i h ≤ most)
    × (leaves_nothing i.op ≡ true → h - pops c i.op i.a ≡ 0)
    × Lift c least most more (behind c i h) k

-- no jump, no tick and no end, and its operands fit wherever it stands in a routine
pub record IsPlain (c : CodeLists) (k : ℕ) (i : Instr) : Type 0 where
  pub no_jump : is_jump i.op ≡ false
  pub no_tick : is_tick i.op ≡ false
  pub goes_on : leaves_nothing i.op ≡ false
  pub fits : (x : ℕ) → routine_of c x ≡ k → operands_fit c x i.op i.a i.b ≡ true

-- the words that parameters take
abbrev pub passed_words : List Passing → ℕ
passed_words [] = 0
passed_words (ByValue ∷ more) = 1 + passed_words more
passed_words (ByVariable ∷ more) = 2 + passed_words more
passed_words (ByArray ∷ more) = passed_words more

-- how many words the frame of an owner has, in a routine
abbrev pub words_for : CodeLists → ℕ → Owner → ℕ
words_for c k OfProgram = (routine_at c 0).words
words_for c k OfRoutine = (routine_at c k).words

-- what names have in the frames of a routine and of the program
pub record HasRoom (c : CodeLists) (k : ℕ) (rs : Routines) (site : Site) (in_function : Bool) : Type 0 where
  pub own : site.owner ≡ OfProgram → k ≡ 0
  pub variable : (x : List ℕ) (o : Owner) (a : ℕ) → site.names x ≡ Variable o a → a < words_for c k o
  pub array : (x : List ℕ) (o : Owner) (a : ℕ) (b : Bounds) → site.names x ≡ Array o a b
      → (1 ≤ size_of b) × (size_of b ≤ 4096) × (a + size_of b ≤ words_for c k o)
      × (bounds_fit (operand b.low) (operand b.high) ≡ true)
  pub reference : (x : List ℕ) (a : ℕ) → site.names x ≡ Reference a → a + 1 < (routine_at c k).words
  pub routine : (x : List ℕ) (j : ℕ) (passing : List Passing) → site.names x ≡ Routine j passing
      → (1 ≤ j) × (j < length c.routines) × ((routine_at c j).params ≡ passed_words passing)
      × ((routine_at c j).function ≡ rs.gives j) × (passed_words passing ≤ 16)
  pub result : in_function ≡ true → site.result < (routine_at c k).words
