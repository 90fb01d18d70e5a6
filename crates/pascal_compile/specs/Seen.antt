-- What the values of the code stand for.
use Rattle.std.specs.Prelude.{◌≡◌, ℕ, nat_le, Bool, true, List, [], ◌∷◌, map, Option, option_map, bytes_eq, if◌then◌else◌}
use Rattle.std.specs.Borrow.{Bor}
use Rattle.stack_code.specs.declared.instr.Instr.{Instr}
use Rattle.pascal_mean.specs.Means.{Owner, OfProgram, OfRoutine, Bounds, Standard, Abs, Succ, Pred, Ord, Chr}
use Rattle.pascal_mean.specs.Predeclared.{predeclared}
use Rattle.pascal_mean.specs.Variables.{size_of}
use Rattle.pascal_mean.specs.Calls.{Passing, ByValue, ByVariable, ByArray}
use Rattle.pascal_check.specs.Listed.{looked_up}
use Rattle.pascal_code.specs.Frames.{plain_frame}
use Rattle.pascal_code.specs.Senses.{Sense, Constant, Variable, Array, Reference, Routine, Function, Interface, Nothing, sense_in, first_sense}
use Rattle.pascal_code.specs.Statements.{jump, jump_if_false}
use Rattle.pascal_compile.specs.declared.senses.Owner as owner_type
use Rattle.pascal_compile.specs.declared.senses.Owner.TheVariants as owner
use Rattle.pascal_compile.specs.declared.senses.Bounds as bounds_type
use Rattle.pascal_compile.specs.declared.senses.Standard as standard_type
use Rattle.pascal_compile.specs.declared.senses.Standard.TheVariants as standard
use Rattle.pascal_compile.specs.declared.senses.Passing as passing_type
use Rattle.pascal_compile.specs.declared.senses.Passing.TheVariants as passing
use Rattle.pascal_compile.specs.declared.senses.Sense as sense_type
use Rattle.pascal_compile.specs.declared.senses.Sense.TheVariants as senses
use Rattle.pascal_compile.specs.declared.drafts.Draft as draft_type
use Rattle.pascal_compile.specs.declared.drafts.Draft.TheVariants as draft
use Rattle.pascal_compile.specs.declared.names.Names as names_type

abbrev pub seen_owner : owner_type.Owner → Owner
seen_owner owner.OfProgram = OfProgram
seen_owner owner.OfRoutine = OfRoutine

abbrev pub seen_bounds : bounds_type.Bounds → Bounds
seen_bounds b = record { low = b.low; high = b.high }

abbrev pub seen_standard : standard_type.Standard → Standard
seen_standard standard.Abs = Abs
seen_standard standard.Succ = Succ
seen_standard standard.Pred = Pred
seen_standard standard.Ord = Ord
seen_standard standard.Chr = Chr

abbrev pub seen_passing : passing_type.Passing → Passing
seen_passing passing.ByValue = ByValue
seen_passing passing.ByVariable = ByVariable
seen_passing passing.ByArray = ByArray

abbrev pub seen_sense : sense_type.Sense → Sense
seen_sense (senses.Constant v) = Constant v
seen_sense (senses.Variable o a) = Variable (seen_owner o) a
seen_sense (senses.Array o a b) = Array (seen_owner o) a (seen_bounds b)
seen_sense (senses.Reference a) = Reference a
seen_sense (senses.Routine k p) = Routine k (map seen_passing p.now)
seen_sense (senses.Function f) = Function (seen_standard f)
seen_sense (senses.Interface p) = Interface p
seen_sense senses.Nothing = Nothing

-- what is emitted for an instruction
abbrev pub seen_draft : draft_type.Draft → Instr
seen_draft (draft.Instr i) = i
seen_draft (draft.Jump place) = jump place
seen_draft (draft.JumpIfFalse place) = jump_if_false place

-- what a list of the code says of a name
abbrev pub seen_names : names_type.Names → List ℕ → Option Sense
seen_names n x = option_map seen_sense (looked_up (n.entries).entries x)

-- what a name is by two lists, and before any program
abbrev pub seen_scope : names_type.Names → names_type.Names → List ℕ → Sense
seen_scope own program x =
    first_sense (seen_names own x) (seen_names program x) (sense_in (plain_frame predeclared) x)

-- whether words fit a frame: an array has at most 4,096, and a VAR parameter lies below the end
abbrev pub is_small : Sense → Bool
is_small (Array o a bounds) = nat_le (size_of bounds) 4096
is_small (Reference a) = nat_le a 4096
is_small (Constant v) = true
is_small (Variable o a) = true
is_small (Routine k p) = true
is_small (Function f) = true
is_small (Interface p) = true
is_small Nothing = true

abbrev pub IsSmall : Sense → Type 0
IsSmall s = is_small s ≡ true

abbrev pub AreSmall : (List ℕ → Sense) → Type 0
AreSmall names = (x : List ℕ) → IsSmall (names x)

-- what a table of the code says of a name
abbrev pub in_table : List (Bor (List ℕ) × sense_type.Sense) → List ℕ → Sense
in_table [] x = Nothing
in_table (entry ∷ others) x = if bytes_eq entry.0.now x then seen_sense entry.1 else in_table others x
