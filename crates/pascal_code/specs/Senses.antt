-- What names are to the code.
use Rattle.std.specs.Prelude.{◌≡◌, ℕ, ◌+◌, List, [], ◌∷◌, Option, Some, None, ℤ, pos, neg_ℤ, bytes_eq, if◌then◌else◌}
use Rattle.solo_base.specs.declared.interface.Procedure.{Procedure}
use Rattle.pascal_tree.specs.declared.constant.Constant as constants
use Rattle.pascal_tree.specs.declared.constant.Constant.TheVariants as constant
use Rattle.pascal_tree.specs.Program.{Block, Program}
use Rattle.pascal_tree.specs.Program as tree
use Rattle.pascal_mean.specs.Means.{Means, Owner, OfProgram, OfRoutine, Bounds, Signature, Standard}
use Rattle.pascal_mean.specs.Means as meant
use Rattle.pascal_mean.specs.Predeclared.{Item, predeclared}
use Rattle.pascal_mean.specs.Scope.{Scope}
use Rattle.pascal_mean.specs.Calls.{Passing, passing_named}
use Rattle.pascal_mean.specs.Declarations.{Declared, declared_routine, block_of, signature_of, heading_item, declared_headings, global_items, program_itself}
use Rattle.pascal_code.specs.Frames.{Frame, place_behind, plain_frame, routine_frame}

-- A constant with its value; a variable and an array in the frame of its owner, with its first word; a VAR
-- parameter in the own frame, with its first word; a routine with its number, and how its arguments are
-- passed; a standard function; a row of the interface; and what has no code of its own, as a type.
pub data Sense : Type 0 where
  Constant : ℤ → Sense
  Variable : Owner → ℕ → Sense
  Array : Owner → ℕ → Bounds → Sense
  Reference : ℕ → Sense
  Routine : ℕ → List Passing → Sense
  Function : Standard → Sense
  Interface : Procedure → Sense
  Nothing : Sense

-- what means this, with its first word
abbrev pub sense : Means → ℕ → Sense
sense (meant.Constant t v) place = Constant v
sense (meant.Variable owner t) place = Variable owner place
sense (meant.Array owner t bounds) place = Array owner place bounds
sense (meant.Reference t) place = Reference place
sense (meant.Routine k signature) place = Routine k (passing_named (meant.Routine k signature))
sense (meant.Function f) place = Function f
sense (meant.Interface p) place = Interface p
sense (meant.TypeName t) place = Nothing
sense meant.Nothing place = Nothing

-- each name is, to the code, what it means in a scope, with some first word
abbrev pub AreSenses : Scope → (List ℕ → Sense) → Type 0
AreSenses scope names = (x : List ℕ) → (a : ℕ) × (names x ≡ sense (scope x) a)

-- a name by its latest declaration among some of a frame
abbrev pub sense_among : Frame → List Item → List ℕ → Option Sense
sense_among f [] x = None
sense_among f (i ∷ earlier) x =
    if bytes_eq i.letters x then Some (sense i.means (place_behind f earlier)) else sense_among f earlier x

abbrev pub sense_in : Frame → List ℕ → Option Sense
sense_in f x = sense_among f f.items x

abbrev pub first_sense : Option Sense → Option Sense → Option Sense → Sense
first_sense (Some own) program outermost = own
first_sense None (Some program) outermost = program
first_sense None None (Some predeclared) = predeclared
first_sense None None None = Nothing

-- a name is declared in the own frame, else in the program's, else before any program
abbrev pub names_in : Frame → Frame → List ℕ → Sense
names_in own program x =
    first_sense (sense_in own x) (sense_in program x) (sense_in (plain_frame predeclared) x)

-- ---- Routines

-- A routine, or the program itself: what its declarations leave, whose frame its own words lie in, that
-- frame, and what names are to the code of its statements.
pub record Framed : Type 0 where
  pub declared : Declared
  pub owner : Owner
  pub frame : Frame
  pub names : List ℕ → Sense

abbrev pub framed_program : Program → Framed
framed_program p =
    let frame = plain_frame (declared_headings 1 p.routines (global_items p)) in
    let names = names_in (plain_frame []) frame in
    record { declared = program_itself p; owner = OfProgram; frame = frame; names = names }

abbrev pub framed_routine : List Item → Signature → Block → Framed
framed_routine known signature b =
    let frame = routine_frame known signature b in
    record {
      declared = declared_routine known signature b;
      owner = OfRoutine;
      frame = frame;
      names = names_in frame (plain_frame known);
    }

-- the routines from a number on: each knows the program's names up to its own heading
abbrev pub framed_after : ℕ → List Item → List tree.Routine → List Framed
framed_after k known [] = []
framed_after k known (r ∷ more) =
    let these = heading_item k known r ∷ known in
    framed_routine these (signature_of known r) (block_of r) ∷ framed_after (k + 1) these more

-- the program, and behind it its routines in order
abbrev pub all_framed : Program → List Framed
all_framed p = framed_program p ∷ framed_after 1 (global_items p) p.routines

-- Where statements stand: what names are to the code, whose frame the own one is, and the word of a
-- function's result.
pub record Site : Type 0 where
  pub names : List ℕ → Sense
  pub owner : Owner
  pub result : ℕ

abbrev pub site_of : Framed → Site
site_of r = record { names = r.names; owner = r.owner; result = (r.frame).parameters }

-- ---- Constants

-- the number of a constant's name, and 0 for any other
abbrev pub number_of : Sense → ℤ
number_of (Constant v) = v
number_of (Variable owner a) = pos 0
number_of (Array owner a bounds) = pos 0
number_of (Reference a) = pos 0
number_of (Routine k passing) = pos 0
number_of (Function f) = pos 0
number_of (Interface p) = pos 0
number_of Nothing = pos 0

-- what a constant of the program stands for
abbrev pub constant_value : (List ℕ → Sense) → constants.Constant → ℤ
constant_value names (constant.Name n) = number_of (names n.letters)
constant_value names (constant.Number n) = pos n.value
constant_value names (constant.Negative line n) = neg_ℤ (pos n.value)
constant_value names (constant.Character c) = pos c.code
