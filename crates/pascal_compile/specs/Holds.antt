-- Frames as the code lays them out.
use Rattle.std.specs.Prelude.{◌≡◌, ℕ, ◌≤◌, List, take}
use Rattle.pascal_tree.specs.Program.{ParameterGroup, Routine, Program}
use Rattle.pascal_mean.specs.Means.{Means, Owner, OfRoutine}
use Rattle.pascal_mean.specs.Predeclared.{Item, predeclared}
use Rattle.pascal_mean.specs.Scope.{Scope}
use Rattle.pascal_mean.specs.Variables.{size_of}
use Rattle.pascal_mean.specs.Declarations.{declared_names, declared_parameters, parameters_after, declared_headings, global_items}
use Rattle.pascal_code.specs.Frames.{Frame, words_of, words_in, declared_words, plain_frame}
use Rattle.pascal_code.specs.Senses.{Sense, AreSenses, Variable, Array, Reference, sense, sense_in, first_sense}
use Rattle.pascal_compile.specs.declared.names.Names as names_type
use Rattle.pascal_compile.specs.declared.frame.Frame as frame_type
use Rattle.pascal_compile.specs.declared.frame.Held as held_type
use Rattle.pascal_compile.specs.declared.frame.Held.TheVariants as held
use Rattle.pascal_compile.specs.Seen.{seen_owner, seen_bounds, seen_names}

-- a list says of each name what it is in a frame
abbrev pub HoldsNames : names_type.Names → Frame → Type 0
HoldsNames n f = (x : List ℕ) → seen_names n x ≡ sense_in f x

-- the names, the words that are taken, and that the parameters are among them
pub record Holds (c : frame_type.Frame) (f : Frame) : Type 0 where
  pub names : HoldsNames c.names f
  pub words : c.words ≡ declared_words f
  pub behind : f.parameters ≤ words_in f.items

-- a frame is held as long as it has at most 4,096 words
abbrev pub HoldsFrame : frame_type.Frame → Frame → Type 0
HoldsFrame c f = declared_words f ≤ 4096 → Holds c f

-- the same frame with these declarations
abbrev pub with_items : Frame → List Item → Frame
with_items f items = record { items = items; parameters = f.parameters; result = f.result }

-- ---- What a name holds

-- a scalar, an array or a reference, from a word of its owner's frame on
abbrev pub held_sense : held_type.Held → Owner → ℕ → Sense
held_sense held.Scalar owner place = Variable owner place
held_sense (held.Array bounds) owner place = Array owner place (seen_bounds bounds)
held_sense held.Reference owner place = Reference place

abbrev pub held_words : held_type.Held → ℕ
held_words held.Scalar = 1
held_words (held.Array bounds) = size_of (seen_bounds bounds)
held_words held.Reference = 2

-- what means this is held so
pub record HeldAs (h : held_type.Held) (owner : Owner) (m : Means) : Type 0 where
  pub sense_is : (place : ℕ) → sense m place ≡ held_sense h owner place
  pub words_are : words_of m ≡ held_words h

-- ---- Declarations

-- names that hold alike were declared behind those of a frame: with them it is held as before
abbrev pub NamesLaidOut : held_type.Held → frame_type.Frame → frame_type.Frame → List (List ℕ) → Type 0
NamesLaidOut h before after xs =
    (f : Frame) (m : Means) → HeldAs h (seen_owner before.owner) m
    → HoldsFrame before f → HoldsFrame after (with_items f (declared_names m xs f.items))

-- behind any declarations the scope is that of these, of this list of the program's names, and of what is
-- declared before any program
abbrev pub Tells : names_type.Names → (List Item → Scope) → Type 0
Tells program scope =
    (own : Frame) → AreSenses (scope own.items)
    (λ x. first_sense (sense_in own x) (seen_names program x) (sense_in (plain_frame predeclared) x))

-- what a scope adds to declarations was declared behind those of a frame: with it, it is held as before
abbrev pub LaidOut : names_type.Names → frame_type.Frame → frame_type.Frame
    → ((List Item → Scope) → List Item → List Item) → Type 0
LaidOut program before after added =
    (scope : List Item → Scope) → Tells program scope
    → (f : Frame) → HoldsFrame before f → HoldsFrame after (with_items f (added scope f.items))

-- so with groups of parameters, whatever names of the program are known
abbrev pub ParametersLaidOut : frame_type.Frame → frame_type.Frame → List (ℕ × ParameterGroup) → Type 0
ParametersLaidOut before after groups =
    (known : List Item) (f : Frame) → seen_owner before.owner ≡ OfRoutine → HoldsFrame before f
    → HoldsFrame after (with_items f (declared_parameters (parameters_after f.items known groups) f.items))

-- ---- Names of the program

-- the program's names up to and with the headings of so many routines
abbrev pub known_at : Program → ℕ → List Item
known_at p count = declared_headings 1 (take count p.routines) (global_items p)

-- headings from a number on were declared behind those of a frame: with them it is held as before
abbrev pub HeadingsHeld : frame_type.Frame → frame_type.Frame → ℕ → List Routine → Type 0
HeadingsHeld before after number routines =
    (f : Frame) → HoldsFrame before f
    → HoldsFrame after (with_items f (declared_headings number routines f.items))
