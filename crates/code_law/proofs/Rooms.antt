-- What the names of each routine have in the frames of its code.
use Rattle.std.proofs.Common.{◌≡◌, ℕ, zero, suc, ◌+◌, ◌<◌, ◌≤◌, Bool, true, false, List, [], ◌∷◌, length, map, Some, None, is_some, refl, sym, ap, subst, ◌∙◌, arith}
use Rattle.std.specs.Prelude.{slice_get, if◌then◌else◌}
use Rattle.std.proofs.lemmas.Option.{same_Some}
use Rattle.stack_code.specs.CodeFile.{mark}
use Rattle.stack_code.specs.CodeLists.{CodeLists, routine_at}
use Rattle.stack_code.specs.Rules.{bounds_fit}
use Rattle.pascal_tree.specs.Program.{Block, Program}
use Rattle.pascal_tree.specs.DeclarationRules.{broken}
use Rattle.pascal_tree.specs.Limits.{IsTree}
use Rattle.pascal_mean.specs.Means.{Owner, OfProgram, OfRoutine, Bounds, Signature, Parameter}
use Rattle.pascal_mean.specs.Means as meant
use Rattle.pascal_mean.specs.Predeclared.{Item}
use Rattle.pascal_mean.specs.Scope.{Scope}
use Rattle.pascal_mean.specs.Variables.{owner_number, size_of}
use Rattle.pascal_mean.specs.Calls.{Passing, ByValue, ByVariable, passing_of}
use Rattle.pascal_mean.specs.Declarations.{Declared, parameter_means, declared_parameters, declared_headings, global_items}
use Rattle.pascal_code.specs.Frames.{Frame, words_of, words_in, declared_words, routine_frame}
use Rattle.pascal_code.specs.Instructions.{operand}
use Rattle.pascal_code.specs.Senses.{Variable, Array, Reference, Routine, Framed, framed_program, framed_routine, all_framed, site_of}
use Rattle.pascal_code.specs.Code.{code_of}
use Rattle.code_law.specs.Heights.{HasRoom, passed_words, words_for}
use Rattle.code_law.specs.Named.{Named}
use Rattle.code_law.specs.Regions.{AreApart, region_found}
use Rattle.code_law.specs.Suited.{routines_of, AreSuited}
use Rattle.code_law.proofs.SuitedPrograms.{suited}
use Rattle.code_law.proofs.Regions.{plain_is_apart, routine_is_apart}
use Rattle.code_law.proofs.Sites.{AllItems, Over, Itself, over_words, headings_over}
use Rattle.code_law.proofs.Naming.{frame_of_program, routine_is, declared_is, program_is_named, routine_is_named}
use Rattle.code_law.proofs.Compiled.{compiled_at}
use Rattle.code_law.proofs.Ranges.{counted_routines, routine_there, owner_of_routine}
use Rattle.code_law.proofs.Records.{words_hold}
use Rattle.code_law.proofs.Bounded.{Bounded, SenseBounded, sense_bounded, by_items, ordered_fit}
use Rattle.code_law.proofs.BoundedRoutines.{globals_are_bounded, routines_are_bounded, IsBounded}
use Rattle.code_law.proofs.Called.{calls_ones}

-- ---- Frames

-- a frame whose words the code of a routine reaches
record IsRoomy (c : CodeLists) (k : ℕ) (o : Owner) (f : Frame) : Type 0 where
  apart : AreApart f
  bounded : AllItems Bounded f.items
  few : declared_words f ≤ 4096
  low : declared_words f ≤ words_for c k o

-- the frame in which a routine's own names lie, and that of the program
record InFrames (p : Program) (k : ℕ) (r : Framed) : Type 0 where
  frames : List Frame
  number : ℕ
  scope : Scope
  named : Named frames number (site_of r) scope
  roomy : (o : Owner) (f : Frame) → slice_get frames (owner_number o number) ≡ Some f → IsRoomy (code_of p) k o f
  own : (f : Frame) → slice_get frames (owner_number r.owner number) ≡ Some f → declared_words f ≡ declared_words r.frame

program_words : (p : Program) → declared_words (frame_of_program p) ≡ declared_words (framed_program p).frame
program_words p =
    let items = declared_headings 1 p.routines (global_items p) in
    omega (arith, over_words (global_items p) items (headings_over (global_items p) 1 p.routines (global_items p) Itself))

program_roomy : (p : Program) → AreSuited p → IsTree p → broken p ≡ None → (k : ℕ) (o : Owner) → words_for (code_of p) k o ≡ (routine_at (code_of p) 0).words
    → IsRoomy (code_of p) k o (frame_of_program p)
program_roomy p are tree none k o same =
    let compiled = compiled_at p 0 (framed_program p) refl in
    record {
      apart = plain_is_apart (global_items p);
      bounded = globals_are_bounded p tree none;
      few = omega (arith, program_words p, (are 0 (framed_program p) refl).few);
      low = omega (arith, program_words p, compiled.words, same);
    }

program_in_frames : (p : Program) → AreSuited p → IsTree p → broken p ≡ None → InFrames p 0 (framed_program p)
program_in_frames p are tree none = record {
  frames = frame_of_program p ∷ [];
  number = 0;
  scope = ((framed_program p).declared).scope;
  named = program_is_named p (are 0 (framed_program p) refl).few;
  roomy = λ o f is. by_owner o f is;
  own = λ f is. ap declared_words (sym (same_Some (frame_of_program p) f is)) ∙ program_words p;
}
  where
    by_owner : (o : Owner) (f : Frame) → slice_get (frame_of_program p ∷ []) (owner_number o 0) ≡ Some f → IsRoomy (code_of p) 0 o f
    by_owner OfProgram f is = subst (IsRoomy (code_of p) 0 OfProgram) (same_Some (frame_of_program p) f is) (program_roomy p are tree none 0 OfProgram refl)
    by_owner OfRoutine f is = subst (IsRoomy (code_of p) 0 OfRoutine) (same_Some (frame_of_program p) f is) (program_roomy p are tree none 0 OfRoutine refl)

routine_in_frames : (p : Program) → AreSuited p → IsTree p → broken p ≡ None → (k : ℕ) (known : List Item) (signature : Signature) (block : Block)
    → Over (global_items p) known → declared_words (routine_frame known signature block) ≤ 4096
    → declared_words (routine_frame known signature block) ≤ (routine_at (code_of p) k).words → IsBounded (framed_routine known signature block)
    → InFrames p k (framed_routine known signature block)
routine_in_frames p are tree none k known signature block over few low bounded = record {
  frames = frame_of_program p ∷ (own ∷ []);
  number = 1;
  scope = ((framed_routine known signature block).declared).scope;
  named = routine_is_named p known signature block over few (omega (arith, program_words p, (are 0 (framed_program p) refl).few))
      (frame_of_program p ∷ (own ∷ [])) 1 refl refl;
  roomy = λ o f is. by_owner o f is;
  own = λ f is. ap declared_words (sym (same_Some own f is));
}
  where
    own : Frame
    own = routine_frame known signature block

    by_owner : (o : Owner) (f : Frame) → slice_get (frame_of_program p ∷ (own ∷ [])) (owner_number o 1) ≡ Some f → IsRoomy (code_of p) k o f
    by_owner OfProgram f is = subst (IsRoomy (code_of p) k OfProgram) (same_Some (frame_of_program p) f is) (program_roomy p are tree none k OfProgram refl)
    by_owner OfRoutine f is =
        subst (IsRoomy (code_of p) k OfRoutine) (same_Some own f is)
        (record { apart = routine_is_apart known signature block; bounded = bounded.arrays; few = few; low = low })

in_frames : (p : Program) → AreSuited p → IsTree p → broken p ≡ None → (k : ℕ) (r : Framed) → slice_get (all_framed p) k ≡ Some r → InFrames p k r
in_frames p are tree none zero r is = subst (InFrames p 0) (same_Some (framed_program p) r is) (program_in_frames p are tree none)
in_frames p are tree none (suc j) r is =
    let fr = routine_is p j r is in
    let few = subst (λ (t : Framed). declared_words t.frame ≤ 4096) fr.is (are (suc j) r is).few in
    let low = subst (λ (t : Framed). declared_words t.frame ≤ (routine_at (code_of p) (suc j)).words) fr.is (compiled_at p (suc j) r is).words in
    let bounded = subst IsBounded fr.is (routines_are_bounded p tree none (suc j) r is) in
    subst (InFrames p (suc j)) (sym fr.is) (routine_in_frames p are tree none (suc j) fr.known fr.signature fr.block fr.over few low bounded)

-- ---- Names with words

variable_has : (p : Program) (k : ℕ) (r : Framed) → InFrames p k r → (x : List ℕ) (o : Owner) (a : ℕ) → (site_of r).names x ≡ Variable o a
    → a < words_for (code_of p) k o
variable_has p k r fs x o a is =
    let w = (fs.named).variables x o a is in
    let room = fs.roomy o w.frame w.frame_is in
    omega (arith, room.low, (room.apart).inside x (record { first = a; count = 1 }) (ap region_found w.is))

array_has : (p : Program) (k : ℕ) (r : Framed) → InFrames p k r → (x : List ℕ) (o : Owner) (a : ℕ) (b : Bounds) → (site_of r).names x ≡ Array o a b
    → (1 ≤ size_of b) × (size_of b ≤ 4096) × (a + size_of b ≤ words_for (code_of p) k o) × (bounds_fit (operand b.low) (operand b.high) ≡ true)
array_has p k r fs x o a b is =
    let w = (fs.named).arrays x o a b is in
    let room = fs.roomy o w.frame w.frame_is in
    let inside = (room.apart).inside x (record { first = a; count = size_of b }) (ap region_found w.is) in
    let ordered = by_items Bounded SenseBounded sense_bounded w.frame (w.frame).items x (Array w.owner a b) room.bounded w.is in
    let few : size_of b ≤ 4096 = omega (arith, inside, room.few) in
    (omega arith, few, omega (arith, inside, room.low), ordered_fit b ordered few)

own_variable : (p : Program) (k : ℕ) (r : Framed) → InFrames p k r → (x : List ℕ) (a : ℕ) → (site_of r).names x ≡ Variable r.owner a
    → a < declared_words r.frame
own_variable p k r fs x a is =
    let w = (fs.named).variables x r.owner a is in
    let room = fs.roomy r.owner w.frame w.frame_is in
    omega (arith, fs.own w.frame w.frame_is, (room.apart).inside x (record { first = a; count = 1 }) (ap region_found w.is))

own_reference : (p : Program) (k : ℕ) (r : Framed) → InFrames p k r → (x : List ℕ) (a : ℕ) → (site_of r).names x ≡ Reference a
    → a + 1 < declared_words r.frame
own_reference p k r fs x a is =
    let named = fs.named in
    let there : slice_get fs.frames (owner_number r.owner fs.number) ≡ Some named.frame = ap (slice_get fs.frames) named.owner ∙ named.own_at in
    let room = fs.roomy r.owner named.frame there in
    omega (arith, fs.own named.frame there, (room.apart).inside x (record { first = a; count = 2 }) (ap region_found (named.references x a is)))

-- ---- Routines

-- the words of parameters are those that are passed
parameters_words : (ps : List Parameter) (items : List Item) → words_in (declared_parameters ps items) ≡ passed_words (map passing_of ps) + words_in items
parameters_words [] items = omega arith
parameters_words (p ∷ more) items =
    omega (
      arith,
      one p.is_variable (map passing_of more),
      parameters_words more (record { letters = p.letters; means = parameter_means p } ∷ items),
    )
  where
    one : (b : Bool) (rest : List Passing) → passed_words ((if b then ByVariable else ByValue) ∷ rest)
        ≡ words_of (if b then meant.Reference p.scalar else meant.Variable OfRoutine p.scalar) + passed_words rest
    one true rest = refl
    one false rest = refl

abbrev PassesWords : Framed → Type 0
PassesWords r = (r.frame).parameters ≡ passed_words (map passing_of ((r.declared).signature).parameters)

routine_passes : (known : List Item) (signature : Signature) (block : Block) → PassesWords (framed_routine known signature block)
routine_passes known signature block = omega (arith, parameters_words signature.parameters [])

params_are : (p : Program) (k : ℕ) (r : Framed) → 1 ≤ k → slice_get (all_framed p) k ≡ Some r
    → (routine_at (code_of p) k).params ≡ passed_words (map passing_of ((routines_of p).parameters k))
params_are p zero r some is = absurd (omega (arith, some))
params_are p (suc j) r some is =
    let fr = routine_is p j r is in
    (compiled_at p (suc j) r is).params
    ∙ subst PassesWords (sym fr.is) (routine_passes fr.known fr.signature fr.block)
    ∙ ap (λ (d : Declared). passed_words (map passing_of (d.signature).parameters)) (sym (declared_is p (suc j) r is))

pub params_few : (p : Program) → IsTree p → broken p ≡ None → (k : ℕ) → k < length (code_of p).routines → (routine_at (code_of p) k).params ≤ 16
params_few p tree none k low =
    let there = routine_there p k low in
    omega (arith, (compiled_at p k there.0 there.1).params, (routines_are_bounded p tree none k there.0 there.1).passed)

routine_has : (p : Program) → IsTree p → broken p ≡ None → (k : ℕ) (r : Framed) → slice_get (all_framed p) k ≡ Some r
    → (x : List ℕ) (j : ℕ) (passing : List Passing) → (site_of r).names x ≡ Routine j passing
    → (1 ≤ j) × (j < length (code_of p).routines) × ((routine_at (code_of p) j).params ≡ passed_words passing)
    × ((routine_at (code_of p) j).function ≡ (routines_of p).gives j) × (passed_words passing ≤ 16)
routine_has p tree none k r is x j passing e =
    let one = (calls_ones p k r is x j passing e).1 in
    let inside : j < length (code_of p).routines = omega (arith, one.low, counted_routines p) in
    let there = routine_there p j inside in
    let params : (routine_at (code_of p) j).params ≡ passed_words passing = params_are p j there.0 one.some there.1 ∙ ap passed_words (sym one.passing_is) in
    let function : (routine_at (code_of p) j).function ≡ (routines_of p).gives j =
    (compiled_at p j there.0 there.1).function ∙ ap (λ (d : Declared). is_some (d.signature).answer) (sym (declared_is p j there.0 there.1)) in
    (one.some, inside, params, function, omega (arith, params, params_few p tree none j inside))

own_is_program : (p : Program) (k : ℕ) (r : Framed) → slice_get (all_framed p) k ≡ Some r → r.owner ≡ OfProgram → k ≡ 0
own_is_program p zero r is e = refl
own_is_program p (suc j) r is e = absurd (let f : OfRoutine ≡ OfProgram = sym (owner_of_routine p j r is) ∙ e in cc)

-- ---- The whole

-- In a program that breaks no rule each name of a routine has its room in the code.
pub room_of : (p : Program) → IsTree p → broken p ≡ None → (k : ℕ) (r : Framed) → slice_get (all_framed p) k ≡ Some r
    → HasRoom (code_of p) k (routines_of p) (site_of r) (is_some ((r.declared).signature).answer)
room_of p tree none k r is =
    let fs = in_frames p (suited p tree.words none) tree none k r is in
    let compiled = compiled_at p k r is in
    record {
      own = own_is_program p k r is;
      variable = λ x o a e. variable_has p k r fs x o a e;
      array = λ x o a b e. array_has p k r fs x o a b e;
      reference = λ x a e. omega (arith, own_reference p k r fs x a e, compiled.words);
      routine = λ x j passing e. routine_has p tree none k r is x j passing e;
      result = λ e. omega (arith, words_hold p k r is, compiled.params, ap mark (compiled.function ∙ e));
    }

-- its own names lie below what its statements nest
pub low_of : (p : Program) → IsTree p → broken p ≡ None → (k : ℕ) (r : Framed) → slice_get (all_framed p) k ≡ Some r
    → ((x : List ℕ) (a : ℕ) → (site_of r).names x ≡ Variable r.owner a → a < declared_words r.frame)
    × ((x : List ℕ) (a : ℕ) → (site_of r).names x ≡ Reference a → a + 1 < declared_words r.frame)
low_of p tree none k r is =
    let fs = in_frames p (suited p tree.words none) tree none k r is in
    (λ x a e. own_variable p k r fs x a e, λ x a e. own_reference p k r fs x a e)
