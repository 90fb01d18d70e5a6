-- The names of each routine, and of the program, have their words in the frames of the open activations.
use Rattle.std.proofs.Common.{◌≡◌, ℕ, zero, suc, ◌+◌, ◌<◌, ◌≤◌, Bool, true, false, List, [], ◌∷◌, length, Option, Some, None, pos, refl, sym, ◌∙◌, ap, arith}
use Rattle.std.specs.Prelude.{slice_get, is_some, unwrap_or}
use Rattle.std.specs.Int.{w16, cast_signed}
use Rattle.std.proofs.lemmas.Int.{to_z_pos}
use Rattle.std.proofs.lemmas.Option.{none-some, same_Some}
use Rattle.pascal_tree.specs.Program.{Block, Program}
use Rattle.pascal_tree.specs.Program as tree
use Rattle.pascal_mean.specs.Means.{Owner, OfProgram, OfRoutine, Bounds, Signature, Scalar}
use Rattle.pascal_mean.specs.Predeclared.{Item, predeclared}
use Rattle.pascal_mean.specs.Variables.{owner_number}
use Rattle.pascal_mean.specs.Declarations.{Declared, declared_headings, heading_item, global_items, signature_of, block_of, all_declared, routines_after, no_routine}
use Rattle.pascal_mean.specs.Meaning.{declared_at}
use Rattle.pascal_code.specs.Frames.{Frame, declared_words, plain_frame, routine_frame, result_words}
use Rattle.pascal_code.specs.Senses.{Sense, Variable, Array, Reference, sense_in, Framed, framed_program, framed_routine, framed_after, all_framed, site_of}
use Rattle.pascal_code.proofs.SensesAgree.{names_are_senses}
use Rattle.code_law.specs.Regions.{region_found, AreApart}
use Rattle.code_law.specs.Named.{HasWord, HasWords, Named}
use Rattle.code_law.proofs.Regions.{border_low, parameters_border, plain_is_apart, routine_is_apart}
use Rattle.code_law.proofs.Sites.{AllItems, OfOwner, SenseOf, globals_are, own_are, owner_among, predeclared_are, FoundAs, OfOwn, OfOuter, Before, Nowhere, found_as, Over, Itself, Heading, through_headings, over_are, over_words, headings_over}

-- the program's frame, whatever routines it has
abbrev pub frame_of_program : Program → Frame
frame_of_program p = plain_frame (global_items p)

-- ---- A routine among all
pub record IsFramedRoutine (p : Program) (r : Framed) : Type 0 where
  pub known : List Item
  pub signature : Signature
  pub block : Block
  pub is : r ≡ framed_routine known signature block
  pub over : Over (global_items p) known

routine_in : (p : Program) (k : ℕ) (known : List Item) (rs : List tree.Routine) → Over (global_items p) known → (j : ℕ) (r : Framed)
    → slice_get (framed_after k known rs) j ≡ Some r → IsFramedRoutine p r
routine_in p k known [] over j r is = absurd (none-some r is)
routine_in p k known (s ∷ more) over zero r is = record {
  known = heading_item k known s ∷ known;
  signature = signature_of known s;
  block = block_of s;
  is = sym (same_Some _ r is);
  over = Heading k known s over;
}
routine_in p k known (s ∷ more) over (suc j) r is = routine_in p (k + 1) (heading_item k known s ∷ known) more (Heading k known s over) j r is

pub routine_is : (p : Program) (j : ℕ) (r : Framed) → slice_get (all_framed p) (suc j) ≡ Some r → IsFramedRoutine p r
routine_is p j r is = routine_in p 1 (global_items p) p.routines Itself j r is

-- its declarations are the meaning's
declared_in : (k : ℕ) (known : List Item) (rs : List tree.Routine) (j : ℕ) (r : Framed) → slice_get (framed_after k known rs) j ≡ Some r
    → slice_get (routines_after k known rs) j ≡ Some r.declared
declared_in k known [] j r is = absurd (none-some r is)
declared_in k known (s ∷ more) zero r is = ap (λ (t : Framed). Some t.declared) (same_Some _ r is)
declared_in k known (s ∷ more) (suc j) r is = declared_in (k + 1) (heading_item k known s ∷ known) more j r is

pub declared_there : (p : Program) (k : ℕ) (r : Framed) → slice_get (all_framed p) k ≡ Some r → slice_get (all_declared p) k ≡ Some r.declared
declared_there p zero r is = ap (λ (t : Framed). Some t.declared) (same_Some _ r is)
declared_there p (suc j) r is = declared_in 1 (global_items p) p.routines j r is

pub declared_is : (p : Program) (k : ℕ) (r : Framed) → slice_get (all_framed p) k ≡ Some r → declared_at (all_declared p) k ≡ r.declared
declared_is p k r is = ap (λ (o : Option Declared). unwrap_or o no_routine) (declared_there p k r is)

framed_in : (k : ℕ) (known : List Item) (rs : List tree.Routine) (j : ℕ) → j < length (routines_after k known rs)
    → (r : Framed) × (slice_get (framed_after k known rs) j ≡ Some r)
framed_in k known [] j low = absurd (omega (arith, low))
framed_in k known (s ∷ more) zero low = (_, refl)
framed_in k known (s ∷ more) (suc j) low = framed_in (k + 1) (heading_item k known s ∷ known) more j (omega (arith, low))

pub framed_there : (p : Program) (k : ℕ) → k < length (all_declared p) → (r : Framed) × (slice_get (all_framed p) k ≡ Some r)
framed_there p zero low = (_, refl)
framed_there p (suc j) low = framed_in 1 (global_items p) p.routines j (omega (arith, low))

-- ---- Words that an operand holds

small : (frame : Frame) (x : List ℕ) (o : Owner) (a : ℕ) → AreApart frame → declared_words frame ≤ 4096 → sense_in frame x ≡ Some (Variable o a)
    → cast_signed w16 a ≡ pos a
small frame x o a apart few is = let low = apart.inside x (record { first = a; count = 1 }) (ap region_found is) in to_z_pos w16 a (omega (arith, low, few))

different : (o : Owner) → o ≡ OfRoutine → o ≡ OfProgram → ⊥
different o e f = let g : OfRoutine ≡ OfProgram = sym e ∙ f in cc

-- by the owner of all items of a frame
owner_in : (owner : Owner) (refs : Bool) (f : Frame) (x : List ℕ) (s : Sense) → AllItems (OfOwner owner refs) f.items → sense_in f x ≡ Some s
    → SenseOf owner refs s
owner_in owner refs f x s are is = owner_among owner refs f f.items x s are is

-- what is declared before any program has no words
no_variable : (x : List ℕ) (o : Owner) (a : ℕ) → sense_in (plain_frame predeclared) x ≡ Some (Variable o a) → ⊥
no_variable x o a e = different o (owner_in OfRoutine false (plain_frame predeclared) x (Variable o a) (predeclared_are OfRoutine) e)
    (owner_in OfProgram false (plain_frame predeclared) x (Variable o a) (predeclared_are OfProgram) e)

no_array : (x : List ℕ) (o : Owner) (a : ℕ) (b : Bounds) → sense_in (plain_frame predeclared) x ≡ Some (Array o a b) → ⊥
no_array x o a b e = different o (owner_in OfRoutine false (plain_frame predeclared) x (Array o a b) (predeclared_are OfRoutine) e)
    (owner_in OfProgram false (plain_frame predeclared) x (Array o a b) (predeclared_are OfProgram) e)

no_flag : false ≡ true → ⊥
no_flag e = cc

-- ---- The program itself
pub program_is_named : (p : Program) → declared_words (framed_program p).frame ≤ 4096
    → Named (frame_of_program p ∷ []) 0 (site_of (framed_program p)) ((framed_program p).declared).scope
program_is_named p few =
    let items = declared_headings 1 p.routines (global_items p) in
    let over = headings_over (global_items p) 1 p.routines (global_items p) Itself in
    let words : declared_words (frame_of_program p) ≤ 4096 = omega (arith, few, over_words (global_items p) items over) in
    record {
      frame = frame_of_program p;
      own_at = refl;
      senses = names_are_senses (plain_frame []) (plain_frame items);
      variables = λ x o a is. variable x o a (found_as (plain_frame []) (plain_frame items) x (Variable o a) is) words;
      arrays = λ x o a b is. array x o a b (found_as (plain_frame []) (plain_frame items) x (Array o a b) is);
      references = λ x a is. reference x a (found_as (plain_frame []) (plain_frame items) x (Reference a) is);
      owner = refl;
      low = omega arith;
      result = refl;
    }
  where
    over : Over (global_items p) (declared_headings 1 p.routines (global_items p))
    over = headings_over (global_items p) 1 p.routines (global_items p) Itself

    known_are : AllItems (OfOwner OfProgram false) (declared_headings 1 p.routines (global_items p))
    known_are = over_are (global_items p) (declared_headings 1 p.routines (global_items p)) over (globals_are p)

    variable : (x : List ℕ) (o : Owner) (a : ℕ) → FoundAs (plain_frame []) (plain_frame (declared_headings 1 p.routines (global_items p))) x (Variable o a)
        → declared_words (frame_of_program p) ≤ 4096 → HasWord (frame_of_program p ∷ []) (owner_number o 0) x a
    variable x o a (OfOwn e) words = absurd (none-some _ e)
    variable x o a (OfOuter e) words =
        let of : o ≡ OfProgram = owner_in OfProgram false (plain_frame (declared_headings 1 p.routines (global_items p))) x (Variable o a) known_are e in
        let is = through_headings (global_items p) (declared_headings 1 p.routines (global_items p)) over x (Variable o a) tt e in
        record {
          frame = frame_of_program p;
          frame_is = ap (λ w. slice_get (frame_of_program p ∷ []) (owner_number w 0)) of;
          owner = o;
          is = is;
          small =
              small (frame_of_program p) x o a (plain_is_apart (global_items p)) words is;
        }
    variable x o a (Before e) words = absurd (no_variable x o a e)
    variable x o a (Nowhere e) words = cc

    array : (x : List ℕ) (o : Owner) (a : ℕ) (b : Bounds) → FoundAs (plain_frame []) (plain_frame (declared_headings 1 p.routines (global_items p))) x
        (Array o a b) → HasWords (frame_of_program p ∷ []) (owner_number o 0) x a b
    array x o a b (OfOwn e) = absurd (none-some _ e)
    array x o a b (OfOuter e) =
        let of : o ≡ OfProgram = owner_in OfProgram false (plain_frame (declared_headings 1 p.routines (global_items p))) x (Array o a b) known_are e in
        record {
          frame = frame_of_program p;
          frame_is = ap (λ w. slice_get (frame_of_program p ∷ []) (owner_number w 0)) of;
          owner = o;
          is =
              through_headings (global_items p) (declared_headings 1 p.routines (global_items p)) over x (Array o a b) tt e;
        }
    array x o a b (Before e) = absurd (no_array x o a b e)
    array x o a b (Nowhere e) = cc

    reference : (x : List ℕ) (a : ℕ) → FoundAs (plain_frame []) (plain_frame (declared_headings 1 p.routines (global_items p))) x (Reference a)
        → sense_in (frame_of_program p) x ≡ Some (Reference a)
    reference x a (OfOwn e) = absurd (none-some _ e)
    reference x a (OfOuter e) = absurd (no_flag (owner_in OfProgram false (plain_frame (declared_headings 1 p.routines (global_items p))) x
        (Reference a) known_are e))
    reference x a (Before e) = absurd (no_flag (owner_in OfProgram false (plain_frame predeclared) x (Reference a) (predeclared_are OfProgram) e))
    reference x a (Nowhere e) = cc

-- ---- A routine
module _ (p : Program) (known : List Item) (signature : Signature) (block : Block) (over : Over (global_items p) known)
    (few : declared_words (routine_frame known signature block) ≤ 4096) (program_few : declared_words (frame_of_program p) ≤ 4096)
    (frames : List Frame) (number : ℕ) (first : slice_get frames 0 ≡ Some (frame_of_program p))
    (own : slice_get frames number ≡ Some (routine_frame known signature block)) where
  variable_there : (x : List ℕ) (o : Owner) (a : ℕ) → FoundAs (routine_frame known signature block) (plain_frame known) x (Variable o a)
      → HasWord frames (owner_number o number) x a
  variable_there x o a (OfOwn e) =
      let of : o ≡ OfRoutine = owner_in OfRoutine true (routine_frame known signature block) x (Variable o a) (own_are known signature block) e in
      record {
        frame = routine_frame known signature block;
        frame_is = ap (λ w. slice_get frames (owner_number w number)) of ∙ own;
        owner = o;
        is = e;
        small =
            small (routine_frame known signature block) x o a (routine_is_apart known signature block) few e;
      }
  variable_there x o a (OfOuter e) =
      let of : o ≡ OfProgram = owner_in OfProgram false (plain_frame known) x (Variable o a) (over_are (global_items p) known over (globals_are p)) e in
      let is = through_headings (global_items p) known over x (Variable o a) tt e in
      record {
        frame = frame_of_program p;
        frame_is = ap (λ w. slice_get frames (owner_number w number)) of ∙ first;
        owner = o;
        is = is;
        small =
            small (frame_of_program p) x o a (plain_is_apart (global_items p)) program_few is;
      }
  variable_there x o a (Before e) = absurd (no_variable x o a e)
  variable_there x o a (Nowhere e) = cc

  array_there : (x : List ℕ) (o : Owner) (a : ℕ) (b : Bounds) → FoundAs (routine_frame known signature block) (plain_frame known) x (Array o a b)
      → HasWords frames (owner_number o number) x a b
  array_there x o a b (OfOwn e) =
      let of : o ≡ OfRoutine = owner_in OfRoutine true (routine_frame known signature block) x (Array o a b) (own_are known signature block) e in
      record { frame = routine_frame known signature block; frame_is = ap (λ w. slice_get frames (owner_number w number)) of ∙ own; owner = o; is = e }
  array_there x o a b (OfOuter e) =
      let of : o ≡ OfProgram = owner_in OfProgram false (plain_frame known) x (Array o a b) (over_are (global_items p) known over (globals_are p)) e in
      record {
        frame = frame_of_program p;
        frame_is = ap (λ w. slice_get frames (owner_number w number)) of ∙ first;
        owner = o;
        is =
            through_headings (global_items p) known over x (Array o a b) tt e;
      }
  array_there x o a b (Before e) = absurd (no_array x o a b e)
  array_there x o a b (Nowhere e) = cc

  reference_there : (x : List ℕ) (a : ℕ) → FoundAs (routine_frame known signature block) (plain_frame known) x (Reference a)
      → sense_in (routine_frame known signature block) x ≡ Some (Reference a)
  reference_there x a (OfOwn e) = e
  reference_there x a (OfOuter e) = absurd (no_flag (owner_in OfProgram false (plain_frame known) x (Reference a) (over_are (global_items p) known over
      (globals_are p)) e))
  reference_there x a (Before e) = absurd (no_flag (owner_in OfProgram false (plain_frame predeclared) x (Reference a) (predeclared_are OfProgram) e))
  reference_there x a (Nowhere e) = cc

  pub routine_is_named : Named frames number (site_of (framed_routine known signature block)) ((framed_routine known signature block).declared).scope
  routine_is_named = record {
    frame = routine_frame known signature block;
    own_at = own;
    senses = names_are_senses (routine_frame known signature block) (plain_frame known);
    variables = λ x o a is. variable_there x o a (found_as (routine_frame known signature block) (plain_frame known) x (Variable o a) is);
    arrays = λ x o a b is. array_there x o a b (found_as (routine_frame known signature block) (plain_frame known) x (Array o a b) is);
    references = λ x a is. reference_there x a (found_as (routine_frame known signature block) (plain_frame known) x (Reference a) is);
    owner = refl;
    low = omega (
      arith,
      border_low (routine_frame known signature block).parameters (routine_frame known signature block).items
          (parameters_border known signature block),
    );
    result = refl;
  }

-- a function has one word for its result
pub has_result : (known : List Item) (signature : Signature) (block : Block) → is_some signature.answer ≡ true
    → (routine_frame known signature block).result ≡ 1
has_result known signature block is = by_answer signature.answer is
  where
    by_answer : (o : Option Scalar) → is_some o ≡ true → result_words o ≡ 1
    by_answer None is = cc
    by_answer (Some t) is = refl
