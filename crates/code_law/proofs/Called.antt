-- A name that means a routine to the code means one of the program's, as its heading says.
use Rattle.std.proofs.Common.{◌≡◌, ℕ, zero, suc, ◌+◌, Bool, true, false, List, [], ◌∷◌, map, Some, is_some, ap, subst, arith}
use Rattle.std.specs.Prelude.{slice_get, if◌then◌else◌}
use Rattle.std.proofs.lemmas.Option.{none-some, same_Some}
use Rattle.pascal_tree.specs.Program.{Block, Routine, Program}
use Rattle.pascal_tree.specs.declared.declaration.Kind.{Kind}
use Rattle.pascal_tree.specs.declared.declaration.Kind.TheVariants as kind
use Rattle.pascal_mean.specs.Means.{Means, Owner, OfProgram, OfRoutine, Parameter, Signature}
use Rattle.pascal_mean.specs.Means as meant
use Rattle.pascal_mean.specs.Predeclared.{Item, predeclared}
use Rattle.pascal_mean.specs.Scope.{Scope, scope_of}
use Rattle.pascal_mean.specs.Calls.{Passing, passing_of}
use Rattle.pascal_mean.specs.Declarations.{parameter_means, declared_parameters, variable_of, own_items, declared_headings, global_items, all_declared, signature_of, heading_item, declared_routine, block_of, routines_after}
use Rattle.pascal_code.specs.Frames.{Frame, plain_frame, routine_frame}
use Rattle.pascal_code.specs.Senses as to_code
use Rattle.pascal_code.specs.Senses.{Sense, sense, names_in, Framed, framed_program, framed_routine, framed_after, all_framed}
use Rattle.code_law.specs.Suits.{Routines, IsRoutineOf}
use Rattle.code_law.specs.Suited.{routines_of}
use Rattle.code_law.proofs.Headings.{AreNumbered, next_numbered, this_routine}
use Rattle.code_law.proofs.Sites.{AllItems, constants_have, variables_have, FoundAs, OfOwn, OfOuter, Before, Nowhere, found_as}
use Rattle.code_law.proofs.Bounded.{by_items}

-- a function or a procedure of the program
abbrev pub IsOne : Routines → ℕ → List Passing → Type 0
IsOne rs k passing = (gives : Bool) × IsRoutineOf rs k passing gives

abbrev MeansOne : Routines → Means → Type 0
MeansOne rs (meant.Routine k s) = IsRoutineOf rs k (map passing_of s.parameters) (is_some s.answer)
MeansOne rs (meant.Variable o t) = Unit {0}
MeansOne rs (meant.Array o t b) = Unit {0}
MeansOne rs (meant.Reference t) = Unit {0}
MeansOne rs (meant.Constant t v) = Unit {0}
MeansOne rs (meant.Function f) = Unit {0}
MeansOne rs (meant.Interface p) = Unit {0}
MeansOne rs (meant.TypeName t) = Unit {0}
MeansOne rs meant.Nothing = Unit {0}

abbrev SenseOfOne : Routines → Sense → Type 0
SenseOfOne rs (to_code.Routine k passing) = IsOne rs k passing
SenseOfOne rs (to_code.Variable o a) = Unit {0}
SenseOfOne rs (to_code.Array o a b) = Unit {0}
SenseOfOne rs (to_code.Reference a) = Unit {0}
SenseOfOne rs (to_code.Constant v) = Unit {0}
SenseOfOne rs (to_code.Function f) = Unit {0}
SenseOfOne rs (to_code.Interface p) = Unit {0}
SenseOfOne rs to_code.Nothing = Unit {0}

sense_of_one : (rs : Routines) (m : Means) (a : ℕ) → MeansOne rs m → SenseOfOne rs (sense m a)
sense_of_one rs (meant.Routine k s) a is = (is_some s.answer, is)
sense_of_one rs (meant.Variable o t) a is = tt
sense_of_one rs (meant.Array o t b) a is = tt
sense_of_one rs (meant.Reference t) a is = tt
sense_of_one rs (meant.Constant t v) a is = tt
sense_of_one rs (meant.Function f) a is = tt
sense_of_one rs (meant.Interface p) a is = tt
sense_of_one rs (meant.TypeName t) a is = tt
sense_of_one rs meant.Nothing a is = tt

-- ---- Declarations

variable_one : (rs : Routines) (owner : Owner) (s : Scope) (k : Kind) → MeansOne rs (variable_of owner s k)
variable_one rs owner s (kind.Name n) = tt
variable_one rs owner s (kind.Array line opening low up_to high closing of element) = tt

parameters_one : (rs : Routines) (ps : List Parameter) (items : List Item) → AllItems (MeansOne rs) items
    → AllItems (MeansOne rs) (declared_parameters ps items)
parameters_one rs [] items are = are
parameters_one rs (p ∷ more) items are =
    parameters_one rs more (record { letters = p.letters; means = parameter_means p } ∷ items)
    (own p.is_variable, are)
  where
    own : (b : Bool) → MeansOne rs (if b then meant.Reference p.scalar else meant.Variable OfRoutine p.scalar)
    own true = tt
    own false = tt

own_ones : (rs : Routines) (known : List Item) (signature : Signature) (b : Block) → AllItems (MeansOne rs) (own_items known signature b)
own_ones rs known signature b =
    let scope : List Item → Scope = λ own. scope_of own known in
    variables_have (MeansOne rs) OfRoutine scope (variable_one rs OfRoutine) b.vars _
    (constants_have (MeansOne rs) scope (λ s d. tt) b.consts _ (parameters_one rs signature.parameters [] tt))

globals_ones : (rs : Routines) (p : Program) → AllItems (MeansOne rs) (global_items p)
globals_ones rs p =
    variables_have (MeansOne rs) OfProgram (scope_of []) (variable_one rs OfProgram) p.vars _
    (constants_have (MeansOne rs) (scope_of []) (λ s d. tt) p.consts [] tt)

predeclared_ones : (rs : Routines) → AllItems (MeansOne rs) predeclared
predeclared_ones rs = (
  tt,
  (
    tt,
    (
      tt,
      (
        tt,
        (
          tt,
          (
            tt,
            (
              tt,
              (
                tt,
                (
                  tt,
                  (
                    tt,
                    (
                      tt,
                      (
                        tt,
                        (
                          tt,
                          (
                            tt,
                            (
                              tt,
                              (
                                tt,
                                (
                                  tt,
                                  (
                                    tt,
                                    (
                                      tt,
                                      (
                                        tt,
                                        (
                                          tt,
                                          (
                                            tt,
                                            (
                                              tt,
                                              (
                                                tt,
                                                (
                                                  tt,
                                                  (tt, tt),
                                                ),
                                              ),
                                            ),
                                          ),
                                        ),
                                      ),
                                    ),
                                  ),
                                ),
                              ),
                            ),
                          ),
                        ),
                      ),
                    ),
                  ),
                ),
              ),
            ),
          ),
        ),
      ),
    ),
  ),
)

headings_ones : (p : Program) (routines : List Routine) (k : ℕ) (known : List Item) → AreNumbered (all_declared p) k (routines_after k known routines)
    → AllItems (MeansOne (routines_of p)) known → AllItems (MeansOne (routines_of p)) (declared_headings k routines known)
headings_ones p [] k known n are = are
headings_ones p (r ∷ more) k known n are =
    let these = heading_item k known r ∷ known in
    let d = declared_routine these (signature_of known r) (block_of r) in
    let later = routines_after (k + 1) these more in
    headings_ones p more (k + 1) these (next_numbered (all_declared p) k d later n) (this_routine p k d later n, are)

-- ---- Names

names_ones : (rs : Routines) (own program : Frame) → AllItems (MeansOne rs) own.items → AllItems (MeansOne rs) program.items
    → (x : List ℕ) (s : Sense) → names_in own program x ≡ s → SenseOfOne rs s
names_ones rs own program own_are program_are x s is = by_place (found_as own program x s is)
  where
    by_place : FoundAs own program x s → SenseOfOne rs s
    by_place (OfOwn e) = by_items (MeansOne rs) (SenseOfOne rs) (sense_of_one rs) own own.items x s own_are e
    by_place (OfOuter e) = by_items (MeansOne rs) (SenseOfOne rs) (sense_of_one rs) program program.items x s program_are e
    by_place (Before e) = by_items (MeansOne rs) (SenseOfOne rs) (sense_of_one rs) (plain_frame predeclared) predeclared x s (predeclared_ones rs) e
    by_place (Nowhere e) = subst (SenseOfOne rs) e tt

abbrev CallsOnes : Routines → Framed → Type 0
CallsOnes rs f = (x : List ℕ) (j : ℕ) (passing : List Passing) → f.names x ≡ to_code.Routine j passing → IsOne rs j passing

routine_ones : (rs : Routines) (known : List Item) (signature : Signature) (b : Block) → AllItems (MeansOne rs) known
    → CallsOnes rs (framed_routine known signature b)
routine_ones rs known signature b are x j passing is =
    names_ones rs (routine_frame known signature b) (plain_frame known) (own_ones rs known signature b) are x (to_code.Routine j passing) is

routines_ones : (p : Program) (routines : List Routine) (k : ℕ) (known : List Item) → AreNumbered (all_declared p) k (routines_after k known routines)
    → AllItems (MeansOne (routines_of p)) known → (j : ℕ) (f : Framed) → slice_get (framed_after k known routines) j ≡ Some f → CallsOnes (routines_of p) f
routines_ones p [] k known n are j f found = absurd (none-some f found)
routines_ones p (r ∷ more) k known n are zero f found =
    let these = heading_item k known r ∷ known in
    let d = declared_routine these (signature_of known r) (block_of r) in
    subst (CallsOnes (routines_of p)) (same_Some (framed_routine these (signature_of known r) (block_of r)) f found)
    (routine_ones (routines_of p) these (signature_of known r) (block_of r) (this_routine p k d (routines_after (k + 1) these more) n, are))
routines_ones p (r ∷ more) k known n are (suc j) f found =
    let these = heading_item k known r ∷ known in
    let d = declared_routine these (signature_of known r) (block_of r) in
    let later = routines_after (k + 1) these more in
    routines_ones p more (k + 1) these (next_numbered (all_declared p) k d later n) (this_routine p k d later n, are) j f found

program_ones : (p : Program) → AreNumbered (all_declared p) 1 (routines_after 1 (global_items p) p.routines) → CallsOnes (routines_of p) (framed_program p)
program_ones p n x j passing is =
    names_ones (routines_of p) (plain_frame []) (plain_frame (declared_headings 1 p.routines (global_items p))) tt
    (headings_ones p p.routines 1 (global_items p) n (globals_ones (routines_of p) p)) x (to_code.Routine j passing) is

pub calls_ones : (p : Program) (k : ℕ) (r : Framed) → slice_get (all_framed p) k ≡ Some r → (x : List ℕ) (j : ℕ) (passing : List Passing)
    → r.names x ≡ to_code.Routine j passing → IsOne (routines_of p) j passing
calls_ones p k r is = by_number k r is
  where
    numbered : AreNumbered (all_declared p) 1 (routines_after 1 (global_items p) p.routines)
    numbered = record {
      some = omega arith;
      at = λ i. let same : 1 + i ≡ suc i = omega arith in ap (slice_get (all_declared p)) same;
      count = omega arith;
    }

    by_number : (n : ℕ) (f : Framed) → slice_get (all_framed p) n ≡ Some f → CallsOnes (routines_of p) f
    by_number zero f here = subst (CallsOnes (routines_of p)) (same_Some (framed_program p) f here) (program_ones p numbered)
    by_number (suc i) f here = routines_ones p p.routines 1 (global_items p) numbered (globals_ones (routines_of p) p) i f here
