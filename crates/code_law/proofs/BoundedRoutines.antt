-- In a program that breaks no rule the arrays of each routine have ordered bounds, and its parameters have at most 16 words.
use Rattle.std.proofs.Common.{◌≡◌, ℕ, zero, suc, ◌+◌, ◌≤◌, Bool, true, false, List, [], ◌∷◌, ◌++◌, Option, Some, None, is_some, refl, sym, subst, arith}
use Rattle.std.specs.Prelude.{slice_get, nat_le, if◌then◌else◌}
use Rattle.std.proofs.lemmas.Option.{none-some, same_Some}
use Rattle.pascal_tree.specs.Word.{AreWords}
use Rattle.pascal_tree.specs.Program.{Parameters, Block, Routine, procedure, function, Program}
use Rattle.pascal_tree.specs.SpellStatement.{spelled_body}
use Rattle.pascal_tree.specs.SpellProgram.{spelled_consts, spelled_vars, spelled_parameters, spelled_block, spelled_routine, spelled_routines, spelled}
use Rattle.pascal_tree.specs.Scopes as rules
use Rattle.pascal_tree.specs.ExpressionRules.{breaks}
use Rattle.pascal_tree.specs.StatementRules.{judged_body}
use Rattle.pascal_tree.specs.DeclarationRules.{all_groups, inside, behind_parameters, behind_consts, behind_vars, behind_routines, judged_consts, judged_vars, judged_type_name, judged_parameter_groups, block_scope, judged_block, behind_heading, judged_routine, judged_routines, empty_scope, judged, first_broken, broken}
use Rattle.pascal_tree.specs.Limits.{IsTree}
use Rattle.pascal_check.proofs.Unbroken.{before, behind}
use Rattle.pascal_mean.specs.Means.{OfProgram, OfRoutine, Parameter}
use Rattle.pascal_mean.specs.Means as meant
use Rattle.pascal_mean.specs.Predeclared.{Item}
use Rattle.pascal_mean.specs.Predeclared as meaning
use Rattle.pascal_mean.specs.Scope as scopes
use Rattle.pascal_mean.specs.Scope.{found, scope_of}
use Rattle.pascal_mean.specs.Declarations.{parameter_list, parameter_means, declared_parameters, declared_constants, declared_headings, global_items, all_declared, signature_of, heading_item, declared_routine, block_of, routines_after}
use Rattle.pascal_code.specs.Senses.{Framed, framed_program, framed_routine, framed_after, all_framed}
use Rattle.code_law.specs.Suits.{Routines}
use Rattle.code_law.specs.Suited.{routines_of}
use Rattle.code_law.proofs.Numbers.{words_before, words_behind}
use Rattle.code_law.proofs.Senses.{AreMeant, AreAlike, IsFound, found_alike, first_found}
use Rattle.code_law.proofs.PredeclaredSenses.{predeclared_found}
use Rattle.code_law.proofs.Declared.{Stands}
use Rattle.code_law.proofs.Declarations.{constants_declared}
use Rattle.code_law.proofs.Parameters.{list_passed}
use Rattle.code_law.proofs.FrameWords.{words_alike, groups_kept}
use Rattle.code_law.proofs.Headings.{AreNumbered, next_numbered, this_routine, heading_declared}
use Rattle.code_law.proofs.SuitedPrograms as suited
use Rattle.code_law.proofs.Sites.{AllItems, constants_have}
use Rattle.code_law.proofs.Bounded.{Bounded, variables_bounded}

pub record IsBounded (f : Framed) : Type 0 where
  pub arrays : AllItems Bounded (f.frame).items
  pub passed : (f.frame).parameters ≤ 16

parameters_bounded : (ps : List Parameter) (items : List Item) → AllItems Bounded items → AllItems Bounded (declared_parameters ps items)
parameters_bounded [] items are = are
parameters_bounded (p ∷ more) items are =
    parameters_bounded more (record { letters = p.letters; means = parameter_means p } ∷ items)
    (own p.is_variable, are)
  where
    own : (b : Bool) → Bounded (if b then meant.Reference p.scalar else meant.Variable OfRoutine p.scalar)
    own true = tt
    own false = tt

-- ---- A routine
module _ (p : Program) (s : rules.Scope) (known : List Item) (outer : List rules.Declared) (these : List Item)
    (alike : AreAlike (routines_of p) outer these) where
  block_bounded : (ps : Option Parameters) → first_broken (judged_parameter_groups (inside s) (all_groups ps)) ≡ None
      → (answer : Option meant.Scalar) (within : Option (List ℕ)) (b : Block) → AreWords (spelled_block b)
      → first_broken (judged_block (record { own = (behind_parameters s ps).own; outer = outer; within = within }) b) ≡ None
      → IsBounded (framed_routine these (record { parameters = parameter_list known ps; answer = answer }) b)
  block_bounded ps fit answer within b words none = record {
    arrays = variables_bounded scope scope_is OfRoutine b.vars constants_scope (declared_constants scope b.consts first) constants
        (constants_have Bounded scope (λ t d. tt) b.consts first (parameters_bounded parameters [] tt))
        (words_before (spelled_vars b.vars) (spelled_body b.body) (words_behind (spelled_consts b.consts) (spelled_vars b.vars ++ spelled_body b.body) words))
        (before (judged_vars constants_scope b.vars) (judged_body variables_scope b.body)
        (behind (judged_consts first_scope b.consts) (judged_vars constants_scope b.vars ++ judged_body variables_scope b.body) none));
    passed = omega (arith, words_alike rs (behind_parameters s ps).own first passed.alike, groups_kept (all_groups ps) (inside s) (omega arith) fit);
  }
    where
      rs : Routines
      rs = routines_of p

      parameters : List Parameter
      parameters = parameter_list known ps

      first : List Item
      first = declared_parameters parameters []

      scope : List Item → scopes.Scope
      scope = λ is. scope_of is these

      first_scope : rules.Scope
      first_scope = record { own = (behind_parameters s ps).own; outer = outer; within = within }

      constants_scope : rules.Scope
      constants_scope = behind_consts first_scope b.consts

      variables_scope : rules.Scope
      variables_scope = behind_vars constants_scope b.vars

      passed : Stands rs false s.own None [] (behind_parameters s ps) first
      passed = list_passed known ps (inside s)
          (record { outer_is = refl; within_is = refl; alike = tt; once = tt; plain = λ no x. refl; later = []; behind = refl }) fit

      scope_is : (t : rules.Scope) (is : List Item) → Stands rs false outer within first t is → AreMeant rs t (scope is)
      scope_is t is st x =
          first_found rs (rules.found t.own x) (rules.found t.outer x) (rules.found rules.predeclared x) (found is x) (found these x)
          (found meaning.predeclared x)
          (found_alike rs t.own is x st.alike)
          (subst (λ (o : List rules.Declared). IsFound rs (rules.found o x) (found these x)) (sym st.outer_is) (found_alike rs outer these x alike))
          (predeclared_found rs x)

      constants : Stands rs false outer within first constants_scope (declared_constants scope b.consts first)
      constants = constants_declared scope scope_is b.consts first_scope first
          (record { outer_is = refl; within_is = refl; alike = passed.alike; once = passed.once; plain = passed.plain; later = []; behind = refl })
          (words_before (spelled_consts b.consts) _ words)
          (before (judged_consts first_scope b.consts) (judged_vars constants_scope b.vars ++ judged_body variables_scope b.body) none)

routine_bounded : (p : Program) (s : rules.Scope) (known : List Item) (k count : ℕ) (r : Routine)
    → Stands (routines_of p) true [] None [] (behind_heading s r) (heading_item k known r ∷ known)
    → AreWords (spelled_routine r) → first_broken (judged_routine s count r) ≡ None
    → IsBounded (framed_routine (heading_item k known r ∷ known) (signature_of known r) (block_of r))
routine_bounded p s known k count (procedure l x ps c b e) next words none =
    let r = procedure l x ps c b e in
    let block = judged_block (block_scope s r ps None) b in
    let new = breaks 1 (is_some (rules.found s.own x.letters)) x.line in
    let seven = breaks 7 (nat_le 254 count) x.line in
    let groups = judged_parameter_groups (inside s) (all_groups ps) in
    block_bounded p s known (behind_heading s r).own (heading_item k known r ∷ known) next.alike ps (before groups (new ∷ (seven ∷ block)) none) None None b
    (words_before (spelled_block b) _ (words_behind (spelled_parameters ps) _ words.1.1).1)
    (behind (new ∷ (seven ∷ [])) block (behind groups (new ∷ (seven ∷ block)) none))
routine_bounded p s known k count (function l x ps c t d b e) next words none =
    let r = function l x ps c t d b e in
    let block = judged_block (block_scope s r ps (Some x.letters)) b in
    let new = breaks 1 (is_some (rules.found s.own x.letters)) x.line in
    let type = judged_type_name (behind_parameters s ps) t in
    let seven = breaks 7 (nat_le 254 count) x.line in
    let groups = judged_parameter_groups (inside s) (all_groups ps) in
    block_bounded p s known (behind_heading s r).own (heading_item k known r ∷ known) next.alike ps
    (before groups (new ∷ (type ∷ (seven ∷ block))) none) (signature_of known r).answer (Some x.letters) b
    (words_before (spelled_block b) _ (words_behind (spelled_parameters ps) _ words.1.1).1.1.1)
    (behind (new ∷ (type ∷ (seven ∷ []))) block (behind groups (new ∷ (type ∷ (seven ∷ block))) none))

-- all routines of a program
routines_bounded : (p : Program) (routines : List Routine) (k count : ℕ) (s : rules.Scope) (known : List Item)
    → Stands (routines_of p) true [] None [] s known
    → AreNumbered (all_declared p) k (routines_after k known routines) → AreWords (spelled_routines routines)
    → first_broken (judged_routines s count routines) ≡ None
    → (j : ℕ) (f : Framed) → slice_get (framed_after k known routines) j ≡ Some f → IsBounded f
routines_bounded p [] k count s known st n words none j f found = absurd (none-some f found)
routines_bounded p (r ∷ more) k count s known st n words none zero f found =
    let these = heading_item k known r ∷ known in
    let d = declared_routine these (signature_of known r) (block_of r) in
    let first = before (judged_routine s count r) (judged_routines (behind_heading s r) (count + 1) more) none in
    subst IsBounded (same_Some (framed_routine these (signature_of known r) (block_of r)) f found)
    (routine_bounded p s known k count r
    (heading_declared (routines_of p) s known k count r st (this_routine p k d (routines_after (k + 1) these more) n) first)
    (words_before (spelled_routine r) (spelled_routines more) words) first)
routines_bounded p (r ∷ more) k count s known st n words none (suc j) f found =
    let these = heading_item k known r ∷ known in
    let d = declared_routine these (signature_of known r) (block_of r) in
    let later = routines_after (k + 1) these more in
    let first = judged_routine s count r in
    let others = judged_routines (behind_heading s r) (count + 1) more in
    routines_bounded p more (k + 1) (count + 1) (behind_heading s r) these
    (heading_declared (routines_of p) s known k count r st (this_routine p k d later n) (before first others none))
    (next_numbered (all_declared p) k d later n) (words_behind (spelled_routine r) (spelled_routines more) words) (behind first others none) j f found

-- ---- The program
headings_bounded : (k : ℕ) (rs : List Routine) (items : List Item) → AllItems Bounded items → AllItems Bounded (declared_headings k rs items)
headings_bounded k [] items are = are
headings_bounded k (r ∷ more) items are = headings_bounded (k + 1) more (heading_item k items r ∷ items) (tt, are)

module _ (p : Program) (words : AreWords (spelled p)) (none : first_broken (judged p) ≡ None) where
  globals_in_bounds : AllItems Bounded (global_items p)
  globals_in_bounds =
      variables_bounded (scope_of []) (suited.scope_is p words none) OfProgram p.vars (behind_consts empty_scope p.consts)
      (declared_constants (scope_of []) p.consts []) (suited.constants p words none)
      (constants_have Bounded (scope_of []) (λ t d. tt) p.consts [] tt)
      (words_before (spelled_vars p.vars) _ (suited.vars_words p words none))
      (before (judged_vars (behind_consts empty_scope p.consts) p.vars)
      (judged_routines (suited.variables_scope p words none) 0 p.routines
      ++ judged_body (behind_routines (suited.variables_scope p words none) p.routines) p.body) (suited.vars_none p words none))

  framed_bounded : (k : ℕ) (r : Framed) → slice_get (all_framed p) k ≡ Some r → IsBounded r
  framed_bounded zero r is =
      subst IsBounded (same_Some (framed_program p) r is)
      (record { arrays = headings_bounded 1 p.routines (global_items p) globals_in_bounds; passed = omega arith })
  framed_bounded (suc j) r is =
      routines_bounded p p.routines 1 0 (suited.variables_scope p words none) (global_items p) (suited.variables p words none) (suited.numbered p words none)
      (words_before (spelled_routines p.routines) _ (suited.routines_words p words none))
      (before (judged_routines (suited.variables_scope p words none) 0 p.routines)
      (judged_body (behind_routines (suited.variables_scope p words none) p.routines) p.body) (suited.routines_none p words none)) j r is

pub globals_are_bounded : (p : Program) → IsTree p → broken p ≡ None → AllItems Bounded (global_items p)
unfolding broken
globals_are_bounded p tree none = globals_in_bounds p tree.words none

pub routines_are_bounded : (p : Program) → IsTree p → broken p ≡ None → (k : ℕ) (r : Framed) → slice_get (all_framed p) k ≡ Some r → IsBounded r
unfolding broken
routines_are_bounded p tree none k r is = framed_bounded p tree.words none k r is
