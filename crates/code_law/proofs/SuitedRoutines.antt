-- A routine that breaks no rule suits its code.
use Rattle.std.proofs.Common.{◌≡◌, ℕ, zero, suc, ◌+◌, ◌≤◌, Bool, true, false, List, [], ◌∷◌, ◌++◌, Option, Some, None, is_some, refl, sym, ap, subst, ◌∙◌, true≢false, arith}
use Rattle.std.specs.Prelude.{slice_get, nat_le, if◌then◌else◌}
use Rattle.std.proofs.lemmas.Option.{none-some, same_Some}
use Rattle.pascal_tree.specs.Word.{AreWords}
use Rattle.pascal_tree.specs.Program.{Parameters, Block, Routine, procedure, function, Program}
use Rattle.pascal_tree.specs.SpellStatement.{spelled_body}
use Rattle.pascal_tree.specs.SpellProgram.{spelled_consts, spelled_vars, spelled_parameters, spelled_block, spelled_routine, spelled_routines}
use Rattle.pascal_tree.specs.Scopes as rules
use Rattle.pascal_tree.specs.Scopes.{means_of, or_else, words_of_list}
use Rattle.pascal_tree.specs.ExpressionRules.{breaks}
use Rattle.pascal_tree.specs.StatementRules.{is_within, is_function, judged_body}
use Rattle.pascal_tree.specs.DeclarationRules.{all_groups, inside, frame_words, behind_parameters, behind_consts, behind_vars, judged_consts, judged_vars, judged_type_name, judged_parameter_groups, block_scope, judged_block, behind_heading, judged_routine, judged_routines, first_broken}
use Rattle.pascal_tree.specs.declared.means.Means.{Means}
use Rattle.pascal_check.proofs.Unbroken.{before, behind}
use Rattle.pascal_check.proofs.FramesKept.{vars_kept}
use Rattle.pascal_mean.specs.Means.{Signature, OfRoutine}
use Rattle.pascal_mean.specs.Means as meant
use Rattle.pascal_mean.specs.Predeclared.{Item}
use Rattle.pascal_mean.specs.Predeclared as meaning
use Rattle.pascal_mean.specs.Scope as scopes
use Rattle.pascal_mean.specs.Scope.{found, first_of_three, scope_of}
use Rattle.pascal_mean.specs.Declarations.{parameter_list, declared_parameters, declared_constants, own_items, all_declared, signature_of, heading_item, declared_routine, block_of, routines_after}
use Rattle.pascal_code.specs.Frames.{Frame, plain_frame, routine_frame, words_in, declared_words}
use Rattle.pascal_code.specs.Frames as code
use Rattle.pascal_code.specs.Senses.{Sense, sense, names_in, Framed, framed_routine, framed_after}
use Rattle.pascal_code.proofs.SensesAgree.{names_are_senses}
use Rattle.code_law.specs.Suits.{Routines, CanStore}
use Rattle.code_law.specs.Suited.{routines_of, IsSuited}
use Rattle.code_law.proofs.Numbers.{words_before, words_behind}
use Rattle.code_law.proofs.Tests.{not_so}
use Rattle.code_law.proofs.Senses.{IsNamed, AreMeant, AreAlike, IsFound, found_alike, first_found}
use Rattle.code_law.proofs.PredeclaredSenses.{predeclared_found}
use Rattle.code_law.proofs.Declared.{Stands}
use Rattle.code_law.proofs.Declarations.{constants_declared, variables_declared}
use Rattle.code_law.proofs.Parameters.{list_passed}
use Rattle.code_law.proofs.Places.{lie}
use Rattle.code_law.proofs.FrameWords.{words_alike, constants_words, groups_kept}
use Rattle.code_law.proofs.SuitedStatements.{body_suits}
use Rattle.code_law.proofs.Headings.{AreNumbered, next_numbered, this_routine, heading_declared}

-- a function is in no list without routines
not_own : (rs : Routines) (o : Option Means) (p : Option meant.Means) (others : Option Means) → IsFound rs o p → is_function o ≡ false
    → is_function (or_else o others) ≡ true → p ≡ None
not_own rs None None others h plain is = refl
not_own rs None (Some n) others h plain is = absurd h
not_own rs (Some m) None others h plain is = absurd h
not_own rs (Some m) (Some n) others h plain is = absurd (true≢false (sym is ∙ plain))

few_result : (within : Option (List ℕ)) → rules.result_words within ≤ 1
few_result None = omega arith
few_result (Some x) = omega arith

-- The block of a routine behind its heading, in which these names of the program are known: a name by which the
-- routine is set means a routine there.
module _ (p : Program) (s : rules.Scope) (known : List Item) (program_stands : Stands (routines_of p) true [] None [] s known)
    (outer : List rules.Declared) (these : List Item) (alike : AreAlike (routines_of p) outer these) where
  block_suited : (ps : Option Parameters) → first_broken (judged_parameter_groups (inside s) (all_groups ps)) ≡ None
      → (answer : Option meant.Scalar) (within : Option (List ℕ)) → rules.result_words within ≡ code.result_words answer
      → (k : ℕ) (own : Signature) → ((x : List ℕ) → is_within within x ≡ true → (found these x ≡ Some (meant.Routine k own)) × (is_some answer ≡ true))
      → (b : Block) → AreWords (spelled_block b)
      → first_broken (judged_block (record { own = (behind_parameters s ps).own; outer = outer; within = within }) b) ≡ None
      → IsSuited p (framed_routine these (record { parameters = parameter_list known ps; answer = answer }) b)
  block_suited ps fit answer within result k own set b words none = record {
    suits = body_suits rs variables_scope names are (is_some answer) stores b.body
        (words_behind (spelled_vars b.vars) (spelled_body b.body) (words_behind (spelled_consts b.consts) (spelled_vars b.vars ++ spelled_body b.body) words))
        (behind (judged_vars constants_scope b.vars) (judged_body variables_scope b.body) later);
    lie = lie frame parameters [] variables.later variables.behind variables.once refl;
    few =
        let counted = words_alike rs variables_scope.own items variables.alike in
        let results = ap rules.result_words variables.within_is ∙ result in
        omega (
          arith,
          counted,
          results,
          vars_kept constants_scope b.vars has_room
              (before (judged_vars constants_scope b.vars) (judged_body variables_scope b.body) later),
        );
  }
    where
      rs : Routines
      rs = routines_of p

      parameters : List meant.Parameter
      parameters = parameter_list known ps

      first : List Item
      first = declared_parameters parameters []

      scope : List Item → scopes.Scope
      scope = λ is. scope_of is these

      first_scope : rules.Scope
      first_scope = record { own = (behind_parameters s ps).own; outer = outer; within = within }

      constants_scope : rules.Scope
      constants_scope = behind_consts first_scope b.consts

      variables_scope : rules.Scope
      variables_scope = behind_vars constants_scope b.vars

      items : List Item
      items = own_items these (record { parameters = parameters; answer = answer }) b

      frame : Frame
      frame = routine_frame these (record { parameters = parameters; answer = answer }) b

      names : List ℕ → Sense
      names = names_in frame (plain_frame these)

      passed : Stands rs false s.own None [] (behind_parameters s ps) first
      passed = list_passed known ps (inside s)
          (record { outer_is = refl; within_is = refl; alike = tt; once = tt; plain = λ no x. refl; later = []; behind = refl }) fit

      begun : Stands rs false outer within first first_scope first
      begun = record { outer_is = refl; within_is = refl; alike = passed.alike; once = passed.once; plain = passed.plain; later = []; behind = refl }

      scope_is : (t : rules.Scope) (is : List Item) → Stands rs false outer within first t is → AreMeant rs t (scope is)
      scope_is t is st x =
          first_found rs (rules.found t.own x) (rules.found t.outer x) (rules.found rules.predeclared x) (found is x) (found these x)
          (found meaning.predeclared x)
          (found_alike rs t.own is x st.alike)
          (subst (λ (o : List rules.Declared). IsFound rs (rules.found o x) (found these x)) (sym st.outer_is) (found_alike rs outer these x alike))
          (predeclared_found rs x)

      later : first_broken (judged_vars constants_scope b.vars ++ judged_body variables_scope b.body) ≡ None
      later = behind (judged_consts first_scope b.consts) (judged_vars constants_scope b.vars ++ judged_body variables_scope b.body) none

      constants : Stands rs false outer within first constants_scope (declared_constants scope b.consts first)
      constants = constants_declared scope scope_is b.consts first_scope first begun (words_before (spelled_consts b.consts) _ words)
          (before (judged_consts first_scope b.consts) (judged_vars constants_scope b.vars ++ judged_body variables_scope b.body) none)

      variables : Stands rs false outer within first variables_scope items
      variables = variables_declared scope scope_is OfRoutine b.vars constants_scope (declared_constants scope b.consts first) constants
          (words_before (spelled_vars b.vars) (spelled_body b.body) (words_behind (spelled_consts b.consts) (spelled_vars b.vars ++ spelled_body b.body) words))
          (before (judged_vars constants_scope b.vars) (judged_body variables_scope b.body) later)

      are : (x : List ℕ) → IsNamed rs (means_of variables_scope x) (names x)
      are x =
          let n = names_are_senses frame (plain_frame these) x in
          subst (IsNamed rs (means_of variables_scope x)) (sym n.1) (scope_is variables_scope items variables x n.0)

      stores : (x : List ℕ) → is_function (means_of variables_scope x) ≡ true → is_within variables_scope.within x ≡ true → CanStore (is_some answer) (names x)
      stores x is own_name =
          let here = set x (subst (λ (w : Option (List ℕ)). is_within w x ≡ true) variables.within_is own_name) in
          let n = names_are_senses frame (plain_frame these) x in
          let none = not_own rs (rules.found variables_scope.own x) (found items x)
          (or_else (rules.found variables_scope.outer x) (rules.found rules.predeclared x))
          (found_alike rs variables_scope.own items x variables.alike) (variables.plain refl x) is in
          let means : scope items x ≡ meant.Routine k own =
          ap (λ (o : Option meant.Means). first_of_three o (found these x) (found meaning.predeclared x)) none
          ∙ ap (λ (o : Option meant.Means). first_of_three None o (found meaning.predeclared x)) here.0 in
          subst (CanStore (is_some answer)) (sym (n.1 ∙ ap (λ (m : meant.Means). sense m n.0) means)) here.1

      has_room : frame_words constants_scope ≤ 4096
      has_room = omega (
        arith,
        constants_words b.consts first_scope,
        groups_kept (all_groups ps) (inside s) (omega arith) fit,
        few_result constants_scope.within,
      )

routine_suited : (p : Program) (s : rules.Scope) (known : List Item) (k count : ℕ) (r : Routine) → Stands (routines_of p) true [] None [] s known
    → Stands (routines_of p) true [] None [] (behind_heading s r) (heading_item k known r ∷ known)
    → AreWords (spelled_routine r) → first_broken (judged_routine s count r) ≡ None
    → IsSuited p (framed_routine (heading_item k known r ∷ known) (signature_of known r) (block_of r))
routine_suited p s known k count (procedure l x ps c b e) st next words none =
    let r = procedure l x ps c b e in
    let block = judged_block (block_scope s r ps None) b in
    let new = breaks 1 (is_some (rules.found s.own x.letters)) x.line in
    let seven = breaks 7 (nat_le 254 count) x.line in
    let groups = judged_parameter_groups (inside s) (all_groups ps) in
    block_suited p s known st (behind_heading s r).own (heading_item k known r ∷ known) next.alike ps (before groups (new ∷ (seven ∷ block)) none) None
    None refl
    k (signature_of known r) (λ y h. not_so h) b
    (words_before (spelled_block b) _ (words_behind (spelled_parameters ps) _ words.1.1).1)
    (behind (new ∷ (seven ∷ [])) block (behind groups (new ∷ (seven ∷ block)) none))
routine_suited p s known k count (function l x ps c t d b e) st next words none =
    let r = function l x ps c t d b e in
    let block = judged_block (block_scope s r ps (Some x.letters)) b in
    let new = breaks 1 (is_some (rules.found s.own x.letters)) x.line in
    let type = judged_type_name (behind_parameters s ps) t in
    let seven = breaks 7 (nat_le 254 count) x.line in
    let groups = judged_parameter_groups (inside s) (all_groups ps) in
    let own = signature_of known r in
    block_suited p s known st (behind_heading s r).own (heading_item k known r ∷ known) next.alike ps
    (before groups (new ∷ (type ∷ (seven ∷ block))) none) own.answer (Some x.letters) refl
    k own (λ y h. (ap (λ (same : Bool). if same then Some (meant.Routine k own) else found known y) h, refl)) b
    (words_before (spelled_block b) _ (words_behind (spelled_parameters ps) _ words.1.1).1.1.1)
    (behind (new ∷ (type ∷ (seven ∷ []))) block (behind groups (new ∷ (type ∷ (seven ∷ block))) none))

-- all routines of a program
pub routines_suited : (p : Program) (routines : List Routine) (k count : ℕ) (s : rules.Scope) (known : List Item)
    → Stands (routines_of p) true [] None [] s known
    → AreNumbered (all_declared p) k (routines_after k known routines) → AreWords (spelled_routines routines)
    → first_broken (judged_routines s count routines) ≡ None
    → (j : ℕ) (f : Framed) → slice_get (framed_after k known routines) j ≡ Some f → IsSuited p f
routines_suited p [] k count s known st n words none j f found = absurd (none-some f found)
routines_suited p (r ∷ more) k count s known st n words none zero f found =
    let these = heading_item k known r ∷ known in
    let d = declared_routine these (signature_of known r) (block_of r) in
    let first = before (judged_routine s count r) (judged_routines (behind_heading s r) (count + 1) more) none in
    subst (IsSuited p) (same_Some (framed_routine these (signature_of known r) (block_of r)) f found)
    (routine_suited p s known k count r st
    (heading_declared (routines_of p) s known k count r st (this_routine p k d (routines_after (k + 1) these more) n) first)
    (words_before (spelled_routine r) (spelled_routines more) words) first)
routines_suited p (r ∷ more) k count s known st n words none (suc j) f found =
    let these = heading_item k known r ∷ known in
    let d = declared_routine these (signature_of known r) (block_of r) in
    let later = routines_after (k + 1) these more in
    let first = judged_routine s count r in
    let others = judged_routines (behind_heading s r) (count + 1) more in
    routines_suited p more (k + 1) (count + 1) (behind_heading s r) these
    (heading_declared (routines_of p) s known k count r st (this_routine p k d later n) (before first others none))
    (next_numbered (all_declared p) k d later n) (words_behind (spelled_routine r) (spelled_routines more) words) (behind first others none) j f found
