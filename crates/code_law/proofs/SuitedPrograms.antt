-- A program that breaks no rule suits its code.
use Rattle.std.proofs.Common.{◌≡◌, ℕ, zero, suc, ◌+◌, ◌≤◌, true, false, List, [], ◌∷◌, ◌++◌, Option, None, refl, sym, ap, subst, arith}
use Rattle.std.specs.Prelude.{slice_get}
use Rattle.std.proofs.lemmas.Option.{same_Some}
use Rattle.pascal_tree.specs.Word.{Spot, AreWords}
use Rattle.pascal_tree.specs.Program.{Program}
use Rattle.pascal_tree.specs.SpellExpression.{symbol_at}
use Rattle.pascal_tree.specs.declared.token.Word.TheVariants as word
use Rattle.pascal_tree.specs.declared.token.Symbol.TheVariants as symbol
use Rattle.pascal_tree.specs.SpellStatement.{spelled_body}
use Rattle.pascal_tree.specs.SpellProgram.{spelled_heading, spelled_consts, spelled_vars, spelled_routines, spelled}
use Rattle.pascal_tree.specs.Scopes as rules
use Rattle.pascal_tree.specs.Scopes.{means_of, or_else, words_of_list}
use Rattle.pascal_tree.specs.StatementRules.{is_within, is_function, judged_body}
use Rattle.pascal_tree.specs.DeclarationRules.{frame_words, behind_consts, behind_vars, behind_routines, judged_consts, judged_vars, judged_routines, empty_scope, judged, first_broken, broken}
use Rattle.pascal_check.proofs.Unbroken.{before, behind}
use Rattle.pascal_check.proofs.FramesKept.{vars_kept}
use Rattle.pascal_mean.specs.Means.{OfProgram}
use Rattle.pascal_mean.specs.Predeclared.{Item}
use Rattle.pascal_mean.specs.Predeclared as meaning
use Rattle.pascal_mean.specs.Scope as scopes
use Rattle.pascal_mean.specs.Scope.{found, first_of_three, scope_of}
use Rattle.pascal_mean.specs.Declarations.{declared_constants, global_items, declared_headings, all_declared, routines_after}
use Rattle.pascal_code.specs.Frames.{plain_frame}
use Rattle.pascal_code.specs.Senses.{Sense, names_in, framed_program}
use Rattle.pascal_code.proofs.SensesAgree.{names_are_senses}
use Rattle.code_law.specs.Suits.{Routines, CanStore}
use Rattle.code_law.specs.Suited.{routines_of, IsSuited, AreSuited}
use Rattle.code_law.proofs.Numbers.{words_before, words_behind}
use Rattle.code_law.proofs.Tests.{not_so}
use Rattle.code_law.proofs.Senses.{IsNamed, IsMeant, AreMeant, found_alike, program_found}
use Rattle.code_law.proofs.PredeclaredSenses.{predeclared_found}
use Rattle.code_law.proofs.Declared.{Stands}
use Rattle.code_law.proofs.Declarations.{constants_declared, variables_declared}
use Rattle.code_law.proofs.FrameWords.{words_alike, constants_words}
use Rattle.code_law.proofs.SuitedStatements.{body_suits}
use Rattle.code_law.proofs.Headings.{AreNumbered, headings_declared, headings_words}
use Rattle.code_law.proofs.SuitedRoutines.{routines_suited}

module _ (p : Program) (words : AreWords (spelled p)) (none : first_broken (judged p) ≡ None) where
  abbrev pub rs : Routines
  rs = routines_of p

  abbrev pub constants_scope : rules.Scope
  constants_scope = behind_consts empty_scope p.consts

  abbrev pub variables_scope : rules.Scope
  variables_scope = behind_vars constants_scope p.vars

  abbrev headings_scope : rules.Scope
  headings_scope = behind_routines variables_scope p.routines

  abbrev items : List Item
  items = declared_headings 1 p.routines (global_items p)

  abbrev pub scope : List Item → scopes.Scope
  scope = scope_of []

  abbrev end_words : List Spot
  end_words = symbol_at symbol.Period p.period ∷ (record { word = word.End; line = p.end } ∷ [])

  -- ---- What parts spell, and that they break no rule
  consts_words : AreWords (spelled_consts p.consts ++ (spelled_vars p.vars ++ (spelled_routines p.routines ++ (spelled_body p.body ++ end_words))))
  consts_words = words_behind (spelled_heading p.heading) _ words

  pub vars_words : AreWords (spelled_vars p.vars ++ (spelled_routines p.routines ++ (spelled_body p.body ++ end_words)))
  vars_words = words_behind (spelled_consts p.consts) _ consts_words

  pub routines_words : AreWords (spelled_routines p.routines ++ (spelled_body p.body ++ end_words))
  routines_words = words_behind (spelled_vars p.vars) _ vars_words

  body_words : AreWords (spelled_body p.body)
  body_words = words_before (spelled_body p.body) _ (words_behind (spelled_routines p.routines) _ routines_words)

  pub vars_none : first_broken (judged_vars constants_scope p.vars
      ++ (judged_routines variables_scope 0 p.routines ++ judged_body headings_scope p.body)) ≡ None
  vars_none = behind (judged_consts empty_scope p.consts)
      (judged_vars constants_scope p.vars ++ (judged_routines variables_scope 0 p.routines ++ judged_body headings_scope p.body)) none

  pub routines_none : first_broken (judged_routines variables_scope 0 p.routines ++ judged_body headings_scope p.body) ≡ None
  routines_none = behind (judged_vars constants_scope p.vars) (judged_routines variables_scope 0 p.routines ++ judged_body headings_scope p.body) vars_none

  -- ---- Declarations
  pub scope_is : (t : rules.Scope) (is : List Item) → Stands rs true [] None [] t is → AreMeant rs t (scope is)
  scope_is t is st x =
      subst (λ (o : List rules.Declared). IsMeant rs (or_else (rules.found t.own x) (or_else (rules.found o x) (rules.found rules.predeclared x)))
      (first_of_three None (found is x) (found meaning.predeclared x)))
      (sym st.outer_is)
      (program_found rs (rules.found t.own x) (rules.found rules.predeclared x) (found is x) (found meaning.predeclared x)
      (found_alike rs t.own is x st.alike) (predeclared_found rs x))

  pub constants : Stands rs true [] None [] constants_scope (declared_constants scope p.consts [])
  constants = constants_declared scope scope_is p.consts empty_scope []
      (record { outer_is = refl; within_is = refl; alike = tt; once = tt; plain = λ no x. refl; later = []; behind = refl })
      (words_before (spelled_consts p.consts) _ consts_words)
      (before (judged_consts empty_scope p.consts)
      (judged_vars constants_scope p.vars ++ (judged_routines variables_scope 0 p.routines ++ judged_body headings_scope p.body)) none)

  pub variables : Stands rs true [] None [] variables_scope (global_items p)
  variables = variables_declared scope scope_is OfProgram p.vars constants_scope (declared_constants scope p.consts []) constants
      (words_before (spelled_vars p.vars) _ vars_words)
      (before (judged_vars constants_scope p.vars) (judged_routines variables_scope 0 p.routines ++ judged_body headings_scope p.body) vars_none)

  pub numbered : AreNumbered (all_declared p) 1 (routines_after 1 (global_items p) p.routines)
  numbered = record {
    some = omega arith;
    at = λ i. let same : 1 + i ≡ suc i = omega arith in ap (slice_get (all_declared p)) same;
    count = omega arith;
  }

  headings : Stands rs true [] None [] headings_scope items
  headings = headings_declared p p.routines 1 0 variables_scope (global_items p) variables numbered
      (before (judged_routines variables_scope 0 p.routines) (judged_body headings_scope p.body) routines_none)

  -- ---- The program itself
  abbrev names : List ℕ → Sense
  names = names_in (plain_frame []) (plain_frame items)

  are : (x : List ℕ) → IsNamed rs (means_of headings_scope x) (names x)
  are x =
      let n = names_are_senses (plain_frame []) (plain_frame items) x in
      subst (IsNamed rs (means_of headings_scope x)) (sym n.1) (scope_is headings_scope items headings x n.0)

  stores : (x : List ℕ) → is_function (means_of headings_scope x) ≡ true → is_within headings_scope.within x ≡ true → CanStore false (names x)
  stores x is own_name = not_so (subst (λ (w : Option (List ℕ)). is_within w x ≡ true) headings.within_is own_name)

  has_room : frame_words constants_scope ≤ 4096
  has_room =
      let results = ap rules.result_words constants.within_is in
      omega (arith, constants_words p.consts empty_scope, results)

  program_suited : IsSuited p (framed_program p)
  program_suited = record {
    suits = body_suits rs headings_scope names are false stores p.body body_words
        (behind (judged_routines variables_scope 0 p.routines) (judged_body headings_scope p.body) routines_none);
    lie = refl;
    few =
        let counted = words_alike rs headings_scope.own items headings.alike in
        omega (
          arith,
          counted,
          headings_words p.routines variables_scope,
          vars_kept constants_scope p.vars has_room
              (before (judged_vars constants_scope p.vars) (judged_routines variables_scope 0 p.routines ++ judged_body headings_scope p.body) vars_none),
        );
  }

  each_suited : AreSuited p
  each_suited zero f here = subst (IsSuited p) (same_Some (framed_program p) f here) program_suited
  each_suited (suc j) f here =
      routines_suited p p.routines 1 0 variables_scope (global_items p) variables numbered (words_before (spelled_routines p.routines) _ routines_words)
      (before (judged_routines variables_scope 0 p.routines) (judged_body headings_scope p.body) routines_none) j f here

-- the law
pub suited : (p : Program) → AreWords (spelled p) → broken p ≡ None → AreSuited p
unfolding broken
suited p words none = each_suited p words none
