-- A statement that breaks no rule suits its names.
use Rattle.std.proofs.Common.{◌≡◌, ℕ, Bool, true, false, not, ◌&&◌, ◌||◌, List, [], ◌∷◌, ◌++◌, length, Option, Some, None, is_some, ℤ, refl, arith}
use Rattle.pascal_tree.specs.Word.{NameAt, AreWords}
use Rattle.pascal_tree.specs.Expression.{Arguments}
use Rattle.pascal_tree.specs.Statement.{Labels, Statement, empty, assign, call, compound, if_then, if_else, while_do, repeat_until, for_do, case_of, Body, body, Sequence, sequence, Statements, no_statement, next_statement, Branch, branch, Branches, no_branch, next_branch}
use Rattle.pascal_tree.specs.SpellExpression.{spelled_expr, spelled_index}
use Rattle.pascal_tree.specs.SpellConstant.{spelled_constant, spelled_labels, spelled_more_labels}
use Rattle.pascal_tree.specs.SpellStatement.{spelled_statement, spelled_body, spelled_sequence, spelled_statements, spelled_branch, spelled_branches}
use Rattle.pascal_tree.specs.Lines.{first_line_of_constant}
use Rattle.pascal_tree.specs.Scopes as rules
use Rattle.pascal_tree.specs.Scopes.{means_of, is_scalar, same_scalar}
use Rattle.pascal_tree.specs.ExpressionRules.{Judged, breaks, agree, element_type, is_array, parameters_of, count_arguments, arguments_suit, expr_type, index_type, judged_expr, judged_index, judged_arguments}
use Rattle.pascal_tree.specs.StatementRules.{Valued, value_of, values_of_branch, with_value, is_valued_as, is_among, is_within, is_function, is_variable_name, may_be_set, set_type, may_control, judged_constant, judged_label, judged_more_labels, judged_labels, judged_target, judged_element, judged_call, judged_control, judged_statement, judged_body, judged_sequence, judged_statements, judged_branch, judged_branches}
use Rattle.pascal_tree.specs.DeclarationRules.{first_broken}
use Rattle.pascal_tree.specs.declared.constant.Constant.{Constant}
use Rattle.pascal_tree.specs.declared.scalar.Scalar.{Scalar}
use Rattle.pascal_tree.specs.declared.scalar.Scalar.TheVariants as scalar
use Rattle.pascal_tree.specs.declared.scalar.VariableType.TheVariants as variable_type
use Rattle.pascal_tree.specs.declared.parameter.Parameter.{Parameter}
use Rattle.pascal_tree.specs.declared.means.Means.{Means}
use Rattle.pascal_tree.specs.declared.means.Means.TheVariants as means
use Rattle.pascal_check.specs.Has.{IsRoutine}
use Rattle.pascal_check.proofs.Unbroken.{before, behind, tested, procedure_called}
use Rattle.pascal_code.specs.Senses.{Sense, Constant as IsConstant, Variable, Array, Reference, Routine, Function, Interface, Nothing, constant_value}
use Rattle.pascal_code.specs.Calls.{passing_of}
use Rattle.code_law.specs.Suits.{Routines, IsHeld, CanStore, CanIndex, CanCall, IsScalar, SuitsCall, AreHeld, SuitsLabels, SuitsStatement, SuitsBody, SuitsSequence, SuitsStatements, SuitsBranch, SuitsBranches}
use Rattle.code_law.proofs.Numbers.{words_before, words_behind}
use Rattle.code_law.proofs.Tests.{never}
use Rattle.code_law.proofs.Senses.{AreWanted, IsNamed}
use Rattle.code_law.proofs.Constants.{IsNumber, constant_is}
use Rattle.code_law.proofs.SuitedExpressions.{none_passed, expr_suits, index_suits, arguments_suits}

held_number : (v : Option Valued) (w : ℤ) → IsNumber v w → IsHeld w
held_number None w h = absurd h
held_number (Some v) w h = h.1

scalar_stores : (inside : Bool) (n : Sense) → IsScalar n → CanStore inside n
scalar_stores inside (Variable o a) h = tt
scalar_stores inside (Reference a) h = tt
scalar_stores inside (IsConstant v) h = absurd h
scalar_stores inside (Array o a b) h = absurd h
scalar_stores inside (Routine k passing) h = absurd h
scalar_stores inside (Function f) h = absurd h
scalar_stores inside (Interface p) h = absurd h
scalar_stores inside Nothing h = absurd h

module _ (rs : Routines) where
  name_stores : (inside : Bool) (m : Option Means) (n : Sense) (within : Bool) (value : Option Scalar) (l b : ℕ) → IsNamed rs m n
      → (is_function m ≡ true → within ≡ true → CanStore inside n)
      → first_broken (breaks 2 (not (is_some m)) l ∷ breaks 3 (is_some m && not (is_variable_name m || (is_function m && within))) l
      ∷ breaks 10 (not (agree (set_type m) value)) b ∷ []) ≡ None
      → CanStore inside n
  name_stores inside None n within value l b is own h = never h
  name_stores inside (Some (means.Constant t v)) n within value l b is own h = never h
  name_stores inside (Some (means.Variable (variable_type.Plain t))) n within value l b is own h = scalar_stores inside n is
  name_stores inside (Some (means.Variable (variable_type.Array low high t))) n within value l b is own h = never h
  name_stores inside (Some (means.Reference t)) n within value l b is own h = scalar_stores inside n is
  name_stores inside (Some (means.Procedure ps)) n within value l b is own h = never h
  name_stores inside (Some (means.Function ps t)) n true value l b is own h = own refl refl
  name_stores inside (Some (means.Function ps t)) n false value l b is own h = never h
  name_stores inside (Some (means.TypeName t)) n within value l b is own h = never h

  name_sets : (m : Option Means) (n : Sense) (may : Bool) (value i : Option Scalar) (l b : ℕ) → IsNamed rs m n
      → first_broken (breaks 2 (not (is_some m)) l ∷ breaks 3 (is_some m && not may) l
      ∷ breaks 10 (is_array m && not (agree (element_type m) value)) b ∷ breaks 11 (not (is_array m) || not (is_scalar i scalar.Integer)) l ∷ []) ≡ None
      → CanIndex n
  name_sets None n may value i l b is h = never h
  name_sets (Some (means.Variable (variable_type.Array low high t))) n may value i l b is h = is.0
  name_sets (Some (means.Constant t v)) n may value i l b is h = never (tested 3 l (not may) _ h).1
  name_sets (Some (means.Variable (variable_type.Plain t))) n may value i l b is h = never (tested 3 l (not may) _ h).1
  name_sets (Some (means.Reference t)) n may value i l b is h = never (tested 3 l (not may) _ h).1
  name_sets (Some (means.Procedure ps)) n may value i l b is h = never (tested 3 l (not may) _ h).1
  name_sets (Some (means.Function ps t)) n may value i l b is h = never (tested 3 l (not may) _ h).1
  name_sets (Some (means.TypeName t)) n may value i l b is h = never (tested 3 l (not may) _ h).1

  name_controls : (m : Option Means) (n : Sense) (bounds : Bool) (l k : ℕ) → IsNamed rs m n
      → first_broken (breaks 2 (not (is_some m)) l ∷ breaks 14 ((is_some m && not (may_control m)) || not bounds) k ∷ []) ≡ None
      → IsScalar n
  name_controls None n bounds l k is h = never h
  name_controls (Some (means.Constant t v)) n bounds l k is h = never h
  name_controls (Some (means.Variable (variable_type.Plain t))) n bounds l k is h = is
  name_controls (Some (means.Variable (variable_type.Array low high t))) n bounds l k is h = never h
  name_controls (Some (means.Reference t)) n bounds l k is h = is
  name_controls (Some (means.Procedure ps)) n bounds l k is h = never h
  name_controls (Some (means.Function ps t)) n bounds l k is h = never h
  name_controls (Some (means.TypeName t)) n bounds l k is h = never h

  name_runs : (m : Option Means) (n : Sense) (count : ℕ) → IsNamed rs m n → IsRoutine m count
      → CanCall rs false n × (AreWanted n (parameters_of m) (passing_of n) × (count ≡ length (parameters_of m)))
  name_runs None n count is h = absurd h
  name_runs (Some (means.Constant t v)) n count is h = absurd h
  name_runs (Some (means.Variable t)) n count is h = absurd h
  name_runs (Some (means.Reference t)) n count is h = absurd h
  name_runs (Some (means.Procedure ps)) n count is h = (is.0, (is.1, h))
  name_runs (Some (means.Function ps t)) n count is h = absurd h
  name_runs (Some (means.TypeName t)) n count is h = absurd h

  alone_passed : (n : Sense) (ps : List Parameter) → AreWanted n ps (passing_of n) → 0 ≡ length ps → passing_of n ≡ []
  alone_passed n [] wanted count = none_passed n (passing_of n) wanted
  alone_passed n (p ∷ ps) wanted count = absurd (omega (arith, count))

  -- ---- Nodes
  module _ (s : rules.Scope) (names : List ℕ → Sense) (are : (x : List ℕ) → IsNamed rs (means_of s x) (names x)) (inside : Bool)
      (own : (x : List ℕ) → is_function (means_of s x) ≡ true → is_within s.within x ≡ true → CanStore inside (names x)) where
    label_held : (t : Option Scalar) (earlier : List ℤ) (c : Constant) → AreWords (spelled_constant c) → first_broken (judged_label s t earlier c) ≡ None
        → IsHeld (constant_value names c)
    label_held t earlier c words none =
        let rest : Judged = breaks 15 (not (is_valued_as (value_of s c) t) || is_among (value_of s c) earlier) (first_line_of_constant c) ∷ [] in
        held_number (value_of s c) (constant_value names c) (constant_is rs s names are c words (before (judged_constant s c) rest none))

    more_held : (t : Option Scalar) (earlier : List ℤ) (more : List (ℕ × Constant)) → AreWords (spelled_more_labels more)
        → first_broken (judged_more_labels s t earlier more) ≡ None → AreHeld rs names more
    more_held t earlier [] words none = tt
    more_held t earlier (l ∷ more) words none =
        let next = with_value (value_of s l.1) earlier in (
          label_held t earlier l.1 (words_before (spelled_constant l.1) (spelled_more_labels more) words.1)
              (before (judged_label s t earlier l.1) (judged_more_labels s t next more) none),
          more_held t next more (words_behind (spelled_constant l.1) (spelled_more_labels more) words.1)
              (behind (judged_label s t earlier l.1) (judged_more_labels s t next more) none),
        )

    labels_suit : (t : Option Scalar) (earlier : List ℤ) (l : Labels) → AreWords (spelled_labels l) → first_broken (judged_labels s t earlier l) ≡ None
        → SuitsLabels rs names l
    labels_suit t earlier l words none =
        let next = with_value (value_of s l.first) earlier in (
          label_held t earlier l.first (words_before (spelled_constant l.first) (spelled_more_labels l.rest) words)
              (before (judged_label s t earlier l.first) (judged_more_labels s t next l.rest) none),
          more_held t next l.rest (words_behind (spelled_constant l.first) (spelled_more_labels l.rest) words)
              (behind (judged_label s t earlier l.first) (judged_more_labels s t next l.rest) none),
        )

    call_suits : (x : NameAt) (a : Option Arguments) → AreWords (spelled_statement (call x a)) → first_broken (judged_statement s (call x a)) ≡ None
        → SuitsCall rs names x a
    call_suits x None words none =
        let m = means_of s x.letters in
        let c = name_runs m (names x.letters) 0 (are x.letters) (procedure_called m x.line 0 true none).1 in
        (c.0, alone_passed (names x.letters) (parameters_of m) c.1.0 c.1.1)
    call_suits x (Some a) words none =
        let m = means_of s x.letters in
        let ps = parameters_of m in
        let suit = arguments_suit s a ps in
        let node = judged_call s x (count_arguments a) suit in
        let h = procedure_called m x.line (count_arguments a) suit (behind (judged_arguments s a ps) node none) in
        let c = name_runs m (names x.letters) (count_arguments a) (are x.letters) h.1 in (
          c.0,
          arguments_suits rs s names are (names x.letters) a ps (passing_of (names x.letters)) c.1.0 words.1
              (before (judged_arguments s a ps) node none) h.0 c.1.1,
        )

    mutual
      statement_suits : (t : Statement) → AreWords (spelled_statement t) → first_broken (judged_statement s t) ≡ None → SuitsStatement rs names inside t
      statement_suits empty words none = tt
      statement_suits (assign x None b e) words none =
          let node = judged_target s x (expr_type s e) b in (
            name_stores inside (means_of s x.letters) (names x.letters) (is_within s.within x.letters) (expr_type s e) x.line b (are x.letters)
                (own x.letters) (behind (judged_expr s e) node none),
            expr_suits rs s names are e words.1.1 (before (judged_expr s e) node none),
          )
      statement_suits (assign x (Some i) b e) words none =
          let node = judged_element s x i (expr_type s e) b in
          let later = behind (judged_index s i) (judged_expr s e ++ node) none in (
            name_sets (means_of s x.letters) (names x.letters) (may_be_set s x) (expr_type s e) (index_type s i) x.line b (are x.letters)
                (behind (judged_expr s e) node later),
            index_suits rs s names are i (words_before (spelled_index i) _ words.1) (before (judged_index s i) (judged_expr s e ++ node) none),
            expr_suits rs s names are e (words_behind (spelled_index i) _ words.1).1 (before (judged_expr s e) node later),
          )
      statement_suits (call x a) words none = call_suits x a words none
      statement_suits (compound b) words none = body_suits b words none
      statement_suits (if_then l e k t) words none =
          let node : Judged = breaks 9 (not (is_scalar (expr_type s e) scalar.Boolean)) l ∷ [] in (
            expr_suits rs s names are e (words_before (spelled_expr e) _ words.1) (before (judged_expr s e) (judged_statement s t ++ node) none),
            statement_suits t (words_behind (spelled_expr e) _ words.1).1
                (before (judged_statement s t) node (behind (judged_expr s e) (judged_statement s t ++ node) none)),
          )
      statement_suits (if_else l e k t o u) words none =
          let node : Judged = breaks 9 (not (is_scalar (expr_type s e) scalar.Boolean)) l ∷ [] in
          let first = behind (judged_expr s e) (judged_statement s t ++ (judged_statement s u ++ node)) none in
          let inner = (words_behind (spelled_expr e) _ words.1).1 in (
            expr_suits rs s names are e (words_before (spelled_expr e) _ words.1)
                (before (judged_expr s e) (judged_statement s t ++ (judged_statement s u ++ node)) none),
            statement_suits t (words_before (spelled_statement t) _ inner) (before (judged_statement s t) (judged_statement s u ++ node) first),
            statement_suits u (words_behind (spelled_statement t) _ inner).1
                (before (judged_statement s u) node (behind (judged_statement s t) (judged_statement s u ++ node) first)),
          )
      statement_suits (while_do l e k t) words none =
          let node : Judged = breaks 9 (not (is_scalar (expr_type s e) scalar.Boolean)) l ∷ [] in (
            expr_suits rs s names are e (words_before (spelled_expr e) _ words.1) (before (judged_expr s e) (judged_statement s t ++ node) none),
            statement_suits t (words_behind (spelled_expr e) _ words.1).1
                (before (judged_statement s t) node (behind (judged_expr s e) (judged_statement s t ++ node) none)),
          )
      statement_suits (repeat_until l q k e) words none =
          let node : Judged = breaks 9 (not (is_scalar (expr_type s e) scalar.Boolean)) k ∷ [] in (
            expr_suits rs s names are e (words_behind (spelled_sequence q) _ words.1).1
                (before (judged_expr s e) node (behind (judged_sequence s q) (judged_expr s e ++ node) none)),
            sequence_suits q (words_before (spelled_sequence q) _ words.1) (before (judged_sequence s q) (judged_expr s e ++ node) none),
          )
      statement_suits (for_do l x b e w k f d t) words none =
          let bounds = is_scalar (expr_type s e) scalar.Integer && is_scalar (expr_type s f) scalar.Integer in
          let node = judged_control s x bounds l in
          let first = behind (judged_expr s e) (judged_expr s f ++ (judged_statement s t ++ node)) none in
          let second = behind (judged_expr s f) (judged_statement s t ++ node) first in
          let inner = words.1.1.1 in
          let rest = (words_behind (spelled_expr e) _ inner).1 in (
            name_controls (means_of s x.letters) (names x.letters) bounds x.line l (are x.letters) (behind (judged_statement s t) node second),
            expr_suits rs s names are e (words_before (spelled_expr e) _ inner)
                (before (judged_expr s e) (judged_expr s f ++ (judged_statement s t ++ node)) none),
            expr_suits rs s names are f (words_before (spelled_expr f) _ rest) (before (judged_expr s f) (judged_statement s t ++ node) first),
            statement_suits t (words_behind (spelled_expr f) _ rest).1 (before (judged_statement s t) node second),
          )
      statement_suits (case_of l e o b more c) words none =
          let u = expr_type s e in
          let later = judged_branches s u (values_of_branch s [] b) more in
          let rest = behind (judged_expr s e) (judged_branch s u [] b ++ later) none in
          let inner = (words_behind (spelled_expr e) _ words.1).1 in (
            expr_suits rs s names are e (words_before (spelled_expr e) _ words.1) (before (judged_expr s e) (judged_branch s u [] b ++ later) none),
            branch_suits u [] b (words_before (spelled_branch b) _ inner) (before (judged_branch s u [] b) later rest),
            branches_suit u (values_of_branch s [] b) more (words_before (spelled_branches more) _ (words_behind (spelled_branch b) _ inner))
                (behind (judged_branch s u [] b) later rest),
          )

      pub body_suits : (b : Body) → AreWords (spelled_body b) → first_broken (judged_body s b) ≡ None → SuitsBody rs names inside b
      body_suits (body l q e) words none = sequence_suits q (words_before (spelled_sequence q) _ words.1) none

      sequence_suits : (q : Sequence) → AreWords (spelled_sequence q) → first_broken (judged_sequence s q) ≡ None → SuitsSequence rs names inside q
      sequence_suits (sequence t more) words none = (
        statement_suits t (words_before (spelled_statement t) (spelled_statements more) words) (before (judged_statement s t) (judged_statements s more) none),
        statements_suit more (words_behind (spelled_statement t) (spelled_statements more) words)
            (behind (judged_statement s t) (judged_statements s more) none),
      )

      statements_suit : (more : Statements) → AreWords (spelled_statements more) → first_broken (judged_statements s more) ≡ None
          → SuitsStatements rs names inside more
      statements_suit no_statement words none = tt
      statements_suit (next_statement l t more) words none = (
        statement_suits t (words_before (spelled_statement t) (spelled_statements more) words.1)
            (before (judged_statement s t) (judged_statements s more) none),
        statements_suit more (words_behind (spelled_statement t) (spelled_statements more) words.1)
            (behind (judged_statement s t) (judged_statements s more) none),
      )

      branch_suits : (u : Option Scalar) (earlier : List ℤ) (b : Branch) → AreWords (spelled_branch b) → first_broken (judged_branch s u earlier b) ≡ None
          → SuitsBranch rs names inside b
      branch_suits u earlier (branch labels c t) words none = (
        labels_suit u earlier labels (words_before (spelled_labels labels) _ words) (before (judged_labels s u earlier labels) (judged_statement s t) none),
        statement_suits t (words_behind (spelled_labels labels) _ words).1 (behind (judged_labels s u earlier labels) (judged_statement s t) none),
      )

      branches_suit : (u : Option Scalar) (earlier : List ℤ) (more : Branches) → AreWords (spelled_branches more)
          → first_broken (judged_branches s u earlier more) ≡ None → SuitsBranches rs names inside more
      branches_suit u earlier no_branch words none = tt
      branches_suit u earlier (next_branch l b more) words none =
          let next = values_of_branch s earlier b in (
            branch_suits u earlier b (words_before (spelled_branch b) (spelled_branches more) words.1)
                (before (judged_branch s u earlier b) (judged_branches s u next more) none),
            branches_suit u next more (words_behind (spelled_branch b) (spelled_branches more) words.1)
                (behind (judged_branch s u earlier b) (judged_branches s u next more) none),
          )
