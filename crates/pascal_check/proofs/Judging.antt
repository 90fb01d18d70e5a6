-- What is said of a statement, from what is said of its parts.
use Rattle.std.proofs.Common.{◌≡◌, ℕ, Bool, true, false, not, ◌&&◌, [], ◌∷◌, ◌++◌, List, Option, Some, None, refl, ap, sym, subst, ◌∙◌}
use Rattle.pascal_tree.specs.Word.{NameAt}
use Rattle.pascal_tree.specs.declared.broken.Broken.{Broken}
use Rattle.pascal_tree.specs.declared.scalar.Scalar.{Scalar}
use Rattle.pascal_tree.specs.declared.scalar.Scalar.TheVariants as scalar
use Rattle.pascal_tree.specs.declared.parameter.Parameter.{Parameter}
use Rattle.pascal_tree.specs.declared.statement.Direction.{Direction}
use Rattle.pascal_tree.specs.Expression.{Expr, index, Arguments}
use Rattle.pascal_tree.specs.Statement.{Statement, assign, call, for_do, case_of, Branch, Branches}
use Rattle.pascal_tree.specs.SeenStatement.{if_of}
use Rattle.pascal_tree.specs.Scopes.{Scope, means_of, same_scalar, is_scalar}
use Rattle.pascal_tree.specs.ExpressionRules.{Judged, breaks, expr_type, judged_expr, judged_arguments, arguments_suit, count_arguments, parameters_of}
use Rattle.pascal_tree.specs.StatementRules.{judged_statement, judged_target, judged_element, judged_call, judged_control, judged_branch, judged_branches, values_of_branch}
use Rattle.pascal_tree.specs.DeclarationRules.{first_broken}
use Rattle.pascal_check.specs.Parts.{judged_element_set}
use Rattle.pascal_check.specs.Faults.{IsFault}
use Rattle.pascal_check.specs.declared.fault.CheckFault.{CheckFault}
use Rattle.pascal_check.proofs.Firsts.{first_behind, first_here}
use Rattle.pascal_check.proofs.Faulty.{fault_behind, fault_here}

-- ---- Assignments

pub assign_here : (s : Scope) (x : NameAt) (l : ℕ) (e : Expr) (b : Broken) → first_broken (judged_expr s e) ≡ Some b
    → first_broken (judged_statement s (assign x None l e)) ≡ Some b
assign_here s x l e b h = first_here (judged_expr s e) (judged_target s x (expr_type s e) l) b h

pub assign_behind : (s : Scope) (x : NameAt) (l : ℕ) (e : Expr) (t : Scalar) → first_broken (judged_expr s e) ≡ None → expr_type s e ≡ Some t
    → first_broken (judged_statement s (assign x None l e)) ≡ first_broken (judged_target s x (Some t) l)
assign_behind s x l e t none typed =
    first_behind (judged_expr s e) (judged_target s x (expr_type s e) l) none ∙ ap (λ o. first_broken (judged_target s x o l)) typed

pub index_here : (s : Scope) (x : NameAt) (o c l : ℕ) (i e : Expr) (b : Broken) → first_broken (judged_expr s i) ≡ Some b
    → first_broken (judged_statement s (assign x (Some (index o i c)) l e)) ≡ Some b
index_here s x o c l i e b h = first_here (judged_expr s i) (judged_expr s e ++ judged_element s x (index o i c) (expr_type s e) l) b h

pub value_here : (s : Scope) (x : NameAt) (o c l : ℕ) (i e : Expr) (b : Broken) → first_broken (judged_expr s i) ≡ None
    → first_broken (judged_expr s e) ≡ Some b
    → first_broken (judged_statement s (assign x (Some (index o i c)) l e)) ≡ Some b
value_here s x o c l i e b none h =
    first_behind (judged_expr s i) (judged_expr s e ++ judged_element s x (index o i c) (expr_type s e) l) none
    ∙ first_here (judged_expr s e) (judged_element s x (index o i c) (expr_type s e) l) b h

pub element_set_behind : (s : Scope) (x : NameAt) (o c l : ℕ) (i e : Expr) (t u : Scalar)
    → first_broken (judged_expr s i) ≡ None → expr_type s i ≡ Some t → first_broken (judged_expr s e) ≡ None → expr_type s e ≡ Some u
    → first_broken (judged_statement s (assign x (Some (index o i c)) l e)) ≡ first_broken (judged_element_set s x (Some t) (Some u) l)
element_set_behind s x o c l i e t u none typed none_too typed_too =
    first_behind (judged_expr s i) (judged_expr s e ++ judged_element s x (index o i c) (expr_type s e) l) none
    ∙ first_behind (judged_expr s e) (judged_element s x (index o i c) (expr_type s e) l) none_too
    ∙ ap (λ v. first_broken (judged_element_set s x v (expr_type s e) l)) typed
    ∙ ap (λ v. first_broken (judged_element_set s x (Some t) v l)) typed_too

-- ---- Calls

pub passing_here : (s : Scope) (x : NameAt) (a : Arguments) (ps : List Parameter) (b : Broken) → ps ≡ parameters_of (means_of s x.letters)
    → first_broken (judged_arguments s a ps) ≡ Some b → first_broken (judged_statement s (call x (Some a))) ≡ Some b
passing_here s x a ps b are h =
    let qs = parameters_of (means_of s x.letters) in
    first_here (judged_arguments s a qs) (judged_call s x (count_arguments a) (arguments_suit s a qs)) b
    (ap (λ q. first_broken (judged_arguments s a q)) (sym are) ∙ h)

pub passing_behind : (s : Scope) (x : NameAt) (a : Arguments) (ps : List Parameter) (n : ℕ) (suit : Bool) → ps ≡ parameters_of (means_of s x.letters)
    → first_broken (judged_arguments s a ps) ≡ None → n ≡ count_arguments a → suit ≡ arguments_suit s a ps
    → first_broken (judged_statement s (call x (Some a))) ≡ first_broken (judged_call s x n suit)
passing_behind s x a ps n suit are none counts suits =
    let qs = parameters_of (means_of s x.letters) in
    first_behind (judged_arguments s a qs) (judged_call s x (count_arguments a) (arguments_suit s a qs))
    (ap (λ q. first_broken (judged_arguments s a q)) (sym are) ∙ none)
    ∙ ap (λ q. first_broken (judged_call s x (count_arguments a) (arguments_suit s a q))) (sym are)
    ∙ ap (λ k. first_broken (judged_call s x k (arguments_suit s a ps))) (sym counts)
    ∙ ap (λ b. first_broken (judged_call s x n b)) (sym suits)

-- ---- Tests

-- the rule on a test
abbrev pub test_of : Scope → Expr → ℕ → Judged
test_of s e l = breaks 9 (not (is_scalar (expr_type s e) scalar.Boolean)) l ∷ []

pub test_kept : (s : Scope) (e : Expr) (l : ℕ) (t : Scalar) → expr_type s e ≡ Some t → same_scalar t scalar.Boolean ≡ true → first_broken (test_of s e l) ≡ None
test_kept s e l t typed same =
    ap (λ o. first_broken (breaks 9 (not (is_scalar o scalar.Boolean)) l ∷ [])) typed
    ∙ ap (λ b. first_broken (breaks 9 (not b) l ∷ [])) same

pub test_broken : (s : Scope) (e : Expr) (l : ℕ) (t : Scalar) (b : Broken) → expr_type s e ≡ Some t
    → (same_scalar t scalar.Boolean ≡ false) × (b ≡ record { rule = 9; line = l }) → first_broken (test_of s e l) ≡ Some b
test_broken s e l t b typed h =
    ap (λ o. first_broken (breaks 9 (not (is_scalar o scalar.Boolean)) l ∷ [])) typed
    ∙ ap (λ b. first_broken (breaks 9 (not b) l ∷ [])) h.0
    ∙ ap Some (sym h.1)

-- what stands behind ELSE
abbrev pub otherwise_of : Scope → Option (ℕ × Statement) → Judged
otherwise_of s None = []
otherwise_of s (Some o) = judged_statement s o.1

pub if_is : (s : Scope) (l : ℕ) (e : Expr) (t : ℕ) (x : Statement) (o : Option (ℕ × Statement))
    → judged_statement s (if_of l e t x o) ≡ judged_expr s e ++ (judged_statement s x ++ (otherwise_of s o ++ test_of s e l))
if_is s l e t x None = refl
if_is s l e t x (Some o) = refl

-- ---- Statements over types

pub for_is : (s : Scope) (l : ℕ) (x : NameAt) (b : ℕ) (e : Expr) (w : Direction) (t : ℕ) (f : Expr) (d : ℕ) (y : Statement) (u v : Scalar)
    → expr_type s e ≡ Some u → expr_type s f ≡ Some v
    → judged_statement s (for_do l x b e w t f d y) ≡ judged_expr s e ++ (judged_expr s f ++ (judged_statement s y
    ++ judged_control s x (same_scalar u scalar.Integer && same_scalar v scalar.Integer) l))
for_is s l x b e w t f d y u v typed typed_too =
    ap (λ o. judged_expr s e ++ (judged_expr s f ++ (judged_statement s y
    ++ judged_control s x (is_scalar o scalar.Integer && is_scalar (expr_type s f) scalar.Integer) l))) typed
    ∙ ap (λ o. judged_expr s e ++ (judged_expr s f ++ (judged_statement s y
    ++ judged_control s x (same_scalar u scalar.Integer && is_scalar o scalar.Integer) l))) typed_too

pub case_is : (s : Scope) (l : ℕ) (e : Expr) (o : ℕ) (b : Branch) (more : Branches) (c : ℕ) (t : Scalar) → expr_type s e ≡ Some t
    → judged_statement s (case_of l e o b more c)
    ≡ judged_expr s e ++ (judged_branch s (Some t) [] b ++ judged_branches s (Some t) (values_of_branch s [] b) more)
case_is s l e o b more c t typed =
    ap (λ v. judged_expr s e ++ (judged_branch s v [] b ++ judged_branches s v (values_of_branch s [] b) more)) typed

-- ---- Faults

-- a fault of a statement, from one of the statement that it is
pub fault_in : (s : Scope) {x y : Statement} (f : CheckFault) → x ≡ y → IsFault (judged_statement s y) f → IsFault (judged_statement s x) f
fault_in s f is h = subst (λ z. IsFault (judged_statement s z) f) (sym is) h

-- a fault of the second and of the third of several parts
pub fault_second : (a b c : Judged) (f : CheckFault) → first_broken a ≡ None → IsFault b f → IsFault (a ++ (b ++ c)) f
fault_second a b c f none h = fault_behind a (b ++ c) f none (fault_here b c f h)

pub fault_third : (a b c d : Judged) (f : CheckFault) → first_broken a ≡ None → first_broken b ≡ None → IsFault c f → IsFault (a ++ (b ++ (c ++ d))) f
fault_third a b c d f none none_too h = fault_behind a (b ++ (c ++ d)) f none (fault_second b c d f none_too h)

-- what is said of the last of three parts, where the first two break no rule
pub behind_two : (a b c : Judged) → first_broken a ≡ None → first_broken b ≡ None → first_broken (a ++ (b ++ c)) ≡ first_broken c
behind_two a b c none none_too = first_behind a (b ++ c) none ∙ first_behind b c none_too
