-- What is said of an expression, from what is said of its parts.
use Rattle.std.proofs.Common.{◌≡◌, ℕ, ◌≤◌, Bool, true, false, not, ◌&&◌, List, [], ◌∷◌, ◌++◌, length, Option, Some, None, refl, ap, sym, ◌∙◌, arith}
use Rattle.pascal_tree.specs.Word.{NameAt}
use Rattle.pascal_tree.specs.Expression.{Expr, Right, Simple, Addends, addend, Term, Multipliers, multiplier, Factor, element, called, negated, index, Arguments, arguments, Exprs, next_expr, alone, simple, term, no_addend}
use Rattle.pascal_tree.specs.SeenExpression.{expr_of, seen_exprs, seen_addends, seen_multipliers, seen_term, seen_factor}
use Rattle.pascal_tree.specs.Scopes.{Scope, or_else, means_of, same_scalar, is_scalar}
use Rattle.pascal_tree.specs.ExpressionRules.{Judged, breaks, agree, judged_expr, judged_simple, judged_factor, judged_adding, judged_multiplying, judged_arguments, judged_exprs, judged_element_of, judged_called, simple_type, term_type, factor_type, expr_type, adding_type, multiplying_type, parameters_of, count_exprs, count_arguments, arguments_suit, all_suit, suits_first, first_parameter, later_parameters, plain_name}
use Rattle.pascal_tree.specs.DeclarationRules.{first_broken}
use Rattle.pascal_tree.specs.declared.broken.Broken.{Broken}
use Rattle.pascal_tree.specs.declared.scalar.Scalar.{Scalar}
use Rattle.pascal_tree.specs.declared.scalar.Scalar.TheVariants as scalar
use Rattle.pascal_tree.specs.declared.parameter.Parameter.{Parameter}
use Rattle.pascal_tree.specs.declared.expression.Adding.{Adding}
use Rattle.pascal_tree.specs.declared.expression.Multiplying.{Multiplying}
use Rattle.pascal_tree.specs.declared.expression.Expr as expr
use Rattle.pascal_tree.specs.declared.expression.Term as terms
use Rattle.pascal_tree.specs.declared.expression.Factor as factors
use Rattle.pascal_check.specs.Parts.{judged_right, judged_argument}
use Rattle.pascal_check.proofs.Firsts.{first_behind, first_here}
use Rattle.pascal_check.proofs.Plain.{more_terms, more_factors}

-- ---- Relations

pub expr_here : (s : Scope) (x : Simple) (r : Option Right) (b : Broken) → first_broken (judged_simple s x) ≡ Some b
    → first_broken (judged_expr s (expr_of x r)) ≡ Some b
expr_here s x None b h = h
expr_here s x (Some r) b h =
    first_here (judged_simple s x) (judged_simple s r.simple ++ breaks 8 (not (agree (simple_type s x) (simple_type s r.simple))) r.line ∷ []) b h

pub expr_behind : (s : Scope) (x : Simple) (r : Right) (t : Scalar) → first_broken (judged_simple s x) ≡ None → simple_type s x ≡ Some t
    → first_broken (judged_expr s (expr_of x (Some r))) ≡ first_broken (judged_right s (Some t) r)
expr_behind s x r t none typed =
    first_behind (judged_simple s x) (judged_simple s r.simple ++ breaks 8 (not (agree (simple_type s x) (simple_type s r.simple))) r.line ∷ []) none
    ∙ ap (λ o. first_broken (judged_simple s r.simple ++ breaks 8 (not (agree o (simple_type s r.simple))) r.line ∷ [])) typed

pub right_here : (s : Scope) (t : Option Scalar) (r : Right) (b : Broken) → first_broken (judged_simple s r.simple) ≡ Some b
    → first_broken (judged_right s t r) ≡ Some b
right_here s t r b h = first_here (judged_simple s r.simple) (breaks 8 (not (agree t (simple_type s r.simple))) r.line ∷ []) b h

pub right_behind : (s : Scope) (t u : Scalar) (r : Right) (same : Bool) → first_broken (judged_simple s r.simple) ≡ None → simple_type s r.simple ≡ Some u
    → same ≡ same_scalar u t → first_broken (judged_right s (Some t) r) ≡ first_broken (breaks 8 (not same) r.line ∷ [])
right_behind s t u r same none typed is =
    first_behind (judged_simple s r.simple) (breaks 8 (not (agree (Some t) (simple_type s r.simple))) r.line ∷ []) none
    ∙ ap (λ o. first_broken (breaks 8 (not (agree (Some t) o)) r.line ∷ [])) typed
    ∙ ap (λ b. first_broken (breaks 8 (not b) r.line ∷ [])) (sym is)

-- ---- Operators

first_of_more : (o : Option Broken) (more : Judged) → first_broken (o ∷ more) ≡ or_else o (first_broken more)
first_of_more None more = refl
first_of_more (Some b) more = refl

or_else_regroup : (a b c : Option Broken) → or_else (or_else a b) c ≡ or_else a (or_else b c)
or_else_regroup None b c = refl
or_else_regroup (Some x) b c = refl

-- an operator more, whose right side has this type
pub adding_step : (s : Scope) (old w right : Scalar) (a : Adding) (l : ℕ) (t : Term) (more : Addends) (clash new : Option Broken)
    → term_type s t ≡ Some right → w ≡ adding_type a → new ≡ or_else clash (breaks 8 (not (same_scalar old w && same_scalar right w)) l)
    → or_else new (first_broken (judged_adding s (Some w) more)) ≡ or_else clash (first_broken (judged_adding s (Some old) (addend a l t more)))
adding_step s old w right a l t more clash new typed is made =
    let later = λ (v : Scalar). first_broken (judged_adding s (Some v) more) in
    ap (λ o. or_else o (later w)) made
    ∙ ap (λ v. or_else (or_else clash (breaks 8 (not (same_scalar old v && same_scalar right v)) l)) (later v)) is
    ∙ ap (λ o. or_else (or_else clash (breaks 8 (not (same_scalar old (adding_type a) && is_scalar o (adding_type a))) l)) (later (adding_type a))) (sym typed)
    ∙ or_else_regroup clash (breaks 8 (not (same_scalar old (adding_type a) && is_scalar (term_type s t) (adding_type a))) l) (later (adding_type a))
    ∙ ap (or_else clash)
    (sym (first_of_more (breaks 8 (not (same_scalar old (adding_type a) && is_scalar (term_type s t) (adding_type a))) l)
    (judged_adding s (Some (adding_type a)) more)))

pub multiplying_step : (s : Scope) (old w right : Scalar) (m : Multiplying) (l : ℕ) (f : Factor) (more : Multipliers) (clash new : Option Broken)
    → factor_type s f ≡ Some right → w ≡ multiplying_type m → new ≡ or_else clash (breaks 8 (not (same_scalar old w && same_scalar right w)) l)
    → or_else new (first_broken (judged_multiplying s (Some w) more)) ≡ or_else clash (first_broken (judged_multiplying s (Some old) (multiplier m l f more)))
multiplying_step s old w right m l f more clash new typed is made =
    let later = λ (v : Scalar). first_broken (judged_multiplying s (Some v) more) in
    ap (λ o. or_else o (later w)) made
    ∙ ap (λ v. or_else (or_else clash (breaks 8 (not (same_scalar old v && same_scalar right v)) l)) (later v)) is
    ∙ ap (λ o. or_else (or_else clash (breaks 8 (not (same_scalar old (multiplying_type m) && is_scalar o (multiplying_type m))) l))
    (later (multiplying_type m))) (sym typed)
    ∙ or_else_regroup clash (breaks 8 (not (same_scalar old (multiplying_type m) && is_scalar (factor_type s f) (multiplying_type m))) l)
    (later (multiplying_type m))
    ∙ ap (or_else clash)
    (sym (first_of_more (breaks 8 (not (same_scalar old (multiplying_type m) && is_scalar (factor_type s f) (multiplying_type m))) l)
    (judged_multiplying s (Some (multiplying_type m)) more)))

-- ---- Factors

pub element_behind : (s : Scope) (x : NameAt) (o c : ℕ) (e : Expr) (t : Scalar) → first_broken (judged_expr s e) ≡ None → expr_type s e ≡ Some t
    → first_broken (judged_factor s (element x (index o e c))) ≡ first_broken (judged_element_of s x (Some t))
element_behind s x o c e t none typed =
    first_behind (judged_expr s e) (judged_element_of s x (expr_type s e)) none ∙ ap (λ t. first_broken (judged_element_of s x t)) typed

pub element_here : (s : Scope) (x : NameAt) (o c : ℕ) (e : Expr) (b : Broken) → first_broken (judged_expr s e) ≡ Some b
    → first_broken (judged_factor s (element x (index o e c))) ≡ Some b
element_here s x o c e b h = first_here (judged_expr s e) (judged_element_of s x (expr_type s e)) b h

pub call_behind : (s : Scope) (x : NameAt) (a : Arguments) (ps : List Parameter) (n : ℕ) (suit : Bool) → ps ≡ parameters_of (means_of s x.letters)
    → first_broken (judged_arguments s a ps) ≡ None → n ≡ count_arguments a → suit ≡ arguments_suit s a ps
    → first_broken (judged_factor s (called x a)) ≡ first_broken (judged_called s x n suit)
call_behind s x a ps n suit are none counts suits =
    let qs = parameters_of (means_of s x.letters) in
    first_behind (judged_arguments s a qs) (judged_called s x (count_arguments a) (arguments_suit s a qs))
    (ap (λ q. first_broken (judged_arguments s a q)) (sym are) ∙ none)
    ∙ ap (λ q. first_broken (judged_called s x (count_arguments a) (arguments_suit s a q))) (sym are)
    ∙ ap (λ k. first_broken (judged_called s x k (arguments_suit s a ps))) (sym counts)
    ∙ ap (λ b. first_broken (judged_called s x n b)) (sym suits)

pub call_here : (s : Scope) (x : NameAt) (a : Arguments) (ps : List Parameter) (b : Broken) → ps ≡ parameters_of (means_of s x.letters)
    → first_broken (judged_arguments s a ps) ≡ Some b → first_broken (judged_factor s (called x a)) ≡ Some b
call_here s x a ps b are h =
    let qs = parameters_of (means_of s x.letters) in
    first_here (judged_arguments s a qs) (judged_called s x (count_arguments a) (arguments_suit s a qs)) b
    (ap (λ q. first_broken (judged_arguments s a q)) (sym are) ∙ h)

pub not_behind : (s : Scope) (l : ℕ) (f : Factor) (t : Scalar) (same : Bool) → first_broken (judged_factor s f) ≡ None → factor_type s f ≡ Some t
    → same ≡ same_scalar t scalar.Boolean → first_broken (judged_factor s (negated l f)) ≡ first_broken (breaks 8 (not same) l ∷ [])
not_behind s l f t same none typed is =
    first_behind (judged_factor s f) (breaks 8 (not (is_scalar (factor_type s f) scalar.Boolean)) l ∷ []) none
    ∙ ap (λ o. first_broken (breaks 8 (not (is_scalar o scalar.Boolean)) l ∷ [])) typed
    ∙ ap (λ b. first_broken (breaks 8 (not b) l ∷ [])) (sym is)

pub not_here : (s : Scope) (l : ℕ) (f : Factor) (b : Broken) → first_broken (judged_factor s f) ≡ Some b → first_broken (judged_factor s (negated l f)) ≡ Some b
not_here s l f b h = first_here (judged_factor s f) (breaks 8 (not (is_scalar (factor_type s f) scalar.Boolean)) l ∷ []) b h

-- ---- Arguments

pub counted : (es : List (ℕ × expr.Expr)) → count_exprs (seen_exprs es) ≡ length es
counted [] = refl
counted (e ∷ more) = let rest = counted more in omega arith

pub arguments_here : (s : Scope) (o c : ℕ) (e : Expr) (more : Exprs) (ps : List Parameter) (p : Option Parameter) (b : Broken) → p ≡ first_parameter ps
    → first_broken (judged_argument s e p) ≡ Some b → first_broken (judged_arguments s (arguments o e more c) ps) ≡ Some b
arguments_here s o c e more ps p b is h =
    first_here (judged_argument s e (first_parameter ps)) (judged_exprs s more (later_parameters ps)) b
    (ap (λ q. first_broken (judged_argument s e q)) (sym is) ∙ h)

pub arguments_behind : (s : Scope) (o c : ℕ) (e : Expr) (more : Exprs) (ps qs : List Parameter) (p : Option Parameter) → p ≡ first_parameter ps
    → qs ≡ later_parameters ps
    → first_broken (judged_argument s e p) ≡ None → first_broken (judged_arguments s (arguments o e more c) ps) ≡ first_broken (judged_exprs s more qs)
arguments_behind s o c e more ps qs p is are none =
    first_behind (judged_argument s e (first_parameter ps)) (judged_exprs s more (later_parameters ps))
    (ap (λ q. first_broken (judged_argument s e q)) (sym is) ∙ none)
    ∙ ap (λ q. first_broken (judged_exprs s more q)) (sym are)

pub exprs_here : (s : Scope) (l : ℕ) (e : Expr) (more : Exprs) (ps : List Parameter) (p : Option Parameter) (b : Broken) → p ≡ first_parameter ps
    → first_broken (judged_argument s e p) ≡ Some b → first_broken (judged_exprs s (next_expr l e more) ps) ≡ Some b
exprs_here s l e more ps p b is h =
    first_here (judged_argument s e (first_parameter ps)) (judged_exprs s more (later_parameters ps)) b
    (ap (λ q. first_broken (judged_argument s e q)) (sym is) ∙ h)

pub exprs_behind : (s : Scope) (l : ℕ) (e : Expr) (more : Exprs) (ps qs : List Parameter) (p : Option Parameter) → p ≡ first_parameter ps
    → qs ≡ later_parameters ps
    → first_broken (judged_argument s e p) ≡ None → first_broken (judged_exprs s (next_expr l e more) ps) ≡ first_broken (judged_exprs s more qs)
exprs_behind s l e more ps qs p is are none =
    first_behind (judged_argument s e (first_parameter ps)) (judged_exprs s more (later_parameters ps))
    (ap (λ q. first_broken (judged_argument s e q)) (sym is) ∙ none)
    ∙ ap (λ q. first_broken (judged_exprs s more q)) (sym are)

and_regroup : (a b c : Bool) → ((a && b) && c) ≡ (a && (b && c))
and_regroup true b c = refl
and_regroup false b c = refl

pub suit_step : (s : Scope) (l : ℕ) (e : Expr) (more : Exprs) (ps qs : List Parameter) (p : Option Parameter) (all suits new : Bool)
    → p ≡ first_parameter ps → qs ≡ later_parameters ps → suits ≡ suits_first s e p → new ≡ (all && suits)
    → (new && all_suit s more qs) ≡ (all && all_suit s (next_expr l e more) ps)
suit_step s l e more ps qs p all suits new is are suit both =
    ap (λ b. b && all_suit s more qs) both
    ∙ and_regroup all suits (all_suit s more qs)
    ∙ ap (λ b. all && (b && all_suit s more qs)) suit
    ∙ ap (λ q. all && (suits_first s e q && all_suit s more qs)) is
    ∙ ap (λ q. all && (suits_first s e (first_parameter ps) && all_suit s more q)) are

-- ---- With a later term or a later factor an expression is no plain name

pub more_terms_seen : (t : Term) (items : List (Adding × ℕ × terms.Term)) → 1 ≤ length items → plain_name (alone (simple None t (seen_addends items))) ≡ None
more_terms_seen t [] some = absurd (omega (arith, some))
more_terms_seen t (a ∷ more) some = more_terms t a.0 a.1 (seen_term a.2) (seen_addends more)

pub more_factors_seen : (f : Factor) (items : List (Multiplying × ℕ × factors.Factor)) → 1 ≤ length items
    → plain_name (alone (simple None (term f (seen_multipliers items)) no_addend)) ≡ None
more_factors_seen f [] some = absurd (omega (arith, some))
more_factors_seen f (m ∷ more) some = more_factors f m.0 m.1 (seen_factor m.2) (seen_multipliers more)
