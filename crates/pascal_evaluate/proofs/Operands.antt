-- The operands behind a first value, one after the other.
use Rattle.std.proofs.Common.{◌≡◌, ℕ, ◌+◌, ◌<◌, ◌≤◌, List, [], ◌∷◌, ◌++◌, map, length, get_or, take, drop, ◌-◌, arith, ℤ, refl, sym, ◌∙◌, ap, append-nil, append_assoc, Result, Ok, Err}
use Rattle.std.specs.Prelude.{IsErrAnd, Vec}
use Rattle.std.proofs.lemmas.List.{at_drop_more, at_drop_all, take_rest}
use Rattle.pascal_tree.specs.Word.{NameAt}
use Rattle.pascal_tree.specs.Expression.{Exprs, no_expr, next_expr}
use Rattle.pascal_tree.specs.Expression as tree
use Rattle.pascal_tree.specs.SeenExpression.{seen_addends, seen_term, seen_multipliers, seen_factor, seen_expr, seen_exprs}
use Rattle.pascal_tree.specs.declared.expression.Adding.{Adding}
use Rattle.pascal_tree.specs.declared.expression.Multiplying.{Multiplying}
use Rattle.pascal_tree.specs.declared.expression.Term.{Term}
use Rattle.pascal_tree.specs.declared.expression.Factor.{Factor}
use Rattle.pascal_tree.specs.declared.expression.Expr.{Expr}
use Rattle.pascal_mean.specs.Situation.{Situation, Course, Part, Gives, Over, and_then, number_or_overflow}
use Rattle.pascal_mean.specs.Values.{added, multiplied}
use Rattle.pascal_mean.specs.Means.{Means}
use Rattle.pascal_mean.specs.Variables.{ArrayPlace, array_named, element_at}
use Rattle.pascal_mean.specs.Calls.{Given, passed, passing_named}
use Rattle.pascal_mean.specs.Expressions.{Setting, addends_value, term_value, multipliers_value, factor_value, expr_value, index_value, arguments_given, exprs_given, name_in}
use Rattle.pascal_evaluate.specs.declared.stop.Stop.{Stop}
use Rattle.pascal_evaluate.specs.declared.calls.Passing.{Passing}
use Rattle.pascal_evaluate.specs.SeenStore.{seen_passing}
use Rattle.pascal_evaluate.specs.declared.calls.Given as given_type
use Rattle.pascal_evaluate.specs.Ran.{IsStopped, RanArguments, RanMore}
use Rattle.pascal_evaluate.proofs.Parts.{stopped_then}

-- what is left of a list at a place is its item there and what is left behind it
pub opens_at : {A B : Type 0} (f : List A → B) (xs : List A) (i : ℕ) (x : A) → i < length xs → x ≡ get_or xs i x
    → f (drop i xs) ≡ f (x ∷ drop (i + 1) xs)
opens_at f xs i x less is = at_drop_more f xs i x less ∙ ap (λ y. f (y ∷ drop (i + 1) xs)) (sym is)

-- a whole that is a first part and then the others
module _ {A B : Type 0} (whole : Course B) (first : Course A) (go : A → Part B) (opened : whole ≡ and_then first go) where
  pub first_stops : (why : Stop) (now : Situation) → IsStopped first why now → IsStopped whole why now
  first_stops why now stopped = rw opened (stopped_then first go why now stopped)

  pub first_gives : (v : A) (now : Situation) → first ≡ Gives v now → whole ≡ go v now
  first_gives v now gives = opened ∙ ap (λ q. and_then q go) gives

module _ (c : Setting) (xs : List (Adding × ℕ × Term)) (i : ℕ) (x : Adding × ℕ × Term) (left : ℤ) (before : Situation) (whole : Course ℤ)
    (less : i < length xs) (is : x ≡ get_or xs i x) (rest : addends_value c (seen_addends (drop i xs)) left before ≡ whole) where
  abbrev behind : ℤ → Part ℤ
  behind right mid = and_then (number_or_overflow (added x.0 left right) mid) (λ v now. addends_value c (seen_addends (drop (i + 1) xs)) v now)

  opened : whole ≡ and_then (term_value c (seen_term x.2) before) behind
  opened = sym rest ∙ opens_at (λ more. addends_value c (seen_addends more) left before) xs i x less is

  pub addend_stops : (why : Stop) (now : Situation) → IsStopped (term_value c (seen_term x.2) before) why now → IsStopped whole why now
  addend_stops why now stopped = first_stops whole (term_value c (seen_term x.2) before) behind opened why now stopped

  pub sum_stops : (right : ℤ) (mid : Situation) → term_value c (seen_term x.2) before ≡ Gives right mid → (why : Stop)
      → IsStopped (number_or_overflow (added x.0 left right) mid) why mid → IsStopped whole why mid
  sum_stops right mid gives why stopped =
      first_stops whole (number_or_overflow (added x.0 left right) mid) (λ v now. addends_value c (seen_addends (drop (i + 1) xs)) v now)
      (first_gives whole (term_value c (seen_term x.2) before) behind opened right mid gives) why mid stopped

  pub sum_goes : (right : ℤ) (mid : Situation) → term_value c (seen_term x.2) before ≡ Gives right mid → (v : ℤ)
      → number_or_overflow (added x.0 left right) mid ≡ Gives v mid → addends_value c (seen_addends (drop (i + 1) xs)) v mid ≡ whole
  sum_goes right mid gives v is_v =
      sym (first_gives whole (number_or_overflow (added x.0 left right) mid) (λ w now. addends_value c (seen_addends (drop (i + 1) xs)) w now)
      (first_gives whole (term_value c (seen_term x.2) before) behind opened right mid gives) v mid is_v)

module _ (c : Setting) (xs : List (Multiplying × ℕ × Factor)) (i : ℕ) (x : Multiplying × ℕ × Factor) (left : ℤ) (before : Situation)
    (whole : Course ℤ) (less : i < length xs) (is : x ≡ get_or xs i x)
    (rest : multipliers_value c (seen_multipliers (drop i xs)) left before ≡ whole) where
  abbrev after : ℤ → Part ℤ
  after right mid = and_then (number_or_overflow (multiplied x.0 left right) mid) (λ v now. multipliers_value c (seen_multipliers (drop (i + 1) xs)) v now)

  begun : whole ≡ and_then (factor_value c (seen_factor x.2) before) after
  begun = sym rest ∙ opens_at (λ more. multipliers_value c (seen_multipliers more) left before) xs i x less is

  pub multiplier_stops : (why : Stop) (now : Situation) → IsStopped (factor_value c (seen_factor x.2) before) why now → IsStopped whole why now
  multiplier_stops why now stopped = first_stops whole (factor_value c (seen_factor x.2) before) after begun why now stopped

  pub product_stops : (right : ℤ) (mid : Situation) → factor_value c (seen_factor x.2) before ≡ Gives right mid → (why : Stop)
      → IsStopped (number_or_overflow (multiplied x.0 left right) mid) why mid → IsStopped whole why mid
  product_stops right mid gives why stopped =
      first_stops whole (number_or_overflow (multiplied x.0 left right) mid) (λ v now. multipliers_value c (seen_multipliers (drop (i + 1) xs)) v now)
      (first_gives whole (factor_value c (seen_factor x.2) before) after begun right mid gives) why mid stopped

  pub product_goes : (right : ℤ) (mid : Situation) → factor_value c (seen_factor x.2) before ≡ Gives right mid → (v : ℤ)
      → number_or_overflow (multiplied x.0 left right) mid ≡ Gives v mid → multipliers_value c (seen_multipliers (drop (i + 1) xs)) v mid ≡ whole
  product_goes right mid gives v is_v =
      sym (first_gives whole (number_or_overflow (multiplied x.0 left right) mid) (λ w now. multipliers_value c (seen_multipliers (drop (i + 1) xs)) w now)
      (first_gives whole (factor_value c (seen_factor x.2) before) after begun right mid gives) v mid is_v)

-- ---- Arguments

none_taken : (c : Setting) (more : Exprs) (now : Situation) → exprs_given c [] more now ≡ Gives [] now
none_taken c no_expr now = refl
none_taken c (next_expr comma e more) now = refl

-- a part given more, behind those given before
one_given_more : (course : Course (List Given)) (given : List Given) (v : Given) → and_then course (λ more then_is. Gives ((given ++ v ∷ []) ++ more) then_is)
    ≡ and_then (and_then course (λ more then_is. Gives (v ∷ more) then_is)) (λ more then_is. Gives (given ++ more) then_is)
one_given_more (Gives more then_is) given v = ap (λ all. Gives all then_is) (append_assoc given (v ∷ []) more)
one_given_more (Over outcome) given v = refl

module _ (c : Setting) (ways : List Passing) (rest : List (ℕ × Expr)) (place : ℕ) (given : List Given) (before : Situation)
    (whole : Course (List Given))
    (left : and_then (exprs_given c (map seen_passing (drop place ways)) (seen_exprs (drop place rest)) before)
    (λ more then_is. Gives (given ++ more) then_is) ≡ whole) where
  -- a call that takes no more
  pub takes_no_more : length ways ≤ place → whole ≡ Gives given before
  takes_no_more past =
      sym left
      ∙ at_drop_all (λ ps. and_then (exprs_given c (map seen_passing ps) (seen_exprs (drop place rest)) before)
      (λ more then_is. Gives (given ++ more) then_is)) ways place past
      ∙ ap (λ q. and_then q (λ more then_is. Gives (given ++ more) then_is)) (none_taken c (seen_exprs (drop place rest)) before)
      ∙ ap (λ all. Gives all before) (append-nil given)

  pub argument_stops : (way : Passing) (e : ℕ × Expr) → place < length ways → way ≡ get_or ways place way → place < length rest
      → e ≡ get_or rest place e → (why : Stop) (now : Situation)
      → IsStopped (passed (seen_passing way) (c.scope (name_in (seen_expr e.1))) c.number (name_in (seen_expr e.1)) (expr_value c (seen_expr e.1)) before)
      why now
      → IsStopped whole why now
  argument_stops way e less_ways is_way less is_e why now stopped =
      first_stops whole (exprs_given c (map seen_passing (drop place ways)) (seen_exprs (drop place rest)) before)
      (λ more then_is. Gives (given ++ more) then_is) (sym left) why now
      (first_stops (exprs_given c (map seen_passing (drop place ways)) (seen_exprs (drop place rest)) before)
      (passed (seen_passing way) (c.scope (name_in (seen_expr e.1))) c.number (name_in (seen_expr e.1)) (expr_value c (seen_expr e.1)) before)
      (λ first mid. and_then (exprs_given c (map seen_passing (drop (place + 1) ways)) (seen_exprs (drop (place + 1) rest)) mid)
      (λ others then_is. Gives (first ∷ others) then_is))
      (opens_at (λ ps. exprs_given c (map seen_passing ps) (seen_exprs (drop place rest)) before) ways place way less_ways is_way
      ∙ opens_at (λ es. exprs_given c (map seen_passing (way ∷ drop (place + 1) ways)) (seen_exprs es) before) rest place e less is_e)
      why now stopped)

  pub argument_gives : (way : Passing) (e : ℕ × Expr) → place < length ways → way ≡ get_or ways place way → place < length rest
      → e ≡ get_or rest place e → (v : Given) (mid : Situation)
      → passed (seen_passing way) (c.scope (name_in (seen_expr e.1))) c.number (name_in (seen_expr e.1)) (expr_value c (seen_expr e.1)) before ≡ Gives v mid
      → and_then (exprs_given c (map seen_passing (drop (place + 1) ways)) (seen_exprs (drop (place + 1) rest)) mid)
      (λ more then_is. Gives ((given ++ v ∷ []) ++ more) then_is)
      ≡ whole
  argument_gives way e less_ways is_way less is_e v mid gives =
      let others : Course (List Given) = exprs_given c (map seen_passing (drop (place + 1) ways)) (seen_exprs (drop (place + 1) rest)) mid in
      let opened : exprs_given c (map seen_passing (drop place ways)) (seen_exprs (drop place rest)) before
      ≡ and_then others (λ more then_is. Gives (v ∷ more) then_is)
      = first_gives (exprs_given c (map seen_passing (drop place ways)) (seen_exprs (drop place rest)) before)
      (passed (seen_passing way) (c.scope (name_in (seen_expr e.1))) c.number (name_in (seen_expr e.1)) (expr_value c (seen_expr e.1)) before)
      (λ first now. and_then (exprs_given c (map seen_passing (drop (place + 1) ways)) (seen_exprs (drop (place + 1) rest)) now)
      (λ more then_is. Gives (first ∷ more) then_is))
      (opens_at (λ ps. exprs_given c (map seen_passing ps) (seen_exprs (drop place rest)) before) ways place way less_ways is_way
      ∙ opens_at (λ es. exprs_given c (map seen_passing (way ∷ drop (place + 1) ways)) (seen_exprs es) before) rest place e less is_e)
      v mid gives in
      one_given_more others given v ∙ ap (λ q. and_then q (λ more then_is. Gives (given ++ more) then_is)) (sym opened) ∙ left

-- where the error of a call behind it is passed on
pub more_passed_on : (course : Course (List Given)) (before : List Given) (answer : Result (Unit {0}) Stop) (after : List Given) (why : Stop)
    (now : Situation) → IsErrAnd answer (λ s. s ≡ why) → IsStopped course why now → RanMore course before answer after now
more_passed_on course before (Ok v) after why now same stopped = absurd same
more_passed_on course before (Err s) after why now same stopped = rw same stopped

pub all_passed_on : {A : Type 0} (course : Course (List Given)) (answer : Result (Vec given_type.Given A) Stop) (why : Stop) (now : Situation)
    → IsErrAnd answer (λ s. s ≡ why) → IsStopped course why now → RanArguments course answer now
all_passed_on course (Ok v) why now same stopped = absurd same
all_passed_on course (Err s) why now same stopped = rw same stopped

-- a list that isn't empty is its first item and the others
pub whole_list : (ways : List Passing) (d : Passing) → 1 ≤ length ways → ways ≡ get_or ways 0 d ∷ take (length ways - 1) (drop 1 ways)
whole_list [] d some = absurd (omega (arith, some))
whole_list (way ∷ others) d some = ap (λ rest. way ∷ rest) (sym (take_rest (way ∷ others) 1))

-- the arguments of a call that takes a first one
pub behind_the_first : (c : Setting) (sense : Means) (ways : List Passing) (way : Passing) (others : List Passing) (opening : ℕ) (e : tree.Expr)
    (rest : Exprs) (closing : ℕ) (now mid : Situation) (first : Given) → map seen_passing ways ≡ passing_named sense → ways ≡ way ∷ others
    → passed (seen_passing way) (c.scope (name_in e)) c.number (name_in e) (expr_value c e) now ≡ Gives first mid
    → arguments_given c (passing_named sense) (tree.arguments opening e rest closing) now
    ≡ and_then (exprs_given c (map seen_passing others) rest mid) (λ given then_is. Gives (first ∷ given) then_is)
behind_the_first c sense ways way others opening e rest closing now mid first named is gives = rw (← named, is, gives) refl

-- an element of an array, where its index is worked out
module _ (c : Setting) (x : NameAt) (i : tree.Index) (a : ArrayPlace) (before : Situation)
    (is : a ≡ array_named (c.scope x.letters) c.number x.letters) where
  pub element_stops : (why : Stop) (now : Situation) → IsStopped (index_value c a.bounds i before) why now
      → IsStopped (factor_value c (tree.element x i) before) why now
  element_stops why now stopped =
      rw (← is) (stopped_then (index_value c a.bounds i before) (λ at now. Gives (element_at a at now) now) why now stopped)

  pub element_gives : (at : ℤ) (now : Situation) → index_value c a.bounds i before ≡ Gives at now
      → factor_value c (tree.element x i) before ≡ Gives (element_at a at now) now
  element_gives at now gives = rw (← is, gives) refl
