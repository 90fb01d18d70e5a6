-- The code of an expression has a first instruction.
use Rattle.std.proofs.Common.{◌≡◌, true, List, [], ◌∷◌, ◌++◌, refl, sym, ap, subst, pos}
use Rattle.stack_code.specs.declared.table.Op.TheVariants as op
use Rattle.stack_code.specs.declared.instr.Instr.{Instr}
use Rattle.pascal_tree.specs.Expression.{Expr, alone, compared, Simple, simple, Term, term, Factor, number, character, named, element, called, group, negated, Index, index, Arguments, arguments}
use Rattle.pascal_mean.specs.Calls.{Passing, ByValue, row_passing}
use Rattle.pascal_code.specs.Instructions.{bare, with_a, push, load_word}
use Rattle.pascal_code.specs.Senses.{Sense, Constant, Variable, Array, Reference, Routine, Function, Interface, Nothing, Site}
use Rattle.pascal_code.specs.Names.{name_code, test_code, element_code}
use Rattle.pascal_code.specs.Calls.{passing_of, given_arguments, variables_among, arrays_among, row_call, stores_code, call_code}
use Rattle.pascal_code.specs.Expressions.{relation_op, sign_code, expr_code, simple_code, addends_code, term_code, multipliers_code, factor_code, index_code, arguments_code, exprs_code}
use Rattle.code_law.specs.Suits.{Routines, CanLoad, CanCall, SuitsExpr, SuitsSimple, SuitsTerm, SuitsFactor, SuitsIndex, SuitsArguments}

-- some instruction comes first
abbrev pub HasFirst : List Instr → Type 0
HasFirst code = (i : Instr) × (more : List Instr) × (code ≡ i ∷ more)

pub first_in_front : (front rest : List Instr) → HasFirst front → HasFirst (front ++ rest)
first_in_front front rest has = (has.0, has.1 ++ rest, ap (λ (l : List Instr). l ++ rest) has.2)

pub first_behind : (front rest : List Instr) → HasFirst rest → HasFirst (front ++ rest)
first_behind [] rest has = has
first_behind (i ∷ front) rest has = (i, front ++ rest, refl)

module _ (rs : Routines) (site : Site) where
  name_first : (m : Sense) → CanLoad rs m → HasFirst (name_code m)
  name_first (Constant v) can = (push v, [], refl)
  name_first (Variable o a) can = (load_word o a, [], refl)
  name_first (Reference a) can = (with_a op.LoadR a, [], refl)
  name_first (Routine j passing) can = (with_a op.Call j, [], refl)
  name_first (Array o a b) can = absurd can
  name_first (Function f) can = absurd can
  name_first (Interface p) can = absurd can
  name_first Nothing can = absurd can

  -- a call with its arguments: that of a standard function may be no instruction, but its argument has one
  called_first : (m : Sense) (given : List Sense) (code : List Instr) → CanCall rs true m → (passing_of m ≡ ByValue ∷ [] → HasFirst code)
      → HasFirst (code ++ call_code site.result m given)
  called_first (Routine j passing) given code can first = first_behind code (with_a op.Call j ∷ []) (with_a op.Call j, [], refl)
  called_first (Function f) given code can first = first_in_front code (call_code site.result (Function f) given) (first refl)
  called_first (Interface p) given code can first =
      let one = row_call p (arrays_among (row_passing p) given) in
      let stores = stores_code site.result (variables_among (row_passing p) given) in
      first_behind code (one ∷ stores) (one, stores, refl)
  called_first (Constant v) given code can first = absurd can
  called_first (Variable o a) given code can first = absurd can
  called_first (Array o a b) given code can first = absurd can
  called_first (Reference a) given code can first = absurd can
  called_first Nothing given code can first = absurd can

  mutual
    pub expr_first : (e : Expr) → SuitsExpr rs site.names e → HasFirst (expr_code site e)
    expr_first (alone s) suits = simple_first s suits
    expr_first (compared s r line t) suits =
        first_in_front (simple_code site s) (simple_code site t ++ bare (relation_op r) ∷ []) (simple_first s suits.0)

    simple_first : (s : Simple) → SuitsSimple rs site.names s → HasFirst (simple_code site s)
    simple_first (simple sign t more) suits = first_in_front (term_code site t) (sign_code sign ++ addends_code site more) (term_first t suits.0)

    term_first : (t : Term) → SuitsTerm rs site.names t → HasFirst (term_code site t)
    term_first (term f more) suits = first_in_front (factor_code site f) (multipliers_code site more) (factor_first f suits.0)

    factor_first : (f : Factor) → SuitsFactor rs site.names f → HasFirst (factor_code site f)
    factor_first (number n) suits = (push (pos n.value), [], refl)
    factor_first (character x) suits = (push (pos x.code), [], refl)
    factor_first (named x) suits = name_first (site.names x.letters) suits
    factor_first (element x i) suits =
        first_in_front (index_code site (site.names x.letters) i) (element_code (site.names x.letters)) (index_first (site.names x.letters) i suits.1)
    factor_first (called x a) suits =
        let callee = site.names x.letters in
        called_first callee (given_arguments site a) (arguments_code site callee (passing_of callee) a) suits.0
        (λ one. subst (λ (by : List Passing). HasFirst (arguments_code site callee by a)) (sym one)
        (value_first callee a (subst (λ (by : List Passing). SuitsArguments rs site.names callee by a) one suits.1)))
    factor_first (group opening e closing) suits = expr_first e suits
    factor_first (negated line f) suits = first_in_front (factor_code site f) (bare op.Not ∷ []) (factor_first f suits)

    pub index_first : (m : Sense) (i : Index) → SuitsIndex rs site.names i → HasFirst (index_code site m i)
    index_first m (index opening e closing) suits = first_in_front (expr_code site e) (test_code m) (expr_first e suits)

    value_first : (callee : Sense) (a : Arguments) → SuitsArguments rs site.names callee (ByValue ∷ []) a
        → HasFirst (arguments_code site callee (ByValue ∷ []) a)
    value_first callee (arguments opening e more closing) suits = first_in_front (expr_code site e) (exprs_code site callee [] more) (expr_first e suits.0)
