-- What the wants of a reader stand for: parts of a tree, whose words stand before what follows.
use Rattle.std.proofs.Common.{◌≡◌, ℕ, ◌≤◌, ◌⊎◌, Bool, true, false, List, [], ◌∷◌, ◌++◌, refl}
use Rattle.pascal_tree.specs.Word.{Spot, NameAt}
use Rattle.pascal_tree.specs.Expression.{Simple}
use Rattle.pascal_tree.specs.Statement.{Statement}
use Rattle.pascal_tree.specs.SpellExpression.{reserved_at, symbol_at, name_at, number_at, spelled_expr, spelled_simple, spelled_addends, spelled_term, spelled_multipliers, spelled_factor, spelled_exprs}
use Rattle.pascal_tree.specs.SpellStatement.{direction_word, spelled_statement, spelled_statements, spelled_body, spelled_branches}
use Rattle.pascal_tree.specs.SpellConstant.{spelled_constant, spelled_more_labels}
use Rattle.pascal_tree.specs.SpellProgram.{spelled_heading, spelled_consts, spelled_definition, spelled_definitions, spelled_kind, spelled_vars, spelled_group, spelled_groups, spelled_more_names, spelled_parameters, spelled_parameter_group, spelled_parameter_groups, spelled_routines}
use Rattle.pascal_tree.specs.Limits.{ExprFits, SimpleFits, AddendsFit, TermFits, MultipliersFit, FactorFits, ExprsFit, StatementFits, StatementsFit, BranchesFit, EndsClosed, BodyFits, RoutinesFit}
use Rattle.pascal_tree.specs.declared.statement.Direction.{Direction}
use Rattle.pascal_tree.specs.declared.token.Reserved.TheVariants as reserved
use Rattle.pascal_read.specs.ParseFirst.{first_is, end_at}
use Rattle.pascal_read.specs.ParseWants.{Want, Step, took, skip, no, is_reserved}
use Rattle.pascal_read.specs.ParseWants as want

-- a part of a tree whose words stand before others
pub record Part {A : Type 0} (Keeps : A → Type 0) (words : A → List Spot) (before after : List Spot) : Type 0 where
  pub part : A
  pub keeps : Keeps part
  pub is : before ≡ words part ++ after

-- a part that has no limits, and one that is a single word
abbrev pub AnyPart : {A : Type 0} → (A → List Spot) → List Spot → List Spot → Type 0
AnyPart words before after = Part (λ x. Unit {0}) words before after

abbrev pub OneWord : {A : Type 0} → (A → Spot) → List Spot → List Spot → Type 0
OneWord spot before after = AnyPart (λ x. spot x ∷ []) before after

abbrev pub begins_else : List Spot → Bool
begins_else words = first_is (λ w. is_reserved w reserved.Else) words

-- an ELSE follows only a statement that ends closed
abbrev pub MayPrecede : Statement → List Spot → Type 0
MayPrecede s after = begins_else after ≡ true → EndsClosed s

abbrev pub StatementPart : ℕ → List Spot → List Spot → Type 0
StatementPart n before after = Part (λ s. StatementFits s n × MayPrecede s after) spelled_statement before after

-- ELSE and its statement
abbrev pub ElsePart : ℕ → List Spot → List Spot → Type 0
ElsePart n before after =
    Part {A = ℕ × Statement} (λ p. StatementFits p.1 n × MayPrecede p.1 after) (λ p. reserved_at reserved.Else p.0 ∷ spelled_statement p.1) before after

-- What is wanted is read from the first words to the second: the words between are a part's.
abbrev pub Reads : Want → List Spot → List Spot → Type 0
Reads (want.reserved_word r) before after = OneWord (reserved_at r) before after
Reads (want.mark s) before after = OneWord (symbol_at s) before after
Reads want.name before after = OneWord name_at before after
Reads want.number before after = OneWord number_at before after
Reads want.end before after = OneWord end_at before after
Reads (want.expr n) before after = Part (λ e. ExprFits e n) spelled_expr before after
-- behind any simple expression
Reads (want.relation n) before after = (s : Simple) → SimpleFits s n → Part (λ e. ExprFits e n) spelled_expr (spelled_simple s ++ before) after
Reads (want.simple n) before after = Part (λ s. SimpleFits s n) spelled_simple before after
Reads (want.addends n) before after = Part (λ a. AddendsFit a n) spelled_addends before after
Reads (want.term n) before after = Part (λ t. TermFits t n) spelled_term before after
Reads (want.multipliers n) before after = Part (λ m. MultipliersFit m n) spelled_multipliers before after
Reads (want.factor n) before after = Part (λ f. FactorFits f n) spelled_factor before after
-- behind any name that begins a factor
Reads (want.behind_name n) before after = (x : NameAt) → Part (λ f. FactorFits f n) spelled_factor (name_at x ∷ before) after
Reads (want.more_exprs n) before after = Part (λ e. ExprsFit e n) spelled_exprs before after
Reads (want.statement n) before after = StatementPart n before after
-- behind any name that begins a statement
Reads want.behind_first_name before after = (x : NameAt) (n : ℕ) → 1 ≤ n → StatementPart n (name_at x ∷ before) after
Reads (want.otherwise n) before after = ((before ≡ after) × (begins_else after ≡ false)) ⊎ ElsePart n before after
Reads (want.more_statements n) before after = Part (λ s. StatementsFit s n) spelled_statements before after
Reads (want.more_branches n) before after = Part (λ b. BranchesFit b n) spelled_branches before after
Reads want.more_labels before after = AnyPart spelled_more_labels before after
Reads want.direction before after = OneWord {A = Direction × ℕ} (λ d. reserved_at (direction_word d.0) d.1) before after
Reads want.body before after = Part (λ b. BodyFits b 64) spelled_body before after
Reads want.heading before after = AnyPart spelled_heading before after
Reads want.constant before after = AnyPart spelled_constant before after
Reads want.consts before after = AnyPart spelled_consts before after
Reads want.definition before after = AnyPart spelled_definition before after
Reads want.more_definitions before after = AnyPart spelled_definitions before after
Reads want.kind before after = AnyPart spelled_kind before after
Reads want.vars before after = AnyPart spelled_vars before after
Reads want.group before after = AnyPart spelled_group before after
Reads want.more_groups before after = AnyPart spelled_groups before after
Reads want.more_names before after = AnyPart spelled_more_names before after
Reads want.parameters before after = AnyPart spelled_parameters before after
Reads want.parameter_group before after = AnyPart spelled_parameter_group before after
Reads want.more_parameters before after = AnyPart spelled_parameter_groups before after
Reads want.routines before after = Part RoutinesFit spelled_routines before after

-- All that is wanted is read, part after part.
abbrev pub AllRead : List Want → List Spot → List Spot → Type 0
AllRead [] before after = before ≡ after
AllRead (x ∷ rest) before after = (middle : List Spot) × Reads x before middle × AllRead rest middle after

-- a want has a level of its own
abbrev pub HasLevel : Want → Type 0
HasLevel (want.expr n) = 1 ≤ n
HasLevel (want.relation n) = 1 ≤ n
HasLevel (want.simple n) = 1 ≤ n
HasLevel (want.addends n) = 1 ≤ n
HasLevel (want.term n) = 1 ≤ n
HasLevel (want.multipliers n) = 1 ≤ n
HasLevel (want.factor n) = 1 ≤ n
HasLevel (want.behind_name n) = 1 ≤ n
HasLevel (want.more_exprs n) = 1 ≤ n
HasLevel (want.statement n) = 1 ≤ n
HasLevel (want.otherwise n) = 1 ≤ n
HasLevel (want.more_statements n) = 1 ≤ n
HasLevel (want.more_branches n) = 1 ≤ n
HasLevel other = Unit {0}

-- a want within a program: it has a level, and isn't the end token
abbrev pub IsInner : Want → Type 0
IsInner want.end = ⊥
IsInner other = HasLevel other

abbrev pub AreInner : List Want → Type 0
AreInner [] = Unit {0}
AreInner (x ∷ rest) = IsInner x × AreInner rest

pub AreInner-append : (xs ys : List Want) → AreInner xs → AreInner ys → AreInner (xs ++ ys)
AreInner-append [] ys a b = b
AreInner-append (x ∷ xs) ys a b = (a.0, AreInner-append xs ys a.1 b)

-- what reads two lists of wants reads the first, then the second
pub split_read : (xs ys : List Want) (before after : List Spot) → AllRead (xs ++ ys) before after →
    (middle : List Spot) × AllRead xs before middle × AllRead ys middle after
split_read [] ys before after r = (before, refl, r)
split_read (x ∷ xs) ys before after r =
    let s = split_read xs ys r.0 after r.2 in
    (s.0, (r.0, r.1, s.1), s.2)

-- What is wanted after a word has levels of its own, and makes, with the word, what was wanted. In the
-- proofs `r.1`, `r.2.1`, `r.2.2.1` .. are the parts that were wanted, in their order.
pub record Makes (x : Want) (t : Spot) (more : List Want) : Type 0 where
  pub inner : AreInner more
  pub joins : (middle after : List Spot) → AllRead more middle after → Reads x (t ∷ middle) after

-- what a step makes of a word is right: what it leaves out is read over no words
abbrev pub IsRight : Want → Spot → Step → Type 0
IsRight x t (took more) = Makes x t more
IsRight x t skip = (after : List Spot) → Reads x (t ∷ after) (t ∷ after)
IsRight x t no = Unit {0}
