-- What a tree keeps: its limits on levels, the sentence on THEN, and its words.
use Rattle.std.specs.Prelude.{ℕ, ◌-◌, ◌≤◌, List, [], ◌∷◌, Option, Some, None}
use Rattle.pascal_tree.specs.Word.{AreWords}
use Rattle.pascal_tree.specs.Expression.{Expr, alone, compared, Simple, simple, Addends, no_addend, addend, Term, term, Multipliers, no_multiplier, multiplier, Factor, number, character, named, element, called, group, negated, Index, index, Arguments, arguments, Exprs, no_expr, next_expr}
use Rattle.pascal_tree.specs.Statement.{Statement, empty, assign, call, compound, if_then, if_else, while_do, repeat_until, for_do, case_of, Body, body, Sequence, sequence, Statements, no_statement, next_statement, Branch, branch, Branches, no_branch, next_branch}
use Rattle.pascal_tree.specs.Program.{Routine, procedure, function, Program}
use Rattle.pascal_tree.specs.SpellProgram.{spelled}

-- Factors and statements have at most 64 levels.
abbrev pub most_levels : ℕ
most_levels = 64

-- the factors of an expression have at most so many levels
abbrev mutual
  pub ExprFits : Expr → ℕ → Type 0
  ExprFits (alone s) n = SimpleFits s n
  ExprFits (compared s r l t) n = SimpleFits s n × SimpleFits t n

  pub SimpleFits : Simple → ℕ → Type 0
  SimpleFits (simple s t more) n = TermFits t n × AddendsFit more n

  pub AddendsFit : Addends → ℕ → Type 0
  AddendsFit no_addend n = Unit {0}
  AddendsFit (addend a l t more) n = TermFits t n × AddendsFit more n

  pub TermFits : Term → ℕ → Type 0
  TermFits (term f more) n = FactorFits f n × MultipliersFit more n

  pub MultipliersFit : Multipliers → ℕ → Type 0
  MultipliersFit no_multiplier n = Unit {0}
  MultipliersFit (multiplier m l f more) n = FactorFits f n × MultipliersFit more n

  pub FactorFits : Factor → ℕ → Type 0
  FactorFits (number x) n = 1 ≤ n
  FactorFits (character x) n = 1 ≤ n
  FactorFits (named x) n = 1 ≤ n
  FactorFits (element x i) n = (1 ≤ n) × IndexFits i (n - 1)
  FactorFits (called x a) n = (1 ≤ n) × ArgumentsFit a (n - 1)
  FactorFits (group o e c) n = (1 ≤ n) × ExprFits e (n - 1)
  FactorFits (negated l f) n = (1 ≤ n) × FactorFits f (n - 1)

  pub IndexFits : Index → ℕ → Type 0
  IndexFits (index o e c) n = ExprFits e n

  pub ArgumentsFit : Arguments → ℕ → Type 0
  ArgumentsFit (arguments o e more c) n = ExprFits e n × ExprsFit more n

  pub ExprsFit : Exprs → ℕ → Type 0
  ExprsFit no_expr n = Unit {0}
  ExprsFit (next_expr l e more) n = ExprFits e n × ExprsFit more n

-- an index, arguments: they stand in no factor
abbrev pub PlaceFits : Option Index → Type 0
PlaceFits None = Unit {0}
PlaceFits (Some i) = IndexFits i most_levels

abbrev pub CallFits : Option Arguments → Type 0
CallFits None = Unit {0}
CallFits (Some a) = ArgumentsFit a most_levels

-- the statement doesn't end in an IF without ELSE
abbrev pub EndsClosed : Statement → Type 0
EndsClosed empty = Unit {0}
EndsClosed (assign x i b e) = Unit {0}
EndsClosed (call x a) = Unit {0}
EndsClosed (compound b) = Unit {0}
EndsClosed (if_then l e t s) = ⊥
EndsClosed (if_else l e t s o u) = EndsClosed u
EndsClosed (while_do l e d s) = EndsClosed s
EndsClosed (repeat_until l s u e) = Unit {0}
EndsClosed (for_do l x b e w t f d s) = EndsClosed s
EndsClosed (case_of l e o b more c) = Unit {0}

-- The statement and those inside it have at most so many levels, its expressions keep theirs, and
-- the THEN statement of an IF with ELSE ends closed.
abbrev mutual
  pub StatementFits : Statement → ℕ → Type 0
  StatementFits empty n = 1 ≤ n
  StatementFits (assign x i b e) n = (1 ≤ n) × PlaceFits i × ExprFits e most_levels
  StatementFits (call x a) n = (1 ≤ n) × CallFits a
  StatementFits (compound b) n = (1 ≤ n) × BodyFits b (n - 1)
  StatementFits (if_then l e t s) n = (1 ≤ n) × ExprFits e most_levels × StatementFits s (n - 1)
  StatementFits (if_else l e t s o u) n =
      (1 ≤ n) × ExprFits e most_levels × StatementFits s (n - 1) × EndsClosed s × StatementFits u (n - 1)
  StatementFits (while_do l e d s) n = (1 ≤ n) × ExprFits e most_levels × StatementFits s (n - 1)
  StatementFits (repeat_until l s u e) n = (1 ≤ n) × SequenceFits s (n - 1) × ExprFits e most_levels
  StatementFits (for_do l x b e w t f d s) n =
      (1 ≤ n) × ExprFits e most_levels × ExprFits f most_levels × StatementFits s (n - 1)
  StatementFits (case_of l e o b more c) n =
      (1 ≤ n) × ExprFits e most_levels × BranchFits b (n - 1) × BranchesFit more (n - 1)

  -- the statements directly in these have at most so many levels
  pub BodyFits : Body → ℕ → Type 0
  BodyFits (body b s e) n = SequenceFits s n

  pub SequenceFits : Sequence → ℕ → Type 0
  SequenceFits (sequence s more) n = StatementFits s n × StatementsFit more n

  pub StatementsFit : Statements → ℕ → Type 0
  StatementsFit no_statement n = Unit {0}
  StatementsFit (next_statement l s more) n = StatementFits s n × StatementsFit more n

  pub BranchFits : Branch → ℕ → Type 0
  BranchFits (branch labels c s) n = StatementFits s n

  pub BranchesFit : Branches → ℕ → Type 0
  BranchesFit no_branch n = Unit {0}
  BranchesFit (next_branch l b more) n = BranchFits b n × BranchesFit more n

abbrev pub RoutineFits : Routine → Type 0
RoutineFits (procedure l x p s b e) = BodyFits b.body most_levels
RoutineFits (function l x p c a s b e) = BodyFits b.body most_levels

abbrev pub RoutinesFit : List Routine → Type 0
RoutinesFit [] = Unit {0}
RoutinesFit (r ∷ more) = RoutineFits r × RoutinesFit more

-- what every tree keeps
pub record IsTree (program : Program) : Type 0 where
  pub routines : RoutinesFit program.routines
  pub body : BodyFits program.body most_levels
  pub words : AreWords (spelled program)
