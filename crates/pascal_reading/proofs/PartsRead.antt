-- What the parts of a tree that are wanted spell, and what they keep.
use Rattle.std.proofs.Common.{◌≡◌, ℕ, ◌≤◌, false, List, [], ◌∷◌, ◌++◌, Option, Some, None, refl}
use Rattle.pascal_tree.specs.Word.{Spot, NameAt}
use Rattle.pascal_tree.specs.Expression.{Simple}
use Rattle.pascal_tree.specs.Statement.{Statement}
use Rattle.pascal_tree.specs.SpellExpression.{reserved_at, symbol_at, name_at, number_at, spelled_expr, spelled_simple, spelled_addends, spelled_term, spelled_multipliers, spelled_factor, spelled_exprs}
use Rattle.pascal_tree.specs.SpellStatement.{direction_word, spelled_statement, spelled_statements, spelled_body, spelled_branches}
use Rattle.pascal_tree.specs.SpellConstant.{spelled_constant, spelled_more_labels}
use Rattle.pascal_tree.specs.SpellProgram.{spelled_heading, spelled_consts, spelled_definition, spelled_definitions, spelled_kind, spelled_vars, spelled_group, spelled_groups, spelled_more_names, spelled_parameters, spelled_parameter_group, spelled_parameter_groups, spelled_routines}
use Rattle.pascal_tree.specs.Limits.{ExprFits, SimpleFits, AddendsFit, TermFits, MultipliersFit, FactorFits, ExprsFit, StatementFits, StatementsFit, BranchesFit, BodyFits, RoutinesFit}
use Rattle.pascal_tree.specs.declared.token.Reserved.TheVariants as reserved
use Rattle.pascal_read.specs.ParseFirst.{end_at}
use Rattle.pascal_read.specs.ParseWants.{Want, Step, took, skip, no}
use Rattle.pascal_read.specs.ParseWants as want
use Rattle.pascal_read.proofs.ParseSpells.{MayPrecede, begins_else, HasLevel}
use Rattle.pascal_reading.specs.Parts.{PartOf, PartsOf, first_parts, later_parts}
use Rattle.pascal_reading.specs.Making.{Makes}

-- the words of a part stand before others, and it keeps its limits
pub record IsSpelled (Keeps : Type 0) (words before after : List Spot) : Type 0 where
  pub keeps : Keeps
  pub is : before ≡ words ++ after

-- a part without limits
abbrev pub IsPlain : List Spot → List Spot → List Spot → Type 0
IsPlain words before after = IsSpelled (Unit {0}) words before after

abbrev pub IsStatement : ℕ → Statement → List Spot → List Spot → Type 0
IsStatement n s before after = IsSpelled (StatementFits s n × MayPrecede s after) (spelled_statement s) before after

-- ELSE and its statement, or neither where no ELSE follows
abbrev pub IsOtherwise : ℕ → Option (ℕ × Statement) → List Spot → List Spot → Type 0
IsOtherwise n None before after = (before ≡ after) × (begins_else after ≡ false)
IsOtherwise n (Some o) before after =
    IsSpelled (StatementFits o.1 n × MayPrecede o.1 after) (reserved_at reserved.Else o.0 ∷ spelled_statement o.1) before after

-- What is wanted is read from the first words to the second: the words between are this part's.
abbrev pub IsRead : (x : Want) → PartOf x → List Spot → List Spot → Type 0
IsRead (want.reserved_word r) line before after = IsPlain (reserved_at r line ∷ []) before after
IsRead (want.mark s) line before after = IsPlain (symbol_at s line ∷ []) before after
IsRead want.name x before after = IsPlain (name_at x ∷ []) before after
IsRead want.number x before after = IsPlain (number_at x ∷ []) before after
IsRead want.end line before after = IsPlain (end_at line ∷ []) before after
IsRead (want.expr n) e before after = IsSpelled (ExprFits e n) (spelled_expr e) before after
IsRead (want.relation n) f before after =
    (s : Simple) → SimpleFits s n → IsSpelled (ExprFits (f s) n) (spelled_expr (f s)) (spelled_simple s ++ before) after
IsRead (want.simple n) s before after = IsSpelled (SimpleFits s n) (spelled_simple s) before after
IsRead (want.addends n) a before after = IsSpelled (AddendsFit a n) (spelled_addends a) before after
IsRead (want.term n) t before after = IsSpelled (TermFits t n) (spelled_term t) before after
IsRead (want.multipliers n) m before after = IsSpelled (MultipliersFit m n) (spelled_multipliers m) before after
IsRead (want.factor n) f before after = IsSpelled (FactorFits f n) (spelled_factor f) before after
IsRead (want.behind_name n) f before after = (x : NameAt) → IsSpelled (FactorFits (f x) n) (spelled_factor (f x)) (name_at x ∷ before) after
IsRead (want.more_exprs n) e before after = IsSpelled (ExprsFit e n) (spelled_exprs e) before after
IsRead (want.statement n) s before after = IsStatement n s before after
IsRead want.behind_first_name f before after = (x : NameAt) (n : ℕ) → 1 ≤ n → IsStatement n (f x) (name_at x ∷ before) after
IsRead (want.otherwise n) o before after = IsOtherwise n o before after
IsRead (want.more_statements n) s before after = IsSpelled (StatementsFit s n) (spelled_statements s) before after
IsRead (want.more_branches n) b before after = IsSpelled (BranchesFit b n) (spelled_branches b) before after
IsRead want.more_labels l before after = IsPlain (spelled_more_labels l) before after
IsRead want.direction d before after = IsPlain (reserved_at (direction_word d.0) d.1 ∷ []) before after
IsRead want.body b before after = IsSpelled (BodyFits b 64) (spelled_body b) before after
IsRead want.heading h before after = IsPlain (spelled_heading h) before after
IsRead want.constant c before after = IsPlain (spelled_constant c) before after
IsRead want.consts c before after = IsPlain (spelled_consts c) before after
IsRead want.definition d before after = IsPlain (spelled_definition d) before after
IsRead want.more_definitions d before after = IsPlain (spelled_definitions d) before after
IsRead want.kind k before after = IsPlain (spelled_kind k) before after
IsRead want.vars v before after = IsPlain (spelled_vars v) before after
IsRead want.group g before after = IsPlain (spelled_group g) before after
IsRead want.more_groups g before after = IsPlain (spelled_groups g) before after
IsRead want.more_names x before after = IsPlain (spelled_more_names x) before after
IsRead want.parameters p before after = IsPlain (spelled_parameters p) before after
IsRead want.parameter_group g before after = IsPlain (spelled_parameter_group g) before after
IsRead want.more_parameters g before after = IsPlain (spelled_parameter_groups g) before after
IsRead want.routines r before after = IsSpelled (RoutinesFit r) (spelled_routines r) before after

-- All that is wanted is read, part after part: in the proofs `r.1`, `r.2.1`, `r.2.2.1` .. say it of the parts, in their order.
abbrev pub AreRead : (wants : List Want) → PartsOf wants → List Spot → List Spot → Type 0
AreRead [] p before after = before ≡ after
AreRead (x ∷ rest) p before after = (middle : List Spot) × IsRead x p.0 before middle × AreRead rest p.1 middle after

-- those of two lists
pub both_read : (xs ys : List Want) (p : PartsOf (xs ++ ys)) (before after : List Spot) → AreRead (xs ++ ys) p before after
    → (middle : List Spot) × AreRead xs (first_parts xs ys p) before middle × AreRead ys (later_parts xs ys p) middle after
both_read [] ys p before after r = (before, refl, r)
both_read (x ∷ xs) ys p before after r =
    let s = both_read xs ys p.1 r.0 after r.2 in
    (s.0, (r.0, r.1, s.1), s.2)

-- each of these wants has a level
abbrev pub HaveLevels : List Want → Type 0
HaveLevels [] = Unit {0}
HaveLevels (x ∷ rest) = HasLevel x × HaveLevels rest

pub levels_append : (xs ys : List Want) → HaveLevels xs → HaveLevels ys → HaveLevels (xs ++ ys)
levels_append [] ys a b = b
levels_append (x ∷ xs) ys a b = (a.0, levels_append xs ys a.1 b)

-- What one word makes is right: with the parts of what is wanted behind it, it is read as what was wanted.
abbrev pub IsMade : (x : Want) → Spot → (more : List Want) → (PartsOf more → PartOf x) → Type 0
IsMade x t more make =
    HaveLevels more
    × ((p : PartsOf more) (middle after : List Spot) → AreRead more p middle after → IsRead x (make p) (t ∷ middle) after)

abbrev pub IsRight : (x : Want) → Spot → (s : Step) → Makes (PartOf x) s → Type 0
IsRight x t (took more) make = IsMade x t more make
IsRight x t skip part = (after : List Spot) → IsRead x part (t ∷ after) (t ∷ after)
IsRight x t no part = Unit {0}
