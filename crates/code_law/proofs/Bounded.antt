-- Arrays of a program that breaks no rule: their bounds stand in instructions, in order; and what a name is by what all items of a frame have.
use Rattle.std.proofs.Common.{◌≡◌, ℕ, ◌+◌, ◌≤◌, Bool, true, false, not, ◌&&◌, List, [], ◌∷◌, ◌++◌, Option, Some, None, ℤ, pos, ◌-ℤ◌, refl, ap, ap₂, subst, ◌∙◌, arith}
use Rattle.std.specs.Prelude.{bytes_eq, int_le, unsigned_abs, if◌then◌else◌}
use Rattle.std.proofs.lemmas.Bool.{le-leb, and_from}
use Rattle.std.proofs.lemmas.Option.{none-some, same_Some}
use Rattle.stack_code.specs.Rules.{bounds_fit}
use Rattle.pascal_tree.specs.Word.{AreWords}
use Rattle.pascal_tree.specs.Program.{Group, Vars}
use Rattle.pascal_tree.specs.SpellExpression.{symbol_at}
use Rattle.pascal_tree.specs.SpellConstant.{spelled_constant}
use Rattle.pascal_tree.specs.SpellProgram.{spelled_more_names, spelled_kind, spelled_group, spelled_groups, spelled_vars}
use Rattle.pascal_tree.specs.Scopes as rules
use Rattle.pascal_tree.specs.Scopes.{Declared, same_scalar}
use Rattle.pascal_tree.specs.ExpressionRules.{breaks}
use Rattle.pascal_tree.specs.StatementRules.{Valued, value_of, judged_constant}
use Rattle.pascal_tree.specs.DeclarationRules.{type_of_kind, judged_kind, all_names, judged_variable, one_by_one, judged_type_name, are_bounds, behind_group, judged_group, judged_groups, judged_vars, first_broken}
use Rattle.pascal_tree.specs.declared.scalar.Scalar.TheVariants as scalar
use Rattle.pascal_tree.specs.declared.declaration.Kind.{Kind}
use Rattle.pascal_tree.specs.declared.declaration.Kind.TheVariants as kind
use Rattle.pascal_tree.specs.declared.token.Symbol.TheVariants as symbol
use Rattle.pascal_tree.specs.declared.means.Means.TheVariants as means
use Rattle.pascal_check.proofs.Unbroken.{before, behind}
use Rattle.pascal_mean.specs.Means.{Means, Owner, Bounds}
use Rattle.pascal_mean.specs.Means as meant
use Rattle.pascal_mean.specs.Predeclared.{Item}
use Rattle.pascal_mean.specs.Scope as meaning
use Rattle.pascal_mean.specs.Scope.{constant_number}
use Rattle.pascal_mean.specs.Variables.{size_of}
use Rattle.pascal_mean.specs.Declarations.{name_list, declared_names, variable_of, declared_groups, declared_variables}
use Rattle.pascal_code.specs.Frames.{Frame, place_behind}
use Rattle.pascal_code.specs.Instructions.{operand}
use Rattle.pascal_code.specs.Senses as to_code
use Rattle.pascal_code.specs.Senses.{Sense, sense, Array, sense_among}
use Rattle.code_law.specs.Suits.{Routines, HasBounds}
use Rattle.code_law.proofs.Numbers.{words_before, words_behind}
use Rattle.code_law.proofs.Tests.{never, parted, both_so}
use Rattle.code_law.proofs.Indexes.{how_far, above}
use Rattle.code_law.proofs.Senses.{AreMeant}
use Rattle.code_law.proofs.Constants.{IsNumber}
use Rattle.code_law.proofs.Declared.{Stands}
use Rattle.code_law.proofs.Declarations.{number_is, group_declared}
use Rattle.code_law.proofs.Sites.{AllItems, names_have}

-- ---- Senses by their items

-- what each meaning of a frame's items gives its sense
pub by_items : (P : Means → Type 0) (Q : Sense → Type 0) → ((m : Means) (a : ℕ) → P m → Q (sense m a)) → (f : Frame) (items : List Item) (x : List ℕ)
    (s : Sense) → AllItems P items → sense_among f items x ≡ Some s → Q s
by_items P Q gives f [] x s are is = absurd (none-some s is)
by_items P Q gives f (i ∷ earlier) x s are is = by_name (bytes_eq i.letters x) (by_items P Q gives f earlier x s are.1) is
  where
    by_name : (same : Bool) → (sense_among f earlier x ≡ Some s → Q s)
        → (if same then Some (sense i.means (place_behind f earlier)) else sense_among f earlier x) ≡ Some s → Q s
    by_name true later e = subst Q (same_Some _ s e) (gives i.means (place_behind f earlier) are.0)
    by_name false later e = later e

-- ---- Bounds

-- bounds that operands hold, the lower one not over the upper
abbrev pub AreOrdered : Bounds → Type 0
AreOrdered b = HasBounds b × (int_le b.low b.high ≡ true)

abbrev pub Bounded : Means → Type 0
Bounded (meant.Array o t b) = AreOrdered b
Bounded (meant.Variable o t) = Unit {0}
Bounded (meant.Reference t) = Unit {0}
Bounded (meant.Constant t v) = Unit {0}
Bounded (meant.Routine k s) = Unit {0}
Bounded (meant.Function f) = Unit {0}
Bounded (meant.Interface p) = Unit {0}
Bounded (meant.TypeName t) = Unit {0}
Bounded meant.Nothing = Unit {0}

abbrev pub SenseBounded : Sense → Type 0
SenseBounded (Array o a b) = AreOrdered b
SenseBounded (to_code.Variable o a) = Unit {0}
SenseBounded (to_code.Reference a) = Unit {0}
SenseBounded (to_code.Constant v) = Unit {0}
SenseBounded (to_code.Routine k passing) = Unit {0}
SenseBounded (to_code.Function f) = Unit {0}
SenseBounded (to_code.Interface p) = Unit {0}
SenseBounded to_code.Nothing = Unit {0}

pub sense_bounded : (m : Means) (a : ℕ) → Bounded m → SenseBounded (sense m a)
sense_bounded (meant.Array o t b) a is = is
sense_bounded (meant.Variable o t) a is = tt
sense_bounded (meant.Reference t) a is = tt
sense_bounded (meant.Constant t v) a is = tt
sense_bounded (meant.Routine k s) a is = tt
sense_bounded (meant.Function f) a is = tt
sense_bounded (meant.Interface p) a is = tt
sense_bounded (meant.TypeName t) a is = tt
sense_bounded meant.Nothing a is = tt

-- ordered bounds of at most 4,096 elements are what INDEX asks
pub ordered_fit : (b : Bounds) → AreOrdered b → size_of b ≤ 4096 → bounds_fit (operand b.low) (operand b.high) ≡ true
ordered_fit b is few =
    let far = how_far b.low b.high is.1 in
    let apart : b.high -ℤ b.low ≡ pos far.place = ap (λ (z : ℤ). z -ℤ b.low) far.is ∙ above b.low far.place in
    let size : size_of b ≡ far.place + 1 = ap (λ (z : ℤ). unsigned_abs z + 1) apart in
    let near : int_le (b.high -ℤ b.low) (pos 4095) ≡ true =
    ap (λ (z : ℤ). int_le z (pos 4095)) apart ∙ le-leb far.place 4095 (omega (arith, size, few)) in
    ap₂ (λ (z w : ℤ). int_le z w && int_le (w -ℤ z) (pos 4095)) is.0.0 is.0.1 ∙ and_from (int_le b.low b.high) (int_le (b.high -ℤ b.low) (pos 4095)) is.1 near

-- ---- By the rule on bounds

unbroken : (b : Bool) (rule l : ℕ) → breaks rule (not b) l ≡ None → b ≡ true
unbroken true rule l h = refl
unbroken false rule l h = never h

in_order : (v w : Option Valued) (low high : ℤ) (l : ℕ) → IsNumber v low → IsNumber w high → breaks 5 (not (are_bounds v w)) l ≡ None
    → AreOrdered (record { low = low; high = high })
in_order None w low high l h i none = absurd h
in_order (Some v) None low high l h i none = absurd i
in_order (Some v) (Some w) low high l h i none =
    let types = same_scalar v.type scalar.Integer && same_scalar w.type scalar.Integer in
    let order = (both_so types (int_le v.value w.value) (unbroken (types && int_le v.value w.value) 5 l none)).1 in
    ((h.1, i.1), ap₂ int_le h.0 i.0 ∙ order)

module _ {rs : Routines} {routines : Bool} {outer : List Declared} {within : Option (List ℕ)} {first : List Item} (scope : List Item → meaning.Scope)
    (scope_is : (s : rules.Scope) (items : List Item) → Stands rs routines outer within first s items → AreMeant rs s (scope items)) where
  kind_bounded : (owner : Owner) (s : rules.Scope) (items : List Item) (k : Kind) → Stands rs routines outer within first s items → AreWords (spelled_kind k)
      → first_broken (judged_kind s k) ≡ None → Bounded (variable_of owner (scope items) k)
  kind_bounded owner s items (kind.Name n) st words none = tt
  kind_bounded owner s items (kind.Array l o a u b c f n) st words none =
      let five = breaks 5 (not (are_bounds (value_of s a) (value_of s b))) l in
      let rest = judged_type_name s n ∷ five ∷ [] in
      let is = scope_is s items st in
      let later = behind (judged_constant s a) (judged_constant s b ++ rest) none in
      let one = number_is rs s (scope items) is a (words_before (spelled_constant a) _ words.1.1)
      (before (judged_constant s a) (judged_constant s b ++ rest) none) in
      let two = number_is rs s (scope items) is b (words_before (spelled_constant b) _ (words_behind (spelled_constant a) _ words.1.1).1)
      (before (judged_constant s b) rest later) in
      let last = (parted five [] (parted (judged_type_name s n) (five ∷ []) (behind (judged_constant s b) rest later)).1).0 in
      in_order (value_of s a) (value_of s b) (constant_number (scope items) a) (constant_number (scope items) b) l one two last

  groups_bounded : (owner : Owner) (gs : List Group) (s : rules.Scope) (items : List Item) → Stands rs routines outer within first s items
      → AllItems Bounded items → AreWords (spelled_groups gs) → first_broken (judged_groups s gs) ≡ None
      → AllItems Bounded (declared_groups owner scope gs items)
  groups_bounded owner [] s items st are words none = are
  groups_bounded owner (g ∷ more) s items st are words none =
      let m = means.Variable (type_of_kind s g.kind) in
      let names = all_names (g.names) in
      let colon = symbol_at symbol.Colon g.colon ∷ (spelled_kind g.kind ++ symbol_at symbol.Semicolon g.semicolon ∷ []) in
      let own = words_before (spelled_group g) (spelled_groups more) words in
      let this = before (judged_group s g) (judged_groups (behind_group s g) more) none in
      let n = variable_of owner (scope items) g.kind in
      let has = kind_bounded owner s items g.kind st
      (words_before (spelled_kind g.kind) (symbol_at symbol.Semicolon g.semicolon ∷ []) (words_behind (spelled_more_names (g.names).rest) colon own.1).1)
      (before (judged_kind s g.kind) (one_by_one judged_variable s m names) this) in
      groups_bounded owner more (behind_group s g) (declared_names n (name_list g.names) items)
      (group_declared scope scope_is owner s items g st own this)
      (names_have Bounded n (name_list g.names) items has are)
      (words_behind (spelled_group g) (spelled_groups more) words)
      (behind (judged_group s g) (judged_groups (behind_group s g) more) none)

  pub variables_bounded : (owner : Owner) (v : Option Vars) (s : rules.Scope) (items : List Item) → Stands rs routines outer within first s items
      → AllItems Bounded items → AreWords (spelled_vars v) → first_broken (judged_vars s v) ≡ None
      → AllItems Bounded (declared_variables owner scope v items)
  variables_bounded owner None s items st are words none = are
  variables_bounded owner (Some v) s items st are words none = groups_bounded owner (v.first ∷ v.rest) s items st are words.1 none
