-- A constant stands for one number, to the rules and to the code.
use Rattle.std.proofs.Common.{◌≡◌, ℕ, not, ◌&&◌, List, [], ◌∷◌, Option, Some, None, is_some, ℤ, refl, arith}
use Rattle.pascal_tree.specs.Word.{AreWords}
use Rattle.pascal_tree.specs.SpellConstant.{spelled_constant}
use Rattle.pascal_tree.specs.Scopes as rules
use Rattle.pascal_tree.specs.Scopes.{means_of}
use Rattle.pascal_tree.specs.ExpressionRules.{breaks}
use Rattle.pascal_tree.specs.StatementRules.{Valued, value_of, constant_meant, judged_constant}
use Rattle.pascal_tree.specs.DeclarationRules.{first_broken}
use Rattle.pascal_tree.specs.declared.constant.Constant.{Constant}
use Rattle.pascal_tree.specs.declared.constant.Constant.TheVariants as constant
use Rattle.pascal_tree.specs.declared.means.Means.{Means}
use Rattle.pascal_tree.specs.declared.means.Means.TheVariants as means
use Rattle.pascal_code.specs.Senses.{Sense, number_of, constant_value}
use Rattle.code_law.specs.Suits.{Routines, IsHeld}
use Rattle.code_law.proofs.Numbers.{held, held_below, below_zero}
use Rattle.code_law.proofs.Senses.{IsNamed}
use Rattle.code_law.proofs.Tests.{never}

-- the value that the rules see is this number, which an operand holds
abbrev pub IsNumber : Option Valued → ℤ → Type 0
IsNumber None w = ⊥
IsNumber (Some v) w = (w ≡ v.value) × IsHeld w

module _ (rs : Routines) where
  named_number : (m : Option Means) (n : Sense) (l : ℕ) → IsNamed rs m n
      → first_broken (breaks 2 (not (is_some m)) l ∷ breaks 3 (is_some m && not (is_some (constant_meant m))) l ∷ []) ≡ None
      → IsNumber (constant_meant m) (number_of n)
  named_number None n l is h = never h
  named_number (Some (means.Constant t v)) n l is h = (is.0, is.1.0)
  named_number (Some (means.Variable t)) n l is h = never h
  named_number (Some (means.Reference t)) n l is h = never h
  named_number (Some (means.Procedure ps)) n l is h = never h
  named_number (Some (means.Function ps t)) n l is h = never h
  named_number (Some (means.TypeName t)) n l is h = never h

  pub constant_is : (s : rules.Scope) (names : List ℕ → Sense) → ((x : List ℕ) → IsNamed rs (means_of s x) (names x))
      → (c : Constant) → AreWords (spelled_constant c) → first_broken (judged_constant s c) ≡ None
      → IsNumber (value_of s c) (constant_value names c)
  constant_is s names are (constant.Name n) words none = named_number (means_of s n.letters) (names n.letters) n.line (are n.letters) none
  constant_is s names are (constant.Number n) words none = (refl, held n.value words.0)
  constant_is s names are (constant.Negative l n) words none = (below_zero n.value, held_below n.value words.1.0)
  constant_is s names are (constant.Character c) words none = (refl, held c.code (omega (arith, words.0)))
