-- What the small types of a tree stand for: letters, and the sign before an expression.
use Rattle.std.specs.Prelude.{◌≡◌, ◌≤◌, ℕ, List, length, take, Option, Some, None}
use Rattle.pascal_tree.specs.declared.expression.Sign.{Sign}
use Rattle.pascal_tree.specs.declared.expression.Sign.TheVariants as signs
use Rattle.pascal_tree.specs.declared.letters.Held as Letters
use Rattle.pascal_tree.specs.declared.leading_sign.Held as LeadingSign
use Rattle.pascal_tree.specs.declared.letters.Held.TheVariants as letters
use Rattle.pascal_tree.specs.declared.leading_sign.Held.TheVariants as sign

-- the letters of a short name stand first in their place
abbrev pub letters_held : Letters.Held → List ℕ
letters_held (letters.Few count few) = take count few
letters_held (letters.Many many) = many.value.items

abbrev pub AreHeld : Letters.Held → Type 0
AreHeld (letters.Few count few) = (count ≤ 14) × (length few ≡ 14)
AreHeld (letters.Many many) = Unit {0}

abbrev pub sign_held : LeadingSign.Held → Option (Sign × ℕ)
sign_held sign.None = None
sign_held (sign.Plus line) = Some (signs.Plus, line)
sign_held (sign.Minus line) = Some (signs.Minus, line)
