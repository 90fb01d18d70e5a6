-- The list that a map stands for whose values say in which order its entries were added.
use Rattle.std.specs.Prelude.{◌≡◌, ◌≤◌, ℕ, zero, suc, ℤ, nat_eq, List, [], ◌∷◌, ◌++◌, length, reverse, Option, option_map, if◌then◌else◌}
use Rattle.std.specs.Cmp.Lexicographic.{slice_cmp}
use Rattle.std.specs.Global.{Vec}
use Rattle.std.specs.List.{list_any}
use Rattle.std.specs.Map.{lookup}
use Rattle.std.specs.Option.{is_some}
use Rattle.std.specs.Ordering.{is_eq, nat_cmp, int_cmp, int_eq}
use Rattle.pascal_tree.specs.Scopes.{Declared, named_as, found}
use Rattle.pascal_tree.specs.declared.means.Means.{Means}

module _ {E D : Type 0} (number : E → ℕ) (shown : E → D) where
  -- what the entry with this number stands for, if there is one
  abbrev pub numbered : List E → ℕ → List D
  numbered [] n = []
  numbered (e ∷ es) n = if nat_eq (number e) n then shown e ∷ [] else numbered es n

  -- what the entries with lower numbers stand for, in the order of these
  abbrev pub in_order : List E → ℕ → List D
  in_order es zero = []
  in_order es (suc n) = in_order es n ++ numbered es n

  -- each number is below that of the next entry
  abbrev pub AreNumbered : List E → Type 0
  AreNumbered es = (n : ℕ) → length es ≤ n → numbered es n ≡ []

-- ---- Declarations by their names

abbrev pub NumberedNames : Type 0
NumberedNames = List (Vec ℕ × (ℕ × Means))

abbrev pub place_of : Vec ℕ × (ℕ × Means) → ℕ
place_of e = (e.1).0

abbrev pub declared_by : Vec ℕ × (ℕ × Means) → Declared
declared_by e = named_as (e.0).items (e.1).1

-- the latest first
abbrev pub latest_first : NumberedNames → List Declared
latest_first es = reverse (in_order place_of declared_by es (length es))

-- what a map has at a name
abbrev pub looked_up : {X : Type 0} → List (Vec ℕ × X) → List ℕ → Option X
looked_up es name = lookup (λ k. is_eq (slice_cmp nat_cmp name k.items)) es

-- a name is found as in the list
abbrev pub AreLookedUp : NumberedNames → Type 0
AreLookedUp es = (name : List ℕ) → option_map (λ v. v.1) (looked_up es name) ≡ found (latest_first es) name

-- ---- Values

-- in the order in which they were added
abbrev pub values_added : List (ℤ × ℕ) → List ℤ
values_added es = in_order (λ e. e.1) (λ e. e.0) es (length es)

-- a value is there where the list has it
abbrev pub AreAmong : List (ℤ × ℕ) → Type 0
AreAmong es = (v : ℤ) → is_some (lookup (λ k. is_eq (int_cmp v k)) es) ≡ list_any (int_eq v) (values_added es)
