-- Each name has words of its own, whatever the declarations are.
use Rattle.std.proofs.Common.{◌≡◌, ℕ, ◌+◌, ◌≤◌, ◌<◌, ◌⊎◌, inl, inr, Bool, true, false, List, [], ◌∷◌, Option, Some, None, refl, sym, ◌∙◌, ap, arith}
use Rattle.std.specs.Prelude.{bytes_eq, nat_lt, if◌then◌else◌}
use Rattle.std.proofs.lemmas.Slice.Eq.{bytes_eq-Decides}
use Rattle.std.proofs.lemmas.Option.{none-some, same_Some}
use Rattle.std.proofs.lemmas.Bool.Decides.{nat_tests}
use Rattle.pascal_tree.specs.declared.declaration.Definition.{Definition}
use Rattle.pascal_tree.specs.Program.{Group, Consts, Vars, Block}
use Rattle.pascal_mean.specs.Means.{Means, Owner, OfRoutine, Signature}
use Rattle.pascal_mean.specs.Means as meant
use Rattle.pascal_mean.specs.Predeclared.{Item}
use Rattle.pascal_mean.specs.Scope.{Scope, scope_of}
use Rattle.pascal_mean.specs.Declarations.{declared_names, declared_definitions, declared_constants, declared_groups, declared_variables, declared_parameters, constant_item, variable_of, name_list}
use Rattle.pascal_code.specs.Frames.{Frame, words_of, words_in, behind_result, place_behind, plain_frame, routine_frame}
use Rattle.pascal_code.specs.Senses.{sense, sense_among}
use Rattle.code_law.specs.Regions.{Region, region_of, region_found, result_region, Apart, AreApart}

-- ---- Where a list of declarations has a border: so many words are declared by one of its ends
abbrev pub IsBorder : ℕ → List Item → Type 0
IsBorder b [] = b ≡ 0
IsBorder b (i ∷ earlier) = (b ≡ words_in (i ∷ earlier)) ⊎ IsBorder b earlier

pub border_low : (b : ℕ) (items : List Item) → IsBorder b items → b ≤ words_in items
border_low b [] is = omega (arith, is)
border_low b (i ∷ earlier) (inl is) = omega (arith, is)
border_low b (i ∷ earlier) (inr below) = omega (arith, border_low b earlier below)

pub whole_border : (items : List Item) → IsBorder (words_in items) items
whole_border [] = refl
whole_border (i ∷ earlier) = inl refl

pub no_border : (items : List Item) → IsBorder 0 items
no_border [] = refl
no_border (i ∷ earlier) = inr (no_border earlier)

names_keep : (b : ℕ) (means : Means) (xs : List (List ℕ)) (items : List Item) → IsBorder b items → IsBorder b (declared_names means xs items)
names_keep b means [] items is = is
names_keep b means (x ∷ more) items is = names_keep b means more (record { letters = x; means = means } ∷ items) (inr is)

definitions_keep : (b : ℕ) (scope : List Item → Scope) (ds : List Definition) (items : List Item) → IsBorder b items
    → IsBorder b (declared_definitions scope ds items)
definitions_keep b scope [] items is = is
definitions_keep b scope (d ∷ more) items is = definitions_keep b scope more (constant_item (scope items) d ∷ items) (inr is)

constants_keep : (b : ℕ) (scope : List Item → Scope) (c : Option Consts) (items : List Item) → IsBorder b items → IsBorder b (declared_constants scope c items)
constants_keep b scope None items is = is
constants_keep b scope (Some c) items is = definitions_keep b scope (c.first ∷ c.rest) items is

groups_keep : (b : ℕ) (owner : Owner) (scope : List Item → Scope) (gs : List Group) (items : List Item) → IsBorder b items
    → IsBorder b (declared_groups owner scope gs items)
groups_keep b owner scope [] items is = is
groups_keep b owner scope (g ∷ more) items is =
    let means = variable_of owner (scope items) g.kind in
    groups_keep b owner scope more (declared_names means (name_list g.names) items) (names_keep b means (name_list g.names) items is)

variables_keep : (b : ℕ) (owner : Owner) (scope : List Item → Scope) (v : Option Vars) (items : List Item) → IsBorder b items
    → IsBorder b (declared_variables owner scope v items)
variables_keep b owner scope None items is = is
variables_keep b owner scope (Some v) items is = groups_keep b owner scope (v.first ∷ v.rest) items is

-- the parameters of a routine end at a border of its declarations
pub parameters_border : (known : List Item) (signature : Signature) (b : Block) → let f = routine_frame known signature b in IsBorder f.parameters f.items
parameters_border known signature b =
    let scope : List Item → Scope = λ own. scope_of own known in
    let these = declared_parameters signature.parameters [] in
    variables_keep (words_in these) OfRoutine scope b.vars (declared_constants scope b.consts these)
    (constants_keep (words_in these) scope b.consts these (whole_border these))

-- ---- A name's words, as they are counted without the result
pub record Stands (f : Frame) (items : List Item) (r : Region) : Type 0 where
  pub at : ℕ
  pub first : r.first ≡ behind_result f at
  pub low : at + r.count ≤ words_in items
  pub border : (b : ℕ) → IsBorder b items → (at + r.count ≤ b) ⊎ (b ≤ at)

-- the words of what means this
words_there : (means : Means) (a : ℕ) (r : Region) → region_of (sense means a) ≡ Some r → (r.first ≡ a) × (r.count ≡ words_of means)
words_there (meant.Variable owner t) a r is = let e = same_Some _ r is in (sym (ap (λ (s : Region). s.first) e), sym (ap (λ (s : Region). s.count) e))
words_there (meant.Array owner t bounds) a r is = let e = same_Some _ r is in (sym (ap (λ (s : Region). s.first) e), sym (ap (λ (s : Region). s.count) e))
words_there (meant.Reference t) a r is = let e = same_Some _ r is in (sym (ap (λ (s : Region). s.first) e), sym (ap (λ (s : Region). s.count) e))
words_there (meant.Constant t v) a r is = absurd (none-some r is)
words_there (meant.Routine k signature) a r is = absurd (none-some r is)
words_there (meant.Function g) a r is = absurd (none-some r is)
words_there (meant.Interface p) a r is = absurd (none-some r is)
words_there (meant.TypeName t) a r is = absurd (none-some r is)
words_there meant.Nothing a r is = absurd (none-some r is)

latest_stands : (f : Frame) (i : Item) (earlier : List Item) (r : Region) → region_of (sense i.means (place_behind f earlier)) ≡ Some r
    → Stands f (i ∷ earlier) r
latest_stands f i earlier r is =
    let there = words_there i.means (place_behind f earlier) r is in
    record { at = words_in earlier; first = there.0; low = omega (arith, there.1); border = λ b at. by_border b at }
  where
    by_border : (b : ℕ) → IsBorder b (i ∷ earlier) → (words_in earlier + r.count ≤ b) ⊎ (b ≤ words_in earlier)
    by_border b (inl top) = inl (omega (arith, top, (words_there i.means (place_behind f earlier) r is).1))
    by_border b (inr below) = inr (border_low b earlier below)

earlier_stands : (f : Frame) (i : Item) (earlier : List Item) (r : Region) → Stands f earlier r → Stands f (i ∷ earlier) r
earlier_stands f i earlier r is = record { at = is.at; first = is.first; low = omega (arith, is.low); border = λ b at. by_border b at }
  where
    by_border : (b : ℕ) → IsBorder b (i ∷ earlier) → (is.at + r.count ≤ b) ⊎ (b ≤ is.at)
    by_border b (inl top) = inl (omega (arith, top, is.low))
    by_border b (inr below) = is.border b below

pub stands : (f : Frame) (items : List Item) (x : List ℕ) (r : Region) → region_found (sense_among f items x) ≡ Some r → Stands f items r
stands f [] x r is = absurd (none-some r is)
stands f (i ∷ earlier) x r is = by_name (stands f earlier x r) (bytes_eq i.letters x) is
  where
    by_name : (region_found (sense_among f earlier x) ≡ Some r → Stands f earlier r) → (same : Bool)
        → region_found (if same then Some (sense i.means (place_behind f earlier)) else sense_among f earlier x) ≡ Some r → Stands f (i ∷ earlier) r
    by_name later true is = latest_stands f i earlier r is
    by_name later false is = earlier_stands f i earlier r (later is)

-- ---- Two names
-- one stands behind the other
abbrev InOrder : (f : Frame) (a b : List Item) (r s : Region) → Type 0
InOrder f a b r s = (p : Stands f a r) × ((q : Stands f b s) × ((p.at + r.count ≤ q.at) ⊎ (q.at + s.count ≤ p.at)))

both_stand : (f : Frame) (items : List Item) (x y : List ℕ) (r s : Region) → (x ≡ y → ⊥) → region_found (sense_among f items x) ≡ Some r
    → region_found (sense_among f items y) ≡ Some s
    → InOrder f items items r s
unfolding earlier_stands latest_stands
both_stand f [] x y r s differ is is_too = absurd (none-some r is)
both_stand f (i ∷ earlier) x y r s differ is is_too =
    by_names (both_stand f earlier x y r s differ) (bytes_eq i.letters x) (bytes_eq i.letters y) refl refl is is_too
  where
    by_names : (region_found (sense_among f earlier x) ≡ Some r → region_found (sense_among f earlier y) ≡ Some s → InOrder f earlier earlier r s)
        → (one other : Bool) → bytes_eq i.letters x ≡ one → bytes_eq i.letters y ≡ other
        → region_found (if one then Some (sense i.means (place_behind f earlier)) else sense_among f earlier x) ≡ Some r
        → region_found (if other then Some (sense i.means (place_behind f earlier)) else sense_among f earlier y) ≡ Some s
        → InOrder f (i ∷ earlier) (i ∷ earlier) r s
    by_names later true true e e_too is is_too = absurd (differ (sym ((bytes_eq-Decides i.letters x).0 e) ∙ (bytes_eq-Decides i.letters y).0 e_too))
    by_names later true false e e_too is is_too =
        let q = stands f earlier y s is_too in
        (latest_stands f i earlier r is, (earlier_stands f i earlier s q, inr q.low))
    by_names later false true e e_too is is_too =
        let p = stands f earlier x r is in
        (earlier_stands f i earlier r p, (latest_stands f i earlier s is_too, inl p.low))
    by_names later false false e e_too is is_too =
        let both = later is is_too in
        (earlier_stands f i earlier r both.0, (earlier_stands f i earlier s both.1.0, both.1.1))

-- ---- In the frame
behind_low : (f : Frame) (n : ℕ) → behind_result f n ≤ n + f.result
behind_low f n = by_test (nat_lt n f.parameters)
  where
    by_test : (b : Bool) → (if b then n else n + f.result) ≤ n + f.result
    by_test true = omega arith
    by_test false = omega arith

behind_high : (f : Frame) (n : ℕ) → n ≤ behind_result f n
behind_high f n = by_test (nat_lt n f.parameters)
  where
    by_test : (b : Bool) → n ≤ (if b then n else n + f.result)
    by_test true = omega arith
    by_test false = omega arith

behind_order : (f : Frame) (m n c : ℕ) → m + c ≤ n → behind_result f m + c ≤ behind_result f n
behind_order f m n c low = by_tests (nat_lt m f.parameters) (nat_lt n f.parameters) refl refl
  where
    by_tests : (one other : Bool) → nat_lt m f.parameters ≡ one → nat_lt n f.parameters ≡ other
        → (if one then m else m + f.result) + c ≤ (if other then n else n + f.result)
    by_tests true true e e_too = low
    by_tests true false e e_too = omega (arith, low)
    by_tests false true e e_too = let far : f.parameters ≤ m = grind (arith, nat_tests) in let near : n < f.parameters =
        grind (arith, nat_tests) in absurd (omega (arith, low, far, near))
    by_tests false false e e_too = omega (arith, low)

-- beside the result
beside_result : (f : Frame) (n c : ℕ) → (n + c ≤ f.parameters) ⊎ (f.parameters ≤ n)
    → (behind_result f n + c ≤ f.parameters) ⊎ (f.parameters + f.result ≤ behind_result f n)
beside_result f n c border = by_test (nat_lt n f.parameters) refl border
  where
    by_test : (b : Bool) → nat_lt n f.parameters ≡ b → (n + c ≤ f.parameters) ⊎ (f.parameters ≤ n)
        → ((if b then n else n + f.result) + c ≤ f.parameters) ⊎ (f.parameters + f.result ≤ (if b then n else n + f.result))
    by_test true e (inl low) = inl low
    by_test true e (inr high) = let near : n < f.parameters = grind (arith, nat_tests) in absurd (omega (arith, high, near))
    by_test false e border = let far : f.parameters ≤ n = grind (arith, nat_tests) in inr (omega (arith, far))

pub are_apart : (f : Frame) → IsBorder f.parameters f.items → AreApart f
are_apart f border = record {
  names = λ x y r s is is_too differ. apart (both_stand f f.items x y r s differ is is_too);
  result = λ x r is. by_result (stands f f.items x r is);
  inside = λ x r is. let p = stands f f.items x r is in omega (arith, p.first, p.low, behind_low f p.at);
}
  where
    apart : {r s : Region} → InOrder f f.items f.items r s → Apart r s
    apart {r} {s} (p, (q, inl low)) = inl (omega (arith, p.first, q.first, behind_order f p.at q.at r.count low))
    apart {r} {s} (p, (q, inr low)) = inr (omega (arith, p.first, q.first, behind_order f q.at p.at s.count low))

    by_result : {r : Region} → Stands f f.items r → Apart r (result_region f)
    by_result {r} p = in_frame (beside_result f p.at r.count (p.border f.parameters border))
      where
        in_frame : (behind_result f p.at + r.count ≤ f.parameters) ⊎ (f.parameters + f.result ≤ behind_result f p.at) → Apart r (result_region f)
        in_frame (inl low) = inl (omega (arith, p.first, low))
        in_frame (inr high) = inr (omega (arith, p.first, high))

pub plain_is_apart : (items : List Item) → AreApart (plain_frame items)
plain_is_apart items = are_apart (plain_frame items) (no_border items)

pub routine_is_apart : (known : List Item) (signature : Signature) (b : Block) → AreApart (routine_frame known signature b)
routine_is_apart known signature b = are_apart (routine_frame known signature b) (parameters_border known signature b)
