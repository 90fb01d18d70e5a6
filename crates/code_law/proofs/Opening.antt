-- The frame and the map of an activation that begins.
use Rattle.std.proofs.Common.{◌≡◌, ℕ, zero, suc, ◌+◌, ◌-◌, ◌<◌, ◌≤◌, inl, inr, Bool, true, false, List, [], ◌∷◌, ◌++◌, length, Some, ℤ, pos, ◌+ℤ◌, refl, sym, ◌∙◌, ap, subst, arith, append_assoc}
use Rattle.std.specs.Prelude.{slice_get, bytes_eq, reverse, replicate, if◌then◌else◌}
use Rattle.std.proofs.lemmas.Slice.Eq.{bytes_eq-Decides}
use Rattle.std.proofs.lemmas.Option.{same_Some, slice_get-get_or}
use Rattle.std.proofs.lemmas.List.{append-nil, reverse-append, reverse-reverse, get_or-replicate, length-replicate}
use Rattle.pascal_mean.specs.Means.{Owner, OfRoutine, Bounds, Parameter}
use Rattle.pascal_mean.specs.Situation.{Place}
use Rattle.pascal_mean.specs.Variables.{size_of}
use Rattle.pascal_mean.specs.Calls.{Passing, ByValue, ByVariable, ByArray, Given, Value, Alias, Elements, begun_map}
use Rattle.pascal_code.specs.Frames.{Frame, declared_words}
use Rattle.pascal_code.specs.Senses.{Sense, Variable, Array, Reference, sense_in}
use Rattle.code_law.specs.Regions.{Region, region_found, region_in, Apart, AreApart}
use Rattle.code_law.specs.Ties.{IsReferred, AreTied}
use Rattle.code_law.specs.Arguments.{IsAlias, AreWords, Suit, Lies, words_by, LieFrom}

-- ---- Words on top of the operands

abbrev pub on_top : List ℤ → List ℤ → List ℤ
on_top [] operands = operands
on_top (w ∷ words) operands = on_top words (w ∷ operands)

in_order : (words operands : List ℤ) → reverse (on_top words operands) ≡ reverse operands ++ words
in_order [] operands = sym (append-nil (reverse operands))
in_order (w ∷ words) operands =
    in_order words (w ∷ operands) ∙ ap (λ (l : List ℤ). l ++ words) (reverse-append (w ∷ []) operands) ∙ append_assoc (reverse operands) (w ∷ []) words

pub top_reversed : (words operands : List ℤ) → on_top words operands ≡ reverse words ++ operands
top_reversed words operands =
    sym (reverse-reverse (on_top words operands)) ∙ ap reverse (in_order words operands) ∙ reverse-append (reverse operands) words
    ∙ ap (λ (l : List ℤ). reverse words ++ l) (reverse-reverse operands)

-- ---- Words that are 0

pub zeros : (size b : ℕ) → b < size → slice_get (replicate size (pos 0)) b ≡ Some (pos 0)
zeros size b inside = slice_get-get_or (replicate size (pos 0)) b (pos 0) (omega (arith, inside, length-replicate size (pos 0)))
    ∙ ap Some (get_or-replicate size b (pos 0) (pos 0) inside)

-- ---- The new frame, with the words of the arguments and so many zeros
module _ (frames : List Frame) (number : ℕ) (g : Frame) (apart : AreApart g) (size : ℕ) where
  abbrev all_words : List ℤ → List ℤ
  all_words words = words ++ replicate size (pos 0)

  -- the words behind the n-th of a region that begins behind the parameter at the n-th
  one_on : (w : ℤ) (words : List ℤ) (n b : ℕ) → n + 1 ≤ b → slice_get (all_words (w ∷ words)) (b - n) ≡ slice_get (all_words words) (b - (n + 1))
  one_on w words n b low = let next : b - n ≡ suc (b - (n + 1)) = omega (arith, low) in ap (slice_get (all_words (w ∷ words))) next

  two_on : (v w : ℤ) (words : List ℤ) (n b : ℕ) → n + 2 ≤ b → slice_get (all_words (v ∷ w ∷ words)) (b - n) ≡ slice_get (all_words words) (b - (n + 2))
  two_on v w words n b low = let next : b - n ≡ suc (suc (b - (n + 2))) = omega (arith, low) in ap (slice_get (all_words (v ∷ w ∷ words))) next

  -- a parameter's region
  param_region : (n : ℕ) (x : List ℕ) (by : Passing) → Lies g n x by → region_in g x ≡ Some (record { first = n; count = words_by by })
  param_region n x ByValue lies = ap region_found lies
  param_region n x ByVariable lies = ap region_found lies
  param_region n x ByArray lies = absurd lies

  -- what isn't this parameter lies behind it, where it doesn't lie before
  behind : (n : ℕ) (x y : List ℕ) (by : Passing) (r : Region) → Lies g n x by → region_in g y ≡ Some r → (x ≡ y → ⊥) → n ≤ r.first → 1 ≤ r.count
      → n + words_by by ≤ r.first
  behind n x y by r lies at differ low some = by_order (apart.names x y (record { first = n; count = words_by by }) r (param_region n x by lies) at differ)
    where
      by_order : Apart (record { first = n; count = words_by by }) r → n + words_by by ≤ r.first
      by_order (inl order) = order
      by_order (inr order) = absurd (omega (arith, order, low, some))

  differs : (x y : List ℕ) (s t : Sense) → sense_in g x ≡ Some s → sense_in g y ≡ Some t → (s ≡ t → ⊥) → (x ≡ y → ⊥)
  differs x y s t at at_too apart_senses same = apart_senses (same_Some s t (sym at ∙ ap (sense_in g) same ∙ at_too))

  false_name : (x y : List ℕ) → bytes_eq x y ≡ false → (x ≡ y → ⊥)
  false_name x y e same = let t : true ≡ false = sym ((bytes_eq-Decides x y).1 same) ∙ e in cc

  no_reference : (a b : ℕ) (o : Owner) → Variable o a ≡ Reference b → ⊥
  no_reference a b o e = cc

  no_array : (a b : ℕ) (o p : Owner) (bounds : Bounds) → Variable o a ≡ Array p b bounds → ⊥
  no_array a b o p bounds e = cc

  array_no_reference : (a b : ℕ) (o : Owner) (bounds : Bounds) → Array o a bounds ≡ Reference b → ⊥
  array_no_reference a b o bounds e = cc

  same_variable : (a b : ℕ) (o p : Owner) → Variable o a ≡ Variable p b → a ≡ b
  same_variable a b o p e = cc

  same_reference : (a b : ℕ) → Reference a ≡ Reference b → a ≡ b
  same_reference a b e = cc

  -- ---- scalar variables
  pub scalars_from : (parameters : List Parameter) (given : List Given) (words : List ℤ) (n : ℕ) → LieFrom g n parameters → Suit parameters given
      → AreWords frames number given words
      → (x : List ℕ) (o : Owner) (a : ℕ) → sense_in g x ≡ Some (Variable o a) → n ≤ a → a - n < length words + size
      → slice_get (all_words words) (a - n) ≡ Some ((begun_map parameters given).values x)
  scalars_from [] [] [] n lie suit are x o a at low inside = zeros size (a - n) (omega (arith, inside))
  scalars_from [] [] (w ∷ words) n lie suit are x o a at low inside = absurd are
  scalars_from [] (g ∷ given) words n lie suit are x o a at low inside = absurd suit
  scalars_from (p ∷ parameters) [] words n lie suit are x o a at low inside = absurd suit
  scalars_from (p ∷ parameters) (Elements e ∷ given) words n lie suit are x o a at low inside = absurd suit.0
  scalars_from (p ∷ parameters) (Value v ∷ given) [] n lie suit are x o a at low inside = absurd are
  scalars_from (p ∷ parameters) (Value v ∷ given) (w ∷ words) n lie suit are x o a at low inside =
      let is : sense_in g p.letters ≡ Some (Variable OfRoutine n) = subst (Lies g n p.letters) suit.0 lie.0 in
      let next : LieFrom g (n + 1) parameters = subst (λ by. LieFrom g (n + words_by by) parameters) suit.0 lie.1 in
      by_name is (λ far. scalars_from parameters given words (n + 1) next suit.1 are.1 x o a at far (omega (arith, inside, far))) (bytes_eq p.letters x) refl
    where
      by_name : sense_in g p.letters ≡ Some (Variable OfRoutine n)
          → (n + 1 ≤ a → slice_get (all_words words) (a - (n + 1)) ≡ Some ((begun_map parameters given).values x)) → (same : Bool) → bytes_eq p.letters x ≡ same
          → slice_get (all_words (w ∷ words)) (a - n) ≡ Some (if same then v else (begun_map parameters given).values x)
      by_name is later true e =
          let here : n ≡ a = same_variable n a OfRoutine o (same_Some _ _ (sym is ∙ ap (sense_in g) ((bytes_eq-Decides p.letters x).0 e) ∙ at)) in
          let first : a - n ≡ 0 = omega (arith, here) in
          ap (slice_get (all_words (w ∷ words))) first ∙ ap Some are.0
      by_name is later false e =
          let far : n + 1 ≤ a = behind n p.letters x ByValue (record { first = a; count = 1 }) is (ap region_found at) (false_name p.letters x e) low
          (omega arith) in
          one_on w words n a far ∙ later far
  scalars_from (p ∷ parameters) (Alias v ∷ given) [] n lie suit are x o a at low inside = absurd are
  scalars_from (p ∷ parameters) (Alias v ∷ given) (w ∷ []) n lie suit are x o a at low inside = absurd are
  scalars_from (p ∷ parameters) (Alias v ∷ given) (w ∷ u ∷ words) n lie suit are x o a at low inside =
      let is : sense_in g p.letters ≡ Some (Reference n) = subst (Lies g n p.letters) suit.0 lie.0 in
      let next : LieFrom g (n + 2) parameters = subst (λ by. LieFrom g (n + words_by by) parameters) suit.0 lie.1 in
      let far : n + 2 ≤ a = behind n p.letters x ByVariable (record { first = a; count = 1 }) is (ap region_found at)
      (λ same. no_reference a n o (same_Some _ _ (sym at ∙ ap (sense_in g) (sym same) ∙ is))) low (omega arith) in
      two_on w u words n a far ∙ scalars_from parameters given words (n + 2) next suit.1 are.1 x o a at far (omega (arith, inside, far))

  -- ---- arrays
  pub arrays_from : (parameters : List Parameter) (given : List Given) (words : List ℤ) (n : ℕ) → LieFrom g n parameters → Suit parameters given
      → AreWords frames number given words
      → (x : List ℕ) (o : Owner) (a : ℕ) (bounds : Bounds) (i : ℕ) → sense_in g x ≡ Some (Array o a bounds) → i < size_of bounds → n ≤ a
      → a + i - n < length words + size
      → slice_get (all_words words) (a + i - n) ≡ Some ((begun_map parameters given).elements x (bounds.low +ℤ pos i))
  arrays_from [] [] [] n lie suit are x o a bounds i at within low inside = zeros size (a + i - n) (omega (arith, inside))
  arrays_from [] [] (w ∷ words) n lie suit are x o a bounds i at within low inside = absurd are
  arrays_from [] (g ∷ given) words n lie suit are x o a bounds i at within low inside = absurd suit
  arrays_from (p ∷ parameters) [] words n lie suit are x o a bounds i at within low inside = absurd suit
  arrays_from (p ∷ parameters) (Elements e ∷ given) words n lie suit are x o a bounds i at within low inside = absurd suit.0
  arrays_from (p ∷ parameters) (Value v ∷ given) [] n lie suit are x o a bounds i at within low inside = absurd are
  arrays_from (p ∷ parameters) (Value v ∷ given) (w ∷ words) n lie suit are x o a bounds i at within low inside =
      let is : sense_in g p.letters ≡ Some (Variable OfRoutine n) = subst (Lies g n p.letters) suit.0 lie.0 in
      let next : LieFrom g (n + 1) parameters = subst (λ by. LieFrom g (n + words_by by) parameters) suit.0 lie.1 in
      let far : n + 1 ≤ a = behind n p.letters x ByValue (record { first = a; count = size_of bounds }) is (ap region_found at)
      (λ same. no_array n a OfRoutine o bounds (same_Some _ _ (sym is ∙ ap (sense_in g) same ∙ at))) low (omega (arith, within)) in
      one_on w words n (a + i) (omega (arith, far)) ∙ arrays_from parameters given words (n + 1) next suit.1 are.1 x o a bounds i at within far
      (omega (arith, inside, far))
  arrays_from (p ∷ parameters) (Alias v ∷ given) [] n lie suit are x o a bounds i at within low inside = absurd are
  arrays_from (p ∷ parameters) (Alias v ∷ given) (w ∷ []) n lie suit are x o a bounds i at within low inside = absurd are
  arrays_from (p ∷ parameters) (Alias v ∷ given) (w ∷ u ∷ words) n lie suit are x o a bounds i at within low inside =
      let is : sense_in g p.letters ≡ Some (Reference n) = subst (Lies g n p.letters) suit.0 lie.0 in
      let next : LieFrom g (n + 2) parameters = subst (λ by. LieFrom g (n + words_by by) parameters) suit.0 lie.1 in
      let far : n + 2 ≤ a = behind n p.letters x ByVariable (record { first = a; count = size_of bounds }) is (ap region_found at)
      (λ same. array_no_reference a n o bounds (same_Some _ _ (sym at ∙ ap (sense_in g) (sym same) ∙ is))) low (omega (arith, within)) in
      two_on w u words n (a + i) (omega (arith, far)) ∙ arrays_from parameters given words (n + 2) next suit.1 are.1 x o a bounds i at within far
      (omega (arith, inside, far))

  -- ---- VAR parameters: none is another name that no argument has
  pub record RefersFrom (words : List ℤ) (n a : ℕ) (at : Place) : Type 0 where
    pub one : ℤ
    pub two : ℤ
    pub alias : IsAlias frames number at one two
    pub first : slice_get (all_words words) (a - n) ≡ Some one
    pub second : slice_get (all_words words) (a + 1 - n) ≡ Some two

  pub references_from : (parameters : List Parameter) (given : List Given) (words : List ℤ) (n : ℕ) → LieFrom g n parameters → Suit parameters given
      → AreWords frames number given words
      → (x : List ℕ) (a : ℕ) → sense_in g x ≡ Some (Reference a) → n ≤ a → a < g.parameters → RefersFrom words n a ((begun_map parameters given).references x)
  references_from [] given words n lie suit are x a at low parameter = absurd (omega (arith, low, parameter, lie))
  references_from (p ∷ parameters) [] words n lie suit are x a at low parameter = absurd suit
  references_from (p ∷ parameters) (Elements e ∷ given) words n lie suit are x a at low parameter = absurd suit.0
  references_from (p ∷ parameters) (Value v ∷ given) [] n lie suit are x a at low parameter = absurd are
  references_from (p ∷ parameters) (Value v ∷ given) (w ∷ words) n lie suit are x a at low parameter =
      let is : sense_in g p.letters ≡ Some (Variable OfRoutine n) = subst (Lies g n p.letters) suit.0 lie.0 in
      let next : LieFrom g (n + 1) parameters = subst (λ by. LieFrom g (n + words_by by) parameters) suit.0 lie.1 in
      let far : n + 1 ≤ a = behind n p.letters x ByValue (record { first = a; count = 2 }) is (ap region_found at)
      (λ same. no_reference n a OfRoutine (same_Some _ _ (sym is ∙ ap (sense_in g) same ∙ at))) low (omega arith) in
      let more = references_from parameters given words (n + 1) next suit.1 are.1 x a at far parameter in
      record {
        one = more.one;
        two = more.two;
        alias = more.alias;
        first = one_on w words n a far ∙ more.first;
        second =
            one_on w words n (a + 1) (omega (arith, far)) ∙ more.second;
      }
  references_from (p ∷ parameters) (Alias v ∷ given) [] n lie suit are x a at low parameter = absurd are
  references_from (p ∷ parameters) (Alias v ∷ given) (w ∷ []) n lie suit are x a at low parameter = absurd are
  references_from (p ∷ parameters) (Alias v ∷ given) (w ∷ u ∷ words) n lie suit are x a at low parameter =
      let is : sense_in g p.letters ≡ Some (Reference n) = subst (Lies g n p.letters) suit.0 lie.0 in
      let next : LieFrom g (n + 2) parameters = subst (λ by. LieFrom g (n + words_by by) parameters) suit.0 lie.1 in
      by_name is (λ far. references_from parameters given words (n + 2) next suit.1 are.1 x a at far parameter) (bytes_eq p.letters x) refl
    where
      by_name : sense_in g p.letters ≡ Some (Reference n) → (n + 2 ≤ a → RefersFrom words (n + 2) a ((begun_map parameters given).references x)) → (same : Bool)
          → bytes_eq p.letters x ≡ same
          → RefersFrom (w ∷ u ∷ words) n a (if same then v else (begun_map parameters given).references x)
      by_name is later true e =
          let here : n ≡ a = same_reference n a (same_Some _ _ (sym is ∙ ap (sense_in g) ((bytes_eq-Decides p.letters x).0 e) ∙ at)) in
          let first : a - n ≡ 0 = omega (arith, here) in
          let second : a + 1 - n ≡ 1 = omega (arith, here) in
          record {
            one = w;
            two = u;
            alias = are.0;
            first = ap (slice_get (all_words (w ∷ u ∷ words))) first;
            second =
                ap (slice_get (all_words (w ∷ u ∷ words))) second;
          }
      by_name is later false e =
          let far : n + 2 ≤ a = behind n p.letters x ByVariable (record { first = a; count = 2 }) is (ap region_found at) (false_name p.letters x e) low
          (omega arith) in
          let more = later far in
          record {
            one = more.one;
            two = more.two;
            alias = more.alias;
            first = two_on w u words n a far ∙ more.first;
            second =
                two_on w u words n (a + 1) (omega (arith, far)) ∙ more.second;
          }

-- as many words as the parameters take
pub parameter_words : (frames : List Frame) (number : ℕ) (g : Frame) (parameters : List Parameter) (given : List Given) (words : List ℤ) (n : ℕ)
    → LieFrom g n parameters → Suit parameters given → AreWords frames number given words → n + length words ≡ g.parameters
parameter_words frames number g [] [] [] n lie suit are = omega (arith, lie)
parameter_words frames number g [] [] (w ∷ words) n lie suit are = absurd are
parameter_words frames number g [] (h ∷ given) words n lie suit are = absurd suit
parameter_words frames number g (p ∷ parameters) [] words n lie suit are = absurd suit
parameter_words frames number g (p ∷ parameters) (Elements e ∷ given) words n lie suit are = absurd suit.0
parameter_words frames number g (p ∷ parameters) (Value v ∷ given) [] n lie suit are = absurd are
parameter_words frames number g (p ∷ parameters) (Value v ∷ given) (w ∷ words) n lie suit are =
    omega (
      arith,
      parameter_words frames number g parameters given words (n + 1)
          (subst (λ by. LieFrom g (n + words_by by) parameters) suit.0 lie.1) suit.1 are.1,
    )
parameter_words frames number g (p ∷ parameters) (Alias v ∷ given) [] n lie suit are = absurd are
parameter_words frames number g (p ∷ parameters) (Alias v ∷ given) (w ∷ []) n lie suit are = absurd are
parameter_words frames number g (p ∷ parameters) (Alias v ∷ given) (w ∷ u ∷ words) n lie suit are =
    omega (
      arith,
      parameter_words frames number g parameters given words (n + 2)
          (subst (λ by. LieFrom g (n + words_by by) parameters) suit.0 lie.1) suit.1 are.1,
    )

answer_is_zero : (parameters : List Parameter) (given : List Given) → (begun_map parameters given).answer ≡ pos 0
answer_is_zero [] given = refl
answer_is_zero (p ∷ parameters) [] = answer_is_zero parameters []
answer_is_zero (p ∷ parameters) (Value v ∷ given) = answer_is_zero parameters given
answer_is_zero (p ∷ parameters) (Alias at ∷ given) = answer_is_zero parameters given
answer_is_zero (p ∷ parameters) (Elements a ∷ given) = answer_is_zero parameters given

behind_words : (words : List ℤ) (size b : ℕ) → length words ≤ b → b - length words < size → slice_get (words ++ replicate size (pos 0)) b ≡ Some (pos 0)
behind_words [] size b low inside = zeros size b (omega (arith, inside))
behind_words (w ∷ words) size zero low inside = absurd (omega (arith, low))
behind_words (w ∷ words) size (suc b) low inside = behind_words words size b (omega (arith, low)) (omega (arith, inside))

from_zero : (b : ℕ) → b ≡ b - 0
from_zero b = omega arith

-- The whole frame of an activation that begins. Each VAR parameter is one of its parameters.
pub begun_is_tied : (frames : List Frame) (number : ℕ) (g : Frame) → AreApart g → ((x : List ℕ) (a : ℕ) → sense_in g x ≡ Some (Reference a) → a < g.parameters)
    → (parameters : List Parameter) (given : List Given) (words : List ℤ) (size : ℕ) → LieFrom g 0 parameters → Suit parameters given
    → AreWords frames number given words
    → declared_words g ≤ length words + size → g.parameters + g.result ≤ declared_words g
    → AreTied frames number g (begun_map parameters given) (words ++ replicate size (pos 0))
begun_is_tied frames number g apart among parameters given words size lie suit are wide low = record {
  scalars = λ x o a at. ap (slice_get (words ++ replicate size (pos 0))) (from_zero a)
      ∙ scalars_from frames number g apart size parameters given words 0 lie suit are x o a at (omega arith)
      (omega (arith, wide, apart.inside x (record { first = a; count = 1 }) (ap region_found at)));
  arrays = λ x o a bounds i at within. ap (slice_get (words ++ replicate size (pos 0))) (from_zero (a + i))
      ∙ arrays_from frames number g apart size parameters given words 0 lie suit are x o a bounds i at within (omega arith)
      (omega (arith, wide, within, apart.inside x (record { first = a; count = size_of bounds }) (ap region_found at)));
  references = λ x a at. refers x a (references_from frames number g apart size parameters given words 0 lie suit are x a at (omega arith) (among x a at));
  answer = λ has. behind_words words size g.parameters (omega (arith, parameter_words frames number g parameters given words 0 lie suit are))
      (omega (arith, parameter_words frames number g parameters given words 0 lie suit are, wide, has, low)) ∙ ap Some (sym (answer_is_zero parameters given));
}
  where
    refers : (x : List ℕ) (a : ℕ) → RefersFrom frames number g apart size words 0 a ((begun_map parameters given).references x)
        → IsReferred frames number (words ++ replicate size (pos 0)) a ((begun_map parameters given).references x)
    refers x a r = record {
      below = (r.alias).below;
      numbered = ap (slice_get (words ++ replicate size (pos 0))) (from_zero a) ∙ r.first ∙ ap Some (r.alias).first;
      frame = (r.alias).frame;
      frame_is = (r.alias).frame_is;
      owner = (r.alias).owner;
      word = (r.alias).word;
      is = (r.alias).is;
      placed = ap (slice_get (words ++ replicate size (pos 0))) (from_zero (a + 1)) ∙ r.second ∙ ap Some (r.alias).second;
    }
