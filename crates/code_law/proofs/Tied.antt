-- A write to one name's word leaves the words of all others.
use Rattle.std.proofs.Common.{◌≡◌, ℕ, ◌+◌, ◌<◌, ◌≤◌, inl, inr, Bool, true, false, ◌&&◌, List, Some, ℤ, pos, ◌+ℤ◌, refl, sym, ◌∙◌, ap, subst, arith}
use Rattle.std.specs.Prelude.{slice_get, slice_set, bytes_eq, if◌then◌else◌}
use Rattle.std.specs.Ordering.{int_eq}
use Rattle.std.proofs.lemmas.Slice.Eq.{bytes_eq-Decides}
use Rattle.std.proofs.lemmas.Bool.Decides.{Decides-int_eq}
use Rattle.std.proofs.lemmas.Option.{same_Some}
use Rattle.pascal_mean.specs.Means.{Owner, Bounds}
use Rattle.pascal_mean.specs.Situation.{Place, Map}
use Rattle.pascal_mean.specs.Variables.{size_of, put_value, put_element, put_answer}
use Rattle.pascal_code.specs.Frames.{Frame, declared_words}
use Rattle.pascal_code.specs.Senses.{Sense, Variable, Array, Reference, sense_in}
use Rattle.code_law.specs.Regions.{Region, region_found, region_in, result_region, Apart, AreApart}
use Rattle.code_law.specs.Ties.{IsReferred, AreTied}
use Rattle.code_law.proofs.Words.{same_word, other_word}
use Rattle.code_law.proofs.Indexes.{same_place}

-- the words of two names whose senses differ are apart
module _ {f : Frame} (apart : AreApart f) where
  beside : (x y : List ℕ) (r s : Region) (i j : ℕ) → region_in f x ≡ Some r → region_in f y ≡ Some s → (x ≡ y → ⊥) → i < r.count → j < s.count
      → (r.first + i ≡ s.first + j → ⊥)
  beside x y r s i j is is_too differ low low_too same = by_order (apart.names x y r s is is_too differ)
    where
      by_order : Apart r s → ⊥
      by_order (inl order) = omega (arith, order, same, low, low_too)
      by_order (inr order) = omega (arith, order, same, low, low_too)

  beside_result : (x : List ℕ) (r : Region) (i j : ℕ) → region_in f x ≡ Some r → i < r.count → j < f.result → (r.first + i ≡ f.parameters + j → ⊥)
  beside_result x r i j is low low_too same = by_order (apart.result x r is)
    where
      by_order : Apart r (result_region f) → ⊥
      by_order (inl order) = omega (arith, order, same, low, low_too)
      by_order (inr order) = omega (arith, order, same, low, low_too)

-- a sense is found once
one_sense : (f : Frame) {x y : List ℕ} (s t : Sense) → sense_in f x ≡ Some s → sense_in f y ≡ Some t → x ≡ y → s ≡ t
one_sense f {x} {y} s t is is_too same = same_Some s t (sym is ∙ ap (sense_in f) same ∙ is_too)

no_array : (o p : Owner) (a b : ℕ) (bounds : Bounds) → Variable o a ≡ Array p b bounds → ⊥
no_array o p a b bounds e = cc

no_reference : (o : Owner) (a b : ℕ) → Variable o a ≡ Reference b → ⊥
no_reference o a b e = cc

array_no_reference : (o : Owner) (a b : ℕ) (bounds : Bounds) → Array o a bounds ≡ Reference b → ⊥
array_no_reference o a b bounds e = cc

same_first : (o p : Owner) (a b : ℕ) → Variable o a ≡ Variable p b → a ≡ b
same_first o p a b e = cc

same_array : (o p : Owner) (a b : ℕ) (m n : Bounds) → Array o a m ≡ Array p b n → (a ≡ b) × (m ≡ n)
same_array o p a b m n e = (cc, cc)

false_name : (x y : List ℕ) → bytes_eq x y ≡ false → (x ≡ y → ⊥)
false_name x y e same = let t : true ≡ false = sym ((bytes_eq-Decides x y).1 same) ∙ e in cc

-- the two words of a reference stay
referred_beside : {frames : List Frame} {d : ℕ} {words : List ℤ} {a : ℕ} {p : Place} (at : ℕ) (v : ℤ) → (at ≡ a → ⊥) → (at ≡ a + 1 → ⊥)
    → IsReferred frames d words a p → IsReferred frames d (slice_set words at v) a p
referred_beside {frames} {d} {words} {a} at v apart apart_too is = record {
  below = is.below;
  numbered = other_word words at a v apart ∙ is.numbered;
  frame = is.frame;
  frame_is = is.frame_is;
  owner = is.owner;
  word = is.word;
  is = is.is;
  placed = other_word words at (a + 1) v apart_too ∙ is.placed;
}

module _ {frames : List Frame} {d : ℕ} {f : Frame} {m : Map} {words : List ℤ} (apart : AreApart f) (tied : AreTied frames d f m words) where
  -- ---- a scalar variable
  module _ (x : List ℕ) (o : Owner) (a : ℕ) (v : ℤ) (is : sense_in f x ≡ Some (Variable o a)) where
    region_here : region_in f x ≡ Some (record { first = a; count = 1 })
    region_here = ap region_found is

    scalar_beside : (y : List ℕ) (p : Owner) (b : ℕ) (same : Bool) → bytes_eq x y ≡ same → sense_in f y ≡ Some (Variable p b)
        → slice_get (slice_set words a v) b ≡ Some (if same then v else m.values y)
    scalar_beside y p b true e at =
        let here : a ≡ b = same_first o p a b (one_sense f (Variable o a) (Variable p b) is at ((bytes_eq-Decides x y).0 e)) in
        subst (λ n. slice_get (slice_set words a v) n ≡ Some v) here (same_word words a (m.values x) v (tied.scalars x o a is))
    scalar_beside y p b false e at =
        other_word words a b v (λ same. beside apart x y (record { first = a; count = 1 }) (record { first = b; count = 1 }) 0 0 region_here
        (ap region_found at) (false_name x y e) (omega arith) (omega arith) (omega (arith, same)))
        ∙ tied.scalars y p b at

    array_beside : (y : List ℕ) (p : Owner) (b : ℕ) (bounds : Bounds) (i : ℕ) → sense_in f y ≡ Some (Array p b bounds) → i < size_of bounds
        → slice_get (slice_set words a v) (b + i) ≡ Some (m.elements y (bounds.low +ℤ pos i))
    array_beside y p b bounds i at low =
        other_word words a (b + i) v (λ same. beside apart x y (record { first = a; count = 1 }) (record { first = b; count = size_of bounds }) 0 i region_here
        (ap region_found at)
        (λ one. no_array o p a b bounds (one_sense f (Variable o a) (Array p b bounds) is at one)) (omega arith) low (omega (arith, same)))
        ∙ tied.arrays y p b bounds i at low

    reference_beside : (y : List ℕ) (b : ℕ) → sense_in f y ≡ Some (Reference b) → IsReferred frames d (slice_set words a v) b (m.references y)
    reference_beside y b at =
        let differ : x ≡ y → ⊥ = λ one. no_reference o a b (one_sense f (Variable o a) (Reference b) is at one) in
        let there : region_in f y ≡ Some (record { first = b; count = 2 }) = ap region_found at in
        referred_beside a v
        (λ same. beside apart x y (record { first = a; count = 1 }) (record { first = b; count = 2 }) 0 0 region_here there differ (omega arith) (omega arith)
        (omega (arith, same)))
        (λ same. beside apart x y (record { first = a; count = 1 }) (record { first = b; count = 2 }) 0 1 region_here there differ (omega arith) (omega arith)
        (omega (arith, same)))
        (tied.references y b at)

    answer_beside : f.result ≡ 1 → slice_get (slice_set words a v) f.parameters ≡ Some m.answer
    answer_beside has =
        other_word words a f.parameters v (λ same. beside_result apart x (record { first = a; count = 1 }) 0 0 region_here (omega arith) (omega (arith, has))
        (omega (arith, same)))
        ∙ tied.answer has

    pub tied_value : AreTied frames d f (put_value x v m) (slice_set words a v)
    tied_value = record {
      scalars = λ y p b at. scalar_beside y p b (bytes_eq x y) refl at;
      arrays = λ y p b bounds i at low. array_beside y p b bounds i at low;
      references = λ y b at. reference_beside y b at;
      answer = λ has. answer_beside has;
    }

  -- ---- an element of an array
  module _ (x : List ℕ) (o : Owner) (a : ℕ) (bounds : Bounds) (k : ℕ) (v : ℤ) (is : sense_in f x ≡ Some (Array o a bounds)) (inside : k < size_of bounds) where
    array_here : region_in f x ≡ Some (record { first = a; count = size_of bounds })
    array_here = ap region_found is

    value_stays : (y : List ℕ) (p : Owner) (b : ℕ) → sense_in f y ≡ Some (Variable p b) → slice_get (slice_set words (a + k) v) b ≡ Some (m.values y)
    value_stays y p b at =
        other_word words (a + k) b v (λ same. beside apart x y (record { first = a; count = size_of bounds }) (record { first = b; count = 1 }) k 0 array_here
        (ap region_found at)
        (λ one. no_array p o b a bounds (one_sense f (Variable p b) (Array o a bounds) at is (sym one))) inside (omega arith) (omega (arith, same)))
        ∙ tied.scalars y p b at

    reference_stays : (y : List ℕ) (b : ℕ) → sense_in f y ≡ Some (Reference b) → IsReferred frames d (slice_set words (a + k) v) b (m.references y)
    reference_stays y b at =
        let differ : x ≡ y → ⊥ = λ one. array_no_reference o a b bounds (one_sense f (Array o a bounds) (Reference b) is at one) in
        let there : region_in f y ≡ Some (record { first = b; count = 2 }) = ap region_found at in
        referred_beside (a + k) v
        (λ same. beside apart x y (record { first = a; count = size_of bounds }) (record { first = b; count = 2 }) k 0 array_here there differ inside
        (omega arith) (omega (arith, same)))
        (λ same. beside apart x y (record { first = a; count = size_of bounds }) (record { first = b; count = 2 }) k 1 array_here there differ inside
        (omega arith) (omega (arith, same)))
        (tied.references y b at)

    answer_stays : f.result ≡ 1 → slice_get (slice_set words (a + k) v) f.parameters ≡ Some m.answer
    answer_stays has =
        other_word words (a + k) f.parameters v (λ same. beside_result apart x (record { first = a; count = size_of bounds }) k 0 array_here inside
        (omega (arith, has)) (omega (arith, same)))
        ∙ tied.answer has

    -- another array, another index, or this element
    other_array : (y : List ℕ) (p : Owner) (b : ℕ) (limits : Bounds) (i : ℕ) → bytes_eq x y ≡ false → sense_in f y ≡ Some (Array p b limits)
        → i < size_of limits
        → slice_get (slice_set words (a + k) v) (b + i) ≡ Some (m.elements y (limits.low +ℤ pos i))
    other_array y p b limits i e at low =
        other_word words (a + k) (b + i) v (λ same. beside apart x y (record { first = a; count = size_of bounds })
        (record { first = b; count = size_of limits }) k i array_here (ap region_found at) (false_name x y e) inside low same)
        ∙ tied.arrays y p b limits i at low

    this_array : (y : List ℕ) (p : Owner) (b : ℕ) (limits : Bounds) (i : ℕ) (same : Bool) → bytes_eq x y ≡ true
        → int_eq (bounds.low +ℤ pos k) (limits.low +ℤ pos i) ≡ same
        → sense_in f y ≡ Some (Array p b limits) → i < size_of limits
        → slice_get (slice_set words (a + k) v) (b + i) ≡ Some (if same then v else m.elements y (limits.low +ℤ pos i))
    this_array y p b limits i true e int at low =
        let one = same_array o p a b bounds limits (one_sense f (Array o a bounds) (Array p b limits) is at ((bytes_eq-Decides x y).0 e)) in
        let index : bounds.low +ℤ pos k ≡ bounds.low +ℤ pos i = (Decides-int_eq _ _).0 int ∙ ap (λ (n : Bounds). n.low +ℤ pos i) (sym one.1) in
        let here : a + k ≡ b + i = omega (arith, one.0, same_place bounds.low k i index) in
        subst (λ n. slice_get (slice_set words (a + k) v) n ≡ Some v) here
        (same_word words (a + k) (m.elements x (bounds.low +ℤ pos k)) v (tied.arrays x o a bounds k is inside))
    this_array y p b limits i false e int at low =
        let one = same_array o p a b bounds limits (one_sense f (Array o a bounds) (Array p b limits) is at ((bytes_eq-Decides x y).0 e)) in
        other_word words (a + k) (b + i) v (λ same. absurd (apart_index (omega (arith, same, one.0)) one.1))
        ∙ tied.arrays y p b limits i at low
      where
        apart_index : k ≡ i → bounds ≡ limits → ⊥
        apart_index place limits_are =
            let t : true ≡ false = sym ((Decides-int_eq _ _).1 (ap (λ n. bounds.low +ℤ pos n) place ∙ ap (λ (n : Bounds). n.low +ℤ pos i) limits_are))
            ∙ int in cc

    element_stays : (y : List ℕ) (p : Owner) (b : ℕ) (limits : Bounds) (i : ℕ) (same : Bool) → bytes_eq x y ≡ same → sense_in f y ≡ Some (Array p b limits)
        → i < size_of limits
        → slice_get (slice_set words (a + k) v) (b + i)
        ≡ Some (if same && int_eq (bounds.low +ℤ pos k) (limits.low +ℤ pos i) then v else m.elements y (limits.low +ℤ pos i))
    element_stays y p b limits i true e at low = this_array y p b limits i (int_eq (bounds.low +ℤ pos k) (limits.low +ℤ pos i)) e refl at low
    element_stays y p b limits i false e at low = other_array y p b limits i e at low

    pub tied_element : AreTied frames d f (put_element x (bounds.low +ℤ pos k) v m) (slice_set words (a + k) v)
    tied_element = record {
      scalars = λ y p b at. value_stays y p b at;
      arrays = λ y p b limits i at low. element_stays y p b limits i (bytes_eq x y) refl at low;
      references = λ y b at. reference_stays y b at;
      answer = λ has. answer_stays has;
    }

  -- ---- the result of a function
  module _ (v : ℤ) (has : f.result ≡ 1) where
    apart_from_result : (y : List ℕ) (s : Region) (j : ℕ) → region_in f y ≡ Some s → j < s.count → (f.parameters ≡ s.first + j → ⊥)
    apart_from_result y s j at low same = beside_result apart y s j 0 at low (omega (arith, has)) (omega (arith, same))

    reference_behind : (y : List ℕ) (b : ℕ) → sense_in f y ≡ Some (Reference b) → IsReferred frames d (slice_set words f.parameters v) b (m.references y)
    reference_behind y b at =
        let there : region_in f y ≡ Some (record { first = b; count = 2 }) = ap region_found at in
        referred_beside f.parameters v
        (λ same. apart_from_result y (record { first = b; count = 2 }) 0 there (omega arith) (omega (arith, same)))
        (λ same. apart_from_result y (record { first = b; count = 2 }) 1 there (omega arith) (omega (arith, same)))
        (tied.references y b at)

    pub tied_answer : AreTied frames d f (put_answer v m) (slice_set words f.parameters v)
    tied_answer = record {
      scalars = λ y p b at. other_word words f.parameters b v
          (λ same. apart_from_result y (record { first = b; count = 1 }) 0 (ap region_found at) (omega arith) (omega (arith, same))) ∙ tied.scalars y p b at;
      arrays = λ y p b limits i at low. other_word words f.parameters (b + i) v
          (λ same. apart_from_result y (record { first = b; count = size_of limits }) i (ap region_found at) low same) ∙ tied.arrays y p b limits i at low;
      references = λ y b at. reference_behind y b at;
      answer = λ is. same_word words f.parameters m.answer v (tied.answer is);
    }

  -- ---- a word behind all that is declared
  module _ (at : ℕ) (v : ℤ) (far : declared_words f ≤ at) where
    behind_all : (y : List ℕ) (s : Region) (j : ℕ) → region_in f y ≡ Some s → j < s.count → (at ≡ s.first + j → ⊥)
    behind_all y s j is low same = omega (arith, same, low, far, apart.inside y s is)

    reference_before : (y : List ℕ) (b : ℕ) → sense_in f y ≡ Some (Reference b) → IsReferred frames d (slice_set words at v) b (m.references y)
    reference_before y b is =
        let there : region_in f y ≡ Some (record { first = b; count = 2 }) = ap region_found is in
        referred_beside at v
        (λ same. behind_all y (record { first = b; count = 2 }) 0 there (omega arith) (omega (arith, same)))
        (λ same. behind_all y (record { first = b; count = 2 }) 1 there (omega arith) (omega (arith, same)))
        (tied.references y b is)

    pub tied_beside : f.parameters + f.result ≤ declared_words f → AreTied frames d f m (slice_set words at v)
    tied_beside low = record {
      scalars = λ y p b is. other_word words at b v (λ same. behind_all y (record { first = b; count = 1 }) 0 (ap region_found is) (omega arith)
          (omega (arith, same))) ∙ tied.scalars y p b is;
      arrays = λ y p b limits i is inside. other_word words at (b + i) v
          (λ same. behind_all y (record { first = b; count = size_of limits }) i (ap region_found is) inside same) ∙ tied.arrays y p b limits i is inside;
      references = λ y b is. reference_before y b is;
      answer = λ has. other_word words at f.parameters v (λ same. omega (arith, same, has, low, far)) ∙ tied.answer has;
    }
