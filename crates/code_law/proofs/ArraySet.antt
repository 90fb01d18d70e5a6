-- A whole array, read and set.
use Rattle.std.proofs.Common.{◌≡◌, ℕ, zero, suc, ◌+◌, ◌<◌, ◌≤◌, List, [], ◌∷◌, ◌++◌, length, take, drop, ℤ, pos, ◌+ℤ◌, Some, refl, sym, ◌∙◌, ap, subst, arith}
use Rattle.std.specs.Prelude.{slice_get, slice_set}
use Rattle.std.proofs.lemmas.Option.{none-some, same_Some}
use Rattle.stack_machine.specs.Machine.{set_array}
use Rattle.stack_machine.proofs.Answered.{no_array}
use Rattle.pascal_mean.specs.Means.{Owner, Bounds}
use Rattle.pascal_mean.specs.Situation.{Map, Situation}
use Rattle.pascal_mean.specs.Variables.{with_map, set_map, put_element, stored_element, stored_elements, ArrayPlace, element_at, elements_from, size_of}
use Rattle.pascal_code.specs.Frames.{Frame}
use Rattle.pascal_code.specs.Senses.{Array, sense_in}
use Rattle.code_law.specs.Regions.{AreApart}
use Rattle.code_law.specs.Ties.{AreTied}
use Rattle.code_law.proofs.Words.{other_word}
use Rattle.code_law.proofs.Indexes.{next_index}
use Rattle.code_law.proofs.Tied.{tied_element}
use Rattle.code_law.proofs.Agreeing.{same_maps}

-- ---- Set in a map

abbrev pub elements_put : List ℕ → ℤ → List ℤ → Map → Map
elements_put x i [] m = m
elements_put x i (v ∷ more) m = elements_put x (i +ℤ pos 1) more (put_element x i v m)

pub put_keeps : (x : List ℕ) (i : ℤ) (values : List ℤ) (m : Map) → (elements_put x i values m).references ≡ m.references
put_keeps x i [] m = refl
put_keeps x i (v ∷ more) m = put_keeps x (i +ℤ pos 1) more (put_element x i v m)

twice : (maps : List Map) (k : ℕ) (first next : Map → Map) → with_map k next (with_map k first maps) ≡ with_map k (λ m. next (first m)) maps
twice [] k first next = refl
twice (m ∷ more) zero first next = refl
twice (m ∷ more) (suc k) first next = ap (λ (ms : List Map). m ∷ ms) (twice more k first next)

pub stored_is : (a : ArrayPlace) (i : ℤ) (values : List ℤ) (now : Situation) → stored_elements a i values now ≡ set_map a.activation
    (elements_put a.letters i values) now
stored_is a i [] now = ap (λ (ms : List Map). record now { maps = ms }) (sym (same_maps now.maps a.activation))
stored_is a i (v ∷ more) now =
    stored_is a (i +ℤ pos 1) more (stored_element a i v now)
    ∙ ap (λ (ms : List Map). record now { maps = ms }) (twice now.maps a.activation (put_element a.letters i v) (elements_put a.letters (i +ℤ pos 1) more))

-- ---- Set in the words

abbrev pub words_set : List ℤ → ℕ → List ℤ → List ℤ
words_set words n [] = words
words_set words n (v ∷ more) = words_set (slice_set words n v) (n + 1) more

below_set : (words : List ℤ) (n b : ℕ) (values : List ℤ) → n + length values ≤ b → slice_get (words_set words n values) b ≡ slice_get words b
below_set words n b [] far = refl
below_set words n b (v ∷ more) far = below_set (slice_set words n v) (n + 1) b more (omega (arith, far))
    ∙ other_word words n b v (λ same. omega (arith, same, far))

pub stays_behind : (words : List ℤ) (n b : ℕ) (values : List ℤ) → n + length values ≤ b → slice_get (words_set words n values) b ≡ slice_get words b
stays_behind words n b values far = below_set words n b values far

set_further : (w : ℤ) (words : List ℤ) (n : ℕ) (array : List ℤ) → set_array (w ∷ words) (suc n) array ≡ w ∷ set_array words n array
set_further w words n array =
    let next : suc n + length array ≡ suc (n + length array) = omega arith in
    ap (λ k. w ∷ (take n words ++ array ++ drop k (w ∷ words))) next

set_one : (words : List ℤ) (n : ℕ) (v : ℤ) (more : List ℤ) → n < length words → set_array words n (v ∷ more) ≡ set_array (slice_set words n v) (n + 1) more
set_one [] n v more low = absurd (omega (arith, low))
set_one (w ∷ words) zero v more low =
    let first : 0 + length (v ∷ more) ≡ suc (length more) = omega arith in
    let next : 0 + 1 + length more ≡ suc (length more) = omega arith in
    ap (λ k. (v ∷ more) ++ drop k (w ∷ words)) first ∙ sym (ap (λ k. v ∷ (more ++ drop k (v ∷ words))) next)
set_one (w ∷ words) (suc n) v more low =
    let next : suc n + 1 ≡ suc (n + 1) = omega arith in
    set_further w words n (v ∷ more) ∙ ap (λ (l : List ℤ). w ∷ l) (set_one words n v more (omega (arith, low)))
    ∙ sym (set_further w (slice_set words n v) (n + 1) more) ∙ ap (λ k. set_array (w ∷ slice_set words n v) k more) (sym next)

length_kept : (words : List ℤ) (n : ℕ) (v : ℤ) → length (slice_set words n v) ≡ length words
length_kept [] n v = refl
length_kept (w ∷ words) zero v = refl
length_kept (w ∷ words) (suc n) v = ap suc (length_kept words n v)

pub set_is : (words : List ℤ) (n : ℕ) (values : List ℤ) → n + length values ≤ length words → set_array words n values ≡ words_set words n values
set_is words n [] room = no_array words n
set_is words n (v ∷ more) room = set_one words n v more (omega (arith, room)) ∙ set_is (slice_set words n v) (n + 1) more
    (omega (arith, room, length_kept words n v))

pub tied_all : (frames : List Frame) (d : ℕ) (f : Frame) → AreApart f → (x : List ℕ) (o : Owner) (a : ℕ) (bounds : Bounds)
    → sense_in f x ≡ Some (Array o a bounds) → (j : ℕ) (values : List ℤ) (m : Map) (words : List ℤ)
    → AreTied frames d f m words → j + length values ≤ size_of bounds → AreTied frames d f (elements_put x (bounds.low +ℤ pos j) values m)
    (words_set words (a + j) values)
tied_all frames d f apart x o a bounds is j [] m words tied room = tied
tied_all frames d f apart x o a bounds is j (v ∷ more) m words tied room =
    let next : a + j + 1 ≡ a + (j + 1) = omega arith in
    let later = tied_all frames d f apart x o a bounds is (j + 1) more (put_element x (bounds.low +ℤ pos j) v m) (slice_set words (a + j) v)
    (tied_element apart tied x o a bounds j v is (omega (arith, room))) (omega (arith, room)) in
    subst (λ i. AreTied frames d f (elements_put x i more (put_element x (bounds.low +ℤ pos j) v m)) (words_set (slice_set words (a + j) v) (a + j + 1) more))
    (sym (next_index bounds.low j))
    (subst (λ n. AreTied frames d f (elements_put x (bounds.low +ℤ pos (j + 1)) more (put_element x (bounds.low +ℤ pos j) v m))
    (words_set (slice_set words (a + j) v) n more)) (sym next) later)

-- ---- Read

found_first : (words : List ℤ) (n : ℕ) (v : ℤ) → slice_get words n ≡ Some v → drop n words ≡ v ∷ drop (n + 1) words
found_first [] n v is = absurd (none-some v is)
found_first (w ∷ words) zero v is = ap (λ u. u ∷ words) (same_Some w v is)
found_first (w ∷ words) (suc n) v is = let next : suc n + 1 ≡ suc (n + 1) = omega arith in found_first words n v is ∙ ap (λ k. v ∷ drop k (w ∷ words))
    (sym next)

pub read_is : (words : List ℤ) (a : ArrayPlace) (low : ℤ) (now : Situation) (n j count : ℕ)
    → ((i : ℕ) → i < j + count → slice_get words (n + i) ≡ Some (element_at a (low +ℤ pos i) now))
    → take count (drop (n + j) words) ≡ elements_from a (low +ℤ pos j) count now
read_is words a low now n j zero there = refl
read_is words a low now n j (suc count) there =
    let first = there j (omega arith) in
    let next : n + j + 1 ≡ n + (j + 1) = omega arith in
    ap (take (suc count)) (found_first words (n + j) (element_at a (low +ℤ pos j) now) first)
    ∙ ap (λ (l : List ℤ). element_at a (low +ℤ pos j) now ∷ l)
    (ap (λ k. take count (drop k words)) next ∙ read_is words a low now n (j + 1) count (λ i low. there i (omega (arith, low)))
    ∙ ap (λ z. elements_from a z count now) (sym (next_index low j)))
