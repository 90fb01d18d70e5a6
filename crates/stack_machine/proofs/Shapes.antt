-- Each row of the table is safe: its operands, its words and its room are there.
use Rattle.std.proofs.Common.{◌≡◌, ℕ, ◌+◌, ◌-◌, ◌<◌, ◌≤◌, Bool, true, false, cond, Option, Some, None, List, [], ◌∷◌, length, get_or, ℤ, pos, negsuc, ltb, refl, sym, ap, arith, subst}
use Rattle.std.specs.Prelude.{slice_get, slice_set}
use Rattle.std.specs.Int.{w16, cast_signed}
use Rattle.std.proofs.lemmas.Bool.{cond-true, lt-ltb, ltb-true}
use Rattle.std.proofs.lemmas.Option.{slice_get-get_or}
use Rattle.std.proofs.lemmas.List.{length-set}
use Rattle.solo_base.specs.declared.outcome.ProgResult.TheVariants as result
use Rattle.stack_code.specs.declared.table.Op.{Op}
use Rattle.stack_code.specs.CodeLists.{CodeLists, routine_at}
use Rattle.stack_machine.specs.States.{State}
use Rattle.stack_machine.specs.State.{Next, Goes, Lacks, push, has_room, words_at, with_words_at, words_of, with_words, advance, stop}
use Rattle.stack_machine.specs.Effects.{replace, unary, binary, store, load, load_at, store_at, load_element, store_element, replace_found, push_found, index_in, chr, refer, words_named, word_named, push_named, load_named, load_reference, write_named, store_named, store_reference}
use Rattle.stack_machine.proofs.Standing.{IsSafeNext, Stands, Takes, stopped, enough, room, onward, onward_with, onward_at}

-- ---- Operators

module _ {c : CodeLists} {limit : ℕ} {s : State} {o : Op} {a b : ℕ} (st : Stands c limit s o a b) where
  replaced : {popped : ℕ} → Takes c o a popped 1 → (rest : List ℤ) (v : Option ℤ) → length rest ≡ length s.current.operands - popped → IsSafeNext c limit s (replace s rest v)
  replaced takes rest (Some word) left = onward st takes (word ∷ rest) (omega arith)
  replaced takes rest None left = stopped st result.Overflow

  pub unary_is_safe : Takes c o a 1 1 → (f : ℤ → Option ℤ) (operands : List ℤ) → operands ≡ s.current.operands → IsSafeNext c limit s (unary f s operands)
  unary_is_safe takes f [] same = absurd (omega (arith, enough st takes, ap length same))
  unary_is_safe takes f (v ∷ rest) same = replaced takes rest (f v) (omega (arith, ap length same))

  pub binary_is_safe : Takes c o a 2 1 → (f : ℤ → ℤ → Option ℤ) (operands : List ℤ) → operands ≡ s.current.operands → IsSafeNext c limit s (binary f s operands)
  binary_is_safe takes f [] same = absurd (omega (arith, enough st takes, ap length same))
  binary_is_safe takes f (r ∷ []) same = absurd (omega (arith, enough st takes, ap length same))
  binary_is_safe takes f (r ∷ l ∷ rest) same = replaced takes rest (f l r) (omega (arith, ap length same))

either : (c : CodeLists) (limit : ℕ) (s : State) (b : Bool) (x y : Next) → IsSafeNext c limit s x → IsSafeNext c limit s y → IsSafeNext c limit s (cond b x y)
either c limit s true x y first second = first
either c limit s false x y first second = second

module _ {c : CodeLists} {limit : ℕ} {s : State} {o : Op} {a b : ℕ} (st : Stands c limit s o a b) where
  pub chr_is_safe : Takes c o a 1 1 → (operands : List ℤ) → operands ≡ s.current.operands → IsSafeNext c limit s (chr s operands)
  chr_is_safe takes [] same = absurd (omega (arith, enough st takes, ap length same))
  chr_is_safe takes (v ∷ rest) same =
      either c limit s _ (Goes (advance s (v ∷ rest))) (stop s result.RangeError) (onward st takes (v ∷ rest) (omega (arith, ap length same))) (stopped st result.RangeError)

-- ---- Words of a frame

module _ {c : CodeLists} {limit : ℕ} {s : State} {o : Op} {a b : ℕ} (st : Stands c limit s o a b) where
  pub push_is_safe : Takes c o a 0 1 → (word : ℤ) → IsSafeNext c limit s (push c s word)
  push_is_safe takes word =
      let free = cond-true (has_room c s.current) (Goes (advance s (word ∷ s.current.operands))) Lacks (lt-ltb _ _ (omega (arith, room st takes))) in
      subst (IsSafeNext c limit s) (sym free) (onward st takes (word ∷ s.current.operands) (omega arith))

  pub load_is_safe : Takes c o a 0 1 → (program : Bool) (place : ℕ) → place < length (words_of program s) → IsSafeNext c limit s (load c program s place)
  load_is_safe takes program place inside =
      subst (λ (found : Option ℤ). IsSafeNext c limit s (push_found c s found)) (sym (slice_get-get_or (words_of program s) place (pos 0) inside)) (push_is_safe takes (get_or (words_of program s) place (pos 0)))

  -- the word on top goes into the frame
  stored : {popped : ℕ} → Takes c o a popped 0 → (program : Bool) (place : ℕ) (word : ℤ) (rest : List ℤ) → length rest ≡ length s.current.operands - popped → place < length (words_of program s) → IsSafeNext c limit s (store program s place (word ∷ rest))
  stored takes program place word rest left inside =
      let words = words_of program s in
      let new = Goes (advance (with_words program s (slice_set words place word)) rest) in
      subst (IsSafeNext c limit s) (sym (cond-true (ltb place (length words)) new Lacks (lt-ltb _ _ inside))) (onward_with st takes program (slice_set words place word) rest (length-set words place word) (omega (arith, left)))

  pub store_is_safe : Takes c o a 1 0 → (program : Bool) (place : ℕ) (operands : List ℤ) → operands ≡ s.current.operands → place < length (words_of program s) → IsSafeNext c limit s (store program s place operands)
  store_is_safe takes program place [] same inside = absurd (omega (arith, enough st takes, ap length same))
  store_is_safe takes program place (word ∷ rest) same inside = stored takes program place word rest (omega (arith, ap length same)) inside

-- ---- Elements of arrays

some_index : (below : Bool) (i n : ℕ) → cond below (Some i) None ≡ Some n → (below ≡ true) × (i ≡ n)
some_index true i n e = (refl, cc)
some_index false i n e = absurd cc

-- an index that is found lies in the array
index_below : (i : ℤ) (b n : ℕ) → index_in i b ≡ Some n → n < b
index_below (pos i) b n e =
    let found = some_index (ltb i b) i n e in
    omega (arith, ltb-true i b found.0, found.1)
index_below (negsuc i) b n e = absurd cc

module _ {c : CodeLists} {limit : ℕ} {s : State} {o : Op} {a b : ℕ} (st : Stands c limit s o a b) where
  element_loaded : Takes c o a 1 1 → (program : Bool) (start size : ℕ) (rest : List ℤ) (i : Option ℕ) → length rest ≡ length s.current.operands - 1 → ((n : ℕ) → i ≡ Some n → n < size) → start + size ≤ length (words_of program s) → IsSafeNext c limit s (load_element program s start rest i)
  element_loaded takes program start size rest None left below inside = stopped st result.RangeError
  element_loaded takes program start size rest (Some n) left below inside =
      let word = get_or (words_of program s) (start + n) (pos 0) in
      let found = slice_get-get_or (words_of program s) (start + n) (pos 0) (omega (arith, below n refl)) in
      subst (λ (f : Option ℤ). IsSafeNext c limit s (replace_found s rest f)) (sym found) (onward st takes (word ∷ rest) (omega (arith, left)))

  pub load_at_is_safe : Takes c o a 1 1 → (program : Bool) (start size : ℕ) (operands : List ℤ) → operands ≡ s.current.operands → start + size ≤ length (words_of program s) → IsSafeNext c limit s (load_at program s start size operands)
  load_at_is_safe takes program start size [] same inside = absurd (omega (arith, enough st takes, ap length same))
  load_at_is_safe takes program start size (i ∷ rest) same inside =
      element_loaded takes program start size rest (index_in i size) (omega (arith, ap length same)) (λ n found. index_below i size n found) inside

  element_stored : Takes c o a 2 0 → (program : Bool) (start size : ℕ) (word : ℤ) (rest : List ℤ) (i : Option ℕ) → length rest ≡ length s.current.operands - 2 → ((n : ℕ) → i ≡ Some n → n < size) → start + size ≤ length (words_of program s) → IsSafeNext c limit s (store_element program s start word rest i)
  element_stored takes program start size word rest None left below inside = stopped st result.RangeError
  element_stored takes program start size word rest (Some n) left below inside = stored st takes program (start + n) word rest left (omega (arith, below n refl))

  pub store_at_is_safe : Takes c o a 2 0 → (program : Bool) (start size : ℕ) (operands : List ℤ) → operands ≡ s.current.operands → start + size ≤ length (words_of program s) → IsSafeNext c limit s (store_at program s start size operands)
  store_at_is_safe takes program start size [] same inside = absurd (omega (arith, enough st takes, ap length same))
  store_at_is_safe takes program start size (word ∷ []) same inside = absurd (omega (arith, enough st takes, ap length same))
  store_at_is_safe takes program start size (word ∷ i ∷ rest) same inside =
      element_stored takes program start size word rest (index_in i size) (omega (arith, ap length same)) (λ n found. index_below i size n found) inside

-- ---- References

module _ {c : CodeLists} {limit : ℕ} {s : State} {o : Op} {a b : ℕ} (st : Stands c limit s o a b) where
  pub refer_is_safe : Takes c o a 0 2 → (number place : ℕ) → IsSafeNext c limit s (refer c s number place)
  refer_is_safe takes number place =
      let operands = cast_signed w16 place ∷ pos number ∷ s.current.operands in
      let free = cond-true (ltb (length s.current.operands + 1) (routine_at c s.current.routine).height) (Goes (advance s operands)) Lacks (lt-ltb _ _ (omega (arith, room st takes))) in
      subst (IsSafeNext c limit s) (sym free) (onward st takes operands (omega arith))

  named_pushed : Takes c o a 0 1 → (word : Option ℤ) → IsSafeNext c limit s (push_named c s word)
  named_pushed takes (Some word) = push_is_safe st takes word
  named_pushed takes None = stopped st result.RangeError

  pub load_reference_is_safe : Takes c o a 0 1 → (place : ℕ) → place + 1 < length s.current.words → IsSafeNext c limit s (load_reference c s place)
  load_reference_is_safe takes place inside =
      let number = get_or s.current.words place (pos 0) in
      let word = get_or s.current.words (place + 1) (pos 0) in
      subst (λ (found : Option ℤ). IsSafeNext c limit s (load_named c s found (slice_get s.current.words (place + 1)))) (sym (slice_get-get_or s.current.words place (pos 0) (omega arith)))
      (subst (λ (found : Option ℤ). IsSafeNext c limit s (load_named c s (Some number) found)) (sym (slice_get-get_or s.current.words (place + 1) (pos 0) inside))
      (named_pushed takes (word_named (words_named s number) word)))

  named_written : Takes c o a 1 0 → (number place word : ℤ) (rest : List ℤ) → length rest ≡ length s.current.operands - 1 → IsSafeNext c limit s (write_named s number place word rest)
  named_written takes (pos number) (pos place) word rest left =
      let words = words_at s number in
      let new = slice_set words place word in
      either c limit s (ltb place (length words)) (Goes (advance (with_words_at s number new) rest)) (stop s result.RangeError)
      (onward_at st takes number new rest (length-set words place word) (omega (arith, left))) (stopped st result.RangeError)
  named_written takes (pos number) (negsuc place) word rest left = stopped st result.RangeError
  named_written takes (negsuc number) place word rest left = stopped st result.RangeError

  pub store_reference_is_safe : Takes c o a 1 0 → (place : ℕ) (operands : List ℤ) → operands ≡ s.current.operands → place + 1 < length s.current.words → IsSafeNext c limit s (store_reference s place operands)
  store_reference_is_safe takes place [] same inside = absurd (omega (arith, enough st takes, ap length same))
  store_reference_is_safe takes place (word ∷ rest) same inside =
      let number = get_or s.current.words place (pos 0) in
      let target = get_or s.current.words (place + 1) (pos 0) in
      subst (λ (found : Option ℤ). IsSafeNext c limit s (store_named s found (slice_get s.current.words (place + 1)) word rest)) (sym (slice_get-get_or s.current.words place (pos 0) (omega arith)))
      (subst (λ (found : Option ℤ). IsSafeNext c limit s (store_named s (Some number) found word rest)) (sym (slice_get-get_or s.current.words (place + 1) (pos 0) inside))
      (named_written takes number target word rest (omega (arith, ap length same))))
