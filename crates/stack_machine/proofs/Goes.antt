-- What may come of a row of the table.
use Rattle.std.proofs.Common.{◌≡◌, ℕ, zero, suc, ◌+◌, Bool, true, false, cond, Option, Some, None, List, [], ◌∷◌, length, ltb, leb, ℤ, pos, negsuc, refl, ap}
use Rattle.std.specs.Prelude.{slice_get, slice_set, ◌-◌, ◌&&◌, take, drop, int_le}
use Rattle.std.specs.Int.{w16, cast_signed}
use Rattle.solo_base.specs.declared.outcome.ProgResult.TheVariants as result
use Rattle.solo_base.specs.declared.interface.Procedure.{Procedure}
use Rattle.solo_base.specs.Interface.{procedure_at, call_row_of}
use Rattle.stack_code.specs.CodeLists.{CodeLists, routine_at}
use Rattle.stack_machine.specs.States.{Activation, State}
use Rattle.stack_machine.specs.Activations.{waiting_with}
use Rattle.stack_machine.specs.State.{Next, Goes, Asks, Lacks, push, has_room, words_at, with_words_at, words_of, with_words, advance, stop}
use Rattle.solo_base.specs.Arithmetic.{difference}
use Rattle.stack_machine.specs.Effects.{replace, unary, binary, store, load, load_at, store_at, load_element, store_element, replace_found, push_found, index_in, index, chr, refer, words_named, word_named, push_named, load_named, load_reference, write_named, store_named, store_reference}
use Rattle.stack_machine.specs.Calls.{Request, Makes, OutOfRange, LacksValue, made, ask_row, sys, request}
use Rattle.stack_machine.specs.Left.{weight_at, weights}

-- the next place, with the same ticks and the same places of the waiting activations
pub record IsNextPlace (c : CodeLists) (s t : State) : Type 0 where
  pub ticks : t.ticks ≡ s.ticks
  pub waiting : weights c t.below ≡ weights c s.below
  pub place : t.current.place ≡ s.current.place + 1

-- a row that goes on goes on at the next place, and one that asks changes nothing
abbrev pub MovesOn : CodeLists → State → Next → Type 0
MovesOn c s (Goes t) = IsNextPlace c s t
MovesOn c s (Asks call t) = t ≡ s
MovesOn c s other = Unit {0}

chosen : (c : CodeLists) (s : State) (b : Bool) (x y : Next) → MovesOn c s x → MovesOn c s y → MovesOn c s (cond b x y)
chosen c s true x y first second = first
chosen c s false x y first second = second

advanced : (c : CodeLists) (s : State) (operands : List ℤ) → IsNextPlace c s (advance s operands)
advanced c s operands = record { ticks = refl; waiting = refl; place = refl }

replaced : (c : CodeLists) (s : State) (rest : List ℤ) (v : Option ℤ) → MovesOn c s (replace s rest v)
replaced c s rest (Some word) = advanced c s (word ∷ rest)
replaced c s rest None = tt

pub unary_moves : (c : CodeLists) (f : ℤ → Option ℤ) (s : State) (operands : List ℤ) → MovesOn c s (unary f s operands)
unary_moves c f s [] = tt
unary_moves c f s (v ∷ rest) = replaced c s rest (f v)

pub binary_moves : (c : CodeLists) (f : ℤ → ℤ → Option ℤ) (s : State) (operands : List ℤ) → MovesOn c s (binary f s operands)
binary_moves c f s [] = tt
binary_moves c f s (r ∷ []) = tt
binary_moves c f s (r ∷ l ∷ rest) = replaced c s rest (f l r)

pub push_moves : (c : CodeLists) (s : State) (word : ℤ) → MovesOn c s (push c s word)
push_moves c s word = chosen c s (has_room c s.current) (Goes (advance s (word ∷ s.current.operands))) Lacks (advanced c s (word ∷ s.current.operands)) tt

found_moves : (c : CodeLists) (s : State) (word : Option ℤ) → MovesOn c s (push_found c s word)
found_moves c s (Some word) = push_moves c s word
found_moves c s None = tt

pub load_moves : (c : CodeLists) (program : Bool) (s : State) (a : ℕ) → MovesOn c s (load c program s a)
load_moves c program s a = found_moves c s (slice_get (words_of program s) a)

pub chr_moves : (c : CodeLists) (s : State) (operands : List ℤ) → MovesOn c s (chr s operands)
chr_moves c s [] = tt
chr_moves c s (v ∷ rest) = chosen c s (int_le (pos 0) v && int_le v (pos 127)) (Goes (advance s (v ∷ rest))) (stop s result.RangeError) (advanced c s (v ∷ rest)) tt

found_element : (c : CodeLists) (s : State) (rest : List ℤ) (word : Option ℤ) → MovesOn c s (replace_found s rest word)
found_element c s rest (Some word) = advanced c s (word ∷ rest)
found_element c s rest None = tt

pub index_moves : (c : CodeLists) (s : State) (a b : ℕ) (operands : List ℤ) → MovesOn c s (index s a b operands)
index_moves c s a b [] = tt
index_moves c s a b (v ∷ rest) =
    let low = cast_signed w16 a in
    chosen c s (int_le low v && int_le v (cast_signed w16 b)) (replace_found s rest (difference v low)) (stop s result.RangeError) (found_element c s rest (difference v low)) tt

element_moves : (c : CodeLists) (program : Bool) (s : State) (a : ℕ) (rest : List ℤ) (i : Option ℕ) → MovesOn c s (load_element program s a rest i)
element_moves c program s a rest (Some i) = found_element c s rest (slice_get (words_of program s) (a + i))
element_moves c program s a rest None = tt

pub load_at_moves : (c : CodeLists) (program : Bool) (s : State) (a b : ℕ) (operands : List ℤ) → MovesOn c s (load_at program s a b operands)
load_at_moves c program s a b [] = tt
load_at_moves c program s a b (i ∷ rest) = element_moves c program s a rest (index_in i b)

-- ---- Writes to a frame

-- a write to a frame changes no place
waiting_places : (c : CodeLists) (below : List Activation) (number : ℕ) (words : List ℤ) → weights c (waiting_with below number words) ≡ weights c below
waiting_places c [] number words = refl
waiting_places c (a ∷ above) zero words = refl
waiting_places c (a ∷ above) (suc number) words = ap (λ n. weight_at c a.place + n) (waiting_places c above number words)

pub written_at : (c : CodeLists) (s : State) (number : ℕ) (words operands : List ℤ) → IsNextPlace c s (advance (with_words_at s number words) operands)
written_at c s number words operands = record {
  ticks = refl;
  waiting = waiting_places c s.below number words;
  place = refl;
}

pub written : (c : CodeLists) (program : Bool) (s : State) (words operands : List ℤ) → IsNextPlace c s (advance (with_words program s words) operands)
written c true s words operands = written_at c s 0 words operands
written c false s words operands = record { ticks = refl; waiting = refl; place = refl }

pub store_moves : (c : CodeLists) (program : Bool) (s : State) (a : ℕ) (operands : List ℤ) → MovesOn c s (store program s a operands)
store_moves c program s a [] = tt
store_moves c program s a (word ∷ rest) =
    chosen c s (ltb a (length (words_of program s))) (Goes (advance (with_words program s (slice_set (words_of program s) a word)) rest)) Lacks (written c program s (slice_set (words_of program s) a word) rest) tt

stored : (c : CodeLists) (program : Bool) (s : State) (a : ℕ) (word : ℤ) (rest : List ℤ) (i : Option ℕ) → MovesOn c s (store_element program s a word rest i)
stored c program s a word rest (Some i) = store_moves c program s (a + i) (word ∷ rest)
stored c program s a word rest None = tt

pub store_at_moves : (c : CodeLists) (program : Bool) (s : State) (a b : ℕ) (operands : List ℤ) → MovesOn c s (store_at program s a b operands)
store_at_moves c program s a b [] = tt
store_at_moves c program s a b (word ∷ []) = tt
store_at_moves c program s a b (word ∷ i ∷ rest) = stored c program s a word rest (index_in i b)

-- ---- References

pub refer_moves : (c : CodeLists) (s : State) (number a : ℕ) → MovesOn c s (refer c s number a)
refer_moves c s number a =
    let operands = cast_signed w16 a ∷ pos number ∷ s.current.operands in
    chosen c s (ltb (length s.current.operands + 1) (routine_at c s.current.routine).height) (Goes (advance s operands)) Lacks (advanced c s operands) tt

named_moves : (c : CodeLists) (s : State) (word : Option ℤ) → MovesOn c s (push_named c s word)
named_moves c s (Some word) = push_moves c s word
named_moves c s None = tt

reference_moves : (c : CodeLists) (s : State) (number place : Option ℤ) → MovesOn c s (load_named c s number place)
reference_moves c s (Some number) (Some place) = named_moves c s (word_named (words_named s number) place)
reference_moves c s (Some number) None = tt
reference_moves c s None place = tt

pub load_reference_moves : (c : CodeLists) (s : State) (a : ℕ) → MovesOn c s (load_reference c s a)
load_reference_moves c s a = reference_moves c s (slice_get s.current.words a) (slice_get s.current.words (a + 1))

named_written : (c : CodeLists) (s : State) (number place word : ℤ) (rest : List ℤ) → MovesOn c s (write_named s number place word rest)
named_written c s (pos number) (pos place) word rest =
    let words = words_at s number in
    chosen c s (ltb place (length words)) (Goes (advance (with_words_at s number (slice_set words place word)) rest)) (stop s result.RangeError) (written_at c s number (slice_set words place word) rest) tt
named_written c s (pos number) (negsuc place) word rest = tt
named_written c s (negsuc number) place word rest = tt

reference_written : (c : CodeLists) (s : State) (number place : Option ℤ) (word : ℤ) (rest : List ℤ) → MovesOn c s (store_named s number place word rest)
reference_written c s (Some number) (Some place) word rest = named_written c s number place word rest
reference_written c s (Some number) None word rest = tt
reference_written c s None place word rest = tt

pub store_reference_moves : (c : CodeLists) (s : State) (a : ℕ) (operands : List ℤ) → MovesOn c s (store_reference s a operands)
store_reference_moves c s a [] = tt
store_reference_moves c s a (word ∷ rest) = reference_written c s (slice_get s.current.words a) (slice_get s.current.words (a + 1)) word rest

-- ---- Calls

made_moves : (c : CodeLists) (s : State) (r : Request) → MovesOn c s (made s r)
made_moves c s (Makes call) = refl
made_moves c s OutOfRange = tt
made_moves c s LacksValue = tt

row_moves : (c : CodeLists) (limit : ℕ) (s : State) (procedure : Option Procedure) (program : Bool) (b : ℕ) → MovesOn c s (ask_row c limit s procedure program b)
row_moves c limit s None program b = tt
row_moves c limit s (Some procedure) program b =
    let r = call_row_of procedure in
    let words = words_of program s in
    let asked = request procedure s.current.operands (take r.array (drop b words)) (limit - s.ticks) in
    chosen c s (leb r.values (length s.current.operands) && leb (b + r.array) (length words) && leb (length s.current.operands - r.values + r.results) (routine_at c s.current.routine).height) (made s asked) Lacks (made_moves c s asked) tt

pub sys_moves : (c : CodeLists) (limit : ℕ) (s : State) (program : Bool) (a b : ℕ) → MovesOn c s (sys c limit s program a b)
sys_moves c limit s program a b = row_moves c limit s (procedure_at a) program b
