-- The rows of the table: what each instruction does.
use Rattle.std.specs.Prelude.{ℕ, ◌+◌, ◌-◌, ◌*◌, Bool, ◌&&◌, nat_lt, nat_le, if◌then◌else◌, List, [], ◌∷◌, ◌++◌, length, take, slice_get, slice_set, Option, Some, None, ℤ, pos, negsuc, int_le}
use Rattle.std.specs.Ordering.{int_eq}
use Rattle.std.specs.Int.{w16, cast_signed}
use Rattle.solo_base.specs.declared.outcome.ProgResult.TheVariants as result
use Rattle.solo_base.specs.Arithmetic.{difference}
use Rattle.stack_code.specs.declared.instr.RoutineInfo.{RoutineInfo}
use Rattle.stack_code.specs.CodeLists.{CodeLists, routine_at}
use Rattle.stack_machine.specs.States.{Activation, State}
use Rattle.stack_machine.specs.Activations.{opened, waiting_caller}
use Rattle.stack_machine.specs.State.{Next, Goes, Stops, Lacks, stop, advance, jump_to, has_room, push, words_at, with_words_at, words_of, with_words}

-- ---- Words to and from frames

abbrev pub push_found : CodeLists → State → Option ℤ → Next
push_found c s (Some word) = push c s word
push_found c s None = Lacks

-- LOADG a, LOADL a: push word a
abbrev pub load : CodeLists → Bool → State → ℕ → Next
load c program s a = push_found c s (slice_get (words_of program s) a)

-- STOREG a, STOREL a: pop into word a
abbrev pub store : Bool → State → ℕ → List ℤ → Next
store program s a [] = Lacks
store program s a (word ∷ rest) =
    if nat_lt a (length (words_of program s)) then Goes (advance (with_words program s (slice_set (words_of program s) a word)) rest) else Lacks

-- the place that an index means in an array of b elements
abbrev pub index_in : ℤ → ℕ → Option ℕ
index_in (pos i) b = if nat_lt i b then Some i else None
index_in (negsuc i) b = None

abbrev pub replace_found : State → List ℤ → Option ℤ → Next
replace_found s rest (Some word) = Goes (advance s (word ∷ rest))
replace_found s rest None = Lacks

abbrev pub load_element : Bool → State → ℕ → List ℤ → Option ℕ → Next
load_element program s a rest (Some i) = replace_found s rest (slice_get (words_of program s) (a + i))
load_element program s a rest None = stop s result.RangeError

-- LOADGX a b, LOADLX a b: pop i; push word a + i
abbrev pub load_at : Bool → State → ℕ → ℕ → List ℤ → Next
load_at program s a b [] = Lacks
load_at program s a b (i ∷ rest) = load_element program s a rest (index_in i b)

abbrev pub store_element : Bool → State → ℕ → ℤ → List ℤ → Option ℕ → Next
store_element program s a word rest (Some i) = store program s (a + i) (word ∷ rest)
store_element program s a word rest None = stop s result.RangeError

-- STOREGX a b, STORELX a b: pop v, pop i; word a + i becomes v
abbrev pub store_at : Bool → State → ℕ → ℕ → List ℤ → Next
store_at program s a b (word ∷ i ∷ rest) = store_element program s a word rest (index_in i b)
store_at program s a b (word ∷ []) = Lacks
store_at program s a b [] = Lacks

-- ---- References: the number of an activation, and above it a word of its frame

-- REFG a, REFL a: push the number, push a
abbrev pub refer : CodeLists → State → ℕ → ℕ → Next
refer c s number a =
    if nat_lt (length s.current.operands + 1) (routine_at c s.current.routine).height
    then Goes (advance s (cast_signed w16 a ∷ pos number ∷ s.current.operands)) else Lacks

-- the words of the activation that a word names; none where it isn't open
abbrev pub words_named : State → ℤ → List ℤ
words_named s (pos number) = words_at s number
words_named s (negsuc number) = []

-- the word that is named by a word, if it is there
abbrev pub word_named : List ℤ → ℤ → Option ℤ
word_named words (pos place) = slice_get words place
word_named words (negsuc place) = None

abbrev pub push_named : CodeLists → State → Option ℤ → Next
push_named c s (Some word) = push c s word
push_named c s None = stop s result.RangeError

abbrev pub load_named : CodeLists → State → Option ℤ → Option ℤ → Next
load_named c s (Some number) (Some place) = push_named c s (word_named (words_named s number) place)
load_named c s (Some number) None = Lacks
load_named c s None place = Lacks

-- LOADR a: words a and a + 1 of its own frame are a number and a place; push the word there
abbrev pub load_reference : CodeLists → State → ℕ → Next
load_reference c s a = load_named c s (slice_get s.current.words a) (slice_get s.current.words (a + 1))

-- the word becomes what a number and a place name
abbrev pub write_named : State → ℤ → ℤ → ℤ → List ℤ → Next
write_named s (pos number) (pos place) word rest =
    if nat_lt place (length (words_at s number))
    then Goes (advance (with_words_at s number (slice_set (words_at s number) place word)) rest)
    else stop s result.RangeError
write_named s (pos number) (negsuc place) word rest = stop s result.RangeError
write_named s (negsuc number) place word rest = stop s result.RangeError

abbrev pub store_named : State → Option ℤ → Option ℤ → ℤ → List ℤ → Next
store_named s (Some number) (Some place) word rest = write_named s number place word rest
store_named s (Some number) None word rest = Lacks
store_named s None place word rest = Lacks

-- STORER a: pop into the word that words a and a + 1 name
abbrev pub store_reference : State → ℕ → List ℤ → Next
store_reference s a [] = Lacks
store_reference s a (word ∷ rest) =
    store_named s (slice_get s.current.words a) (slice_get s.current.words (a + 1)) word rest

-- ---- Arithmetic

abbrev pub replace : State → List ℤ → Option ℤ → Next
replace s rest (Some word) = Goes (advance s (word ∷ rest))
replace s rest None = stop s result.Overflow

-- pop one, push what it gives
abbrev pub unary : (ℤ → Option ℤ) → State → List ℤ → Next
unary f s [] = Lacks
unary f s (v ∷ rest) = replace s rest (f v)

-- pop right, pop left, push what they give
abbrev pub binary : (ℤ → ℤ → Option ℤ) → State → List ℤ → Next
binary f s (r ∷ l ∷ rest) = replace s rest (f l r)
binary f s (r ∷ []) = Lacks
binary f s [] = Lacks

-- INDEX a b: pop v; push v - a, where a <= v <= b
abbrev pub index : State → ℕ → ℕ → List ℤ → Next
index s a b [] = Lacks
index s a b (v ∷ rest) =
    let low = cast_signed w16 a in
    if int_le low v
    && int_le v (cast_signed w16 b) then replace_found s rest (difference v low) else stop s result.RangeError

-- CHR: the top is 0 to 127
abbrev pub chr : State → List ℤ → Next
chr s [] = Lacks
chr s (v ∷ rest) =
    if int_le (pos 0) v && int_le v (pos 127) then Goes (advance s (v ∷ rest)) else stop s result.RangeError

-- ---- Control

-- JUMPF a: pop v; go to a if v is 0
abbrev pub jump_false : State → ℕ → List ℤ → Next
jump_false s a [] = Lacks
jump_false s a (v ∷ rest) = Goes (if int_eq v (pos 0) then jump_to s a rest else advance s rest)

-- TICK a b: line a * 65,536 + b; take a tick
abbrev pub tick : ℕ → State → ℕ → ℕ → Next
tick limit s a b =
    let line = a * 65536 + b in
    if nat_lt s.ticks limit then Goes (record s {
      ticks =
          s.ticks + 1;
      current = record s.current { line = line; place = s.current.place + 1 };
    })
    else Stops result.TimeLimit line s.ticks

abbrev pub enter : State → RoutineInfo → ℕ → Next
enter s r a =
    if nat_le r.params (length s.current.operands)
    then Goes (record s {
      below =
          s.below ++ waiting_caller r s.current ∷ [];
      current = opened r a s.current.operands;
    })
    else Lacks

-- CALL a: StackLimit if 64 activations are open
abbrev pub call : CodeLists → State → ℕ → Next
call c s a = if nat_le 63 (length s.below) then stop s result.StackLimit else enter s (routine_at c a) a

abbrev pub give_back : CodeLists → State → List Activation → Activation → Option ℤ → Next
give_back c s below caller None = Lacks
give_back c s below caller (Some word) =
    if has_room c caller then Goes (record s {
      below =
          below;
      current = record caller { operands = word ∷ caller.operands };
    }) else Lacks

abbrev pub return_to : CodeLists → State → List Activation → Option Activation → Next
return_to c s below None = Lacks
return_to c s below (Some caller) =
    let r = routine_at c s.current.routine in
    if r.function then give_back c s below caller (slice_get s.current.words r.params) else Goes (record s { below = below; current = caller })

-- RETURN: end the activation; a function pushes the word after its parameters for the caller
abbrev pub leave : CodeLists → State → Next
leave c s = return_to c s (take (length s.below - 1) s.below) (slice_get s.below (length s.below - 1))
