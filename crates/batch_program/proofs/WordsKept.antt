-- Each instruction keeps the words of a program within 16 bits.
use Rattle.std.proofs.Common.{ℕ, zero, suc, ◌+◌, ◌-◌, ◌≤◌, ◌&&◌, Bool, true, false, cond, not, Option, Some, None, List, [], ◌∷◌, ◌++◌, length, take, drop, ℤ, pos, negsuc, neg_ℤ, ◌*◌, ◌+ℤ◌, ◌*ℤ◌, arith, leb, ltb}
use Rattle.std.specs.Prelude.{slice_get, slice_set, replicate, reverse, int_le, int_lt, int_rem, int_div, unsigned_abs, ◌-ℤ◌, ◌||◌, map}
use Rattle.std.specs.Ordering.{int_eq}
use Rattle.std.specs.Int.{w16, cast_signed}
use Rattle.solo_base.specs.declared.outcome.ProgResult.TheVariants as result
use Rattle.solo_base.specs.declared.system_call.SysCall.{SysCall}
use Rattle.solo_base.specs.declared.system_call.SysCall.TheVariants as calls
use Rattle.solo_base.specs.declared.interface.Procedure.{Procedure}
use Rattle.solo_base.specs.declared.interface.Procedure.TheVariants as row
use Rattle.solo_base.specs.Interface.{procedure_at, call_row_of}
use Rattle.solo_base.specs.Arithmetic.{fit, difference, holds, byte_of, are_bytes}
use Rattle.stack_code.specs.declared.table.Op.{Op}
use Rattle.stack_code.specs.declared.table.Op.TheVariants as op
use Rattle.stack_code.specs.declared.instr.Instr.{Instr}
use Rattle.stack_code.specs.declared.instr.RoutineInfo.{RoutineInfo}
use Rattle.stack_code.specs.CodeLists.{CodeLists, routine_at}
use Rattle.stack_machine.specs.States.{Activation, State}
use Rattle.stack_machine.specs.declared.state.Finish.{Finish}
use Rattle.stack_machine.specs.Activations.{opened, waiting_caller, words_from, waiting_with, own_with}
use Rattle.stack_machine.specs.State.{Next, Goes, Asks, Stops, Lacks, stop, advance, jump_to, has_room, push, words_at, with_words_at, words_of, with_words}
use Rattle.stack_machine.specs.Effects.{push_found, load, store, index_in, replace_found, load_element, load_at, store_element, store_at, refer, words_named, word_named, push_named, load_named, write_named, store_named, store_reference, replace, unary, binary, index, chr, jump_false, tick, enter, call, give_back, return_to, leave}
use Rattle.stack_machine.specs.Operators.{unary_of, binary_of}
use Rattle.stack_machine.specs.Calls.{Request, Makes, OutOfRange, LacksValue, write_of, request, made, ask_row}
use Rattle.stack_machine.specs.Machine.{effect, next, next_by, next_of}
use Rattle.batch_program.proofs.Words.{IsWord, AreWords, MayBeWord, fit-word, truth-word, rest-word, unless-zero, cast-word, words-append, words-take, words-drop, words-reverse, words-zeros, words-get, words-set}

-- ---- A state
abbrev pub Holds : Activation → Type 0
Holds a = AreWords a.words × AreWords a.operands

abbrev pub AllHold : List Activation → Type 0
AllHold [] = Unit {0}
AllHold (a ∷ more) = Holds a × AllHold more

abbrev pub HasWords : State → Type 0
HasWords s = Holds s.current × AllHold s.below

-- a call that writes no number, or one of 16 bits
abbrev pub IsShort : SysCall → Type 0
IsShort (calls.WriteInt number) = IsWord number
IsShort other = Unit {0}

abbrev pub KeepsWords : Next → Type 0
KeepsWords (Goes t) = HasWords t
KeepsWords (Asks call t) = IsShort call
KeepsWords (Stops r line ticks) = Unit {0}
KeepsWords Lacks = Unit {0}

choice : (b : Bool) (x y : Next) → KeepsWords x → KeepsWords y → KeepsWords (cond b x y)
choice true x y first second = first
choice false x y first second = second

advanced : (s : State) (operands : List ℤ) → HasWords s → AreWords operands → HasWords (advance s operands)
advanced s operands has are = ((has.0.0, are), has.1)

pushed : (c : CodeLists) (s : State) (v : ℤ) → HasWords s → IsWord v → KeepsWords (push c s v)
pushed c s v has is = choice (has_room c s.current) (Goes (advance s (v ∷ s.current.operands))) Lacks (advanced s (v ∷ s.current.operands) has (is, has.0.1)) tt

-- ---- Frames
from-below : (below : List Activation) (own : List ℤ) (n : ℕ) → AllHold below → AreWords own → AreWords (words_from below own n)
from-below [] own zero all are = are
from-below [] own (suc n) all are = tt
from-below (a ∷ above) own zero all are = all.0.0
from-below (a ∷ above) own (suc n) all are = from-below above own n all.1 are

waiting-set : (below : List Activation) (n : ℕ) (words : List ℤ) → AllHold below → AreWords words → AllHold (waiting_with below n words)
waiting-set [] n words all are = tt
waiting-set (a ∷ above) zero words all are = ((are, all.0.1), all.1)
waiting-set (a ∷ above) (suc n) words all are = (all.0, waiting-set above n words all.1 are)

own-set : (below : List Activation) (own : List ℤ) (n : ℕ) (words : List ℤ) → AreWords own → AreWords words → AreWords (own_with below own n words)
own-set [] own zero words old new = new
own-set [] own (suc n) words old new = old
own-set (a ∷ above) own zero words old new = old
own-set (a ∷ above) own (suc n) words old new = own-set above own n words old new

at-words : (s : State) (n : ℕ) → HasWords s → AreWords (words_at s n)
at-words s n has = from-below s.below s.current.words n has.1 has.0.0

with-at : (s : State) (n : ℕ) (words : List ℤ) → HasWords s → AreWords words → HasWords (with_words_at s n words)
with-at s n words has are = ((own-set s.below s.current.words n words has.0.0 are, has.0.1), waiting-set s.below n words has.1 are)

pub of-words : (program : Bool) (s : State) → HasWords s → AreWords (words_of program s)
of-words true s has = at-words s 0 has
of-words false s has = has.0.0

pub with-of : (program : Bool) (s : State) (words : List ℤ) → HasWords s → AreWords words → HasWords (with_words program s words)
with-of true s words has are = with-at s 0 words has are
with-of false s words has are = ((are, has.0.1), has.1)

-- ---- Words to and from frames
found-pushed : (c : CodeLists) (s : State) (o : Option ℤ) → HasWords s → MayBeWord o → KeepsWords (push_found c s o)
found-pushed c s None has may = tt
found-pushed c s (Some v) has may = pushed c s v has may

loaded : (c : CodeLists) (program : Bool) (s : State) (a : ℕ) → HasWords s → KeepsWords (load c program s a)
loaded c program s a has = found-pushed c s (slice_get (words_of program s) a) has (words-get (words_of program s) a (of-words program s has))

stored : (program : Bool) (s : State) (a : ℕ) (operands : List ℤ) → HasWords s → AreWords operands → KeepsWords (store program s a operands)
stored program s a [] has are = tt
stored program s a (v ∷ rest) has are =
    let words = slice_set (words_of program s) a v in
    let set = with-of program s words has (words-set (words_of program s) a v (of-words program s has) are.0) in
    choice (ltb a (length (words_of program s))) (Goes (advance (with_words program s words) rest)) Lacks
    (advanced (with_words program s words) rest set are.1) tt

found-replaced : (s : State) (rest : List ℤ) (o : Option ℤ) → HasWords s → AreWords rest → MayBeWord o → KeepsWords (replace_found s rest o)
found-replaced s rest None has are may = tt
found-replaced s rest (Some v) has are may = advanced s (v ∷ rest) has (may, are)

element-loaded : (program : Bool) (s : State) (a : ℕ) (rest : List ℤ) (i : Option ℕ) → HasWords s → AreWords rest → KeepsWords (load_element program s a rest i)
element-loaded program s a rest None has are = tt
element-loaded program s a rest (Some i) has are =
    found-replaced s rest (slice_get (words_of program s) (a + i)) has are (words-get (words_of program s) (a + i) (of-words program s has))

loaded-at : (program : Bool) (s : State) (a b : ℕ) (operands : List ℤ) → HasWords s → AreWords operands → KeepsWords (load_at program s a b operands)
loaded-at program s a b [] has are = tt
loaded-at program s a b (i ∷ rest) has are = element-loaded program s a rest (index_in i b) has are.1

element-stored : (program : Bool) (s : State) (a : ℕ) (v : ℤ) (rest : List ℤ) (i : Option ℕ) → HasWords s → IsWord v → AreWords rest
    → KeepsWords (store_element program s a v rest i)
element-stored program s a v rest None has is are = tt
element-stored program s a v rest (Some i) has is are = stored program s (a + i) (v ∷ rest) has (is, are)

stored-at : (program : Bool) (s : State) (a b : ℕ) (operands : List ℤ) → HasWords s → AreWords operands → KeepsWords (store_at program s a b operands)
stored-at program s a b [] has are = tt
stored-at program s a b (v ∷ []) has are = tt
stored-at program s a b (v ∷ i ∷ rest) has are = element-stored program s a v rest (index_in i b) has are.0 are.1.1

-- ---- References
referred : (c : CodeLists) (s : State) (number a : ℕ) → HasWords s → number ≤ 63 → KeepsWords (refer c s number a)
referred c s number a has low =
    let operands = cast_signed w16 a ∷ pos number ∷ s.current.operands in
    choice (ltb (length s.current.operands + 1) (routine_at c s.current.routine).height) (Goes (advance s operands)) Lacks
    (advanced s operands has (cast-word a, (omega (arith, low), has.0.1))) tt

named-words : (s : State) (v : ℤ) → HasWords s → AreWords (words_named s v)
named-words s (pos n) has = at-words s n has
named-words s (negsuc n) has = tt

named-word : (words : List ℤ) (v : ℤ) → AreWords words → MayBeWord (word_named words v)
named-word words (pos n) are = words-get words n are
named-word words (negsuc n) are = tt

named-pushed : (c : CodeLists) (s : State) (o : Option ℤ) → HasWords s → MayBeWord o → KeepsWords (push_named c s o)
named-pushed c s None has may = tt
named-pushed c s (Some v) has may = pushed c s v has may

named-loaded : (c : CodeLists) (s : State) (number place : Option ℤ) → HasWords s → KeepsWords (load_named c s number place)
named-loaded c s None place has = tt
named-loaded c s (Some number) None has = tt
named-loaded c s (Some number) (Some place) has =
    named-pushed c s (word_named (words_named s number) place) has (named-word (words_named s number) place (named-words s number has))

named-written : (s : State) (number place v : ℤ) (rest : List ℤ) → HasWords s → IsWord v → AreWords rest → KeepsWords (write_named s number place v rest)
named-written s (negsuc number) place v rest has is are = tt
named-written s (pos number) (negsuc place) v rest has is are = tt
named-written s (pos number) (pos place) v rest has is are =
    let words = slice_set (words_at s number) place v in
    let set = with-at s number words has (words-set (words_at s number) place v (at-words s number has) is) in
    choice (ltb place (length (words_at s number))) (Goes (advance (with_words_at s number words) rest)) (stop s result.RangeError)
    (advanced (with_words_at s number words) rest set are) tt

named-stored : (s : State) (number place : Option ℤ) (v : ℤ) (rest : List ℤ) → HasWords s → IsWord v → AreWords rest
    → KeepsWords (store_named s number place v rest)
named-stored s None place v rest has is are = tt
named-stored s (Some number) None v rest has is are = tt
named-stored s (Some number) (Some place) v rest has is are = named-written s number place v rest has is are

reference-stored : (s : State) (a : ℕ) (operands : List ℤ) → HasWords s → AreWords operands → KeepsWords (store_reference s a operands)
reference-stored s a [] has are = tt
reference-stored s a (v ∷ rest) has are =
    named-stored s (slice_get s.current.words a) (slice_get s.current.words (a + 1)) v rest has are.0 are.1

-- ---- Arithmetic
replaced : (s : State) (rest : List ℤ) (o : Option ℤ) → HasWords s → AreWords rest → MayBeWord o → KeepsWords (replace s rest o)
replaced s rest None has are may = tt
replaced s rest (Some v) has are may = advanced s (v ∷ rest) has (may, are)

unary-kept : (f : ℤ → Option ℤ) (s : State) (operands : List ℤ) → ((v : ℤ) → MayBeWord (f v)) → HasWords s → AreWords operands
    → KeepsWords (unary f s operands)
unary-kept f s [] may has are = tt
unary-kept f s (v ∷ rest) may has are = replaced s rest (f v) has are.1 (may v)

binary-kept : (f : ℤ → ℤ → Option ℤ) (s : State) (operands : List ℤ) → ((l r : ℤ) → IsWord l → MayBeWord (f l r)) → HasWords s → AreWords operands
    → KeepsWords (binary f s operands)
binary-kept f s [] may has are = tt
binary-kept f s (r ∷ []) may has are = tt
binary-kept f s (r ∷ l ∷ rest) may has are = replaced s rest (f l r) has are.1.1 (may l r are.1.0)

indexed : (s : State) (a b : ℕ) (operands : List ℤ) → HasWords s → AreWords operands → KeepsWords (index s a b operands)
indexed s a b [] has are = tt
indexed s a b (v ∷ rest) has are =
    let low = cast_signed w16 a in
    choice (int_le low v && int_le v (cast_signed w16 b)) (replace_found s rest (difference v low)) (stop s result.RangeError)
    (found-replaced s rest (difference v low) has are.1 (fit-word (v -ℤ low))) tt

chr-kept : (s : State) (operands : List ℤ) → HasWords s → AreWords operands → KeepsWords (chr s operands)
chr-kept s [] has are = tt
chr-kept s (v ∷ rest) has are =
    choice (int_le (pos 0) v && int_le v (pos 127)) (Goes (advance s (v ∷ rest))) (stop s result.RangeError) (advanced s (v ∷ rest) has are) tt

-- ---- Control
jumped : (s : State) (a : ℕ) (operands : List ℤ) → HasWords s → AreWords operands → KeepsWords (jump_false s a operands)
jumped s a [] has are = tt
jumped s a (v ∷ rest) has are = by (int_eq v (pos 0))
  where
    by : (b : Bool) → HasWords (cond b (jump_to s a rest) (advance s rest))
    by true = ((has.0.0, are.1), has.1)
    by false = ((has.0.0, are.1), has.1)

ticked : (limit : ℕ) (s : State) (a b : ℕ) → HasWords s → KeepsWords (tick limit s a b)
ticked limit s a b has = by (ltb s.ticks limit)
  where
    by : (t : Bool) → KeepsWords (cond t
        (Goes (record s { ticks = s.ticks + 1; current = record s.current { line = a * 65536 + b; place = s.current.place + 1 } }))
        (Stops result.TimeLimit (a * 65536 + b) s.ticks))
    by true = has
    by false = tt

one-more : (below : List Activation) (a : Activation) → AllHold below → Holds a → AllHold (below ++ a ∷ [])
one-more [] a all is = (is, tt)
one-more (b ∷ below) a all is = (all.0, one-more below a all.1 is)

entered : (s : State) (r : RoutineInfo) (a : ℕ) → HasWords s → KeepsWords (enter s r a)
entered s r a has =
    let words = words-append (reverse (take r.params s.current.operands)) (replicate (r.words - r.params) (pos 0))
    (words-reverse (take r.params s.current.operands) (words-take r.params s.current.operands has.0.1)) (words-zeros (r.words - r.params)) in
    let waits = one-more s.below (waiting_caller r s.current) has.1 (has.0.0, words-drop r.params s.current.operands has.0.1) in
    choice (leb r.params (length s.current.operands))
    (Goes (record s { below = s.below ++ waiting_caller r s.current ∷ []; current = opened r a s.current.operands })) Lacks ((words, tt), waits) tt

called : (c : CodeLists) (s : State) (a : ℕ) → HasWords s → KeepsWords (call c s a)
called c s a has = choice (leb 63 (length s.below)) (stop s result.StackLimit) (enter s (routine_at c a) a) tt (entered s (routine_at c a) a has)

given-back : (c : CodeLists) (s : State) (below : List Activation) (caller : Activation) (o : Option ℤ) → AllHold below → Holds caller → MayBeWord o
    → KeepsWords (give_back c s below caller o)
given-back c s below caller None all is may = tt
given-back c s below caller (Some v) all is may =
    choice (has_room c caller) (Goes (record s { below = below; current = record caller { operands = v ∷ caller.operands } })) Lacks
    ((is.0, (may, is.1)), all) tt

abbrev MayHold : Option Activation → Type 0
MayHold None = Unit {0}
MayHold (Some a) = Holds a

returned : (c : CodeLists) (s : State) (below : List Activation) (caller : Option Activation) → HasWords s → AllHold below → MayHold caller
    → KeepsWords (return_to c s below caller)
returned c s below None has all may = tt
returned c s below (Some a) has all may =
    let r = routine_at c s.current.routine in
    choice r.function (give_back c s below a (slice_get s.current.words r.params)) (Goes (record s { below = below; current = a }))
    (given-back c s below a (slice_get s.current.words r.params) all may (words-get s.current.words r.params has.0.0)) (may, all)

take-hold : (n : ℕ) (below : List Activation) → AllHold below → AllHold (take n below)
take-hold zero below all = tt
take-hold (suc n) [] all = tt
take-hold (suc n) (a ∷ below) all = (all.0, take-hold n below all.1)

get-holds : (below : List Activation) (n : ℕ) → AllHold below → MayHold (slice_get below n)
get-holds [] n all = tt
get-holds (a ∷ below) zero all = all.0
get-holds (a ∷ below) (suc n) all = get-holds below n all.1

left : (c : CodeLists) (s : State) → HasWords s → KeepsWords (leave c s)
left c s has =
    returned c s (take (length s.below - 1) s.below) (slice_get s.below (length s.below - 1)) has (take-hold (length s.below - 1) s.below has.1)
    (get-holds s.below (length s.below - 1) has.1)

-- ---- Calls of the interface
abbrev ShortRequest : Request → Type 0
ShortRequest (Makes call) = IsShort call
ShortRequest OutOfRange = Unit {0}
ShortRequest LacksValue = Unit {0}

written : (o : Option ℕ) → ShortRequest (write_of (λ b. calls.Write b) o)
written None = tt
written (Some b) = tt

displayed : (o : Option ℕ) → ShortRequest (write_of (λ b. calls.Display b) o)
displayed None = tt
displayed (Some b) = tt

page-put : (b : Bool) (call : SysCall) → IsShort call → ShortRequest (cond b (Makes call) OutOfRange)
page-put true call is = is
page-put false call is = tt

short-request : (p : Procedure) (operands array : List ℤ) (ticks : ℕ) → AreWords operands → ShortRequest (request p operands array ticks)
short-request row.Read operands array ticks are = tt
short-request row.Write [] array ticks are = tt
short-request row.Write (v ∷ rest) array ticks are = written (byte_of v)
short-request row.WriteInt [] array ticks are = tt
short-request row.WriteInt (v ∷ rest) array ticks are = are.0
short-request row.Accept operands array ticks are = tt
short-request row.Display [] array ticks are = tt
short-request row.Display (v ∷ rest) array ticks are = displayed (byte_of v)
short-request row.Open [] array ticks are = tt
short-request row.Open (v ∷ rest) array ticks are = tt
short-request row.Close [] array ticks are = tt
short-request row.Close (v ∷ rest) array ticks are = tt
short-request row.Get [] array ticks are = tt
short-request row.Get (v ∷ []) array ticks are = tt
short-request row.Get (v ∷ w ∷ rest) array ticks are = tt
short-request row.Put [] array ticks are = tt
short-request row.Put (v ∷ []) array ticks are = tt
short-request row.Put (v ∷ w ∷ rest) array ticks are = page-put (are_bytes array) (calls.Put w v (record { 0 = map unsigned_abs array })) tt
short-request row.Length [] array ticks are = tt
short-request row.Length (v ∷ rest) array ticks are = tt
short-request row.Lookup operands array ticks are = tt
short-request row.ReadArg operands array ticks are = tt
short-request row.WriteArg [] array ticks are = tt
short-request row.WriteArg (v ∷ []) array ticks are = tt
short-request row.WriteArg (v ∷ w ∷ rest) array ticks are = tt
short-request row.Run operands array ticks are = tt

made-short : (s : State) (r : Request) → ShortRequest r → KeepsWords (made s r)
made-short s (Makes call) is = is
made-short s OutOfRange is = tt
made-short s LacksValue is = tt

asked-short : (c : CodeLists) (limit : ℕ) (s : State) (p : Option Procedure) (program : Bool) (b : ℕ) → HasWords s → KeepsWords (ask_row c limit s p program b)
asked-short c limit s None program b has = tt
asked-short c limit s (Some p) program b has =
    let r = call_row_of p in
    let words = words_of program s in
    let asks = request p s.current.operands (take r.array (drop b words)) (limit - s.ticks) in
    choice (leb r.values (length s.current.operands) && leb (b + r.array) (length words)
    && leb (length s.current.operands - r.values + r.results) (routine_at c s.current.routine).height) (made s asks) Lacks
    (made-short s asks (short-request p s.current.operands (take r.array (drop b words)) (limit - s.ticks) has.0.1)) tt

-- ---- The table
row-keeps : (c : CodeLists) (limit : ℕ) (s : State) (o : Op) (a b : ℕ) → HasWords s → length s.below ≤ 63 → KeepsWords (effect c limit s o a b)
unfolding effect
row-keeps c limit s op.Push a b has few = pushed c s (cast_signed w16 a) has (cast-word a)
row-keeps c limit s op.LoadG a b has few = loaded c true s a has
row-keeps c limit s op.LoadL a b has few = loaded c false s a has
row-keeps c limit s op.StoreG a b has few = stored true s a s.current.operands has has.0.1
row-keeps c limit s op.StoreL a b has few = stored false s a s.current.operands has has.0.1
row-keeps c limit s op.LoadGX a b has few = loaded-at true s a b s.current.operands has has.0.1
row-keeps c limit s op.LoadLX a b has few = loaded-at false s a b s.current.operands has has.0.1
row-keeps c limit s op.StoreGX a b has few = stored-at true s a b s.current.operands has has.0.1
row-keeps c limit s op.StoreLX a b has few = stored-at false s a b s.current.operands has has.0.1
row-keeps c limit s op.Index a b has few = indexed s a b s.current.operands has has.0.1
row-keeps c limit s op.Add a b has few = binary-kept (binary_of op.Add) s s.current.operands (λ l r is. fit-word (l +ℤ r)) has has.0.1
row-keeps c limit s op.Sub a b has few = binary-kept (binary_of op.Sub) s s.current.operands (λ l r is. fit-word (l -ℤ r)) has has.0.1
row-keeps c limit s op.Mul a b has few = binary-kept (binary_of op.Mul) s s.current.operands (λ l r is. fit-word (l *ℤ r)) has has.0.1
row-keeps c limit s op.Div a b has few =
    binary-kept (binary_of op.Div) s s.current.operands (λ l r is. unless-zero (int_eq r (pos 0)) (fit (int_div l r)) (fit-word (int_div l r))) has has.0.1
row-keeps c limit s op.Mod a b has few =
    binary-kept (binary_of op.Mod) s s.current.operands (λ l r is. unless-zero (int_eq r (pos 0)) (Some (int_rem l r)) (rest-word l r is)) has has.0.1
row-keeps c limit s op.Neg a b has few = unary-kept (unary_of op.Neg) s s.current.operands (λ v. fit-word (neg_ℤ v)) has has.0.1
row-keeps c limit s op.Abs a b has few = unary-kept (unary_of op.Abs) s s.current.operands (λ v. fit-word (pos (unsigned_abs v))) has has.0.1
row-keeps c limit s op.Not a b has few = unary-kept (unary_of op.Not) s s.current.operands (λ v. truth-word (not (holds v))) has has.0.1
row-keeps c limit s op.And a b has few = binary-kept (binary_of op.And) s s.current.operands (λ l r is. truth-word (holds l && holds r)) has has.0.1
row-keeps c limit s op.Or a b has few = binary-kept (binary_of op.Or) s s.current.operands (λ l r is. truth-word (holds l || holds r)) has has.0.1
row-keeps c limit s op.Eq a b has few = binary-kept (binary_of op.Eq) s s.current.operands (λ l r is. truth-word (int_eq l r)) has has.0.1
row-keeps c limit s op.Ne a b has few = binary-kept (binary_of op.Ne) s s.current.operands (λ l r is. truth-word (not (int_eq l r))) has has.0.1
row-keeps c limit s op.Lt a b has few = binary-kept (binary_of op.Lt) s s.current.operands (λ l r is. truth-word (int_lt l r)) has has.0.1
row-keeps c limit s op.Gt a b has few = binary-kept (binary_of op.Gt) s s.current.operands (λ l r is. truth-word (int_lt r l)) has has.0.1
row-keeps c limit s op.Le a b has few = binary-kept (binary_of op.Le) s s.current.operands (λ l r is. truth-word (int_le l r)) has has.0.1
row-keeps c limit s op.Ge a b has few = binary-kept (binary_of op.Ge) s s.current.operands (λ l r is. truth-word (int_le r l)) has has.0.1
row-keeps c limit s op.Chr a b has few = chr-kept s s.current.operands has has.0.1
row-keeps c limit s op.Jump a b has few = has
row-keeps c limit s op.JumpF a b has few = jumped s a s.current.operands has has.0.1
row-keeps c limit s op.Tick a b has few = ticked limit s a b has
row-keeps c limit s op.Call a b has few = called c s a has
row-keeps c limit s op.Return a b has few = left c s has
row-keeps c limit s op.Sys a b has few = asked-short c limit s (procedure_at a) false 0 has
row-keeps c limit s op.SysG a b has few = asked-short c limit s (procedure_at a) true b has
row-keeps c limit s op.SysL a b has few = asked-short c limit s (procedure_at a) false b has
row-keeps c limit s op.Halt a b has few = tt
row-keeps c limit s op.Succ a b has few = unary-kept (unary_of op.Succ) s s.current.operands (λ v. fit-word (v +ℤ pos 1)) has has.0.1
row-keeps c limit s op.Pred a b has few = unary-kept (unary_of op.Pred) s s.current.operands (λ v. fit-word (v +ℤ negsuc 0)) has has.0.1
row-keeps c limit s op.RefG a b has few = referred c s 0 a has (omega arith)
row-keeps c limit s op.RefL a b has few = referred c s (length s.below) a has few
row-keeps c limit s op.LoadR a b has few = named-loaded c s (slice_get s.current.words a) (slice_get s.current.words (a + 1)) has
row-keeps c limit s op.StoreR a b has few = reference-stored s a s.current.operands has has.0.1

by-instr : (c : CodeLists) (limit : ℕ) (s : State) (i : Option Instr) → HasWords s → length s.below ≤ 63 → KeepsWords (next_by c limit s i)
by-instr c limit s None has few = tt
by-instr c limit s (Some i) has few = row-keeps c limit s i.op i.a i.b has few

by-end : (c : CodeLists) (limit : ℕ) (s : State) (o : Option Finish) → HasWords s → length s.below ≤ 63 → KeepsWords (next_of c limit s o)
by-end c limit s (Some finish) has few = tt
by-end c limit s None has few = by-instr c limit s (slice_get c.instrs s.current.place) has few

pub next-keeps : (c : CodeLists) (limit : ℕ) (s : State) → HasWords s → length s.below ≤ 63 → KeepsWords (next c limit s)
unfolding next
next-keeps c limit s has few = by-end c limit s s.ended has few
