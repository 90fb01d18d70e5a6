-- A program prints few lines, whatever its cards.
use Rattle.std.proofs.Common.{◌≡◌, ℕ, zero, suc, ◌+◌, ◌-◌, ◌*◌, ◌≤◌, Bool, true, false, None, List, [], ◌∷◌, ◌++◌, length, refl, sym, ◌∙◌, ap, subst, length-append, arith}
use Rattle.std.specs.Prelude.{flat_map, nat_lt, ◌==◌, if◌then◌else◌, take, drop}
use Rattle.std.proofs.Math.Nat.{mul-le-mul, mul-le-mul_right}
use Rattle.std.proofs.lemmas.Fmt.{length_signed_le}
use Rattle.solo_base.specs.declared.system_call.SysCall.{SysCall}
use Rattle.solo_base.specs.declared.system_call.SysCall.TheVariants as calls
use Rattle.solo_base.specs.declared.system_call.SysReply.{SysReply}
use Rattle.solo_base.specs.declared.system_call.SysReply.TheVariants as replies
use Rattle.solo_base.specs.Replies.{results_in, array_in}
use Rattle.solo_base.specs.LineList.{AreLines}
use Rattle.solo_base.specs.RunOutcome.{RunOutcome, Ends, Waits}
use Rattle.solo_base.specs.Text.{text}
use Rattle.stack_code.specs.declared.instr.Instr.{Instr}
use Rattle.stack_code.specs.CodeLists.{CodeLists, IsCode, routine_at, instr_at}
use Rattle.stack_code.specs.Rules.{IsGood, pops}
use Rattle.stack_machine.specs.States.{State}
use Rattle.stack_machine.specs.State.{words_of, with_words}
use Rattle.stack_machine.specs.Machine.{start_state, answered, reply_at, set_array, array_start, uses_program}
use Rattle.stack_machine.specs.Run.{Moves, LeadsToCall, Replied}
use Rattle.stack_machine.specs.Safe.{IsSound}
use Rattle.stack_machine.specs.Left.{instr_count, price, weight_at, left_until_end}
use Rattle.stack_machine.proofs.Weights.{heaviest}
use Rattle.stack_machine.proofs.Onward.{IsUnderWay, sets_out, goes_further, asks_there}
use Rattle.stack_machine.proofs.Reply.{goes_running, asks_running}
use Rattle.stack_machine.proofs.Rounds.{round_less}
use Rattle.stack_machine.proofs.Safety.{answered_is_sound, begins_sound}
use Rattle.pascal_mean.specs.MoreReplies.{calls_of}
use Rattle.pascal_mean.specs.Batch.{batch_reply, batch_replies, input_after, characters_of, shown, Printed, nothing_printed, with_character, with_characters, last_line}
use Rattle.batch_program.specs.Outcome.{Work, ComesTo, printed_by, lines_of}
use Rattle.batch_program.specs.Laws.{most_lines}
use Rattle.batch_program.proofs.Bytes.{AreCodes, fits_bytes, after_is_bytes, text_is_bytes}
use Rattle.batch_program.proofs.Courses.{Tail, AtEnd, AtCall, outcome_by, Course, course_of}
use Rattle.batch_program.proofs.Words.{AreWords, words-append, words-take, words-drop, words-zeros}
use Rattle.batch_program.proofs.WordsKept.{HasWords, IsShort, KeepsWords, of-words, with-of, next-keeps}

-- ---- Characters
short-call : (call : SysCall) → IsShort call → length (characters_of call) ≤ 6
short-call calls.Read is = omega arith
short-call (calls.Write byte) is = omega arith
short-call (calls.WriteInt number) is = length_signed_le 5 number (omega (arith, is)) (omega (arith, is))
short-call calls.Accept is = omega arith
short-call (calls.Display byte) is = omega arith
short-call (calls.Open f name) is = omega arith
short-call (calls.Close f) is = omega arith
short-call (calls.Get f p) is = omega arith
short-call (calls.Put f p page) is = omega arith
short-call (calls.Length f) is = omega arith
short-call (calls.Lookup name) is = omega arith
short-call calls.ReadArg is = omega arith
short-call (calls.WriteArg tag number name) is = omega arith
short-call (calls.Run name left) is = omega arith

abbrev written : List SysCall → ℕ
written made = length (flat_map characters_of made)

written-first : (call : SysCall) (made : List SysCall) → written (call ∷ made) ≡ length (characters_of call) + written made
written-first call made = length-append (characters_of call) (flat_map characters_of made)

written-last : (made : List SysCall) (call : SysCall) → written (made ++ call ∷ []) ≡ written made + length (characters_of call)
written-last [] call = let first = written-first call [] in omega (arith, first)
written-last (d ∷ made) call =
    let more = written-last made call in
    let whole = written-first d (made ++ call ∷ []) in
    let first = written-first d made in
    omega (arith, more, whole, first)

-- ---- From call to call
runs-first : (c : CodeLists) (limit n : ℕ) (s t : State) (call : SysCall) → Moves c limit n s t → t.ended ≡ None → s.ended ≡ None
runs-first c limit zero s t call same runs = ap (λ (v : State). v.ended) same ∙ runs
runs-first c limit (suc n) s t call (mid, first, others) runs = goes_running c limit s mid first

record IsWorded (c : CodeLists) (limit : ℕ) (s : State) : Type 0 where
  pub sound : IsSound c limit s
  pub words : HasWords s

record Onward (c : CodeLists) (limit : ℕ) (s t : State) : Type 0 where
  pub way : IsUnderWay c limit s t
  pub words : HasWords t

goes-on : (c : CodeLists) (limit n : ℕ) (s t u : State) → Onward c limit s t → Moves c limit n t u → Onward c limit s u
goes-on c limit zero s t u on same = subst (Onward c limit s) same on
goes-on c limit (suc n) s t u on (mid, first, others) =
    goes-on c limit n s mid u (record {
      way = goes_further c limit s t mid on.way first;
      words = subst KeepsWords first (next-keeps c limit t on.words on.way.here.open_activations);
    }) others

record AsksShortly (c : CodeLists) (limit : ℕ) (call : SysCall) (asked : State) : Type 0 where
  pub there : IsWorded c limit asked
  pub short : length (characters_of call) ≤ 6

asks-shortly : (c : CodeLists) (limit : ℕ) (s asked : State) (call : SysCall) → IsWorded c limit s → LeadsToCall c limit s call asked
    → AsksShortly c limit call asked
asks-shortly c limit s asked call is leads =
    let runs = runs-first c limit leads.steps s asked call leads.moves (asks_running c limit asked call asked leads.asks) in
    let on = goes-on c limit leads.steps s s asked (record { way = sets_out c limit s is.sound runs; words = is.words }) leads.moves in
    record {
      there = record { sound = (asks_there c limit s asked asked call on.way leads.asks).1; words = on.words };
      short = short-call call (subst KeepsWords leads.asks (next-keeps c limit asked on.words on.way.here.open_activations));
    }

reply-words : (c : CodeLists) (s : State) (i : Instr) (reply : SysReply) → HasWords s → AreWords (results_in reply) → AreWords (array_in reply)
    → HasWords (reply_at c s i reply)
reply-words c s i reply has results array =
    let program = uses_program i.op in
    let words = words_of program s in
    let at = array_start i.op i.b in
    let old = of-words program s has in
    let rest = drop (at + length (array_in reply)) words in
    let front = words-append (take at words) (array_in reply) (words-take at words old) array in
    let set = set_array words at (array_in reply) in
    let all = with-of program s set has (words-append (take at words ++ array_in reply) rest front (words-drop (at + length (array_in reply)) words old)) in
    let popped = drop (pops c i.op i.a) s.current.operands in
    ((all.0.0, words-append (results_in reply) popped results (words-drop (pops c i.op i.a) s.current.operands has.0.1)), all.1)

answered-words : (c : CodeLists) (s : State) (reply : SysReply) → HasWords s → AreWords (results_in reply) → AreWords (array_in reply)
    → HasWords (answered c s reply)
unfolding answered
answered-words c s replies.CallError has results array = has
answered-words c s replies.Done has results array = reply-words c s (instr_at c s.current.place) replies.Done has results array
answered-words c s (replies.Char byte) has results array = reply-words c s (instr_at c s.current.place) (replies.Char byte) has results array
answered-words c s (replies.Opened found) has results array = reply-words c s (instr_at c s.current.place) (replies.Opened found) has results array
answered-words c s (replies.Page page) has results array = reply-words c s (instr_at c s.current.place) (replies.Page page) has results array
answered-words c s (replies.Length pages) has results array = reply-words c s (instr_at c s.current.place) (replies.Length pages) has results array
answered-words c s (replies.Found kind found) has results array = reply-words c s (instr_at c s.current.place) (replies.Found kind found) has results array
answered-words c s (replies.Argument tag number name) has results array =
    reply-words c s (instr_at c s.current.place) (replies.Argument tag number name) has results array
answered-words c s (replies.Ran line number ticks) has results array =
    reply-words c s (instr_at c s.current.place) (replies.Ran line number ticks) has results array

-- the batch's replies give words
record GivesWords (reply : SysReply) : Type 0 where
  pub results : AreWords (results_in reply)
  pub array : AreWords (array_in reply)

nothing-given : (reply : SysReply) → results_in reply ≡ [] → array_in reply ≡ [] → GivesWords reply
nothing-given reply none no_array = record { results = subst AreWords (sym none) tt; array = subst AreWords (sym no_array) tt }

batch-words : (input : List ℕ) (call : SysCall) → AreCodes input → GivesWords (batch_reply input call)
batch-words input calls.Read bytes =
    let byte = fits_bytes input calls.Read bytes in
    record { results = (omega (arith, byte), tt); array = tt }
batch-words input (calls.Write byte) bytes = nothing-given replies.Done refl refl
batch-words input (calls.WriteInt number) bytes = nothing-given replies.Done refl refl
batch-words input calls.Accept bytes = nothing-given replies.CallError refl refl
batch-words input (calls.Display byte) bytes = nothing-given replies.CallError refl refl
batch-words input (calls.Open f name) bytes = nothing-given replies.CallError refl refl
batch-words input (calls.Close f) bytes = nothing-given replies.CallError refl refl
batch-words input (calls.Get f p) bytes = nothing-given replies.CallError refl refl
batch-words input (calls.Put f p page) bytes = nothing-given replies.CallError refl refl
batch-words input (calls.Length f) bytes = nothing-given replies.CallError refl refl
batch-words input (calls.Lookup name) bytes = nothing-given replies.CallError refl refl
batch-words input calls.ReadArg bytes = nothing-given replies.CallError refl refl
batch-words input (calls.WriteArg tag number name) bytes = nothing-given replies.CallError refl refl
batch-words input (calls.Run name left) bytes = nothing-given replies.CallError refl refl

behind-call : (c : CodeLists) (limit : ℕ) (asked : State) (call : SysCall) (input : List ℕ) → AreCodes input → IsWorded c limit asked
    → Rattle.stack_machine.specs.Machine.next c limit asked ≡ Rattle.stack_machine.specs.State.Asks call asked
    → IsWorded c limit (answered c asked (batch_reply input call))
behind-call c limit asked call input bytes is asks =
    let gives = batch-words input call bytes in
    record {
      sound = answered_is_sound c limit asked call (batch_reply input call) asked (asks_running c limit asked call asked asks) is.sound asks
          (fits_bytes input call bytes);
      words = answered-words c asked (batch_reply input call) is.words gives.results gives.array;
    }

-- what these calls wrote is paid for by what they left to run
record Paid (c : CodeLists) (limit : ℕ) (s t : State) (made : List SysCall) : Type 0 where
  pub there : IsWorded c limit t
  pub few : written made + 6 * left_until_end c limit t ≤ 6 * left_until_end c limit s

all-paid : (c : CodeLists) (limit : ℕ) (s t : State) (input : List ℕ) (made : List SysCall) → AreCodes input → IsWorded c limit s
    → Replied c limit s (batch_replies input made) made t → Paid c limit s t made
all-paid c limit s t input [] bytes is same = subst (λ u. Paid c limit s u []) same (record { there = is; few = omega arith })
all-paid c limit s t input (call ∷ made) bytes is (asked, leads, others) =
    let reply = batch_reply input call in
    let here = asks-shortly c limit s asked call is leads in
    let later = all-paid c limit (answered c asked reply) t (input_after input call) made (after_is_bytes input call bytes)
    (behind-call c limit asked call input bytes here.there leads.asks) others in
    let less = round_less c limit s asked call reply is.sound.good leads in
    let short = here.short in
    let few = later.few in
    let whole = written-first call made in
    record { there = later.there; few = omega (arith, less, short, few, whole) }

begins-worded : (c : CodeLists) (limit : ℕ) → IsCode c → IsGood c → IsWorded c limit (start_state c)
begins-worded c limit code good = record { sound = begins_sound c limit code good; words = ((words-zeros (routine_at c 0).words, tt), tt) }

course-few : (c : CodeLists) (limit : ℕ) (input : List ℕ) (closed : Bool) (made : List SysCall) (tail : Tail) → IsCode c → IsGood c → AreCodes input
    → Course c limit (start_state c) input closed made tail
    → written (calls_of (outcome_by tail made)) ≤ 6 * left_until_end c limit (start_state c)
course-few c limit input closed made (AtEnd r line ticks) code good bytes course =
    let paid = (all-paid c limit (start_state c) course.behind input made bytes (begins-worded c limit code good) course.replied).few in
    omega (arith, paid)
course-few c limit input closed made (AtCall call) code good bytes course =
    let paid = all-paid c limit (start_state c) course.behind input made bytes (begins-worded c limit code good) course.replied in
    let asked = course.comes.0 in
    let leads = course.comes.1 in
    let short = (asks-shortly c limit course.behind asked call paid.there leads).short in
    let less = round_less c limit course.behind asked call replies.CallError good leads in
    let few = paid.few in
    let whole = written-last made call in
    omega (arith, short, less, few, whole)

-- ---- Lines
choice-few : (first second : Bool) (x y z : Printed) (n : ℕ) → length x.lines ≤ n → length y.lines ≤ n → length z.lines ≤ n
    → length (if first then x else if second then y else z).lines ≤ n
choice-few true second x y z n a b c = a
choice-few false true x y z n a b c = b
choice-few false false x y z n a b c = c

character-few : (p : Printed) (code : ℕ) → length (with_character p code).lines ≤ length p.lines + 1
character-few p code =
    let more = length-append p.lines (p.line ∷ []) in
    choice-few (code == 10) (nat_lt (length p.line) 132) (record { lines = p.lines ++ p.line ∷ []; line = [] })
    (record { lines = p.lines; line = p.line ++ shown code ∷ [] }) (record { lines = p.lines ++ p.line ∷ []; line = shown code ∷ [] })
    (length p.lines + 1) (omega (arith, more)) (omega arith) (omega (arith, more))

characters-few : (p : Printed) (codes : List ℕ) → length (with_characters p codes).lines ≤ length p.lines + length codes
characters-few p [] = omega arith
characters-few p (code ∷ codes) =
    let one = character-few p code in
    let more = characters-few (with_character p code) codes in
    omega (arith, one, more)

last-few : (line : List ℕ) → length (last_line line) ≤ 1
last-few [] = omega arith
last-few (code ∷ rest) = omega arith

lines-by : (outcome : RunOutcome) → length (lines_of outcome) ≤ written (calls_of outcome) + 1
lines-by (Ends r line ticks made) =
    let few = characters-few nothing_printed (flat_map characters_of made) in
    let last = last-few (printed_by made).line in
    let whole = length-append (printed_by made).lines (last_line (printed_by made).line) in
    omega (arith, few, last, whole)
lines-by (Waits made) = let few = characters-few nothing_printed (flat_map characters_of made) in omega (arith, few)

-- ---- What a code has to run
price-low : (n : ℕ) → n ≤ 8192 → n * (n + 2) + (n + 2) ≤ 67133442
price-low n few = let most = mul-le-mul_right (n + 2) few in omega (arith, few, most)

paid-by-ticks : (limit left one first : ℕ) → left ≤ limit → one ≤ 67133442 → first ≤ one → 6 * (left * one + 0 + first + 1) + 1 ≤ most_lines limit
paid-by-ticks limit left one first low cheap light = let all = mul-le-mul low cheap in omega (arith, cheap, light, all)

within-limit : (c : CodeLists) (limit : ℕ) → IsCode c → 6 * left_until_end c limit (start_state c) + 1 ≤ most_lines limit
within-limit c limit code =
    paid-by-ticks limit (limit - 0) (price c) (weight_at c 0) (omega arith) (price-low (instr_count c) code.few_instrs) (heaviest c 0)

pub few-lines : (w : Work) (outcome : RunOutcome) → IsCode w.code → IsGood w.code → AreLines w.cards → ComesTo w outcome
    → length (lines_of outcome) ≤ most_lines w.limit
few-lines w outcome code good lines comes =
    let found = course_of w.code w.limit (text w.cards) w.closed outcome comes in
    let few = course-few w.code w.limit (text w.cards) w.closed found.made found.tail code good (text_is_bytes w.cards lines) found.course in
    let calls = ap (λ o. written (calls_of o)) found.is in
    let by = lines-by outcome in
    let within = within-limit w.code w.limit code in
    omega (arith, few, calls, by, within)
