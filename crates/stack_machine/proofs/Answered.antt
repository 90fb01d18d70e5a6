-- What a reply makes of a state.
use Rattle.std.proofs.Common.{◌≡◌, ℕ, ◌+◌, ◌<◌, ◌≤◌, Bool, true, false, List, [], ◌∷◌, ◌++◌, length, take, drop, set, get_or, map, ℤ, pos, refl, sym, ◌∙◌, ap, arith, add-zero, subst, Fits}
use Rattle.std.specs.Prelude.{unsigned_abs}
use Rattle.std.specs.Int.{w8, w16}
use Rattle.std.proofs.Math.Seq.{set-append_seam}
use Rattle.std.proofs.lemmas.Int.{to_z-of_z, fits_signed_from_abs}
use Rattle.std.proofs.lemmas.List.{get_or_default, append_assoc, append-nil, length-append, length-take, length-drop, drop_more, take_more, map-append, length-map, take_all, take-append-drop}
use mir.Val.{to_z, of_z}
use Rattle.solo_base.specs.declared.system_call.SysReply.{SysReply}
use Rattle.solo_base.specs.declared.system_call.SysReply.TheVariants as replies
use Rattle.stack_code.specs.declared.instr.Instr.{Instr}
use Rattle.solo_base.specs.Interface.{values_of}
use Rattle.stack_code.specs.Rules.{pops}
use Rattle.stack_code.specs.CodeLists.{CodeLists, instr_at, no_instr}
use Rattle.stack_machine.specs.declared.state.Store.{Store}
use Rattle.stack_machine.specs.States.{State}
use Rattle.stack_machine.specs.Shown.{shown, in_store}
use Rattle.stack_machine.specs.State.{words_of, with_words}
use Rattle.stack_machine.specs.Machine.{set_array, reply_at, answered}
use Rattle.stack_machine.specs.Room.{TakesReply, HasRoomFor}
use Rattle.stack_machine.proofs.Frames.{again_at, back_at, same_at}

-- ---- Words written again

-- a second write stands alone
pub written_again : (program : Bool) (s : State) (first second : List ℤ) → with_words program (with_words program s first) second ≡ with_words program s second
written_again true s first second = again_at s 0 first second
written_again false s first second = refl

-- what was written is read
pub words_back : (program : Bool) (s : State) (words : List ℤ) → words_of program (with_words program s words) ≡ words
words_back true s words = back_at s 0 words (omega arith)
words_back false s words = refl

-- the same words change nothing
pub words_same : (program : Bool) (s : State) → with_words program s (words_of program s) ≡ s
words_same true s = same_at s 0
words_same false s = refl

-- ---- An array that is set

pub no_array : (words : List ℤ) (start : ℕ) → set_array words start [] ≡ words
no_array words start = rw (append-nil (take start words), add-zero start) (take-append-drop start words)

-- one more word
splice : (words array : List ℤ) (start : ℕ) (word : ℤ) → start + length array < length words
    → set (set_array words start array) (start + length array) word ≡ set_array words start (array ++ word ∷ [])
splice words array start word inside =
    let front = take start words ++ array in
    let next = start + length array in
    let rest = drop (next + 1) words in
    let long : next ≡ length front = omega (arith, length-append (take start words) array, length-take start words) in
    let longer : next + 1 ≡ start + length (array ++ word ∷ []) = omega (arith, length-append array (word ∷ [])) in
    ap (λ (l : List ℤ). set (front ++ l) next word) (drop_more words next (pos 0) inside)
    ∙ ap (λ n. set (front ++ get_or words next (pos 0) ∷ rest) n word) long
    ∙ set-append_seam front (get_or words next (pos 0)) rest word
    ∙ sym (append_assoc front (word ∷ []) rest)
    ∙ ap (λ (l : List ℤ). l ++ rest) (append_assoc (take start words) array (word ∷ []))
    ∙ ap (λ n. take start words ++ (array ++ word ∷ []) ++ drop n words) longer

-- the words as far as the first n bytes set them
abbrev pub part_set : List ℤ → ℕ → List ℕ → ℕ → List ℤ
part_set words start bytes n = set_array words start (map pos (take n bytes))

length_part : (bytes : List ℕ) (n : ℕ) → n ≤ length bytes → length (map pos (take n bytes)) ≡ n
length_part bytes n few = omega (arith, length-map (take n bytes) pos, length-take n bytes)

pub length_set : (words : List ℤ) (start : ℕ) (array : List ℤ) → start + length array ≤ length words → length (set_array words start array) ≡ length words
length_set words start array room =
    omega (arith, length-append (take start words ++ array) (drop (start + length array) words), length-append (take start words) array, length-take start words, length-drop (start + length array) words)

one_byte_more : (words : List ℤ) (start n : ℕ) (bytes : List ℕ) → n < length bytes → start + length bytes ≤ length words
    → set (part_set words start bytes n) (start + n) (pos (get_or bytes n 0)) ≡ part_set words start bytes (n + 1)
one_byte_more words start n bytes below room =
    let few = length_part bytes n (omega arith) in
    ap (λ m. set (part_set words start bytes n) (start + m) (pos (get_or bytes n 0))) (sym few)
    ∙ splice words (map pos (take n bytes)) start (pos (get_or bytes n 0)) (omega (arith, few))
    ∙ ap (set_array words start) (sym (map-append pos (take n bytes) (get_or bytes n 0 ∷ [])) ∙ ap (map pos) (sym (take_more bytes n 0 below)))

-- a frame's word that is there, in a frame of which a part is set
inside_still : (program : Bool) (s t : State) (start n : ℕ) (bytes : List ℕ) → t ≡ with_words program s (part_set (words_of program s) start bytes n) → n < length bytes
    → start + length bytes ≤ length (words_of program s) → start + n < length (words_of program t)
inside_still program s t start n bytes is below room =
    let few = length_part bytes n (omega arith) in
    let same = ap (words_of program) is ∙ words_back program s (part_set (words_of program s) start bytes n) in
    let long = length_set (words_of program s) start (map pos (take n bytes)) (omega (arith, few, room)) in
    rw same (omega (arith, long, room, below))

pub still_inside : (program : Bool) (s t : Store) (start n : ℕ) (bytes : List ℕ) → t ≡ in_store s (with_words program (shown s) (part_set (words_of program (shown s)) start bytes n)) → n < length bytes
    → start + length bytes ≤ length (words_of program (shown s)) → start + n < length (words_of program (shown t))
still_inside program s t start n bytes is below room = inside_still program (shown s) (shown t) start n bytes (ap shown is) below room

byte_set : (program : Bool) (s t : State) (start n : ℕ) (bytes : List ℕ) (word : ℤ) → t ≡ with_words program s (part_set (words_of program s) start bytes n) → n < length bytes
    → start + length bytes ≤ length (words_of program s) → word ≡ pos (get_or bytes n 0) → Fits w8 (get_or bytes n 0)
    → with_words program t (set (words_of program t) (start + n) (to_z w16 (of_z w16 word))) ≡ with_words program s (part_set (words_of program s) start bytes (n + 1))
byte_set program s t start n bytes word is below room byte small =
    let words = words_of program s in
    let back = words_back program s (part_set words start bytes n) in
    ap (λ z. with_words program t (set (words_of program t) (start + n) z)) (to_z-of_z w16 word (fits_signed_from_abs w16 word (omega (arith, small.fits, ap unsigned_abs byte))))
    ∙ ap (λ v. with_words program v (set (words_of program v) (start + n) word)) is
    ∙ ap (λ (l : List ℤ). with_words program (with_words program s (part_set words start bytes n)) (set l (start + n) word)) back
    ∙ written_again program s (part_set words start bytes n) (set (part_set words start bytes n) (start + n) word)
    ∙ ap (with_words program s) (ap (set (part_set words start bytes n) (start + n)) byte ∙ one_byte_more words start n bytes below room)

pub byte_is_set : (program : Bool) (s t u : Store) (start n : ℕ) (bytes : List ℕ) (word : ℤ) → t ≡ in_store s (with_words program (shown s) (part_set (words_of program (shown s)) start bytes n)) → n < length bytes
    → start + length bytes ≤ length (words_of program (shown s)) → word ≡ pos (get_or bytes n 0) → Fits w8 (get_or bytes n 0)
    → u ≡ in_store t (with_words program (shown t) (set (words_of program (shown t)) (start + n) (to_z w16 (of_z w16 word))))
    → u ≡ in_store s (with_words program (shown s) (part_set (words_of program (shown s)) start bytes (n + 1)))
byte_is_set program s t u start n bytes word is below room byte small set_now =
    let written = with_words program (shown t) (set (words_of program (shown t)) (start + n) (to_z w16 (of_z w16 word))) in
    set_now ∙ ap (λ (v : Store). in_store v written) is
    ∙ ap (in_store s) (byte_set program (shown s) (shown t) start n bytes word (ap shown is) below room byte small)

pub all_bytes_set : (program : Bool) (s t : Store) (start n : ℕ) (bytes : List ℕ) → t ≡ in_store s (with_words program (shown s) (part_set (words_of program (shown s)) start bytes n)) → n ≡ length bytes
    → t ≡ in_store s (with_words program (shown s) (set_array (words_of program (shown s)) start (map pos bytes)))
all_bytes_set program s t start n bytes is all =
    is ∙ ap (λ (l : List ℕ). in_store s (with_words program (shown s) (set_array (words_of program (shown s)) start (map pos l)))) (take_all n bytes (omega (arith, all)))

nothing_set : (program : Bool) (s : State) (start : ℕ) (array : List ℤ) → array ≡ [] → s ≡ with_words program s (set_array (words_of program s) start array)
nothing_set program s start array none =
    sym (ap (λ (l : List ℤ). with_words program s (set_array (words_of program s) start l)) none ∙ ap (with_words program s) (no_array (words_of program s) start) ∙ words_same program s)

pub no_bytes_set : (program : Bool) (s : Store) (start : ℕ) (array : List ℤ) → array ≡ [] → s ≡ in_store s (with_words program (shown s) (set_array (words_of program (shown s)) start array))
no_bytes_set program s start array none = ap (in_store s) (nothing_set program (shown s) start array none)

-- ---- The whole answer

takes : (c : CodeLists) (s : State) (most : ℕ) (reply : SysReply) → (reply ≡ replies.CallError → ⊥) → HasRoomFor c s most reply → TakesReply c s most reply
takes c s most replies.CallError other room = absurd (other refl)
takes c s most reply other room = room

completes : (c : CodeLists) (s : State) (reply : SysReply) → (reply ≡ replies.CallError → ⊥) → reply_at c s (instr_at c s.current.place) reply ≡ answered c s reply
unfolding answered
completes c s replies.CallError other = absurd (other refl)
completes c s reply other = refl

-- the instruction that was found in the code, whatever stands past its end
pub completed : (c : CodeLists) (s t : Store) (reply : SysReply) (instrs : List Instr) (past : Instr) → instrs ≡ c.instrs → (reply ≡ replies.CallError → ⊥)
    → HasRoomFor c (shown s) s.current.operands.room reply
    → ((d : CodeLists) → pops d (get_or instrs s.current.place past).op (get_or instrs s.current.place past).a ≡ values_of (get_or instrs s.current.place past).a → t ≡ in_store s (reply_at d (shown s) (get_or instrs s.current.place past) reply))
    → t ≡ in_store s (answered c (shown s) reply)
completed c s t reply instrs past same other room done =
    let here = takes c (shown s) s.current.operands.room reply other room in
    let found : get_or instrs s.current.place past ≡ instr_at c s.current.place = ap (λ (l : List Instr). get_or l s.current.place past) same ∙ get_or_default c.instrs s.current.place past no_instr here.inside in
    let P : Instr → Type 0 = λ i. pops c i.op i.a ≡ values_of i.a in
    done c (subst P (sym found) here.pops_values) ∙ ap (λ i. in_store s (reply_at c (shown s) i reply)) found ∙ ap (in_store s) (completes c (shown s) reply other)
