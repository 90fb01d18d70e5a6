-- A call of the interface, up to its reply.
use Rattle.std.proofs.Common.{◌≡◌, ℕ, ◌+◌, ◌-◌, ◌<◌, ◌≤◌, Bool, true, false, ◌&&◌, Option, Some, None, List, [], ◌∷◌, ◌++◌, length, take, drop, ℤ, pos, ◌+ℤ◌, refl, sym, ◌∙◌, ap, subst, arith}
use Rattle.std.specs.Prelude.{slice_get, if◌then◌else◌, nat_le, reverse}
use Rattle.std.proofs.lemmas.Option.{get_or_from_slice_get, slice_get_within}
use Rattle.solo_base.specs.declared.interface.Procedure.{Procedure}
use Rattle.solo_base.specs.declared.outcome.ProgResult.TheVariants as result
use Rattle.solo_base.specs.declared.system_call.SysCall.{SysCall}
use Rattle.solo_base.specs.declared.system_call.SysReply.{SysReply}
use Rattle.solo_base.specs.declared.system_call.SysReply.TheVariants as replies
use Rattle.solo_base.specs.Interface.{call_row_of, values_of}
use Rattle.solo_base.specs.Replies.{results_in, array_in, ticks_in}
use Rattle.stack_code.specs.declared.table.Op.TheVariants as op
use Rattle.stack_code.specs.declared.instr.Instr.{Instr}
use Rattle.stack_code.specs.CodeLists.{CodeLists, instr_at, no_instr, routine_at}
use Rattle.stack_machine.specs.States.{State}
use Rattle.stack_machine.specs.Activations.{words_from, waiting_with, own_with}
use Rattle.stack_machine.specs.State.{Next, Asks, Lacks}
use Rattle.stack_machine.specs.Calls.{made, request, ask_row}
use Rattle.stack_machine.specs.Machine.{effect, next, answered, reply_at, set_array}
use Rattle.stack_machine.proofs.Answered.{no_array}
use Rattle.pascal_mean.specs.Means.{Owner, OfProgram, OfRoutine, Bounds}
use Rattle.pascal_mean.specs.Situation.{Situation, Course, end_with, replied, answered_by, make_call, with_call}
use Rattle.pascal_mean.specs.Variables.{map_at, owner_number, ArrayPlace, whole_array, elements_from, stored_elements, size_of}
use Rattle.std.proofs.Math.IntN.{+ℤ_comm, +ℤ_idl}
use Rattle.solo_base.specs.declared.interface.Procedure.TheVariants as row
use Rattle.pascal_mean.specs.Calls.{call_for}
use Rattle.pascal_mean.specs.Meaning as meaning
use Rattle.pascal_code.specs.Frames.{Frame}
use Rattle.pascal_code.specs.Senses.{Array, sense_in}
use Rattle.pascal_code.specs.Instructions.{with_a, call_with_array}
use Rattle.pascal_code.specs.Calls.{row_number}
use Rattle.code_law.specs.Regions.{region_found}
use Rattle.code_law.specs.Ties.{AreTied}
use Rattle.code_law.proofs.ArraySet.{elements_put, put_keeps, stored_is, words_set, stays_behind, set_is, tied_all, read_is}
use Rattle.code_law.proofs.Opening.{on_top, top_reversed}
use Rattle.std.proofs.lemmas.List.{drop_at, length-reverse}
use Rattle.code_law.proofs.Requests.{row_is, requested, request_is, row_of, its_row, IsAnswer, SetsRow, sets_row}
use Rattle.code_law.proofs.Reached.{Reached, does, asks_if, stops_if, stops, first_reply, next_reply, waits, reply_fits, is_answered, fails}
use Rattle.code_law.proofs.Here.{Fixed, own_number, state_at, Here, After}
use Rattle.code_law.proofs.Loads.{own_words}
use Rattle.code_law.proofs.Stores.{rewritten_at, own_reached}

-- the answer to a row: its results stand on top, as many as it gives
pub record Answered (c : CodeLists) (limit : ℕ) (all : List SysReply) (f : Fixed) (q : ℕ) (rest : List ℤ) (p : Procedure)
    (sets : SysReply → Situation → Situation) (reply : SysReply) (now : Situation) : Type 0 where
  pub here : Here c limit all f q (results_in reply ++ rest) (sets reply now)
  pub row : SetsRow p reply

-- a stack of values above others, without the values
dropped : (values rest : List ℤ) → drop (length values) (on_top values rest) ≡ rest
dropped values rest = ap (drop (length values)) (top_reversed values rest) ∙ drop_at (reverse values) rest (length values) (length-reverse values)

module _ {c : CodeLists} {limit : ℕ} {all : List SysReply} {f : Fixed} where
  -- ---- What becomes of a state in which a call is asked for, once a reply's state is known
  module _ (p : Procedure) (q : ℕ) (i : Instr) (operands rest : List ℤ) (now : Situation) (h : Here c limit all f q operands now)
      (found : slice_get c.instrs q ≡ Some i) (sets : SysReply → Situation → Situation)
      (call : SysCall) (row : row_of call ≡ p) (asks : (let s = state_at f.routine h.below q now.line h.words operands now.ticks in next c limit s ≡ Asks call
      s))
      (goes_on : (reply : SysReply) → SetsRow p reply → IsAnswer reply
      → (let s = state_at f.routine h.below q now.line h.words operands now.ticks in
      (reached : (answered c s reply).ended ≡ None → Reached c limit all (answered c s reply) (now.made ++ call ∷ []))
      → Here c limit all f (q + 1) (results_in reply ++ rest) (sets reply (record (with_call call now) { ticks = now.ticks + ticks_in reply })))) where
    with_reply : (reply : SysReply) (left : List SysReply) → (h.reached).left ≡ reply ∷ left
        → After c limit all (λ r n. Answered c limit all f (q + 1) rest p sets r n) (replied reply (with_call call now))
    with_reply replies.CallError left is = record { comes = fails call h.reached asks left is }
    with_reply reply left is =
        let set : SetsRow p reply = subst (λ r. SetsRow r reply) row (sets_row call reply (reply_fits call h.reached asks reply left is) tt) in
        record { comes = record { here = goes_on reply set tt (is_answered call h.reached asks reply left is); row = set } }

    by_left : (left : List SysReply) → (h.reached).left ≡ left → After c limit all (λ r n. Answered c limit all f (q + 1) rest p sets r n)
        (answered_by (first_reply left) (with_call call now))
    by_left [] is = record { comes = waits call h.reached asks is }
    by_left (reply ∷ left) is = with_reply reply left is

    pub call_made : After c limit all (λ r n. Answered c limit all f (q + 1) rest p sets r n) (make_call (meaning.in_order all) call now)
    call_made = subst (λ (o : Option SysReply). After c limit all (λ r n. Answered c limit all f (q + 1) rest p sets r n) (answered_by o (with_call call now)))
        (sym (next_reply call h.reached)) (by_left (h.reached).left refl)

-- ---- The instruction

-- what a row asks for, or a range error
abbrev pub asking : (List SysCall → Option SysReply) → Option SysCall → Situation → Course SysReply
asking answers None now = end_with result.RangeError now
asking answers (Some call) now = make_call answers call now

pops_is : (p : Procedure) → values_of (row_number p) ≡ (call_row_of p).values
pops_is row.Read = refl
pops_is row.Write = refl
pops_is row.WriteInt = refl
pops_is row.Accept = refl
pops_is row.Display = refl
pops_is row.Open = refl
pops_is row.Close = refl
pops_is row.Get = refl
pops_is row.Put = refl
pops_is row.Length = refl
pops_is row.Lookup = refl
pops_is row.ReadArg = refl
pops_is row.WriteArg = refl
pops_is row.Run = refl

none_of_length : (xs : List ℤ) → length xs ≤ 0 → xs ≡ []
none_of_length [] few = refl
none_of_length (x ∷ xs) few = absurd (omega (arith, few))

low_itself : (low : ℤ) → low +ℤ pos 0 ≡ low
low_itself low = +ℤ_comm low (pos 0) ∙ +ℤ_idl low

-- what is asked where there is room
abbrev asked_if : Bool → State → Option SysCall → Next
asked_if room s o = if room then made s (requested o) else Lacks

module _ {c : CodeLists} {limit : ℕ} {all : List SysReply} {f : Fixed} where
  by_call : (p : Procedure) (q : ℕ) (i : Instr) (operands rest : List ℤ) (now : Situation) (h : Here c limit all f q operands now)
      (found : slice_get c.instrs q ≡ Some i) (sets : SysReply → Situation → Situation)
      (room : Bool) (o : Option SysCall) → ((call : SysCall) → o ≡ Some call → row_of call ≡ p)
      → (let s = state_at f.routine h.below q now.line h.words operands now.ticks in next c limit s ≡ asked_if room s o)
      → ((call : SysCall) (reply : SysReply) → SetsRow p reply → IsAnswer reply
      → (let s = state_at f.routine h.below q now.line h.words operands now.ticks in
      (reached : (answered c s reply).ended ≡ None → Reached c limit all (answered c s reply) (now.made ++ call ∷ []))
      → Here c limit all f (q + 1) (results_in reply ++ rest) (sets reply (record (with_call call now) { ticks = now.ticks + ticks_in reply }))))
      → After c limit all (λ r n. Answered c limit all f (q + 1) rest p sets r n) (asking (meaning.in_order all) o now)
  by_call p q i operands rest now h found sets room None row step goes_on = record
      { comes = stops result.RangeError now.line now.ticks h.reached (stops_if room result.RangeError now.line now.ticks h.reached step) }
  by_call p q i operands rest now h found sets room (Some call) row step goes_on =
      call_made p q i operands rest now h found sets call (row call refl) (asks_if room call h.reached step)
      (λ reply set answer reached. goes_on call reply set answer reached)

  -- a row without an array
  pub row_called : (p : Procedure) (q : ℕ) (values rest : List ℤ) (now : Situation) → (call_row_of p).array ≡ 0 → length values ≡ (call_row_of p).values
      → Here c limit all f q (on_top values rest) now
      → slice_get c.instrs q ≡ Some (with_a op.Sys (row_number p))
      → After c limit all (λ r n. Answered c limit all f (q + 1) rest p (λ reply m. m) r n)
      (asking (meaning.in_order all) (call_for p values [] (limit - now.ticks)) now)
  unfolding effect answered
  row_called p q values rest now plain count h found =
      let r = call_row_of p in
      let s = state_at f.routine h.below q now.line h.words (on_top values rest) now.ticks in
      let room = nat_le r.values (length (on_top values rest)) && nat_le (0 + r.array) (length h.words) && nat_le
      (length (on_top values rest) - r.values + r.results) (routine_at c f.routine).height in
      let empty : take r.array (drop 0 h.words) ≡ [] = ap (λ n. take n (drop 0 h.words)) plain in
      let step : next c limit s ≡ asked_if room s (call_for p values [] (limit - now.ticks)) =
      does h.reached (with_a op.Sys (row_number p)) found ∙ ap (λ o. ask_row c limit s o false 0) (row_is p)
      ∙ ap (λ (array : List ℤ). if room then made s (request p (on_top values rest) array (limit - now.ticks)) else Lacks) empty
      ∙ ap (λ request. if room then made s request else Lacks) (request_is p values rest [] (limit - now.ticks) count) in
      by_call p q (with_a op.Sys (row_number p)) (on_top values rest) rest now h found (λ reply m. m) room (call_for p values [] (limit - now.ticks))
      (λ call e. its_row p values [] (limit - now.ticks) call e) step
      (λ call reply set answer reached. goes_on call reply set answer reached)
    where
      goes_on : (call : SysCall) (reply : SysReply) → SetsRow p reply → IsAnswer reply
          → (let s = state_at f.routine h.below q now.line h.words (on_top values rest) now.ticks in
          (reached : (answered c s reply).ended ≡ None → Reached c limit all (answered c s reply) (now.made ++ call ∷ []))
          → Here c limit all f (q + 1) (results_in reply ++ rest) (record (with_call call now) { ticks = now.ticks + ticks_in reply }))
      goes_on call replies.CallError set answer reached = absurd answer
      goes_on call reply set answer reached =
          let s = state_at f.routine h.below q now.line h.words (on_top values rest) now.ticks in
          let i : instr_at c q ≡ with_a op.Sys (row_number p) = get_or_from_slice_get c.instrs q (with_a op.Sys (row_number p)) no_instr found in
          let few : length (array_in reply) ≤ 0 = omega (arith, set.array, plain) in
          let same : set_array h.words 0 (array_in reply) ≡ h.words = ap (set_array h.words 0) (none_of_length (array_in reply) few) ∙ no_array h.words 0 in
          let under : drop (values_of (row_number p)) (on_top values rest) ≡ rest =
          ap (λ n. drop n (on_top values rest)) (pops_is p ∙ sym count) ∙ dropped values rest in
          let t : List ℤ → List ℤ → State = λ words left. state_at f.routine h.below (q + 1) now.line words (results_in reply ++ left)
          (now.ticks + ticks_in reply) in
          let state : answered c s reply ≡ t h.words rest = ap (λ (j : Instr). reply_at c s j reply) i ∙ ap
          (λ w. t w (drop (values_of (row_number p)) (on_top values rest))) same ∙ ap (t h.words) under in
          record {
            below = h.below;
            words = h.words;
            reached = subst (λ (u : State). Reached c limit all u (now.made ++ call ∷ [])) state (reached (ap (λ (u : State). u.ended) state));
            waiting = h.waiting;
            agree = h.agree;
            named = h.named;
            risen = omega (arith, h.risen);
          }

  -- ---- A row with its array
  module _ (p : Procedure) (q : ℕ) (values rest : List ℤ) (now : Situation) (h : Here c limit all f q (on_top values rest) now)
      (count : length values ≡ (call_row_of p).values)
      (owner : Owner) (g : Frame) (frame : slice_get f.frames (owner_number owner (own_number f)) ≡ Some g) (x : List ℕ) (o : Owner) (a : ℕ) (bounds : Bounds)
      (is : sense_in g x ≡ Some (Array o a bounds)) (size : size_of bounds ≡ (call_row_of p).array) where
    abbrev number : ℕ
    number = owner_number owner (own_number f)

    abbrev place : ArrayPlace
    place = record { activation = number; letters = x; bounds = bounds }

    abbrev array_words : List ℤ
    array_words = words_from h.below h.words number

    abbrev pub set_in : SysReply → Situation → Situation
    set_in reply m = stored_elements place bounds.low (array_in reply) m

    word_there : (i : ℕ) → i < size_of bounds → slice_get array_words (a + i) ≡ Some ((map_at now.maps number).elements x (bounds.low +ℤ pos i))
    word_there i low = (h.agree.tied number g frame).arrays x o a bounds i is low

    fits_in : a + size_of bounds ≤ length array_words
    fits_in =
        let last : size_of bounds - 1 < size_of bounds = omega arith in
        omega (arith, slice_get_within array_words (a + (size_of bounds - 1)) _ (word_there (size_of bounds - 1) last))

    read_whole : take (call_row_of p).array (drop a array_words) ≡ whole_array place now
    read_whole =
        let from : a + 0 ≡ a = omega arith in
        ap (λ n. take n (drop a array_words)) (sym size) ∙ ap (λ n. take (size_of bounds) (drop n array_words)) (sym from)
        ∙ read_is array_words place bounds.low now a 0 (size_of bounds) (λ i low. word_there i (omega (arith, low)))
        ∙ ap (λ z. elements_from place z (size_of bounds) now) (low_itself bounds.low)

    -- the words with the array of a reply, and what they tell
    module _ (call : SysCall) (reply : SysReply) (set : SetsRow p reply) where
      abbrev new_words : List ℤ
      new_words = words_set array_words a (array_in reply)

      new_is : set_array array_words a (array_in reply) ≡ new_words
      new_is = set_is array_words a (array_in reply) (omega (arith, fits_in, set.array, size))

      told : Reached c limit all (state_at f.routine (waiting_with h.below number new_words) (q + 1) now.line (own_with h.below h.words number new_words)
          (results_in reply ++ rest) (now.ticks + ticks_in reply)) (now.made ++ call ∷ [])
          → Here c limit all f (q + 1) (results_in reply ++ rest) (set_in reply (record (with_call call now) { ticks = now.ticks + ticks_in reply }))
      told reached =
          let n : Situation = record (with_call call now) { ticks = now.ticks + ticks_in reply } in
          let apart = h.agree.apart number g frame in
          let from : a + 0 ≡ a = omega arith in
          let tied : AreTied f.frames number g (elements_put x bounds.low (array_in reply) (map_at now.maps number)) new_words =
          subst (λ z. AreTied f.frames number g (elements_put x z (array_in reply) (map_at now.maps number)) new_words) (low_itself bounds.low)
          (subst (λ k. AreTied f.frames number g (elements_put x (bounds.low +ℤ pos 0) (array_in reply) (map_at now.maps number))
          (words_set array_words k (array_in reply))) from
          (tied_all f.frames number g apart x o a bounds is 0 (array_in reply) (map_at now.maps number) array_words (h.agree.tied number g frame)
          (omega (arith, set.array, size)))) in
          subst (λ (m : Situation). Here c limit all f (q + 1) (results_in reply ++ rest) m) (sym (stored_is place bounds.low (array_in reply) n))
          (rewritten_at h number g frame (now.ticks + ticks_in reply) (now.made ++ call ∷ []) (omega arith) (elements_put x bounds.low (array_in reply))
          (put_keeps x bounds.low (array_in reply)) new_words (q + 1) (results_in reply ++ rest)
          (λ b far. stays_behind array_words a b (array_in reply)
          (omega (arith, far, set.array, size, apart.inside x (record { first = a; count = size_of bounds }) (ap region_found is)))) tied reached)

-- the array of a row in the program's frame, or in the own one
module _ {c : CodeLists} {limit : ℕ} {all : List SysReply} {f : Fixed} where
  pub array_called : (p : Procedure) (q : ℕ) (values rest : List ℤ) (now : Situation) (h : Here c limit all f q (on_top values rest) now)
      → length values ≡ (call_row_of p).values → (owner : Owner) (g : Frame)
      → slice_get f.frames (owner_number owner (own_number f)) ≡ Some g → (x : List ℕ) (o : Owner) (a : ℕ) (bounds : Bounds)
      → sense_in g x ≡ Some (Array o a bounds) → size_of bounds ≡ (call_row_of p).array
      → slice_get c.instrs q ≡ Some (call_with_array owner (row_number p) a)
      → (let e : ArrayPlace = record { activation = owner_number owner (own_number f); letters = x; bounds = bounds } in
      After c limit all (λ r n. Answered c limit all f (q + 1) rest p (λ reply m. stored_elements e bounds.low (array_in reply) m) r n)
      (asking (meaning.in_order all) (call_for p values (whole_array e now) (limit - now.ticks)) now))
  unfolding effect answered
  array_called p q values rest now h count OfProgram g frame x o a bounds is size found =
      let r = call_row_of p in
      let s = state_at f.routine h.below q now.line h.words (on_top values rest) now.ticks in
      let e : ArrayPlace = record { activation = 0; letters = x; bounds = bounds } in
      let words = words_from h.below h.words 0 in
      let room = nat_le r.values (length (on_top values rest)) && nat_le (a + r.array) (length words) && nat_le
      (length (on_top values rest) - r.values + r.results) (routine_at c f.routine).height in
      let step : next c limit s ≡ asked_if room s (call_for p values (whole_array e now) (limit - now.ticks)) =
      does h.reached (call_with_array OfProgram (row_number p) a) found ∙ ap (λ o. ask_row c limit s o true a) (row_is p)
      ∙ ap (λ (array : List ℤ). if room then made s (request p (on_top values rest) array (limit - now.ticks)) else Lacks)
      (read_whole p q values rest now h count OfProgram g frame x o a bounds is size)
      ∙ ap (λ request. if room then made s request else Lacks) (request_is p values rest (whole_array e now) (limit - now.ticks) count) in
      by_call p q (call_with_array OfProgram (row_number p) a) (on_top values rest) rest now h found
      (λ reply m. stored_elements e bounds.low (array_in reply) m) room (call_for p values (whole_array e now) (limit - now.ticks))
      (λ call t. its_row p values (whole_array e now) (limit - now.ticks) call t) step (λ call reply set answer reached. goes_on call reply set answer reached)
    where
      goes_on : (call : SysCall) (reply : SysReply) → SetsRow p reply → IsAnswer reply
          → (let s = state_at f.routine h.below q now.line h.words (on_top values rest) now.ticks in
          (reached : (answered c s reply).ended ≡ None → Reached c limit all (answered c s reply) (now.made ++ call ∷ []))
          → Here c limit all f (q + 1) (results_in reply ++ rest)
          (stored_elements (record { activation = 0; letters = x; bounds = bounds }) bounds.low (array_in reply)
          (record (with_call call now) { ticks = now.ticks + ticks_in reply })))
      goes_on call replies.CallError set answer reached = absurd answer
      goes_on call reply set answer reached =
          let s = state_at f.routine h.below q now.line h.words (on_top values rest) now.ticks in
          let j = call_with_array OfProgram (row_number p) a in
          let i : instr_at c q ≡ j = get_or_from_slice_get c.instrs q j no_instr found in
          let under : drop (values_of (row_number p)) (on_top values rest) ≡ rest =
          ap (λ n. drop n (on_top values rest)) (pops_is p ∙ sym count) ∙ dropped values rest in
          let t : List ℤ → List ℤ → State = λ words left. state_at f.routine (waiting_with h.below 0 words) (q + 1) now.line (own_with h.below h.words 0 words)
          (results_in reply ++ left) (now.ticks + ticks_in reply) in
          let new = new_words p q values rest now h count OfProgram g frame x o a bounds is size call reply set in
          let state : answered c s reply ≡ t new rest =
          ap (λ (k : Instr). reply_at c s k reply) i ∙ ap (λ w. t w (drop (values_of (row_number p)) (on_top values rest)))
          (new_is p q values rest now h count OfProgram g frame x o a bounds is size call reply set) ∙ ap (t new) under in
          told p q values rest now h count OfProgram g frame x o a bounds is size call reply set
          (subst (λ (u : State). Reached c limit all u (now.made ++ call ∷ [])) state (reached (ap (λ (u : State). u.ended) state)))
  array_called p q values rest now h count OfRoutine g frame x o a bounds is size found =
      let r = call_row_of p in
      let s = state_at f.routine h.below q now.line h.words (on_top values rest) now.ticks in
      let e : ArrayPlace = record { activation = own_number f; letters = x; bounds = bounds } in
      let room = nat_le r.values (length (on_top values rest)) && nat_le (a + r.array) (length h.words) && nat_le
      (length (on_top values rest) - r.values + r.results) (routine_at c f.routine).height in
      let read : take r.array (drop a h.words) ≡ whole_array e now =
      ap (λ (w : List ℤ). take r.array (drop a w)) (sym (own_words h)) ∙ read_whole p q values rest now h count OfRoutine g frame x o a bounds is size in
      let step : next c limit s ≡ asked_if room s (call_for p values (whole_array e now) (limit - now.ticks)) =
      does h.reached (call_with_array OfRoutine (row_number p) a) found ∙ ap (λ o. ask_row c limit s o false a) (row_is p)
      ∙ ap (λ (array : List ℤ). if room then made s (request p (on_top values rest) array (limit - now.ticks)) else Lacks) read
      ∙ ap (λ request. if room then made s request else Lacks) (request_is p values rest (whole_array e now) (limit - now.ticks) count) in
      by_call p q (call_with_array OfRoutine (row_number p) a) (on_top values rest) rest now h found
      (λ reply m. stored_elements e bounds.low (array_in reply) m) room (call_for p values (whole_array e now) (limit - now.ticks))
      (λ call t. its_row p values (whole_array e now) (limit - now.ticks) call t) step (λ call reply set answer reached. goes_on call reply set answer reached)
    where
      goes_on : (call : SysCall) (reply : SysReply) → SetsRow p reply → IsAnswer reply
          → (let s = state_at f.routine h.below q now.line h.words (on_top values rest) now.ticks in
          (reached : (answered c s reply).ended ≡ None → Reached c limit all (answered c s reply) (now.made ++ call ∷ []))
          → Here c limit all f (q + 1) (results_in reply ++ rest)
          (stored_elements (record { activation = own_number f; letters = x; bounds = bounds }) bounds.low (array_in reply)
          (record (with_call call now) { ticks = now.ticks + ticks_in reply })))
      goes_on call replies.CallError set answer reached = absurd answer
      goes_on call reply set answer reached =
          let s = state_at f.routine h.below q now.line h.words (on_top values rest) now.ticks in
          let j = call_with_array OfRoutine (row_number p) a in
          let i : instr_at c q ≡ j = get_or_from_slice_get c.instrs q j no_instr found in
          let under : drop (values_of (row_number p)) (on_top values rest) ≡ rest =
          ap (λ n. drop n (on_top values rest)) (pops_is p ∙ sym count) ∙ dropped values rest in
          let t : List ℤ → List ℤ → State = λ words left. state_at f.routine h.below (q + 1) now.line words (results_in reply ++ left)
          (now.ticks + ticks_in reply) in
          let new = new_words p q values rest now h count OfRoutine g frame x o a bounds is size call reply set in
          let there : set_array h.words a (array_in reply) ≡ new = ap (λ (w : List ℤ). set_array w a (array_in reply)) (sym (own_words h)) ∙ new_is p q values
          rest now h count OfRoutine g frame x o a bounds is size call reply set in
          let state : answered c s reply ≡ t new rest = ap (λ (k : Instr). reply_at c s k reply) i
          ∙ ap (λ w. t w (drop (values_of (row_number p)) (on_top values rest))) there ∙ ap (t new) under in
          told p q values rest now h count OfRoutine g frame x o a bounds is size call reply set
          (own_reached h (own_number f) g frame (now.ticks + ticks_in reply) (now.made ++ call ∷ []) new (q + 1) (results_in reply ++ rest) refl
          (subst (λ (u : State). Reached c limit all u (now.made ++ call ∷ [])) state (reached (ap (λ (u : State). u.ended) state))))
