-- SYS, SYSG and SYSL are safe, and so is what each reply that fits makes of the program.
use Rattle.std.proofs.Common.{◌≡◌, ℕ, ◌+◌, ◌-◌, ◌≤◌, Bool, true, false, ◌&&◌, eqb, Option, Some, None, List, ◌++◌, length, take, drop, ℤ, leb, refl, sym, ◌∙◌, ap, arith, subst}
use Rattle.std.specs.Option.{option_map_or, option_map}
use Rattle.std.proofs.lemmas.Bool.{cond-true, le-leb, leb-true, eqb-true, and_parts, and_from}
use Rattle.std.proofs.lemmas.List.{length-append, length-take, length-drop}
use Rattle.std.proofs.lemmas.Option.{none-some, same_Some}
use Rattle.solo_base.specs.declared.outcome.ProgResult.TheVariants as result
use Rattle.solo_base.specs.declared.system_call.SysReply.{SysReply}
use Rattle.solo_base.specs.declared.system_call.SysReply.TheVariants as replies
use Rattle.stack_code.specs.declared.instr.Instr.{Instr}
use Rattle.stack_code.specs.declared.table.Op.{Op}
use Rattle.stack_code.specs.declared.table.Op.TheVariants as op
use Rattle.solo_base.specs.declared.interface.Procedure.{Procedure}
use Rattle.solo_base.specs.declared.interface.CallRow.{CallRow}
use Rattle.solo_base.specs.Interface.{procedure_at, call_row_of, call_row, values_of, results_of}
use Rattle.stack_code.specs.CodeLists.{CodeLists, routine_at, instr_at}
use Rattle.stack_code.specs.Rules.{pops, program_words, own_words}
use Rattle.stack_machine.specs.declared.state.Finish.{Finish}
use Rattle.stack_machine.specs.States.{State}
use Rattle.stack_machine.specs.State.{Lacks, advance, words_of, with_words}
use Rattle.solo_base.specs.Replies.{results_in, array_in, ticks_in}
use Rattle.stack_machine.specs.Calls.{Request, Makes, OutOfRange, LacksValue, request, made, ask, ask_row, sys}
use Rattle.stack_machine.specs.Machine.{reply_at, answered, set_array, array_start, uses_program}
use Rattle.stack_machine.specs.Safe.{IsRunning}
use Rattle.stack_machine.proofs.Kept.{with_current}
use Rattle.stack_machine.proofs.FittingReplies.{Completes, CompletesOrFails, procedure_of, left_in, completes, IsFor, requested}
use Rattle.stack_machine.proofs.Standing.{HasPlaceFor, IsSafeReply, IsSafeNext, Stands, Takes, by_table, inside_program, inside_own, stopped, enough, room, onward_with}

-- ---- What a reply makes of the program

-- an array in a frame is set, and the frame keeps its size
array_set : (words array : List ℤ) (start : ℕ) → start + length array ≤ length words → length (set_array words start array) ≡ length words
array_set words array start inside =
    simp length-append (omega (arith, length-take start words, length-drop (start + length array) words))

-- where a reply leads that isn't CallError
record LeadsOn (c : CodeLists) (limit : ℕ) (s : State) (i : Instr) (reply : SysReply) : Type 0 where
  pub running : IsRunning c limit (reply_at c s i reply)
  pub going : (reply_at c s i reply).ended ≡ None
  pub found : HasPlaceFor c limit s i reply

finished : (c : CodeLists) (limit : ℕ) (s : State) (r : CallRow) (left : ℕ) (reply : SysReply) → s.ticks ≤ limit → CompletesOrFails r left reply → (Completes r left reply → LeadsOn c limit s (instr_at c s.current.place) reply) → IsSafeReply c limit s reply
unfolding answered
finished c limit s r left replies.CallError low done on = record {
  safe = λ going. absurd (cc);
  ended = λ finish e. omega (arith, low, ap (λ (f : Finish). f.ticks) (same_Some _ _ e));
  found = λ other. absurd (other refl);
}
finished c limit s r left other low done on = record {
  safe = λ going. (on done).running;
  ended = λ finish e. absurd (none-some finish (sym (on done).going ∙ e));
  found = λ other. (on done).found;
}

-- the instruction calls a procedure, and its array lies in the frame
record CallsTo (c : CodeLists) (s : State) (o : Op) (a b : ℕ) (p : Procedure) : Type 0 where
  pub here : instr_at c s.current.place ≡ record { op = o; a = a; b = b }
  pub takes : Takes c o a (call_row_of p).values (call_row_of p).results
  pub values : values_of a ≡ (call_row_of p).values
  pub array : array_start o b + (call_row_of p).array ≤ length (words_of (uses_program o) s)

module _ {c : CodeLists} {limit : ℕ} {s : State} {o : Op} {a b : ℕ} (st : Stands c limit s o a b) (p : Procedure) (to : CallsTo c s o a b p) where
  -- a reply sets the array and pushes the results behind the values that are popped
  replied : (reply : SysReply) → Completes (call_row_of p) (limit - s.ticks) reply → LeadsOn c limit s (record { op = o; a = a; b = b }) reply
  replied reply done =
      let r = call_row_of p in
      let program = uses_program o in
      let start = array_start o b in
      let words = set_array (words_of program s) start (array_in reply) in
      let popped = drop (pops c o a) s.current.operands in
      let array : start + length (array_in reply) ≤ length (words_of program s) = omega (arith, done.array, to.array) in
      let operands : length (results_in reply ++ popped) ≡ length s.current.operands - r.values + r.results = length-append (results_in reply) popped ∙ omega (arith, length-drop (pops c o a) s.current.operands, to.takes.pops, done.results, enough st to.takes) in
      let on = onward_with st to.takes program words (results_in reply ++ popped) (array_set (words_of program s) (array_in reply) start array) operands in
      let set = advance (with_words program s words) (results_in reply ++ popped) in
      let ticks : s.ticks + ticks_in reply ≤ limit = omega (arith, done.ticks, st.running.ticks) in
      record {
        running = with_current c limit set on.1 set.current (s.ticks + ticks_in reply) refl on.1.current ticks;
        going = on.0;
        found = record {
          pops = to.takes.pops ∙ sym to.values;
          values = omega (arith, to.values, enough st to.takes);
          array = array;
          results = omega (arith, to.values, done.results, room st to.takes);
          ticks = ticks;
        };
      }

  -- the call that is made leaves the program as it was, and each reply that fits keeps it safe
  made_is_safe : (q : Request) → IsFor p (limit - s.ticks) q → IsSafeNext c limit s (made s q)
  made_is_safe OutOfRange is_for = stopped st result.RangeError
  made_is_safe LacksValue is_for = absurd is_for
  made_is_safe (Makes call) is_for =
      let r = call_row_of (procedure_of call) in
      let same : r ≡ call_row_of p = ap call_row_of is_for.0 in
      let widened : (reply : SysReply) → Completes r (left_in call) reply → Completes (call_row_of p) (limit - s.ticks) reply = λ reply done. record {
        results = done.results ∙ ap (λ (q : CallRow). q.results) same;
        array = omega (arith, done.array, ap (λ (q : CallRow). q.array) same);
        ticks = omega (arith, done.ticks, is_for.1);
      } in
      (refl, λ reply fits. finished c limit s r (left_in call) reply st.running.ticks (completes call reply fits) (λ done. subst (λ (i : Instr). LeadsOn c limit s i reply) (sym to.here) (replied reply (widened reply done))))

  asked : IsSafeNext c limit s (ask c limit s p (uses_program o) (array_start o b))
  asked =
      let r = call_row_of p in
      let words = words_of (uses_program o) s in
      let q = request p s.current.operands (take r.array (drop (array_start o b) words)) (limit - s.ticks) in
      let values = le-leb r.values (length s.current.operands) (enough st to.takes) in
      let array = le-leb (array_start o b + r.array) (length words) to.array in
      let results = le-leb (length s.current.operands - r.values + r.results) (routine_at c s.current.routine).height (room st to.takes) in
      subst (IsSafeNext c limit s) (sym (cond-true _ (made s q) Lacks (and_from _ _ (and_from _ _ values array) results)))
      (made_is_safe q (requested p s.current.operands _ (limit - s.ticks) (enough st to.takes)))

-- ---- The row that an instruction names

-- the rules name a row of the interface that passes a test
record Names (a : ℕ) (test : CallRow → Bool) : Type 0 where
  pub procedure : Procedure
  pub at : procedure_at a ≡ Some procedure
  pub passes : test (call_row_of procedure) ≡ true

named_by : (a : ℕ) (test : CallRow → Bool) (found : Option Procedure) → procedure_at a ≡ found → option_map_or test (option_map call_row_of found) false ≡ true → Names a test
named_by a test (Some p) e passes = record { procedure = p; at = e; passes = passes }
named_by a test None e passes = absurd (cc)

-- what a row says where a number names it
named_row : (a : ℕ) (p : Procedure) (count : CallRow → ℕ) → procedure_at a ≡ Some p → option_map_or count (call_row a) 0 ≡ count (call_row_of p)
named_row a p count at = ap (λ (found : Option Procedure). option_map_or count (option_map call_row_of found) 0) at

module _ {c : CodeLists} {limit : ℕ} {s : State} {o : Op} {a b : ℕ} (st : Stands c limit s o a b) (here : instr_at c s.current.place ≡ record { op = o; a = a; b = b }) (takes : Takes c o a (values_of a) (results_of a)) where
  -- an interface instruction whose rule tests the row that it names
  sys_from : (test : CallRow → Bool) → option_map_or test (call_row a) false ≡ true → ((r : CallRow) → test r ≡ true → array_start o b + r.array ≤ length (words_of (uses_program o) s)) → IsSafeNext c limit s (sys c limit s (uses_program o) a (array_start o b))
  sys_from test passes inside =
      let names = named_by a test (procedure_at a) refl passes in
      let p = names.procedure in
      let values = named_row a p (λ r. r.values) names.at in
      let results = named_row a p (λ r. r.results) names.at in
      let to : CallsTo c s o a b p = record { here = here; takes = record { middle = takes.middle; pops = takes.pops ∙ values; pushes = takes.pushes ∙ results }; values = values; array = inside (call_row_of p) names.passes } in
      subst (λ (found : Option Procedure). IsSafeNext c limit s (ask_row c limit s found (uses_program o) (array_start o b))) (sym names.at) (asked st p to)

pub sys_is_safe : {c : CodeLists} {limit : ℕ} {s : State} {a b : ℕ} → Stands c limit s op.Sys a b → instr_at c s.current.place ≡ record { op = op.Sys; a = a; b = b } → IsSafeNext c limit s (sys c limit s false a 0)
sys_is_safe st here = sys_from st here (by_table refl) (λ r. eqb r.array 0) st.obeys.fits (λ r none. omega (arith, eqb-true r.array 0 none))

-- the test of a row's array
array_ends : (words b : ℕ) (r : CallRow) → (leb 1 r.array && leb (b + r.array) words) ≡ true → b + r.array ≤ words
array_ends words b r passes = leb-true (b + r.array) words ((and_parts (leb 1 r.array) _ passes).1)

pub sys_program_is_safe : {c : CodeLists} {limit : ℕ} {s : State} {a b : ℕ} → Stands c limit s op.SysG a b → instr_at c s.current.place ≡ record { op = op.SysG; a = a; b = b } → IsSafeNext c limit s (sys c limit s true a b)
sys_program_is_safe {c = c} {b = b} st here =
    sys_from st here (by_table refl) (λ r. leb 1 r.array && leb (b + r.array) (program_words c)) st.obeys.fits
    (λ r passes. inside_program st _ (array_ends (program_words c) b r passes))

pub sys_local_is_safe : {c : CodeLists} {limit : ℕ} {s : State} {a b : ℕ} → Stands c limit s op.SysL a b → instr_at c s.current.place ≡ record { op = op.SysL; a = a; b = b } → IsSafeNext c limit s (sys c limit s false a b)
sys_local_is_safe {c = c} {s = s} {b = b} st here =
    sys_from st here (by_table refl) (λ r. leb 1 r.array && leb (b + r.array) (own_words c s.current.place)) st.obeys.fits
    (λ r passes. inside_own st _ (array_ends (own_words c s.current.place) b r passes))
