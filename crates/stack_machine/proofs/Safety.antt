-- A machine over good code lacks nothing, and stays so with each instruction and each reply.
use Rattle.std.proofs.Common.{◌≡◌, ℕ, ◌+◌, ◌≤◌, true, false, Option, None, length, pos, refl, sym, ◌∙◌, ap, arith, subst}
use Rattle.std.specs.Int.{w16, cast_signed}
use Rattle.std.proofs.lemmas.Bool.{ltb-true, leb-true, and_parts}
use Rattle.std.proofs.lemmas.List.{length-replicate}
use Rattle.std.proofs.lemmas.Option.{slice_get-get_or, none-some}
use Rattle.solo_base.specs.declared.outcome.ProgResult.{ProgResult}
use Rattle.solo_base.specs.declared.outcome.ProgResult.TheVariants as result
use Rattle.solo_base.specs.declared.system_call.SysCall.{SysCall}
use Rattle.solo_base.specs.declared.system_call.SysReply.{SysReply}
use Rattle.solo_base.specs.declared.system_call.SysReply.TheVariants as replies
use Rattle.stack_code.specs.declared.table.Op.{Op}
use Rattle.stack_code.specs.declared.table.Op.TheVariants as op
use Rattle.stack_code.specs.declared.instr.Instr.{Instr}
use Rattle.stack_code.specs.CodeLists.{CodeLists, IsCode, routine_at, instr_at, no_instr}
use Rattle.stack_code.specs.Rules.{IsGood, routine_of, height_at, array_fits}
use Rattle.stack_machine.specs.declared.state.Finish.{Finish}
use Rattle.stack_machine.specs.States.{State}
use Rattle.stack_machine.specs.State.{Goes, Asks, Stops, Lacks}
use Rattle.stack_machine.specs.Operators.{unary_of, binary_of}
use Rattle.stack_machine.specs.Machine.{effect, next_by, next_of, next, start_state, answered}
use Rattle.stack_machine.specs.Safe.{IsRunning, IsSafe, IsSound}
use Rattle.solo_base.specs.Fits.{Fits}
use Rattle.stack_machine.proofs.Routines.{program_start, start_is_own, start_is_empty}
use Rattle.stack_machine.proofs.Obedience.{obeys}
use Rattle.stack_machine.proofs.Kept.{at_place}
use Rattle.stack_machine.proofs.Standing.{HasPlaceFor, IsSafeNext, Stands, by_table, stopped, inside_program, inside_own}
use Rattle.stack_machine.proofs.Shapes.{unary_is_safe, binary_is_safe, chr_is_safe, push_is_safe, load_is_safe, store_is_safe, load_at_is_safe, store_at_is_safe, refer_is_safe, load_reference_is_safe, store_reference_is_safe}
use Rattle.stack_machine.proofs.ShapesOfControl.{index_is_safe, jump_is_safe, jump_false_is_safe, tick_is_safe, call_is_safe, leave_is_safe}
use Rattle.stack_machine.proofs.ShapesOfCalls.{sys_is_safe, sys_program_is_safe, sys_local_is_safe}

-- ---- The table

array_ends : (words start size : ℕ) → array_fits words start size ≡ true → start + size ≤ words
array_ends words start size fits = leb-true _ _ ((and_parts _ _ fits).1)

row_is_safe : (c : CodeLists) (limit : ℕ) (s : State) (o : Op) (a b : ℕ) → Stands c limit s o a b → instr_at c s.current.place ≡ record { op = o; a = a; b = b } → IsSafeNext c limit s (effect c limit s o a b)
unfolding effect
row_is_safe c limit s op.Push a b st here = push_is_safe st (by_table refl) (cast_signed w16 a)
row_is_safe c limit s op.LoadG a b st here = load_is_safe st (by_table refl) true a (inside_program st _ (ltb-true _ _ st.obeys.fits))
row_is_safe c limit s op.LoadL a b st here = load_is_safe st (by_table refl) false a (inside_own st _ (ltb-true _ _ st.obeys.fits))
row_is_safe c limit s op.StoreG a b st here = store_is_safe st (by_table refl) true a s.current.operands refl (inside_program st _ (ltb-true _ _ st.obeys.fits))
row_is_safe c limit s op.StoreL a b st here = store_is_safe st (by_table refl) false a s.current.operands refl (inside_own st _ (ltb-true _ _ st.obeys.fits))
row_is_safe c limit s op.LoadGX a b st here = load_at_is_safe st (by_table refl) true a b s.current.operands refl (inside_program st _ (array_ends _ a b st.obeys.fits))
row_is_safe c limit s op.LoadLX a b st here = load_at_is_safe st (by_table refl) false a b s.current.operands refl (inside_own st _ (array_ends _ a b st.obeys.fits))
row_is_safe c limit s op.StoreGX a b st here = store_at_is_safe st (by_table refl) true a b s.current.operands refl (inside_program st _ (array_ends _ a b st.obeys.fits))
row_is_safe c limit s op.StoreLX a b st here = store_at_is_safe st (by_table refl) false a b s.current.operands refl (inside_own st _ (array_ends _ a b st.obeys.fits))
row_is_safe c limit s op.Index a b st here = index_is_safe st (by_table refl) a b s.current.operands refl st.obeys.fits
row_is_safe c limit s op.Add a b st here = binary_is_safe st (by_table refl) (binary_of op.Add) s.current.operands refl
row_is_safe c limit s op.Sub a b st here = binary_is_safe st (by_table refl) (binary_of op.Sub) s.current.operands refl
row_is_safe c limit s op.Mul a b st here = binary_is_safe st (by_table refl) (binary_of op.Mul) s.current.operands refl
row_is_safe c limit s op.Div a b st here = binary_is_safe st (by_table refl) (binary_of op.Div) s.current.operands refl
row_is_safe c limit s op.Mod a b st here = binary_is_safe st (by_table refl) (binary_of op.Mod) s.current.operands refl
row_is_safe c limit s op.Neg a b st here = unary_is_safe st (by_table refl) (unary_of op.Neg) s.current.operands refl
row_is_safe c limit s op.Abs a b st here = unary_is_safe st (by_table refl) (unary_of op.Abs) s.current.operands refl
row_is_safe c limit s op.Not a b st here = unary_is_safe st (by_table refl) (unary_of op.Not) s.current.operands refl
row_is_safe c limit s op.And a b st here = binary_is_safe st (by_table refl) (binary_of op.And) s.current.operands refl
row_is_safe c limit s op.Or a b st here = binary_is_safe st (by_table refl) (binary_of op.Or) s.current.operands refl
row_is_safe c limit s op.Eq a b st here = binary_is_safe st (by_table refl) (binary_of op.Eq) s.current.operands refl
row_is_safe c limit s op.Ne a b st here = binary_is_safe st (by_table refl) (binary_of op.Ne) s.current.operands refl
row_is_safe c limit s op.Lt a b st here = binary_is_safe st (by_table refl) (binary_of op.Lt) s.current.operands refl
row_is_safe c limit s op.Gt a b st here = binary_is_safe st (by_table refl) (binary_of op.Gt) s.current.operands refl
row_is_safe c limit s op.Le a b st here = binary_is_safe st (by_table refl) (binary_of op.Le) s.current.operands refl
row_is_safe c limit s op.Ge a b st here = binary_is_safe st (by_table refl) (binary_of op.Ge) s.current.operands refl
row_is_safe c limit s op.Chr a b st here = chr_is_safe st (by_table refl) s.current.operands refl
row_is_safe c limit s op.Jump a b st here = jump_is_safe st
row_is_safe c limit s op.JumpF a b st here = jump_false_is_safe st (by_table refl) s.current.operands refl
row_is_safe c limit s op.Tick a b st here = tick_is_safe st (by_table refl) a b
row_is_safe c limit s op.Call a b st here = call_is_safe st
row_is_safe c limit s op.Return a b st here = leave_is_safe st
row_is_safe c limit s op.Sys a b st here = sys_is_safe st here
row_is_safe c limit s op.SysG a b st here = sys_program_is_safe st here
row_is_safe c limit s op.SysL a b st here = sys_local_is_safe st here
row_is_safe c limit s op.Halt a b st here = stopped st result.Terminated
row_is_safe c limit s op.Succ a b st here = unary_is_safe st (by_table refl) (unary_of op.Succ) s.current.operands refl
row_is_safe c limit s op.Pred a b st here = unary_is_safe st (by_table refl) (unary_of op.Pred) s.current.operands refl
row_is_safe c limit s op.RefG a b st here = refer_is_safe st (by_table refl) 0 a
row_is_safe c limit s op.RefL a b st here = refer_is_safe st (by_table refl) (length s.below) a
row_is_safe c limit s op.LoadR a b st here = load_reference_is_safe st (by_table refl) a (inside_own st _ (ltb-true _ _ st.obeys.fits))
row_is_safe c limit s op.StoreR a b st here = store_reference_is_safe st (by_table refl) a s.current.operands refl (inside_own st _ (ltb-true _ _ st.obeys.fits))

-- ---- The next instruction

pub next_is_safe : (c : CodeLists) (limit : ℕ) (s : State) → IsGood c → s.ended ≡ None → IsRunning c limit s → IsSafeNext c limit s (next c limit s)
unfolding next
next_is_safe c limit s good going running =
    let place = s.current.place in
    let i = instr_at c place in
    let here = slice_get-get_or c.instrs place no_instr running.current.inside in
    let st : Stands c limit s i.op i.a i.b = record { good = good; going = going; running = running; obeys = obeys c good place i.op i.a i.b running.current.inside refl } in
    subst (λ (ended : Option Finish). IsSafeNext c limit s (next_of c limit s ended)) (sym going)
    (subst (λ (found : Option Instr). IsSafeNext c limit s (next_by c limit s found)) (sym here) (row_is_safe c limit s i.op i.a i.b st refl))

-- nothing is lacking
pub never_lacks : (c : CodeLists) (limit : ℕ) (s : State) → IsGood c → s.ended ≡ None → IsRunning c limit s → next c limit s ≡ Lacks → ⊥
never_lacks c limit s good going running e = subst (IsSafeNext c limit s) e (next_is_safe c limit s good going running)

-- an instruction keeps a program running
pub stays_running : (c : CodeLists) (limit : ℕ) (s t : State) → IsGood c → s.ended ≡ None → IsRunning c limit s → next c limit s ≡ Goes t → (t.ended ≡ None) × IsRunning c limit t
stays_running c limit s t good going running e = subst (IsSafeNext c limit s) e (next_is_safe c limit s good going running)

-- a program stops within the limit of ticks
pub stops_within_limit : (c : CodeLists) (limit : ℕ) (s : State) (r : ProgResult) (line ticks : ℕ) → IsGood c → s.ended ≡ None → IsRunning c limit s → next c limit s ≡ Stops r line ticks → ticks ≤ limit
stops_within_limit c limit s r line ticks good going running e = subst (IsSafeNext c limit s) e (next_is_safe c limit s good going running)

-- a call leaves the program as it was, and each reply that fits it is safe
asks_safely : (c : CodeLists) (limit : ℕ) (s : State) (call : SysCall) (t : State) → IsGood c → s.ended ≡ None → IsRunning c limit s → next c limit s ≡ Asks call t → IsSafeNext c limit s (Asks call t)
asks_safely c limit s call t good going running e = subst (IsSafeNext c limit s) e (next_is_safe c limit s good going running)

pub answered_is_safe : (c : CodeLists) (limit : ℕ) (s : State) (call : SysCall) (reply : SysReply) (t : State) → IsGood c → s.ended ≡ None → IsRunning c limit s → next c limit s ≡ Asks call t → Fits call reply → (t ≡ s) × IsSafe c limit (answered c s reply)
answered_is_safe c limit s call reply t good going running e fits =
    let asks = asks_safely c limit s call t good going running e in
    (asks.0, (asks.1 reply fits).safe)

-- the same, with the ticks of a program that the reply ends
pub answered_is_sound : (c : CodeLists) (limit : ℕ) (s : State) (call : SysCall) (reply : SysReply) (t : State) → s.ended ≡ None → IsSound c limit s → next c limit s ≡ Asks call t → Fits call reply → IsSound c limit (answered c s reply)
answered_is_sound c limit s call reply t going sound e fits =
    let safe = (asks_safely c limit s call t sound.good going (sound.safe going) e).1 reply fits in
    record { good = sound.good; safe = safe.safe; ended = safe.ended }

-- the values, the array, the results and the ticks of a reply that fits find their place
pub reply_finds_place : (c : CodeLists) (limit : ℕ) (s : State) (call : SysCall) (reply : SysReply) (t : State) → IsGood c → s.ended ≡ None → IsRunning c limit s → next c limit s ≡ Asks call t → Fits call reply → (reply ≡ replies.CallError → ⊥) → HasPlaceFor c limit s (instr_at c s.current.place) reply
reply_finds_place c limit s call reply t good going running e fits other = ((asks_safely c limit s call t good going running e).1 reply fits).found other

-- a program begins at its first instruction
pub begins_running : (c : CodeLists) (limit : ℕ) → IsCode c → IsGood c → IsRunning c limit (start_state c)
begins_running c limit code good =
    let first = program_start c good code.some_routine in
    let own : routine_of c 0 ≡ 0 = ap (routine_of c) (sym first) ∙ start_is_own c good 0 code.some_routine in
    let empty : height_at c 0 ≡ 0 = ap (height_at c) (sym first) ∙ start_is_empty c good 0 code.some_routine in
    record {
      current = at_place c good (start_state c).current 0 code.some_instr (sym own) (length-replicate (routine_at c 0).words (pos 0)) (omega (arith, empty));
      waiting = tt;
      program = refl;
      open_activations = omega arith;
      ticks = omega arith;
    }

pub begins_sound : (c : CodeLists) (limit : ℕ) → IsCode c → IsGood c → IsSound c limit (start_state c)
begins_sound c limit code good = record { good = good; safe = λ going. begins_running c limit code good; ended = λ finish e. absurd (none-some finish e) }
