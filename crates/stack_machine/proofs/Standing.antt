-- What an instruction of a running program may do, and what it does along the straight line.
use Rattle.std.proofs.Common.{◌≡◌, ℕ, ◌+◌, ◌-◌, ◌≤◌, Bool, false, List, length, ℤ, Some, None, sym, ◌∙◌, ap, arith, subst, true, refl}
use Rattle.solo_base.specs.declared.outcome.ProgResult.{ProgResult}
use Rattle.solo_base.specs.declared.system_call.SysReply.{SysReply}
use Rattle.solo_base.specs.declared.system_call.SysReply.TheVariants as replies
use Rattle.stack_code.specs.declared.instr.Instr.{Instr}
use Rattle.stack_code.specs.declared.table.Op.{Op}
use Rattle.solo_base.specs.Interface.{values_of}
use Rattle.stack_code.specs.CodeLists.{CodeLists, routine_at, instr_at}
use Rattle.stack_code.specs.Rules.{IsGood, height_at, may_be_last, pops, pushes, program_words, own_words}
use Rattle.stack_machine.specs.declared.state.Finish.{Finish}
use Rattle.stack_machine.specs.States.{State}
use Rattle.stack_machine.specs.State.{Next, Goes, Asks, Stops, Lacks, stop, advance, words_at, with_words_at, words_of, with_words}
use Rattle.solo_base.specs.Replies.{results_in, array_in, ticks_in}
use Rattle.stack_machine.specs.Machine.{answered, uses_program, array_start}
use Rattle.stack_machine.specs.Safe.{IsRunning, IsSafe}
use Rattle.solo_base.specs.Fits.{Fits}
use Rattle.stack_machine.proofs.Obedience.{GoesOn, Obeys}
use Rattle.stack_machine.proofs.Kept.{advanced, program_frame, rewritten, rewritten_at, is_beside}

-- The values of the instruction's call are there, the reply's array lies in the frame, its results don't
-- pass the routine's height, and its ticks don't pass the limit.
pub record HasPlaceFor (c : CodeLists) (limit : ℕ) (s : State) (i : Instr) (reply : SysReply) : Type 0 where
  pub pops : pops c i.op i.a ≡ values_of i.a
  pub values : values_of i.a ≤ length s.current.operands
  pub array : array_start i.op i.b + length (array_in reply) ≤ length (words_of (uses_program i.op) s)
  pub results : length s.current.operands - values_of i.a + length (results_in reply) ≤ (routine_at c s.current.routine).height
  pub ticks : s.ticks + ticks_in reply ≤ limit

-- a program is safe behind a reply, which found its place unless it is CallError
pub record IsSafeReply (c : CodeLists) (limit : ℕ) (s : State) (reply : SysReply) : Type 0 where
  pub safe : IsSafe c limit (answered c s reply)
  pub ended : (finish : Finish) → (answered c s reply).ended ≡ Some finish → finish.ticks ≤ limit
  pub found : (reply ≡ replies.CallError → ⊥) → HasPlaceFor c limit s (instr_at c s.current.place) reply

-- An instruction is safe where nothing is lacking: the program goes on, or it asks for a call in this
-- state and every reply that fits keeps it safe, or it stops within the limit of ticks.
abbrev pub IsSafeNext : CodeLists → ℕ → State → Next → Type 0
IsSafeNext c limit s (Goes t) = (t.ended ≡ None) × IsRunning c limit t
IsSafeNext c limit s (Asks call t) = (t ≡ s) × ((reply : SysReply) → Fits call reply → IsSafeReply c limit s reply)
IsSafeNext c limit s (Stops result line ticks) = ticks ≤ limit
IsSafeNext c limit s Lacks = ⊥

-- a running program stands at this instruction
pub record Stands (c : CodeLists) (limit : ℕ) (s : State) (o : Op) (a b : ℕ) : Type 0 where
  pub good : IsGood c
  pub going : s.ended ≡ None
  pub running : IsRunning c limit s
  pub obeys : Obeys c s.current.place o a b

-- the instruction is never its routine's last one, and pops and pushes so many words
pub record Takes (c : CodeLists) (o : Op) (a : ℕ) (popped pushed : ℕ) : Type 0 where
  pub middle : may_be_last o ≡ false
  pub pops : pops c o a ≡ popped
  pub pushes : pushes c o a ≡ pushed

-- as many as the table says
pub by_table : {c : CodeLists} {o : Op} {a : ℕ} → may_be_last o ≡ false → Takes c o a (pops c o a) (pushes c o a)
by_table middle = record { middle = middle; pops = refl; pushes = refl }

module _ {c : CodeLists} {limit : ℕ} {s : State} {o : Op} {a b : ℕ} (st : Stands c limit s o a b) where
  pub stopped : (r : ProgResult) → IsSafeNext c limit s (stop s r)
  stopped r = st.running.ticks

  -- the words that are popped are there
  pub enough : {popped pushed : ℕ} → Takes c o a popped pushed → popped ≤ length s.current.operands
  enough takes = omega (arith, st.obeys.enough, st.running.current.operands, takes.pops)

  -- there is room for those that are pushed
  pub room : {popped pushed : ℕ} → Takes c o a popped pushed → length s.current.operands - popped + pushed ≤ (routine_at c s.current.routine).height
  room takes = omega (arith, st.obeys.room, st.running.current.operands, takes.pops, takes.pushes, ap (λ r. (routine_at c r).height) st.running.current.routine)

  pub next_height : {popped pushed : ℕ} → Takes c o a popped pushed → height_at c (s.current.place + 1) ≡ length s.current.operands - popped + pushed
  next_height takes = omega (arith, st.obeys.height takes.middle, st.running.current.operands, takes.pops, takes.pushes)

  -- to the next instruction, with the words popped and pushed
  pub onward : {popped pushed : ℕ} → Takes c o a popped pushed → (operands : List ℤ) → length operands ≡ length s.current.operands - popped + pushed → IsSafeNext c limit s (Goes (advance s operands))
  onward takes operands height =
      (st.going, advanced c st.good limit s st.running (st.obeys.goes_on takes.middle) operands (omega (arith, height, next_height takes)))

  -- the same behind a write to a frame
  pub onward_with : {popped pushed : ℕ} → Takes c o a popped pushed → (program : Bool) (words operands : List ℤ) → length words ≡ length (words_of program s) → length operands ≡ length s.current.operands - popped + pushed → IsSafeNext c limit s (Goes (advance (with_words program s words) operands))
  onward_with {popped = popped} {pushed = pushed} takes program words operands same height =
      let beside = is_beside s program words in
      let on : GoesOn c (with_words program s words).current.place = subst (GoesOn c) (sym beside.place) (st.obeys.goes_on takes.middle) in
      let at : height_at c ((with_words program s words).current.place + 1) ≡ length s.current.operands - popped + pushed = ap (λ p. height_at c (p + 1)) beside.place ∙ next_height takes in
      (beside.ended ∙ st.going, advanced c st.good limit (with_words program s words) (rewritten c limit s program words st.running same) on operands (height ∙ sym at))

  -- the same behind a write to the frame of any activation
  pub onward_at : {popped pushed : ℕ} → Takes c o a popped pushed → (number : ℕ) (words operands : List ℤ) → length words ≡ length (words_at s number) → length operands ≡ length s.current.operands - popped + pushed → IsSafeNext c limit s (Goes (advance (with_words_at s number words) operands))
  onward_at takes number words operands same height =
      (st.going, advanced c st.good limit (with_words_at s number words) (rewritten_at c limit s number words st.running same) (st.obeys.goes_on takes.middle) operands (height ∙ sym (next_height takes)))

  -- the frames have as many words as the rules say
  pub inside_program : (end : ℕ) → end ≤ program_words c → end ≤ length (words_of true s)
  inside_program end inside = omega (arith, program_frame c limit s st.running)

  pub inside_own : (end : ℕ) → end ≤ own_words c s.current.place → end ≤ length (words_of false s)
  inside_own end inside = omega (arith, st.running.current.words, ap (λ r. (routine_at c r).words) st.running.current.routine)
