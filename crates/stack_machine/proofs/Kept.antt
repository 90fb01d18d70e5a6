-- What keeps a program running: steps along the straight line, jumps, writes to frames, calls and returns.
use Rattle.std.proofs.Common.{◌≡◌, ℕ, zero, suc, ◌+◌, ◌-◌, ◌<◌, ◌≤◌, Bool, true, false, List, [], ◌∷◌, ◌++◌, length, take, ℤ, pos, refl, sym, ◌∙◌, ap, arith, subst}
use Rattle.std.specs.Prelude.{reverse, replicate}
use Rattle.std.proofs.lemmas.List.{length-append, length-take, length-drop, length-reverse, length-replicate}
use Rattle.stack_code.specs.CodeFile.{mark}
use Rattle.stack_code.specs.CodeLists.{CodeLists, routine_at}
use Rattle.stack_code.specs.Rules.{IsGood, routine_of, height_at, program_words}
use Rattle.stack_machine.specs.States.{Activation, State}
use Rattle.stack_machine.specs.State.{advance, jump_to, words_at, with_words_at, words_of, with_words}
use Rattle.stack_machine.specs.Activations.{opened, waiting_caller, words_from, waiting_with, own_with}
use Rattle.stack_machine.specs.Safe.{IsAtPlace, Waits, lowest_routine, AreWaiting, IsRunning}
use Rattle.stack_machine.proofs.Frames.{own_length, as_many_wait}
use Rattle.stack_machine.proofs.Obedience.{GoesOn, height_is_low}
use Rattle.stack_machine.proofs.Routines.{is_routine, start_is_own, start_is_empty}

-- ---- One activation

-- the height follows from the straight line
pub at_place : (c : CodeLists) → IsGood c → (a : Activation) (more : ℕ) → a.place < length c.instrs → a.routine ≡ routine_of c a.place → length a.words ≡ (routine_at c a.routine).words → length a.operands + more ≡ height_at c a.place → IsAtPlace c a more
at_place c good a more inside routine words operands = record {
  inside = inside;
  routine = routine;
  words = words;
  operands = operands;
  height = omega (arith, operands, height_is_low c good a.place inside, ap (λ r. (routine_at c r).height) routine);
}

-- the current activation goes on, and its ticks may have changed
pub with_current : (c : CodeLists) (limit : ℕ) (s : State) → IsRunning c limit s → (a : Activation) (ticks : ℕ) → a.routine ≡ s.current.routine → IsAtPlace c a 0 → ticks ≤ limit → IsRunning c limit (record s { current = a; ticks = ticks })
with_current c limit s running a ticks same at low = record {
  current = at;
  waiting = rw same running.waiting;
  program = rw same running.program;
  open_activations = running.open_activations;
  ticks = low;
}

-- at the next place, with as many operands as are wanted there
pub advanced : (c : CodeLists) → IsGood c → (limit : ℕ) (s : State) → IsRunning c limit s → GoesOn c s.current.place → (operands : List ℤ) → length operands ≡ height_at c (s.current.place + 1) → IsRunning c limit (advance s operands)
advanced c good limit s running on operands height =
    let a : Activation = record s.current { place = s.current.place + 1; operands = operands } in
    with_current c limit s running a s.ticks refl (at_place c good a 0 on.inside (running.current.routine ∙ sym on.routine) running.current.words (omega (arith, height))) running.ticks

pub jumped : (c : CodeLists) → IsGood c → (limit : ℕ) (s : State) → IsRunning c limit s → (place : ℕ) → place < length c.instrs → routine_of c place ≡ routine_of c s.current.place → (operands : List ℤ) → length operands ≡ height_at c place → IsRunning c limit (jump_to s place operands)
jumped c good limit s running place inside same operands height =
    let a : Activation = record s.current { place = place; operands = operands } in
    with_current c limit s running a s.ticks refl (at_place c good a 0 inside (running.current.routine ∙ sym same) running.current.words (omega (arith, height))) running.ticks

-- ---- Frames

-- a write changes no frame's size
resized : (c : CodeLists) (a : Activation) (more : ℕ) (words : List ℤ) → IsAtPlace c a more → length words ≡ length a.words → IsAtPlace c (record a { words = words }) more
resized c a more words at same = record {
  inside = at.inside;
  routine = at.routine;
  words = same ∙ at.words;
  operands = at.operands;
  height = at.height;
}

frame_of : (c : CodeLists) (below : List Activation) (current : Activation) → AreWaiting c below current.routine → lowest_routine below current.routine ≡ 0 → length current.words ≡ (routine_at c current.routine).words → length (words_from below current.words 0) ≡ program_words c
frame_of c [] current waiting program words = words ∙ ap (λ r. (routine_at c r).words) program
frame_of c (a ∷ above) current waiting program words = waiting.0.place.words ∙ ap (λ r. (routine_at c r).words) program

-- the frame of the program has its words
pub program_frame : (c : CodeLists) (limit : ℕ) (s : State) → IsRunning c limit s → length (words_at s 0) ≡ program_words c
program_frame c limit s running = frame_of c s.below s.current running.waiting running.program running.current.words

lowest_rewritten : (below : List Activation) (number : ℕ) (words : List ℤ) (called : ℕ) → lowest_routine (waiting_with below number words) called ≡ lowest_routine below called
lowest_rewritten [] number words called = refl
lowest_rewritten (a ∷ above) zero words called = refl
lowest_rewritten (a ∷ above) (suc number) words called = refl

waiting_rewritten : (c : CodeLists) (below : List Activation) (own : List ℤ) (number : ℕ) (words : List ℤ) (called : ℕ) → length words ≡ length (words_from below own number) → AreWaiting c below called → AreWaiting c (waiting_with below number words) called
waiting_rewritten c [] own number words called same waiting = waiting
waiting_rewritten c (a ∷ above) own zero words called same waiting = (record { not_program = waiting.0.not_program; place = resized c a _ words waiting.0.place same }, waiting.1)
waiting_rewritten c (a ∷ above) own (suc number) words called same waiting =
    (rw (lowest_rewritten above number words called) waiting.0, waiting_rewritten c above own number words called same waiting.1)

-- a write to the frame of any activation keeps the program running
pub rewritten_at : (c : CodeLists) (limit : ℕ) (s : State) (number : ℕ) (words : List ℤ) → IsRunning c limit s → length words ≡ length (words_at s number) → IsRunning c limit (with_words_at s number words)
rewritten_at c limit s number words running same = record {
  current = resized c s.current 0 (own_with s.below s.current.words number words) running.current (own_length s.below s.current.words number words same);
  waiting = waiting_rewritten c s.below s.current.words number words s.current.routine same running.waiting;
  program = lowest_rewritten s.below number words s.current.routine ∙ running.program;
  open_activations = omega (arith, running.open_activations, as_many_wait s.below number words);
  ticks = running.ticks;
}

pub rewritten : (c : CodeLists) (limit : ℕ) (s : State) (program : Bool) (words : List ℤ) → IsRunning c limit s → length words ≡ length (words_of program s) → IsRunning c limit (with_words program s words)
rewritten c limit s true words running same = rewritten_at c limit s 0 words running same
rewritten c limit s false words running same = with_current c limit s running (record s.current { words = words }) s.ticks refl (resized c s.current 0 words running.current same) running.ticks

-- what a write to a frame leaves as it was
pub record IsBeside (s t : State) : Type 0 where
  pub place : t.current.place ≡ s.current.place
  pub ended : t.ended ≡ s.ended
  pub ticks : t.ticks ≡ s.ticks

pub is_beside : (s : State) (program : Bool) (words : List ℤ) → IsBeside s (with_words program s words)
is_beside s true words = record { place = refl; ended = refl; ticks = refl }
is_beside s false words = record { place = refl; ended = refl; ticks = refl }

-- ---- The activations that wait

lowest_of_more : (below : List Activation) (a : Activation) (called : ℕ) → lowest_routine (below ++ a ∷ []) called ≡ lowest_routine below a.routine
lowest_of_more [] a called = refl
lowest_of_more (b ∷ below) a called = refl

one_more_waits : (c : CodeLists) (below : List Activation) (a : Activation) (called : ℕ) → AreWaiting c below a.routine → Waits c a called → AreWaiting c (below ++ a ∷ []) called
one_more_waits c [] a called waiting here = (here, tt)
one_more_waits c (b ∷ below) a called waiting here = (rw (lowest_of_more below a called) waiting.0, one_more_waits c below a called waiting.1 here)

one_fewer_waits : (c : CodeLists) (below : List Activation) (a : Activation) (called : ℕ) → AreWaiting c (below ++ a ∷ []) called → AreWaiting c below a.routine × Waits c a called
one_fewer_waits c [] a called waiting = (tt, waiting.0)
one_fewer_waits c (b ∷ below) a called waiting =
    let above = one_fewer_waits c below a called waiting.1 in
    ((rw (lowest_of_more below a called) at waiting.0, above.0), above.1)

-- ---- CALL and RETURN

-- the called routine stands at its start, and the caller waits behind the CALL
pub called : (c : CodeLists) → IsGood c → (limit : ℕ) (s : State) → IsRunning c limit s → GoesOn c s.current.place → (k : ℕ) → 1 ≤ k → k < length c.routines → (routine_at c k).params ≤ length s.current.operands
    → height_at c (s.current.place + 1) ≡ length s.current.operands - (routine_at c k).params + mark (routine_at c k).function → length s.below < 63
    → IsRunning c limit (record s { below = s.below ++ waiting_caller (routine_at c k) s.current ∷ []; current = opened (routine_at c k) k s.current.operands })
called c good limit s running on k not_program below enough height room =
    let r = routine_at c k in
    let caller = waiting_caller r s.current in
    let new = opened r k s.current.operands in
    let routine = is_routine c good k below in
    let operands = s.current.operands in
    let words : length new.words ≡ r.words = length-append (reverse (take r.params operands)) (replicate (r.words - r.params) (pos 0)) ∙ omega (arith, length-reverse (take r.params operands), length-take r.params operands, length-replicate (r.words - r.params) (pos 0), routine.words) in
    let waits : Waits c caller k = record { not_program = not_program; place = at_place c good caller (mark r.function) on.inside (running.current.routine ∙ sym on.routine) running.current.words (omega (arith, length-drop r.params operands, height)) } in
    record {
      current = at_place c good new 0 routine.inside (sym (start_is_own c good k below)) words (omega (arith, start_is_empty c good k below));
      waiting = one_more_waits c s.below caller k running.waiting waits;
      program = lowest_of_more s.below caller k ∙ running.program;
      open_activations = omega (arith, length-append s.below (caller ∷ []));
      ticks = running.ticks;
    }

-- the caller goes on
pub returned : (c : CodeLists) (limit : ℕ) (s : State) (below : List Activation) (caller a : Activation) → s.below ≡ below ++ caller ∷ [] → IsRunning c limit s → a.routine ≡ caller.routine → IsAtPlace c a 0 → IsRunning c limit (record s { below = below; current = a })
returned c limit s below caller a e running same at =
    let waiting = one_fewer_waits c below caller s.current.routine (subst (λ (b : List Activation). AreWaiting c b s.current.routine) e running.waiting) in
    record {
      current = at;
      waiting = rw same waiting.0;
      program = rw same (sym (lowest_of_more below caller s.current.routine) ∙ subst (λ (b : List Activation). lowest_routine b s.current.routine ≡ 0) e running.program);
      open_activations = omega (arith, running.open_activations, ap length e, length-append below (caller ∷ []));
      ticks = running.ticks;
    }

-- the caller that waits for the current routine's word
pub caller_waits : (c : CodeLists) (limit : ℕ) (s : State) (below : List Activation) (caller : Activation) → s.below ≡ below ++ caller ∷ [] → IsRunning c limit s → Waits c caller s.current.routine
caller_waits c limit s below caller e running =
    (one_fewer_waits c below caller s.current.routine (subst (λ (b : List Activation). AreWaiting c b s.current.routine) e running.waiting)).1
