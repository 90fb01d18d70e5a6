-- The rows of the table that test an index, jump, take a tick, call and return are safe.
use Rattle.std.proofs.Common.{◌≡◌, ℕ, ◌+◌, ◌*◌, ◌<◌, Bool, true, ◌&&◌, Option, Some, None, List, [], ◌∷◌, ◌++◌, length, get_or, ℤ, pos, negsuc, ltb, leb, refl, sym, ◌∙◌, ap, arith, subst}
use Rattle.std.specs.Prelude.{slice_get, int_le, ◌-ℤ◌}
use Rattle.std.specs.Int.{w16, cast_signed}
use Rattle.std.specs.Ordering.{int_eq}
use Rattle.std.proofs.lemmas.Bool.{cond-true, cond_both, lt-ltb, ltb-true, leb-true, leb-false, le-leb, eqb-true, and_parts, and_from}
use Rattle.std.proofs.lemmas.Int.{ints}
use Rattle.std.proofs.lemmas.Option.{slice_get-get_or}
use Rattle.std.proofs.lemmas.List.Sums.{count_by-le-length}
use Rattle.solo_base.specs.declared.outcome.ProgResult.TheVariants as result
use Rattle.stack_code.specs.declared.table.Op.{Op}
use Rattle.stack_code.specs.declared.table.Op.TheVariants as op
use Rattle.stack_code.specs.declared.instr.RoutineInfo.{RoutineInfo}
use Rattle.stack_code.specs.CodeFile.{mark}
use Rattle.stack_code.specs.CodeLists.{CodeLists, routine_at}
use Rattle.stack_code.specs.Rules.{routine_of, bounds_fit, jump_fits}
use Rattle.stack_machine.specs.States.{Activation, State}
use Rattle.stack_machine.specs.State.{Goes, Stops, Lacks, has_room, advance, jump_to, stop}
use Rattle.solo_base.specs.Arithmetic.{difference}
use Rattle.stack_machine.specs.Effects.{replace_found, index, jump_false, tick, enter, call, give_back, return_to, leave}
use Rattle.stack_machine.proofs.Standing.{IsSafeNext, Stands, Takes, by_table, stopped, enough, next_height, onward}
use Rattle.stack_machine.specs.Safe.{IsAtPlace, lowest_routine}
use Rattle.stack_machine.proofs.Kept.{jumped, with_current, called, at_place, returned, caller_waits}
use Rattle.stack_machine.proofs.Routines.{is_routine}
use Rattle.stack_machine.proofs.Last.{leave_from}

-- ---- INDEX

-- an index between the bounds fits a word
difference_fits : (low high v : ℤ) → int_le low v ≡ true → int_le v high ≡ true → int_le (high -ℤ low) (pos 4095) ≡ true → difference v low ≡ Some (v -ℤ low)
difference_fits low high v above below near =
    let least : int_le (negsuc 32767) (v -ℤ low) ≡ true = grind (arith, ints) in
    let most : int_le (v -ℤ low) (pos 32767) ≡ true = grind (arith, ints) in
    cond-true (int_le (negsuc 32767) (v -ℤ low) && int_le (v -ℤ low) (pos 32767)) (Some (v -ℤ low)) None (and_from _ _ least most)

module _ {c : CodeLists} {limit : ℕ} {s : State} {o : Op} {a b : ℕ} (st : Stands c limit s o a b) where
  pub index_is_safe : Takes c o a 1 1 → (low high : ℕ) (operands : List ℤ) → operands ≡ s.current.operands → bounds_fit low high ≡ true → IsSafeNext c limit s (index s low high operands)
  index_is_safe takes low high [] same bounds = absurd (omega (arith, enough st takes, ap length same))
  index_is_safe takes low high (v ∷ rest) same bounds =
      let first = cast_signed w16 low in
      let last = cast_signed w16 high in
      let near = and_parts (int_le first last) _ bounds in
      cond_both (int_le first v && int_le v last) (replace_found s rest (difference v first)) (stop s result.RangeError) (IsSafeNext c limit s)
      (λ inside.
      let parts = and_parts (int_le first v) (int_le v last) inside in
      subst (λ (d : Option ℤ). IsSafeNext c limit s (replace_found s rest d)) (sym (difference_fits first last v parts.0 parts.1 near.1)) (onward st takes ((v -ℤ first) ∷ rest) (omega (arith, ap length same))))
      (λ outside. stopped st result.RangeError)

-- ---- JUMP, JUMPF and TICK

-- where a jump leads
record IsTarget (c : CodeLists) (place a : ℕ) : Type 0 where
  pub inside : a < length c.instrs
  pub routine : routine_of c a ≡ routine_of c place

is_target : (c : CodeLists) (place a : ℕ) → jump_fits c place a ≡ true → IsTarget c place a
is_target c place a fits =
    let tick = and_parts _ _ fits in
    let routine = and_parts _ _ tick.0 in
    record { inside = ltb-true _ _ routine.0; routine = eqb-true _ _ routine.1 }

pub jump_is_safe : {c : CodeLists} {limit : ℕ} {s : State} {a b : ℕ} → Stands c limit s op.Jump a b → IsSafeNext c limit s (Goes (jump_to s a s.current.operands))
jump_is_safe {c = c} {limit = limit} {s = s} {a = a} st =
    let target = is_target c s.current.place a st.obeys.fits in
    (st.going, jumped c st.good limit s st.running a target.inside target.routine s.current.operands (omega (arith, st.obeys.target refl target.inside, st.obeys.cleared refl, st.running.current.operands)))

pub jump_false_is_safe : {c : CodeLists} {limit : ℕ} {s : State} {a b : ℕ} → Stands c limit s op.JumpF a b → Takes c op.JumpF a 1 0 → (operands : List ℤ) → operands ≡ s.current.operands → IsSafeNext c limit s (jump_false s a operands)
jump_false_is_safe st takes [] same = absurd (omega (arith, enough st takes, ap length same))
jump_false_is_safe {c = c} {limit = limit} {s = s} {a = a} st takes (v ∷ rest) same =
    let target = is_target c s.current.place a st.obeys.fits in
    let there = jumped c st.good limit s st.running a target.inside target.routine rest (omega (arith, st.obeys.target refl target.inside, st.obeys.cleared refl, st.running.current.operands, ap length same)) in
    cond_both (int_eq v (pos 0)) (jump_to s a rest) (advance s rest) (λ t. IsSafeNext c limit s (Goes t)) (λ zero. (st.going, there)) (λ other. onward st takes rest (omega (arith, ap length same)))

module _ {c : CodeLists} {limit : ℕ} {s : State} {o : Op} {a b : ℕ} (st : Stands c limit s o a b) where
  pub tick_is_safe : Takes c o a 0 0 → (high low : ℕ) → IsSafeNext c limit s (tick limit s high low)
  tick_is_safe takes high low =
      let line = high * 65536 + low in
      let current : Activation = record s.current { line = line; place = s.current.place + 1 } in
      let on = st.obeys.goes_on takes.middle in
      let at = at_place c st.good current 0 on.inside (st.running.current.routine ∙ sym on.routine) st.running.current.words (omega (arith, next_height st takes)) in
      cond_both (ltb s.ticks limit) (Goes (record s { ticks = s.ticks + 1; current = current })) (Stops result.TimeLimit line s.ticks) (IsSafeNext c limit s)
      (λ left. (st.going, with_current c limit s st.running current (s.ticks + 1) refl at (omega (arith, ltb-true _ _ left))))
      (λ none. st.running.ticks)

-- ---- CALL

pub call_is_safe : {c : CodeLists} {limit : ℕ} {s : State} {a b : ℕ} → Stands c limit s op.Call a b → IsSafeNext c limit s (call c s a)
call_is_safe {c = c} {limit = limit} {s = s} {a = a} st =
    let r = routine_at c a in
    let takes : Takes c op.Call a r.params (mark r.function) = by_table refl in
    let number = and_parts _ _ st.obeys.fits in
    let free = enough st takes in
    cond_both (leb 63 (length s.below)) (stop s result.StackLimit) (enter s r a) (IsSafeNext c limit s)
    (λ full. stopped st result.StackLimit)
    (λ open_places.
    subst (IsSafeNext c limit s) (sym (cond-true (leb r.params (length s.current.operands)) _ Lacks (le-leb _ _ free)))
    (st.going, called c st.good limit s st.running (st.obeys.goes_on refl) a (leb-true _ _ number.0) (ltb-true _ _ number.1) free (next_height st takes) (leb-false _ _ open_places)))

-- ---- RETURN

-- a list that isn't empty ends in an activation
record Ends (below : List Activation) : Type 0 where
  pub front : List Activation
  pub last : Activation
  pub whole : below ≡ front ++ last ∷ []

ends : (a : Activation) (below : List Activation) → Ends (a ∷ below)
ends a [] = record { front = []; last = a; whole = refl }
ends a (b ∷ below) =
    let rest = ends b below in
    record { front = a ∷ rest.front; last = rest.last; whole = ap (◌∷◌ a) rest.whole }

-- a routine behind the program has a caller
has_caller : (below : List Activation) (current : ℕ) → lowest_routine below current ≡ 0 → 0 < current → Ends below
has_caller [] current program above = absurd (omega arith)
has_caller (a ∷ below) current program above = ends a below

-- where the caller takes a word
taken : (c : CodeLists) (a : Activation) (word : ℤ) → IsAtPlace c a 1 → IsAtPlace c (record a { operands = word ∷ a.operands }) 0
taken c a word at = record {
  inside = at.inside;
  routine = at.routine;
  words = at.words;
  operands = omega (arith, at.operands);
  height = omega (arith, at.height);
}

module _ {c : CodeLists} {limit : ℕ} {s : State} {o : Op} {a b : ℕ} (st : Stands c limit s o a b) where
  given_back : (below : List Activation) (caller : Activation) → s.below ≡ below ++ caller ∷ [] → (routine_at c s.current.routine).function ≡ true → (word : ℤ) → IsSafeNext c limit s (give_back c s below caller (Some word))
  given_back below caller e function word =
      let waits = caller_waits c limit s below caller e st.running in
      let at : IsAtPlace c caller 1 = subst (λ (f : Bool). IsAtPlace c caller (mark f)) function waits.place in
      let new : Activation = record caller { operands = word ∷ caller.operands } in
      subst (IsSafeNext c limit s) (sym (cond-true (has_room c caller) _ Lacks (lt-ltb _ _ (omega (arith, at.height)))))
      (st.going, returned c limit s below caller new e st.running refl (taken c caller word at))

  returns_to : s.current.routine < length c.routines → (below : List Activation) (caller : Activation) → s.below ≡ below ++ caller ∷ [] → IsSafeNext c limit s (return_to c s below (Some caller))
  returns_to known below caller e =
      let r = routine_at c s.current.routine in
      cond_both r.function (give_back c s below caller (slice_get s.current.words r.params)) (Goes (record s { below = below; current = caller })) (IsSafeNext c limit s)
      (λ function.
      let inside : r.params < length s.current.words = omega (arith, (is_routine c st.good s.current.routine known).words, ap mark function, st.running.current.words) in
      subst (λ (found : Option ℤ). IsSafeNext c limit s (give_back c s below caller found)) (sym (slice_get-get_or s.current.words r.params (pos 0) inside))
      (given_back below caller e function (get_or s.current.words r.params (pos 0))))
      (λ procedure.
      let at : IsAtPlace c caller 0 = subst (λ (f : Bool). IsAtPlace c caller (mark f)) procedure (caller_waits c limit s below caller e st.running).place in
      (st.going, returned c limit s below caller caller e st.running refl at))

pub leave_is_safe : {c : CodeLists} {limit : ℕ} {s : State} {a b : ℕ} → Stands c limit s op.Return a b → IsSafeNext c limit s (leave c s)
leave_is_safe {c = c} {limit = limit} {s = s} st =
    let number : 0 < s.current.routine = omega (arith, ltb-true _ _ st.obeys.fits, st.running.current.routine) in
    let caller = has_caller s.below s.current.routine st.running.program number in
    let known : s.current.routine < length c.routines = omega (arith, st.running.current.routine, count_by-le-length (λ (r : RoutineInfo). leb r.start s.current.place) c.routines) in
    subst (IsSafeNext c limit s) (sym (leave_from c s caller.front caller.last caller.whole)) (returns_to st known caller.front caller.last caller.whole)
