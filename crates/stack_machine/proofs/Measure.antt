-- Each instruction that goes on lowers what is left to run.
use Rattle.std.proofs.Common.{◌≡◌, ℕ, zero, suc, ◌+◌, ◌-◌, ◌*◌, ◌<◌, ◌≤◌, Bool, true, false, not, ◌⊎◌, ◌&&◌, ◌||◌, cond, eqb, leb, ltb, Option, Some, None, List, [], ◌∷◌, ◌++◌, length, take, ℤ, pos, refl, sym, ◌∙◌, ap, arith, inl, inr, subst}
use Rattle.std.specs.Prelude.{slice_get}
use Rattle.std.specs.Ordering.{int_eq}
use Rattle.std.specs.Int.{w16, cast_signed}
use Rattle.std.proofs.Math.Nat.{suc-mul}
use Rattle.std.proofs.lemmas.Bool.{false≢true, ltb-true, leb-true, eq-eqb, and_parts, and_from}
use Rattle.std.proofs.lemmas.Option.{slice_get_within, get_or_from_slice_get, same_Some}
use Rattle.std.proofs.lemmas.List.Folds.{list_any_at}
use Rattle.solo_base.specs.declared.outcome.ProgResult.TheVariants as result
use Rattle.solo_base.specs.declared.system_call.SysCall.{SysCall}
use Rattle.stack_code.specs.declared.table.Op.{Op}
use Rattle.stack_code.specs.declared.table.Op.TheVariants as op
use Rattle.stack_code.specs.declared.instr.Instr.{Instr}
use Rattle.stack_code.specs.declared.instr.RoutineInfo.{RoutineInfo}
use Rattle.stack_code.specs.CodeLists.{CodeLists, routine_at, instr_at, no_instr}
use Rattle.stack_code.specs.Rules.{IsGood, routine_of, operands_fit, jump_fits, is_target, is_tick, is_jump, is_call, is_behind_tick}
use Rattle.stack_machine.specs.States.{Activation, State}
use Rattle.stack_machine.specs.declared.state.Finish.{Finish}
use Rattle.stack_machine.specs.Activations.{opened, waiting_caller}
use Rattle.stack_machine.specs.State.{Next, Goes, Asks, Stops, Lacks, stop, advance, jump_to, has_room}
use Rattle.stack_machine.specs.Effects.{jump_false, tick, call, enter, leave, return_to, give_back}
use Rattle.stack_machine.specs.Operators.{unary_of, binary_of}
use Rattle.stack_machine.specs.Machine.{effect, next, next_by, next_of}
use Rattle.stack_machine.specs.Left.{instr_count, weight_at, weights, price, left_to_run}
use Rattle.stack_machine.proofs.Weights.{some_weight, heaviest, next_is_lighter, target_is_lighter, call_is_lighter}
use Rattle.stack_machine.proofs.Starts.{start_is_unticked}
use Rattle.stack_machine.proofs.Goes.{IsNextPlace, MovesOn, unary_moves, binary_moves, push_moves, load_moves, chr_moves, index_moves, load_at_moves, store_moves, store_at_moves, refer_moves, load_reference_moves, store_reference_moves, sys_moves}

-- an instruction at a place of the code that is no TICK
pub record IsNoTick (c : CodeLists) (place : ℕ) : Type 0 where
  pub inside : place < instr_count c
  pub no_tick : is_tick (instr_at c place).op ≡ false

-- an instruction that goes on leaves less to run, and one that asks changes nothing and is no TICK
abbrev pub Falls : CodeLists → ℕ → State → Next → Type 0
Falls c limit s (Goes t) = left_to_run c limit t < left_to_run c limit s
Falls c limit s (Asks call t) = (t ≡ s) × IsNoTick c s.current.place
Falls c limit s other = Unit {0}

-- ---- Rows that go on at the next place

lighter : (c : CodeLists) (limit : ℕ) (s t : State) → IsNoTick c s.current.place → IsNextPlace c s t → left_to_run c limit t < left_to_run c limit s
lighter c limit s t here on =
    let less = next_is_lighter c s.current.place here.inside here.no_tick in
    rw (on.ticks, on.waiting, on.place) (omega (arith, less))

moves_fall : (c : CodeLists) (limit : ℕ) (s : State) (n : Next) → IsNoTick c s.current.place → MovesOn c s n → Falls c limit s n
moves_fall c limit s (Goes t) here on = lighter c limit s t here on
moves_fall c limit s (Asks call t) here same = (same, here)
moves_fall c limit s (Stops result line ticks) here on = tt
moves_fall c limit s Lacks here on = tt

chosen : (c : CodeLists) (limit : ℕ) (s : State) (b : Bool) (x y : Next) → (b ≡ true → Falls c limit s x) → (b ≡ false → Falls c limit s y) → Falls c limit s (cond b x y)
chosen c limit s true x y first second = first refl
chosen c limit s false x y first second = second refl

-- ---- TICK

price_paid : (left price : ℕ) → 1 ≤ left → left * price ≡ (left - 1) * price + price
price_paid left price some = ap (λ n. n * price) (one_less left some) ∙ suc-mul (left - 1) price
  where
    one_less : (n : ℕ) → 1 ≤ n → n ≡ suc (n - 1)
    one_less n some = omega arith

tick_falls : (c : CodeLists) (limit : ℕ) (s : State) (a b : ℕ) → Falls c limit s (tick limit s a b)
tick_falls c limit s a b =
    chosen c limit s (ltb s.ticks limit) (Goes (record s { ticks = s.ticks + 1; current = record s.current { line = a * 65536 + b; place = s.current.place + 1 } })) (Stops result.TimeLimit (a * 65536 + b) s.ticks)
    (λ is.
    let below = ltb-true s.ticks limit is in
    let some = some_weight c s.current.place in
    let most = heaviest c (s.current.place + 1) in
    let left : limit - (s.ticks + 1) ≡ limit - s.ticks - 1 = omega arith in
    let paid = price_paid (limit - s.ticks) (price c) (omega (arith, below)) in
    rw (left, paid) (omega (arith, some, most)))
    (λ _. tt)

-- ---- Jumps

jump_lands : (c : CodeLists) (place a : ℕ) → is_jump (instr_at c place).op ≡ true → (instr_at c place).a ≡ a → place < instr_count c → is_target c a ≡ true
jump_lands c place a is_jump_here same inside =
    list_any_at (λ i. is_jump i.op && eqb i.a a) c.instrs place no_instr inside (and_from _ _ is_jump_here (eq-eqb _ _ same))

either : (x y : Bool) → (x || y) ≡ true → (x ≡ true) ⊎ (y ≡ true)
either true y is = inl refl
either false y is = inr is

further_or_tick : (c : CodeLists) (place a : ℕ) → jump_fits c place a ≡ true → (place < a) ⊎ (is_tick (instr_at c a).op ≡ true)
further_or_tick c place a fits =
    elim (either _ _ ((and_parts (ltb a (length c.instrs) && eqb (routine_of c a) (routine_of c place)) (ltb place a || is_tick (instr_at c a).op) fits).1)) [
      | inl further ↦ inl (ltb-true place a further)
      | inr tick ↦ inr tick
    ]

-- a jump of this instruction lowers the weight_at
pub record IsJumpTo (c : CodeLists) (place a : ℕ) : Type 0 where
  pub here : IsNoTick c place
  pub jumps : is_jump (instr_at c place).op ≡ true
  pub target : (instr_at c place).a ≡ a
  pub fits : jump_fits c place a ≡ true

jump_falls : (c : CodeLists) (limit : ℕ) (s : State) (a : ℕ) (operands : List ℤ) → IsJumpTo c s.current.place a → Falls c limit s (Goes (jump_to s a operands))
jump_falls c limit s a operands jump =
    let lands = jump_lands c s.current.place a jump.jumps jump.target jump.here.inside in
    let less = target_is_lighter c s.current.place a jump.here.inside jump.here.no_tick lands (further_or_tick c s.current.place a jump.fits) in
    omega (arith, less)

jump_false_falls : (c : CodeLists) (limit : ℕ) (s : State) (a : ℕ) (operands : List ℤ) → IsJumpTo c s.current.place a → Falls c limit s (jump_false s a operands)
jump_false_falls c limit s a [] jump = tt
jump_false_falls c limit s a (v ∷ rest) jump =
    let P : Bool → Type 0 = λ b. Falls c limit s (Goes (cond b (jump_to s a rest) (advance s rest))) in
    elim (int_eq v (pos 0)) as P [
      | true ↦ jump_falls c limit s a rest jump
      | false ↦ lighter c limit s (advance s rest) jump.here (record { ticks = refl; waiting = refl; place = refl })
    ]

-- ---- Calls of routines

weights_append : (c : CodeLists) (below : List Activation) (a : Activation) → weights c (below ++ a ∷ []) ≡ weights c below + weight_at c a.place
weights_append c [] a = omega arith
weights_append c (b ∷ below) a = let more = weights_append c below a in omega (arith, more)

enter_falls : (c : CodeLists) (limit : ℕ) (s : State) (r : RoutineInfo) (a : ℕ) → weight_at c (s.current.place + 1) + weight_at c r.start < weight_at c s.current.place → Falls c limit s (enter s r a)
enter_falls c limit s r a less =
    let more = weights_append c s.below (waiting_caller r s.current) in
    chosen c limit s (leb r.params (length s.current.operands)) (Goes (record s { below = s.below ++ waiting_caller r s.current ∷ []; current = opened r a s.current.operands })) Lacks
    (λ _. omega (arith, less, more)) (λ _. tt)

call_falls : (c : CodeLists) (limit : ℕ) (s : State) (a : ℕ) → IsGood c → IsNoTick c s.current.place → is_behind_tick c s.current.place ≡ true → 1 ≤ a → a < length c.routines → Falls c limit s (call c s a)
call_falls c limit s a good here behind later inside =
    let r = routine_at c a in
    let less = call_is_lighter c s.current.place r.start here.inside here.no_tick behind (start_is_unticked c a good later inside) in
    chosen c limit s (leb 63 (length s.below)) (stop s result.StackLimit) (enter s r a) (λ _. tt) (λ _. enter_falls c limit s r a less)

-- the waiting activations without the last one
weights_last : (c : CodeLists) (below : List Activation) (n : ℕ) (a : Activation) → n + 1 ≡ length below → slice_get below n ≡ Some a → weights c below ≡ weights c (take n below) + weight_at c a.place
weights_last c [] n a count is = absurd cc
weights_last c (b ∷ []) zero a count is = let same = ap (λ (d : Activation). weight_at c d.place) (same_Some b a is) in omega (arith, same)
weights_last c (b ∷ d ∷ below) zero a count is = absurd (omega (arith, count))
weights_last c (b ∷ below) (suc n) a count is = let more = weights_last c below n a (omega (arith, count)) is in omega (arith, more)

given_falls : (c : CodeLists) (limit : ℕ) (s : State) (below : List Activation) (caller : Activation) (word : Option ℤ) → weights c s.below ≡ weights c below + weight_at c caller.place → Falls c limit s (give_back c s below caller word)
given_falls c limit s below caller None whole = tt
given_falls c limit s below caller (Some word) whole =
    let some = some_weight c s.current.place in
    chosen c limit s (has_room c caller) (Goes (record s { below = below; current = record caller { operands = word ∷ caller.operands } })) Lacks (λ _. omega (arith, whole, some)) (λ _. tt)

return_falls : (c : CodeLists) (limit : ℕ) (s : State) (below : List Activation) (caller : Option Activation) → ((a : Activation) → caller ≡ Some a → weights c s.below ≡ weights c below + weight_at c a.place) → Falls c limit s (return_to c s below caller)
return_falls c limit s below None whole = tt
return_falls c limit s below (Some a) whole =
    let some = some_weight c s.current.place in
    let all = whole a refl in
    let r = routine_at c s.current.routine in
    chosen c limit s r.function (give_back c s below a (slice_get s.current.words r.params)) (Goes (record s { below = below; current = a }))
    (λ _. given_falls c limit s below a (slice_get s.current.words r.params) all) (λ _. omega (arith, all, some))

leave_falls : (c : CodeLists) (limit : ℕ) (s : State) → Falls c limit s (leave c s)
leave_falls c limit s =
    return_falls c limit s (take (length s.below - 1) s.below) (slice_get s.below (length s.below - 1))
    (λ a is. let inside = slice_get_within s.below (length s.below - 1) a is in weights_last c s.below (length s.below - 1) a (omega (arith, inside)) is)

-- ---- The table

-- what the rules say of the instruction at a place
pub record IsAt (c : CodeLists) (place : ℕ) (o : Op) (a b : ℕ) : Type 0 where
  pub inside : place < instr_count c
  pub same_op : (instr_at c place).op ≡ o
  pub same_a : (instr_at c place).a ≡ a
  pub fits : operands_fit c place o a b ≡ true
  pub behind : is_call o ≡ true → is_behind_tick c place ≡ true

no_tick_at : (c : CodeLists) (place : ℕ) (o : Op) (a b : ℕ) → IsAt c place o a b → is_tick o ≡ false → IsNoTick c place
no_tick_at c place o a b at no_tick = record { inside = at.inside; no_tick = ap is_tick at.same_op ∙ no_tick }

jump_at : (c : CodeLists) (place : ℕ) (o : Op) (a b : ℕ) → IsAt c place o a b → is_tick o ≡ false → is_jump o ≡ true → jump_fits c place a ≡ true → IsJumpTo c place a
jump_at c place o a b at no_tick jumps fits = record { here = no_tick_at c place o a b at no_tick; jumps = ap is_jump at.same_op ∙ jumps; target = at.same_a; fits = fits }

row_falls : (c : CodeLists) (limit : ℕ) (s : State) (o : Op) (a b : ℕ) → IsGood c → IsAt c s.current.place o a b → Falls c limit s (effect c limit s o a b)
unfolding effect
row_falls c limit s op.Push a b good at = moves_fall c limit s _ (no_tick_at c _ _ _ _ at refl) (push_moves c s (cast_signed w16 a))
row_falls c limit s op.LoadG a b good at = moves_fall c limit s _ (no_tick_at c _ _ _ _ at refl) (load_moves c true s a)
row_falls c limit s op.LoadL a b good at = moves_fall c limit s _ (no_tick_at c _ _ _ _ at refl) (load_moves c false s a)
row_falls c limit s op.StoreG a b good at = moves_fall c limit s _ (no_tick_at c _ _ _ _ at refl) (store_moves c true s a s.current.operands)
row_falls c limit s op.StoreL a b good at = moves_fall c limit s _ (no_tick_at c _ _ _ _ at refl) (store_moves c false s a s.current.operands)
row_falls c limit s op.LoadGX a b good at = moves_fall c limit s _ (no_tick_at c _ _ _ _ at refl) (load_at_moves c true s a b s.current.operands)
row_falls c limit s op.LoadLX a b good at = moves_fall c limit s _ (no_tick_at c _ _ _ _ at refl) (load_at_moves c false s a b s.current.operands)
row_falls c limit s op.StoreGX a b good at = moves_fall c limit s _ (no_tick_at c _ _ _ _ at refl) (store_at_moves c true s a b s.current.operands)
row_falls c limit s op.StoreLX a b good at = moves_fall c limit s _ (no_tick_at c _ _ _ _ at refl) (store_at_moves c false s a b s.current.operands)
row_falls c limit s op.Index a b good at = moves_fall c limit s _ (no_tick_at c _ _ _ _ at refl) (index_moves c s a b s.current.operands)
row_falls c limit s op.Add a b good at = moves_fall c limit s _ (no_tick_at c _ _ _ _ at refl) (binary_moves c (binary_of op.Add) s s.current.operands)
row_falls c limit s op.Sub a b good at = moves_fall c limit s _ (no_tick_at c _ _ _ _ at refl) (binary_moves c (binary_of op.Sub) s s.current.operands)
row_falls c limit s op.Mul a b good at = moves_fall c limit s _ (no_tick_at c _ _ _ _ at refl) (binary_moves c (binary_of op.Mul) s s.current.operands)
row_falls c limit s op.Div a b good at = moves_fall c limit s _ (no_tick_at c _ _ _ _ at refl) (binary_moves c (binary_of op.Div) s s.current.operands)
row_falls c limit s op.Mod a b good at = moves_fall c limit s _ (no_tick_at c _ _ _ _ at refl) (binary_moves c (binary_of op.Mod) s s.current.operands)
row_falls c limit s op.Neg a b good at = moves_fall c limit s _ (no_tick_at c _ _ _ _ at refl) (unary_moves c (unary_of op.Neg) s s.current.operands)
row_falls c limit s op.Abs a b good at = moves_fall c limit s _ (no_tick_at c _ _ _ _ at refl) (unary_moves c (unary_of op.Abs) s s.current.operands)
row_falls c limit s op.Not a b good at = moves_fall c limit s _ (no_tick_at c _ _ _ _ at refl) (unary_moves c (unary_of op.Not) s s.current.operands)
row_falls c limit s op.And a b good at = moves_fall c limit s _ (no_tick_at c _ _ _ _ at refl) (binary_moves c (binary_of op.And) s s.current.operands)
row_falls c limit s op.Or a b good at = moves_fall c limit s _ (no_tick_at c _ _ _ _ at refl) (binary_moves c (binary_of op.Or) s s.current.operands)
row_falls c limit s op.Eq a b good at = moves_fall c limit s _ (no_tick_at c _ _ _ _ at refl) (binary_moves c (binary_of op.Eq) s s.current.operands)
row_falls c limit s op.Ne a b good at = moves_fall c limit s _ (no_tick_at c _ _ _ _ at refl) (binary_moves c (binary_of op.Ne) s s.current.operands)
row_falls c limit s op.Lt a b good at = moves_fall c limit s _ (no_tick_at c _ _ _ _ at refl) (binary_moves c (binary_of op.Lt) s s.current.operands)
row_falls c limit s op.Gt a b good at = moves_fall c limit s _ (no_tick_at c _ _ _ _ at refl) (binary_moves c (binary_of op.Gt) s s.current.operands)
row_falls c limit s op.Le a b good at = moves_fall c limit s _ (no_tick_at c _ _ _ _ at refl) (binary_moves c (binary_of op.Le) s s.current.operands)
row_falls c limit s op.Ge a b good at = moves_fall c limit s _ (no_tick_at c _ _ _ _ at refl) (binary_moves c (binary_of op.Ge) s s.current.operands)
row_falls c limit s op.Chr a b good at = moves_fall c limit s _ (no_tick_at c _ _ _ _ at refl) (chr_moves c s s.current.operands)
row_falls c limit s op.Jump a b good at = jump_falls c limit s a s.current.operands (jump_at c _ _ _ _ at refl refl at.fits)
row_falls c limit s op.JumpF a b good at = jump_false_falls c limit s a s.current.operands (jump_at c _ _ _ _ at refl refl at.fits)
row_falls c limit s op.Tick a b good at = tick_falls c limit s a b
row_falls c limit s op.Call a b good at = call_falls c limit s a good (no_tick_at c _ _ _ _ at refl) (at.behind refl) (leb-true 1 a (and_parts _ _ at.fits).0) (ltb-true a (length c.routines) (and_parts _ _ at.fits).1)
row_falls c limit s op.Return a b good at = leave_falls c limit s
row_falls c limit s op.Sys a b good at = moves_fall c limit s _ (no_tick_at c _ _ _ _ at refl) (sys_moves c limit s false a 0)
row_falls c limit s op.SysG a b good at = moves_fall c limit s _ (no_tick_at c _ _ _ _ at refl) (sys_moves c limit s true a b)
row_falls c limit s op.SysL a b good at = moves_fall c limit s _ (no_tick_at c _ _ _ _ at refl) (sys_moves c limit s false a b)
row_falls c limit s op.Halt a b good at = tt
row_falls c limit s op.Succ a b good at = moves_fall c limit s _ (no_tick_at c _ _ _ _ at refl) (unary_moves c (unary_of op.Succ) s s.current.operands)
row_falls c limit s op.Pred a b good at = moves_fall c limit s _ (no_tick_at c _ _ _ _ at refl) (unary_moves c (unary_of op.Pred) s s.current.operands)
row_falls c limit s op.RefG a b good at = moves_fall c limit s _ (no_tick_at c _ _ _ _ at refl) (refer_moves c s 0 a)
row_falls c limit s op.RefL a b good at = moves_fall c limit s _ (no_tick_at c _ _ _ _ at refl) (refer_moves c s (length s.below) a)
row_falls c limit s op.LoadR a b good at = moves_fall c limit s _ (no_tick_at c _ _ _ _ at refl) (load_reference_moves c s a)
row_falls c limit s op.StoreR a b good at = moves_fall c limit s _ (no_tick_at c _ _ _ _ at refl) (store_reference_moves c s a s.current.operands)

behind_from : (calls behind : Bool) → (not calls || behind) ≡ true → calls ≡ true → behind ≡ true
behind_from true behind fits is = fits
behind_from false behind fits is = absurd (false≢true is)

instr_is_at : (c : CodeLists) (place : ℕ) → IsGood c → place < instr_count c → IsAt c place (instr_at c place).op (instr_at c place).a (instr_at c place).b
instr_is_at c place good inside =
    let calls = and_parts _ _ (good.instrs place inside) in
    let targets = and_parts _ _ calls.0 in
    let heights = and_parts _ _ targets.0 in
    let fits = and_parts _ _ heights.0 in
    record {
      inside = inside;
      same_op = refl;
      same_a = refl;
      fits = fits.1;
      behind = behind_from _ _ calls.1;
    }

found_falls : (c : CodeLists) (limit : ℕ) (s : State) (i : Option Instr) → IsGood c → slice_get c.instrs s.current.place ≡ i → Falls c limit s (next_by c limit s i)
found_falls c limit s None good found = tt
found_falls c limit s (Some i) good found =
    let same : instr_at c s.current.place ≡ i = get_or_from_slice_get c.instrs s.current.place i no_instr found in
    let P : Instr → Type 0 = λ j. Falls c limit s (effect c limit s j.op j.a j.b) in
    subst P same (row_falls c limit s _ _ _ good (instr_is_at c s.current.place good (slice_get_within c.instrs s.current.place i found)))

pub falls : (c : CodeLists) (limit : ℕ) (s : State) → IsGood c → s.ended ≡ None → Falls c limit s (next c limit s)
unfolding next
falls c limit s good running =
    let P : Option Finish → Type 0 = λ o. Falls c limit s (next_of c limit s o) in
    subst P (sym running) (found_falls c limit s (slice_get c.instrs s.current.place) good refl)

-- ---- What follows

pub goes_less : (c : CodeLists) (limit : ℕ) (s t : State) → IsGood c → s.ended ≡ None → next c limit s ≡ Goes t → left_to_run c limit t < left_to_run c limit s
goes_less c limit s t good running goes = subst (Falls c limit s) goes (falls c limit s good running)

pub asks_here : (c : CodeLists) (limit : ℕ) (s t : State) (call : SysCall) → IsGood c → s.ended ≡ None → next c limit s ≡ Asks call t → (t ≡ s) × IsNoTick c s.current.place
asks_here c limit s t call good running asks = subst (Falls c limit s) asks (falls c limit s good running)
