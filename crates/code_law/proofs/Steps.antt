-- What each instruction makes of a situation that reads and writes no variable.
use Rattle.std.proofs.Common.{◌≡◌, ℕ, ◌+◌, ◌*◌, ◌/◌, ◌%◌, Bool, true, false, not, ◌&&◌, Option, Some, None, List, ◌∷◌, ℤ, pos, ◌∙◌, ap, arith}
use Rattle.std.proofs.Math.Nat.{div-add-mod}
use Rattle.std.specs.Prelude.{slice_get, if◌then◌else◌, nat_lt, int_le}
use Rattle.std.specs.Ordering.{int_eq}
use Rattle.std.specs.Int.{w16, cast_signed}
use Rattle.solo_base.specs.declared.outcome.ProgResult.TheVariants as result
use Rattle.solo_base.specs.declared.system_call.SysReply.{SysReply}
use Rattle.solo_base.specs.Arithmetic.{holds}
use Rattle.stack_code.specs.declared.table.Op.TheVariants as op
use Rattle.stack_code.specs.declared.instr.Instr.{Instr}
use Rattle.stack_code.specs.CodeLists.{CodeLists}
use Rattle.stack_machine.specs.States.{State}
use Rattle.stack_machine.specs.State.{Goes, Stops, push, has_room}
use Rattle.stack_machine.specs.Effects.{replace}
use Rattle.stack_machine.specs.Machine.{effect, next}
use Rattle.pascal_mean.specs.Situation.{Situation, Course, Gives, choose, end_with, number_or_overflow, take_tick, time_is_up}
use Rattle.pascal_code.specs.Instructions.{bare, with_a, tick}
use Rattle.code_law.proofs.Reached.{does, goes, goes_if, stops}
use Rattle.code_law.proofs.Here.{Fixed, state_at, Here, further, After, so, on_floor}

module _ {c : CodeLists} {limit : ℕ} {all : List SysReply} {f : Fixed} where
  -- a word is pushed
  pub pushed : (p : ℕ) (operands : List ℤ) (now : Situation) (i : Instr) (v : ℤ) (h : Here c limit all f p operands now) → slice_get c.instrs p ≡ Some i
      → (let s = state_at f.routine h.below p now.line h.words operands now.ticks in effect c limit s i.op i.a i.b ≡ push c s v)
      → Here c limit all f (p + 1) (v ∷ operands) now
  pushed p operands now i v h found step =
      let s = state_at f.routine h.below p now.line h.words operands now.ticks in
      further (p + 1) (v ∷ operands) h (goes_if (has_room c s.current) (state_at f.routine h.below (p + 1) now.line h.words (v ∷ operands) now.ticks) h.reached
      (does h.reached i found ∙ step))

  pub number_pushed : (p : ℕ) (operands : List ℤ) (now : Situation) (a : ℕ) (v : ℤ) → Here c limit all f p operands now
      → slice_get c.instrs p ≡ Some (with_a op.Push a) → cast_signed w16 a ≡ v → Here c limit all f (p + 1) (v ∷ operands) now
  unfolding effect
  number_pushed p operands now a v h found is =
      pushed p operands now (with_a op.Push a) v h found (ap (push c (state_at f.routine h.below p now.line h.words operands now.ticks)) is)

  -- the result of an operator, or an overflow
  pub operated : (p : ℕ) (operands rest : List ℤ) (now : Situation) (i : Instr) (o : Option ℤ) (h : Here c limit all f p operands now)
      → slice_get c.instrs p ≡ Some i
      → (let s = state_at f.routine h.below p now.line h.words operands now.ticks in effect c limit s i.op i.a i.b ≡ replace s rest o)
      → After c limit all (λ v n. Here c limit all f (p + 1) (v ∷ rest) n) (number_or_overflow o now)
  operated p operands rest now i (Some v) h found step =
      record {
        comes = further (p + 1) (v ∷ rest) h (goes (state_at f.routine h.below (p + 1) now.line h.words (v ∷ rest) now.ticks) h.reached
            (does h.reached i found ∙ step));
      }
  operated p operands rest now i None h found step = record { comes = stops result.Overflow now.line now.ticks h.reached (does h.reached i found ∙ step) }

  -- CHR
  pub code_tested : (p : ℕ) (v : ℤ) (rest : List ℤ) (now : Situation) → Here c limit all f p (v ∷ rest) now → slice_get c.instrs p ≡ Some (bare op.Chr)
      → After c limit all (λ u n. Here c limit all f (p + 1) (u ∷ rest) n)
      (choose (int_le (pos 0) v && int_le v (pos 127)) (Gives v) (end_with result.RangeError) now)
  unfolding effect
  code_tested p v rest now h found = by_test (int_le (pos 0) v && int_le v (pos 127)) (does h.reached (bare op.Chr) found)
    where
      by_test : (b : Bool) → next c limit (state_at f.routine h.below p now.line h.words (v ∷ rest) now.ticks) ≡ (if b then Goes
          (state_at f.routine h.below (p + 1) now.line h.words (v ∷ rest) now.ticks) else Stops result.RangeError now.line now.ticks)
          → After c limit all (λ u n. Here c limit all f (p + 1) (u ∷ rest) n) (choose b (Gives v) (end_with result.RangeError) now)
      by_test true e = record {
        comes = further (p + 1) (v ∷ rest) h
            (goes (state_at f.routine h.below (p + 1) now.line h.words (v ∷ rest) now.ticks) h.reached e);
      }
      by_test false e = record { comes = stops result.RangeError now.line now.ticks h.reached e }

  -- a tick, which is one more
  pub ticked_on : (p : ℕ) (operands : List ℤ) (now : Situation) (line : ℕ) → Here c limit all f p operands now → slice_get c.instrs p ≡ Some (tick line)
      → After c limit all (λ _ n. Here c limit all (record f { floor = now.ticks + 1 }) (p + 1) operands n) (take_tick limit line now)
  unfolding effect
  ticked_on p operands now line h found = by_test (nat_lt now.ticks limit) (does h.reached (tick line) found)
    where
      read : ℕ
      read = line / 65536 * 65536 + line % 65536

      same : line / 65536 * 65536 + line % 65536 ≡ line
      same = omega (arith, div-add-mod line 65536)

      by_test : (b : Bool) → next c limit (state_at f.routine h.below p now.line h.words operands now.ticks)
          ≡ (if b then Goes (state_at f.routine h.below (p + 1) (line / 65536 * 65536 + line % 65536) h.words operands (now.ticks + 1)) else Stops
          result.TimeLimit (line / 65536 * 65536 + line % 65536) now.ticks)
          → After c limit all (λ (_ : Unit {0}) n. Here c limit all (record f { floor = now.ticks + 1 }) (p + 1) operands n)
          (choose b (λ n. Gives tt (record n { line = line; ticks = n.ticks + 1 })) (time_is_up line) now)
      by_test true e = record {
        comes = record {
          below = h.below;
          words = h.words;
          reached = goes (state_at f.routine h.below (p + 1) line h.words operands (now.ticks + 1)) h.reached
              (e ∙ ap (λ n. Goes (state_at f.routine h.below (p + 1) n h.words operands (now.ticks + 1))) same);
          waiting = h.waiting;
          agree = h.agree;
          named = h.named;
          risen = omega arith;
        };
      }
      by_test false e = record { comes = stops result.TimeLimit line now.ticks h.reached (e ∙ ap (λ n. Stops result.TimeLimit n now.ticks) same) }

  pub ticked : (p : ℕ) (operands : List ℤ) (now : Situation) (line : ℕ) → Here c limit all f p operands now → slice_get c.instrs p ≡ Some (tick line)
      → After c limit all (λ _ n. Here c limit all f (p + 1) operands n) (take_tick limit line now)
  ticked p operands now line h found = so (take_tick limit line now) (ticked_on p operands now line h found)
      (λ _ n there. on_floor f.floor there (omega (arith, h.risen, there.risen)))

  -- ---- Jumps

  pub jumped : (p a : ℕ) (operands : List ℤ) (now : Situation) → Here c limit all f p operands now → slice_get c.instrs p ≡ Some (with_a op.Jump a)
      → Here c limit all f a operands now
  unfolding effect
  jumped p a operands now h found = further a operands h
      (goes (state_at f.routine h.below a now.line h.words operands now.ticks) h.reached (does h.reached (with_a op.Jump a) found))

  -- on, or to the place where the test sends it
  pub decided : {A : Type 0} {P : A → Situation → Type 0} (p a : ℕ) (v : ℤ) (rest : List ℤ) (now : Situation) (one other : Course A)
      → Here c limit all f p (v ∷ rest) now → slice_get c.instrs p ≡ Some (with_a op.JumpF a)
      → (Here c limit all f (p + 1) rest now → After c limit all P one) → (Here c limit all f a rest now → After c limit all P other)
      → After c limit all P (if holds v then one else other)
  unfolding effect
  decided {A} {P} p a v rest now one other h found onward sent = by_test (int_eq v (pos 0)) (does h.reached (with_a op.JumpF a) found)
    where
      on : State
      on = state_at f.routine h.below (p + 1) now.line h.words rest now.ticks

      away : State
      away = state_at f.routine h.below a now.line h.words rest now.ticks

      by_test : (b : Bool) → next c limit (state_at f.routine h.below p now.line h.words (v ∷ rest) now.ticks) ≡ Goes (if b then away else on)
          → After c limit all P (if not b then one else other)
      by_test true e = sent (further a rest h (goes away h.reached e))
      by_test false e = onward (further (p + 1) rest h (goes on h.reached e))
