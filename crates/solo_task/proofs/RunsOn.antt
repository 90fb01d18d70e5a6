-- Many instructions of a program at once, and a call behind them.
use Rattle.std.proofs.Common.{◌≡◌, ℕ, zero, suc, ◌+◌, ◌-◌, ◌≤◌, Bool, true, false, ◌&&◌, refl, ◌∙◌, ap, arith, Option}
use Rattle.solo_base.specs.declared.system_call.SysCall.{SysCall}
use Rattle.stack_code.specs.CodeLists.{CodeLists}
use Rattle.stack_machine.specs.States.{State}
use Rattle.stack_machine.specs.State.{Next, Goes, Asks, Stops, Lacks}
use Rattle.stack_machine.specs.Machine.{next, answered}
use Rattle.program_task.specs.Task.{Task, and_then}
use Rattle.program_task.specs.Program.{Own, Shared, Ended, Runner}
use Rattle.program_task.specs.Table.{answer}
use Rattle.program_task.specs.Run.{step_by, run_for}

-- the state behind an instruction that goes on, and whether it does
abbrev pub moved_to : State → Next → State
moved_to s (Goes t) = t
moved_to s other = s

abbrev pub is_going : Next → Bool
is_going (Goes t) = true
is_going other = false

-- the state behind so many instructions, and whether each of them goes on
abbrev pub goes_by : ℕ → CodeLists → ℕ → State → State
goes_by zero c limit s = s
goes_by (suc n) c limit s = goes_by n c limit (moved_to s (next c limit s))

abbrev pub all_go : ℕ → CodeLists → ℕ → State → Bool
all_go zero c limit s = true
all_go (suc n) c limit s = is_going (next c limit s) && all_go n c limit (moved_to s (next c limit s))

going-first : (a b : Bool) → (a && b) ≡ true → a ≡ true
going-first true b e = refl
going-first false b e = absurd cc

going-rest : (a b : Bool) → (a && b) ≡ true → b ≡ true
going-rest true b e = e
going-rest false b e = absurd cc

one-step : (deeper : Option Runner) (c : CodeLists) (own : Own) (w : Shared) (s : State) (x : Next) (later : State → Own → Shared → Task Ended)
    → is_going x ≡ true → step_by deeper c own w x later ≡ later (moved_to s x) own w
one-step deeper c own w s (Goes t) later e = refl
one-step deeper c own w s (Asks call t) later e = absurd cc
one-step deeper c own w s (Stops result line ticks) later e = absurd cc
one-step deeper c own w s Lacks later e = absurd cc

no-more : (m : ℕ) → 0 + m ≡ m
no-more m = omega arith

one-more : (n m : ℕ) → suc n + m ≡ suc (n + m)
one-more n m = omega arith

pub run-goes : (n m : ℕ) (deeper : Option Runner) (c : CodeLists) (limit : ℕ) (s : State) (own : Own) (w : Shared) → all_go n c limit s ≡ true
    → run_for (n + m) deeper c limit s own w ≡ run_for m deeper c limit (goes_by n c limit s) own w
run-goes zero m deeper c limit s own w go = ap (λ k. run_for k deeper c limit s own w) (no-more m)
run-goes (suc n) m deeper c limit s own w go =
    let x = next c limit s in
    let t = moved_to s x in
    ap (λ k. run_for k deeper c limit s own w) (one-more n m)
    ∙ one-step deeper c own w s x (run_for (n + m) deeper c limit) (going-first (is_going x) (all_go n c limit t) go)
    ∙ run-goes n m deeper c limit t own w (going-rest (is_going x) (all_go n c limit t) go)

-- a call behind them
pub run-asks : (m : ℕ) (deeper : Option Runner) (c : CodeLists) (limit : ℕ) (s : State) (own : Own) (w : Shared) (call : SysCall) (t : State)
    → next c limit s ≡ Asks call t
    → run_for (suc m) deeper c limit s own w
    ≡ and_then (answer deeper call own w) (λ a. run_for m deeper c limit (answered c t a.reply) a.own a.shared)
run-asks m deeper c limit s own w call t e = ap (λ x. step_by deeper c own w x (run_for m deeper c limit)) e

parted : (n k : ℕ) → suc n ≤ k → k ≡ n + suc (k - suc n)
parted n k most = omega (arith, most)

pub run-to-call : (n k : ℕ) (deeper : Option Runner) (c : CodeLists) (limit : ℕ) (s : State) (own : Own) (w : Shared) (call : SysCall) → suc n ≤ k
    → all_go n c limit s ≡ true → next c limit (goes_by n c limit s) ≡ Asks call (goes_by n c limit s)
    → run_for k deeper c limit s own w
    ≡ and_then (answer deeper call own w)
    (λ a. run_for (k - suc n) deeper c limit (answered c (goes_by n c limit s) a.reply) a.own a.shared)
run-to-call n k deeper c limit s own w call most go asks =
    ap (λ k. run_for k deeper c limit s own w) (parted n k most)
    ∙ run-goes n (suc (k - suc n)) deeper c limit s own w go
    ∙ run-asks (k - suc n) deeper c limit (goes_by n c limit s) own w call (goes_by n c limit s) asks
