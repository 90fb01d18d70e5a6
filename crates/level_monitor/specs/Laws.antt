-- The two laws of the level: each entry keeps the tie, and wakes whoever gets the turn.
use Rattle.std.specs.Prelude.{◌≡◌, ℕ, zero, suc, ◌+◌, ◌<◌, ◌≤◌, true, false, List, [], ◌∷◌, ◌++◌, length, slice_index_or}
use Rattle.std.proofs.Common.{refl, sym, ap, ◌∙◌, arith, length-set, get_or-set_same, get_or-set_other}
use mathlib.Core.Logic.{dite}
use native.Mathlib.Decide.{ℕ_discrete}
use Rattle.monitor_gate.specs.Kind.{with_entry, Completes, Suspends}
use Rattle.monitor_gate.specs.Lists.{with_entry_same, with_entry_other}
use Rattle.level_monitor.specs.declared.level.Change.{Change}
use Rattle.level_monitor.specs.declared.level.Level.{Level}
use Rattle.level_monitor.specs.Level.{raised_by, lowered_by, sum_of, total, IsTied, is_waiting, IsWoken, Moves, Rests}

-- Each entry keeps the tie.
total_same : (f : Change → ℕ) (n : ℕ) (lists : ℕ → List Change) (p : ℕ) (e : Change) → n < p → total f n (with_entry lists p e) ≡ total f n lists
total_same f zero lists p e above = refl
total_same f (suc n) lists p e above = let there = with_entry_other lists p e (suc n) (λ is. omega arith) in let rest = total_same f n lists p e (omega arith) in cc

sum_of-push : (f : Change → ℕ) (es : List Change) (e : Change) → sum_of f (es ++ e ∷ []) ≡ sum_of f es + f e
sum_of-push f [] e = omega arith
sum_of-push f (x ∷ xs) e = let rest = sum_of-push f xs e in omega arith

total_more : (f : Change → ℕ) (n : ℕ) (lists : ℕ → List Change) (p : ℕ) (e : Change) → 1 ≤ p → p ≤ n → total f n (with_entry lists p e) ≡ total f n lists + f e
total_more f zero lists p e low high = absurd (omega arith)
total_more f (suc n) lists p e low high = dite (ℕ_discrete p (suc n))
    (λ is. let here : with_entry lists p e (suc n) ≡ lists (suc n) ++ e ∷ [] = ap (with_entry lists p e) (sym is) ∙ (with_entry_same lists p e ∙ ap (λ q. lists q ++ e ∷ []) is) in
    let more : sum_of f (with_entry lists p e (suc n)) ≡ sum_of f (lists (suc n)) + f e = ap (sum_of f) here ∙ sum_of-push f (lists (suc n)) e in
    let rest = total_same f n lists p e (omega arith) in
    omega arith)
    (λ ne. let there : sum_of f (with_entry lists p e (suc n)) ≡ sum_of f (lists (suc n)) = ap (sum_of f) (with_entry_other lists p e (suc n) (λ is. ne (sym is))) in
    let rest = total_more f n lists p e low (omega arith) in
    omega arith)

pub moves_tied : (opening before after : Level) (lists : ℕ → List Change) (p : ℕ) (entry : Change) → IsTied opening before lists → Moves p before entry after → IsTied opening after (with_entry lists p entry)
moves_tied opening before after lists p entry tied moved =
    let up = total_more raised_by 4 lists p entry moved.process.0 moved.process.1 in
    let down = total_more lowered_by 4 lists p entry moved.process.0 moved.process.1 in
    let was = tied.level in let now = moved.level in record {
      four = ap length moved.waiting ∙ (length-set before.waiting p false ∙ tied.four);
      range = moved.range;
      level = omega arith;
    }

pub moves_done : (opening before after : Level) (lists : ℕ → List Change) (p : ℕ) (entry : Change) → IsTied opening before lists → Moves p before entry after → Completes (λ (s : Level). s.turn) is_waiting IsWoken p before after
moves_done opening before after lists p entry tied moved = let four = tied.four in let high = moved.process.1 in record {
  out = ap (λ w. slice_index_or w p false) moved.waiting ∙ get_or-set_same before.waiting p false false (omega arith);
  others = λ q ne. ap (λ w. slice_index_or w q false) moved.waiting ∙ get_or-set_other before.waiting p q false false ne;
  woken = λ q is. let h = moved.woken q is in (h.0, record { turn = is; can = h.1 });
}

pub rests_tied : (opening before after : Level) (lists : ℕ → List Change) (p : ℕ) → IsTied opening before lists → Rests p before after → IsTied opening after lists
rests_tied opening before after lists p tied rested = let range = tied.range in let was = tied.level in let now = rested.level in record {
  four = ap length rested.waiting ∙ (length-set before.waiting p true ∙ tied.four);
  range = omega arith;
  level = omega arith;
}

pub rests_done : (opening before after : Level) (lists : ℕ → List Change) (p : ℕ) → IsTied opening before lists → Rests p before after → Suspends (λ (s : Level). s.turn) is_waiting p before after
rests_done opening before after lists p tied rested = let four = tied.four in let high = rested.process.1 in record {
  waiting = ap (λ w. slice_index_or w p false) rested.waiting ∙ get_or-set_same before.waiting p true false (omega arith);
  others = λ q ne. ap (λ w. slice_index_or w q false) rested.waiting ∙ get_or-set_other before.waiting p q true false ne;
  free = rested.free;
}
