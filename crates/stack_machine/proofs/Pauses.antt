-- A program pauses, and in one way.
use Rattle.std.proofs.Common.{◌≡◌, ℕ, zero, suc, ◌+◌, ◌<◌, Option, Some, None, ◌⊎◌, inl, inr, refl, sym, ◌∙◌, ap, arith, subst}
use Rattle.solo_base.specs.declared.outcome.ProgResult.{ProgResult}
use Rattle.solo_base.specs.declared.system_call.SysCall.{SysCall}
use Rattle.stack_code.specs.CodeLists.{CodeLists}
use Rattle.stack_machine.specs.declared.state.Finish.{Finish}
use Rattle.stack_machine.specs.States.{State}
use Rattle.stack_machine.specs.State.{Next, Goes, Asks, Stops, Lacks}
use Rattle.stack_machine.specs.Machine.{next}
use Rattle.stack_machine.specs.Safe.{IsSound}
use Rattle.stack_machine.specs.Run.{Moves, LeadsToCall, LeadsToEnd}
use Rattle.stack_machine.specs.Left.{left_to_run}
use Rattle.stack_machine.proofs.Onward.{IsUnderWay, sets_out, goes_further, comes_nearer, asks_there, never_stuck, has_ended}

-- ---- In one way

-- the program doesn't go on by itself
abbrev IsPause : Next → Type 0
IsPause (Goes t) = ⊥
IsPause other = Unit {0}

same_pause : (c : CodeLists) (limit n m : ℕ) (s t u : State) → Moves c limit n s t → IsPause (next c limit t) → Moves c limit m s u → IsPause (next c limit u) → t ≡ u
same_pause c limit zero zero s t u first pause second pause_too = sym first ∙ second
same_pause c limit zero (suc m) s t u first pause (mid, goes, others) pause_too = absurd (subst IsPause (ap (next c limit) (sym first) ∙ goes) pause)
same_pause c limit (suc n) zero s t u (mid, goes, others) pause second pause_too = absurd (subst IsPause (ap (next c limit) (sym second) ∙ goes) pause_too)
same_pause c limit (suc n) (suc m) s t u (mid, goes, others) pause (again, goes_too, others_too) pause_too =
    let same : again ≡ mid = goes_alike again mid (sym goes_too ∙ goes) in
    same_pause c limit n m mid t u others pause (subst (λ v. Moves c limit m v u) same others_too) pause_too
  where
    goes_alike : (v w : State) → Goes v ≡ Goes w → v ≡ w
    goes_alike v w e = cc

asks_pauses : (c : CodeLists) (limit : ℕ) (s t : State) (call : SysCall) → LeadsToCall c limit s call t → IsPause (next c limit t)
asks_pauses c limit s t call leads = subst IsPause (sym leads.asks) tt

stops_pauses : (c : CodeLists) (limit : ℕ) (s : State) (result : ProgResult) (line ticks : ℕ) → (leads : LeadsToEnd c limit s result line ticks) → IsPause (next c limit leads.last)
stops_pauses c limit s result line ticks leads = subst IsPause (sym leads.stops) tt

pub one_call : (c : CodeLists) (limit : ℕ) (s t u : State) (call other : SysCall) → LeadsToCall c limit s call t → LeadsToCall c limit s other u → (t ≡ u) × (call ≡ other)
one_call c limit s t u call other first second =
    let same = same_pause c limit first.steps second.steps s t u first.moves (asks_pauses c limit s t call first) second.moves (asks_pauses c limit s u other second) in
    (same, calls_alike call other t u (sym first.asks ∙ ap (next c limit) same ∙ second.asks))
  where
    calls_alike : (d e : SysCall) (v w : State) → Asks d v ≡ Asks e w → d ≡ e
    calls_alike d e v w same = cc

pub one_end : (c : CodeLists) (limit : ℕ) (s : State) (result other : ProgResult) (line line_too ticks ticks_too : ℕ) → LeadsToEnd c limit s result line ticks → LeadsToEnd c limit s other line_too ticks_too
    → (result ≡ other) × (line ≡ line_too) × (ticks ≡ ticks_too)
one_end c limit s result other line line_too ticks ticks_too first second =
    let same = same_pause c limit first.steps second.steps s first.last second.last first.moves (stops_pauses c limit s result line ticks first) second.moves (stops_pauses c limit s other line_too ticks_too second) in
    let alike : Stops result line ticks ≡ Stops other line_too ticks_too = sym first.stops ∙ ap (next c limit) same ∙ second.stops in
    (cc, cc, cc)

pub no_call_at_end : (c : CodeLists) (limit : ℕ) (s t : State) (call : SysCall) (result : ProgResult) (line ticks : ℕ) → LeadsToCall c limit s call t → LeadsToEnd c limit s result line ticks → ⊥
no_call_at_end c limit s t call result line ticks first second =
    let same = same_pause c limit first.steps second.steps s t second.last first.moves (asks_pauses c limit s t call first) second.moves (stops_pauses c limit s result line ticks second) in
    let alike : Asks call t ≡ Stops result line ticks = sym first.asks ∙ ap (next c limit) same ∙ second.stops in
    cc

-- ---- In some way

-- a call in a sound state, or an end
pub record IsCall (c : CodeLists) (limit : ℕ) (s : State) : Type 0 where
  pub call : SysCall
  pub asked : State
  pub leads : LeadsToCall c limit s call asked
  pub sound : IsSound c limit asked

pub record IsEnd (c : CodeLists) (limit : ℕ) (s : State) : Type 0 where
  pub result : ProgResult
  pub line : ℕ
  pub ticks : ℕ
  pub leads : LeadsToEnd c limit s result line ticks

abbrev pub PausesSomewhere : CodeLists → ℕ → State → Type 0
PausesSomewhere c limit s = IsCall c limit s ⊎ IsEnd c limit s

by_next : (c : CodeLists) (limit : ℕ) (s t : State) (n : Next) → IsUnderWay c limit s t → next c limit t ≡ n → ((u : State) → next c limit t ≡ Goes u → PausesSomewhere c limit s) → PausesSomewhere c limit s
by_next c limit s t (Goes u) way is onward = onward u is
by_next c limit s t (Asks call u) way is onward =
    let there = asks_there c limit s t u call way is in
    inl (record { call = call; asked = u; leads = there.0; sound = there.1 })
by_next c limit s t (Stops result line ticks) way is onward =
    inr (record { result = result; line = line; ticks = ticks; leads = record { last = t; steps = way.steps; moves = way.moves; stops = is } })
by_next c limit s t Lacks way is onward = absurd (never_stuck c limit s t way is)

within : (c : CodeLists) (limit n : ℕ) (s t : State) → left_to_run c limit t < n → IsUnderWay c limit s t → PausesSomewhere c limit s
within c limit zero s t left way = absurd (omega (arith, left))
within c limit (suc n) s t left way =
    by_next c limit s t (next c limit t) way refl (λ u goes. within c limit n s u (omega (arith, left, comes_nearer c limit s t u way goes)) (goes_further c limit s t u way goes))

by_ended : (c : CodeLists) (limit : ℕ) (s : State) (ended : Option Finish) → IsSound c limit s → s.ended ≡ ended → PausesSomewhere c limit s
by_ended c limit s None sound runs = within c limit (left_to_run c limit s + 1) s s (omega arith) (sets_out c limit s sound runs)
by_ended c limit s (Some finish) sound is = inr (record { result = finish.result; line = finish.line; ticks = finish.ticks; leads = has_ended c limit s finish is })

pub pauses : (c : CodeLists) (limit : ℕ) (s : State) → IsSound c limit s → PausesSomewhere c limit s
pauses c limit s sound = by_ended c limit s s.ended sound refl
