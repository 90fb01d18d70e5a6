-- A run has one outcome.
use Rattle.std.proofs.Common.{◌≡◌, ℕ, ◌⊎◌, inl, inr, List, [], ◌∷◌, ◌++◌, refl, sym, ◌∙◌, ap, subst}
use Rattle.solo_base.specs.declared.outcome.ProgResult.{ProgResult}
use Rattle.solo_base.specs.declared.system_call.SysCall.{SysCall}
use Rattle.solo_base.specs.declared.system_call.SysReply.{SysReply}
use Rattle.stack_code.specs.CodeLists.{CodeLists}
use Rattle.stack_machine.specs.States.{State}
use Rattle.stack_machine.specs.Machine.{start_state, answered}
use Rattle.stack_machine.specs.Safe.{IsSound}
use Rattle.solo_base.specs.RunOutcome.{RunOutcome, Ends, Waits}
use Rattle.stack_machine.specs.Run.{LeadsToCall, LeadsToEnd, Replied, RunsFrom, AreFitting}
use Rattle.stack_machine.specs.Laws.{SomeRun, OneRun}
use Rattle.stack_machine.proofs.Pauses.{one_call, one_end, no_call_at_end, IsEnd, pauses}
use Rattle.stack_machine.proofs.Reply.{asks_running}
use Rattle.stack_machine.proofs.Safety.{answered_is_sound, begins_sound}

-- the outcome with one more call in front
abbrev after_call : SysCall → RunOutcome → RunOutcome
after_call call (Ends result line ticks calls) = Ends result line ticks (call ∷ calls)
after_call call (Waits calls) = Waits (call ∷ calls)

-- ---- Some outcome

run_after : (c : CodeLists) (limit : ℕ) (s asked : State) (call : SysCall) (reply : SysReply) (replies : List SysReply) (outcome : RunOutcome)
    → LeadsToCall c limit s call asked → RunsFrom c limit (answered c asked reply) replies outcome → RunsFrom c limit s (reply ∷ replies) (after_call call outcome)
run_after c limit s asked call reply replies (Ends result line ticks calls) leads (used, unused, t, split, replied, end) =
    (reply ∷ used, unused, t, ap (λ (l : List SysReply). reply ∷ l) split, (asked, leads, replied), end)
run_after c limit s asked call reply replies (Waits calls) leads (before, last, t, then_asked, split, replied, waits) =
    (call ∷ before, last, t, then_asked, ap (λ (l : List SysCall). call ∷ l) split, (asked, leads, replied), waits)

some_from : (c : CodeLists) (limit : ℕ) (s : State) (replies : List SysReply) → IsSound c limit s → AreFitting c limit s replies → (outcome : RunOutcome) × RunsFrom c limit s replies outcome
some_from c limit s [] sound fitting =
    elim (pauses c limit s sound) [
      | inl call ↦ (Waits (call.call ∷ []), ([], call.call, s, call.asked, refl, refl, call.leads))
      | inr end ↦ (Ends end.result end.line end.ticks [], ([], [], s, refl, refl, end.leads))
    ]
some_from c limit s (reply ∷ replies) sound fitting =
    elim (pauses c limit s sound) [
      | inl call ↦
          let fits = fitting call.call call.asked call.leads in
          let on = answered_is_sound c limit call.asked call.call reply call.asked (asks_running c limit call.asked call.call call.asked call.leads.asks) call.sound call.leads.asks fits.0 in
          let others = some_from c limit (answered c call.asked reply) replies on fits.1 in
          (after_call call.call others.0, run_after c limit s call.asked call.call reply replies others.0 call.leads others.1)
      | inr end ↦ (Ends end.result end.line end.ticks [], ([], reply ∷ replies, s, refl, refl, end.leads))
    ]

pub some_run : SomeRun
some_run c limit replies code good fitting = some_from c limit (start_state c) replies (begins_sound c limit code good) fitting

-- ---- One outcome

-- what a run is, from its first pause on
record EndsHere (c : CodeLists) (limit : ℕ) (s : State) (outcome : RunOutcome) : Type 0 where
  pub end : IsEnd c limit s
  pub is : outcome ≡ Ends end.result end.line end.ticks []

record WaitsHere (c : CodeLists) (limit : ℕ) (s : State) (outcome : RunOutcome) : Type 0 where
  pub call : SysCall
  pub asked : State
  pub leads : LeadsToCall c limit s call asked
  pub is : outcome ≡ Waits (call ∷ [])

record GoesOnFrom (c : CodeLists) (limit : ℕ) (s : State) (reply : SysReply) (outcome : RunOutcome) (From : State → RunOutcome → Type 0) : Type 0 where
  pub call : SysCall
  pub asked : State
  pub leads : LeadsToCall c limit s call asked
  pub others : RunOutcome
  pub from : From (answered c asked reply) others
  pub is : outcome ≡ after_call call others

abbrev Unrolled : CodeLists → ℕ → State → List SysReply → RunOutcome → Type 0
Unrolled c limit s [] outcome = EndsHere c limit s outcome ⊎ WaitsHere c limit s outcome
Unrolled c limit s (reply ∷ replies) outcome = EndsHere c limit s outcome ⊎ GoesOnFrom c limit s reply outcome (λ t others. Unrolled c limit t replies others)

ends_now : (c : CodeLists) (limit : ℕ) (s : State) (replies : List SysReply) (outcome : RunOutcome) → EndsHere c limit s outcome → Unrolled c limit s replies outcome
ends_now c limit s [] outcome here = inl here
ends_now c limit s (reply ∷ replies) outcome here = inl here

unroll_end : (c : CodeLists) (limit : ℕ) (s t : State) (used unused : List SysReply) (calls : List SysCall) (result : ProgResult) (line ticks : ℕ)
    → Replied c limit s used calls t → LeadsToEnd c limit t result line ticks → Unrolled c limit s (used ++ unused) (Ends result line ticks calls)
unroll_end c limit s t [] unused [] result line ticks same leads =
    ends_now c limit s unused (Ends result line ticks []) (record { end = record { result = result; line = line; ticks = ticks; leads = subst (λ v. LeadsToEnd c limit v result line ticks) (sym same) leads }; is = refl })
unroll_end c limit s t (reply ∷ used) unused (call ∷ calls) result line ticks (asked, first, others) leads =
    inr (record { call = call; asked = asked; leads = first; others = Ends result line ticks calls; from = unroll_end c limit (answered c asked reply) t used unused calls result line ticks others leads; is = refl })
unroll_end c limit s t [] unused (call ∷ calls) result line ticks replied leads = absurd replied
unroll_end c limit s t (reply ∷ used) unused [] result line ticks replied leads = absurd replied

unroll_wait : (c : CodeLists) (limit : ℕ) (s t asked : State) (replies : List SysReply) (before : List SysCall) (last : SysCall)
    → Replied c limit s replies before t → LeadsToCall c limit t last asked → Unrolled c limit s replies (Waits (before ++ last ∷ []))
unroll_wait c limit s t asked [] [] last same leads =
    inr (record { call = last; asked = asked; leads = subst (λ v. LeadsToCall c limit v last asked) (sym same) leads; is = refl })
unroll_wait c limit s t asked (reply ∷ replies) (call ∷ before) last (mid, first, others) leads =
    inr (record { call = call; asked = mid; leads = first; others = Waits (before ++ last ∷ []); from = unroll_wait c limit (answered c mid reply) t asked replies before last others leads; is = refl })
unroll_wait c limit s t asked [] (call ∷ before) last replied leads = absurd replied
unroll_wait c limit s t asked (reply ∷ replies) [] last replied leads = absurd replied

unroll : (c : CodeLists) (limit : ℕ) (s : State) (replies : List SysReply) (outcome : RunOutcome) → RunsFrom c limit s replies outcome → Unrolled c limit s replies outcome
unroll c limit s replies (Ends result line ticks calls) (used, unused, t, split, replied, leads) =
    subst (λ (l : List SysReply). Unrolled c limit s l (Ends result line ticks calls)) (sym split) (unroll_end c limit s t used unused calls result line ticks replied leads)
unroll c limit s replies (Waits calls) (before, last, t, asked, split, replied, leads) =
    subst (λ (l : List SysCall). Unrolled c limit s replies (Waits l)) (sym split) (unroll_wait c limit s t asked replies before last replied leads)

both_end : (c : CodeLists) (limit : ℕ) (s : State) (outcome other : RunOutcome) → EndsHere c limit s outcome → EndsHere c limit s other → outcome ≡ other
both_end c limit s outcome other first second =
    let same = one_end c limit s first.end.result second.end.result first.end.line second.end.line first.end.ticks second.end.ticks first.end.leads second.end.leads in
    first.is
    ∙ ap (λ r. Ends r first.end.line first.end.ticks []) same.0
    ∙ ap (λ n. Ends second.end.result n first.end.ticks []) same.1
    ∙ ap (λ n. Ends second.end.result second.end.line n []) same.2
    ∙ sym second.is

never_both : (c : CodeLists) (limit : ℕ) (s asked : State) (call : SysCall) (outcome : RunOutcome) → LeadsToCall c limit s call asked → EndsHere c limit s outcome → ⊥
never_both c limit s asked call outcome leads here = no_call_at_end c limit s asked call here.end.result here.end.line here.end.ticks leads here.end.leads

one_from : (c : CodeLists) (limit : ℕ) (s : State) (replies : List SysReply) (outcome other : RunOutcome) → Unrolled c limit s replies outcome → Unrolled c limit s replies other → outcome ≡ other
one_from c limit s [] outcome other (inl first) (inl second) = both_end c limit s outcome other first second
one_from c limit s [] outcome other (inl first) (inr second) = absurd (never_both c limit s second.asked second.call outcome second.leads first)
one_from c limit s [] outcome other (inr first) (inl second) = absurd (never_both c limit s first.asked first.call other first.leads second)
one_from c limit s [] outcome other (inr first) (inr second) =
    let same = one_call c limit s first.asked second.asked first.call second.call first.leads second.leads in
    first.is ∙ ap (λ d. Waits (d ∷ [])) same.1 ∙ sym second.is
one_from c limit s (reply ∷ replies) outcome other (inl first) (inl second) = both_end c limit s outcome other first second
one_from c limit s (reply ∷ replies) outcome other (inl first) (inr second) = absurd (never_both c limit s second.asked second.call outcome second.leads first)
one_from c limit s (reply ∷ replies) outcome other (inr first) (inl second) = absurd (never_both c limit s first.asked first.call other first.leads second)
one_from c limit s (reply ∷ replies) outcome other (inr first) (inr second) =
    let same = one_call c limit s first.asked second.asked first.call second.call first.leads second.leads in
    let from = subst (λ t. Unrolled c limit (answered c t reply) replies first.others) same.0 first.from in
    let others = one_from c limit (answered c second.asked reply) replies first.others second.others from second.from in
    first.is ∙ ap (λ d. after_call d first.others) same.1 ∙ ap (after_call second.call) others ∙ sym second.is

pub one_run : OneRun
one_run c limit replies outcome other first second =
    one_from c limit (start_state c) replies outcome other (unroll c limit (start_state c) replies outcome first) (unroll c limit (start_state c) replies other second)
