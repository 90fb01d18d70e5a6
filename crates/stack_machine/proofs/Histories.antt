-- The histories that a machine stands for, from pause to pause.
use Rattle.std.proofs.Common.{◌≡◌, ℕ, zero, suc, Some, None, ℤ, pos, List, [], ◌∷◌, ◌++◌, refl, sym, ◌∙◌, ap, append_assoc, subst}
use Rattle.std.specs.Prelude.{replicate}
use Rattle.std.proofs.lemmas.List.{append-nil}
use Rattle.std.proofs.lemmas.Option.{none-some}
use Rattle.solo_base.specs.declared.system_call.SysCall.{SysCall}
use Rattle.solo_base.specs.declared.system_call.SysReply.{SysReply}
use Rattle.stack_code.specs.CodeLists.{CodeLists, routine_at}
use Rattle.stack_machine.specs.declared.running.Pause.{Pause}
use Rattle.stack_machine.specs.declared.running.Pause.TheVariants as pause
use Rattle.stack_machine.specs.declared.state.Finish.{Finish}
use Rattle.stack_machine.specs.States.{Activation, State}
use Rattle.stack_machine.specs.State.{Asks}
use Rattle.stack_machine.specs.Machine.{next, start_state, answered}
use Rattle.stack_machine.specs.Run.{Moves, LeadsToCall, LeadsToEnd, Pauses, Replied, RunsFrom, Runs}
use Rattle.stack_machine.specs.Standing.{Standing}
use Rattle.stack_machine.specs.History.{WentOn, RunsOn, HasEnded, StandsFor, outcome_at, CameTo}
use Rattle.stack_machine.proofs.Onward.{has_ended}
use Rattle.stack_machine.proofs.Pauses.{one_end, no_call_at_end}
use Rattle.stack_machine.proofs.Reply.{goes_running}
use Rattle.stack_machine.proofs.Rounds.{replied_more}

-- ---- Further on

-- so many steps more
abbrev and_then : ℕ → ℕ → ℕ
and_then zero m = m
and_then (suc n) m = suc (and_then n m)

moves_on : (c : CodeLists) (limit n m : ℕ) (s t u : State) → Moves c limit n s t → Moves c limit m t u → Moves c limit (and_then n m) s u
moves_on c limit zero m s t u same others = subst (λ v. Moves c limit m v u) (sym same) others
moves_on c limit (suc n) m s t u (mid, goes, some) others = (mid, goes, moves_on c limit n m mid t u some others)

call_from : (c : CodeLists) (limit steps : ℕ) (s t u : State) (call : SysCall) → Moves c limit steps s t → LeadsToCall c limit t call u → LeadsToCall c limit s call u
call_from c limit steps s t u call moves leads = record { steps = and_then steps leads.steps; moves = moves_on c limit steps leads.steps s t u moves leads.moves; asks = leads.asks }

end_from : (c : CodeLists) (limit steps : ℕ) (s t : State) (finish : Finish) → Moves c limit steps s t → LeadsToEnd c limit t finish.result finish.line finish.ticks → LeadsToEnd c limit s finish.result finish.line finish.ticks
end_from c limit steps s t finish moves leads =
    record { last = leads.last; steps = and_then steps leads.steps; moves = moves_on c limit steps leads.steps s t leads.last moves leads.moves; stops = leads.stops }

-- an end that is told again is the same one
end_again : (c : CodeLists) (limit : ℕ) (s t : State) (finish again : Finish) → t.ended ≡ Some finish → LeadsToEnd c limit s finish.result finish.line finish.ticks → LeadsToEnd c limit t again.result again.line again.ticks
    → LeadsToEnd c limit s again.result again.line again.ticks
end_again c limit s t finish again ended leads told =
    let same = one_end c limit t finish.result again.result finish.line again.line finish.ticks again.ticks (has_ended c limit t finish ended) told in
    subst (λ r. LeadsToEnd c limit s r again.line again.ticks) same.0
    (subst (λ n. LeadsToEnd c limit s finish.result n again.ticks) same.1
    (subst (λ n. LeadsToEnd c limit s finish.result finish.line n) same.2 leads))

-- from any state that the program came to, its next pause is the pause of where it began
went_to_pause : (c : CodeLists) (limit : ℕ) (s t u : State) (p : Pause) → WentOn c limit s t → Pauses c limit t p u → Pauses c limit s p u
went_to_pause c limit s t u (pause.Call call) (RunsOn steps moves) leads = call_from c limit steps s t u call moves leads
went_to_pause c limit s t u (pause.Finished finish) (RunsOn steps moves) (leads, ended) = (end_from c limit steps s t finish moves leads, ended)
went_to_pause c limit s t u (pause.Call call) (HasEnded finish is told) leads = absurd (no_call_at_end c limit t u call finish.result finish.line finish.ticks leads (has_ended c limit t finish is))
went_to_pause c limit s t u (pause.Finished again) (HasEnded finish is told) (leads, ended) = (end_again c limit s t finish again is told leads, ended)

went_on : (c : CodeLists) (limit : ℕ) (s u : State) (p : Pause) → Pauses c limit s p u → WentOn c limit s u
went_on c limit s u (pause.Call call) leads = RunsOn leads.steps leads.moves
went_on c limit s u (pause.Finished finish) (leads, ended) = HasEnded finish ended leads

-- ---- Histories

outcome_from : (c : CodeLists) (limit : ℕ) (s t u : State) (p : Pause) (replies : List SysReply) (calls : List SysCall) → Replied c limit s replies calls t → Pauses c limit t p u → RunsFrom c limit s replies (outcome_at p calls)
outcome_from c limit s t u (pause.Call call) replies calls replied leads = (calls, call, t, u, refl, replied, leads)
outcome_from c limit s t u (pause.Finished finish) replies calls replied (leads, ended) = (replies, [], t, sym (append-nil replies), replied, leads)

-- a machine that was made of empty parts was given nothing
pub stands_empty : (c : CodeLists) (limit : ℕ) (below : List Activation) (words operands : List ℤ) → below ≡ [] → words ≡ replicate (routine_at c 0).words (pos 0) → operands ≡ []
    → StandsFor (record { code = c; limit = limit; state = record { below = below; current = record { routine = 0; place = 0; line = 0; words = words; operands = operands }; ticks = 0; ended = None } }) [] []
stands_empty c limit below words operands no_below zeros no_operands =
    rw (no_below, zeros, no_operands) (record { begun = start_state c; replied = refl; went_on = RunsOn 0 refl })

-- a pause adds nothing to a history, and is its outcome
pub stands_on_pause : (m : Standing) (p : Pause) (u : State) (replies : List SysReply) (calls : List SysCall) → Pauses m.code m.limit m.state p u → StandsFor m replies calls
    → Runs m.code m.limit replies (outcome_at p calls) × StandsFor (record { code = m.code; limit = m.limit; state = u }) replies calls
stands_on_pause m p u replies calls pauses stands =
    let from = went_to_pause m.code m.limit stands.begun m.state u p stands.went_on pauses in (
      outcome_from m.code m.limit (start_state m.code) stands.begun u p replies calls stands.replied from,
      record { begun = stands.begun; replied = stands.replied; went_on = went_on m.code m.limit stands.begun u p from },
    )

call_asked : (c : CodeLists) (limit : ℕ) (s t : State) (call : SysCall) → WentOn c limit s t → next c limit t ≡ Asks call t → LeadsToCall c limit s call t
call_asked c limit s t call (RunsOn steps moves) asks = record { steps = steps; moves = moves; asks = asks }
call_asked c limit s t call (HasEnded finish is told) asks =
    absurd (no_call_at_end c limit t t call finish.result finish.line finish.ticks (record { steps = 0; moves = refl; asks = asks }) (has_ended c limit t finish is))

-- an answer adds its call and its reply
pub stands_answered : (m : Standing) (call : SysCall) (reply : SysReply) (replies : List SysReply) (calls : List SysCall) → next m.code m.limit m.state ≡ Asks call m.state → StandsFor m replies calls
    → StandsFor (record { code = m.code; limit = m.limit; state = answered m.code m.state reply }) (replies ++ reply ∷ []) (calls ++ call ∷ [])
stands_answered m call reply replies calls asks stands =
    record {
      begun = answered m.code m.state reply;
      replied = replied_more m.code m.limit (start_state m.code) stands.begun m.state replies calls reply call stands.replied (call_asked m.code m.limit stands.begun m.state call stands.went_on asks);
      went_on = RunsOn 0 refl;
    }

-- ---- A history goes on

-- a program that has ended goes nowhere
stays_ended : (c : CodeLists) (limit steps : ℕ) (b s t : State) (finish : Finish) → s.ended ≡ Some finish → LeadsToEnd c limit b finish.result finish.line finish.ticks → Moves c limit steps s t → WentOn c limit b t
stays_ended c limit zero b s t finish ended leads same = HasEnded finish (ap (λ (v : State). v.ended) (sym same) ∙ ended) leads
stays_ended c limit (suc steps) b s t finish ended leads (mid, goes, others) =
    absurd (none-some finish (sym (goes_running c limit s mid goes) ∙ ended))

went_further : (c : CodeLists) (limit : ℕ) (b s t : State) → WentOn c limit b s → WentOn c limit s t → WentOn c limit b t
went_further c limit b s t (RunsOn n first) (RunsOn m others) = RunsOn (and_then n m) (moves_on c limit n m b s t first others)
went_further c limit b s t (RunsOn n first) (HasEnded finish ended leads) = HasEnded finish ended (end_from c limit n b s finish first leads)
went_further c limit b s t (HasEnded finish ended leads) (RunsOn m others) = stays_ended c limit m b s t finish ended leads others
went_further c limit b s t (HasEnded finish ended leads) (HasEnded again ended' leads') = HasEnded again ended' (end_again c limit b s finish again ended leads leads')

call_further : (c : CodeLists) (limit : ℕ) (b s t : State) (call : SysCall) → WentOn c limit b s → LeadsToCall c limit s call t → LeadsToCall c limit b call t
call_further c limit b s t call went leads = went_to_pause c limit b s t (pause.Call call) went leads

-- a machine that stood for a history stands for it with the replies and calls by which its program went on
came_from : (c : CodeLists) (limit : ℕ) (s t begun : State) (replies : List SysReply) (calls : List SysCall) (before : List SysReply) (asked : List SysCall)
    → Replied c limit s replies calls begun → WentOn c limit begun t → StandsFor (record { code = c; limit = limit; state = s }) before asked
    → StandsFor (record { code = c; limit = limit; state = t }) (before ++ replies) (asked ++ calls)
came_from c limit s t begun [] [] before asked same went stands =
    rw (append-nil before, append-nil asked) (record {
      begun = stands.begun;
      replied = stands.replied;
      went_on = went_further c limit stands.begun s t stands.went_on (subst (λ (v : State). WentOn c limit v t) (sym same) went);
    })
came_from c limit s t begun [] (call ∷ calls) before asked replied went stands = absurd replied
came_from c limit s t begun (reply ∷ replies) [] before asked replied went stands = absurd replied
came_from c limit s t begun (reply ∷ replies) (call ∷ calls) before asked (there, first, others) went stands =
    let once : StandsFor (record { code = c; limit = limit; state = answered c there reply }) (before ++ reply ∷ []) (asked ++ call ∷ []) = record {
      begun = answered c there reply;
      replied = replied_more c limit (start_state c) stands.begun there before asked reply call stands.replied (call_further c limit stands.begun s there call stands.went_on first);
      went_on = RunsOn 0 refl;
    } in
    let all = came_from c limit (answered c there reply) t begun replies calls (before ++ reply ∷ []) (asked ++ call ∷ []) others went once in
    subst (λ (c' : List SysCall). StandsFor (record { code = c; limit = limit; state = t }) (before ++ reply ∷ replies) c') (append_assoc asked (call ∷ []) calls)
    (subst (λ (r : List SysReply). StandsFor (record { code = c; limit = limit; state = t }) r ((asked ++ call ∷ []) ++ calls)) (append_assoc before (reply ∷ []) replies) all)

pub stands_further : (m : Standing) (t : State) (replies : List SysReply) (calls : List SysCall) (before : List SysReply) (asked : List SysCall) → CameTo m.code m.limit m.state replies calls t → StandsFor m before asked
    → StandsFor (record { code = m.code; limit = m.limit; state = t }) (before ++ replies) (asked ++ calls)
stands_further m t replies calls before asked came stands = came_from m.code m.limit m.state t came.begun replies calls before asked came.replied came.went_on stands
