-- What comes of good code in a world is its run by the replies that the world gives.
use Rattle.std.proofs.Common.{◌≡◌, ℕ, zero, suc, ◌+◌, ◌<◌, Option, Some, None, List, [], ◌∷◌, ◌++◌, refl, sym, ◌∙◌, ap, arith}
use Rattle.std.proofs.lemmas.Option.{none-some}
use Rattle.solo_base.specs.declared.system_call.SysCall.{SysCall}
use Rattle.solo_base.specs.declared.system_call.SysReply.{SysReply}
use Rattle.stack_code.specs.CodeLists.{CodeLists}
use Rattle.stack_machine.specs.declared.running.Pause.TheVariants as pause
use Rattle.stack_machine.specs.declared.state.Finish.{Finish}
use Rattle.stack_machine.specs.States.{State}
use Rattle.stack_machine.specs.State.{Next, Goes, Asks, Stops, Lacks}
use Rattle.stack_machine.specs.Machine.{next, next_of, start_state, answered}
use Rattle.stack_machine.specs.Safe.{IsSound}
use Rattle.stack_machine.specs.Standing.{Standing}
use Rattle.stack_machine.specs.History.{WentOn, RunsOn, HasEnded, StandsFor}
use Rattle.stack_machine.specs.Left.{left_to_run, left_by, left_until_end}
use Rattle.stack_machine.specs.RunIn.{Answering, InWorld, reply_in, step_in, run_in_for, run_in, GivesReplies, IsRunIn, AreFit, AnyRunIn}
use Rattle.stack_machine.proofs.Histories.{stands_on_pause, stands_answered}
use Rattle.stack_machine.proofs.Onward.{moves_more, sets_out, goes_further, comes_nearer, asks_there, never_stuck}
use Rattle.stack_machine.proofs.Pauses.{IsCall}
use Rattle.stack_machine.proofs.Reply.{asks_running, goes_running}
use Rattle.stack_machine.proofs.Rounds.{round_less}
use Rattle.stack_machine.proofs.Safety.{begins_sound, answered_is_sound}

-- ---- One instruction more

pub lacks_running : (c : CodeLists) (limit : ℕ) (s : State) (ended : Option Finish) → s.ended ≡ ended → next c limit s ≡ Lacks → ended ≡ None
unfolding next
lacks_running c limit s None is lacks = refl
lacks_running c limit s (Some finish) is lacks =
    absurd (let stops : Stops finish.result finish.line finish.ticks ≡ Lacks = ap (next_of c limit s) (sym is) ∙ lacks in cc)

-- one instruction further it stands for the same calls
pub went_more : (c : CodeLists) (limit : ℕ) (b s t : State) → WentOn c limit b s → s.ended ≡ None → next c limit s ≡ Goes t → WentOn c limit b t
went_more c limit b s t (RunsOn steps moves) runs goes = RunsOn (suc steps) (moves_more c limit steps b s t moves goes)
went_more c limit b s t (HasEnded finish ended leads) runs goes = absurd (none-some finish (sym runs ∙ ended))

-- one reply more
gives_more : {W : Type 0} (answers : Answering W) (w v u : W) (calls : List SysCall) (replies : List SysReply) (call : SysCall) (reply : SysReply)
    → GivesReplies answers w calls replies v → answers v call ≡ Some (reply, u) → GivesReplies answers w (calls ++ call ∷ []) (replies ++ reply ∷ []) u
gives_more answers w v u [] [] call reply same is = (u, ap (λ x. answers x call) same ∙ is, refl)
gives_more answers w v u (first ∷ calls) (given ∷ replies) call reply (after, gave, others) is =
    (after, gave, gives_more answers after v u calls replies call reply others is)
gives_more answers w v u [] (given ∷ replies) call reply gives is = absurd gives
gives_more answers w v u (first ∷ calls) [] call reply gives is = absurd gives

-- ---- Where the run behind these calls comes to

abbrev machine : CodeLists → ℕ → State → Standing
machine c limit s = record { code = c; limit = limit; state = s }

-- the program stands behind these calls, to which the world gave replies
record StandsIn {W : Type 0} (answers : Answering W) (c : CodeLists) (limit : ℕ) (w : W) (s : State) (made : List SysCall) (v : W) : Type 0 where
  pub well : IsSound c limit s
  pub replies : List SysReply
  pub gave : GivesReplies answers w made replies v
  pub stands : StandsFor (machine c limit s) replies made

abbrev IsRun : {W : Type 0} → Answering W → CodeLists → ℕ → W → InWorld W → Type 0
IsRun answers c limit w came = IsRunIn answers c limit w came.outcome came.world

-- each that has less to run
abbrev LessRuns : {W : Type 0} → Answering W → CodeLists → ℕ → W → ℕ → Type 0
LessRuns {W} answers c limit w n =
    (s : State) (made : List SysCall) (v : W) → left_until_end c limit s < n → StandsIn answers c limit w s made v
    → IsRun answers c limit w (run_in_for n answers c limit s v made)

module _ {W : Type 0} (answers : Answering W) (fit : AreFit answers) (c : CodeLists) (limit : ℕ) (w : W) where
  past_reply : (s : State) (made : List SysCall) (v : W) (reply : SysReply) (after : W) → StandsIn answers c limit w s made v
      → (call : IsCall c limit s) → answers v call.call ≡ Some (reply, after)
      → StandsIn answers c limit w (answered c call.asked reply) (made ++ call.call ∷ []) after
  past_reply s made v reply after so call is =
      let on = stands_on_pause (machine c limit s) (pause.Call call.call) call.asked so.replies made call.leads so.stands in
      record {
        well = answered_is_sound c limit call.asked call.call reply call.asked
            (asks_running c limit call.asked call.call call.asked call.leads.asks) call.sound call.leads.asks (fit v call.call reply after is);
        replies = so.replies ++ reply ∷ [];
        gave = gives_more answers w v after made so.replies call.call reply so.gave is;
        stands = stands_answered (machine c limit call.asked) call.call reply so.replies made call.leads.asks on.1;
      }

  by_reply : (n : ℕ) (s : State) (made : List SysCall) (v : W) → left_until_end c limit s < suc n → StandsIn answers c limit w s made v
      → LessRuns answers c limit w n → (call : IsCall c limit s) → (reply : Option (SysReply × W)) → answers v call.call ≡ reply
      → IsRun answers c limit w (reply_in c call.asked call.call v made reply (run_in_for n answers c limit))
  by_reply n s made v less so later call None is =
      let on = stands_on_pause (machine c limit s) (pause.Call call.call) call.asked so.replies made call.leads so.stands in
      (made, call.call, so.replies, refl, so.gave, is, on.0)
  by_reply n s made v less so later call (Some (reply, after)) is =
      let fewer = round_less c limit s call.asked call.call reply so.well.good call.leads in
      later (answered c call.asked reply) (made ++ call.call ∷ []) after (omega (arith, less, fewer)) (past_reply s made v reply after so call is)

  by_step : (n : ℕ) (s : State) (made : List SysCall) (v : W) → left_until_end c limit s < suc n → StandsIn answers c limit w s made v
      → LessRuns answers c limit w n → (step : Next) → next c limit s ≡ step
      → IsRun answers c limit w (step_in answers c v made step (run_in_for n answers c limit))
  by_step n s made v less so later (Goes t) is =
      let runs = goes_running c limit s t is in
      let way = sets_out c limit s so.well runs in
      let on = goes_further c limit s s t way is in
      let nearer = comes_nearer c limit s s t way is in
      let now : left_until_end c limit s ≡ left_to_run c limit s + 1 = ap (λ o. left_by o (left_to_run c limit s)) runs in
      let then_is : left_until_end c limit t ≡ left_to_run c limit t + 1 = ap (λ o. left_by o (left_to_run c limit t)) on.runs in
      later t made v (omega (arith, less, nearer, now, then_is))
      (record {
        well = record { good = so.well.good; safe = λ none. on.here; ended = λ finish ended. absurd (none-some finish (sym on.runs ∙ ended)) };
        replies = so.replies;
        gave = so.gave;
        stands = record {
          begun = so.stands.begun;
          replied = so.stands.replied;
          went_on = went_more c limit so.stands.begun s t so.stands.went_on runs is;
        };
      })
  by_step n s made v less so later (Asks call asked) is =
      let runs = asks_running c limit s call asked is in
      let there = asks_there c limit s s asked call (sets_out c limit s so.well runs) is in
      by_reply n s made v less so later (record { call = call; asked = asked; leads = there.0; sound = there.1 }) (answers v call) refl
  by_step n s made v less so later (Stops result line ticks) is =
      let finish : Finish = record { result = result; line = line; ticks = ticks } in
      let over : State = record s { ended = Some finish } in
      let on = stands_on_pause (machine c limit s) (pause.Finished finish) over so.replies made (
        record { last = s; steps = 0; moves = refl; stops = is },
        refl,
      ) so.stands in
      (so.replies, so.gave, on.0)
  by_step n s made v less so later Lacks is =
      let runs = lacks_running c limit s s.ended refl is in
      absurd (never_stuck c limit s s (sets_out c limit s so.well runs) is)

  runs_within : (n : ℕ) → LessRuns answers c limit w n
  runs_within zero s made v less so = absurd (omega (arith, less))
  runs_within (suc n) s made v less so = by_step n s made v less so (runs_within n) (next c limit s) refl

pub any_run_in : {W : Type 0} → AnyRunIn W
unfolding run_in
any_run_in answers c limit w fit code good =
    runs_within answers fit c limit w (left_until_end c limit (start_state c) + 1) (start_state c) [] w (omega arith)
    (record {
      well = begins_sound c limit code good;
      replies = [];
      gave = refl;
      stands = record { begun = start_state c; replied = refl; went_on = RunsOn 0 refl };
    })
