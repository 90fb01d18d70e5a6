-- A program that runs in a world: from call to call.
use Rattle.std.proofs.Common.{◌≡◌, ℕ, zero, suc, ◌+◌, ◌<◌, ◌≤◌, ◌^◌, Some, None, Result, Ok, Err, List, [], ◌∷◌, ◌++◌, refl, sym, ◌∙◌, ap, arith, subst}
use Rattle.std.proofs.lemmas.List.{append-nil}
use Rattle.solo_base.specs.declared.system_call.SysCall.{SysCall}
use Rattle.solo_base.specs.declared.system_call.SysReply.{SysReply}
use Rattle.stack_code.specs.CodeLists.{CodeLists, routine_at}
use Rattle.stack_code.specs.Rules.{IsGood}
use Rattle.stack_machine.specs.declared.state.Finish.{Finish}
use Rattle.stack_machine.specs.States.{State}
use Rattle.stack_machine.specs.Machine.{answered}
use Rattle.solo_base.specs.Fits.{Fits}
use Rattle.stack_machine.specs.Room.{HasRoomFor}
use Rattle.stack_machine.specs.Safe.{IsSound}
use Rattle.stack_machine.specs.Run.{Moves, LeadsToCall, LeadsToEnd, Replied}
use Rattle.stack_machine.specs.History.{RunsOn, HasEnded}
use Rattle.stack_machine.specs.World.{Gave, RanToEnd, BrokeOff}
use Rattle.stack_machine.specs.Left.{left_to_run, left_by, left_until_end}
use Rattle.stack_machine.proofs.Measure.{goes_less}
use Rattle.stack_machine.proofs.Reply.{asks_running, goes_running, answered_less, room_for_fitting}
use Rattle.stack_machine.proofs.Safety.{answered_is_sound}

-- ---- What is left to run

moves_left : (c : CodeLists) (limit steps : ℕ) (s t : State) → IsGood c → Moves c limit steps s t → left_to_run c limit t ≤ left_to_run c limit s
moves_left c limit zero s t good same = omega (arith, ap (left_to_run c limit) same)
moves_left c limit (suc steps) s t good (mid, first, others) =
    omega (arith, goes_less c limit s mid good (goes_running c limit s mid first) first, moves_left c limit steps mid t good others)

begins_running : (c : CodeLists) (limit steps : ℕ) (s t : State) → Moves c limit steps s t → t.ended ≡ None → s.ended ≡ None
begins_running c limit zero s t same runs = ap (λ (v : State). v.ended) same ∙ runs
begins_running c limit (suc steps) s t (mid, first, others) runs = goes_running c limit s mid first

left_running : (c : CodeLists) (limit : ℕ) (s : State) → s.ended ≡ None → left_until_end c limit s ≡ left_to_run c limit s + 1
left_running c limit s runs = ap (λ o. left_by o (left_to_run c limit s)) runs

-- a round, from a state through a call to its answer
pub round_less : (c : CodeLists) (limit : ℕ) (s t : State) (call : SysCall) (reply : SysReply) → IsGood c → LeadsToCall c limit s call t → left_until_end c limit (answered c t reply) < left_until_end c limit s
round_less c limit s t call reply good leads =
    let runs = asks_running c limit t call t leads.asks in
    let first = begins_running c limit leads.steps s t leads.moves runs in
    omega (arith, answered_less c limit t call reply good leads.asks, left_running c limit s first, moves_left c limit leads.steps s t good leads.moves)

-- ---- One call more

pub replied_more : (c : CodeLists) (limit : ℕ) (s t u : State) (replies : List SysReply) (calls : List SysCall) (reply : SysReply) (call : SysCall)
    → Replied c limit s replies calls t → LeadsToCall c limit t call u → Replied c limit s (replies ++ reply ∷ []) (calls ++ call ∷ []) (answered c u reply)
replied_more c limit s t u [] [] reply call same leads = (u, subst (λ v. LeadsToCall c limit v call u) (sym same) leads, refl)
replied_more c limit s t u [] (d ∷ calls) reply call replied leads = absurd replied
replied_more c limit s t u (r ∷ replies) [] reply call replied leads = absurd replied
replied_more c limit s t u (r ∷ replies) (d ∷ calls) reply call (asked, first, others) leads = (asked, first, replied_more c limit (answered c asked r) t u replies calls reply call others leads)

gave_more : {W F : Type 0} (answers : W → SysCall → Result SysReply F → W → Type 0) (w v u : W) (calls : List SysCall) (replies : List SysReply) (call : SysCall) (reply : SysReply)
    → Gave answers w calls replies v → answers v call (Ok reply) u → Fits call reply → Gave answers w (calls ++ call ∷ []) (replies ++ reply ∷ []) u
gave_more answers w v u [] [] call reply same answer fits = (u, subst (λ x. answers x call (Ok reply) u) (sym same) answer, fits, refl)
gave_more answers w v u [] (r ∷ replies) call reply gave answer fits = absurd gave
gave_more answers w v u (d ∷ calls) [] call reply gave answer fits = absurd gave
gave_more answers w v u (d ∷ calls) (r ∷ replies) call reply (mid, first, one, others) answer fits = (mid, first, one, gave_more answers mid v u calls replies call reply others answer fits)

-- the program and its world came so far
pub record IsSoFar {W F : Type 0} (answers : W → SysCall → Result SysReply F → W → Type 0) (c : CodeLists) (limit : ℕ) (s : State) (w : W) (t : State) (v : W) : Type 0 where
  pub calls : List SysCall
  pub replies : List SysReply
  pub replied : Replied c limit s replies calls t
  pub gave : Gave answers w calls replies v
  pub sound : IsSound c limit t

pub so_far_begins : {W F : Type 0} (answers : W → SysCall → Result SysReply F → W → Type 0) (c : CodeLists) (limit : ℕ) (s : State) (w : W) → IsSound c limit s → IsSoFar answers c limit s w s w
so_far_begins answers c limit s w sound = record { calls = []; replies = []; replied = refl; gave = refl; sound = sound }

pub room_in_round : (c : CodeLists) (limit : ℕ) (s t : State) (most : ℕ) (call : SysCall) (reply : SysReply) → LeadsToCall c limit s call t → IsSound c limit t → (routine_at c t.current.routine).height ≤ most
    → limit < 2 ^ 32 → Fits call reply → HasRoomFor c t most reply
room_in_round c limit s t most call reply leads sound high few fits = room_for_fitting c limit t most call reply sound high few leads.asks fits

pub so_far_more : {W F : Type 0} (answers : W → SysCall → Result SysReply F → W → Type 0) (c : CodeLists) (limit : ℕ) (s : State) (w : W) (t u x : State) (v z : W) (call : SysCall) (reply : SysReply)
    → IsSoFar answers c limit s w t v → LeadsToCall c limit t call u → IsSound c limit u → answers v call (Ok reply) z → Fits call reply → x ≡ answered c u reply → IsSoFar answers c limit s w x z
so_far_more answers c limit s w t u x v z call reply far leads sound answer fits same =
    subst (λ y. IsSoFar answers c limit s w y z) (sym same)
    (record {
      calls = far.calls ++ call ∷ [];
      replies = far.replies ++ reply ∷ [];
      replied = replied_more c limit s t u far.replies far.calls reply call far.replied leads;
      gave = gave_more answers w v z far.calls far.replies call reply far.gave answer fits;
      sound = answered_is_sound c limit u call reply u (asks_running c limit u call u leads.asks) sound leads.asks fits;
    })

pub ran_to_end : {W F : Type 0} (answers : W → SysCall → Result SysReply F → W → Type 0) (c : CodeLists) (limit : ℕ) (s : State) (w : W) (t u : State) (v : W) (finish : Finish)
    → IsSoFar answers c limit s w t v → LeadsToEnd c limit t finish.result finish.line finish.ticks → u.ended ≡ Some finish → IsSound c limit u → RanToEnd answers c limit s w finish u v
ran_to_end answers c limit s w t u v finish far leads ended sound =
    record {
      calls = far.calls;
      replies = far.replies;
      gave = far.gave;
      came = record { begun = t; replied = far.replied; went_on = HasEnded finish ended leads };
      runs = (far.replies, [], t, sym (append-nil far.replies), far.replied, leads);
      ended = ended;
      ticks = sound.ended finish ended;
    }

pub broke_off : {W F : Type 0} (answers : W → SysCall → Result SysReply F → W → Type 0) (c : CodeLists) (limit : ℕ) (s : State) (w : W) (t u : State) (v z : W) (call : SysCall) (fault : F)
    → IsSoFar answers c limit s w t v → LeadsToCall c limit t call u → answers v call (Err fault) z → BrokeOff answers c limit s w fault u z
broke_off answers c limit s w t u v z call fault far leads fails =
    record {
      calls = far.calls;
      replies = far.replies;
      call = call;
      before = v;
      gave = far.gave;
      fails = fails;
      came = record { begun = t; replied = far.replied; went_on = RunsOn leads.steps leads.moves };
      runs = (far.calls, call, t, u, refl, far.replied, leads);
      asks = leads.asks;
    }
