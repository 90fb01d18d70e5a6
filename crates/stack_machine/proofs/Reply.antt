-- A reply that fits has room where the program asked, and leaves less to run.
use Rattle.std.proofs.Common.{◌≡◌, ℕ, ◌+◌, ◌-◌, ◌*◌, ◌<◌, ◌≤◌, ◌^◌, Option, Some, None, ◌++◌, drop, refl, sym, arith, subst, ◌⊎◌, inl, inr}
use Rattle.std.proofs.Math.Nat.{mul-le-mul_right}
use Rattle.solo_base.specs.declared.system_call.SysCall.{SysCall}
use Rattle.solo_base.specs.declared.system_call.SysReply.{SysReply}
use Rattle.solo_base.specs.declared.system_call.SysReply.TheVariants as replies
use Rattle.stack_code.specs.CodeLists.{CodeLists, routine_at, instr_at}
use Rattle.stack_code.specs.Rules.{IsGood, pops}
use Rattle.stack_machine.specs.States.{State}
use Rattle.stack_machine.specs.declared.state.Finish.{Finish}
use Rattle.stack_machine.specs.State.{Next, Goes, Asks, Stops, words_of}
use Rattle.solo_base.specs.Replies.{results_in, array_in, ticks_in}
use Rattle.stack_machine.specs.Machine.{next, next_of, answered, reply_at, set_array, uses_program, array_start}
use Rattle.solo_base.specs.Fits.{Fits}
use Rattle.stack_machine.specs.Room.{TakesReply, HasRoomFor}
use Rattle.stack_machine.specs.Safe.{IsSound}
use Rattle.stack_machine.specs.Standing.{Standing, StandsWell, Awaits}
use Rattle.stack_machine.specs.Left.{left_to_run, price, left_by, left_until_end}
use Rattle.stack_machine.proofs.Weights.{next_is_lighter}
use Rattle.stack_machine.proofs.Goes.{written}
use Rattle.stack_machine.proofs.Measure.{IsNoTick, asks_here}
use Rattle.stack_machine.proofs.Standing.{HasPlaceFor}
use Rattle.stack_machine.proofs.Safety.{reply_finds_place, answered_is_sound}

-- ---- A program that asks or goes on hasn't ended

-- an end is no call and no further step
abbrev IsEnd : Next → Type 0
IsEnd (Stops result line ticks) = Unit {0}
IsEnd other = ⊥

end_is_told : (c : CodeLists) (limit : ℕ) (s : State) (ended : Option Finish) → s.ended ≡ ended → (s.ended ≡ None) ⊎ IsEnd (next c limit s)
unfolding next
end_is_told c limit s None is = inl is
end_is_told c limit s (Some finish) is = inr (subst (λ o. IsEnd (next_of c limit s o)) (sym is) tt)

pub goes_running : (c : CodeLists) (limit : ℕ) (s t : State) → next c limit s ≡ Goes t → s.ended ≡ None
goes_running c limit s t goes = elim (end_is_told c limit s s.ended refl) [ inl runs ↦ runs | inr end ↦ absurd (subst IsEnd goes end) ]

pub asks_running : (c : CodeLists) (limit : ℕ) (s : State) (call : SysCall) (t : State) → next c limit s ≡ Asks call t → s.ended ≡ None
asks_running c limit s call t asks = elim (end_is_told c limit s s.ended refl) [ inl runs ↦ runs | inr end ↦ absurd (subst IsEnd asks end) ]

takes_fitting : (c : CodeLists) (limit : ℕ) (s : State) (most : ℕ) (reply : SysReply) → IsSound c limit s → (routine_at c s.current.routine).height ≤ most → s.ended ≡ None → limit < 2 ^ 32
    → HasPlaceFor c limit s (instr_at c s.current.place) reply → TakesReply c s most reply
takes_fitting c limit s most reply sound high runs few place =
    record {
      inside = (sound.safe runs).current.inside;
      pops_values = place.pops;
      room = record {
        values = place.values;
        array = place.array;
        results = omega (arith, place.results, high);
        ticks = omega (arith, place.ticks, few);
      };
    }

has_room : (c : CodeLists) (s : State) (most : ℕ) (reply : SysReply) → ((reply ≡ replies.CallError → ⊥) → TakesReply c s most reply) → HasRoomFor c s most reply
has_room c s most replies.CallError takes = tt
has_room c s most replies.Done takes = takes (λ e. cc)
has_room c s most (replies.Char byte) takes = takes (λ e. cc)
has_room c s most (replies.Opened found) takes = takes (λ e. cc)
has_room c s most (replies.Page page) takes = takes (λ e. cc)
has_room c s most (replies.Length pages) takes = takes (λ e. cc)
has_room c s most (replies.Found kind found) takes = takes (λ e. cc)
has_room c s most (replies.Argument tag number name) takes = takes (λ e. cc)
has_room c s most (replies.Ran line number ticks) takes = takes (λ e. cc)

-- the room that answer needs
pub room_for_fitting : (c : CodeLists) (limit : ℕ) (s : State) (most : ℕ) (call : SysCall) (reply : SysReply) → IsSound c limit s → (routine_at c s.current.routine).height ≤ most → limit < 2 ^ 32
    → next c limit s ≡ Asks call s → Fits call reply → HasRoomFor c s most reply
room_for_fitting c limit s most call reply sound high few asks fits =
    let runs = asks_running c limit s call s asks in
    has_room c s most reply (λ other. takes_fitting c limit s most reply sound high runs few (reply_finds_place c limit s call reply s sound.good runs (sound.safe runs) asks fits other))

-- ---- What is left to run

replied_less : (c : CodeLists) (limit : ℕ) (s : State) (reply : SysReply) → IsNoTick c s.current.place → left_to_run c limit (reply_at c s (instr_at c s.current.place) reply) < left_to_run c limit s
replied_less c limit s reply here =
    let i = instr_at c s.current.place in
    let program = uses_program i.op in
    let words = set_array (words_of program s) (array_start i.op i.b) (array_in reply) in
    let operands = results_in reply ++ drop (pops c i.op i.a) s.current.operands in
    let same = written c program s words operands in
    let less = next_is_lighter c s.current.place here.inside here.no_tick in
    let fewer : (limit - (s.ticks + ticks_in reply)) * price c ≤ (limit - s.ticks) * price c = mul-le-mul_right (price c) (omega arith) in
    rw (same.waiting, same.place) (omega (arith, fewer, less))

by_any_less : (o : Option Finish) (less more : ℕ) → less < more → left_by o less < more + 1
by_any_less (Some finish) less more below = omega arith
by_any_less None less more below = omega (arith, below)

-- a reply leaves less to run, or ends the program
replied_any : (c : CodeLists) (limit : ℕ) (s : State) (reply : SysReply) → IsNoTick c s.current.place → left_until_end c limit (answered c s reply) < left_to_run c limit s + 1
unfolding answered
replied_any c limit s replies.CallError here = omega arith
replied_any c limit s other here = by_any_less _ _ _ (replied_less c limit s other here)

pub answered_less : (c : CodeLists) (limit : ℕ) (s : State) (call : SysCall) (reply : SysReply) → IsGood c → next c limit s ≡ Asks call s → left_until_end c limit (answered c s reply) < left_to_run c limit s + 1
answered_less c limit s call reply good asks = replied_any c limit s reply (asks_here c limit s s call good (asks_running c limit s call s asks) asks).1

-- ---- A machine that awaits a reply

pub room_in : (m : Standing) (most : ℕ) (reply : SysReply) → StandsWell m → (routine_at m.code m.state.current.routine).height ≤ most → m.limit < 2 ^ 32 → Awaits m reply → HasRoomFor m.code m.state most reply
room_in m most reply well high few (call, asks, fits) = room_for_fitting m.code m.limit m.state most call reply well high few asks fits

pub stands_on : (m : Standing) (reply : SysReply) (t : State) → StandsWell m → Awaits m reply → t ≡ answered m.code m.state reply → IsSound m.code m.limit t
stands_on m reply t well (call, asks, fits) same =
    subst (IsSound m.code m.limit) (sym same) (answered_is_sound m.code m.limit m.state call reply m.state (asks_running m.code m.limit m.state call m.state asks) well asks fits)
