-- Less is left to run after each round, whatever programs are run above.
use Rattle.std.proofs.Common.{◌≡◌, ℕ, zero, suc, ◌+◌, ◌-◌, ◌*◌, ◌<◌, ◌≤◌, List, ◌∷◌, length, pos, ℤ, refl, sym, ap, subst, arith}
use Rattle.std.specs.Prelude.{FitsSigned}
use Rattle.std.specs.Int.{w16}
use Rattle.std.proofs.lemmas.Nat.{mul-le}
use Rattle.std.proofs.Math.Nat.{suc-mul, mul-le-mul_right}
use Rattle.solo_base.specs.declared.system_call.Arg.{Arg}
use Rattle.solo_base.specs.declared.system_call.SysCall.{SysCall}
use Rattle.solo_base.specs.declared.system_call.SysCall.TheVariants as calls
use Rattle.solo_base.specs.declared.system_call.SysReply.{SysReply}
use Rattle.solo_base.specs.declared.system_call.SysReply.TheVariants as replies
use Rattle.stack_code.specs.CodeLists.{CodeLists, IsCode}
use Rattle.stack_code.specs.Rules.{IsGood}
use Rattle.stack_machine.specs.declared.running.Pause.{Pause}
use Rattle.stack_machine.specs.declared.running.Pause.TheVariants as pause
use Rattle.stack_machine.specs.States.{State}
use Rattle.stack_machine.specs.Machine.{start_state}
use Rattle.stack_machine.specs.Run.{Moves, Pauses}
use Rattle.stack_machine.specs.Left.{instr_count, price, weight_at, left_until_end, left_to_run, left_by}
use Rattle.stack_machine.specs.Standing.{StandsWell}
use Rattle.stack_machine.proofs.Reply.{asks_running}
use Rattle.stack_machine.proofs.Rounds.{round_less}
use Rattle.stack_machine.proofs.Safety.{reply_finds_place}
use Rattle.stack_machine.proofs.Weights.{heaviest}
use Rattle.program_task.specs.Program.{Own}
use Rattle.prog_stack.specs.declared.frame.Frame.{Frame}
use Rattle.prog_stack.specs.Programs.{AsksFor, in_state, begun, behind_reply, calling}
use Rattle.prog_stack.specs.Rest.{left_of}
use Rattle.prog_stack.specs.WorkLeft.{highest_price, most_left, IsWithin, value, spread, work_left, BeginsWithin, ItselfNeverRises, ReplyLowers, RunLowers, EndLowers}
use Rattle.prog_stack.proofs.Steps.{goes_lower}

-- ---- Products

times_less : (m a b : ℕ) → a < b → a * (m + 1) < b * (m + 1)
times_less m a b less =
    let whole = suc-mul a (m + 1) in
    let more = mul-le-mul_right {m = suc a} {n = b} (m + 1) (omega (arith, less)) in
    omega (arith, whole, more)

spread_less : (m room a b : ℕ) → a < b → spread m room a < spread m room b
spread_less m zero a b less = less
spread_less m (suc room) a b less = spread_less m room (a * (m + 1)) (b * (m + 1)) (times_less m a b less)

spread_most : (m room a b : ℕ) → a ≤ b → spread m room a ≤ spread m room b
spread_most m zero a b less = less
spread_most m (suc room) a b less = spread_most m room (a * (m + 1)) (b * (m + 1)) (mul-le-mul_right (m + 1) less)

-- with v for those that wait, u for them and the one that runs above, which has l left
above_by : (m room n v l : ℕ) → room ≡ suc n → l < m → spread m n (v * (m + 1) + l + 1) < spread m room (v + 1)
above_by m zero n v l is few = absurd (omega (arith, is))
above_by m (suc room) n v l is few =
    let same : room ≡ n = omega (arith, is) in
    let whole = suc-mul v (m + 1) in
    let one : (v + 1) ≡ suc v = omega arith in
    let product : (v + 1) * (m + 1) ≡ suc v * (m + 1) = ap (λ x. x * (m + 1)) one in
    subst (λ r. spread m n (v * (m + 1) + l + 1) < spread m r ((v + 1) * (m + 1))) (sym same)
    (spread_less m n (v * (m + 1) + l + 1) ((v + 1) * (m + 1)) (omega (arith, whole, product, few)))

back_by : (m room n u v l : ℕ) → room ≡ suc n → u < v → spread m room (u + 1) < spread m n (v * (m + 1) + l + 1)
back_by m zero n u v l is less = absurd (omega (arith, is))
back_by m (suc room) n u v l is less =
    let same : room ≡ n = omega (arith, is) in
    let more = mul-le-mul_right {m = u + 1} {n = v} (m + 1) (omega (arith, less)) in
    subst (λ r. spread m r ((u + 1) * (m + 1)) < spread m n (v * (m + 1) + l + 1)) (sym same)
    (spread_less m n ((u + 1) * (m + 1)) (v * (m + 1) + l + 1) (omega (arith, more)))

-- ---- Stacks

top_less : (size limit : ℕ) (f g : Frame) (below : List Frame) → left_of f.machine < left_of g.machine
    → work_left size limit (f ∷ below) < work_left size limit (g ∷ below)
top_less size limit f g below less =
    let m = most_left limit in
    spread_less m (size - length (f ∷ below)) (value m below * (m + 1) + left_of f.machine + 1)
    (value m below * (m + 1) + left_of g.machine + 1) (omega (arith, less))

top_most : (size limit : ℕ) (f g : Frame) (below : List Frame) → left_of f.machine ≤ left_of g.machine
    → work_left size limit (f ∷ below) ≤ work_left size limit (g ∷ below)
top_most size limit f g below less =
    let m = most_left limit in
    spread_most m (size - length (f ∷ below)) (value m below * (m + 1) + left_of f.machine + 1)
    (value m below * (m + 1) + left_of g.machine + 1) (omega (arith, less))

room_above : (size count : ℕ) → count < size → size - count ≡ suc (size - suc count)
room_above size count few = omega (arith, few)

above_less : (size limit : ℕ) (f g : Frame) (below : List Frame) → length (g ∷ below) < size → left_of f.machine < most_left limit
    → work_left size limit (f ∷ g ∷ below) < work_left size limit (g ∷ below)
above_less size limit f g below few less =
    let m = most_left limit in
    above_by m (size - length (g ∷ below)) (size - length (f ∷ g ∷ below)) (value m (g ∷ below)) (left_of f.machine)
    (room_above size (length (g ∷ below)) few) less

back_less : (size limit : ℕ) (f g h : Frame) (below : List Frame) → length (f ∷ g ∷ below) ≤ size → left_of h.machine < left_of g.machine
    → work_left size limit (h ∷ below) < work_left size limit (f ∷ g ∷ below)
back_less size limit f g h below few less =
    let m = most_left limit in
    back_by m (size - length (h ∷ below)) (size - length (f ∷ g ∷ below)) (value m (h ∷ below)) (value m (g ∷ below)) (left_of f.machine)
    (room_above size (length (h ∷ below)) (omega (arith, few))) (omega (arith, less))

-- ---- Machines

-- so many moves leave no more
moves_lower : (c : CodeLists) (limit steps : ℕ) (s t : State) → IsGood c → Moves c limit steps s t → left_until_end c limit t ≤ left_until_end c limit s
moves_lower c limit zero s t good same = let e = ap (left_until_end c limit) same in omega (arith, e)
moves_lower c limit (suc steps) s t good (mid, first, others) =
    let a = goes_lower c limit s mid good first in
    let b = moves_lower c limit steps mid t good others in
    omega (arith, a, b)

-- and an end leaves nothing
pauses_lower : (top : Frame) (p : Pause) (s : State) → Pauses top.machine.code top.machine.limit top.machine.state p s
    → StandsWell (record top.machine { state = s }) → left_of (in_state top s).machine ≤ left_of top.machine
pauses_lower top (pause.Call call) s leads well =
    moves_lower top.machine.code top.machine.limit leads.steps top.machine.state s well.good leads.moves
pauses_lower top (pause.Finished finish) s (leads, ended) well =
    let nothing : left_of (in_state top s).machine ≡ 0 = ap (λ o. left_by o (left_to_run top.machine.code top.machine.limit s)) ended in
    omega (arith, nothing)

reply_less : (f : Frame) (call : SysCall) (reply : SysReply) (own : Own) → IsGood f.machine.code → AsksFor call f
    → left_of (behind_reply f reply own).machine < left_of f.machine
reply_less f call reply own good asks =
    round_less f.machine.code f.machine.limit f.machine.state f.machine.state call reply good (record { steps = 0; moves = refl; asks = asks })

-- a program that runs another leaves it no more ticks than it may take itself: it may be told that it took them
run_leaves : (f : Frame) (name : List ℤ) (left : ℕ) → StandsWell f.machine → AsksFor (calls.Run name left) f → left ≤ f.machine.limit
run_leaves f name left well asks =
    let c = f.machine.code in
    let limit = f.machine.limit in
    let s = f.machine.state in
    let call = calls.Run name left in
    let runs = asks_running c limit s call s asks in
    let zero : FitsSigned w16 (pos 0) = record { sfits = omega arith } in
    let found =
    reply_finds_place c limit s call (replies.Ran (pos 0) (pos 0) left) s well.good runs (well.safe runs) asks
    (omega arith, zero, zero) (λ e. cc) in
    let ticks = found.ticks in
    omega (arith, ticks)

-- ---- What a program has left at its beginning

price_bound : (c : CodeLists) → IsCode c → price c ≤ highest_price
unfolding highest_price
price_bound c code =
    let few = code.few_instrs in
    let product = mul-le (instr_count c) (instr_count c + 2) 8192 8194 few (omega (arith, few)) in
    omega (arith, few, product)

begun_left : (c : CodeLists) (ticks limit : ℕ) → IsCode c → ticks ≤ limit → left_until_end c ticks (start_state c) < most_left limit
unfolding most_left
begun_left c ticks limit code few =
    let bound = price_bound c code in
    let weight = heaviest c 0 in
    let fewer : ticks - 0 ≤ limit = omega (arith, few) in
    let product = mul-le (ticks - 0) (price c) limit highest_price fewer bound in
    let small : (ticks - 0) * price c + 0 + weight_at c 0 + 1 < limit * highest_price + highest_price + 2 = omega (arith, bound, weight, product) in
    small

begun_within : (code : CodeLists) (ticks limit : ℕ) (args : List Arg) → IsCode code → ticks ≤ limit → IsWithin limit (begun code ticks args)
begun_within code ticks limit args is few = record { ticks = few; left = begun_left code ticks limit is few }

-- ---- Rounds

pub begins_within : BeginsWithin
begins_within code limit args is = begun_within code limit limit args is (omega arith)

pub itself_never_rises : ItselfNeverRises
itself_never_rises size limit top below p s within pauses well =
    let lower = pauses_lower top p s pauses well in
    let left = within.0.left in
    record {
      within = (record { ticks = within.0.ticks; left = omega (arith, lower, left) }, within.1);
      most = top_most size limit (in_state top s) top below lower;
    }

pub reply_lowers_all : ReplyLowers
reply_lowers_all size limit call reply own top below within good asks =
    let less = reply_less top call reply own good asks in
    let left = within.0.left in
    record {
      within = (record { ticks = within.0.ticks; left = omega (arith, less, left) }, within.1);
      less = top_less size limit (behind_reply top reply own) top below less;
    }

pub run_lowers : RunLowers
run_lowers size limit name left code top below within well asks is few =
    let leaves = run_leaves top name left well asks in
    let most = within.0.ticks in
    let now = begun_within code left limit top.own.outgoing is (omega (arith, leaves, most)) in
    record {
      within = (now, (record { ticks = most; left = within.0.left }, within.1));
      less = above_less size limit (begun code left top.own.outgoing) (calling top) below few now.left;
    }

pub end_lowers : EndLowers
end_lowers size limit call reply own top caller below within good asks few =
    let less = reply_less caller call reply own good asks in
    let left = within.1.0.left in
    record {
      within = (record { ticks = within.1.0.ticks; left = omega (arith, less, left) }, within.1.1);
      less = back_less size limit top caller (behind_reply caller reply own) below few less;
    }
