-- What holds of a program behind each step, over every area: it goes on to stand well, and less is left.
use Rattle.std.proofs.Common.{◌≡◌, ℕ, ◌<◌, ◌≤◌, List, [], ◌∷◌, Option, Some, None, ℤ, sym, ◌∙◌, ap, subst, arith}
use Rattle.solo_base.specs.declared.system_call.Arg.{Arg}
use Rattle.solo_base.specs.declared.system_call.SysCall.{SysCall}
use Rattle.solo_base.specs.declared.system_call.SysCall.TheVariants as calls
use Rattle.solo_base.specs.declared.system_call.SysReply.{SysReply}
use Rattle.solo_base.specs.declared.system_call.SysReply.TheVariants as replies
use Rattle.program_task.specs.Run.{program_room}
use Rattle.stack_machine.specs.declared.running.Pause.{Pause}
use Rattle.stack_machine.specs.declared.running.Pause.TheVariants as pause
use Rattle.stack_machine.specs.declared.state.Finish.{Finish}
use Rattle.prog_stack.specs.declared.frame.Frame.{Frame}
use Rattle.prog_stack.specs.declared.served.Served.TheVariants as served
use Rattle.prog_stack.specs.Callers.{IsStack, TopAsks, TopWell, TopBegins, RunsTop, with_reply}
use Rattle.prog_stack.specs.Programs.{AsksFor, ran}
use Rattle.prog_stack.specs.Serves.{ServesTop, PopsTop, top_ended}
use Rattle.prog_stack.specs.WorkLeft.{AllWithin, work_left}
use Rattle.prog_stack.proofs.Measure.{itself_never_rises, reply_lowers_all, run_lowers, end_lowers}
use Rattle.solo_procs.specs.declared.commands.Need.TheVariants as need
use Rattle.solo_task.specs.Doing.{tick_limit}
use Rattle.solo_work.specs.declared.paper.Paper.{Paper}
use Rattle.program_run.specs.Sight.{Sight, IsThere, IsUnderWay}
use Rattle.program_run.specs.Steps.{IsWritten, IsDisplayed, DoesDevice, DoesCall, Replies, Runs, OfDevice, DoesEnd, DoesBy, StepDone}
use Rattle.program_run.specs.Work.{MayGoOn}
use Rattle.program_run.specs.declared.progress.Progress.{Progress}
use Rattle.program_run.specs.declared.progress.Progress.TheVariants.{Needs, Ends}

abbrev pub left_in : List Frame → ℕ
left_in programs = work_left program_room tick_limit programs

abbrev pub Steady : Option Progress → List Frame → Sight → Type 0
Steady None before now = IsUnderWay now × (left_in now.programs < left_in before)
Steady (Some progress) before now = MayGoOn progress now

-- ---- The programs alone

-- programs that are under way
abbrev pub AreUnderWay : List Frame → Type 0
AreUnderWay programs = IsThere programs × IsStack program_room programs × AllWithin tick_limit programs

pub are : (p : Sight) → IsUnderWay p → AreUnderWay p.programs
are p is = (is.there, is.stack, is.within)

pub is_under_way : (p : Sight) → AreUnderWay p.programs → IsUnderWay p
is_under_way p (there, stack, within) = record { there = there; stack = stack; within = within }

-- the top program ran by itself
pub ran_itself : (before now : List Frame) (paused : Pause) → AreUnderWay before → RunsTop before (Some paused) now → TopWell now
    → AreUnderWay now × (left_in now ≤ left_in before)
ran_itself [] now paused (there, stack, within) runs well = absurd there
ran_itself (top ∷ below) now paused (there, stack, within) (s, pauses, is) well =
    let kept = itself_never_rises program_room tick_limit top below paused s within pauses (subst TopWell is well) in
    subst (λ l. AreUnderWay l × (left_in l ≤ left_in (top ∷ below))) (sym is) ((tt, stack, kept.within), kept.most)

pub ran_to_call : (before now : List Frame) (call : SysCall) → RunsTop before (Some (pause.Call call)) now → TopAsks call now
ran_to_call [] now call runs = absurd runs
ran_to_call (top ∷ below) now call (s, leads, is) = subst (TopAsks call) (sym is) leads.asks

pub ran_to_end : (before now : List Frame) (finish : Finish) → RunsTop before (Some (pause.Finished finish)) now → top_ended now ≡ Some finish
ran_to_end [] now finish runs = absurd runs
ran_to_end (top ∷ below) now finish (s, (leads, ended), is) = ap top_ended is ∙ ended

-- a call was answered
pub replied : (call : SysCall) (reply : SysReply) (before now : List Frame) → AreUnderWay before → TopAsks call before → now ≡ with_reply reply before → TopWell now
    → AreUnderWay now × (left_in now < left_in before)
replied call reply [] now (there, stack, within) asks is well = absurd there
replied call reply (top ∷ below) now (there, stack, within) asks is well =
    let good = (subst TopWell is well).good in
    let falls = reply_lowers_all program_room tick_limit call reply top.own top below within good asks in
    subst (λ l. AreUnderWay l × (left_in l < left_in (top ∷ below))) (sym is) ((tt, stack, falls.within), falls.less)

-- and so it was where the stack served it first
pub served_reply : (call : SysCall) (reply : SysReply) (before programs now : List Frame) (told after : Option (List (List ℕ))) → AreUnderWay before → TopWell before → TopAsks call before
    → ServesTop program_room call before told (served.Reply reply) programs after → now ≡ with_reply reply programs
    → AreUnderWay now × (left_in now < left_in before)
served_reply call reply [] programs now told after (there, stack, within) well asks serves is = absurd there
served_reply call reply (top ∷ below) programs now told after (there, stack, within) well asks (own, not_device, fits, programs_are, anywhere, not_run, answers) is =
    let falls = reply_lowers_all program_room tick_limit call reply own top below within well.good asks in
    subst (λ l. AreUnderWay l × (left_in l < left_in (top ∷ below))) (sym (is ∙ ap (with_reply reply) programs_are)) ((tt, stack, falls.within), falls.less)

run_asked : (call : SysCall) (name : List ℤ) (left : ℕ) (top : Frame) → call ≡ calls.Run name left → AsksFor call top → AsksFor (calls.Run name left) top
run_asked call name left top is asks = subst (λ c. AsksFor c top) is asks

-- a program was put on the stack
pub pushed : (call : SysCall) (before now : List Frame) (told after : Option (List (List ℕ))) → AreUnderWay before → TopWell before → TopAsks call before
    → ServesTop program_room call before told served.Pushed now after → TopBegins now → AreUnderWay now × (left_in now < left_in before)
pushed call [] now told after (there, stack, within) well asks serves begins = absurd there
pushed call (top ∷ below) now told after (there, stack, within) well asks (p, same) begins =
    let asked = run_asked call p.name p.left top p.run asks in
    let code = (subst TopBegins p.is begins).1 in
    let falls = run_lowers program_room tick_limit p.name p.left p.code top below within well asked code p.few in
    let few = p.few in
    subst (λ l. AreUnderWay l × (left_in l < left_in (top ∷ below))) (sym p.is)
    ((tt, (omega (arith, few), (record { name = p.name; left = p.left; asks = asked; enough = omega arith }, stack.1)), falls.within), falls.less)

-- the top program was taken off
pub popped : (finish : Finish) (before : List Frame) (args : List Arg) (now : List Frame) → AreUnderWay before → PopsTop finish before args now → IsThere now → TopWell now
    → AreUnderWay now × (left_in now < left_in before)
popped finish [] args now are pops there well = absurd pops
popped finish (top ∷ []) args now are (given, is) there well = absurd (subst IsThere is there)
popped finish (top ∷ caller ∷ below) args now (some, stack, within) (given, is) there well =
    let waits = stack.1.0 in
    let few = stack.0 in
    let falls = end_lowers program_room tick_limit (calls.Run waits.name waits.left) (ran finish) (record caller.own { incoming = top.own.outgoing; outgoing = [] }) top caller below
    within (subst TopWell is well).good waits.asks few in
    subst (λ l. AreUnderWay l × (left_in l < left_in (top ∷ caller ∷ below))) (sym is) ((tt, (omega (arith, few), stack.1.1), falls.within), falls.less)

-- ---- A step

steady : (before : List Frame) (now : Sight) → AreUnderWay now.programs × (left_in now.programs < left_in before) → Steady None before now
steady before now (are, less) = (is_under_way now are, less)

on_paper : (paper : Paper) (line : Option (List ℕ)) (n : Option Progress) (paper_now : Paper) (before : List Frame) (now : Sight) → IsWritten paper line n paper_now
    → AreUnderWay now.programs × (left_in now.programs < left_in before) → Steady n before now
on_paper paper None None paper_now before now is here = steady before now here
on_paper paper None (Some n) paper_now before now is here = absurd is
on_paper paper (Some line) None paper_now before now is here = steady before now here
on_paper paper (Some line) (Some (Needs (need.Page page))) paper_now before now is here = is_under_way now here.0
on_paper paper (Some line) (Some (Needs need.Cards)) paper_now before now is here = absurd is
on_paper paper (Some line) (Some (Needs need.Line)) paper_now before now is here = absurd is
on_paper paper (Some line) (Some (Needs (need.Display shown))) paper_now before now is here = absurd is
on_paper paper (Some line) (Some (Needs (need.End last answers))) paper_now before now is here = absurd is
on_paper paper (Some line) (Some (Ends printing)) paper_now before now is here = absurd is

on_display : (line : Option (List ℕ)) (n : Option Progress) (before : List Frame) (now : Sight) → IsDisplayed line n
    → AreUnderWay now.programs × (left_in now.programs < left_in before) → Steady n before now
on_display None None before now is here = steady before now here
on_display None (Some n) before now is here = absurd is
on_display (Some line) None before now is here = absurd is
on_display (Some line) (Some (Needs (need.Display shown))) before now is here = is_under_way now here.0
on_display (Some line) (Some (Needs need.Cards)) before now is here = absurd is
on_display (Some line) (Some (Needs need.Line)) before now is here = absurd is
on_display (Some line) (Some (Needs (need.Page page))) before now is here = absurd is
on_display (Some line) (Some (Needs (need.End last answers))) before now is here = absurd is
on_display (Some line) (Some (Ends printing)) before now is here = absurd is

asks_on : (call : SysCall) (before now : List Frame) → AreUnderWay before → TopAsks call before → now ≡ before → AreUnderWay now × TopAsks call now
asks_on call before now are asks is = subst (λ l. AreUnderWay l × TopAsks call l) (sym is) (are, asks)

steady_device : (call : SysCall) (p : Sight) (paper : Paper) (n : Option Progress) (now : Sight) (paper_now : Paper) → AreUnderWay p.programs → TopWell p.programs → TopAsks call p.programs
    → DoesDevice call p paper n now paper_now → Steady n p.programs now
steady_device calls.Read p paper None now paper_now are well asks (code, reads, is, same) =
    steady p.programs now (replied calls.Read (replies.Char code) p.programs now.programs are asks is.programs is.well)
steady_device calls.Read p paper (Some (Needs need.Cards)) now paper_now are well asks (reads, is, same) =
    let on = asks_on calls.Read p.programs now.programs are asks is.programs in (is_under_way now on.0, on.1)
steady_device calls.Read p paper (Some (Needs need.Line)) now paper_now are well asks does = absurd does
steady_device calls.Read p paper (Some (Needs (need.Display line))) now paper_now are well asks does = absurd does
steady_device calls.Read p paper (Some (Needs (need.Page page))) now paper_now are well asks does = absurd does
steady_device calls.Read p paper (Some (Needs (need.End last answers))) now paper_now are well asks does = absurd does
steady_device calls.Read p paper (Some (Ends printing)) now paper_now are well asks does = absurd does
steady_device calls.Accept p paper None now paper_now are well asks (code, accepts, is, same) =
    steady p.programs now (replied calls.Accept (replies.Char code) p.programs now.programs are asks is.programs is.well)
steady_device calls.Accept p paper (Some (Needs need.Line)) now paper_now are well asks (accepts, is, same) =
    let on = asks_on calls.Accept p.programs now.programs are asks is.programs in (is_under_way now on.0, on.1)
steady_device calls.Accept p paper (Some (Needs need.Cards)) now paper_now are well asks does = absurd does
steady_device calls.Accept p paper (Some (Needs (need.Display line))) now paper_now are well asks does = absurd does
steady_device calls.Accept p paper (Some (Needs (need.Page page))) now paper_now are well asks does = absurd does
steady_device calls.Accept p paper (Some (Needs (need.End last answers))) now paper_now are well asks does = absurd does
steady_device calls.Accept p paper (Some (Ends printing)) now paper_now are well asks does = absurd does
steady_device (calls.Display code) p paper n now paper_now are well asks (line, shows, is, displayed, same) =
    on_display line n p.programs now displayed (replied (calls.Display code) replies.Done p.programs now.programs are asks is.programs is.well)
steady_device (calls.Write code) p paper n now paper_now are well asks (line, writes, is, written) =
    on_paper paper line n paper_now p.programs now written (replied (calls.Write code) replies.Done p.programs now.programs are asks is.programs is.well)
steady_device (calls.WriteInt number) p paper n now paper_now are well asks (line, writes, is, written) =
    on_paper paper line n paper_now p.programs now written (replied (calls.WriteInt number) replies.Done p.programs now.programs are asks is.programs is.well)
steady_device other p paper n now paper_now are well asks does = absurd does

steady_call : (call : SysCall) (before : Option (List (List ℕ))) (p : Sight) (paper : Paper) (n : Option Progress) (now : Sight) (paper_now : Paper) (after : Option (List (List ℕ)))
    → AreUnderWay p.programs → TopWell p.programs → TopAsks call p.programs → DoesCall call before p paper n now paper_now after → Steady n p.programs now
steady_call call before p paper n now paper_now after are well asks (Replies reply programs none serves is hand same) =
    subst (λ o. Steady o p.programs now) (sym none)
    (steady p.programs now (served_reply call reply p.programs programs now.programs before after are well asks serves is.programs))
steady_call call before p paper n now paper_now after are well asks (Runs none serves begins name hand same) =
    subst (λ o. Steady o p.programs now) (sym none) (steady p.programs now (pushed call p.programs now.programs before after are well asks serves begins))
steady_call call before p paper n now paper_now after are well asks (OfDevice does same) = steady_device call p paper n now paper_now are well asks does

steady_end : (finish : Finish) (p : Sight) (n : Option Progress) (now : Sight) → AreUnderWay p.programs → DoesEnd finish p n now → Steady n p.programs now
steady_end finish p None now are (args, pops, there, well, name, hand) = steady p.programs now (popped finish p.programs args now.programs are pops there well)
steady_end finish p (Some (Ends printing)) now are does = tt
steady_end finish p (Some (Needs n)) now are does = absurd does

no_more : (n : Option Progress) (before middle : List Frame) (now : Sight) → left_in middle ≤ left_in before → Steady n middle now → Steady n before now
no_more None before middle now most (is, less) = (is, omega (arith, most, less))
no_more (Some progress) before middle now most is = is

steady_by : (paused : Pause) (before : Option (List (List ℕ))) (p : Sight) (middle : List Frame) (paper : Paper) (n : Option Progress) (now : Sight) (paper_now : Paper) (after : Option (List (List ℕ)))
    → AreUnderWay p.programs → RunsTop p.programs (Some paused) middle → TopWell middle → DoesBy paused before (record p { programs = middle }) paper n now paper_now after
    → Steady n p.programs now
steady_by (pause.Call call) before p middle paper n now paper_now after are runs well does =
    let on = ran_itself p.programs middle (pause.Call call) are runs well in
    no_more n p.programs middle now on.1
    (steady_call call before (record p { programs = middle }) paper n now paper_now after on.0 well (ran_to_call p.programs middle call runs) does)
steady_by (pause.Finished finish) before p middle paper n now paper_now after are runs well (does, same, left) =
    let on = ran_itself p.programs middle (pause.Finished finish) are runs well in
    no_more n p.programs middle now on.1 (steady_end finish (record p { programs = middle }) n now on.0 does)

pub steady_step : (before : Option (List (List ℕ))) (p : Sight) (paper : Paper) (n : Option Progress) (now : Sight) (paper_now : Paper) (after : Option (List (List ℕ)))
    → IsUnderWay p → StepDone before p paper n now paper_now after → Steady n p.programs now
steady_step before p paper n now paper_now after is step =
    steady_by step.paused before p step.programs paper n now paper_now after (are p is) step.runs step.well step.does
