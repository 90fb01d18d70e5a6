-- From pause to pause: what is left, by the programs on the stack.
use Rattle.std.proofs.Common.{◌≡◌, ℕ, zero, suc, ◌+◌, ◌<◌, ◌≤◌, List, [], ◌∷◌, map, length, Option, Some, None, ℤ, refl, sym, ◌∙◌, ap, subst, arith}
use Rattle.solo_base.specs.declared.system_call.SysCall.{SysCall}
use Rattle.solo_base.specs.declared.system_call.SysCall.TheVariants as calls
use Rattle.solo_base.specs.declared.system_call.SysReply.{SysReply}
use Rattle.solo_base.specs.Arguments.{word_name}
use Rattle.disk_layout.specs.Files.{files}
use Rattle.disk_contents.specs.declared.loading.Loaded.TheVariants.{Code}
use Rattle.stack_code.specs.CodeLists.{CodeLists}
use Rattle.stack_code.specs.Rules.{IsGood}
use Rattle.stack_machine.specs.declared.running.Pause.TheVariants as pause
use Rattle.stack_machine.specs.declared.state.Finish.{Finish}
use Rattle.stack_machine.specs.States.{State}
use Rattle.stack_machine.specs.State.{Goes, Asks, Stops}
use Rattle.stack_machine.specs.Machine.{next, next_of, start_state}
use Rattle.stack_machine.specs.Run.{Moves}
use Rattle.stack_machine.specs.Left.{left_until_end, left_to_run, left_by}
use Rattle.stack_machine.specs.Standing.{Standing, StandsWell}
use Rattle.stack_machine.proofs.Measure.{goes_less}
use Rattle.stack_machine.proofs.Reply.{goes_running}
use Rattle.stack_machine.proofs.Rounds.{round_less}
use Rattle.program_task.specs.Task.{Task, Gives, and_then}
use Rattle.program_task.specs.Program.{Own, Shared, Answer, Ended, Runner, begins_with}
use Rattle.program_task.specs.Table.{answer, runs, returned, loaded_as}
use Rattle.program_task.specs.Run.{runner, run_for, step_by}
use Rattle.program_task.proofs.Tasks.{one_after_another}
use Rattle.prog_stack.specs.declared.frame.Frame.{Frame}
use Rattle.prog_stack.specs.declared.served.Served.TheVariants as served
use Rattle.prog_stack.specs.Answers.{sharing, ComesTo, Simply, Changing}
use Rattle.prog_stack.specs.Callers.{TopWell}
use Rattle.prog_stack.specs.Programs.{AsksFor, in_state, begun, behind_reply, calling, called_back, ran}
use Rattle.prog_stack.specs.Rest.{left_of, does, goes_on, goes_back, Caller, under, AllWait, IsLeft, IsAt}
use Rattle.prog_stack.specs.Laws.{Begins, RunsItself, IsAsked, Asked, Comes, Now, Behind, ComesBack, ServedSo, end_of, ComesAfter, PoppedSo}

-- ---- What is left to run

one_more : (o : Option Finish) (n : ℕ) → left_by o n ≤ n + 1
one_more None n = omega arith
one_more (Some finish) n = omega arith

-- an instruction leaves less
pub goes_lower : (c : CodeLists) (limit : ℕ) (s t : State) → IsGood c → next c limit s ≡ Goes t → left_until_end c limit t < left_until_end c limit s
goes_lower c limit s t good is =
    let runs = goes_running c limit s t is in
    let less = goes_less c limit s t good runs is in
    let here : left_until_end c limit s ≡ left_to_run c limit s + 1 = ap (λ o. left_by o (left_to_run c limit s)) runs in
    let there = one_more t.ended (left_to_run c limit t) in
    omega (arith, less, here, there)

-- and so does a reply
reply_lowers : (f : Frame) (call : SysCall) (reply : SysReply) (own : Own) → StandsWell f.machine → AsksFor call f
    → left_of (behind_reply f reply own).machine < left_of f.machine
reply_lowers f call reply own well asks =
    round_less f.machine.code f.machine.limit f.machine.state f.machine.state call reply well.good (record { steps = 0; moves = refl; asks = asks })

-- ---- A machine that runs by itself

record RunsOn (c : CodeLists) (limit : ℕ) (t : State) (deeper : Option Runner) (own : Own) (w : Shared) (task : Task Ended) : Type 0 where
  pub fuel : ℕ
  pub enough : left_until_end c limit t < fuel
  pub is : task ≡ run_for fuel deeper c limit t own w

runs_on : (steps fuel : ℕ) (c : CodeLists) (limit : ℕ) (s t : State) (deeper : Option Runner) (own : Own) (w : Shared) → IsGood c → Moves c limit steps s t
    → left_until_end c limit s < fuel → RunsOn c limit t deeper own w (run_for fuel deeper c limit s own w)
runs_on zero fuel c limit s t deeper own w good same enough =
    record { fuel = fuel; enough = subst (λ u. left_until_end c limit u < fuel) same enough; is = ap (λ u. run_for fuel deeper c limit u own w) same }
runs_on (suc steps) zero c limit s t deeper own w good moves enough = absurd (omega (arith, enough))
runs_on (suc steps) (suc fuel) c limit s t deeper own w good (mid, first, others) enough =
    let on = runs_on steps fuel c limit mid t deeper own w good others (let less = goes_lower c limit s mid good first in omega (arith, less, enough)) in
    record { fuel = on.fuel; enough = on.enough; is = ap (λ n. step_by deeper c own w n (run_for fuel deeper c limit)) first ∙ on.is }

-- a program that has ended does nothing more
ended_stops : (m : Standing) (finish : Finish) → m.state.ended ≡ Some finish → next m.code m.limit m.state ≡ Stops finish.result finish.line finish.ticks
unfolding next
ended_stops m finish ended = ap (next_of m.code m.limit m.state) ended

gives_end : (fuel room : ℕ) (f : Frame) (w : Shared) (finish : Finish)
    → next f.machine.code f.machine.limit f.machine.state ≡ Stops finish.result finish.line finish.ticks
    → does (suc fuel) room f w ≡ Gives (end_of finish f.own w)
gives_end fuel room f w finish stops =
    ap (λ n. step_by (runner room) f.machine.code f.own w n (run_for fuel (runner room) f.machine.code f.machine.limit)) stops

-- with any number of instructions above what is left
gives_end_by : (fuel room : ℕ) (f : Frame) (w : Shared) (finish : Finish) → left_of f.machine < fuel
    → next f.machine.code f.machine.limit f.machine.state ≡ Stops finish.result finish.line finish.ticks → does fuel room f w ≡ Gives (end_of finish f.own w)
gives_end_by zero room f w finish enough stops = absurd (omega (arith, enough))
gives_end_by (suc fuel) room f w finish enough stops = gives_end fuel room f w finish stops

pub runs_itself : RunsItself
runs_itself size top below w t (pause.Call call) s at leads well =
    let on = runs_on leads.steps at.fuel top.machine.code top.machine.limit top.machine.state s (runner at.room) top.own w at.well.good leads.moves at.enough in
    record {
      room = at.room;
      places = at.places;
      fuel = on.fuel;
      enough = on.enough;
      well = well;
      callers = at.callers;
      are = at.are;
      wait = at.wait;
      is = at.is ∙ ap (under at.callers at.room) on.is;
    }
runs_itself size top below w t (pause.Finished finish) s at (leads, ended) well =
    let c = top.machine.code in
    let limit = top.machine.limit in
    let on = runs_on leads.steps at.fuel c limit top.machine.state leads.last (runner at.room) top.own w at.well.good leads.moves at.enough in
    let ends = gives_end_by on.fuel at.room (in_state top leads.last) w finish on.enough leads.stops in
    let ended_so = gives_end 0 at.room (in_state top s) w finish (ended_stops (in_state top s).machine finish ended) in
    let nothing : left_until_end c limit s ≡ 0 = ap (λ o. left_by o (left_to_run c limit s)) ended in
    record {
      room = at.room;
      places = at.places;
      fuel = 1;
      enough = omega (arith, nothing);
      well = well;
      callers = at.callers;
      are = at.are;
      wait = at.wait;
      is = at.is ∙ ap (under at.callers at.room) (on.is ∙ ends ∙ sym ended_so);
    }

-- ---- A call

-- what stands under a program lets through what it does first
under_then : {A : Type 0} (callers : List Caller) (room : ℕ) (u : Task A) (g : A → Task Ended)
    → under callers room (and_then u g) ≡ and_then u (λ a. under callers room (g a))
under_then [] room u g = refl
under_then (h ∷ more) room u g =
    let back : Ended → Task Answer = λ e. Gives (returned h.frame.own e) in
    let on : Answer → Task Ended = goes_on h.fuel (suc room) h.frame in
    ap (under more (suc room)) (ap (λ x. and_then x on) (one_after_another u g back) ∙ one_after_another u (λ a. and_then (g a) back) on)
    ∙ under_then more (suc room) u (λ a. goes_back h.fuel (suc room) h.frame (g a))

asked_by : (size : ℕ) (call : SysCall) (top : Frame) (below : List Frame) (w : Shared) (t : Task Ended) (at : IsLeft size top below w t) (fuel : ℕ)
    → at.fuel ≡ fuel
    → AsksFor call top → IsAsked size call top below w t
asked_by size call top below w t at zero same asks = absurd (let e = at.enough in omega (arith, e, same))
asked_by size call top below w t at (suc fuel) same asks =
    record {
      room = at.room;
      places = at.places;
      later = λ a. under at.callers at.room (goes_on fuel at.room top a);
      is = at.is ∙ ap (under at.callers at.room) (ap (λ n. does n at.room top w) same
          ∙ ap (λ n. step_by (runner at.room) top.machine.code top.own w n (run_for fuel (runner at.room) top.machine.code top.machine.limit)) asks)
          ∙ under_then at.callers at.room (answer (runner at.room) call top.own w) (goes_on fuel at.room top);
      goes_on = λ a well. record {
        room = at.room;
        places = at.places;
        fuel = fuel;
        enough = (let less = reply_lowers top call a.reply a.own at.well asks in let e = at.enough in omega (arith, less, e, same));
        well = well;
        callers = at.callers;
        are = at.are;
        wait = at.wait;
        is = refl;
      };
    }

pub asked : Asked
asked size call top below w t at asks = asked_by size call top below w t at at.fuel refl asks

-- ---- A RUN

pushed_by : (size : ℕ) (name : List ℤ) (left : ℕ) (code : CodeLists) (top : Frame) (below : List Frame) (w : Shared) (t : Task Ended)
    (at : IsLeft size top below w t)
    → AsksFor (calls.Run name left) top → length (top ∷ below) < size → loaded_as w.files (word_name name) ≡ Code code
    → StandsWell (begun code left top.own.outgoing).machine → (fuel room : ℕ) → at.fuel ≡ fuel → at.room ≡ room
    → IsLeft size (begun code left top.own.outgoing) (calling top ∷ below) w t
pushed_by size name left code top below w t at asks few loaded well zero room same is_room = absurd (let e = at.enough in omega (arith, e, same))
pushed_by size name left code top below w t at asks few loaded well (suc fuel) zero same is_room = absurd (let p = at.places in omega (arith, few, p, is_room))
pushed_by size name left code top below w t at asks few loaded well (suc fuel) (suc room) same is_room =
    record {
      room = room;
      places = (let p = at.places in omega (arith, p, is_room));
      fuel = left_until_end code left (start_state code) + 1;
      enough = omega arith;
      well = well;
      callers = record { frame = calling top; fuel = fuel } ∷ at.callers;
      are = ap (λ l. calling top ∷ l) at.are;
      wait = (record { call = calls.Run name left; asks = asks; enough = (let e = at.enough in omega (arith, e, same)); well = at.well }, at.wait);
      is = at.is ∙ ap (λ r. under at.callers r (does at.fuel r top w)) is_room
          ∙ ap (under at.callers (suc room)) (ap (λ n. does n (suc room) top w) same
          ∙ ap (λ n. step_by (runner (suc room)) top.machine.code top.own w n (run_for fuel (runner (suc room)) top.machine.code top.machine.limit)) asks
          ∙ ap (λ l. and_then (runs (runner (suc room)) left l top.own w) (goes_on fuel (suc room) top)) loaded);
    }

-- ---- A call that is served

reply_comes : (size : ℕ) (call : SysCall) (top : Frame) (below : List Frame) (w : Shared) (t : Task Ended) (a : IsAsked size call top below w t) (x : Answer)
    → StandsWell (behind_reply top x.reply x.own).machine → ComesTo (answer (runner a.room) call top.own w) w.files x
    → Comes size (behind_reply top x.reply x.own) below w.files x.shared t
reply_comes size call top below w t a x well (Simply is same) =
    Now (subst (IsLeft size (behind_reply top x.reply x.own) below x.shared) (sym (a.is ∙ ap (λ u. and_then u a.later) is)) (a.goes_on x well)) same
reply_comes size call top below w t a x well (Changing is) = Behind (a.later x) (a.is ∙ ap (λ u. and_then u a.later) is) (a.goes_on x well)

pub served_so : ServedSo
served_so size call top below pages (served.Device same) now after h t at asks (is, device, now_is, left) =
    subst (λ l. IsAt size l (sharing (files pages) h) t) (sym now_is) at
served_so size call top below pages (served.Reply reply) now after h t at asks (own, not_device, fits, now_is, anywhere, not_run, answers) =
    let a = asked size call top below (sharing (files pages) h) t at asks in
    let there = answers pages a.room refl a.places in
    subst (λ l. ComesBack size l reply h pages after t) (sym now_is)
    (record {
      pages = there.pages;
      told = there.told;
      comes = λ well. reply_comes size call top below (sharing (files pages) h) t a (record {
        reply = reply;
        own = own;
        shared = sharing
            (files there.pages) h;
      }) well (there.comes h);
    })
served_so size call top below pages served.Pushed now after h t at asks (p, left) =
    subst (λ l. TopWell l → IsAt size l (sharing (files pages) h) t) (sym p.is)
    (λ well. pushed_by size p.name p.left p.code top below (sharing (files pages) h) t at (asks
    ∙ ap (λ k. Asks k top.machine.state) p.run) p.few (p.loaded pages refl) well at.fuel at.room refl refl)
served_so size call top below pages served.DiskFault now after h t at asks serves = tt
served_so size call top below pages served.NoMemory now after h t at asks serves = tt

-- ---- The end

first_same : (a b : Frame) (xs ys : List Frame) → (a ∷ xs) ≡ (b ∷ ys) → a ≡ b
first_same a b xs ys e = cc

rest_same : (a b : Frame) (xs ys : List Frame) → (a ∷ xs) ≡ (b ∷ ys) → xs ≡ ys
rest_same a b xs ys e = cc

no_more : (a : Frame) (xs : List Frame) → (a ∷ xs) ≡ [] → ⊥
no_more a xs e = cc

abbrev frames_of : List Caller → List Frame
frames_of callers = map (λ (h : Caller). h.frame) callers

-- what is left behind the end of the top program
ended_left : (size : ℕ) (finish : Finish) (top : Frame) (below : List Frame) (w : Shared) (t : Task Ended) (at : IsLeft size top below w t)
    → top.machine.state.ended ≡ Some finish → t ≡ under at.callers at.room (Gives (end_of finish top.own w))
ended_left size finish top below w t at ended =
    at.is ∙ ap (under at.callers at.room) (gives_end_by at.fuel at.room top w finish at.enough (ended_stops top.machine finish ended))

alone : (callers : List Caller) (room : ℕ) (e : Ended) (t : Task Ended) → frames_of callers ≡ [] → t ≡ under callers room (Gives e) → t ≡ Gives e
alone [] room e t none is = is
alone (h ∷ more) room e t none is = absurd (no_more h.frame (frames_of more) none)

popped_by : (size : ℕ) (finish : Finish) (top caller : Frame) (below : List Frame) (w : Shared) (t : Task Ended) (room : ℕ) (callers : List Caller)
    → frames_of callers ≡ caller ∷ below → AllWait callers → room + length (top ∷ caller ∷ below) ≡ size
    → t ≡ under callers room (Gives (end_of finish top.own w))
    → StandsWell (called_back caller top.own.outgoing finish).machine → IsLeft size (called_back caller top.own.outgoing finish) below w t
popped_by size finish top caller below w t room [] are wait places is well = absurd (no_more caller below (sym are))
popped_by size finish top caller below w t room (h ∷ more) are wait places is well =
    let same : h.frame ≡ caller = first_same h.frame caller (frames_of more) below are in
    let P : Frame → Type 0 = λ f. StandsWell (called_back f top.own.outgoing finish).machine → IsLeft size (called_back f top.own.outgoing finish) below w t in
    subst P same (λ stands. record {
      room = suc room;
      places = omega (arith, places);
      fuel = h.fuel;
      enough = (let less = reply_lowers h.frame wait.0.call (ran finish) h.frame.own wait.0.well wait.0.asks in let e = wait.0.enough in omega
          (arith, less, e));
      well = stands;
      callers = more;
      are = rest_same h.frame caller (frames_of more) below are;
      wait = wait.1;
      is = is;
    }) well

pub popped_so : PoppedSo
popped_so size finish top [] args now w t at ended (given, now_is) =
    subst (λ l. ComesAfter size finish top l w t) (sym now_is) (alone at.callers at.room (end_of finish top.own w) t at.are
    (ended_left size finish top [] w t at ended))
popped_so size finish top (caller ∷ below) args now w t at ended (given, now_is) =
    subst (λ l. ComesAfter size finish top l w t) (sym now_is)
    (popped_by size finish top caller below w t at.room at.callers at.are at.wait at.places (ended_left size finish top (caller ∷ below) w t at ended))

-- ---- The beginning

pub begins : Begins
begins zero code limit args w run well is = absurd cc
begins (suc room) code limit args w run well is =
    subst (λ (r : Runner). IsLeft (suc room) (begun code limit args) [] w (r code limit (begins_with args) w)) (same_runner _ run is)
    (record {
      room = room;
      places = omega arith;
      fuel = left_until_end code limit
          (start_state code) + 1;
      enough = omega arith;
      well = well;
      callers = [];
      are = refl;
      wait = tt;
      is = refl;
    })
  where
    same_runner : (a b : Runner) → Some a ≡ Some b → a ≡ b
    same_runner a b e = cc
