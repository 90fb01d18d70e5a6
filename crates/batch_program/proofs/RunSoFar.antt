-- The run of a code, instruction by instruction: good code comes to it, and more cards go on with it.
use Rattle.std.proofs.Common.{◌≡◌, ℕ, zero, suc, ◌+◌, ◌<◌, Bool, false, Option, Some, None, List, [], ◌∷◌, ◌++◌, refl, sym, ◌∙◌, ap, subst, append_assoc, arith}
use Rattle.std.specs.Prelude.{All}
use Rattle.std.proofs.lemmas.List.{append-nil}
use Rattle.std.proofs.lemmas.Option.{none-some}
use Rattle.solo_base.specs.declared.system_call.SysCall.{SysCall}
use Rattle.solo_base.specs.declared.system_call.SysReply.{SysReply}
use Rattle.solo_base.specs.RunOutcome.{Waits}
use Rattle.solo_base.specs.Text.{text}
use Rattle.stack_code.specs.CodeLists.{CodeLists}
use Rattle.stack_machine.specs.declared.running.Pause.TheVariants as pause
use Rattle.stack_machine.specs.declared.state.Finish.{Finish}
use Rattle.stack_machine.specs.States.{State}
use Rattle.stack_machine.specs.State.{Next, Goes, Asks, Stops, Lacks}
use Rattle.stack_machine.specs.Machine.{next, next_of, start_state, answered}
use Rattle.stack_machine.specs.Standing.{Standing}
use Rattle.stack_machine.specs.History.{WentOn, RunsOn as WentBy, HasEnded}
use Rattle.stack_machine.specs.Left.{left_to_run, left_by, left_until_end}
use Rattle.stack_machine.proofs.Histories.{stands_on_pause}
use Rattle.stack_machine.proofs.Onward.{moves_more, sets_out, goes_further, comes_nearer, asks_there, never_stuck}
use Rattle.stack_machine.proofs.Pauses.{IsCall}
use Rattle.stack_machine.proofs.Reply.{asks_running, goes_running}
use Rattle.stack_machine.proofs.Rounds.{round_less}
use Rattle.stack_machine.proofs.RunIn.{lacks_running, went_more}
use Rattle.stack_machine.proofs.Safety.{begins_sound}
use Rattle.pascal_mean.specs.MoreReplies.{calls_of, GoesOn}
use Rattle.pascal_mean.specs.Batch.{batch_reply, batch_replies, input_after}
use Rattle.batch_program.specs.Input.{reply_so_far, input_behind}
use Rattle.batch_program.specs.Outcome.{RunsOn}
use Rattle.batch_program.proofs.RunFor.{Later, answer_by, go_on, run_for, run_is}
use Rattle.batch_program.specs.Laws.{ReachesItsRun, RunsGoOn}
use Rattle.batch_program.proofs.Bytes.{text_is_bytes}
use Rattle.batch_program.proofs.Inputs.{reply_is, reply_kept, behind_more, text_append}
use Rattle.batch_program.proofs.Onward.{behind_call, StandsBehind, past_call}

-- ---- With more cards

-- the calls made so far are the first of all
abbrev MadeFirst : Later → Type 0
MadeFirst later =
    (s : State) (input : List ℕ) (made : List SysCall) → (rest : List SysCall) × (calls_of (later s input made) ≡ made ++ rest)

made_by_reply : (c : CodeLists) (asked : State) (call : SysCall) (input : List ℕ) (made : List SysCall) (reply : Option SysReply) (later : Later)
    → MadeFirst later
    → (rest : List SysCall) × (calls_of (answer_by c asked call input made reply later) ≡ (made ++ call ∷ []) ++ rest)
made_by_reply c asked call input made None later first = ([], sym (append-nil (made ++ call ∷ [])))
made_by_reply c asked call input made (Some reply) later first = first (answered c asked reply) (input_after input call) (made ++ call ∷ [])

made_by_step : (c : CodeLists) (closed : Bool) (input : List ℕ) (made : List SysCall) (step : Next) (later : Later) → MadeFirst later
    → (rest : List SysCall) × (calls_of (go_on c closed input made step later) ≡ made ++ rest)
made_by_step c closed input made (Goes t) later first = first t input made
made_by_step c closed input made (Asks call asked) later first =
    let (rest, is) = made_by_reply c asked call input made (reply_so_far input closed call) later first in
    (call ∷ rest, is ∙ append_assoc made (call ∷ []) rest)
made_by_step c closed input made (Stops result line ticks) later first = ([], sym (append-nil made))
made_by_step c closed input made Lacks later first = ([], sym (append-nil made))

made_first : (n : ℕ) (c : CodeLists) (limit : ℕ) (closed : Bool) → MadeFirst (run_for n c limit closed)
made_first zero c limit closed s input made = ([], sym (append-nil made))
made_first (suc n) c limit closed s input made =
    made_by_step c closed input made (next c limit s) (run_for n c limit closed) (made_first n c limit closed)

-- the one goes on with the other wherever there is more input
abbrev WithMore : List ℕ → Later → Later → Type 0
WithMore more early late =
    (s : State) (input : List ℕ) (made : List SysCall) → GoesOn (early s input made) (late s (input ++ more) made)

on_by_wait : (c : CodeLists) (asked : State) (call : SysCall) (input : List ℕ) (made : List SysCall) (reply : Option SysReply) (late : Later)
    → MadeFirst late → GoesOn (Waits (made ++ call ∷ [])) (answer_by c asked call input made reply late)
on_by_wait c asked call input made reply late first = made_by_reply c asked call input made reply late first

on_by_reply : (c : CodeLists) (closed : Bool) (more : List ℕ) (early late : Later) (asked : State) (call : SysCall) (input : List ℕ) (made : List SysCall)
    → MadeFirst late → WithMore more early late → (reply : Option SysReply) → reply_so_far input false call ≡ reply
    → GoesOn (answer_by c asked call input made reply early)
    (answer_by c asked call (input ++ more) made (reply_so_far (input ++ more) closed call) late)
on_by_reply c closed more early late asked call input made first on None is =
    on_by_wait c asked call (input ++ more) made (reply_so_far (input ++ more) closed call) late first
on_by_reply c closed more early late asked call input made first on (Some reply) is =
    let now : reply ≡ batch_reply input call = reply_is input false call reply is in
    let kept = reply_kept input more closed call (is ∙ ap (λ r. Some r) now) in
    let there : GoesOn (early (answered c asked reply) (input_after input call) (made ++ call ∷ []))
    (late (answered c asked reply) (input_after input call ++ more) (made ++ call ∷ [])) =
    on (answered c asked reply) (input_after input call) (made ++ call ∷ []) in
    let same : late (answered c asked reply) (input_after input call ++ more) (made ++ call ∷ [])
    ≡ answer_by c asked call (input ++ more) made (reply_so_far (input ++ more) closed call) late =
    ap (λ r. late (answered c asked r) (input_after input call ++ more) (made ++ call ∷ [])) (now ∙ sym kept.reply)
    ∙ ap (λ i. late (answered c asked (batch_reply (input ++ more) call)) i (made ++ call ∷ [])) (sym kept.after)
    ∙ ap (λ o. answer_by c asked call (input ++ more) made o late) (sym kept.answered) in
    subst (GoesOn (early (answered c asked reply) (input_after input call) (made ++ call ∷ []))) same there

on_by_step : (c : CodeLists) (closed : Bool) (more : List ℕ) (early late : Later) (input : List ℕ) (made : List SysCall) → MadeFirst late
    → WithMore more early late → (step : Next) → GoesOn (go_on c false input made step early) (go_on c closed (input ++ more) made step late)
on_by_step c closed more early late input made first on (Goes t) = on t input made
on_by_step c closed more early late input made first on (Asks call asked) =
    on_by_reply c closed more early late asked call input made first on (reply_so_far input false call) refl
on_by_step c closed more early late input made first on (Stops result line ticks) = refl
on_by_step c closed more early late input made first on Lacks = ([], sym (append-nil made))

with_more : (n : ℕ) (c : CodeLists) (limit : ℕ) (closed : Bool) (more : List ℕ) → WithMore more (run_for n c limit false) (run_for n c limit closed)
with_more zero c limit closed more s input made = ([], sym (append-nil made))
with_more (suc n) c limit closed more s input made =
    on_by_step c closed more (run_for n c limit false) (run_for n c limit closed) input made (made_first n c limit closed) (with_more n c limit closed more)
    (next c limit s)

pub runs_go_further : RunsGoOn
runs_go_further c limit cards more closed =
    let n = left_until_end c limit (start_state c) + 1 in
    rw (run_is c limit cards false, run_is c limit (cards ++ more) closed)
    (subst (λ i. GoesOn (run_for n c limit false (start_state c) (text cards) []) (run_for n c limit closed (start_state c) i []))
    (sym (text_append cards more))
    (with_more n c limit closed (text more) (start_state c) (text cards) []))

-- ---- Good code comes to it

-- where the run behind these calls comes to
abbrev Reaches : ℕ → Standing → List ℕ → Bool → List SysCall → Type 0
Reaches n m input closed made = RunsOn m.code m.limit input closed (run_for n m.code m.limit closed m.state (input_behind input made) made)

-- and so does each that has less to run
abbrev LessReaches : ℕ → List ℕ → Bool → Type 0
LessReaches n input closed =
    (m : Standing) (made : List SysCall) → left_until_end m.code m.limit m.state < n → StandsBehind m input closed made → Reaches n m input closed made

reaches_by_reply : (n : ℕ) (m : Standing) (input : List ℕ) (closed : Bool) (made : List SysCall) → left_until_end m.code m.limit m.state < suc n
    → All (λ code. code < 256) input → StandsBehind m input closed made → LessReaches n input closed → (call : IsCall m.code m.limit m.state)
    → (reply : Option SysReply) → reply_so_far (input_behind input made) closed call.call ≡ reply
    → RunsOn m.code m.limit input closed (answer_by m.code call.asked call.call (input_behind input made) made reply (run_for n m.code m.limit closed))
reaches_by_reply n m input closed made less bytes so later call None is =
    let on = stands_on_pause m (pause.Call call.call) call.asked (batch_replies input made) made call.leads so.stands in
    (made, call.call, refl, so.answered, is, on.0)
reaches_by_reply n m input closed made less bytes so later call (Some reply) is =
    let there = behind_call m call.asked reply in
    subst (λ i. RunsOn m.code m.limit input closed (run_for n m.code m.limit closed (answered m.code call.asked reply) i (made ++ call.call ∷ [])))
    (behind_more input made call.call)
    (later there (made ++ call.call ∷ [])
    (let fewer = round_less m.code m.limit m.state call.asked call.call reply so.well.good call.leads in omega (arith, less, fewer))
    (past_call m input closed made reply bytes so call is))

reaches_by_step : (n : ℕ) (m : Standing) (input : List ℕ) (closed : Bool) (made : List SysCall) → left_until_end m.code m.limit m.state < suc n
    → All (λ code. code < 256) input → StandsBehind m input closed made → LessReaches n input closed
    → (step : Next) → next m.code m.limit m.state ≡ step
    → RunsOn m.code m.limit input closed (go_on m.code closed (input_behind input made) made step (run_for n m.code m.limit closed))
reaches_by_step n m input closed made less bytes so later (Goes t) is =
    let runs = goes_running m.code m.limit m.state t is in
    let way = sets_out m.code m.limit m.state so.well runs in
    let on = goes_further m.code m.limit m.state m.state t way is in
    let nearer = comes_nearer m.code m.limit m.state m.state t way is in
    let now : left_until_end m.code m.limit m.state ≡ left_to_run m.code m.limit m.state + 1 = ap (λ o. left_by o (left_to_run m.code m.limit m.state)) runs in
    let then_is : left_until_end m.code m.limit t ≡ left_to_run m.code m.limit t + 1 = ap (λ o. left_by o (left_to_run m.code m.limit t)) on.runs in
    later (record m { state = t }) made (omega (arith, less, nearer, now, then_is))
    (record {
      well = record { good = so.well.good; safe = λ none. on.here; ended = λ finish ended. absurd (none-some finish (sym on.runs ∙ ended)) };
      stands = record {
        begun = so.stands.begun;
        replied = so.stands.replied;
        went_on = went_more m.code m.limit so.stands.begun m.state t so.stands.went_on runs is;
      };
      answered = so.answered;
    })
reaches_by_step n m input closed made less bytes so later (Asks call asked) is =
    let runs = asks_running m.code m.limit m.state call asked is in
    let there = asks_there m.code m.limit m.state m.state asked call (sets_out m.code m.limit m.state so.well runs) is in
    reaches_by_reply n m input closed made less bytes so later (record { call = call; asked = asked; leads = there.0; sound = there.1 })
    (reply_so_far (input_behind input made) closed call) refl
reaches_by_step n m input closed made less bytes so later (Stops result line ticks) is =
    let finish : Finish = record { result = result; line = line; ticks = ticks } in
    let over : State = record m.state { ended = Some finish } in
    let on = stands_on_pause m (pause.Finished finish) over (batch_replies input made) made (
      record { last = m.state; steps = 0; moves = refl; stops = is },
      refl,
    ) so.stands in
    (so.answered, on.0)
reaches_by_step n m input closed made less bytes so later Lacks is =
    let runs = lacks_running m.code m.limit m.state m.state.ended refl is in
    absurd (never_stuck m.code m.limit m.state m.state (sets_out m.code m.limit m.state so.well runs) is)

reaches_within : (n : ℕ) (input : List ℕ) (closed : Bool) → All (λ code. code < 256) input → LessReaches n input closed
reaches_within zero input closed bytes m made less so = absurd (omega (arith, less))
reaches_within (suc n) input closed bytes m made less so =
    reaches_by_step n m input closed made less bytes so (reaches_within n input closed bytes) (next m.code m.limit m.state) refl

pub reaches_run : ReachesItsRun
reaches_run w code good lines =
    let m : Standing = record { code = w.code; limit = w.limit; state = start_state w.code } in
    rw (run_is w.code w.limit w.cards w.closed)
    (reaches_within (left_until_end w.code w.limit (start_state w.code) + 1) (text w.cards) w.closed (text_is_bytes w.cards lines) m [] (omega arith)
    (record {
      well = begins_sound w.code w.limit code good;
      stands = record { begun = start_state w.code; replied = refl; went_on = WentBy 0 refl };
      answered = tt;
    }))
