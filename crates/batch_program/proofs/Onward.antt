-- Each program under way comes to something.
use Rattle.std.proofs.Common.{◌≡◌, ℕ, zero, suc, ◌+◌, ◌<◌, Bool, inl, inr, Option, Some, None, List, [], ◌∷◌, ◌++◌, refl, sym, ◌∙◌, ap, subst, append_assoc, arith}
use Rattle.std.specs.Prelude.{All}
use Rattle.std.proofs.lemmas.List.{append-nil}
use Rattle.solo_base.specs.declared.system_call.SysCall.{SysCall}
use Rattle.solo_base.specs.declared.system_call.SysReply.{SysReply}
use Rattle.solo_base.specs.Fits.{Fits}
use Rattle.solo_base.specs.RunOutcome.{RunOutcome, Ends, Waits}
use Rattle.solo_base.specs.Text.{text}
use Rattle.stack_code.specs.CodeLists.{CodeLists}
use Rattle.stack_machine.specs.declared.running.Pause.TheVariants as pause
use Rattle.stack_machine.specs.declared.state.Finish.{Finish}
use Rattle.stack_machine.specs.States.{State}
use Rattle.stack_machine.specs.Machine.{start_state, answered}
use Rattle.stack_machine.specs.Standing.{Standing, StandsWell}
use Rattle.stack_machine.specs.History.{RunsOn as WentBy, StandsFor}
use Rattle.stack_machine.proofs.Histories.{stands_on_pause, stands_answered}
use Rattle.stack_machine.proofs.Pauses.{IsCall, IsEnd, pauses}
use Rattle.stack_machine.specs.Left.{left_until_end}
use Rattle.stack_machine.proofs.Reply.{asks_running}
use Rattle.stack_machine.proofs.Rounds.{round_less}
use Rattle.stack_machine.proofs.Safety.{answered_is_sound, begins_sound}
use Rattle.pascal_mean.specs.MoreReplies.{calls_of}
use Rattle.pascal_mean.specs.Batch.{batch_reply, batch_replies}
use Rattle.batch_program.specs.Input.{reply_so_far, AreAnswered, input_behind}
use Rattle.batch_program.specs.Outcome.{RunsOn}
use Rattle.batch_program.proofs.Inputs.{reply_is, replies_more, answered_more}
use Rattle.batch_program.specs.Laws.{SomeOutcome}
use Rattle.batch_program.proofs.Bytes.{fits_bytes, behind_is_bytes, text_is_bytes}

-- a run that made these calls first
pub record RunsFurther (c : CodeLists) (limit : ℕ) (input : List ℕ) (closed : Bool) (made : List SysCall) : Type 0 where
  pub outcome : RunOutcome
  pub runs : RunsOn c limit input closed outcome
  pub rest : List SysCall
  pub first : calls_of outcome ≡ made ++ rest

-- with one call more it made these first
one_fewer : (c : CodeLists) (limit : ℕ) (input : List ℕ) (closed : Bool) (made : List SysCall) (call : SysCall)
    → RunsFurther c limit input closed (made ++ call ∷ []) → RunsFurther c limit input closed made
one_fewer c limit input closed made call further =
    record { outcome = further.outcome; runs = further.runs; rest = call ∷ further.rest; first = further.first ∙ append_assoc made (call ∷ []) further.rest }

at_end : (m : Standing) (input : List ℕ) (closed : Bool) (made : List SysCall) → StandsFor m (batch_replies input made) made → AreAnswered input closed made
    → IsEnd m.code m.limit m.state → RunsFurther m.code m.limit input closed made
at_end m input closed made stands all end =
    let finish : Finish = record { result = end.result; line = end.line; ticks = end.ticks } in
    let over : State = record m.state { ended = Some finish } in
    let on = stands_on_pause m (pause.Finished finish) over (batch_replies input made) made (end.leads, refl) stands in
    record { outcome = Ends end.result end.line end.ticks made; runs = (all, on.0); rest = []; first = sym (append-nil made) }

at_wait : (m : Standing) (input : List ℕ) (closed : Bool) (made : List SysCall) → StandsFor m (batch_replies input made) made → AreAnswered input closed made
    → (call : IsCall m.code m.limit m.state) → reply_so_far (input_behind input made) closed call.call ≡ None → RunsFurther m.code m.limit input closed made
at_wait m input closed made stands all call none =
    let on = stands_on_pause m (pause.Call call.call) call.asked (batch_replies input made) made call.leads stands in
    record { outcome = Waits (made ++ call.call ∷ []); runs = (made, call.call, refl, all, none, on.0); rest = call.call ∷ []; first = refl }

-- a machine behind the answer to its next call
abbrev pub behind_call : (m : Standing) → State → SysReply → Standing
behind_call m asked reply = record m { state = answered m.code asked reply }

pub record StandsBehind (m : Standing) (input : List ℕ) (closed : Bool) (made : List SysCall) : Type 0 where
  pub well : StandsWell m
  pub stands : StandsFor m (batch_replies input made) made
  pub answered : AreAnswered input closed made

pub past_call : (m : Standing) (input : List ℕ) (closed : Bool) (made : List SysCall) (reply : SysReply) → All (λ code. code < 256) input
    → StandsBehind m input closed made
    → (call : IsCall m.code m.limit m.state) → reply_so_far (input_behind input made) closed call.call ≡ Some reply
    → StandsBehind (behind_call m call.asked reply) input closed (made ++ call.call ∷ [])
past_call m input closed made reply bytes so call is =
    let left = input_behind input made in
    let same : reply ≡ batch_reply left call.call = reply_is left closed call.call reply is in
    let fits : Fits call.call reply = subst (Fits call.call) (sym same) (fits_bytes left call.call (behind_is_bytes input made bytes)) in
    let on = stands_on_pause m (pause.Call call.call) call.asked (batch_replies input made) made call.leads so.stands in
    let there : Standing = record m { state = call.asked } in
    let more = stands_answered there call.call reply (batch_replies input made) made call.leads.asks on.1 in
    let replies : batch_replies input made ++ reply ∷ []
    ≡ batch_replies input (made ++ call.call ∷ []) = ap (λ r. batch_replies input made ++ r ∷ []) same ∙ sym (replies_more input made call.call) in
    record {
      well = answered_is_sound m.code m.limit call.asked call.call reply call.asked
          (asks_running m.code m.limit call.asked call.call call.asked call.leads.asks) call.sound call.leads.asks fits;
      stands = subst (λ l. StandsFor (behind_call m call.asked reply) l (made ++ call.call ∷ [])) replies more;
      answered = answered_more input closed made call.call so.answered (is ∙ ap (λ r. Some r) same);
    }

by_reply : (n : ℕ) (m : Standing) (input : List ℕ) (closed : Bool) (made : List SysCall) → left_until_end m.code m.limit m.state < suc n
    → All (λ code. code < 256) input
    → StandsBehind m input closed made
    → ((k : Standing) (more : List SysCall) → left_until_end k.code k.limit k.state < n → StandsBehind k input closed more
    → RunsFurther k.code k.limit input closed more)
    → (call : IsCall m.code m.limit m.state) (reply : Option SysReply) → reply_so_far (input_behind input made) closed call.call ≡ reply
    → RunsFurther m.code m.limit input closed made
by_reply n m input closed made less bytes so later call None is = at_wait m input closed made so.stands so.answered call is
by_reply n m input closed made less bytes so later call (Some reply) is =
    one_fewer m.code m.limit input closed made call.call
    (later (behind_call m call.asked reply) (made ++ call.call ∷ [])
    (omega (arith, less, round_less m.code m.limit m.state call.asked call.call reply so.well.good call.leads))
    (past_call m input closed made reply bytes so call is))

comes_within : (n : ℕ) (m : Standing) (input : List ℕ) (closed : Bool) (made : List SysCall) → left_until_end m.code m.limit m.state < n
    → All (λ code. code < 256) input
    → StandsBehind m input closed made → RunsFurther m.code m.limit input closed made
comes_within zero m input closed made less bytes so = absurd (omega (arith, less))
comes_within (suc n) m input closed made less bytes so =
    elim (pauses m.code m.limit m.state so.well) [
      | inl call ↦
          by_reply n m input closed made less bytes so (λ k more fewer there. comes_within n k input closed more fewer bytes there) call
          (reply_so_far (input_behind input made) closed call.call) refl
      | inr end ↦ at_end m input closed made so.stands so.answered end
    ]

pub comes_further : (m : Standing) (input : List ℕ) (closed : Bool) (made : List SysCall) → All (λ code. code < 256) input → StandsWell m
    → StandsFor m (batch_replies input made) made → AreAnswered input closed made → RunsFurther m.code m.limit input closed made
comes_further m input closed made bytes well stands all =
    comes_within (left_until_end m.code m.limit m.state + 1) m input closed made (omega arith) bytes (record { well = well; stands = stands; answered = all })

-- a program before its first card
pub some_outcome : SomeOutcome
some_outcome w code good lines =
    let m : Standing = record { code = w.code; limit = w.limit; state = start_state w.code } in
    let further = comes_further m (text w.cards) w.closed [] (text_is_bytes w.cards lines) (begins_sound w.code w.limit code good)
    (record { begun = start_state w.code; replied = refl; went_on = WentBy 0 refl }) tt in
    (further.outcome, further.runs)
