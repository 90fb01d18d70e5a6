use Rattle.std.proofs.Common.{◌≡◌, false, Result, Ok, Err, ◌∙◌, sym, rules}
use Rattle.std.specs.Prelude.{IfOk}
use Rattle.queue_var.specs.BetweenTwo.{by_side}
use Rattle.slot_buffer.specs.Calls.{TookAll, sent_of, taken_of, was_refused}
use Rattle.slot_buffer.specs.Ends.{took_all}
use Rattle.relay_example.proofs.run_relay.Goals as goal

then-ok : {A E : Type 0} {P Q : A → Type 0} (r : Result A E) → ((x : A) → P x → Q x) → IfOk r P → IfOk r Q
then-ok (Ok x) then_so p = then_so x p
then-ok (Err e) then_so p = p

pub returns : goal.returns
returns g c =
    let ran = c.join-sender.result in
    let puts = ran.0.calls in let takes = ran.1.0.0.calls in let again = ran.1.0.1.calls in let last = ran.1.1.0.calls in
    let sent : was_refused puts ≡ false → sent_of puts ≡ c.args.numbers.now = search rules in
    let passed : was_refused again ≡ false → TookAll takes × (sent_of again ≡ taken_of takes) = search rules in
    let kept : IfOk ran.1.1.1 (λ out. TookAll last × (taken_of last ≡ out.items)) = search rules in
    then-ok ran.1.1.1 (λ out whole. (let back = took_all (by_side again last) _ _ c.meet-3.ensures whole.0 in
    let through = passed back.1 in let front = took_all (by_side puts takes) _ _ c.meet-2.ensures through.0 in
    sym whole.1 ∙ back.0 ∙ through.1 ∙ front.0 ∙ sent front.1)) kept
