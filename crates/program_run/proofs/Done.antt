-- What a call came to, put together.
use Rattle.std.proofs.Common.{◌≡◌, ℕ, true, List, [], ◌∷◌, Option, None, refl, ◌∙◌, ap, subst}
use Rattle.solo_base.specs.declared.system_call.SysCall.{SysCall}
use Rattle.solo_base.specs.declared.system_call.SysReply.{SysReply}
use Rattle.program_task.specs.Run.{program_room}
use Rattle.prog_stack.specs.declared.frame.Frame.{Frame}
use Rattle.prog_stack.specs.declared.served.Served.{Served}
use Rattle.prog_stack.specs.declared.served.Served.TheVariants as served
use Rattle.prog_stack.specs.Answers.{is_device}
use Rattle.prog_stack.specs.Callers.{TopWell, with_reply}
use Rattle.prog_stack.specs.Serves.{ServesTop}
use Rattle.solo_work.specs.declared.paper.Paper.{Paper}
use Rattle.program_run.specs.Sight.{Sight}
use Rattle.program_run.specs.Steps.{DoesDevice, DoesCall, Replies, OfDevice}
use Rattle.program_run.specs.declared.progress.Progress.{Progress}

pub call_replied : (call : SysCall) (before : Option (List (List ℕ))) (p : Sight) (paper : Paper) (s : Served) (reply : SysReply) (programs now : List Frame) (after : Option (List (List ℕ)))
    → s ≡ served.Reply reply → ServesTop program_room call p.programs before s programs after → now ≡ with_reply reply programs → TopWell now
    → DoesCall call before p paper None (record p { programs = now }) paper after
call_replied call before p paper s reply programs now after is serves answered well =
    Replies reply programs refl (subst (λ x. ServesTop program_room call p.programs before x programs after) is serves)
    (record { name = refl; programs = answered; well = well }) refl refl

-- the call of a device is the one for which the program asked, and nothing else was done
pub record IsDevice (call same : SysCall) (before : Option (List (List ℕ))) (programs now : List Frame) (after : Option (List (List ℕ))) : Type 0 where
  pub call_is : same ≡ call
  pub device : is_device same ≡ true
  pub programs_are : now ≡ programs
  pub left : after ≡ before

pub is_device_call : (call : SysCall) (before : Option (List (List ℕ))) (programs : List Frame) (s : Served) (same : SysCall) (now : List Frame) (after : Option (List (List ℕ)))
    → s ≡ served.Device same → ServesTop program_room call programs before s now after → IsDevice call same before programs now after
is_device_call call before [] s same now after is serves = absurd serves
is_device_call call before (top ∷ below) s same now after is serves =
    let d = subst (λ x. ServesTop program_room call (top ∷ below) before x now after) is serves in
    record { call_is = d.0; device = ap is_device d.0 ∙ d.1; programs_are = d.2; left = d.3 }

pub call_device : (call same : SysCall) (before : Option (List (List ℕ))) (p : Sight) (programs : List Frame) (paper : Paper) (n : Option Progress) (now : Sight) (paper_now : Paper)
    (after : Option (List (List ℕ))) → IsDevice call same before p.programs programs after → DoesDevice same (record p { programs = programs }) paper n now paper_now
    → DoesCall call before p paper n now paper_now after
call_device call same before p programs paper n now paper_now after is does =
    OfDevice (subst (λ c. DoesDevice c p paper n now paper_now) is.call_is
    (subst (λ l. DoesDevice same (record p { programs = l }) paper n now paper_now) is.programs_are does)) is.left
