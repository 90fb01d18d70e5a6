-- A program that takes a card file or a typed line.
use Rattle.std.proofs.Common.{◌≡◌, ℕ, ◌<◌, List, [], ◌∷◌, ◌∙◌, ap}
use Rattle.solo_base.specs.declared.system_call.SysCall.{SysCall}
use Rattle.solo_base.specs.declared.system_call.SysCall.TheVariants as calls
use Rattle.solo_base.specs.declared.system_call.SysReply.TheVariants as replies
use Rattle.prog_stack.specs.declared.frame.Frame.{Frame}
use Rattle.prog_stack.specs.Answers.{Hand}
use Rattle.prog_stack.specs.Callers.{TopAsks, TopAwaits, TopWell, with_reply}
use Rattle.program_run.specs.Sight.{Sight, IsUnderWay, Takes}
use Rattle.program_run.proofs.Steady.{are, is_under_way, replied}

pub awaits_card : (programs : List Frame) (code : ℕ) → TopAsks calls.Read programs → code < 256 → TopAwaits (replies.Char code) programs
awaits_card [] code asks few = absurd asks
awaits_card (top ∷ below) code asks few = (calls.Read, asks, few)

pub awaits_line : (programs : List Frame) (code : ℕ) → TopAsks calls.Accept programs → code < 256 → TopAwaits (replies.Char code) programs
awaits_line [] code asks few = absurd asks
awaits_line (top ∷ below) code asks few = (calls.Accept, asks, few)

pub takes : (call : SysCall) (p : Sight) (code code_is : ℕ) (hand hand_is : Hand) (programs : List Frame) → IsUnderWay p → TopAsks call p.programs → code ≡ code_is → hand ≡ hand_is
    → programs ≡ with_reply (replies.Char code) p.programs → TopWell programs → Takes code_is hand_is p (record { name = p.name; programs = programs; hand = hand })
takes call p code code_is hand hand_is programs way asks same same_hand is well =
    let now : Sight = record { name = p.name; programs = programs; hand = hand } in
    record {
      is = ap (λ l. record { name = p.name; programs = l; hand = hand }) (is ∙ ap (λ k. with_reply (replies.Char k) p.programs) same)
          ∙ ap (λ h. record { name = p.name; programs = with_reply (replies.Char code_is) p.programs; hand = h }) same_hand;
      well = well;
      may = is_under_way now (replied call (replies.Char code) p.programs programs (are p way) asks is well).0;
    }
