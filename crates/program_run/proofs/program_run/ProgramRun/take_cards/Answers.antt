use Rattle.std.proofs.Common.{Some, ◌∙◌, ap}
use Rattle.solo_base.specs.Text.{text}
use Rattle.solo_base.specs.declared.system_call.SysCall.TheVariants as calls
use Rattle.pascal_mean.specs.Batch.{next_character, but_the_first}
use Rattle.prog_stack.specs.Answers.{Hand}
use Rattle.program_run.proofs.Taken.{takes}
use Rattle.program_run.proofs.program_run.ProgramRun.take_cards.Goals as goal

pub returns : goal.returns
returns c =
    let hand : Hand = c.args.self.now.hand in
    let cards = c.args.cards.now in
    takes calls.Read c.args.self.now c.take_cards-code.result (next_character (text cards)) c.take_cards-code.new.self
    (record hand { input = Some (but_the_first (text cards)); spoiled = c.args.spoiled }) c.answer.new.self c.requires.0 c.requires.1
    (c.take_cards-code.ensures.code ∙ ap next_character c.in-Ok.ensures.text)
    (c.take_cards-code.ensures.rest ∙ ap {B = Hand} (λ t. record hand { input = Some (but_the_first t); spoiled = c.args.spoiled }) c.in-Ok.ensures.text)
    c.answer.ensures.answered c.answer.ensures.well
