use Rattle.std.proofs.Common.{◌∙◌, ap}
use Rattle.solo_base.specs.declared.system_call.SysCall.TheVariants as calls
use Rattle.pascal_mean.specs.Batch.{next_character, but_the_first}
use Rattle.program_task.specs.Characters.{typed_text}
use Rattle.prog_stack.specs.Answers.{Hand}
use Rattle.program_run.proofs.Taken.{takes}
use Rattle.program_run.proofs.program_run.ProgramRun.take_line.Goals as goal

pub returns : goal.returns
returns c =
    let hand : Hand = c.args.self.now.hand in
    let codes = typed_text c.args.typed.now in
    takes calls.Accept c.args.self.now c.take_line-code.result (next_character codes) c.take_line-code.new.self (record hand { typed = but_the_first codes }) c.answer.new.self
    c.requires.0 c.requires.1 (c.take_line-code.ensures.code ∙ ap next_character c.in-Ok.ensures)
    (c.take_line-code.ensures.rest ∙ ap {B = Hand} (λ t. record hand { typed = but_the_first t }) c.in-Ok.ensures)
    c.answer.ensures.answered c.answer.ensures.well
