use Rattle.std.proofs.Common.{Some, None, sym, ap, ◌∙◌}
use Rattle.deck_format.specs.Jobs.{ends_in}
use Rattle.solo_procs.specs.declared.input_proc.InputAt.TheVariants as here
use Rattle.solo_procs.specs.Input.{InputStands}
use Rattle.solo_procs.proofs.InputSteps.{card-ends, card-goes_on, card-packed}
use Rattle.solo_procs.proofs.input_proc.InputProc.add.Goals as goal

pub returns-then-ends_in : goal.returns-then-ends_in
returns-then-ends_in c = λ pages hand clean kept.
    card-ends (λ to. InputStands c.close_file.new.self.place c.close_file.new.self.packer c.close_file.new.self.sound to) pages hand clean c.args.line
    (sym (ap ends_in c.control_in.ensures) ∙ sym c.ends_in.ensures ∙ c.if-ends_in.true) (c.close_file.ensures pages hand clean kept)

pub returns-in-Some : goal.returns-in-Some
returns-in-Some c = λ pages hand clean kept.
    card-goes_on (λ to. InputStands (here.PutsFull c.in-Some.page) c.push.new.self c.args.self.now.sound to) pages hand clean c.args.line
    (sym (ap ends_in c.control_in.ensures) ∙ sym c.ends_in.ensures ∙ c.if-ends_in.false)
    (card-packed c.args.self.now.place c.args.self.now.packer c.push.new.self c.args.self.now.sound c.args.line (Some c.in-Some.page)
    (sym c.in-Some.is ∙ c.push.ensures.page) c.push.ensures.hand c.if-not-self.false pages hand clean kept)

pub returns-in_default : goal.returns-in_default
returns-in_default c = λ pages hand clean kept.
    card-goes_on (λ to. InputStands c.args.self.now.place c.push.new.self c.args.self.now.sound to) pages hand clean c.args.line
    (sym (ap ends_in c.control_in.ensures) ∙ sym c.ends_in.ensures ∙ c.if-ends_in.false)
    (card-packed c.args.self.now.place c.args.self.now.packer c.push.new.self c.args.self.now.sound c.args.line None
    (sym c.in_default.is ∙ c.push.ensures.page) c.push.ensures.hand c.if-not-self.false pages hand clean kept)
