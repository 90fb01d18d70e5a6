use Rattle.std.proofs.Common.{refl, false}
use Rattle.solo_devices.specs.declared.card_read.CardRead.TheVariants as read
use Rattle.solo_procs.specs.Input.{InputStands}
use Rattle.solo_procs.proofs.InputSteps.{input-reads, input-reads-as, reads-on}
use Rattle.solo_procs.proofs.input_proc.InputProcProc.card.Goals as goal

pub returns-in-Card-clause-ready : goal.returns-in-Card-clause-ready
returns-in-Card-clause-ready c =
    input-reads-as c.args.card (read.Card c.in-Card.line) c.in-Card.is c.args.self.now.place c.args.self.now.packer c.args.self.now.sound
    (λ to. InputStands c.add.new.self.place c.add.new.self.packer c.add.new.self.sound to) c.add.ensures

pub returns-in-Spoiled-clause-ready : goal.returns-in-Spoiled-clause-ready
returns-in-Spoiled-clause-ready c =
    input-reads-as c.args.card read.Spoiled c.in-Spoiled.is c.args.self.now.place c.args.self.now.packer c.args.self.now.sound
    (λ to. InputStands c.args.self.now.place c.args.self.now.packer false to) (λ pages hand clean kept. (kept.0, refl, kept.2))

pub returns-in-End-clause-ready : goal.returns-in-End-clause-ready
returns-in-End-clause-ready c =
    input-reads-as c.args.card read.End c.in-End.is c.args.self.now.place c.args.self.now.packer c.args.self.now.sound
    (λ to. InputStands c.close_file.new.self.place c.close_file.new.self.packer c.close_file.new.self.sound to) c.close_file.ensures

pub returns-in_default-clause-ready : goal.returns-in_default-clause-ready
returns-in_default-clause-ready c =
    input-reads c.args.card c.args.self.now.place c.args.self.now.packer c.args.self.now.sound
    (λ to. InputStands c.args.self.now.place c.args.self.now.packer c.args.self.now.sound to)
    (reads-on c.args.card c.args.self.now.place c.args.self.now.packer c.args.self.now.sound c.in_default.not-Card c.in_default.not-Spoiled
    c.in_default.not-End)
